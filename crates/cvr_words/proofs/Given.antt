-- An argument that has to stand once: after a walk with no fault its row has one word, which
-- passed.
use Rattle.std.proofs.Common.{◌≡◌, ◌∙◌, ◌++◌, ◌+◌, ◌==◌, ◌&&◌, ◌||◌, ℕ, Bool, true, false, not}
use Rattle.std.proofs.Common.{List, [], ◌∷◌, Option, Some, None, cond, length, min, suc, refl, sym}
use Rattle.std.proofs.Common.{ap, subst, arith, append-nil}
use Rattle.std.specs.Prelude.{find}
use Rattle.std.specs.Prelude.{slice_get, option_and_then}
use Rattle.std.specs.List.{fold}
use Rattle.std.specs.Option.{option_map, option_map_or}
use Rattle.std.specs.Str.{bytes_eq}
use Rattle.std.proofs.lemmas.Bool.{eqb-true}
use Rattle.std.proofs.lemmas.Slice.Eq.{bytes_eq-Decides}
use Rattle.clap.specs.Facts.{explicit_source}
use Rattle.clap.specs.Matches.{count_text}
use Rattle.clap.specs.ValueTests.{accepts}
use Rattle.clap.specs.Values.{read_as, reading_of, refused_kind}
use Rattle.clap.specs.Walk.{Row, Rule, Text, action_of, at_row, count_of, default_rows, first_of}
use Rattle.clap.specs.Walk.{has_row, more_values, new_count, one_of, reading_by, used_as}
use Rattle.clap.specs.Walk.{values_or_missing, with_default, with_values, without}
use Rattle.clap.specs.Takes.{is_given as is_given_in}
use Rattle.clap.specs.Faults.{repeat_fault, set_fault}
use Rattle.clap.specs.Kinds.{range_kinds, value_kinds, values_kinds}
use Rattle.clap.specs.declared.builder.action.ArgAction.{ArgAction}
use Rattle.clap.specs.declared.builder.action.ArgAction.TheVariants.{Set, Append, SetTrue, SetFalse}
use Rattle.clap.specs.declared.builder.action.ArgAction.TheVariants.{Count, Help, HelpShort}
use Rattle.clap.specs.declared.builder.action.ArgAction.TheVariants.{HelpLong, Version}
use Rattle.clap.specs.declared.builder.value_parser.Reading.{Reading}
use Rattle.clap.specs.declared.builder.value_parser.ValueParser.{ValueParser}
use Rattle.clap.specs.declared.error.ErrorKind.TheVariants.{ArgumentConflict, InvalidValue}
use Rattle.clap.specs.declared.error.ErrorKind.TheVariants.{WrongNumberOfValues}
use Rattle.clap.specs.declared.parser.matches.ValueSource.{ValueSource}
use Rattle.clap.specs.declared.parser.matches.ValueSource.TheVariants.{CommandLine}
use Rattle.cvr_words.proofs.Faultless.{is_given, no_first, no_second}
use Rattle.cvr_words.proofs.Lists.{Each, each_append}
use Rattle.cvr_words.proofs.Walks.{Keeps}

-- the built rule of a word that has to stand once
abbrev pub single : Text → ValueParser → ℕ → Rule
single id parser index = record {
  id = id;
  long = None;
  aliases = [];
  short = None;
  short_aliases = [];
  index = Some index;
  action = Some Set;
  range = Some (record { start_inclusive = 1; end_inclusive = 1 });
  value_names = 0;
  defaults = [];
  missing = [];
  trailing_var_arg = false;
  parser = Some parser;
  ignore_case = false;
  required = true;
  is_simple = true;
  is_free = true;
}

-- one word, which passed the parser
abbrev pub HasOne : ValueParser → Row → Type 0
HasOne parser r = (word : Text) × (r.values ≡ word ∷ []) × (accepts false parser word ≡ true)
    × (r.reading ≡ reading_of parser)

abbrev pub Fine : Text → ValueParser → Row → Type 0
Fine id parser r = bytes_eq r.id id ≡ true → HasOne parser r

same_id : (a b : Text) → bytes_eq a b ≡ true → a ≡ b
same_id a b h = (bytes_eq-Decides a b).0 h

-- a row of another id doesn't concern this one
other_row : (id other key : Text) → bytes_eq other id ≡ false → bytes_eq key other ≡ true
    → bytes_eq key id ≡ true → ⊥
other_row id other key apart is h =
    let wrong : bytes_eq other id ≡ true =
    subst (λ (t : Text). bytes_eq t id ≡ true) (same_id key other is) h in
    let bad : true ≡ false = sym wrong ∙ apart in cc

-- ---- a use of another argument

abbrev new_row : Text → Reading → ValueSource → List Text → Row
new_row id how source values = record {
  id = id;
  values = values;
  count = None;
  source = Some source;
  reading = how;
}

abbrev counted_row : Text → Reading → ℕ → Row
counted_row id how n = record {
  id = id;
  values = count_text n ∷ [];
  count = Some n;
  source = Some CommandLine;
  reading = how;
}

at_other : (id : Text) (parser : ValueParser) (other : Text) (change : Row → List Row)
    (missing rows : List Row)
    → ((r : Row) → bytes_eq r.id other ≡ true → Each (Fine id parser) (change r))
    → Each (Fine id parser) missing → Each (Fine id parser) rows
    → Each (Fine id parser) (at_row other change missing rows)
at_other id parser other change missing [] changed added fine = added
at_other id parser other change missing (r ∷ rs) changed added fine =
    go (at_other id parser other change missing rs changed added fine.1) (bytes_eq r.id other) refl
  where
    go : Each (Fine id parser) (at_row other change missing rs) → (b : Bool)
        → bytes_eq r.id other ≡ b → Each (Fine id parser)
        (cond b (change r ++ rs) (r ∷ at_row other change missing rs))
    go later true is = each_append (Fine id parser) (change r) rs (changed r is) fine.1
    go later false is = (fine.0, later)

without_other : (id : Text) (parser : ValueParser) (other : Text) (rows : List Row)
    → Each (Fine id parser) rows → Each (Fine id parser) (without other rows)
without_other id parser other rows fine =
    at_other id parser other (λ r. []) [] rows (λ r is. tt) tt fine

new_other : (id : Text) (parser : ValueParser) (other : Text) → bytes_eq other id ≡ false
    → bytes_eq other id ≡ true → ⊥
new_other id parser other apart h = let bad : true ≡ false = sym h ∙ apart in cc

values_other : (id : Text) (parser : ValueParser) (other : Text) (how : Reading)
    (source : ValueSource) (values : List Text) (rows : List Row)
    → bytes_eq other id ≡ false → Each (Fine id parser) rows
    → Each (Fine id parser) (with_values other how source values rows)
values_other id parser other how source values rows apart fine =
    at_other id parser other (more_values source values) (new_row other how source values ∷ []) rows
    (λ r is. ((λ h. absurd (other_row id other r.id apart is h)), tt))
    ((λ h. absurd (new_other id parser other apart h)), tt) fine

count_other : (id : Text) (parser : ValueParser) (other : Text) (how : Reading) (values : List Text)
    (rows : List Row)
    → bytes_eq other id ≡ false → Each (Fine id parser) rows
    → Each (Fine id parser) (used_as Count other how values rows)
count_other id parser other how [] rows apart fine =
    let n : ℕ = min (count_of other rows + 1) 255 in
    at_other id parser other (new_count CommandLine n) (counted_row other how n ∷ [])
    (without other rows)
    (λ r is. ((λ h. absurd (other_row id other r.id apart is h)), tt))
    ((λ h. absurd (new_other id parser other apart h)), tt)
    (without_other id parser other rows fine)
count_other id parser other how (v ∷ vs) rows apart fine =
    values_other id parser other how CommandLine (v ∷ vs) (without other rows) apart
    (without_other id parser other rows fine)

used_other : (id : Text) (parser : ValueParser) (x : ArgAction) (other : Text) (how : Reading)
    (values : List Text) (rows : List Row)
    → bytes_eq other id ≡ false → Each (Fine id parser) rows
    → Each (Fine id parser) (used_as x other how values rows)
used_other id parser Set other how values rows apart fine = values_other id parser other how
    CommandLine values (without other rows) apart (without_other id parser other rows fine)
used_other id parser SetTrue other how values rows apart fine = values_other id parser other how
    CommandLine values (without other rows) apart (without_other id parser other rows fine)
used_other id parser SetFalse other how values rows apart fine = values_other id parser other how
    CommandLine values (without other rows) apart (without_other id parser other rows fine)
used_other id parser Append other how values rows apart fine =
    values_other id parser other how CommandLine values rows apart fine
used_other id parser Count other how values rows apart fine =
    count_other id parser other how values rows apart fine
used_other id parser Help other how values rows apart fine = fine
used_other id parser HelpShort other how values rows apart fine = fine
used_other id parser HelpLong other how values rows apart fine = fine
used_other id parser Version other how values rows apart fine = fine

pub keeps_other : (id : Text) (parser : ValueParser) (again : Bool) (a : Rule)
    → bytes_eq a.id id ≡ false → Keeps again (Each (Fine id parser)) a
keeps_other id parser again a apart values rows kept fine =
    used_other id parser (action_of a) a.id (reading_by a) (values_or_missing a values) rows apart
    fine

-- ---- a use of this one

at_none : (id : Text) (change : Row → List Row) (missing rows : List Row) → has_row id rows ≡ false
    → at_row id change missing rows ≡ rows ++ missing
at_none id change missing [] none = refl
at_none id change missing (r ∷ rs) none = go (at_none id change missing rs) (bytes_eq r.id id) none
  where
    go : (has_row id rs ≡ false → at_row id change missing rs ≡ rs ++ missing) → (b : Bool)
        → (b || has_row id rs) ≡ false
        → cond b (change r ++ rs) (r ∷ at_row id change missing rs) ≡ r ∷ (rs ++ missing)
    go later true h = cc
    go later false h = ap (λ l. r ∷ l) (later h)

no_repeat : (b : Bool) → cond (b && not false) (ArgumentConflict ∷ []) [] ≡ [] → b ≡ false
no_repeat true h = cc
no_repeat false h = refl

set_self : (id : Text) (parser : ValueParser) (word : Text) (rows : List Row)
    → has_row id rows ≡ false → accepts false parser word ≡ true
    → Each (Fine id parser) rows → Each (Fine id parser)
    (with_values id (reading_of parser) CommandLine (word ∷ []) (without id rows))
set_self id parser word rows none passed fine =
    let row : Row = new_row id (reading_of parser) CommandLine (word ∷ []) in
    let same : without id rows ≡ rows = at_none id (λ r. []) [] rows none ∙ append-nil rows in
    let all : with_values id (reading_of parser) CommandLine (word ∷ []) rows ≡ rows ++ row ∷ [] =
    at_none id (more_values CommandLine (word ∷ [])) (row ∷ []) rows none in
    subst (λ (l : List Row). Each (Fine id parser)
    (with_values id (reading_of parser) CommandLine (word ∷ []) l)) (sym same)
    (subst (λ (l : List Row). Each (Fine id parser) l) (sym all)
    (each_append (Fine id parser) rows (row ∷ []) fine ((λ h. (word, refl, passed, refl)), tt)))

one_value : (n : ℕ) → range_kinds 1 1 n ≡ [] → n ≡ 1
one_value n h = go (n == 0) (1 == n) refl h
  where
    go : (a b : Bool) → (1 == n) ≡ b → cond a (InvalidValue ∷ [])
        (cond b [] (WrongNumberOfValues ∷ [])) ≡ [] → n ≡ 1
    go true b is g = cc
    go false true is g = sym (eqb-true 1 n is)
    go false false is g = cc

pub keeps_self : (id : Text) (parser : ValueParser) (index : ℕ)
    → Keeps false (Each (Fine id parser)) (single id parser index)
keeps_self id parser index [] rows kept fine =
    let bad : 0 ≡ 1 = one_value 0 (no_first (range_kinds 1 1 0)
    (set_fault false (single id parser index) [] rows) kept) in
    absurd (omega (arith, bad))
keeps_self id parser index (word ∷ []) rows kept fine =
    let set : set_fault false (single id parser index) (word ∷ []) rows ≡ [] = kept in
    let none = no_repeat (has_row id rows)
    (no_first (repeat_fault false id rows) (values_kinds false parser (word ∷ [])) set) in
    let passed = is_given (accepts false parser word) (refused_kind parser) []
    (no_first (value_kinds false parser word) []
    (no_second (repeat_fault false id rows) (values_kinds false parser (word ∷ [])) set)) in
    set_self id parser word rows none passed fine
keeps_self id parser index (v ∷ w ∷ ws) rows kept fine =
    let bad : suc (suc (length ws)) ≡ 1 =
    one_value (length (v ∷ w ∷ ws)) (no_first (range_kinds 1 1 (length (v ∷ w ∷ ws)))
    (set_fault false (single id parser index) (v ∷ w ∷ ws) rows) kept) in
    absurd (omega (arith, bad))

-- ---- the rows at the end

abbrev pub HasNoDefault : Rule → Type 0
HasNoDefault a = a.defaults ≡ []

default_kept : (b : Bool) (id : Text) (how : Reading) (defaults : List Text) (rows : List Row)
    → defaults ≡ [] → cond b rows (default_rows id how defaults rows) ≡ rows
default_kept b id how defaults rows none = grind arith

pub none_added : (c : List Rule) (rows : List Row) → Each HasNoDefault c
    → fold with_default rows c ≡ rows
none_added [] rows none = refl
none_added (a ∷ c) rows none =
    let same : with_default rows a ≡ rows =
    default_kept (has_row a.id rows) a.id (reading_by a) a.defaults rows none.0 in
    ap (λ (l : List Row). fold with_default l c) same ∙ none_added c rows none.1

-- a row that is given is fine
pub given_row : (id : Text) (parser : ValueParser) (rows : List Row) → Each (Fine id parser) rows
    → is_given_in id rows ≡ true
    → (r : Row) × (find (λ r. bytes_eq r.id id) rows ≡ Some r) × HasOne parser r
given_row id parser [] fine h = cc
given_row id parser (r ∷ rs) fine h = go (given_row id parser rs fine.1) (bytes_eq r.id id) refl h
  where
    go : (is_given_in id rs ≡ true → (x : Row) × (find (λ r. bytes_eq r.id id) rs ≡ Some x)
        × HasOne parser x) → (b : Bool) → bytes_eq r.id id ≡ b
        → option_map_or (λ r. explicit_source r.source)
        (cond b (Some r) (find (λ r. bytes_eq r.id id) rs)) false ≡ true
        → (x : Row) × (cond b (Some r) (find (λ r. bytes_eq r.id id) rs) ≡ Some x) × HasOne parser x
    go later true is g = (r, refl, fine.0 is)
    go later false is g = later g

abbrev pub first_word : Row → Option Text
first_word r = slice_get r.values 0

abbrev pub first_read : Row → Option Text
first_read r = option_map (read_as r.reading) (slice_get r.values 0)

pub word_given : (id : Text) (parser : ValueParser) (rows : List Row) → Each (Fine id parser) rows
    → is_given_in id rows ≡ true
    → (word : Text) × (first_of id rows ≡ Some word)
word_given id parser rows fine given =
    let row = given_row id parser rows fine given in (
      row.2.0,
      ap (λ (o : Option Row). option_and_then first_word o) row.1
          ∙ ap (λ (l : List Text). slice_get l 0) row.2.1,
    )

pub read_given : (id : Text) (parser : ValueParser) (rows : List Row) → Each (Fine id parser) rows
    → is_given_in id rows ≡ true
    → (word : Text) × (one_of id rows ≡ Some (read_as (reading_of parser) word))
    × (accepts false parser word ≡ true)
read_given id parser rows fine given =
    let row = given_row id parser rows fine given in (
      row.2.0,
      ap (λ (o : Option Row). option_and_then first_read o) row.1
          ∙ (ap (λ (l : List Text). option_map (read_as row.0.reading) (slice_get l 0)) row.2.1
          ∙ ap (λ (how : Reading). Some (read_as how row.2.0)) row.2.3),
      row.2.2,
    )
