-- What has to stand stands, in a command whose words meet no fault.
use Rattle.std.proofs.Common.{◌≡◌, ◌⊎◌, ◌&&◌, ℕ, Bool, true, false, not, List, [], ◌∷◌, inl, inr}
use Rattle.std.proofs.Common.{refl, sym, subst, arith}
use Rattle.std.specs.Prelude.{pos}
use Rattle.std.specs.List.{list_any}
use Rattle.std.specs.Str.{bytes_eq}
use Rattle.clap.specs.Simple.{Shape}
use Rattle.clap.specs.Takes.{is_given as is_given_in}
use Rattle.clap.specs.Walk.{Row, Rule, Text, finished, nothing_held, rows_after, settled, walk}
use Rattle.clap.specs.Walk.{walk_from}
use Rattle.clap.specs.Faults.{check_fault, defaults_fault, level_fault, settle_fault, walk_fault}
use Rattle.clap.specs.Facts.{explicit_source}
use Rattle.clap.specs.Kinds.{check_kinds, or_else}
use Rattle.clap.specs.declared.builder.value_parser.ValueParser.{ValueParser}
use Rattle.clap.specs.declared.builder.value_parser.ValueParser.TheVariants as parser
use Rattle.clap.proofs.ValueTestLemmas.{accepts-Accepts}
use Rattle.cvr_words.specs.Rows.{HasNumber, HasWord}
use Rattle.cvr_words.proofs.Given.{Fine, HasNoDefault, keeps_other, keeps_self, none_added}
use Rattle.cvr_words.proofs.Given.{read_given, single, word_given}
use Rattle.cvr_words.proofs.Faultless.{no_first, no_second, not_given}
use Rattle.cvr_words.proofs.Lists.{Each, none_of}
use Rattle.cvr_words.proofs.Walks.{Keeps, settle_keeps, walk_keeps}

-- the settings that a level of a command without subcommands has here
pub record IsPlainLevel (s : Shape) : Type 0 where
  pub again : s.args_override_self ≡ false
  pub else_help : s.arg_required_else_help ≡ false
  pub subcommand : s.subcommand_required ≡ false
  pub negates : s.subcommand_negates_reqs ≡ false
  pub defaults : Each HasNoDefault s.rules

-- the words of a level meet no fault
abbrev pub IsSound : Shape → List Text → Type 0
IsSound s words = level_fault s [] nothing_held words false [] ≡ []

-- each kept keeps the rows of an argument that has to stand once
keeps_one : (id : Text) (q : ValueParser) (i : ℕ) (a : Rule)
    → (a ≡ single id q i) ⊎ (bytes_eq a.id id ≡ false) → Keeps false (Each (Fine id q)) a
keeps_one id q i a (inl is) =
    subst (λ (x : Rule). Keeps false (Each (Fine id q)) x) (sym is) (keeps_self id q i)
keeps_one id q i a (inr apart) = keeps_other id q false a apart

-- an argument that has to stand once, among the others of its command
abbrev pub IsOneOf : Text → ValueParser → ℕ → Rule → Type 0
IsOneOf id q i a = (a ≡ single id q i) ⊎ (bytes_eq a.id id ≡ false)

each_keeps : (id : Text) (q : ValueParser) (i : ℕ) (c : List Rule) → Each (IsOneOf id q i) c
    → Each (Keeps false (Each (Fine id q))) c
each_keeps id q i [] all = tt
each_keeps id q i (a ∷ c) all = (keeps_one id q i a all.0, each_keeps id q i c all.1)

rows_fine : (s : Shape) (id : Text) (q : ValueParser) → IsPlainLevel s
    → Each (Keeps s.args_override_self (Each (Fine id q))) s.rules
    → (words : List Text) → IsSound s words → Each (Fine id q) (rows_after s.rules [] words)
rows_fine s id q plain keeps words sound =
    let end = (walk s.rules [] nothing_held words).held in
    let walked : Each (Fine id q) end.rows = walk_keeps s (Each (Fine id q)) keeps []
    (walk_from nothing_held) words (no_first (walk_fault s [] (walk_from nothing_held) words) _
    sound) tt in
    let rest : or_else (settle_fault s.rules s.args_override_self end)
    (or_else (defaults_fault (settled s.rules end).rows s.rules)
    (check_fault s (finished s.rules end) false)) ≡ [] =
    no_second (walk_fault s [] (walk_from nothing_held) words) _ sound in
    let kept : Each (Fine id q) (settled s.rules end).rows =
    settle_keeps s.rules s.args_override_self (Each (Fine id q)) keeps end
    (no_first (settle_fault s.rules s.args_override_self end) _ rest) walked in
    subst (λ (l : List Row). Each (Fine id q) l)
    (sym (none_added s.rules (settled s.rules end).rows plain.defaults)) kept

-- every argument that has to stand is given
abbrev pub IsStanding : List Row → Rule → Type 0
IsStanding rows a = (a.required && not (is_given_in a.id rows)) ≡ false

checked : (a b c other wanted : Bool) → a ≡ false → b ≡ false → c ≡ false
    → check_kinds (not false && (a && other)) (not false && b) (not (c && false) && wanted) ≡ []
    → wanted ≡ false
checked a b c other wanted a_off b_off c_off h = grind (arith, not_given)

pub standing : (s : Shape) → IsPlainLevel s → (words : List Text) → IsSound s words
    → Each (IsStanding (rows_after s.rules [] words)) s.rules
standing s plain words sound =
    let end = (walk s.rules [] nothing_held words).held in
    let rows : List Row = finished s.rules end in
    let check = check_fault s rows false in
    let defaults = defaults_fault (settled s.rules end).rows s.rules in
    let rest : or_else (settle_fault s.rules s.args_override_self end) (or_else defaults check)
    ≡ [] =
    no_second (walk_fault s [] (walk_from nothing_held) words) _ sound in
    let fine : check ≡ [] = no_second defaults check
    (no_second (settle_fault s.rules s.args_override_self end) (or_else defaults check) rest) in
    none_of (λ a. a.required && not (is_given_in a.id rows)) s.rules
    (checked s.arg_required_else_help s.subcommand_required s.subcommand_negates_reqs
    (not (list_any (λ r. explicit_source r.source) rows))
    (list_any (λ a. a.required && not (is_given_in a.id rows)) s.rules) plain.else_help
    plain.subcommand plain.negates fine)

pub stands : (b : Bool) → (true && not b) ≡ false → b ≡ true
stands true h = refl
stands false h = cc

-- the argument that has to stand once has its word
pub has_word : (s : Shape) (id : Text) (i : ℕ) → IsPlainLevel s
    → Each (IsOneOf id parser.String i) s.rules → (words : List Text) → IsSound s words
    → (is_given_in id (rows_after s.rules [] words) ≡ true)
    → HasWord id (rows_after s.rules [] words)
has_word s id i plain one words sound given =
    word_given id parser.String (rows_after s.rules [] words)
    (rows_fine s id parser.String plain
    (subst (λ (again : Bool). Each (Keeps again (Each (Fine id parser.String))) s.rules)
    (sym plain.again) (each_keeps id parser.String i s.rules one)) words sound) given

-- and its number
pub has_number : (s : Shape) (id : Text) (low high i : ℕ) → IsPlainLevel s
    → Each (IsOneOf id (parser.Signed (pos low) (pos high)) i) s.rules → (words : List Text)
    → IsSound s words
    → (is_given_in id (rows_after s.rules [] words) ≡ true)
    → HasNumber id low high (rows_after s.rules [] words)
has_number s id low high i plain one words sound given =
    let q : ValueParser = parser.Signed (pos low) (pos high) in
    let read = read_given id q (rows_after s.rules [] words)
    (rows_fine s id q plain (subst (λ (again : Bool). Each (Keeps again (Each (Fine id q))) s.rules)
    (sym plain.again) (each_keeps id q i s.rules one)) words sound) given in
    (read.0, read.1, accepts-Accepts false q read.0 read.2)
