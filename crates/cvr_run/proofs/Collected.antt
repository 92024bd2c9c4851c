-- Files that a run takes, one after the other.
use Rattle.std.proofs.Common.{◌≡◌, ◌∙◌, ◌<◌, ◌++◌, ℕ, zero, suc, List, [], ◌∷◌, length, get_or}
use Rattle.std.proofs.Common.{Option, Some, None, option_map, true≢false, false, ◌||◌, refl, sym, ap, subst, arith}
use Rattle.std.proofs.Common.{append-nil, append_assoc, map, Result, Ok, Err}
use Rattle.std.specs.Prelude.{is_some, if◌then◌else◌, nat_le, unwrap_or, Bool, true, IfOk}
use Rattle.std.specs.Option.{option_map_or}
use Rattle.std.specs.FinSet.{union, empty}
use Rattle.std.specs.List.{list_any}
use Rattle.std.proofs.lemmas.Bool.{or_parts}
use Rattle.std.proofs.lemmas.List.{length_push, length-map, map-append}
use Rattle.std.proofs.lemmas.List.Folds.{list_any-append}
use Rattle.cdf_types.specs.declared.fault.ReadFault.{ReadFault}
use Rattle.cdf_types.specs.declared.fault.ReadFault.TheVariants.{Memory, TooLong}
use Rattle.serde_json.specs.Data.{Data, null}
use Rattle.cdf_form.specs.Reading.{max_file, value_of, of_value}
use Rattle.cdf_parts.specs.Parts.{record_count}
use Rattle.cdf_definition.specs.Frame.{Frame}
use Rattle.cdf_definition.specs.Acceptance.{first_refusal, value_in, value_refusal}
use Rattle.cvr_fact_types.specs.Facts.{Facts, fact_total, fact_exact}
use Rattle.cvr_facts.specs.Reports.{facts}
use Rattle.cvr_facts.specs.Unions.{union_assoc, union_empty, empty_union}
use Rattle.cvr_office.specs.declared.event.Cause.TheVariants.{Read}
use Rattle.cvr_office.specs.declared.event.Event.TheVariants.{Import}
use Rattle.cvr_office.specs.declared.event.Outcome.{Outcome}
use Rattle.cvr_office.specs.declared.event.Outcome.TheVariants.{Accepted}
use Rattle.cvr_office.specs.CanHold.{starting_content}
use Rattle.cvr_office.specs.Outcomes.{AreOutcomes}
use Rattle.cvr_office.specs.Reach.{File, origin_facts, origins_at, union_over, content, history}
use Rattle.cvr_office.specs.Readers.{growth}
use Rattle.cvr_office.proofs.Lemmas.{over_insert, origin_total, origin_exact}
use Rattle.cvr_office.proofs.Laws.{content-none}
use Rattle.cvr_run.specs.Accepted.{is_refused}
use Rattle.cvr_run.specs.Outcome.{accepted_facts, content_of_files, check_line, check_lines}
use Rattle.cvr_run.specs.Outcome.{count_line}
use Rattle.cvr_run.specs.Refusals.{Due, file_due, no_due, AreDue, IsDue, cause_in, is_memory}
use Rattle.cvr_run.specs.Refusals.{is_want}
use Rattle.cvr_run.specs.Drill.{outcome_by}
use Rattle.cvr_run.specs.Taken.{AreTaken}
use Rattle.cvr_run.specs.Logged.{file_dues}
use Rattle.cvr_run.proofs.Steps.{IsTold, told_import}

-- ---- what is due

-- as many are refused as have a first refusal
some_read : (first : Option ReadFault) → is_some (option_map Read first) ≡ is_some first
some_read None = refl
some_read (Some fault) = refl

pub refused_files : (definition : Frame) (files : List (List ℕ))
    → list_any (λ due. is_some due.cause) (file_dues definition files)
    ≡ list_any (is_refused definition) files
refused_files definition [] = refl
refused_files definition (file ∷ files) = λ i.
    some_read (first_refusal definition file) i || refused_files definition files i

-- the outcomes so far, and one more
each_more : (dues : List Due) (due : Due) (rs : List Outcome) (r : Outcome)
    → length dues ≡ length rs → IsDue due (cause_in r)
    → ((k : ℕ) → k < length rs
    → IsDue (get_or dues k no_due) (cause_in (get_or rs k (Accepted 0))))
    → (k : ℕ) → k < length (rs ++ r ∷ [])
    → IsDue (get_or (dues ++ due ∷ []) k no_due) (cause_in (get_or (rs ++ r ∷ []) k (Accepted 0)))
each_more [] due [] r same here each zero lt = here
each_more [] due [] r same here each (suc k) lt = absurd (omega (arith, lt))
each_more [] due (x ∷ rs) r same here each k lt = absurd (omega (arith, same))
each_more (d ∷ dues) due [] r same here each k lt = absurd (omega (arith, same))
each_more (d ∷ dues) due (x ∷ rs) r same here each zero lt = each 0 (omega arith)
each_more (d ∷ dues) due (x ∷ rs) r same here each (suc k) lt =
    each_more dues due rs r (omega (arith, same)) here (λ j l. each (suc j) (omega (arith, l))) k
    (omega (arith, lt))

due_more : (dues : List Due) (due : Due) (rs : List Outcome) (r : Outcome) → AreDue dues rs
    → IsDue due (cause_in r) → AreDue (dues ++ due ∷ []) (rs ++ r ∷ [])
due_more dues due rs r so_far here = record {
  count = omega (arith, so_far.count, length_push dues due, length_push rs r);
  each = each_more dues due rs r so_far.count here so_far.each;
}

none_more : (rs : List Outcome) (r : Outcome) → list_any is_want (rs ++ r ∷ []) ≡ false
    → (list_any is_want rs ≡ false) × (is_want r ≡ false)
none_more rs r working =
    let both = or_parts (list_any is_want rs) (list_any is_want (r ∷ []))
    (sym (list_any-append is_want rs (r ∷ [])) ∙ working) in (
      both.0,
      (or_parts (is_want r) false both.1).0,
    )

-- one more file is taken
pub taken_more : (definition : Frame) (paths files : List (List ℕ)) (rs : List Outcome)
    (path file : List ℕ) (r : Outcome) (before after : Type 0)
    → AreTaken definition paths files rs before
    → IsDue (file_due (first_refusal definition file)) (cause_in r)
    → (length paths ≡ length files → is_want r ≡ false → before → after)
    → AreTaken definition (paths ++ path ∷ []) (files ++ file ∷ []) (rs ++ r ∷ []) after
taken_more definition paths files rs path file r before after so_far here made =
    let due = file_due (first_refusal definition file) in
    record {
      named = omega (arith, so_far.named, length_push paths path, length_push files file);
      due = subst (λ dues. AreDue dues (rs ++ r ∷ []))
          (sym (map-append (λ f. file_due (first_refusal definition f)) files (file ∷ [])))
          (due_more (file_dues definition files) due rs r so_far.due here);
      made = λ working.
          let none = none_more rs r working in
          made so_far.named none.1 (so_far.made none.0);
    }

-- what else is so of them
pub taken_so : (definition : Frame) (paths files : List (List ℕ)) (rs : List Outcome)
    (before after : Type 0) → (before → after) → AreTaken definition paths files rs before
    → AreTaken definition paths files rs after
taken_so definition paths files rs before after so taken = record {
  named = taken.named;
  due = taken.due;
  made = λ working. so (taken.made working);
}

-- none is taken yet
pub taken_none : (definition : Frame) (made : Type 0) → made → AreTaken definition [] [] [] made
taken_none definition made is = record {
  named = refl;
  due = record { count = refl; each = λ k lt. absurd (omega (arith, lt)) };
  made = λ working. is;
}

-- each path has its outcome
pub as_many : (definition : Frame) (paths files : List (List ℕ)) (rs : List Outcome)
    (made : Type 0) → AreTaken definition paths files rs made → length paths ≡ length rs
as_many definition paths files rs made taken =
    taken.named ∙ (sym (length-map files (λ file. file_due (first_refusal definition file)))
    ∙ taken.due.count)

-- ---- in one office

-- of an answer that has two facts a third one follows
pub two_of_ok : {T E : Type 0} (P Q R : T → Type 0) (r : Result T E) → IfOk r P → IfOk r Q
    → ((x : T) → P x → Q x → R x) → IfOk r R
two_of_ok P Q R (Ok x) p q so = so x p q
two_of_ok P Q R (Err e) p q so = tt

-- the only one of a list
pub only : {X : Type 0} (xs : List X) (x : X) → length xs ≡ 1 → xs ≡ get_or xs 0 x ∷ []
only [] x one = absurd (omega (arith, one))
only (y ∷ []) x one = refl
only (y ∷ z ∷ ys) x one = absurd (omega (arith, one))

-- what is so of the values of the only one of a list
pub of_only : {X Y : Type 0} (f : X → Y) (xs : List X) (d x : X) (y : Y) → x ≡ get_or xs 0 d
    → map f xs ≡ y ∷ [] → f x ≡ y
of_only f [] d x y at is = absurd (cc)
of_only f (z ∷ zs) d x y at is = ap f at ∙ ap (λ ys. get_or ys 0 y) is

pub one_of : {X Y : Type 0} (f : X → Y) (xs : List X) (y : Y) → map f xs ≡ y ∷ [] → length xs ≡ 1
one_of f xs y is = sym (length-map xs f) ∙ ap length is

-- the import of a file into the only office, with its outcome
module _ (starts : List Facts) (definition : Frame) (file : List ℕ) (rs : List Outcome)
    (r : Outcome) (count : length rs ≡ 1) (at : r ≡ get_or rs 0 r)
    (out : AreOutcomes starts (definition ∷ []) (file ∷ []) (history (Import 0 0 ∷ []) rs)) where
  outcome_is : rs ≡ r ∷ []
  outcome_is = only rs r count ∙ ap (λ x. x ∷ []) (sym at)

  is_logged : IsTold (file_due (first_refusal definition file))
      (growth (content starts (file ∷ []) [] 0) (facts file)) r
  is_logged =
      let now : AreOutcomes starts (definition ∷ []) (file ∷ []) (history (Import 0 0 ∷ []) (r ∷ []))
      = subst (λ xs. AreOutcomes starts (definition ∷ []) (file ∷ [])
      (history (Import 0 0 ∷ []) xs)) outcome_is out in
      told_import (first_refusal definition file) _ r (now.0.there (omega arith) (omega arith))

  pub due_played : IsDue (file_due (first_refusal definition file)) (cause_in r)
  due_played = is_logged.is_due

  held_by : (first : Option ReadFault) (n : ℕ)
      → content starts (file ∷ []) ((Import 0 0, outcome_by (file_due first).cause n) ∷ []) 0
      ≡ union (get_or starts 0 empty) (if is_some first then empty else facts file)
  held_by None n =
      over_insert origin_total origin_exact (origin_facts starts (file ∷ [])) (origins_at [] 0)
      (File 0) ∙ ap (λ s. union s (facts file)) (content-none starts (file ∷ []) 0)
  held_by (Some fault) n = content-none starts (file ∷ []) 0
      ∙ sym (union_empty fact_total fact_exact (get_or starts 0 empty))

  pub held_played : is_want r ≡ false
      → content starts (file ∷ []) (history (Import 0 0 ∷ []) rs) 0
      ≡ union (get_or starts 0 empty) (accepted_facts definition file)
  held_played working =
      ap (λ xs. content starts (file ∷ []) (history (Import 0 0 ∷ []) xs) 0)
      (outcome_is ∙ ap (λ x. x ∷ []) (is_logged.exact working))
      ∙ held_by (first_refusal definition file)
      (growth (content starts (file ∷ []) [] 0) (facts file))

over_more : (definition : Frame) (files : List (List ℕ)) (file : List ℕ)
    → union_over (accepted_facts definition) (files ++ file ∷ [])
    ≡ union (union_over (accepted_facts definition) files) (accepted_facts definition file)
over_more definition [] file =
    union_empty fact_total fact_exact (accepted_facts definition file)
    ∙ sym (empty_union fact_total fact_exact (accepted_facts definition file))
over_more definition (first ∷ files) file =
    ap (λ rest. union (accepted_facts definition first) rest) (over_more definition files file)
    ∙ sym (union_assoc fact_total fact_exact (accepted_facts definition first)
    (union_over (accepted_facts definition) files) (accepted_facts definition file))

pub held_more : (definition : Frame) (files : List (List ℕ)) (file : List ℕ) (before after : Facts)
    → after ≡ union before (accepted_facts definition file)
    → before ≡ content_of_files definition files
    → after ≡ content_of_files definition (files ++ file ∷ [])
held_more definition files file before after is was =
    let start = starting_content definition in
    is ∙ (ap (λ s. union s (accepted_facts definition file)) was
    ∙ (union_assoc fact_total fact_exact start (union_over (accepted_facts definition) files)
    (accepted_facts definition file)
    ∙ ap (union start) (sym (over_more definition files file))))

-- of none yet
pub held_none : (definition : Frame) (held : List Facts) → held ≡ starting_content definition ∷ []
    → held ≡ content_of_files definition [] ∷ []
held_none definition held is =
    is ∙ ap (λ h. h ∷ []) (sym (union_empty fact_total fact_exact (starting_content definition)))

-- ---- by their lines

pub lines_more : (definition : Frame) (paths files : List (List ℕ)) (path file : List ℕ)
    → length paths ≡ length files → check_lines definition (paths ++ path ∷ []) (files ++ file ∷ [])
    ≡ check_lines definition paths files ++ check_line definition path file
lines_more definition [] [] path file same = append-nil (check_line definition path file)
lines_more definition [] (f ∷ files) path file same = absurd (omega (arith, same))
lines_more definition (p ∷ paths) [] path file same = absurd (omega (arith, same))
lines_more definition (p ∷ paths) (f ∷ files) path file same =
    ap (λ l. check_line definition p f ++ l)
    (lines_more definition paths files path file (omega (arith, same)))
    ∙ sym (append_assoc (check_line definition p f) (check_lines definition paths files)
    (check_line definition path file))

-- the line of a value that was read, or nothing
abbrev pub line_by : List ℕ → Option Data → List ℕ
line_by path value = option_map_or (λ report. count_line path (record_count report)) value []

line_of_value : (definition : Frame) (path : List ℕ) (n : ℕ) (fits : Bool) (value : Option Data)
    → (if fits then of_value (value_refusal definition) value else Some TooLong) ≡ None
    → n ≡ record_count (unwrap_or value null) → line_by path value ≡ count_line path n
line_of_value definition path n true None none is = absurd (cc)
line_of_value definition path n true (Some value) none is = ap (count_line path) (sym is)
line_of_value definition path n false value none is = absurd (cc)

-- an accepted file has a line
pub line_of_accepted : (definition : Frame) (path file : List ℕ) (n : ℕ)
    → first_refusal definition file ≡ None → n ≡ record_count (value_in file)
    → check_line definition path file ≡ count_line path n
line_of_accepted definition path file n none is =
    ap (λ first. line_by path (if is_some first then None else value_of file)) none
    ∙ line_of_value definition path n (nat_le (length file) max_file) (value_of file) none is

-- and a refused one none
pub no_line : (definition : Frame) (path file : List ℕ) (fault : ReadFault)
    → first_refusal definition file ≡ Some fault → check_line definition path file ≡ []
no_line definition path file fault is =
    ap (λ first. line_by path (if is_some first then None else value_of file)) is

pub lines_refused : (definition : Frame) (paths files : List (List ℕ)) (path file text : List ℕ)
    (fault : ReadFault) → length paths ≡ length files
    → ((fault ≡ Memory → ⊥) → first_refusal definition file ≡ Some fault)
    → is_memory fault ≡ false → text ≡ check_lines definition paths files
    → text ≡ check_lines definition (paths ++ path ∷ []) (files ++ file ∷ [])
lines_refused definition paths files path file text fault same first works is =
    let some = first (λ e. true≢false (sym (ap is_memory e) ∙ works)) in
    is ∙ (sym (append-nil (check_lines definition paths files))
    ∙ (ap (λ l. check_lines definition paths files ++ l)
    (sym (no_line definition path file fault some))
    ∙ sym (lines_more definition paths files path file same)))
