-- New offices of one definition, after any events: only offices that are there have reached them,
-- and the same files give the same.
use Rattle.std.proofs.Common.{◌≡◌, ℕ, ◌<◌, ◌==◌, true, false, cond, inl, inr, List, [], ◌∷◌, length}
use Rattle.std.proofs.Common.{map, get_or, Some, sym, ap, ◌∙◌, subst, arith}
use Rattle.std.specs.List.{slice_get}
use Rattle.std.specs.Ordering.{eq_by_cmp}
use Rattle.std.specs.FinSet.{union, empty, insert, contains, contains-union, contains-insert}
use Rattle.std.specs.FinSet.{contains-empty}
use Rattle.std.proofs.lemmas.Bool.{false≢true, cases_lt, or_cases}
use Rattle.std.proofs.lemmas.List.{get_or-map, length-map}
use Rattle.std.proofs.lemmas.Option.{slice_get_within, get_or_from_slice_get}
use Rattle.cdf_definition.specs.Frame.{Frame}
use Rattle.cdf_check.proofs.Laws.{one_definition}
use Rattle.cvr_fact_types.specs.Facts.{Facts}
use Rattle.cvr_office.specs.declared.event.Event.TheVariants.{Import, Exchange}
use Rattle.cvr_office.specs.declared.event.Outcome.TheVariants.{Accepted, Refused}
use Rattle.cvr_office.specs.CanHold.{starting_content}
use Rattle.cvr_office.specs.Reach.{Start, File, origin_cmp, History, origins_at, content}
use Rattle.cvr_office.specs.Outcomes.{no_frame, AreOutcomes}
use Rattle.cvr_office.specs.Alike.{AreNewOfOne, ArePlayed, HaveSameFiles, BeganAlike, SameFilesLaw}
use Rattle.cvr_office.proofs.Unions.{tie_is}
use Rattle.cvr_office.proofs.Reached.{origin_total, origin_exact}
use Rattle.cvr_office.proofs.SameFiles.{same_files}
use Rattle.cvr_office.proofs.AnsweredAlike.{answer_alike}

-- ---- only offices that are there have reached one

module _ (starts : List Facts) (frames : List Frame) (files : List (List ℕ)) (k : ℕ) where
  -- the office k has reached o
  abbrev pub HasStart : History → ℕ → Type 0
  HasStart past o = contains (origins_at past o) (Start k) ≡ true

  pub start_itself : (o : ℕ) → HasStart [] o → k ≡ o
  start_itself o h =
      elim (or_cases (eq_by_cmp origin_cmp (Start k) (Start o))
      (contains (empty {R = origin_cmp}) (Start k))
      (sym (contains-insert origin_total empty (Start o) (Start k)) ∙ h)) [
        | inl same ↦ let is : Start k ≡ Start o =
            tie_is origin_total origin_exact (Start k) (Start o) same in Prim.cc is
        | inr none ↦ absurd (false≢true (sym (contains-empty origin_cmp (Start k)) ∙ none))
      ]

  pub start_before_file : (past : History) (o f : ℕ)
      → contains (insert (origins_at past o) (File f)) (Start k) ≡ true → HasStart past o
  start_before_file past o f h =
      elim (or_cases (eq_by_cmp origin_cmp (Start k) (File f))
      (contains (origins_at past o) (Start k))
      (sym (contains-insert origin_total (origins_at past o) (File f) (Start k)) ∙ h)) [
        | inl same ↦ let is : Start k ≡ File f =
            tie_is origin_total origin_exact (Start k) (File f) same in Prim.cc is
        | inr had ↦ had
      ]

  is_there : (past : History) → AreOutcomes starts frames files past → (o : ℕ) → o < length frames
      → HasStart past o → k < length frames
  is_there [] outcomes o lt h = subst (λ z. z < length frames) (sym (start_itself o h)) lt
  is_there ((Import j f, Accepted n) ∷ past) outcomes o lt h =
      elim (o == j) as (λ b. contains (cond b (insert (origins_at past o) (File f))
      (origins_at past o)) (Start k) ≡ true → k < length frames) [
        | true ↦ λ has. is_there past outcomes.1 o lt (start_before_file past o f has)
        | false ↦ λ had. is_there past outcomes.1 o lt had
      ] h
  is_there ((Import j f, Refused c) ∷ past) outcomes o lt h = is_there past outcomes.1 o lt h
  is_there ((Exchange p j, Accepted n) ∷ past) outcomes o lt h =
      elim (o == j) as (λ b. contains (cond b (union (origins_at past o) (origins_at past p))
      (origins_at past o)) (Start k) ≡ true → k < length frames) [
        | true ↦ λ has.
            elim (or_cases (contains (origins_at past o) (Start k))
            (contains (origins_at past p) (Start k))
            (sym (contains-union origin_total (origins_at past o) (origins_at past p) (Start k))
            ∙ has)) [
              | inl had ↦ is_there past outcomes.1 o lt had
              | inr there ↦ elim (cases_lt p (length frames)) [
                | inl within ↦ is_there past outcomes.1 p within there
                | inr none ↦ let clash = outcomes.0.no_from (omega (arith, none)) in Prim.cc clash
              ]
            ]
        | false ↦ λ had. is_there past outcomes.1 o lt had
      ] h
  is_there ((Exchange p j, Refused c) ∷ past) outcomes o lt h = is_there past outcomes.1 o lt h

-- ---- the same files

module _ {Office : Type 0} (held : Office → Facts) (defined : Office → Frame)
    (before after : List Office) (files : List (List ℕ)) (past : History)
    (new : AreNewOfOne held defined before)
    (played : ArePlayed held defined before after files past) where
  many : length after ≡ length before
  many = sym (length-map after defined) ∙ ap length played.definitions ∙ length-map before defined

  -- an office at a place afterwards
  module _ (o : ℕ) (one : Office) (at : slice_get after o ≡ Some one) where
    within : o < length before
    within = let lt = slice_get_within after o one at in omega (arith, lt, many)

    abbrev was : Office
    was = get_or before o one

    defined_was : defined one ≡ defined was
    defined_was =
        ap defined (sym (get_or_from_slice_get after o one one at))
        ∙ (sym (get_or-map defined after o one no_frame (slice_get_within after o one at))
        ∙ (ap (λ fs. get_or fs o no_frame) played.definitions
        ∙ get_or-map defined before o one no_frame within))

    held_is : held one ≡ content (map held before) files past o
    held_is =
        ap held (sym (get_or_from_slice_get after o one one at))
        ∙ (sym (get_or-map held after o one empty (slice_get_within after o one at))
        ∙ played.contents o within)

  module _ (o p : ℕ) (one other : Office) (at : slice_get after o ≡ Some one)
      (also : slice_get after p ≡ Some other) where
    -- the definition of each office is that of the first
    of_one : (k : ℕ) (d : Office) → k < length before → defined (get_or before k d) ≡ defined one
    of_one k d lt =
        one_definition (defined (get_or before k d)) (defined (was o one at)) (new.sound k d lt)
        (new.sound o one (within o one at))
        (new.one k d lt o one (within o one at))
        ∙ sym (defined_was o one at)

    began : (q : ℕ) → q < length before
        → BeganAlike (starting_content (defined one)) (map held before) past q
    began q lt k had =
        let same : length (map defined before) ≡ length before = length-map before defined in
        let there : k < length (map defined before) = is_there (map held before)
        (map defined before) files k past played.outcomes q (omega (arith, lt, same)) had in
        let inside : k < length before = omega (arith, there, same) in
        get_or-map held before k one empty inside
        ∙ (new.new k one inside ∙ ap starting_content (of_one k one inside))

    pub same_content : HaveSameFiles files past o p → held one ≡ held other
    same_content same =
        held_is o one at
        ∙ (same_files (starting_content (defined one)) (map held before) files past o p
        (began o (within o one at)) (began p (within p other also)) same
        ∙ sym (held_is p other also))

    pub same_definition : defined one ≡ defined other
    same_definition = sym (of_one p other (within p other also)) ∙ sym (defined_was p other also)

pub same_files_law : {Office : Type 0} (held : Office → Facts) (defined : Office → Frame)
    → SameFilesLaw held defined
same_files_law held defined before after files past new played o p one other at also same =
    let content =
    same_content held defined before after files past new played o p one other at also same in
    let definition =
    same_definition held defined before after files past new played o p one other at also in
    record {
      contents = content;
      answers = answer_alike (defined one) (defined other) (held one)
          (held other) (ap (λ f. f.contests) definition) content;
    }
