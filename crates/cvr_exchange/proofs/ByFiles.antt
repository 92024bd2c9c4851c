-- Offices that do by files what a history does hold what it would give.
use Rattle.std.proofs.Common.{◌≡◌, ◌<◌, ◌==◌, ℕ, List, [], ◌∷◌, ◌++◌, length, map, get_or, true}
use Rattle.std.proofs.Common.{false, cond, Some, inl, inr, refl, sym, ap, ◌∙◌, subst, arith}
use Rattle.std.specs.List.{slice_get}
use Rattle.std.specs.FinSet.{contains, union, empty, insert, contains-union}
use Rattle.std.proofs.lemmas.Bool.{cases_lt}
use Rattle.std.proofs.lemmas.List.{length-map, get_or-map}
use Rattle.std.proofs.lemmas.Option.{get_or_from_slice_get, slice_get_within}
use Rattle.cdf_definition.specs.Frame.{Frame, IsSame}
use Rattle.cdf_check.proofs.Laws.{one_definition}
use Rattle.cvr_fact_types.specs.Facts.{Facts}
use Rattle.cvr_facts.specs.Reports.{facts}
use Rattle.cvr_office.specs.declared.event.Event.{Event}
use Rattle.cvr_office.specs.declared.event.Event.TheVariants.{Import, Exchange}
use Rattle.cvr_office.specs.declared.event.Outcome.{Outcome}
use Rattle.cvr_office.specs.declared.event.Outcome.TheVariants.{Accepted, Refused}
use Rattle.cvr_office.specs.Alike.{AreNewOfOne, ArePlayed, HaveSameFiles, BeganAlike}
use Rattle.cvr_office.specs.CanHold.{CanHold, starting_content}
use Rattle.cvr_office.specs.Outcomes.{no_frame, AreOutcomes}
use Rattle.cvr_office.specs.Reach.{History, Start, File, origins_at, content}
use Rattle.cvr_office.proofs.Laws.{answer_alike, same_definition, same_files, start_keeps}
use Rattle.cvr_office.proofs.Lemmas.{origin_total, or_cases, start_itself}
use Rattle.cvr_office.proofs.Lemmas.{start_before_file}
use Rattle.cvr_report.proofs.Laws.{same_volumes}
use Rattle.cvr_exchange.specs.Laws.{CouldBegin, ByFilesLaw, SamePassingLaw}
use Rattle.cvr_exchange.specs.Passing.{IsByFiles, begun, event, volumes_of}
use Rattle.cvr_exchange.proofs.Histories.{after_import, after_exchange, imports_exchange}
use Rattle.cvr_exchange.proofs.Kept.{history_kept}

-- ---- contents

module _ (starts : List Facts) (files : List (List ℕ)) (by past : History)
    (alike : (k : ℕ) → content starts files by k ≡ content starts files past k) where
  exchange_alike : (p j n o : ℕ) → content starts files ((Exchange p j, Accepted n) ∷ by) o
      ≡ content starts files ((Exchange p j, Accepted n) ∷ past) o
  exchange_alike p j n o =
      after_exchange starts files by p j n o
      ∙ ((λ i. cond (o == j) (union (alike o i) (alike p i)) (alike o i))
      ∙ sym (after_exchange starts files past p j n o))

  event_alike : (e : Event × Outcome) (o : ℕ)
      → content starts files (e ∷ by) o ≡ content starts files (e ∷ past) o
  event_alike (Import j f, Accepted n) o =
      after_import starts files by j f n o
      ∙ (ap (λ s. cond (o == j) (union s (facts (get_or files f []))) s) (alike o)
      ∙ sym (after_import starts files past j f n o))
  event_alike (Import j f, Refused c) o = alike o
  event_alike (Exchange p j, Accepted n) o = exchange_alike p j n o
  event_alike (Exchange p j, Refused c) o = alike o

-- the outcomes of the events before some others
outcomes_before : (starts : List Facts) (frames : List Frame) (files : List (List ℕ))
    (later past : History) → AreOutcomes starts frames files (later ++ past)
    → AreOutcomes starts frames files past
outcomes_before starts frames files [] past outs = outs
outcomes_before starts frames files (e ∷ later) past outs =
    outcomes_before starts frames files later past outs.1

pub by_files : ByFilesLaw
by_files frames starts files _ _ began outs begun o = refl
by_files frames starts files _ _ began outs (event e by past h) o =
    event_alike starts files by past (by_files frames starts files by past began outs.1 h) e o
by_files frames starts files _ _ began outs (volumes_of head p q n imports by past lt can every h)
    o =
    let before = outcomes_before starts frames files imports by outs in
    imports_exchange (get_or frames p no_frame) head starts files imports by p q n
    (history_kept frames starts files by began before p lt) can every o
    ∙ exchange_alike starts files by past (by_files frames starts files by past began before h) p q
    n o

-- ---- where what has reached an office began

module _ (frames : List Frame) (starts : List Facts) (files : List (List ℕ)) (k : ℕ) where
  abbrev HasStart : History → ℕ → Type 0
  HasStart past o = contains (origins_at past o) (Start k) ≡ true

  -- it began at one of the offices
  abbrev IsThere : History → Type 0
  IsThere past = (o : ℕ) → o < length frames → HasStart past o → k < length frames

  import_there : (j f n : ℕ) (past : History) → IsThere past
      → IsThere ((Import j f, Accepted n) ∷ past)
  import_there j f n past there o lt h =
      elim (o == j) as (λ b. contains (cond b (insert (origins_at past o) (File f))
      (origins_at past o)) (Start k) ≡ true → k < length frames) [
        | true ↦ λ has. there o lt (start_before_file starts frames files k past o f has)
        | false ↦ λ had. there o lt had
      ] h

  exchange_there : (p j n : ℕ) (past : History) → p < length frames → IsThere past
      → IsThere ((Exchange p j, Accepted n) ∷ past)
  exchange_there p j n past lp there o lt h =
      elim (o == j) as (λ b. contains (cond b (union (origins_at past o) (origins_at past p))
      (origins_at past o)) (Start k) ≡ true → k < length frames) [
        | true ↦ λ has.
            elim (or_cases (contains (origins_at past o) (Start k))
            (contains (origins_at past p) (Start k))
            (sym (contains-union origin_total (origins_at past o) (origins_at past p) (Start k))
            ∙ has)) [
              | inl had ↦ there o lt had
              | inr had ↦ there p lp had
            ]
        | false ↦ λ had. there o lt had
      ] h

  event_there : (e : Event × Outcome) (by past : History) → AreOutcomes starts frames files (e ∷ by)
      → IsThere past → IsThere (e ∷ past)
  event_there (Import j f, Accepted n) by past outs there = import_there j f n past there
  event_there (Import j f, Refused c) by past outs there = there
  event_there (Exchange p j, Accepted n) by past outs there =
      elim (cases_lt p (length frames)) [
        | inl lp ↦ exchange_there p j n past lp there
        | inr none ↦ let clash = outs.0.no_from (omega (arith, none)) in absurd (Prim.cc clash)
      ]
  event_there (Exchange p j, Refused c) by past outs there = there

  is_there : (by past : History) → AreOutcomes starts frames files by
      → IsByFiles frames starts files by past → IsThere past
  is_there _ _ outs begun = λ o lt h. subst (λ z. z < length frames)
      (sym (start_itself starts frames files k o h)) lt
  is_there _ _ outs (event e by past h) = event_there e by past outs (is_there by past outs.1 h)
  is_there _ _ outs (volumes_of head p q n imports by past lp can every h) =
      exchange_there p q n past lp (is_there by past
      (outcomes_before starts frames files imports by outs) h)

-- ---- offices

module _ {Office : Type 0} (held : Office → Facts) (defined : Office → Frame)
    (before after : List Office) (files : List (List ℕ)) (by past : History)
    (new : AreNewOfOne held defined before) (played : ArePlayed held defined before after files by)
    (how : IsByFiles (map defined before) (map held before) files by past) where
  many : length after ≡ length before
  many = sym (length-map after defined) ∙ (ap length played.definitions ∙ length-map before defined)

  began_kept : Office → CouldBegin (map defined before) (map held before)
  began_kept any k lt =
      let within : k < length before = let n = length-map before defined in omega (arith, lt, n) in
      let own = defined (get_or before k any) in
      subst (λ f. CanHold f (get_or (map held before) k empty))
      (sym (get_or-map defined before k any no_frame within))
      (subst (CanHold own) (sym (get_or-map held before k any empty within ∙ new.new k any within))
      (start_keeps own (new.sound k any within)))

  -- an office at a place afterwards
  module _ (o : ℕ) (one : Office) (at : slice_get after o ≡ Some one) where
    within : o < length before
    within = let lt = slice_get_within after o one at in omega (arith, lt, many)

    held_is : held one ≡ content (map held before) files past o
    held_is =
        ap held (sym (get_or_from_slice_get after o one one at))
        ∙ (sym (get_or-map held after o one empty (slice_get_within after o one at))
        ∙ (played.contents o within ∙ by_files (map defined before) (map held before) files by past
        (began_kept one) played.outcomes how o))

    defined_was : defined one ≡ defined (get_or before o one)
    defined_was =
        ap defined (sym (get_or_from_slice_get after o one one at))
        ∙ (sym (get_or-map defined after o one no_frame (slice_get_within after o one at))
        ∙ (ap (λ fs. get_or fs o no_frame) played.definitions
        ∙ get_or-map defined before o one no_frame within))

    -- the definition of each office is its own
    of_one : (k : ℕ) → k < length before → defined (get_or before k one) ≡ defined one
    of_one k lt =
        one_definition (defined (get_or before k one)) (defined (get_or before o one))
        (new.sound k one lt) (new.sound o one within) (new.one k one lt o one within)
        ∙ sym defined_was

  module _ (o p : ℕ) (one other : Office) (at : slice_get after o ≡ Some one)
      (also : slice_get after p ≡ Some other) where
    began : (q : ℕ) → q < length before
        → BeganAlike (starting_content (defined one)) (map held before) past q
    began q lt k had =
        let n = length-map before defined in
        let there : k < length (map defined before) = is_there (map defined before)
        (map held before) files k by past played.outcomes how q (omega (arith, lt, n)) had in
        let inside : k < length before = omega (arith, there, n) in
        get_or-map held before k one empty inside
        ∙ (new.new k one inside ∙ ap starting_content (of_one o one at k inside))

    pub same_content : HaveSameFiles files past o p → held one ≡ held other
    same_content same =
        held_is o one at
        ∙ (same_files (starting_content (defined one)) (map held before) files past o p
        (began o (within o one at)) (began p (within p other also)) same
        ∙ sym (held_is p other also))

pub same_files_law : {Office : Type 0} (held : Office → Facts) (defined : Office → Frame)
    → SamePassingLaw held defined
same_files_law held defined before after files by past o p one other new played how same at also =
    let content = same_content held defined before after files by past new played how o p one other
    at also same in
    let definition =
    same_definition held defined before after files by new played o p one other at also in
    let is_same : IsSame (defined one) (defined other) = subst (IsSame (defined one)) definition
    (record { elections = refl; units = refl; parties = refl }) in (
      record {
        contents = content;
        answers = answer_alike (defined one) (defined other) (held one)
            (held other) (ap (λ f. f.contests) definition) content;
      },
      same_volumes (defined one) (defined other) (held one) (held other) is_same content,
    )
