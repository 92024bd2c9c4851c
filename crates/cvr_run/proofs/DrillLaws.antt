-- The laws of a drill beside the other commands: from events to steps, and to the text.
use Rattle.std.proofs.Common.{◌≡◌, ℕ, zero, suc, ◌+◌, ◌<◌, List, [], ◌∷◌, ◌++◌, length, map, get_or}
use Rattle.std.proofs.Common.{reverse, not, cond, ◌⊎◌, inl, inr, Contains, append-nil, refl, sym}
use Rattle.std.proofs.Common.{ap, ◌∙◌, subst, arith}
use Rattle.std.specs.Prelude.{Bool, ◌↔◌, codes, decimal}
use Rattle.std.specs.List.{filter, range_with_len, position_or_len}
use Rattle.std.specs.Fmt.{digits}
use Rattle.std.specs.FinSet.{contains, union, empty, len}
use Rattle.std.proofs.lemmas.List.{map-append, reverse-append, get_or-replicate}
use Rattle.std.proofs.lemmas.List.FromFn.{length-range_with_len, get_or-range_with_len}
use Rattle.std.proofs.lemmas.List.FromFn.{get_or-map-range_with_len}
use Rattle.std.proofs.lemmas.List.Sorted.{Contains-permutation, IsPermutation-reverse}
use Rattle.serde_json.specs.Data.{Data}
use Rattle.cdf_definition.specs.Frame.{Frame}
use Rattle.cdf_definition.specs.Acceptance.{value_in}
use Rattle.cdf_definition.proofs.Laws.{valid_file}
use Rattle.cvr_fact_types.specs.Facts.{Facts, fact_total, fact_exact}
use Rattle.cvr_facts.specs.Unions.{union_empty}
use Rattle.cvr_facts.proofs.Lemmas.{in_map, from_map}
use Rattle.cvr_office.specs.Alike.{HasReached}
use Rattle.cvr_office.specs.declared.event.Event.{Event}
use Rattle.cvr_office.specs.CanHold.{starting_content}
use Rattle.cvr_office.specs.Names.{records}
use Rattle.cvr_office.specs.Reach.{File, origins_at}
use Rattle.cvr_office.proofs.Lemmas.{from_filter, in_filter}
use Rattle.cvr_office.proofs.Laws.{content-none}
use Rattle.cvr_words.specs.declared.request.Act.{Act}
use Rattle.cvr_words.specs.declared.request.Act.TheVariants as act
use Rattle.cvr_words.specs.declared.request.Step.{Step}
use Rattle.cvr_run.specs.Drill.{event_of, events_of, new_offices, drill_contents, are_same}
use Rattle.cvr_run.specs.Drill.{least_same, office_line, office_lines}
use Rattle.cvr_run.specs.Laws.{HasAccepted, HaveSameValues, acts, held_by, past_after}
use Rattle.cvr_run.specs.Laws.{files_reached, ImportsAccepted, FirstStepLaw, StepImportLaw}
use Rattle.cvr_run.specs.Laws.{ExchangeLaw, FilesReachedLaw, ReachedLaw, SameReachedLaw}
use Rattle.cvr_run.specs.Laws.{AllImportedLaw, ByPlacesLaw, BothWaysLaw, EachImportsBothLaw}
use Rattle.cvr_run.specs.Laws.{same_line, OneLineLaw, TwoLinesLaw}
use Rattle.cvr_run.specs.Outcome.{accepted_facts, content_of_files}
use Rattle.cvr_run.proofs.Members.{AreFactsOf, same_by_values, HasPlace, placed, held_of, same_held}
use Rattle.cvr_run.proofs.Members.{by_bytes}
use Rattle.cvr_run.proofs.SameOffices.{same_itself}
use Rattle.cvr_run.proofs.Drilled.{held_at, taken_in, left_in, taken, left, is_there, reached_of}
use Rattle.cvr_run.proofs.Drilled.{TakesIn, all_here, first_of_both, second_of_both}

-- ---- steps and events

events_are : (n : ℕ) (steps : List Step) → events_of n steps ≡ map (event_of n) (acts steps)
events_are n [] = refl
events_are n (step ∷ steps) = ap (λ es. event_of n step.act ∷ es) (events_are n steps)

-- the events of acts, the newest first
abbrev newest : ℕ → List Act → List Event
newest n done = reverse (map (event_of n) done)

newest-append : (n : ℕ) (first last : List Act)
    → newest n (first ++ last) ≡ newest n last ++ newest n first
newest-append n first last = ap reverse (map-append (event_of n) first last)
    ∙ reverse-append (map (event_of n) first) (map (event_of n) last)

listed : (n : ℕ) (done : List Act) (a : Act) → Contains done a
    → Contains (newest n done) (event_of n a)
listed n done a at = Contains-permutation (map (event_of n) done) (newest n done) (event_of n a)
    (IsPermutation-reverse (map (event_of n) done)) (in_map (event_of n) a done at)

module _ (definition : Frame) (n : ℕ) (files : List (List ℕ)) where
  drilled_at : (steps : List Step) (done : List Act) (o : ℕ) → acts steps ≡ done → o < n
      → get_or (drill_contents definition n files steps) o empty
      ≡ held_at definition n files (newest n done) o
  drilled_at steps done o is lt =
      get_or-map-range_with_len (held_at definition n files (reverse (events_of n steps))) 0 n o o
      empty lt (omega arith)
      ∙ ap (λ es. held_at definition n files (reverse es) o)
      (events_are n steps ∙ ap (map (event_of n)) is)

  -- steps that end with these acts
  drilled_after : (steps : List Step) (first last : List Act) (o : ℕ) → acts steps ≡ first ++ last
      → o < n
      → get_or (drill_contents definition n files steps) o empty
      ≡ held_at definition n files (newest n last ++ newest n first) o
  drilled_after steps first last o is lt = drilled_at steps (first ++ last) o is lt
      ∙ ap (λ es. held_at definition n files es o) (newest-append n first last)

pub at_start : FirstStepLaw
at_start definition n files steps o lt none =
    drilled_at definition n files steps [] o none lt
    ∙ (content-none (new_offices definition n) files o
    ∙ (get_or-replicate n o (starting_content definition) empty lt
    ∙ sym (union_empty fact_total fact_exact (starting_content definition))))

pub one_import : StepImportLaw
one_import definition n files steps more o f lo lf is =
    let es = newest n (acts steps) in
    let last : List Act = act.Import (suc o) f ∷ [] in
    let before : (k : ℕ) → k < n → get_or (drill_contents definition n files steps) k empty
    ≡ held_at definition n files es k = λ k lt.
    drilled_at definition n files steps (acts steps) k refl lt in
    let takes = drilled_after definition n files more (acts steps) last o is lo
    ∙ (taken_in definition n files o f es lo lf
    ∙ ap (λ s. union s (accepted_facts definition (get_or files f []))) (sym (before o lo))) in (
      takes,
      λ k lt apart. drilled_after definition n files more (acts steps) last k is lt
          ∙ (left_in definition n files o f k es apart ∙ sym (before k lt)),
    )

pub one_exchange : ExchangeLaw
one_exchange definition n files steps more p o lp lo is =
    let es = newest n (acts steps) in
    let last : List Act = act.Exchange (suc p) (suc o) ∷ [] in
    let before : (k : ℕ) → k < n → get_or (drill_contents definition n files steps) k empty
    ≡ held_at definition n files es k = λ k lt.
    drilled_at definition n files steps (acts steps) k refl lt in
    let takes = drilled_after definition n files more (acts steps) last o is lo
    ∙ (taken definition n files p o es lp lo
    ∙ (λ i. union (sym (before o lo) i) (sym (before p lp) i))) in (
      takes,
      λ k lt apart. drilled_after definition n files more (acts steps) last k is lt
          ∙ (left definition n files p o k es lp lo apart ∙ sym (before k lt)),
    )

-- ---- the values that have reached an office

module _ (definition : Frame) (n : ℕ) (files : List (List ℕ)) (steps : List Step) where
  abbrev all_events : List Event
  all_events = reverse (events_of n steps)

  held_is : (o : ℕ) → o < n → held_by definition n files steps o
      ≡ held_at definition n files all_events o
  held_is o lt = get_or-map-range_with_len (held_at definition n files all_events) 0 n o o empty lt
      (omega arith)

  abbrev Reached : ℕ → Data → Type 0
  Reached = HasReached files (past_after definition n files steps)

  of_reached : (o : ℕ) → o < n → AreFactsOf definition (Reached o)
      (held_by definition n files steps o)
  of_reached o lt = subst (AreFactsOf definition (Reached o)) (sym (held_is o lt))
      (reached_of definition n files all_events o lt)

pub reached_held : ReachedLaw
reached_held definition n files others steps o lt same =
    same_by_values definition (Reached definition n files steps o) (HasAccepted definition others)
    (held_by definition n files steps o) (content_of_files definition others)
    (of_reached definition n files steps o lt) (held_of definition others) same

in_range : (n f : ℕ) → f < n → Contains (range_with_len 0 n) f
in_range n f lt = (
  f,
  omega (arith, lt, length-range_with_len 0 n),
  omega
      (arith, get_or-range_with_len 0 n f f lt),
)

module _ (definition : Frame) (n : ℕ) (files : List (List ℕ)) (steps : List Step) (o : ℕ) where
  abbrev has_come : ℕ → Bool
  has_come f = contains (origins_at (past_after definition n files steps) o) (File f)

  abbrev places : List ℕ
  places = range_with_len 0 (length files)

  values_reached : (v : Data) → Reached definition n files steps o v
      ↔ HasAccepted definition (files_reached files (past_after definition n files steps) o) v
  values_reached v = (
    λ has. let file = get_or files has.0 [] in
        let there =
        is_there definition n files (all_events definition n files steps) o has.0 has.1 in (
          file,
          in_map (λ f. get_or files f []) has.0 (filter has_come places)
              (in_filter has_come places has.0 (in_range (length files) has.0 there.0) has.1),
          (valid_file definition file).0 there.1,
          has.2,
        ),
    λ has. let came = from_map (λ f. get_or files f []) has.0 (filter has_come places) has.1 in
        (came.0, (from_filter has_come places came.0 came.1).1, ap value_in came.2 ∙ has.3),
  )

pub files_held : FilesReachedLaw
files_held definition n files steps o lt =
    reached_held definition n files (files_reached files (past_after definition n files steps) o)
    steps o lt (values_reached definition n files steps o)

pub same_reached : SameReachedLaw
same_reached definition n files steps p o lp lo same =
    same_by_values definition (Reached definition n files steps p)
    (Reached definition n files steps o) (held_by definition n files steps p)
    (held_by definition n files steps o)
    (of_reached definition n files steps p lp) (of_reached definition n files steps o lo) same

-- ---- imports of each value

takes_in : (definition : Frame) (n : ℕ) (files : List (List ℕ)) (done : List Act) (o : ℕ) (v : Data)
    → ImportsAccepted definition files done o v → TakesIn definition n files (newest n done) o v
takes_in definition n files done o v (f, below, at, valid, is) = (
  f,
  (below, (valid_file definition (get_or files f [])).1 valid),
  listed n done
      (act.Import (suc o) f) at,
  is,
)

pub imports_held : AllImportedLaw
imports_held definition n files steps o lt each =
    drilled_at definition n files steps (acts steps) o refl lt
    ∙ all_here definition n files (newest n (acts steps)) o lt
    (λ v has. takes_in definition n files (acts steps) o v (each v has))

pub by_places : ByPlacesLaw
by_places definition files first p o each v has =
    let at = placed definition files v has in
    elim (each at.0 at.1) [
      | inl with_p ↦ inl (at.0, at.1, with_p, at.2, at.3)
      | inr with_o ↦ inr (at.0, at.1, with_o, at.2, at.3)
    ]

pub both_ways_held : BothWaysLaw
both_ways_held definition n files steps first p o lp lo is each =
    let es = newest n first in
    let last : List Act = act.Exchange (suc p) (suc o) ∷ act.Exchange (suc o) (suc p) ∷ [] in
    let imports : (v : Data) → HasAccepted definition files v
    → TakesIn definition n files es p v ⊎ TakesIn definition n files es o v =
    λ v has. elim (each v has) [
      | inl with_p ↦ inl (takes_in definition n files first p v with_p)
      | inr with_o ↦ inr (takes_in definition n files first o v with_o)
    ] in
    let of_p = drilled_after definition n files steps first last p is lp
    ∙ first_of_both definition n files p o lp lo es imports in (
      of_p,
      drilled_after definition n files steps first last o is lo
          ∙ second_of_both definition n files p o lp lo es imports,
    )

-- ---- two files, each twice

abbrev twice : List ℕ → List ℕ → List (List ℕ)
twice one other = one ∷ other ∷ one ∷ other ∷ []

abbrev once : List ℕ → List ℕ → List (List ℕ)
once one other = one ∷ other ∷ []

of_once : (one other file : List ℕ) → Contains (once one other) file
    → Contains (twice one other) file
of_once one other file (zero, lt, is) = (0, omega arith, is)
of_once one other file (suc zero, lt, is) = (1, omega arith, is)
of_once one other file (suc (suc k), lt, is) = absurd (omega (arith, lt))

of_twice : (one other file : List ℕ) → Contains (twice one other) file
    → Contains (once one other) file
of_twice one other file (zero, lt, is) = (0, omega arith, is)
of_twice one other file (suc zero, lt, is) = (1, omega arith, is)
of_twice one other file (suc (suc zero), lt, is) = (0, omega arith, is)
of_twice one other file (suc (suc (suc zero)), lt, is) = (1, omega arith, is)
of_twice one other file (suc (suc (suc (suc k))), lt, is) = absurd (omega (arith, lt))

abbrev four_imports : List Act
four_imports = act.Import 1 0 ∷ act.Import 1 1 ∷ act.Import 2 2 ∷ act.Import 2 3 ∷ []

-- each office has its own place for each
own_place : (definition : Frame) (one other : List ℕ) (o : ℕ) (v : Data) → o < 2
    → HasPlace definition (once one other) v
    → ImportsAccepted definition (twice one other) four_imports o v
own_place definition one other zero v lt (zero, below, valid, is) =
    (0, omega arith, (0, omega arith, refl), valid, is)
own_place definition one other zero v lt (suc zero, below, valid, is) =
    (1, omega arith, (1, omega arith, refl), valid, is)
own_place definition one other (suc zero) v lt (zero, below, valid, is) =
    (2, omega arith, (2, omega arith, refl), valid, is)
own_place definition one other (suc zero) v lt (suc zero, below, valid, is) =
    (3, omega arith, (3, omega arith, refl), valid, is)
own_place definition one other zero v lt (suc (suc f), below, valid, is) =
    absurd (omega (arith, below))
own_place definition one other (suc zero) v lt (suc (suc f), below, valid, is) =
    absurd (omega (arith, below))
own_place definition one other (suc (suc o)) v lt has = absurd (omega (arith, lt))

pub each_imports_both : EachImportsBothLaw
each_imports_both definition one other steps o lt is =
    let same : HaveSameValues definition (twice one other) (once one other) = by_bytes definition
    (twice one other) (once one other)
    (λ file. (of_twice one other file, of_once one other file)) in
    imports_held definition 2 (twice one other) steps o lt
    (λ v has. subst (λ done. ImportsAccepted definition (twice one other) done o v) (sym is)
    (own_place definition one other o v lt (placed definition (once one other) v ((same v).0 has))))
    ∙ same_held definition (twice one other) (once one other) same

-- ---- lines

least_first : (s : Facts) (others : List Facts) → position_or_len (are_same s) (s ∷ others) ≡ 0
least_first s others =
    ap (λ b. cond (not b) (1 + position_or_len (are_same s) others) 0) (same_itself s)

line_is : (s : Facts) (others : List Facts) (o : ℕ) → get_or (s ∷ others) o empty ≡ s
    → office_line (s ∷ others) o ≡ same_line (o + 1) s
unfolding digits
line_is s others o is =
    ap (λ (t : Facts).
    codes "office " ++ (decimal (o + 1)
    ++ (codes " records " ++ (decimal (length (records t))
    ++ (codes " facts " ++ (decimal (len t)
    ++ (codes " same " ++ (decimal (least_same (s ∷ others) t) ++ 10 ∷ []))))))))
    is
    ∙ ap (λ (k : ℕ).
    codes "office " ++ (decimal (o + 1)
    ++ (codes " records " ++ (decimal (length (records s))
    ++ (codes " facts " ++ (decimal (len s)
    ++ (codes " same " ++ (decimal (k + 1) ++ 10 ∷ []))))))))
    (least_first s others)

pub one_line : OneLineLaw
one_line definition files steps each =
    let s = content_of_files definition files in
    ap (λ t. office_lines (t ∷ [])) (imports_held definition 1 files steps 0 (omega arith) each)
    ∙ (append-nil (office_line (s ∷ []) 0) ∙ line_is s [] 0 refl)

pub two_lines : TwoLinesLaw
two_lines definition files steps first is each =
    let s = content_of_files definition files in
    let both =
    both_ways_held definition 2 files steps first 0 1 (omega arith) (omega arith) is each in
    (λ i. office_lines (both.0 i ∷ both.1 i ∷ []))
    ∙ (λ i. line_is s (s ∷ []) 0 refl i
    ++ (append-nil (office_line (s ∷ s ∷ []) 1) ∙ line_is s (s ∷ []) 1 refl) i)
