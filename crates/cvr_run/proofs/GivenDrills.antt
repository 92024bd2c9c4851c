-- The text of a drill over files whose facts and first faults are given.
use Rattle.std.proofs.Common.{◌≡◌, ℕ, zero, suc, ◌==◌, List, [], ◌∷◌, ◌++◌, map, get_or}
use Rattle.std.proofs.Common.{reverse, length, Bool, true, false, cond, Option, Some, None}
use Rattle.std.proofs.Common.{refl, sym, ap, ◌∙◌}
use Rattle.std.specs.Prelude.{codes, replicate, is_some, if◌then◌else◌}
use Rattle.std.specs.List.{flat_map, range_with_len}
use Rattle.std.specs.FinSet.{empty, union, from_list}
use Rattle.cdf_definition.specs.Frame.{Frame, frame_of}
use Rattle.cdf_definition.specs.Acceptance.{value_in, frame_in, first_unsound}
use Rattle.cdf_definition.proofs.Lemmas.{frame_of-put, frame_put, all_ascii}
use Rattle.cdf_check.specs.FileExamples as file
use Rattle.cvr_fact_types.specs.Facts.{Fact, Device, Header, Snapshot, Facts, fact_cmp, fact_total}
use Rattle.cvr_fact_types.specs.Facts.{fact_exact}
use Rattle.cvr_facts.specs.Choosing.{data_of}
use Rattle.cvr_facts.specs.Reports.{report_facts, facts}
use Rattle.cvr_facts.specs.Examples.{device_body, header_text}
use Rattle.cvr_facts.proofs.Lemmas.{from_list-append, value_in-ascii}
use Rattle.cvr_office.specs.declared.event.Cause.{Cause}
use Rattle.cvr_office.specs.declared.event.Event.{Event}
use Rattle.cvr_office.specs.declared.event.Event.TheVariants.{Import, Exchange}
use Rattle.cvr_office.specs.CanHold.{starting_content}
use Rattle.cvr_office.proofs.Lemmas.{map-map}
use Rattle.cvr_office.proofs.Laws.{content-none}
use Rattle.cvr_words.specs.declared.request.Step.{Step}
use Rattle.cvr_words.specs.declared.request.Task.TheVariants.{Drill}
use Rattle.cvr_run.specs.Drill.{events_of, event_due, new_offices, office_lines, drill_text}
use Rattle.cvr_run.specs.Outcome.{run_text}
use Rattle.cvr_run.specs.Refusals.{Due}
use Rattle.cvr_run.proofs.Drilled.{held_at, gained, held_more}
use Rattle.cvr_run.proofs.GivenOffices.{given_line, offices-given}

-- ---- what offices hold

module _ (definition : Frame) (n : ℕ) (files : List (List ℕ)) (due : Event → Due)
    (are_due : (e : Event) → event_due definition n files e ≡ due e)
    (devices : List Fact) (starts_are : starting_content definition ≡ from_list devices)
    (given : ℕ → List Fact) (given_are : (f : ℕ)
    → facts (get_or files f []) ≡ from_list (given f)) where
  -- what an event brings to the office o
  abbrev brought_to : Option Cause → Event → (ℕ → List Fact) → ℕ → List Fact
  brought_to None (Import p f) before o = cond (o == p) (given f) []
  brought_to None (Exchange p k) before o = cond (o == k) (before p) []
  brought_to (Some cause) e before o = []

  -- what it then holds, the newest event first
  abbrev held_of : List Event → ℕ → List Fact
  held_of [] o = get_or (replicate n devices) o []
  held_of (e ∷ es) o = held_of es o ++ brought_to (due e).cause e (held_of es) o

  chosen : (b : Bool) (s : Facts) (fs : List Fact) → s ≡ from_list fs
      → cond b s empty ≡ from_list (cond b fs [])
  chosen true s fs is = is
  chosen false s fs is = refl

  gained-given : (cause : Option Cause) (e : Event) (before : ℕ → Facts) (lists : ℕ → List Fact)
      → ((o : ℕ) → before o ≡ from_list (lists o))
      → (o : ℕ) → gained definition n files cause e before o
      ≡ from_list (brought_to cause e lists o)
  gained-given None (Import p f) before lists are o =
      chosen (o == p) (facts (get_or files f [])) (given f) (given_are f)
  gained-given None (Exchange p k) before lists are o = chosen (o == k) (before p) (lists p) (are p)
  gained-given (Some cause) (Import p f) before lists are o = refl
  gained-given (Some cause) (Exchange p k) before lists are o = refl

  start-given : (k o : ℕ) → get_or (replicate k (starting_content definition)) o empty
      ≡ from_list (get_or (replicate k devices) o [])
  start-given zero o = refl
  start-given (suc k) zero = starts_are
  start-given (suc k) (suc o) = start-given k o

  held-given : (es : List Event) (o : ℕ)
      → held_at definition n files es o ≡ from_list (held_of es o)
  held-given [] o = content-none (new_offices definition n) files o ∙ start-given n o
  held-given (e ∷ es) o =
      let now = brought_to (due e).cause e (held_of es) o in
      held_more definition n files e es o
      ∙ (ap (λ d. union (held_at definition n files es o)
      (gained definition n files d.cause e (held_at definition n files es) o)) (are_due e)
      ∙ ((λ i. union (held-given es o i)
      (gained-given (due e).cause e (held_at definition n files es) (held_of es) (held-given es)
      o i))
      ∙ sym (from_list-append fact_total fact_exact (held_of es o) now)))

  abbrev pub held_of_all : List Step → List (List Fact)
  held_of_all steps = map (held_of (reverse (events_of n steps))) (range_with_len 0 n)

  pub drill-given : (steps : List Step)
      → drill_text definition n files steps
      ≡ flat_map (given_line (held_of_all steps)) (range_with_len 0 (length (held_of_all steps)))
  drill-given steps =
      let es = reverse (events_of n steps) in
      (λ i. office_lines (map (λ o. held-given es o i) (range_with_len 0 n)))
      ∙ (ap office_lines (map-map (held_of es) (from_list {R = fact_cmp}) (range_with_len 0 n))
      ∙ offices-given (held_of_all steps))

pub run-given : (def : List ℕ) (paths files : List (List ℕ)) (n : ℕ) (steps : List Step)
    (text : List ℕ) → first_unsound def ≡ None → drill_text (frame_in def) n files steps ≡ text
    → run_text (Drill n steps) def paths files ≡ text
run-given def paths files n steps text sound is =
    ap (λ fault. if is_some fault then [] else drill_text (frame_in def) n files steps) sound ∙ is

-- ---- the facts of files

pub starts-given : (def : List ℕ) (fs : List Fact) → all_ascii def ≡ true
    → map (λ e. Device e.0 e.1) (frame_put (data_of def)).devices ≡ fs
    → starting_content (frame_in def) ≡ from_list fs
starts-given def fs a is =
    let starts = λ (f : Frame). from_list {R = fact_cmp} (map (λ e. Device e.0 e.1) f.devices) in
    ap (λ d. starts (frame_of d)) (value_in-ascii def a) ∙ ap starts (frame_of-put (data_of def))
    ∙ ap from_list is

pub facts-given : (bytes : List ℕ) (fs : List Fact) → all_ascii bytes ≡ true
    → report_facts (data_of bytes) ≡ fs → facts bytes ≡ from_list fs
facts-given bytes fs a is =
    ap (λ d. from_list (report_facts d)) (value_in-ascii bytes a) ∙ ap from_list is

-- of three files where those of the second alone are given
abbrev pub with_second : List ℕ → List Fact → List ℕ → ℕ → List Fact
with_second first fs third f = get_or (report_facts (value_in first) ∷ fs
    ∷ report_facts (value_in third) ∷ []) f (report_facts (value_in []))

pub second-given : (first second third : List ℕ) (fs : List Fact) → facts second ≡ from_list fs
    → (f : ℕ) → facts (get_or (first ∷ second ∷ third ∷ []) f [])
    ≡ from_list (with_second first fs third f)
second-given first second third fs is zero = refl
second-given first second third fs is (suc zero) = is
second-given first second third fs is (suc (suc zero)) = refl
second-given first second third fs is (suc (suc (suc f))) = refl

-- of the row's definition, and of its file that is accepted
abbrev pub three_devices : List Fact
three_devices = Device (codes "desk") (device_body (codes "desk"))
    ∷ Device (codes "s1") (device_body (codes "s1"))
    ∷ Device (codes "s2") (device_body (codes "s2")) ∷ []

abbrev pub of_one_file : List Fact
of_one_file = three_devices ++ Header (codes "s1") (codes "u1") (header_text (codes "p1"))
    ∷ Snapshot (codes "s1") (codes "u1") (codes "a") (file.snapshot (codes "original") (codes ""))
    ∷ []
