-- What a run logs, by the first faults of its files.
use Rattle.std.proofs.Common.{◌≡◌, ℕ, zero, suc, ◌==◌, ◌||◌, List, [], ◌∷◌, map, get_or, true}
use Rattle.std.proofs.Common.{Option, Some, None, refl, sym, ap, ◌∙◌, arith}
use Rattle.std.specs.Prelude.{option_map, is_some, nat_le, if◌then◌else◌}
use Rattle.std.proofs.lemmas.Bool.{le-leb}
use Rattle.cdf_types.specs.declared.fault.ReadFault.{ReadFault}
use Rattle.cdf_definition.specs.Frame.{Frame}
use Rattle.cdf_definition.specs.Acceptance.{frame_in, first_refusal, first_unsound}
use Rattle.cvr_office.specs.declared.event.Cause.TheVariants.{Read, NoOffice, NoFile}
use Rattle.cvr_office.specs.declared.event.Event.{Event}
use Rattle.cvr_office.specs.declared.event.Event.TheVariants as event
use Rattle.cvr_words.specs.declared.request.Step.{Step}
use Rattle.cvr_words.specs.declared.request.Task.TheVariants.{Currents, Drill}
use Rattle.cvr_run.specs.Drill.{event_of, step_texts, certain_due, exchange_due, event_due}
use Rattle.cvr_run.specs.Drill.{step_dues}
use Rattle.cvr_run.specs.Happened.{causes, run_dues}
use Rattle.cvr_run.specs.Refusals.{Due, no_due, file_due}
use Rattle.cvr_run.specs.Logged.{refusal_line, refusal_lines, run_lines, file_dues}

pub told_of_definition : (what def : List ℕ) (paths files : List (List ℕ)) (fault : ReadFault)
    (text : List ℕ) → first_unsound def ≡ Some fault → refusal_line what (Some (Read fault)) ≡ text
    → run_lines Currents what def paths files ≡ text
told_of_definition what def paths files fault text is e =
    (λ i. if is_some (is i) then refusal_line what (file_due (is i)).cause
    else refusal_lines paths (file_dues (frame_in def) files)) ∙ e

pub told_of_one : (what def path file : List ℕ) (fault : Option ReadFault) (text : List ℕ)
    → first_unsound def ≡ None → first_refusal (frame_in def) file ≡ fault
    → refusal_lines (path ∷ []) (file_due fault ∷ []) ≡ text
    → run_lines Currents what def (path ∷ []) (file ∷ []) ≡ text
told_of_one what def path file fault text sound is e =
    (λ i. if is_some (sound i) then refusal_line what (file_due (sound i)).cause
    else refusal_lines (path ∷ []) (file_due (is i) ∷ [])) ∙ e

pub told_of_three : (what def path path2 path3 file file2 file3 : List ℕ)
    (fault fault2 fault3 : Option ReadFault) (text : List ℕ) → first_unsound def ≡ None
    → first_refusal (frame_in def) file ≡ fault → first_refusal (frame_in def) file2 ≡ fault2
    → first_refusal (frame_in def) file3 ≡ fault3
    → refusal_lines (path ∷ path2 ∷ path3 ∷ [])
    (file_due fault ∷ file_due fault2 ∷ file_due fault3 ∷ []) ≡ text
    → run_lines Currents what def (path ∷ path2 ∷ path3 ∷ []) (file ∷ file2 ∷ file3 ∷ []) ≡ text
told_of_three what def path path2 path3 file file2 file3 fault fault2 fault3 text sound is is2 is3
    e =
    (λ i. if is_some (sound i) then refusal_line what (file_due (sound i)).cause
    else refusal_lines (path ∷ path2 ∷ path3 ∷ [])
    (file_due (is i) ∷ file_due (is2 i) ∷ file_due (is3 i) ∷ [])) ∙ e

pub causes_of_three : (def : List ℕ) (paths : List (List ℕ)) (file file2 file3 : List ℕ)
    (fault fault2 fault3 : Option ReadFault) → first_unsound def ≡ None
    → first_refusal (frame_in def) file ≡ fault → first_refusal (frame_in def) file2 ≡ fault2
    → first_refusal (frame_in def) file3 ≡ fault3
    → causes (run_dues Currents def paths (file ∷ file2 ∷ file3 ∷ []))
    ≡ option_map Read fault ∷ option_map Read fault2 ∷ option_map Read fault3 ∷ []
causes_of_three def paths file file2 file3 fault fault2 fault3 sound is is2 is3 =
    λ i. causes (if is_some (sound i) then []
    else file_due (is i) ∷ file_due (is2 i) ∷ file_due (is3 i) ∷ [])

-- ---- a drill over three files

-- what is due to an event, by the first fault of each file
abbrev pub due_by : (ℕ → Option ReadFault) → ℕ → Event → Due
due_by first n (event.Import o f) = if nat_le n o then certain_due NoOffice
    else (if nat_le 3 f then certain_due NoFile else file_due (first f))
due_by first n (event.Exchange p o) = if nat_le n p || nat_le n o then certain_due NoOffice
    else (if p == o then no_due else exchange_due)

abbrev dues_by : (ℕ → Option ReadFault) → ℕ → List Step → List Due
dues_by first n steps = map (λ step. due_by first n (event_of n step.act)) steps

abbrev pub first_of : Option ReadFault → Option ReadFault → Option ReadFault → ℕ → Option ReadFault
first_of fault fault2 fault3 f = get_or (fault ∷ fault2 ∷ fault3 ∷ []) f None

pub due_is : (definition : Frame) (n : ℕ) (file file2 file3 : List ℕ)
    (fault fault2 fault3 : Option ReadFault)
    → first_refusal definition file ≡ fault → first_refusal definition file2 ≡ fault2
    → first_refusal definition file3 ≡ fault3
    → (e : Event) → event_due definition n (file ∷ file2 ∷ file3 ∷ []) e
    ≡ due_by (first_of fault fault2 fault3) n e
due_is definition n file file2 file3 fault fault2 fault3 is is2 is3 (event.Import o zero) =
    ap (λ f. if nat_le n o then certain_due NoOffice else file_due f) is
due_is definition n file file2 file3 fault fault2 fault3 is is2 is3 (event.Import o (suc zero)) =
    ap (λ f. if nat_le n o then certain_due NoOffice else file_due f) is2
due_is definition n file file2 file3 fault fault2 fault3 is is2 is3
    (event.Import o (suc (suc zero))) = ap
    (λ f. if nat_le n o then certain_due NoOffice else file_due f) is3
due_is definition n file file2 file3 fault fault2 fault3 is is2 is3
    (event.Import o (suc (suc (suc f)))) =
    let none : nat_le 3 (suc (suc (suc f))) ≡ true = le-leb 3 (suc (suc (suc f))) (omega arith) in
    ap (λ b. if nat_le n o then certain_due NoOffice
    else (if b then certain_due NoFile else file_due (first_refusal definition []))) none
    ∙ sym (ap (λ b. if nat_le n o then certain_due NoOffice
    else (if b then certain_due NoFile else file_due None)) none)
due_is definition n file file2 file3 fault fault2 fault3 is is2 is3 (event.Exchange p o) = refl

dues_are : (definition : Frame) (n : ℕ) (file file2 file3 : List ℕ)
    (fault fault2 fault3 : Option ReadFault)
    → first_refusal definition file ≡ fault → first_refusal definition file2 ≡ fault2
    → first_refusal definition file3 ≡ fault3
    → (steps : List Step) → step_dues definition n (file ∷ file2 ∷ file3 ∷ []) steps
    ≡ dues_by (first_of fault fault2 fault3) n steps
dues_are definition n file file2 file3 fault fault2 fault3 is is2 is3 [] = refl
dues_are definition n file file2 file3 fault fault2 fault3 is is2 is3 (step ∷ steps) =
    λ i. due_is definition n file file2 file3 fault fault2 fault3 is is2 is3 (event_of n step.act) i
    ∷ dues_are definition n file file2 file3 fault fault2 fault3 is is2 is3 steps i

pub told_of_drill : (what def : List ℕ) (paths : List (List ℕ)) (file file2 file3 : List ℕ)
    (fault fault2 fault3 : Option ReadFault) (n : ℕ) (steps : List Step) (text : List ℕ)
    → first_unsound def ≡ None
    → first_refusal (frame_in def) file ≡ fault → first_refusal (frame_in def) file2 ≡ fault2
    → first_refusal (frame_in def) file3 ≡ fault3
    → refusal_lines (step_texts steps) (dues_by (first_of fault fault2 fault3) n steps) ≡ text
    → run_lines (Drill n steps) what def paths (file ∷ file2 ∷ file3 ∷ []) ≡ text
told_of_drill what def paths file file2 file3 fault fault2 fault3 n steps text sound is is2 is3 e =
    (λ i. if is_some (sound i) then refusal_line what (file_due (sound i)).cause
    else refusal_lines (step_texts steps)
    (dues_are (frame_in def) n file file2 file3 fault fault2 fault3 is is2 is3 steps i)) ∙ e
