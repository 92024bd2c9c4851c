-- The lines of `check` over files whose first faults are given.
use Rattle.std.proofs.Common.{◌≡◌, ℕ, List, [], ◌∷◌, ◌++◌, true, Some, None, ◌∙◌}
use Rattle.std.specs.Prelude.{is_some, if◌then◌else◌}
use Rattle.serde_json.specs.Read.{read}
use Rattle.cdf_types.specs.declared.fault.ReadFault.{ReadFault}
use Rattle.cdf_definition.specs.Frame.{Frame}
use Rattle.cdf_definition.specs.Acceptance.{frame_in, first_refusal, first_unsound}
use Rattle.cdf_definition.proofs.Lemmas.{ascii_value, all_ascii}
use Rattle.cvr_words.specs.declared.request.Task.TheVariants.{Check}
use Rattle.cvr_run.specs.Outcome.{check_line, run_text}
use Rattle.cvr_run.proofs.Collected.{no_line, line_by}

line_is : (definition : Frame) (path file : List ℕ) → all_ascii file ≡ true
    → first_refusal definition file ≡ None
    → check_line definition path file ≡ line_by path (read file)
line_is definition path file a none =
    λ i. line_by path (if is_some (none i) then None else ascii_value file a i)

-- of three files, the second of which is refused
pub check-given : (def path path2 path3 file file2 file3 : List ℕ) (fault2 : ReadFault)
    (text : List ℕ) → first_unsound def ≡ None
    → first_refusal (frame_in def) file ≡ None → first_refusal (frame_in def) file2 ≡ Some fault2
    → first_refusal (frame_in def) file3 ≡ None
    → all_ascii file ≡ true → all_ascii file3 ≡ true
    → line_by path (read file) ++ (line_by path3 (read file3) ++ []) ≡ text
    → run_text Check def (path ∷ path2 ∷ path3 ∷ []) (file ∷ file2 ∷ file3 ∷ []) ≡ text
check-given def path path2 path3 file file2 file3 fault2 text sound none refused none3 a a3 is =
    (λ i. if is_some (sound i) then [] else
    (line_is (frame_in def) path file a none i
    ++ (no_line (frame_in def) path2 file2 fault2 refused i
    ++ (line_is (frame_in def) path3 file3 a3 none3 i ++ []))))
    ∙ is
