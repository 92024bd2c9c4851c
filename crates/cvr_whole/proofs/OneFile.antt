-- Runs over one file whose facts are given.
use Rattle.std.proofs.Common.{◌≡◌, ◌≤◌, ℕ, List, [], ◌∷◌, ◌++◌, length, true, refl}
use Rattle.std.proofs.Common.{sym, ap, ◌∙◌, subst, arith, nat_le}
use Rattle.std.proofs.lemmas.Bool.Decides.{nat_tests}
use Rattle.std.specs.List.{Contains}
use Rattle.std.specs.FinSet.{union, empty, from_list}
use Rattle.cdf_form.specs.Reading.{max_file}
use Rattle.cdf_definition.specs.Frame.{Frame, frame_of}
use Rattle.cdf_definition.specs.Acceptance.{Sound, Valid, frame_in, value_in}
use Rattle.cdf_definition.proofs.Lemmas.{frame_of-put, frame_put}
use Rattle.cdf_check.specs.Same.{IsOne}
use Rattle.cvr_fact_types.specs.Facts.{Fact, fact_total, fact_exact}
use Rattle.cvr_facts.specs.Choosing.{data_of}
use Rattle.cvr_facts.specs.Reports.{facts}
use Rattle.cvr_facts.specs.Unions.{union_assoc, union_same, union_empty}
use Rattle.cvr_facts.proofs.Lemmas.{at_head, from_list-append, only_one}
use Rattle.cvr_office.specs.CanHold.{starting_content}
use Rattle.cvr_report.specs.Head.{Head}
use Rattle.cvr_report.specs.Page.{volumes}
use Rattle.cvr_report.specs.Volume.{volume}
use Rattle.cvr_exchange.specs.Passing.{CanHead, AreAllTo}
use Rattle.cvr_words.specs.declared.request.Task.TheVariants.{Currents}
use Rattle.cvr_run.specs.Currents.{currents}
use Rattle.cvr_run.specs.Outcome.{accepted_facts, content_of_files, run_text}
use Rattle.cvr_run.proofs.Lemmas.{text_beside}
use Rattle.cvr_whole.specs.Runs.{AreOneDefinition}
use Rattle.cvr_whole.specs.Volumes.{AreVolumes}
use Rattle.cvr_whole.proofs.Volumes.{accepted, printed}

-- ---- a definition

pub frame_is : (def : List ℕ) → value_in def ≡ data_of def → frame_in def ≡ frame_put (data_of def)
frame_is def is = ap frame_of is ∙ frame_of-put (data_of def)

one_itself : (f : Frame) → IsOne f f
one_itself f = record {
  texts = record {
    elections = λ text. (λ at. at, λ at. at);
    units = λ text. (λ at. at, λ at. at);
    parties = λ text. (λ at. at, λ at. at);
  };
  devices = λ text. (λ at. at, λ at. at);
}

pub one_by_value : (def other : List ℕ) → Sound def → Sound other → value_in def ≡ value_in other
    → AreOneDefinition def other
one_by_value def other s t is = record {
  sound = s;
  other_sound = t;
  one = subst (IsOne (frame_in def)) (ap frame_of is) (one_itself (frame_in def));
}

-- ---- what is held

module _ (definition : Frame) (file : List ℕ) (starts fs : List Fact)
    (starts_are : starting_content definition ≡ from_list starts)
    (is_valid : Valid definition file) (facts_are : facts file ≡ from_list fs) where
  pub held_once : content_of_files definition (file ∷ []) ≡ from_list (starts ++ fs)
  held_once =
      (λ i. union (starts_are i) (union ((accepted definition file is_valid ∙ facts_are) i) empty))
      ∙ (ap (union (from_list starts)) (union_empty fact_total fact_exact (from_list fs))
      ∙ sym (from_list-append fact_total fact_exact starts fs))

  pub held_twice : content_of_files definition (file ∷ file ∷ []) ≡ from_list (starts ++ fs)
  held_twice =
      let one = accepted_facts definition file in
      ap (union (starting_content definition))
      (sym (union_assoc fact_total fact_exact one one empty)
      ∙ ap (λ t. union t empty) (union_same fact_total fact_exact one))
      ∙ held_once

-- ---- what is printed

pub currents_given : (def : List ℕ) (files : List (List ℕ)) (fs : List Fact) (text : List ℕ)
    → Sound def → content_of_files (frame_in def) files ≡ from_list fs
    → currents (from_list fs) ≡ text → run_text Currents def [] files ≡ text
currents_given def files fs text s held is =
    sym (text_beside Currents def (frame_in def) [] files s refl)
    ∙ (ap currents held ∙ is)

-- ---- one volume

all_to_one : (n : ℕ) → n ≡ 1 → AreAllTo n (1 ∷ [])
all_to_one n is i = (
  λ at. let one = only_one 1 i at in (omega (arith, one), omega (arith, one, is)),
  λ h. let low = h.0 in let high = h.1 in
      let one : 1 ≡ i = omega (arith, low, high, is) in
      subst (Contains (1 ∷ [])) one (at_head 1 []),
)

within : (n : ℕ) → nat_le n max_file ≡ true → n ≤ max_file
within n h = grind (arith, nat_tests)

pub one_volume : (def : List ℕ) (head : Head) (files : List (List ℕ)) → CanHead (frame_in def) head
    → volumes (content_of_files (frame_in def) files) ≡ 1
    → nat_le (length (volume (frame_in def) head (content_of_files (frame_in def) files) 1))
    max_file ≡ true → AreVolumes def head files (1 ∷ [])
one_volume def head files can number short = record {
  heading = can;
  all = all_to_one (volumes (content_of_files (frame_in def) files)) number;
  short = λ file at.
      let text = printed (frame_in def) head (content_of_files (frame_in def) files) 1 can
      (omega (arith, number)) in
      subst (λ file. length file ≤ max_file) (sym text ∙ only_one _ file at) (within _ short);
}
