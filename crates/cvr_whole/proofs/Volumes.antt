-- Volumes in the place of files hold what the files hold; and what files hold, an office keeps.
use Rattle.std.proofs.Common.{◌≡◌, ◌≤◌, ℕ, List, [], ◌∷◌, length, not, Option, Some, None}
use Rattle.std.proofs.Common.{refl, sym, ap, ◌∙◌, subst}
use Rattle.std.proofs.lemmas.Bool.{le-ltb}
use Rattle.std.specs.Prelude.{is_some, if◌then◌else◌}
use Rattle.std.specs.List.{Contains}
use Rattle.std.specs.FinSet.{union, empty}
use Rattle.cdf_types.specs.declared.fault.ReadFault.{ReadFault}
use Rattle.cdf_form.specs.Reading.{max_file}
use Rattle.cdf_definition.specs.Frame.{Frame}
use Rattle.cdf_definition.specs.Acceptance.{Sound, Valid, first_refusal, frame_in}
use Rattle.cdf_definition.proofs.Laws.{valid_file}
use Rattle.cvr_fact_types.specs.Facts.{Facts, fact_total, fact_exact}
use Rattle.cvr_facts.specs.Reports.{facts}
use Rattle.cvr_facts.specs.Unions.{union_assoc, union_same, union_empty}
use Rattle.cvr_facts.proofs.Lemmas.{in_map, at_head, at_tail}
use Rattle.cvr_office.specs.CanHold.{CanHold, starting_content}
use Rattle.cvr_office.specs.Reach.{union_over}
use Rattle.cvr_office.proofs.Laws.{start_keeps, import_keeps, columns_add_up, ballots_add_up}
use Rattle.cvr_report.specs.Head.{Head}
use Rattle.cvr_report.specs.Page.{volumes}
use Rattle.cvr_report.specs.Volume.{volume}
use Rattle.cvr_exchange.specs.Passing.{CanHead}
use Rattle.cvr_exchange.proofs.Laws.{any_order, valid}
use Rattle.cvr_run.specs.declared.merge.MergeFault.TheVariants.{NotMoment, NoDevice, NoVolume}
use Rattle.cvr_run.specs.Merge.{merge_text}
use Rattle.cvr_run.specs.Outcome.{accepted_facts}
use Rattle.cvr_run.proofs.Laws.{whole_volume}
use Rattle.cvr_whole.specs.Volumes.{held, merged, AreVolumes, VolumesHoldLaw, VolumesTextLaw}
use Rattle.cvr_whole.specs.Votes.{EachVoteLaw, EachBallotLaw}
use Rattle.cvr_whole.proofs.Runs.{sound_frame, same_text}

-- ---- what is held of files

pub accepted : (definition : Frame) (file : List ℕ) → Valid definition file
    → accepted_facts definition file ≡ facts file
accepted definition file is = ap (λ (first : Option ReadFault).
    if is_some first then empty else facts file) ((valid_file definition file).1 is)

module _ (definition : Frame) where
  keeps_with : (t some : Facts) (first : Option ReadFault)
      → (first ≡ None → CanHold definition (union t some)) → CanHold definition t
      → CanHold definition (union t (if is_some first then empty else some))
  keeps_with t some None more kept = more refl
  keeps_with t some (Some fault) more kept =
      subst (CanHold definition) (sym (union_empty fact_total fact_exact t)) kept

  keeps_over : (t : Facts) (files : List (List ℕ)) → CanHold definition t
      → CanHold definition (union t (union_over (accepted_facts definition) files))
  keeps_over t [] kept =
      subst (CanHold definition) (sym (union_empty fact_total fact_exact t)) kept
  keeps_over t (file ∷ files) kept =
      subst (CanHold definition)
      (union_assoc fact_total fact_exact t (accepted_facts definition file)
      (union_over (accepted_facts definition) files))
      (keeps_over (union t (accepted_facts definition file)) files
      (keeps_with t (facts file) (first_refusal definition file)
      (λ none. import_keeps definition t file ((valid_file definition file).0 none) kept) kept))

held_keeps : (def : List ℕ) (files : List (List ℕ)) → Sound def
    → CanHold (frame_in def) (held def files)
held_keeps def files s =
    keeps_over (frame_in def) (starting_content (frame_in def)) files
    (start_keeps (frame_in def) (sound_frame def s))

-- ---- volumes

-- what is printed is the volume
pub printed : (definition : Frame) (head : Head) (s : Facts) (i : ℕ) → CanHead definition head
    → i ≤ volumes s
    → merge_text definition head.date head.device i s ≡ volume definition head s i
printed definition head s i can within = whole_volume definition head.date head.device i s
    (λ k. if not (can.heading.moment k) then Some NotMoment
    else (if not (can.device k) then Some NoDevice
    else (if le-ltb (volumes s) i within k then Some (NoVolume (volumes s)) else None)))

module _ (def : List ℕ) (head : Head) (files : List (List ℕ)) (numbers : List ℕ) (s : Sound def)
    (are : AreVolumes def head files numbers) where
  abbrev definition : Frame
  definition = frame_in def

  abbrev all : Facts
  all = held def files

  -- it is accepted, and so its facts are held
  facts_are : (i : ℕ) → Contains numbers i
      → accepted_facts definition (merge_text definition head.date head.device i all)
      ≡ facts (volume definition head all i)
  facts_are i at =
      let text = merge_text definition head.date head.device in
      let text_is = printed definition head all i are.heading ((are.all i).0 at).1 in
      let short : length (volume definition head all i) ≤ max_file =
      subst (λ file. length file ≤ max_file) text_is
      (are.short (text i all) (in_map (λ i. text i all) i numbers at)) in
      ap (accepted_facts definition) text_is
      ∙ accepted definition (volume definition head all i)
      (valid definition head all i (held_keeps def files s) are.heading ((are.all i).0 at).0 short)

  over_volumes : (some : List ℕ) → ((i : ℕ) → Contains some i → Contains numbers i)
      → union_over (accepted_facts definition) (merged def head files some)
      ≡ union_over (λ i. facts (volume definition head all i)) some
  over_volumes [] within = refl
  over_volumes (i ∷ some) within = λ k. union (facts_are i (within i (at_head i some)) k)
      (over_volumes some (λ j at. within j (at_tail i j some at)) k)

  pub hold : held def (merged def head files numbers) ≡ all
  hold =
      let start = starting_content definition in
      let rest = union_over (accepted_facts definition) files in
      ap (union start) (over_volumes numbers (λ i at. at)
      ∙ any_order definition head all numbers (held_keeps def files s) are.heading are.all)
      ∙ (sym (union_assoc fact_total fact_exact start start rest)
      ∙ ap (λ t. union t rest) (union_same fact_total fact_exact start))

pub volumes_hold : VolumesHoldLaw
volumes_hold = hold

pub volumes_text : VolumesTextLaw
volumes_text task def head paths other_paths files numbers all s are =
    same_text task def def other_paths paths (merged def head files numbers) files all s s refl
    (hold def head files numbers s are)

-- ---- votes

pub each_vote : EachVoteLaw
each_vote def files c column s =
    columns_add_up (frame_in def) (held def files) c column (held_keeps def files s)

pub each_ballot : EachBallotLaw
each_ballot def files c s =
    ballots_add_up (frame_in def) (held def files) c (held_keeps def files s)
