-- What agrees with a definition has its election, and so its contests.
use Rattle.std.proofs.Common.{◌≡◌, ℕ, List, [], ◌∷◌, map, Bool, true, false, cond, Option, Some}
use Rattle.std.proofs.Common.{None, unwrap_or, codes, bytes_eq, sym, ap, ◌∙◌, subst}
use Rattle.std.specs.Prelude.{if◌then◌else◌}
use Rattle.std.specs.Str.{is_utf8}
use Rattle.std.proofs.Math.Logic.{∥∥₁_elim}
use Rattle.std.proofs.Math.Nat.{ℕ_set}
use mathlib.Core.List.{is_set}
use Rattle.serde_json.specs.Data.{Data, null}
use Rattle.serde_json.specs.Read.{read, max_depth}
use Rattle.serde_json.specs.Written.{compact_text}
use Rattle.cdf_form.specs.Reading.{value_of}
use Rattle.cdf_parts.specs.Parts.{array_at, the_election, id_of}
use Rattle.cdf_parts.specs.Places.{contest_of}
use Rattle.cdf_parts.specs.Proper.{IsProper}
use Rattle.cdf_parts.proofs.Laws.{part_proper, listed_part, proper_read, same_text}
use Rattle.cdf_definition.specs.Named.{id_and_text, text_of, by_id}
use Rattle.cdf_definition.specs.Frame.{Frame, frame_of, entries_at}
use Rattle.cdf_definition.specs.Agreement.{AreListed}
use Rattle.cdf_definition.specs.Sound.{IsSound, WasRead}
use Rattle.cdf_definition.specs.Acceptance.{IsReport, Valid, value_in}
use Rattle.cdf_check.specs.Laws.{SameElectionLaw}
use Rattle.cdf_definition.proofs.Laws.{sound}
use Rattle.cdf_definition.proofs.Laws.{one_election}
use Rattle.cdf_definition.proofs.Lemmas.{by_id-put, election_is, election_listed}

-- ---- what was read

read_at : (b : Bool) (o : Option Data) (d : Data) → (if b then o else None) ≡ Some d → o ≡ Some d
read_at true o d e = e
read_at false o d e = absurd (cc)

-- a report that was read is proper
pub proper_report : (bytes : List ℕ) (d : Data) → value_of bytes ≡ Some d → IsReport d
    → IsProper max_depth d
proper_report bytes d is r = proper_read bytes d (read_at (is_utf8 bytes) (read bytes) d is) r.whole

proper_election : (d e : Data) → IsProper max_depth d → array_at (codes "Election") d ≡ e ∷ []
    → IsProper max_depth e
proper_election d e h is =
    part_proper max_depth e d (listed_part (codes "Election") d e (election_listed d e is)) h

-- ---- the definition's text

own_text : (t : Bool) (a b : List ℕ) → cond t (Some a) None ≡ Some b → a ≡ b
own_text true a b e = cc
own_text false a b e = absurd (cc)

-- the only entry has the text of what is listed
only_text : (e0 e : Data) → text_of (by_id (map id_and_text (e0 ∷ []))) (id_of e)
    ≡ Some (compact_text e) → compact_text e0 ≡ compact_text e
only_text e0 e h =
    own_text (bytes_eq (id_of e) (id_of e0)) (compact_text e0) (compact_text e)
    (subst (λ es. text_of es (id_of e) ≡ Some (compact_text e)) (by_id-put (id_and_text e0 ∷ [])) h)

pub same_election : (d0 d e0 e : Data) → IsProper max_depth d0 → IsProper max_depth d
    → array_at (codes "Election") d0 ≡ e0 ∷ [] → array_at (codes "Election") d ≡ e ∷ []
    → AreListed (entries_at (codes "Election") d0) (codes "Election") d → e0 ≡ e
same_election d0 d e0 e g0 g one0 one agree =
    let listed : text_of (by_id (map id_and_text (array_at (codes "Election") d0))) (id_of e)
    ≡ Some (compact_text e) = agree e (election_listed d e one) in
    let here : text_of (by_id (map id_and_text (e0 ∷ []))) (id_of e)
    ≡ Some (compact_text e) = subst
    (λ ds. text_of (by_id (map id_and_text ds)) (id_of e) ≡ Some (compact_text e)) one0 listed
    in
    let p0 = proper_election d0 e0 g0 one0 in
    let p = proper_election d e g one in
    same_text e0 e p0.well p0.whole p0.shallow p.well p.whole p.shallow (only_text e0 e here)

-- so the elections of the two reports are one
pub elections_agree : (d0 d : Data) → WasRead d0 → WasRead d → IsReport d0 → IsReport d
    → AreListed (entries_at (codes "Election") d0) (codes "Election") d
    → the_election d0 ≡ the_election d
elections_agree d0 d w0 w r0 r agree =
    let one0 = one_election d0 r0 in
    let one = one_election d r in
    election_is d0 one0.0 one0.1
    ∙ same_election d0 d one0.0 one.0 (proper_report w0.0 d0 w0.1.1 r0)
    (proper_report w.0 d w.1.1 r) one0.1 one.1 agree
    ∙ sym (election_is d one.0 one.1)

pub value_is : (bytes : List ℕ) (d : Data) → value_of bytes ≡ Some d → value_in bytes ≡ d
value_is bytes d is = ap (λ o. unwrap_or o null) is

module _ (frame : Frame) (bytes : List ℕ) (valid : Valid frame bytes) where
  abbrev Wanted : Type 0
  Wanted =
      frame.contests ≡ map contest_of (array_at (codes "Contest") (the_election (value_in bytes)))

  by_report : (d0 : Data) × WasRead d0 × IsSound d0 × (frame ≡ frame_of d0) → Wanted
  by_report q =
      let d0 = q.0 in
      let d = valid.0 in
      let agree : AreListed (entries_at (codes "Election") d0) (codes "Election") d =
      subst (λ f. AreListed f.elections (codes "Election") d) q.3 valid.3.elections in
      let same = elections_agree d0 d q.1 (bytes, valid.1) ((sound d0).0 q.2) valid.2 agree in
      ap (λ f. f.contests) q.3
      ∙ ap (λ e. map contest_of (array_at (codes "Contest") e))
      (same ∙ ap the_election (sym (value_is bytes d valid.1.1)))

pub contests_agree : SameElectionLaw
contests_agree frame bytes is valid =
    ∥∥₁_elim is (hlevel (ℕ_set, is_set)) (by_report frame bytes valid)
