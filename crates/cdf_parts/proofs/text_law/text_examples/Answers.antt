use Rattle.std.proofs.Common.{◌≡◌, ℕ, slice_index, codes, Option, Some, None, Greater, Less, refl}
use Rattle.std.proofs.Common.{ap, arith}
use Rattle.std.specs.Fmt.{digits}
use Rattle.serde_json.specs.Data.{Data, null, boolean, number, string, array, object, no_members}
use Rattle.serde_json.specs.Data.{member}
use Rattle.serde_json.proofs.OnLiterals.{serde_json_on_literals}
use Rattle.cdf_parts.specs.Proper.{IsWell}
use Rattle.cdf_parts.specs.PartOf.{itself, of_member, of_item}
use Rattle.cdf_parts.specs.TextExamples.{report, cvr_members, snapshot}
use Rattle.cdf_parts.proofs.text_law.text_examples.Goals as goal

snapshot_well : IsWell snapshot
snapshot_well = (tt, (refl, tt), (omega arith, tt, tt))

cvr_well : IsWell (object cvr_members)
cvr_well = ((snapshot_well, tt), (refl, tt), (tt, tt, tt))

pub returns-clause-report : goal.returns-clause-report
unfolding serde_json_on_literals digits
returns-clause-report c =
    (record { well = ((cvr_well, tt), tt, tt); whole = refl; shallow = omega arith }, refl, refl)

pub returns-clause-spelling : goal.returns-clause-spelling
unfolding serde_json_on_literals
returns-clause-spelling c = refl

pub returns-clause-part : goal.returns-clause-part
unfolding serde_json_on_literals
returns-clause-part c = (
  (0, omega arith, refl),
  (0, omega arith, refl),
  of_member (codes "CVR") report _ refl (
      of_item 0 _ (object cvr_members) refl (
      of_member (codes "CVRSnapshot") (object cvr_members) _ refl
      (of_item 0 _ snapshot refl itself))),
  refl,
)

pub returns-clause-removing : goal.returns-clause-removing
returns-clause-removing c = (refl, refl)

-- the first byte of an object's first name
first_byte : Option Data → ℕ
first_byte None = 0
first_byte (Some null) = 0
first_byte (Some (boolean b)) = 0
first_byte (Some (number n)) = 0
first_byte (Some (string s)) = 0
first_byte (Some (array ds)) = 0
first_byte (Some (object no_members)) = 0
first_byte (Some (object (member k d ms))) = slice_index k 0

apart : ◌≡◌ {A = ℕ} 97 98 → ⊥
apart e = omega (arith, e)

not_less : Greater ≡ Less → ⊥
not_less e = cc

pub returns-clause-unordered : goal.returns-clause-unordered
unfolding serde_json_on_literals digits first_byte
returns-clause-unordered c = (λ h. not_less h.1.0, λ e. apart (ap first_byte e))

pub returns-clause-repeated : goal.returns-clause-repeated
unfolding serde_json_on_literals
returns-clause-repeated c = refl

pub returns-clause-float : goal.returns-clause-float
unfolding serde_json_on_literals
returns-clause-float c = (refl, refl, refl)
