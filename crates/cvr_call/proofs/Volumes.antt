-- A volume in a room, or why there is none.
use Rattle.std.proofs.Common.{◌≡◌, ◌≢◌, ◌⊎◌, ◌++◌, ℕ, List, [], true, false, Option, Some, None}
use Rattle.std.proofs.Common.{IsUtf8, MatchOption, arith, inl, inr, subst}
use Rattle.std.specs.Prelude.{nat_lt, option_map}
use Rattle.std.specs.Str.{is_utf8}
use Rattle.std.proofs.lemmas.Bool.{false_from_ne_true}
use Rattle.std.proofs.lemmas.Bool.Decides.{nat_tests}
use Rattle.std.proofs.lemmas.Str.{IsUtf8-from_is_utf8, is_utf8-from_IsUtf8}
use Rattle.cvr_run.specs.Merge.{merge_fault}
use Rattle.cvr_run.specs.Printing.{merge_part}
use Rattle.cvr_run.specs.declared.merge.MergeFault.{MergeFault}
use Rattle.cvr_run.specs.declared.printing.PrintFault.{PrintFault}
use Rattle.cvr_run.specs.declared.printing.PrintFault.TheVariants.{Merge, Device, Memory}
use Rattle.cvr_cached.specs.Held.{Holding}
use Rattle.cvr_call.specs.Offices.{Shows}
use Rattle.cvr_call.specs.Left.{no_memory}
use Rattle.cvr_call.specs.Volume.{ShowsOr, merge_status, volume_status}

pub no_text : (bytes : List ℕ) → ¬ IsUtf8 bytes → is_utf8 bytes ≡ false
no_text bytes bad = false_from_ne_true (is_utf8 bytes) (λ is. bad (IsUtf8-from_is_utf8 bytes is))

from_one : (number : ℕ) → number ≢ 0 → nat_lt 0 number ≡ true
from_one number above = grind (arith, nat_tests)

-- with words of a merge only the merge can have a fault
pub words : (office : Holding) (date device : List ℕ) (number : ℕ) → IsUtf8 date → IsUtf8 device
    → number ≢ 0 → volume_status office date device number ≡ option_map merge_status
    (merge_fault office.content.frame date device number office.content.facts)
words office date device number is_date is_device above = rw (
  is_utf8-from_IsUtf8 date is_date,
  is_utf8-from_IsUtf8 device is_device,
  from_one number above,
)

-- what `merge` prints into memory, by its fault and its text
module _ (fault : Option MergeFault) (text : List ℕ) where
  pub no_volume : (e : PrintFault) (room : List ℕ) (size status : ℕ)
      → (e ≢ Memory → fault ≡ merge_part e)
      → MatchOption (merge_part e) (status ≡ no_memory) (λ f. status ≡ merge_status f)
      → (status ≡ no_memory) ⊎ ShowsOr (option_map merge_status fault) text room room size status
  no_volume (Merge f) room size status is answers = inr (rw (is (λ same. cc)) answers)
  no_volume Device room size status is answers = inl answers
  no_volume Memory room size status is answers = inl answers

  pub volume_shown : (before after old new : List ℕ) (size status : ℕ) → fault ≡ None
      → before ≡ [] → Some after ≡ Some (before ++ text) → Shows after old new size status
      → (status ≡ no_memory) ⊎ ShowsOr (option_map merge_status fault) text old new size status
  volume_shown before after old new size status none empty is shows =
      let same : after ≡ [] ++ text = cc in
      rw none (inr (subst (λ t. Shows t old new size status) same shows))
