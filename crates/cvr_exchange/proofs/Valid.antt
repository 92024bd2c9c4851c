-- A volume that is short enough is accepted beside its definition, and beside any that is the same.
use Rattle.std.proofs.Common.{◌≡◌, Bool, true, false, Option, Some, None, refl, sym, ap}
use Rattle.cdf_types.specs.declared.fault.ReadFault.{ReadFault}
use Rattle.cdf_definition.specs.Acceptance.{first_refusal}
use Rattle.cdf_definition.specs.Frame.{Frame, IsSame}
use Rattle.cdf_definition.proofs.Laws.{valid_file}
use Rattle.cdf_check.proofs.Laws.{same_definitions}
use Rattle.cvr_office.proofs.Laws.{agrees_alike}
use Rattle.cvr_report.specs.Volume.{volume}
use Rattle.cvr_exchange.specs.Laws.{ValidLaw, ValidForSameLaw}
use Rattle.cvr_exchange.proofs.Definitions.{of_definition}
use Rattle.cvr_exchange.proofs.Reports.{volume_valid}

abbrev is_none : Option ReadFault → Bool
is_none None = true
is_none (Some fault) = false

none_is : (o : Option ReadFault) → is_none o ≡ true → o ≡ None
none_is None e = refl
none_is (Some fault) e = absurd (Prim.cc e)

pub valid : ValidLaw
valid frame head s i can_hold can pos short =
    (valid_file frame (volume frame head s i)).0
    (none_is (first_refusal frame (volume frame head s i))
    (of_definition frame can_hold.sound (is_none (first_refusal frame (volume frame head s i)))
    (λ d known. ap is_none ((valid_file frame (volume frame head s i)).1
    (volume_valid frame head s i can_hold can pos d known short)))))

same_back : (f g : Frame) → IsSame f g → IsSame g f
same_back f g h =
    record { elections = sym h.elections; units = sym h.units; parties = sym h.parties }

pub valid_for_same : ValidForSameLaw
valid_for_same frame other head s i can_hold can pos short is same =
    let v = valid frame head s i can_hold can pos short in (
      v.0,
      v.1,
      v.2,
      agrees_alike other frame
          (same_definitions other frame is can_hold.sound (same_back frame other same)) v.0 v.3,
    )
