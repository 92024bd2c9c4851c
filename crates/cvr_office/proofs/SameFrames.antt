-- The same definitions agree with the same reports, and name the same.
use Rattle.std.proofs.Common.{◌≡◌, codes, sym, subst}
use Rattle.serde_json.specs.Data.{Data}
use Rattle.cdf_parts.specs.Places.{Texts}
use Rattle.cdf_definition.specs.Agreement.{AreListed, Agrees}
use Rattle.cdf_definition.specs.Frame.{Frame, scope_in}
use Rattle.cdf_check.specs.Same.{AreEqualButDevices}

-- they agree with the same reports
pub agrees_alike : (f g : Frame) → AreEqualButDevices f g → (d : Data) → Agrees g d → Agrees f d
agrees_alike f g h d a = record {
  elections = subst (λ es. AreListed es (codes "Election") d) (sym h.elections) a.elections;
  units = subst (λ es. AreListed es (codes "GpUnit") d) (sym h.units) a.units;
  parties = subst (λ es. AreListed es (codes "Party") d) (sym h.parties) a.parties;
}

-- and name the same
pub scope_alike : (f g : Frame) → AreEqualButDevices f g → (devices : Texts)
    → scope_in f devices ≡ scope_in g devices
scope_alike f g h devices = λ i. scope_in (record {
  elections = h.elections i;
  units = h.units i;
  parties = h.parties i;
  devices = f.devices;
  contests = h.contests i;
}) devices
