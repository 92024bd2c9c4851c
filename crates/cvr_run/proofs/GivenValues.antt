-- Files of one value, beside one that is refused.
use Rattle.std.proofs.Common.{◌≡◌, ℕ, zero, suc, List, [], ◌∷◌, Some, None, refl, sym, ◌∙◌, arith}
use Rattle.serde_json.specs.Data.{Data}
use Rattle.cdf_types.specs.declared.fault.ReadFault.{ReadFault}
use Rattle.cdf_definition.specs.Frame.{Frame}
use Rattle.cdf_definition.specs.Acceptance.{first_refusal, value_in}
use Rattle.cdf_definition.proofs.Laws.{valid_file}
use Rattle.cvr_run.specs.Laws.{HasAccepted, HaveSameValues}
use Rattle.cvr_run.proofs.Members.{HasPlace, placed}

module _ (definition : Frame) (one other refused : List ℕ) (fault : ReadFault)
    (none : first_refusal definition one ≡ None)
    (none_other : first_refusal definition other ≡ None)
    (some : first_refusal definition refused ≡ Some fault)
    (same : value_in one ≡ value_in other) where
  there : (v : Data) → HasPlace definition (one ∷ refused ∷ []) v
      → HasAccepted definition (other ∷ other ∷ []) v
  there v (zero, below, valid, is) = (
    other,
    (0, omega arith, refl),
    (valid_file definition other).0
        none_other,
    sym same ∙ is,
  )
  there v (suc zero, below, valid, is) =
      let clash = sym some ∙ (valid_file definition refused).1 valid in absurd (Prim.cc clash)
  there v (suc (suc f), below, valid, is) = absurd (omega (arith, below))

  back : (v : Data) → HasPlace definition (other ∷ other ∷ []) v
      → HasAccepted definition (one ∷ refused ∷ []) v
  back v (zero, below, valid, is) = (
    one,
    (0, omega arith, refl),
    (valid_file definition one).0
        none,
    same ∙ is,
  )
  back v (suc zero, below, valid, is) =
      (one, (0, omega arith, refl), (valid_file definition one).0 none, same ∙ is)
  back v (suc (suc f), below, valid, is) = absurd (omega (arith, below))

  pub same_values : HaveSameValues definition (one ∷ refused ∷ []) (other ∷ other ∷ [])
  same_values v = (
    λ has. there v (placed definition (one ∷ refused ∷ []) v has),
    λ has.
        back v (placed definition (other ∷ other ∷ []) v has),
  )
