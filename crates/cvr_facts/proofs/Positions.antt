-- Which positions count, and which are pending.
use Rattle.std.proofs.Common.{◌≡◌, Bool, true, false, ◌&&◌, Option, refl, sym, ap, ◌∙◌}
use Rattle.std.proofs.Common.{true≢false, arith}
use Rattle.std.proofs.lemmas.Bool.{and_parts}
use Rattle.std.specs.Option.{option_map_or}
use Rattle.cdf_types.specs.declared.mark.Indication.{Indication}
use Rattle.cdf_types.specs.declared.mark.Indication.TheVariants as indication
use Rattle.cdf_types.specs.declared.mark.Allocation.{Allocation}
use Rattle.cvr_facts.specs.Sums.{is_marked, is_allowed, is_unsettled}
use Rattle.cvr_facts.specs.SumLaws.{EitherLaw, MarkedLaw, UnsetLaw}

apart_at : (o : Option Allocation) (b : Bool) → option_map_or is_allowed o b ≡ true
    → (option_map_or is_unsettled o false && b) ≡ false
apart_at o b h = grind (arith, true≢false)

pub apart : EitherLaw
apart p counted = apart_at p.allocation (is_marked p.indication) counted

marked_is : (i : Indication) → is_marked i ≡ true → i ≡ indication.Yes
marked_is indication.No h = absurd (true≢false (sym h))
marked_is indication.Unknown h = absurd (true≢false (sym h))
marked_is indication.Yes h = refl

pub marked : MarkedLaw
marked p pending = marked_is p.indication
    (and_parts (option_map_or is_unsettled p.allocation false) (is_marked p.indication) pending).1

pub absent : UnsetLaw
absent p none = (
  λ counted. marked_is p.indication (ap (λ o. option_map_or is_allowed o (is_marked p.indication))
      (sym none) ∙ counted),
  λ is. ap (λ o. option_map_or is_allowed o (is_marked p.indication)) none ∙ ap is_marked is,
)
