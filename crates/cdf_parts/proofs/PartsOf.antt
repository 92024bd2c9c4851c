-- The items of an array under a name.
use Rattle.std.proofs.Common.{◌≡◌, List, [], ◌∷◌, map, Option, Some, None, option_map, Bor, refl}
use Rattle.std.proofs.Common.{sym, ap, ◌∙◌}
use Rattle.std.specs.Prelude.{unwrap_or}
use Rattle.std.specs.Option.{UnwrapsOrElse}
use Rattle.cdf_node.specs.View.{view, items_view}
use Rattle.cdf_node.specs.declared.node.Node.{Node}
use Rattle.cdf_node.specs.Items.{list_of}

list_of-items_view : (vs : List Node) → list_of (items_view vs) ≡ map view vs
list_of-items_view [] = refl
list_of-items_view (v ∷ vs) = ap (λ xs. view v ∷ xs) (list_of-items_view vs)

-- the items that were found, or none
pub items_or_none : (o : Option (Bor (List Node))) (r : Bor (List Node))
    → UnwrapsOrElse o (λ x. x.now ≡ []) r
    → map view r.now ≡ unwrap_or (option_map list_of (option_map (λ v. items_view v.now) o)) []
items_or_none None r h = ap (map view) h
items_or_none (Some v) r h = ap (λ x. map view x.now) h ∙ sym (list_of-items_view v.now)
