-- An object whose array was filled in, and the law that what is left of a value and its items are
-- the value together.
use Rattle.std.proofs.Common.{◌≡◌, inl, inr, ℕ, List, Bool, true, false, bytes_eq, Option, None}
use Rattle.std.proofs.Common.{Some, option_map, refl, sym, ap, subst, ◌∙◌}
use Rattle.std.specs.Prelude.{if◌then◌else◌}
use Rattle.std.proofs.lemmas.Bool.{or_from, or_parts}
use Rattle.serde_json.specs.Data.{Data, array, object, Items, no_items, Members, no_members, member}
use Rattle.serde_json.specs.Find.{get_member}
use Rattle.serde_json.specs.Written.{has_float, items_have_float, members_have_float}
use Rattle.cdf_node.specs.Order.{Rises}
use Rattle.cdf_pull.specs.Fold.{items_found, items_under, without_items, emptied_at, with_items_at}
use Rattle.cdf_pull.specs.Fold.{left_beside, IsOrdered}
use Rattle.cdf_pull.specs.Laws.{IsBeside}
use Rattle.cdf_pull.proofs.Folding.{changed_twice, found_changed, found_unchanged, items_of-list_of}
use Rattle.cdf_pull.proofs.Folding.{Rises-with_value_at, unchanged}

-- ---- an object whose array was filled in

-- the other names have what they had
pub found_other : (name : List ℕ) (ds : Items) (q : List ℕ) (ms : Members) → bytes_eq q name ≡ false
    → get_member q (with_items_at name ds ms) ≡ get_member q ms
found_other name ds q ms other = found_unchanged name (λ _. array ds) q ms other

-- and the name has the array, where it has anything
pub found_here : (name : List ℕ) (ds : Items) (ms : Members)
    → get_member name (with_items_at name ds ms) ≡ option_map (λ _. array ds) (get_member name ms)
found_here name ds ms = found_changed name (λ _. array ds) ms

filled_whole : (b : Bool) (ds : Items) (e : Data) → items_have_float ds ≡ false
    → has_float e ≡ false → has_float (if b then array ds else e) ≡ false
filled_whole true ds e p q = p
filled_whole false ds e p q = q

-- no fraction comes in
pub filled_is_whole : (name : List ℕ) (ds : Items) (ms : Members) → items_have_float ds ≡ false
    → members_have_float ms ≡ false → members_have_float (with_items_at name ds ms) ≡ false
filled_is_whole name ds no_members p q = refl
filled_is_whole name ds (member l e ms) p q =
    let parts = or_parts (has_float e) (members_have_float ms) q in
    or_from _ _ (filled_whole (bytes_eq l name) ds e p parts.0)
    (filled_is_whole name ds ms p parts.1)

-- ---- what is left of a value, and its items

beside_at : (name : List ℕ) (ms : Members) (o : Option Data) → Rises ms → get_member name ms ≡ o
    → IsBeside name (object ms) (items_found o) (object (emptied_at name ms))
beside_at name ms (Some (array ds)) h e =
    let left = emptied_at name ms in
    let found : get_member name left ≡ Some (array no_items) =
    found_changed name without_items ms ∙ ap (option_map without_items) e in
    let empty = unchanged name (λ _. array no_items) left
    (subst (λ T. T) (sym (Rises-with_value_at name without_items ms)) h) (λ x is. cc) in
    let again = changed_twice name without_items (λ _. array ds) ms
    ∙ unchanged name (λ _. array ds) ms h (λ x is. cc) in
    inr (
      left,
      refl,
      found,
      empty,
      ap object (sym again)
          ∙ ap (λ es. object (with_items_at name es left)) (sym (items_of-list_of ds)),
    )
beside_at name ms None h e =
    inl (ap object (unchanged name without_items ms h (λ x is. cc)), refl, λ ds is. cc)
beside_at name ms (Some d) h e = inl (
  ap object
      (unchanged name without_items ms h (λ x is. let same : d ≡ x = cc in
      ap without_items (sym same) ∙ same)),
  refl,
  λ ds is. cc,
)

pub beside : (name : List ℕ) (d : Data) → IsOrdered d
    → IsBeside name d (items_under name d) (left_beside name d)
beside name (object ms) h = beside_at name ms (get_member name ms) h refl
beside name d h = inl (refl, refl, λ ds is. cc)
