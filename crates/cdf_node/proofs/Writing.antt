-- Items and members, written one by one: whatever ends the list well behind the next one ends it
-- well before it.
use Rattle.std.proofs.Common.{◌≡◌, ℕ, ◌+◌, ◌<◌, ◌≤◌, List, [], ◌∷◌, ◌++◌, length, drop, get_or}
use Rattle.std.proofs.Common.{refl, sym, ap, ap₂, subst, ◌∙◌, append_assoc}
use Rattle.std.proofs.lemmas.List.{drop_more, drop_all}
use Rattle.json.specs.Token.{Token, end_array, end_object, key}
use Rattle.json.specs.Json as json
use Rattle.json.specs.Tree as tree
use Rattle.serde_json.specs.Data.{Items, Members}
use Rattle.serde_json.specs.Written.{items_outline, members_outline, blank_items, blank_members}
use Rattle.cdf_node.specs.View.{view, items_view, members_view}
use Rattle.cdf_node.specs.Written.{WritesValue}
use Rattle.cdf_node.specs.declared.node.Node.{Node}
use Rattle.cdf_node.proofs.Views.{Entry}

-- with the closing bracket
abbrev pub WritesItems : Items → List Token → List Token → Type 0
WritesItems ds old new = (js : json.Items) × (new ≡ old ++ tree.items_tokens js)
    × (blank_items js ≡ items_outline ds)

-- with the closing brace
abbrev pub WritesMembers : Members → List Token → List Token → Type 0
WritesMembers ds old new = (ms : json.Members) × (new ≡ old ++ tree.members_tokens ms)
    × (blank_members ms ≡ members_outline ds)

module _ (old now end : List Token) where
  pub item_before : (xs : List Node) (i : ℕ) (x : Node) → i < length xs → x ≡ get_or xs i x
      → WritesValue (view x) old now → WritesItems (items_view (drop (i + 1) xs)) now end
      → WritesItems (items_view (drop i xs)) old end
  item_before xs i x within is w rest =
      let here = drop_more xs i x within ∙ ap (λ y. y ∷ drop (i + 1) xs) (sym is) in
      subst (λ ys. WritesItems (items_view ys) old end) (sym here) (
        json.item w.0 rest.0,
        rest.1 ∙ ap (λ ts. ts ++ tree.items_tokens rest.0) w.1
            ∙ append_assoc old _ _,
        ap₂ json.item w.2 rest.2,
      )

  pub member_before : (xs : List Entry) (i : ℕ) (x : Entry) (named : List Token) → i < length xs
      → x ≡ get_or xs i x → named ≡ old ++ key x.0.now ∷ [] → WritesValue (view x.1) named now
      → WritesMembers (members_view (drop (i + 1) xs)) now end
      → WritesMembers (members_view (drop i xs)) old end
  member_before xs i x named within is opened w rest =
      let here = drop_more xs i x within ∙ ap (λ y. y ∷ drop (i + 1) xs) (sym is) in
      subst (λ ys. WritesMembers (members_view ys) old end) (sym here) (
        json.member x.0.now w.0 rest.0,
        rest.1
            ∙ ap (λ ts. ts ++ tree.members_tokens rest.0)
            (w.1 ∙ ap (λ ts. ts ++ tree.json_tokens w.0) opened)
            ∙ append_assoc _ (tree.json_tokens w.0) _
            ∙ append_assoc old (key x.0.now ∷ []) _,
        ap₂ (json.member x.0.now) w.2 rest.2,
      )

  pub items_end : (xs : List Node) (i : ℕ) → length xs ≤ i → end ≡ now ++ end_array ∷ []
      → WritesItems (items_view (drop i xs)) now end
  items_end xs i over closed = subst (λ ys. WritesItems (items_view ys) now end)
      (sym (drop_all i xs over)) (json.no_items, closed, refl)

  pub members_end : (xs : List Entry) (i : ℕ) → length xs ≤ i → end ≡ now ++ end_object ∷ []
      → WritesMembers (members_view (drop i xs)) now end
  members_end xs i over closed = subst (λ ys. WritesMembers (members_view ys) now end)
      (sym (drop_all i xs over)) (json.no_members, closed, refl)
