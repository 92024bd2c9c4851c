-- A stable sort by names leaves what members are put in order.
use Rattle.std.proofs.Common.{◌≡◌, ℕ, List, [], ◌∷◌, Bool, true, false, cond, not, ◌&&◌, Option}
use Rattle.std.proofs.Common.{None, Some, Ordering, is_eq, nat_cmp, refl, sym}
use Rattle.std.proofs.Common.{ap, ◌∙◌, arith}
use Rattle.std.specs.Cmp.Lexicographic.{slice_cmp}
use Rattle.std.specs.FinMap.{slice_cmp-IsAntisymmetric, nat_cmp-IsAntisymmetric}
use Rattle.std.specs.FinMap.Entries.{by_order, put, find, is_sorted, is_sorted-put, find-put}
use Rattle.std.specs.FinMap.Entries.{same_entries}
use Rattle.std.specs.List.{fold, filter}
use Rattle.std.specs.List.Sorted.{ties, IsStableBy}
use Rattle.std.specs.Ordering.{match_ordering, is_lt, ordering_reverse}
use Rattle.std.specs.Prelude.{T}
use Rattle.std.proofs.lemmas.Cmp.{nat_list_cmp_total}
use Rattle.serde_json.specs.Data as data_of
use Rattle.serde_json.specs.Data.{Data, Members, no_members, member}
use Rattle.cdf_node.specs.Order.{in_order}
use Rattle.cdf_node.specs.View.{view}
use Rattle.cdf_node.specs.declared.node.Node as made
use Rattle.cdf_node.proofs.Views.{Entry}

abbrev order : List ℕ → List ℕ → Ordering
order = slice_cmp nat_cmp

-- ---- members as a list of names with their values

abbrev of_pairs : List (List ℕ × Data) → Members
of_pairs [] = no_members
of_pairs (p ∷ ps) = member p.0 p.1 (of_pairs ps)

of_pairs_at : (o : Ordering) (a b c : List (List ℕ × Data))
    → of_pairs (by_order o a b c) ≡ match_ordering o (of_pairs a) (of_pairs b) (of_pairs c)
of_pairs_at o a b c = grind arith

of_pairs-put : (k : List ℕ) (d : Data) (ps : List (List ℕ × Data))
    → of_pairs (put order k d ps) ≡ data_of.put k d (of_pairs ps)
of_pairs-put k d [] = refl
of_pairs-put k d (p ∷ ps) = of_pairs_at (order k p.0) _ _ _ ∙ rw (of_pairs-put k d ps) refl

abbrev place : List (List ℕ × Data) → Entry → List (List ℕ × Data)
place ps e = put order e.0.now (view e.1) ps

placed : (es : List Entry) (ps : List (List ℕ × Data))
    → fold (λ ms e. data_of.put e.0.now (view e.1) ms) (of_pairs ps) es
    ≡ of_pairs (fold place ps es)
placed [] ps = refl
placed (e ∷ es) ps = ap (λ ms. fold (λ ms e. data_of.put e.0.now (view e.1) ms) ms es)
    (sym (of_pairs-put e.0.now (view e.1) ps)) ∙ placed es (place ps e)

rising : (es : List Entry) (ps : List (List ℕ × Data)) → T (is_sorted order ps)
    → T (is_sorted order (fold place ps es))
rising [] ps h = h
rising (e ∷ es) ps h =
    rising es (place ps e) (is_sorted-put order nat_list_cmp_total e.0.now (view e.1) ps h)

-- ---- what stands at a name is the last of that name

abbrev lt : Entry → Entry → Bool
lt e f = is_lt (order e.0.now f.0.now)

abbrev named : List ℕ → Entry
named q = (record { ref_ptr = (0, 0); now = q }, made.Null)

tied_at : (o : Ordering) → (not (is_lt o) && not (is_lt (ordering_reverse o))) ≡ is_eq o
tied_at o = grind arith

tied : (k l : List ℕ) → (not (is_lt (order k l)) && not (is_lt (order l k))) ≡ is_eq (order k l)
tied k l = ap (λ o. not (is_lt (order k l)) && not (is_lt o)) (nat_list_cmp_total.antisymm l k)
    ∙ tied_at (order k l)

abbrev last : Option Data → List Entry → Option Data
last o es = fold (λ o e. Some (view e.1)) o es

taken : (b : Bool) (o : Option Data) (e : Entry) (es : List Entry)
    → last (cond b (Some (view e.1)) o) es ≡ last o (cond b (e ∷ es) es)
taken true o e es = refl
taken false o e es = refl

found : (q : List ℕ) (es : List Entry) (ps : List (List ℕ × Data))
    → find order q (fold place ps es) ≡ last (find order q ps) (filter (ties lt (named q)) es)
found q [] ps = refl
found q (e ∷ es) ps =
    found q es (place ps e)
    ∙ ap (λ o. last o (filter (ties lt (named q)) es))
    (find-put order nat_list_cmp_total q e.0.now (view e.1) ps
    ∙ ap (λ b. cond b (Some (view e.1)) (find order q ps)) (sym (tied q e.0.now)))
    ∙ taken (ties lt (named q) e) (find order q ps) e (filter (ties lt (named q)) es)

pub in_order-stable : (xs ys : List Entry)
    → IsStableBy (λ e f. is_lt (slice_cmp nat_cmp e.0.now f.0.now)) xs ys
    → in_order ys ≡ in_order xs
in_order-stable xs ys h =
    let same = same_entries order nat_list_cmp_total
    (slice_cmp-IsAntisymmetric nat_cmp-IsAntisymmetric) (fold place [] ys) (fold place [] xs)
    (rising ys [] tt) (rising xs [] tt)
    (λ q. found q ys [] ∙ ap (last None) (h (named q)) ∙ sym (found q xs [])) in
    placed ys [] ∙ ap of_pairs same ∙ sym (placed xs [])
