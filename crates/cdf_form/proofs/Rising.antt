-- Items whose texts under a key rise: none of them was seen before.
use Rattle.std.proofs.Common.{◌≡◌, ℕ, suc, ◌+◌, List, [], ◌∷◌, ◌++◌, length, get_or, Bool, true}
use Rattle.std.proofs.Common.{false, Option, Some, None, is_eq, nat_cmp, bytes_eq, refl, sym, ap}
use Rattle.std.proofs.Common.{subst, ◌∙◌, arith}
use Rattle.std.specs.Prelude.{⊤, if◌then◌else◌}
use Rattle.std.specs.Bool.{OnTrue}
use Rattle.std.specs.List.{list_any, AllAdjacentBelow, IsAllAdjacentAnswer}
use Rattle.std.specs.Cmp.Lexicographic.{slice_cmp}
use Rattle.std.proofs.lemmas.Cmp.{nat_list_cmp_total}
use Rattle.std.proofs.lemmas.Map.Text.{is_eq-slice_cmp}
use Rattle.cdf_node.specs.Order.{Before}
use Rattle.cdf_node.specs.View.{view, items_view}
use Rattle.cdf_node.specs.declared.node.Node.{Node}
use Rattle.cdf_form.specs.declared.table.Key.{Key}
use Rattle.cdf_form.specs.declared.table.Key.TheVariants as key
use Rattle.cdf_form.specs.declared.table.Leaf.{Leaf}
use Rattle.cdf_form.specs.declared.table.Kind.TheVariants.{One}
use Rattle.cdf_form.specs.Form.{Fault, at_item, under, faults, items_faults, key_text, is_among}
use Rattle.cdf_form.specs.Form.{add_text}
use Rattle.cdf_form.specs.Seen.{is_in_turn}
use Rattle.cdf_form.proofs.Walking.{less}

-- each of the texts stands before this one
abbrev AllBefore : List (List ℕ) → List ℕ → Type 0
AllBefore [] s = ⊤
AllBefore (x ∷ xs) s = Before x s × AllBefore xs s

all_before : (xs : List (List ℕ)) (s t : List ℕ) → Before s t → AllBefore xs s → AllBefore xs t
all_before [] s t b h = tt
all_before (x ∷ xs) s t b h = (nat_list_cmp_total.trans x s t h.0 b, all_before xs s t b h.1)

not_among : (xs : List (List ℕ)) (s : List ℕ) → AllBefore xs s
    → list_any (λ t. bytes_eq t s) xs ≡ false
not_among [] s h = refl
not_among (x ∷ xs) s h =
    let other : bytes_eq x s ≡ false = sym (is_eq-slice_cmp x s) ∙ ap is_eq h.0 in
    rw (other, not_among xs s h.1) refl

-- and of an item with no text nothing is said
abbrev Behind : List (List ℕ) → Option (List ℕ) → Type 0
Behind xs None = ⊤
Behind xs (Some s) = AllBefore xs s

nothing : (o : Option (List ℕ)) → Behind [] o
nothing None = tt
nothing (Some s) = tt

unmarked : (k : Key) (o : Option (List ℕ)) (xs : List (List ℕ)) → Behind xs o
    → (if is_among o xs then k else key.Free) ≡ key.Free
unmarked k None xs h = refl
unmarked k (Some s) xs h = rw (not_among xs s h) refl

next_behind : (o p : Option (List ℕ)) (xs : List (List ℕ)) → is_in_turn o p ≡ true → Behind xs o
    → Behind (add_text o xs) p
next_behind None p xs e h = absurd cc
next_behind (Some s) None xs e h = absurd cc
next_behind (Some s) (Some t) xs e h =
    let b : Before s t = less (slice_cmp nat_cmp s t) e in
    (b, all_before xs s t b h)

abbrev pub in_turn : Key → Node → Node → Bool
in_turn k v w = is_in_turn (key_text k (view v)) (key_text k (view w))

unrepeated : (vs : List Node) (v : Node) (l : Leaf) (k : Key) (i : ℕ) (xs : List (List ℕ))
    → Behind xs (key_text k (view v))
    → AllAdjacentBelow (λ v w. true ≡ in_turn k v w) (v ∷ vs) (length (v ∷ vs))
    → items_faults (items_view (v ∷ vs)) l k i xs
    ≡ items_faults (items_view (v ∷ vs)) l key.Free i []
unrepeated [] v l k i xs h turn =
    ap (λ (m : Key). under (at_item i) (faults (view v) (One l) m) ++ [])
    (unmarked k (key_text k (view v)) xs h)
unrepeated (w ∷ vs) v l k i xs h turn =
    let seen = add_text (key_text k (view v)) xs in
    let first : is_in_turn (key_text k (view v)) (key_text k (view w)) ≡ true =
    sym (turn 0 v (omega arith)) in
    let rest = unrepeated vs w l k (i + 1) seen
    (next_behind (key_text k (view v)) (key_text k (view w)) xs first h)
    (λ j d lt. let next : suc j + 1 ≡ suc (j + 1) = omega arith in
    subst (λ n. true ≡ in_turn k (get_or (w ∷ vs) j d) (get_or (v ∷ w ∷ vs) n d)) next
    (turn (suc j) d (omega (arith, lt)))) in
    ap (λ (m : Key). under (at_item i) (faults (view v) (One l) m)
    ++ items_faults (items_view (w ∷ vs)) l k (i + 1) seen)
    (unmarked k (key_text k (view v)) xs h)
    ∙ ap (λ (fs : List Fault). under (at_item i) (faults (view v) (One l) key.Free) ++ fs) rest

unrepeated_all : (vs : List Node) (l : Leaf) (k : Key)
    → AllAdjacentBelow (λ v w. true ≡ in_turn k v w) vs (length vs)
    → items_faults (items_view vs) l k 0 [] ≡ items_faults (items_view vs) l key.Free 0 []
unrepeated_all [] l k turn = refl
unrepeated_all (v ∷ vs) l k turn =
    unrepeated vs v l k 0 [] (nothing (key_text k (view v))) turn

pub rise_answer : (vs : List Node) (k : Key) (r : Bool)
    → IsAllAdjacentAnswer (λ v w b. b ≡ in_turn k v w) vs r
    → OnTrue r ((l : Leaf) → items_faults (items_view vs) l k 0 []
    ≡ items_faults (items_view vs) l key.Free 0 [])
rise_answer vs k true turn = λ l. unrepeated_all vs l k turn
rise_answer vs k false turn = tt
