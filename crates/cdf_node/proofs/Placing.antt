-- Members as they stand in a file, put in order.
use Rattle.std.proofs.Common.{◌≡◌, ℕ, suc, ◌+◌, ◌<◌, List, [], ◌∷◌, ◌++◌, length, take, get_or, Bor}
use Rattle.std.proofs.Common.{Bool, true, false, Ordering, Less, nat_cmp, refl, sym}
use Rattle.std.proofs.Common.{ap, subst, ◌∙◌, append_assoc, append-nil, arith}
use Rattle.std.specs.Bool.{OnTrue}
use Rattle.std.specs.BTreeMap.{insert_entry}
use Rattle.std.specs.Cmp.Lexicographic.{slice_cmp}
use Rattle.std.specs.List.{fold, AllAdjacentBelow, IsAllAdjacentAnswer}
use Rattle.std.specs.Ordering.{match_ordering, is_lt}
use Rattle.std.proofs.lemmas.List.Sums.{fold_more}
use Rattle.serde_json.specs.Data.{Members, no_members, member, put}
use Rattle.cdf_node.specs.Order.{Before, Below, Rises, in_order}
use Rattle.cdf_node.specs.View.{view, members_view}
use Rattle.cdf_node.specs.declared.node.Node.{Node}
use Rattle.cdf_node.proofs.Sorting.{Below-trans, reversed}
use Rattle.cdf_node.proofs.Views.{Entry}

-- in the map: the names in order of their bytes
abbrev pub by_bytes : Bor (List ℕ) → Bor (List ℕ) → Ordering
by_bytes k l = slice_cmp nat_cmp k.now l.now

viewed : (o : Ordering) (a b c : List Entry)
    → members_view (match_ordering o a b c)
    ≡ match_ordering o (members_view a) (members_view b) (members_view c)
viewed o a b c = grind arith

pub members_view-insert_entry : (es : List Entry) (k : Bor (List ℕ)) (v : Node)
    → members_view (insert_entry by_bytes es k v) ≡ put k.now (view v) (members_view es)
members_view-insert_entry [] k v = refl
members_view-insert_entry (f ∷ es) k v =
    viewed (by_bytes k f.0) _ _ _ ∙ rw (members_view-insert_entry es k v) refl

-- one member more
pub placed_more : (found : List Entry) (i : ℕ) (e : Entry) (old new : List Entry) → i < length found
    → e ≡ get_or found i e → members_view old ≡ in_order (take i found)
    → new ≡ insert_entry by_bytes old e.0 e.1 → members_view new ≡ in_order (take (i + 1) found)
placed_more found i e old new within is same grown =
    let place = λ (ms : Members) (f : Entry). put f.0.now (view f.1) ms in
    ap members_view grown ∙ members_view-insert_entry old e.0 e.1 ∙ ap (put e.0.now (view e.1)) same
    ∙ ap (place (in_order (take i found))) is
    ∙ sym (fold_more place no_members found i e within)

-- ---- names that rise

within : (k : List ℕ) (done : List Entry) (e : Entry) (more : List Entry)
    → Below k (members_view (done ++ e ∷ more)) → Before k e.0.now
within k [] e more h = h.0
within k (f ∷ done) e more h = within k done e more h.1

-- a name that comes after those before it goes last
put_last : (done : List Entry) (e : Entry) (more : List Entry)
    → Rises (members_view (done ++ e ∷ more))
    → put e.0.now (view e.1) (members_view done) ≡ members_view (done ++ e ∷ [])
put_last [] e more h = refl
put_last (f ∷ done) e more h = rw (reversed e.0.now f.0.now (within f.0.now done e more h.0))
    (ap (member f.0.now (view f.1)) (put_last done e more h.1))

placed_behind : (done es : List Entry) → Rises (members_view (done ++ es))
    → fold (λ ms e. put e.0.now (view e.1) ms) (members_view done) es ≡ members_view (done ++ es)
placed_behind done [] h = ap members_view (sym (append-nil done))
placed_behind done (e ∷ es) h =
    let same : (done ++ e ∷ []) ++ es ≡ done ++ e ∷ es = append_assoc done (e ∷ []) es in
    ap (λ ms. fold (λ ms e. put e.0.now (view e.1) ms) ms es) (put_last done e es h)
    ∙ placed_behind (done ++ e ∷ []) es (subst (λ xs. Rises (members_view xs)) (sym same) h)
    ∙ ap members_view same

-- members that rise are in order
pub placed_rising : (es : List Entry) → Rises (members_view es) → in_order es ≡ members_view es
placed_rising es h = placed_behind [] es h

abbrev pub is_before : Entry → Entry → Bool
is_before e f = is_lt (slice_cmp nat_cmp e.0.now f.0.now)

before_is : (k l : List ℕ) (o : Ordering) → slice_cmp nat_cmp k l ≡ o → true ≡ is_lt o → o ≡ Less
before_is k l o is e = grind arith

pub rises_each : (es : List Entry) → AllAdjacentBelow (λ e f. true ≡ is_before e f) es (length es)
    → Rises (members_view es)
rises_each [] h = tt
rises_each (e ∷ []) h = (tt, tt)
rises_each (e ∷ f ∷ es) h =
    let first : Before e.0.now f.0.now = before_is e.0.now f.0.now _ refl (h 0 e (omega arith)) in
    let rest = rises_each (f ∷ es) (λ k d less. let next : suc k + 1 ≡ suc (k + 1) = omega arith in
    subst (λ n. true ≡ is_before (get_or (f ∷ es) k d) (get_or (e ∷ f ∷ es) n d)) next
    (h (suc k) d (omega (arith, less)))) in
    ((first, Below-trans e.0.now f.0.now (members_view es) first rest.0), rest)

pub rises_answer : (es : List Entry) (r : Bool)
    → IsAllAdjacentAnswer (λ e f b. b ≡ is_before e f) es r → OnTrue r (Rises (members_view es))
rises_answer es true h = rises_each es h
rises_answer es false h = tt
