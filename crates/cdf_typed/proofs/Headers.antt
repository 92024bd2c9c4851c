-- A record without its snapshots and the name of the current one.
use Rattle.std.proofs.Common.{◌≡◌, ℕ, suc, ◌+◌, ◌≤◌, List, [], ◌∷◌, ◌++◌, length, Bool, true, false}
use Rattle.std.proofs.Common.{not, cond, Some, None, option_map, bytes_eq, codes, nat_cmp, Ordering}
use Rattle.std.proofs.Common.{is_eq, Bor, refl, sym, ap, ap₂, ◌∙◌, rules, append-nil}
use Rattle.std.proofs.Common.{arith}
use Rattle.std.specs.Prelude.{unwrap_or}
use Rattle.std.specs.List.{prefix_len, position, remove}
use Rattle.std.specs.Ordering.{match_ordering}
use Rattle.std.specs.Cmp.Lexicographic.{slice_cmp}
use Rattle.std.proofs.lemmas.Bool.{ltb-false}
use Rattle.std.proofs.lemmas.List.{take_all, drop_all}
use Rattle.std.proofs.lemmas.Map.Text.{is_eq-slice_cmp}
use Rattle.serde_json.specs.Data.{Data, null, object, Members}
use Rattle.serde_json.specs.Data.{member}
use Rattle.serde_json.specs.Find.{as_object}
use Rattle.serde_json.specs.Written.{has_float}
use Rattle.cdf_node.specs.View.{view, members_view}
use Rattle.cdf_node.specs.declared.node.Node as made
use Rattle.cdf_node.specs.declared.node.Node.{Node}
use Rattle.cdf_parts.specs.Removing.{without}
use Rattle.cdf_parts.proofs.Laws.{whole-without}
use Rattle.cdf_typed.specs.Typed.{header_of}

abbrev pub Entry : Type 0
Entry = Bor (List ℕ) × Node

-- ---- a member taken out

without_at : (o : Ordering) (a b : Members) → match_ordering o a b a ≡ cond (is_eq o) b a
without_at o a b = grind arith

removed_at : (b : Bool) (e : Entry) (es : List Entry) (k : ℕ) (rest : Members)
    → members_view (remove es k) ≡ rest
    → members_view (remove (e ∷ es) (cond (not b) (1 + k) 0))
    ≡ cond b (members_view es) (member e.0.now (view e.1) rest)
removed_at true e es k rest h = refl
removed_at false e es k rest h = let one : 1 + k ≡ suc k = omega arith in
    ap (λ n. members_view (remove (e ∷ es) n)) one ∙ ap (member e.0.now (view e.1)) h

removed : (name : List ℕ) (es : List Entry)
    → members_view (remove es (prefix_len (λ e. not (bytes_eq name e.0.now)) es))
    ≡ without name (members_view es)
removed name [] = refl
removed name (e ∷ es) =
    removed_at (bytes_eq name e.0.now) e es _ _ (removed name es)
    ∙ ap (λ b. cond b (members_view es)
    (member e.0.now (view e.1) (without name (members_view es))))
    (sym (is_eq-slice_cmp name e.0.now))
    ∙ sym (without_at (slice_cmp nat_cmp name e.0.now)
    (member e.0.now (view e.1) (without name (members_view es))) (members_view es))

remove_past : (es : List Entry) (k : ℕ) → length es ≤ k → remove es k ≡ es
remove_past es k h =
    ap₂ (λ xs ys. xs ++ ys) (take_all k es h) (drop_all (suc k) es (omega arith)) ∙ append-nil es

found_at : (b : Bool) (k i : ℕ) → cond b (Some k) None ≡ Some i → i ≡ k
found_at true k i e = cc
found_at false k i e = absurd (cc)

none_at : (b : Bool) (k : ℕ) → cond b (Some k) None ≡ None → b ≡ false
none_at true k e = absurd (cc)
none_at false k e = refl

pub taken_out : (name : List ℕ) (es : List Entry) (i : ℕ)
    → position (λ e. bytes_eq name e.0.now) es ≡ Some i
    → members_view (remove es i) ≡ without name (members_view es)
taken_out name es i is = ap (λ k. members_view (remove es k)) (found_at _ _ i is) ∙ removed name es

pub absent : (name : List ℕ) (es : List Entry) → position (λ e. bytes_eq name e.0.now) es ≡ None
    → members_view es ≡ without name (members_view es)
absent name es is =
    let k = prefix_len (λ e. not (bytes_eq name e.0.now)) es in
    sym (ap members_view (remove_past es k (ltb-false k (length es) (none_at _ k is))))
    ∙ removed name es

-- ---- the header

view-Object : (m : Bor (List Entry)) → view (made.Object m) ≡ object (members_view m.now)
view-Object m = search (rules, made.the_lemmas)

-- what is left after the two were taken out of a copy
pub header_left : (d : Data) (members all one two : List Entry) (m : Bor (List Entry))
    → as_object d ≡ Some (members_view members) → all ≡ members
    → members_view one ≡ without (codes "CVRSnapshot") (members_view all)
    → members_view two ≡ without (codes "CurrentSnapshotId") (members_view one)
    → m.now ≡ two → view (made.Object m) ≡ header_of d
header_left d members all one two m is copied first second now =
    let gone = first ∙ ap (λ es. without (codes "CVRSnapshot") (members_view es)) copied in
    view-Object m ∙ ap object (ap members_view now ∙ second
    ∙ ap (without (codes "CurrentSnapshotId")) gone)
    ∙ sym (ap (λ o. unwrap_or (option_map
    (λ ms. object (without (codes "CurrentSnapshotId") (without (codes "CVRSnapshot") ms))) o)
    null) is)

pub whole-header_of : (d : Data) → has_float d ≡ false → has_float (header_of d) ≡ false
whole-header_of d h = grind (arith, whole-without, codes, without)
