-- Bodies by their number, or the last.
use Rattle.std.proofs.Common.{Bor, ◌≡◌, ℕ, zero, suc, ◌-◌, ◌<◌, ◌≤◌, min, List, [], ◌∷◌, length}
use Rattle.std.proofs.Common.{map, reverse, get_or, Some, unwrap_or, nat_le, true, false, Bool}
use Rattle.std.proofs.Common.{refl, sym, ap, ◌∙◌, arith}
use Rattle.std.specs.Prelude.{slice_get, if◌then◌else◌}
use Rattle.std.proofs.lemmas.List.{get_or-map, length-map, length-reverse}
use Rattle.std.proofs.lemmas.Option.{slice_get-get_or}
use Rattle.std.proofs.lemmas.Bool.{le-leb, lt-leb}
use Rattle.cvr_fact_types.specs.declared.snapshot.SnapshotFact.{SnapshotFact}
use Rattle.cvr_office.specs.declared.record_facts.IdFacts.{IdFacts}
use Rattle.cvr_office.specs.Names.{most}
use Rattle.cvr_office.specs.Readers.{nth_from_one}
use Rattle.cvr_report.specs.Page.{shown_body}
use Rattle.cvr_report.specs.Found.{bodies, pick, none}

numbered_suc : {K : Type 0} (xs : List K) (k : ℕ) → nth_from_one xs (suc k) ≡ slice_get xs k
numbered_suc [] k = refl
numbered_suc (x ∷ xs) zero = refl
numbered_suc (x ∷ xs) (suc k) = numbered_suc xs k

pub shown_at : (i : ℕ) (xs : List (List ℕ)) (d : List ℕ) → 0 < i → 0 < length xs
    → shown_body i xs ≡ get_or xs (min i (length xs) - 1) d
shown_at i xs d p q =
    let k = min i (length xs) - 1 in
    let e : min i (length xs) ≡ suc k = omega (arith, p, q) in
    let lt : k < length xs = omega (arith, p, q) in
    ap (λ n. unwrap_or (nth_from_one xs n) []) e
    ∙ ap (λ o. unwrap_or o []) (numbered_suc xs k ∙ slice_get-get_or xs k d lt)

-- the same through a map
pub shown_map : {X : Type 0} (f : X → List ℕ) (i : ℕ) (xs : List X) (d : X) → 0 < i → 0 < length xs
    → shown_body i (map f xs) ≡ f (get_or xs (min i (length xs) - 1) d)
shown_map f i xs d p q =
    let n = length-map xs f in
    let lt : min i (length xs) - 1 < length xs = omega (arith, p, q) in
    shown_at i (map f xs) (f d) p (omega (arith, n, q))
    ∙ (ap (λ m. get_or (map f xs) (min i m - 1) (f d)) n
    ∙ get_or-map f xs (min i (length xs) - 1) d (f d) lt)

pub pick_body : (i : ℕ) (g : IdFacts) → 0 < i → 0 < length g.snapshots.items
    → (pick i g).body ≡ shown_body i (bodies g)
pick_body i g p q =
    let n = length-map g.snapshots.items (λ s. s.now) in
    let e : shown_body i (map (λ (s : SnapshotFact). s.body) (map (λ s. s.now) g.snapshots.items))
    ≡ (get_or (map (λ s. s.now) g.snapshots.items)
    (min i (length (map (λ s. s.now) g.snapshots.items)) - 1) none).body =
    shown_map (λ s. s.body) i (map (λ s. s.now) g.snapshots.items) none p (omega (arith, n, q)) in
    ap (λ m. (get_or (map (λ s. s.now) g.snapshots.items) (min i m - 1) none).body) (sym n)
    ∙ (sym e ∙ ap (shown_body i) (twice g.snapshots.items))
  where
    twice : (xs : List (Bor SnapshotFact))
        → map (λ (s : SnapshotFact). s.body) (map (λ s. s.now) xs) ≡ map (λ s. s.now.body) xs
    twice [] = refl
    twice (x ∷ xs) = ap (λ ys. x.now.body ∷ ys) (twice xs)

-- ---- the greatest number

pub reach_none : (i : ℕ) → 0 < i → nat_le i (most []) ≡ false
reach_none i p = lt-leb i 0 p

here_at : (b : Bool) (i n m : ℕ) → nat_le n m ≡ b → i ≤ n → nat_le i (if b then m else n) ≡ true
here_at true i n m is le = le-leb i m (grind (arith, is, le))
here_at false i n m is le = le-leb i n le

pub reach_here : (i n : ℕ) (ns : List ℕ) → i ≤ n → nat_le i (most (n ∷ ns)) ≡ true
reach_here i n ns le = here_at (nat_le n (most ns)) i n (most ns) refl le

skip_at : (b : Bool) (i n m : ℕ) → nat_le n m ≡ b → n < i
    → nat_le i (if b then m else n) ≡ nat_le i m
skip_at true i n m is lt = refl
skip_at false i n m is lt = lt-leb i n lt ∙ sym (lt-leb i m (grind (arith, is, lt)))

pub reach_skip : (i n : ℕ) (ns : List ℕ) → n < i → nat_le i (most (n ∷ ns)) ≡ nat_le i (most ns)
reach_skip i n ns lt = skip_at (nat_le n (most ns)) i n (most ns) refl lt

-- ---- a body that an office answered

pub shown_is : (xs : List (List ℕ)) (i n count : ℕ) (b : List ℕ) → n ≡ min i count
    → count ≡ length xs → Some b ≡ nth_from_one (reverse xs) n → b ≡ shown_body i (reverse xs)
shown_is xs i n count b e f is =
    ap (λ o. unwrap_or o []) is ∙ ap (λ n. unwrap_or (nth_from_one (reverse xs) n) [])
    (e ∙ (ap (min i) f ∙ ap (min i) (sym (length-reverse xs))))
