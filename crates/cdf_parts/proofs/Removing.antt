-- An object without a member, and a member put in and taken out again.
use Rattle.std.proofs.Common.{◌≡◌, ◌≤◌, ℕ, suc, List, false, Some, None}
use Rattle.std.proofs.Common.{Ordering, Less, Equal, Greater, nat_cmp}
use Rattle.std.proofs.Common.{refl, sym, ap, ◌∙◌, subst, arith}
use Rattle.std.proofs.lemmas.Bool.{or_parts}
use Rattle.std.proofs.lemmas.Option.{same_Some}
use Rattle.std.specs.Cmp.Lexicographic.{slice_cmp}
use Rattle.std.specs.Ordering.{match_ordering}
use Rattle.serde_json.specs.Data.{Data, object, Members, no_members, member, put, depth}
use Rattle.serde_json.specs.Data.{members_depth}
use Rattle.serde_json.specs.Find.{get_member}
use Rattle.serde_json.specs.Written.{has_float, members_have_float}
use Rattle.cdf_parts.specs.Proper.{Below, MembersAreWell, IsProper}
use Rattle.cdf_parts.specs.Removing.{without}
use Rattle.cdf_parts.proofs.Order.{equal_is, same_name, put_well}
use Rattle.cdf_node.proofs.Lemmas.{Below-trans, below_none, members_float}

-- ---- taken out

gone_at : (o : Ordering) (k l : List ℕ) (e : Data) (ms : Members)
    → slice_cmp nat_cmp k l ≡ o → Below l ms → get_member k (without k ms) ≡ None
    → get_member k (match_ordering o (member l e (without k ms)) ms (member l e (without k ms)))
    ≡ None
gone_at Less k l e ms is h ih =
    ap (λ o. match_ordering o (get_member k (without k ms)) (Some e) (get_member k (without k ms)))
    is ∙ ih
gone_at Equal k l e ms is h ih =
    below_none k ms (subst (λ n. Below n ms) (sym (equal_is k l is)) h)
gone_at Greater k l e ms is h ih =
    ap (λ o. match_ordering o (get_member k (without k ms)) (Some e) (get_member k (without k ms)))
    is ∙ ih

-- what was taken out is not there
pub gone : (k : List ℕ) (ms : Members) → MembersAreWell ms → get_member k (without k ms) ≡ None
gone k no_members h = refl
gone k (member l e ms) h = gone_at (slice_cmp nat_cmp k l) k l e ms refl h.1 (gone k ms h.2)

other_at : (o : Ordering) (q k l : List ℕ) (e : Data) (ms : Members)
    → slice_cmp nat_cmp k l ≡ o → (q ≡ k → ⊥) → get_member q (without k ms) ≡ get_member q ms
    → get_member q (match_ordering o (member l e (without k ms)) ms (member l e (without k ms)))
    ≡ get_member q (member l e ms)
other_at Less q k l e ms is n ih = ap (λ r. match_ordering (slice_cmp nat_cmp q l) r (Some e) r) ih
other_at Equal q k l e ms is n ih = skip (slice_cmp nat_cmp q l) refl
  where
    skip : (o : Ordering) → slice_cmp nat_cmp q l ≡ o
        → get_member q ms ≡ match_ordering o (get_member q ms) (Some e) (get_member q ms)
    skip Less w = refl
    skip Equal w = absurd (n (equal_is q l w ∙ sym (equal_is k l is)))
    skip Greater w = refl
other_at Greater q k l e ms is n ih =
    ap (λ r. match_ordering (slice_cmp nat_cmp q l) r (Some e) r) ih

pub others_stay : (q k : List ℕ) (ms : Members) → (q ≡ k → ⊥)
    → get_member q (without k ms) ≡ get_member q ms
others_stay q k no_members n = refl
others_stay q k (member l e ms) n =
    other_at (slice_cmp nat_cmp k l) q k l e ms refl n (others_stay q k ms n)

absent_at : (o : Ordering) (k : List ℕ) (e : Data) (ms : Members)
    → match_ordering o (get_member k ms) (Some e) (get_member k ms) ≡ None
    → (o ≡ Equal → ⊥) × (get_member k ms ≡ None)
absent_at Less k e ms h = (λ c. cc, h)
absent_at Equal k e ms h = absurd (cc)
absent_at Greater k e ms h = (λ c. cc, h)

kept_at : (o : Ordering) (l : List ℕ) (e : Data) (ms rest : Members) → (o ≡ Equal → ⊥) → rest ≡ ms
    → match_ordering o (member l e rest) ms (member l e rest) ≡ member l e ms
kept_at Less l e ms rest other ih = ap (member l e) ih
kept_at Equal l e ms rest other ih = absurd (other refl)
kept_at Greater l e ms rest other ih = ap (member l e) ih

-- taking out what is absent changes nothing
pub without_absent : (k : List ℕ) (ms : Members) → get_member k ms ≡ None → without k ms ≡ ms
without_absent k no_members h = refl
without_absent k (member l e ms) h =
    let p = absent_at (slice_cmp nat_cmp k l) k e ms h in
    kept_at (slice_cmp nat_cmp k l) l e ms (without k ms) p.0 (without_absent k ms p.1)

-- ---- put in, and taken out

out_at : (o : Ordering) (k l : List ℕ) (d e : Data) (ms : Members)
    → slice_cmp nat_cmp k l ≡ o → (o ≡ Equal → ⊥) → without k (put k d ms) ≡ ms
    → without k (match_ordering o (member k d (member l e ms)) (member l d ms)
    (member l e (put k d ms)))
    ≡ member l e ms
out_at Less k l d e ms is other ih =
    let rest = member k d (without k (member l e ms)) in
    ap (λ o. match_ordering o rest (member l e ms) rest) (same_name k)
out_at Equal k l d e ms is other ih = absurd (other refl)
out_at Greater k l d e ms is other ih =
    let rest = member l e (without k (put k d ms)) in
    ap (λ o. match_ordering o rest (put k d ms) rest) is ∙ ap (member l e) ih

pub without-put : (k : List ℕ) (d : Data) (ms : Members) → get_member k ms ≡ None
    → without k (put k d ms) ≡ ms
without-put k d no_members h =
    ap (λ o. match_ordering o (member k d no_members) no_members (member k d no_members))
    (same_name k)
without-put k d (member l e ms) h =
    let p = absent_at (slice_cmp nat_cmp k l) k e ms h in
    out_at (slice_cmp nat_cmp k l) k l d e ms refl p.0 (without-put k d ms p.1)

-- ---- taken out, and put in

put_below : (k : List ℕ) (d : Data) (ms : Members) → Below k ms → put k d ms ≡ member k d ms
put_below k d no_members h = refl
put_below k d (member l e ms) h =
    ap (λ o. match_ordering o (member k d (member l e ms)) (member l d ms)
    (member l e (put k d ms))) h.0

back_at : (o : Ordering) (k l : List ℕ) (d e : Data) (ms : Members)
    → slice_cmp nat_cmp k l ≡ o → Below l ms
    → match_ordering o (get_member k ms) (Some e) (get_member k ms) ≡ Some d
    → (get_member k ms ≡ Some d → put k d (without k ms) ≡ ms)
    → put k d (match_ordering o (member l e (without k ms)) ms (member l e (without k ms)))
    ≡ member l e ms
back_at Less k l d e ms is h found ih =
    let none = below_none k ms (Below-trans k l ms is h) in
    absurd (cc)
back_at Equal k l d e ms is h found ih =
    let same = equal_is k l is in
    put_below k d ms (subst (λ n. Below n ms) (sym same) h)
    ∙ ap (λ n. member n d ms) same
    ∙ ap (λ x. member l x ms) (sym (same_Some e d found))
back_at Greater k l d e ms is h found ih =
    let rest = without k ms in
    ap (λ o. match_ordering o (member k d (member l e rest)) (member l d rest)
    (member l e (put k d rest))) is
    ∙ ap (member l e) (ih found)

pub put-without : (k : List ℕ) (d : Data) (ms : Members)
    → MembersAreWell ms → get_member k ms ≡ Some d → put k d (without k ms) ≡ ms
put-without k d no_members h found = absurd (cc)
put-without k d (member l e ms) h found =
    back_at (slice_cmp nat_cmp k l) k l d e ms refl h.1 found (put-without k d ms h.2)

-- ---- order stays

Below-without : (q k : List ℕ) (ms : Members) → Below q ms → Below q (without k ms)
Below-without q k no_members h = tt
Below-without q k (member l e ms) h = go (Below-without q k ms h.1) (slice_cmp nat_cmp k l)
  where
    go : Below q (without k ms) → (o : Ordering)
        → Below q (match_ordering o (member l e (without k ms)) ms (member l e (without k ms)))
    go ih Less = (h.0, ih)
    go ih Equal = h.1
    go ih Greater = (h.0, ih)

pub without_well : (k : List ℕ) (ms : Members) → MembersAreWell ms → MembersAreWell (without k ms)
without_well k no_members h = tt
without_well k (member l e ms) h =
    go (without_well k ms h.2) (Below-without l k ms h.1) (slice_cmp nat_cmp k l)
  where
    go : MembersAreWell (without k ms) → Below l (without k ms) → (o : Ordering)
        → MembersAreWell (match_ordering o (member l e (without k ms)) ms
        (member l e (without k ms)))
    go ih b Less = (h.0, b, ih)
    go ih b Equal = h.2
    go ih b Greater = (h.0, b, ih)

-- ---- no float comes in

whole_at : (o : Ordering) (l : List ℕ) (e : Data) (ms rest : Members)
    → has_float e ≡ false → members_have_float ms ≡ false → members_have_float rest ≡ false
    → members_have_float (match_ordering o (member l e rest) ms (member l e rest)) ≡ false
whole_at Less l e ms rest p q r = rw (p, r)
whole_at Equal l e ms rest p q r = q
whole_at Greater l e ms rest p q r = rw (p, r)

pub whole-without : (k : List ℕ) (ms : Members)
    → members_have_float ms ≡ false → members_have_float (without k ms) ≡ false
whole-without k no_members h = refl
whole-without k (member l e ms) h =
    let p = or_parts (has_float e) _ h in
    whole_at (slice_cmp nat_cmp k l) l e ms (without k ms) p.0 p.1 (whole-without k ms p.1)

-- ---- depth stays

pub without_depth : (k : List ℕ) (ms : Members) (n : ℕ) → members_depth ms ≤ n
    → members_depth (without k ms) ≤ n
without_depth k no_members n h = omega arith
without_depth k (member l e ms) n h =
    go (without_depth k ms n (omega arith)) (slice_cmp nat_cmp k l)
  where
    go : members_depth (without k ms) ≤ n → (o : Ordering)
        → members_depth (match_ordering o (member l e (without k ms)) ms
        (member l e (without k ms))) ≤ n
    go ih Less = omega arith
    go ih Equal = omega arith
    go ih Greater = omega arith

depth-put_at : (o : Ordering) (k l : List ℕ) (d e : Data) (ms rest : Members) (n : ℕ)
    → depth d ≤ n → depth e ≤ n → members_depth ms ≤ n → members_depth rest ≤ n
    → members_depth (match_ordering o (member k d (member l e ms)) (member l d ms)
    (member l e rest)) ≤ n
depth-put_at Less k l d e ms rest n p q r s = omega arith
depth-put_at Equal k l d e ms rest n p q r s = omega arith
depth-put_at Greater k l d e ms rest n p q r s = omega arith

pub depth-put : (k : List ℕ) (d : Data) (ms : Members) (n : ℕ)
    → depth d ≤ n → members_depth ms ≤ n → members_depth (put k d ms) ≤ n
depth-put k d no_members n p h = omega arith
depth-put k d (member l e ms) n p h =
    depth-put_at (slice_cmp nat_cmp k l) k l d e ms (put k d ms) n p (omega arith) (omega arith)
    (depth-put k d ms n p (omega arith))

-- ---- a proper object stays proper

pub without_proper : (n : ℕ) (k : List ℕ) (ms : Members) → IsProper n (object ms)
    → IsProper n (object (without k ms))
without_proper n k ms h = record {
  well = without_well k ms h.well;
  whole = whole-without k ms h.whole;
  shallow =
      let p : suc (members_depth ms) ≤ n = h.shallow in
      let q : members_depth (without k ms) ≤ members_depth ms =
      without_depth k ms (members_depth ms) (omega arith) in
      omega (arith, p, q);
}

pub put_proper : (n : ℕ) (k : List ℕ) (d : Data) (ms : Members)
    → IsProper n d → IsProper (suc n) (object ms) → IsProper (suc n) (object (put k d ms))
put_proper n k d ms p h = record {
  well = put_well k d ms p.well h.well;
  whole = members_float k d ms h.whole p.whole;
  shallow =
      let above : suc (members_depth ms) ≤ suc n = h.shallow in
      let q : members_depth (put k d ms) ≤ n =
      depth-put k d ms n p.shallow (omega (arith, above)) in
      omega (arith, q);
}
