-- Where two members go in, and the text that this gives.
use Rattle.std.proofs.Common.{◌≡◌, ℕ, ◌||◌, Bool, true, false, List, ◌∷◌, ◌++◌, Ordering, Less}
use Rattle.std.proofs.Common.{Equal, Greater, nat_cmp, Some, None, refl, sym, ap, ◌∙◌, append_assoc}
use Rattle.std.specs.Cmp.Lexicographic.{slice_cmp}
use Rattle.std.specs.Ordering.{match_ordering}
use Rattle.json.specs.Print.{quoted}
use Rattle.serde_json.specs.Data.{Data, Members, no_members, member, put}
use Rattle.serde_json.specs.Find.{get_member}
use Rattle.serde_json.specs.Written.{compact_text, members_text, comma_if}
use Rattle.cdf_parts.specs.Proper.{Before}
use Rattle.cdf_parts.proofs.Lemmas.{Before-trans, after_is, greater_is, append}
use Rattle.cvr_report.specs.Record.{front, back, some, inner}

absent_at : (o : Ordering) (k l : List ℕ) (e : Data) (ms : Members)
    → match_ordering o (get_member k ms) (Some e) (get_member k ms) ≡ None
    → (o ≡ Equal → ⊥) × (get_member k ms ≡ None)
absent_at Less k l e ms h = (λ c. cc, h)
absent_at Equal k l e ms h = absurd (cc)
absent_at Greater k l e ms h = (λ c. cc, h)

split_at : (o : Ordering) (k l : List ℕ) (d e : Data) (ms : Members) → (o ≡ Equal → ⊥)
    → put k d ms ≡ append (front k ms) (member k d (back k ms))
    → match_ordering o (member k d (member l e ms)) (member l d ms) (member l e (put k d ms))
    ≡ append (match_ordering o no_members no_members (member l e (front k ms)))
    (member k d (match_ordering o (member l e ms) (member l e ms) (back k ms)))
split_at Less k l d e ms other ih = refl
split_at Equal k l d e ms other ih = absurd (other refl)
split_at Greater k l d e ms other ih = ap (member l e) ih

pub put_split : (k : List ℕ) (d : Data) (ms : Members) → get_member k ms ≡ None
    → put k d ms ≡ append (front k ms) (member k d (back k ms))
put_split k d no_members h = refl
put_split k d (member l e ms) h =
    let p = absent_at (slice_cmp nat_cmp k l) k l e ms h in
    split_at (slice_cmp nat_cmp k l) k l d e ms p.0 (put_split k d ms p.1)

abbrev between : List ℕ → List ℕ → Members → Members
between a b ms = front b (back a ms)

-- both members, in their places
abbrev pub placed : List ℕ → Data → List ℕ → Data → Members → Members
placed a x b y ms = append (front a ms)
    (member a x (append (front b (back a ms)) (member b y (back b (back a ms)))))

-- what begins above a goes after it
put_first : (a k : List ℕ) (x e : Data) (ms : Members) → Before a k
    → put a x (member k e ms) ≡ member a x (member k e ms)
put_first a k x e ms h = ap (λ o. match_ordering o (member a x (member k e ms)) (member k x ms)
    (member k e (put a x ms))) h

first_at : (o : Ordering) (a b l : List ℕ) (x y e : Data) (ms : Members) → (o ≡ Equal → ⊥)
    → Before a b → Before a l
    → let m = match_ordering o (member b y (member l e ms)) (member l y ms)
    (member l e (put b y ms)) in put a x m ≡ member a x m
first_at Less a b l x y e ms other p q = put_first a b x y (member l e ms) p
first_at Equal a b l x y e ms other p q = absurd (other refl)
first_at Greater a b l x y e ms other p q = put_first a l x e (put b y ms) q

twice_at : (o : Ordering) (a b l : List ℕ) (x y e : Data) (ms : Members) → slice_cmp nat_cmp a l ≡ o
    → (o ≡ Equal → ⊥) → Before a b
    → (slice_cmp nat_cmp b l ≡ Equal → ⊥) → get_member b (member l e ms) ≡ None
    → put a x (put b y ms) ≡ placed a x b y ms
    → put a x (put b y (member l e ms))
    ≡ append (match_ordering o no_members no_members (member l e (front a ms)))
    (let r = match_ordering o (member l e ms) (member l e ms) (back a ms) in
    member a x (append (front b r) (member b y (back b r))))
twice_at Less a b l x y e ms is other p unlike gone ih = first_at (slice_cmp nat_cmp b l) a b l x y
    e ms unlike p is ∙ ap (member a x) (put_split b y (member l e ms) gone)
twice_at Equal a b l x y e ms is other p unlike gone ih = absurd (other refl)
twice_at Greater a b l x y e ms is other p unlike gone ih =
    let above = after_is l b (Before-trans l a b (greater_is a l is) p) in
    ap (λ o. put a x (match_ordering o (member b y (member l e ms)) (member l y ms)
    (member l e (put b y ms)))) above
    ∙ ap (λ o. match_ordering o (member a x (member l e (put b y ms))) (member l x (put b y ms))
    (member l e (put a x (put b y ms)))) is
    ∙ ap (member l e) ih

pub put_twice : (a b : List ℕ) (x y : Data) (ms : Members) → Before a b → get_member a ms ≡ None
    → get_member b ms ≡ None → put a x (put b y ms) ≡ placed a x b y ms
put_twice a b x y no_members p h g = put_first a b x y no_members p
put_twice a b x y (member l e ms) p h g =
    let s = absent_at (slice_cmp nat_cmp a l) a l e ms h in
    let t = absent_at (slice_cmp nat_cmp b l) b l e ms g in
    twice_at (slice_cmp nat_cmp a l) a b l x y e ms refl s.0 p t.0 g
    (put_twice a b x y ms p s.1 t.1)

-- ---- text

regroup : (c q a b r : List ℕ) → c ++ (q ++ 58 ∷ (a ++ (b ++ r))) ≡ (c ++ (q ++ 58 ∷ (a ++ b))) ++ r
regroup c q a b r = sym (append_assoc c _ r
    ∙ ap (λ s. c ++ s) (append_assoc q _ r ∙ ap (λ s. q ++ 58 ∷ s) (append_assoc a b r)))

pub text-append : (later : Bool) (a b : Members)
    → members_text later (append a b) ≡ inner later a ++ members_text (later || some a) b
text-append true no_members b = refl
text-append false no_members b = refl
text-append true (member k d ms) b = ap
    (λ s. comma_if true ++ (quoted k ++ 58 ∷ (compact_text d ++ s))) (text-append true ms b)
    ∙ regroup (comma_if true) (quoted k) (compact_text d) (inner true ms) _
text-append false (member k d ms) b = ap
    (λ s. comma_if false ++ (quoted k ++ 58 ∷ (compact_text d ++ s))) (text-append true ms b)
    ∙ regroup (comma_if false) (quoted k) (compact_text d) (inner true ms) _
