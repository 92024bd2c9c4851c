-- The text of a record, in pieces.
use Rattle.std.proofs.Common.{◌≡◌, ℕ, ◌≤◌, ◌||◌, Bool, true, false, List, [], ◌∷◌, ◌++◌, length}
use Rattle.std.proofs.Common.{take, drop, Ordering, Less, Equal, Greater, nat_cmp, Option, Some}
use Rattle.std.proofs.Common.{None, IsSome, codes, refl, sym, ap, ◌∙◌, subst, arith, append_assoc}
use Rattle.std.proofs.Common.{length-append, length-drop}
use Rattle.std.proofs.Math.Seq.{take-append_seam}
use Rattle.std.specs.Cmp.Lexicographic.{slice_cmp}
use Rattle.std.specs.Ordering.{match_ordering}
use Rattle.json.specs.Print.{escape_byte, quoted}
use Rattle.serde_json.specs.Data.{Data, object, array, string, Items, no_items, item, Members}
use Rattle.serde_json.specs.Data.{no_members, member}
use Rattle.serde_json.specs.Find.{get_member}
use Rattle.serde_json.specs.Written.{compact_text, items_text, members_text, comma_if}
use Rattle.cdf_parts.specs.Proper.{Before, Below, MembersAreWell}
use Rattle.cdf_parts.proofs.Lemmas.{Before-trans, after_is, equal_is, greater_is}
use Rattle.cdf_parts.proofs.Lemmas.{append}
use Rattle.cvr_report.specs.Record.{snapshots_name, current_name, cvr_object, HasHeaderMembers}
use Rattle.cvr_report.specs.Record.{front, back, some, inner, comma_list, item_texts, IsCut}
use Rattle.cvr_report.proofs.Splitting.{put_twice, text-append}
use Rattle.cdf_node.proofs.Lemmas.{Below-trans, below_none}

pub front_of : (xs p r : List ℕ) (n : ℕ) → n ≤ length xs → xs ≡ p ++ r → drop n xs ≡ r
    → take n xs ≡ p
front_of xs p r n h e d =
    let same : n ≡ length p =
    omega (arith, ap length e, length-append p r, ap length d, length-drop n xs) in
    (λ i. take (same i) (e i)) ∙ take-append_seam p r

pub joined-end : (later : Bool) (ds : Items)
    → items_text later ds ≡ comma_list later (item_texts ds) ++ 93 ∷ []
joined-end later no_items = refl
joined-end later (item d ds) =
    ap (λ s. comma_if later ++ (compact_text d ++ s)) (joined-end true ds)
    ∙ ap (λ s. comma_if later ++ s) (sym (append_assoc (compact_text d) _ _))
    ∙ sym (append_assoc (comma_if later) _ _)

-- ---- a header has a member before the snapshots

found_front : (a m : List ℕ) (e : Data) (ms : Members) → Before m a
    → some (front a (member m e ms)) ≡ true
found_front a m e ms h = ap (λ o. some (match_ordering o no_members no_members
    (member m e (front a ms)))) (after_is m a h)

never : (o : Option Data) → IsSome o → o ≡ None → ⊥
never None found e = cc
never (Some d) found e = cc

some_front_at : (o : Ordering) (l a m : List ℕ) (e : Data) (ms : Members)
    → slice_cmp nat_cmp l m ≡ o → Before l a → Below m ms
    → IsSome (match_ordering o (get_member l ms) (Some e) (get_member l ms))
    → some (front a (member m e ms)) ≡ true
some_front_at Less l a m e ms is p h found =
    absurd (never (get_member l ms) found (below_none l ms (Below-trans l m ms is h)))
some_front_at Equal l a m e ms is p h found =
    found_front a m e ms (subst (λ k. Before k a) (equal_is l m is) p)
some_front_at Greater l a m e ms is p h found =
    found_front a m e ms (Before-trans m l a (greater_is l m is) p)

pub some_front : (l a : List ℕ) (ms : Members) → Before l a → MembersAreWell ms
    → IsSome (get_member l ms) → some (front a ms) ≡ true
some_front l a no_members p h found = absurd (never None found refl)
some_front l a (member m e ms) p h found =
    some_front_at (slice_cmp nat_cmp l m) l a m e ms refl p h.1 found

-- ---- the pieces

split_again : (k : List ℕ) (ms : Members) → append (front k ms) (back k ms) ≡ ms
split_again k no_members = refl
split_again k (member l e ms) = go (split_again k ms) (slice_cmp nat_cmp k l)
  where
    go : append (front k ms) (back k ms) ≡ ms → (o : Ordering)
        → append (match_ordering o no_members no_members (member l e (front k ms)))
        (match_ordering o (member l e ms) (member l e ms) (back k ms)) ≡ member l e ms
    go ih Less = refl
    go ih Equal = refl
    go ih Greater = ap (member l e) ih

pub text_split : (later : Bool) (k : List ℕ) (ms : Members)
    → members_text later ms ≡ inner later (front k ms)
    ++ members_text (later || some (front k ms)) (back k ms)
text_split later k ms =
    ap (members_text later) (sym (split_again k ms)) ∙ text-append later (front k ms) (back k ms)

abbrev pub snapshots_lead : List ℕ
snapshots_lead = codes ",\"CVRSnapshot\":["

abbrev pub current_lead : List ℕ
current_lead = codes "],\"CurrentSnapshotId\":"

lead_is : (r : List ℕ) → 44 ∷ (quoted snapshots_name ++ 58 ∷ 91 ∷ r) ≡ snapshots_lead ++ r
unfolding escape_byte
lead_is r = refl

current_is : (r : List ℕ) → 44 ∷ (quoted current_name ++ 58 ∷ r)
    ≡ codes ",\"CurrentSnapshotId\":" ++ r
unfolding escape_byte
current_is r = refl

placed_text : (a b : List ℕ) (x y : Data) (f m r : Members) → some f ≡ true
    → members_text false (append f (member a x (append m (member b y r))))
    ≡ inner false f ++ (44 ∷ (quoted a ++ 58
    ∷ (compact_text x ++ (inner true m
    ++ (44 ∷ (quoted b ++ 58 ∷ (compact_text y ++ members_text true r)))))))
placed_text a b x y f m r e =
    text-append false f (member a x (append m (member b y r)))
    ∙ ap (λ later. inner false f ++ members_text later (member a x (append m (member b y r)))) e
    ∙ ap (λ s. inner false f ++ (44 ∷ (quoted a ++ 58 ∷ (compact_text x ++ s))))
    (text-append true m (member b y r))

pub record_text : (ms : Members) (ds : Items) (current : List ℕ) → MembersAreWell ms
    → HasHeaderMembers ms
    → let f = front snapshots_name ms in let m = back snapshots_name ms in
    compact_text (cvr_object ms ds current)
    ≡ (123 ∷ inner false f) ++ (snapshots_lead
    ++ (comma_list false (item_texts ds)
    ++ (93 ∷ (inner true (front current_name m)
    ++ (codes ",\"CurrentSnapshotId\":"
    ++ (quoted current ++ members_text true (back current_name m)))))))
record_text ms ds current well h =
    let f = front snapshots_name ms in
    let m = back snapshots_name ms in
    let r = back current_name m in
    let tail = codes ",\"CurrentSnapshotId\":" ++ (quoted current ++ members_text true r) in
    ap (λ q. 123 ∷ members_text false q)
    (put_twice snapshots_name current_name (array ds) (string current) ms refl h.0 h.1)
    ∙ ap (λ s. 123 ∷ s) (placed_text snapshots_name current_name (array ds) (string current) f
    (front current_name m) r (some_front (codes "@type") snapshots_name ms refl well h.2))
    ∙ ap (λ s. 123 ∷ (inner false f ++ (44
    ∷ (quoted snapshots_name ++ 58 ∷
    (91 ∷ (items_text false ds ++ (inner true (front current_name m) ++ s)))))))
    (current_is (quoted current ++ members_text true r))
    ∙ ap (λ s. 123 ∷ (inner false f ++ s))
    (lead_is (items_text false ds ++ (inner true (front current_name m) ++ tail)))
    ∙ ap (λ s. 123 ∷ (inner false f ++ (snapshots_lead ++ s)))
    (ap (λ s. s ++ (inner true (front current_name m) ++ tail)) (joined-end false ds)
    ∙ append_assoc (comma_list false (item_texts ds)) (93 ∷ []) _)

back_well_at : (o : Ordering) (l : List ℕ) (d : Data) (ns b : Members)
    → MembersAreWell (member l d ns) → MembersAreWell b
    → MembersAreWell (match_ordering o (member l d ns) (member l d ns) b)
back_well_at Less l d ns b w v = w
back_well_at Equal l d ns b w v = w
back_well_at Greater l d ns b w v = v

back_well : (k : List ℕ) (ns : Members) → MembersAreWell ns → MembersAreWell (back k ns)
back_well k no_members w = tt
back_well k (member l d ns) w =
    back_well_at (slice_cmp nat_cmp k l) l d ns (back k ns) w (back_well k ns w.2)

-- what two cuts of a header's text give
pub pieces : (text rest : List ℕ) (first second : ℕ) (ms : Members) → MembersAreWell ms
    → HasHeaderMembers ms → text ≡ compact_text (object ms) → rest ≡ drop first text
    → first ≤ length text → IsCut text 1 snapshots_name first → second ≤ length rest
    → IsCut rest 0 current_name second
    → let m = back snapshots_name ms in
    (take first text ≡ 123 ∷ inner false (front snapshots_name ms))
    × (take second rest ≡ inner true (front current_name m))
    × (drop second rest ≡ members_text true (back current_name m))
pieces text rest first second ms well h e is l cut k again =
    let f = front snapshots_name ms in
    let m = back snapshots_name ms in
    let begun = some_front (codes "@type") snapshots_name ms refl well h.2 in
    let left : drop first text ≡ members_text true m =
    cut false ms well (ap (drop 1) e) ∙ ap (λ later. members_text later m) begun in
    let whole : text ≡ (123 ∷ inner false f) ++ members_text true m = e
    ∙ ap (λ s. 123 ∷ s) (text_split false snapshots_name ms
    ∙ ap (λ later. inner false f ++ members_text later m) begun) in
    let end : drop second rest ≡ members_text true (back current_name m) =
    again true m (back_well snapshots_name ms well) (is ∙ left) in (
      front_of text (123 ∷ inner false f) (members_text true m) first l whole left,
      front_of rest (inner true (front current_name m)) (members_text true (back current_name m))
          second k (is ∙ left ∙ text_split true current_name m) end,
      end,
    )

-- ---- joined texts

pub one_joined : (later : Bool) (out t rest : List ℕ)
    → (out ++ (comma_if later ++ t)) ++ rest ≡ out ++ (comma_if later ++ (t ++ rest))
one_joined later out t rest =
    append_assoc out _ rest ∙ ap (λ s. out ++ s) (append_assoc (comma_if later) t rest)

pub regroup_all : (o a b c d e f g h : List ℕ)
    → (((((((o ++ a) ++ b) ++ c) ++ d) ++ e) ++ f) ++ g) ++ h
    ≡ o ++ (a ++ (b ++ (c ++ (d ++ (e ++ (f ++ (g ++ h)))))))
regroup_all o a b c d e f g h = simp append_assoc
