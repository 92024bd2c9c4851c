-- A value has no fault exactly where it fits.
use Rattle.std.proofs.Common.{◌≡◌, ℕ, zero, suc, ◌+◌, ◌≤◌, inl, inr, List, [], ◌∷◌, ◌++◌, Bool}
use Rattle.std.proofs.Common.{true, false, not, ◌||◌, cond, if◌then◌else◌, Option, Some, None}
use Rattle.std.proofs.Common.{IsSome, option_map, Ordering, Less, Equal, Greater, bytes_eq, codes}
use Rattle.std.proofs.Common.{true≢false, refl, sym, ap, ◌∙◌, subst, arith, rules}
use Rattle.std.specs.Prelude.{option_and_then}
use Rattle.std.specs.Ordering.{nat_cmp, match_ordering}
use Rattle.std.specs.Cmp.Lexicographic.{slice_cmp}
use Rattle.std.proofs.lemmas.Slice.Eq.{bytes_eq-Decides}
use Rattle.std.proofs.lemmas.Bool.{not-true, leb-true, le-leb, and_parts}
use Rattle.serde_json.specs.Data.{Data, null, boolean, number, string, array, object, Items}
use Rattle.serde_json.specs.Data.{no_items, item, Members, no_members, member}
use Rattle.serde_json.specs.Find.{get, get_member, get_item, as_str, as_array}
use Rattle.serde_json.specs.Events.{items_len}
use Rattle.cdf_types.specs.declared.rule.Rule.{Rule}
use Rattle.cdf_form.specs.declared.table.Class.{Class}
use Rattle.cdf_form.specs.declared.table.Group.{Group}
use Rattle.cdf_form.specs.declared.table.Leaf.{Leaf}
use Rattle.cdf_form.specs.declared.table.Leaf.TheVariants as leaf
use Rattle.cdf_form.specs.declared.table.Key.{Key}
use Rattle.cdf_form.specs.declared.table.Key.TheVariants as key
use Rattle.cdf_form.specs.declared.table.Kind.{Kind}
use Rattle.cdf_form.specs.declared.table.Kind.TheVariants.{One, Array}
use Rattle.cdf_form.specs.Tables.{Entry, table, classes_of, type_text}
use Rattle.cdf_form.specs.Form.{Step, Fault, under, unless, demand_faults, find_class, class_faults}
use Rattle.cdf_form.specs.Form.{type_text_faults, type_faults, leaf_faults, class_in, class_below}
use Rattle.cdf_form.specs.Form.{class_entries, length_faults, key_text, is_among, add_text, mark_of}
use Rattle.cdf_form.specs.Form.{repeat_faults, entry_faults, table_faults, faults, items_faults}
use Rattle.cdf_form.specs.Form.{member_look}
use Rattle.cdf_form.specs.Laws.{is_keyed, are_keyed, key_has_entry, leaf_has_entry, all_have_entry}
use Rattle.cdf_form.specs.Laws.{has_entry, TablesInOrder}
use Rattle.cdf_form.specs.HasForm.{IsEntry, HasForm, text, name, count, whole, truth, moment, listed}
use Rattle.cdf_form.specs.HasForm.{class, items}
use Rattle.cdf_form.proofs.Apart.{ApartFrom, apart_places, apart_from}
use Rattle.cdf_form.proofs.Parts.{faults-one, faults-array, faults-no_array}

-- ---- lists of faults that are empty

pub left_nil : (xs ys : List Fault) → xs ++ ys ≡ [] → xs ≡ []
left_nil [] ys e = refl
left_nil (x ∷ xs) ys e = cc

pub right_nil : (xs ys : List Fault) → xs ++ ys ≡ [] → ys ≡ []
right_nil [] ys e = e
right_nil (x ∷ xs) ys e = cc

pub under_nil : (s : Step) (xs : List Fault) → under s xs ≡ [] → xs ≡ []
under_nil s [] e = refl
under_nil s (x ∷ xs) e = cc

pub unless_nil : (b : Bool) (r : Rule) → unless b r ≡ [] → b ≡ true
unless_nil true r e = refl
unless_nil false r e = cc

wanted_nil : {A : Type 0} (r : Rule) (f : A → List Fault) (o : Option A) → demand_faults r f o ≡ []
    → (a : A) × ((o ≡ Some a) × (f a ≡ []))
wanted_nil r f None e = cc
wanted_nil r f (Some a) e = (a, (refl, e))

-- ---- classes

class_nil : (o : Option Class) → class_faults o ≡ [] → (c : Class) × (o ≡ Some c)
class_nil None e = cc
class_nil (Some c) e = (c, refl)

type_text_nil : (g : Group) (o : Option (List ℕ)) → type_text_faults g o ≡ []
    → (c : Class) × (option_and_then (find_class (classes_of g)) o ≡ Some c)
type_text_nil g None e = cc
type_text_nil g (Some s) e = class_nil (find_class (classes_of g) s) e

type_nil : (g : Group) (o : Option Data) → type_faults g o ≡ []
    → (c : Class) × (option_and_then (find_class (classes_of g)) (option_and_then as_str o)
    ≡ Some c)
type_nil g None e = cc
type_nil g (Some d) e = type_text_nil g (as_str d) e

pub object_nil : (g : Group) (d : Data) → leaf_faults (leaf.Object g) d ≡ []
    → (c : Class) × (class_in g d ≡ Some c)
object_nil g d e = grind (arith, type_nil)

-- ---- tables

table_keyed : (c : Class) → are_keyed (table c) ≡ true
table_keyed c = grind arith

entry_keyed : (rs : List Entry) (r : Entry) → are_keyed rs ≡ true → IsEntry rs r
    → is_keyed r.kind ≡ true
entry_keyed [] r e h = absurd h
entry_keyed (x ∷ xs) r e (inl same) = subst (λ y. is_keyed y.kind ≡ true) same (and_parts _ _ e).0
entry_keyed (x ∷ xs) r e (inr later) = entry_keyed xs r (and_parts _ _ e).1 later

-- ---- entries

entries_nil : (look : List ℕ → Kind → Option (List Fault)) (m : Key) (rs : List Entry) (r : Entry)
    → table_faults look m rs ≡ [] → IsEntry rs r → entry_faults m r (look r.name r.kind) ≡ []
entries_nil look m [] r e h = absurd h
entries_nil look m (x ∷ xs) r e (inl same) =
    subst (λ y. entry_faults m y (look y.name y.kind) ≡ []) same (under_nil _ _ (left_nil _ _ e))
entries_nil look m (x ∷ xs) r e (inr later) = entries_nil look m xs r (right_nil _ _ e) later

needed_at : (m : Key) (r : Entry) (o : Option Data)
    → entry_faults m r (option_map (λ e. faults e r.kind key.Free) o) ≡ [] → r.required ≡ true
    → IsSome o
needed_at m r None e q = let n = not-true r.required (unless_nil _ _ e) in cc
needed_at m r (Some d) e q = search rules

part_at : (m : Key) (r : Entry) (o : Option Data) (e : Data)
    → entry_faults m r (option_map (λ x. faults x r.kind key.Free) o) ≡ [] → o ≡ Some e
    → faults e r.kind key.Free ≡ []
part_at m r None e h is = cc
part_at m r (Some d) e h is =
    let same : d ≡ e = cc in subst (λ x. faults x r.kind key.Free ≡ []) same (left_nil _ _ h)

-- ---- from no fault to a fit

fits_one : (d : Data) (l : Leaf) (m : Key)
    → ((r : Entry) (e : Data) → get r.name d ≡ Some e → is_keyed r.kind ≡ true
    → faults e r.kind key.Free ≡ [] → HasForm r.kind e) → leaf_faults l d ≡ []
    → table_faults (member_look d) m (class_entries (class_below l d)) ≡ [] → HasForm (One l) d
fits_one d leaf.Text m part e h = let w = wanted_nil _ _ _ e in text w.1.0
fits_one d leaf.Name m part e h =
    let w = wanted_nil _ _ _ e in name w.1.0 (not-true _ (unless_nil _ _ w.1.1))
fits_one d leaf.Count m part e h = let w = wanted_nil _ _ _ e in count w.1.0 (unless_nil _ _ w.1.1)
fits_one d leaf.Whole m part e h = let w = wanted_nil _ _ _ e in whole w.1.0
fits_one d leaf.Truth m part e h = let w = wanted_nil _ _ _ e in truth w.1.0
fits_one d leaf.Moment m part e h =
    let w = wanted_nil _ _ _ e in moment w.1.0 (unless_nil _ _ w.1.1)
fits_one d leaf.Fractional m part e h = cc
fits_one d (leaf.Listed l) m part e h =
    let w = wanted_nil _ _ _ e in listed w.1.0 (unless_nil _ _ w.1.1)
fits_one d (leaf.Object g) m part e h =
    let c = object_nil g d e in
    let entries : table_faults (member_look d) m (table c.0) ≡ [] =
    ap (λ o. table_faults (member_look d) m (class_entries o)) (sym c.1) ∙ h in
    class c.1 (λ r in_table q. needed_at m r (get r.name d)
    (entries_nil (member_look d) m (table c.0) r entries in_table) q)
    (λ r x in_table is. part r x is (entry_keyed (table c.0) r (table_keyed c.0) in_table)
    (part_at m r (get r.name d) x (entries_nil (member_look d) m (table c.0) r entries in_table) is))

one_nil : (d : Data) (l : Leaf) (m : Key)
    → ((r : Entry) (e : Data) → get r.name d ≡ Some e → is_keyed r.kind ≡ true
    → faults e r.kind key.Free ≡ [] → HasForm r.kind e) → faults d (One l) m ≡ []
    → HasForm (One l) d
one_nil d l m part e =
    let h = sym (faults-one d l m) ∙ e in fits_one d l m part (left_nil _ _ h) (right_nil _ _ h)

no_array : (d : Data) (l : Leaf) (least most : ℕ) (k m : Key) → as_array d ≡ None
    → faults d (Array l least most k) m ≡ [] → HasForm (Array l least most k) d
no_array d l least most k m none e = let h = sym (faults-no_array d l least most k m none) ∙ e in cc

-- ---- no key twice

has_entry_at : (n : List ℕ) (r : Entry) (rs : List Entry) (b : Bool) → bytes_eq n r.name ≡ b
    → (b || has_entry n rs) ≡ true → (has_entry n rs ≡ true
    → (x : Entry) × (IsEntry rs x × (n ≡ x.name))) → (x : Entry) × (IsEntry (r ∷ rs) x × (n ≡ x.name))
has_entry_at n r rs true is q later = (r, (inl refl, (bytes_eq-Decides n r.name).0 is))
has_entry_at n r rs false is q later = let x = later q in (x.0, (inr x.1.0, x.1.1))

repeat_at : (m : Key) (r : Entry) (o : Option Data) (e : Data)
    → entry_faults m r (option_map (λ x. faults x r.kind key.Free) o) ≡ [] → o ≡ Some e
    → repeat_faults m r.name ≡ []
repeat_at m r None e h is = cc
repeat_at m r (Some d) e h is = right_nil _ _ h

has_entry_out : (n : List ℕ) (rs : List Entry) → has_entry n rs ≡ true
    → (r : Entry) × (IsEntry rs r × (n ≡ r.name))
has_entry_out n [] q = cc
has_entry_out n (r ∷ rs) q = has_entry_at n r rs (bytes_eq n r.name) refl q (has_entry_out n rs)

find_at : (n : List ℕ) (b : Bool) (x : Class) (rest : Option Class) (c : Class)
    → has_entry n (table x) ≡ true → (rest ≡ Some c → has_entry n (table c) ≡ true)
    → cond b (Some x) rest ≡ Some c → has_entry n (table c) ≡ true
find_at n true x rest c here later is =
    let same : x ≡ c = cc in subst (λ y. has_entry n (table y) ≡ true) same here
find_at n false x rest c here later is = later is

find_has_entry : (n : List ℕ) (s : List ℕ) (cs : List Class) (c : Class) → all_have_entry n cs ≡ true
    → find_class cs s ≡ Some c → has_entry n (table c) ≡ true
find_has_entry n s [] c q is = cc
find_has_entry n s (x ∷ cs) c q is = find_at n (bytes_eq s (type_text x)) x (find_class cs s) c
    (and_parts _ _ q).0 (find_has_entry n s cs c (and_parts _ _ q).1) is

and_then_some : {A B : Type 0} (f : A → Option B) (o : Option A) (b : B)
    → option_and_then f o ≡ Some b → (a : A) × ((o ≡ Some a) × (f a ≡ Some b))
and_then_some f None b is = cc
and_then_some f (Some a) b is = (a, (refl, is))

-- a marked item has a fault, if its class has an entry for the key
marked_entry : (d : Data) (m : Key) (n s : List ℕ) (rs : List Entry) → has_entry n rs ≡ true
    → option_and_then as_str (get n d) ≡ Some s → (repeat_faults m n ≡ [] → ⊥)
    → table_faults (member_look d) m rs ≡ [] → ⊥
marked_entry d m n s rs q is stands e =
    let r = has_entry_out n rs q in
    let x = and_then_some as_str (get n d) s is in
    let none : entry_faults m r.0 (member_look d r.0.name r.0.kind) ≡ [] =
    entries_nil (member_look d) m rs r.0 e r.1.0 in
    let there : get r.0.name d ≡ Some x.0 = ap (λ y. get y d) (sym r.1.1) ∙ x.1.0 in
    stands (subst (λ y. repeat_faults m y ≡ []) (sym r.1.1)
    (repeat_at m r.0 (get r.0.name d) x.0 none there))

marked_object : (d : Data) (g : Group) (m : Key) (n s : List ℕ)
    → all_have_entry n (classes_of g) ≡ true → option_and_then as_str (get n d) ≡ Some s
    → (repeat_faults m n ≡ [] → ⊥) → faults d (One (leaf.Object g)) m ≡ [] → ⊥
marked_object d g m n s q is stands e =
    let h = sym (faults-one d (leaf.Object g) m) ∙ e in
    let c = object_nil g d (left_nil _ _ h) in
    let t = and_then_some (find_class (classes_of g))
    (option_and_then as_str (get (codes "@type") d)) c.0 c.1 in
    let entries : table_faults (member_look d) m (table c.0) ≡ [] =
    ap (λ o. table_faults (member_look d) m (class_entries o)) (sym c.1) ∙ right_nil _ _ h in
    marked_entry d m n s (table c.0) (find_has_entry n t.0 (classes_of g) c.0 q t.1.1) is stands entries

stands_id : repeat_faults key.Id (codes "@id") ≡ [] → ⊥
stands_id e = cc

stands_contest : repeat_faults key.Contest (codes "ContestId") ≡ [] → ⊥
stands_contest e = cc

marked_leaf : (l : Leaf) (d : Data) (m : Key) (n s : List ℕ) → leaf_has_entry n l ≡ true
    → option_and_then as_str (get n d) ≡ Some s → (repeat_faults m n ≡ [] → ⊥)
    → faults d (One l) m ≡ [] → ⊥
marked_leaf l d m n s q is stands e = grind (arith, marked_object)

marked : (l : Leaf) (k : Key) (d : Data) (s : List ℕ) → key_has_entry k l ≡ true
    → key_text k d ≡ Some s → faults d (One l) k ≡ [] → ⊥
marked l key.Free d s q is e = cc
marked l key.Id d s q is e = marked_leaf l d key.Id (codes "@id") s q is stands_id e
marked l key.Contest d s q is e =
    marked_leaf l d key.Contest (codes "ContestId") s q is stands_contest e

split_mark : (l : Leaf) (k : Key) (d : Data) (b : Bool) → (faults d (One l) k ≡ [] → ⊥)
    → faults d (One l) (if b then k else key.Free) ≡ [] → b ≡ false
split_mark l k d true never e = absurd (never e)
split_mark l k d false never e = refl

apart_at : (l : Leaf) (k : Key) (d : Data) (seen : List (List ℕ)) (o : Option (List ℕ))
    → key_text k d ≡ o → key_has_entry k l ≡ true
    → faults d (One l) (if is_among o seen then k else key.Free) ≡ [] → is_among o seen ≡ false
apart_at l k d seen None is q e = refl
apart_at l k d seen (Some s) is q e =
    split_mark l k d (is_among (Some s) seen) (marked l k d s q is) e

items_apart : (ds : Items) (l : Leaf) (k : Key) (i : ℕ) (seen : List (List ℕ))
    → key_has_entry k l ≡ true → items_faults ds l k i seen ≡ [] → ApartFrom k seen ds
items_apart no_items l k i seen q h = tt
items_apart (item d ds) l k i seen q h = (
  apart_at l k d seen (key_text k d) refl q (under_nil _ _ (left_nil _ _ h)),
  items_apart ds l k
      (i + 1) _ q (right_nil _ _ h),
)

-- ---- down the value

fits_array : (d : Data) (ds : Items) (l : Leaf) (least most : ℕ) (k : Key) → as_array d ≡ Some ds
    → ((i : ℕ) (e : Data) → get_item i ds ≡ Some e → HasForm (One l) e) → ApartFrom k [] ds
    → length_faults least most (items_len ds) ≡ [] → HasForm (Array l least most k) d
fits_array d ds l least most k is each apart e =
    items is (leb-true _ _ (unless_nil _ _ (left_nil _ _ e)))
    (leb-true _ _ (unless_nil _ _ (right_nil _ _ e))) each (apart_places k [] ds apart)

member_at : (o : Ordering) (d e : Data) (rest : Option Data) (k : Kind)
    → ((rest ≡ Some e) → HasForm k e) → (faults d k key.Free ≡ [] → HasForm k d)
    → match_ordering o rest (Some d) rest ≡ Some e → faults e k key.Free ≡ [] → HasForm k e
member_at Less d e rest k later here is h = later is
member_at Equal d e rest k later here is h = let same : d ≡ e = cc in
    subst (λ x. HasForm k x) same (here (subst (λ x. faults x k key.Free ≡ []) (sym same) h))
member_at Greater d e rest k later here is h = later is

no_member : (x : Data) (k : Kind) → None ≡ Some x → HasForm k x
no_member x k is = cc

mutual
  pub fits_of : (d : Data) (k : Kind) (m : Key) → is_keyed k ≡ true → faults d k m ≡ []
      → HasForm k d
  fits_of null (One l) m q e = one_nil null l m (λ r x is kd h. no_member x r.kind is) e
  fits_of null (Array l least most k) m q e = no_array null l least most k m refl e
  fits_of (boolean b) (One l) m q e =
      one_nil (boolean b) l m (λ r x is kd h. no_member x r.kind is) e
  fits_of (boolean b) (Array l least most k) m q e = no_array (boolean b) l least most k m refl e
  fits_of (number n) (One l) m q e = one_nil (number n) l m (λ r x is kd h. no_member x r.kind is) e
  fits_of (number n) (Array l least most k) m q e = no_array (number n) l least most k m refl e
  fits_of (string s) (One l) m q e = one_nil (string s) l m (λ r x is kd h. no_member x r.kind is) e
  fits_of (string s) (Array l least most k) m q e = no_array (string s) l least most k m refl e
  fits_of (array ds) (One l) m q e = one_nil (array ds) l m (λ r x is kd h. no_member x r.kind is) e
  fits_of (array ds) (Array l least most k) m q e =
      fits_array (array ds) ds l least most k refl (items_fit ds l k 0 [] (right_nil _ _ e))
      (items_apart ds l k 0 [] q (right_nil _ _ e)) (left_nil _ _ e)
  fits_of (object ms) (One l) m q e =
      one_nil (object ms) l m (λ r x is kd h. members_fit ms r.name r.kind x is kd h) e
  fits_of (object ms) (Array l least most k) m q e = no_array (object ms) l least most k m refl e

  items_fit : (ds : Items) (l : Leaf) (k : Key) (i : ℕ) (seen : List (List ℕ))
      → items_faults ds l k i seen ≡ [] → (j : ℕ) (e : Data) → get_item j ds ≡ Some e
      → HasForm (One l) e
  items_fit no_items l k i seen h j e is = no_member e (One l) is
  items_fit (item d ds) l k i seen h zero e is = let same : d ≡ e = cc in
      subst (λ x. HasForm (One l) x) same
      (fits_of d (One l) (mark_of k seen d) refl (under_nil _ _ (left_nil _ _ h)))
  items_fit (item d ds) l k i seen h (suc j) e is =
      items_fit ds l k (i + 1) _ (right_nil _ _ h) j e is

  members_fit : (ms : Members) (n : List ℕ) (k : Kind) (e : Data) → get_member n ms ≡ Some e
      → is_keyed k ≡ true → faults e k key.Free ≡ [] → HasForm k e
  members_fit no_members n k e is q h = no_member e k is
  members_fit (member l d ms) n k e is q h =
      member_at (slice_cmp nat_cmp n l) d e (get_member n ms) k (λ x. members_fit ms n k e x q h)
      (λ x. fits_of d k key.Free q x) is h

-- ---- from a fit to no fault

plain_ok : (d : Data) (l : Leaf) → class_below l d ≡ None → leaf_faults l d ≡ []
    → faults d (One l) key.Free ≡ []
plain_ok d l below e = rw (faults-one d l key.Free, below, e)

class_ok : (o : Option Class) (c : Class) → o ≡ Some c → class_faults o ≡ []
class_ok None c is = cc
class_ok (Some x) c is = refl

type_text_ok : (g : Group) (o : Option (List ℕ)) (c : Class)
    → option_and_then (find_class (classes_of g)) o ≡ Some c → type_text_faults g o ≡ []
type_text_ok g None c is = cc
type_text_ok g (Some s) c is = class_ok (find_class (classes_of g) s) c is

type_ok : (g : Group) (o : Option Data) (c : Class)
    → option_and_then (find_class (classes_of g)) (option_and_then as_str o) ≡ Some c
    → type_faults g o ≡ []
type_ok g None c is = cc
type_ok g (Some d) c is = type_text_ok g (as_str d) c is

pub object_ok : (g : Group) (d : Data) (c : Class) → class_in g d ≡ Some c
    → leaf_faults (leaf.Object g) d ≡ []
object_ok g d c is = grind (arith, type_ok)

absent_ok : (b : Bool) (r : Rule) → (b ≡ true → ⊥) → unless (not b) r ≡ []
absent_ok true r never = absurd (never refl)
absent_ok false r never = refl

entry_ok : (r : Entry) (o : Option Data) → (r.required ≡ true → IsSome o)
    → ((e : Data) → o ≡ Some e → faults e r.kind key.Free ≡ [])
    → entry_faults key.Free r (option_map (λ x. faults x r.kind key.Free) o) ≡ []
entry_ok r None needed part = absent_ok r.required _ (λ q. true≢false (sym (needed q)))
entry_ok r (Some e) needed part = rw (part e refl)

entries_ok : (d : Data) (rs : List Entry) →
    ((r : Entry) → IsEntry rs r → entry_faults key.Free r (member_look d r.name r.kind) ≡ [])
    → table_faults (member_look d) key.Free rs ≡ []
entries_ok d [] each = refl
entries_ok d (r ∷ rs) each = rw (each r (inl refl), entries_ok d rs (λ x h. each x (inr h)))

pub length_ok : (least most n : ℕ) → least ≤ n → n ≤ most → length_faults least most n ≡ []
length_ok least most n lo hi = rw (le-leb least n lo, le-leb n most hi)

items_ok : (ds : Items) (l : Leaf) (k : Key) (i : ℕ) (seen : List (List ℕ))
    → ((j : ℕ) (e : Data) → get_item j ds ≡ Some e → faults e (One l) key.Free ≡ [])
    → ApartFrom k seen ds → items_faults ds l k i seen ≡ []
items_ok no_items l k i seen each apart = refl
items_ok (item d ds) l k i seen each apart =
    rw (
      apart.0,
      each zero d refl,
      items_ok ds l k (i + 1) (add_text (key_text k d) seen)
          (λ j e is. each (suc j) e is) apart.1,
    )

pub no_faults : {k : Kind} {d : Data} → HasForm k d → faults d k key.Free ≡ []
no_faults (text {d = d} is) = plain_ok d leaf.Text refl (rw is)
no_faults (name {d = d} is n) = plain_ok d leaf.Name refl (rw (is, n))
no_faults (count {d = d} is n) = plain_ok d leaf.Count refl (rw (is, n))
no_faults (whole {d = d} is) = plain_ok d leaf.Whole refl (rw is)
no_faults (truth {d = d} is) = plain_ok d leaf.Truth refl (rw is)
no_faults (moment {d = d} is n) = plain_ok d leaf.Moment refl (rw (is, n))
no_faults (listed {d = d} {l = l} is n) = plain_ok d (leaf.Listed l) refl (rw (is, n))
no_faults (class {d = d} {g = g} {c = c} is needed part) =
    rw (faults-one d (leaf.Object g) key.Free, object_ok g d c is, is)
    (entries_ok d (table c) (λ r h. entry_ok r (get r.name d) (needed r h)
    (λ e there. no_faults (part r e h there))))
no_faults (items {d = d} {ds = ds} {l = l} {least = least} {most = most} {k = k} is lo hi each
    apart) =
    rw (faults-array d ds l least most k key.Free is, length_ok least most (items_len ds) lo hi)
    (items_ok ds l k 0 [] (λ j e there. no_faults (each j e there)) (apart_from k ds apart))

pub in_order : TablesInOrder
in_order c = grind arith
