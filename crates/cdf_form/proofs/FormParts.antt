-- What a value that has the form of a kind has: its class, its members, its items.
use Rattle.std.proofs.Common.{◌≡◌, ◌≤◌, ◌<◌, ℕ, zero, suc, List, [], ◌∷◌, length, slice_index_or}
use Rattle.std.proofs.Common.{Contains}
use Rattle.std.proofs.Common.{Bool, true, false, cond, Option, Some, None, IsSome, bytes_eq, codes}
use Rattle.std.proofs.Common.{refl, sym, ap, ◌∙◌, subst, arith, inl, inr}
use Rattle.std.specs.Prelude.{option_and_then, unwrap_or}
use Rattle.std.specs.List.{list_any}
use Rattle.std.proofs.lemmas.Bool.Decides.{nat_tests}
use Rattle.std.proofs.lemmas.Option.{same_Some}
use Rattle.serde_json.specs.Data.{Num, unsigned}
use Rattle.serde_json.specs.Data.{Data, null, boolean, number, string, array, object}
use Rattle.serde_json.specs.Data.{Items, no_items, item, Members}
use Rattle.serde_json.specs.Find.{get, get_item, as_str, as_number, as_array}
use Rattle.serde_json.specs.Events.{items_len}
use Rattle.cdf_form.specs.declared.table.Class.{Class}
use Rattle.cdf_form.specs.declared.table.Group.{Group}
use Rattle.cdf_form.specs.declared.table.Listing.{Listing}
use Rattle.cdf_form.specs.declared.table.Leaf.{Leaf}
use Rattle.cdf_form.specs.declared.table.Leaf.TheVariants as leaf
use Rattle.cdf_form.specs.declared.table.Key.{Key}
use Rattle.cdf_form.specs.declared.table.Kind.TheVariants.{One, Array}
use Rattle.cdf_form.specs.Tables.{Entry, table, classes_of, type_text, listed_in}
use Rattle.cdf_form.specs.Form.{is_count, is_moment, class_in, find_class}
use Rattle.cdf_form.specs.HasForm.{IsEntry, HasForm, text, name, count, moment, listed, class, items}
use Rattle.cdf_node.specs.Items.{list_of}
use Rattle.cdf_parts.specs.Parts.{array_at, text_in, text_at}
use Rattle.cdf_form.specs.ByEntry.{AllClasses, find_entry, HasEntry, HasClass, IsTextual, ListApart}

-- ---- values by their kinds

pub some_of : {A : Type 0} (o : Option A) → IsSome o → (a : A) × (o ≡ Some a)
some_of None h = absurd (cc)
some_of (Some a) h = (a, refl)

pub is_string : (e : Data) (s : List ℕ) → as_str e ≡ Some s → e ≡ string s
is_string e s is = grind arith

pub is_number : (e : Data) (n : Num) → as_number e ≡ Some n → e ≡ number n
is_number e n is = grind arith

pub is_array : (e : Data) (ds : Items) → as_array e ≡ Some ds → e ≡ array ds
is_array e ds is = grind arith

-- a text under a name is all of its member
pub is_text_in : (n s : List ℕ) (d : Data) → text_in n d ≡ Some s → get n d ≡ Some (string s)
is_text_in n s d is = go (get n d) is
  where
    go : (o : Option Data) → option_and_then as_str o ≡ Some s → o ≡ Some (string s)
    go None e = absurd (cc)
    go (Some x) e = ap Some (is_string x s e)

-- ---- classes and entries

entry_at : (b : Bool) (n : List ℕ) (x r : Entry) (rs : List Entry)
    → (find_entry n rs ≡ Some r → IsEntry rs r) → cond b (Some x) (find_entry n rs) ≡ Some r
    → IsEntry (x ∷ rs) r
entry_at true n x r rs later is = inl (same_Some x r is)
entry_at false n x r rs later is = inr (later is)

pub entry_in : (n : List ℕ) (rs : List Entry) (r : Entry) → find_entry n rs ≡ Some r → IsEntry rs r
entry_in n [] r is = absurd (cc)
entry_in n (x ∷ rs) r is = entry_at (bytes_eq n x.name) n x r rs (entry_in n rs r) is

class_at : (b : Bool) (P : Class → Type 0) (x c : Class) (rest : Option Class)
    → P x → (rest ≡ Some c → P c) → cond b (Some x) rest ≡ Some c → P c
class_at true P x c rest here later is = subst P (same_Some x c is) here
class_at false P x c rest here later is = later is

found_class : (P : Class → Type 0) (cs : List Class) (s : List ℕ) (c : Class) → AllClasses P cs
    → find_class cs s ≡ Some c → P c
found_class P [] s c h is = absurd (cc)
found_class P (x ∷ cs) s c h is =
    class_at (bytes_eq s (type_text x)) P x c (find_class cs s) h.0 (found_class P cs s c h.1) is

-- what holds of each class of a group holds of an object's class
pub class_of_group : (P : Class → Type 0) (g : Group) (d : Data) (c : Class)
    → AllClasses P (classes_of g) → class_in g d ≡ Some c → P c
class_of_group P g d c h is = go (option_and_then as_str (get (codes "@type") d)) is
  where
    go : (o : Option (List ℕ)) → option_and_then (find_class (classes_of g)) o ≡ Some c → P c
    go None e = absurd (cc)
    go (Some s) e = found_class P (classes_of g) s c h e

pub has_class : {g : Group} {d : Data} → HasForm (One (leaf.Object g)) d → HasClass g d
has_class (class {c = c} is needed part) = record {
  its = c;
  its_is = is;
  entry = λ r i. record { there = needed r i; part = λ e at. part r e i at };
}

-- an object of a group of one class has that class
pub only_class : (g : Group) (c : Class) (d : Data) → AllClasses (λ x. x ≡ c) (classes_of g)
    → HasForm (One (leaf.Object g)) d → class_in g d ≡ Some c
only_class g c d only f =
    let h = has_class f in
    h.its_is ∙ ap Some (class_of_group (λ x. x ≡ c) g d h.its only h.its_is)

-- an entry that each class of the group has, found by computing: `(refl, tt)` for one class, `(refl,
-- (refl, tt))` for two
pub entry_named : (g : Group) (r : Entry) (d : Data)
    → AllClasses (λ c. find_entry r.name (table c) ≡ Some r) (classes_of g)
    → HasForm (One (leaf.Object g)) d → HasEntry r.required r.name r.kind d
entry_named g r d each f =
    let h = has_class f in
    h.entry r (entry_in r.name (table h.its) r
    (class_of_group (λ c. find_entry r.name (table c) ≡ Some r) g d h.its each h.its_is))

-- an object is an object
pub is_object : (g : Group) (d : Data) → HasForm (One (leaf.Object g)) d
    → (ms : Members) × (d ≡ object ms)
is_object g d f = let h = has_class f in go d h.its h.its_is
  where
    go : (e : Data) (c : Class) → class_in g e ≡ Some c → (ms : Members) × (e ≡ object ms)
    go null c is = absurd (cc)
    go (boolean b) c is = absurd (cc)
    go (number x) c is = absurd (cc)
    go (string s) c is = absurd (cc)
    go (array ds) c is = absurd (cc)
    go (object ms) c is = (ms, refl)

-- ---- texts

text_form : {e : Data} → HasForm (One leaf.Text) e → (s : List ℕ) × (as_str e ≡ Some s)
text_form (text {s = s} is) = (s, is)

name_form : {e : Data} → HasForm (One leaf.Name) e → (s : List ℕ) × (as_str e ≡ Some s)
name_form (name {s = s} is full) = (s, is)

moment_form : {e : Data} → HasForm (One leaf.Moment) e → (s : List ℕ) × (as_str e ≡ Some s)
moment_form (moment {s = s} is h) = (s, is)

listed_form : {l : Listing} {e : Data} → HasForm (One (leaf.Listed l)) e
    → (s : List ℕ) × (as_str e ≡ Some s)
listed_form (listed {s = s} is h) = (s, is)

pub textual_form : (l : Leaf) (e : Data) → IsTextual l → HasForm (One l) e
    → (s : List ℕ) × (as_str e ≡ Some s)
textual_form leaf.Text e q f = text_form f
textual_form leaf.Name e q f = name_form f
textual_form leaf.Count e q f = absurd q
textual_form leaf.Whole e q f = absurd q
textual_form leaf.Truth e q f = absurd q
textual_form leaf.Moment e q f = moment_form f
textual_form leaf.Fractional e q f = absurd q
textual_form (leaf.Listed l) e q f = listed_form f
textual_form (leaf.Object g) e q f = absurd q

pub moment_is_read : (s : List ℕ) → HasForm (One leaf.Moment) (string s) → is_moment s ≡ true
moment_is_read s f = go f refl
  where
    go : {e : Data} → HasForm (One leaf.Moment) e → as_str e ≡ Some s → is_moment s ≡ true
    go (moment {s = t} is h) same =
        subst (λ x. is_moment x ≡ true) (same_Some t s (sym is ∙ same)) h

pub listed_is_among : (l : Listing) (s : List ℕ) → HasForm (One (leaf.Listed l)) (string s)
    → list_any (bytes_eq s) (listed_in l) ≡ true
listed_is_among l s f = go f refl
  where
    go : {e : Data} → HasForm (One (leaf.Listed l)) e → as_str e ≡ Some s
        → list_any (bytes_eq s) (listed_in l) ≡ true
    go (listed {s = t} is h) same =
        subst (λ x. list_any (bytes_eq x) (listed_in l) ≡ true) (same_Some t s (sym is ∙ same)) h

module _ {b : Bool} {n : List ℕ} {l : Leaf} {d : Data} (entry : HasEntry b n (One l) d) where
  -- the text under the name has the form
  pub text_has_form : (s : List ℕ) → text_in n d ≡ Some s → HasForm (One l) (string s)
  text_has_form s is = entry.part (string s) (is_text_in n s d is)

  -- what is there is a text
  pub may_be_text : IsTextual l → (e : Data) → get n d ≡ Some e → IsSome (text_in n d)
  may_be_text q e at = let p = textual_form l e q (entry.part e at) in rw (at, p.1) refl

-- a required text is the one that a reader finds
pub must_be_text : {n : List ℕ} {l : Leaf} {d : Data} → HasEntry true n (One l) d → IsTextual l
    → get n d ≡ Some (string (text_at n d))
must_be_text {n = n} {l = l} {d = d} entry q =
    let p = some_of (get n d) (entry.there refl) in
    let t = textual_form l p.0 q (entry.part p.0 p.1) in
    let is : get n d ≡ Some (string t.0) = p.1 ∙ ap Some (is_string p.0 t.0 t.1) in
    is ∙ ap (λ s. Some (string s)) (sym (ap (λ o. unwrap_or (option_and_then as_str o) []) is))

pub must_text_in : {n : List ℕ} {l : Leaf} {d : Data} → HasEntry true n (One l) d → IsTextual l
    → text_in n d ≡ Some (text_at n d)
must_text_in {n = n} {l = l} {d = d} entry q = ap (option_and_then as_str) (must_be_text entry q)

-- and it has the form
pub must_have_form : {n : List ℕ} {l : Leaf} {d : Data} → HasEntry true n (One l) d → IsTextual l
    → HasForm (One l) (string (text_at n d))
must_have_form {n = n} {d = d} entry q = entry.part (string (text_at n d)) (must_be_text entry q)

-- ---- counts

counted : (n : Num) → is_count n ≡ true → (m : ℕ) × (n ≡ unsigned m) × (m ≤ 4_294_967_295)
counted n h = grind (arith, nat_tests)

pub count_form : {e : Data} → HasForm (One leaf.Count) e
    → (m : ℕ) × (e ≡ number (unsigned m)) × (m ≤ 4_294_967_295)
count_form {e = e} (count {n = n} is h) =
    let p = counted n h in
    (p.0, is_number e n is ∙ ap number p.1, p.2)

-- ---- items

items_length : (ds : Items) → length (list_of ds) ≡ items_len ds
items_length no_items = refl
items_length (item d ds) = ap suc (items_length ds)

item_there : (ds : Items) (i : ℕ) (e : Data) → i < length (list_of ds)
    → get_item i ds ≡ Some (slice_index_or (list_of ds) i e)
item_there no_items i e h = absurd (omega arith)
item_there (item d ds) zero e h = refl
item_there (item d ds) (suc i) e h = item_there ds i e (omega arith)

-- what the form of an array says of the list of its items
pub record HasItems (l : Leaf) (least most : ℕ) (k : Key) (xs : List Data) : Type 0 where
  pub some : least ≤ length xs
  pub few : length xs ≤ most
  pub each : (e : Data) → Contains xs e → HasForm (One l) e
  pub apart : ListApart k xs

items_form : {l : Leaf} {least most : ℕ} {k : Key} {e : Data} → HasForm (Array l least most k) e
    → (ds : Items) × (as_array e ≡ Some ds) × HasItems l least most k (list_of ds)
items_form {l = l} (items {ds = ds} is lo hi each apart) =
    let len : length (list_of ds) ≡ items_len ds = items_length ds in (
      ds,
      is,
      record {
        some = omega (arith, len, lo);
        few = omega (arith, len, hi);
        each = λ e a. subst (λ x. HasForm (One l) x) a.2
            (each a.0 (slice_index_or (list_of ds) a.0 e) (item_there ds a.0 e a.1));
        apart = λ i j d e s p q u v. apart i j _ _ s (item_there ds i d p) (item_there ds j e q) u
            v;
      },
    )

module _ {b : Bool} {n : List ℕ} {l : Leaf} {least most : ℕ} {k : Key} {d : Data}
    (entry : HasEntry b n (Array l least most k) d) where
  -- what is there is an array
  pub is_an_array : (e : Data) → get n d ≡ Some e → IsSome (as_array e)
  is_an_array e at = let p = items_form (entry.part e at) in rw p.1 refl

  -- the items of what is there
  pub found_items : (e : Data) → get n d ≡ Some e → HasItems l least most k (array_at n d)
  found_items e at =
      let p = items_form (entry.part e at) in
      let same : array_at n d ≡ list_of p.0 = rw (at, p.1) refl in
      subst (λ xs. HasItems l least most k xs) (sym same) p.2

  pub items_have_form : (e : Data) → Contains (array_at n d) e → HasForm (One l) e
  items_have_form e a = go (get n d) refl
    where
      go : (o : Option Data) → get n d ≡ o → HasForm (One l) e
      go None is = let none : array_at n d ≡ [] = rw is refl in
          absurd (let h : a.0 < length (array_at n d) = a.1 in
          let z : length (array_at n d) ≡ 0 = ap length none in omega (arith, h, z))
      go (Some x) is = (found_items x is).each e a

  pub items_are_few : length (array_at n d) ≤ most
  items_are_few = go (get n d) refl
    where
      go : (o : Option Data) → get n d ≡ o → length (array_at n d) ≤ most
      go None is = let z : length (array_at n d) ≡ 0 = rw is refl in omega (arith, z)
      go (Some x) is = (found_items x is).few

  pub items_are_apart : ListApart k (array_at n d)
  items_are_apart = go (get n d) refl
    where
      go : (o : Option Data) → get n d ≡ o → ListApart k (array_at n d)
      go None is = let z : length (array_at n d) ≡ 0 = rw is refl in
          λ i j x y s p q u v. absurd (omega (arith, p, z))
      go (Some x) is = (found_items x is).apart

-- a required array has at least so many items
pub items_are_some : {n : List ℕ} {l : Leaf} {least most : ℕ} {k : Key} {d : Data}
    → HasEntry true n (Array l least most k) d → least ≤ length (array_at n d)
items_are_some {n = n} {d = d} entry =
    let p = some_of (get n d) (entry.there refl) in (found_items entry p.0 p.1).some
