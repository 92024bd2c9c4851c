-- Texts that stand at one place each, item by item.
use Rattle.std.proofs.Common.{◌≡◌, ℕ, zero, suc, List, [], true, false, ◌||◌, Option, Some}
use Rattle.std.proofs.Common.{None, bytes_eq, true≢false, refl, sym, ap, ◌∙◌, subst, arith}
use Rattle.std.specs.List.{list_any}
use Rattle.std.proofs.lemmas.Slice.Eq.{bytes_eq-Decides}
use Rattle.std.proofs.lemmas.Bool.{or_parts, or_from, false_from_ne_true}
use Rattle.serde_json.specs.Data.{Data, Items, no_items, item}
use Rattle.serde_json.specs.Find.{get_item}
use Rattle.cdf_form.specs.declared.table.Key.{Key}
use Rattle.cdf_form.specs.Form.{key_text, is_among, add_text}
use Rattle.cdf_form.specs.HasForm.{AreApart}

-- no text under the key stands twice among the items, nor is one of those already seen
abbrev pub ApartFrom : Key → List (List ℕ) → Items → Type 0
ApartFrom k seen no_items = Unit {0}
ApartFrom k seen (item d ds) = (is_among (key_text k d) seen ≡ false)
    × ApartFrom k (add_text (key_text k d) seen) ds

-- none of these texts is an item's
abbrev pub AreNew : Key → List (List ℕ) → Items → Type 0
AreNew k seen ds = (i : ℕ) (d : Data) (s : List ℕ) → get_item i ds ≡ Some d → key_text k d ≡ Some s
    → list_any (λ t. bytes_eq t s) seen ≡ false

same_text : (s : List ℕ) → bytes_eq s s ≡ true
same_text s = (bytes_eq-Decides s s).1 refl

among_new : (o : Option (List ℕ)) (seen : List (List ℕ)) (s : List ℕ) → o ≡ Some s
    → is_among o seen ≡ false → list_any (λ t. bytes_eq t s) seen ≡ false
among_new o seen s is h = subst (λ x. is_among x seen ≡ false) is h

less_seen : (o : Option (List ℕ)) (seen : List (List ℕ)) (s : List ℕ)
    → list_any (λ t. bytes_eq t s) (add_text o seen) ≡ false
    → list_any (λ t. bytes_eq t s) seen ≡ false
less_seen None seen s h = h
less_seen (Some t) seen s h = (or_parts (bytes_eq t s) (list_any (λ t. bytes_eq t s) seen) h).1

new_from : (k : Key) (seen : List (List ℕ)) (ds : Items) → ApartFrom k seen ds → AreNew k seen ds
new_from k seen no_items h i d s is text = cc
new_from k seen (item x ds) h zero d s is text =
    let same : x ≡ d = cc in among_new (key_text k x) seen s (ap (key_text k) same ∙ text) h.0
new_from k seen (item x ds) h (suc i) d s is text =
    less_seen (key_text k x) seen s (new_from k (add_text (key_text k x) seen) ds h.1 i d s is text)

-- a text that was seen is no later item's
not_later : (k : Key) (seen : List (List ℕ)) (x : Data) (ds : Items) (i : ℕ) (d : Data) (s : List ℕ)
    → ApartFrom k (add_text (key_text k x) seen) ds → key_text k x ≡ Some s → get_item i ds ≡ Some d
    → key_text k d ≡ Some s → ⊥
not_later k seen x ds i d s h first is text =
    let new = new_from k (add_text (key_text k x) seen) ds h i d s is text in
    let old : (bytes_eq s s || list_any (λ t. bytes_eq t s) seen) ≡ false =
    subst (λ o. list_any (λ t. bytes_eq t s) (add_text o seen) ≡ false) first new in
    true≢false
    (sym (same_text s) ∙ (or_parts (bytes_eq s s) (list_any (λ t. bytes_eq t s) seen) old).0)

pub apart_places : (k : Key) (seen : List (List ℕ)) (ds : Items) → ApartFrom k seen ds
    → AreApart k ds
apart_places k seen no_items h i j d e s a b p q = cc
apart_places k seen (item x ds) h zero zero d e s a b p q = refl
apart_places k seen (item x ds) h zero (suc j) d e s a b p q =
    let same : x ≡ d = cc in absurd (not_later k seen x ds j e s h.1 (ap (key_text k) same ∙ p) b q)
apart_places k seen (item x ds) h (suc i) zero d e s a b p q =
    let same : x ≡ e = cc in absurd (not_later k seen x ds i d s h.1 (ap (key_text k) same ∙ q) a p)
apart_places k seen (item x ds) h (suc i) (suc j) d e s a b p q =
    ap suc (apart_places k (add_text (key_text k x) seen) ds h.1 i j d e s a b p q)

among_at : (k : Key) (seen : List (List ℕ)) (x : Data) (ds : Items) (o : Option (List ℕ))
    → key_text k x ≡ o → AreNew k seen (item x ds) → is_among o seen ≡ false
among_at k seen x ds None is new = refl
among_at k seen x ds (Some s) is new = new zero x s refl is

zero_later : (i : ℕ) → zero ≡ suc i → ⊥
zero_later i e = omega arith

more_at : (k : Key) (seen : List (List ℕ)) (x : Data) (ds : Items) (o : Option (List ℕ))
    → key_text k x ≡ o → AreApart k (item x ds) → AreNew k seen (item x ds)
    → AreNew k (add_text o seen) ds
more_at k seen x ds None is apart new i d s at text = new (suc i) d s at text
more_at k seen x ds (Some t) is apart new i d s at text =
    or_from (bytes_eq t s) (list_any (λ u. bytes_eq u s) seen)
    (false_from_ne_true (bytes_eq t s) (λ e.
    zero_later i (apart zero (suc i) x d s refl at (is ∙ ap Some ((bytes_eq-Decides t s).0 e))
    text))) (new (suc i) d s at text)

rest_apart : (k : Key) (x : Data) (ds : Items) → AreApart k (item x ds) → AreApart k ds
rest_apart k x ds apart i j d e s a b p q =
    let h = apart (suc i) (suc j) d e s a b p q in omega arith

apart_new : (k : Key) (seen : List (List ℕ)) (ds : Items) → AreApart k ds → AreNew k seen ds
    → ApartFrom k seen ds
apart_new k seen no_items apart new = tt
apart_new k seen (item x ds) apart new = (
  among_at k seen x ds (key_text k x) refl new,
  apart_new k (add_text (key_text k x) seen) ds
      (rest_apart k x ds apart) (more_at k seen x ds (key_text k x) refl apart new),
)

pub apart_from : (k : Key) (ds : Items) → AreApart k ds → ApartFrom k [] ds
apart_from k ds apart = apart_new k [] ds apart (λ i d s at text. refl)
