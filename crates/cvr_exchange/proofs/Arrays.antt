-- Arrays of objects whose ids rise have the form of arrays of their kind.
use Rattle.std.proofs.Common.{◌≡◌, ◌≤◌, ℕ, zero, suc, List, [], ◌∷◌, map, Contains, Some, Less}
use Rattle.std.proofs.Common.{Equal, refl, sym, ap, ◌∙◌, subst, codes}
use Rattle.std.proofs.lemmas.Option.{same_Some}
use Rattle.std.specs.Prelude.{slice_get}
use Rattle.std.specs.List.{AllByRecursion}
use Rattle.std.specs.List.Sorted.{IsStrictlySortedBy}
use Rattle.std.specs.Cmp.{tied_itself}
use Rattle.serde_json.specs.Data.{Data, array}
use Rattle.serde_json.specs.Find.{get_item}
use Rattle.serde_json.specs.Events.{items_len}
use Rattle.serde_json.specs.View.{items_of}
use Rattle.cdf_form.specs.declared.table.Group.{Group}
use Rattle.cdf_form.specs.declared.table.Leaf.{Leaf}
use Rattle.cdf_form.specs.declared.table.Leaf.TheVariants as leaf
use Rattle.cdf_form.specs.declared.table.Key.TheVariants as key
use Rattle.cdf_form.specs.declared.table.Kind.TheVariants.{One, Array}
use Rattle.cdf_form.specs.Tables.{table, classes_of, any}
use Rattle.cdf_form.specs.Form.{key_text}
use Rattle.cdf_form.specs.HasForm.{HasForm, items}
use Rattle.cdf_parts.specs.Parts.{id_of}
use Rattle.cdf_form.specs.ByEntry.{AllClasses, find_entry}
use Rattle.cdf_definition.specs.Depths.{id_entry}
use Rattle.cdf_definition.proofs.Laws.{has_id}
use Rattle.cvr_fact_types.specs.Facts.{text_cmp}
use Rattle.cvr_facts.proofs.Laws.{text_total}
use Rattle.cvr_facts.proofs.Lemmas.{at_head, at_tail}
use Rattle.cdf_check.proofs.Lemmas.{listed_item}

abbrev pub IsRising : List (List ℕ) → Type 0
IsRising ids = IsStrictlySortedBy text_cmp ids

-- ---- a text stands once in a list that rises

below_at : (x : List ℕ) (xs : List (List ℕ)) (j : ℕ) (s : List ℕ)
    → AllByRecursion (λ y. text_cmp x y ≡ Less) xs → slice_get xs j ≡ Some s → text_cmp x s ≡ Less
below_at x [] j s h is = absurd (Prim.cc is)
below_at x (y ∷ xs) zero s h is = subst (λ z. text_cmp x z ≡ Less) (same_Some y s is) h.0
below_at x (y ∷ xs) (suc j) s h is = below_at x xs j s h.1 is

never_below : (x s : List ℕ) → x ≡ s → text_cmp x s ≡ Less → ⊥
never_below x s same less = let tied : Less ≡ Equal = sym less
    ∙ (ap (text_cmp x) (sym same) ∙ tied_itself text_total x) in absurd (Prim.cc tied)

same_place : (xs : List (List ℕ)) → IsRising xs → (i j : ℕ) (s : List ℕ) → slice_get xs i ≡ Some s
    → slice_get xs j ≡ Some s → i ≡ j
unfolding IsStrictlySortedBy
same_place [] h i j s p q = absurd (Prim.cc p)
same_place (x ∷ xs) h zero zero s p q = refl
same_place (x ∷ xs) h zero (suc j) s p q =
    absurd (never_below x s (same_Some x s p) (below_at x xs j s h.0 q))
same_place (x ∷ xs) h (suc i) zero s p q =
    absurd (never_below x s (same_Some x s q) (below_at x xs i s h.0 p))
same_place (x ∷ xs) h (suc i) (suc j) s p q = ap suc (same_place xs h.1 i j s p q)

-- ---- items and lists

-- the id of an item stands at its place
id_place : (ds : List Data) (i : ℕ) (d : Data) (s : List ℕ)
    → ((e : Data) → Contains ds e → key_text key.Id e ≡ Some (id_of e))
    → get_item i (items_of ds) ≡ Some d → key_text key.Id d ≡ Some s
    → slice_get (map id_of ds) i ≡ Some s
id_place [] i d s h at text = absurd (Prim.cc at)
id_place (x ∷ ds) zero d s h at text =
    sym (h x (at_head x ds)) ∙ (ap (key_text key.Id) (same_Some x d at) ∙ text)
id_place (x ∷ ds) (suc i) d s h at text = id_place ds i d s (λ e a. h e (at_tail x e ds a)) at text

-- objects whose ids rise
pub objects_form : (g : Group) (least : ℕ) (ds : List Data)
    → AllClasses (λ c. find_entry (codes "@id") (table c) ≡ Some id_entry) (classes_of g)
    → ((d : Data) → Contains ds d → HasForm (One (leaf.Object g)) d) → IsRising (map id_of ds)
    → least ≤ items_len (items_of ds) → items_len (items_of ds) ≤ any
    → HasForm (Array (leaf.Object g) least any key.Id) (array (items_of ds))
objects_form g least ds keyed each rises some few =
    let have_ids : (e : Data) → Contains ds e → key_text key.Id e ≡ Some (id_of e) =
    λ e a. has_id g e keyed (each e a) in
    items {ds = items_of ds} refl some few (λ i e at. each e (listed_item ds i e at))
    (λ i j d e s a b p q. same_place (map id_of ds) rises i j s (id_place ds i d s have_ids a p)
    (id_place ds j e s have_ids b q))

-- any values of a kind
pub values_form : (l : Leaf) (least most : ℕ) (ds : List Data)
    → ((d : Data) → Contains ds d → HasForm (One l) d) → least ≤ items_len (items_of ds)
    → items_len (items_of ds) ≤ most
    → HasForm (Array l least most key.Free) (array (items_of ds))
values_form l least most ds each some few =
    items {ds = items_of ds} refl some few (λ i e at. each e (listed_item ds i e at))
    (λ i j d e s a b p q. absurd (Prim.cc p))
