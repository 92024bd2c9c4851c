-- Texts that records name: each once, and whether ids list them.
use Rattle.std.proofs.Common.{◌≡◌, ◌↔◌, ℕ, ◌+◌, List, [], ◌∷◌, ◌++◌, slice_index_or, Contains, Bool}
use Rattle.std.proofs.Common.{true, false, cond, ◌&&◌, bytes_eq, nat_cmp, Option, None, Some, codes}
use Rattle.std.proofs.Common.{refl, sym, ap, ap₂, subst, ◌∙◌, arith}
use Rattle.std.specs.Prelude.{◌||◌, String, string_bytes, string_cmp}
use Rattle.std.specs.BTreeMap.{is_at}
use Rattle.std.specs.BTreeSet.{BTreeSet, UpdatesBy}
use Rattle.std.specs.Cmp.Derive.{both_true}
use Rattle.std.specs.Cmp.Lexicographic.{slice_cmp}
use Rattle.std.specs.List.{list_any, All, filter_map, flat_map, cons_option}
use Rattle.std.specs.declared.alloc.Global.{Global}
use Rattle.std.proofs.lemmas.Bool.Decides.{same_from_decides}
use Rattle.std.proofs.lemmas.List.{append-nil, append_assoc, flat_map_more}
use Rattle.std.proofs.lemmas.List.Elements.{All-nil, All-cons, All-contains, All-head, All-tail}
use Rattle.std.proofs.lemmas.List.Elements.{Contains-get_or}
use Rattle.std.proofs.lemmas.List.Folds.{list_all-append, list_any-append}
use Rattle.std.proofs.lemmas.Map.Text.{btree_set_updates_text, is_eq-slice_cmp}
use Rattle.std.proofs.lemmas.Slice.Eq.{bytes_eq-Decides}
use Rattle.std.proofs.lemmas.Bool.{and_parts, or_right}
use Rattle.serde_json.specs.Data.{Data}
use Rattle.serde_json.specs.Find.{as_str}
use Rattle.cdf_form.specs.Form.{Step, at_member, at_item}
use Rattle.cdf_parts.specs.Ids.{bytes_of}
use Rattle.cdf_parts.specs.Parts.{array_at, text_in}
use Rattle.cdf_parts.specs.Places.{Texts}
use Rattle.cdf_definition.specs.Paths.{Path, below, itself_unless, below_each}
use Rattle.cdf_definition.specs.References.{unknown, one, many}
use Rattle.cdf_check.specs.Within.{lists, named_parties, SameTexts}
use Rattle.cdf_definition.proofs.Lemmas.{inner}

-- ---- texts, each once

in_keys : (s : List ℕ) (keys : List (String Global))
    → list_any (is_at (λ k. slice_cmp nat_cmp s (string_bytes k))) keys
    ≡ list_any (bytes_eq s) (bytes_of keys)
in_keys s [] = refl
in_keys s (k ∷ keys) = ap₂ (λ a b. a || b) (is_eq-slice_cmp s (string_bytes k)) (in_keys s keys)

turned : (s t : List ℕ) → bytes_eq s t ≡ bytes_eq t s
turned s t =
    let back = bytes_eq-Decides t s in
    same_from_decides {P = s ≡ t} _ _ (bytes_eq-Decides s t)
    ((λ e. sym (back.0 e)), λ e. back.1 (sym e))

either : (t a : Bool) → cond t true a ≡ (a || (t || false))
either t a = grind arith

added : (xs ys : Texts) (text : List ℕ)
    → ((s : List ℕ) → list_any (bytes_eq s) ys
    ≡ cond (bytes_eq text s) true (list_any (bytes_eq s) xs)) → SameTexts ys (xs ++ text ∷ [])
added xs ys text h s =
    h s ∙ ap (λ b. cond b true (list_any (bytes_eq s) xs)) (turned text s)
    ∙ either (bytes_eq s text) (list_any (bytes_eq s) xs)
    ∙ sym (list_any-append (bytes_eq s) xs (text ∷ []))

-- a text that was there already
pub already_there : (keys : List (String Global)) (text : List ℕ)
    → list_any (is_at (λ k. slice_cmp nat_cmp text (string_bytes k))) keys ≡ true
    → SameTexts (bytes_of keys) (bytes_of keys ++ text ∷ [])
already_there keys text h =
    added (bytes_of keys) (bytes_of keys) text (λ s. at s (bytes_eq text s) refl)
  where
    at : (s : List ℕ) (b : Bool) → bytes_eq text s ≡ b
        → list_any (bytes_eq s) (bytes_of keys)
        ≡ cond b true (list_any (bytes_eq s) (bytes_of keys))
    at s true is = subst (λ t. list_any (bytes_eq t) (bytes_of keys) ≡ true)
        ((bytes_eq-Decides text s).0 is) (sym (in_keys text keys) ∙ h)
    at s false is = refl

-- a text that is inserted
pub one_more : (old new : BTreeSet (String Global)) (text : List ℕ)
    → UpdatesBy string_cmp (λ k. slice_cmp nat_cmp text (string_bytes k)) old new true
    → SameTexts (bytes_of new.keys) (bytes_of old.keys ++ text ∷ [])
one_more old new text h =
    added (bytes_of old.keys) (bytes_of new.keys) text
    (λ s. sym (in_keys s new.keys) ∙ btree_set_updates_text text old new true h s
    ∙ ap (cond (bytes_eq text s) true) (in_keys s old.keys))

pub none_more : (xs : Texts) → SameTexts xs (xs ++ [])
none_more xs s = ap (list_any (bytes_eq s)) (sym (append-nil xs))

pub same_before : (xs ys zs : Texts) → SameTexts xs ys → SameTexts (xs ++ zs) (ys ++ zs)
same_before xs ys zs h s =
    list_any-append (bytes_eq s) xs zs ∙ ap (λ b. b || list_any (bytes_eq s) zs) (h s)
    ∙ sym (list_any-append (bytes_eq s) ys zs)

front : (o : Option (List ℕ)) (rest : Texts) → cons_option o [] ++ rest ≡ cons_option o rest
front None rest = refl
front (Some t) rest = refl

-- one item more, where there are others to come
pub items_more : (old new rest all : Texts) (o : Option (List ℕ))
    → SameTexts new (old ++ cons_option o []) → SameTexts (old ++ cons_option o rest) all
    → SameTexts (new ++ rest) all
items_more old new rest all o n h s =
    same_before new (old ++ cons_option o []) rest n s
    ∙ ap (list_any (bytes_eq s)) (append_assoc old (cons_option o []) rest
    ∙ ap (λ xs. old ++ xs) (front o rest)) ∙ h s

-- those of one record more
pub named_more : (f : Data → Texts) (ds : List Data) (d : Data) (old new : Texts)
    → SameTexts old (flat_map f ds) → SameTexts new (old ++ f d)
    → SameTexts new (flat_map f (ds ++ d ∷ []))
named_more f ds d old new h n s = n s ∙ same_before old (flat_map f ds) (f d) h s
    ∙ ap (list_any (bytes_eq s)) (flat_map_more f [] ds d)

-- ---- texts that are listed

listed_in : (ids xs : Texts) (s : List ℕ) → lists ids xs ≡ true → list_any (bytes_eq s) xs ≡ true
    → list_any (bytes_eq s) ids ≡ true
listed_in ids [] s all found = cc
listed_in ids (x ∷ xs) s all found =
    at (bytes_eq s x) refl found
    (listed_in ids xs s (and_parts (list_any (bytes_eq x) ids) _ all).1)
  where
    at : (b : Bool) → bytes_eq s x ≡ b → (b || list_any (bytes_eq s) xs) ≡ true
        → (list_any (bytes_eq s) xs ≡ true → list_any (bytes_eq s) ids ≡ true)
        → list_any (bytes_eq s) ids ≡ true
    at true is there rest = subst (λ t. list_any (bytes_eq t) ids ≡ true)
        (sym ((bytes_eq-Decides s x).0 is)) (and_parts _ _ all).0
    at false is there rest = rest there

all_in : (ids ys : Texts) → ((s : List ℕ) → list_any (bytes_eq s) ys ≡ true
    → list_any (bytes_eq s) ids ≡ true) → lists ids ys ≡ true
all_in ids [] h = refl
all_in ids (y ∷ ys) h =
    both_true (h y (ap (λ b. b || list_any (bytes_eq y) ys) ((bytes_eq-Decides y y).1 refl)))
    (all_in ids ys (λ s is. h s (or_right (bytes_eq s y) _ is)))

same_listed : (ids xs ys : Texts) → SameTexts xs ys → lists ids xs ≡ true → lists ids ys ≡ true
same_listed ids xs ys same all = all_in ids ys (λ s is. listed_in ids xs s all (same s ∙ is))

listed_one : (ids : Texts) (s : Step) (o : Option (List ℕ)) (ps : List Path) (texts : Texts)
    → (ps ≡ []) ↔ (lists ids texts ≡ true)
    → (below s (unknown ids o) ++ ps ≡ []) ↔ (lists ids (cons_option o texts) ≡ true)
listed_one ids s None ps texts h = h
listed_one ids s (Some x) ps texts h = known (list_any (bytes_eq x) ids)
  where
    known : (t : Bool) → (below s (itself_unless t) ++ ps ≡ []) ↔ ((t && lists ids texts) ≡ true)
    known true = h
    known false = ((λ e. cc), λ e. cc)

listed_by : (ids : Texts) (es : List Data) (i : ℕ)
    → (below_each (λ e. unknown ids (as_str e)) es i ≡ [])
    ↔ (lists ids (filter_map as_str es) ≡ true)
listed_by ids [] i = ((λ _. refl), λ _. refl)
listed_by ids (e ∷ es) i = listed_one ids (at_item i) (as_str e)
    (below_each (λ x. unknown ids (as_str x)) es (i + 1)) (filter_map as_str es)
    (listed_by ids es (i + 1))

-- a text under a name is there where it is listed
pub one_listed : (ids : Texts) (name : List ℕ) (cvr : Data)
    → (one ids name cvr ≡ []) ↔ (lists ids (cons_option (text_in name cvr) []) ≡ true)
one_listed ids name cvr = subst (λ ps. (ps ≡ [])
    ↔ (lists ids (cons_option (text_in name cvr) []) ≡ true)) (append-nil _)
    (listed_one ids (at_member name) (text_in name cvr) [] [] ((λ _. refl), λ _. refl))

-- a record's parties are there where each text among its PartyIds is listed
pub many_listed : (ids : Texts) (cvr : Data)
    → (many ids (codes "PartyIds") cvr ≡ []) ↔ (lists ids (named_parties cvr) ≡ true)
many_listed ids cvr = inner (at_member (codes "PartyIds"))
    (below_each (λ e. unknown ids (as_str e)) (array_at (codes "PartyIds") cvr) 0)
    (listed_by ids (array_at (codes "PartyIds") cvr) 0)

-- ---- those that records name

module _ (f : Data → Texts) (ids : Texts) where
  abbrev IsListed : Data → Type 0
  IsListed d = lists ids (f d) ≡ true

  each_listed : (ds : List Data) → (lists ids (flat_map f ds) ≡ true) ↔ All IsListed ds
  each_listed [] = ((λ _. All-nil IsListed), λ _. refl)
  each_listed (d ∷ ds) =
      let apart = list_all-append (λ s. list_any (bytes_eq s) ids) (f d) (flat_map f ds) in
      let rest = each_listed ds in (
        (λ e. let h = sym apart ∙ e in All-cons IsListed d ds (and_parts _ _ h).0
            (rest.0 (and_parts (lists ids (f d)) _ h).1)),
        λ all. apart ∙ both_true (All-head IsListed d ds all) (rest.1 (All-tail IsListed d ds all)),
      )

  module _ (ds : List Data) (texts : Texts) (same : SameTexts texts (flat_map f ds)) where
    -- where they are listed, so are those of each record
    pub listed_at : lists ids texts ≡ true → (d : Data) → Contains ds d → lists ids (f d) ≡ true
    listed_at all d at = All-contains IsListed ds d
        ((each_listed ds).0 (same_listed ids texts (flat_map f ds) same all)) at

    -- and the other way round
    pub listed_all : ((d : Data) → Contains ds d → lists ids (f d) ≡ true) → lists ids texts ≡ true
    listed_all all =
        same_listed ids (flat_map f ds) texts (λ s. sym (same s))
        ((each_listed ds).1 (λ k d lt. all (slice_index_or ds k d) (Contains-get_or ds k d lt)))
