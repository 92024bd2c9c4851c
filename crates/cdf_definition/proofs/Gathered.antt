-- Entries in order, lists of pairs, and the text that stands beside an id.
use Rattle.std.proofs.Common.{◌≡◌, ℕ, suc, ◌+◌, ◌-◌, ◌<◌, ◌≤◌, List, [], ◌∷◌, ◌++◌, length, get_or}
use Rattle.std.proofs.Common.{map, take, Bool, true, false, cond, Some, None, Ordering}
use Rattle.std.proofs.Common.{bytes_eq, refl, sym, ap, ◌∙◌, arith, String, Global}
use Rattle.std.proofs.Common.{string_bytes, nat_cmp}
use Rattle.std.specs.String.{string_cmp}
use Rattle.std.specs.List.{position_from, zip}
use Rattle.std.specs.BTreeMap.{insert_entry}
use Rattle.std.specs.FinMap.{put}
use Rattle.std.specs.FinMap.Entries.{by_order}
use Rattle.std.specs.Ordering.{match_ordering}
use Rattle.std.specs.Cmp.Lexicographic.{slice_cmp}
use Rattle.std.proofs.lemmas.List.{take_more, map-append, append_assoc}
use Rattle.cdf_node.specs.View.{view}
use Rattle.cdf_node.specs.declared.node.Node.{Node}
use Rattle.cdf_parts.specs.Places.{Texts, place_in}
use Rattle.cdf_parts.specs.Ids.{bytes_of}
use Rattle.cdf_parts.proofs.Lemmas.{length-bytes_of}
use Rattle.cdf_definition.specs.Named.{IdText, id_and_text, by_id, map_entries, ids_of, texts_of}
use Rattle.cdf_definition.specs.Named.{text_of}
use Rattle.cdf_definition.proofs.ById.{by_id-push}

-- ---- gathering

-- an entry of a map
abbrev pub Held : Type 0
Held = String Global × List ℕ

at_order : (o : Ordering) (a b c : List Held)
    → map_entries (match_ordering o a b c)
    ≡ by_order o (map_entries a) (map_entries b) (map_entries c)
at_order o a b c = grind arith

pub entries_of-insert_entry : (es : List Held) (k : String Global) (v : List ℕ)
    → map_entries (insert_entry string_cmp es k v)
    ≡ put (slice_cmp nat_cmp) (string_bytes k) v (map_entries es)
entries_of-insert_entry [] k v = refl
entries_of-insert_entry (e ∷ es) k v =
    at_order (string_cmp k e.0) _ _ _ ∙ rw (entries_of-insert_entry es k v)

pub gathered_more : (es fs : List Held) (k : String Global) (v : List ℕ) (vs : List Node) (i : ℕ)
    (x : Node) → i < length vs → map_entries es ≡ by_id (map id_and_text (map view (take i vs)))
    → fs ≡ insert_entry string_cmp es k v
    → (string_bytes k, v) ≡ id_and_text (view (get_or vs i x))
    → map_entries fs ≡ by_id (map id_and_text (map view (take (i + 1) vs)))
gathered_more es fs k v vs i x h e is n =
    let now : map_entries fs ≡ put (slice_cmp nat_cmp) (string_bytes k) v (map_entries es) =
    rw is (entries_of-insert_entry es k v) in
    let more : map id_and_text (map view (take (i + 1) vs))
    ≡ map id_and_text (map view (take i vs)) ++ id_and_text (view (get_or vs i x))
    ∷ [] = rw (
      take_more vs i x h,
      map-append view (take i vs),
      map-append id_and_text
          (map view (take i vs)),
    ) in
    now ∙ ap (put (slice_cmp nat_cmp) (string_bytes k) v) e
    ∙ ap (λ (m : IdText). put (slice_cmp nat_cmp) m.0 m.1
    (by_id (map id_and_text (map view (take i vs))))) n
    ∙ sym (ap by_id more ∙ by_id-push (map id_and_text (map view (take i vs)))
    (id_and_text (view (get_or vs i x))))

-- ---- pairs

pub zip-push : (ids texts : Texts) (id text : List ℕ) → length ids ≡ length texts
    → zip (ids ++ id ∷ []) (texts ++ text ∷ []) ≡ zip ids texts ++ (id, text) ∷ []
zip-push [] [] id text e = refl
zip-push [] (y ∷ texts) id text e = absurd (omega arith)
zip-push (x ∷ ids) [] id text e = absurd (omega arith)
zip-push (x ∷ ids) (y ∷ texts) id text e =
    ap (λ zs. (x, y) ∷ zs) (zip-push ids texts id text (omega arith))

pub ids_of-zip : (ids texts : Texts) → length ids ≡ length texts → ids_of (zip ids texts) ≡ ids
ids_of-zip [] texts e = refl
ids_of-zip (x ∷ ids) [] e = absurd (omega arith)
ids_of-zip (x ∷ ids) (y ∷ texts) e = ap (λ zs. x ∷ zs) (ids_of-zip ids texts (omega arith))

pub texts_of-zip : (ids texts : Texts) → length ids ≡ length texts
    → texts_of (zip ids texts) ≡ texts
texts_of-zip [] [] e = refl
texts_of-zip [] (y ∷ texts) e = absurd (omega arith)
texts_of-zip (x ∷ ids) [] e = absurd (omega arith)
texts_of-zip (x ∷ ids) (y ∷ texts) e = ap (λ zs. y ∷ zs) (texts_of-zip ids texts (omega arith))

pub pairs_more : (ids : List (String Global)) (texts : Texts) (id : String Global) (text : List ℕ)
    (rest more : List Held) (all : List IdText) → length ids ≡ length texts
    → zip (bytes_of ids) texts ++ map_entries rest ≡ all
    → rest ≡ (id, text) ∷ more → zip (bytes_of (ids ++ id ∷ [])) (texts ++ text ∷ [])
    ++ map_entries more ≡ all
pairs_more ids texts id text rest more all e is step =
    let same : length (bytes_of ids) ≡ length texts = length-bytes_of ids ∙ e in
    rw (
      map-append (λ (s : String Global). string_bytes s) ids (id ∷ []),
      zip-push (bytes_of ids)
          texts (string_bytes id) text same,
      append_assoc,
    )
    (sym (ap (λ (r : List Held). zip (bytes_of ids) texts ++ map_entries r) step) ∙ is)

-- ---- looking up

-- a place that was found, and the text there
abbrev pub TextAt : Texts → Texts → List ℕ → ℕ → ℕ → List ℕ → Type 0
TextAt ids texts id i p d = (i ≤ p) × (p < i + length ids)
    × (text_of (zip ids texts) id ≡ Some (get_or texts (p - i) d))

found_head : (t : Bool) (x y : List ℕ) (ids texts : Texts) (id : List ℕ) (i p : ℕ) (d : List ℕ)
    → bytes_eq id x ≡ t
    → (position_from (bytes_eq id) (i + 1) ids ≡ Some p → TextAt ids texts id (i + 1) p d)
    → cond t (Some i) (position_from (bytes_eq id) (i + 1) ids) ≡ Some p
    → TextAt (x ∷ ids) (y ∷ texts) id i p d
found_head true x y ids texts id i p d e later is =
    let same : i ≡ p = cc in
    let z : p - i ≡ 0 = omega arith in
    (omega arith, omega arith, rw (e, z))
found_head false x y ids texts id i p d e later is =
    let h = later is in
    let z : p - i ≡ suc (p - (i + 1)) = omega (arith, h.0) in
    (omega (arith, h.0), omega (arith, h.1), rw (e, z) h.2)

found_text : (ids texts : Texts) (id : List ℕ) (i p : ℕ) (d : List ℕ) → length ids ≡ length texts
    → position_from (bytes_eq id) i ids ≡ Some p → TextAt ids texts id i p d
found_text [] texts id i p d len is = absurd (cc)
found_text (x ∷ ids) [] id i p d len is = absurd (omega arith)
found_text (x ∷ ids) (y ∷ texts) id i p d len is = found_head (bytes_eq id x) x y ids texts id i p d
    refl (λ later. found_text ids texts id (i + 1) p d (omega arith) later) is

none_head : (t : Bool) (x y : List ℕ) (ids texts : Texts) (id : List ℕ) (i : ℕ) → bytes_eq id x ≡ t
    → (position_from (bytes_eq id) (i + 1) ids ≡ None → text_of (zip ids texts) id ≡ None)
    → cond t (Some i) (position_from (bytes_eq id) (i + 1) ids) ≡ None
    → text_of (zip (x ∷ ids) (y ∷ texts)) id ≡ None
none_head true x y ids texts id i e later is = cc
none_head false x y ids texts id i e later is = rw e (later is)

no_text_from : (ids texts : Texts) (id : List ℕ) (i : ℕ) → position_from (bytes_eq id) i ids ≡ None
    → text_of (zip ids texts) id ≡ None
no_text_from [] texts id i is = refl
no_text_from (x ∷ ids) [] id i is = refl
no_text_from (x ∷ ids) (y ∷ texts) id i is = none_head (bytes_eq id x) x y ids texts id i refl
    (λ later. no_text_from ids texts id (i + 1) later) is

-- the text beside an id that has a place
pub text_there : (ids texts : Texts) (id : List ℕ) (p : ℕ) (d : List ℕ) → length ids ≡ length texts
    → place_in ids id ≡ Some p → (p < length texts)
    × (text_of (zip ids texts) id ≡ Some (get_or texts p d))
text_there ids texts id p d len is =
    let h = found_text ids texts id 0 p d len is in
    let z : p - 0 ≡ p = omega arith in
    (omega (arith, h.1), h.2 ∙ ap (λ k. Some (get_or texts k d)) z)

-- no text beside an id that has none
pub no_text : (ids texts : Texts) (id : List ℕ) → place_in ids id ≡ None
    → text_of (zip ids texts) id ≡ None
no_text ids texts id is = no_text_from ids texts id 0 is
