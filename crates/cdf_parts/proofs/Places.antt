-- Places of ids, and what stands there.
use Rattle.std.proofs.Common.{◌≡◌, ℕ, zero, suc, ◌+◌, ◌<◌, List, [], ◌∷◌, ◌++◌, length, get_or}
use Rattle.std.proofs.Common.{map, Bool, true, false, cond, Option, Some, None, bytes_eq, refl, sym}
use Rattle.std.proofs.Common.{ap, ◌∙◌, subst, arith, String, Global, string_bytes}
use Rattle.std.specs.Option.{option_or}
use Rattle.std.specs.List.{position_from, list_any}
use Rattle.std.specs.Prelude.{is_some}
use Rattle.std.specs.BTreeMap.{BTreeMap, get_by_text, Updates}
use Rattle.std.specs.String.{string_cmp}
use Rattle.std.proofs.Common.{take, ◌||◌}
use Rattle.std.proofs.lemmas.Option.{none-some}
use Rattle.std.proofs.lemmas.Cmp.{nat_list_eq_equiv}
use Rattle.std.proofs.lemmas.Slice.Eq.{bytes_eq-Decides}
use Rattle.std.proofs.lemmas.List.{map-append, take_more}
use Rattle.std.proofs.lemmas.Map.Text.{btree_map_updates_text}
use Rattle.std.proofs.option.Match.{None-if_not_some}
use Rattle.cdf_node.specs.View.{view}
use Rattle.cdf_node.specs.declared.node.Node.{Node}
use Rattle.cdf_parts.specs.Parts.{id_of}
use Rattle.cdf_parts.specs.Places.{place_in}
use Rattle.cdf_parts.specs.Ids.{bytes_of, HasPlaces}

pub get_or-bytes_of : (xs : List (String Global)) (i : ℕ) (d : String Global)
    → get_or (bytes_of xs) i (string_bytes d) ≡ string_bytes (get_or xs i d)
get_or-bytes_of [] i d = refl
get_or-bytes_of (x ∷ xs) zero d = refl
get_or-bytes_of (x ∷ xs) (suc i) d = get_or-bytes_of xs i d

pub length-bytes_of : (xs : List (String Global)) → length (bytes_of xs) ≡ length xs
length-bytes_of [] = refl
length-bytes_of (x ∷ xs) = ap suc (length-bytes_of xs)

-- ---- one more id

or_cond : (b : Bool) (i : ℕ) (o more : Option ℕ)
    → cond b (Some i) (option_or o more) ≡ option_or (cond b (Some i) o) more
or_cond true i o more = refl
or_cond false i o more = refl

pub position_push : (s : List ℕ) (i : ℕ) (xs : List (List ℕ)) (x : List ℕ)
    → position_from (bytes_eq s) i (xs ++ x ∷ [])
    ≡ option_or (position_from (bytes_eq s) i xs) (cond (bytes_eq s x) (Some (i + length xs)) None)
position_push s i [] x = let z : i + 0 ≡ i = omega arith in rw z
position_push s i (y ∷ xs) x =
    let z : (i + 1) + length xs ≡ i + suc (length xs) = omega arith in
    ap (cond (bytes_eq s y) (Some i)) (position_push s (i + 1) xs x)
    ∙ rw z (or_cond (bytes_eq s y) i _ _)

noted_at : (t : Bool) (o : Option ℕ) (i : ℕ) → (t ≡ true → o ≡ None)
    → cond t (Some i) o ≡ option_or o (cond t (Some i) None)
noted_at t o i h = grind (arith, none-some)

-- what a map has after a place was put at an id that it lacked
noted : (m n : BTreeMap (String Global) ℕ) (id : String Global) (i : ℕ)
    → is_some (get_by_text m (string_bytes id)) ≡ false → Updates string_cmp m n id (Some i)
    → (q : List ℕ) → get_by_text n q ≡ option_or (get_by_text m q)
    (cond (bytes_eq q (string_bytes id)) (Some i) None)
noted m n id i lacks u q =
    let none : get_by_text m (string_bytes id) ≡ None = None-if_not_some _ lacks in
    let same : bytes_eq (string_bytes id) q ≡ bytes_eq q (string_bytes id) =
    nat_list_eq_equiv.symm (string_bytes id) q in
    btree_map_updates_text (string_bytes id) m n (Some i) u q
    ∙ rw same (noted_at (bytes_eq q (string_bytes id)) (get_by_text m q) i
    (λ t. rw ((bytes_eq-Decides q (string_bytes id)).0 t) none))

pub noted_text : (m n : BTreeMap (String Global) ℕ) (id : String Global) (text : List ℕ) (i : ℕ)
    → string_bytes id ≡ text → is_some (get_by_text m text) ≡ false
    → Updates string_cmp m n id (Some i)
    → (q : List ℕ) → get_by_text n q ≡ option_or (get_by_text m q)
    (cond (bytes_eq q text) (Some i) None)
noted_text m n id text i is lacks u = subst
    (λ t. (q : List ℕ) → get_by_text n q
    ≡ option_or (get_by_text m q) (cond (bytes_eq q t) (Some i) None)) is
    (noted m n id i (ap (λ t. is_some (get_by_text m t)) is ∙ lacks) u)

pub places_more : (m n : BTreeMap (String Global) ℕ) (ids : List (List ℕ)) (id : List ℕ) (i : ℕ)
    → length ids ≡ i → HasPlaces m ids
    → ((q : List ℕ) → get_by_text n q ≡ option_or (get_by_text m q)
    (cond (bytes_eq q id) (Some i) None)) → HasPlaces n (ids ++ id ∷ [])
places_more m n ids id i len h more q =
    let z : 0 + length ids ≡ i = omega arith in
    more q ∙ ap (λ o. option_or o (cond (bytes_eq q id) (Some i) None)) (h q)
    ∙ sym (position_push q 0 ids id
    ∙ ap (λ k. option_or (place_in ids q) (cond (bytes_eq q id) (Some k) None)) z)

pub bytes_more : (xs : List (String Global)) (s : String Global) (id : List ℕ) → string_bytes s ≡ id
    → bytes_of (xs ++ s ∷ []) ≡ bytes_of xs ++ id ∷ []
bytes_more xs s id e =
    map-append (λ x. string_bytes x) xs (s ∷ []) ∙ ap (λ t. bytes_of xs ++ t ∷ []) e

pub ids_more : (xs : List (String Global)) (s : String Global) (vs : List Node) (i : ℕ) (v : Node)
    → i < length vs → bytes_of xs ≡ map id_of (map view (take i vs))
    → string_bytes s ≡ id_of (view (get_or vs i v))
    → bytes_of (xs ++ s ∷ []) ≡ map id_of (map view (take (i + 1) vs))
ids_more xs s vs i v h e t = map-append (λ x. string_bytes x) xs (s ∷ [])
    ∙ rw (
      take_more vs i v h,
      map-append view (take i vs),
      map-append id_of (map view (take i vs)),
      e,
      t,
    )

-- an id is among those that have a place
some_cond : (t : Bool) (i : ℕ) (o : Option ℕ) (b : Bool) → is_some o ≡ b
    → is_some (cond t (Some i) o) ≡ (t || b)
some_cond true i o b e = refl
some_cond false i o b e = e

some_place : (s : List ℕ) (i : ℕ) (xs : List (List ℕ))
    → is_some (position_from (bytes_eq s) i xs) ≡ list_any (bytes_eq s) xs
some_place s i [] = refl
some_place s i (x ∷ xs) = some_cond (bytes_eq s x) i _ _ (some_place s (i + 1) xs)

pub known_place : (s : List ℕ) (xs : List (List ℕ))
    → is_some (place_in xs s) ≡ list_any (bytes_eq s) xs
known_place s xs = some_place s 0 xs
