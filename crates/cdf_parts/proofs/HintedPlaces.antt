-- Hints of places, and what stands there.
use Rattle.std.proofs.Common.{◌≡◌, ℕ, suc, ◌+◌, ◌<◌, List, [], ◌∷◌, length, get_or, Bool, true}
use Rattle.std.proofs.Common.{false, cond, Option, Some, bytes_eq, refl, sym, ap, ◌∙◌, subst, arith}
use Rattle.std.proofs.Common.{set, String, Global, string_bytes}
use Rattle.std.specs.List.{position_from}
use Rattle.std.specs.BTreeMap.{BTreeMap, get_by_text}
use Rattle.std.proofs.lemmas.List.{get_or_default}
use Rattle.std.proofs.lemmas.List.Elements.{All-set}
use Rattle.std.proofs.lemmas.Slice.Eq.{bytes_eq-Decides}
use Rattle.cdf_parts.specs.Places.{place_in}
use Rattle.cdf_parts.specs.Ids.{bytes_of, HasPlaces, IsHint, HasHints}
use Rattle.cdf_parts.proofs.Places.{get_or-bytes_of, length-bytes_of}

-- a place, counted from i, at which the id is s
abbrev IsAt : List (List ℕ) → List ℕ → ℕ → ℕ → Type 0
IsAt ids s i p = (k : ℕ) × (p ≡ i + k) × (get_or ids k [] ≡ s)

at_head : (t : Bool) (x : List ℕ) (ids : List (List ℕ)) (s : List ℕ) (i p : ℕ) (rest : Option ℕ)
    → (t ≡ true → s ≡ x) → (rest ≡ Some p → IsAt ids s (i + 1) p) → cond t (Some i) rest ≡ Some p
    → IsAt (x ∷ ids) s i p
at_head true x ids s i p rest own later is =
    let same : i ≡ p = cc in (0, omega arith, sym (own refl))
at_head false x ids s i p rest own later is =
    let (k, e, g) = later is in (suc k, omega arith, g)

at_place : (ids : List (List ℕ)) (s : List ℕ) (i p : ℕ)
    → position_from (bytes_eq s) i ids ≡ Some p → IsAt ids s i p
at_place [] s i p is = absurd (cc)
at_place (x ∷ ids) s i p is = at_head (bytes_eq s x) x ids s i p _ ((bytes_eq-Decides s x).0)
    (at_place ids s (i + 1) p) is

-- what a map answers is the first place of the id there
pub first_place : (m : BTreeMap (String Global) ℕ) (ids : List (List ℕ)) (s : List ℕ) (p : ℕ)
    → HasPlaces m ids → get_by_text m s ≡ Some p → IsHint ids p
first_place m ids s p h e lt =
    let is : place_in ids s ≡ Some p = sym (h s) ∙ e in
    let (k, same, own) = at_place ids s 0 p is in
    let here : k ≡ p = omega arith in
    ap (place_in ids) (ap (λ q. get_or ids q []) (sym here) ∙ own) ∙ is

pub hints_more : (m : BTreeMap (String Global) ℕ) (ids : List (List ℕ)) (s : List ℕ) (p : ℕ)
    (hints : List ℕ) (i : ℕ) → HasPlaces m ids → get_by_text m s ≡ Some p → HasHints hints ids
    → HasHints (set hints i p) ids
hints_more m ids s p hints i h e old =
    All-set (IsHint ids) hints i p (first_place m ids s p h e) old

pub hinted_place : (ids : List (String Global)) (hints : List ℕ) (s : List ℕ) (k p : ℕ)
    (x : String Global) → HasHints hints (bytes_of ids) → k < length hints → p ≡ get_or hints k p
    → p < length ids → x ≡ get_or ids p x → string_bytes x ≡ s
    → place_in (bytes_of ids) s ≡ Some p
hinted_place ids hints s k p x h in-hints at in-ids is same =
    let first : IsHint (bytes_of ids) p =
    subst (IsHint (bytes_of ids)) (sym at) (h k p in-hints) in
    let lt : p < length (bytes_of ids) = rw (length-bytes_of ids) in-ids in
    let own : get_or (bytes_of ids) p [] ≡ s =
    get_or_default (bytes_of ids) p [] (string_bytes x) lt ∙ get_or-bytes_of ids p x
    ∙ ap (λ y. string_bytes y) (sym is) ∙ same in
    ap (place_in (bytes_of ids)) (sym own) ∙ first lt
