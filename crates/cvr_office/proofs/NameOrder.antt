-- The order of facts is that of their names, ties by body.
use Rattle.std.proofs.Common.{◌≡◌, ℕ, List, [], ◌∷◌, Ordering, Less, Equal, Greater, inl, inr, refl}
use Rattle.std.proofs.Common.{sym, ap, ◌∙◌, arith}
use Rattle.std.specs.Prelude.{◌⊎◌, true, bytes_eq}
use Rattle.std.specs.Ordering.{ordering_then}
use Rattle.std.specs.Cmp.{IsTotalOrder, tied_itself}
use Rattle.std.specs.Cmp.Lexicographic.{lists_total, nat_list_cmp_total}
use Rattle.std.proofs.lemmas.Cmp.{on_total}
use Rattle.std.proofs.lemmas.Slice.Eq.{bytes_eq-Decides}
use Rattle.std.specs.FinMap.{IsAntisymmetric, nat_cmp-IsAntisymmetric, slice_cmp-IsAntisymmetric}
use Rattle.std.proofs.lemmas.Bool.{and_parts, and_from}
use Rattle.cvr_fact_types.specs.declared.name.RecordName.{RecordName}
use Rattle.cvr_fact_types.specs.Facts.{Fact, Device, Header, Snapshot, text_cmp}
use Rattle.cvr_facts.specs.Choosing.{is_name}
use Rattle.cvr_office.specs.declared.conflict.ConflictName.{ConflictName}
use Rattle.cvr_office.specs.declared.conflict.ConflictName.TheVariants as name
use Rattle.cvr_office.specs.Names.{name_of, body_of, name_key, conflict_cmp, is_named}
use Rattle.cvr_office.specs.Place.{place_cmp}
use Rattle.cvr_office.proofs.RecordNames.{own_text}

-- ---- names are in a total order, and only equal names tie

pub conflict_total : IsTotalOrder conflict_cmp
conflict_total = on_total name_key (lists_total nat_list_cmp_total)

-- the name with a key
abbrev keyed : List (List ℕ) → ConflictName
keyed (k ∷ i ∷ []) = name.Device i
keyed (k ∷ d ∷ u ∷ []) = name.Header (record { device = d; unique = u })
keyed (k ∷ d ∷ u ∷ i ∷ _) = name.Snapshot (record { device = d; unique = u }) i
keyed _ = name.Device []

keyed-name_key : (n : ConflictName) → keyed (name_key n) ≡ n
keyed-name_key n = grind arith

pub conflict_exact : IsAntisymmetric conflict_cmp
conflict_exact n m e =
    sym (keyed-name_key n)
    ∙ (ap keyed (slice_cmp-IsAntisymmetric (slice_cmp-IsAntisymmetric nat_cmp-IsAntisymmetric)
    (name_key n) (name_key m) e) ∙ keyed-name_key m)

pub not_below : (n m : ConflictName) → conflict_cmp n m ≡ Less → n ≡ m → ⊥
not_below n m less is =
    let both : Less ≡ Equal =
    sym less ∙ (ap (conflict_cmp n) (sym is) ∙ tied_itself conflict_total n) in
    cc

-- ---- a fact has its name alone

record_is : (key : RecordName) (d u : List ℕ) → is_name key d u ≡ true
    → key ≡ record { device = d; unique = u }
record_is key d u e =
    let parts = and_parts (bytes_eq key.device d) (bytes_eq key.unique u) e in
    let device = (bytes_eq-Decides key.device d).0 parts.0 in
    let unique = (bytes_eq-Decides key.unique u).0 parts.1 in
    λ i. record { device = device i; unique = unique i }

pub has_own_name : (f : Fact) → is_named (name_of f) f ≡ true
has_own_name (Device i b) = own_text i
has_own_name (Header d u b) = and_from _ _ (own_text d) (own_text u)
has_own_name (Snapshot d u i b) = and_from _ _ (and_from _ _ (own_text d) (own_text u)) (own_text i)

pub name_is : (n : ConflictName) (f : Fact) → is_named n f ≡ true → n ≡ name_of f
name_is (name.Device id) (Device i b) e = ap name.Device ((bytes_eq-Decides id i).0 e)
name_is (name.Device id) (Header d u b) e = Prim.cc e
name_is (name.Device id) (Snapshot d u i b) e = Prim.cc e
name_is (name.Header key) (Device i b) e = Prim.cc e
name_is (name.Header key) (Header d u b) e = ap name.Header (record_is key d u e)
name_is (name.Header key) (Snapshot d u i b) e = Prim.cc e
name_is (name.Snapshot key id) (Device i b) e = Prim.cc e
name_is (name.Snapshot key id) (Header d u b) e = Prim.cc e
name_is (name.Snapshot key id) (Snapshot d u i b) e =
    let parts = and_parts (is_name key d u) (bytes_eq id i) e in
    let key_is = record_is key d u parts.0 in
    let id_is = (bytes_eq-Decides id i).0 parts.1 in
    λ j. name.Snapshot (key_is j) (id_is j)

-- ---- facts by name, then by body

then_one : (i b : Ordering) → ordering_then i (ordering_then b Equal)
    ≡ ordering_then (ordering_then i Equal) b
then_one i b = grind arith

then_two : (d u b : Ordering) → ordering_then d (ordering_then u (ordering_then b Equal))
    ≡ ordering_then (ordering_then d (ordering_then u Equal)) b
then_two d u b = grind (arith, then_one)

then_three : (d u i b : Ordering)
    → ordering_then d (ordering_then u (ordering_then i (ordering_then b Equal)))
    ≡ ordering_then (ordering_then d (ordering_then u (ordering_then i Equal))) b
then_three d u i b = grind (arith, then_two)

then_less : (d u b : Ordering) → ordering_then d (ordering_then u Less)
    ≡ ordering_then (ordering_then d (ordering_then u Less)) b
then_less d u b = grind arith

then_greater : (d u b : Ordering) → ordering_then d (ordering_then u Greater)
    ≡ ordering_then (ordering_then d (ordering_then u Greater)) b
then_greater d u b = grind arith

place_cmp-is : (f g : Fact) → place_cmp f g
    ≡ ordering_then (conflict_cmp (name_of f) (name_of g)) (text_cmp (body_of f) (body_of g))
place_cmp-is (Device i b) (Device j c) = then_one (text_cmp i j) (text_cmp b c)
place_cmp-is (Device i b) (Header e v c) = refl
place_cmp-is (Device i b) (Snapshot e v j c) = refl
place_cmp-is (Header d u b) (Device j c) = refl
place_cmp-is (Header d u b) (Header e v c) = then_two (text_cmp d e) (text_cmp u v) (text_cmp b c)
place_cmp-is (Header d u b) (Snapshot e v j c) =
    then_less (text_cmp d e) (text_cmp u v) (text_cmp b c)
place_cmp-is (Snapshot d u i b) (Device j c) = refl
place_cmp-is (Snapshot d u i b) (Header e v c) =
    then_greater (text_cmp d e) (text_cmp u v) (text_cmp b c)
place_cmp-is (Snapshot d u i b) (Snapshot e v j c) =
    then_three (text_cmp d e) (text_cmp u v) (text_cmp i j) (text_cmp b c)

-- one name is the other or below it
abbrev pub Reaches : ConflictName → ConflictName → Type 0
Reaches n m = (n ≡ m) ⊎ (conflict_cmp n m ≡ Less)

first_less : (r b : Ordering) → ordering_then r b ≡ Less → (r ≡ Equal) ⊎ (r ≡ Less)
first_less Less b e = inr refl
first_less Equal b e = inl refl
first_less Greater b e = Prim.cc e

pub names_reach : (f g : Fact) → place_cmp f g ≡ Less → Reaches (name_of f) (name_of g)
names_reach f g e =
    elim (first_less (conflict_cmp (name_of f) (name_of g)) (text_cmp (body_of f) (body_of g))
    (sym (place_cmp-is f g) ∙ e)) [
      | inl tie ↦ inl (conflict_exact (name_of f) (name_of g) tie)
      | inr less ↦ inr less
    ]

-- under one name bodies rise
pub bodies_less : (f g : Fact) → name_of f ≡ name_of g → place_cmp f g ≡ Less
    → text_cmp (body_of f) (body_of g) ≡ Less
bodies_less f g same e =
    let tie : conflict_cmp (name_of f) (name_of g) ≡ Equal =
    ap (conflict_cmp (name_of f)) (sym same) ∙ tied_itself conflict_total (name_of f) in
    ap (λ r. ordering_then r (text_cmp (body_of f) (body_of g))) (sym tie)
    ∙ (sym (place_cmp-is f g) ∙ e)
