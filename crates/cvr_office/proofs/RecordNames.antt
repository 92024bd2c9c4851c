-- The facts under the names of a record.
use Rattle.std.proofs.Common.{◌≡◌, ℕ, true, List, map, Contains, Some, refl, sym}
use Rattle.std.proofs.Common.{ap, ◌∙◌, subst}
use Rattle.std.specs.Prelude.{◌↔◌, bytes_eq}
use Rattle.std.specs.List.{filter, filter_map}
use Rattle.std.specs.FinSet.{contains, items}
use Rattle.std.proofs.lemmas.Slice.Eq.{bytes_eq-Decides}
use Rattle.std.proofs.lemmas.Bool.{and_parts}
use Rattle.std.proofs.lemmas.Option.{cond_some}
use Rattle.cvr_fact_types.specs.declared.name.RecordName.{RecordName}
use Rattle.cvr_fact_types.specs.Facts.{Fact, Device, Header, Snapshot, Facts}
use Rattle.cvr_facts.specs.Choosing.{is_name}
use Rattle.cvr_facts.proofs.Lemmas.{in_map, from_map, Contains-filter_map, from-filter_map, of_name}
use Rattle.cvr_facts.proofs.Laws.{contains_iff}
use Rattle.cvr_office.specs.declared.conflict.ConflictName.TheVariants as name
use Rattle.cvr_office.specs.Names.{is_named, body_of, id_in}
use Rattle.cvr_office.proofs.RecordMembers.{from_filter, in_filter}

same_text : (a b : List ℕ) → bytes_eq a b ≡ true → a ≡ b
same_text a b e = (bytes_eq-Decides a b).0 e

pub own_text : (a : List ℕ) → bytes_eq a a ≡ true
own_text a = (bytes_eq-Decides a a).1 refl

module _ (key : RecordName) where
  header_named : (b : List ℕ) → is_named (name.Header key) (Header key.device key.unique b) ≡ true
  header_named b = rw (own_text key.device, own_text key.unique) refl

  named_header : (f : Fact) → is_named (name.Header key) f ≡ true
      → f ≡ Header key.device key.unique (body_of f)
  named_header (Device i b) e = Prim.cc e
  named_header (Header d u b) e =
      let names = of_name key d u e in λ i. Header (sym names.0 i) (sym names.1 i) b
  named_header (Snapshot d u i b) e = Prim.cc e

  snapshot_named : (id b : List ℕ) → is_named (name.Snapshot key id)
      (Snapshot key.device key.unique id b) ≡ true
  snapshot_named id b = rw (own_text key.device, own_text key.unique, own_text id) refl

  named_snapshot : (id : List ℕ) (f : Fact) → is_named (name.Snapshot key id) f ≡ true
      → f ≡ Snapshot key.device key.unique id (body_of f)
  named_snapshot id (Device i b) e = Prim.cc e
  named_snapshot id (Header d u b) e = Prim.cc e
  named_snapshot id (Snapshot d u j b) e =
      let parts = and_parts (is_name key d u) (bytes_eq id j) e in
      let names = of_name key d u parts.0 in
      let ids = same_text id j parts.1 in
      λ i. Snapshot (sym names.0 i) (sym names.1 i) (sym ids i) b

  own_id : (id b : List ℕ) → id_in key (Snapshot key.device key.unique id b) ≡ Some id
  own_id id b = rw (own_text key.device, own_text key.unique) refl

  id_is : (id : List ℕ) (f : Fact) → id_in key f ≡ Some id
      → f ≡ Snapshot key.device key.unique id (body_of f)
  id_is id (Device i b) e = Prim.cc e
  id_is id (Header d u b) e = Prim.cc e
  id_is id (Snapshot d u j b) e =
      let had = cond_some (is_name key d u) j id e in
      let names = of_name key d u had.0 in
      λ i. Snapshot (sym names.0 i) (sym names.1 i) (had.1 i) b

  module _ (s : Facts) where
    pub header_under : (b : List ℕ) → Contains
        (map body_of (filter (is_named (name.Header key)) (items s))) b
        ↔ (contains s (Header key.device key.unique b) ≡ true)
    header_under b = (
      λ at. let found = from_map body_of b (filter (is_named (name.Header key)) (items s)) at in
          let kept = from_filter (is_named (name.Header key)) (items s) found.0 found.1 in
          (contains_iff s (Header key.device key.unique b)).1
          (subst (Contains (items s))
          (named_header found.0 kept.1 ∙ ap (Header key.device key.unique) found.2) kept.0),
      λ has. in_map body_of (Header key.device key.unique b)
          (filter (is_named (name.Header key)) (items s))
          (in_filter (is_named (name.Header key)) (items s) _
          ((contains_iff s (Header key.device key.unique b)).0 has) (header_named b)),
    )

    pub snapshot_under : (id b : List ℕ)
        → Contains (map body_of (filter (is_named (name.Snapshot key id)) (items s))) b
        ↔ (contains s (Snapshot key.device key.unique id b) ≡ true)
    snapshot_under id b = (
      λ at. let found =
          from_map body_of b (filter (is_named (name.Snapshot key id)) (items s)) at in
          let kept = from_filter (is_named (name.Snapshot key id)) (items s) found.0 found.1 in
          (contains_iff s (Snapshot key.device key.unique id b)).1
          (subst (Contains (items s))
          (named_snapshot id found.0 kept.1 ∙ ap (Snapshot key.device key.unique id) found.2)
          kept.0),
      λ has. in_map body_of (Snapshot key.device key.unique id b)
          (filter (is_named (name.Snapshot key id)) (items s))
          (in_filter (is_named (name.Snapshot key id)) (items s) _
          ((contains_iff s (Snapshot key.device key.unique id b)).0 has) (snapshot_named id b)),
    )

    pub id_under : (id : List ℕ) → Contains (filter_map (id_in key) (items s)) id
        ↔ ((b : List ℕ) × (contains s (Snapshot key.device key.unique id b) ≡ true))
    id_under id = (
      λ at. let found = from-filter_map (id_in key) (items s) id at in (
        body_of found.0,
        (contains_iff s (Snapshot key.device key.unique id (body_of found.0))).1
            (subst (Contains (items s)) (id_is id found.0 found.2) found.1),
      ),
      λ has. Contains-filter_map (id_in key) (items s) (Snapshot key.device key.unique id has.0) id
          ((contains_iff s (Snapshot key.device key.unique id has.0)).0 has.1) (own_id id has.0),
    )
