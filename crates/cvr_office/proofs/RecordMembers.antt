-- The headers and snapshots in a record's run are those of the set of facts.
use Rattle.std.proofs.Common.{◌≡◌, Bool, true, false, cond, List, [], ◌∷◌, Contains, Ordering}
use Rattle.std.proofs.Common.{Some, inl, inr, refl, sym, ap, ◌∙◌, subst}
use Rattle.std.specs.Prelude.{ℕ, ◌⊎◌}
use Rattle.std.specs.List.{filter}
use Rattle.std.specs.FinMap.{IsAntisymmetric}
use Rattle.std.specs.FinSet.{contains}
use Rattle.std.specs.Ordering.{is_eq, ordering_then}
use Rattle.std.specs.Cmp.{Equal-is, tied_itself}
use Rattle.cvr_fact_types.specs.declared.name.RecordName.{RecordName}
use Rattle.cvr_fact_types.specs.declared.header.HeaderFact.{HeaderFact}
use Rattle.cvr_fact_types.specs.declared.snapshot.SnapshotFact.{SnapshotFact}
use Rattle.cvr_fact_types.specs.Facts.{Header, Snapshot, text_cmp, name_cmp, fact_total, fact_exact}
use Rattle.cvr_facts.proofs.Laws.{text_total, text_exact}
use Rattle.cvr_facts.proofs.Lemmas.{at_head, at_tail, head_or_tail, none_listed, in_map, from_map}
use Rattle.cvr_facts.proofs.Lemmas.{in_set, from_set, Contains-filter_map, from-filter_map, tied}
use Rattle.cvr_office.specs.declared.any_fact.AnyFact.{AnyFact}
use Rattle.cvr_office.specs.declared.any_fact.AnyFact.TheVariants as any
use Rattle.cvr_office.specs.Place.{fact_of}
use Rattle.cvr_office.specs.Plain.{set_of}
use Rattle.cvr_office.specs.Runs.{is_of, run, as_header, as_snapshot, headers, snapshots}
use Rattle.cvr_office.proofs.Runs.{name_total}

-- ---- names

pub name_exact : IsAntisymmetric name_cmp
name_exact a b e =
    let device = text_exact a.device b.device
    (tied (text_cmp a.device b.device) (text_cmp a.unique b.unique) e).0 in
    let unique = text_exact a.unique b.unique
    (tied (text_cmp a.device b.device) (text_cmp a.unique b.unique) e).1 in
    λ i. record { device = device i; unique = unique i }

pub same_name : (a b : RecordName) → is_eq (name_cmp a b) ≡ true → a ≡ b
same_name a b h = name_exact a b ((Equal-is (name_cmp a b)).0 h)

pub own_name : (a b : RecordName) → a ≡ b → is_eq (name_cmp a b) ≡ true
own_name a b e = (Equal-is (name_cmp a b)).1 (ap (name_cmp a) (sym e) ∙ tied_itself name_total a)

-- one name has nothing to say of an order
pub past_key : (a b : RecordName) → a ≡ b → (rest : Ordering)
    → ordering_then (text_cmp a.device b.device) (ordering_then (text_cmp a.unique b.unique) rest)
    ≡ rest
past_key a b same rest =
    let device =
    ap (λ k. text_cmp a.device k.device) (sym same) ∙ tied_itself text_total a.device in
    let unique =
    ap (λ k. text_cmp a.unique k.unique) (sym same) ∙ tied_itself text_total a.unique in
    λ i. ordering_then (device i) (ordering_then (unique i) rest)

-- ---- members of a filter

module _ {X : Type 0} (p : X → Bool) where
  taken : (b : Bool) (x y : X) (ys : List X) → Contains (cond b (x ∷ ys) ys) y
      → ((b ≡ true) × (x ≡ y)) ⊎ Contains ys y
  taken true x y ys at =
      elim (head_or_tail x y ys at) [ inl is ↦ inl (refl, is) | inr more ↦ inr more ]
  taken false x y ys at = inr at

  later : (b : Bool) (x y : X) (ys : List X) → Contains ys y → Contains (cond b (x ∷ ys) ys) y
  later true x y ys at = at_tail x y ys at
  later false x y ys at = at

  pub from_filter : (xs : List X) (y : X) → Contains (filter p xs) y → Contains xs y × (p y ≡ true)
  from_filter [] y at = absurd (none_listed y at)
  from_filter (x ∷ xs) y at =
      elim (taken (p x) x y (filter p xs) at) [
        | inl here ↦ (subst (Contains (x ∷ xs)) here.1 (at_head x xs), ap p (sym here.1) ∙ here.0)
        | inr more ↦ let rest = from_filter xs y more in (at_tail x y xs rest.0, rest.1)
      ]

  pub in_filter : (xs : List X) (y : X) → Contains xs y → p y ≡ true → Contains (filter p xs) y
  in_filter [] y at h = absurd (none_listed y at)
  in_filter (x ∷ xs) y at h =
      elim (head_or_tail x y xs at) [
        | inl is ↦ subst (λ b. Contains (cond b (x ∷ filter p xs) (filter p xs)) y)
            (sym (ap p is ∙ h)) (subst (Contains (x ∷ filter p xs)) is (at_head x (filter p xs)))
        | inr more ↦ later (p x) x y (filter p xs) (in_filter xs y more h)
      ]

-- ---- facts of each kind

pub of_header : (x : AnyFact) (h : HeaderFact) → as_header x ≡ Some h → x ≡ any.Header h
of_header (any.Device d) h e = Prim.cc e
of_header (any.Header g) h e = let is : g ≡ h = Prim.cc e in ap any.Header is
of_header (any.Snapshot s) h e = Prim.cc e

pub of_snapshot : (x : AnyFact) (s : SnapshotFact) → as_snapshot x ≡ Some s → x ≡ any.Snapshot s
of_snapshot (any.Device d) s e = Prim.cc e
of_snapshot (any.Header h) s e = Prim.cc e
of_snapshot (any.Snapshot t) s e = let is : t ≡ s = Prim.cc e in ap any.Snapshot is

header_fact : (x : AnyFact) (key : RecordName) (b : List ℕ)
    → fact_of x ≡ Header key.device key.unique b
    → (h : HeaderFact) × (x ≡ any.Header h) × (h.key ≡ key) × (h.body ≡ b)
header_fact (any.Device d) key b e = Prim.cc e
header_fact (any.Header h) key b e =
    let device : h.key.device ≡ key.device = Prim.cc e in
    let unique : h.key.unique ≡ key.unique = Prim.cc e in
    (h, refl, (λ i. record { device = device i; unique = unique i }), Prim.cc e)
header_fact (any.Snapshot s) key b e = Prim.cc e

snapshot_fact : (x : AnyFact) (key : RecordName) (id b : List ℕ)
    → fact_of x ≡ Snapshot key.device key.unique id b
    → (s : SnapshotFact) × (x ≡ any.Snapshot s) × (s.key ≡ key) × (s.id ≡ id) × (s.body ≡ b)
snapshot_fact (any.Device d) key id b e = Prim.cc e
snapshot_fact (any.Header h) key id b e = Prim.cc e
snapshot_fact (any.Snapshot s) key id b e =
    let device : s.key.device ≡ key.device = Prim.cc e in
    let unique : s.key.unique ≡ key.unique = Prim.cc e in
    (s, refl, (λ i. record { device = device i; unique = unique i }), Prim.cc e, Prim.cc e)

-- ---- the run and the set

module _ (facts : List AnyFact) (key : RecordName) where
  pub in_headers : (h : HeaderFact) → Contains facts (any.Header h) → h.key ≡ key
      → Contains (headers (run key facts)) h
  in_headers h at own = Contains-filter_map as_header (run key facts) (any.Header h) h
      (in_filter (is_of key) facts (any.Header h) at (own_name h.key key own)) refl

  pub from_headers : (h : HeaderFact) → Contains (headers (run key facts)) h
      → Contains facts (any.Header h) × (h.key ≡ key)
  from_headers h at =
      let found = from-filter_map as_header (run key facts) h at in
      let is = of_header found.0 h found.2 in
      let kept = from_filter (is_of key) facts (any.Header h)
      (subst (Contains (run key facts)) is found.1) in
      (kept.0, same_name h.key key kept.1)

  pub in_snapshots : (s : SnapshotFact) → Contains facts (any.Snapshot s) → s.key ≡ key
      → Contains (snapshots (run key facts)) s
  in_snapshots s at own = Contains-filter_map as_snapshot (run key facts) (any.Snapshot s) s
      (in_filter (is_of key) facts (any.Snapshot s) at (own_name s.key key own)) refl

  pub from_snapshots : (s : SnapshotFact) → Contains (snapshots (run key facts)) s
      → Contains facts (any.Snapshot s) × (s.key ≡ key)
  from_snapshots s at =
      let found = from-filter_map as_snapshot (run key facts) s at in
      let is = of_snapshot found.0 s found.2 in
      let kept = from_filter (is_of key) facts (any.Snapshot s)
      (subst (Contains (run key facts)) is found.1) in
      (kept.0, same_name s.key key kept.1)

  pub header_held : (h : HeaderFact) → Contains (headers (run key facts)) h
      → contains (set_of facts) (Header key.device key.unique h.body) ≡ true
  header_held h at =
      let kept = from_headers h at in
      subst (λ k. contains (set_of facts) (Header k.device k.unique h.body) ≡ true) kept.1
      (in_set fact_total fact_exact _ _ (in_map fact_of (any.Header h) facts kept.0))

  pub held_header : (b : List ℕ) → contains (set_of facts) (Header key.device key.unique b) ≡ true
      → (h : HeaderFact) × Contains (headers (run key facts)) h × (h.body ≡ b)
  held_header b has =
      let found = from_map fact_of (Header key.device key.unique b) facts
      (from_set fact_total fact_exact _ _ has) in
      let is = header_fact found.0 key b found.2 in
      (is.0, in_headers is.0 (subst (Contains facts) is.1 found.1) is.2, is.3)

  pub snapshot_held : (s : SnapshotFact) → Contains (snapshots (run key facts)) s
      → contains (set_of facts) (Snapshot key.device key.unique s.id s.body) ≡ true
  snapshot_held s at =
      let kept = from_snapshots s at in
      subst (λ k. contains (set_of facts) (Snapshot k.device k.unique s.id s.body) ≡ true) kept.1
      (in_set fact_total fact_exact _ _ (in_map fact_of (any.Snapshot s) facts kept.0))

  pub held_snapshot : (id b : List ℕ) → contains (set_of facts)
      (Snapshot key.device key.unique id b) ≡ true
      → (s : SnapshotFact) × Contains (snapshots (run key facts)) s × (s.id ≡ id) × (s.body ≡ b)
  held_snapshot id b has =
      let found = from_map fact_of (Snapshot key.device key.unique id b) facts
      (from_set fact_total fact_exact _ _ has) in
      let is = snapshot_fact found.0 key id b found.2 in
      (is.0, in_snapshots is.0 (subst (Contains facts) is.1 found.1) is.2, is.3, is.4)
