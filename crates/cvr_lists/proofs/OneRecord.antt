-- The header of a record is the last of its run, and its current snapshot the one chosen of its
-- run.
use Rattle.std.proofs.Common.{◌≡◌, List, [], ◌∷◌, map, Contains, Ordering, Less, Equal, Some, None}
use Rattle.std.proofs.Common.{refl, sym, ap, ◌∙◌, subst, false}
use Rattle.std.specs.Prelude.{Option, option_map}
use Rattle.std.specs.List.{last_or}
use Rattle.std.specs.List.Sorted.{IsStrictlySortedBy}
use Rattle.std.specs.Ordering.{is_gt, ordering_then}
use Rattle.std.proofs.lemmas.List.Kept.{IsStrictlySortedBy-filter}
use Rattle.cdf_parts.specs.Places.{Contest}
use Rattle.cdf_typed.specs.Greatest.{max_by}
use Rattle.cvr_fact_types.specs.declared.name.RecordName.{RecordName}
use Rattle.cvr_fact_types.specs.declared.header.HeaderFact.{HeaderFact}
use Rattle.cvr_fact_types.specs.declared.snapshot.SnapshotFact.{SnapshotFact}
use Rattle.cvr_fact_types.specs.Facts.{text_cmp}
use Rattle.cvr_facts.specs.Choosing.{choice_cmp, fact_choice, header_bodies, snapshot_bodies}
use Rattle.cvr_facts.specs.Choosing.{header, current, IsGreatest}
use Rattle.cvr_facts.specs.Stands.{IsSpelledHeader, IsSpelledSnapshot}
use Rattle.cvr_facts.proofs.Laws.{text_total, text_exact, choice_total, choice_exact, bodies}
use Rattle.cvr_facts.proofs.Laws.{Contains-header_bodies, Contains-snapshot_bodies}
use Rattle.cvr_facts.proofs.Lemmas.{is_greatest, at_head, none_listed, in_map}
use Rattle.cvr_office.specs.declared.any_fact.AnyFact.{AnyFact}
use Rattle.cvr_office.specs.declared.any_fact.AnyFact.TheVariants as any
use Rattle.cvr_office.specs.Place.{any_cmp}
use Rattle.cvr_office.specs.Plain.{set_of}
use Rattle.cvr_office.specs.Readers.{IsHeader, IsCurrent, IsSnapshotOf}
use Rattle.cvr_office.specs.Runs.{is_of, run, as_header, headers, snapshots, IsChosen, AreSpelled}
use Rattle.cvr_lists.proofs.Lifting.{rises-filter_map, rises-map, last_greatest, last_or-map}
use Rattle.cvr_lists.proofs.Lifting.{last_listed, none_last}
use Rattle.cvr_lists.proofs.Orderings.{then-Equal}
use Rattle.cvr_office.proofs.Lemmas.{past_key, header_held, held_header, from_headers}
use Rattle.cvr_office.proofs.Lemmas.{snapshot_held, held_snapshot, from_snapshots}

-- a list with no members has no greatest
none_greatest : {K : Type 0} (R : K → K → Ordering) (ks : List K) → ((k : K) → Contains ks k → ⊥)
    → max_by R ks ≡ None
none_greatest R [] h = refl
none_greatest R (k ∷ ks) h = absurd (h k (at_head k ks))

-- ---- headers

-- headers of one record stand by body
by_body : (x y : HeaderFact) → x.key ≡ y.key → any_cmp (any.Header x) (any.Header y) ≡ Less
    → text_cmp x.body y.body ≡ Less
by_body x y same h = sym (then-Equal (text_cmp x.body y.body))
    ∙ (sym (past_key x.key y.key same (ordering_then (text_cmp x.body y.body) Equal)) ∙ h)

abbrev pub header_order : HeaderFact → HeaderFact → Ordering
header_order x y = any_cmp (any.Header x) (any.Header y)

taken_in_order : (x y : AnyFact) (a b : HeaderFact) → as_header x ≡ Some a → as_header y ≡ Some b
    → any_cmp x y ≡ Less → header_order a b ≡ Less
taken_in_order (any.Header x) (any.Header y) a b p q h =
    let first : x ≡ a = Prim.cc p in
    let second : y ≡ b = Prim.cc q in
    subst (λ c. header_order c b ≡ Less) first (subst (λ c. header_order x c ≡ Less) second h)
taken_in_order (any.Device x) y a b p q h = Prim.cc p
taken_in_order (any.Snapshot x) y a b p q h = Prim.cc p
taken_in_order (any.Header x) (any.Device y) a b p q h = Prim.cc q
taken_in_order (any.Header x) (any.Snapshot y) a b p q h = Prim.cc q

module _ (facts : List AnyFact) (key : RecordName) where
  module _ (rises : IsStrictlySortedBy any_cmp facts) where
    pub headers_rise : IsStrictlySortedBy header_order (headers (run key facts))
    headers_rise = rises-filter_map any_cmp header_order as_header taken_in_order (run key facts)
        (IsStrictlySortedBy-filter any_cmp (is_of key) facts rises)

    pub bodies_rise : IsStrictlySortedBy text_cmp (map (λ h. h.body) (headers (run key facts)))
    bodies_rise =
        rises-map header_order text_cmp (λ h. h.body) (λ h. h.key ≡ key)
        (λ x y p q h. by_body x y (p ∙ sym q) h)
        (headers (run key facts)) (λ h at. (from_headers facts key h at).1) headers_rise

    header_top : (h : HeaderFact) → last_or None (headers (run key facts)) ≡ Some h
        → IsGreatest text_cmp (header_bodies (set_of facts) key) h.body
    header_top h is =
        let g = last_greatest text_total (map (λ h. h.body) (headers (run key facts))) h.body
        bodies_rise (last_or-map (λ h. h.body) None (headers (run key facts))
        ∙ ap (option_map (λ h. h.body)) is) in
        record {
          listed = (Contains-header_bodies (set_of facts) key h.body).1
              (header_held facts key h (last_listed (headers (run key facts)) h is));
          top = λ b at.
              let found =
              held_header facts key b ((Contains-header_bodies (set_of facts) key b).0 at) in
              g.top b (subst (Contains (map (λ h. h.body) (headers (run key facts)))) found.2
              (in_map (λ h. h.body) found.0 (headers (run key facts)) found.1));
        }

    no_header : headers (run key facts) ≡ [] → header (set_of facts) key ≡ None
    no_header none =
        none_greatest text_cmp (header_bodies (set_of facts) key) (λ b at.
        let found = held_header facts key b ((Contains-header_bodies (set_of facts) key b).0 at) in
        none_listed found.0 (subst (λ hs. Contains hs found.0) none found.1))

    header_body : (o : Option HeaderFact) → o ≡ last_or None (headers (run key facts))
        → option_map (λ h. h.body) o ≡ header (set_of facts) key
    header_body None is = sym (no_header (none_last (headers (run key facts)) (sym is)))
    header_body (Some h) is = sym (is_greatest text_total text_exact
        (header_bodies (set_of facts) key) h.body (header_top h (sym is)))

    pub header_is : ((h : HeaderFact) → Contains facts (any.Header h) → IsSpelledHeader h)
        → (o : Option HeaderFact) → o ≡ last_or None (headers (run key facts))
        → IsHeader (set_of facts) key o
    header_is spelled o is = record {
      body = header_body o is;
      typed = λ h e.
          let kept =
          from_headers facts key h (last_listed (headers (run key facts)) h (sym is ∙ e)) in
          record { key_is = kept.1; spelled = spelled h kept.0 };
    }

  -- ---- snapshots

  module _ (contests : List Contest) (spelled : AreSpelled contests facts) where
    spelled_in : (s : SnapshotFact) → Contains (snapshots (run key facts)) s
        → IsSpelledSnapshot contests s
    spelled_in s at = spelled (any.Snapshot s) (from_snapshots facts key s at).0

    current_top : (s : SnapshotFact) → IsGreatest fact_choice (snapshots (run key facts)) s
        → IsGreatest choice_cmp (snapshot_bodies (set_of facts) key) s.body
    current_top s g = record {
      listed = (Contains-snapshot_bodies (set_of facts) key s.body).1
          (s.id, snapshot_held facts key s g.listed);
      top = λ b at.
          let had = (Contains-snapshot_bodies (set_of facts) key b).0 at in
          let found = held_snapshot facts key had.0 b had.1 in
          let same =
          bodies contests found.0 s (spelled_in found.0 found.1) (spelled_in s g.listed) in
          subst (λ c. is_gt (choice_cmp c s.body) ≡ false) found.3
          (ap is_gt (sym same) ∙ g.top found.0 found.1);
    }

    no_snapshot : snapshots (run key facts) ≡ [] → current (set_of facts) key ≡ None
    no_snapshot none =
        none_greatest choice_cmp (snapshot_bodies (set_of facts) key) (λ b at.
        let had = (Contains-snapshot_bodies (set_of facts) key b).0 at in
        let found = held_snapshot facts key had.0 b had.1 in
        none_listed found.0 (subst (λ ss. Contains ss found.0) none found.1))

    current_body : (o : Option SnapshotFact) → IsChosen (snapshots (run key facts)) o
        → option_map (λ s. s.body) o ≡ current (set_of facts) key
    current_body None is = sym (no_snapshot is)
    current_body (Some s) is = sym (is_greatest choice_total choice_exact
        (snapshot_bodies (set_of facts) key) s.body (current_top s is))

    current_typed : (o : Option SnapshotFact) → IsChosen (snapshots (run key facts)) o
        → (s : SnapshotFact) → o ≡ Some s → IsSnapshotOf contests key s
    current_typed None is s e = Prim.cc e
    current_typed (Some t) is s e =
        let same : t ≡ s = Prim.cc e in
        subst (IsSnapshotOf contests key) same record
        { key_is = (from_snapshots facts key t is.listed).1; spelled = spelled_in t is.listed }

    pub current_is : (o : Option SnapshotFact) → IsChosen (snapshots (run key facts)) o
        → IsCurrent contests (set_of facts) key o
    current_is o is = record { body = current_body o is; typed = current_typed o is }
