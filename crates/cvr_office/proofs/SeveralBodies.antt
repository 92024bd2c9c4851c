-- A name with a number is among the conflicts exactly where that is the number of its bodies, and
-- at least 2.
use Rattle.std.proofs.Common.{◌≡◌, ◌≤◌, ◌<◌, ℕ, map, Contains, Bool, true, sym, ap, ◌∙◌, subst}
use Rattle.std.proofs.Common.{arith}
use Rattle.std.specs.Prelude.{nat_le}
use Rattle.std.specs.List.{filter}
use Rattle.std.specs.FinSet.{items}
use Rattle.std.proofs.lemmas.Bool.{leb-true, le-leb}
use Rattle.cvr_fact_types.specs.Facts.{Facts}
use Rattle.cvr_facts.proofs.Laws.{text_total, text_exact}
use Rattle.cvr_facts.proofs.Lemmas.{one_listed, in_map, from_map}
use Rattle.cvr_office.specs.declared.conflict.Conflict.{Conflict}
use Rattle.cvr_office.specs.declared.conflict.ConflictName.{ConflictName}
use Rattle.cvr_office.specs.Names.{name_of, body_of, is_named, names, bodies_under, count_under}
use Rattle.cvr_office.specs.Names.{conflict_of}
use Rattle.cvr_office.specs.Counting.{ConflictsLaw}
use Rattle.cvr_office.proofs.InOrder.{in_ordered, from_ordered}
use Rattle.cvr_office.proofs.NameOrder.{conflict_total, conflict_exact, name_is}
use Rattle.cvr_office.proofs.RecordMembers.{from_filter, in_filter}

-- whether there are two bodies or more
abbrev several : Conflict → Bool
several c = nat_le 2 c.bodies

module _ (s : Facts) (n : ConflictName) where
  -- a name with a body is one of some fact
  is_listed : 0 < count_under s n → Contains (names s) n
  is_listed some =
      let body = one_listed (bodies_under s n) some in
      let stated = from_ordered text_total text_exact (map body_of (filter (is_named n) (items s)))
      body.0 body.1 in
      let found = from_map body_of body.0 (filter (is_named n) (items s)) stated in
      let had = from_filter (is_named n) (items s) found.0 found.1 in
      in_ordered conflict_total conflict_exact (map name_of (items s)) n
      (subst (Contains (map name_of (items s))) (sym (name_is n found.0 had.1))
      (in_map name_of found.0 (items s) had.0))

  there : (k : ℕ) → Contains (filter several (map (conflict_of s) (names s)))
      (record { name = n; bodies = k }) → (count_under s n ≡ k) × (2 ≤ k)
  there k at =
      let had = from_filter several (map (conflict_of s) (names s))
      (record { name = n; bodies = k }) at in
      let found = from_map (conflict_of s) (record { name = n; bodies = k }) (names s) had.0 in (
        ap (count_under s) (sym (ap (λ c. c.name) found.2))
            ∙ ap (λ c. c.bodies) found.2,
        leb-true 2 k had.1,
      )

  back : (k : ℕ) → count_under s n ≡ k → 2 ≤ k
      → Contains (filter several (map (conflict_of s) (names s))) (record { name = n; bodies = k })
  back k is least =
      let listed = is_listed (omega (arith, is, least)) in
      let passes : nat_le 2 (count_under s n) ≡ true =
      le-leb 2 (count_under s n) (omega (arith, is, least)) in
      subst (λ m. Contains (filter several (map (conflict_of s) (names s)))
      (record { name = n; bodies = m })) is
      (in_filter several (map (conflict_of s) (names s)) (conflict_of s n)
      (in_map (conflict_of s) n (names s) listed) passes)

pub conflict_iff : ConflictsLaw
conflict_iff s n k = (there s n k, λ h. back s n k h.0 h.1)
