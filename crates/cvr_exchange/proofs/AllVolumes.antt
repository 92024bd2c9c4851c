-- All volumes together have exactly the facts of their giver.
use Rattle.std.proofs.Common.{◌≡◌, ◌<◌, ◌≤◌, ℕ, zero, suc, ◌+◌, Contains, true}
use Rattle.std.proofs.Common.{◌⊎◌, inl, inr, refl, ap, ◌∙◌, subst, arith}
use Rattle.std.specs.List.{list_any, range_with_len}
use Rattle.std.specs.Cmp.{both_ways}
use Rattle.std.specs.FinSet.{contains, same_set}
use Rattle.cdf_definition.specs.Frame.{Frame}
use Rattle.cvr_fact_types.specs.Facts.{Fact, Device, Header, Snapshot, Facts, fact_total}
use Rattle.cvr_fact_types.specs.Facts.{fact_exact}
use Rattle.cvr_facts.specs.Reports.{facts}
use Rattle.cvr_facts.proofs.Lemmas.{none_listed, head_or_tail, at_head, at_tail, one_that_passes}
use Rattle.cvr_facts.proofs.Lemmas.{passes_by}
use Rattle.cvr_office.specs.CanHold.{CanHold}
use Rattle.cvr_office.proofs.Lemmas.{contains-union_over}
use Rattle.cvr_report.specs.Head.{Head}
use Rattle.cvr_report.specs.Page.{volumes}
use Rattle.cvr_report.specs.Volume.{volume}
use Rattle.cvr_exchange.specs.Laws.{NothingAddedLaw, AllVolumesLaw, AnyOrderLaw}
use Rattle.cvr_exchange.specs.Passing.{CanHead, facts_of_volumes, AreAllTo}
use Rattle.cvr_exchange.proofs.Back.{fact_had, device_there, header_there, snapshot_there}
use Rattle.cvr_exchange.proofs.Definitions.{of_definition}
use Rattle.cvr_exchange.proofs.Numbers.{device_number, header_number, header_record}
use Rattle.cvr_exchange.proofs.Numbers.{snapshot_number, snapshot_record}
use Rattle.cvr_exchange.proofs.Shown.{of_device_id, of_id}

-- ---- nothing is added, and nothing lost

pub none_added : NothingAddedLaw
none_added frame head s i f can_hold can pos h = of_definition frame can_hold.sound (contains s f)
    (λ d known. fact_had frame head s i can_hold can pos d known f h)

-- a fact is one of some volume
pub in_some : (frame : Frame) (head : Head) (s : Facts) → CanHold frame s → CanHead frame head
    → (f : Fact) → contains s f ≡ true
    → (i : ℕ) × (0 < i) × (i ≤ volumes s) × (contains (facts (volume frame head s i)) f ≡ true)
in_some frame head s can_hold can (Device id b) h =
    let n = device_number s id b h in (
      n.0,
      n.1,
      n.2,
      of_definition frame can_hold.sound (contains (facts (volume frame head s n.0)) (Device id b))
          (λ d known.
          subst (λ x. contains (facts (volume frame head s n.0)) (Device id x) ≡ true) n.3
          (device_there frame head s n.0 can_hold can n.1 d known id ((of_device_id s id).1 (b, h)))),
    )
in_some frame head s can_hold can (Header d u b) h =
    let n = header_number s d u b h in (
      n.0,
      n.1,
      n.2,
      of_definition frame can_hold.sound (contains (facts (volume frame head s n.0)) (Header d u b))
          (λ x known.
          subst (λ y. contains (facts (volume frame head s n.0)) (Header d u y) ≡ true) n.4
          (header_there frame head s n.0 can_hold can n.1 x known (record { device = d; unique = u })
          (header_record s d u b h) n.3)),
    )
in_some frame head s can_hold can (Snapshot d u id b) h =
    let n = snapshot_number s d u id b h in (
      n.0,
      n.1,
      n.2,
      of_definition frame can_hold.sound (contains (facts (volume frame head s n.0))
          (Snapshot d u id b)) (λ x known.
          subst (λ y. contains (facts (volume frame head s n.0)) (Snapshot d u id y) ≡ true) n.4
          (snapshot_there frame head s n.0 can_hold can n.1 x known (record { device = d; unique = u })
          (snapshot_record s d u id b h) n.3 id
          ((of_id s (record { device = d; unique = u }) id).1 (b, h)))),
    )

pub any_order : AnyOrderLaw
any_order frame head s numbers can_hold can all =
    same_set fact_total fact_exact (facts_of_volumes frame head s numbers) s (λ f.
    contains-union_over (λ i. facts (volume frame head s i)) numbers f
    ∙ both_ways (list_any (λ i. contains (facts (volume frame head s i)) f) numbers) (contains s f)
    (λ h.
    let i = one_that_passes (λ i. contains (facts (volume frame head s i)) f) numbers h in
    none_added frame head s i.0 f can_hold can ((all i.0).0 i.1).0 i.2)
    (λ h.
    let i = in_some frame head s can_hold can f h in
    passes_by (λ i. contains (facts (volume frame head s i)) f) numbers i.0 ((all i.0).1 (i.1, i.2))
    i.3))

-- ---- one after the other

from_range : (a n i : ℕ) → Contains (range_with_len a n) i → (a ≤ i) × (i < a + n)
from_range a zero i at = absurd (none_listed i at)
from_range a (suc n) i at =
    elim (head_or_tail a i _ at) [
      | inl is ↦ (omega (arith, is), omega (arith, is))
      | inr more ↦ let p = from_range (a + 1) n i more in let q = p.0 in
          let r = p.1 in (omega (arith, q), omega (arith, r))
    ]

eq_or_above : (a i : ℕ) → a ≤ i → (a ≡ i) ⊎ (suc a ≤ i)
eq_or_above zero zero le = inl refl
eq_or_above zero (suc i) le = inr (omega arith)
eq_or_above (suc a) zero le = absurd (omega (arith, le))
eq_or_above (suc a) (suc i) le = elim (eq_or_above a i (omega (arith, le)))
    [ inl is ↦ inl (ap suc is) | inr lt ↦ inr (omega (arith, lt)) ]

in_range : (a n i : ℕ) → a ≤ i → i < a + n → Contains (range_with_len a n) i
in_range a zero i low high = absurd (omega (arith, low, high))
in_range a (suc n) i low high = elim (eq_or_above a i low) [
  | inl is ↦ subst (Contains (range_with_len a (suc n))) is (at_head a _)
  | inr more ↦ at_tail a i _ (in_range (a + 1) n i (omega (arith, more)) (omega (arith, high)))
]

all_to : (n : ℕ) → AreAllTo n (range_with_len 1 n)
all_to n i = (
  (λ a. let p = from_range 1 n i a in let q = p.0 in
      let r = p.1 in (omega (arith, q), omega (arith, r))),
  λ h. let q = h.0 in let r = h.1 in in_range 1 n i (omega (arith, q)) (omega (arith, r)),
)

pub all_volumes : AllVolumesLaw
all_volumes frame head s can_hold can =
    any_order frame head s (range_with_len 1 (volumes s)) can_hold can (all_to (volumes s))
