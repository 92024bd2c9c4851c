-- What a plain office's list of facts keeps.
use Rattle.std.proofs.Common.{◌≡◌, ℕ, List, [], ◌∷◌, map, Contains, sym, ◌∙◌, subst, inl, inr}
use Rattle.std.specs.FinSet.{from_list, union}
use Rattle.std.specs.List.Sorted.{IsStrictlySortedBy}
use Rattle.cdf_parts.specs.Places.{Contest}
use Rattle.cdf_definition.specs.Frame.{Frame}
use Rattle.cdf_definition.specs.Sound.{IsFrame}
use Rattle.cvr_fact_types.specs.Facts.{Device, fact_cmp, fact_total, fact_exact}
use Rattle.cvr_facts.specs.Unions.{empty_union}
use Rattle.cvr_facts.proofs.Lemmas.{none_listed, in_map, from_map}
use Rattle.cvr_office.specs.declared.any_fact.AnyFact.{AnyFact}
use Rattle.cvr_office.specs.declared.any_fact.AnyFact.TheVariants as any
use Rattle.cvr_office.specs.CanHold.{CanHold, starting_content}
use Rattle.cvr_office.specs.Place.{any_cmp, fact_of}
use Rattle.cvr_office.specs.Plain.{set_of, IsSpelled, IsPlain, IsPut}
use Rattle.cvr_office.proofs.Laws.{start_keeps}
use Rattle.cvr_lists.proofs.Puts.{device_of}

-- ---- what is put in

-- nothing is in order
pub none_rise : (xs : List AnyFact) → xs ≡ [] → IsStrictlySortedBy any_cmp xs
unfolding IsStrictlySortedBy
none_rise [] e = tt
none_rise (x ∷ xs) e = Prim.cc e

-- what is spelled stays so
pub spelled_put : (contests : List Contest) (old more new : List AnyFact) → IsPut old more new
    → ((f : AnyFact) → Contains old f → IsSpelled contests f)
    → ((f : AnyFact) → Contains more f → IsSpelled contests f) → (f : AnyFact) → Contains new f
    → IsSpelled contests f
spelled_put contests old more new put was are f at =
    elim (put.from f at) [ inl a ↦ was f a | inr b ↦ are f b ]

-- ---- the devices of a definition

device_spelled : (contests : List Contest) (f : AnyFact) (id body : List ℕ)
    → fact_of f ≡ Device id body → IsSpelled contests f
device_spelled contests (any.Device d) id body e = tt
device_spelled contests (any.Header h) id body e = Prim.cc e
device_spelled contests (any.Snapshot s) id body e = Prim.cc e

module _ (frame : Frame) (none more new : List AnyFact) (empty_is : none ≡ [])
    (are : map fact_of more ≡ map device_of frame.devices) (put : IsPut none more new) where
  own_spelled : (f : AnyFact) → Contains more f → IsSpelled frame.contests f
  own_spelled f at =
      let found = from_map device_of (fact_of f) frame.devices
      (subst (λ fs. Contains fs (fact_of f)) are (in_map fact_of f more at)) in
      device_spelled frame.contests f found.0.0 found.0.1 (sym found.2)

  pub start_is : set_of new ≡ starting_content frame
  start_is =
      put.set ∙ ((λ i. union (set_of (empty_is i)) (from_list {R = fact_cmp} (are i)))
      ∙ empty_union fact_total fact_exact (starting_content frame))

  pub plain_start : IsFrame frame → IsPlain frame new
  plain_start sound = record {
    rises = put.rises;
    spelled = spelled_put frame.contests none more new put
        (λ f at. absurd (none_listed f (subst (λ xs. Contains xs f) empty_is at))) own_spelled;
    can_hold = subst (CanHold frame) (sym start_is) (start_keeps frame sound);
  }
