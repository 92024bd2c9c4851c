-- Facts that lists in order keep, and the sets of them.
use Rattle.std.proofs.Common.{◌≡◌, ℕ, List, ◌++◌, map, Bool, Ordering, Equal}
use Rattle.std.proofs.Common.{sym, ◌∙◌, subst, inl, inr, arith}
use Rattle.std.specs.List.{Any, Contains, dedup}
use Rattle.std.specs.Ordering.{eq_by_cmp, ordering_then}
use Rattle.std.specs.Cmp.{Equal-is, IsEquivalence}
use Rattle.std.specs.FinSet.{from_list}
use Rattle.std.specs.FinMap.{nat_cmp-IsAntisymmetric, slice_cmp-IsAntisymmetric}
use Rattle.std.proofs.lemmas.List.Elements.{Contains-append_cases}
use Rattle.std.proofs.lemmas.List.Elements.{Contains-append_left, Contains-append_right}
use Rattle.std.proofs.lemmas.List.Kept.{Any-dedup}
use Rattle.cdf_types.specs.declared.report.Report.{Report}
use Rattle.cdf_parts.specs.Places.{Contest}
use Rattle.cvr_fact_types.specs.declared.device.DeviceFact.{DeviceFact}
use Rattle.cvr_fact_types.specs.declared.header.HeaderFact.{HeaderFact}
use Rattle.cvr_fact_types.specs.declared.snapshot.SnapshotFact.{SnapshotFact}
use Rattle.cvr_facts.specs.declared.list.FactList.{FactList}
use Rattle.cvr_fact_types.specs.Facts.{Fact, text_cmp, fact_cmp, fact_total, fact_exact}
use Rattle.cvr_fact_types.specs.Orders.{device_cmp, header_cmp, snapshot_cmp}
use Rattle.cvr_facts.specs.Lists.{fact_of_device, fact_of_header, fact_of_snapshot, facts_in}
use Rattle.cvr_facts.specs.Lists.{stated_list}
use Rattle.cvr_facts.proofs.Members.{from_map, in_map, same_from_list}

-- ---- ties

pub tied : (a b : Ordering) → ordering_then a b ≡ Equal → (a ≡ Equal) × (b ≡ Equal)
tied a b e = grind arith

text_is : (a b : List ℕ) → text_cmp a b ≡ Equal → a ≡ b
text_is = slice_cmp-IsAntisymmetric nat_cmp-IsAntisymmetric

pub device_tied : (d e : DeviceFact) → device_cmp d e ≡ Equal → fact_of_device d ≡ fact_of_device e
device_tied d e t =
    let both = tied _ _ t in
    let id : d.id ≡ e.id = text_is _ _ both.0 in
    let body : d.body ≡ e.body = text_is _ _ both.1 in
    cc

pub header_tied : (h g : HeaderFact) → header_cmp h g ≡ Equal → fact_of_header h ≡ fact_of_header g
header_tied h g t =
    let both = tied _ _ t in
    let key = tied _ _ both.0 in
    let device : h.key.device ≡ g.key.device = text_is _ _ key.0 in
    let unique : h.key.unique ≡ g.key.unique = text_is _ _ key.1 in
    let body : h.body ≡ g.body = text_is _ _ both.1 in
    cc

pub snapshot_tied : (s t : SnapshotFact) → snapshot_cmp s t ≡ Equal
    → fact_of_snapshot s ≡ fact_of_snapshot t
snapshot_tied s t e =
    let both = tied _ _ e in
    let key = tied _ _ both.0 in
    let rest = tied _ _ both.1 in
    let device : s.key.device ≡ t.key.device = text_is _ _ key.0 in
    let unique : s.key.unique ≡ t.key.unique = text_is _ _ key.1 in
    let id : s.id ≡ t.id = text_is _ _ rest.0 in
    let body : s.body ≡ t.body = text_is _ _ rest.1 in
    cc

-- ---- what a list in order keeps

-- for each item `dedup` keeps one that ties with it
pub kept_tied : {X : Type 0} (R : X → X → Ordering) {E : X → X → Bool} → IsEquivalence E
    → ((x y : X) → E x y ≡ eq_by_cmp R x y) → (xs : List X) (x : X) → Contains xs x
    → Any (λ y. R x y ≡ Equal) (dedup E xs)
kept_tied R laws ties xs x h =
    let one = Any-dedup laws xs x h in
    (one.0, one.1, one.2, one.3, (Equal-is _).0 (sym (ties x one.1) ∙ one.4))

-- each of what was given is the fact of one in the list, and the list has nothing else
pub record Keeps {X : Type 0} (fact : X → Fact) (stated list : List X) : Type 0 where
  pub from : (x : X) → Contains list x → Contains stated x
  pub kept : (x : X) → Contains stated x → Any (λ y. fact x ≡ fact y) list

pub keeps : {X : Type 0} (fact : X → Fact) (R : X → X → Ordering)
    → ((x y : X) → R x y ≡ Equal → fact x ≡ fact y) → (items stated list : List X) → items ≡ stated
    → ((x : X) → Contains list x → Contains items x)
    → ((x : X) → Contains items x → Any (λ y. R x y ≡ Equal) list) → Keeps fact stated list
keeps fact R same items stated list is from kept = record {
  from = λ x h. subst (λ xs. Contains xs x) is (from x h);
  kept = λ x h. let one = kept x (subst (λ xs. Contains xs x) (sym is) h) in
      (one.0, one.1, one.2, one.3, same x one.1 one.4);
}

listed_are_told : {X : Type 0} (fact : X → Fact) (stated list : List X) → Keeps fact stated list
    → (f : Fact) → Contains (map fact list) f → Contains (map fact stated) f
listed_are_told fact stated list k f h =
    let x = from_map fact f list h in
    subst (Contains (map fact stated)) x.2 (in_map fact x.0 stated (k.from x.0 x.1))

told_are_listed : {X : Type 0} (fact : X → Fact) (stated list : List X) → Keeps fact stated list
    → (f : Fact) → Contains (map fact stated) f → Contains (map fact list) f
told_are_listed fact stated list k f h =
    let x = from_map fact f stated h in
    let one = k.kept x.0 x.1 in
    subst (Contains (map fact list)) (sym one.4 ∙ x.2)
    (in_map fact one.1 list (one.0, one.2, one.3))

-- ---- sets

abbrev Within : List Fact → List Fact → Type 0
Within xs ys = (f : Fact) → Contains xs f → Contains ys f

Within-append : (one other first second : List Fact) → Within one first → Within other second
    → Within (one ++ other) (first ++ second)
Within-append one other first second left right f h =
    elim (Contains-append_cases one other f h) as (λ _. Contains (first ++ second) f) [
      | inl a ↦ Contains-append_left first second f (left f a)
      | inr b ↦ Contains-append_right first second f (right f b)
    ]

-- a list that keeps what a report gives has its facts
pub same_told : (contests : List Contest) (report : Report) (list : FactList)
    → Keeps fact_of_device (stated_list contests report).devices list.devices
    → Keeps fact_of_header (stated_list contests report).headers list.headers
    → Keeps fact_of_snapshot (stated_list contests report).snapshots list.snapshots
    → from_list {R = fact_cmp} (facts_in list) ≡ from_list (facts_in (stated_list contests report))
same_told contests report list devices headers snapshots =
    same_from_list fact_total fact_exact _ _
    (Within-append _ _ _ _ (listed_are_told _ _ _ devices)
    (Within-append _ _ _ _ (listed_are_told _ _ _ headers) (listed_are_told _ _ _ snapshots)))
    (Within-append _ _ _ _ (told_are_listed _ _ _ devices)
    (Within-append _ _ _ _ (told_are_listed _ _ _ headers) (told_are_listed _ _ _ snapshots)))
