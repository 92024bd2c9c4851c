-- What is kept once what came was put in.
use Rattle.std.proofs.Common.{◌≡◌, ℕ, ◌+◌, ◌*◌, ◌^◌, ◌<◌, ◌≤◌, List, length, ap, sym, subst, ◌∙◌}
use Rattle.std.proofs.Common.{arith, mul-le-mul_left}
use Rattle.std.specs.List.{sum_by}
use Rattle.std.specs.List.Sorted.{IsStrictlySortedBy}
use Rattle.std.specs.Map.{keys_of, values_of}
use Rattle.cvr_fact_types.specs.declared.name.RecordName.{RecordName}
use Rattle.cvr_fact_types.specs.Facts.{name_cmp}
use Rattle.cvr_tally.specs.Rows.{IsTotals}
use Rattle.cvr_office.specs.declared.any_fact.AnyFact.{AnyFact}
use Rattle.cvr_office.specs.Plain.{IsPut}
use Rattle.cvr_cached.specs.declared.plan.Plan.{Plan}
use Rattle.cvr_cached.specs.Contents.{Entries, content_at, facts_at}
use Rattle.cvr_cached.specs.Cells.{total, IsTableOf}
use Rattle.cvr_cached.specs.Held.{Stored, facts_of, AreOwn, IsHeld}
use Rattle.cvr_cached.specs.Growths.{AreGrowing}
use Rattle.cvr_cached.specs.Plans.{planned, content_with, all_moves, AreTallied, IsRoomy}
use Rattle.cvr_cached.specs.Taking.{IsPlanOf, IsTaken}
use Rattle.cvr_cached.proofs.After.{own_after, put_after}
use Rattle.cvr_cached.proofs.Moved.{moved_is}
use Rattle.cvr_cached.proofs.Taken.{counted_before, tallied_before, room_before, moves_before}
use Rattle.cvr_cached.proofs.Taken.{held_after, growth_after}

module _ (s : Stored) (count : ℕ) (held : IsHeld s count) (more devices : List AnyFact)
    (plan : Plan) (of : IsPlanOf s more devices plan) where
  abbrev cs : Entries
  cs = planned (content_at s.records) plan

  abbrev n : ℕ
  n = plan.new_facts

  pub tallied : AreTallied s.records s.totals.rows
  tallied = tallied_before s count more held of.allowed

  pub growing : AreGrowing (content_at s.records) plan.contents.items plan.growths.items
  growing = of.planned.growing

  pub room : count + n < 2 ^ 64 → IsRoomy s.totals.contests s.records cs
  room few =
      let counted = counted_before s count held in
      room_before s count more held of.allowed of.group
      (λ k x at. ((of.apart.groups_are k x).0 at).0) plan of.planned
      (omega (arith, counted, few))

  -- each content was put in its place, and each device; the totals follow
  module _ (s' : Stored) (count' new : ℕ) (put_devices : IsPut s.devices devices s'.devices)
      (rises : IsStrictlySortedBy name_cmp (keys_of s'.records))
      (done : (q : RecordName) → content_at s'.records q ≡ content_with cs (content_at s.records) q)
      (longer : sum_by length (values_of s'.records)
      + sum_by (λ c. length (facts_at (content_at s.records c.0))) cs
      ≡ sum_by length (values_of s.records) + sum_by (λ c. length c.1) cs)
      (same : s'.totals.contests ≡ s.totals.contests)
      (grown : length s'.devices + n ≡ length s.devices + new)
      (sum : count + new ≡ count') where
    own : AreOwn s'.devices s'.records
    own = own_after s s' held.own rises devices more of.group of.apart put_devices plan of.planned
        done

    put : IsPut (facts_of s) more (facts_of s')
    put = put_after s s' held.own rises devices more of.group of.apart put_devices plan of.planned
        done

    counted : count' ≡ length s'.devices + sum_by length (values_of s'.records)
    counted = let before = counted_before s count held in let planned = of.planned.count in
        omega (arith, before, planned, longer, grown, sum)

    pub held_settled : IsTableOf (total s'.records) s'.totals.rows → IsTotals s'.totals
        → count' < 2 ^ 64 → IsHeld s' count'
    held_settled agrees whole fits =
        held_after s count more held of.allowed s' put count' own agrees whole same counted fits

    pub taken_settled : n ≤ new → s'.totals.moves
        ≡ s.totals.moves + all_moves (content_at s.records) cs → IsTaken s more s' new
    taken_settled less moves =
        let most = moves_before s count more held of.allowed of.group
        (λ k x at. ((of.apart.groups_are k x).0 at).0) plan of.planned in
        let up = mul-le-mul_left (2 * length s.totals.contests) less in
        record {
          put = put;
          growth_is = growth_after s count more held of.allowed s' put count' new counted sum;
          contests_are = same;
          moves_are = moves ∙ ap (λ m. s.totals.moves + m)
              (moved_is s count more held of.allowed s' put own of.group of.apart.groups_are plan
              of.planned done);
          moves_few = omega (arith, moves, most, up);
        }

-- what is the same is held still
pub held_still : (s s' : Stored) (count : ℕ) → s' ≡ s → IsHeld s count → IsHeld s' count
held_still s s' count same held = subst (λ t. IsHeld t count) (sym same) held
