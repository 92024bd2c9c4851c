-- With each `fact` in its place, putting in the `rest` still makes the list that putting in all of
-- them makes; the room reserved at first is enough up to the last one.
use Rattle.std.proofs.Common.{[], ◌∷◌, length, sym, ap, subst, arith}
use Rattle.std.proofs.lemmas.List.{nil_from_length}
use Rattle.cvr_office.specs.Plain.{IsPut}
use Rattle.cvr_lists.proofs.Insertions.{put_then, put_nothing}
use Rattle.cvr_lists.proofs.putting.insert_each.Goals as goal

pub loop-fact-init : goal.loop-fact-init
loop-fact-init c = record {
  rises = rw c.reserve.ensures.items c.requires;
  rest = λ new put. put;
  room = omega (
    arith,
    c.in_ok-reserve.ensures.ok,
    c.len.ensures,
    c.args.more.ok.0,
    ap length c.from-rest.ensures.0,
  );
}

pub insert_one-requires-clause-room : goal.insert_one-requires-clause-room
insert_one-requires-clause-room c =
    omega (arith, c.loop-fact.invariant.room, ap length c.in-Some.ensures.items)

pub loop-fact-smaller : goal.loop-fact-smaller
loop-fact-smaller c = omega (arith, ap length c.in-Some.ensures.items)

pub loop-fact-preserved : goal.loop-fact-preserved
loop-fact-preserved c =
    let fact = c.in-Some.fact in
    let left = c.pop_front.new.self.items in
    record {
      rises = c.insert_one.ensures.put.rises;
      rest = λ new put. c.loop-fact.invariant.rest new
          (subst (λ xs. IsPut c.loop-fact.facts.items xs new) (sym c.in-Some.ensures.items)
          (put_then c.loop-fact.facts.items (fact ∷ []) left c.insert_one.new.facts.items new
          c.insert_one.ensures.put put));
      room = omega (
        arith,
        c.loop-fact.invariant.room,
        c.insert_one.ensures.few,
        c.insert_one.ensures.room,
        ap length c.in-Some.ensures.items,
      );
    }

pub returns-clause-put : goal.returns-clause-put
returns-clause-put c =
    let facts = c.loop-fact.facts.items in
    let left = c.loop-fact.rest.items in
    let none = nil_from_length left
    (omega (arith, c.in_default.ensures.cases.0, c.loop-fact.rest.ok.0))
    in rw (← c.reserve.ensures.items, ← c.from-rest.ensures.0)
    (c.loop-fact.invariant.rest facts
    (put_nothing facts left c.loop-fact.invariant.rises none))
