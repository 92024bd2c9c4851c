-- What is appended (`more`) are the bodies of the other set that this one lacks; so this one, put
-- in order, is the union of both, and has that many bodies more than before.
use Rattle.std.proofs.Common.{◌≡◌, ap, ◌∙◌, length, arith}
use Rattle.std.specs.List.{filter}
use Rattle.std.specs.FinSet as set
use Rattle.cvr_fact_types.specs.Facts.{text_cmp}
use Rattle.cvr_facts.specs.Unions.{text_total, text_exact}
use Rattle.cvr_facts.proofs.Growth.{len-union}
use Rattle.cvr_facts.proofs.Sorted.{is_missing, from_list-append, union-missing, AreNew-missing}
use Rattle.cvr_facts.proofs.bodies.BodySetJoin.join.Goals as goal

more_is : (c : goal.After-drop-more-2) → c.in_ok-more.more.items
    ≡ filter (is_missing text_cmp c.self.inside.items.items) c.other.inside.items.items
more_is c = c.in_ok-more.ensures ∙ (λ i.
    filter (is_missing text_cmp (c.deref.ensures.value i)) (c.deref-2.ensures.value i))

made : (c : goal.After-drop-more-2) → set.from_list {R = text_cmp} c.put_in_order.new.bodies.items
    ≡ set.union (set.from_list c.self.inside.items.items)
    (set.from_list (filter (is_missing text_cmp c.self.inside.items.items)
    c.other.inside.items.items))
made c =
    let mine = c.self.inside.items.items in
    c.put_in_order.ensures.members
    ∙ (ap (set.from_list {R = text_cmp}) c.in_ok-append.ensures.items
    ∙ (from_list-append text_total text_exact mine c.in_ok-more.more.items
    ∙ ap (λ ys. set.union (set.from_list {R = text_cmp} mine) (set.from_list ys)) (more_is c)))

pub returns-clause-ok : goal.returns-clause-ok
returns-clause-ok c =
    made c ∙ (union-missing text_total text_exact c.self.inside.items.items
    c.other.inside.items.items ∙ (λ i. set.union (c.self.view_is i) (c.other.view_is i)))

pub returns-clause-new : goal.returns-clause-new
returns-clause-new c =
    let mine = c.self.inside.items.items in
    let theirs = c.other.inside.items.items in
    omega (
      arith,
      ap set.len (made c),
      ap set.len c.self.view_is,
      ap length (more_is c),
      len-union
          text_total text_exact (set.from_list mine) (filter (is_missing text_cmp mine) theirs)
          (AreNew-missing text_total text_exact mine theirs c.other.invariant),
    )
