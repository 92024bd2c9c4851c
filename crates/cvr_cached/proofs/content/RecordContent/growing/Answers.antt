-- An empty content becomes one of what is `fresh`; another gets this by a `growth`, whose `key` has
-- unit and batch of the old header, while `few` facts show what it does then.
use Rattle.std.proofs.Common.{◌≡◌, ◌∙◌, List, length, ap, sym, subst, arith}
use Rattle.std.specs.List.Sorted.{IsStrictlySortedBy}
use Rattle.std.proofs.lemmas.Bool.{eqb-true}
use Rattle.std.proofs.lemmas.List.{nil_from_length}
use Rattle.cvr_office.specs.declared.any_fact.AnyFact.{AnyFact}
use Rattle.cvr_office.specs.Place.{any_cmp}
use Rattle.cvr_office.specs.Plain.{IsPut}
use Rattle.cvr_cached.specs.Contents.{IsKeyOf}
use Rattle.cvr_cached.proofs.FreshFacts.{put_alone}
use Rattle.cvr_cached.proofs.Grown.{grown_none, grown_put}
use Rattle.cvr_cached.proofs.content.RecordContent.growing.Goals as goal

pub returns-then-is_empty-clause-put : goal.returns-then-is_empty-clause-put
returns-then-is_empty-clause-put c =
    let zero = eqb-true _ _ (sym c.is_empty.ensures ∙ c.if-is_empty.true) in
    let none = nil_from_length c.self.inside.facts.items
    (omega (arith, zero, c.self.inside.facts.ok.0))
    in
    subst (IsPut c.args.self.now c.args.fresh.items)
    (sym (grown_none c.args.self.now c.of.result _ (sym c.self.view_is ∙ none) ∙ c.of.ensures))
    (put_alone c.args.self.now c.args.fresh.items (sym c.self.view_is ∙ none) c.requires.rises)

pub returns-clause-growing : goal.returns-clause-growing
returns-clause-growing c =
    let old : List AnyFact = c.args.self.now in
    let long : length old ≡ c.self.inside.facts.len =
    omega (arith, c.self.inside.facts.ok.0, ap length c.self.view_is) in
    let own = rw (c.deref-2.ensures.value, c.self.view_is) at c.in_ok-growth.ensures.growth in
    let all = grown_put old c.in_ok-few.few c.in_ok-growth.growth long
    (sym c.is_empty.ensures ∙ c.if-is_empty.false) c.args.fresh.items
    (subst (IsStrictlySortedBy any_cmp) c.self.view_is c.self.invariant.rises) own
    c.in_ok-growth.ensures.fresh in
    record {
      growth_is = own;
      shown = c.in_ok-few.ensures _ (rw c.deref.ensures.value all.0);
      key_is = subst (IsKeyOf old) (sym c.in_ok-growth.ensures.key) c.in_ok-key.ensures;
    }

pub returns-clause-put : goal.returns-clause-put
returns-clause-put c =
    let long : length c.args.self.now ≡ c.self.inside.facts.len =
    omega (arith, c.self.inside.facts.ok.0, ap length c.self.view_is) in
    let own = rw (c.deref-2.ensures.value, c.self.view_is) at c.in_ok-growth.ensures.growth in
    (grown_put c.args.self.now c.in_ok-few.few c.in_ok-growth.growth long
    (sym c.is_empty.ensures ∙ c.if-is_empty.false) c.args.fresh.items
    (subst (IsStrictlySortedBy any_cmp) c.self.view_is c.self.invariant.rises) own
    c.in_ok-growth.ensures.fresh).0

pub returns-clause-long : goal.returns-clause-long
returns-clause-long c =
    let long : length c.args.self.now ≡ c.self.inside.facts.len =
    omega (arith, c.self.inside.facts.ok.0, ap length c.self.view_is) in
    let own = rw (c.deref-2.ensures.value, c.self.view_is) at c.in_ok-growth.ensures.growth in
    (grown_put c.args.self.now c.in_ok-few.few c.in_ok-growth.growth long
    (sym c.is_empty.ensures ∙ c.if-is_empty.false) c.args.fresh.items
    (subst (IsStrictlySortedBy any_cmp) c.self.view_is c.self.invariant.rises) own
    c.in_ok-growth.ensures.fresh).1
