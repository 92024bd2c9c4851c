use Rattle.std.proofs.Common.{◌≡◌, ◌∙◌, length, ap, sym, subst, arith}
use Rattle.std.specs.List.Sorted.{IsStrictlySortedBy}
use Rattle.cvr_office.specs.Place.{any_cmp}
use Rattle.cvr_cached.specs.Merged.{merged}
use Rattle.cvr_cached.specs.Shown.{IsShown}
use Rattle.cvr_cached.proofs.Grown.{grown_some}
use Rattle.cvr_cached.proofs.MergedFacts.{merged_put}
use Rattle.cvr_cached.proofs.content.RecordContent.grow.Goals as goal

pub among-requires-clause-rises : goal.among-requires-clause-rises
among-requires-clause-rises c =
    let facts = c.into_facts-facts.result.items in
    let is : facts ≡ c.args.self.now = c.into_facts-facts.ensures.is ∙ c.take.ensures.taken in
    let rises : IsStrictlySortedBy any_cmp facts = subst (IsStrictlySortedBy any_cmp)
    (sym c.into_facts-facts.ensures.is) c.into_facts-facts.ensures.rises in
    let put = merged_put facts c.args.growth.fresh.items rises c.requires.growth.rises
    (rw is c.requires.growth.apart) in
    rw c.grow.ensures put.rises

pub among-requires-clause-shown : goal.among-requires-clause-shown
among-requires-clause-shown c =
    let is : c.into_facts-facts.result.items
    ≡ c.args.self.now = c.into_facts-facts.ensures.is ∙ c.take.ensures.taken in
    let long : length c.args.self.now ≡ c.self.inside.facts.len =
    omega (arith, c.self.inside.facts.ok.0, ap length c.self.view_is) in
    let some = sym c.is_empty.ensures ∙ c.if-is_empty.false in
    subst (IsShown c.args.few) (grown_some c.args.self.now c.args.few c.args.growth long some
    ∙ (sym (ap (λ xs. merged xs c.args.growth.fresh.items) is) ∙ sym c.grow.ensures))
    c.requires.shown

pub returns : goal.returns
returns c =
    let is : c.into_facts-facts.result.items
    ≡ c.args.self.now = c.into_facts-facts.ensures.is ∙ c.take.ensures.taken in
    let long : length c.args.self.now ≡ c.self.inside.facts.len =
    omega (arith, c.self.inside.facts.ok.0, ap length c.self.view_is) in
    let some = sym c.is_empty.ensures ∙ c.if-is_empty.false in
    c.drop-2.view_is ∙ (c.among.ensures ∙ (c.grow.ensures
    ∙ (ap (λ xs. merged xs c.args.growth.fresh.items) is
    ∙ sym (grown_some c.args.self.now c.args.few c.args.growth long some))))
