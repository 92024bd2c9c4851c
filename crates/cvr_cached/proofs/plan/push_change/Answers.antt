-- What is `fresh` of the facts that come is apart from those held, so the `few` facts (`keyed`) and
-- the `growth` planned for it put in all that come; `new_facts` rises by as many as are fresh.
use Rattle.std.proofs.Common.{◌≡◌, ◌∙◌, ◌∷◌, [], ◌++◌, ap, subst, arith}
use Rattle.std.proofs.lemmas.List.Kept.{IsStrictlySortedBy-filter}
use Rattle.cvr_office.specs.Place.{any_cmp}
use Rattle.cvr_office.specs.Plain.{IsPut}
use Rattle.cvr_cached.specs.Fresh.{is_fresh, fresh}
use Rattle.cvr_cached.specs.Growths.{grown_content}
use Rattle.cvr_cached.proofs.FreshFacts.{fresh_apart, put_fresh}
use Rattle.cvr_cached.proofs.Searched.{grows}
use Rattle.cvr_cached.proofs.plan.push_change.Goals as goal

pub growing-requires-clause-rises : goal.growing-requires-clause-rises
growing-requires-clause-rises c = rw c.fresh_of-fresh.ensures
    (IsStrictlySortedBy-filter any_cmp (is_fresh c.facts.result.now) c.args.more.items
    c.requires.rises)

pub growing-requires-clause-apart : goal.growing-requires-clause-apart
growing-requires-clause-apart c =
    rw (c.fresh_of-fresh.ensures, c.facts.ensures.is) (fresh_apart c.args.old.now c.args.more.items)

pub returns : goal.returns
returns c =
    let old = c.args.old.now in
    let more = c.args.more.items in
    let all = grown_content old c.in_ok-few.few c.in_ok-few.growth in
    let is : c.fresh_of-fresh.result.items ≡ fresh old more = c.fresh_of-fresh.ensures
    ∙ ap (λ facts. fresh facts more) c.facts.ensures.is in
    let put = put_fresh old more all
    (subst (λ xs. IsPut old xs all) is c.in_ok-few.ensures.put) in
    record {
      few = c.in_ok-few.few;
      growth = c.in_ok-few.growth;
      growing = c.in_ok-few.ensures.growing;
      put = put;
      more = grows old more all c.facts.ensures.rises put c.requires.some;
      contents_are = c.in_ok-push.ensures.items
          ∙ ap (λ few. c.args.plan.now.contents.items ++ (c.args.name, few) ∷ [])
          c.in_ok-keyed.ensures;
      growths_are = c.in_ok-push-2.ensures.items;
      count = omega (
        arith,
        c.in_ok-few.ensures.long,
        c.len.ensures,
        c.fresh_of-fresh.result.ok.0,
        c.in_ok-new_facts.ensures,
      );
    }
