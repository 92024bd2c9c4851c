use Rattle.std.proofs.Common.{◌≡◌, ◌++◌, ◌∷◌, [], Contains, List, map, length, codes, refl, sym, ap, ◌∙◌}
use Rattle.std.proofs.Common.{append-nil, length-append, subst, arith}
use Rattle.std.specs.List.{insert, list_any}
use Rattle.std.proofs.lemmas.List.Concat.{flat_map-append}
use Rattle.std.proofs.lemmas.Simd.{map-map}
use Rattle.serde_json.specs.Data.{Data}
use Rattle.serde_json.specs.Written.{has_float}
use Rattle.cdf_node.specs.View.{view}
use Rattle.cdf_parts.specs.Parts.{array_at}
use Rattle.cdf_parts.proofs.Laws.{whole_array, whole_there}
use Rattle.cdf_typed.specs.Typed.{snapshot_of, cvr_of}
use Rattle.cvr_fact_types.specs.declared.name.RecordName.{RecordName}
use Rattle.cvr_facts.specs.Lists.{record_name, stated_header, stated_under}
use Rattle.cvr_facts.proofs.Lemmas.{in_map}
use Rattle.cvr_office.specs.declared.any_fact.AnyFact.TheVariants as any
use Rattle.cvr_lists.specs.Kept.{record_stated}
use Rattle.cvr_lists.proofs.kept.FactsKeep.keep.Goals as goal

-- what is put in between two lists stands there
between : {X : Type 0} (xs ys : List X) (x : X) → insert (xs ++ ys) (length xs) x ≡ xs ++ x ∷ ys
between [] ys x = refl
between (z ∷ xs) ys x = ap (λ zs. z ∷ zs) (between xs ys x)

pub add_snapshots-requires-clause-whole : goal.add_snapshots-requires-clause-whole
add_snapshots-requires-clause-whole c s at =
    whole_there _ at.0 s at.1 (sym at.2) (ap (list_any has_float) c.items_at-snapshots.ensures
    ∙ whole_array (view c.args.cvr.now) (codes "CVRSnapshot") c.requires.whole)

pub add_snapshots-requires-clause-range : goal.add_snapshots-requires-clause-range
add_snapshots-requires-clause-range c s at =
    let one = snapshot_of c.args.contests.now in
    let there = subst (λ ds. Contains ds (view s)) c.items_at-snapshots.ensures
    (in_map view s _ at) in
    c.requires.range (one (view s)) (in_map one (view s) _ there)

pub returns : goal.returns
returns c cvrs at were =
    let contests = c.args.contests.now in
    let cvr = cvr_of contests (view c.args.cvr.now) in
    let old = c.args.kept.now.facts.items in
    let one = snapshot_of contests in
    let is = c.in_ok-header.ensures contests in
    let fact = λ (key : RecordName) (d : Data). any.Snapshot (stated_under contests key (one d)) in
    let values = array_at (codes "CVRSnapshot") (view c.args.cvr.now) in
    let snapshots = sym (map-map (fact c.in_ok-header.header.key) view c.items_at-snapshots.result.now)
    ∙ (λ i. map (fact (is i).key) (c.items_at-snapshots.ensures i))
    ∙ sym (map-map (λ s. any.Snapshot (stated_under contests (record_name cvr) s)) one values)
    ∙ sym (map-map any.Snapshot (stated_under contests (record_name cvr)) (map one values)) in
    let now = c.in_ok-insert.ensures.items
    ∙ (λ i. insert (c.in_ok-add_snapshots.ensures i)
    ((c.len-start.ensures ∙ c.args.kept.now.facts.ok.0) i) (c.in_ok-shared.ensures i))
    ∙ (λ i. insert (old ++ snapshots i) (length old) (any.Header (is i)))
    ∙ between old _ (any.Header (stated_header cvr)) in
    record {
      facts = now
          ∙ (λ i. were.facts i ++ sym (append-nil (record_stated contests cvr)) i)
          ∙ sym (flat_map-append (record_stated contests) cvrs (cvr ∷ []));
      count = omega (arith, at, length-append cvrs (cvr ∷ []));
    }
