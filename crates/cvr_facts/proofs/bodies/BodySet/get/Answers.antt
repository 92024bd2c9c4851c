use Rattle.std.proofs.Common.{◌≡◌, ◌<◌, ℕ, List, [], length, arith, sym, ap, ◌∙◌, slice_index_or}
use Rattle.std.specs.FinSet as set
use Rattle.std.proofs.lemmas.List.{get_or_default}
use Rattle.cvr_facts.specs.Sets.{texts_in}
use Rattle.cvr_facts.specs.Unions.{text_total, text_exact}
use Rattle.cvr_facts.proofs.Ordered.{keys_in_order-from_list}
use Rattle.cvr_facts.proofs.Sorted.{len-from_list}
use Rattle.cvr_facts.proofs.bodies.BodySet.get.Goals as goal

pub index-requires : goal.index-requires
index-requires c = omega (
  arith,
  ap set.len c.self.view_is,
  len-from_list text_total
      c.self.inside.items.items c.self.invariant,
)

pub returns : goal.returns
returns c =
    let xs = c.self.inside.items.items in
    let order : texts_in c.args.self.now ≡ xs = ap texts_in (sym c.self.view_is)
    ∙ keys_in_order-from_list text_total text_exact xs c.self.invariant in
    let within : c.args.place < length xs =
    omega (arith, ap set.len c.self.view_is, len-from_list text_total xs c.self.invariant) in
    c.index.ensures ∙ (get_or_default xs c.args.place c.index.result.now [] within
    ∙ ap (λ (ys : List (List ℕ)). slice_index_or ys c.args.place []) (sym order))
