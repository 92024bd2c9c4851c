use Rattle.std.proofs.lemmas.Result.{on_ok_weaker}
use Rattle.cdf_node.specs.View.{view}
use Rattle.cdf_check.specs.Within.{named_device, named_parties, named_unit}
use Rattle.cdf_check.proofs.NamedTexts.{named_more}
use Rattle.cdf_check.proofs.record_names.RecordNames.add.Goals as goal

pub returns : goal.returns
returns c =
    let d = view c.args.cvr.now in
    on_ok_weaker c.add_items.result (λ parties ds h. record {
      devices = named_more named_device ds d _ _ h.devices
          (rw c.text_in.ensures at c.in_ok-add_any.ensures);
      units = named_more named_unit ds d _ _ h.units
          (rw c.text_in-2.ensures at c.in_ok-add_any-2.ensures);
      parties = named_more named_parties ds d _ _ h.parties parties;
    }) (rw c.items_at.ensures at c.add_items.ensures)
