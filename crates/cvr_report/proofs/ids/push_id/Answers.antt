use Rattle.std.proofs.Common.{◌≡◌, ◌++◌, [], ◌∷◌, true, ap, sym, ◌∙◌}
use Rattle.std.specs.List.{list_all}
use Rattle.cvr_report.specs.Unescaped.{is_unescaped_byte}
use Rattle.cvr_report.proofs.Unescaped.{quoted-unescaped}
use Rattle.cvr_report.proofs.ids.push_id.Goals as goal

pub returns : goal.returns
returns c =
    let plain : list_all is_unescaped_byte c.args.id.now ≡ true =
    ap (list_all is_unescaped_byte) (sym c.as_bytes-bytes.ensures.value)
    ∙ sym c.is_unescaped.ensures ∙ c.if-not-is_unescaped.false in
    c.in_ok-extend_from_slice-3.ensures.items
    ∙ ap (λ s. s ++ 34 ∷ []) (c.in_ok-extend_from_slice-2.ensures.items
    ∙ (λ i. c.in_ok-extend_from_slice.ensures.items i ++ c.as_bytes-bytes.ensures.value i))
    ∙ quoted-unescaped c.args.out.now.items c.args.id.now plain
