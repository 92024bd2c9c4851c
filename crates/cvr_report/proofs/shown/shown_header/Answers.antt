use Rattle.std.proofs.Common.{◌<◌, ◌-◌, length, get_or, sym, ap, ◌∙◌, arith}
use Rattle.std.proofs.lemmas.List.{get_or-map, length-map}
use Rattle.cvr_report.proofs.Picking.{shown_map}
use Rattle.cvr_report.proofs.shown.shown_header.Goals as goal

pub returns-clause-body : goal.returns-clause-body
returns-clause-body c =
    ap (λ h. h.now.body) (c.index-headers-min.is
    ∙ ap (λ n. get_or c.args.headers.now (n - 1) c.index-headers-min.result) c.min.ensures)
    ∙ sym (shown_map (λ h. h.now.body) c.args.i c.args.headers.now c.index-headers-min.result
    c.requires.number c.requires.some)

pub returns-clause-listed : goal.returns-clause-listed
returns-clause-listed c =
    let lt : c.min.result - 1 < length c.args.headers.now =
    omega (arith, c.min.ensures, c.requires.number, c.requires.some) in (
      c.min.result - 1,
      omega (arith, lt, length-map c.args.headers.now (λ h. h.now)),
      get_or-map (λ h. h.now) c.args.headers.now (c.min.result - 1) c.index-headers-min.result
          c.index-headers-min.result.now lt ∙ ap (λ h. h.now) (sym c.index-headers-min.is),
    )
