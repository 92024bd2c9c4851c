use Rattle.std.proofs.Common.{◌≡◌, ◌++◌, sym, ◌∙◌, ap, string_bytes}
use Rattle.std.specs.List.{flat_map, zip}
use Rattle.cdf_parts.specs.Places.{selections_at}
use Rattle.cvr_tally.specs.Contests.{contests_of}
use Rattle.cvr_tally.specs.Text.{selection}
use Rattle.cvr_tally.proofs.ContestAt.{ids_at}
use Rattle.cvr_tally.proofs.Pushes.{after_four}
use Rattle.cvr_tally.proofs.tally.push_row.Goals as goal

pub returns : goal.returns
returns c =
    let contests = c.args.contests.now in
    let place = c.args.key.now.contest in
    let ids : c.as_slice-ids.result.now ≡ selections_at (contests_of contests) place =
    c.as_slice-ids.ensures ∙ sym (ids_at contests place c.index-contests-key.result c.requires) in
    let pairs : zip c.as_slice-ids.result.now c.as_slice.result.now
    ≡ zip (selections_at (contests_of contests) place) c.args.row.now.votes =
    rw (ids, c.as_slice.ensures) in
    after_four _ _ _ _ _ _ _ _ _ c.in_ok-push_key.ensures c.in_ok-push_numbers.ensures
    (c.in_ok-push_selections.ensures
    ∙ ap (λ pairs. string_bytes c.push_numbers.new.text ++ flat_map selection pairs) pairs)
    c.in_ok-push_str.ensures.bytes
