use Rattle.std.proofs.Common.{◌++◌, sym, ◌∙◌, ap, string_bytes}
use Rattle.json.specs.Print.{quoted}
use Rattle.cvr_tally.proofs.ContestAt.{id_at}
use Rattle.cvr_tally.proofs.Pushes.{after_three}
use Rattle.cvr_tally.proofs.tally.push_key.Goals as goal

pub returns : goal.returns
returns c =
    let id = c.as_str.ensures ∙ sym (id_at c.args.contests.now c.args.key.now.contest
    c.index-contests-key.result c.requires) in
    after_three _ _ _ _ _ _ _ (c.in_ok-push_str.ensures.bytes
    ∙ ap (λ word. string_bytes c.args.text.now ++ word)
    (c.as_str-2.ensures.value ∙ (c.in_ok-quoted.ensures ∙ ap quoted id)))
    c.in_ok-push_part.ensures c.in_ok-push_part-2.ensures
