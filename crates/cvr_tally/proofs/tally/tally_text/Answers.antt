-- From `key` to key, `text` and the lines of the rows to come are the whole text; the contest of
-- each row is one of `contests`, as `push_row` needs.
use Rattle.std.proofs.Common.{◌≡◌, ◌<◌, ◌++◌, length, sym, ◌∙◌, ap, subst, append-nil, string_bytes}
use Rattle.std.proofs.lemmas.List.{length-map}
use Rattle.std.proofs.lemmas.Map.Iter.{rest_more, rest_all}
use Rattle.std.specs.FinMap.{entries}
use Rattle.std.specs.List.{AllByRecursion, flat_map}
use Rattle.std.specs.Map.Iter.{deref_pair}
use Rattle.cvr_tally.specs.declared.key.RowKey.{RowKey}
use Rattle.cvr_tally.specs.declared.row.Row.{Row}
use Rattle.cvr_tally.specs.Contests.{contests_of}
use Rattle.cvr_tally.specs.Text.{row_line}
use Rattle.cvr_tally.proofs.EachKey.{each_of}
use Rattle.cvr_tally.proofs.Pushes.{more_pushed}
use Rattle.cvr_tally.proofs.tally.tally_text.Goals as goal

pub loop-key-init : goal.loop-key-init
loop-key-init c =
    let totals = c.args.totals.now in
    let contests = c.contests-contests.result.now in
    let is : c.into_iter-key-iterator.result ≡ entries totals.rows =
    c.into_iter-key-iterator.ensures.into_iter_gives ∙ c.rows-key-items.ensures.rest in
    let ids = c.contests-contests.ensures.ids in
    let long : length totals.contests ≡ length contests =
    ap length (sym ids) ∙ length-map contests (λ c. (c.id, c.selections)) in
    record {
      text = ap (λ text. text ++ flat_map (row_line (contests_of contests))
          c.into_iter-key-iterator.result) c.new-text.ensures.bytes
          ∙ (ap (flat_map (row_line (contests_of contests))) is
          ∙ ap (λ cs. flat_map (row_line cs) (entries totals.rows)) ids);
      within = subst (AllByRecursion (λ (e : RowKey × Row). e.0.contest < length contests)) (sym is)
          (each_of totals _ c.contests-contests.ensures.rows long);
    }

pub push_row-requires : goal.push_row-requires
push_row-requires c =
    let rest = rest_more deref_pair c.loop-key.key-iterator c.next.new.self c.next.result _
    c.in-Some.is c.next.ensures.steps in
    (subst (AllByRecursion (λ (e : RowKey × Row). e.0.contest
    < length c.contests-contests.result.now)) rest c.loop-key.invariant.within).0

pub loop-key-preserved : goal.loop-key-preserved
loop-key-preserved c =
    let rest = rest_more deref_pair c.loop-key.key-iterator c.next.new.self c.next.result _
    c.in-Some.is c.next.ensures.steps in
    let lines = flat_map (row_line (contests_of c.contests-contests.result.now)) in
    record {
      text = more_pushed _ _ _ _ _ c.in_ok-push_row.ensures
          (ap (λ es. string_bytes c.loop-key.text ++ lines es) (sym rest)
          ∙ c.loop-key.invariant.text);
      within = (subst (AllByRecursion (λ (e : RowKey × Row). e.0.contest
          < length c.contests-contests.result.now)) rest c.loop-key.invariant.within).1;
    }

pub returns : goal.returns
returns c =
    let rest = rest_all deref_pair c.loop-key.key-iterator c.next.new.self c.next.result
    c.in-None.is c.next.ensures.steps in
    sym (append-nil _) ∙ (ap (λ es. string_bytes c.loop-key.text
    ++ flat_map (row_line (contests_of c.contests-contests.result.now)) es) (sym rest)
    ∙ c.loop-key.invariant.text)
