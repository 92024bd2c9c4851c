-- Words that are a request by themselves ask for none with a list. Of others, those before the list
-- have one `request` at most, and it counts if it takes files and names none.
use Rattle.std.proofs.Common.{true≢false, ap, map, string_bytes, sym, ◌∙◌}
use Rattle.std.proofs.lemmas.Option.{IfSome_then}
use Rattle.cvr_words.specs.Line.{with_program}
use Rattle.cvr_words.proofs.Laws.{one_request}
use Rattle.cvr_words.specs.Request.{takes_files}
use Rattle.cvr_run.proofs.ListWords.{asked_before, none_has}
use Rattle.cvr_run.proofs.listed_request.listed_request.Goals as goal

pub returns-then-branch-clause-none : goal.returns-then-branch-clause-none
returns-then-branch-clause-none c asked asks =
    let there = c.in_ok-is_request.ensures.is.0 c.if-branch.true in asks.free there.0 there.1

pub returns-in-Some-clause-some : goal.returns-in-Some-clause-some
returns-in-Some-clause-some c =
    IfSome_then c.with_list.result c.with_list.ensures.some (λ request given. record {
      before = map string_bytes c.args.listing.now.before.now;
      short = c.requires.short;
      split = c.requires.words;
      free = λ other is. true≢false (sym (c.in_ok-is_request.ensures.is.1 (other, is))
          ∙ c.if-branch.false);
      request = rw (given.0) (rw c.in-Some.is at c.in_ok-request.ensures.some);
      files = rw (given.0) given.1;
      none = rw (given.0) given.2;
    })

pub returns-in-Some-clause-none : goal.returns-in-Some-clause-none
returns-in-Some-clause-none c =
    none_has c.with_list.result _ _ (λ none asked asks.
    let words = map string_bytes c.args.words.now in
    let before = map string_bytes c.args.listing.now.before.now in
    let listing = c.args.listing.now in
    let found = rw c.in-Some.is at c.in_ok-request.ensures.some in
    let here = asked_before words before listing.list.now listing.by_null asked c.requires.short
    c.requires.words asks in
    let same = one_request (with_program before) c.in-Some.request asked.request found here in
    none (ap (λ r. takes_files r.task) same ∙ asks.files) (ap (λ r. r.paths) same ∙ asks.none))
    c.with_list.ensures.none

pub returns-in-None-clause-none : goal.returns-in-None-clause-none
returns-in-None-clause-none c asked asks =
    let words = map string_bytes c.args.words.now in
    let before = map string_bytes c.args.listing.now.before.now in
    let listing = c.args.listing.now in
    let none = rw c.in-None.is at c.in_ok-request.ensures.none in
    none asked.request (asked_before words before listing.list.now listing.by_null asked
    c.requires.short c.requires.words asks)
