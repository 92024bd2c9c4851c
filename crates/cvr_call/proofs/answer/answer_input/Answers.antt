-- The `pieces` split into `words` and `files` in one way only, and `status` is the answer to these;
-- with an odd number of file pieces, or a word that is no text, they aren't words and files.
use Rattle.std.proofs.Common.{◌∙◌, ap, inr, map, string_bytes, sym}
use Rattle.std.proofs.lemmas.Result.{err_from_is_err_and}
use Rattle.cvr_call.specs.Given.{files_in}
use Rattle.cvr_call.proofs.Giving.{are_split, bytes_give_none, input_gives, odd_gives_none, shown}
use Rattle.cvr_call.proofs.Giving.{split_files, split_gives, split_words}
use Rattle.cvr_call.proofs.Responding.{answered, done_over}
use Rattle.cvr_call.proofs.answer.answer_input.Goals as goal

pub returns-then-files-ne0-clause-none : goal.returns-then-files-ne0-clause-none
returns-then-files-ne0-clause-none c fault given is =
    let pieces = c.in_ok-pieces.pieces.items in
    let split = are_split pieces c.as_slice.result.now c.in-Some.words.now c.in-Some.files.now
    c.args.words c.as_slice.ensures.value c.in-Some.ensures.cases in
    odd_gives_none pieces c.args.words _ _ given split c.if-files-ne0.true
    (input_gives _ _ pieces _ given c.in_ok-pieces.ensures.only is)

pub returns-in_err-words-clause-none : goal.returns-in_err-words-clause-none
returns-in_err-words-clause-none c =
    let pieces = c.in_ok-pieces.pieces.items in
    let split = are_split pieces c.as_slice.result.now c.in-Some.words.now c.in-Some.files.now
    c.args.words c.as_slice.ensures.value c.in-Some.ensures.cases in
    let p = err_from_is_err_and c.from_residual-in_err-words.result
    c.from_residual-in_err-words.ensures.1 in
    rw (p.1, p.2) (λ fault given is. bytes_give_none pieces c.args.words _ _ given split
    (c.in_err-words.ensures.none fault)
    (input_gives _ _ pieces _ given c.in_ok-pieces.ensures.only is))

pub returns-clause-answered : goal.returns-clause-answered
returns-clause-answered c given is =
    let pieces = c.in_ok-pieces.pieces.items in
    let split = are_split pieces c.as_slice.result.now c.in-Some.words.now c.in-Some.files.now
    c.args.words c.as_slice.ensures.value c.in-Some.ensures.cases in
    let gives = input_gives _ _ pieces _ given c.in_ok-pieces.ensures.only is in
    let words = split_words pieces _ c.in-Some.words.now c.in-Some.files.now given split gives in
    let files = split_files pieces _ c.in-Some.words.now c.in-Some.files.now given split gives in
    answered given c.answer-status.result c.answer-status.new.out.taken
    c.answer-status.new.log.taken c.answer-status.new.out.has_failed
    c.answer-status.new.log.has_failed (sym c.failed.ensures ∙ c.if-failed.false)
    (sym c.failed-else-failed.ensures ∙ c.if-failed-2.false) (done_over given (map string_bytes c.as_slice-2.result.now)
    (files_in (shown c.in_ok-files.files.pieces.now))
    (files_in (shown c.answer-status.new.files.pieces.now))
    c.answer-status.result c.args.out.now c.args.log.now c.answer-status.new.out
    c.answer-status.new.log
    (ap (map string_bytes) c.as_slice-2.ensures.value ∙ (c.in_ok-words.ensures.words ∙ words))
    (ap (λ fs. files_in (shown fs)) c.in_ok-files.ensures ∙ files)
    (record { taken = c.requires.empty; working = c.requires.working })
    (record { taken = c.requires.log_empty; working = c.requires.log_working })
    c.answer-status.ensures)

pub returns-then-failed-clause-so_far : goal.returns-then-failed-clause-so_far
returns-then-failed-clause-so_far c fault given is =
    let pieces = c.in_ok-pieces.pieces.items in
    let split = are_split pieces c.as_slice.result.now c.in-Some.words.now c.in-Some.files.now
    c.args.words c.as_slice.ensures.value c.in-Some.ensures.cases in
    let gives = input_gives _ _ pieces _ given c.in_ok-pieces.ensures.only is in
    let words = split_words pieces _ c.in-Some.words.now c.in-Some.files.now given split gives in
    let files = split_files pieces _ c.in-Some.words.now c.in-Some.files.now given split gives in
    inr (record {
      status = c.answer-status.result;
      text_failed = c.answer-status.new.out.has_failed;
      log_failed = c.answer-status.new.log.has_failed;
      did = done_over given (map string_bytes c.as_slice-2.result.now)
          (files_in (shown c.in_ok-files.files.pieces.now))
          (files_in (shown c.answer-status.new.files.pieces.now))
          c.answer-status.result c.args.out.now c.args.log.now c.answer-status.new.out
          c.answer-status.new.log
          (ap (map string_bytes) c.as_slice-2.ensures.value ∙ (c.in_ok-words.ensures.words ∙ words))
          (ap (λ fs. files_in (shown fs)) c.in_ok-files.ensures ∙ files)
          (record { taken = c.requires.empty; working = c.requires.working })
          (record { taken = c.requires.log_empty; working = c.requires.log_working })
          c.answer-status.ensures;
    })

pub returns-clause-some : goal.returns-clause-some
returns-clause-some c =
    let pieces = c.in_ok-pieces.pieces.items in
    let split = are_split pieces c.as_slice.result.now c.in-Some.words.now c.in-Some.files.now
    c.args.words c.as_slice.ensures.value c.in-Some.ensures.cases in (
      record { words = shown c.in-Some.words.now; files = files_in (shown c.in-Some.files.now) },
      record {
        pieces = shown pieces;
        cut = c.in_ok-pieces.ensures.cut;
        gives = split_gives pieces _ _ _ split c.if-files-ne0.false c.in_ok-words.ensures.texts;
      },
    )
