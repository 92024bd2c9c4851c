-- Words ask for one `request` at most, so its run (`status`) is the answer to whatever job they
-- give; words with a `fault` are answered by that alone, and give no job, if memory lasted.
use Rattle.std.proofs.Common.{inl, inr, map, string_bytes, refl}
use Rattle.cvr_words.specs.Line.{with_program}
use Rattle.cvr_words.proofs.Laws.{one_request}
use Rattle.cvr_run.proofs.Unasked.{told_memory, not_asked, not_command_line}
use Rattle.cvr_run.proofs.Happenings.{noted}
use Rattle.cvr_run.proofs.Opened.{opens_none}
use Rattle.cvr_run.proofs.SaysTheSame.{does_same}
use Rattle.cvr_run.proofs.answering.work.Goals as goal

pub returns-in-Ok : goal.returns-in-Ok
returns-in-Ok g c =
    let words = with_program (map string_bytes c.args.words.now) in
    let asked = c.in-Ok.ensures.request in
    let is_logged = c.run_request-status.ensures in
    record {
      works = record {
        answers = inl (c.in-Ok.request, asked, is_logged.does);
        given = λ job given whole. is_logged.given job
            (one_request words job.request c.in-Ok.request given.asked asked) given.there whole;
        asked = λ r is. is_logged.no_words;
        says = does_same _ _ _ _ _ is_logged.does;
      };
      happened = λ job given whole.
          let is = one_request words job.request c.in-Ok.request given.asked asked in
          noted job c.run_request-status.new.happened _ c.in-Ok.request is refl refl refl refl
          (is_logged.happened job is given.there whole);
    }

pub returns-in-Err : goal.returns-in-Err
returns-in-Err g c =
    let words = with_program (map string_bytes c.args.words.now) in
    let fault = c.in-Err.fault in
    let is = c.in-Err.ensures.fault in
    let is_logged = c.answer_fault.ensures in
    let answer = c.answer_fault.result in
    let failed = (g.W.Sink.taken c.answer_fault.new.out).failed in
    record {
      works = record {
        answers = inr (fault, is, opens_none (g.O.Open.state c.args.opener.now), is_logged);
        given = λ job given whole. absurd
            (not_asked words job.request fault answer failed given.asked is is_logged.status whole);
        asked = λ r asks. not_command_line answer
            (told_memory words r fault answer failed asks is is_logged.status);
        says = record { at = refl; may_fail = refl };
      };
      happened = λ job given whole. absurd
          (not_asked words job.request fault answer failed given.asked is is_logged.status whole);
    }
