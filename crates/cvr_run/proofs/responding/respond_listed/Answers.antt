-- The `request` that words ask for with a list is the only one, and they ask for no other job, so
-- `run_listed` answers them; if there is none, `work` does. In the third case, memory ran out.
use Rattle.std.proofs.Common.{◌≡◌, inl, inr, map, string_bytes, refl, subst}
use Rattle.cvr_words.specs.declared.fault.LoggedFault.TheVariants.{Memory}
use Rattle.cvr_run.specs.Devices.{Devices}
use Rattle.cvr_run.specs.Listed.{AnswersListed, ListedRequest}
use Rattle.cvr_run.proofs.CodeWords.{neither}
use Rattle.cvr_run.proofs.Known.{not_whole}
use Rattle.cvr_run.proofs.ListWords.{given_lists, one_listed, only_paths}
use Rattle.cvr_run.proofs.Opened.{opens_none}
use Rattle.cvr_run.proofs.SaysTheSame.{does_listed_same}
use Rattle.cvr_run.proofs.Unasked.{not_command_line, quiet_told}
use Rattle.cvr_run.proofs.Works.{works_alone}
use Rattle.cvr_run.proofs.responding.respond_listed.Goals as goal

pub returns-in-Ok-Some : goal.returns-in-Ok-Some
returns-in-Ok-Some g c =
    let words = map string_bytes c.args.words.now in
    let old : Devices = record {
      opener = g.O.Open.state c.args.opener.now;
      out = g.W.Sink.taken c.args.out.now;
      log = g.L.Sink.taken c.args.log.now;
    } in
    let new : Devices = record {
      opener = g.O.Open.state c.run_listed.new.opener;
      out = g.W.Sink.taken c.run_listed.new.out;
      log = g.L.Sink.taken c.run_listed.new.log;
    } in
    let unchanged = c.run_listed.new.out ≡ c.args.out.now in
    let asked : ListedRequest = record {
      request = c.in-Ok-Some.request;
      list = c.args.listing.now.list.now;
      by_null = c.args.listing.now.by_null;
    } in
    let asks = rw c.in-Ok-Some.field-0-is at c.in-Ok-Some.ensures.some in
    let is_logged = c.run_listed.ensures in
    record {
      responds = record {
        version = λ asks. absurd (c.requires.no_version asks);
        explains = λ asked asks. absurd (c.requires.no_code asked asks);
        unopened = neither words c.requires.no_version c.requires.no_code;
        listed = λ other also. subst (λ (l : ListedRequest).
            AnswersListed l c.run_listed.result old new unchanged)
            (one_listed words asked other asks also) (inr is_logged.does);
        works = λ _ _ none. absurd (none asked asks);
        given = λ job given whole. is_logged.given job
            (given_lists old.opener.at words asked job asks given) whole;
        asked = λ r is. absurd (asks.free r is);
        says = does_listed_same asked c.run_listed.result old new unchanged is_logged.does;
      };
      happened = λ job given whole. is_logged.happened job
          (given_lists old.opener.at words asked job asks given) whole;
    }

pub returns-in-Ok-None : goal.returns-in-Ok-None
returns-in-Ok-None g c =
    let words = map string_bytes c.args.words.now in
    let none = rw c.in-Ok-None.field-0-is at c.in-Ok-None.ensures.none in
    record {
      responds = works_alone words _ _ _ _ c.requires.no_version c.requires.no_code none
          c.work.ensures.works;
      happened = λ job given. c.work.ensures.happened job
          (only_paths (g.O.Open.state c.args.opener.now).at words job none given);
    }

pub returns : goal.returns
returns g c =
    let words = map string_bytes c.args.words.now in
    let unchanged = c.args.out.now ≡ c.args.out.now in
    let answer = c.end_in_memory.result in
    let is = c.end_in_memory.ensures.status in
    let unopened = opens_none (g.O.Open.state c.args.opener.now) in
    let tells = quiet_told unchanged Memory Memory answer (g.W.Sink.taken c.args.out.now)
    (g.L.Sink.taken c.args.log.now) (g.L.Sink.taken c.end_in_memory.new.log) refl is refl refl
    c.end_in_memory.ensures.log in
    record {
      responds = record {
        version = λ asks. absurd (c.requires.no_version asks);
        explains = λ asked asks. absurd (c.requires.no_code asked asks);
        unopened = neither words c.requires.no_version c.requires.no_code;
        listed = λ asked asks. inl (unopened, tells);
        works = λ _ _ none. inr (Memory, tt, unopened, tells);
        given = λ job given whole. absurd (not_whole answer (inr is) whole);
        asked = λ r asks. not_command_line answer is;
        says = record { at = refl; may_fail = refl };
      };
      happened = λ job given whole. absurd (not_whole answer (inr is) whole);
    }
