-- Words ask for at most one of the version, what a code means (`asked`) and a job; where they have
-- no list, what `work` ensures of those left is all that is due.
use Rattle.std.proofs.Common.{map, string_bytes, refl}
use Rattle.cvr_run.proofs.CodeWords.{code_asks_none, not_both, one_asked}
use Rattle.cvr_run.proofs.ListWords.{code_alone, code_gives_none, few_alone, few_give_none}
use Rattle.cvr_run.proofs.ListWords.{none_listed, only_paths, version_few}
use Rattle.cvr_run.proofs.Opened.{opens_none}
use Rattle.cvr_run.proofs.VersionWords.{version_asks_none}
use Rattle.cvr_run.proofs.Works.{works_alone}
use Rattle.cvr_run.proofs.responding.respond.Goals as goal

pub returns-then-asks_version : goal.returns-then-asks_version
returns-then-asks_version g c =
    let words = map string_bytes c.args.words.now in
    let asks = c.asks_version.ensures.yes c.if-asks_version.true in
    let none = few_give_none (g.O.Open.state c.args.opener.now).at words in
    record {
      responds = record {
        version = λ _. c.print_version.ensures;
        explains = λ asked also. absurd (not_both words asks asked also);
        listed = λ asked also. absurd (few_alone words (version_few words asks) asked also);
        works = λ no _ _. absurd (no asks);
        given = λ job given _. absurd
            (none job (version_few words asks) (version_asks_none words asks) given);
        asked = λ request also. absurd (version_asks_none words asks request also);
        says = record { at = refl; may_fail = refl };
        unopened = λ _. opens_none _;
      };
      happened = λ job given _. absurd
          (none job (version_few words asks) (version_asks_none words asks) given);
    }

pub returns-in-Some : goal.returns-in-Some
returns-in-Some g c =
    let words = map string_bytes c.args.words.now in
    let code = map string_bytes c.in-Some.asked.now in
    let asks = c.in-Some.ensures.some in
    let none = code_gives_none (g.O.Open.state c.args.opener.now).at words code in
    record {
      responds = record {
        version = λ also. absurd (not_both words also code asks);
        explains = λ asked also. rw (one_asked words asked code also asks) c.explain.ensures;
        listed = λ asked also. absurd (code_alone words code asks asked also);
        works = λ _ no _. absurd (no code asks);
        given = λ job given _. absurd (none job asks given);
        asked = λ request also. absurd (code_asks_none words code asks request also);
        says = record { at = refl; may_fail = refl };
        unopened = λ _. opens_none _;
      };
      happened = λ job given _. absurd (none job asks given);
    }

pub returns-in-None-listing_of : goal.returns-in-None-listing_of
returns-in-None-listing_of g c =
    let words = map string_bytes c.args.words.now in
    let none = none_listed words c.in-None-listing_of.ensures.none in
    record {
      responds = works_alone words _ _ _ _ (c.asks_version.ensures.no c.if-asks_version.false)
          c.in-None.ensures.none none c.work.ensures.works;
      happened = λ job given. c.work.ensures.happened job
          (only_paths (g.O.Open.state c.args.opener.now).at words job none given);
    }
