-- The definition (`def`) is what was read at its path, and files are opened after it, so a run or a
-- stop behind it is the request's own; where it isn't read, its `fault` makes the status.
use Rattle.std.proofs.Common.{◌≡◌, ◌∷◌, [], inl, inr, refl, sym, subst}
use Rattle.cvr_run.specs.Answered.{Does}
use Rattle.cvr_run.specs.Devices.{Devices}
use Rattle.cvr_run.specs.Log.{Logs}
use Rattle.cvr_run.specs.Opening.{AreRead, IsRead, Opens}
use Rattle.cvr_run.specs.Worked.{unread_line, Runs, Stops}
use Rattle.cvr_run.proofs.Happenings.{happens_known}
use Rattle.cvr_run.proofs.Known.{done_by_words, done_known, not_whole, unread_answer}
use Rattle.cvr_run.proofs.Opened.{opens_both, opens_same, stops_first}
use Rattle.cvr_run.proofs.working.run_request.Goals as goal

pub returns-in-Ok : goal.returns-in-Ok
returns-in-Ok g c =
    let request = c.args.request.now in
    let answer = c.run_behind.result in
    let old : Devices = record {
      opener = g.O.Open.state c.args.opener.now;
      out = g.W.Sink.taken c.args.out.now;
      log = g.L.Sink.taken c.args.log.now;
    } in
    let between = g.O.Open.state c.read_logged.new.opener in
    let new : Devices = record {
      opener = g.O.Open.state c.run_behind.new.opener;
      out = g.W.Sink.taken c.run_behind.new.out;
      log = g.L.Sink.taken c.run_behind.new.log;
    } in
    let unchanged = c.run_behind.new.out ≡ c.args.out.now in
    let def = c.as_slice-def.result.now in
    let path = c.as_str.result.now in
    let is_logged = c.in-Ok.ensures in
    let read : IsRead (old.opener.at request.def) def =
    subst (λ p. IsRead (old.opener.at p) def) c.as_str.ensures
    (subst (IsRead (old.opener.at path)) (sym c.as_slice-def.ensures.value) is_logged.bytes) in
    let opened : Opens old.opener between (request.def ∷ []) =
    subst (λ p. Opens old.opener between (p ∷ [])) c.as_str.ensures is_logged.opens in
    let quiet : c.read_logged.new.log ≡ c.args.log.now = c.in-Ok.ensures.quiet in
    let does : Does request answer old new unchanged = elim c.run_behind.ensures.ran [
      | inl stops ↦ inl (
        stops.0,
        (
          stops.1.0,
          stops.1.1 old.opener request.def def read opened,
          subst (λ l. Logs (g.L.Sink.taken l) new.log stops.1.0) quiet stops.1.2,
        ),
      )
      | inr had ↦ inr (subst (λ l. Runs request answer (record
          { opener = old.opener; out = old.out; log = g.L.Sink.taken l }) new) quiet (record {
            def = def;
            files = had.0;
            read = (
              read,
              subst (λ at. AreRead at request.paths had.0)
                  (opens_same old.opener between (request.def ∷ []) opened).at had.1.0,
            );
            opened = opens_both old.opener between new.opener (request.def ∷ []) request.paths opened
                had.1.1;
            ran = had.2;
          }))
    ] in
    record {
      does = does;
      given = done_known request answer old new unchanged does;
      happened = λ job is there whole.
          let had = c.run_behind.ensures.happened whole in
          happens_known old.opener.at request def had.0 c.run_behind.new.happened (
            read,
            subst (λ at. AreRead at request.paths had.0)
                (opens_same old.opener between (request.def ∷ []) opened).at had.1.0,
          ) had.2 job is there;
      no_words = done_by_words request answer old new unchanged does;
    }

pub returns : goal.returns
returns g c =
    let request = c.args.request.now in
    let answer = c.from.result in
    let old : Devices = record {
      opener = g.O.Open.state c.args.opener.now;
      out = g.W.Sink.taken c.args.out.now;
      log = g.L.Sink.taken c.args.log.now;
    } in
    let new : Devices = record {
      opener = g.O.Open.state c.read_logged.new.opener;
      out = old.out;
      log = g.L.Sink.taken c.read_logged.new.log;
    } in
    let unchanged = c.args.out.now ≡ c.args.out.now in
    let path = c.as_str.result.now in
    let cause = c.in-Err.fault in
    let is_logged = c.in-Err.ensures in
    let does : Does request answer old new unchanged = inl (
      refl,
      (
        unread_line path cause,
        subst (λ p. Stops old.opener new.opener (p ∷ request.paths) answer (unread_line path cause))
            c.as_str.ensures (stops_first old.opener new.opener request.paths answer path cause
            is_logged.device is_logged.absent is_logged.opens c.from.ensures),
        is_logged.is_logged,
      ),
    ) in
    record {
      does = does;
      given = done_known request answer old new unchanged does;
      happened = λ job is there whole. absurd (not_whole answer (unread_answer cause answer c.from.ensures) whole);
      no_words = done_by_words request answer old new unchanged does;
    }
