-- For each way to have no paths, the log has its line: the list at `path` wasn't read, its paths
-- found no room, or it is no list. The opener opened the list alone.
use Rattle.std.proofs.Common.{◌≡◌, ◌∷◌, [], inl, inr, refl, subst}
use Rattle.cvr_run.specs.Listed.{HasNoList, IsList, bad_list_line}
use Rattle.cvr_run.specs.Log.{Logs, memory_line}
use Rattle.cvr_run.specs.Logged.{LogsSome}
use Rattle.cvr_run.specs.Worked.{NoRoom, unread_line, unread_status}
use Rattle.cvr_run.proofs.Opened.{at_err, stops_first}
use Rattle.cvr_run.proofs.listed.paths_at.Goals as goal

pub returns-in_err-read_logged-clause-none : goal.returns-in_err-read_logged-clause-none
returns-in_err-read_logged-clause-none g c =
    let old = g.O.Open.state c.args.opener.now in
    let new = g.O.Open.state c.read_logged.new.opener in
    let path = c.args.path.now in
    let b = g.L.Sink.taken c.args.log.now in
    let a = g.L.Sink.taken c.read_logged.new.log in
    let cause = c.in_err-read_logged.field-0.0 in
    let is_logged = c.in_err-read_logged.ensures in
    at_err c.from_residual.result (λ s. s ≡ unread_status cause)
    (λ s. LogsSome (HasNoList old new path s) b a)
    c.from_residual.ensures.1
    (λ s is. (
      unread_line path cause,
      inl
          (stops_first old new [] s path cause is_logged.device is_logged.absent is_logged.opens is),
      is_logged.is_logged,
    ))

pub returns-in-Some-clause-none : goal.returns-in-Some-clause-none
returns-in-Some-clause-none g c =
    let a = g.L.Sink.taken c.say_memory.new.log in (
      memory_line,
      inl (record {
        stop = NoRoom;
        possible = record {
          before = [];
          path = c.args.path.now;
          after = [];
          split = refl;
          files = c.read_logged.new.bytes.items ∷ [];
          read = (c.in_ok-read_logged.ensures.bytes, tt);
          opened = c.in_ok-read_logged.ensures.opens;
        };
        status = refl;
        said = refl;
      }),
      subst (λ l. Logs (g.L.Sink.taken l) a memory_line) c.in_ok-read_logged.ensures.quiet
          c.say_memory.ensures,
    )

pub returns-clause-none : goal.returns-clause-none
returns-clause-none g c =
    let path = c.args.path.now in
    let a = g.L.Sink.taken c.log_bad_list.new.log in (
      bad_list_line path,
      inr (record {
        text = c.read_logged.new.bytes.items;
        read = c.in_ok-read_logged.ensures.bytes;
        bad = subst (λ bytes. ¬ IsList bytes) c.as_slice.ensures.value c.in-None.ensures.none;
        opened = c.in_ok-read_logged.ensures.opens;
        status = refl;
        said = refl;
      }),
      subst (λ l. Logs (g.L.Sink.taken l) a (bad_list_line path)) c.in_ok-read_logged.ensures.quiet
          c.log_bad_list.ensures,
    )
