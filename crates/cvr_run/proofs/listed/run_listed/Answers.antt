-- With the `paths` of the list the request is complete, and its run (`status`) is the answer; what
-- the opener says of each path stays once the list is read. Without a list, no run is whole.
use Rattle.std.proofs.Common.{◌≡◌, [], ◌∷◌, ℕ, List, inl, refl, subst, sym}
use Rattle.cvr_words.specs.declared.request.Request.{Request}
use Rattle.cvr_run.specs.Answered.{Does}
use Rattle.cvr_run.specs.Devices.{Devices}
use Rattle.cvr_run.specs.Ends.{Ran}
use Rattle.cvr_run.specs.Listed.{HasNoList, ListedRequest}
use Rattle.cvr_run.specs.Opening.{AreAt}
use Rattle.cvr_run.specs.Logged.{LogsSome}
use Rattle.cvr_run.proofs.Happenings.{noted}
use Rattle.cvr_run.proofs.ListWords.{listed_done, no_list_ends, request_known}
use Rattle.cvr_run.proofs.Opened.{opens_same}
use Rattle.cvr_run.proofs.listed.run_listed.Goals as goal

pub returns-in-Ok : goal.returns-in-Ok
returns-in-Ok g c =
    let old = g.O.Open.state c.args.opener.now in
    let between = g.O.Open.state c.paths_at.new.opener in
    let new : Devices = record {
      opener = g.O.Open.state c.run_request-status.new.opener;
      out = g.W.Sink.taken c.run_request-status.new.out;
      log = g.L.Sink.taken c.run_request-status.new.log;
    } in
    let before = g.W.Sink.taken c.args.out.now in
    let b = g.L.Sink.taken c.args.log.now in
    let unchanged = c.run_request-status.new.out ≡ c.args.out.now in
    let answer = c.run_request-status.result in
    let asked : ListedRequest =
    record { request = c.args.request; list = c.args.list.now; by_null = c.args.by_null } in
    let request : Request =
    record { task = c.args.request.task; def = c.args.request.def; paths = c.in-Ok.paths } in
    let place = c.place_of.result.now in
    let found = c.in-Ok.ensures in
    let is_logged = c.run_request-status.ensures in
    record {
      does = listed_done asked answer (record { opener = old; out = before; log = b }) new unchanged
          place c.in-Ok.paths between c.place_of.ensures found.paths found.opens
          (subst (λ l. Does request answer
          (record { opener = between; out = before; log = g.L.Sink.taken l }) new unchanged)
          found.quiet is_logged.does);
      given = λ job lists whole.
          let there = subst (λ at. AreAt at (job.request.def ∷ job.request.paths)
          (job.def ∷ job.files)) (sym (opens_same old between (place ∷ []) found.opens).at)
          lists.there in
          subst (λ l. Ran job answer (record { out = before; log = g.L.Sink.taken l })
          (record { out = new.out; log = new.log })) found.quiet
          (is_logged.given job (request_known old.at asked job place c.in-Ok.paths c.place_of.ensures
          found.paths lists) there whole);
      happened = λ job lists whole.
          let there = subst (λ at. AreAt at (job.request.def ∷ job.request.paths)
          (job.def ∷ job.files)) (sym (opens_same old between (place ∷ []) found.opens).at)
          lists.there in
          let is = request_known old.at asked job place c.in-Ok.paths c.place_of.ensures found.paths
          lists in
          noted job c.run_request-status.new.happened _ request is refl refl refl refl
          (is_logged.happened job is there whole);
    }

pub returns : goal.returns
returns g c =
    let old = g.O.Open.state c.args.opener.now in
    let new = g.O.Open.state c.paths_at.new.opener in
    let b = g.L.Sink.taken c.args.log.now in
    let a = g.L.Sink.taken c.paths_at.new.log in
    let none = c.in-Err.ensures.none in
    record {
      does = inl (
        refl,
        subst (λ (p : List ℕ). LogsSome (HasNoList old new p c.in-Err.status) b a)
            c.place_of.ensures none,
      );
      given = λ job lists whole. absurd
          (no_list_ends old new c.place_of.result.now c.in-Err.status b a none whole);
      happened = λ job lists whole. absurd
          (no_list_ends old new c.place_of.result.now c.in-Err.status b a none whole);
    }
