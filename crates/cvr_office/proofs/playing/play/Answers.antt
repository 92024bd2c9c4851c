-- After each `event` the offices hold what the history with these `outcomes` leaves, and the
-- `outcome` fits what they held; new offices of one definition that got the same files are alike.
use Rattle.std.proofs.Common.{◌≡◌, ◌<◌, ◌∙◌, ◌+◌, ◌∷◌, ℕ, List, [], ap, sym, subst, refl, length}
use Rattle.std.proofs.Common.{map, get_or, take, arith}
use Rattle.std.proofs.lemmas.List.{length-map, length-append, take_all}
use Rattle.std.specs.FinSet.{empty}
use Rattle.cvr_office.specs.Reach.{content, history}
use Rattle.cvr_office.specs.Outcomes.{AreOutcomes, IsOutcome}
use Rattle.cvr_office.specs.Alike.{ArePlayed}
use Rattle.cvr_office.specs.declared.event.Event.TheVariants.{Import}
use Rattle.cvr_office.specs.declared.event.Outcome.{Outcome}
use Rattle.cvr_office.proofs.NewOffices.{same_files_law}
use Rattle.cvr_office.proofs.Reached.{content-none}
use Rattle.cvr_office.proofs.Turns.{content_turn, outcomes_turn}
use Rattle.cvr_office.proofs.playing.play.Goals as goal

pub loop-event-init : goal.loop-event-init
loop-event-init g c = record {
  listed = ap length c.in_ok-outcomes.ensures.items;
  count = c.in_ok-outcomes.ensures.len;
  room = c.in_ok-outcomes.ensures.exact;
  content = λ o h. sym (content-none (map g.O.Office.held c.args.offices.now)
      (map (λ f. f.items) c.args.files.now) o);
  outcomes = tt;
  definitions = refl;
}

pub loop-event-preserved : goal.loop-event-preserved
loop-event-preserved g c =
    let h = c.happen-outcome in
    let v = c.loop-event.invariant in
    let started = c.args.offices.now in
    let offices = c.loop-event.offices in
    let starts = map g.O.Office.held started in
    let frames = map g.O.Office.defined started in
    let files = map (λ f. f.items) c.args.files.now in
    let held = map g.O.Office.held offices in
    let es = c.args.events.now in
    let rs = c.loop-event.outcomes.items in
    let i = c.loop-event.event-index in
    let e = get_or es i (Import 0 0) in
    let grown = c.push_reserved.ensures.items in
    let many_starts : length starts ≡ length started = length-map started g.O.Office.held in
    let many_frames : length frames ≡ length started = length-map started g.O.Office.defined in
    let many_held : length held ≡ length offices = length-map offices g.O.Office.held in
    let many_defined : length (map g.O.Office.defined offices) ≡ length offices =
    length-map offices g.O.Office.defined in
    let alike : length (map g.O.Office.defined offices) ≡ length frames = ap length v.definitions in
    let here : (o : ℕ) → o < length starts
    → get_or held o empty ≡ content starts files (history (take i es) rs) o = λ o lo.
    v.content o (omega arith) in
    let out : IsOutcome frames files (λ o. get_or held o empty) e h.result = subst
    (λ fs. IsOutcome fs files (λ o. get_or held o empty) e h.result) v.definitions
    h.ensures.outcome in
    record {
      listed = ap length grown ∙ (length-append rs (h.result ∷ []) ∙ ap (λ n. n + 1) v.listed);
      count = omega arith;
      room = c.push_reserved.ensures.capacity ∙ v.room;
      content = λ o lo. content_turn starts frames files es rs i (Import 0 0) e h.result held
          v.listed c.loop-event-test.true refl (omega arith) here out
          (map g.O.Office.held h.new.offices) (omega arith) h.ensures.contents o (omega arith)
          ∙ ap (λ xs. content starts files (history (take (i + 1) es) xs) o)
          (sym {A = List Outcome} grown);
      outcomes = subst (λ xs. AreOutcomes starts frames files (history (take (i + 1) es) xs))
          (sym {A = List Outcome} grown)
          (outcomes_turn starts frames files es rs i (Import 0 0) e h.result held v.listed
          c.loop-event-test.true refl (omega arith) here out v.outcomes);
      definitions = h.ensures.definitions ∙ v.definitions;
    }

pub returns-clause-same_files : goal.returns-clause-same_files
returns-clause-same_files g c = λ new.
    let held = g.O.Office.held in
    let defined = g.O.Office.defined in
    let v = c.loop-event.invariant in
    let files = map (λ f. f.items) c.args.files.now in
    let before = c.args.offices.now in
    let after = c.loop-event.offices in
    let rs = c.loop-event.outcomes.items in
    let played : ArePlayed held defined before after files (history c.args.events.now rs) =
    subst (λ es. ArePlayed held defined before after files (history es rs))
    (take_all _ _ c.loop-event-test.false)
    (record { contents = v.content; outcomes = v.outcomes; definitions = v.definitions }) in
    same_files_law held defined before after files (history c.args.events.now rs) new played
