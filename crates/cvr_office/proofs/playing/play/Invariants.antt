use Rattle.std.proofs.Common.{◌≡◌, ◌<◌, ℕ, length, take, get_or, map, vec_len, vec_capacity}
use Rattle.std.specs.FinSet.{empty}
use Rattle.cvr_office.specs.Reach.{content, history}
use Rattle.cvr_office.specs.Outcomes.{AreOutcomes}
use Rattle.cvr_office.proofs.playing.play.Given as goal

abbrev pub invariant-loop-event : goal.invariant-loop-event
invariant-loop-event g l =
    let starts = map g.O.Office.held l.fn.offices in
    let files = map (λ f. f.items) l.files in
    let past = history (take l.event-index l.events) l.outcomes.items in
    record {
      listed : length l.outcomes.items ≡ l.event-index;
      count : vec_len l.outcomes ≡ l.event-index;
      room : vec_capacity l.outcomes ≡ length l.events;
      content : (o : ℕ) → o < length l.fn.offices
          → get_or (map g.O.Office.held l.offices) o empty ≡ content starts files past o;
      outcomes : AreOutcomes starts (map g.O.Office.defined l.fn.offices) files past;
      definitions : map g.O.Office.defined l.offices ≡ map g.O.Office.defined l.fn.offices;
    }
