-- An office keeps what it holds: no fact of an accepted file is ever missing afterwards. (This
-- project's own.)
use Rattle.std.specs.Prelude.{◌≡◌, ℕ, List, [], ◌∷◌, ◌++◌, slice_index_or, true, Some}
use Rattle.std.specs.List.{slice_get}
use Rattle.std.specs.FinSet.{contains}
use Rattle.cdf_definition.specs.Frame.{Frame}
use Rattle.cvr_fact_types.specs.Facts.{Fact, Facts}
use Rattle.cvr_facts.specs.Reports.{facts}
use Rattle.cvr_office.specs.declared.event.Event.TheVariants.{Import, Exchange}
use Rattle.cvr_office.specs.declared.event.Outcome.TheVariants.{Accepted}
use Rattle.cvr_office.specs.Reach.{History, content}
use Rattle.cvr_office.specs.Alike.{ArePlayed}

-- what an office holds after some events it holds after any further ones
abbrev pub HeldLastsLaw : Type 0
HeldLastsLaw = (starts : List Facts) (files : List (List ℕ)) (later past : History) (o : ℕ)
    (q : Fact)
    → contains (content starts files past o) q ≡ true
    → contains (content starts files (later ++ past) o) q ≡ true

-- from an accepted import on an office holds the facts of the file
abbrev pub ImportLastsLaw : Type 0
ImportLastsLaw = (starts : List Facts) (files : List (List ℕ)) (later past : History) (o f n : ℕ)
    (q : Fact)
    → contains (facts (slice_index_or files f [])) q ≡ true
    → contains (content starts files (later ++ (Import o f, Accepted n) ∷ past) o) q ≡ true

-- from an accepted exchange on it holds what the other office held
abbrev pub ExchangeLastsLaw : Type 0
ExchangeLastsLaw = (starts : List Facts) (files : List (List ℕ)) (later past : History) (p o n : ℕ)
    (q : Fact)
    → contains (content starts files past p) q ≡ true
    → contains (content starts files (later ++ (Exchange p o, Accepted n) ∷ past) o) q ≡ true

-- offices that have played some events hold what they held before
abbrev pub PlayedLastsLaw : {Office : Type 0} → (Office → Facts) → (Office → Frame) → Type 0
PlayedLastsLaw {Office} held defined = (before after : List Office) (files : List (List ℕ))
    (past : History) (o : ℕ) (one other : Office) (q : Fact)
    → ArePlayed held defined before after files past → slice_get before o ≡ Some one
    → slice_get after o ≡ Some other
    → contains (held one) q ≡ true → contains (held other) q ≡ true
