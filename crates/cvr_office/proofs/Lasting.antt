-- What has reached an office, and what it holds, stays.
use Rattle.std.proofs.Common.{◌≡◌, ◌<◌, Bool, true, cond, ℕ, List, [], ◌∷◌, ◌++◌, length, map}
use Rattle.std.proofs.Common.{get_or, refl, sym, ap, ◌∙◌, subst, append-nil}
use Rattle.std.proofs.lemmas.List.{get_or-map}
use Rattle.std.proofs.lemmas.Option.{slice_get_within, get_or_from_slice_get}
use Rattle.std.specs.FinSet.{union, empty, items, contains, contains-union}
use Rattle.std.proofs.lemmas.Bool.{or_right}
use Rattle.cdf_definition.specs.Frame.{Frame}
use Rattle.cvr_fact_types.specs.Facts.{Fact, Facts}
use Rattle.cvr_office.specs.declared.event.Event.TheVariants.{Import, Exchange}
use Rattle.cvr_office.specs.declared.event.Outcome.TheVariants.{Accepted}
use Rattle.cvr_office.specs.Reach.{Origin, File, History, origins_at, origin_facts, content}
use Rattle.cvr_office.specs.Lasting.{HeldLastsLaw, ImportLastsLaw, ExchangeLastsLaw, PlayedLastsLaw}
use Rattle.cvr_office.proofs.Unions.{contains-union_over, member_that_passes}
use Rattle.cvr_office.proofs.Unions.{passes_by_member}
use Rattle.cvr_office.proofs.Reached.{origin_total, origin_exact, is_eq, content-none}
use Rattle.cvr_office.proofs.Ways.{origins_after-stays, brings}

-- what has reached an office has reached it after all further events
still_reached : (x : Origin) (later past : History) (o : ℕ) → contains (origins_at past o) x ≡ true
    → contains (origins_at (later ++ past) o) x ≡ true
still_reached x [] past o h = h
still_reached x (e ∷ later) past o h =
    origins_after-stays x e.0 e.1 (origins_at (later ++ past)) o (still_reached x later past o h)

-- what had reached p reaches o by an accepted exchange
passed_on : (x : Origin) (past : History) (p o n : ℕ) → contains (origins_at past p) x ≡ true
    → contains (origins_at ((Exchange p o, Accepted n) ∷ past) o) x ≡ true
passed_on x past p o n h =
    subst (λ b. contains (cond b (union (origins_at past o) (origins_at past p))
    (origins_at past o)) x ≡ true) (sym (is_eq o o refl))
    (contains-union origin_total (origins_at past o) (origins_at past p) x
    ∙ or_right (contains (origins_at past o) x) _ h)

module _ (starts : List Facts) (files : List (List ℕ)) (q : Fact) where
  abbrev has : Origin → Bool
  has x = contains (origin_facts starts files x) q

  by_origin : (past : History) (o : ℕ) (x : Origin) → contains (origins_at past o) x ≡ true
      → has x ≡ true → contains (content starts files past o) q ≡ true
  by_origin past o x there here =
      contains-union_over (origin_facts starts files) (items (origins_at past o)) q
      ∙ passes_by_member origin_total origin_exact has x (origins_at past o) there here

  from_origin : (past : History) (o : ℕ) → contains (content starts files past o) q ≡ true
      → (x : Origin) × (contains (origins_at past o) x ≡ true) × (has x ≡ true)
  from_origin past o h = member_that_passes origin_total origin_exact has (origins_at past o)
      (sym (contains-union_over (origin_facts starts files) (items (origins_at past o)) q) ∙ h)

pub held_lasts : HeldLastsLaw
held_lasts starts files later past o q h =
    let w = from_origin starts files q past o h in
    by_origin starts files q (later ++ past) o w.0 (still_reached w.0 later past o w.1) w.2

pub import_lasts : ImportLastsLaw
import_lasts starts files later past o f n q h =
    let now = (Import o f, Accepted n) ∷ past in
    by_origin starts files q (later ++ now) o (File f)
    (still_reached (File f) later now o (brings f [] past o n o refl)) h

pub exchange_lasts : ExchangeLastsLaw
exchange_lasts starts files later past p o n q h =
    let now = (Exchange p o, Accepted n) ∷ past in
    let w = from_origin starts files q past p h in
    by_origin starts files q (later ++ now) o w.0
    (still_reached w.0 later now o (passed_on w.0 past p o n w.1)) w.2

-- after any events an office holds what it began with
from_start : (starts : List Facts) (files : List (List ℕ)) (past : History) (o : ℕ) (q : Fact)
    → contains (get_or starts o empty) q ≡ true → contains (content starts files past o) q ≡ true
from_start starts files past o q h =
    subst (λ ps. contains (content starts files ps o) q ≡ true) (append-nil past)
    (held_lasts starts files past [] o q (ap (λ s. contains s q) (content-none starts files o) ∙ h))

pub played_lasts : {Office : Type 0} (held : Office → Facts) (defined : Office → Frame)
    → PlayedLastsLaw held defined
played_lasts held defined before after files past o one other q played at also h =
    let starts = map held before in
    let there : o < length before = slice_get_within before o one at in
    let within : o < length after = slice_get_within after o other also in
    let began : get_or starts o empty ≡ held one = get_or-map held before o one empty there
    ∙ ap held (get_or_from_slice_get before o one one at) in
    let ended : held other ≡ content starts files past o =
    ap held (sym (get_or_from_slice_get after o other other also))
    ∙ (sym (get_or-map held after o other empty within) ∙ played.contents o there) in
    ap (λ s. contains s q) ended
    ∙ from_start starts files past o q (ap (λ s. contains s q) began ∙ h)
