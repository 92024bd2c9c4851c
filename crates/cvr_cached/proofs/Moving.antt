-- The contests of a record's current snapshot are as many as its rows; and nothing moves where no
-- fact is new.
use Rattle.std.proofs.Common.{◌≡◌, ℕ, ◌+◌, Bool, true, false, not, ◌&&◌, List, [], length, map}
use Rattle.std.proofs.Common.{Contains, Option, Some, None, refl, sym, ap, ◌∙◌, subst}
use Rattle.std.specs.List.{sum_by}
use Rattle.std.specs.Option.{option_map_or}
use Rattle.std.specs.FinSet.{contains, difference, from_list, contains-difference}
use Rattle.std.proofs.lemmas.Bool.{false≢true}
use Rattle.std.proofs.lemmas.List.{length-map}
use Rattle.cdf_definition.specs.Frame.{Frame}
use Rattle.cvr_fact_types.specs.declared.name.RecordName.{RecordName}
use Rattle.cvr_fact_types.specs.declared.sums.VoteSums.{VoteSums}
use Rattle.cvr_fact_types.specs.Facts.{Snapshot, Facts, fact_cmp, fact_total, fact_exact}
use Rattle.cvr_facts.specs.Choosing.{header, current, header_bodies, snapshot_bodies}
use Rattle.cvr_facts.proofs.Laws.{text_total, text_exact, choice_total, Contains-header_bodies}
use Rattle.cvr_facts.proofs.Laws.{Contains-snapshot_bodies}
use Rattle.cvr_facts.proofs.Lemmas.{greatest_is, has_greatest, is_greatest, none_listed}
use Rattle.cvr_tally.specs.declared.key.RowKey.{RowKey}
use Rattle.cvr_office.specs.CanHold.{CanHold}
use Rattle.cvr_office.specs.Names.{records}
use Rattle.cvr_office.specs.Tallied.{unit_of, batch_of, sums_of_body}
use Rattle.cvr_office.proofs.Lemmas.{records-given, set_is}
use Rattle.cvr_cached.specs.Moves.{contests_at, RowsOfRecordLaw, NothingMovesLaw}

-- a record with a snapshot has a header
pub headed : (frame : Frame) (s : Facts) → CanHold frame s → (k : RecordName) (body : List ℕ)
    → current s k ≡ Some body → header s k ≡ None → ⊥
headed frame s can_hold k body is none =
    let at = (greatest_is choice_total (snapshot_bodies s k) body is).listed in
    let fact = (Contains-snapshot_bodies s k body).0 at in
    let head = (can_hold.whole (Snapshot k.device k.unique fact.0 body) fact.1).header in
    let there = (Contains-header_bodies s k head.0).1 head.1 in
    let top = has_greatest text_total (header_bodies s k)
    (λ empty. none_listed head.0 (subst (λ bs. Contains bs head.0) empty there)) in
    let clash : None ≡ Some top.0 =
    sym none ∙ is_greatest text_total text_exact (header_bodies s k) top.0 top.1 in
    Prim.cc clash

module _ (frame : Frame) (s : Facts) (can_hold : CanHold frame s) (k : RecordName) where
  abbrev sums : Option (List ℕ) → List VoteSums
  sums o = option_map_or (sums_of_body frame.contests) o []

  abbrev key_of : List ℕ → VoteSums → RowKey
  key_of head v = record { contest = v.contest; unit = unit_of head; batch = batch_of head }

  abbrev keys_with : Option (List ℕ) → Option (List ℕ) → List RowKey
  keys_with head now = option_map_or (λ h. map (key_of h) (sums now)) head []

  rows_with : (head now : Option (List ℕ)) → header s k ≡ head → current s k ≡ now
      → length (sums now) ≡ length (keys_with head now)
  rows_with None None a b = refl
  rows_with None (Some body) a b = absurd (headed frame s can_hold k body b a)
  rows_with (Some h) now a b = sym (length-map (sums now) (key_of h))

pub rows_of_record : RowsOfRecordLaw
rows_of_record frame s r can_hold = rows_with frame s can_hold r (header s r) (current s r) refl refl

never : (b : Bool) → (b && not b) ≡ true → ⊥
never true e = false≢true e
never false e = false≢true e

none_new : (s : Facts) → from_list {R = fact_cmp} [] ≡ difference s s
none_new s = set_is fact_total fact_exact [] (difference s s) (λ f at. absurd (none_listed f at))
    (λ f is. absurd (never (contains s f) (sym (contains-difference fact_total s s f) ∙ is)))

pub nothing_moves : NothingMovesLaw
nothing_moves contests s = ap (sum_by (λ r. contests_at contests s r + contests_at contests s r))
    (ap records (sym (none_new s)) ∙ records-given [])
