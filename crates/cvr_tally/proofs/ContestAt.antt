-- The ids of the contest at a place.
use Rattle.std.proofs.Common.{◌≡◌, ℕ, zero, suc, ◌<◌, List, [], ◌∷◌, length, get_or, slice_index_or}
use Rattle.std.proofs.Common.{refl, arith}
use Rattle.cdf_parts.specs.Places.{contest_ids, selections_at}
use Rattle.cvr_tally.specs.declared.contest_ids.ContestIds.{ContestIds}
use Rattle.cvr_tally.specs.Contests.{contests_of}
use Rattle.cvr_tally.proofs.Contests.{selections_at-map}

pub id_at : (contests : List ContestIds) (place : ℕ) (d : ContestIds) → place < length contests
    → slice_index_or (contest_ids (contests_of contests)) place [] ≡ (get_or contests place d).id
id_at [] place d lt = absurd (omega arith)
id_at (c ∷ cs) zero d lt = refl
id_at (c ∷ cs) (suc place) d lt = id_at cs place d (omega arith)

pub ids_at : (contests : List ContestIds) (place : ℕ) (d : ContestIds) → place < length contests
    → selections_at (contests_of contests) place ≡ (get_or contests place d).selections
ids_at contests = selections_at-map (λ c. (c.id, c.selections)) contests
