-- Ids by place and by text, and contests with the ids of their selections. (NIST SP 1500-103,
-- classes Contest and ContestSelection.)
use Rattle.std.specs.Prelude.{ℕ, zero, suc, List, [], ◌∷◌, map, bytes_eq, Option, option_map, codes}
use Rattle.std.specs.List.{position_from}
use Rattle.serde_json.specs.Data.{Data}
use Rattle.cdf_parts.specs.Parts.{id_of, ids_at}

-- a list of texts
abbrev pub Texts : Type 0
Texts = List (List ℕ)

-- the first place of an id, from 0, if it is among them
abbrev pub place_in : Texts → List ℕ → Option ℕ
place_in ids id = position_from (bytes_eq id) 0 ids

-- a contest's id, and those of its selections, by place
abbrev pub Contest : Type 0
Contest = List ℕ × Texts

abbrev pub contest_of : Data → Contest
contest_of d = (id_of d, ids_at (codes "ContestSelection") d)

-- the ids of the contests
abbrev pub contest_ids : List Contest → Texts
contest_ids contests = map (λ c. c.0) contests

-- the ids of the selections of the contest at a place
abbrev pub selections_at : List Contest → ℕ → Texts
selections_at [] place = []
selections_at (c ∷ cs) zero = c.1
selections_at (c ∷ cs) (suc place) = selections_at cs place

-- the ids of the selections of the contest that is named, if there is one
abbrev pub selections_of : List Contest → List ℕ → Option Texts
selections_of contests id =
    option_map (λ place. selections_at contests place) (place_in (contest_ids contests) id)
