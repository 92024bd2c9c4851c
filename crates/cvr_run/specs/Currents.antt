-- The printed lines of current snapshots and of conflicts. (This project's own.)
use Rattle.std.specs.Prelude.{ℕ, List, [], ◌∷◌, ◌++◌, map, codes, decimal, Option, Some, None}
use Rattle.std.specs.List.{flat_map}
use Rattle.cdf_types.specs.SnapshotKind.{snapshot_kind_text}
use Rattle.cdf_parts.specs.Parts.{id_of}
use Rattle.cdf_typed.specs.Typed.{kind_of}
use Rattle.cvr_fact_types.specs.declared.name.RecordName.{RecordName}
use Rattle.cvr_fact_types.specs.Facts.{Facts}
use Rattle.cvr_facts.specs.Choosing.{data_of, current}
use Rattle.cvr_fact_types.specs.Text.{word}
use Rattle.cvr_office.specs.declared.conflict.Conflict.{Conflict}
use Rattle.cvr_office.specs.declared.conflict.ConflictName.{ConflictName}
use Rattle.cvr_office.specs.declared.conflict.ConflictName.TheVariants as name
use Rattle.cvr_office.specs.Names.{records, most}

-- ---- current snapshots

-- device, unique, the snapshot's id, then the text of its Type without quotes
abbrev pub line : RecordName → List ℕ → List ℕ
line key body =
    word key.device ++ (word key.unique
    ++ (word (id_of (data_of body))
    ++ (snapshot_kind_text (kind_of (data_of body)) ++ 10 ∷ [])))

abbrev pub line_of : RecordName → Option (List ℕ) → List ℕ
line_of key None = []
line_of key (Some body) = line key body

-- one line for each record, in order of name
abbrev pub currents : Facts → List ℕ
currents facts = flat_map (λ key. line_of key (current facts key)) (records facts)

-- ---- conflicts

-- `device` and its id; device, unique and `header`; or device, unique, `snapshot` and its id
abbrev pub words_of : ConflictName → List ℕ
words_of (name.Device id) = codes "device " ++ word id
words_of (name.Header key) = word key.device ++ (word key.unique ++ codes "header ")
words_of (name.Snapshot key id) =
    word key.device ++ (word key.unique ++ (codes "snapshot " ++ word id))

-- the name, and the number of its bodies
abbrev pub conflict_line : Conflict → List ℕ
conflict_line conflict = words_of conflict.name ++ (decimal conflict.bodies ++ 10 ∷ [])

-- the greatest number of bodies among conflicts, 1 where there is none
abbrev pub volumes_of : List Conflict → ℕ
volumes_of [] = 1
volumes_of (c ∷ cs) = most (map (λ c. c.bodies) (c ∷ cs))

-- a line for each conflict, then `volumes` and their number
abbrev pub conflict_text : List Conflict → List ℕ
conflict_text list =
    flat_map conflict_line list ++ (codes "volumes " ++ (decimal (volumes_of list) ++ 10 ∷ []))
