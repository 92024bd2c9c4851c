-- Laws of lists of facts in order, which offices keep: what is put in, what a record's run says,
-- and its conflicts. (This project's own.)
use Rattle.std.specs.Prelude.{◌≡◌, ◌≤◌, ◌-◌, List, [], map, length, reverse, true, false, Option}
use Rattle.std.specs.Prelude.{None}
use Rattle.std.specs.List.{Contains, last_or}
use Rattle.std.specs.List.Sorted.{IsStrictlySortedBy}
use Rattle.std.specs.declared.cmp.Ordering.TheVariants.{Less}
use Rattle.std.specs.Option.{option_cmp}
use Rattle.std.specs.Ordering.{is_gt}
use Rattle.cdf_parts.specs.Places.{Contest}
use Rattle.cdf_definition.specs.Frame.{Frame}
use Rattle.cdf_definition.specs.Sound.{IsFrame}
use Rattle.cvr_fact_types.specs.declared.name.RecordName.{RecordName}
use Rattle.cvr_fact_types.specs.declared.header.HeaderFact.{HeaderFact}
use Rattle.cvr_fact_types.specs.declared.snapshot.SnapshotFact.{SnapshotFact}
use Rattle.cvr_fact_types.specs.Facts.{Fact, Device, name_cmp}
use Rattle.cvr_facts.specs.Stands.{IsSpelledHeader}
use Rattle.cvr_office.specs.declared.any_fact.AnyFact.{AnyFact}
use Rattle.cvr_office.specs.declared.any_fact.AnyFact.TheVariants as any
use Rattle.cvr_office.specs.declared.conflict.ConflictName.{ConflictName}
use Rattle.cvr_office.specs.declared.record_facts.RecordFacts.{RecordFacts}
use Rattle.cvr_office.specs.Names.{name_of, is_named, record_of, records, conflicts, greatest_count}
use Rattle.cvr_office.specs.CanHold.{starting_content}
use Rattle.cvr_office.specs.Place.{fact_of, any_cmp}
use Rattle.cvr_office.specs.Plain.{set_of, IsSpelled, IsPlain, IsPut}
use Rattle.cvr_office.specs.Readers.{growth, IsHeader, IsCurrent, AreAllFactsOf}
use Rattle.cvr_office.specs.Runs.{run, headers, snapshots, IsChosen, AreSpelled}
use Rattle.cvr_lists.specs.Groups.{RisesById, AreGrouped}
use Rattle.cvr_lists.specs.NameRuns.{counted_runs, of_several, most_of}

-- ---- what is put in

-- lists in order with one set hold the same facts
abbrev pub SameListsLaw : Type 0
SameListsLaw = (xs ys : List AnyFact) → IsStrictlySortedBy any_cmp xs
    → IsStrictlySortedBy any_cmp ys → set_of xs ≡ set_of ys → map fact_of xs ≡ map fact_of ys

-- a list grows by the facts that were not in it
abbrev pub PutGrowthLaw : Type 0
PutGrowthLaw = (old more new : List AnyFact) → IsStrictlySortedBy any_cmp old → IsPut old more new
    → (length old ≤ length new) × (length new - length old ≡ growth (set_of old) (set_of more))

-- what is spelled stays so
abbrev pub SpelledPutLaw : Type 0
SpelledPutLaw = (contests : List Contest) (old more new : List AnyFact) → IsPut old more new
    → ((f : AnyFact) → Contains old f → IsSpelled contests f)
    → ((f : AnyFact) → Contains more f → IsSpelled contests f) → (f : AnyFact) → Contains new f
    → IsSpelled contests f

-- the devices of a definition are what an office starts with
abbrev pub StartSetLaw : Type 0
StartSetLaw = (frame : Frame) (none more new : List AnyFact) → none ≡ []
    → map fact_of more ≡ map (λ e. Device e.0 e.1) frame.devices → IsPut none more new
    → set_of new ≡ starting_content frame

abbrev pub PlainStartLaw : Type 0
PlainStartLaw = (frame : Frame) (none more new : List AnyFact) → none ≡ []
    → map fact_of more ≡ map (λ e. Device e.0 e.1) frame.devices → IsPut none more new
    → IsFrame frame → IsPlain frame new

-- ---- the run of a record

-- its last header is the record's
abbrev pub LastHeaderLaw : Type 0
LastHeaderLaw = (facts : List AnyFact) (key : RecordName) → IsStrictlySortedBy any_cmp facts
    → ((h : HeaderFact) → Contains facts (any.Header h) → IsSpelledHeader h)
    → (o : Option HeaderFact) → o ≡ last_or None (headers (run key facts))
    → IsHeader (set_of facts) key o

-- its greatest snapshot by the order of choosing is the record's current one
abbrev pub GreatestSnapshotLaw : Type 0
GreatestSnapshotLaw = (facts : List AnyFact) (key : RecordName) (contests : List Contest)
    → AreSpelled contests facts
    → (o : Option SnapshotFact) → IsChosen (snapshots (run key facts)) o
    → IsCurrent contests (set_of facts) key o

-- its snapshots stand by id
abbrev pub IdsRiseLaw : Type 0
IdsRiseLaw = (facts : List AnyFact) (key : RecordName) → IsStrictlySortedBy any_cmp facts
    → RisesById (run key facts)

-- along a list in order records don't fall
abbrev pub RunsRiseLaw : Type 0
RunsRiseLaw = (one other : AnyFact) → any_cmp one other ≡ Less
    → is_gt (option_cmp name_cmp (record_of (fact_of one)) (record_of (fact_of other))) ≡ false

-- a record without a run is not listed
abbrev pub NoRunLaw : Type 0
NoRunLaw = (facts : List AnyFact) (key : RecordName) → run key facts ≡ []
    → ¬ Contains (records (set_of facts)) key

-- its headers, the last first, and its snapshots by id are all facts of the record
abbrev pub WholeRunLaw : Type 0
WholeRunLaw = (facts : List AnyFact) (key : RecordName) → IsStrictlySortedBy any_cmp facts
    → (contests : List Contest) → AreSpelled contests facts
    → (found : RecordFacts) → map (λ h. h.now) found.headers.items
    ≡ reverse (headers (run key facts)) → AreGrouped (run key facts) found.ids.items
    → AreAllFactsOf contests (set_of facts) key found

-- ---- names with several bodies

-- a fact has one name
abbrev pub NamedLaw : Type 0
NamedLaw = (n : ConflictName) (f : Fact) → is_named n f ≡ true → n ≡ name_of f

-- the conflicts are the runs of two facts or more, and the greatest count is that of the longest
-- run
abbrev pub ConflictRunsLaw : Type 0
ConflictRunsLaw = (xs : List AnyFact) → IsStrictlySortedBy any_cmp xs
    → conflicts (set_of xs) ≡ of_several (counted_runs xs)

abbrev pub GreatestRunLaw : Type 0
GreatestRunLaw = (xs : List AnyFact) → IsStrictlySortedBy any_cmp xs
    → greatest_count (set_of xs) ≡ most_of (counted_runs xs)
