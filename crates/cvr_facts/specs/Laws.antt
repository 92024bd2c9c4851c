-- Laws of the order of choosing, of sums and of facts. (This project's own.)
use Rattle.std.specs.Prelude.{◌≡◌, ◌≢◌, ◌↔◌, ◌<◌, ◌<ℤ◌, ℕ, ℤ, List, [], Some, None, codes}
use Rattle.std.specs.List.{Contains}
use Rattle.std.specs.declared.cmp.Ordering.TheVariants.{Less, Equal}
use Rattle.std.specs.Cmp.{IsTotalOrder}
use Rattle.std.specs.FinSet.{union, empty}
use Rattle.serde_json.specs.Data.{Data}
use Rattle.cdf_types.specs.declared.report.ContestVote.{ContestVote}
use Rattle.cdf_types.specs.SnapshotKind.{snapshot_kind_rank}
use Rattle.cdf_parts.specs.Parts.{array_at}
use Rattle.cdf_parts.specs.Places.{Contest}
use Rattle.cdf_typed.specs.Range.{ContestInRange}
use Rattle.cdf_typed.specs.Typed.{instant_in, moment_of}
use Rattle.cvr_fact_types.specs.declared.name.RecordName.{RecordName}
use Rattle.cvr_fact_types.specs.declared.snapshot.SnapshotFact.{SnapshotFact}
use Rattle.cvr_fact_types.specs.Facts.{Facts, fact_cmp, text_cmp}
use Rattle.cvr_facts.specs.Sets.{JoinLaws}
use Rattle.cvr_facts.specs.Choosing.{choice_cmp, fact_choice, snapshot_bodies, current, IsGreatest}
use Rattle.cvr_facts.specs.Sums.{sums_of, sum_limit, AreBelow}
use Rattle.cvr_facts.specs.Stands.{IsSpelledSnapshot}

-- ---- joining

abbrev pub JoiningLaw : Type 0
JoiningLaw = JoinLaws (union {R = fact_cmp}) empty

-- ---- the order of choosing

abbrev pub ChoosingLaw : Type 0
ChoosingLaw = IsTotalOrder fact_choice

-- two facts are equal in it exactly where rank, instant and body are
abbrev pub EqualLaw : Type 0
EqualLaw = (a b : SnapshotFact) → (fact_choice a b ≡ Equal)
    ↔ ((snapshot_kind_rank a.kind ≡ snapshot_kind_rank b.kind) × (a.moment ≡ b.moment)
    × (a.body ≡ b.body))

-- a lower rank is less, whatever the moments and bodies
abbrev pub RankLaw : Type 0
RankLaw = (a b : SnapshotFact) → snapshot_kind_rank a.kind < snapshot_kind_rank b.kind
    → fact_choice a b ≡ Less

-- of one kind, no moment is less than any
abbrev pub UndatedLaw : Type 0
UndatedLaw = (a b : SnapshotFact) (m : ℤ) → a.kind ≡ b.kind → a.moment ≡ None → b.moment ≡ Some m
    → fact_choice a b ≡ Less

-- of one kind, an earlier moment is less
abbrev pub EarlierLaw : Type 0
EarlierLaw = (a b : SnapshotFact) (m n : ℤ) → a.kind ≡ b.kind → a.moment ≡ Some m
    → b.moment ≡ Some n → m <ℤ n → fact_choice a b ≡ Less

-- of one kind and moment, they go by the bytes of their bodies
abbrev pub BytesLaw : Type 0
BytesLaw = (a b : SnapshotFact) → a.kind ≡ b.kind → a.moment ≡ b.moment
    → fact_choice a b ≡ text_cmp a.body b.body

-- the order of facts is that of their bodies
abbrev pub BodiesLaw : Type 0
BodiesLaw = (contests : List Contest) (a b : SnapshotFact) → IsSpelledSnapshot contests a
    → IsSpelledSnapshot contests b → fact_choice a b ≡ choice_cmp a.body b.body

-- of one record no two facts are equal in it, since a body spells its id and all that is kept
-- beside it
abbrev pub ExactLaw : Type 0
ExactLaw = (contests : List Contest) (a b : SnapshotFact) → IsSpelledSnapshot contests a
    → IsSpelledSnapshot contests b → a.key ≡ b.key → fact_choice a b ≡ Equal → a ≡ b

-- a body is current exactly where it is among those of the record and nothing passes it
abbrev pub CurrentLaw : Type 0
CurrentLaw = (s : Facts) (key : RecordName) (body : List ℕ)
    → (current s key ≡ Some body) ↔ IsGreatest choice_cmp (snapshot_bodies s key) body

-- a record that has a snapshot has exactly one that is current
abbrev pub OneCurrentLaw : Type 0
OneCurrentLaw = (s : Facts) (key : RecordName) → snapshot_bodies s key ≢ []
    → (body : List ℕ) × IsGreatest choice_cmp (snapshot_bodies s key) body
    × ((other : List ℕ) → IsGreatest choice_cmp (snapshot_bodies s key) other → other ≡ body)

-- ---- moments

-- one of a snapshot's annotations has this instant
pub record IsAnnotatedAt (snapshot : Data) (m : ℤ) : Type 0 where
  pub annotation : Data
  pub listed : Contains (array_at (codes "Annotation") snapshot) annotation
  pub instant : instant_in annotation ≡ Some m

-- the moment of a snapshot is the instant of one of its annotations, and none has a later one
abbrev pub MomentLaw : Type 0
MomentLaw = (snapshot : Data) (m : ℤ) → (moment_of snapshot ≡ Some m)
    ↔ (IsAnnotatedAt snapshot m × ((n : ℤ) → IsAnnotatedAt snapshot n → ¬ (m <ℤ n)))

-- it has none exactly where no annotation has an instant
abbrev pub NoMomentLaw : Type 0
NoMomentLaw = (snapshot : Data) → (moment_of snapshot ≡ None)
    ↔ ((m : ℤ) → ¬ IsAnnotatedAt snapshot m)

-- ---- sums

-- the sums of a contest in one snapshot stay below 2^54
abbrev pub SumsLaw : Type 0
SumsLaw = (contests : List Contest) (vote : ContestVote) → ContestInRange contests vote
    → AreBelow sum_limit (sums_of contests vote)
