-- The class tables: which members a class has, and what each may be. (Classes, members and
-- enumerations: NIST SP 1500-103; which members are demanded, and which texts a list has, is this
-- project's own profile.)
use Rattle.std.specs.Prelude.{ℕ, List, [], ◌∷◌, Bool, true, false, codes, map}
use Rattle.cdf_form.specs.declared.table.Class.{Class}
use Rattle.cdf_form.specs.declared.table.Class.TheVariants as class
use Rattle.cdf_form.specs.declared.table.Group.{Group}
use Rattle.cdf_form.specs.declared.table.Group.TheVariants as group
use Rattle.cdf_form.specs.declared.table.Listing.{Listing}
use Rattle.cdf_form.specs.declared.table.Listing.TheVariants as listing
use Rattle.cdf_form.specs.declared.table.Leaf.TheVariants as leaf
use Rattle.cdf_form.specs.declared.table.Key.TheVariants as key
use Rattle.cdf_form.specs.declared.table.Kind.{Kind}
use Rattle.cdf_form.specs.declared.table.Kind.TheVariants.{One, Array}
use Rattle.cdf_form.specs.declared.table.Member.{Member}

-- a member of a class
pub record Entry : Type 0 where
  pub name : List ℕ
  pub required : Bool
  pub kind : Kind

-- a member that has to be there
abbrev pub required_member : List ℕ → Kind → Entry
required_member name kind = record { name = name; required = true; kind = kind }

-- a member that may be absent
abbrev pub optional_member : List ℕ → Kind → Entry
optional_member name kind = record { name = name; required = false; kind = kind }

-- the bound of an array of any length, which no array reaches
abbrev pub any : ℕ
any = 0xffff_ffff_ffff_ffff

-- the text of a class at `@type`
abbrev pub type_text : Class → List ℕ
type_text class.CastVoteRecordReport = codes "CVR.CastVoteRecordReport"
type_text class.Cvr = codes "CVR.CVR"
type_text class.CvrSnapshot = codes "CVR.CVRSnapshot"
type_text class.Annotation = codes "CVR.Annotation"
type_text class.CvrContest = codes "CVR.CVRContest"
type_text class.CvrContestSelection = codes "CVR.CVRContestSelection"
type_text class.SelectionPosition = codes "CVR.SelectionPosition"
type_text class.CvrWriteIn = codes "CVR.CVRWriteIn"
type_text class.Election = codes "CVR.Election"
type_text class.BallotMeasureContest = codes "CVR.BallotMeasureContest"
type_text class.CandidateContest = codes "CVR.CandidateContest"
type_text class.Contest = codes "CVR.Contest"
type_text class.PartyContest = codes "CVR.PartyContest"
type_text class.RetentionContest = codes "CVR.RetentionContest"
type_text class.BallotMeasureSelection = codes "CVR.BallotMeasureSelection"
type_text class.ContestSelection = codes "CVR.ContestSelection"
type_text class.GpUnit = codes "CVR.GpUnit"
type_text class.Party = codes "CVR.Party"
type_text class.ReportingDevice = codes "CVR.ReportingDevice"
type_text class.CandidateSelection = codes "CVR.CandidateSelection"
type_text class.PartySelection = codes "CVR.PartySelection"
type_text class.Candidate = codes "CVR.Candidate"

-- the classes that an object may have at a place
abbrev pub classes_of : Group → List Class
classes_of group.Reports = class.CastVoteRecordReport ∷ []
classes_of group.Cvrs = class.Cvr ∷ []
classes_of group.Elections = class.Election ∷ []
classes_of group.GpUnits = class.GpUnit ∷ []
classes_of group.Parties = class.Party ∷ []
classes_of group.ReportingDevices = class.ReportingDevice ∷ []
classes_of group.Snapshots = class.CvrSnapshot ∷ []
classes_of group.Annotations = class.Annotation ∷ []
classes_of group.CvrContests = class.CvrContest ∷ []
classes_of group.CvrContestSelections = class.CvrContestSelection ∷ []
classes_of group.SelectionPositions = class.SelectionPosition ∷ []
classes_of group.WriteIns = class.CvrWriteIn ∷ []
classes_of group.Candidates = class.Candidate ∷ []
classes_of group.Contests =
    class.BallotMeasureContest ∷
    class.CandidateContest ∷
    class.Contest ∷
    class.PartyContest ∷
    class.RetentionContest ∷
    []
classes_of group.ContestSelections =
    class.BallotMeasureSelection ∷
    class.CandidateSelection ∷
    class.ContestSelection ∷
    class.PartySelection ∷
    []

-- the texts of an enumeration
abbrev pub listed_in : Listing → List (List ℕ)
listed_in listing.CvrType = codes "interpreted" ∷ codes "modified" ∷ codes "original" ∷ []
listed_in listing.CvrStatus = codes "needs-adjudication" ∷ codes "other" ∷ []
listed_in listing.ContestStatus =
    codes "invalidated-rules" ∷
    codes "not-indicated" ∷
    codes "other" ∷
    codes "overvoted" ∷
    codes "undervoted" ∷
    []
listed_in listing.ContestSelectionStatus =
    codes "generated-rules" ∷
    codes "invalidated-rules" ∷
    codes "needs-adjudication" ∷
    codes "other" ∷
    []
listed_in listing.PositionStatus =
    codes "adjudicated" ∷
    codes "generated-rules" ∷
    codes "invalidated-rules" ∷
    codes "other" ∷
    []
listed_in listing.IndicationStatus = codes "no" ∷ codes "unknown" ∷ codes "yes" ∷ []
listed_in listing.AllocationStatus = codes "no" ∷ codes "unknown" ∷ codes "yes" ∷ []
listed_in listing.ReportType =
    codes "adjudicated" ∷
    codes "aggregated" ∷
    codes "originating-device-export" ∷
    codes "other" ∷
    codes "rcv-round" ∷
    []
listed_in listing.VoteVariation =
    codes "approval" ∷
    codes "borda" ∷
    codes "cumulative" ∷
    codes "majority" ∷
    codes "n-of-m" ∷
    codes "other" ∷
    codes "plurality" ∷
    codes "proportional" ∷
    codes "range" ∷
    codes "rcv" ∷
    codes "super-majority" ∷
    []
listed_in listing.Version = codes "1.0.0" ∷ []

-- the members of a class, in byte order of their names
abbrev pub table : Class → List Entry
table class.CastVoteRecordReport =
    optional_member (codes "CVR") (Array (leaf.Object group.Cvrs) 0 any key.Free) ∷
    required_member (codes "Election") (Array (leaf.Object group.Elections) 1 1 key.Free) ∷
    required_member (codes "GeneratedDate") (One leaf.Moment) ∷
    required_member (codes "GpUnit") (Array (leaf.Object group.GpUnits) 0 any key.Id) ∷
    optional_member (codes "Notes") (One leaf.Text) ∷
    optional_member (codes "OtherReportType") (One leaf.Text) ∷
    optional_member (codes "Party") (Array (leaf.Object group.Parties) 0 any key.Id) ∷
    required_member (codes "ReportGeneratingDeviceIds") (Array leaf.Text 0 any key.Free) ∷
    optional_member (codes "ReportType") (Array (leaf.Listed listing.ReportType) 0 any key.Free) ∷
    required_member (codes "ReportingDevice")
    (Array (leaf.Object group.ReportingDevices) 0 any key.Id) ∷
    required_member (codes "Version") (One (leaf.Listed listing.Version)) ∷
    []
table class.Cvr =
    optional_member (codes "BallotAuditId") (One leaf.Text) ∷
    optional_member (codes "BallotPrePrintedId") (One leaf.Text) ∷
    optional_member (codes "BallotSheetId") (One leaf.Text) ∷
    optional_member (codes "BallotStyleId") (One leaf.Text) ∷
    optional_member (codes "BallotStyleUnitId") (One leaf.Text) ∷
    optional_member (codes "BatchId") (One leaf.Text) ∷
    optional_member (codes "BatchSequenceId") (One leaf.Whole) ∷
    required_member (codes "CVRSnapshot") (Array (leaf.Object group.Snapshots) 1 any key.Id) ∷
    required_member (codes "CreatingDeviceId") (One leaf.Name) ∷
    required_member (codes "CurrentSnapshotId") (One leaf.Text) ∷
    required_member (codes "ElectionId") (One leaf.Text) ∷
    optional_member (codes "PartyIds") (Array leaf.Text 0 any key.Free) ∷
    required_member (codes "UniqueId") (One leaf.Name) ∷
    []
table class.CvrSnapshot =
    required_member (codes "@id") (One leaf.Name) ∷
    optional_member (codes "Annotation") (Array (leaf.Object group.Annotations) 0 any key.Free) ∷
    optional_member (codes "CVRContest") (Array (leaf.Object group.CvrContests) 0 any key.Contest) ∷
    optional_member (codes "OtherStatus") (One leaf.Text) ∷
    optional_member (codes "Status") (Array (leaf.Listed listing.CvrStatus) 0 any key.Free) ∷
    required_member (codes "Type") (One (leaf.Listed listing.CvrType)) ∷
    []
table class.Annotation =
    optional_member (codes "AdjudicatorName") (Array leaf.Text 0 any key.Free) ∷
    optional_member (codes "Message") (Array leaf.Text 0 any key.Free) ∷
    optional_member (codes "TimeStamp") (One leaf.Moment) ∷
    []
table class.CvrContest =
    optional_member (codes "CVRContestSelection")
    (Array (leaf.Object group.CvrContestSelections) 0 65536 key.Free) ∷
    required_member (codes "ContestId") (One leaf.Text) ∷
    optional_member (codes "OtherStatus") (One leaf.Text) ∷
    optional_member (codes "Overvotes") (One leaf.Count) ∷
    optional_member (codes "Selections") (One leaf.Count) ∷
    optional_member (codes "Status") (Array (leaf.Listed listing.ContestStatus) 0 any key.Free) ∷
    optional_member (codes "Undervotes") (One leaf.Count) ∷
    optional_member (codes "WriteIns") (One leaf.Count) ∷
    []
table class.CvrContestSelection =
    optional_member (codes "ContestSelectionId") (One leaf.Text) ∷
    optional_member (codes "OptionPosition") (One leaf.Whole) ∷
    optional_member (codes "OtherStatus") (One leaf.Text) ∷
    optional_member (codes "Rank") (One leaf.Whole) ∷
    required_member (codes "SelectionPosition")
    (Array (leaf.Object group.SelectionPositions) 1 64 key.Free) ∷
    optional_member (codes "Status")
    (Array (leaf.Listed listing.ContestSelectionStatus) 0 any key.Free) ∷
    optional_member (codes "TotalFractionalVotes") (One leaf.Fractional) ∷
    optional_member (codes "TotalNumberVotes") (One leaf.Count) ∷
    []
table class.SelectionPosition =
    optional_member (codes "CVRWriteIn") (One (leaf.Object group.WriteIns)) ∷
    optional_member (codes "FractionalVotes") (One leaf.Fractional) ∷
    required_member (codes "HasIndication") (One (leaf.Listed listing.IndicationStatus)) ∷
    optional_member (codes "IsAllocable") (One (leaf.Listed listing.AllocationStatus)) ∷
    optional_member (codes "MarkMetricValue") (Array leaf.Text 0 any key.Free) ∷
    required_member (codes "NumberVotes") (One leaf.Count) ∷
    optional_member (codes "OtherStatus") (One leaf.Text) ∷
    optional_member (codes "Position") (One leaf.Whole) ∷
    optional_member (codes "Rank") (One leaf.Whole) ∷
    optional_member (codes "Status") (Array (leaf.Listed listing.PositionStatus) 0 any key.Free) ∷
    []
table class.CvrWriteIn =
    []
table class.Election =
    required_member (codes "@id") (One leaf.Name) ∷
    optional_member (codes "Candidate") (Array (leaf.Object group.Candidates) 0 any key.Id) ∷
    required_member (codes "Contest") (Array (leaf.Object group.Contests) 0 any key.Id) ∷
    required_member (codes "ElectionScopeId") (One leaf.Text) ∷
    optional_member (codes "Name") (One leaf.Text) ∷
    []
table class.BallotMeasureContest =
    required_member (codes "@id") (One leaf.Name) ∷
    optional_member (codes "ContestSelection")
    (Array (leaf.Object group.ContestSelections) 0 any key.Id) ∷
    optional_member (codes "VoteVariation") (One (leaf.Listed listing.VoteVariation)) ∷
    []
table class.CandidateContest =
    required_member (codes "@id") (One leaf.Name) ∷
    optional_member (codes "ContestSelection")
    (Array (leaf.Object group.ContestSelections) 0 any key.Id) ∷
    optional_member (codes "VoteVariation") (One (leaf.Listed listing.VoteVariation)) ∷
    []
table class.Contest =
    required_member (codes "@id") (One leaf.Name) ∷
    optional_member (codes "ContestSelection")
    (Array (leaf.Object group.ContestSelections) 0 any key.Id) ∷
    optional_member (codes "VoteVariation") (One (leaf.Listed listing.VoteVariation)) ∷
    []
table class.PartyContest =
    required_member (codes "@id") (One leaf.Name) ∷
    optional_member (codes "ContestSelection")
    (Array (leaf.Object group.ContestSelections) 0 any key.Id) ∷
    optional_member (codes "VoteVariation") (One (leaf.Listed listing.VoteVariation)) ∷
    []
table class.RetentionContest =
    required_member (codes "@id") (One leaf.Name) ∷
    optional_member (codes "ContestSelection")
    (Array (leaf.Object group.ContestSelections) 0 any key.Id) ∷
    optional_member (codes "VoteVariation") (One (leaf.Listed listing.VoteVariation)) ∷
    []
table class.BallotMeasureSelection =
    required_member (codes "@id") (One leaf.Name) ∷
    []
table class.ContestSelection =
    required_member (codes "@id") (One leaf.Name) ∷
    []
table class.GpUnit =
    required_member (codes "@id") (One leaf.Name) ∷
    []
table class.Party =
    required_member (codes "@id") (One leaf.Name) ∷
    []
table class.ReportingDevice =
    required_member (codes "@id") (One leaf.Name) ∷
    []
table class.CandidateSelection =
    required_member (codes "@id") (One leaf.Name) ∷
    optional_member (codes "CandidateIds") (Array leaf.Text 0 any key.Free) ∷
    optional_member (codes "IsWriteIn") (One leaf.Truth) ∷
    []
table class.PartySelection =
    required_member (codes "@id") (One leaf.Name) ∷
    optional_member (codes "PartyIds") (Array leaf.Text 0 any key.Free) ∷
    []
table class.Candidate =
    required_member (codes "@id") (One leaf.Name) ∷
    optional_member (codes "PartyId") (One leaf.Text) ∷
    []

-- a member of the code's tables
abbrev pub entry_of : Member → Entry
entry_of r = record { name = r.name.now; required = r.required; kind = r.kind }

-- all members of a table
abbrev pub entries_of : List Member → List Entry
entries_of rs = map entry_of rs
