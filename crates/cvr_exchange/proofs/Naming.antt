-- Where no path is missing, each reference of a snapshot or header names something; and what names
-- something still does where more can be named.
use Rattle.std.proofs.Common.{◌≡◌, ℕ, List, [], Contains, Option, Some, None, codes, subst}
use Rattle.std.proofs.lemmas.Slice.Eq.{bytes_eq-Decides}
use Rattle.std.proofs.lemmas.Map.Views.{Contains-from_any}
use Rattle.serde_json.specs.Data.{Data}
use Rattle.serde_json.specs.Find.{as_str}
use Rattle.cdf_form.specs.Form.{at_member}
use Rattle.cdf_parts.specs.Parts.{text_in, text_at}
use Rattle.cdf_parts.specs.Places.{Texts, contest_ids, selections_of}
use Rattle.cdf_definition.specs.Paths.{each}
use Rattle.cdf_definition.specs.References.{Scope, unknown, one, many, in_selection_vote, in_votes}
use Rattle.cdf_definition.specs.References.{in_contest_vote, in_snapshot}
use Rattle.cdf_definition.specs.Resolves.{Names, AllName, Each, VoteResolves, SnapshotResolves}
use Rattle.cdf_definition.specs.Resolves.{SelectionResolves, ElectionResolves}
use Rattle.cdf_definition.proofs.Lemmas.{left_nil, right_nil, inner, unless_nil}
use Rattle.cdf_check.proofs.Laws.{each_at}

-- ---- no path is missing

known_of : (ids : Texts) (o : Option (List ℕ)) → unknown ids o ≡ [] → (s : List ℕ) → o ≡ Some s
    → Contains ids s
known_of ids None e s is = absurd (Prim.cc is)
known_of ids (Some t) e s is =
    let same : t ≡ s = Prim.cc is in
    subst (Contains ids) same (Contains-from_any (λ x y. (bytes_eq-Decides x y).0) t ids
    (unless_nil _ e))

pub names_of : (ids : Texts) (name : List ℕ) (d : Data) → one ids name d ≡ [] → Names ids name d
names_of ids name d e =
    known_of ids (text_in name d) ((inner (at_member name) (unknown ids (text_in name d))
    ((λ p. p), (λ p. p))).0 e)

pub all_name_of : (ids : Texts) (name : List ℕ) (d : Data) → many ids name d ≡ []
    → AllName ids name d
all_name_of ids name d e =
    λ x s a is. known_of ids (as_str x) (each_at (λ y. unknown ids (as_str y)) name d x e a) s is

selections_named : (o : Option Texts) (d : Data)
    → each (in_selection_vote o) (codes "CVRContestSelection") d ≡ []
    → (ids : Texts) → o ≡ Some ids → Each (Names ids (codes "ContestSelectionId"))
    (codes "CVRContestSelection") d
selections_named None d e ids is = absurd (Prim.cc is)
selections_named (Some own) d e ids is =
    let same : own ≡ ids = Prim.cc is in
    λ x a. subst (λ y. Names y (codes "ContestSelectionId") x) same
    (names_of own (codes "ContestSelectionId") x
    (each_at (in_selection_vote (Some own)) (codes "CVRContestSelection") d x e a))

vote_of : (scope : Scope) (d : Data) → in_contest_vote scope d ≡ [] → VoteResolves scope d
vote_of scope d e = record {
  contest = names_of (contest_ids scope.contests) (codes "ContestId") d
      (right_nil (in_votes scope d) _ e);
  selections = selections_named (selections_of scope.contests (text_at (codes "ContestId") d)) d
      (left_nil (in_votes scope d) _ e);
}

pub snapshot_of : (scope : Scope) (d : Data) → in_snapshot scope d ≡ [] → SnapshotResolves scope d
snapshot_of scope d e =
    λ x a. vote_of scope x (each_at (in_contest_vote scope) (codes "CVRContest") d x e a)

-- ---- more can be named

-- each text of the first list is in the second
abbrev pub AreAmong : Texts → Texts → Type 0
AreAmong xs ys = (s : List ℕ) → Contains xs s → Contains ys s

names_more : (xs ys : Texts) → AreAmong xs ys → (name : List ℕ) (d : Data) → Names xs name d
    → Names ys name d
names_more xs ys w name d h = λ s is. w s (h s is)

selection_more : (a b : Scope) (candidates : Texts) → AreAmong a.parties b.parties → (d : Data)
    → SelectionResolves a candidates d → SelectionResolves b candidates d
selection_more a b candidates w d h = record {
  candidates = h.candidates;
  parties = λ is e s c text. w s (h.parties is e s c text);
}

-- an election's references are to units and parties
pub election_more : (a b : Scope) → AreAmong a.units b.units → AreAmong a.parties b.parties
    → (d : Data) → ElectionResolves a d → ElectionResolves b d
election_more a b units parties d h = record {
  candidates = λ e c. names_more a.parties b.parties parties (codes "PartyId") e (h.candidates e c);
  contests = λ e c x y. selection_more a b _ parties x (h.contests e c x y);
  unit = names_more a.units b.units units (codes "ElectionScopeId") d h.unit;
}
