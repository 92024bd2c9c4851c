-- The contest of a vote: where its selections are known, so is it.
use Rattle.std.proofs.Common.{◌≡◌, ℕ, ◌+◌, List, [], ◌∷◌, ◌++◌, true, Option, Some, None, option_map}
use Rattle.std.proofs.Common.{is_some, unwrap_or, bytes_eq, codes, refl, sym, ap, ◌∙◌, append-nil}
use Rattle.std.specs.List.{list_any}
use Rattle.serde_json.specs.Data.{Data}
use Rattle.cdf_form.specs.Form.{at_member}
use Rattle.cdf_parts.specs.Parts.{array_at, text_in, text_at}
use Rattle.cdf_parts.specs.Places.{Texts, Contest, contest_ids, place_in, selections_at}
use Rattle.cdf_parts.specs.Places.{selections_of}
use Rattle.cdf_parts.proofs.Lemmas.{known_place}
use Rattle.cdf_definition.specs.Paths.{Path, below, below_each, each}
use Rattle.cdf_definition.specs.References.{unknown, one, in_selection_vote, in_contest_vote}
use Rattle.cdf_definition.specs.Scoped.{contests_alone}

there : (f : ℕ → Texts) (o : Option ℕ) (ids : Texts) → option_map f o ≡ Some ids
    → is_some o ≡ true
there f None ids e = cc
there f (Some p) ids e = refl

none_unknown : (cs : List Contest) (name : List ℕ) (o : Option (List ℕ)) (ids : Texts)
    → selections_of cs (unwrap_or o []) ≡ Some ids
    → below (at_member name) (unknown (contest_ids cs) o) ≡ []
none_unknown cs name None ids e = refl
none_unknown cs name (Some s) ids e =
    let known : list_any (bytes_eq s) (contest_ids cs) ≡ true =
    sym (known_place s (contest_ids cs))
    ∙ there (λ place. selections_at cs place) (place_in (contest_ids cs) s) ids e in
    rw known refl

nothing : (ds : List Data) (i : ℕ) → below_each (λ d. []) ds i ≡ []
nothing [] i = refl
nothing (d ∷ ds) i = nothing ds (i + 1)

abbrev in_both : List Contest → Data → Option Texts → List Path
in_both cs d o = each (in_selection_vote o) (codes "CVRContestSelection") d
    ++ one (contest_ids cs) (codes "ContestId") d

pub in_known : (cs : List Contest) (d : Data) (ids : Texts)
    → selections_of cs (text_at (codes "ContestId") d) ≡ Some ids
    → in_contest_vote (contests_alone cs) d
    ≡ each (one ids (codes "ContestSelectionId")) (codes "CVRContestSelection") d
in_known cs d ids e =
    let votes = each (one ids (codes "ContestSelectionId")) (codes "CVRContestSelection") d in
    ap (in_both cs d) e
    ∙ ap (λ (ps : List Path). votes ++ ps)
    (none_unknown cs (codes "ContestId") (text_in (codes "ContestId") d) ids e)
    ∙ append-nil votes

pub in_unknown : (cs : List Contest) (d : Data)
    → selections_of cs (text_at (codes "ContestId") d) ≡ None
    → in_contest_vote (contests_alone cs) d ≡ one (contest_ids cs) (codes "ContestId") d
in_unknown cs d e = ap (in_both cs d) e
    ∙ ap (λ (ps : List Path). below (at_member (codes "CVRContestSelection")) ps
    ++ one (contest_ids cs) (codes "ContestId") d)
    (nothing (array_at (codes "CVRContestSelection") d) 0)
