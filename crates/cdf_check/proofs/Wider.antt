-- References that name something still do where more can be named.
use Rattle.std.proofs.Common.{◌≡◌, ℕ, List, [], ◌∷◌, ◌++◌, map, Contains}
use Rattle.std.proofs.Common.{Bool, true, false, cond, ◌||◌, bytes_eq, Option, Some, None, codes}
use Rattle.std.proofs.Common.{refl, sym, ap, ◌∙◌, subst}
use Rattle.std.proofs.lemmas.Slice.Eq.{bytes_eq-Decides}
use Rattle.std.specs.List.{list_any}
use Rattle.std.specs.Prelude.{option_and_then}
use Rattle.serde_json.specs.Data.{Data}
use Rattle.serde_json.specs.Find.{get, as_str}
use Rattle.serde_json.specs.Written.{compact_text}
use Rattle.cdf_form.specs.Form.{at_member}
use Rattle.cdf_parts.specs.Parts.{array_at, ids_at, id_of, text_at, text_in}
use Rattle.cdf_parts.specs.Places.{Texts, Contest, contest_ids, selections_of}
use Rattle.cdf_definition.specs.Paths.{Path, below, itself_unless, below_each, each}
use Rattle.cdf_definition.specs.References.{Scope, scope_of, unknown, one, many}
use Rattle.cdf_definition.specs.References.{in_selection_vote, in_contest_vote, in_snapshot, in_cvr}
use Rattle.cdf_definition.specs.Named.{IdText, ids_of, text_of}
use Rattle.cdf_definition.specs.Frame.{Frame, scope_in}
use Rattle.cdf_definition.specs.Agreement.{Agrees}
use Rattle.cdf_definition.specs.Bodies.{IsInHeader}
use Rattle.cdf_check.specs.Wider.{Includes, Wider, IsResolved}
use Rattle.cdf_check.proofs.Apart.{listed}
use Rattle.cdf_definition.proofs.Lemmas.{left_nil, right_nil, inner, unless_nil, all_items}
use Rattle.cdf_definition.proofs.Lemmas.{at_head, at_tail, both_nil}
use Rattle.cdf_definition.proofs.Laws.{is_kept}

-- ---- lists of paths

-- where none is found, none is in an item
pub each_at : (f : Data → List Path) (name : List ℕ) (d e : Data)
    → each f name d ≡ [] → Contains (array_at name d) e → f e ≡ []
each_at f name d e h a = (all_items f (λ x. f x ≡ []) (λ x. ((λ p. p), (λ p. p))) name d).0 h e a

-- where f finds none, neither does g
pub each_wider : (f g : Data → List Path) → ((d : Data) → f d ≡ [] → g d ≡ [])
    → (name : List ℕ) (d : Data)
    → each f name d ≡ [] → each g name d ≡ []
each_wider f g h name d e =
    (all_items g (λ x. g x ≡ []) (λ x. ((λ p. p), (λ p. p))) name d).1
    (λ x a. h x (each_at f name d x e a))

-- ---- wider scopes

unknown_wider : (xs ys : Texts) → Includes xs ys → (o : Option (List ℕ)) → unknown xs o ≡ []
    → unknown ys o ≡ []
unknown_wider xs ys w None e = refl
unknown_wider xs ys w (Some s) e = ap itself_unless (w s (unless_nil (list_any (bytes_eq s) xs) e))

pub one_wider : (xs ys : Texts) → Includes xs ys → (name : List ℕ) (d : Data) → one xs name d ≡ []
    → one ys name d ≡ []
one_wider xs ys w name d e =
    ap (below (at_member name)) (unknown_wider xs ys w (text_in name d)
    ((inner (at_member name) (unknown xs (text_in name d)) ((λ p. p), (λ p. p))).0 e))

pub many_wider : (xs ys : Texts) → Includes xs ys → (name : List ℕ) (d : Data) → many xs name d ≡ []
    → many ys name d ≡ []
many_wider xs ys w name d e =
    each_wider (λ x. unknown xs (as_str x)) (λ x. unknown ys (as_str x))
    (λ x. unknown_wider xs ys w (as_str x)) name d e

-- a vote's references are those of the contests alone
abbrev vote_paths : List Contest → Data → List Path
vote_paths contests d =
    each (in_selection_vote (selections_of contests (text_at (codes "ContestId") d)))
    (codes "CVRContestSelection") d
    ++ one (contest_ids contests) (codes "ContestId") d

vote_same : (a b : Scope) → a.contests ≡ b.contests → (d : Data)
    → in_contest_vote a d ≡ in_contest_vote b d
vote_same a b same d = ap (λ cs. vote_paths cs d) same

pub snapshot_wider : (a b : Scope) → a.contests ≡ b.contests → (d : Data) → in_snapshot a d ≡ []
    → in_snapshot b d ≡ []
snapshot_wider a b same d e =
    each_wider (in_contest_vote a) (in_contest_vote b) (λ x p. sym (vote_same a b same x) ∙ p)
    (codes "CVRContest") d e

-- ---- the references of a CVR

six_nil : (p q r s t u : List Path) → p ++ (q ++ (r ++ (s ++ (t ++ u)))) ≡ []
    → (p ≡ []) × (q ≡ []) × (r ≡ []) × (s ≡ []) × (t ≡ []) × (u ≡ [])
six_nil p q r s t u h =
    let h1 = right_nil p (q ++ (r ++ (s ++ (t ++ u)))) h in
    let h2 = right_nil q (r ++ (s ++ (t ++ u))) h1 in
    let h3 = right_nil r (s ++ (t ++ u)) h2 in
    let h4 = right_nil s (t ++ u) h3 in (
      left_nil p _ h,
      left_nil q _ h1,
      left_nil r _ h2,
      left_nil s _ h3,
      left_nil t u h4,
      right_nil t
          u h4,
    )

nil_six : (p q r s t u : List Path) → p ≡ [] → q ≡ [] → r ≡ [] → s ≡ [] → t ≡ [] → u ≡ []
    → p ++ (q ++ (r ++ (s ++ (t ++ u)))) ≡ []
nil_six p q r s t u hp hq hr hs ht hu =
    both_nil p _ hp (both_nil q _ hq (both_nil r _ hr (both_nil s _ hs (both_nil t u ht hu))))

pub cvr_parts : (a : Scope) (d : Data) → in_cvr a d ≡ [] → IsResolved a d
cvr_parts a d h =
    let p = six_nil _ _ _ _ _ _ h in
    record {
      unit = p.0;
      snapshots = p.1;
      device = p.2;
      current = p.3;
      election = p.4;
      parties = p.5;
    }

pub parts_cvr : (a : Scope) (d : Data) → IsResolved a d → in_cvr a d ≡ []
parts_cvr a d h = nil_six _ _ _ _ _ _ h.unit h.snapshots h.device h.current h.election h.parties

-- ---- a CVR without its snapshots

-- the value has no snapshots, and the other members of the CVR
pub record IsHeaderOf (d h : Data) : Type 0 where
  pub others : (name : List ℕ) → IsInHeader name → get name h ≡ get name d
  pub no_snapshots : get (codes "CVRSnapshot") h ≡ None
  pub no_current : get (codes "CurrentSnapshotId") h ≡ None

kept_one : (ids : Texts) (name : List ℕ) (d h : Data) → get name h ≡ get name d
    → one ids name d ≡ [] → one ids name h ≡ []
kept_one ids name d h same e =
    ap (λ o. below (at_member name) (unknown ids (option_and_then as_str o))) same ∙ e

kept_many : (ids : Texts) (name : List ℕ) (d h : Data) → get name h ≡ get name d
    → many ids name d ≡ [] → many ids name h ≡ []
kept_many ids name d h same e =
    ap (λ o. below (at_member name) (below_each (λ x. unknown ids (as_str x)) (listed o) 0)) same
    ∙ e

none_each : (f : Data → List Path) (name : List ℕ) (h : Data) → get name h ≡ None
    → each f name h ≡ []
none_each f name h none = ap (λ o. below (at_member name) (below_each f (listed o) 0)) none

none_one : (ids : Texts) (name : List ℕ) (h : Data) → get name h ≡ None → one ids name h ≡ []
none_one ids name h none =
    ap (λ o. below (at_member name) (unknown ids (option_and_then as_str o))) none

-- a CVR's header has only references that the CVR has
pub header_wider : (a b : Scope) → Wider a b → (d h : Data) → IsHeaderOf d h → in_cvr a d ≡ []
    → in_cvr b h ≡ []
header_wider a b w d h of e =
    let p = cvr_parts a d e in
    let kept_unit =
    of.others (codes "BallotStyleUnitId") (is_kept (codes "BallotStyleUnitId") refl refl) in
    let kept_device =
    of.others (codes "CreatingDeviceId") (is_kept (codes "CreatingDeviceId") refl refl) in
    let kept_election = of.others (codes "ElectionId") (is_kept (codes "ElectionId") refl refl) in
    let kept_parties = of.others (codes "PartyIds") (is_kept (codes "PartyIds") refl refl) in
    parts_cvr b h record {
      unit = kept_one b.units (codes "BallotStyleUnitId") d h kept_unit
          (one_wider a.units b.units w.units (codes "BallotStyleUnitId") d p.unit);
      snapshots = none_each (in_snapshot b) (codes "CVRSnapshot") h of.no_snapshots;
      device = kept_one b.devices (codes "CreatingDeviceId") d h kept_device
          (one_wider a.devices b.devices w.devices (codes "CreatingDeviceId") d p.device);
      current =
          none_one (ids_at (codes "CVRSnapshot") h) (codes "CurrentSnapshotId") h of.no_current;
      election = kept_one b.elections (codes "ElectionId") d h kept_election
          (one_wider a.elections b.elections w.elections (codes "ElectionId") d p.election);
      parties = kept_many b.parties (codes "PartyIds") d h kept_parties
          (many_wider a.parties b.parties w.parties (codes "PartyIds") d p.parties);
    }

-- ---- what agrees with a definition

listed_at : (b : Bool) (text found : List ℕ) (rest : Option (List ℕ)) (later : Bool)
    → (rest ≡ Some found → later ≡ true) → cond b (Some text) rest ≡ Some found
    → (b || later) ≡ true
listed_at true text found rest later h e = refl
listed_at false text found rest later h e = h e

-- an id that has a text is one of the ids
pub text_listed : (entries : List IdText) (id text : List ℕ) → text_of entries id ≡ Some text
    → list_any (bytes_eq id) (ids_of entries) ≡ true
text_listed [] id text e = absurd (cc)
text_listed (x ∷ xs) id text e =
    listed_at (bytes_eq id x.0) x.1 text (text_of xs id) (list_any (bytes_eq id) (ids_of xs))
    (text_listed xs id text) e

covers_at : (entries : List IdText) (d : Data) (ds : List Data) (s : List ℕ) (b : Bool)
    → bytes_eq s (id_of d) ≡ b
    → list_any (bytes_eq (id_of d)) (ids_of entries) ≡ true
    → (list_any (bytes_eq s) (map id_of ds) ≡ true → list_any (bytes_eq s) (ids_of entries) ≡ true)
    → (b || list_any (bytes_eq s) (map id_of ds)) ≡ true
    → list_any (bytes_eq s) (ids_of entries) ≡ true
covers_at entries d ds s true is here rest e =
    subst (λ x. list_any (bytes_eq x) (ids_of entries) ≡ true)
    (sym ((bytes_eq-Decides s (id_of d)).0 is)) here
covers_at entries d ds s false is here rest e = rest e

pub covers : (entries : List IdText) (ds : List Data)
    → ((e : Data) → Contains ds e → text_of entries (id_of e) ≡ Some (compact_text e))
    → Includes (map id_of ds) (ids_of entries)
covers entries [] h s e = absurd (cc)
covers entries (d ∷ ds) h s e =
    covers_at entries d ds s (bytes_eq s (id_of d)) refl
    (text_listed entries (id_of d) (compact_text d) (h d (at_head d ds)))
    (λ p. covers entries ds (λ x a. h x (at_tail d x ds a)) s p) e

-- a report that agrees names no more than the definition and its own devices
pub agreed_wider : (frame : Frame) (d : Data) → Agrees frame d
    → (scope_of d).contests ≡ frame.contests
    → Wider (scope_of d) (scope_in frame (ids_at (codes "ReportingDevice") d))
agreed_wider frame d h same = record {
  elections = covers frame.elections (array_at (codes "Election") d) h.elections;
  units = covers frame.units (array_at (codes "GpUnit") d) h.units;
  parties = covers frame.parties (array_at (codes "Party") d) h.parties;
  devices = λ s e. e;
  contests = same;
}
