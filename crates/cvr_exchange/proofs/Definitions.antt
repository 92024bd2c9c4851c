-- What a definition's texts spell: the objects of a sound report.
use Rattle.std.proofs.Common.{◌≡◌, ℕ, List, [], ◌∷◌, map, Contains, Bool, true, codes, unwrap_or}
use Rattle.std.proofs.Common.{refl, sym, ap, ◌∙◌, subst}
use Rattle.std.proofs.Math.Logic.{∥∥₁_elim}
use mathlib.Core.Bool.{Bool-set}
use Rattle.serde_json.specs.Data.{Data, null}
use Rattle.serde_json.specs.Written.{compact_text}
use Rattle.cdf_parts.specs.Parts.{array_at, id_of, the_election}
use Rattle.cdf_parts.specs.Places.{contest_of}
use Rattle.cdf_parts.proofs.Laws.{part_reads_back, listed_part}
use Rattle.cdf_definition.specs.Acceptance.{Holds, IsReport}
use Rattle.cdf_definition.specs.Agreement.{Agrees}
use Rattle.cdf_definition.specs.Frame.{Frame, frame_of, entries_at}
use Rattle.cdf_check.specs.Laws.{IsListOf}
use Rattle.cdf_definition.specs.Named.{IdText, id_and_text, by_id, ids_of, texts_of}
use Rattle.cdf_definition.specs.Sound.{IsFrame}
use Rattle.cdf_definition.proofs.Laws.{was_read, report_proper, listed_proper, one_election, sound}
use Rattle.cdf_check.proofs.Laws.{lists, file_utf8, part_utf8}
use Rattle.cdf_definition.proofs.Lemmas.{by_id-put, election_listed}
use Rattle.cvr_facts.specs.Choosing.{data_of}
use Rattle.cvr_facts.proofs.Lemmas.{at_head, at_tail, in_map, from_map}
use Rattle.cvr_office.proofs.Laws.{entry_source, own_agrees}
use Rattle.cvr_exchange.proofs.Arrays.{IsRising}
use Rattle.cvr_exchange.proofs.Clean.{IsClean}

-- the values that the texts of entries spell
abbrev pub values : List IdText → List Data
values entries = map data_of (texts_of entries)

-- they are the objects under a name of a report, and have the entries' ids
pub record AreValuesOf (entries : List IdText) (name : List ℕ) (d : Data) : Type 0 where
  pub each : (x : Data) → Contains (values entries) x → Contains (array_at name d) x
  pub all : (x : Data) → Contains (array_at name d) x → Contains (values entries) x
  pub ids : map id_of (values entries) ≡ ids_of entries
  pub rises : IsRising (ids_of entries)
  pub clean : (x : Data) → Contains (values entries) x → IsClean 125 x

-- a definition is what is kept of this sound report
pub record IsDefined (frame : Frame) (d : Data) : Type 0 where
  pub report : IsReport d
  pub elections : AreValuesOf frame.elections (codes "Election") d
  pub units : AreValuesOf frame.units (codes "GpUnit") d
  pub parties : AreValuesOf frame.parties (codes "Party") d
  pub election : values frame.elections ≡ array_at (codes "Election") d
  pub contests : frame.contests ≡ map contest_of (array_at (codes "Contest") (the_election d))
  pub agrees : Agrees frame d

ids_same : (es : List IdText) → ((e : IdText) → Contains es e → id_of (data_of e.1) ≡ e.0)
    → map id_of (values es) ≡ ids_of es
ids_same [] h = refl
ids_same (e ∷ es) h = λ i. h e (at_head e es) i ∷ ids_same es (λ f a. h f (at_tail e f es a)) i

module _ (bytes : List ℕ) (d : Data) (holds : Holds bytes d) (r : IsReport d) where
  -- an object's text spells it
  back : (name : List ℕ) (x : Data) → Contains (array_at name d) x → data_of (compact_text x) ≡ x
  back name x a = ap (λ o. unwrap_or o null)
      (part_reads_back bytes d x (was_read bytes d holds.1) r.whole (listed_part name d x a))

  -- which object an entry is of
  source : (name : List ℕ) → IsListOf (entries_at name d) name d → (e : IdText)
      → Contains (entries_at name d) e
      → (x : Data) × Contains (array_at name d) x × (data_of e.1 ≡ x) × (id_of x ≡ e.0)
  source name list e a =
      let s = entry_source name d list e a in (
        s.0,
        s.1,
        ap (λ (y : IdText). data_of y.1) (sym s.2)
            ∙ back name s.0 s.1,
        ap (λ (y : IdText). y.0) s.2,
      )

  value_source : (name : List ℕ) → IsListOf (entries_at name d) name d → (x : Data)
      → Contains (values (entries_at name d)) x → Contains (array_at name d) x
  value_source name list x a =
      let t = from_map data_of x (texts_of (entries_at name d)) a in
      let e = from_map (λ (y : IdText). y.1) t.0 (entries_at name d) t.1 in
      let s = source name list e.0 e.1 in
      subst (Contains (array_at name d)) (sym s.2 ∙ (ap data_of e.2 ∙ t.2)) s.1

  values_of_list : (name : List ℕ) → IsListOf (entries_at name d) name d
      → AreValuesOf (entries_at name d) name d
  values_of_list name list = record {
    each = value_source name list;
    all = λ x a.
        subst (Contains (values (entries_at name d))) (back name x a)
        (in_map data_of (compact_text x) (texts_of (entries_at name d))
        (in_map (λ (y : IdText). y.1) (id_and_text x) (entries_at name d)
        ((list.members (id_and_text x)).1 (in_map id_and_text x (array_at name d) a))));
    ids = ids_same (entries_at name d) (λ e a. let s = source name list e a in ap id_of s.2 ∙ s.3);
    rises = list.rises;
    clean = λ x a.
        let b = value_source name list x a in record {
          proper = listed_proper 125 name d x b (report_proper bytes d holds.1 r);
          utf8 = part_utf8 x d (listed_part name d x b) (file_utf8 bytes d holds.1);
        };
  }

  defined : IsDefined (frame_of d) d
  defined =
      let l = lists d r in
      let one = one_election d r in
      record {
        report = r;
        elections = values_of_list (codes "Election") l.0;
        units = values_of_list (codes "GpUnit") l.1;
        parties = values_of_list (codes "Party") l.2;
        election =
            subst (λ ds. values (by_id (map id_and_text ds)) ≡ ds) (sym one.1)
            (ap values (by_id-put (id_and_text one.0 ∷ []))
            ∙ ap (λ x. x ∷ []) (back (codes "Election") one.0 (election_listed d one.0 one.1)));
        contests = refl;
        agrees = own_agrees d r;
      }

-- a test holds of a definition where it holds of each that is kept of a sound report
pub of_definition : (frame : Frame) → IsFrame frame → (b : Bool)
    → ((d : Data) → IsDefined frame d → b ≡ true) → b ≡ true
of_definition frame is b h =
    ∥∥₁_elim is (Bool-set _ _) (λ q. h q.0
    (subst (λ f. IsDefined f q.0) (sym q.3) (defined q.1.0 q.0 q.1.1 ((sound q.0).0 q.2))))
