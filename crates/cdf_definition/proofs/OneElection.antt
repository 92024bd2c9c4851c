-- What a sound report has: one Election, and no fractional number in an array.
use Rattle.std.proofs.Common.{◌≡◌, ℕ, List, [], ◌∷◌, length, get_or, map, false, ap, ◌∙◌, refl}
use Rattle.std.proofs.Common.{arith, sym}
use Rattle.std.specs.List.{list_any}
use Rattle.std.specs.Coded.{Coded-set, coded_ℕ}
use Rattle.std.proofs.Math.Logic.{∥∥₁_elim, ∥∥₁_map}
use Rattle.serde_json.specs.Data.{Data}
use Rattle.serde_json.specs.Written.{has_float}
use Rattle.cdf_parts.specs.Parts.{array_at}
use Rattle.cdf_parts.specs.Places.{Texts}
use Rattle.cdf_form.specs.Reading.{document_faults}
use Rattle.cdf_form.proofs.Lemmas.{left_nil}
use Rattle.cdf_form.proofs.Laws.{whole_of}
use Rattle.cdf_parts.proofs.Laws.{whole_array}
use Rattle.cdf_definition.specs.Named.{id_and_text, by_id, texts_of}
use Rattle.cdf_definition.specs.Frame.{Frame, frame_of}
use Rattle.cdf_definition.specs.Sound.{IsSound, IsFrame}
use Rattle.cdf_definition.specs.Lists.{AreOfOne, AreListsOf, HasLists}
use Rattle.cdf_definition.specs.declared.lists.Lists.{Lists}
use Rattle.cdf_definition.proofs.ById.{by_id-put}
use Rattle.cdf_definition.proofs.Sounding.{sound}
use Rattle.cdf_definition.proofs.Reports.{one_election}

pub whole_at : (name : List ℕ) (d : Data) → document_faults d ≡ []
    → list_any has_float (array_at name d) ≡ false
whole_at name d h = whole_array d name (whole_of d (left_nil _ _ h))

one_of : (d : Data) → IsSound d → length (texts_of (frame_of d).elections) ≡ 1
one_of d h =
    let one = one_election d ((sound d).0 h) in
    ap (λ ds. length (texts_of (by_id (map id_and_text ds)))) one.1
    ∙ ap (λ es. length (texts_of es)) (by_id-put (id_and_text one.0 ∷ []))

-- a definition has the text of one Election
pub one_text : (f : Frame) → IsFrame f → length (texts_of f.elections) ≡ 1
one_text f is = ∥∥₁_elim is (Coded-set coded_ℕ _ _)
    (λ h. ap (λ g. length (texts_of g.elections)) h.3 ∙ one_of h.0 h.2)

pub only_text : (texts : Texts) (d : List ℕ) → length texts ≡ 1 → texts ≡ get_or texts 0 d ∷ []
only_text [] d e = absurd (omega arith)
only_text (t ∷ []) d e = refl
only_text (t ∷ (u ∷ texts)) d e = absurd (omega arith)

-- ---- what a definition is made with

pub is_frame : (f : Frame) (lists : Lists) → AreOfOne f lists → IsFrame f
is_frame f lists h = ∥∥₁_map h (λ q. (q.0, q.1, q.2, q.3))

-- a value in which its lists stand has those of the report
pub has_lists : (f : Frame) (lists : Lists) (d : Data) → AreOfOne f lists → AreListsOf lists d
    → HasLists f d
has_lists f lists d h a = ∥∥₁_map h (λ q. (
  q.0,
  q.2,
  q.3,
  record {
    elections = sym q.4.elections ∙ a.elections;
    units = sym q.4.units ∙ a.units;
    parties = sym q.4.parties ∙ a.parties;
  },
))
