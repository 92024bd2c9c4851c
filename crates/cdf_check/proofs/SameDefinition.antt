-- Definitions with the same texts have the same ids and contests: a text spells them.
use Rattle.std.proofs.Common.{◌≡◌, ℕ, List, [], ◌∷◌, map, Contains, inl, inr, Ordering, Less, Equal}
use Rattle.std.proofs.Common.{nat_cmp, codes, refl, sym, ap, ◌∙◌, subst}
use Rattle.std.proofs.Math.Logic.{∥∥₁_elim}
use Rattle.std.proofs.Math.Nat.{ℕ_set}
use mathlib.Core.List.{is_set}
use Rattle.std.specs.List.{AllByRecursion}
use Rattle.std.specs.List.Sorted.{IsStrictlySortedBy}
use Rattle.std.specs.Cmp.{tied_itself}
use Rattle.std.specs.Cmp.Lexicographic.{slice_cmp}
use Rattle.std.proofs.lemmas.Cmp.{nat_list_cmp_total}
use Rattle.serde_json.specs.Data.{Data}
use Rattle.serde_json.specs.Read.{max_depth}
use Rattle.serde_json.specs.Written.{compact_text}
use Rattle.cdf_parts.specs.Parts.{array_at, the_election}
use Rattle.cdf_parts.specs.Places.{contest_of}
use Rattle.cdf_parts.specs.Proper.{IsProper}
use Rattle.cdf_parts.proofs.Laws.{part_proper, listed_part, same_text}
use Rattle.cdf_definition.specs.Named.{IdText, id_and_text, ids_of, texts_of, by_id}
use Rattle.cdf_definition.specs.Frame.{Frame, frame_of, entries_at, IsSame}
use Rattle.cdf_definition.specs.Sound.{IsSound, IsFrame, WasRead}
use Rattle.cdf_definition.specs.Acceptance.{IsReport}
use Rattle.cdf_check.specs.Laws.{IsListOf}
use Rattle.cdf_check.specs.Same.{HaveSameTexts, AgreeInTexts, AreEqualButDevices, SameTextsLaw}
use Rattle.cdf_check.specs.Same.{SameDefinitionsLaw, OneDefinitionLaw}
use Rattle.cdf_check.proofs.Entries.{IsAmong, among_from, from_among}
use Rattle.cdf_check.proofs.Listing.{lists}
use Rattle.cdf_definition.proofs.Laws.{one_election}
use Rattle.cdf_definition.proofs.Lemmas.{by_id-put, election_is, election_listed}
use Rattle.cdf_check.proofs.SameElection.{proper_report}
use Rattle.cdf_definition.proofs.Laws.{sound}

-- ---- entries by their texts

-- an entry of some object that is proper
abbrev IsSpelled : IdText → Type 0
IsSpelled e = (d : Data) × IsProper max_depth d × (id_and_text d ≡ e)

spelled_once : (x y : IdText) → IsSpelled x → IsSpelled y → x.1 ≡ y.1 → x ≡ y
spelled_once x y p q same =
    let text = ap (λ e. e.1) p.2 ∙ same ∙ sym (ap (λ e. e.1) q.2) in
    sym p.2 ∙ ap id_and_text (same_text p.0 q.0 p.1.well p.1.whole p.1.shallow q.1.well q.1.whole
    q.1.shallow text) ∙ q.2

abbrev AreSpelled : List IdText → Type 0
AreSpelled es = (e : IdText) → IsAmong es e → IsSpelled e

text_among : (es : List IdText) (e : IdText) → IsAmong es e → IsAmong (texts_of es) e.1
text_among [] e a = absurd a
text_among (x ∷ es) e (inl is) = inl (ap (λ z. z.1) is)
text_among (x ∷ es) e (inr a) = inr (text_among es e a)

of_text : (es : List IdText) (text : List ℕ) → IsAmong (texts_of es) text
    → (e : IdText) × IsAmong es e × (e.1 ≡ text)
of_text [] text a = absurd a
of_text (x ∷ es) text (inl is) = (x, inl refl, is)
of_text (x ∷ es) text (inr a) = let m = of_text es text a in (m.0, inr m.1, m.2)

-- an entry is also where its text is
within : (es fs : List IdText) → AreSpelled es → AreSpelled fs
    → ((text : List ℕ) → Contains (texts_of es) text → Contains (texts_of fs) text)
    → (e : IdText) → IsAmong es e → IsAmong fs e
within es fs p q there e a =
    let text = among_from (texts_of fs) e.1
    (there e.1 (from_among (texts_of es) e.1 (text_among es e a))) in
    let m = of_text fs e.1 text in
    subst (IsAmong fs) (spelled_once m.0 e (q m.0 m.1) (p e a) m.2) m.1

-- ---- lists that rise by id

abbrev order : List ℕ → List ℕ → Ordering
order = slice_cmp nat_cmp

abbrev Rises : List IdText → Type 0
Rises es = IsStrictlySortedBy order (ids_of es)

-- each id comes after this one
abbrev Under : List ℕ → List IdText → Type 0
Under k es = AllByRecursion (λ i. order k i ≡ Less) (ids_of es)

under : (k : List ℕ) (es : List IdText) (e : IdText) → Under k es → IsAmong es e
    → order k e.0 ≡ Less
under k [] e h a = absurd a
under k (x ∷ es) e h (inl is) = subst (λ z. order k z.0 ≡ Less) is h.0
under k (x ∷ es) e h (inr a) = under k es e h.1 a

not_below_itself : (k : List ℕ) → order k k ≡ Less → ⊥
not_below_itself k h =
    let both : Less ≡ Equal = sym h ∙ tied_itself nat_list_cmp_total k in Prim.cc both

same_heads : (x y : IdText) (xs ys : List IdText) → Under x.0 xs → Under y.0 ys → IsAmong (y ∷ ys) x
    → IsAmong (x ∷ xs) y → x ≡ y
same_heads x y xs ys h k (inl is) b = sym is
same_heads x y xs ys h k (inr a) (inl is) = is
same_heads x y xs ys h k (inr a) (inr b) = absurd
    (not_below_itself x.0 (nat_list_cmp_total.trans x.0 y.0 x.0 (under x.0 xs y h b)
    (under y.0 ys x k a)))

in_tail : (x y e : IdText) (xs ys : List IdText) → Under x.0 xs → x ≡ y → IsAmong xs e
    → IsAmong (y ∷ ys) e → IsAmong ys e
in_tail x y e xs ys h is a (inl first) = absurd
    (not_below_itself x.0 (subst (λ z. order x.0 z.0 ≡ Less) (sym first ∙ sym is)
    (under x.0 xs e h a)))
in_tail x y e xs ys h is a (inr b) = b

-- with the same entries they are one list
same_lists : (xs ys : List IdText) → Rises xs → Rises ys
    → ((e : IdText) → IsAmong xs e → IsAmong ys e) → ((e : IdText) → IsAmong ys e → IsAmong xs e)
    → xs ≡ ys
unfolding IsStrictlySortedBy
same_lists [] [] h k there back = refl
same_lists [] (y ∷ ys) h k there back = absurd (back y (inl refl))
same_lists (x ∷ xs) [] h k there back = absurd (there x (inl refl))
same_lists (x ∷ xs) (y ∷ ys) h k there back =
    let is = same_heads x y xs ys h.0 k.0 (there x (inl refl)) (back y (inl refl)) in
    let rest = same_lists xs ys h.1 k.1 (λ e a. in_tail x y e xs ys h.0 is a (there e (inr a)))
    (λ e a. in_tail y x e ys xs k.0 (sym is) a (back e (inr a))) in
    λ i. is i ∷ rest i

-- ---- two reports that were read

source : (ds : List Data) (e : IdText) → IsAmong (map id_and_text ds) e
    → (d : Data) × IsAmong ds d × (id_and_text d ≡ e)
source [] e a = absurd a
source (d ∷ ds) e (inl is) = (d, inl refl, is)
source (d ∷ ds) e (inr a) = let m = source ds e a in (m.0, inr m.1, m.2)

list_spelled : (name : List ℕ) (d : Data) → IsListOf (entries_at name d) name d
    → IsProper max_depth d → AreSpelled (entries_at name d)
list_spelled name d l proper e a =
    let s = source (array_at name d) e (among_from (map id_and_text (array_at name d)) e
    ((l.members e).0 (from_among (entries_at name d) e a))) in (
      s.0,
      part_proper max_depth s.0 d (listed_part name d s.0
          (from_among (array_at name d) s.0 s.1)) proper,
      s.2,
    )

-- the only entry has the text of the only object
only_text : (d e : Data) → by_id (map id_and_text (d ∷ [])) ≡ by_id (map id_and_text (e ∷ []))
    → compact_text d ≡ compact_text e
only_text d e is = let same : id_and_text d ∷ []
    ≡ id_and_text e ∷ [] = sym (by_id-put (id_and_text d ∷ [])) ∙ is
    ∙ by_id-put (id_and_text e ∷ []) in Prim.cc same

module _ (c d : Data) (read : WasRead c) (also : WasRead d) (r : IsReport c) (q : IsReport d) where
  equal_lists : (name : List ℕ) → IsListOf (entries_at name c) name c
      → IsListOf (entries_at name d) name d
      → HaveSameTexts (entries_at name c) (entries_at name d)
      → entries_at name c ≡ entries_at name d
  equal_lists name l m same =
      let p = list_spelled name c l (proper_report read.0 c read.1.1 r) in
      let s = list_spelled name d m (proper_report also.0 d also.1.1 q) in
      same_lists (entries_at name c) (entries_at name d) l.rises m.rises
      (within (entries_at name c) (entries_at name d) p s (λ text. (same text).0))
      (within (entries_at name d) (entries_at name c) s p (λ text. (same text).1))

  equal_elections : entries_at (codes "Election") c ≡ entries_at (codes "Election") d
      → the_election c ≡ the_election d
  equal_elections same =
      let one = one_election c r in
      let other = one_election d q in
      let p = part_proper max_depth one.0 c
      (listed_part (codes "Election") c one.0 (election_listed c one.0 one.1))
      (proper_report read.0 c read.1.1 r) in
      let s = part_proper max_depth other.0 d
      (listed_part (codes "Election") d other.0 (election_listed d other.0 other.1))
      (proper_report also.0 d also.1.1 q) in
      let entries : by_id (map id_and_text (one.0 ∷ [])) ≡ by_id (map id_and_text (other.0 ∷ [])) =
      ap (λ ds. by_id (map id_and_text ds)) (sym one.1) ∙ same
      ∙ ap (λ ds. by_id (map id_and_text ds)) other.1 in
      election_is c one.0 one.1
      ∙ same_text one.0 other.0 p.well p.whole p.shallow s.well s.whole s.shallow
      (only_text one.0 other.0 entries)
      ∙ sym (election_is d other.0 other.1)

  equal_reports : AgreeInTexts (frame_of c) (frame_of d)
      → AreEqualButDevices (frame_of c) (frame_of d)
  equal_reports same =
      let elections = equal_lists (codes "Election") (lists c r).0 (lists d q).0 same.elections in
      record {
        elections = elections;
        units = equal_lists (codes "GpUnit") (lists c r).1 (lists d q).1 same.units;
        parties = equal_lists (codes "Party") (lists c r).2 (lists d q).2 same.parties;
        contests =
            ap (λ e. map contest_of (array_at (codes "Contest") e)) (equal_elections elections);
      }

  equal_devices : HaveSameTexts (frame_of c).devices (frame_of d).devices
      → (frame_of c).devices ≡ (frame_of d).devices
  equal_devices = equal_lists (codes "ReportingDevice") (lists c r).3 (lists d q).3

-- ---- definitions

abbrev Origin : Frame → Type 0
Origin f = (d : Data) × WasRead d × IsSound d × (f ≡ frame_of d)

-- what is of every two reports is of every two definitions
of_reports : (P : Frame → Frame → Type 0)
    → ((c d : Data) → WasRead c → WasRead d → IsReport c → IsReport d → P (frame_of c) (frame_of d))
    → (f g : Frame) → Origin f → Origin g → P f g
of_reports P each f g (c, read, s, is) (d, also, t, js) =
    subst (λ h. P h g) (sym is) (subst (P (frame_of c)) (sym js)
    (each c d read also ((sound c).0 s) ((sound d).0 t)))

pub equal_but_devices : (f g : Frame) → IsFrame f → IsFrame g → AgreeInTexts f g
    → AreEqualButDevices f g
equal_but_devices f g p q same =
    ∥∥₁_elim p (hlevel (ℕ_set, is_set)) (λ x. ∥∥₁_elim q (hlevel (ℕ_set, is_set))
    (λ y. of_reports (λ h k. AgreeInTexts h k → AreEqualButDevices h k) equal_reports f g x y same))

same_devices : (f g : Frame) → IsFrame f → IsFrame g → HaveSameTexts f.devices g.devices
    → f.devices ≡ g.devices
same_devices f g p q same =
    ∥∥₁_elim p (hlevel (ℕ_set, is_set)) (λ x. ∥∥₁_elim q (hlevel (ℕ_set, is_set))
    (λ y. of_reports (λ h k. HaveSameTexts h.devices k.devices → h.devices ≡ k.devices)
    equal_devices f g x y same))

-- ---- the laws

texts_same : (es fs : List IdText) → texts_of es ≡ texts_of fs → HaveSameTexts es fs
texts_same es fs is text = (
  subst (λ ts. Contains ts text) is,
  subst (λ ts. Contains ts text)
      (sym is),
)

agree : (f g : Frame) → IsSame f g → AgreeInTexts f g
agree f g same = record {
  elections = texts_same f.elections g.elections same.elections;
  units = texts_same f.units g.units same.units;
  parties = texts_same f.parties g.parties same.parties;
}

pub same_texts : SameTextsLaw
same_texts f g p q = (
  agree f g,
  λ same.
      let equal = equal_but_devices f g p q same in
      record {
        elections = ap texts_of equal.elections;
        units = ap texts_of equal.units;
        parties = ap texts_of equal.parties;
      },
)

pub same_definitions : SameDefinitionsLaw
same_definitions f g p q same = equal_but_devices f g p q (agree f g same)

pub one_definition : OneDefinitionLaw
one_definition f g p q one =
    let equal = equal_but_devices f g p q one.texts in
    let devices = same_devices f g p q one.devices in
    λ i. record {
      elections = equal.elections i;
      units = equal.units i;
      parties = equal.parties i;
      devices = devices i;
      contests = equal.contests i;
    }
