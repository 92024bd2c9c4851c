-- A value with the lists of its definition: what is left to look at says whether it is sound and
-- agrees, and lists what its records name.
use Rattle.std.proofs.Common.{◌≡◌, ◌↔◌, inl, inr, ℕ, List, [], ◌∷◌, map, Bool, true, false, subst}
use Rattle.std.proofs.Common.{◌||◌, Contains, Result, Ok, Err, bytes_eq, codes, refl, sym, ap, ◌∙◌}
use Rattle.std.specs.Prelude.{IfOk, IsTrue}
use Rattle.std.specs.List.{list_any}
use Rattle.std.proofs.Math.Logic.{∥∥₁_elim}
use Rattle.std.proofs.lemmas.Cmp.{nat_list_eq_equiv}
use Rattle.std.proofs.lemmas.Map.Views.{lookup-from_Contains}
use Rattle.std.proofs.lemmas.Bool.{or_right}
use Rattle.serde_json.specs.Data.{Data}
use Rattle.serde_json.specs.Find.{get}
use Rattle.serde_json.specs.Written.{compact_text}
use Rattle.cdf_parts.specs.Parts.{array_at, ids_at, id_of}
use Rattle.cdf_parts.specs.Places.{Texts}
use Rattle.cdf_definition.specs.Named.{IdText, id_and_text, ids_of}
use Rattle.cdf_definition.specs.Frame.{Frame, frame_of, entries_at}
use Rattle.cdf_definition.specs.Agreement.{AreListed, Agrees, disagreements}
use Rattle.cdf_definition.specs.Acceptance.{IsReport}
use Rattle.cdf_definition.specs.Sound.{IsSound}
use Rattle.cdf_definition.specs.Lists.{SameLists, HasLists, HasRest}
use Rattle.cdf_definition.proofs.Laws.{agreement, rest_law, rest_of_report, sound}
use Rattle.cdf_definition.proofs.Lemmas.{array_same}
use Rattle.cdf_check.specs.declared.record_names.RecordNames.{RecordNames}
use Rattle.cdf_check.specs.Laws.{IsListOf}
use Rattle.cdf_check.specs.Within.{lists, RestSettles}
use Rattle.cdf_check.specs.Seen.{Settles}
use Rattle.cdf_check.proofs.Entries.{IsAmong, among_from, from_among, alone_by_id}
use Rattle.cdf_check.proofs.Listing.{lists as lists_law}

-- ---- ids

either_way : (a b : Bool) → (a ≡ true → b ≡ true) → (b ≡ true → a ≡ true) → a ≡ b
either_way true b f g = sym (f refl)
either_way false true f g = g refl
either_way false false f g = refl

module _ {X : Type 0} (f : X → List ℕ) (s : List ℕ) where
  any_head : (x : X) (xs : List X) (b : Bool) → bytes_eq s (f x) ≡ b
      → (list_any (bytes_eq s) (map f xs) ≡ true
      → (y : X) × IsAmong xs y × (bytes_eq s (f y) ≡ true))
      → (b || list_any (bytes_eq s) (map f xs)) ≡ true
      → (y : X) × IsAmong (x ∷ xs) y × (bytes_eq s (f y) ≡ true)
  any_head x xs true is later h = (x, inl refl, is)
  any_head x xs false is later h = let r = later h in (r.0, inr r.1, r.2)

  any_at : (xs : List X) → list_any (bytes_eq s) (map f xs) ≡ true
      → (x : X) × IsAmong xs x × (bytes_eq s (f x) ≡ true)
  any_at [] e = absurd (cc)
  any_at (x ∷ xs) e = any_head x xs (bytes_eq s (f x)) refl (any_at xs) e

  any_of : (xs : List X) (x : X) → IsAmong xs x → bytes_eq s (f x) ≡ true
      → list_any (bytes_eq s) (map f xs) ≡ true
  any_of [] x a e = absurd a
  any_of (y ∷ ys) x (inl is) e = rw (subst (λ z. bytes_eq s (f z) ≡ true) (sym is) e) refl
  any_of (y ∷ ys) x (inr a) e = or_right (bytes_eq s (f y)) _ (any_of ys x a e)

among_texts : (ds : List Data) (d : Data) → IsAmong ds d
    → IsAmong (map id_and_text ds) (id_and_text d)
among_texts [] d a = absurd a
among_texts (e ∷ ds) d (inl is) = inl (ap id_and_text is)
among_texts (e ∷ ds) d (inr a) = inr (among_texts ds d a)

abbrev id_in : IdText → List ℕ
id_in e = e.0

any_id : (s : List ℕ) (ds : List Data) (x : IdText) → IsAmong (map id_and_text ds) x
    → bytes_eq s x.0 ≡ true → list_any (bytes_eq s) (map id_of ds) ≡ true
any_id s [] x a e = absurd a
any_id s (d ∷ ds) x (inl is) e =
    rw (subst (λ (y : IdText). bytes_eq s y.0 ≡ true) (sym is) e) refl
any_id s (d ∷ ds) x (inr a) e = or_right (bytes_eq s (id_of d)) _ (any_id s ds x a e)

-- a list of the objects of an array has their ids
ids_same : (es : List IdText) (name : List ℕ) (c : Data) → IsListOf es name c → (s : List ℕ)
    → list_any (bytes_eq s) (ids_of es) ≡ list_any (bytes_eq s) (ids_at name c)
ids_same es name c l s = either_way _ _ there back
  where
    there : list_any (bytes_eq s) (ids_of es) ≡ true → list_any (bytes_eq s) (ids_at name c) ≡ true
    there e =
        let r = any_at id_in s es e in
        any_id s (array_at name c) r.0
        (among_from _ r.0 ((l.members r.0).0 (from_among es r.0 r.1))) r.2

    back : list_any (bytes_eq s) (ids_at name c) ≡ true → list_any (bytes_eq s) (ids_of es) ≡ true
    back e =
        let r = any_at id_of s (array_at name c) e in
        any_of id_in s es (id_and_text r.0) (among_from es _ ((l.members (id_and_text r.0)).1
        (from_among _ _ (among_texts (array_at name c) r.0 r.1)))) r.2

lists_same : (xs ys : Texts) → ((s : List ℕ) → list_any (bytes_eq s) xs
    ≡ list_any (bytes_eq s) ys) → (ts : Texts) → lists xs ts ≡ lists ys ts
lists_same xs ys same [] = refl
lists_same xs ys same (t ∷ ts) = rw (same t, lists_same xs ys same ts) refl

-- ---- agreement

pub listed_itself : (name : List ℕ) (c : Data) → IsListOf (entries_at name c) name c
    → AreListed (entries_at name c) name c
listed_itself name c l e at =
    lookup-from_Contains nat_list_eq_equiv (id_of e) (compact_text e) (entries_at name c)
    (alone_by_id (map id_and_text (array_at name c)))
    ((l.members (id_and_text e)).1
    (from_among _ _ (among_texts (array_at name c) e (among_from _ e at))))

listed_there : (name : List ℕ) (c d : Data) → IsListOf (entries_at name c) name c
    → get name c ≡ get name d → AreListed (entries_at name c) name d
listed_there name c d l same e at = listed_itself name c l e
    (subst (λ ds. Contains ds e) (sym (array_same c d name same)) at)

-- what has the lists of a report agrees with the definition that this gives
agrees : (f : Frame) (c d : Data) → f ≡ frame_of c → IsReport c → SameLists c d → Agrees f d
agrees f c d is r s =
    let l = lists_law c r in
    subst (λ g. Agrees g d) (sym is) (record {
      elections = listed_there (codes "Election") c d l.0 s.elections;
      units = listed_there (codes "GpUnit") c d l.1 s.units;
      parties = listed_there (codes "Party") c d l.2 s.parties;
    })

-- and lists the same units and parties
units_listed : (f : Frame) (c d : Data) → f ≡ frame_of c → IsReport c → SameLists c d
    → (ts : Texts) → lists (ids_of f.units) ts ≡ lists (ids_at (codes "GpUnit") d) ts
units_listed f c d is r s ts =
    ap (λ g. lists (ids_of g.units) ts) is
    ∙ lists_same _ _ (ids_same _ (codes "GpUnit") c (lists_law c r).1) ts
    ∙ ap (λ ds. lists (map id_of ds) ts) (array_same c d (codes "GpUnit") s.units)

parties_listed : (f : Frame) (c d : Data) → f ≡ frame_of c → IsReport c → SameLists c d
    → (ts : Texts) → lists (ids_of f.parties) ts ≡ lists (ids_at (codes "Party") d) ts
parties_listed f c d is r s ts =
    ap (λ g. lists (ids_of g.parties) ts) is
    ∙ lists_same _ _ (ids_same _ (codes "Party") c (lists_law c r).2) ts
    ∙ ap (λ ds. lists (map id_of ds) ts) (array_same c d (codes "Party") s.parties)

-- ---- whatever the report was

abbrev Not : Type 0 → Type 0
Not P = P → ⊥

never : {P : Type 0} → ∥ P ∥₁ → Not (Not P)
never h wrong = ∥∥₁_elim h (λ a b. absurd a) wrong

nil_if : {X : Type 0} (xs : List X) → Not (Not (xs ≡ [])) → xs ≡ []
nil_if [] h = refl
nil_if (x ∷ xs) h = absurd (h (λ e. cc))

same_if : (a b : Bool) → Not (Not (a ≡ b)) → a ≡ b
same_if true true h = refl
same_if true false h = absurd (h (λ e. cc))
same_if false true h = absurd (h (λ e. cc))
same_if false false h = refl

module _ (f : Frame) (d : Data) (h : HasLists f d) (none : array_at (codes "CVR") d ≡ []) where
  sound_rest : HasRest d → IsSound d
  sound_rest rest = (
    nil_if _ (λ wrong. never h (λ q. wrong ((sound d).1
        (rest_law q.0 d ((sound q.0).0 q.1) q.3 none rest)).0)),
    nil_if _ (λ wrong. never h (λ q. wrong ((sound d).1
        (rest_law q.0 d ((sound q.0).0 q.1) q.3 none rest)).1)),
  )

  agrees_with : disagreements f d ≡ []
  agrees_with = nil_if _ (λ wrong. never h (λ q.
      wrong ((agreement f d).1 (agrees f q.0 d q.2 ((sound q.0).0 q.1) q.3))))

  units_are : (ts : Texts) → lists (ids_of f.units) ts ≡ lists (ids_at (codes "GpUnit") d) ts
  units_are ts = same_if _ _ (λ wrong. never h (λ q.
      wrong (units_listed f q.0 d q.2 ((sound q.0).0 q.1) q.3 ts)))

  parties_are : (ts : Texts) → lists (ids_of f.parties) ts ≡ lists (ids_at (codes "Party") d) ts
  parties_are ts = same_if _ _ (λ wrong. never h (λ q.
      wrong (parties_listed f q.0 d q.2 ((sound q.0).0 q.1) q.3 ts)))

  -- what is left settles the names by its rest, and the other way round
  pub settles_rest : (names : RecordNames) → RestSettles f d names ↔ Settles f d names
  settles_rest names = (
    (λ r. record {
      sound = sound_rest r.rest;
      agrees = agrees_with;
      listed = record {
        devices = r.devices;
        units = sym (units_are names.units) ∙ r.units;
        parties = sym (parties_are names.parties) ∙ r.parties;
      };
    }),
    λ s.
        record {
          rest = rest_of_report d ((sound d).0 s.sound);
          devices = s.listed.devices;
          units = units_are names.units ∙ s.listed.units;
          parties = parties_are names.parties ∙ s.listed.parties;
        },
  )

-- an answer to the one is an answer to the other
pub told_as : {P Q E : Type 0} (answer : Result Bool E) → P ↔ Q
    → IfOk answer (λ is. IsTrue is ↔ P) → IfOk answer (λ is. IsTrue is ↔ Q)
told_as (Ok b) same h = ((λ t. same.0 (h.0 t)), λ q. h.1 (same.1 q))
told_as (Err e) same h = tt
