-- The facts that are held of files: those of the definition's devices, and those of the values of
-- the accepted files.
use Rattle.std.proofs.Common.{◌≡◌, ℕ, ◌<◌, List, [], length, get_or, true, ◌⊎◌, inl, inr}
use Rattle.std.proofs.Common.{Option, Some, None, refl, sym, ap, ◌∙◌, subst}
use Rattle.std.proofs.lemmas.Bool.{false≢true}
use Rattle.std.proofs.lemmas.List.{get_or_default}
use Rattle.std.specs.Prelude.{Bool, ◌||◌, ◌↔◌, is_some, if◌then◌else◌}
use Rattle.std.specs.List.{Contains, list_any}
use Rattle.std.specs.Cmp.{both_ways}
use Rattle.std.specs.FinSet.{contains, empty, from_list, same_set, contains-union, contains-empty}
use Rattle.serde_json.specs.Data.{Data}
use Rattle.cdf_types.specs.declared.fault.ReadFault.{ReadFault}
use Rattle.cdf_definition.specs.Frame.{Frame}
use Rattle.cdf_definition.specs.Acceptance.{Valid, first_refusal, value_in}
use Rattle.cdf_definition.proofs.Laws.{valid_file}
use Rattle.cvr_fact_types.specs.Facts.{Fact, Facts, fact_cmp, fact_total, fact_exact}
use Rattle.cvr_facts.specs.Reports.{report_facts, facts}
use Rattle.cvr_facts.proofs.Lemmas.{one_that_passes, passes_by}
use Rattle.cvr_office.specs.CanHold.{starting_content}
use Rattle.cvr_office.specs.Reach.{union_over}
use Rattle.cvr_office.proofs.Lemmas.{or_cases, or_left, or_right, contains-union_over}
use Rattle.cvr_run.specs.Laws.{HasAccepted, HaveSameBytes, HaveSameValues}
use Rattle.cvr_run.specs.Outcome.{accepted_facts, content_of_files}

-- ---- sets by values

-- the facts of a value
abbrev pub value_facts : Data → Facts
value_facts v = from_list (report_facts v)

-- these are the definition's devices, and the facts of these values
abbrev pub AreFactsOf : Frame → (Data → Type 0) → Facts → Type 0
AreFactsOf definition among s = (q : Fact)
    → (contains s q ≡ true) ↔ ((contains (starting_content definition) q ≡ true)
    ⊎ ((v : Data) × among v × (contains (value_facts v) q ≡ true)))

module _ (definition : Frame) where
  also_there : (P Q : Data → Type 0) (s t : Facts) → AreFactsOf definition P s
      → AreFactsOf definition Q t → ((v : Data) → P v → Q v) → (q : Fact) → contains s q ≡ true
      → contains t q ≡ true
  also_there P Q s t of_s of_t more q h =
      elim ((of_s q).0 h) [
        | inl at_first ↦ (of_t q).1 (inl at_first)
        | inr from ↦ (of_t q).1 (inr (from.0, more from.0 from.1, from.2))
      ]

  -- those of the same values are the same
  pub same_by_values : (P Q : Data → Type 0) (s t : Facts) → AreFactsOf definition P s
      → AreFactsOf definition Q t → ((v : Data) → P v ↔ Q v) → s ≡ t
  same_by_values P Q s t of_s of_t same =
      same_set fact_total fact_exact s t
      (λ q. both_ways (contains s q) (contains t q)
      (also_there P Q s t of_s of_t (λ v. (same v).0) q)
      (also_there Q P t s of_t of_s (λ v. (same v).1) q))

-- ---- what is held

-- a fact of the accepted file is one of the file, which is accepted
of_accepted : (first : Option ReadFault) (some : Facts) (q : Fact)
    → contains (if is_some first then empty else some) q ≡ true
    → (first ≡ None) × (contains some q ≡ true)
of_accepted None some q h = (refl, h)
of_accepted (Some fault) some q h = absurd (false≢true (sym (contains-empty fact_cmp q) ∙ h))

in_accepted : (first : Option ReadFault) (some : Facts) (q : Fact) → first ≡ None
    → contains some q ≡ true → contains (if is_some first then empty else some) q ≡ true
in_accepted None some q is h = h
in_accepted (Some fault) some q is h = absurd (Prim.cc is)

module _ (definition : Frame) (files : List (List ℕ)) where
  -- an accepted file of a value, by its place
  abbrev pub HasPlace : Data → Type 0
  HasPlace v = (f : ℕ) × (f < length files) × Valid definition (get_or files f [])
      × (value_in (get_or files f []) ≡ v)

  pub placed : (v : Data) → HasAccepted definition files v → HasPlace v
  placed v has =
      let at = has.1 in
      let is : has.0 ≡ get_or files at.0 [] =
      sym (get_or_default files at.0 [] has.0 at.1 ∙ at.2) in
      (at.0, at.1, subst (Valid definition) is has.2, ap value_in (sym is) ∙ has.3)

  pub from_place : (v : Data) → HasPlace v → HasAccepted definition files v
  from_place v has = let file = get_or files has.0 [] in
      (file, (has.0, has.1, get_or_default files has.0 file [] has.1), has.2, has.3)

  abbrev gives : Fact → List ℕ → Bool
  gives q file = contains (accepted_facts definition file) q

  in_held : (q : Fact) → contains (content_of_files definition files) q
      ≡ (contains (starting_content definition) q || list_any (gives q) files)
  in_held q =
      contains-union fact_total (starting_content definition)
      (union_over (accepted_facts definition) files) q
      ∙ ap (λ b. contains (starting_content definition) q || b)
      (contains-union_over (accepted_facts definition) files q)

  held_from : (q : Fact) (file : List ℕ) → Contains files file → Valid definition file
      → contains (facts file) q ≡ true → contains (content_of_files definition files) q ≡ true
  held_from q file at valid h =
      in_held q
      ∙ or_right (contains (starting_content definition) q) _
      (passes_by (gives q) files file at
      (in_accepted (first_refusal definition file) (facts file) q
      ((valid_file definition file).1 valid) h))

  pub held_of : AreFactsOf definition (HasAccepted definition files)
      (content_of_files definition files)
  held_of q = (
    λ h. elim (or_cases _ _ (sym (in_held q) ∙ h)) [
      | inl at_first ↦ inl at_first
      | inr some ↦
          let one = one_that_passes (gives q) files some in
          let parts = of_accepted (first_refusal definition one.0) (facts one.0) q one.2 in
          inr (
            value_in one.0,
            (one.0, one.1, (valid_file definition one.0).0 parts.0, refl),
            parts.1,
          )
    ],
    λ has. elim has [
      | inl at_first ↦ in_held q ∙ or_left _ _ at_first
      | inr from ↦ let file = from.1 in
          held_from q file.0 file.1 file.2
          (ap (λ (v : Data). contains (value_facts v) q) file.3 ∙ from.2)
    ],
  )

-- ---- the same values

pub same_held : (definition : Frame) (files others : List (List ℕ))
    → HaveSameValues definition files others
    → content_of_files definition files ≡ content_of_files definition others
same_held definition files others same =
    same_by_values definition (HasAccepted definition files) (HasAccepted definition others)
    (content_of_files definition files) (content_of_files definition others)
    (held_of definition files) (held_of definition others) same

pub by_bytes : (definition : Frame) (files others : List (List ℕ)) → HaveSameBytes files others
    → HaveSameValues definition files others
by_bytes definition files others same v = (
  λ has. (has.0, (same has.0).0 has.1, has.2, has.3),
  λ has. (has.0, (same has.0).1 has.1, has.2, has.3),
)
