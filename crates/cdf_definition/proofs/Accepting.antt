-- A file is accepted exactly where no cause applies.
use Rattle.std.proofs.Common.{◌≡◌, ℕ, ◌≤◌, List, [], ◌∷◌, length, Bool, true, Option, Some, None}
use Rattle.std.proofs.Common.{option_map, nat_le, refl, ◌∙◌, arith}
use Rattle.std.specs.Prelude.{if◌then◌else◌}
use Rattle.std.specs.Option.{option_or}
use Rattle.std.proofs.lemmas.Bool.Decides.{nat_tests}
use Rattle.std.proofs.lemmas.Bool.{le-leb}
use Rattle.serde_json.specs.Data.{Data}
use Rattle.cdf_types.specs.declared.fault.ReadFault.{ReadFault}
use Rattle.cdf_types.specs.declared.fault.ReadFault.TheVariants.{TooLong, Reference, Disagrees}
use Rattle.cdf_form.specs.Form.{Fault, first}
use Rattle.cdf_form.specs.Form as form
use Rattle.cdf_form.specs.Path.{path_text}
use Rattle.cdf_form.specs.Reading.{value_of, max_file, document_faults, refusal_of, of_value}
use Rattle.cdf_form.specs.Reading.{of_file}
use Rattle.cdf_definition.specs.Paths.{Path}
use Rattle.cdf_definition.specs.References.{missing_paths}
use Rattle.cdf_definition.specs.Agreement.{disagreements, Agrees}
use Rattle.cdf_definition.specs.Frame.{Frame}
use Rattle.cdf_definition.specs.Acceptance.{Holds, IsReport, own_refusal, value_refusal}
use Rattle.cdf_definition.specs.Laws.{ValueLaw, SoundFileLaw, ValidFileLaw}
use Rattle.cdf_definition.proofs.Agreeing.{agreement}
use Rattle.cdf_definition.proofs.Sounding.{sound}

-- ---- values

pub none_right : (xs : List Fault) → form.first xs ≡ None → xs ≡ []
none_right [] e = refl
none_right (x ∷ xs) e = cc

pub unmapped : {A B : Type 0} (f : A → B) (o : Option A) → option_map f o ≡ None → o ≡ None
unmapped f None e = refl
unmapped f (Some a) e = cc

pub either : {A : Type 0} (a b : Option A) → option_or a b ≡ None → (a ≡ None) × (b ≡ None)
either None b e = (refl, e)
either (Some r) b e = absurd (cc)

no_path : (ps : List Path) → first ps ≡ None → ps ≡ []
no_path [] e = refl
no_path (p ∷ ps) e = absurd (cc)

own_none : (d : Data) → own_refusal d ≡ None → IsReport d
own_none d e =
    let h = either (option_map refusal_of (form.first (document_faults d)))
    (option_map (λ p. Reference (path_text p)) (first (missing_paths d))) e in
    (sound d).0 (
      none_right (document_faults d) (unmapped refusal_of _ h.0),
      no_path
          (missing_paths d) (unmapped (λ p. Reference (path_text p)) _ h.1),
    )

none_own : (d : Data) → IsReport d → own_refusal d ≡ None
none_own d r = let s = (sound d).1 r in rw (s.0, s.1) refl

value_none : (frame : Frame) (d : Data) → value_refusal frame d ≡ None → IsReport d × Agrees frame d
value_none frame d e =
    let v = either (own_refusal d) (option_map (λ p. Disagrees (path_text p))
    (first (disagreements frame d))) e in (
      own_none d v.0,
      (agreement frame d).0
          (no_path (disagreements frame d) (unmapped (λ p. Disagrees (path_text p)) _ v.1)),
    )

none_value : (frame : Frame) (d : Data) → IsReport d → Agrees frame d → value_refusal frame d ≡ None
none_value frame d r a = rw (none_own d r, (agreement frame d).1 a) refl

pub value_law : ValueLaw
value_law frame d = (value_none frame d, λ h. none_value frame d h.0 h.1)

-- ---- files

file_at : (short : Bool) (n m : ℕ) (f : Data → Option ReadFault) (o : Option Data)
    → nat_le n m ≡ short
    → (if short then of_value f o else Some TooLong) ≡ None
    → (d : Data) × ((n ≤ m) × (o ≡ Some d)) × (f d ≡ None)
file_at true n m f (Some d) h e = (d, (grind (arith, nat_tests), refl), e)
file_at _ n m f o h e = absurd (cc)

file_none : (f : Data → Option ReadFault) (bytes : List ℕ) → of_file f bytes ≡ None
    → (d : Data) × Holds bytes d × (f d ≡ None)
file_none f bytes e = file_at _ (length bytes) max_file f (value_of bytes) refl e

pub file_holds : (f : Data → Option ReadFault) (bytes : List ℕ) (d : Data) → Holds bytes d
    → of_file f bytes ≡ f d
file_holds f bytes d h = rw (le-leb (length bytes) max_file h.0, h.1) refl

pub sound_file : SoundFileLaw
sound_file bytes = (
  (λ e. let h = file_none own_refusal bytes e in (h.0, h.1, own_none h.0 h.2)),
  λ s. file_holds own_refusal bytes s.0 s.1 ∙ none_own s.0 s.2,
)

pub valid_file : ValidFileLaw
valid_file frame bytes = (
  (λ e. let h = file_none (value_refusal frame) bytes e in
      let v = value_none frame h.0 h.2 in (h.0, h.1, v.0, v.1)),
  λ s. file_holds (value_refusal frame) bytes s.0 s.1 ∙ none_value frame s.0 s.2 s.3,
)
