-- What a device's body is known to be, without being given: its text says it.
use Rattle.std.proofs.Common.{◌≡◌, ℕ, List, [], ◌∷◌, Bool, true, false, Option, Some, None}
use Rattle.std.proofs.Common.{codes, nat_le, refl, sym, ap, ◌∙◌, subst}
use Rattle.std.specs.Prelude.{option_and_then, unwrap_or}
use Rattle.std.proofs.Math.Logic.{∥∥₁_elim}
use Rattle.std.proofs.Math.Nat.{ℕ_set}
use Rattle.std.proofs.lemmas.Bool.{leb-true, le-leb}
use Rattle.std.proofs.lemmas.Option.{same_Some}
use mathlib.Core.Bool.{Bool-set}
use mathlib.Core.List.{is_set}
use Rattle.serde_json.specs.Data.{Data, string, depth}
use Rattle.serde_json.specs.Find.{get, as_str}
use Rattle.serde_json.specs.Read.{read}
use Rattle.serde_json.specs.Written.{compact_text, has_float}
use Rattle.cdf_form.specs.declared.table.Group.TheVariants as group
use Rattle.cdf_form.specs.declared.table.Key.TheVariants as key
use Rattle.cdf_form.specs.declared.table.Kind.{Kind}
use Rattle.cdf_form.specs.declared.table.Kind.TheVariants.{One}
use Rattle.cdf_form.specs.declared.table.Leaf.TheVariants as leaf
use Rattle.cdf_form.specs.Form.{Fault, faults}
use Rattle.cdf_form.specs.HasForm.{HasForm}
use Rattle.cdf_parts.specs.Parts.{id_of}
use Rattle.cdf_parts.specs.Proper.{IsProper}
use Rattle.cdf_form.proofs.Laws.{fits_of, no_faults, must_be_text, entry_named}
use Rattle.cdf_parts.proofs.Laws.{proper_read}
use Rattle.cdf_definition.specs.Bodies.{DeviceStands}
use Rattle.cdf_definition.specs.Depths.{id_entry}
use Rattle.cvr_facts.specs.Stands.{Spells}

-- a device's body that stands
abbrev pub IsDeviceBody : List ℕ → List ℕ → Type 0
IsDeviceBody id body = (d : Data) × Spells body d × DeviceStands id d

abbrev device_kind : Kind
device_kind = One (leaf.Object group.ReportingDevices)

abbrev is_none : List Fault → Bool
is_none [] = true
is_none (f ∷ fs) = false

none_is : (fs : List Fault) → is_none fs ≡ true → fs ≡ []
none_is [] e = refl
none_is (f ∷ fs) e = absurd (cc)

-- what is read from a body that stands, though its value is not given
module _ (id body : List ℕ) (known : ∥ IsDeviceBody id body ∥₁) (d : Data)
    (is : read body ≡ Some d) where
  same : (q : IsDeviceBody id body) → q.0 ≡ d
  same q = same_Some q.0 d (sym q.1.1 ∙ is)

  told_text : body ≡ compact_text d
  told_text = ∥∥₁_elim known (hlevel (ℕ_set, is_set)) (λ q. q.1.0 ∙ ap compact_text (same q))

  told_whole : has_float d ≡ false
  told_whole = ∥∥₁_elim known (Bool-set _ _)
      (λ q. subst (λ x. has_float x ≡ false) (same q) q.2.proper.whole)

  told_depth : nat_le (depth d) 125 ≡ true
  told_depth = ∥∥₁_elim known (Bool-set _ _)
      (λ q. subst (λ x. nat_le (depth x) 125 ≡ true) (same q)
      (le-leb (depth q.0) 125 q.2.proper.shallow))

  told_none : is_none (faults d device_kind key.Free) ≡ true
  told_none = ∥∥₁_elim known (Bool-set _ _)
      (λ q. subst (λ x. is_none (faults x device_kind key.Free) ≡ true) (same q)
      (ap is_none (no_faults q.2.form)))

  told_id : id_of d ≡ id
  told_id = ∥∥₁_elim known (hlevel (ℕ_set, is_set))
      (λ q. ap id_of (sym (same q)) ∙ ap (λ o. unwrap_or (option_and_then as_str o) []) q.2.id_is)

  told_form : HasForm device_kind d
  told_form =
      fits_of d device_kind key.Free refl (none_is (faults d device_kind key.Free) told_none)

  told_at_id : get (codes "@id") d ≡ Some (string id)
  told_at_id = must_be_text (entry_named group.ReportingDevices id_entry d (refl, tt) told_form) tt
      ∙ ap (λ s. Some (string s)) told_id

  told_proper : IsProper 125 d
  told_proper = record {
    well = (proper_read body d is told_whole).well;
    whole = told_whole;
    shallow = leb-true (depth d) 125 told_depth;
  }

  told_body : IsDeviceBody id body
  told_body = (
    d,
    (told_text, is),
    record
        { proper = told_proper; form = told_form; id_is = told_at_id },
  )

never_read : (id body : List ℕ) → ∥ IsDeviceBody id body ∥₁ → read body ≡ None → ⊥
never_read id body known is =
    ∥∥₁_elim known (λ x y. absurd x) (λ q. let e : Some q.0 ≡ None = sym q.1.1 ∙ is in absurd (cc))

told_read : (id body : List ℕ) → ∥ IsDeviceBody id body ∥₁ → (o : Option Data) → read body ≡ o
    → IsDeviceBody id body
told_read id body known None is = absurd (never_read id body known is)
told_read id body known (Some d) is = told_body id body known d is

-- a body that is known to stand is one that stands
pub stated_device : (id body : List ℕ) → ∥ IsDeviceBody id body ∥₁ → IsDeviceBody id body
stated_device id body known = told_read id body known (read body) refl
