-- A value with no float.
use Rattle.std.proofs.Common.{◌≡◌, ℕ, ◌+◌, List, [], ◌∷◌, false, not, None, refl, ap}
use Rattle.std.proofs.lemmas.Bool.{or_from, or_parts, not-true}
use Rattle.serde_json.specs.Data.{Data, null, boolean, number, string, array, object, Items}
use Rattle.serde_json.specs.Data.{no_items, item, Members, no_members, member}
use Rattle.serde_json.specs.Find.{is_float}
use Rattle.serde_json.specs.Written.{has_float, items_have_float, members_have_float}
use Rattle.cdf_types.specs.declared.rule.Rule.TheVariants as rule
use Rattle.cdf_form.specs.Reading.{document_faults}
use Rattle.cdf_form.specs.Form.{Fault, first, unless, float_faults, items_floats, members_floats}
use Rattle.cdf_form.proofs.FormLaw.{left_nil, right_nil, under_nil, unless_nil}

mutual
  pub whole_of : (d : Data) → float_faults d ≡ [] → has_float d ≡ false
  whole_of null e = refl
  whole_of (boolean b) e = refl
  whole_of (number n) e = not-true (is_float n) (unless_nil _ _ e)
  whole_of (string s) e = refl
  whole_of (array ds) e = whole_items ds 0 e
  whole_of (object ms) e = whole_members ms e

  whole_items : (ds : Items) (i : ℕ) → items_floats ds i ≡ [] → items_have_float ds ≡ false
  whole_items no_items i e = refl
  whole_items (item d ds) i e = or_from (has_float d) (items_have_float ds)
      (whole_of d (under_nil _ _ (left_nil _ _ e))) (whole_items ds (i + 1) (right_nil _ _ e))

  whole_members : (ms : Members) → members_floats ms ≡ [] → members_have_float ms ≡ false
  whole_members no_members e = refl
  whole_members (member k d ms) e = or_from (has_float d) (members_have_float ms)
      (whole_of d (under_nil _ _ (left_nil _ _ e))) (whole_members ms (right_nil _ _ e))

mutual
  pub no_float_faults : (d : Data) → has_float d ≡ false → float_faults d ≡ []
  no_float_faults null h = refl
  no_float_faults (boolean b) h = refl
  no_float_faults (number n) h = ap (λ b. unless (not b) rule.NotWhole) h
  no_float_faults (string s) h = refl
  no_float_faults (array ds) h = no_items_floats ds 0 h
  no_float_faults (object ms) h = no_members_floats ms h

  no_items_floats : (ds : Items) (i : ℕ) → items_have_float ds ≡ false → items_floats ds i ≡ []
  no_items_floats no_items i h = refl
  no_items_floats (item d ds) i h =
      rw (
        no_float_faults d (or_parts (has_float d) (items_have_float ds) h).0,
        no_items_floats ds
            (i + 1) (or_parts (has_float d) (items_have_float ds) h).1,
      ) refl

  no_members_floats : (ms : Members) → members_have_float ms ≡ false → members_floats ms ≡ []
  no_members_floats no_members h = refl
  no_members_floats (member k d ms) h =
      rw (
        no_float_faults d (or_parts (has_float d) (members_have_float ms) h).0,
        no_members_floats ms
            (or_parts (has_float d) (members_have_float ms) h).1,
      ) refl

-- ---- a document with no fault

pub no_fault : (fs : List Fault) → first fs ≡ None → fs ≡ []
no_fault [] e = refl
no_fault (f ∷ fs) e = cc

pub whole_document : (d : Data) → document_faults d ≡ [] → has_float d ≡ false
whole_document d e = whole_of d (left_nil _ _ e)
