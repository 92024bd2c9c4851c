-- Laws of the form: no fault is found exactly where a value has the form; tables are in order; no
-- fault of numbers, no float. (This project's own.)
use Rattle.std.specs.Prelude.{◌≡◌, ℕ, ◌↔◌, ◌||◌, List, [], ◌∷◌, Bool, true, false, ◌&&◌, bytes_eq}
use Rattle.std.specs.Prelude.{codes}
use Rattle.std.specs.Ordering.{nat_cmp, is_lt}
use Rattle.std.specs.Cmp.Lexicographic.{slice_cmp}
use Rattle.serde_json.specs.Data.{Data}
use Rattle.serde_json.specs.Written.{has_float}
use Rattle.cdf_form.specs.declared.table.Class.{Class}
use Rattle.cdf_form.specs.declared.table.Leaf.{Leaf}
use Rattle.cdf_form.specs.declared.table.Leaf.TheVariants as leaf
use Rattle.cdf_form.specs.declared.table.Key.{Key}
use Rattle.cdf_form.specs.declared.table.Key.TheVariants as key
use Rattle.cdf_form.specs.declared.table.Kind.{Kind}
use Rattle.cdf_form.specs.declared.table.Kind.TheVariants.{One, Array}
use Rattle.cdf_form.specs.Tables.{Entry, table, classes_of}
use Rattle.cdf_form.specs.Form.{faults, float_faults}
use Rattle.cdf_form.specs.HasForm.{HasForm}
use Rattle.cdf_form.specs.Reading.{document_faults}

abbrev pub has_entry : List ℕ → List Entry → Bool
has_entry n [] = false
has_entry n (r ∷ rs) = bytes_eq n r.name || has_entry n rs

abbrev pub all_have_entry : List ℕ → List Class → Bool
all_have_entry n [] = true
all_have_entry n (c ∷ cs) = has_entry n (table c) && all_have_entry n cs

abbrev pub leaf_has_entry : List ℕ → Leaf → Bool
leaf_has_entry n (leaf.Object g) = all_have_entry n (classes_of g)
leaf_has_entry n l = false

abbrev pub key_has_entry : Key → Leaf → Bool
key_has_entry key.Free l = true
key_has_entry key.Id l = leaf_has_entry (codes "@id") l
key_has_entry key.Contest l = leaf_has_entry (codes "ContestId") l

-- the classes below an array with a key have an entry for that key
abbrev pub is_keyed : Kind → Bool
is_keyed (One l) = true
is_keyed (Array l least most k) = key_has_entry k l

abbrev pub are_keyed : List Entry → Bool
are_keyed [] = true
are_keyed (r ∷ rs) = is_keyed r.kind && are_keyed rs

-- no fault is found exactly where the value has the form
abbrev pub FormLaw : Type 0
FormLaw = (k : Kind) (d : Data) → is_keyed k ≡ true → (faults d k key.Free ≡ []) ↔ HasForm k d

-- the entries of a table stand in byte order of their names, each name once
abbrev pub is_below_all : List ℕ → List Entry → Bool
is_below_all n [] = true
is_below_all n (r ∷ rs) = is_lt (slice_cmp nat_cmp n r.name) && is_below_all n rs

abbrev pub is_in_order : List Entry → Bool
is_in_order [] = true
is_in_order (r ∷ rs) = is_below_all r.name rs && is_in_order rs

abbrev pub TablesInOrder : Type 0
TablesInOrder = (c : Class) → is_in_order (table c) ≡ true

-- with no fault of numbers there is no float
abbrev pub WholeLaw : Type 0
WholeLaw = (d : Data) → float_faults d ≡ [] → has_float d ≡ false

-- and where there is no float there is no such fault
abbrev pub NoFloatFaults : Type 0
NoFloatFaults = (d : Data) → has_float d ≡ false → float_faults d ≡ []

-- a whole document with no fault has no float
abbrev pub WholeDocument : Type 0
WholeDocument = (d : Data) → document_faults d ≡ [] → has_float d ≡ false
