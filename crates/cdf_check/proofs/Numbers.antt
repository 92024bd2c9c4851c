-- The first number of a file that isn't whole.
use Rattle.std.proofs.Common.{◌≡◌, ◌+◌, ℕ, List, [], ◌∷◌, ◌++◌, Bool, true, false, not, bytes_eq}
use Rattle.std.proofs.Common.{Option, Some, option_map, codes, refl, subst}
use Rattle.std.specs.Prelude.{if◌then◌else◌}
use Rattle.std.specs.Option.{option_or}
use Rattle.std.specs.List.{All}
use Rattle.std.proofs.lemmas.List.Elements.{All-nil, All-cons, All-head, All-append, All-map}
use Rattle.std.proofs.lemmas.Slice.Eq.{bytes_eq-Decides}
use Rattle.serde_json.specs.Data.{Data, null, boolean, number, string, array, object, Items}
use Rattle.serde_json.specs.Data.{no_items, item, Members, no_members, member}
use Rattle.serde_json.specs.Find.{is_float}
use Rattle.cdf_pull.specs.Fold.{with_items_at}
use Rattle.cdf_types.specs.declared.rule.Rule.TheVariants as rule
use Rattle.cdf_form.specs.Form.{Step, at_member, at_item, Fault, deeper_fault, under, first, unless}
use Rattle.cdf_form.specs.Form.{float_faults, items_floats, members_floats}
use Rattle.cdf_form.specs.Path.{path_text}
use Rattle.cdf_check.specs.Seen.{in_file, member_fraction, file_fraction}

abbrev records : List ℕ
records = codes "CVR"

-- ---- the rule of each fault of numbers

abbrev NotWhole : Fault → Type 0
NotWhole f = f.rule ≡ rule.NotWhole

all_unless : (b : Bool) → All NotWhole (unless (not b) rule.NotWhole)
all_unless true = All-cons NotWhole _ [] refl (All-nil NotWhole)
all_unless false = All-nil NotWhole

mutual
  pub all_of : (d : Data) → All NotWhole (float_faults d)
  all_of null = All-nil NotWhole
  all_of (boolean b) = All-nil NotWhole
  all_of (number n) = all_unless (is_float n)
  all_of (string s) = All-nil NotWhole
  all_of (array ds) = all_items ds 0
  all_of (object ms) = all_members ms

  all_items : (ds : Items) (i : ℕ) → All NotWhole (items_floats ds i)
  all_items no_items i = All-nil NotWhole
  all_items (item d ds) i = All-append NotWhole (under (at_item i) (float_faults d))
      (items_floats ds (i + 1)) (All-map NotWhole (deeper_fault (at_item i)) (float_faults d)
      (all_of d)) (all_items ds (i + 1))

  all_members : (ms : Members) → All NotWhole (members_floats ms)
  all_members no_members = All-nil NotWhole
  all_members (member k d ms) = All-append NotWhole (under (at_member k) (float_faults d))
      (members_floats ms) (All-map NotWhole (deeper_fault (at_member k)) (float_faults d)
      (all_of d)) (all_members ms)

pub first_rule : (xs : List Fault) (f : Fault) → All NotWhole xs → first xs ≡ Some f
    → f.rule ≡ rule.NotWhole
first_rule [] f all e = cc
first_rule (x ∷ xs) f all e =
    let same : x ≡ f = cc in subst NotWhole same (All-head NotWhole x xs all)

-- ---- the report

abbrev pub path_of : Fault → List ℕ
path_of f = path_text f.path

first_mapped : (s : Step) (xs ys : List Fault)
    → option_map path_of (first (under s xs ++ ys))
    ≡ option_or (option_map (λ f. path_text (s ∷ f.path)) (first xs))
    (option_map path_of (first ys))
first_mapped s [] ys = refl
first_mapped s (x ∷ xs) ys = refl

module _ (ds : Items) (told : Option (List ℕ))
    (is_printed : option_map in_file (first (items_floats ds 0)) ≡ told) where
  first_here : (b : Bool) (k : List ℕ) (d : Data) → bytes_eq k records ≡ b
      → option_map (λ f. path_text (at_member k ∷ f.path))
      (first (float_faults (if b then array ds else d))) ≡ (if b then told else member_fraction k d)
  first_here true k d is = rw ((bytes_eq-Decides k records).0 is) is_printed
  first_here false k d is = refl

  pub first_filled : (ms : Members) → option_map path_of
      (first (members_floats (with_items_at records ds ms))) ≡ file_fraction ms told
  first_filled no_members = refl
  first_filled (member k d ms) =
      rw (first_mapped, first_here (bytes_eq k records) k d refl, first_filled ms)

-- ---- together

pub append_first : (xs ys : List Fault) (f : Fault) → first xs ≡ Some f → first (xs ++ ys) ≡ Some f
append_first [] ys f e = cc
append_first (x ∷ xs) ys f e = e
