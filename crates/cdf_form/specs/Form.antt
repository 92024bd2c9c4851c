-- The faults of a value against a kind, in the order of the walk. (This project's profile of NIST
-- SP 1500-103; paths by RFC 6901.)
use Rattle.std.specs.Prelude.{ℕ, ◌+◌, ◌&&◌, ◌==◌, List, [], ◌∷◌, ◌++◌, map, Bool, true, false, not}
use Rattle.std.specs.Prelude.{nat_le, if◌then◌else◌, is_ok, Option, Some, None, option_map}
use Rattle.std.specs.Prelude.{option_and_then, unwrap_or, codes, bytes_eq, find}
use Rattle.std.specs.List.{list_any}
use Rattle.std.specs.Ordering.{nat_cmp, match_ordering}
use Rattle.std.specs.Cmp.Lexicographic.{slice_cmp}
use Rattle.serde_json.specs.Data.{Num, Data, null, boolean, number, string, array, object, Items}
use Rattle.serde_json.specs.Data.{no_items, item, Members, no_members, member}
use Rattle.serde_json.specs.Find.{get_member, get, as_str, as_number, as_bool, as_object, as_u64}
use Rattle.serde_json.specs.Find.{is_float}
use Rattle.serde_json.specs.Events.{items_len}
use Rattle.jiff.specs.Words.{parse_timestamp}
use Rattle.cdf_types.specs.declared.rule.Rule.{Rule}
use Rattle.cdf_types.specs.declared.rule.Rule.TheVariants as rule
use Rattle.cdf_form.specs.declared.table.Class.{Class}
use Rattle.cdf_form.specs.declared.table.Group.{Group}
use Rattle.cdf_form.specs.declared.table.Leaf.{Leaf}
use Rattle.cdf_form.specs.declared.table.Leaf.TheVariants as leaf
use Rattle.cdf_form.specs.declared.table.Key.{Key}
use Rattle.cdf_form.specs.declared.table.Key.TheVariants as key
use Rattle.cdf_form.specs.declared.table.Kind.{Kind}
use Rattle.cdf_form.specs.declared.table.Kind.TheVariants.{One, Array}
use Rattle.cdf_form.specs.Tables.{Entry, table, type_text, classes_of, listed_in}

-- ---- places

-- a member or an item, on the way from the whole document
pub data Step : Type 0 where
  at_member : List ℕ → Step
  at_item : ℕ → Step

-- a rule that is broken, and where: the steps from the whole document, outermost first
pub record Fault : Type 0 where
  pub path : List Step
  pub rule : Rule

-- a fault at the value itself
abbrev pub here : Rule → Fault
here r = record { path = []; rule = r }

-- a fault of a part, from the value that the step starts at
abbrev pub deeper_fault : Step → Fault → Fault
deeper_fault s f = record { path = s ∷ f.path; rule = f.rule }

-- all faults of a part, from that value
abbrev pub under : Step → List Fault → List Fault
under s fs = map (deeper_fault s) fs

-- the first of a list, if there is one
abbrev pub first : {X : Type 0} → List X → Option X
first [] = None
first (x ∷ xs) = Some x

-- no fault where the test holds, and else this one
abbrev pub unless : Bool → Rule → List Fault
unless b r = if b then [] else here r ∷ []

-- ---- one value

-- a text that `jiff` reads as an instant, with no annotation in brackets
abbrev pub is_moment : List ℕ → Bool
is_moment s = is_ok (parse_timestamp s) && not (list_any (λ b. b == 91) s)

-- the text has no bytes
abbrev pub is_empty : List ℕ → Bool
is_empty [] = true
is_empty (b ∷ bs) = false

-- a whole number from 0 to 4,294,967,295
abbrev pub is_count : Num → Bool
is_count n = unwrap_or (option_map (λ m. nat_le m 4_294_967_295) (as_u64 n)) false

-- the faults of what was looked for, where there is one, and else that the rule is broken here
abbrev pub demand_faults : {A : Type 0} → Rule → (A → List Fault) → Option A → List Fault
demand_faults r f None = here r ∷ []
demand_faults r f (Some a) = f a

-- the class of the group that has this text
abbrev pub find_class : List Class → List ℕ → Option Class
find_class cs s = find (λ c. bytes_eq s (type_text c)) cs

-- a fault at `@type`
abbrev pub at_type : Rule → List Fault
at_type r = deeper_fault (at_member (codes "@type")) (here r) ∷ []

-- the fault where the text names no class of the group
abbrev pub class_faults : Option Class → List Fault
class_faults None = at_type rule.WrongClass
class_faults (Some c) = []

-- the faults where the value at `@type` is no text that names a class
abbrev pub type_text_faults : Group → Option (List ℕ) → List Fault
type_text_faults g None = at_type rule.WrongKind
type_text_faults g (Some s) = class_faults (find_class (classes_of g) s)

-- the faults at `@type`, where it is absent or names no class
abbrev pub type_faults : Group → Option Data → List Fault
type_faults g None = at_type rule.Missing
type_faults g (Some d) = type_text_faults g (as_str d)

-- the class of an object, if it is one of the group's
abbrev pub class_in : Group → Data → Option Class
class_in g d =
    option_and_then (find_class (classes_of g)) (option_and_then as_str (get (codes "@type") d))

-- the faults at the node itself
abbrev pub leaf_faults : Leaf → Data → List Fault
leaf_faults leaf.Text d = demand_faults rule.WrongKind (λ s. []) (as_str d)
leaf_faults leaf.Name d =
    demand_faults rule.WrongKind (λ s. unless (not (is_empty s)) rule.EmptyText) (as_str d)
leaf_faults leaf.Count d =
    demand_faults rule.WrongKind (λ n. unless (is_count n) rule.OutOfRange) (as_number d)
leaf_faults leaf.Whole d = demand_faults rule.WrongKind (λ n. []) (as_number d)
leaf_faults leaf.Truth d = demand_faults rule.WrongKind (λ b. []) (as_bool d)
leaf_faults leaf.Moment d =
    demand_faults rule.WrongKind (λ s. unless (is_moment s) rule.NotMoment) (as_str d)
leaf_faults leaf.Fractional d = here rule.Fractional ∷ []
leaf_faults (leaf.Listed l) d = demand_faults rule.WrongKind
    (λ s. unless (list_any (bytes_eq s) (listed_in l)) rule.NotListed) (as_str d)
leaf_faults (leaf.Object g) d =
    demand_faults rule.NotObject (λ ms. type_faults g (get_member (codes "@type") ms)) (as_object d)

-- a value that is to be no object
abbrev pub IsNoObject : Leaf → Type 0
IsNoObject (leaf.Object g) = ⊥
IsNoObject l = Unit {0}

-- ---- arrays and objects

-- the fault of an array that is to have at least so many items, and at most so many
abbrev pub length_faults : ℕ → ℕ → ℕ → List Fault
length_faults least most n =
    unless (nat_le least n) rule.TooFew ++ unless (nat_le n most) rule.TooMany

-- the text under a key
abbrev pub key_text : Key → Data → Option (List ℕ)
key_text key.Free d = None
key_text key.Id d = option_and_then as_str (get (codes "@id") d)
key_text key.Contest d = option_and_then as_str (get (codes "ContestId") d)

-- whether a text, if there is one, was seen before
abbrev pub is_among : Option (List ℕ) → List (List ℕ) → Bool
is_among None seen = false
is_among (Some s) seen = list_any (λ t. bytes_eq t s) seen

-- those seen, and this text too
abbrev pub add_text : Option (List ℕ) → List (List ℕ) → List (List ℕ)
add_text None seen = seen
add_text (Some s) seen = s ∷ seen

-- the key whose text an earlier item has
abbrev pub mark_of : Key → List (List ℕ) → Data → Key
mark_of k seen d = if is_among (key_text k d) seen then k else key.Free

-- the fault of the key's own member where the mark says that its text came before
abbrev pub repeat_faults : Key → List ℕ → List Fault
repeat_faults key.Free name = []
repeat_faults key.Id name = unless (not (bytes_eq name (codes "@id"))) rule.RepeatedId
repeat_faults key.Contest name =
    unless (not (bytes_eq name (codes "ContestId"))) rule.RepeatedContest

-- the faults of one member, whose value has those of `found`
abbrev pub entry_faults : Key → Entry → Option (List Fault) → List Fault
entry_faults mark r None = unless (not r.required) rule.Missing
entry_faults mark r (Some fs) = fs ++ repeat_faults mark r.name

-- those of all members of a table, each looked up by its name
abbrev pub table_faults : (List ℕ → Kind → Option (List Fault)) → Key → List Entry → List Fault
table_faults look mark [] = []
table_faults look mark (r ∷ rs) =
    under (at_member r.name) (entry_faults mark r (look r.name r.kind)) ++ table_faults look mark rs

-- the table of a class, if there is one
abbrev pub class_entries : Option Class → List Entry
class_entries None = []
class_entries (Some c) = table c

-- a value with no parts
abbrev pub flat_faults : Kind → Data → List Fault
flat_faults (One l) d = leaf_faults l d
flat_faults (Array l least most k) d = here rule.WrongKind ∷ []

-- an array, whose items have the faults of `each`
abbrev pub array_faults : Kind → Items → (Leaf → Key → List Fault) → List Fault
array_faults (One l) ds each = leaf_faults l (array ds)
array_faults (Array l least most k) ds each = length_faults least most (items_len ds) ++ each l k

-- the class whose table goes on below a value
abbrev pub class_below : Leaf → Data → Option Class
class_below (leaf.Object g) d = class_in g d
class_below l d = None

-- an object, whose members have the faults that `look` finds
abbrev pub members_faults : Kind → Members → (List ℕ → Kind → Option (List Fault)) → Key
    → List Fault
members_faults (One l) ms look mark =
    leaf_faults l (object ms) ++ table_faults look mark (class_entries (class_below l (object ms)))
members_faults (Array l least most k) ms look mark = here rule.WrongKind ∷ []

abbrev mutual
  -- the faults of a value. An item whose key's text an earlier item has is marked with that key.
  pub faults : Data → Kind → Key → List Fault
  faults null k mark = flat_faults k null
  faults (boolean b) k mark = flat_faults k (boolean b)
  faults (number n) k mark = flat_faults k (number n)
  faults (string s) k mark = flat_faults k (string s)
  faults (array ds) k mark = array_faults k ds (λ l key. items_faults ds l key 0 [])
  faults (object ms) k mark = members_faults k ms (λ name kind. found_faults ms name kind) mark

  -- from item i on, where `seen` are the texts under the key of the items before
  pub items_faults : Items → Leaf → Key → ℕ → List (List ℕ) → List Fault
  items_faults no_items l k i seen = []
  items_faults (item d ds) l k i seen =
      under (at_item i) (faults d (One l) (mark_of k seen d))
      ++ items_faults ds l k (i + 1) (add_text (key_text k d) seen)

  -- those of the member of that name, if it is there
  pub found_faults : Members → List ℕ → Kind → Option (List Fault)
  found_faults no_members name k = None
  found_faults (member l d ms) name k =
      match_ordering (slice_cmp nat_cmp name l) (found_faults ms name k)
      (Some (faults d k key.Free)) (found_faults ms name k)

-- the faults of the member of that name, if it is there
abbrev pub member_look : Data → List ℕ → Kind → Option (List Fault)
member_look d name kind = option_map (λ e. faults e kind key.Free) (get name d)

-- ---- numbers that are not whole

abbrev mutual
  -- a fault of rule 14 at each number that isn't whole, over the whole tree, in the order of the
  -- walk
  pub float_faults : Data → List Fault
  float_faults null = []
  float_faults (boolean b) = []
  float_faults (number n) = unless (not (is_float n)) rule.NotWhole
  float_faults (string s) = []
  float_faults (array ds) = items_floats ds 0
  float_faults (object ms) = members_floats ms

  pub items_floats : Items → ℕ → List Fault
  items_floats no_items i = []
  items_floats (item d ds) i = under (at_item i) (float_faults d) ++ items_floats ds (i + 1)

  pub members_floats : Members → List Fault
  members_floats no_members = []
  members_floats (member k d ms) = under (at_member k) (float_faults d) ++ members_floats ms
