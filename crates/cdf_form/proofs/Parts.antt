-- The faults of a value in terms of its parts, and a measure for the walk.
use Rattle.std.proofs.Common.{◌≡◌, ℕ, zero, suc, ◌+◌, ◌<◌, List, [], ◌∷◌, ◌++◌, length, get_or}
use Rattle.std.proofs.Common.{drop, Option, Some, None, option_map, Ordering, Less, Equal, Greater}
use Rattle.std.proofs.Common.{refl, ap, ◌∙◌, arith}
use Rattle.std.specs.Option.{option_or}
use Rattle.std.specs.Ordering.{nat_cmp, match_ordering}
use Rattle.std.specs.Cmp.Lexicographic.{slice_cmp}
use Rattle.serde_json.specs.Data.{Data, null, boolean, number, string, array, object, Items}
use Rattle.serde_json.specs.Data.{no_items, item, Members, no_members, member}
use Rattle.serde_json.specs.Find.{get_member, get, as_array}
use Rattle.serde_json.specs.Events.{items_len}
use Rattle.cdf_node.specs.View.{view, items_view}
use Rattle.cdf_node.specs.declared.node.Node.{Node}
use Rattle.cdf_types.specs.declared.rule.Rule.TheVariants as rule
use Rattle.cdf_form.specs.declared.table.Leaf.{Leaf}
use Rattle.cdf_form.specs.declared.table.Key.{Key}
use Rattle.cdf_form.specs.declared.table.Key.TheVariants as key
use Rattle.cdf_form.specs.declared.table.Kind.{Kind}
use Rattle.cdf_form.specs.declared.table.Kind.TheVariants.{One, Array}
use Rattle.cdf_form.specs.Tables.{Entry}
use Rattle.std.proofs.lemmas.List.{drop_more}
use Rattle.cdf_form.specs.Form.{Step, at_item, mark_of, key_text, add_text, Fault, here}
use Rattle.cdf_form.specs.Form.{deeper_fault, under, first, leaf_faults, class_below, class_entries}
use Rattle.cdf_form.specs.Form.{length_faults, table_faults, faults, items_faults, found_faults}
use Rattle.cdf_form.specs.Form.{member_look}

-- ---- the first of a list

pub first-append_some : (xs ys : List Fault) (f : Fault) → first xs ≡ Some f
    → first (xs ++ ys) ≡ Some f
first-append_some [] ys f e = cc
first-append_some (x ∷ xs) ys f e = e

pub first-append_none : (xs ys : List Fault) → first xs ≡ None → first (xs ++ ys) ≡ first ys
first-append_none [] ys e = refl
first-append_none (x ∷ xs) ys e = cc

pub first-under : (s : Step) (xs : List Fault)
    → first (under s xs) ≡ option_map (deeper_fault s) (first xs)
first-under s [] = refl
first-under s (x ∷ xs) = refl

append-nil : (xs : List Fault) → xs ≡ xs ++ []
append-nil [] = refl
append-nil (x ∷ xs) = ap (λ ys. x ∷ ys) (append-nil xs)

-- ---- objects

look-match_ordering : (o : Ordering) (kind : Kind) (a b : Option Data)
    → match_ordering o (option_map (λ e. faults e kind key.Free) a)
    (option_map (λ e. faults e kind key.Free) b) (option_map (λ e. faults e kind key.Free) a)
    ≡ option_map (λ e. faults e kind key.Free) (match_ordering o a b a)
look-match_ordering o kind a b = grind arith

pub found_faults-get_member : (ms : Members) (name : List ℕ) (kind : Kind)
    → found_faults ms name kind ≡ option_map (λ e. faults e kind key.Free) (get_member name ms)
found_faults-get_member no_members name kind = refl
found_faults-get_member (member l d ms) name kind = rw (found_faults-get_member ms name kind)
    (look-match_ordering (slice_cmp nat_cmp name l) kind (get_member name ms) (Some d))

table_faults-look : (look other : List ℕ → Kind → Option (List Fault)) (mark : Key)
    → ((name : List ℕ) (kind : Kind) → look name kind ≡ other name kind) → (rs : List Entry)
    → table_faults look mark rs ≡ table_faults other mark rs
table_faults-look look other mark same [] = refl
table_faults-look look other mark same (r ∷ rs) =
    rw (same r.name r.kind, table_faults-look look other mark same rs)

flat-one : (d : Data) (l : Leaf) (look : List ℕ → Kind → Option (List Fault)) (mark : Key)
    → class_below l d ≡ None → leaf_faults l d
    ≡ leaf_faults l d ++ table_faults look mark (class_entries (class_below l d))
flat-one d l look mark e = rw e (append-nil (leaf_faults l d))

none_below : (d : Data) (l : Leaf) → ((name : List ℕ) → get name d ≡ None) → class_below l d ≡ None
none_below d l e = grind arith

pub faults-one : (d : Data) (l : Leaf) (mark : Key)
    → faults d (One l) mark ≡ leaf_faults l d
    ++ table_faults (member_look d) mark (class_entries (class_below l d))
faults-one null l mark = flat-one null l (member_look null) mark (none_below null l (λ name. refl))
faults-one (boolean b) l mark =
    flat-one (boolean b) l (member_look (boolean b)) mark (none_below (boolean b) l (λ name. refl))
faults-one (number n) l mark =
    flat-one (number n) l (member_look (number n)) mark (none_below (number n) l (λ name. refl))
faults-one (string s) l mark =
    flat-one (string s) l (member_look (string s)) mark (none_below (string s) l (λ name. refl))
faults-one (array ds) l mark =
    flat-one (array ds) l (member_look (array ds)) mark (none_below (array ds) l (λ name. refl))
faults-one (object ms) l mark = ap (λ fs. leaf_faults l (object ms) ++ fs)
    (table_faults-look (λ name kind. found_faults ms name kind) (member_look (object ms)) mark
    (λ name kind. found_faults-get_member ms name kind) (class_entries (class_below l (object ms))))

-- ---- arrays

pub faults-no_array : (d : Data) (l : Leaf) (least most : ℕ) (k mark : Key) → as_array d ≡ None
    → faults d (Array l least most k) mark ≡ here rule.WrongKind ∷ []
faults-no_array d l least most k mark e = grind arith

pub faults-array : (d : Data) (ds : Items) (l : Leaf) (least most : ℕ) (k mark : Key)
    → as_array d ≡ Some ds → faults d (Array l least most k) mark
    ≡ length_faults least most (items_len ds) ++ items_faults ds l k 0 []
faults-array d ds l least most k mark e = grind arith

-- ---- the first fault, from those of the parts

first-append : (xs ys : List Fault) → first (xs ++ ys) ≡ option_or (first xs) (first ys)
first-append [] ys = refl
first-append (x ∷ xs) ys = refl

pub as_many : (vs : List Node) → items_len (items_view vs) ≡ length vs
as_many [] = refl
as_many (v ∷ vs) = ap suc (as_many vs)

pub array_first : (d : Data) (ds : Items) (kind : Kind) (l : Leaf) (least most n : ℕ) (k mark : Key)
    → as_array d ≡ Some ds → kind ≡ Array l least most k → n ≡ items_len ds
    → first (faults d kind mark) ≡ option_or (first (length_faults least most n))
    (first (items_faults ds l k 0 []))
array_first d ds kind l least most n k mark is of len =
    rw (of, faults-array d ds l least most k mark is, ← len) (first-append _ _)

pub one_first : (d : Data) (l : Leaf) (mark : Key)
    → first (faults d (One l) mark) ≡ option_or (first (leaf_faults l d))
    (first (table_faults (member_look d) mark (class_entries (class_below l d))))
one_first d l mark = rw (faults-one d l mark) (first-append _ _)

-- ---- items

pub items_go : (vs : List Node) (l : Leaf) (k : Key) (i : ℕ) (v : Node) (texts : List (List ℕ))
    → i < length vs
    → first (faults (view (get_or vs i v)) (One l) (mark_of k texts (view (get_or vs i v)))) ≡ None
    → first (items_faults (items_view (drop i vs)) l k i texts)
    ≡ first (items_faults (items_view (drop (i + 1) vs)) l k (i + 1)
    (add_text (key_text k (view (get_or vs i v))) texts))
items_go vs l k i v texts h e = rw (drop_more vs i v h)
    (first-append_none _ _ (first-under _ _ ∙ ap (option_map (deeper_fault (at_item i))) e))

-- ---- a measure

abbrev mutual
  pub weight : Data → ℕ
  weight null = 0
  weight (boolean b) = 0
  weight (number n) = 0
  weight (string s) = 0
  weight (array ds) = suc (items_weight ds)
  weight (object ms) = suc (members_weight ms)

  pub items_weight : Items → ℕ
  items_weight no_items = 0
  items_weight (item d ds) = suc (weight d + items_weight ds)

  pub members_weight : Members → ℕ
  members_weight no_members = 0
  members_weight (member k d ms) = suc (weight d + members_weight ms)

member_lighter : (o : Ordering) (ms : Members) (d : Data) (found : Option Data) (e : Data)
    → (found ≡ Some e → weight e < members_weight ms)
    → match_ordering o found (Some d) found ≡ Some e → weight e < suc (weight d + members_weight ms)
member_lighter Less ms d found e h is = let k = h is in omega arith
member_lighter Equal ms d found e h is =
    let same : d ≡ e = cc in let w = ap weight same in omega arith
member_lighter Greater ms d found e h is = let k = h is in omega arith

pub member_is_lighter : (ms : Members) (name : List ℕ) (e : Data) → get_member name ms ≡ Some e
    → weight e < members_weight ms
member_is_lighter no_members name e is = cc
member_is_lighter (member l d ms) name e is = member_lighter (slice_cmp nat_cmp name l) ms d
    (get_member name ms) e (member_is_lighter ms name e) is

pub part_is_lighter : (d : Data) (name : List ℕ) (e : Data) → get name d ≡ Some e
    → weight e < weight d
part_is_lighter d name e is = grind (arith, member_is_lighter)

pub item_is_lighter : (vs : List Node) (i : ℕ) (v : Node) → i < length vs
    → weight (view (get_or vs i v)) < items_weight (items_view vs)
item_is_lighter [] i v h = absurd (omega arith)
item_is_lighter (x ∷ vs) zero v h = omega arith
item_is_lighter (x ∷ vs) (suc i) v h = let k = item_is_lighter vs i v (omega arith) in omega arith
