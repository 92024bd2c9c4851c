-- What the entries of a class table say of an object of that class, and laws of that. (This
-- project's profile of NIST SP 1500-103.)
use Rattle.std.specs.Prelude.{◌≡◌, ◌≤◌, ◌<◌, ℕ, List, [], ◌∷◌, length, slice_index_or, Bool, true}
use Rattle.std.specs.Prelude.{if◌then◌else◌, Option, Some, None, IsSome, bytes_eq, ⊤}
use Rattle.std.specs.List.{list_any, Contains}
use Rattle.serde_json.specs.Data.{Data, string, number, unsigned, object, Members}
use Rattle.serde_json.specs.Find.{get, as_array}
use Rattle.cdf_form.specs.declared.table.Class.{Class}
use Rattle.cdf_form.specs.declared.table.Group.{Group}
use Rattle.cdf_form.specs.declared.table.Listing.{Listing}
use Rattle.cdf_form.specs.declared.table.Leaf.{Leaf}
use Rattle.cdf_form.specs.declared.table.Leaf.TheVariants as leaf
use Rattle.cdf_form.specs.declared.table.Key.{Key}
use Rattle.cdf_form.specs.declared.table.Kind.{Kind}
use Rattle.cdf_form.specs.declared.table.Kind.TheVariants.{One, Array}
use Rattle.cdf_form.specs.Tables.{Entry, table, classes_of, listed_in}
use Rattle.cdf_form.specs.Form.{is_moment, class_in, key_text}
use Rattle.cdf_form.specs.HasForm.{IsEntry, HasForm}
use Rattle.cdf_parts.specs.Parts.{array_at, text_in, text_at}

-- ---- classes and entries

-- of each class of a list
abbrev pub AllClasses : (Class → Type 0) → List Class → Type 0
AllClasses P [] = ⊤
AllClasses P (c ∷ cs) = P c × AllClasses P cs

-- the first entry of that name
abbrev pub find_entry : List ℕ → List Entry → Option Entry
find_entry n [] = None
find_entry n (r ∷ rs) = if bytes_eq n r.name then Some r else find_entry n rs

-- what an entry says of a value: its member is there where it has to be, and has the form of the
-- kind
pub record HasEntry (needed : Bool) (n : List ℕ) (k : Kind) (d : Data) : Type 0 where
  pub there : needed ≡ true → IsSome (get n d)
  pub part : (e : Data) → get n d ≡ Some e → HasForm k e

-- an object's class, with all entries of its table
pub record HasClass (g : Group) (d : Data) : Type 0 where
  pub its : Class
  pub its_is : class_in g d ≡ Some its
  pub entry : (r : Entry) → IsEntry (table its) r → HasEntry r.required r.name r.kind d

-- an object that has the form of a group has a class of it, and each entry of that class holds of
-- it
abbrev pub HasClassLaw : Type 0
HasClassLaw = (g : Group) (d : Data) → HasForm (One (leaf.Object g)) d → HasClass g d

-- an object of a group of one class has that class
abbrev pub OnlyClassLaw : Type 0
OnlyClassLaw = (g : Group) (c : Class) (d : Data) → AllClasses (λ x. x ≡ c) (classes_of g)
    → HasForm (One (leaf.Object g)) d → class_in g d ≡ Some c

-- an entry that each class of the group has holds of each object that has the form
abbrev pub EntryLaw : Type 0
EntryLaw = (g : Group) (r : Entry) (d : Data)
    → AllClasses (λ c. find_entry r.name (table c) ≡ Some r) (classes_of g)
    → HasForm (One (leaf.Object g)) d → HasEntry r.required r.name r.kind d

-- what has the form of a group is an object
abbrev pub ObjectLaw : Type 0
ObjectLaw = (g : Group) (d : Data) → HasForm (One (leaf.Object g)) d
    → (ms : Members) × (d ≡ object ms)

-- ---- texts and counts

-- kinds whose values are texts
abbrev pub IsTextual : Leaf → Type 0
IsTextual leaf.Text = ⊤
IsTextual leaf.Name = ⊤
IsTextual leaf.Moment = ⊤
IsTextual (leaf.Listed l) = ⊤
IsTextual l = ⊥

-- a text that is found under an entry has the form
abbrev pub TextLaw : Type 0
TextLaw = (b : Bool) (n : List ℕ) (l : Leaf) (d : Data) → HasEntry b n (One l) d → (s : List ℕ)
    → text_in n d ≡ Some s → HasForm (One l) (string s)

-- what stands under an entry of texts is a text
abbrev pub MayBeTextLaw : Type 0
MayBeTextLaw = (b : Bool) (n : List ℕ) (l : Leaf) (d : Data) → HasEntry b n (One l) d → IsTextual l
    → (e : Data) → get n d ≡ Some e → IsSome (text_in n d)

-- a required text is the member of its name
abbrev pub MustBeTextLaw : Type 0
MustBeTextLaw = (n : List ℕ) (l : Leaf) (d : Data) → HasEntry true n (One l) d → IsTextual l
    → get n d ≡ Some (string (text_at n d))

-- and the one that a reader finds
abbrev pub MustBeFoundLaw : Type 0
MustBeFoundLaw = (n : List ℕ) (l : Leaf) (d : Data) → HasEntry true n (One l) d → IsTextual l
    → text_in n d ≡ Some (text_at n d)

-- and it has the form
abbrev pub MustHaveFormLaw : Type 0
MustHaveFormLaw = (n : List ℕ) (l : Leaf) (d : Data) → HasEntry true n (One l) d → IsTextual l
    → HasForm (One l) (string (text_at n d))

-- a moment is one, a text of a list is among its texts, and a count is a number up to 4,294,967,295
abbrev pub MomentFormLaw : Type 0
MomentFormLaw = (s : List ℕ) → HasForm (One leaf.Moment) (string s) → is_moment s ≡ true

abbrev pub ListedFormLaw : Type 0
ListedFormLaw = (l : Listing) (s : List ℕ) → HasForm (One (leaf.Listed l)) (string s)
    → list_any (bytes_eq s) (listed_in l) ≡ true

abbrev pub CountFormLaw : Type 0
CountFormLaw = (d : Data) → HasForm (One leaf.Count) d
    → (m : ℕ) × (d ≡ number (unsigned m)) × (m ≤ 4_294_967_295)

-- ---- items

-- no text under the key stands at two places of a list
abbrev pub ListApart : Key → List Data → Type 0
ListApart k xs = (i j : ℕ) (d e : Data) (s : List ℕ) → i < length xs → j < length xs
    → key_text k (slice_index_or xs i d) ≡ Some s → key_text k (slice_index_or xs j e) ≡ Some s
    → i ≡ j

-- what stands under an entry of arrays is an array
abbrev pub ArrayLaw : Type 0
ArrayLaw = (b : Bool) (n : List ℕ) (l : Leaf) (least most : ℕ) (k : Key) (d : Data)
    → HasEntry b n (Array l least most k) d
    → (e : Data) → get n d ≡ Some e → IsSome (as_array e)

-- each of its items has the form
abbrev pub ItemsLaw : Type 0
ItemsLaw = (b : Bool) (n : List ℕ) (l : Leaf) (least most : ℕ) (k : Key) (d : Data)
    → HasEntry b n (Array l least most k) d
    → (e : Data) → Contains (array_at n d) e → HasForm (One l) e

-- they are no more than the entry allows
abbrev pub FewLaw : Type 0
FewLaw = (b : Bool) (n : List ℕ) (l : Leaf) (least most : ℕ) (k : Key) (d : Data)
    → HasEntry b n (Array l least most k) d → length (array_at n d) ≤ most

-- and, where the array is required, no fewer than it demands
abbrev pub SomeLaw : Type 0
SomeLaw = (n : List ℕ) (l : Leaf) (least most : ℕ) (k : Key) (d : Data)
    → HasEntry true n (Array l least most k) d → least ≤ length (array_at n d)

-- no two of them have one text under the key
abbrev pub ApartLaw : Type 0
ApartLaw = (b : Bool) (n : List ℕ) (l : Leaf) (least most : ℕ) (k : Key) (d : Data)
    → HasEntry b n (Array l least most k) d → ListApart k (array_at n d)
