-- What has the form of a kind, with no paths and no order. (This project's profile of NIST SP
-- 1500-103.)
use Rattle.std.specs.Prelude.{◌≡◌, ℕ, ◌≤◌, ◌⊎◌, List, [], ◌∷◌, Bool, true, false, Some, IsSome}
use Rattle.std.specs.Prelude.{bytes_eq}
use Rattle.std.specs.List.{list_any}
use Rattle.serde_json.specs.Data.{Num, Data, Items}
use Rattle.serde_json.specs.Find.{get, get_item, as_str, as_number, as_bool, as_array}
use Rattle.serde_json.specs.Events.{items_len}
use Rattle.cdf_form.specs.declared.table.Class.{Class}
use Rattle.cdf_form.specs.declared.table.Group.{Group}
use Rattle.cdf_form.specs.declared.table.Listing.{Listing}
use Rattle.cdf_form.specs.declared.table.Leaf.{Leaf}
use Rattle.cdf_form.specs.declared.table.Leaf.TheVariants as leaf
use Rattle.cdf_form.specs.declared.table.Key.{Key}
use Rattle.cdf_form.specs.declared.table.Kind.{Kind}
use Rattle.cdf_form.specs.declared.table.Kind.TheVariants.{One, Array}
use Rattle.cdf_form.specs.Tables.{Entry, table, listed_in}
use Rattle.cdf_form.specs.Form.{is_empty, is_count, is_moment, class_in, key_text}

-- r is one of the entries
abbrev pub IsEntry : List Entry → Entry → Type 0
IsEntry [] r = ⊥
IsEntry (x ∷ xs) r = (x ≡ r) ⊎ IsEntry xs r

-- no text under the key stands at two places
abbrev pub AreApart : Key → Items → Type 0
AreApart k ds = (i j : ℕ) (d e : Data) (s : List ℕ) → get_item i ds ≡ Some d
    → get_item j ds ≡ Some e
    → key_text k d ≡ Some s → key_text k e ≡ Some s → i ≡ j

-- The value has the form of the kind, with no paths and no order. An object has a class of its
-- group; each member that this class requires is there; each that it lists and that is there has
-- its own form. Texts and numbers are within their limits, and an array within its lengths; no two
-- of its items have one text under its key. Nothing has the form of fractional votes.
pub data HasForm : Kind → Data → Type 0 where
  text : {d : Data} {s : List ℕ} → as_str d ≡ Some s → HasForm (One leaf.Text) d
  name : {d : Data} {s : List ℕ} → as_str d ≡ Some s → is_empty s ≡ false
      → HasForm (One leaf.Name) d
  count : {d : Data} {n : Num} → as_number d ≡ Some n → is_count n ≡ true
      → HasForm (One leaf.Count) d
  whole : {d : Data} {n : Num} → as_number d ≡ Some n → HasForm (One leaf.Whole) d
  truth : {d : Data} {b : Bool} → as_bool d ≡ Some b → HasForm (One leaf.Truth) d
  moment : {d : Data} {s : List ℕ} → as_str d ≡ Some s → is_moment s ≡ true
      → HasForm (One leaf.Moment) d
  listed : {d : Data} {s : List ℕ} {l : Listing} → as_str d ≡ Some s
      → list_any (bytes_eq s) (listed_in l) ≡ true
      → HasForm (One (leaf.Listed l)) d
  class : {d : Data} {g : Group} {c : Class} → class_in g d ≡ Some c
      → ((r : Entry) → IsEntry (table c) r → r.required ≡ true → IsSome (get r.name d))
      → ((r : Entry) (e : Data) → IsEntry (table c) r → get r.name d ≡ Some e → HasForm r.kind e)
      → HasForm (One (leaf.Object g)) d
  items : {d : Data} {ds : Items} {l : Leaf} {least most : ℕ} {k : Key} → as_array d ≡ Some ds
      → least ≤ items_len ds → items_len ds ≤ most
      → ((i : ℕ) (e : Data) → get_item i ds ≡ Some e → HasForm (One l) e) → AreApart k ds
      → HasForm (Array l least most k) d
