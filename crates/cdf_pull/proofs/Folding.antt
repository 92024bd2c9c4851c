-- Members that are put and that change at a name, and what is left of a value beside the items of
-- an array.
use Rattle.std.proofs.Common.{◌≡◌, ℕ, List, [], ◌∷◌, Bool, true, false, bytes_eq, Option, None}
use Rattle.std.proofs.Common.{Some, option_map, Ordering, Less, Equal, Greater, nat_cmp, is_eq}
use Rattle.std.proofs.Common.{refl, sym, ap, ap₂, subst, ◌∙◌}
use Rattle.std.specs.Prelude.{if◌then◌else◌}
use Rattle.std.specs.Cmp.Lexicographic.{slice_cmp}
use Rattle.std.specs.Ordering.{match_ordering}
use Rattle.std.proofs.lemmas.Bool.Decides.{not_from_Decides, same_from_decides}
use Rattle.std.proofs.lemmas.Iterator.Adapters.{option_map_id}
use Rattle.std.proofs.lemmas.Map.Text.{is_eq-slice_cmp}
use Rattle.std.proofs.lemmas.Option.{none-some}
use Rattle.std.proofs.lemmas.Slice.Eq.{bytes_eq-Decides}
use Rattle.serde_json.specs.Data.{Data, array, object, Items, no_items, item, Members, no_members}
use Rattle.serde_json.specs.Data.{member, put}
use Rattle.serde_json.specs.Find.{get_member}
use Rattle.serde_json.specs.View.{items_of}
use Rattle.serde_json.proofs.Views.{get_member-put, get_member-put_other}
use Rattle.cdf_node.specs.Next.{IsScalar}
use Rattle.cdf_node.specs.Order.{Before, Below, Rises, IsSorted}
use Rattle.cdf_node.proofs.Lemmas.{rises_sorted}
use Rattle.cdf_node.specs.Items.{list_of}
use Rattle.cdf_pull.specs.Fold.{with_value_at, items_found, items_in, items_under, without_items}
use Rattle.cdf_pull.specs.Fold.{left_beside, IsOrdered}

same_key : (k l : List ℕ) → slice_cmp nat_cmp k l ≡ Equal → k ≡ l
same_key k l is = (bytes_eq-Decides k l).0 (sym (is_eq-slice_cmp k l) ∙ ap is_eq is)

-- ---- what is put

module _ (name : List ℕ) (f : Data → Data) where
  -- the value that stands at a key once what is at the name has changed
  abbrev pub changed_if : List ℕ → Data → Data
  changed_if k d = if bytes_eq k name then f d else d

  put-changed_at : (o : Ordering) (k l : List ℕ) (d e : Data) (ms : Members)
      → slice_cmp nat_cmp k l ≡ o → put k (changed_if k d) (with_value_at name f ms)
      ≡ with_value_at name f (put k d ms)
      → match_ordering o (member k (changed_if k d) (with_value_at name f (member l e ms)))
      (member l (changed_if k d) (with_value_at name f ms))
      (member l (changed_if l e) (put k (changed_if k d) (with_value_at name f ms)))
      ≡ with_value_at name f (match_ordering o (member k d (member l e ms)) (member l d ms)
      (member l e (put k d ms)))
  put-changed_at Less k l d e ms is h = refl
  put-changed_at Equal k l d e ms is h =
      ap (λ q. member l (changed_if q d) (with_value_at name f ms)) (same_key k l is)
  put-changed_at Greater k l d e ms is h = ap (member l (changed_if l e)) h

  pub put-with_value_at : (k : List ℕ) (d : Data) (ms : Members)
      → put k (changed_if k d) (with_value_at name f ms) ≡ with_value_at name f (put k d ms)
  put-with_value_at k d no_members = refl
  put-with_value_at k d (member l e ms) =
      put-changed_at _ k l d e ms refl (put-with_value_at k d ms)

  -- ---- what is found

  get_member-changed_at : (o : Ordering) (q l : List ℕ) (e : Data) (a b : Option Data)
      → slice_cmp nat_cmp q l ≡ o → a ≡ option_map (changed_if q) b
      → match_ordering o a (Some (changed_if l e)) a
      ≡ option_map (changed_if q) (match_ordering o b (Some e) b)
  get_member-changed_at Less q l e a b is h = h
  get_member-changed_at Equal q l e a b is h =
      ap (λ k. Some (changed_if k e)) (sym (same_key q l is))
  get_member-changed_at Greater q l e a b is h = h

  pub get_member-with_value_at : (q : List ℕ) (ms : Members)
      → get_member q (with_value_at name f ms) ≡ option_map (changed_if q) (get_member q ms)
  get_member-with_value_at q no_members = refl
  get_member-with_value_at q (member l e ms) =
      get_member-changed_at _ q l e _ _ refl (get_member-with_value_at q ms)

  pub found_changed : (ms : Members) → get_member name (with_value_at name f ms)
      ≡ option_map f (get_member name ms)
  found_changed ms = get_member-with_value_at name ms
      ∙ ap (λ b. option_map (λ d. if b then f d else d) (get_member name ms))
      ((bytes_eq-Decides name name).1 refl)

  pub found_unchanged : (q : List ℕ) (ms : Members) → bytes_eq q name ≡ false
      → get_member q (with_value_at name f ms) ≡ get_member q ms
  found_unchanged q ms other = get_member-with_value_at q ms
      ∙ ap (λ b. option_map (λ d. if b then f d else d) (get_member q ms)) other ∙ option_map_id _

  -- ---- the order of the keys stays

  Below-with_value_at : (k : List ℕ) (ms : Members) → Below k (with_value_at name f ms) ≡ Below k ms
  Below-with_value_at k no_members = refl
  Below-with_value_at k (member l d ms) = ap (λ P. Before k l × P) (Below-with_value_at k ms)

  pub Rises-with_value_at : (ms : Members) → Rises (with_value_at name f ms) ≡ Rises ms
  Rises-with_value_at no_members = refl
  Rises-with_value_at (member k d ms) =
      ap₂ (λ P Q. P × Q) (Below-with_value_at k ms) (Rises-with_value_at ms)

  -- ---- what stays as it is

  Below-none : (k : List ℕ) (ms : Members) → Below k ms → get_member k ms ≡ None
  Below-none k no_members h = refl
  Below-none k (member l d ms) h = rw h.0 (Below-none k ms h.1)

  unchanged_at : (o : Ordering) (k : List ℕ) (d : Data) (ms : Members)
      → slice_cmp nat_cmp name k ≡ o → Below k ms
      → ((x : Data) → match_ordering o (get_member name ms) (Some d) (get_member name ms) ≡ Some x
      → f x ≡ x) → (((x : Data) → get_member name ms ≡ Some x → f x ≡ x)
      → with_value_at name f ms ≡ ms)
      → member k (if is_eq o then f d else d) (with_value_at name f ms) ≡ member k d ms
  unchanged_at Less k d ms is h stays more = ap (member k d) (more stays)
  unchanged_at Equal k d ms is h stays more =
      ap₂ (member k) (stays d refl) (more
      (λ x found. absurd (none-some x
      (sym (Below-none name ms (subst (λ q. Below q ms) (sym (same_key name k is)) h))
      ∙ found))))
  unchanged_at Greater k d ms is h stays more = ap (member k d) (more stays)

  named : (k : List ℕ) → bytes_eq k name ≡ is_eq (slice_cmp nat_cmp name k)
  named k =
      let here = bytes_eq-Decides name k in
      same_from_decides {P = k ≡ name} _ _ (bytes_eq-Decides k name)
      (λ e. sym (here.0 e), λ e. here.1 (sym e)) ∙ sym (is_eq-slice_cmp name k)

  -- where the keys rise, only what is found at the name is at stake
  pub unchanged : (ms : Members) → Rises ms → ((x : Data) → get_member name ms ≡ Some x → f x ≡ x)
      → with_value_at name f ms ≡ ms
  unchanged no_members h stays = refl
  unchanged (member k d ms) h stays =
      ap (λ b. member k (if b then f d else d) (with_value_at name f ms)) (named k)
      ∙ unchanged_at (slice_cmp nat_cmp name k) k d ms refl h.0 stays (unchanged ms h.1)

twice_at : (b : Bool) (f g : Data → Data) (d : Data)
    → (if b then g (if b then f d else d) else (if b then f d else d)) ≡ (if b then g (f d) else d)
twice_at true f g d = refl
twice_at false f g d = refl

pub changed_twice : (name : List ℕ) (f g : Data → Data) (ms : Members)
    → with_value_at name g (with_value_at name f ms) ≡ with_value_at name (λ d. g (f d)) ms
changed_twice name f g no_members = refl
changed_twice name f g (member k d ms) =
    ap₂ (member k) (twice_at (bytes_eq k name) f g d) (changed_twice name f g ms)

-- ---- the items under a name once a member is put

module _ (name k : List ℕ) (d : Data) (ms : Members) where
  items_found-put_at : (b : Bool) → bytes_eq k name ≡ b
      → (if b then items_in d else items_found (get_member name ms))
      ≡ items_found (get_member name (put k d ms))
  items_found-put_at true e = sym (ap items_found (get_member-put k d ms))
      ∙ ap (λ q. items_found (get_member q (put k d ms))) ((bytes_eq-Decides k name).0 e)
  items_found-put_at false e = sym (ap items_found
      (get_member-put_other name k d ms
      (λ same. not_from_Decides _ (bytes_eq-Decides k name) e (sym same))))

  pub items_found-put : (if bytes_eq k name then items_in d else items_found (get_member name ms))
      ≡ items_found (get_member name (put k d ms))
  items_found-put = items_found-put_at (bytes_eq k name) refl

-- ---- items as a list

pub list_of-items_of : (ds : List Data) → list_of (items_of ds) ≡ ds
list_of-items_of [] = refl
list_of-items_of (d ∷ ds) = ap (λ es. d ∷ es) (list_of-items_of ds)

pub items_of-list_of : (ds : Items) → items_of (list_of ds) ≡ ds
items_of-list_of no_items = refl
items_of-list_of (item d ds) = ap (item d) (items_of-list_of ds)

-- ---- what is neither an array nor an object

pub without_items-scalar : (d : Data) → IsScalar d → (d ≡ without_items d) × (items_in d ≡ [])
without_items-scalar (array ds) h = absurd h
without_items-scalar d h = (refl, refl)

pub left_beside-scalar : (name : List ℕ) (d : Data) → IsScalar d
    → (d ≡ left_beside name d) × (items_under name d ≡ []) × IsOrdered d
left_beside-scalar name (object ms) h = absurd h
left_beside-scalar name d h = (refl, refl, tt)

pub ordered : (d : Data) → IsSorted d → IsOrdered d
ordered (object ms) h = rises_sorted ms h
ordered d h = tt
