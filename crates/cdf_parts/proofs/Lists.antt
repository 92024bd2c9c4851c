-- Arrays and lists.
use Rattle.std.proofs.Common.{◌≡◌, ◌≤◌, ℕ, suc, List, [], ◌∷◌, All, false}
use Rattle.std.proofs.Common.{refl, ap, arith}
use Rattle.serde_json.specs.Data.{Data, array, depth, items_depth}
use Rattle.serde_json.specs.View.{items_of}
use Rattle.serde_json.specs.Written.{items_have_float}
use Rattle.cdf_parts.specs.Proper.{ItemsAreWell, IsProper}
use Rattle.cdf_node.specs.Items.{list_of}

pub list_of-items_of : (xs : List Data) → list_of (items_of xs) ≡ xs
list_of-items_of [] = refl
list_of-items_of (x ∷ xs) = ap (λ ys. x ∷ ys) (list_of-items_of xs)

first : (n : ℕ) (x : Data) (xs : List Data) → All (IsProper n) (x ∷ xs) → IsProper n x
first n x xs h = h 0 x (omega arith)

rest : (n : ℕ) (x : Data) (xs : List Data) → All (IsProper n) (x ∷ xs) → All (IsProper n) xs
rest n x xs h = λ k d within. h (suc k) d (omega (arith, within))

pub well_items : (n : ℕ) (xs : List Data) → All (IsProper n) xs → ItemsAreWell (items_of xs)
well_items n [] h = tt
well_items n (x ∷ xs) h = ((first n x xs h).well, well_items n xs (rest n x xs h))

pub whole_items : (n : ℕ) (xs : List Data) → All (IsProper n) xs
    → items_have_float (items_of xs) ≡ false
whole_items n [] h = refl
whole_items n (x ∷ xs) h =
    rw ((first n x xs h).whole, whole_items n xs (rest n x xs h))

pub depth_items : (n : ℕ) (xs : List Data) → All (IsProper n) xs → items_depth (items_of xs) ≤ n
depth_items n [] h = omega arith
depth_items n (x ∷ xs) h =
    let p : depth x ≤ n = (first n x xs h).shallow in
    let q : items_depth (items_of xs) ≤ n = depth_items n xs (rest n x xs h) in
    omega (arith, p, q)

pub array_proper : (n : ℕ) (xs : List Data) → All (IsProper n) xs
    → IsProper (suc n) (array (items_of xs))
array_proper n xs h = record {
  well = well_items n xs h;
  whole = whole_items n xs h;
  shallow =
      let p : items_depth (items_of xs) ≤ n = depth_items n xs h in
      omega (arith, p);
}
