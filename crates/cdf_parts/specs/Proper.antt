-- What data that was read is: numbers in range, and the names of each object strictly in byte
-- order. (This project's own.)
use Rattle.std.specs.Prelude.{◌≡◌, ◌≤◌, ◌<◌, ◌^◌, ℕ, pos, negsuc, false, ⊤}
use Rattle.serde_json.specs.Data.{Num, unsigned, negative, float}
use Rattle.serde_json.specs.Data.{Data, number, array, object, depth}
use Rattle.serde_json.specs.Data.{Items, no_items, item, Members, no_members, member}
use Rattle.serde_json.specs.Written.{has_float}
pub use Rattle.cdf_node.specs.Order.{Before, Below}

-- a number that is a u64, an i64 below 0, or a float
abbrev pub NumFits : Num → Type 0
NumFits (unsigned n) = n < 2 ^ 64
NumFits (negative (pos n)) = ⊥
NumFits (negative (negsuc n)) = n < 2 ^ 63
NumFits (float x) = ⊤

-- each number fits, and each object's names stand strictly in byte order
abbrev mutual
  pub IsWell : Data → Type 0
  IsWell (number n) = NumFits n
  IsWell (array ds) = ItemsAreWell ds
  IsWell (object ms) = MembersAreWell ms
  IsWell d = ⊤

  -- each item is well
  pub ItemsAreWell : Items → Type 0
  ItemsAreWell no_items = ⊤
  ItemsAreWell (item d ds) = IsWell d × ItemsAreWell ds

  -- each member is well, and its name stands before those that follow
  pub MembersAreWell : Members → Type 0
  MembersAreWell no_members = ⊤
  MembersAreWell (member k d ms) = IsWell d × Below k ms × MembersAreWell ms

-- well, with no float, and at most n deep
pub record IsProper (n : ℕ) (d : Data) : Type 0 where
  pub well : IsWell d
  pub whole : has_float d ≡ false
  pub shallow : depth d ≤ n
