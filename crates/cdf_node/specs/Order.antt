-- Members in byte order of their names. (This project's own.)
use Rattle.std.specs.Prelude.{◌≡◌, ⊤, ℕ, List, IfSome}
use Rattle.std.specs.Borrow.{Bor}
use Rattle.std.specs.Cmp.Lexicographic.{slice_cmp}
use Rattle.std.specs.List.{fold}
use Rattle.std.specs.Ordering.{nat_cmp}
use Rattle.std.specs.declared.cmp.Ordering.TheVariants.{Less}
use Rattle.json.specs.Token.{Token}
use Rattle.serde_json.specs.Data.{Data, array, object, Items, no_items, item, Members, no_members}
use Rattle.serde_json.specs.Data.{member, put}
use Rattle.serde_json.specs.Read.{read}
use Rattle.cdf_node.specs.Next.{next_value}
use Rattle.cdf_node.specs.View.{view}
use Rattle.cdf_node.specs.declared.node.Node.{Node}

-- the first name stands before the second
abbrev pub Before : List ℕ → List ℕ → Type 0
Before k l = slice_cmp nat_cmp k l ≡ Less

-- the name stands before that of each member
abbrev pub Below : List ℕ → Members → Type 0
Below k no_members = ⊤
Below k (member l d ms) = Before k l × Below k ms

-- the names rise, so none comes twice
abbrev pub Rises : Members → Type 0
Rises no_members = ⊤
Rises (member k d ms) = Below k ms × Rises ms

-- the names of each object rise, at every depth
abbrev mutual
  pub IsSorted : Data → Type 0
  IsSorted (array ds) = ItemsAreSorted ds
  IsSorted (object ms) = MembersAreSorted ms
  IsSorted d = ⊤

  pub ItemsAreSorted : Items → Type 0
  ItemsAreSorted no_items = ⊤
  ItemsAreSorted (item d ds) = IsSorted d × ItemsAreSorted ds

  pub MembersAreSorted : Members → Type 0
  MembersAreSorted no_members = ⊤
  MembersAreSorted (member k d ms) = IsSorted d × Below k ms × MembersAreSorted ms

-- members as they stand in a file, each put at its place, so that of equal names the last stays
abbrev pub in_order : List (Bor (List ℕ) × Node) → Members
in_order found = fold (λ ms e. put e.0.now (view e.1) ms) no_members found

-- what comes next among tokens is sorted
abbrev pub NextIsSortedLaw : Type 0
NextIsSortedLaw = (depth : ℕ) (ts : List Token) → IfSome (next_value depth ts) (λ p. IsSorted p.0)

-- what a text is, is sorted
abbrev pub ReadIsSortedLaw : Type 0
ReadIsSortedLaw = (text : List ℕ) → IfSome (read text) IsSorted
