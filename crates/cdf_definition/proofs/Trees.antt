-- A tree beside the node that it was copied from, or is compared with.
use Rattle.std.proofs.Common.{◌≡◌, ℕ, List, [], ◌∷◌, ◌++◌, Bool, true, false, Bor, String, Vec}
use Rattle.std.proofs.Common.{Global, string_bytes, rules}
use Rattle.std.specs.Bool.{OnTrue}
use Rattle.serde_json.specs.Data.{object}
use Rattle.cdf_node.specs.View.{view, members_view}
use Rattle.cdf_node.specs.declared.node.Node.{Node}
use Rattle.cdf_definition.specs.Tree.{owned, owned_members}
use Rattle.cdf_definition.specs.declared.tree.Tree as made
use Rattle.cdf_definition.specs.declared.tree.Tree.{Tree}

-- a member of a tree, and of a node
abbrev pub Own : Type 0
Own = String Global × Tree

abbrev pub Lent : Type 0
Lent = Bor (List ℕ) × Node

-- ---- objects

pub owned-Object : (v : Vec Own Global) → owned (made.Object v) ≡ object (owned_members v.items)
owned-Object v = search (rules, made.the_lemmas)

pub when : {P Q : Type 0} (b : Bool) → (P → Q) → OnTrue b P → OnTrue b Q
when true f p = f p
when false f p = p

-- ---- one more

pub members_more : (ts : List Own) (ms : List Lent) (t : Own) (m : Lent)
    → owned_members ts ≡ members_view ms → string_bytes t.0 ≡ m.0.now → owned t.1 ≡ view m.1
    → owned_members (ts ++ t ∷ []) ≡ members_view (ms ++ m ∷ [])
members_more [] [] t m e name value = cc
members_more [] (x ∷ ms) t m e name value = absurd (cc)
members_more (y ∷ ts) [] t m e name value = absurd (cc)
members_more (y ∷ ts) (x ∷ ms) t m e name value =
    let more = members_more ts ms t m (cc) name value in cc
