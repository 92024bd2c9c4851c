-- A node, level by level.
use Rattle.std.proofs.Common.{◌≡◌, ℕ, List, Bool, Bor, rules}
use Rattle.serde_json.specs.Data.{null, boolean, number, string, array, object}
use Rattle.serde_json.specs.View.{number_view}
use Rattle.serde_json.specs.declared.number.Number.{Number}
use Rattle.cdf_node.specs.View.{view, items_view, members_view}
use Rattle.cdf_node.specs.declared.node.Node as made
use Rattle.cdf_node.specs.declared.node.Node.{Node}

pub view-Null : view made.Null ≡ null
view-Null = search (rules, made.the_lemmas)

pub view-Bool : (b : Bool) → view (made.Bool b) ≡ boolean b
view-Bool b = search (rules, made.the_lemmas)

pub view-Number : (n : Number) → view (made.Number n) ≡ number (number_view n)
view-Number n = search (rules, made.the_lemmas)

pub view-String : (s : Bor (List ℕ)) → view (made.String s) ≡ string s.now
view-String s = search (rules, made.the_lemmas)

pub view-Array : (v : Bor (List Node)) → view (made.Array v) ≡ array (items_view v.now)
view-Array v = search (rules, made.the_lemmas)

pub view-Object : (m : Bor (List (Bor (List ℕ) × Node)))
    → view (made.Object m) ≡ object (members_view m.now)
view-Object m = search (rules, made.the_lemmas)

abbrev pub Entry : Type 0
Entry = Bor (List ℕ) × Node
