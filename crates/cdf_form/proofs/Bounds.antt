-- Where the rules of length stand at an array.
use Rattle.std.proofs.Common.{◌≡◌, ◌≢◌, ℕ, ◌+◌, ◌<◌, ◌≤◌, ◌↔◌, List, [], ◌∷◌, ◌++◌, Bool, true}
use Rattle.std.proofs.Common.{false, Some, option_map, refl, ap, arith}
use Rattle.std.specs.Prelude.{nat_le, unwrap_or}
use Rattle.std.proofs.lemmas.Bool.Decides.{nat_tests}
use Rattle.serde_json.specs.Data.{array, Items, no_items, item}
use Rattle.serde_json.specs.Events.{items_len}
use Rattle.cdf_types.specs.declared.rule.Rule.{Rule}
use Rattle.cdf_types.specs.declared.rule.Rule.TheVariants as rule
use Rattle.cdf_form.specs.declared.table.Leaf.{Leaf}
use Rattle.cdf_form.specs.declared.table.Key.{Key}
use Rattle.cdf_form.specs.declared.table.Key.TheVariants as key
use Rattle.cdf_form.specs.declared.table.Kind.TheVariants.{One, Array}
use Rattle.cdf_form.specs.Form.{Step, at_item, Fault, here, deeper_fault, under, unless, first}
use Rattle.cdf_form.specs.Form.{faults, items_faults, mark_of, key_text, add_text}

same_rule : (f g : Fault) → Some f ≡ Some g → f.rule ≡ g.rule
same_rule f g e = ap (λ o. unwrap_or (option_map (λ h. h.rule) o) rule.Missing) e

same_path : (f g : Fault) → Some f ≡ Some g → f.path ≡ g.path
same_path f g e = ap (λ o. unwrap_or (option_map (λ h. h.path) o) []) e

not_deeper : (s : Step) (f : Fault) (r : Rule) → Some (deeper_fault s f) ≢ Some (here r)
not_deeper s f r e = let paths : s ∷ f.path ≡ [] = same_path (deeper_fault s f) (here r) e in cc

many_no_few : Some (here rule.TooMany) ≢ Some (here rule.TooFew)
many_no_few e = let rules : rule.TooMany
    ≡ rule.TooFew = same_rule (here rule.TooMany) (here rule.TooFew) e in cc

few_no_many : Some (here rule.TooFew) ≢ Some (here rule.TooMany)
few_no_many e = let rules : rule.TooFew
    ≡ rule.TooMany = same_rule (here rule.TooFew) (here rule.TooMany) e in cc

-- a part's fault isn't one of the value itself
not_under : (s : Step) (fs more : List Fault) (r : Rule) → (first more ≢ Some (here r))
    → first (under s fs ++ more) ≢ Some (here r)
not_under s [] more r h = h
not_under s (f ∷ fs) more r h = not_deeper s f r

not_items : (ds : Items) (l : Leaf) (k : Key) (i : ℕ) (seen : List (List ℕ)) (r : Rule)
    → first (items_faults ds l k i seen) ≢ Some (here r)
not_items no_items l k i seen r = λ e. cc
not_items (item d ds) l k i seen r =
    not_under (at_item i) (faults d (One l) (mark_of k seen d))
    (items_faults ds l k (i + 1) (add_text (key_text k d) seen)) r
    (not_items ds l k (i + 1) (add_text (key_text k d) seen) r)

few_tells : (a b : Bool) (more : List Fault) → (first more ≢ Some (here rule.TooFew))
    → first ((unless a rule.TooFew ++ unless b rule.TooMany) ++ more) ≡ Some (here rule.TooFew)
    → a ≡ false
few_tells false b more h e = refl
few_tells true false more h e = absurd (many_no_few e)
few_tells true true more h e = absurd (h e)

few_told : (a b : Bool) (more : List Fault) → a ≡ false
    → first ((unless a rule.TooFew ++ unless b rule.TooMany) ++ more) ≡ Some (here rule.TooFew)
few_told false b more e = refl
few_told true b more e = cc

many_tells : (a b : Bool) (more : List Fault) → (first more ≢ Some (here rule.TooMany))
    → first ((unless a rule.TooFew ++ unless b rule.TooMany) ++ more) ≡ Some (here rule.TooMany)
    → b ≡ false
many_tells a false more h e = refl
many_tells false true more h e = absurd (few_no_many e)
many_tells true true more h e = absurd (h e)

many_told : (a b : Bool) (more : List Fault) → a ≡ true → b ≡ false
    → first ((unless a rule.TooFew ++ unless b rule.TooMany) ++ more) ≡ Some (here rule.TooMany)
many_told a b more p q = grind arith

-- with fewer items than the least, and only then, the array has rule 8
pub too_few : (l : Leaf) (least most : ℕ) (k : Key) (ds : Items)
    → first (faults (array ds) (Array l least most k) key.Free) ≡ Some (here rule.TooFew)
    ↔ (items_len ds < least)
too_few l least most k ds = (
  λ e. grind (
    arith,
    nat_tests,
    few_tells (nat_le least (items_len ds)) (nat_le (items_len ds) most)
        (items_faults ds l k 0 []) (not_items ds l k 0 [] rule.TooFew) e,
  ),
  λ h. few_told (nat_le least (items_len ds)) (nat_le (items_len ds) most)
      (items_faults ds l k 0 []) (grind (arith, nat_tests, h)),
)

-- with more than the most, and only then, rule 9
pub too_many : (l : Leaf) (least most : ℕ) (k : Key) (ds : Items) → least ≤ most
    → first (faults (array ds) (Array l least most k) key.Free) ≡ Some (here rule.TooMany)
    ↔ (most < items_len ds)
too_many l least most k ds b = (
  λ e. grind (
    arith,
    nat_tests,
    many_tells (nat_le least (items_len ds))
        (nat_le (items_len ds) most) (items_faults ds l k 0 []) (not_items ds l k 0 [] rule.TooMany)
        e,
  ),
  λ h. many_told (nat_le least (items_len ds)) (nat_le (items_len ds) most)
      (items_faults ds l k 0 []) (grind (arith, nat_tests, b, h)) (grind (arith, nat_tests, h)),
)
