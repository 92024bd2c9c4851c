-- The next name of a map is read off its entries in order.
use Rattle.std.proofs.Common.{◌≡◌, ◌<◌, Bool, true, false, cond, ◌&&◌, List, [], ◌∷◌, length}
use Rattle.std.proofs.Common.{Option, Some, None, Ordering, refl, sym, ap}
use Rattle.std.proofs.Common.{◌∙◌, arith}
use Rattle.std.specs.Prelude.{slice_get}
use Rattle.std.specs.Map.{keys_of}
use Rattle.std.specs.Ordering.{is_gt, is_lt, ordering_reverse}
use Rattle.std.specs.BTreeMap.Range.{entries_between}
use Rattle.std.specs.declared.ops.Bound.TheVariants.{Excluded, Unbounded}
use Rattle.cvr_fact_types.specs.declared.name.RecordName.{RecordName}
use Rattle.cvr_fact_types.specs.Facts.{name_cmp}
use Rattle.cvr_office.specs.Readers.{next}
use Rattle.cvr_office.proofs.Laws.{name_total}
use Rattle.cvr_cached.specs.Contents.{Entries}

abbrev pub first_of : Entries → Option RecordName
first_of [] = None
first_of (e ∷ es) = Some e.0

pub least_is : (es : Entries) → next name_cmp (keys_of es) None ≡ first_of es
least_is [] = refl
least_is (e ∷ es) = refl

-- the one at place 0
pub first_at : (es : Entries) (k : RecordName)
    (facts : List Rattle.cvr_office.specs.declared.any_fact.AnyFact.AnyFact)
    → slice_get es 0 ≡ Some (k, facts) → Some k ≡ first_of es
first_at [] k facts e = Prim.cc e
first_at (d ∷ es) k facts e = let same : d ≡ (k, facts) = Prim.cc e in
    ap (λ (p : RecordName × List Rattle.cvr_office.specs.declared.any_fact.AnyFact.AnyFact).
    Some p.0) (sym same)

pub first_none : (es : Entries) → (0 < length es → ⊥) → None ≡ first_of es
first_none [] h = refl
first_none (e ∷ es) h = absurd (h (omega arith))

turned : (r : Ordering) → is_gt (ordering_reverse r) ≡ is_lt r
turned r = grind arith

above : (k name : RecordName) → is_gt (name_cmp k name) ≡ (is_lt (name_cmp name k) && true)
above k name = ap is_gt (name_total.antisymm k name)
    ∙ (turned (name_cmp name k) ∙ same (is_lt (name_cmp name k)))
  where
    same : (b : Bool) → b ≡ (b && true)
    same true = refl
    same false = refl

-- above a name: the first of those behind it
pub above_is : (es : Entries) (name : RecordName)
    → next name_cmp (keys_of es) (Some name)
    ≡ first_of (entries_between name_cmp (Excluded name) Unbounded es)
above_is [] name = refl
above_is (e ∷ es) name =
    ap (λ b. cond b (Some e.0) (next name_cmp (keys_of es) (Some name))) (above e.0 name)
    ∙ elim (is_lt (name_cmp name e.0) && true) as
    (λ b. cond b (Some e.0) (next name_cmp (keys_of es) (Some name))
    ≡ first_of (cond b (e ∷ entries_between name_cmp (Excluded name) Unbounded es)
    (entries_between name_cmp (Excluded name) Unbounded es))) [
      | true ↦ refl
      | false ↦ above_is es name
    ]
