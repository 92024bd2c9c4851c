-- What holds of each key at which something is found, and so of the rows of totals.
use Rattle.std.proofs.Common.{◌≡◌, ℕ, ◌<◌, true, false, cond, List, [], ◌∷◌, length, Some, refl, ap}
use Rattle.std.proofs.Common.{◌∙◌, subst}
use Rattle.std.specs.Cmp.{IsTotalOrder, eq_by_cmp_equiv}
use Rattle.std.specs.FinMap.{find, entries, get-entries}
use Rattle.std.specs.List.{AllByRecursion}
use Rattle.std.specs.declared.cmp.Ordering.{Ordering}
use Rattle.std.specs.Ordering.{eq_by_cmp}
use Rattle.cvr_tally.specs.Keys.{keys_total}
use Rattle.cvr_tally.specs.Rows.{TotalsValue, IsTotals}

each_key : {K X : Type 0} {R : K → K → Ordering} (o : IsTotalOrder R) (P : K → Type 0)
    (es : List (K × X)) → ((q : K) (x : X) → find R q es ≡ Some x → P q)
    → AllByRecursion (λ e. P e.0) es
each_key o P [] h = tt {0}
each_key {R = R} o P (e ∷ es) h = (
  h e.0 e.1 (ap (λ b. cond b (Some e.1) (find R e.0 es)) ((eq_by_cmp_equiv o).refl e.0)),
  each_key o P es (λ q x is. elim (eq_by_cmp R q e.0) as (λ b. eq_by_cmp R q e.0 ≡ b → P q) [
    | true ↦ λ t. h q e.1 (ap (λ b. cond b (Some e.1) (find R q es)) t)
    | false ↦ λ t. h q x (ap (λ b. cond b (Some e.1) (find R q es)) t ∙ is)
  ] refl),
)

-- each row is one of so many contests
pub each_of : (totals : TotalsValue) (count : ℕ) → IsTotals totals → length totals.contests ≡ count
    → AllByRecursion (λ e. e.0.contest < count) (entries totals.rows)
each_of totals count are long = each_key keys_total (λ k. k.contest < count) (entries totals.rows)
    (λ k r at. subst (λ n. k.contest < n) long (are.contest k r (get-entries totals.rows k ∙ at)))
