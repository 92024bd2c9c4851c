-- Each row stays one of a contest, with a number for each of its selections.
use Rattle.std.proofs.Common.{◌≡◌, ℕ, ◌==◌, ◌<◌, true, false, cond, List, length, Some, None, refl}
use Rattle.std.proofs.Common.{sym, subst, ◌∙◌}
use Rattle.std.proofs.lemmas.Option.{same_Some}
use Rattle.std.specs.Cmp.{Equal-is}
use Rattle.std.specs.Option.{IfSome, option_map_or}
use Rattle.std.specs.FinMap.{get, insert, remove, empty, get-empty, get-insert, get-remove}
use Rattle.cdf_parts.specs.Places.{Contest, selections_at}
use Rattle.cvr_fact_types.specs.declared.sums.VoteSums.{VoteSums}
use Rattle.cvr_tally.specs.declared.key.RowKey.{RowKey}
use Rattle.cvr_tally.specs.declared.row.Row.{Row}
use Rattle.cvr_tally.specs.Keys.{key_cmp, is_key, keys_total, keys_exact}
use Rattle.cvr_tally.specs.Rows.{Rows, IsTotals, row_plus, row_minus, zero_row, rows_plus}
use Rattle.cvr_tally.specs.Rows.{rows_minus, rows_opened, rows_closed}
use Rattle.cvr_tally.proofs.Columns.{length-zero_row, length-row_plus, length-row_minus}

-- a row of a contest
abbrev IsOf : List Contest → RowKey → Row → Type 0
IsOf cs k r = (k.contest < length cs) × (length r.votes ≡ length (selections_at cs k.contest))

abbrev pub AreOf : List Contest → Rows → Type 0
AreOf cs m = (k : RowKey) (r : Row) → get m k ≡ Some r → IsOf cs k r

pub are_of : (cs : List Contest) (m : Rows) (n : ℕ)
    → IsTotals (record { contests = cs; rows = m; moves = n }) → AreOf cs m
are_of cs m n h k r is = (h.contest k r is, h.votes k r is)

are_totals : (cs : List Contest) (m : Rows) (n : ℕ) → AreOf cs m
    → IsTotals (record { contests = cs; rows = m; moves = n })
are_totals cs m n h = record { contest = λ k r is. (h k r is).0; votes = λ k r is. (h k r is).1 }

-- however often one of them was changed
pub kept : (cs : List Contest) (m m' : Rows) (n : ℕ) → m ≡ m' → AreOf cs m'
    → IsTotals (record { contests = cs; rows = m; moves = n })
kept cs m m' n is all = are_totals cs m n (subst (AreOf cs) (sym is) all)

pub is_key-same : (q k : RowKey) → is_key q k ≡ true → q ≡ k
is_key-same q k t = keys_exact q k ((Equal-is (key_cmp q k)).0 t)

inserted : (cs : List Contest) (m : Rows) (k : RowKey) (r : Row) → IsOf cs k r → AreOf cs m
    → AreOf cs (insert m k r)
inserted cs m k r new all q x is =
    elim (is_key q k) as (λ b. is_key q k ≡ b → cond b (Some r) (get m q) ≡ Some x → IsOf cs q x) [
      | true ↦ λ t e. subst (λ z. IsOf cs z x) (sym (is_key-same q k t))
          (subst (IsOf cs k) (same_Some r x e) new)
      | false ↦ λ _ e. all q x e
    ] refl (sym (get-insert keys_total m k r q) ∙ is)

removed : (cs : List Contest) (m : Rows) (k : RowKey) → AreOf cs m → AreOf cs (remove m k)
removed cs m k all q x is =
    elim (is_key q k) as (λ b. is_key q k ≡ b → cond b None (get m q) ≡ Some x → IsOf cs q x) [
      | true ↦ λ t e. absurd (cc)
      | false ↦ λ _ e. all q x e
    ] refl (sym (get-remove keys_total m k q) ∙ is)

pub none : (cs : List Contest) → AreOf cs empty
none cs k r is = let no : None ≡ Some r = sym (get-empty key_cmp k) ∙ is in absurd (cc)

changed : (cs : List Contest) (m : Rows) (k : RowKey) (f : Row → Row)
    → ((r : Row) → IsOf cs k r → IsOf cs k (f r)) → AreOf cs m
    → AreOf cs (option_map_or (λ r. insert m k (f r)) (get m k) m)
changed cs m k f keeps all =
    elim (get m k) as (λ v. get m k ≡ v → AreOf cs (option_map_or (λ r. insert m k (f r)) v m)) [
      | None ↦ λ _. all
      | Some r ↦ λ e. inserted cs m k (f r) (keeps r (all k r e)) all
    ] refl

pub plus : (cs : List Contest) (m : Rows) (k : RowKey) (s : VoteSums) → AreOf cs m
    → AreOf cs (rows_plus m k s)
plus cs m k s = changed cs m k (λ r. row_plus r s) (λ r is. (is.0, length-row_plus r s ∙ is.1))

pub minus : (cs : List Contest) (m : Rows) (k : RowKey) (s : VoteSums) → AreOf cs m
    → AreOf cs (rows_minus m k s)
minus cs m k s = changed cs m k (λ r. row_minus r s) (λ r is. (is.0, length-row_minus r s ∙ is.1))

pub opened : (cs : List Contest) (m : Rows) (k : RowKey) → k.contest < length cs → AreOf cs m
    → AreOf cs (rows_opened cs m k)
opened cs m k lt all =
    elim (get m k) as (λ v. AreOf cs (option_map_or (λ _. m) v
    (insert m k (zero_row (length (selections_at cs k.contest)))))) [
      | None ↦ inserted cs m k _ (lt, length-zero_row _) all
      | Some r ↦ all
    ]

pub closed : (cs : List Contest) (m : Rows) (k : RowKey) → AreOf cs m → AreOf cs (rows_closed m k)
closed cs m k all =
    elim (get m k) as (λ v. AreOf cs (option_map_or (λ r. cond (r.ballots == 0) (remove m k) m) v
    m)) [
      | None ↦ all
      | Some r ↦ elim (r.ballots == 0) as (λ b. AreOf cs (cond b (remove m k) m))
          [ true ↦ removed cs m k all | false ↦ all ]
    ]

-- what stands at a key has as many votes as the sums
pub long_at : (cs : List Contest) (m : Rows) (k : RowKey) (s : VoteSums)
    → length s.votes ≡ length (selections_at cs k.contest) → AreOf cs m
    → IfSome (get m k) (λ r. length s.votes ≡ length r.votes)
long_at cs m k s long all =
    elim (get m k) as (λ v. get m k ≡ v → IfSome v (λ r. length s.votes ≡ length r.votes)) [
      | None ↦ λ _. tt {0}
      | Some r ↦ λ e. long ∙ sym (all k r e).1
    ] refl
