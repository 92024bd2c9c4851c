-- What joining has to keep, and the members of a set of texts in order. (This project's own.)
use Rattle.std.specs.Prelude.{◌≡◌, ℕ, List}
use Rattle.std.specs.FinSet.{FinSet, items}
use Rattle.cvr_fact_types.specs.Facts.{text_cmp}
use Rattle.cvr_facts.specs.Ordered.{keys_in_order}

-- what joining has to keep: it is commutative and associative, joining the same again changes
-- nothing, and so does joining the unit
pub record JoinLaws {M : Type 0} (join : M → M → M) (unit : M) : Type 0 where
  pub commutes : (s t : M) → join s t ≡ join t s
  pub associates : (s t u : M) → join (join s t) u ≡ join s (join t u)
  pub repeats : (s : M) → join s s ≡ s
  pub unit_left : (s : M) → join unit s ≡ s

-- the texts of a set, rising
abbrev pub texts_in : FinSet text_cmp → List (List ℕ)
texts_in s = keys_in_order text_cmp (items s)
