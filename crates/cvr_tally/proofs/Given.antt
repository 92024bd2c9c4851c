-- The entries of a map that is given by a list.
use Rattle.std.proofs.Common.{◌≡◌, List, [], ◌∷◌, Ordering, ap, sym, ◌∙◌}
use Rattle.std.proofs.lemmas.List.{nil_from_length}
use Rattle.std.specs.Cmp.{IsTotalOrder}
use Rattle.std.specs.FinMap.{entries, entries-insert, from_entries, empty, put, len-entries}
use Rattle.std.specs.FinMap.{len-empty}

-- each put in its place
abbrev pub placed : {K X : Type 0} → (K → K → Ordering) → List (K × X) → List (K × X)
placed R [] = []
placed R (e ∷ es) = put R e.0 e.1 (placed R es)

entries-empty : {K X : Type 0} (R : K → K → Ordering) → entries (empty {X = X} {R = R}) ≡ []
entries-empty {X = X} R = nil_from_length (entries (empty {X = X} {R = R}))
    (sym (len-entries (empty {X = X} {R = R})) ∙ len-empty R X)

pub entries-given : {K X : Type 0} {R : K → K → Ordering} → IsTotalOrder R → (es : List (K × X))
    → entries (from_entries {R = R} es) ≡ placed R es
entries-given {R = R} o [] = entries-empty R
entries-given {R = R} o (e ∷ es) =
    entries-insert o (from_entries es) e.0 e.1 ∙ ap (put R e.0 e.1) (entries-given o es)
