-- The lines of current snapshots, from one record on.
use Rattle.std.proofs.Common.{◌≡◌, ℕ, ◌<◌, length, List, ◌∷◌, ◌++◌, Option, Some, None, IfSome}
use Rattle.std.proofs.Common.{Contains, ap, sym, ◌∙◌, subst, append_assoc, arith}
use Rattle.std.specs.List.{flat_map}
use Rattle.cvr_fact_types.specs.declared.name.RecordName.{RecordName}
use Rattle.cvr_fact_types.specs.Facts.{Facts, name_cmp}
use Rattle.cvr_facts.specs.Choosing.{current}
use Rattle.cvr_facts.proofs.Lemmas.{ordered_rises}
use Rattle.cvr_office.specs.Names.{records}
use Rattle.cvr_office.specs.Readers.{next}
use Rattle.cvr_run.specs.Currents.{line_of, currents}
use Rattle.cvr_office.proofs.Lemmas.{from, next_listed, from-next_none, from-some}
use Rattle.cvr_office.proofs.Laws.{name_total}

abbrev pub record_line : Facts → RecordName → List ℕ
record_line facts key = line_of key (current facts key)

-- the records from a given one on, and their lines
abbrev pub records_from : Facts → Option RecordName → List RecordName
records_from facts key = from name_cmp key (records facts)

abbrev pub lines_from : Facts → Option RecordName → List ℕ
lines_from facts key = flat_map (record_line facts) (records_from facts key)

pub lines_from-first : (facts : Facts) (first : Option RecordName)
    → first ≡ next name_cmp (records facts) None → lines_from facts first ≡ currents facts
lines_from-first facts first is =
    rw is (ap (flat_map (record_line facts)) (from-next_none name_cmp name_total (records facts)))

-- what comes next is one of the records
pub next_record_listed : (facts : Facts) (after found : Option RecordName)
    → found ≡ next name_cmp (records facts) after → IfSome found (Contains (records facts))
next_record_listed facts after found is = subst (λ o. IfSome o (Contains (records facts))) (sym is)
    (next_listed name_cmp (records facts) after)

module _ (facts : Facts) (here : Option RecordName) (key : RecordName) (above : Option RecordName)
    (at : here ≡ Some key) (listed : IfSome here (Contains (records facts)))
    (is : above ≡ next name_cmp (records facts) (Some key)) where
  key_listed : Contains (records facts) key
  key_listed = subst (λ o. IfSome o (Contains (records facts))) at listed

  records_from-here : records_from facts here ≡ key ∷ records_from facts above
  records_from-here =
      ap (records_from facts) at
      ∙ (from-some name_cmp name_total (records facts) key (ordered_rises name_cmp _) key_listed
      ∙ ap (λ o. key ∷ records_from facts o) (sym is))

  -- one fewer is left
  pub fewer_from : length (records_from facts above) < length (records_from facts here)
  fewer_from = let is = ap length records_from-here in omega (arith, is)

  -- and its line is taken off
  pub line_more : (before after : List ℕ) → after ≡ before ++ record_line facts key
      → after ++ lines_from facts above ≡ before ++ lines_from facts here
  line_more before after more = rw (more, append_assoc)
      (ap (λ keys. before ++ flat_map (record_line facts) keys) (sym records_from-here))
