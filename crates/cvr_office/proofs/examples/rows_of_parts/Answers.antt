use Rattle.std.proofs.Common.{map, refl, ap, ◌∙◌, ◌++◌, [], ◌∷◌}
use Rattle.std.specs.Fmt.{digits}
use Rattle.serde_json.proofs.OnLiterals.{serde_json_on_literals}
use Rattle.jiff.proofs.OnLiterals.{jiff_on_literals}
use Rattle.cvr_fact_types.specs.Columns.{VotesFor, columns}
use Rattle.cvr_office.specs.Examples.{contests}
use Rattle.cvr_office.specs.PartExamples.{first_part, second_part, keys}
use Rattle.cvr_office.specs.Tallied.{row, rows}
use Rattle.cvr_office.specs.Counting.{total_of}
use Rattle.cvr_office.proofs.GivenFacts.{row-given, totals-given, union-given}
use Rattle.cvr_office.proofs.examples.rows_of_parts.Goals as goal

pub returns : goal.returns
unfolding serde_json_on_literals jiff_on_literals digits
returns c = record {
  first = (λ i. map (λ q. row-given contests first_part q i) keys) ∙ refl;
  second = (λ i. map (λ q. row-given contests second_part q i) keys) ∙ refl;
  both = ap (λ s. map (row contests s) keys) (union-given first_part second_part)
      ∙ ((λ i. map (λ q. row-given contests (first_part ++ second_part) q i) keys) ∙ refl);
  sums = (refl, refl, refl);
  totals = ap (λ s. map (total_of (rows contests s) 0) (columns ++ VotesFor 0 ∷ VotesFor 1 ∷ []))
      (union-given first_part second_part)
      ∙ (totals-given contests (first_part ++ second_part) 0
      (columns ++ VotesFor 0 ∷ VotesFor 1 ∷ []) ∙ refl);
}
