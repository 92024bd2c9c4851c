use Rattle.cvr_facts.proofs.Choosing.{text_total, text_exact, choice_total, choice_exact}
use Rattle.cvr_facts.proofs.law.texts_are_ordered.Goals as goal

pub returns : goal.returns
returns c = record {
  texts = text_total;
  exact_texts = text_exact;
  bodies = choice_total;
  exact_bodies = choice_exact;
}
