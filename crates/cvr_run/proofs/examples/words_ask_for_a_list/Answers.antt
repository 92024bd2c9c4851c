use Rattle.std.proofs.Common.{◌≡◌, ◌∙◌, [], ◌∷◌, codes, inl, refl, sym}
use Rattle.clap.specs.Words.{fault_of}
use Rattle.clap.specs.declared.error.ErrorKind.TheVariants.{UnknownArgument}
use Rattle.clap.proofs.OnLiterals.{clap_on_literals}
use Rattle.cvr_words.specs.Line.{cvr_line, with_program}
use Rattle.cvr_run.proofs.examples.words_ask_for_a_list.Goals as goal

list_unknown : fault_of cvr_line (with_program
    (codes "tally" ∷ codes "d" ∷ codes "--files-from" ∷ codes "l" ∷ [])) ≡ UnknownArgument ∷ []
unfolding clap_on_literals
list_unknown = refl

pub returns : goal.returns
unfolding clap_on_literals
returns c = record {
  before = codes "tally" ∷ codes "d" ∷ [];
  short = inl refl;
  split = refl;
  free = λ other asks. let bad : [] ≡ UnknownArgument ∷ [] = sym asks.0 ∙ list_unknown in cc;
  request = (refl, codes "tally", _, refl, record { task = refl; def = refl; paths = refl });
  files = refl;
  none = refl;
}
