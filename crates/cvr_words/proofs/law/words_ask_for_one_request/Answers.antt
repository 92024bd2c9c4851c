use Rattle.cvr_words.proofs.OneRequest.{no_fault_but_memory, no_line_fault_but_memory, one_request}
use Rattle.cvr_words.proofs.law.words_ask_for_one_request.Goals as goal

pub returns : goal.returns
returns c = record {
  one = one_request;
  no_fault = no_fault_but_memory;
  no_logged_fault = no_line_fault_but_memory;
}
