use Rattle.std.proofs.Common.{◌≡◌, ◌≢◌, ◌∙◌, ℕ, List, [], ◌∷◌, length, ap, arith, false, inl, inr}
use Rattle.std.proofs.Common.{refl}
use Rattle.cvr_call.specs.Given.{Given}
use Rattle.cvr_call.specs.Responds.{Answer, IsAnswer, IsBegun}
use Rattle.cvr_call.specs.declared.fault.CallFault.{CallFault}
use Rattle.cvr_call.specs.declared.fault.CallFault.TheVariants.{Pieces, Memory}
use Rattle.cvr_call.specs.Left.{fault_code, no_input, no_memory, put_into}
use Rattle.cvr_call.proofs.call.cvr_call.Goals as goal

of_memory : (fault : CallFault) (code : ℕ) → code ≡ fault_code fault → fault ≢ Pieces
    → code ≡ no_memory
of_memory Pieces code is other = absurd (other refl)
of_memory Memory code is other = is

to_memory : (fault : CallFault) (code : ℕ) → code ≡ fault_code fault → code ≡ no_memory
    → fault ≡ Memory
to_memory Pieces code is four = absurd (omega (arith, is, four))
to_memory Memory code is four = refl

of_pieces : (fault : CallFault) (code : ℕ) → code ≡ fault_code fault → code ≡ no_input
    → fault ≡ Pieces
of_pieces Pieces code is five = refl
of_pieces Memory code is five = absurd (omega (arith, is, five))

pub returns-in-Ok-clause-handed_over : goal.returns-in-Ok-clause-handed_over
returns-in-Ok-clause-handed_over c given is = inr (
  record {
    status = c.in-Ok.status;
    text = c.answer_input-answered.new.out.taken;
    log = c.answer_input-answered.new.log.taken;
  },
  c.in-Ok.ensures.answered given is,
  record {
    status = cc;
    put = record {
      text_put = cc;
      log_put = cc;
      text_size = ap length c.taken-3.ensures;
      log_size = ap length c.taken-4.ensures;
    };
  },
)

pub returns-in-Ok-clause-left : goal.returns-in-Ok-clause-left
returns-in-Ok-clause-left c = record {
  text = c.answer_input-answered.new.out.taken;
  log = c.answer_input-answered.new.log.taken;
  put = record {
    text_put = cc;
    log_put = cc;
    text_size = ap length c.taken-3.ensures;
    log_size = ap length c.taken-4.ensures;
  };
}

pub returns-clause-left : goal.returns-clause-left
returns-clause-left c = record {
  text = c.answer_input-answered.new.out.taken;
  log = c.answer_input-answered.new.log.taken;
  put = record {
    text_put = cc;
    log_put = cc;
    text_size = ap length c.taken-3.ensures;
    log_size = ap length c.taken-4.ensures;
  };
}

-- the program's answer is what it did, whatever its status
begun : (given : Given) (answer : Answer) → IsAnswer given answer
    → IsBegun given answer.text answer.log
begun given answer is = record {
  status = answer.status;
  text_failed = false;
  log_failed = false;
  did = is;
}

pub returns-in-Ok-clause-so_far : goal.returns-in-Ok-clause-so_far
unfolding returns-in-Ok-clause-left
returns-in-Ok-clause-so_far c four given is =
    (returns-in-Ok-clause-left c, inr (begun given _ (c.in-Ok.ensures.answered given is)))

pub returns-clause-so_far : goal.returns-clause-so_far
unfolding returns-clause-left
returns-clause-so_far c four given is = (
  returns-clause-left c,
  c.in-Err.ensures.so_far (to_memory c.in-Err.fault c.code.result c.code.ensures four) given is,
)

pub returns-in-Ok-clause-bad_input : goal.returns-in-Ok-clause-bad_input
returns-in-Ok-clause-bad_input c none = absurd (none c.in-Ok.ensures.some.0 c.in-Ok.ensures.some.1)

pub returns-clause-handed_over : goal.returns-clause-handed_over
returns-clause-handed_over c given is = inl (of_memory c.in-Err.fault c.code.result c.code.ensures
    (λ pieces. c.in-Err.ensures.none pieces given is))

pub returns-clause-no_input : goal.returns-clause-no_input
returns-clause-no_input c five =
    c.in-Err.ensures.none (of_pieces c.in-Err.fault c.code.result c.code.ensures five)

put_none : (room : List ℕ) → put_into room [] ≡ room
put_none [] = refl
put_none (byte ∷ room) = refl

-- a room stays as it was where there is nothing to put into it
kept : (room new bytes taken : List ℕ) → new ≡ put_into room bytes → bytes ≡ taken → taken ≡ []
    → new ≡ room
kept room new bytes taken put same none = put ∙ (ap (put_into room) (same ∙ none) ∙ put_none room)

pub returns-clause-nothing_handed_over : goal.returns-clause-nothing_handed_over
returns-clause-nothing_handed_over c five =
    let pieces = of_pieces c.in-Err.fault c.code.result c.code.ensures five in
    let text = c.in-Err.ensures.quiet pieces in
    let log = c.in-Err.ensures.log_quiet pieces in
    record {
      text = kept c.args.text.now _ _ _ c.put-text_fits.ensures.room c.taken.ensures text;
      log = kept c.args.log.now _ _ _ c.put-log_fits.ensures.room c.taken-2.ensures log;
      text_size = ap length (c.taken-3.ensures ∙ text);
      log_size = ap length (c.taken-4.ensures ∙ log);
    }
