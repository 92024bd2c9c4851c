-- Words that ask for no request.
use Rattle.std.proofs.Common.{◌≡◌, ◌≢◌, ◌∙◌, ℕ, List, [], Bool, true, false, None, Result, Ok, Err}
use Rattle.std.proofs.Common.{IfErr, inr, refl, sym, ap, subst, arith}
use Rattle.std.specs.Prelude.{if◌then◌else◌}
use Rattle.cdf_types.specs.Device.{Taken, taken_with}
use Rattle.cvr_words.specs.Fault.{IsLoggedFault}
use Rattle.cvr_words.specs.Request.{IsRequest}
use Rattle.cvr_words.specs.declared.fault.LoggedFault.{LoggedFault}
use Rattle.cvr_words.specs.declared.request.Request.{Request}
use Rattle.cvr_words.proofs.Laws.{no_line_fault_but_memory}
use Rattle.cvr_run.specs.Answered.{LogsWords, help_text, is_help, words_line, words_status}
use Rattle.cvr_run.specs.declared.printing.PrintFault.{PrintFault}
use Rattle.cvr_run.specs.declared.printing.PrintFault.TheVariants as fault
use Rattle.cvr_run.specs.declared.refusals.Refusals.{Refusals}
use Rattle.cvr_run.specs.declared.status.Status.{Status}
use Rattle.cvr_run.specs.declared.status.Status.TheVariants as status
use Rattle.cvr_run.specs.Log.{Logs}
use Rattle.cvr_run.specs.Outcome.{IsWhole}
use Rattle.cvr_run.specs.OwnWords.{PrintsOwn}
use Rattle.cvr_run.specs.Printing.{Prints, is_output, end_line, print_line, print_status}
use Rattle.cvr_run.specs.Printing.{status_after}
use Rattle.cvr_run.specs.Refusals.{status_of}
use Rattle.cvr_run.specs.Logged.{out_line}
use Rattle.cvr_run.proofs.Known.{not_whole}
use Rattle.cvr_run.proofs.Printed.{whole_front}
use Rattle.cvr_report.proofs.Lemmas.{appended_none}

-- a fault that leaves the output as it was
pub quiet_told : (unchanged : Type 0) (f k : LoggedFault) (answer : Status) (c b a : Taken) → f ≡ k
    → answer ≡ words_status k c.failed → unchanged → help_text k ≡ []
    → Logs b a (words_line k c.failed)
    → LogsWords f answer (record { out = c; log = b }) (record { out = c; log = a }) unchanged
quiet_told unchanged f k answer c b a is status quiet none log =
    subst (λ (j : LoggedFault). LogsWords j answer (record { out = c; log = b })
    (record { out = c; log = a }) unchanged) (sym is)
    (record {
      status = status;
      quiet = λ _. quiet;
      whole = λ _. appended_none c.bytes ∙ ap (taken_with c.bytes) (sym none);
      front = ([], [], none, appended_none c.bytes);
      log = log;
    })

-- nothing was refused
none_refused : (r : Refusals) → r.any_refusal ≡ false → r.file_lacking ≡ false
    → r.path_unspelled ≡ false → status_of r ≡ status.Done
none_refused r any lacking unspelled = rw (any, lacking, unspelled) refl

help_status : (f : LoggedFault) (g : Bool) → is_help f ≡ true
    → words_status f g ≡ (if g then status.Device else status.Done)
help_status f g is = grind arith

help_line : (f : LoggedFault) (g : Bool) → is_help f ≡ true → words_line f g ≡ out_line g
help_line f g is = grind arith

-- a text of the program's own that was printed, or not whole
pub own_told : {T : Type 0} (text : List ℕ) (printed : Result T PrintFault) (r : Refusals)
    (answer : Status) (c d b a : Taken)
    → Prints c d printed None text → IfErr printed (λ e. e ≡ fault.Device) → r.any_refusal ≡ false
    → r.file_lacking ≡ false → r.path_unspelled ≡ false
    → answer ≡ status_after printed r → Logs b a (end_line printed)
    → PrintsOwn text answer (record { out = c; log = b }) (record { out = d; log = a })
own_told text (Ok x) r answer c d b a p e any lacking unspelled is log = record {
  status = is ∙ (none_refused r any lacking unspelled
      ∙ sym (ap (λ (o : Bool). if o then status.Device else status.Done) p.1));
  whole = λ _. p.0;
  prefix = whole_front c d text p.0;
  log = subst (λ (o : Bool). Logs b a (out_line o)) (sym p.1) log;
}
own_told text (Err x) r answer c d b a p e any lacking unspelled is log =
    let failed : d.failed ≡ true = p.1 ∙ ap is_output e in
    record {
      status =
          is ∙ (ap (λ (o : Bool). if o then status.Memory else print_status x) unspelled
          ∙ (ap print_status e ∙ sym (ap (λ (o : Bool). if o then status.Device else status.Done)
          failed)));
      whole = λ works. absurd (let bad : true ≡ false = sym failed ∙ works in cc);
      prefix = p.0;
      log = subst (λ (o : Bool). Logs b a (out_line o)) (sym failed)
          (subst (λ y. Logs b a (print_line y)) e log);
    }

-- help that was printed, or not whole
pub help_told : {T : Type 0} (unchanged : Type 0) (k : LoggedFault) (printed : Result T PrintFault)
    (r : Refusals) (answer : Status) (c d b a : Taken)
    → is_help k ≡ true → Prints c d printed None (help_text k)
    → IfErr printed (λ e. e ≡ fault.Device) → r.any_refusal ≡ false → r.file_lacking ≡ false
    → r.path_unspelled ≡ false
    → answer ≡ status_after printed r → Logs b a (end_line printed)
    → LogsWords k answer (record { out = c; log = b }) (record { out = d; log = a }) unchanged
help_told unchanged k (Ok x) r answer c d b a help p e any lacking unspelled is log = record {
  status = is ∙ (none_refused r any lacking unspelled
      ∙ (sym (ap (λ (o : Bool). if o then status.Device else status.Done) p.1)
      ∙ sym (help_status k d.failed help)));
  quiet = λ other. absurd (let bad : true ≡ false = sym help ∙ other in cc);
  whole = λ _. p.0;
  front = whole_front c d (help_text k) p.0;
  log = subst (Logs b a) (sym (help_line k d.failed help))
      (subst (λ (o : Bool). Logs b a (out_line o)) (sym p.1) log);
}
help_told unchanged k (Err x) r answer c d b a help p e any lacking unspelled is log =
    let failed : d.failed ≡ true = p.1 ∙ ap is_output e in
    record {
      status =
          is ∙ (ap (λ (o : Bool). if o then status.Memory else print_status x) unspelled
          ∙ (ap print_status e ∙ (sym (ap (λ (o : Bool). if o then status.Device else status.Done)
          failed) ∙ sym (help_status k d.failed help))));
      quiet = λ other. absurd (let bad : true ≡ false = sym help ∙ other in cc);
      whole = λ works. absurd (let bad : true ≡ false = sym failed ∙ works in cc);
      front = p.0;
      log =
          subst (Logs b a) (sym (help_line k d.failed help))
          (subst (λ (o : Bool). Logs b a (out_line o)) (sym failed)
          (subst (λ y. Logs b a (print_line y)) e log));
    }

-- words that ask for a request are reported only where memory ran out
pub told_memory : (words : List (List ℕ)) (request : Request) (f : LoggedFault) (answer : Status)
    (g : Bool) → IsRequest words request → IsLoggedFault words f → answer ≡ words_status f g
    → answer ≡ status.Memory
told_memory words request f answer g asked is is_logged =
    is_logged ∙ ap (λ k. words_status k g) (no_line_fault_but_memory words request f asked is)

pub not_asked : (words : List (List ℕ)) (request : Request) (f : LoggedFault) (answer : Status)
    (g : Bool) → IsRequest words request → IsLoggedFault words f → answer ≡ words_status f g
    → IsWhole answer → ⊥
not_asked words request f answer g asked is is_logged =
    not_whole answer (inr (told_memory words request f answer g asked is is_logged))

pub not_command_line : (answer : Status) → answer ≡ status.Memory → answer ≢ status.CommandLine
not_command_line answer is other = cc
