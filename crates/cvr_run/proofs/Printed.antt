-- A run that ends after a text was printed, or not printed.
use Rattle.std.proofs.Common.{◌≡◌, ◌≢◌, ℕ, List, [], ◌∷◌, ◌++◌, length, Bool, true, false, ◌||◌}
use Rattle.std.proofs.Common.{Option, Some, None, Result, Ok, Err, IfErr, inl, inr, refl, sym, ap}
use Rattle.std.proofs.Common.{◌∙◌, subst, append-nil, arith, true≢false}
use Rattle.std.specs.Prelude.{is_some, if◌then◌else◌}
use Rattle.std.specs.Result.{IsErrAnd}
use Rattle.cdf_types.specs.Device.{Taken, Appends, taken_with, AppendsPrefix}
use Rattle.cdf_types.specs.declared.fault.ReadFault.{ReadFault}
use Rattle.cdf_types.specs.declared.fault.ReadFault.TheVariants.{Memory as OutOfMemory}
use Rattle.cdf_definition.specs.Acceptance.{first_unsound, frame_in}
use Rattle.cvr_words.specs.declared.request.Task.{Task}
use Rattle.cvr_run.specs.declared.merge.MergeFault.{MergeFault}
use Rattle.cvr_run.specs.declared.printing.PrintFault.{PrintFault}
use Rattle.cvr_run.specs.declared.printing.PrintFault.TheVariants.{Merge, Device, Memory}
use Rattle.cvr_run.specs.declared.refusals.Refusals.{Refusals}
use Rattle.cvr_run.specs.declared.status.Status.{Status}
use Rattle.cvr_run.specs.declared.status.Status.TheVariants as status
use Rattle.cvr_run.specs.Ends.{Ends}
use Rattle.cvr_run.specs.Log.{Logs}
use Rattle.cvr_run.specs.Merge.{merge_fault_line}
use Rattle.cvr_run.specs.Outcome.{any_refused, run_text, task_refused, task_text}
use Rattle.cvr_run.specs.Refusals.{is_memory}
use Rattle.cvr_run.specs.Printing.{Prints, is_output, merge_part, end_line, print_status}
use Rattle.cvr_run.specs.Printing.{status_after}
use Rattle.cvr_run.specs.Logged.{last_lines, Dues, LogsFirst, LogsRun}
use Rattle.cvr_run.proofs.Logging.{told_whole, wanted, cut_by_memory}
use Rattle.cvr_report.proofs.Lemmas.{appended_none}

-- out of memory before anything was printed
pub not_printed : {T : Type 0} (before : Taken) (r : Result T PrintFault)
    (fault : Option MergeFault) (text : List ℕ) → IsErrAnd r (λ x. x ≡ Memory)
    → before.failed ≡ false
    → Prints before before r fault text
not_printed before (Ok x) fault text h works = absurd h
not_printed before (Err x) fault text h works = (
  ([], text, refl, appended_none before.bytes),
  works
      ∙ sym (ap is_output h),
  λ other. absurd (other h),
)

-- ---- its status

module _ (before after : Taken) (text : List ℕ) (refused : Bool) (s : Status) where
  ends_done : s ≡ status.Done → refused ≡ false → Appends before after text → after.failed ≡ false
      → Ends before after text refused s
  ends_done is none taken works = record {
    done = λ _. none;
    refused = λ other. absurd (cc);
    whole = λ _. taken;
    front = (text, [], sym (append-nil text), taken);
    device = λ other. absurd (cc);
    failed = λ e. absurd (cc);
    no_words = λ other. cc;
  }

  ends_refused : s ≡ status.Refused → refused ≡ true → Appends before after text
      → after.failed ≡ false → Ends before after text refused s
  ends_refused is some taken works = record {
    done = λ other. absurd (cc);
    refused = λ _. some;
    whole = λ _. taken;
    front = (text, [], sym (append-nil text), taken);
    device = λ other. absurd (cc);
    failed = λ e. absurd (cc);
    no_words = λ other. cc;
  }

  ends_device : s ≡ status.Device → AppendsPrefix before after text → after.failed ≡ true
      → Ends before after text refused s
  ends_device is front fails = record {
    done = λ other. absurd (cc);
    refused = λ other. absurd (cc);
    whole = λ some. absurd (elim some [
      | inl one ↦ cc
      | inr two ↦ cc
    ]);
    front = front;
    device = λ _. fails;
    failed = λ _. inl is;
    no_words = λ other. cc;
  }

  ends_memory : s ≡ status.Memory → AppendsPrefix before after text
      → Ends before after text refused s
  ends_memory is front = record {
    done = λ other. absurd (cc);
    refused = λ other. absurd (cc);
    whole = λ some. absurd (elim some [
      | inl one ↦ cc
      | inr two ↦ cc
    ]);
    front = front;
    device = λ other. absurd (cc);
    failed = λ _. inr is;
    no_words = λ other. cc;
  }

pub whole_front : (before after : Taken) (text : List ℕ) → Appends before after text
    → AppendsPrefix before after text
whole_front before after text taken = (text, [], sym (append-nil text), taken)

-- a prefix of nothing is all of it
all_of_none : (before after : Taken) (text : List ℕ) → text ≡ [] → AppendsPrefix before after text
    → Appends before after text
all_of_none before after text none ([], rest, cut, taken) =
    taken ∙ ap (taken_with before.bytes) (sym none)
all_of_none before after text none (x ∷ front, rest, cut, taken) =
    absurd (let same : x ∷ (front ++ rest) ≡ [] = sym cut ∙ none in Prim.cc same)

or_some : (fault : Option MergeFault) (some : Bool) (m : MergeFault) → fault ≡ Some m
    → (is_some fault || some) ≡ true
or_some fault some m is = ap (λ o. is_some o || some) is

or_none : (fault : Option MergeFault) (some : Bool) → fault ≡ None → (is_some fault || some) ≡ some
or_none fault some is = ap (λ o. is_some o || some) is

-- after all was printed: by what a run keeps of its refusals
ends_printed : (before after : Taken) (text : List ℕ) (fault : Option MergeFault)
    (lacking unspelled any some : Bool) (s : Status)
    → Appends before after text → after.failed ≡ false → fault ≡ None → lacking ≡ false → any ≡ some
    → s ≡ (if lacking || unspelled then status.Memory
    else (if any then status.Refused else status.Done))
    → Ends before after text (is_some fault || some) s
ends_printed before after text fault true unspelled any some s taken works none working same is =
    absurd (cc)
ends_printed before after text fault false true any some s taken works none working same is =
    ends_memory before after text _ s is (whole_front before after text taken)
ends_printed before after text fault false false true some s taken works none working same is =
    ends_refused before after text _ s is (or_none fault some none ∙ sym same) taken works
ends_printed before after text fault false false false some s taken works none working same is =
    ends_done before after text _ s is (or_none fault some none ∙ sym same) taken works

-- after a fault: by whether a path was not spelled
ends_faulty : (before after : Taken) (text : List ℕ) (fault : Option MergeFault) (e : PrintFault)
    (unspelled some : Bool) (s : Status)
    → AppendsPrefix before after text → after.failed ≡ is_output e
    → (e ≢ Memory → fault ≡ merge_part e) → ((m : MergeFault) → fault ≡ Some m → text ≡ [])
    → s ≡ (if unspelled then status.Memory else print_status e)
    → Ends before after text (is_some fault || some) s
ends_faulty before after text fault e true some s front fails part empty is =
    ends_memory before after text _ s is front
ends_faulty before after text fault (Merge m) false some s front fails part empty is =
    let is_logged = part (λ other. cc) in
    ends_refused before after text _ s is (or_some fault some m is_logged)
    (all_of_none before after text (empty m is_logged) front) fails
ends_faulty before after text fault Device false some s front fails part empty is =
    ends_device before after text _ s is front fails
ends_faulty before after text fault Memory false some s front fails part empty is =
    ends_memory before after text _ s is front

pub ends_after : {T : Type 0} (before after : Taken) (result : Result T PrintFault)
    (fault : Option MergeFault) (text : List ℕ) (r : Refusals) (some : Bool) (s : Status)
    → Prints before after result fault text → ((m : MergeFault) → fault ≡ Some m → text ≡ [])
    → r.file_lacking ≡ false → r.any_refusal ≡ some → s ≡ status_after result r
    → Ends before after text (is_some fault || some) s
ends_after before after (Ok x) fault text r some s (taken, works, none) empty working same is =
    ends_printed before after text fault r.file_lacking r.path_unspelled r.any_refusal some s taken
    works none working same is
ends_after before after (Err e) fault text r some s (front, fails, part) empty working same is =
    ends_faulty before after text fault e r.path_unspelled some s front fails part empty is

-- where the definition is refused
pub ends_unsound : (task : Task) (def : List ℕ) (paths files : List (List ℕ)) (out : Taken)
    (fault : ReadFault) (none lacking unspelled any : Bool) (s : Status)
    → out.failed ≡ false → ((fault ≡ OutOfMemory → ⊥) → first_unsound def ≡ Some fault)
    → none ≡ false → lacking ≡ (none || is_memory fault) → any ≡ true
    → s ≡ (if lacking || unspelled then status.Memory
    else (if any then status.Refused else status.Done))
    → Ends out out (run_text task def paths files) (any_refused task def files) s
ends_unsound task def paths files out fault none true unspelled any s works first held lack some is =
    ends_memory out out _ _ s is ([], _, refl, appended_none out.bytes)
ends_unsound task def paths files out fault none false true any s works first held lack some is =
    ends_memory out out _ _ s is ([], _, refl, appended_none out.bytes)
ends_unsound task def paths files out fault none false false false s works first held lack some is =
    absurd (true≢false (sym some))
ends_unsound task def paths files out fault none false false true s works first held lack some is =
    let due = first (λ e. true≢false (sym (ap is_memory e)
    ∙ sym (lack ∙ ap (λ b. b || is_memory fault) held))) in
    let empty : run_text task def paths files ≡ [] =
    ap (λ o. if is_some o then [] else task_text (frame_in def) task paths files) due in
    ends_refused out out _ _ s is (ap (λ o. is_some o || task_refused (frame_in def) task files) due)
    (appended_none out.bytes ∙ ap (taken_with out.bytes) (sym empty)) works

-- ---- its log

-- the line of the end is the rest, unless memory ran out
rest_is : {T : Type 0} (before after : Taken) (result : Result T PrintFault)
    (fault : Option MergeFault) (text : List ℕ) → Prints before after result fault text
    → (IsErrAnd result (λ e. e ≡ Memory) → ⊥) → end_line result ≡ last_lines fault after.failed
rest_is before after (Ok x) fault text (taken, works, none) other =
    λ i. last_lines (sym none i) (sym works i)
rest_is before after (Err (Merge m)) fault text (front, works, part) other =
    sym (append-nil (merge_fault_line m)) ∙ (λ i. last_lines (sym (part (λ e. cc)) i) (sym works i))
rest_is before after (Err Device) fault text (front, fails, part) other =
    λ i. last_lines (sym (part (λ e. cc)) i) (sym fails i)
rest_is before after (Err Memory) fault text (front, works, part) other = absurd (other refl)

unspelled_of : (lacking unspelled any : Bool) → lacking ≡ false
    → (if lacking || unspelled then status.Memory
    else (if any then status.Refused else status.Done)) ≡ status.Memory → unspelled ≡ true
unspelled_of lacking unspelled any working is = grind arith

memory_of : (lacking unspelled any : Bool) → unspelled ≡ true
    → (if lacking || unspelled then status.Memory
    else (if any then status.Refused else status.Done)) ≡ status.Memory
memory_of lacking unspelled any is = grind arith

faulty_unspelled : (unspelled : Bool) (e : PrintFault) → (e ≡ Memory → ⊥)
    → (if unspelled then status.Memory else print_status e) ≡ status.Memory → unspelled ≡ true
faulty_unspelled unspelled e other is = grind arith

-- memory was wanting exactly where a path was not spelled, unless it was for the text
wanting_is : {T : Type 0} (result : Result T PrintFault) (r : Refusals) → r.file_lacking ≡ false
    → (IsErrAnd result (λ e. e ≡ Memory) → ⊥) → status_after result r ≡ status.Memory
    → r.path_unspelled ≡ true
wanting_is (Ok x) r working other is =
    unspelled_of r.file_lacking r.path_unspelled r.any_refusal working is
wanting_is (Err e) r working other is = faulty_unspelled r.path_unspelled e other is

wanting_where : {T : Type 0} (result : Result T PrintFault) (r : Refusals) → r.path_unspelled ≡ true
    → status_after result r ≡ status.Memory
wanting_where (Ok x) r is = memory_of r.file_lacking r.path_unspelled r.any_refusal is
wanting_where (Err e) r is = ap (λ u. if u then status.Memory else print_status e) is

merge_is_not : (u : MergeFault) → Merge u ≡ Memory → ⊥
merge_is_not u e = cc

device_is_not : Device ≡ Memory → ⊥
device_is_not e = cc

status_in_memory : (unspelled : Bool) → (if unspelled then status.Memory else status.Memory)
    ≡ status.Memory
status_in_memory true = refl
status_in_memory false = refl

-- a fault of the output is not that memory ran out
pub by_device : {T : Type 0} (result : Result T PrintFault) → IfErr result (λ e. e ≡ Device)
    → IsErrAnd result (λ e. e ≡ Memory) → ⊥
by_device (Ok x) only is = is
by_device (Err e) only is = device_is_not (sym only ∙ is)

module _ (of : Dues) (n : ℕ) (r : Refusals) (b m a : Taken) (so_far : LogsFirst of n r b m)
    (all : n ≡ length of.dues) (working : r.file_lacking ≡ false) where
  -- where memory was not refused for the text
  pub tells_whole : {T : Type 0} (before after : Taken) (result : Result T PrintFault)
      (fault : Option MergeFault) (text : List ℕ) (s : Status)
      → Prints before after result fault text → (IsErrAnd result (λ e. e ≡ Memory) → ⊥)
      → s ≡ status_after result r → Logs m a (end_line result)
      → LogsRun of fault s (record { out = before; log = b }) (record { out = after; log = a })
  tells_whole before after result fault text s prints other is logs =
      told_whole of n r b m a so_far fault after s before all working
      (λ want. wanting_is result r working other (sym is ∙ want))
      (λ unspelled. is ∙ wanting_where result r unspelled)
      (subst (Logs m a) (rest_is before after result fault text prints other) logs)

  pub tells_after : {T : Type 0} (before after : Taken) (result : Result T PrintFault)
      (fault : Option MergeFault) (text : List ℕ) (s : Status)
      → Prints before after result fault text → s ≡ status_after result r
      → Logs m a (end_line result)
      → LogsRun of fault s (record { out = before; log = b }) (record { out = after; log = a })
  tells_after {T} before after (Ok x) fault text s prints is logs =
      tells_whole {T = T} before after (Ok x) fault text s prints (λ e. e) is logs
  tells_after {T} before after (Err (Merge u)) fault text s prints is logs =
      tells_whole {T = T} before after (Err (Merge u)) fault text s prints (merge_is_not u) is logs
  tells_after {T} before after (Err Device) fault text s prints is logs =
      tells_whole {T = T} before after (Err Device) fault text s prints device_is_not is logs
  tells_after {T} before after (Err Memory) fault text s (front, works, part) is logs =
      wanted of fault s before after b a (is ∙ status_in_memory r.path_unspelled)
      (cut_by_memory of n r b m a so_far fault after
      (inr all) working works logs)
