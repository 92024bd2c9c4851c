-- A log that gets lines for files, one after the other.
use Rattle.std.proofs.Common.{◌≡◌, ℕ, ◌+◌, ◌<◌, List, [], ◌∷◌, ◌++◌, length, get_or, Bool, true}
use Rattle.std.proofs.Common.{false, ◌||◌, Option, Some, None, Result, Ok, Err, OnErr, ◌⊎◌}
use Rattle.std.proofs.Common.{inl, inr, refl, sym, ap, ◌∙◌, subst, append_assoc, append-nil, arith}
use Rattle.std.proofs.Common.{true≢false}
use Rattle.std.specs.Prelude.{is_some, option_map, if◌then◌else◌}
use Rattle.std.specs.Option.{option_map_or}
use Rattle.std.specs.Global.{Vec}
use Rattle.std.specs.List.{list_any}
use Rattle.std.proofs.lemmas.List.{length_push, length-map, get_or-map, nil_from_length}
use Rattle.std.proofs.lemmas.List.Folds.{list_any-append}
use Rattle.std.proofs.Math.Bool.{or-false}
use Rattle.std.proofs.lemmas.Bool.{and_parts, and_from, false_from_ne_true}
use Rattle.cdf_types.specs.Device.{Taken, Appends, taken_with, AppendsPrefix}
use Rattle.cdf_types.specs.declared.fault.ReadFault.{ReadFault}
use Rattle.cdf_types.specs.declared.fault.ReadFault.TheVariants.{TooLong, NotJson, Schema}
use Rattle.cdf_types.specs.declared.fault.ReadFault.TheVariants.{Reference, Disagrees, Memory}
use Rattle.cdf_types.proofs.Lemmas.{appended_twice}
use Rattle.cdf_definition.specs.Frame.{Frame}
use Rattle.cdf_definition.specs.Acceptance.{frame_in, first_refusal, first_unsound}
use Rattle.cvr_office.specs.declared.event.Cause.{Cause}
use Rattle.cvr_office.specs.declared.event.Cause.TheVariants.{Read, Join, NoOffice, NoFile}
use Rattle.cvr_words.specs.declared.request.Task.{Task}
use Rattle.cvr_run.specs.declared.merge.MergeFault.{MergeFault}
use Rattle.cvr_run.specs.declared.status.Status.{Status}
use Rattle.cvr_run.specs.declared.status.Status.TheVariants as status
use Rattle.cvr_run.specs.declared.refusals.Refusals.{Refusals}
use Rattle.cvr_run.specs.Refusals.{is_memory, wants_memory, status_of, Due, no_due, file_due, IsDue}
use Rattle.cvr_run.specs.Outcome.{files_of}
use Rattle.cvr_run.specs.Log.{cause_line, memory_line, has_path_in, Logs}
use Rattle.cvr_run.specs.Laws.{AloneOrEachLaw}
use Rattle.cvr_run.specs.Logged.{Logging, AsDue, Lacking, Unspelled, refusal_line, refusal_lines}
use Rattle.cvr_run.specs.Logged.{logged_line, logged_lines, can_be, can_all, is_lacking, is_unspelled}
use Rattle.cvr_run.specs.Logged.{is_short, file_dues, task_dues, run_lines, last_lines}
use Rattle.cvr_run.specs.Logged.{Dues, LogsFirst, LogsRun, IsCutShort, IsRunCutShort}
use Rattle.cvr_run.specs.Logged.{LogsSome}
use Rattle.cvr_report.proofs.Lemmas.{appended_none}

-- ---- logs, one after the other

pub logs_none : (before : Taken) → Logs before before []
logs_none before = record {
  whole = λ _. appended_none before.bytes;
  front = ([], [], refl, appended_none before.bytes);
  silent = λ had. (refl, had);
}

worked_before : (g h : Bool) (P : Type 0) → (g ≡ true → P × (h ≡ true)) → h ≡ false → g ≡ false
worked_before false h P silent works = refl
worked_before true h P silent works = absurd (true≢false (sym (silent refl).1 ∙ works))

front_then : (g : Bool) (b m a : Taken) (one two : List ℕ) → (g ≡ false → Appends b m one)
    → AppendsPrefix b m one → AppendsPrefix m a two → (g ≡ true → a.bytes ≡ m.bytes)
    → AppendsPrefix b a (one ++ two)
front_then false b m a one two whole first (some, more, cut, is_logged) silent = (
  one ++ some,
  more,
  ap (λ t. one ++ t) cut ∙ sym (append_assoc one some more),
  is_logged ∙ (ap (λ t. taken_with t some) (whole refl) ∙ appended_twice b.bytes one some),
)
front_then true b m a one two whole (some, more, cut, is_logged) next silent = (
  some,
  more ++ two,
  ap (λ t. t ++ two) cut ∙ append_assoc some more two,
  silent refl ∙ is_logged,
)

pub logs_then : (b m a : Taken) (one two : List ℕ) → Logs b m one → Logs m a two
    → Logs b a (one ++ two)
logs_then b m a one two first next = record {
  whole = λ works.
      next.whole works
      ∙ (ap (λ t. taken_with t two) (first.whole
      (worked_before m.failed a.failed (a.bytes ≡ m.bytes) next.silent works))
      ∙ appended_twice b.bytes one two);
  front = front_then m.failed b m a one two first.whole first.front next.front
      (λ had. (next.silent had).0);
  silent = λ had.
      let still = next.silent (first.silent had).1 in
      (still.0 ∙ (first.silent had).0, still.1);
}

-- ---- one more telling

logged_lines-more : (ts : List Logging) (t : Logging) (texts : List (List ℕ)) (dues : List Due)
    → length ts < length texts → length ts < length dues
    → logged_lines (ts ++ t ∷ []) texts dues
    ≡ logged_lines ts texts dues ++ logged_line t (get_or texts (length ts) [])
    (get_or dues (length ts) no_due)
logged_lines-more [] t [] dues lp lf = absurd (omega arith)
logged_lines-more [] t (p ∷ ps) [] lp lf = absurd (omega arith)
logged_lines-more [] t (p ∷ ps) (f ∷ fs) lp lf = append-nil (logged_line t p f)
logged_lines-more (s ∷ ts) t [] dues lp lf = absurd (omega arith)
logged_lines-more (s ∷ ts) t (p ∷ ps) [] lp lf = absurd (omega arith)
logged_lines-more (s ∷ ts) t (p ∷ ps) (f ∷ fs) lp lf =
    ap (λ l. logged_line s p f ++ l) (logged_lines-more ts t ps fs (omega arith) (omega arith))
    ∙ sym (append_assoc (logged_line s p f) (logged_lines ts ps fs)
    (logged_line t (get_or ps (length ts) []) (get_or fs (length ts) no_due)))

can_all-more : (ts : List Logging) (t : Logging) (dues : List Due) → can_all ts dues ≡ true
    → length ts < length dues → can_be t (get_or dues (length ts) no_due) ≡ true
    → can_all (ts ++ t ∷ []) dues ≡ true
can_all-more [] t [] all lt can = absurd (omega arith)
can_all-more [] t (f ∷ fs) all lt can = and_from _ _ can refl
can_all-more (s ∷ ts) t [] all lt can = absurd (omega arith)
can_all-more (s ∷ ts) t (f ∷ fs) all lt can =
    let parts = and_parts (can_be s f) (can_all ts fs) all in
    and_from _ _ parts.0 (can_all-more ts t fs parts.1 (omega arith) can)

any-push : (test : Logging → Bool) (ts : List Logging) (t : Logging)
    → list_any test (ts ++ t ∷ []) ≡ (list_any test ts || test t)
any-push test ts t =
    list_any-append test ts (t ∷ []) ∙ ap (λ b. list_any test ts || b) (or-false (test t))

-- what holds anyway holds on an Err
pub on_err : {T E : Type 0} (P : Type 0) (r : Result T E) → P → OnErr r P
on_err P (Ok x) p = tt
on_err P (Err e) p = p

-- ---- a run so far

-- of none yet
pub tells_none : (of : Dues) (b : Taken) (r : Refusals) → r.file_lacking ≡ false
    → r.path_unspelled ≡ false → LogsFirst of 0 r b b
tells_none of b r lacking unlogged = record {
  loggings = [];
  count = refl;
  possible = refl;
  file_lacking = lacking;
  path_unspelled = unlogged;
  logs = logs_none b;
}

module _ (of : Dues) (b m : Taken) where
  -- of one more, in this way
  tells_more : (n : ℕ) (r s : Refusals) (a : Taken) (t : Logging) → LogsFirst of n r b m
      → n < length of.texts → n < length of.dues
      → can_be t (get_or of.dues n no_due) ≡ true
      → s.file_lacking ≡ (r.file_lacking || is_lacking t)
      → s.path_unspelled ≡ (r.path_unspelled || is_unspelled t)
      → Logs m a (logged_line t (get_or of.texts n []) (get_or of.dues n no_due))
      → LogsFirst of (n + 1) s b a
  tells_more n r s a t so_far lp lf can lacking unlogged logs =
      let ts = so_far.loggings in
      let count = so_far.count in
      record {
        loggings = ts ++ t ∷ [];
        count = omega (arith, length_push ts t, count);
        possible = can_all-more ts t of.dues so_far.possible (omega (arith, count, lf))
            (subst (λ k. can_be t (get_or of.dues k no_due) ≡ true) (sym count) can);
        file_lacking = lacking ∙ (ap (λ x. x || is_lacking t) so_far.file_lacking
            ∙ sym (any-push is_lacking ts t));
        path_unspelled = unlogged ∙ (ap (λ x. x || is_unspelled t) so_far.path_unspelled
            ∙ sym (any-push is_unspelled ts t));
        logs =
            subst (Logs b a) (sym (logged_lines-more ts t of.texts of.dues (omega (arith, count, lp))
            (omega (arith, count, lf))))
            (logs_then b m a (logged_lines ts of.texts of.dues) _ so_far.logs
            (subst (λ k. Logs m a (logged_line t (get_or of.texts k [])
            (get_or of.dues k no_due))) (sym count) logs));
      }

  -- of one more that is accepted
  pub tells_accepted : (n : ℕ) (r : Refusals) → LogsFirst of n r b m → n < length of.texts
      → n < length of.dues → (get_or of.dues n no_due).cause ≡ None → LogsFirst of (n + 1) r b m
  tells_accepted n r so_far lp lf none =
      tells_more n r r m AsDue so_far lp lf refl (sym (or-false r.file_lacking))
      (sym (or-false r.path_unspelled))
      (subst (λ cause. Logs m m (refusal_line (get_or of.texts n []) cause)) (sym none)
      (logs_none m))

-- ---- one more that is refused

-- out of memory, or as it is due
abbrev logging_by : Bool → Logging
logging_by true = Lacking
logging_by false = AsDue

line_by : (want : Bool) (what : List ℕ) (due : Due) (cause : Cause)
    → (if want then due.want else due.cause) ≡ Some cause
    → cause_line what cause ≡ logged_line (logging_by want) what due
line_by true what due cause is = sym (ap (refusal_line what) is)
line_by false what due cause is = sym (ap (refusal_line what) is)

can_be-logging_by : (want : Bool) (due : Due) (cause : Cause)
    → (if want then due.want else due.cause) ≡ Some cause → can_be (logging_by want) due ≡ true
can_be-logging_by true due cause is = ap is_some is
can_be-logging_by false due cause is = refl

lacking-logging_by : (want : Bool) → want ≡ is_lacking (logging_by want)
lacking-logging_by true = refl
lacking-logging_by false = refl

unspelled-logging_by : (want : Bool) → false ≡ is_unspelled (logging_by want)
unspelled-logging_by true = refl
unspelled-logging_by false = refl

-- what has a path is not that memory ran out
path_not_want : (cause : Cause) → has_path_in cause ≡ true → wants_memory cause ≡ false
path_not_want (Read TooLong) path = refl
path_not_want (Read NotJson) path = refl
path_not_want (Read (Schema at rule)) path = refl
path_not_want (Read (Reference at)) path = refl
path_not_want (Read (Disagrees at)) path = refl
path_not_want (Read Memory) path = absurd (true≢false (sym path))
path_not_want (Join fault) path = absurd (true≢false (sym path))
path_not_want NoOffice path = refl
path_not_want NoFile path = refl

or_true : (x : Bool) → true ≡ (x || true)
or_true true = refl
or_true false = refl

-- what a note is_logged of a cause
abbrev pub Noted : Refusals → Refusals → Taken → Taken → List ℕ → Cause → Type 0
Noted r s m a what cause =
    ((s.path_unspelled ≡ r.path_unspelled) × Logs m a (cause_line what cause))
    ⊎ ((has_path_in cause ≡ true) × (s.path_unspelled ≡ true) × Logs m a memory_line)

-- a cause with a path is due, and may be left unspelled
path_due : (due : Due) (cause : Cause) → IsDue due (Some cause) → has_path_in cause ≡ true
    → due.cause ≡ Some cause
path_due due cause is path =
    ap (λ want. if want then due.want else due.cause) (sym (path_not_want cause path)) ∙ is

pub tells_noted : (of : Dues) (b m a : Taken) (n : ℕ) (r s : Refusals) (what : List ℕ)
    (cause : Cause)
    → LogsFirst of n r b m → n < length of.texts → n < length of.dues → what ≡ get_or of.texts n []
    → IsDue (get_or of.dues n no_due) (Some cause)
    → s.file_lacking ≡ (r.file_lacking || wants_memory cause) → Noted r s m a what cause
    → LogsFirst of (n + 1) s b a
tells_noted of b m a n r s what cause so_far lp lf named due lacking (inl (same, logs)) =
    let at = get_or of.dues n no_due in
    let want = wants_memory cause in
    tells_more of b m n r s a (logging_by want) so_far lp lf (can_be-logging_by want at cause due)
    (lacking ∙ ap (λ x. r.file_lacking || x) (lacking-logging_by want))
    (same ∙ (sym (or-false r.path_unspelled)
    ∙ ap (λ x. r.path_unspelled || x) (unspelled-logging_by want)))
    (subst (λ w. Logs m a (logged_line (logging_by want) w at)) named
    (subst (Logs m a) (line_by want what at cause due) logs))
tells_noted of b m a n r s what cause so_far lp lf named due lacking (inr (path, unspelled, logs)) =
    let is = path_due (get_or of.dues n no_due) cause due path in
    tells_more of b m n r s a Unspelled so_far lp lf
    (ap (λ c. option_map_or has_path_in c false) is ∙ path)
    (lacking ∙ ap (λ x. r.file_lacking || x) (path_not_want cause path))
    (unspelled ∙ or_true r.path_unspelled)
    logs

-- the first fault of a file, unless memory ran out, is due to it
pub read_due : (first : Option ReadFault) (fault : ReadFault)
    → ((fault ≡ Memory → ⊥) → first ≡ Some fault) → IsDue (file_due first) (Some (Read fault))
read_due first TooLong is = ap (option_map Read) (is (λ e. cc))
read_due first NotJson is = ap (option_map Read) (is (λ e. cc))
read_due first (Schema path rule) is = ap (option_map Read) (is (λ e. cc))
read_due first (Reference path) is = ap (option_map Read) (is (λ e. cc))
read_due first (Disagrees path) is = ap (option_map Read) (is (λ e. cc))
read_due first Memory is = refl

-- ---- how a run ends

as_due : (ts : List Logging) (texts : List (List ℕ)) (dues : List Due)
    → list_any is_lacking ts ≡ false → list_any is_unspelled ts ≡ false → length ts ≡ length dues
    → logged_lines ts texts dues ≡ refusal_lines texts dues
as_due [] [] [] lacking unspelled count = refl
as_due [] (p ∷ ps) [] lacking unspelled count = refl
as_due [] texts (f ∷ fs) lacking unspelled count = absurd (omega arith)
as_due (t ∷ ts) texts [] lacking unspelled count = absurd (omega arith)
as_due (t ∷ ts) [] (f ∷ fs) lacking unspelled count = refl
as_due (AsDue ∷ ts) (p ∷ ps) (f ∷ fs) lacking unspelled count =
    ap (λ l. refusal_line p f.cause ++ l) (as_due ts ps fs lacking unspelled (omega arith))
as_due (Lacking ∷ ts) (p ∷ ps) (f ∷ fs) lacking unspelled count = absurd (true≢false lacking)
as_due (Unspelled ∷ ts) (p ∷ ps) (f ∷ fs) lacking unspelled count = absurd (true≢false unspelled)

module _ (of : Dues) (n : ℕ) (r : Refusals) (b m a : Taken) (so_far : LogsFirst of n r b m)
    (fault : Option MergeFault) (d : Taken) where
  -- with `memory` after these lines, none lacking
  pub cut_by_memory : (n ≡ 0) ⊎ (n ≡ length of.dues) → r.file_lacking ≡ false → d.failed ≡ false
      → Logs m a memory_line → LogsSome (IsCutShort of fault d.failed) b a
  cut_by_memory can working works logs = (
    logged_lines so_far.loggings of.texts of.dues ++ memory_line,
    record {
      loggings = so_far.loggings;
      possible = so_far.possible;
      ends = inr (inr (
        subst (λ k. (k ≡ 0) ⊎ (k ≡ length of.dues)) (sym so_far.count) can,
        sym
            so_far.file_lacking ∙ working,
        works,
        refl,
      ));
    },
    logs_then b m a _ _ so_far.logs logs,
  )

  -- with all lines, none lacking, and the path of one unspelled
  cut_in_files : n ≡ length of.dues → r.file_lacking ≡ false → r.path_unspelled ≡ true
      → Logs m a (last_lines fault d.failed) → LogsSome (IsCutShort of fault d.failed) b a
  cut_in_files all working unspelled logs = (
    logged_lines so_far.loggings of.texts of.dues ++ last_lines fault d.failed,
    record {
      loggings = so_far.loggings;
      possible = so_far.possible;
      ends = inr (inl (
        so_far.count ∙ all,
        sym so_far.file_lacking
            ∙ working,
        sym so_far.path_unspelled ∙ unspelled,
        refl,
      ));
    },
    logs_then b m a _ _ so_far.logs logs,
  )

  -- with the last lines after all, none of them lacking
  pub told_whole : (s : Status) (c : Taken) → n ≡ length of.dues → r.file_lacking ≡ false
      → (s ≡ status.Memory → r.path_unspelled ≡ true)
      → (r.path_unspelled ≡ true → s ≡ status.Memory)
      → Logs m a (last_lines fault d.failed)
      → LogsRun of fault s (record { out = c; log = b }) (record { out = d; log = a })
  told_whole s c all working is not logs = record {
    log = λ no.
        let spelled = false_from_ne_true r.path_unspelled (λ e. no (not e)) in
        subst (λ l. Logs b a (l ++ last_lines fault d.failed))
        (as_due so_far.loggings of.texts of.dues (sym so_far.file_lacking ∙ working)
        (sym so_far.path_unspelled ∙ spelled) (so_far.count ∙ all))
        (logs_then b m a _ _ so_far.logs logs);
    cut_short = λ want. cut_in_files all working (is want) logs;
  }

-- with `memory` before any line
pub cut_at_once : (of : Dues) (b a : Taken) (fault : Option MergeFault)
    → Logs b a memory_line → LogsSome (IsCutShort of fault false) b a
cut_at_once of b a fault logs = (
  memory_line,
  record {
    loggings = [];
    possible = refl;
    ends = inr (inr (inl refl, refl, refl, refl));
  },
  logs,
)

-- with one lacking
pub lacks : (of : Dues) (n : ℕ) (r : Refusals) (b m : Taken) → LogsFirst of n r b m
    → n ≡ length of.dues → r.file_lacking ≡ true
    → (fault : Option MergeFault) (failed : Bool) → LogsSome (IsCutShort of fault failed) b m
lacks of n r b m so_far all lacking fault failed = (
  logged_lines so_far.loggings of.texts of.dues,
  record {
    loggings = so_far.loggings;
    possible = so_far.possible;
    ends = inl (so_far.count ∙ all, sym so_far.file_lacking ∙ lacking, refl);
  },
  so_far.logs,
)

-- a run that ended since memory ran out, before it has printed anything
pub wanted : (of : Dues) (fault : Option MergeFault) (s : Status) (c d b a : Taken)
    → s ≡ status.Memory
    → LogsSome (IsCutShort of fault d.failed) b a
    → LogsRun of fault s (record { out = c; log = b }) (record { out = d; log = a })
wanted of fault s c d b a want some = record {
  log = λ no. absurd (no want);
  cut_short = λ _. some;
}

-- the same while the output works
pub wanted_unprinted : (of : Dues) (fault : Option MergeFault) (s : Status) (c d b a : Taken)
    → s ≡ status.Memory → d.failed ≡ false
    → LogsSome (IsCutShort of fault false) b a
    → LogsRun of fault s (record { out = c; log = b }) (record { out = d; log = a })
wanted_unprinted of fault s c d b a want works some =
    wanted of fault s c d b a want (subst (λ x. LogsSome (IsCutShort of fault x) b a) (sym works)
    some)

-- `memory` alone, or each of them
pub alone_or_each : AloneOrEachLaw
alone_or_each texts dues fault failed text cut =
    let ts = cut.loggings in
    elim cut.ends [
      | inl e ↦ inr (ts, [], e.0, cut.possible, e.2 ∙ sym (append-nil (logged_lines ts texts dues)))
      | inr other ↦ elim other [
        | inl e ↦ inr (ts, last_lines fault failed, e.0, cut.possible, e.3)
        | inr e ↦ elim e.0 [
          | inl none ↦ inl (e.3 ∙ ap (λ us. logged_lines us texts dues ++ memory_line)
              (nil_from_length ts none))
          | inr all ↦ inr (ts, memory_line, all, cut.possible, e.3)
        ]
      ]
    ]

-- as much is due as there are files
pub all_due : (definition : Frame) (files : List (List ℕ))
    → length files ≡ length (file_dues definition files)
all_due definition files = sym (length-map files (λ file. file_due (first_refusal definition file)))

pub dues_count : (definition : Frame) (files : List (Vec ℕ))
    → length files ≡ length (file_dues definition (files_of files))
dues_count definition files =
    sym (length-map files (λ file. file.items)) ∙ all_due definition (files_of files)

-- and what to one of them
pub due_at : (definition : Frame) (files : List (Vec ℕ)) (n : ℕ) (file : Vec ℕ) → n < length files
    → file ≡ get_or files n file → get_or (file_dues definition (files_of files)) n no_due
    ≡ file_due (first_refusal definition file.items)
due_at definition files n file lt at =
    get_or-map (λ file. file_due (first_refusal definition file)) (files_of files) n [] no_due
    (omega (arith, lt, length-map files (λ (f : Vec ℕ). f.items)))
    ∙ ap (λ file. file_due (first_refusal definition file))
    (get_or-map (λ (f : Vec ℕ). f.items) files n file [] lt ∙ ap (λ f. f.items) (sym at))

-- ---- a definition that is refused

unsound_lines : (task : Task) (what def : List ℕ) (paths files : List (List ℕ)) (fault : ReadFault)
    → first_unsound def ≡ Some fault → run_lines task what def paths files
    ≡ refusal_line what (option_map Read (first_unsound def))
unsound_lines task what def paths files fault due =
    let of = task_dues (frame_in def) task paths files in
    ap (λ o. if is_some o then refusal_line what (option_map Read (first_unsound def))
    else refusal_lines of.texts of.dues) due

pub status_whole : (l u s : Bool) → ((if l || u then status.Memory
    else (if s then status.Refused else status.Done)) ≡ status.Memory → ⊥)
    → (l ≡ false) × (u ≡ false)
status_whole true u s whole = absurd (whole refl)
status_whole false true s whole = absurd (whole refl)
status_whole false false s whole = (refl, refl)

status_wanting : (l u s : Bool) → (if l || u then status.Memory
    else (if s then status.Refused else status.Done)) ≡ status.Memory → (l || u) ≡ true
status_wanting l u s want = grind arith

module _ (task : Task) (what def : List ℕ) (paths files : List (List ℕ)) (fault : ReadFault)
    (none r : Refusals) (b a : Taken) (is_logged rest : List ℕ)
    (named : is_logged ≡ what) (first : (fault ≡ Memory → ⊥) → first_unsound def ≡ Some fault)
    (lacks : none.file_lacking ≡ false) (spelled : none.path_unspelled ≡ false)
    (lacking : r.file_lacking ≡ (none.file_lacking || wants_memory (Read fault))) where
  own_due : IsDue (file_due (first_unsound def)) (Some (Read fault))
  own_due = read_due (first_unsound def) fault first

  pub definition_log : (first_unsound def ≡ Some fault → rest ≡ [])
      → Noted none r b a is_logged (Read fault) → (status_of r ≡ status.Memory → ⊥)
      → Logs b a (run_lines task what def paths files ++ rest)
  definition_log last (inl (same, logs)) whole =
      let parts = status_whole r.file_lacking r.path_unspelled r.any_refusal whole in
      let other : fault ≡ Memory → ⊥ = λ is.
      true≢false (sym (ap is_memory is)
      ∙ (sym (ap (λ x. x || is_memory fault) lacks) ∙ (sym lacking ∙ parts.0))) in
      let due = first other in
      subst (Logs b a)
      (sym (append-nil (cause_line is_logged (Read fault)))
      ∙ ((λ i. refusal_line (named i) (option_map Read (sym due i)) ++ sym (last due) i)
      ∙ ap (λ l. l ++ rest) (sym (unsound_lines task what def paths files fault due))))
      logs
  definition_log last (inr (path, unspelled, logs)) whole =
      absurd (true≢false (sym unspelled
      ∙ (status_whole r.file_lacking r.path_unspelled r.any_refusal whole).1))

  pub definition_cut_short : (failed : Bool) → Noted none r b a is_logged (Read fault)
      → status_of r ≡ status.Memory → LogsSome
      (IsRunCutShort (record {
        request = record { task = task; def = what; paths = paths };
        def = def;
        files = files;
      }) failed) b a
  definition_cut_short failed (inl (same, logs)) want =
      let due = file_due (first_unsound def) in
      let by = wants_memory (Read fault) in
      let short : (r.file_lacking || r.path_unspelled) ≡ true =
      status_wanting r.file_lacking r.path_unspelled r.any_refusal want in
      let is : (r.file_lacking || r.path_unspelled)
      ≡ is_short (logging_by by) = λ i.
      (lacking ∙ (ap (λ x. x || by) lacks ∙ lacking-logging_by by)) i
      || (same ∙ (spelled ∙ unspelled-logging_by by)) i in (
        logged_line (logging_by by) what due,
        inl (logging_by by, can_be-logging_by by due (Read fault) own_due, sym is ∙ short, refl),
        subst (λ w. Logs b a (logged_line (logging_by by) w due)) named
            (subst (Logs b a) (line_by by is_logged due (Read fault) own_due) logs),
      )
  definition_cut_short failed (inr (path, unspelled, logs)) want = (
    memory_line,
    inl (
      Unspelled,
      ap (λ c. option_map_or has_path_in c false)
          (path_due (file_due (first_unsound def)) (Read fault) own_due path) ∙ path,
      refl,
      refl,
    ),
    logs,
  )
