-- From the clauses of `respond` over two sinks in memory to an answer.
use Rattle.std.proofs.Common.{◌≡◌, ◌∙◌, ◌++◌, ℕ, Bool, List, [], Some, false, ap, inl, inr}
use Rattle.std.proofs.Common.{subst, sym}
use Rattle.cdf_types.specs.MemorySink.{SinkState}
use Rattle.cvr_words.specs.declared.fault.LoggedFault.{LoggedFault}
use Rattle.cvr_words.specs.declared.request.Request.{Request}
use Rattle.cvr_run.specs.declared.status.Status.{Status}
use Rattle.cvr_run.specs.Answered.{Answers, Does, LogsWords}
use Rattle.cvr_run.specs.Devices.{Devices, Outputs}
use Rattle.cvr_run.specs.Explained.{Explains}
use Rattle.cvr_run.specs.Listed.{AnswersListed, ListedRequest}
use Rattle.cvr_run.specs.Opening.{At, SaysTheSame}
use Rattle.cvr_call.specs.Given.{File, Given, opener_over}
use Rattle.cvr_run.specs.Responds.{Responds}
use Rattle.cvr_run.specs.OwnWords.{version_text}
use Rattle.cvr_call.specs.Responds.{Did, IsAnswer, VersionCut, devices_with, holding}

-- ---- what follows from an unchanged output

tells : {U V : Type 0} (fault : LoggedFault) (status : Status) (old new : Outputs) → (U → V)
    → LogsWords fault status old new U → LogsWords fault status old new V
tells fault status old new more handed_over = record {
  status = handed_over.status;
  quiet = λ help. more (handed_over.quiet help);
  whole = handed_over.whole;
  front = handed_over.front;
  log = handed_over.log;
}

does : {U V : Type 0} (request : Request) (status : Status) (old new : Devices) → (U → V)
    → Does request status old new U → Does request status old new V
does request status old new more (inl stops) = inl (more stops.0, stops.1)
does request status old new more (inr runs) = inr runs

answers : {U V : Type 0} (words : List (List ℕ)) (status : Status) (old new : Devices) → (U → V)
    → Answers words status old new U → Answers words status old new V
answers words status old new more (inl (request, is, done)) =
    inl (request, is, does request status old new more done)
answers words status old new more (inr (fault, is, opens, handed_over)) =
    inr (fault, is, opens, tells fault status _ _ more handed_over)

listed : {U V : Type 0} (asked : ListedRequest) (status : Status) (old new : Devices) → (U → V)
    → AnswersListed asked status old new U → AnswersListed asked status old new V
listed asked status old new more (inl (opens, handed_over)) = inl (opens, tells _ status _ _ more handed_over)
listed asked status old new more (inr (inl (same, logs))) = inr (inl (more same, logs))
listed asked status old new more (inr (inr (text, read, is, done))) =
    inr (inr (text, read, is, does _ status _ new more done))

explains : {U V : Type 0} (asked : List (List ℕ)) (status : Status) (old new : Outputs) → (U → V)
    → Explains asked status old new U → Explains asked status old new V
explains asked status old new more (inl prints) = inl prints
explains asked status old new more (inr (inl own)) = inr (inl own)
explains asked status old new more (inr (inr none)) = inr (inr (record {
  unknown = none.unknown;
  some = none.some;
  quiet = more none.quiet;
  status = none.status;
  log = none.log;
}))

responds : {U V : Type 0} (words : List (List ℕ)) (status : Status) (old new : Devices) → (U → V)
    → Responds words status old new U → Responds words status old new V
responds words status old new more did = record {
  version = did.version;
  explains = λ asked asks. explains asked status _ _ more (did.explains asked asks);
  listed = λ asked asks. listed asked status old new more (did.listed asked asks);
  works = λ no_version no_code no_list.
      answers words status old new more (did.works no_version no_code no_list);
  given = did.given;
  asked = did.asked;
  says = did.says;
  unopened = did.unopened;
}

-- ---- over sinks

-- what contracts see of a run over files and two sinks
abbrev pub devices_of : List File → SinkState → SinkState → Devices
devices_of files out log = record {
  opener = opener_over files;
  out = record { bytes = Some out.taken; failed = out.has_failed };
  log = record { bytes = Some log.taken; failed = log.has_failed };
}

same_opener : (files more : List File) → SaysTheSame (opener_over files) (opener_over more)
    → opener_over more ≡ opener_over files
same_opener files more says =
    ap (λ (at : List ℕ → At). record (opener_over files) { at = at }) says.at

-- a sink that has taken nothing, and hasn't failed
pub record IsFresh (sink : SinkState) : Type 0 where
  pub taken : sink.taken ≡ []
  pub working : sink.has_failed ≡ false

fresh_devices : (files : List File) (out log : SinkState) → IsFresh out → IsFresh log
    → devices_of files out log ≡ devices_with files (holding [] false) (holding [] false)
fresh_devices files out log fresh fresh_log = cc

-- what was done over fresh sinks
pub done_over : (given : Given) (words : List (List ℕ)) (files more : List File) (status : Status)
    (out log out' log' : SinkState) → words ≡ given.words → files ≡ given.files → IsFresh out
    → IsFresh log
    → Responds words status (devices_of files out log) (devices_of more out' log') (out' ≡ out)
    → Did given status (holding out'.taken out'.has_failed) (holding log'.taken log'.has_failed)
    (out'.taken ≡ [])
done_over given words files more status out log out' log' same_words same_files fresh fresh_log
    did =
    let none = holding [] false in
    let before : devices_of files out log ≡ devices_with given.files none none =
    fresh_devices files out log fresh fresh_log
    ∙ ap (λ (fs : List File). devices_with fs none none) same_files in
    let opener : opener_over more ≡ opener_over given.files =
    same_opener files more did.says ∙ ap opener_over same_files in
    let begun = devices_with given.files none none in
    let ended = devices_with given.files (holding out'.taken out'.has_failed)
    (holding log'.taken log'.has_failed) in
    let after : devices_of more out' log' ≡ ended = cc in
    let one : Responds words status begun (devices_of more out' log') (out' ≡ out) =
    subst (λ old. Responds words status old (devices_of more out' log') (out' ≡ out)) before did in
    let two : Responds words status begun ended (out' ≡ out) =
    subst (λ new. Responds words status begun new (out' ≡ out)) after one in
    let three : Responds given.words status begun ended (out' ≡ out) =
    subst (λ ws. Responds ws status begun ended (out' ≡ out)) same_words two in
    responds given.words status begun ended
    (λ (same : out' ≡ out). ap (λ (s : SinkState). s.taken) same ∙ fresh.taken) three

-- it is the answer, where neither failed
pub answered : (given : Given) (status : Status) (text log : List ℕ) (text_failed log_failed : Bool)
    → text_failed ≡ false → log_failed ≡ false
    → Did given status (holding text text_failed) (holding log log_failed) (text ≡ [])
    → IsAnswer given (record { status = status; text = text; log = log })
answered given status text log text_failed log_failed works log_works did =
    subst (λ f. Did given status (holding text false) (holding log f) (text ≡ [])) log_works
    (subst (λ f. Did given status (holding text f) (holding log log_failed) (text ≡ [])) works did)

-- what was printed of the version before memory ran out is how it begins
pub version_cut : VersionCut
version_cut given asks text log (inl none) =
    (version_text, ap (λ (printed : List ℕ). printed ++ version_text) none.0)
version_cut given asks text log (inr begun) =
    let cut = (begun.did.version asks).prefix in
    let same : text ≡ cut.0 = cc (cut.3) in
    (cut.1, ap (λ (printed : List ℕ). printed ++ cut.1) same ∙ sym cut.2)
