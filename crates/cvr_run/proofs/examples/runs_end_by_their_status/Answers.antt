use Rattle.std.proofs.Common.{◌≡◌, Bool, true, false, Some, None, inl, inr, refl}
use Rattle.std.specs.Prelude.{if◌then◌else◌}
use Rattle.cvr_run.specs.declared.code.Code.TheVariants as code
use Rattle.cvr_run.specs.declared.status.Status.{Status}
use Rattle.cvr_run.specs.declared.status.Status.TheVariants.{Done, Device}
use Rattle.cvr_run.specs.Explained.{first_code}
use Rattle.cvr_run.specs.ListedPaths.{parts_at}
use Rattle.cvr_run.specs.Statuses.{E3IsExplained}
use Rattle.cvr_run.proofs.examples.runs_end_by_their_status.Goals as goal

by_output : (failed : Bool) (answer : Status) → answer ≡ (if failed then Device else Done)
    → (failed ≡ false → answer ≡ Done) × (failed ≡ true → answer ≡ Device)
by_output true answer is = (λ no. absurd (cc), λ yes. is)
by_output false answer is = (λ no. is, λ yes. absurd (cc))

e3_is_explained : E3IsExplained
unfolding first_code parts_at
e3_is_explained answer old new (inl prints) =
    by_output new.out.failed answer prints.printed.status
e3_is_explained answer old new (inr (inl own)) =
    by_output new.out.failed answer own.printed.status
e3_is_explained answer old new (inr (inr none)) =
    let bad : Some code.E3 ≡ None = none.unknown in absurd (cc)

pub returns : goal.returns
unfolding parts_at
returns c = record {
  numbers = (refl, refl, refl, refl, refl);
  printed = (refl, refl, refl, refl);
  not_printed = (refl, refl, refl, refl);
  stopped = (refl, refl, refl, refl, refl, refl);
  help = λ text. (refl, refl, refl, refl);
  words = λ text. (refl, refl, refl, refl, refl, refl);
  no_list = λ old new answer line no. (no.status, no.said);
  explained = e3_is_explained;
  ends = (refl, refl);
}
