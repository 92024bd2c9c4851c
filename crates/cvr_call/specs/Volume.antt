-- What a call for a volume of an office leaves with its caller. (This project's own.)
use Rattle.std.specs.Prelude.{◌≡◌, ◌⊎◌, ℕ, List, [], ◌∷◌, ◌&&◌, not, nat_lt, if◌then◌else◌}
use Rattle.std.specs.Prelude.{Option, None, Some, option_map}
use Rattle.std.specs.Str.{is_utf8}
use Rattle.cvr_run.specs.Merge.{merge_fault, merge_text}
use Rattle.cvr_run.specs.Status.{code_of}
use Rattle.cvr_run.specs.declared.merge.MergeFault.{MergeFault}
use Rattle.cvr_run.specs.declared.merge.MergeFault.TheVariants.{NotMoment, NoDevice, NoVolume}
use Rattle.cvr_run.specs.declared.status.Status.TheVariants as status
use Rattle.cvr_cached.specs.Held.{Holding}
use Rattle.cvr_call.specs.Offices.{Shows}
use Rattle.cvr_call.specs.Left.{no_memory}

-- ---- statuses, beside those of the other calls

-- these are no words of `merge`: as the program's
abbrev pub no_words : ℕ
no_words = code_of status.CommandLine

-- of the faults of a merge: H1, H2 and V1
abbrev pub merge_status : MergeFault → ℕ
merge_status NotMoment = 9
merge_status NoDevice = 10
merge_status (NoVolume volumes) = 11

-- ---- a volume

-- the status of a volume that isn't there: date or device is no text, or the number is 0; else the
-- merge has a fault
abbrev pub volume_status : Holding → List ℕ → List ℕ → ℕ → Option ℕ
volume_status office date device number =
    if not (is_utf8 date && is_utf8 device && nat_lt 0 number) then Some no_words
    else option_map merge_status
    (merge_fault office.content.frame date device number office.content.facts)

-- where there is no such status a text stands in a room; else the call answers that status
abbrev pub ShowsOr : Option ℕ → List ℕ → List ℕ → List ℕ → ℕ → ℕ → Type 0
ShowsOr None text old new size status = Shows text old new size status
ShowsOr (Some why) text old new size status = status ≡ why

-- so does what `merge` prints of all that an office holds, unless memory ran out
abbrev pub ShowsVolume : Holding → List ℕ → List ℕ → ℕ → List ℕ → List ℕ → ℕ → ℕ → Type 0
ShowsVolume office date device number old new size status = (status ≡ no_memory)
    ⊎ ShowsOr (volume_status office date device number)
    (merge_text office.content.frame date device number office.content.facts) old new size status

-- ---- examples

-- a volume of one byte in a room of two; and there are three volumes, and no fourth
pub record OneOfThree : Type 0 where
  pub shown : ShowsOr None (7 ∷ []) (1 ∷ 2 ∷ []) (7 ∷ 2 ∷ []) 1 0
  pub none : ShowsOr (Some (merge_status (NoVolume 3))) [] (1 ∷ []) (1 ∷ []) 0 11

-- whatever an office holds, a byte that is no text is no date, and there is no volume 0
pub record NoWords (office : Holding) : Type 0 where
  pub date : volume_status office (255 ∷ []) [] 1 ≡ Some 2
  pub zero : volume_status office [] [] 0 ≡ Some 2
