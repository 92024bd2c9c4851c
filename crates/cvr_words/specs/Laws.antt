-- What words can ask for. (This project's own.)
use Rattle.std.specs.Prelude.{◌≡◌, List}
use Rattle.clap.specs.Words.{Text}
use Rattle.cvr_words.specs.Fault.{IsFault, IsLoggedFault}
use Rattle.cvr_words.specs.Request.{IsRequest}
use Rattle.cvr_words.specs.declared.fault.LoggedFault.{LoggedFault}
use Rattle.cvr_words.specs.declared.fault.LoggedFault.TheVariants as line
use Rattle.cvr_words.specs.declared.fault.WordFault.{WordFault}
use Rattle.cvr_words.specs.declared.fault.WordFault.TheVariants.{Memory}
use Rattle.cvr_words.specs.declared.request.Request.{Request}

-- words ask for one request at most
abbrev pub OneRequestLaw : Type 0
OneRequestLaw = (words : List Text) (one other : Request) → IsRequest words one
    → IsRequest words other → one ≡ other

-- words that ask for a request have no fault but out of memory
abbrev pub NoFaultLaw : Type 0
NoFaultLaw = (words : List Text) (request : Request) (fault : WordFault) → IsRequest words request
    → IsFault words fault → fault ≡ Memory

-- nor one that reports the step
abbrev pub NoLoggedFaultLaw : Type 0
NoLoggedFaultLaw = (words : List Text) (request : Request) (fault : LoggedFault)
    → IsRequest words request → IsLoggedFault words fault → fault ≡ line.Memory
