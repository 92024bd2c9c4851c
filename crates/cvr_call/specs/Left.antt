-- What a call leaves with its caller. (This project's own.)
use Rattle.std.specs.Prelude.{◌≡◌, ℕ, List, [], ◌∷◌, ◌++◌, length, take, drop, nat_le, ◌&&◌, Bool}
use Rattle.std.specs.Prelude.{if◌then◌else◌}
use Rattle.cvr_run.specs.Status.{code_of}
use Rattle.cvr_run.specs.declared.status.Status.TheVariants as status
use Rattle.cvr_call.specs.Responds.{Answer}
use Rattle.cvr_call.specs.declared.call.CvrSizes.{CvrSizes}
use Rattle.cvr_call.specs.declared.fault.CallFault.{CallFault}
use Rattle.cvr_call.specs.declared.fault.CallFault.TheVariants.{Pieces, Memory}

-- ---- statuses

-- where a growth was refused: as the program's
abbrev pub no_memory : ℕ
no_memory = code_of status.Memory

-- the input isn't words and files
abbrev pub no_input : ℕ
no_input = 5

-- the text or the log is longer than its room
abbrev pub no_room : ℕ
no_room = 6

-- of a call that did nothing
abbrev pub fault_code : CallFault → ℕ
fault_code Pieces = no_input
fault_code Memory = no_memory

-- ---- rooms

-- the rooms that a caller lends: one for the text, and one for the log
pub record Rooms : Type 0 where
  pub text : List ℕ
  pub log : List ℕ

-- a room into which bytes were put: as many as fit, and then what stood behind them
abbrev pub put_into : List ℕ → List ℕ → List ℕ
put_into room bytes = take (length room) bytes ++ drop (length bytes) room

-- both are long enough
abbrev pub fits : Answer → Rooms → Bool
fits answer rooms = nat_le (length answer.text) (length rooms.text)
    && nat_le (length answer.log) (length rooms.log)

-- a text and a log were put into rooms, with their lengths beside them
pub record Puts (text log : List ℕ) (old new : Rooms) (sizes : CvrSizes) : Type 0 where
  pub text_put : new.text ≡ put_into old.text text
  pub log_put : new.log ≡ put_into old.log log
  pub text_size : sizes.text ≡ length text
  pub log_size : sizes.log ≡ length log

-- so they were, whatever they are
pub record HasPut (old new : Rooms) (sizes : CvrSizes) : Type 0 where
  pub text : List ℕ
  pub log : List ℕ
  pub put : Puts text log old new sizes

-- the caller gets an answer: its text and log are put; the status is the program's where both fit
pub record Leaves (answer : Answer) (old new : Rooms) (sizes : CvrSizes) (result : ℕ) : Type 0 where
  pub status : result ≡ (if fits answer old then code_of answer.status else no_room)
  pub put : Puts answer.text answer.log old new sizes

-- the caller gets none: the rooms stay as they were, and the sizes are 0
pub record IsUnanswered (old new : Rooms) (sizes : CvrSizes) : Type 0 where
  pub text : new.text ≡ old.text
  pub log : new.log ≡ old.log
  pub text_size : sizes.text ≡ 0
  pub log_size : sizes.log ≡ 0

-- ---- an example

-- a room of three bytes, into which one byte is put, and then four
pub record RoomOfThree : Type 0 where
  pub more : put_into (1 ∷ 2 ∷ 3 ∷ []) (7 ∷ []) ≡ 7 ∷ 2 ∷ 3 ∷ []
  pub less : put_into (7 ∷ 2 ∷ 3 ∷ []) (4 ∷ 5 ∷ 6 ∷ 8 ∷ []) ≡ 4 ∷ 5 ∷ 6 ∷ []
