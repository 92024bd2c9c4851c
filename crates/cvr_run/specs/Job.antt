-- What a run is over. (This project's own.)
use Rattle.std.specs.Prelude.{ℕ, List}
use Rattle.cvr_words.specs.declared.request.Request.{Request}

-- a request, and the bytes of its definition and of its files
pub record Job : Type 0 where
  pub request : Request
  pub def : List ℕ
  pub files : List (List ℕ)
