-- What stands anywhere within a value. (This project's own.)
use Rattle.std.specs.Prelude.{◌≡◌, ℕ, List, Some}
use Rattle.serde_json.specs.Data.{Data}
use Rattle.serde_json.specs.Find.{get, at}

-- e is the value itself, or a part of one of its members or of one of its items
pub data IsPart (e : Data) : Data → Type 0 where
  itself : IsPart e e
  of_member : (k : List ℕ) (d f : Data) → get k d ≡ Some f → IsPart e f → IsPart e d
  of_item : (i : ℕ) (d f : Data) → at i d ≡ Some f → IsPart e f → IsPart e d
