-- A definition that is a file, too. (This project's own.)
use Rattle.std.specs.Prelude.{ℕ, Bool, ◌==◌}
use Rattle.std.specs.List.{list_any}
use Rattle.std.specs.Cmp.Lexicographic.{pointwise}
use Rattle.cvr_words.specs.declared.request.Request.{Request}

-- whether its path is one of those of the files
abbrev pub is_given : Request → Bool
is_given request = list_any (λ path. pointwise ◌==◌ path request.def) request.paths
