-- What a writer of tokens has printed.
use Rattle.std.proofs.Common.{◌≡◌, ℕ, List, [], ◌∷◌, ◌++◌, append-nil}
use Rattle.json.specs.Token.{string}
use Rattle.json.specs.Print.{print, print_from, quoted}

pub none_printed : (before : List ℕ) → before ++ print [] ≡ before
unfolding print_from
none_printed before = append-nil before

pub text_printed : (text : List ℕ) → print (string text ∷ []) ≡ quoted text
unfolding print_from
text_printed text = append-nil (quoted text)
