-- The words for the version ask for no request.
use Rattle.std.proofs.Common.{◌≡◌, ◌∙◌, ℕ, List, [], ◌∷◌, codes, inl, inr, refl, subst, sym}
use Rattle.clap.specs.Words.{fault_of}
use Rattle.clap.specs.declared.error.ErrorKind.TheVariants.{UnknownArgument}
use Rattle.clap.proofs.OnLiterals.{clap_on_literals}
use Rattle.cvr_words.specs.Line.{cvr_line, with_program}
use Rattle.cvr_words.specs.Request.{IsRequest}
use Rattle.cvr_words.specs.declared.request.Request.{Request}
use Rattle.cvr_run.specs.OwnWords.{AsksVersion, UnknownVersionLaw}

long_unknown : fault_of cvr_line (with_program (codes "--version" ∷ [])) ≡ UnknownArgument ∷ []
unfolding clap_on_literals
long_unknown = refl

short_unknown : fault_of cvr_line (with_program (codes "-V" ∷ [])) ≡ UnknownArgument ∷ []
unfolding clap_on_literals
short_unknown = refl

pub unknown_version : UnknownVersionLaw
unknown_version words (inl is) = subst (λ (w : List (List ℕ)). fault_of cvr_line (with_program w)
    ≡ UnknownArgument ∷ []) (sym is) long_unknown
unknown_version words (inr is) = subst (λ (w : List (List ℕ)). fault_of cvr_line (with_program w)
    ≡ UnknownArgument ∷ []) (sym is) short_unknown

pub version_asks_none : (words : List (List ℕ)) → AsksVersion words → (request : Request)
    → IsRequest (with_program words) request → ⊥
version_asks_none words version request asks =
    let bad : [] ≡ UnknownArgument ∷ [] = sym asks.0 ∙ unknown_version words version in cc
