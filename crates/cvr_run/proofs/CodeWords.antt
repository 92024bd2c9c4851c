-- Words that ask what a code means: they are two, those for the version are one, and neither asks
-- for a request.
use Rattle.std.proofs.Common.{◌≡◌, ◌∙◌, ◌⊎◌, ℕ, List, [], ◌∷◌, inl, inr, refl, ap, sym}
use Rattle.clap.specs.Words.{fault_of}
use Rattle.clap.specs.declared.error.ErrorKind.TheVariants.{DisplayHelp, InvalidSubcommand}
use Rattle.clap.specs.declared.error.ErrorKind.TheVariants.{UnknownArgument}
use Rattle.clap.proofs.OnLiterals.{clap_on_literals}
use Rattle.cvr_words.specs.Line.{cvr_line, with_program}
use Rattle.cvr_words.specs.Request.{IsRequest}
use Rattle.cvr_words.specs.declared.request.Request.{Request}
use Rattle.cvr_run.specs.Explained.{AsksCode, ExplainUnknownLaw, HelpUnknownLaw}
use Rattle.cvr_run.specs.OwnWords.{AsksVersion}

pub not_both : (words : List (List ℕ)) → AsksVersion words → (asked : List (List ℕ))
    → AsksCode words asked → ⊥
not_both words (inl one) asked (inl asks) = cc
not_both words (inr one) asked (inl asks) = cc
not_both words (inl one) asked (inr asks) = let is = asks.0 in cc
not_both words (inr one) asked (inr asks) = let is = asks.0 in cc

pub one_asked : (words a b : List (List ℕ)) → AsksCode words a → AsksCode words b → a ≡ b
one_asked words a b (inl one) (inl other) = cc
one_asked words a b (inl one) (inr other) = let is = other.0 in absurd (cc)
one_asked words a b (inr one) (inl other) = let is = one.0 in absurd (cc)
one_asked words a b (inr one) (inr other) = one.1 ∙ sym other.1

pub explain_unknown : ExplainUnknownLaw
unfolding clap_on_literals
explain_unknown asked = refl

pub help_unknown : HelpUnknownLaw
unfolding clap_on_literals
help_unknown = refl

pub code_asks_none : (words asked : List (List ℕ)) → AsksCode words asked
    → (request : Request) → IsRequest (with_program words) request → ⊥
code_asks_none words asked (inl code) request asks =
    let bad : [] ≡ UnknownArgument ∷ InvalidSubcommand ∷ [] =
    sym asks.0 ∙ (ap (λ ws. fault_of cvr_line (with_program ws)) code ∙ explain_unknown asked) in cc
code_asks_none words asked (inr code) request asks =
    let bad : [] ≡ DisplayHelp ∷ InvalidSubcommand ∷ [] =
    sym asks.0 ∙ (ap (λ ws. fault_of cvr_line (with_program ws)) code.0 ∙ help_unknown) in cc

pub neither : {A : Type 0} (words : List (List ℕ)) → (AsksVersion words → ⊥)
    → ((asked : List (List ℕ)) → AsksCode words asked → ⊥)
    → AsksVersion words ⊎ ((asked : List (List ℕ)) × AsksCode words asked) → A
neither words version code (inl is) = absurd (version is)
neither words version code (inr is) = absurd (code is.0 is.1)
