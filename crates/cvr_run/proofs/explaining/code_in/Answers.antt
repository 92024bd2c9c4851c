-- Each `part` before a space that is no `code` can be passed: the first code in `rest` is the first
-- of the word. Once there is no space, the rest is the last part, or it is empty and no code.
use Rattle.std.proofs.Common.{rules, ◌≡◌, ◌∙◌, ◌==◌, ◌∷◌, ap, arith, sym}
use Rattle.std.specs.List.{before_first}
use Rattle.cvr_run.specs.Explained.{first_code}
use Rattle.cvr_run.specs.ListedPaths.{parts_at}
use Rattle.cvr_run.proofs.FirstCode.{found, last_code, passed}
use Rattle.cvr_run.proofs.ListedPaths.{cut_first}
use Rattle.cvr_run.proofs.explaining.code_in.Goals as goal

pub returns-in-Some-code_of : goal.returns-in-Some-code_of
returns-in-Some-code_of c =
    let rest = c.parts.rest.now in
    let part = c.in-Some.part.now in
    let more = c.in-Some.more.now in
    let cut = c.in-Some.ensures.byte (omega arith) (λ w o f. f) in
    let parts : part ∷ parts_at 32 more ≡ parts_at 32 rest =
    ap (λ p. p ∷ parts_at 32 more) cut.0
    ∙ (ap (λ m. before_first (λ b. b == 32) rest ∷ parts_at 32 m) cut.1
    ∙ sym (cut_first 32 rest cut.2)) in
    sym (found part (parts_at 32 more) c.in-Some-code_of.code
    (sym c.code_of.ensures ∙ c.in-Some-code_of.is))
    ∙ (ap first_code parts ∙ c.parts.invariant.1)

pub parts-preserved : goal.parts-preserved
parts-preserved c =
    let rest = c.parts.rest.now in
    let part = c.in-Some.part.now in
    let more = c.in-Some.more.now in
    let cut = c.in-Some.ensures.byte (omega arith) (λ w o f. f) in
    let parts : part ∷ parts_at 32 more ≡ parts_at 32 rest =
    ap (λ p. p ∷ parts_at 32 more) cut.0
    ∙ (ap (λ m. before_first (λ b. b == 32) rest ∷ parts_at 32 m) cut.1
    ∙ sym (cut_first 32 rest cut.2)) in (
      search rules,
      sym (passed part (parts_at 32 more) (sym c.code_of.ensures ∙ c.in_default-code_of.is))
          ∙ (ap first_code parts ∙ c.parts.invariant.1),
    )

pub returns : goal.returns
returns c =
    let all = c.in_default.ensures.byte (omega arith) (λ w o f. f) in
    c.code_of-2.ensures ∙ (sym (last_code c.parts.rest.now all) ∙ c.parts.invariant.1)
