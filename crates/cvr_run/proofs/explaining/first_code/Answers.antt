use Rattle.std.proofs.Common.{rules, ◌≡◌, ◌∙◌, ◌++◌, ap, map, string_bytes, sym}
use Rattle.cvr_run.specs.Explained.{first_code, parts_of}
use Rattle.cvr_run.specs.ListedPaths.{parts_at}
use Rattle.cvr_run.proofs.FirstCode.{found_before, none_left, passed_all}
use Rattle.cvr_run.proofs.explaining.first_code.Goals as goal

pub returns-in-Some-code_in : goal.returns-in-Some-code_in
returns-in-Some-code_in c =
    let word = c.as_str.result.now in
    let more = map string_bytes c.in-Some.more.now in
    let all : parts_of (map string_bytes c.words.rest.now)
    ≡ parts_at 32 word ++ parts_of more = search rules in
    sym (found_before (parts_at 32 word) (parts_of more) c.in-Some-code_in.code
    (sym c.code_in.ensures ∙ c.in-Some-code_in.is))
    ∙ (ap first_code (sym all) ∙ c.words.invariant)

pub words-preserved : goal.words-preserved
words-preserved c =
    let word = c.as_str.result.now in
    let more = map string_bytes c.in-Some.more.now in
    let all : parts_of (map string_bytes c.words.rest.now)
    ≡ parts_at 32 word ++ parts_of more = search rules in
    sym (passed_all (parts_at 32 word) (parts_of more)
    (sym c.code_in.ensures ∙ c.in_default-code_in.is))
    ∙ (ap first_code (sym all) ∙ c.words.invariant)

pub returns : goal.returns
returns c =
    sym (none_left string_bytes c.words.rest.now (search rules)) ∙ c.words.invariant
