use Rattle.std.proofs.Common.{◌≡◌, ◌∙◌, ◌++◌, ◌∷◌, ℕ, [], ap, rules}
use Rattle.std.specs.Global.{Vec}
use Rattle.std.proofs.lemmas.List.{map-append}
use Rattle.cvr_run.specs.Outcome.{files_of}
use Rattle.cvr_run.proofs.collecting.GatheredTake.take.Goals as goal

pub returns : goal.returns
returns c = λ definition paths files rs was.
    let before = c.args.self.now.files.items in
    let bytes = c.extend_from_slice.new.self in
    let pushed : c.push.new.self.items ≡ before ++ bytes ∷ [] = search rules in
    let is : bytes.items ≡ c.args.file.now.items = search rules in
    ap files_of pushed
    ∙ (map-append (λ (f : Vec ℕ). f.items) before (bytes ∷ [])
    ∙ (λ i. was i ++ is i ∷ []))
