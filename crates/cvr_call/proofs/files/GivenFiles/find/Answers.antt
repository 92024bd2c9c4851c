use Rattle.std.proofs.Common.{◌≡◌, ◌∙◌, ap, map}
use Rattle.cvr_call.specs.Given.{files_in, found_at}
use Rattle.cvr_call.specs.Held.{at_of}
use Rattle.cvr_call.proofs.Holding.{at_path, handed_over}
use Rattle.cvr_call.proofs.files.GivenFiles.find.Goals as goal

pub returns : goal.returns
returns c =
    let files = files_in (map (λ piece. piece.now) c.args.self.now.pieces.now) in
    let same : c.copied.result ≡ at_path c.args.self.now.by_path c.as_bytes.result.now =
    c.copied.ensures ∙ c.get.ensures.value in
    handed_over c.copied.result (found_at files c.args.path.now)
    (ap at_of same ∙ (c.args.self.now.found c.as_bytes.result.now
    ∙ ap (found_at files) c.as_bytes.ensures.value))
