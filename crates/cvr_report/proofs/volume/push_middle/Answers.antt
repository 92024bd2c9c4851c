-- What is added, from Election to ReportingDevice, is the middle text of a volume, part by part.
-- There is no `let` to stand on, only the parameters `buffer` and `definition`.
use Rattle.std.proofs.Common.{◌≡◌, ◌++◌, ℕ, List, codes, false, sym, ap, ◌∙◌, append_assoc}
use Rattle.std.proofs.Common.{append-nil}
use Rattle.json.specs.Print.{quoted}
use Rattle.cdf_definition.specs.Named.{texts_of}
use Rattle.cvr_report.specs.Record.{comma_list}
use Rattle.cvr_report.specs.Pieces.{party_text}
use Rattle.cvr_report.proofs.volume.push_middle.Goals as goal

regroup : (o a b c d e f g h i j k : List ℕ)
    → ((((((((((o ++ a) ++ b) ++ c) ++ d) ++ e) ++ f) ++ g) ++ h) ++ i) ++ j) ++ k
    ≡ o ++ (a ++ (b ++ (c ++ (d ++ (e ++ (f ++ (g ++ (h ++ (i ++ (j ++ k))))))))))
regroup o a b c d e f g h i j k = simp append_assoc

pub returns : goal.returns
returns c =
    let o = c.args.buffer.now.items in
    let def = c.args.definition.now in
    let a = codes ",\"Election\":[" in
    let b = codes "],\"GeneratedDate\":" in
    let d = codes ",\"GpUnit\":[" in
    let e = codes "]" in
    let f = codes ",\"ReportGeneratingDeviceIds\":[" in
    let h = codes "],\"ReportType\":[\"aggregated\"],\"ReportingDevice\":[" in
    let t = c.as_bytes.result.now in
    let u = comma_list false (texts_of def.units) in
    let p = party_text (texts_of def.parties) in
    let all : c.extend_from_slice-7.new.self.items
    ≡ ((((((((((o ++ a) ++ t) ++ b) ++ quoted c.date.result.now) ++ d)
    ++ comma_list false c.units.result.now) ++ e) ++ party_text c.parties.result.now) ++ f)
    ++ quoted c.device.result.now) ++ h =
    c.in_ok-extend_from_slice-7.ensures.items
    ∙ ap (λ s. s ++ h) (c.in_ok-push_quoted-2.ensures.ok
    ∙ ap (λ s. s ++ quoted c.device.result.now) (c.in_ok-extend_from_slice-6.ensures.items
    ∙ ap (λ s. s ++ f) (c.in_ok-push_parties.ensures
    ∙ ap (λ s. s ++ party_text c.parties.result.now) (c.in_ok-extend_from_slice-5.ensures.items
    ∙ ap (λ s. s ++ e) (c.in_ok-push_joined.ensures
    ∙ ap (λ s. s ++ comma_list false c.units.result.now) (c.in_ok-extend_from_slice-4.ensures.items
    ∙ ap (λ s. s ++ d) (c.in_ok-push_quoted.ensures.ok
    ∙ ap (λ s. s ++ quoted c.date.result.now) (c.in_ok-extend_from_slice-3.ensures.items
    ∙ ap (λ s. s ++ b) (c.in_ok-extend_from_slice-2.ensures.items
    ∙ ap (λ s. s ++ t) c.in_ok-extend_from_slice.ensures.items))))))))) in
    let one : t ≡ comma_list false (texts_of def.elections) = c.as_bytes.ensures.value
    ∙ (c.as_str.ensures ∙ (sym (append-nil c.election.result.now)
    ∙ ap (comma_list false) (sym c.election.ensures))) in
    let date = ap quoted c.date.ensures.date in
    let device = ap quoted c.device.ensures in
    all ∙ (regroup o a t b (quoted c.date.result.now) d (comma_list false c.units.result.now) e
    (party_text c.parties.result.now) f (quoted c.device.result.now) h
    ∙ (λ i. o ++ (a ++ (one i ++ (b ++ (date i
    ++ (d ++ (comma_list false (c.units.ensures i)
    ++ (e ++ (party_text (c.parties.ensures i) ++ (f ++ (device i ++ h))))))))))))
