use Rattle.std.proofs.Common.{◌≡◌, sym, ◌∙◌, refl, rules}
use Rattle.std.specs.Str.{bytes_eq}
use Rattle.std.specs.Cmp.Lexicographic.{pointwise}
use Rattle.std.proofs.lemmas.Slice.Eq.{bytes_eq-Decides, slice_eq-Decides}
use Rattle.cdf_definition.proofs.named.Named.same.Goals as goal

pub returns : goal.returns
returns c =
    let xs = c.bodies.result.now in
    let ys = c.bodies-2.result.now in
    let is : c.eq.result ≡ pointwise bytes_eq xs ys = search rules in
    let both = slice_eq-Decides bytes_eq-Decides xs ys (pointwise bytes_eq xs ys) refl in (
      λ t. sym c.bodies.ensures ∙ both.0 (sym is ∙ t) ∙ c.bodies-2.ensures,
      λ e. is
          ∙ both.1 (c.bodies.ensures ∙ e ∙ sym c.bodies-2.ensures),
    )
