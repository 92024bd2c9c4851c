use Rattle.std.proofs.Common.{◌≡◌, List, [], ◌∷◌, Bool, map, refl, ap, ◌||◌, ◌∙◌, bytes_eq}
use Rattle.std.specs.List.{list_any}
use Rattle.cdf_form.proofs.leaf.is_listed.Goals as goal

list_any-map : {X Y : Type 0} (p : Y → Bool) (h : X → Y) (xs : List X)
    → list_any (λ x. p (h x)) xs ≡ list_any p (map h xs)
list_any-map p h [] = refl
list_any-map p h (x ∷ xs) = ap (λ b. p (h x) || b) (list_any-map p h xs)

pub returns : goal.returns
returns c = c.is_among.ensures ∙ list_any-map (bytes_eq c.args.text.now) (λ t. t.now)
    c.texts.result.now ∙ ap (list_any (bytes_eq c.args.text.now)) c.texts.ensures
