-- A text of which nothing is escaped stands in a JSON string as it is.
use Rattle.std.proofs.Common.{◌≡◌, ℕ, true, List, [], ◌∷◌, ◌++◌, not, ◌==◌, ◌&&◌, nat_le, refl, sym}
use Rattle.std.proofs.Common.{ap, ◌∙◌, append_assoc}
use Rattle.std.proofs.lemmas.Bool.{and_parts, not-true, leb-true, eqb-false}
use Rattle.std.specs.List.{list_all}
use Rattle.json.specs.Print.{escape, escape_byte, quoted}
use Rattle.json.proofs.Printed.Strings.{escape_byte_plain}
use Rattle.cvr_report.specs.Unescaped.{is_unescaped_byte}

byte_as_is : (x : ℕ) → is_unescaped_byte x ≡ true → escape_byte x ≡ x ∷ []
byte_as_is x h =
    let p = and_parts (nat_le 32 x) (not (x == 34) && not (x == 92)) h in
    let q = and_parts (not (x == 34)) (not (x == 92)) p.1 in
    escape_byte_plain x (eqb-false x 34 (not-true (x == 34) q.0))
    (eqb-false x 92 (not-true (x == 92) q.1)) (leb-true 32 x p.0)

pub escape-unescaped : (s : List ℕ) → list_all is_unescaped_byte s ≡ true → escape s ≡ s
escape-unescaped [] h = refl
escape-unescaped (x ∷ s) h =
    let p = and_parts (is_unescaped_byte x) (list_all is_unescaped_byte s) h in
    λ i. byte_as_is x p.0 i ++ escape-unescaped s p.1 i

pub quoted-unescaped : (o s : List ℕ) → list_all is_unescaped_byte s ≡ true
    → ((o ++ 34 ∷ []) ++ s) ++ 34 ∷ [] ≡ o ++ quoted s
quoted-unescaped o s h =
    append_assoc (o ++ 34 ∷ []) s (34 ∷ []) ∙ append_assoc o (34 ∷ []) (s ++ 34 ∷ [])
    ∙ ap (λ t. o ++ (34 ∷ (t ++ 34 ∷ []))) (sym (escape-unescaped s h))
