-- Every object is the definition's exactly where none differs.
use Rattle.std.proofs.Common.{◌≡◌, ◌↔◌, ℕ, List, [], true, false, Option, Some, None, option_map}
use Rattle.std.proofs.Common.{unwrap_or, codes, bytes_eq, sym, ap}
use Rattle.std.proofs.lemmas.Slice.Eq.{bytes_eq-Decides}
use Rattle.serde_json.specs.Data.{Data}
use Rattle.serde_json.specs.Written.{compact_text}
use Rattle.cdf_parts.specs.Parts.{id_of}
use Rattle.cdf_definition.specs.Paths.{each}
use Rattle.cdf_definition.specs.Named.{IdText, text_of}
use Rattle.cdf_definition.specs.Agreement.{differing_paths, AreListed}
use Rattle.cdf_definition.specs.Laws.{AgreementLaw}
use Rattle.cdf_definition.proofs.Empty.{two, unless_nil, nil_unless, all_items}

own_text : (s : List ℕ) (o : Option (List ℕ))
    → (unwrap_or (option_map (bytes_eq s) o) false ≡ true) ↔ (o ≡ Some s)
own_text s None = ((λ e. absurd (cc)), λ e. absurd (cc))
own_text s (Some t) = (
  (λ e. ap Some (sym ((bytes_eq-Decides s t).0 e))),
  λ e. let same : t ≡ s = cc in (bytes_eq-Decides s t).1 (sym same),
)

object_law : (entries : List IdText) (e : Data)
    → (differing_paths entries e ≡ []) ↔ (text_of entries (id_of e) ≡ Some (compact_text e))
object_law entries e =
    let h = own_text (compact_text e) (text_of entries (id_of e)) in
    ((λ n. h.0 (unless_nil _ n)), λ is. nil_unless _ (h.1 is))

list_law : (entries : List IdText) (name : List ℕ) (d : Data)
    → (each (differing_paths entries) name d ≡ []) ↔ AreListed entries name d
list_law entries = all_items (differing_paths entries)
    (λ e. text_of entries (id_of e) ≡ Some (compact_text e)) (object_law entries)

pub agreement : AgreementLaw
agreement frame d =
    let h = two _ _ (list_law frame.elections (codes "Election") d)
    (two _ _ (list_law frame.units (codes "GpUnit") d) (list_law frame.parties (codes "Party") d))
    in (
      (λ e. let r = h.0 e in record { elections = r.0; units = r.1.0; parties = r.1.1 }),
      λ r.
          h.1 (r.elections, (r.units, r.parties)),
    )
