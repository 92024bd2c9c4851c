-- Facts put into a list in order.
use Rattle.std.proofs.Common.{◌≡◌, ℕ, ◌+◌, ◌-◌, ◌<◌, ◌≤◌, List, [], ◌∷◌, ◌++◌, length, map, take}
use Rattle.std.proofs.Common.{get_or, arith, sym, ap, ◌∙◌}
use Rattle.std.specs.List.{dedup}
use Rattle.std.specs.List.Sorted.{IsStrictlySortedBy, IsSorted, IsPermutation}
use Rattle.std.specs.Ordering.{eq_by_cmp}
use Rattle.std.proofs.lemmas.List.{take_more, map-append, get_or-map, length-map}
use Rattle.cdf_definition.specs.Named.{IdText, ids_of, texts_of}
use Rattle.cvr_fact_types.specs.Facts.{Fact, Device, fact_total, fact_exact}
use Rattle.cvr_office.specs.declared.any_fact.AnyFact.{AnyFact}
use Rattle.cvr_office.specs.declared.any_fact.AnyFact.TheVariants as any
use Rattle.cvr_office.specs.Readers.{growth}
use Rattle.cvr_office.specs.Place.{fact_of, place_total, place_exact, any_cmp}
use Rattle.cvr_office.specs.Plain.{set_of, IsPut}
use Rattle.cvr_office.proofs.Lemmas.{put_in, growth_is}

pub put : (old more sorted new : List AnyFact) → IsPermutation (old ++ more) sorted
    → IsSorted any_cmp sorted → new ≡ dedup (eq_by_cmp any_cmp) sorted → IsPut old more new
put old more sorted new moved rises is =
    let p = put_in fact_of place_total place_exact fact_total fact_exact old more sorted moved rises
    new is in
    record { rises = p.rises; from = p.from; set = p.set }

pub put_growth : (old more new : List AnyFact) → IsStrictlySortedBy any_cmp old → IsPut old more new
    → (length old ≤ length new) × (length new - length old ≡ growth (set_of old) (set_of more))
put_growth old more new h p =
    growth_is fact_of place_total fact_total fact_exact old more new h record
    { rises = p.rises; from = p.from; set = p.set }

-- a loop's step over the devices of a definition
abbrev pub device_of : IdText → Fact
device_of e = Device e.0 e.1

pub more_devices : (es : List IdText) (bodies : List (List ℕ)) (facts : List AnyFact) (i : ℕ)
    (id body item : List ℕ) → bodies ≡ texts_of es → i < length bodies
    → id ≡ get_or (ids_of es) i [] → body ≡ item → item ≡ get_or bodies i item
    → map fact_of facts ≡ map device_of (take i es)
    → map fact_of (facts ++ any.Device (record { id = id; body = body }) ∷ [])
    ≡ map device_of (take (i + 1) es)
more_devices es bodies facts i id body item are below id_is body_is at was =
    let lt : i < length es = omega (arith, below, ap length are, length-map es (λ x. x.1)) in
    let e : IdText = get_or es i ([], []) in
    let first : id ≡ e.0 = id_is ∙ get_or-map (λ x. x.0) es i ([], []) [] lt in
    let second : body ≡ e.1 = body_is ∙
    (at ∙ (ap (λ xs. get_or xs i item) are ∙ get_or-map (λ x. x.1) es i ([], []) item lt)) in
    map-append fact_of facts (any.Device (record { id = id; body = body }) ∷ [])
    ∙ ((λ k. was k ++ Device (first k) (second k) ∷ [])
    ∙ (sym (map-append device_of (take i es) (e ∷ []))
    ∙ ap (map device_of) (sym (take_more es i ([], []) lt))))
