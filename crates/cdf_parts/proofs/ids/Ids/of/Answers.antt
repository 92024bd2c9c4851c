use Rattle.std.proofs.Common.{◌≡◌, ◌<◌, ◌+◌, ◌++◌, ◌∷◌, [], get_or, length, take, sym, ap, ◌∙◌}
use Rattle.std.proofs.Common.{string_bytes, rules, arith}
use Rattle.std.proofs.lemmas.List.{take_more, length-take-le}
use Rattle.cdf_parts.specs.Ids.{bytes_of}
use Rattle.cdf_parts.specs.Places.{place_in}
use Rattle.cdf_parts.proofs.Places.{places_more, bytes_more, length-bytes_of}
use Rattle.cdf_parts.proofs.ids.Ids.of.Goals as goal

pub loop-place-preserved : goal.loop-place-preserved
loop-place-preserved c = λ q.
    let xs = c.deref-id-items.result.now in
    let i = c.loop-place.place in
    let x = c.id-item.result in
    let lt : i < length xs = search rules in
    let is : x ≡ get_or xs i x = search rules in
    let id = c.as_str.result.now in
    let own : string_bytes x ≡ id = search rules in
    let len : length (bytes_of (take i xs)) ≡ i =
    length-bytes_of (take i xs) ∙ length-take-le i xs (omega arith) in
    let more : bytes_of (take (i + 1) xs) ≡ bytes_of (take i xs) ++ id ∷ [] =
    ap bytes_of (take_more xs i x lt ∙ ap (λ y. take i xs ++ y ∷ []) (sym is))
    ∙ bytes_more (take i xs) x id own in
    places_more c.loop-place.places c.note_place.new.places (bytes_of (take i xs)) id i len
    c.loop-place.invariant c.in_ok-note_place.ensures q
    ∙ ap (λ ys. place_in ys q) (sym more)
