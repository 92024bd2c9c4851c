use Rattle.std.proofs.Common.{◌≡◌, ◌∙◌, ◌+◌, ◌≤◌, ℕ, ap, sym, drop, map, length, string_bytes}
use Rattle.std.proofs.Common.{subst}
use Rattle.std.proofs.lemmas.List.{drop-map, length-map}
use Rattle.cvr_run.proofs.ListWords.{holds_none, no_tail}
use Rattle.cvr_run.proofs.listing.listing_of.Goals as goal

pub returns-in_err-list-clause-none : goal.returns-in_err-list-clause-none
returns-in_err-list-clause-none c =
    let words = c.args.words.now in
    let count = c.in_ok-count.count in
    let sizes = c.in_ok-count.ensures.some in
    let all : length words ≡ length (map string_bytes words) =
    sym (length-map words string_bytes) in
    let tail : drop count (map string_bytes words) ≡ map string_bytes c.split_at.result.1.now =
    drop-map string_bytes count words ∙ ap (map string_bytes) (sym c.split_at.ensures.back) in
    holds_none c.from_residual-in_err-list.result _
    (no_tail (map string_bytes words) count sizes.0 (subst (λ (n : ℕ). count + 2 ≤ n) all sizes.1)
    (subst (λ (n : ℕ). n ≤ count + 3) all sizes.2)
    (λ list by_null is. c.in_err-list.ensures.none list by_null (sym tail ∙ is)))
