-- The keys of tally rows, in order: by contest, then unit, then batch. (Members BallotStyleUnitId
-- and BatchId of class CVR in NIST SP 1500-103; rows are this project's own.)
use Rattle.std.specs.Prelude.{ℕ, List, Bool, Option, Some, None}
use Rattle.std.proofs.Common.{refl, ap}
use Rattle.std.specs.Coded.{Coded, code_by, coded×, coded_ℕ, coded_list, coded_option}
use Rattle.std.specs.declared.cmp.Ordering.{Ordering}
use Rattle.std.specs.Ordering.{nat_cmp, ordering_then, eq_by_cmp}
use Rattle.std.specs.Option.{option_cmp}
use Rattle.std.specs.Cmp.{IsTotalOrder}
use Rattle.std.specs.Cmp.Lexicographic.{nat_list_cmp_total, options_total}
use Rattle.std.proofs.lemmas.Cmp.{on_total, then_total, nat_cmp_total}
use Rattle.std.proofs.lemmas.Map.Lookups.{exact_pairs, exact_unsigned, exact_bytes}
use Rattle.std.specs.FinMap.{IsAntisymmetric}
use Rattle.cvr_fact_types.specs.Facts.{text_cmp}
use Rattle.cvr_tally.specs.declared.key.RowKey.{RowKey}

-- a unit or a batch: none before all texts, texts by their bytes
abbrev pub part_cmp : Option (List ℕ) → Option (List ℕ) → Ordering
part_cmp = option_cmp text_cmp

-- keys of rows in order: by contest, then by unit, then by batch
abbrev pub key_cmp : RowKey → RowKey → Ordering
key_cmp a b = ordering_then (nat_cmp a.contest b.contest)
    (ordering_then (part_cmp a.unit b.unit) (part_cmp a.batch b.batch))

-- whether they are the same key
abbrev pub is_key : RowKey → RowKey → Bool
is_key q k = eq_by_cmp key_cmp q k

pub keys_total : IsTotalOrder key_cmp
keys_total = then_total (on_total (λ k. k.contest) nat_cmp_total)
    (then_total (on_total (λ k. k.unit) (options_total nat_list_cmp_total))
    (on_total (λ k. k.batch) (options_total nat_list_cmp_total)))

abbrev pub coded_key : Coded RowKey
coded_key = code_by (ℕ × (Option (List ℕ) × Option (List ℕ)))
    (coded× coded_ℕ (coded× (coded_option (coded_list coded_ℕ))
    (coded_option (coded_list coded_ℕ)))) (λ k. (k.contest, (k.unit, k.batch)))
    (λ p. record { contest = p.0; unit = p.1.0; batch = p.1.1 }) (λ _. refl)

exact_parts : IsAntisymmetric part_cmp
exact_parts None None h = refl
exact_parts None (Some y) h = Prim.cc h
exact_parts (Some x) None h = Prim.cc h
exact_parts (Some x) (Some y) h = ap Some (exact_bytes x y h)

-- keys that tie in order are equal
pub keys_exact : IsAntisymmetric key_cmp
keys_exact a b h = ap (λ (p : ℕ × (Option (List ℕ) × Option (List ℕ))).
    record { contest = p.0; unit = p.1.0; batch = p.1.1 })
    (exact_pairs nat_cmp (λ (x y : Option (List ℕ) × Option (List ℕ)).
    ordering_then (part_cmp x.0 y.0) (part_cmp x.1 y.1)) exact_unsigned
    (exact_pairs part_cmp part_cmp exact_parts exact_parts) (a.contest, (a.unit, a.batch))
    (b.contest, (b.unit, b.batch)) h)
