-- Along a list in order, records don't fall: the facts of one stand together.
use Rattle.std.proofs.Common.{◌≡◌, ◌+◌, false, List, get_or, Ordering, Less, Equal, Greater, Some}
use Rattle.std.proofs.Common.{refl, ap, ◌∙◌, arith}
use Rattle.std.specs.List.Sorted.{IsStrictlySortedBy, IsSortedBy, IsNonDecreasingBy}
use Rattle.std.specs.Ordering.{is_lt, is_gt, ordering_then, ordering_reverse, ordering_index}
use Rattle.std.specs.Option.{option_cmp}
use Rattle.std.specs.Prelude.{Option}
use Rattle.std.specs.Cmp.{IsTotalOrder}
use Rattle.std.specs.Cmp.Lexicographic.{options_total}
use Rattle.std.proofs.lemmas.Cmp.{on_total, then_total}
use Rattle.std.proofs.lemmas.List.Sorted.{searchable_from_sorted}
use Rattle.std.proofs.lemmas.Map.Keys.{Less-from_sorted}
use Rattle.cvr_fact_types.specs.declared.name.RecordName.{RecordName}
use Rattle.cvr_fact_types.specs.Facts.{text_cmp, name_cmp}
use Rattle.cvr_facts.proofs.Laws.{text_total}
use Rattle.cvr_office.specs.declared.any_fact.AnyFact.{AnyFact}
use Rattle.cvr_office.specs.declared.any_fact.AnyFact.TheVariants as any
use Rattle.cvr_office.specs.Names.{record_of}
use Rattle.cvr_office.specs.Place.{fact_of, any_cmp}
use Rattle.cvr_office.specs.Runs.{record_order}

pub name_total : IsTotalOrder name_cmp
name_total = then_total (on_total (λ k. k.device) text_total) (on_total (λ k. k.unique) text_total)

abbrev record_in : AnyFact → Option RecordName
record_in fact = record_of (fact_of fact)

pub not_past : (q r s : Ordering) → ordering_then q (ordering_then r s) ≡ Less
    → is_gt (ordering_then q r) ≡ false
not_past Less r s e = refl
not_past Equal Less s e = refl
not_past Equal Equal s e = refl
not_past Equal Greater s e = Prim.cc e
not_past Greater r s e = Prim.cc e

pub not_before : (r : Ordering) → is_gt r ≡ false → is_lt (ordering_reverse r) ≡ false
not_before r h = grind arith

-- a fact's record isn't past that of a later one
pub records_rise : (x y : AnyFact) → any_cmp x y ≡ Less
    → is_gt (option_cmp name_cmp (record_in x) (record_in y)) ≡ false
records_rise (any.Device d) (any.Device e) h = refl
records_rise (any.Device d) (any.Header e) h = refl
records_rise (any.Device d) (any.Snapshot e) h = refl
records_rise (any.Header d) (any.Device e) h = Prim.cc h
records_rise (any.Header d) (any.Header e) h =
    not_past (text_cmp d.key.device e.key.device) (text_cmp d.key.unique e.key.unique) _ h
records_rise (any.Header d) (any.Snapshot e) h =
    not_past (text_cmp d.key.device e.key.device) (text_cmp d.key.unique e.key.unique) _ h
records_rise (any.Snapshot d) (any.Device e) h = Prim.cc h
records_rise (any.Snapshot d) (any.Header e) h =
    not_past (text_cmp d.key.device e.key.device) (text_cmp d.key.unique e.key.unique) _ h
records_rise (any.Snapshot d) (any.Snapshot e) h =
    not_past (text_cmp d.key.device e.key.device) (text_cmp d.key.unique e.key.unique) _ h

module _ (facts : List AnyFact) (rises : IsStrictlySortedBy any_cmp facts) where
  by_record : IsSortedBy (λ x y. is_lt (option_cmp name_cmp (record_in x) (record_in y))) facts
  by_record k d low high =
      let h = records_rise (get_or facts k d) (get_or facts (k + 1) d)
      (Less-from_sorted any_cmp facts k (k + 1) d rises (omega arith) high) in
      ap is_lt ((options_total name_total).antisymm (record_in (get_or facts (k + 1) d))
      (record_in (get_or facts k d))) ∙ not_before _ h

  pub record_order_rises : (key : RecordName)
      → IsNonDecreasingBy (λ y. ordering_index (record_order key y)) facts
  record_order_rises key =
      searchable_from_sorted (options_total name_total) record_in facts (Some key) by_record
