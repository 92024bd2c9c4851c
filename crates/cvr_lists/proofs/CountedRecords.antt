-- The records of a plain office's list, counted from the first fact to the last.
use Rattle.std.proofs.Common.{◌≡◌, ℕ, ◌+◌, ◌<◌, ◌≤◌, true, false, List, [], ◌∷◌, ◌++◌, length, take}
use Rattle.std.proofs.Common.{get_or, Contains, Option, Some, None, refl, sym, ap, ◌∙◌, subst}
use Rattle.std.proofs.Common.{arith, true≢false, get_or-take, length-take-le, append-nil}
use Rattle.std.specs.List.{filter_map, cons_option}
use Rattle.std.specs.List.Sorted.{IsStrictlySortedBy}
use Rattle.std.specs.Option.{option_cmp}
use Rattle.std.specs.Ordering.{is_gt}
use Rattle.std.proofs.lemmas.List.{take_more, take_all, length_push}
use Rattle.std.proofs.lemmas.List.Elements.{filter_map-append}
use Rattle.std.proofs.lemmas.Option.{get_or_from_slice_get, slice_get_read}
use Rattle.cvr_fact_types.specs.declared.name.RecordName.{RecordName}
use Rattle.cvr_fact_types.specs.Facts.{name_cmp}
use Rattle.cvr_facts.specs.Ordered.{keys_in_order}
use Rattle.cvr_facts.proofs.Lemmas.{from-filter_map}
use Rattle.cvr_office.specs.declared.any_fact.AnyFact.{AnyFact}
use Rattle.cvr_office.specs.Names.{record_of, records}
use Rattle.cvr_office.specs.Place.{fact_of, any_cmp}
use Rattle.cvr_office.specs.Plain.{set_of}
use Rattle.cvr_lists.proofs.Highest.{IsHighest, none_highest, keys_in_order-nil}
use Rattle.cvr_lists.proofs.Highest.{keys_in_order-pushed, highest_pushed, keys_in_order-held}
use Rattle.cvr_lists.proofs.Highest.{highest_held}
use Rattle.cvr_office.proofs.Lemmas.{keys_in_order-given}
use Rattle.cvr_office.proofs.Laws.{name_total, name_exact}
use Rattle.cvr_office.proofs.Lemmas.{record_up}

abbrev pub names_to : List AnyFact → ℕ → List RecordName
names_to xs i = filter_map (λ x. record_of (fact_of x)) (take i xs)

-- the records of the first facts, of which `last` is the highest
pub record Counted (xs : List AnyFact) (i count : ℕ) (last : Option RecordName) : Type 0 where
  pub fits : count ≤ i
  pub counted : count ≡ length (keys_in_order name_cmp (names_to xs i))
  pub highest : IsHighest name_cmp (names_to xs i) last

pub counted_same : (xs : List AnyFact) (i m n : ℕ) (k l : Option RecordName) → Counted xs i n l
    → m ≡ n → k ≡ l → Counted xs i m k
counted_same xs i m n k l was e f =
    subst (λ c. Counted xs i c k) (sym e) (subst (Counted xs i n) (sym f) was)

pub counted_none : (xs : List AnyFact) → Counted xs 0 0 None
counted_none xs = record {
  fits = omega arith;
  counted = sym (ap length (keys_in_order-nil name_total name_exact));
  highest = none_highest name_cmp;
}

module _ (xs : List AnyFact) (i count : ℕ) (last : Option RecordName)
    (was : Counted xs i count last) (x : AnyFact) (lt : i < length xs)
    (is : x ≡ get_or xs i x) where
  names_more : (r : Option RecordName) → record_of (fact_of x) ≡ r
      → names_to xs (i + 1) ≡ names_to xs i ++ cons_option r []
  names_more r e =
      ap (filter_map (λ x. record_of (fact_of x))) (take_more xs i x lt)
      ∙ (filter_map-append (λ x. record_of (fact_of x)) (take i xs) (get_or xs i x ∷ [])
      ∙ ap (λ o. names_to xs i ++ cons_option o []) (ap (λ y. record_of (fact_of y)) (sym is) ∙ e))

  new_name : (r : Option RecordName) → record_of (fact_of x) ≡ r
      → is_gt (option_cmp name_cmp r last) ≡ true → Counted xs (i + 1) (count + 1) r
  new_name None e above = elim last as (λ o. is_gt (option_cmp name_cmp None o) ≡ true
      → Counted xs (i + 1) (count + 1) None) [
        | None ↦ λ above. absurd (true≢false (sym above))
        | Some l ↦ λ above. absurd (true≢false (sym above))
      ] above
  new_name (Some k) e above =
      let more = names_more (Some k) e in
      let longer = ap (λ ks. length (keys_in_order name_cmp ks)) more
      ∙ (ap length (keys_in_order-pushed name_total name_exact (names_to xs i) last k
      was.highest above) ∙ length_push (keys_in_order name_cmp (names_to xs i)) k) in
      record {
        fits = omega (arith, was.fits);
        counted = omega (arith, was.counted, longer);
        highest = subst (λ ks. IsHighest name_cmp ks (Some k)) (sym more)
            (highest_pushed name_total name_exact (names_to xs i) last k was.highest above);
      }

  pub counted_new : is_gt (option_cmp name_cmp (record_of (fact_of x)) last) ≡ true
      → Counted xs (i + 1) (count + 1) (record_of (fact_of x))
  counted_new above = new_name (record_of (fact_of x)) refl above

  -- no name before is above that of this fact
  low : IsStrictlySortedBy any_cmp xs → (k : RecordName) → record_of (fact_of x) ≡ Some k
      → (y : RecordName) → Contains (names_to xs i) y → is_gt (name_cmp y k) ≡ false
  low h k e y at =
      let found = from-filter_map (λ x. record_of (fact_of x)) (take i xs) y at in
      let z = found.0 in
      let j = found.1.0 in
      let near : j < i = omega (arith, found.1.1, length-take-le i xs) in
      let there : record_of (fact_of (get_or xs j z)) ≡ Some y =
      ap (λ w. record_of (fact_of w)) (sym (get_or-take i xs j z near) ∙ found.1.2) ∙ found.2 in
      let here : record_of (fact_of (get_or xs i z))
      ≡ Some k = ap (λ w. record_of (fact_of w))
      (get_or_from_slice_get xs i x z (slice_get_read xs (length xs) i x refl lt is)) ∙ e in
      subst (λ o. is_gt (option_cmp name_cmp (Some y) o) ≡ false) here
      (subst (λ o. is_gt (option_cmp name_cmp o (record_of (fact_of (get_or xs i z)))) ≡ false)
      there (record_up xs h j i z (omega (arith, near)) lt))

  old_name : IsStrictlySortedBy any_cmp xs → (r : Option RecordName) → record_of (fact_of x) ≡ r
      → is_gt (option_cmp name_cmp r last) ≡ false → Counted xs (i + 1) count last
  old_name h None e within =
      let same : names_to xs (i + 1) ≡ names_to xs i =
      names_more None e ∙ append-nil (names_to xs i) in
      record {
        fits = omega (arith, was.fits);
        counted = was.counted ∙ ap (λ ks. length (keys_in_order name_cmp ks)) (sym same);
        highest = subst (λ ks. IsHighest name_cmp ks last) (sym same) was.highest;
      }
  old_name h (Some k) e within =
      let more = names_more (Some k) e in
      record {
        fits = omega (arith, was.fits);
        counted = was.counted ∙ ap length
            (sym (ap (keys_in_order name_cmp) more
            ∙ keys_in_order-held name_total name_exact (names_to xs i) last k was.highest
            (low h k e) within));
        highest = subst (λ ks. IsHighest name_cmp ks last) (sym more)
            (highest_held name_total name_exact (names_to xs i) last k was.highest within);
      }

  pub counted_old : IsStrictlySortedBy any_cmp xs
      → is_gt (option_cmp name_cmp (record_of (fact_of x)) last) ≡ false
      → Counted xs (i + 1) count last
  counted_old h within = old_name h (record_of (fact_of x)) refl within

pub counted_all : (xs : List AnyFact) (i count : ℕ) (last : Option RecordName)
    → Counted xs i count last → length xs ≤ i → count ≡ length (records (set_of xs))
counted_all xs i count last was past =
    was.counted ∙ ap length (ap (λ ys. keys_in_order name_cmp
    (filter_map (λ x. record_of (fact_of x)) ys)) (take_all i xs past)
    ∙ sym (keys_in_order-given record_of xs name_total name_exact))
