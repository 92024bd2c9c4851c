-- The next record and the next device of a plain office's list.
use Rattle.std.proofs.Common.{◌≡◌, ℕ, ◌<◌, ◌≤◌, Bool, true, false, List, length, get_or, Option}
use Rattle.std.proofs.Common.{Some, None, Ordering, Less, Equal, Greater, refl, sym, ◌∙◌, subst}
use Rattle.std.proofs.Common.{true≢false, arith}
use Rattle.std.specs.Prelude.{slice_get}
use Rattle.std.specs.List.Sorted.{IsStrictlySortedBy, IsPartitionedBy, IsPartitionPoint}
use Rattle.std.specs.Option.{option_cmp, option_map_or}
use Rattle.std.specs.Ordering.{is_gt, is_le}
use Rattle.std.specs.Cmp.{upto}
use Rattle.std.specs.Cmp.Lexicographic.{options_total}
use Rattle.std.proofs.lemmas.Option.{none-some}
use Rattle.cvr_fact_types.specs.declared.name.RecordName.{RecordName}
use Rattle.cvr_fact_types.specs.Facts.{text_cmp, name_cmp}
use Rattle.cvr_facts.proofs.Laws.{text_total, text_exact}
use Rattle.cvr_office.specs.declared.any_fact.AnyFact.{AnyFact}
use Rattle.cvr_office.specs.Names.{record_of, records, device_in, devices}
use Rattle.cvr_office.specs.Readers.{next}
use Rattle.cvr_office.specs.Place.{fact_of, any_cmp}
use Rattle.cvr_office.specs.Plain.{set_of}
use Rattle.cvr_office.proofs.Runs.{name_total}
use Rattle.cvr_office.proofs.RecordMembers.{name_exact}
use Rattle.cvr_office.proofs.Upward.{records_up, devices_up, none_last, none_last_total, up_at}
use Rattle.cvr_office.proofs.NextNames.{Passes}
use Rattle.cvr_office.proofs.NextNames as names

-- ---- tests

not_above : (o : Ordering) → is_le o ≡ true → is_gt o ≡ false
not_above o e = grind arith

up_to : (o : Ordering) → is_gt o ≡ false → is_le o ≡ true
up_to o e = grind arith

behind : (o : Ordering) → is_le o ≡ false → is_gt o ≡ true
behind Less e = sym e
behind Equal e = sym e
behind Greater e = refl

none_up_to : {K : Type 0} (R : K → K → Ordering) (after : Option K)
    → is_le (option_cmp R None after) ≡ true
none_up_to R None = refl
none_up_to R (Some k) = refl

-- ---- records

pub record_up : (xs : List AnyFact) → IsStrictlySortedBy any_cmp xs → (i j : ℕ) (d : AnyFact)
    → i ≤ j → j < length xs
    → is_gt (option_cmp name_cmp (record_of (fact_of (get_or xs i d)))
    (record_of (fact_of (get_or xs j d)))) ≡ false
record_up xs h i j d le lt = up_at any_cmp (λ x. record_of (fact_of x)) (options_total name_total)
    (λ x y less. records_up (fact_of x) (fact_of y) less) xs h i j d le lt

module _ (xs : List AnyFact) (h : IsStrictlySortedBy any_cmp xs) (after : Option RecordName) where
  abbrev pub record_passes : AnyFact → Bool
  record_passes x = is_le (option_cmp name_cmp (record_of (fact_of x)) after)

  pub records_parted : IsPartitionedBy record_passes xs
  records_parted i j d le lt ok =
      up_to _ (upto (options_total name_total) (record_of (fact_of (get_or xs i d)))
      (record_of (fact_of (get_or xs j d))) after (record_up xs h i j d le lt) (not_above _ ok))

  record_tests : Passes record_of name_cmp after record_passes xs
  record_tests = record {
    hidden = λ x k is ok. not_above (option_cmp name_cmp (Some k) after)
        (subst (λ o. is_le (option_cmp name_cmp o after) ≡ true) is ok);
    shown = λ x k is no. behind (option_cmp name_cmp (Some k) after)
        (subst (λ o. is_le (option_cmp name_cmp o after) ≡ false) is no);
    up = λ i j d k l le lt a b. subst (λ o. is_gt (option_cmp name_cmp (Some k) o) ≡ false) b
        (subst (λ o. is_gt (option_cmp name_cmp o (record_of (fact_of (get_or xs j d)))) ≡ false) a
        (record_up xs h i j d le lt));
    ends = λ i j d le lt no none. absurd
        (true≢false (sym (none_up_to name_cmp after)
        ∙ subst (λ o. is_le (option_cmp name_cmp o after) ≡ false) none no));
  }

  module _ (i : ℕ) (point : IsPartitionPoint (λ x. record_passes x ≡ true)
      (λ x. record_passes x ≡ false) xs i) where
    pub next_record_none : length xs ≤ i → None ≡ next name_cmp (records (set_of xs)) after
    next_record_none past = names.next_none name_total name_exact record_of after record_passes xs i
        record_tests point past

    pub next_record_some : (x : AnyFact) → slice_get xs i ≡ Some x
        → record_of (fact_of x) ≡ next name_cmp (records (set_of xs)) after
    next_record_some x here = names.next_some name_total name_exact record_of after record_passes xs
        i record_tests point x here

-- ---- devices

pub device_up : (xs : List AnyFact) → IsStrictlySortedBy any_cmp xs → (i j : ℕ) (d : AnyFact)
    → i ≤ j → j < length xs
    → is_gt (none_last text_cmp (device_in (fact_of (get_or xs i d)))
    (device_in (fact_of (get_or xs j d)))) ≡ false
device_up xs h i j d le lt = up_at any_cmp (λ x. device_in (fact_of x)) (none_last_total text_total)
    (λ x y less. devices_up (fact_of x) (fact_of y) less) xs h i j d le lt

module _ (xs : List AnyFact) (h : IsStrictlySortedBy any_cmp xs) (after : Option (List ℕ)) where
  abbrev pub is_held : Option (List ℕ) → Bool
  is_held o = option_map_or (λ i. is_le (option_cmp text_cmp (Some i) after)) o false

  abbrev pub device_passes : AnyFact → Bool
  device_passes x = is_held (device_in (fact_of x))

  still_passes : (a b : Option (List ℕ)) → is_gt (none_last text_cmp a b) ≡ false → is_held b ≡ true
      → is_held a ≡ true
  still_passes a None up ok = absurd (true≢false (sym ok))
  still_passes None (Some b) up ok = absurd (true≢false up)
  still_passes (Some a) (Some b) up ok = up_to (option_cmp text_cmp (Some a) after)
      (upto (options_total text_total) (Some a) (Some b) after up
      (not_above (option_cmp text_cmp (Some b) after) ok))

  pub devices_parted : IsPartitionedBy device_passes xs
  devices_parted i j d le lt ok = still_passes _ _ (device_up xs h i j d le lt) ok

  still_none : (a b : Option (List ℕ)) → is_gt (none_last text_cmp a b) ≡ false → a ≡ None
      → b ≡ None
  still_none a None up none = refl
  still_none None (Some b) up none = absurd (true≢false up)
  still_none (Some a) (Some b) up none = absurd (none-some a (sym none))

  device_tests : Passes device_in text_cmp after device_passes xs
  device_tests = record {
    hidden = λ x k is ok. not_above (option_cmp text_cmp (Some k) after)
        (subst (λ o. is_held o ≡ true) is ok);
    shown = λ x k is no. behind (option_cmp text_cmp (Some k) after)
        (subst (λ o. is_held o ≡ false) is no);
    up = λ i j d k l le lt a b. subst (λ o. is_gt (none_last text_cmp (Some k) o) ≡ false) b
        (subst (λ o. is_gt (none_last text_cmp o (device_in (fact_of (get_or xs j d)))) ≡ false) a
        (device_up xs h i j d le lt));
    ends = λ i j d le lt no none. still_none _ _ (device_up xs h i j d le lt) none;
  }

  module _ (i : ℕ) (point : IsPartitionPoint (λ x. device_passes x ≡ true)
      (λ x. device_passes x ≡ false) xs i) where
    pub next_device_none : length xs ≤ i → None ≡ next text_cmp (devices (set_of xs)) after
    next_device_none past = names.next_none text_total text_exact device_in after device_passes xs i
        device_tests point past

    pub next_device_some : (x : AnyFact) → slice_get xs i ≡ Some x
        → device_in (fact_of x) ≡ next text_cmp (devices (set_of xs)) after
    next_device_some x here = names.next_some text_total text_exact device_in after device_passes xs
        i device_tests point x here
