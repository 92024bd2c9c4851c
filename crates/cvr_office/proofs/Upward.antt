-- In a plain office's list names rise with the facts: devices by id and then none, none and then
-- records by name.
use Rattle.std.proofs.Common.{◌≡◌, ℕ, ◌<◌, ◌≤◌, false, List, length, get_or, Option, Ordering, Less}
use Rattle.std.proofs.Common.{inl, inr, refl, ap, subst, arith}
use Rattle.std.specs.List.Sorted.{IsStrictlySortedBy}
use Rattle.std.specs.Option.{option_cmp}
use Rattle.std.specs.Ordering.{is_gt, ordering_then, flip_args}
use Rattle.std.specs.Cmp.{IsTotalOrder, tied_itself, back_total}
use Rattle.std.specs.Cmp.Lexicographic.{options_total}
use Rattle.std.proofs.lemmas.Map.Keys.{Less-from_sorted}
use Rattle.std.proofs.Math.Nat.{eq-or-lt_of_le}
use Rattle.cvr_fact_types.specs.Facts.{Fact, Device, Header, Snapshot, text_cmp, name_cmp}
use Rattle.cvr_office.specs.Names.{record_of, device_in}
use Rattle.cvr_office.specs.Place.{place_cmp}
use Rattle.cvr_office.proofs.Runs.{not_past}

pub first_not_gt : (p q : Ordering) → ordering_then p q ≡ Less → is_gt p ≡ false
first_not_gt p q e = grind arith

-- ---- of two facts

-- none before all
pub records_up : (f g : Fact) → place_cmp f g ≡ Less
    → is_gt (option_cmp name_cmp (record_of f) (record_of g)) ≡ false
records_up (Device i b) (Device j c) e = refl
records_up (Device i b) (Header d u c) e = refl
records_up (Device i b) (Snapshot d u j c) e = refl
records_up (Header d u b) (Device j c) e = Prim.cc e
records_up (Header d u b) (Header d' u' c) e = not_past (text_cmp d d') (text_cmp u u') _ e
records_up (Header d u b) (Snapshot d' u' j c) e = not_past (text_cmp d d') (text_cmp u u') _ e
records_up (Snapshot d u i b) (Device j c) e = Prim.cc e
records_up (Snapshot d u i b) (Header d' u' c) e = not_past (text_cmp d d') (text_cmp u u') _ e
records_up (Snapshot d u i b) (Snapshot d' u' j c) e = not_past (text_cmp d d') (text_cmp u u') _ e

-- none behind all
abbrev pub none_last : {K : Type 0} → (K → K → Ordering) → Option K → Option K → Ordering
none_last R a b = option_cmp (flip_args R) b a

pub devices_up : (f g : Fact) → place_cmp f g ≡ Less
    → is_gt (none_last text_cmp (device_in f) (device_in g)) ≡ false
devices_up (Device i b) (Device j c) e = first_not_gt (text_cmp i j) _ e
devices_up (Device i b) (Header d u c) e = refl
devices_up (Device i b) (Snapshot d u j c) e = refl
devices_up (Header d u b) (Device j c) e = Prim.cc e
devices_up (Header d u b) (Header d' u' c) e = refl
devices_up (Header d u b) (Snapshot d' u' j c) e = refl
devices_up (Snapshot d u i b) (Device j c) e = Prim.cc e
devices_up (Snapshot d u i b) (Header d' u' c) e = refl
devices_up (Snapshot d u i b) (Snapshot d' u' j c) e = refl

pub none_last_total : {K : Type 0} {R : K → K → Ordering} → IsTotalOrder R
    → IsTotalOrder (none_last R)
none_last_total t = back_total (options_total (back_total t))

-- ---- of a list

module _ {X V : Type 0} (cmp : X → X → Ordering) (f : X → V) {O : V → V → Ordering}
    (o : IsTotalOrder O) (up : (x y : X) → cmp x y ≡ Less → is_gt (O (f x) (f y)) ≡ false)
    (xs : List X) (h : IsStrictlySortedBy cmp xs) where
  pub up_at : (i j : ℕ) (d : X) → i ≤ j → j < length xs
      → is_gt (O (f (get_or xs i d)) (f (get_or xs j d))) ≡ false
  up_at i j d le lt =
      elim (eq-or-lt_of_le le) [
        | inl same ↦ subst (λ k. is_gt (O (f (get_or xs i d)) (f (get_or xs k d))) ≡ false) same
            (ap is_gt (tied_itself o (f (get_or xs i d))))
        | inr below ↦ up (get_or xs i d) (get_or xs j d) (Less-from_sorted cmp xs i j d h below lt)
      ]
