-- Facts of different records share no name, so conflicts are found record by record.
use Rattle.std.proofs.Common.{◌≡◌, ℕ, suc, true, false, cond, List, [], ◌∷◌, ◌++◌, map, Contains}
use Rattle.std.proofs.Common.{Option, Some, None, Less, Equal, refl, sym, ap, ◌∙◌, arith}
use Rattle.std.specs.Prelude.{nat_le, max}
use Rattle.std.specs.List.{flat_map}
use Rattle.std.specs.List.Sorted.{IsStrictlySortedBy}
use Rattle.std.specs.Map.{keys_of}
use Rattle.std.specs.Cmp.{tied_itself}
use Rattle.std.proofs.lemmas.Bool.{false_from_ne_true}
use Rattle.std.proofs.lemmas.List.{map-append}
use Rattle.std.proofs.lemmas.List.Elements.{filter-append}
use Rattle.std.proofs.lemmas.Map.Keys.{sorted_head, sorted_tail}
use Rattle.cvr_fact_types.specs.declared.name.RecordName.{RecordName}
use Rattle.cvr_fact_types.specs.Facts.{Fact, Device, Header, Snapshot, name_cmp}
use Rattle.cvr_facts.proofs.Lemmas.{at_head, at_tail, in_map, from_flat}
use Rattle.cvr_office.specs.declared.any_fact.AnyFact.{AnyFact}
use Rattle.cvr_office.specs.declared.conflict.Conflict.{Conflict}
use Rattle.cvr_office.specs.declared.conflict.ConflictName.{ConflictName}
use Rattle.cvr_office.specs.declared.conflict.ConflictName.TheVariants as name
use Rattle.cvr_office.specs.Names.{name_of, record_of, conflicts, most, greatest_count}
use Rattle.cvr_lists.specs.AnyNames.{any_name, has_name}
use Rattle.cvr_office.specs.Place.{fact_of, any_cmp}
use Rattle.cvr_office.specs.Plain.{set_of}
use Rattle.cvr_office.proofs.Laws.{name_total}
use Rattle.cvr_office.proofs.Lemmas.{each_of}
use Rattle.cvr_lists.proofs.Laws.{name_is}
use Rattle.cvr_lists.proofs.Laws.{conflicts-is, greatest_count-is}
use Rattle.cvr_lists.proofs.Lemmas.{most-cons}
use Rattle.cvr_cached.specs.Contents.{Entries, fact_list}
use Rattle.cvr_cached.specs.Held.{AreOwn}
use Rattle.cvr_cached.proofs.Listed.{own_each, found_own, listed_rises, AreOwnEach}
use Rattle.cvr_lists.specs.NameRuns.{runs_from, counted_runs, of_several, most_of}

-- ---- a name is of one record

record_in : ConflictName → Option RecordName
record_in (name.Device id) = None
record_in (name.Header key) = Some key
record_in (name.Snapshot key id) = Some key

record_named : (f : Fact) → record_of f ≡ record_in (name_of f)
unfolding record_in
record_named f = grind arith

same_record : (x y : AnyFact) → has_name (any_name x) y ≡ true
    → record_of (fact_of x) ≡ record_of (fact_of y)
same_record x y named = record_named (fact_of x)
    ∙ (ap record_in (name_is (any_name x) (fact_of y) named) ∙ sym (record_named (fact_of y)))

-- ---- lists that share no name

abbrev Apart : List AnyFact → List AnyFact → Type 0
Apart xs ys = (x y : AnyFact) → Contains xs x → Contains ys y → has_name (any_name x) y ≡ false

runs_from-append : (n : ConflictName) (k : ℕ) (xs ys : List AnyFact)
    → ((y : AnyFact) → Contains ys y → has_name n y ≡ false) → Apart xs ys
    → runs_from n k (xs ++ ys) ≡ runs_from n k xs ++ counted_runs ys
runs_from-append n k [] [] none apart = refl
runs_from-append n k [] (y ∷ ys) none apart = ap
    (λ b. cond b (runs_from n (suc k) ys)
    (record { name = n; bodies = k } ∷ runs_from (any_name y) 1 ys)) (none y (at_head y ys))
runs_from-append n k (x ∷ xs) ys none apart =
    let later : Apart xs ys = λ z y a b. apart z y (at_tail x z xs a) b in
    elim (has_name n x) as (λ b. cond b (runs_from n (suc k) (xs ++ ys))
    (record { name = n; bodies = k } ∷ runs_from (any_name x) 1 (xs ++ ys))
    ≡ cond b (runs_from n (suc k) xs)
    (record { name = n; bodies = k } ∷ runs_from (any_name x) 1 xs) ++ counted_runs ys) [
      | true ↦ runs_from-append n (suc k) xs ys none later
      | false ↦ ap (λ cs. record { name = n; bodies = k } ∷ cs)
          (runs_from-append (any_name x) 1 xs ys (λ y at. apart x y (at_head x xs) at) later)
    ]

counted_runs-append : (xs ys : List AnyFact) → Apart xs ys
    → counted_runs (xs ++ ys) ≡ counted_runs xs ++ counted_runs ys
counted_runs-append [] ys apart = refl
counted_runs-append (x ∷ xs) ys apart = runs_from-append (any_name x) 1 xs ys
    (λ y at. apart x y (at_head x xs) at) (λ z y a b. apart z y (at_tail x z xs a) b)

-- ---- contents share none

first_apart : (e : RecordName × List AnyFact) (es : Entries)
    → IsStrictlySortedBy name_cmp (keys_of (e ∷ es)) → AreOwnEach (e ∷ es)
    → Apart e.1 (flat_map (λ (e : RecordName × List AnyFact). e.1) es)
first_apart e es rises own x y a b = false_from_ne_true (has_name (any_name x) y) (λ named.
    let from = from_flat (λ (p : RecordName × List AnyFact). p.1) y es b in
    let less = each_of (λ n. name_cmp e.0 n ≡ Less) (keys_of es) from.0.0
    (sorted_head name_cmp e.0 (keys_of es) rises)
    (in_map (λ (p : RecordName × List AnyFact). p.0) from.0 es from.1) in
    let both : Some e.0 ≡ Some from.0.0 = sym (own e (at_head e es) x a)
    ∙ (same_record x y named ∙ own from.0 (at_tail e from.0 es from.1) y from.2) in
    let same : e.0 ≡ from.0.0 = Prim.cc both in
    let clash : Less ≡ Equal =
    sym less ∙ (ap (λ k. name_cmp e.0 k) (sym same) ∙ tied_itself name_total e.0) in
    Prim.cc clash)

flat_runs : (es : Entries) → IsStrictlySortedBy name_cmp (keys_of es) → AreOwnEach es
    → counted_runs (flat_map (λ (e : RecordName × List AnyFact). e.1) es)
    ≡ flat_map (λ (e : RecordName × List AnyFact). counted_runs e.1) es
flat_runs [] rises own = refl
flat_runs (e ∷ es) rises own =
    counted_runs-append e.1 (flat_map (λ (e : RecordName × List AnyFact). e.1) es)
    (first_apart e es rises own)
    ∙ ap (λ cs. counted_runs e.1 ++ cs)
    (flat_runs es (sorted_tail name_cmp e.0 (keys_of es) rises)
    (λ d at. own d (at_tail e d es at)))

-- ---- told apart

several_flat : (es : Entries) → ((e : RecordName × List AnyFact) → Contains es e
    → IsStrictlySortedBy any_cmp e.1) → of_several
    (flat_map (λ (e : RecordName × List AnyFact). counted_runs e.1) es)
    ≡ flat_map (λ (e : RecordName × List AnyFact). conflicts (set_of e.1)) es
several_flat [] rise = refl
several_flat (e ∷ es) rise =
    filter-append (λ (c : Conflict). nat_le 2 c.bodies) (counted_runs e.1)
    (flat_map (λ (e : RecordName × List AnyFact). counted_runs e.1) es)
    ∙ (λ i. sym (conflicts-is e.1 (rise e (at_head e es))) i
    ++ several_flat es (λ d at. rise d (at_tail e d es at)) i)

most-append : (xs ys : List ℕ) → most (xs ++ ys) ≡ max (most xs) (most ys)
most-append [] ys = omega arith
most-append (x ∷ xs) ys = omega (arith, most-cons x (xs ++ ys), most-cons x xs, most-append xs ys)

most_flat : (es : Entries) → ((e : RecordName × List AnyFact) → Contains es e
    → IsStrictlySortedBy any_cmp e.1) → most_of
    (flat_map (λ (e : RecordName × List AnyFact). counted_runs e.1) es)
    ≡ most (map (λ (e : RecordName × List AnyFact). greatest_count (set_of e.1)) es)
most_flat [] rise = refl
most_flat (e ∷ es) rise =
    let bodies : Conflict → ℕ = λ c. c.bodies in
    let rest = flat_map (λ (e : RecordName × List AnyFact). counted_runs e.1) es in
    ap most (map-append bodies (counted_runs e.1) rest)
    ∙ (most-append (map bodies (counted_runs e.1)) (map bodies rest)
    ∙ ((λ i. max (sym (greatest_count-is e.1 (rise e (at_head e es))) i)
    (most_flat es (λ d at. rise d (at_tail e d es at)) i))
    ∙ sym (most-cons (greatest_count (set_of e.1))
    (map (λ (e : RecordName × List AnyFact). greatest_count (set_of e.1)) es))))

module _ (d : List AnyFact) (es : Entries) (own : AreOwn d es) where
  rise : (e : RecordName × List AnyFact) → Contains es e → IsStrictlySortedBy any_cmp e.1
  rise e at = own.contents_rise e.0 e.1 (found_own es own.names_rise e at)

  devices_apart : Apart d (flat_map (λ (e : RecordName × List AnyFact). e.1) es)
  devices_apart x y a b = false_from_ne_true (has_name (any_name x) y) (λ named.
      let from = from_flat (λ (p : RecordName × List AnyFact). p.1) y es b in
      let clash : None ≡ Some from.0.0 = sym (own.devices_are x a)
      ∙ (same_record x y named ∙ own_each d es own from.0 from.1 y from.2) in
      Prim.cc clash)

  all_runs : counted_runs (fact_list d es)
      ≡ counted_runs d ++ flat_map (λ (e : RecordName × List AnyFact). counted_runs e.1) es
  all_runs =
      counted_runs-append d (flat_map (λ (e : RecordName × List AnyFact). e.1) es) devices_apart
      ∙ ap (λ cs. counted_runs d ++ cs) (flat_runs es own.names_rise (own_each d es own))

  -- the conflicts of the devices, then those of each record
  pub conflicts_apart : conflicts (set_of d) ++ flat_map (λ e. conflicts (set_of e.1)) es
      ≡ conflicts (set_of (fact_list d es))
  conflicts_apart = sym (
      conflicts-is (fact_list d es) (listed_rises d es own)
      ∙ (ap of_several all_runs
      ∙ (filter-append (λ (c : Conflict). nat_le 2 c.bodies) (counted_runs d)
      (flat_map (λ (e : RecordName × List AnyFact). counted_runs e.1) es)
      ∙ (λ i. sym (conflicts-is d own.devices_rise) i ++ several_flat es rise i))))

  -- the greatest of their counts
  pub greatest_apart : most (greatest_count (set_of d) ∷ map (λ e. greatest_count (set_of e.1)) es)
      ≡ greatest_count (set_of (fact_list d es))
  greatest_apart =
      let bodies : Conflict → ℕ = λ c. c.bodies in
      let rest = flat_map (λ (e : RecordName × List AnyFact). counted_runs e.1) es in
      sym (
      greatest_count-is (fact_list d es) (listed_rises d es own)
      ∙ (ap most_of all_runs
      ∙ (ap most (map-append bodies (counted_runs d) rest)
      ∙ (most-append (map bodies (counted_runs d)) (map bodies rest)
      ∙ ((λ i. max (sym (greatest_count-is d own.devices_rise) i) (most_flat es rise i))
      ∙ sym (most-cons (greatest_count (set_of d)) (map (λ e. greatest_count (set_of e.1)) es)))))))
