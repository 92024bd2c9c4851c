-- What is at a key of the tally, record by record.
use Rattle.std.proofs.Common.{◌≡◌, ◌==◌, ℕ, ◌<◌, Bool, true, false, cond, ◌&&◌, List, [], ◌∷◌, ◌++◌}
use Rattle.std.proofs.Common.{length, Contains, Option, Some, None, is_some, refl, sym, ap, ◌∙◌}
use Rattle.std.proofs.Common.{subst, arith, ne_eqb, append-nil}
use Rattle.std.specs.Prelude.{unwrap_or}
use Rattle.std.specs.List.{filter, find, sum_by}
use Rattle.std.specs.Option.{option_map_or}
use Rattle.std.proofs.lemmas.Bool.{eqb-true, eqb-false}
use Rattle.std.proofs.lemmas.List.{length_push}
use Rattle.std.proofs.lemmas.List.Elements.{filter-append}
use Rattle.std.proofs.lemmas.List.Sums.{sum_by-cons}
use Rattle.cdf_parts.specs.Places.{Contest, selections_at}
use Rattle.cvr_fact_types.specs.declared.name.RecordName.{RecordName}
use Rattle.cvr_fact_types.specs.declared.sums.VoteSums.{VoteSums}
use Rattle.cvr_fact_types.specs.Columns.{Ballots, worth}
use Rattle.cvr_fact_types.specs.Facts.{Facts}
use Rattle.cvr_facts.specs.Choosing.{header, current}
use Rattle.cvr_facts.proofs.Lemmas.{at_head, at_tail}
use Rattle.cvr_tally.specs.declared.key.RowKey.{RowKey}
use Rattle.cvr_tally.specs.declared.row.Row.{Row}
use Rattle.cvr_tally.specs.Rows.{zero_row, row_plus}
use Rattle.cvr_office.specs.Tallied.{is_headed, sums_of_body, sums_at, stands_in, column_over}
use Rattle.cvr_office.specs.Tallied.{row_of, row_over}
use Rattle.cvr_office.specs.Adding.{IsSums, CurrentsAreSums, added_sums, row_with}
use Rattle.cvr_office.proofs.RowColumns.{row_of-none, row_of-more}

-- ---- a search

-- what is found is listed and passes
pub found : {X : Type 0} (p : X → Bool) (xs : List X) (x : X) → find p xs ≡ Some x
    → Contains xs x × (p x ≡ true)
found p [] x e = Prim.cc e
found p (y ∷ ys) x e =
    elim (p y) as (λ b. p y ≡ b → cond b (Some y) (find p ys) ≡ Some x
    → Contains (y ∷ ys) x × (p x ≡ true)) [
      | true ↦ λ passes is. let same : y
          ≡ x = Prim.cc is in (
            subst (λ z. Contains (y ∷ ys) z) same (at_head y ys),
            subst
                (λ z. p z ≡ true) same passes,
          )
      | false ↦ λ fails is. let more = found p ys x is in (at_tail y x ys more.0, more.1)
    ] refl e

-- ---- the sums of a record

module _ (contests : List Contest) (s : Facts) (sums : CurrentsAreSums contests s) where
  sums_from : (c : ℕ) (r : RecordName) (v : VoteSums) (o : Option (List ℕ)) → current s r ≡ o
      → find (λ v. v.contest == c) (option_map_or (sums_of_body contests) o []) ≡ Some v
      → IsSums contests v × (v.contest ≡ c)
  sums_from c r v None is e = Prim.cc e
  sums_from c r v (Some body) is e =
      let at = found (λ v. v.contest == c) (sums_of_body contests body) v e in
      ((sums r body is).each v at.0, eqb-true v.contest c at.1)

  pub sums_there : (c : ℕ) (r : RecordName) (v : VoteSums) → sums_at contests s c r ≡ Some v
      → IsSums contests v × (v.contest ≡ c)
  sums_there c r v e = sums_from c r v (current s r) refl e

-- ---- one record more

both_is : (b : Bool) (o : Option VoteSums) → (b && is_some o) ≡ is_some (cond b o None)
both_is true o = refl
both_is false o = refl

pub passed : {X : Type 0} (b : Bool) (o : Option X) (x : X) → cond b o None ≡ Some x → o ≡ Some x
passed true o x e = e
passed false o x e = Prim.cc e

pub shown : {X : Type 0} (b : Bool) (x y : X) → cond b None (Some x) ≡ Some y
    → (b ≡ false) × (x ≡ y)
shown true x y e = Prim.cc e
shown false x y e = (refl, Prim.cc e)

module _ (contests : List Contest) (s : Facts) (sums : CurrentsAreSums contests s)
    (q : RowKey) where
  abbrev standing : List RecordName → List RecordName
  standing rs = filter (stands_in contests s q) rs

  -- the row of these, if there are any
  abbrev if_any : List RecordName → Option Row
  if_any rs = cond (length rs == 0) None (Some (row_of contests s q.contest rs))

  if_any-more : (rs : List RecordName) (r : RecordName)
      → if_any (rs ++ r ∷ []) ≡ Some (row_of contests s q.contest (rs ++ r ∷ []))
  if_any-more rs r =
      let long = length_push rs r in
      ap (λ b. cond b None (Some (row_of contests s q.contest (rs ++ r ∷ []))))
      (ne_eqb (length (rs ++ r ∷ [])) 0 (λ e. omega (arith, long, e)))

  -- it is what there would be with a row of zeros at first
  opened : (rs : List RecordName) → unwrap_or (if_any rs)
      (zero_row (length (selections_at contests q.contest))) ≡ row_of contests s q.contest rs
  opened [] = sym (row_of-none contests s q.contest)
  opened (r ∷ rs) =
      ap (λ b. unwrap_or (cond b None (Some (row_of contests s q.contest (r ∷ rs))))
      (zero_row (length (selections_at contests q.contest))))
      (ne_eqb (length (r ∷ rs)) 0 (λ e. omega (arith, e)))

  stands_is : (r : RecordName) → stands_in contests s q r ≡ is_some (added_sums contests s q r)
  stands_is r = both_is (is_headed q (header s r)) (sums_at contests s q.contest r)

  standing_more : (rs : List RecordName) (r : RecordName) (b : Bool) → stands_in contests s q r ≡ b
      → standing (rs ++ r ∷ []) ≡ standing rs ++ cond b (r ∷ []) []
  standing_more rs r b is = filter-append (stands_in contests s q) rs (r ∷ [])
      ∙ ap (λ b. standing rs ++ cond b (r ∷ []) []) is

  adds : (rs : List RecordName) (r : RecordName) (o : Option VoteSums)
      → added_sums contests s q r ≡ o
      → row_over contests s q (rs ++ r ∷ []) ≡ row_with contests q (row_over contests s q rs) o
  adds rs r None is =
      ap if_any (standing_more rs r false (stands_is r ∙ ap is_some is) ∙ append-nil (standing rs))
  adds rs r (Some v) is =
      let at = passed (is_headed q (header s r)) (sums_at contests s q.contest r) v is in
      ap if_any (standing_more rs r true (stands_is r ∙ ap is_some is))
      ∙ (if_any-more (standing rs) r
      ∙ ap Some (row_of-more contests s q.contest (standing rs) r v at
      ∙ ap (λ w. row_plus w v) (sym (opened (standing rs)))))

  pub row_over-more : (rs : List RecordName) (r : RecordName)
      → row_over contests s q (rs ++ r ∷ [])
      ≡ row_with contests q (row_over contests s q rs) (added_sums contests s q r)
  row_over-more rs r = adds rs r (added_sums contests s q r) refl

-- ---- ballots

one_ballot : (b : Bool) (o : Option VoteSums) → (b && is_some o) ≡ true
    → option_map_or (worth Ballots) o 0 ≡ 1
one_ballot true (Some v) is = refl
one_ballot true None is = Prim.cc is
one_ballot false o is = Prim.cc is

module _ (contests : List Contest) (s : Facts) (q : RowKey) where
  -- each of the records that stand in a row is a ballot
  pub ballots_stand : (rs : List RecordName)
      → column_over contests s q.contest (filter (stands_in contests s q) rs) Ballots
      ≡ length (filter (stands_in contests s q) rs)
  ballots_stand [] = refl
  ballots_stand (r ∷ rs) =
      let stand = filter (stands_in contests s q) rs in
      let each : RecordName → ℕ =
      λ r. option_map_or (worth Ballots) (sums_at contests s q.contest r) 0 in
      elim (stands_in contests s q r) as
      (λ b. stands_in contests s q r ≡ b
      → sum_by each (cond b (r ∷ stand) stand) ≡ length (cond b (r ∷ stand) stand)) [
        | true ↦ λ is. omega (
          arith,
          sum_by-cons each r stand,
          one_ballot (is_headed q (header s r))
              (sums_at contests s q.contest r) is,
          ballots_stand rs,
        )
        | false ↦ λ is. ballots_stand rs
      ] refl

  pub row_stands : (rs : List RecordName) (r : Row) → row_over contests s q rs ≡ Some r
      → (r.ballots ≡ length (filter (stands_in contests s q) rs)) × (0 < r.ballots)
  row_stands rs r is =
      let stand = filter (stands_in contests s q) rs in
      let parts = shown (length stand == 0) (row_of contests s q.contest stand) r is in
      let none = eqb-false (length stand) 0 parts.0 in
      let ballots : r.ballots ≡ length stand =
      sym (ap (λ r. r.ballots) parts.1) ∙ ballots_stand rs in
      (ballots, omega (arith, ballots, none))
