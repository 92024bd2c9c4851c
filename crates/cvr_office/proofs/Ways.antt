-- A file has reached an office exactly where an accepted import and accepted exchanges bring it
-- there.
use Rattle.std.proofs.Common.{◌≡◌, ℕ, ◌==◌, true, false, cond, inl, inr, [], ◌∷◌, ◌++◌, refl, sym}
use Rattle.std.proofs.Common.{ap, ◌∙◌, subst}
use Rattle.std.proofs.lemmas.Bool.{false≢true, or_cases, or_left, or_right}
use Rattle.std.specs.Ordering.{eq_by_cmp}
use Rattle.std.specs.FinSet.{union, empty, insert, from_list, contains, contains-union}
use Rattle.std.specs.FinSet.{contains-insert, contains-empty}
use Rattle.cvr_office.specs.Reach.{Origin, Start, File, Origins, origin_cmp, History, origins_at}
use Rattle.cvr_office.specs.Reach.{origins_after, IsHop, Leads, Came, ReachLaw}
use Rattle.cvr_office.specs.declared.event.Event.{Event}
use Rattle.cvr_office.specs.declared.event.Event.TheVariants.{Import, Exchange}
use Rattle.cvr_office.specs.declared.event.Outcome.{Outcome}
use Rattle.cvr_office.specs.declared.event.Outcome.TheVariants.{Accepted, Refused}
use Rattle.cvr_office.proofs.Unions.{tie_is, tie_itself}
use Rattle.cvr_office.proofs.Reached.{origin_total, origin_exact, at_eq, is_eq}

-- what had reached an office stays
module _ (x : Origin) where
  abbrev Has : Origins → Type 0
  Has s = contains s x ≡ true

  pub origins_after-stays : (e : Event) (r : Outcome) (before : ℕ → Origins) (o : ℕ)
      → contains (before o) x ≡ true → contains (origins_after e r before o) x ≡ true
  origins_after-stays (Import k g) (Accepted n) before o h =
      elim (o == k) as (λ b. Has (cond b (insert (before o) (File g)) (before o))) [
        | true ↦ contains-insert origin_total (before o) (File g) x
            ∙ or_right (eq_by_cmp origin_cmp x (File g)) _ h
        | false ↦ h
      ]
  origins_after-stays (Import k g) (Refused c) before o h = h
  origins_after-stays (Exchange p k) (Accepted n) before o h =
      elim (o == k) as (λ b. Has (cond b (union (before o) (before p)) (before o))) [
        | true ↦ contains-union origin_total (before o) (before p) x
            ∙ or_left _ (contains (before p) x) h
        | false ↦ h
      ]
  origins_after-stays (Exchange p k) (Refused c) before o h = h

-- ---- a way is one of a longer history too

longer : (e : Event × Outcome) (past : History) (f o : ℕ) → Came past f o → Came (e ∷ past) f o
longer e past f o c = record {
  later = e ∷ c.later;
  earlier = c.earlier;
  into = c.into;
  count = c.count;
  split = ap (λ xs. e ∷ xs) c.split;
  leads = inl c.leads;
}

hopped : (e : Event × Outcome) (past : History) (f m o : ℕ) → IsHop e m o → Came past f m
    → Came (e ∷ past) f o
hopped e past f m o hop c = record {
  later = e ∷ c.later;
  earlier = c.earlier;
  into = c.into;
  count = c.count;
  split = ap (λ xs. e ∷ xs) c.split;
  leads = inr (m, c.leads, hop);
}

pub not_start : (f o : ℕ) → contains (from_list {R = origin_cmp} (Start o ∷ [])) (File f) ≡ true → ⊥
not_start f o h =
    elim (or_cases (eq_by_cmp origin_cmp (File f) (Start o))
    (contains (empty {R = origin_cmp}) (File f))
    (sym (contains-insert origin_total empty (Start o) (File f)) ∙ h)) [
      | inl same ↦ let clash : File f ≡ Start o =
          tie_is origin_total origin_exact (File f) (Start o) same in Prim.cc clash
      | inr none ↦ false≢true (sym (contains-empty origin_cmp (File f)) ∙ none)
    ]

module _ (f : ℕ) where
  abbrev HasFile : Origins → Type 0
  HasFile s = contains s (File f) ≡ true

  -- a way brings the file
  pub brings : (later earlier : History) (p n o : ℕ) → Leads later p o
      → HasFile (origins_at (later ++ (Import p f, Accepted n) ∷ earlier) o)
  brings [] earlier p n o same =
      subst (λ b. HasFile (cond b (insert (origins_at earlier o) (File f)) (origins_at earlier o)))
      (sym (is_eq o p (sym same)))
      (contains-insert origin_total (origins_at earlier o) (File f) (File f)
      ∙ or_left _ _ (tie_itself origin_total origin_exact (File f)))
  brings (e ∷ l) earlier p n o leads =
      elim leads [
        | inl leads ↦ origins_after-stays (File f) e.0 e.1
            (origins_at (l ++ (Import p f, Accepted n) ∷ earlier)) o (brings l earlier p n o leads)
        | inr w ↦
            let before = origins_at (l ++ (Import p f, Accepted n) ∷ earlier) in
            subst (λ (x : Event × Outcome). HasFile (origins_after x.0 x.1 before o)) (sym w.2.1)
            (subst (λ b. HasFile (cond b (union (before o) (before w.0)) (before o)))
            (sym (is_eq o o refl))
            (contains-union origin_total (before o) (before w.0) (File f)
            ∙ or_right (contains (before o) (File f)) _ (brings l earlier p n w.0 w.1)))
      ]

  -- a file that is there came
  came : (past : History) (o : ℕ) → HasFile (origins_at past o) → Came past f o
  came [] o has = absurd (not_start f o has)
  came ((Import k g, Accepted n) ∷ past) o has =
      elim (o == k) as (λ b. (o == k) ≡ b
      → HasFile (cond b (insert (origins_at past o) (File g)) (origins_at past o))
      → Came ((Import k g, Accepted n) ∷ past) f o) [
        | true ↦ λ e has.
            elim (or_cases (eq_by_cmp origin_cmp (File f) (File g))
            (contains (origins_at past o) (File f))
            (sym (contains-insert origin_total (origins_at past o) (File g) (File f)) ∙ has)) [
              | inl same ↦
                  let alike : File f ≡ File g =
                  tie_is origin_total origin_exact (File f) (File g) same in
                  let g_is : g ≡ f = Prim.cc alike in
                  record {
                    later = [];
                    earlier = past;
                    into = k;
                    count = n;
                    split = ap (λ x. (Import k x, Accepted n) ∷ past) g_is;
                    leads = sym (at_eq o k e);
                  }
              | inr had ↦ longer (Import k g, Accepted n) past f o (came past o had)
            ]
        | false ↦ λ _ had. longer (Import k g, Accepted n) past f o (came past o had)
      ] refl has
  came ((Import k g, Refused c) ∷ past) o has =
      longer (Import k g, Refused c) past f o (came past o has)
  came ((Exchange p k, Accepted n) ∷ past) o has =
      elim (o == k) as (λ b. (o == k) ≡ b
      → HasFile (cond b (union (origins_at past o) (origins_at past p)) (origins_at past o))
      → Came ((Exchange p k, Accepted n) ∷ past) f o) [
        | true ↦ λ e has.
            elim (or_cases (contains (origins_at past o) (File f))
            (contains (origins_at past p) (File f))
            (sym (contains-union origin_total (origins_at past o) (origins_at past p) (File f))
            ∙ has)) [
              | inl had ↦ longer (Exchange p k, Accepted n) past f o (came past o had)
              | inr there ↦ hopped (Exchange p k, Accepted n) past f p o
                  (n, ap (λ x. (Exchange p x, Accepted n)) (sym (at_eq o k e))) (came past p there)
            ]
        | false ↦ λ _ had. longer (Exchange p k, Accepted n) past f o (came past o had)
      ] refl has
  came ((Exchange p k, Refused c) ∷ past) o has =
      longer (Exchange p k, Refused c) past f o (came past o has)

pub reach : ReachLaw
reach past f o = (
  came f past o,
  λ c. subst (λ x. contains (origins_at x o) (File f) ≡ true)
      (sym c.split) (brings f c.later c.earlier c.into c.count o c.leads),
)
