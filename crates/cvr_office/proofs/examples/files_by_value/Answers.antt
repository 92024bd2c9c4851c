use Rattle.std.proofs.Common.{◌≡◌, ℕ, true, [], ◌∷◌, inl, inr, get_or, refl, sym, ◌∙◌, subst}
use Rattle.std.specs.Ordering.{eq_by_cmp}
use Rattle.std.specs.FinSet.{contains, insert, from_list, contains-insert}
use Rattle.std.proofs.lemmas.Bool.{or_cases, or_left}
use Rattle.cdf_definition.specs.Acceptance.{value_in}
use Rattle.cvr_office.specs.Reach.{Start, File, origin_cmp}
use Rattle.cvr_office.specs.Examples.{SpelledTwice, OtherFiles}
use Rattle.cvr_office.proofs.Unions.{tie_is, tie_itself}
use Rattle.cvr_office.proofs.Reached.{origin_total, origin_exact}
use Rattle.cvr_office.proofs.Ways.{not_start}
use Rattle.cvr_office.proofs.examples.files_by_value.Goals as goal

-- an office that imported one file alone has that file alone
only_file : (o g f : ℕ) → contains (insert (from_list {R = origin_cmp} (Start o ∷ [])) (File g))
    (File f) ≡ true → f ≡ g
only_file o g f h =
    let start = from_list {R = origin_cmp} (Start o ∷ []) in
    elim (or_cases (eq_by_cmp origin_cmp (File f) (File g)) (contains start (File f))
    (sym (contains-insert origin_total start (File g) (File f)) ∙ h)) [
      | inl same ↦ let is : File f ≡ File g =
          tie_is origin_total origin_exact (File f) (File g) same in Prim.cc is
      | inr had ↦ absurd (not_start f o had)
    ]

-- and it has that one
own_file : (o g : ℕ) → contains (insert (from_list {R = origin_cmp} (Start o ∷ [])) (File g))
    (File g) ≡ true
own_file o g = contains-insert origin_total (from_list {R = origin_cmp} (Start o ∷ [])) (File g)
    (File g) ∙ or_left _ _ (tie_itself origin_total origin_exact (File g))

spelled_twice : SpelledTwice
spelled_twice one other same value =
    let files = one ∷ other ∷ [] in (
      λ has. (
        1,
        own_file 1 1,
        sym same
            ∙ subst (λ f. value_in (get_or files f []) ≡ value) (only_file 0 0 has.0 has.1) has.2,
      ),
      λ has. (
        0,
        own_file 0 0,
        same ∙ subst (λ f. value_in (get_or files f []) ≡ value)
            (only_file 1 1 has.0 has.1) has.2,
      ),
    )

other_files : OtherFiles
other_files one other differ same =
    let copy = (same (value_in one)).0 (0, own_file 0 0, refl) in
    differ (sym (subst (λ f. value_in (get_or (one ∷ other ∷ []) f []) ≡ value_in one)
    (only_file 1 1 copy.0 copy.1) copy.2))

pub returns : goal.returns
returns c = record { same = spelled_twice; other = other_files }
