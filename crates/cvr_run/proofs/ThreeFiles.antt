-- What the log of a run over three files may be, where memory was wanting.
use Rattle.std.proofs.Common.{◌≡◌, ℕ, ◌==◌, List, [], ◌∷◌, ◌++◌, length, get_or, Bool, true, false}
use Rattle.std.proofs.Common.{◌⊎◌, inl, inr, refl, sym, ap, ◌∙◌, append-nil, arith, true≢false}
use Rattle.std.specs.Prelude.{codes}
use Rattle.std.specs.List.{list_any}
use Rattle.cvr_run.specs.CutShort.{three_texts, three_dues, MayLog, NoneOrAll, AfterLacking}
use Rattle.cvr_run.specs.Log.{memory_line}
use Rattle.cvr_run.specs.Logged.{Logging, AsDue, Lacking, Unspelled, logged_lines, can_all, is_lacking}

-- whether an `m` stands in a text: of these lines it is in `memory` alone
abbrev has_m : List ℕ → Bool
has_m text = list_any (λ c. c == 109) text

abbrev is_logged : List Logging → List ℕ
is_logged ts = logged_lines ts three_texts three_dues

no_m : (ts : List Logging) → can_all ts three_dues ≡ true → length ts ≡ 3 → has_m (is_logged ts) ≡ false
no_m [] can all = absurd (omega (arith, all))
no_m (t ∷ []) can all = absurd (omega (arith, all))
no_m (t ∷ u ∷ []) can all = absurd (omega (arith, all))
no_m (t ∷ u ∷ v ∷ w ∷ ts) can all = absurd (omega (arith, all))
no_m (AsDue ∷ AsDue ∷ AsDue ∷ []) can all = refl
no_m (AsDue ∷ AsDue ∷ Lacking ∷ []) can all = refl
no_m (AsDue ∷ AsDue ∷ Unspelled ∷ []) can all = absurd (true≢false (sym can))
no_m (AsDue ∷ Lacking ∷ AsDue ∷ []) can all = refl
no_m (AsDue ∷ Lacking ∷ Lacking ∷ []) can all = refl
no_m (AsDue ∷ Lacking ∷ Unspelled ∷ []) can all = absurd (true≢false (sym can))
no_m (AsDue ∷ Unspelled ∷ v ∷ []) can all = absurd (true≢false (sym can))
no_m (Lacking ∷ AsDue ∷ AsDue ∷ []) can all = refl
no_m (Lacking ∷ AsDue ∷ Lacking ∷ []) can all = refl
no_m (Lacking ∷ AsDue ∷ Unspelled ∷ []) can all = absurd (true≢false (sym can))
no_m (Lacking ∷ Lacking ∷ AsDue ∷ []) can all = refl
no_m (Lacking ∷ Lacking ∷ Lacking ∷ []) can all = refl
no_m (Lacking ∷ Lacking ∷ Unspelled ∷ []) can all = absurd (true≢false (sym can))
no_m (Lacking ∷ Unspelled ∷ v ∷ []) can all = absurd (true≢false (sym can))
no_m (Unspelled ∷ u ∷ v ∷ []) can all = absurd (true≢false (sym can))

-- `memory` ends a run before the first file, or after the third
by_memory : (ts : List Logging) → can_all ts three_dues ≡ true → (length ts ≡ 0) ⊎ (length ts ≡ 3)
    → list_any is_lacking ts ≡ false
    → (is_logged ts ++ memory_line ≡ codes "memory\n")
    ⊎ (is_logged ts ++ memory_line ≡ codes "a: E2\nc: E1\nmemory\n")
by_memory [] can at whole = inl refl
by_memory (t ∷ ts) can (inl none) whole = absurd (omega (arith, none))
by_memory (t ∷ []) can (inr all) whole = absurd (omega (arith, all))
by_memory (t ∷ u ∷ []) can (inr all) whole = absurd (omega (arith, all))
by_memory (t ∷ u ∷ v ∷ w ∷ ts) can (inr all) whole = absurd (omega (arith, all))
by_memory (AsDue ∷ AsDue ∷ AsDue ∷ []) can (inr all) whole = inr refl
by_memory (AsDue ∷ AsDue ∷ Lacking ∷ []) can (inr all) whole = absurd (true≢false whole)
by_memory (AsDue ∷ AsDue ∷ Unspelled ∷ []) can (inr all) whole = absurd (true≢false (sym can))
by_memory (AsDue ∷ Lacking ∷ v ∷ []) can (inr all) whole = absurd (true≢false whole)
by_memory (AsDue ∷ Unspelled ∷ v ∷ []) can (inr all) whole = absurd (true≢false (sym can))
by_memory (Lacking ∷ u ∷ v ∷ []) can (inr all) whole = absurd (true≢false whole)
by_memory (Unspelled ∷ u ∷ v ∷ []) can (inr all) whole = absurd (true≢false (sym can))

-- where `memory` stands in the log, no file stands before it, or all
none_or_all_told : (text : List ℕ) → has_m text ≡ true → MayLog text
    → (text ≡ codes "memory\n") ⊎ (text ≡ codes "a: E2\nc: E1\nmemory\n")
none_or_all_told text m cut =
    elim cut.ends [
      | inl e ↦ absurd (true≢false (sym m ∙ (ap has_m e.2 ∙ no_m cut.loggings cut.possible e.0)))
      | inr other ↦ elim other [
        | inl e ↦ absurd (true≢false (sym m
            ∙ (ap has_m (e.3 ∙ append-nil (is_logged cut.loggings))
            ∙ no_m cut.loggings cut.possible e.0)))
        | inr e ↦ elim (by_memory cut.loggings cut.possible e.0 e.1) [
          | inl none ↦ inl (e.3 ∙ none)
          | inr all ↦ inr (e.3 ∙ all)
        ]
      ]
    ]

-- the byte at a place
abbrev is_at : ℕ → ℕ → List ℕ → Bool
is_at place byte text = get_or text place 0 == byte

not_told : (text : List ℕ) → has_m text ≡ true → is_at 3 69 text ≡ true → is_at 6 99 text ≡ false
    → ¬ MayLog text
not_told text m line next cut =
    elim (none_or_all_told text m cut) [
      | inl is ↦ true≢false (sym line ∙ ap (is_at 3 69) is)
      | inr is ↦ true≢false (sym (ap (is_at 6 99) is) ∙ next)
    ]

pub none_or_all : NoneOrAll
none_or_all = (
  record { loggings = []; possible = refl; ends = inr (inr (inl refl, refl, refl, refl)) },
  record {
    loggings = AsDue ∷ AsDue ∷ AsDue ∷ [];
    possible = refl;
    ends = inr (inr (inr refl, refl, refl, refl));
  },
  not_told (codes "a: E2\nmemory\n") refl refl refl,
)

pub after_lacking : AfterLacking
after_lacking = (
  record {
    loggings = AsDue ∷ Lacking ∷ AsDue ∷ [];
    possible = refl;
    ends = inl (refl, refl, refl);
  },
  not_told (codes "a: E2\nb: E6\nmemory\n") refl refl refl,
  not_told (codes "a: E2\nb: E6\nc: E1\nmemory\n") refl refl refl,
)
