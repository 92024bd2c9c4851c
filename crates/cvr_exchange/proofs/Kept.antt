-- Along a history each office keeps what it holds.
use Rattle.std.proofs.Common.{◌≡◌, ◌≢◌, ◌<◌, ◌==◌, ℕ, List, [], ◌∷◌, length, get_or, Bool, true}
use Rattle.std.proofs.Common.{false, cond, Option, Some, None, Ordering, Less, Equal, Greater, inl}
use Rattle.std.proofs.Common.{inr, ◌⊎◌, refl, sym, ap, ◌∙◌, subst, arith}
use Rattle.std.proofs.lemmas.Bool.{cases_lt}
use Rattle.std.specs.Cmp.{tied_itself, unsigned_Decides}
use Rattle.std.specs.Cmp.Lexicographic.{slice_cmp, lists_total}
use Rattle.std.specs.FinMap.{slice_cmp-IsAntisymmetric}
use Rattle.std.specs.FinSet.{union}
use Rattle.cdf_types.specs.declared.fault.ReadFault.{ReadFault}
use Rattle.cdf_definition.specs.Acceptance.{Valid, first_refusal}
use Rattle.cdf_definition.specs.Frame.{Frame, IsSame}
use Rattle.cdf_definition.specs.Named.{texts_of}
use Rattle.cdf_definition.proofs.Laws.{valid_file}
use Rattle.cvr_fact_types.specs.Facts.{Facts, text_cmp}
use Rattle.cvr_facts.specs.Reports.{facts}
use Rattle.cvr_facts.proofs.Laws.{text_total, text_exact}
use Rattle.cvr_office.specs.declared.event.Event.TheVariants.{Import, Exchange}
use Rattle.cvr_office.specs.declared.event.Outcome.TheVariants.{Accepted, Refused}
use Rattle.cvr_office.specs.CanHold.{CanHold}
use Rattle.cvr_office.specs.Outcomes.{no_frame, due_outcome, AreOutcomes, IsImportOutcome}
use Rattle.cvr_office.specs.Outcomes.{IsExchangeOutcome}
use Rattle.cvr_office.specs.Reach.{History, content}
use Rattle.cvr_office.proofs.Laws.{import_keeps, join_keeps, content-none}
use Rattle.cvr_office.proofs.Lemmas.{at_eq}
use Rattle.cvr_exchange.specs.Laws.{CouldBegin}
use Rattle.cvr_exchange.proofs.Histories.{after_import, after_exchange}

-- ---- whether definitions are the same can be decided

abbrev texts_cmp : List (List ℕ) → List (List ℕ) → Ordering
texts_cmp = slice_cmp text_cmp

differs : (xs ys : List (List ℕ)) → (texts_cmp xs ys ≡ Equal → ⊥) → xs ≡ ys → ⊥
differs xs ys never same =
    never (ap (texts_cmp xs) (sym same) ∙ tied_itself (lists_total text_total) xs)

same_texts : (xs ys : List (List ℕ)) → (xs ≡ ys) ⊎ (xs ≡ ys → ⊥)
same_texts xs ys =
    elim (texts_cmp xs ys) as (λ r. texts_cmp xs ys ≡ r → (xs ≡ ys) ⊎ (xs ≡ ys → ⊥)) [
      | Less ↦ λ e. inr (differs xs ys (λ q. let clash : Less ≡ Equal = sym e ∙ q in
          absurd (Prim.cc clash)))
      | Equal ↦ λ e. inl (slice_cmp-IsAntisymmetric text_exact xs ys e)
      | Greater ↦ λ e. inr (differs xs ys (λ q. let clash : Greater ≡ Equal = sym e ∙ q in
          absurd (Prim.cc clash)))
    ] refl

is_same : (f g : Frame) → IsSame f g ⊎ (IsSame f g → ⊥)
is_same f g =
    elim (same_texts (texts_of f.elections) (texts_of g.elections)) [
      | inr never ↦ inr (λ h. never h.elections)
      | inl elections ↦ elim (same_texts (texts_of f.units) (texts_of g.units)) [
        | inr never ↦ inr (λ h. never h.units)
        | inl units ↦ elim (same_texts (texts_of f.parties) (texts_of g.parties)) [
          | inr never ↦ inr (λ h. never h.parties)
          | inl parties ↦ inl (record { elections = elections; units = units; parties = parties })
        ]
      ]
    ]

-- ---- one event

none_due : (o : Option ReadFault) (n m : ℕ) → Accepted n ≡ due_outcome o m → o ≡ None
none_due None n m e = refl
none_due (Some fault) n m e = absurd (Prim.cc e)

module _ (frames : List Frame) (starts : List Facts) (files : List (List ℕ)) (past : History) where
  abbrev held : ℕ → Facts
  held = content starts files past

  abbrev frame_at : ℕ → Frame
  frame_at o = get_or frames o no_frame

  abbrev AllKeep : (ℕ → Facts) → Type 0
  AllKeep contents = (o : ℕ) → o < length frames → CanHold (frame_at o) (contents o)

  -- a file that was taken in is valid
  import_valid : (o f n : ℕ) → o < length frames
      → IsImportOutcome frames files held o f (Accepted n) → Valid (frame_at o) (get_or files f [])
  import_valid o f n lo out =
      elim (cases_lt f (length files)) [
        | inr none ↦ let clash = out.no_file lo (omega (arith, none)) in absurd (Prim.cc clash)
        | inl lf ↦ elim (out.there lo lf) [
          | inl e ↦ (valid_file (frame_at o) (get_or files f [])).0
              (none_due (first_refusal (frame_at o) (get_or files f [])) n _ e)
          | inr e ↦ absurd (Prim.cc e)
        ]
      ]

  import_kept : (o f n : ℕ) → IsImportOutcome frames files held o f (Accepted n) → AllKeep held
      → AllKeep (content starts files ((Import o f, Accepted n) ∷ past))
  import_kept o f n out kept k lt =
      subst (CanHold (frame_at k)) (sym (after_import starts files past o f n k)) (go (k == o) refl)
    where
      go : (b : Bool) → (k == o) ≡ b → CanHold (frame_at k)
          (cond b (union (held k) (facts (get_or files f []))) (held k))
      go true e =
          let same = at_eq k o e in
          import_keeps (frame_at k) (held k) (get_or files f [])
          (subst (λ z. Valid (frame_at z) (get_or files f [])) (sym same)
          (import_valid o f n (subst (λ z. z < length frames) same lt) out)) (kept k lt)
      go false e = kept k lt

  -- an exchange that was accepted is between offices of the same definition, or one office
  exchange_same : (p o n : ℕ) → p < length frames → o < length frames
      → IsExchangeOutcome frames held p o (Accepted n) → IsSame (frame_at o) (frame_at p)
  exchange_same p o n lp lo out =
      elim (p == o) as (λ b. (p == o) ≡ b → IsSame (frame_at o) (frame_at p)) [
        | true ↦ λ e. let is = at_eq p o e in
            subst (λ z. IsSame (frame_at o) (frame_at z)) (sym is)
            (record { elections = refl; units = refl; parties = refl })
        | false ↦ λ e.
            let apart : p ≢ o = λ is. let t = (unsigned_Decides p o).1 is in
            let clash : true ≡ false = sym t ∙ e in absurd (Prim.cc clash) in
            elim (is_same (frame_at o) (frame_at p)) [
              | inl same ↦ same
              | inr never ↦ let clash = out.other lp lo apart never in absurd (Prim.cc clash)
            ]
      ] refl

  exchange_kept : (p o n : ℕ) → IsExchangeOutcome frames held p o (Accepted n) → AllKeep held
      → AllKeep (content starts files ((Exchange p o, Accepted n) ∷ past))
  exchange_kept p o n out kept k lt =
      subst (CanHold (frame_at k)) (sym (after_exchange starts files past p o n k)) (go (k == o) refl)
    where
      go : (b : Bool) → (k == o) ≡ b → CanHold (frame_at k)
          (cond b (union (held k) (held p)) (held k))
      go true e =
          let same = at_eq k o e in
          let lo = subst (λ z. z < length frames) same lt in
          elim (cases_lt p (length frames)) [
            | inr none ↦ let clash = out.no_from (omega (arith, none)) in absurd (Prim.cc clash)
            | inl lp ↦
                join_keeps (frame_at k) (frame_at p) (held k) (held p)
                (subst (λ z. IsSame (frame_at z) (frame_at p)) (sym same)
                (exchange_same p o n lp lo out)) (kept k lt) (kept p lp)
          ]
      go false e = kept k lt

-- ---- all events

pub history_kept : (frames : List Frame) (starts : List Facts) (files : List (List ℕ))
    (past : History) → CouldBegin frames starts → AreOutcomes starts frames files past
    → (o : ℕ) → o < length frames → CanHold (get_or frames o no_frame) (content starts files past o)
history_kept frames starts files [] began outs o lt =
    subst (CanHold (get_or frames o no_frame)) (sym (content-none starts files o)) (began o lt)
history_kept frames starts files ((Import k f, Accepted n) ∷ past) began outs o lt =
    import_kept frames starts files past k f n outs.0
    (history_kept frames starts files past began outs.1) o lt
history_kept frames starts files ((Import k f, Refused c) ∷ past) began outs o lt =
    history_kept frames starts files past began outs.1 o lt
history_kept frames starts files ((Exchange p k, Accepted n) ∷ past) began outs o lt =
    exchange_kept frames starts files past p k n outs.0
    (history_kept frames starts files past began outs.1) o lt
history_kept frames starts files ((Exchange p k, Refused c) ∷ past) began outs o lt =
    history_kept frames starts files past began outs.1 o lt
