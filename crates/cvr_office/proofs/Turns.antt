-- One turn of a play: the history and the outcomes after one more event.
use Rattle.std.proofs.Common.{◌≡◌, ℕ, ◌+◌, ◌<◌, ◌⊎◌, List, [], ◌∷◌, ◌++◌, length, get_or, take}
use Rattle.std.proofs.Common.{reverse, length-take, refl, sym, ap, ◌∙◌, subst, arith}
use Rattle.std.proofs.lemmas.List.{take_more, reverse-append}
use Rattle.std.specs.List.{zip}
use Rattle.std.specs.FinSet.{empty}
use Rattle.cdf_types.specs.declared.fault.ReadFault.TheVariants as read
use Rattle.cdf_definition.specs.Frame.{Frame}
use Rattle.cdf_definition.specs.Acceptance.{first_refusal}
use Rattle.cvr_fact_types.specs.Facts.{Facts}
use Rattle.cvr_facts.specs.Reports.{facts}
use Rattle.cvr_office.specs.Readers.{growth}
use Rattle.cvr_office.specs.Reach.{history, content}
use Rattle.cvr_office.specs.Outcomes.{no_frame, due_outcome, contents_after, IsOutcome, AreOutcomes}
use Rattle.cvr_office.specs.declared.fault.JoinFault.TheVariants as join
use Rattle.cvr_office.specs.declared.event.Event.{Event}
use Rattle.cvr_office.specs.declared.event.Event.TheVariants.{Import, Exchange}
use Rattle.cvr_office.specs.declared.event.Cause.TheVariants.{Read, Join}
use Rattle.cvr_office.specs.declared.event.Outcome.{Outcome}
use Rattle.cvr_office.specs.declared.event.Outcome.TheVariants.{Accepted, Refused}
use Rattle.cvr_office.proofs.Reached.{content-more}

-- an outcome depends on what the offices that are there hold
outcome_of_alike : (frames : List Frame) (files : List (List ℕ)) (held others : ℕ → Facts)
    (e : Event) (r : Outcome)
    → ((o : ℕ) → o < length frames → held o ≡ others o) → IsOutcome frames files held e r
    → IsOutcome frames files others e r
outcome_of_alike frames files held others (Import o f) r same out =
    record {
      no_office = out.no_office;
      no_file = out.no_file;
      there = λ ho hf. subst (λ (s : Facts).
          (r ≡ due_outcome (first_refusal (get_or frames o no_frame) (get_or files f []))
          (growth s (facts (get_or files f [])))) ⊎ (r ≡ Refused (Read read.Memory))) (same o ho)
          (out.there ho hf);
    }
outcome_of_alike frames files held others (Exchange p o) r same out =
    record {
      no_from = out.no_from;
      no_to = out.no_to;
      itself = out.itself;
      other = out.other;
      same = λ hp ho apart alike. subst
          (λ (s : Facts). (r ≡ Accepted (growth (others o) s)) ⊎ (r ≡ Refused (Join join.Memory)))
          (same p hp)
          (subst (λ (s : Facts). (r ≡ Accepted (growth s (held p)))
          ⊎ (r ≡ Refused (Join join.Memory))) (same o ho) (out.same hp ho apart alike));
    }

zip-push : {X Y : Type 0} (xs : List X) (ys : List Y) (x : X) (y : Y) → length xs ≡ length ys
    → zip (xs ++ x ∷ []) (ys ++ y ∷ []) ≡ zip xs ys ++ (x, y) ∷ []
zip-push [] [] x y h = refl
zip-push [] (b ∷ ys) x y h = absurd (omega arith)
zip-push (a ∷ xs) [] x y h = absurd (omega arith)
zip-push (a ∷ xs) (b ∷ ys) x y h = ap (λ ps. (a, b) ∷ ps) (zip-push xs ys x y (omega arith))

history-push : (es : List Event) (rs : List Outcome) (i : ℕ) (d e : Event) (r : Outcome)
    → length rs ≡ i → i < length es → e ≡ get_or es i d
    → history (take (i + 1) es) (rs ++ r ∷ []) ≡ (e, r) ∷ history (take i es) rs
history-push es rs i d e r count lt is =
    ap (λ xs. history xs (rs ++ r ∷ [])) (take_more es i d lt)
    ∙ (ap (λ x. history (take i es ++ x ∷ []) (rs ++ r ∷ [])) (sym is)
    ∙ (ap reverse (zip-push (take i es) rs e r (omega (arith, length-take i es)))
    ∙ reverse-append (zip (take i es) rs) ((e, r) ∷ [])))

-- the turn i, of the event e with the outcome r, where offices that began with `starts` hold `held`
module _ (starts : List Facts) (frames : List Frame) (files : List (List ℕ)) (es : List Event)
    (rs : List Outcome) (i : ℕ) (d e : Event) (r : Outcome) (held : List Facts)
    (count : length rs ≡ i) (lt : i < length es) (is : e ≡ get_or es i d)
    (many : length frames ≡ length starts)
    (here : (o : ℕ) → o < length starts
    → get_or held o empty ≡ content starts files (history (take i es) rs) o)
    (out : IsOutcome frames files (λ o. get_or held o empty) e r) where
  out_of_content : IsOutcome frames files (content starts files (history (take i es) rs)) e r
  out_of_content = outcome_of_alike frames files (λ o. get_or held o empty)
      (content starts files (history (take i es) rs)) e r (λ o lo. here o (omega arith)) out

  pub content_turn : (after : List Facts) → length held ≡ length starts
      → after ≡ contents_after files e r held
      → (o : ℕ) → o < length starts → get_or after o empty
      ≡ content starts files (history (take (i + 1) es) (rs ++ r ∷ [])) o
  content_turn after now ends o lo =
      ap (λ xs. get_or xs o empty) ends
      ∙ (content-more starts files (history (take i es) rs) held frames e r (omega arith)
      (λ k lk. here k (omega arith)) out_of_content o (omega arith)
      ∙ ap (λ past. content starts files past o) (sym (history-push es rs i d e r count lt is)))

  pub outcomes_turn : AreOutcomes starts frames files (history (take i es) rs)
      → AreOutcomes starts frames files (history (take (i + 1) es) (rs ++ r ∷ []))
  outcomes_turn so_far =
      subst (λ past. AreOutcomes starts frames files past)
      (sym (history-push es rs i d e r count lt is)) (out_of_content, so_far)
