use Rattle.std.proofs.Common.{◌≡◌, true, false, Option, is_some, refl, sym, ap, ◌∙◌, option_map}
use Rattle.std.proofs.Common.{None, Some}
use Rattle.std.specs.Prelude.{not}
use Rattle.cvr_cached.proofs.Pairs.{sums_none_header, sums_none_current, sums_are}
use Rattle.cvr_cached.proofs.remembered.votes_at.Goals as goal

none_is : {T U : Type 0} (f : T → U) (o : Option T) → is_some o ≡ false → option_map f o ≡ None
none_is f None e = refl
none_is f (Some x) e = Prim.cc e

some_is : {T U : Type 0} (f : T → U) (o : Option T) → is_some o ≡ true
    → is_some (option_map f o) ≡ true
some_is f None e = Prim.cc e
some_is f (Some x) e = refl

pub returns-then-is_none : goal.returns-then-is_none
returns-then-is_none c = sym (sums_none_header c.args.facts.now
    (sym c.requires.head ∙ (sym c.header_fact_at.ensures
    ∙ none_is (λ h. h.now) c.header_fact_at.result (c.is_none.ensures ∙ ap not c.if-is_none.true))))

pub returns-in_default : goal.returns-in_default
returns-in_default c = sym (sums_none_current c.args.facts.now _ refl
    (sym c.requires.current ∙ (sym c.snapshot_at.ensures
    ∙ ap (option_map (λ s. s.now)) c.in_default.is)))

pub returns : goal.returns
returns c =
    c.as_slice.ensures
    ∙ sym (sums_are c.args.facts.now (option_map (λ h. h.now) c.header_fact_at.result)
    c.in-Some.snapshot.now (some_is (λ h. h.now) c.header_fact_at.result
    (c.is_none.ensures ∙ ap not c.if-is_none.false))
    (sym c.requires.head ∙ sym c.header_fact_at.ensures)
    (sym c.requires.current ∙ (sym c.snapshot_at.ensures
    ∙ ap (option_map (λ s. s.now)) c.in-Some.is)))
