-- One `item` more: a number that isn't whole (`path`) goes before a fault of form (`found`), and
-- only after both are names and what is kept under the definition's `contests` looked at.
use Rattle.std.proofs.Common.{option_map, refl, sym, ap, ◌∙◌, arith}
use Rattle.cdf_node.specs.View.{view}
use Rattle.cdf_form.specs.Found.{fault_of}
use Rattle.cdf_definition.proofs.Lemmas.{unmapped}
use Rattle.cdf_check.proofs.OneMore.{kept_before, kept_more, never_more, no_fault, no_fraction}
use Rattle.cdf_check.proofs.OneMore.{seen_more, whole_first}
use Rattle.cdf_check.proofs.seen.LooksFold.take.Goals as goal

pub returns-in-Fraction : goal.returns-in-Fraction
returns-in-Fraction g c ds at h =
    seen_more (view c.args.item) at c.requires.few h (rw c.in-Fraction.is refl)
    (λ none. let e = rw c.in-Fraction.is at none in absurd (cc)) (rw c.in-Fraction.is tt)

pub returns-in-Some : goal.returns-in-Some
returns-in-Some g c ds at h =
    seen_more (view c.args.item) at c.requires.few h
    (rw (no_fraction c.args.seen.now c.in_default.not-Fraction)
    (sym c.in-Some.is ∙ c.in_ok-path.ensures)) (λ none. absurd (cc)) tt

pub returns-in-Form : goal.returns-in-Form
returns-in-Form g c ds at h =
    seen_more (view c.args.item) at c.requires.few h
    (rw c.in-Form.is (sym c.in_default-2.is ∙ c.in_ok-path.ensures))
    (λ _. rw c.in-Form.is refl) (rw c.in-Form.is tt)

pub returns-in-Some-2 : goal.returns-in-Some-2
returns-in-Some-2 g c ds at h =
    seen_more (view c.args.item) at c.requires.few h
    (rw (no_fraction c.args.seen.now c.in_default.not-Fraction)
    (sym c.in_default-2.is ∙ c.in_ok-path.ensures))
    (λ _. rw (no_fault c.args.seen.now c.in_default-seen.not-Form)
    (ap (option_map fault_of) (sym c.in-Some-2.is) ∙ c.in_ok-found.ensures)) tt

pub keep-requires-clause-whole : goal.keep-requires-clause-whole
keep-requires-clause-whole g c =
    whole_first (view c.args.item) (unmapped _ _ (sym c.in_ok-path.ensures ∙ c.in_default-2.is))

pub keep-requires-clause-form : goal.keep-requires-clause-form
keep-requires-clause-form g c =
    unmapped _ _ (sym c.in_ok-found.ensures ∙ ap (option_map fault_of) c.in_default-3.is)

pub keep-requires-clause-range : goal.keep-requires-clause-range
keep-requires-clause-range g c =
    let own = c.in_ok-names_own.ensures.0 (grind arith) in
    rw c.contests-contests.ensures (c.places_of_a_record.ensures
    c.args.self.now.definition.now.contests (view c.args.item)
    (keep-requires-clause-form g c) own.snapshots)

pub returns-in_ok-keep : goal.returns-in_ok-keep
returns-in_ok-keep g c ds at h =
    let before = rw c.in-Right.is at h in
    seen_more (view c.args.item) at c.requires.few before
    (sym c.in_default-2.is ∙ c.in_ok-path.ensures)
    (λ _. ap (option_map fault_of) (sym c.in_default-3.is) ∙ c.in_ok-found.ensures)
    (kept_more (view c.args.item) at before.kept (c.in_ok-names_own.ensures.0 (grind arith))
    (c.in_ok-add.ensures ds) (rw c.contests-contests.ensures at c.in_ok-keep.ensures))

pub returns-else-branch : goal.returns-else-branch
returns-else-branch g c ds at h =
    let before = rw c.in-Right.is at h in
    seen_more (view c.args.item) at c.requires.few before
    (sym c.in_default-2.is ∙ c.in_ok-path.ensures)
    (λ _. ap (option_map fault_of) (sym c.in_default-3.is) ∙ c.in_ok-found.ensures)
    (never_more c.args.self.now.definition.now ds (view c.args.item)
    (λ _ own. grind (arith, c.in_ok-names_own.ensures.1 own)))

pub returns-in_default-seen-2 : goal.returns-in_default-seen-2
returns-in_default-seen-2 g c ds at h =
    seen_more (view c.args.item) at c.requires.few h
    (rw (no_fraction c.args.seen.now c.in_default.not-Fraction)
    (sym c.in_default-2.is ∙ c.in_ok-path.ensures))
    (λ _. rw (no_fault c.args.seen.now c.in_default-seen.not-Form)
    (ap (option_map fault_of) (sym c.in_default-3.is) ∙ c.in_ok-found.ensures))
    (kept_before _ c.args.self.now.definition.now ds (view c.args.item) c.args.seen.now
    c.in_default-seen-2.not-Right h.kept)
