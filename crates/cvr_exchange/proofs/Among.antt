-- What an office holds after imports of volumes among other events.
use Rattle.std.proofs.Common.{◌≡◌, ℕ, List, [], ◌∷◌, ◌++◌, get_or, Contains, true, inl, inr, sym}
use Rattle.std.proofs.Common.{◌∙◌, subst}
use Rattle.std.specs.FinSet.{contains, union, contains-union}
use Rattle.cvr_fact_types.specs.Facts.{Fact, Facts, fact_total}
use Rattle.cvr_facts.specs.Reports.{facts}
use Rattle.cvr_facts.proofs.Lemmas.{head_or_tail, none_listed, one_that_passes}
use Rattle.cvr_office.specs.declared.event.Event.{Event}
use Rattle.cvr_office.specs.declared.event.Event.TheVariants.{Import}
use Rattle.cvr_office.specs.declared.event.Outcome.{Outcome}
use Rattle.cvr_office.specs.declared.event.Outcome.TheVariants.{Accepted}
use Rattle.cvr_office.specs.Reach.{History, content}
use Rattle.cvr_office.proofs.Laws.{held_lasts, import_lasts}
use Rattle.cvr_office.proofs.Lemmas.{or_cases, contains-union_over}
use Rattle.cvr_report.specs.Volume.{volume}
use Rattle.cvr_exchange.specs.Laws.{AmongLaw, AllAmongLaw}
use Rattle.cvr_exchange.specs.Passing.{facts_of_volumes}
use Rattle.cvr_exchange.proofs.AllVolumes.{any_order}

-- the facts of a file that one of these events imported
still_held : (starts : List Facts) (files : List (List ℕ)) (past : History) (o f n : ℕ) (q : Fact)
    (later : History) (e : Event × Outcome)
    → Contains later e → e ≡ (Import o f, Accepted n)
    → contains (facts (get_or files f [])) q ≡ true
    → contains (content starts files (later ++ past) o) q ≡ true
still_held starts files past o f n q [] e at is h = absurd (none_listed e at)
still_held starts files past o f n q (x ∷ later) e at is h =
    elim (head_or_tail x e later at) [
      | inl same ↦
          subst (λ y. contains (content starts files ((y ∷ later) ++ past) o) q ≡ true)
          (sym (same ∙ is)) (import_lasts starts files [] (later ++ past) o f n q h)
      | inr rest ↦ held_lasts starts files (x ∷ []) (later ++ past) o q
          (still_held starts files past o f n q later e rest is h)
    ]

pub among : AmongLaw
among frame head s starts files later past o numbers q imported h =
    let has = λ (i : ℕ). contains (facts (volume frame head s i)) q in
    let brought = facts_of_volumes frame head s numbers in
    elim (or_cases (contains (content starts files past o) q) (contains brought q)
    (sym (contains-union fact_total (content starts files past o) brought q) ∙ h)) [
      | inl had ↦ held_lasts starts files later past o q had
      | inr some ↦
          let i = one_that_passes has numbers
          (sym (contains-union_over (λ i. facts (volume frame head s i)) numbers q) ∙ some) in
          let e = imported i.0 i.1 in
          still_held starts files past o e.2.file e.2.count q later e.0 e.1 e.2.event
          (subst (λ t. contains (facts t) q ≡ true) (sym e.2.text_is) i.2)
    ]

pub all_among : AllAmongLaw
all_among frame head s starts files later past o numbers q can_hold can all imported h =
    among frame head s starts files later past o numbers q imported
    (subst (λ t. contains (union (content starts files past o) t) q ≡ true)
    (sym (any_order frame head s numbers can_hold can all)) h)
