-- What offices hold after imports in place of exchanges.
use Rattle.std.proofs.Common.{◌≡◌, ◌==◌, ℕ, List, [], ◌∷◌, ◌++◌, get_or, Contains, Bool, true}
use Rattle.std.proofs.Common.{false, cond, ◌||◌, inl, inr, refl, sym, ap, ◌∙◌, subst, arith}
use Rattle.std.specs.List.{list_any}
use Rattle.std.specs.Cmp.{both_ways}
use Rattle.std.specs.FinSet.{contains, union, empty, insert, items, same_set, contains-union}
use Rattle.cdf_definition.specs.Acceptance.{first_refusal}
use Rattle.cdf_definition.specs.Frame.{Frame}
use Rattle.cdf_definition.proofs.Laws.{valid_file}
use Rattle.cvr_fact_types.specs.Facts.{Facts, fact_total, fact_exact}
use Rattle.cvr_facts.specs.Reports.{facts}
use Rattle.cvr_facts.specs.Unions.{union_laws}
use Rattle.cvr_facts.proofs.Lemmas.{at_head, at_tail, one_that_passes, passes_by}
use Rattle.cvr_office.specs.declared.event.Event.{Event}
use Rattle.cvr_office.specs.declared.event.Event.TheVariants.{Import, Exchange}
use Rattle.cvr_office.specs.declared.event.Outcome.{Outcome}
use Rattle.cvr_office.specs.declared.event.Outcome.TheVariants.{Accepted}
use Rattle.cvr_office.specs.CanHold.{CanHold}
use Rattle.cvr_office.specs.Outcomes.{no_frame, due_outcome}
use Rattle.cvr_office.specs.Readers.{growth}
use Rattle.cvr_office.specs.Reach.{History, File, Origins, origins_at, origin_facts, union_over}
use Rattle.cvr_office.specs.Reach.{content}
use Rattle.cvr_office.proofs.Lemmas.{origin_total, origin_exact, contains-union_over, over_union}
use Rattle.cvr_office.proofs.Lemmas.{over_insert}
use Rattle.cvr_report.specs.Head.{Head}
use Rattle.cvr_report.specs.Volume.{volume}
use Rattle.cvr_exchange.specs.Laws.{ImportsLaw, AcceptedLaw}
use Rattle.cvr_exchange.specs.Passing.{CanHead, IsImportOf, AreImportsOfAll}
use Rattle.cvr_exchange.proofs.AllVolumes.{none_added, in_some}
use Rattle.cvr_exchange.proofs.Valid.{valid_for_same}

-- ---- one event

module _ (starts : List Facts) (files : List (List ℕ)) (past : History) where
  abbrev held : ℕ → Facts
  held = content starts files past

  insert_at : (b : Bool) (before : Origins) (f : ℕ)
      → union_over (origin_facts starts files) (items (cond b (insert before (File f)) before))
      ≡ cond b (union (union_over (origin_facts starts files) (items before))
      (facts (get_or files f []))) (union_over (origin_facts starts files) (items before))
  insert_at true before f =
      over_insert origin_total origin_exact (origin_facts starts files) before (File f)
  insert_at false before f = refl

  union_at : (b : Bool) (one other : Origins)
      → union_over (origin_facts starts files) (items (cond b (union one other) one))
      ≡ cond b (union (union_over (origin_facts starts files) (items one))
      (union_over (origin_facts starts files) (items other)))
      (union_over (origin_facts starts files) (items one))
  union_at true one other =
      over_union origin_total origin_exact (origin_facts starts files) one other
  union_at false one other = refl

  pub after_import : (o f n k : ℕ) → content starts files ((Import o f, Accepted n) ∷ past) k
      ≡ cond (k == o) (union (held k) (facts (get_or files f []))) (held k)
  after_import o f n k = insert_at (k == o) (origins_at past k) f

  pub after_exchange : (p o n k : ℕ) → content starts files ((Exchange p o, Accepted n) ∷ past) k
      ≡ cond (k == o) (union (held k) (held p)) (held k)
  after_exchange p o n k = union_at (k == o) (origins_at past k) (origins_at past p)

-- ---- imports one after the other

-- the facts of an event's file
abbrev pub brings : List (List ℕ) → Event × Outcome → Facts
brings files (Import o f, r) = facts (get_or files f [])
brings files (Exchange p o, r) = empty

-- it is an accepted import into o
abbrev pub IsTakenBy : ℕ → Event × Outcome → Type 0
IsTakenBy o e = (f : ℕ) × (n : ℕ) × (e ≡ (Import o f, Accepted n))

or_turn : (a b c : Bool) → ((a || c) || b) ≡ (a || (b || c))
or_turn a b c = grind arith

union_turn : (s t u : Facts) → union (union s u) t ≡ union s (union t u)
union_turn s t u = same_set fact_total fact_exact _ _ (λ q.
    contains-union fact_total (union s u) t q
    ∙ (ap (λ b. b || contains t q) (contains-union fact_total s u q)
    ∙ (or_turn (contains s q) (contains t q) (contains u q)
    ∙ (ap (λ b. contains s q || b) (sym (contains-union fact_total t u q))
    ∙ sym (contains-union fact_total s (union t u) q)))))

union_none : (s : Facts) → union s empty ≡ s
union_none s = (union_laws fact_total fact_exact).commutes s empty
    ∙ (union_laws fact_total fact_exact).unit_left s

none_more : (b : Bool) (s : Facts) → s ≡ cond b (union s empty) s
none_more true s = sym (union_none s)
none_more false s = refl

one_more : (b : Bool) (s t u : Facts) → cond b (union (cond b (union s u) s) t)
    (cond b (union s u) s) ≡ cond b (union s (union t u)) s
one_more true s t u = union_turn s t u
one_more false s t u = refl

module _ (starts : List Facts) (files : List (List ℕ)) (past : History) (o k : ℕ) where
  taken_step : (e : Event × Outcome) (es : History) → IsTakenBy o e
      → content starts files (es ++ past) k
      ≡ cond (k == o) (union (content starts files past k) (union_over (brings files) es))
      (content starts files past k)
      → content starts files ((e ∷ es) ++ past) k
      ≡ cond (k == o) (union (content starts files past k) (union_over (brings files) (e ∷ es)))
      (content starts files past k)
  taken_step e es t h =
      subst (λ x. content starts files ((x ∷ es) ++ past) k
      ≡ cond (k == o) (union (content starts files past k) (union_over (brings files) (x ∷ es)))
      (content starts files past k)) (sym t.2)
      (after_import starts files (es ++ past) o t.0 t.1 k
      ∙ (ap (λ s. cond (k == o) (union s (facts (get_or files t.0 []))) s) h
      ∙ one_more (k == o) (content starts files past k) (facts (get_or files t.0 []))
      (union_over (brings files) es)))

  pub after_imports : (es : History) → ((e : Event × Outcome) → Contains es e → IsTakenBy o e)
      → content starts files (es ++ past) k
      ≡ cond (k == o) (union (content starts files past k) (union_over (brings files) es))
      (content starts files past k)
  after_imports [] all = none_more (k == o) (content starts files past k)
  after_imports (e ∷ es) all =
      taken_step e es (all e (at_head e es)) (after_imports es (λ x a. all x (at_tail e x es a)))

-- ---- imports of all volumes

module _ (frame : Frame) (head : Head) (s : Facts) (files : List (List ℕ)) (o : ℕ)
    (imports : History) (can_hold : CanHold frame s) (can : CanHead frame head)
    (every : AreImportsOfAll frame head s files o imports) where
  brought_by : (e : Event × Outcome) (text : List ℕ) → IsImportOf files text o e
      → brings files e ≡ facts text
  brought_by e text h = ap (brings files) h.event ∙ ap facts h.text_is

  pub all_brought : union_over (brings files) imports ≡ s
  all_brought = same_set fact_total fact_exact (union_over (brings files) imports) s (λ f.
      contains-union_over (brings files) imports f
      ∙ both_ways (list_any (λ e. contains (brings files e) f) imports) (contains s f)
      (λ h.
      let e = one_that_passes (λ e. contains (brings files e) f) imports h in
      let v = every.only e.0 e.1 in
      none_added frame head s v.0 f can_hold can v.1
      (subst (λ t. contains t f ≡ true) (brought_by e.0 (volume frame head s v.0) v.3) e.2))
      (λ h.
      let i = in_some frame head s can_hold can f h in
      let e = every.all i.0 i.1 i.2 in
      passes_by (λ e. contains (brings files e) f) imports e.0 e.1
      (subst (λ t. contains t f ≡ true) (sym (brought_by e.0 (volume frame head s i.0) e.2))
      i.3)))

  pub taken : (e : Event × Outcome) → Contains imports e → IsTakenBy o e
  taken e a = let v = every.only e a in (v.3.file, v.3.count, v.3.event)

pub imports_exchange : ImportsLaw
imports_exchange frame head starts files imports past p o n can_hold can every k =
    after_imports starts files past o k imports
    (taken frame head (content starts files past p) files o imports can_hold can every)
    ∙ (ap (λ t. cond (k == o) (union (content starts files past k) t) (content starts files past k))
    (all_brought frame head (content starts files past p) files o imports can_hold can every)
    ∙ sym (after_exchange starts files past p o n k))

-- ---- an import that is accepted

pub accepted : AcceptedLaw
accepted frame head s i frames files held o f r can_hold can pos short lo sound same lf is outcome =
    let valid =
    valid_for_same frame (get_or frames o no_frame) head s i can_hold can pos short sound same in
    let none = (valid_file (get_or frames o no_frame) (volume frame head s i)).1 valid in
    elim (outcome.there lo lf) [
      | inl e ↦ inl (e ∙ (ap (λ t. due_outcome (first_refusal (get_or frames o no_frame) t)
          (growth (held o) (facts t))) is
          ∙ ap (λ c. due_outcome c (growth (held o) (facts (volume frame head s i)))) none))
      | inr e ↦ inr e
    ]
