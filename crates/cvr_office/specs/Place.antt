-- The order of facts in a plain office's list. (This project's own.)
use Rattle.std.specs.Prelude.{◌≡◌, ℕ, List, [], ◌∷◌}
use Rattle.std.proofs.Common.{refl, sym, ap, ◌∙◌}
use Rattle.std.specs.declared.cmp.Ordering.{Ordering}
use Rattle.std.specs.Ordering.{on}
use Rattle.std.specs.Cmp.{IsTotalOrder}
use Rattle.std.specs.Cmp.Lexicographic.{slice_cmp, lists_total, nat_list_cmp_total}
use Rattle.std.proofs.lemmas.Cmp.{on_total}
use Rattle.std.specs.FinMap.{IsAntisymmetric, nat_cmp-IsAntisymmetric, slice_cmp-IsAntisymmetric}
use Rattle.cvr_fact_types.specs.Facts.{Fact, Device, Header, Snapshot, text_cmp}
use Rattle.cvr_facts.specs.Lists.{fact_of_device, fact_of_header, fact_of_snapshot}
use Rattle.cvr_office.specs.declared.any_fact.AnyFact.{AnyFact}
use Rattle.cvr_office.specs.declared.any_fact.AnyFact.TheVariants as any

-- a fact of any kind, as contracts see it
abbrev pub fact_of : AnyFact → Fact
fact_of (any.Device d) = fact_of_device d
fact_of (any.Header h) = fact_of_header h
fact_of (any.Snapshot s) = fact_of_snapshot s

-- a fact as texts: devices before records, a header before its record's snapshots, then id and body
abbrev pub place_texts : Fact → List (List ℕ)
place_texts (Device id body) = (0 ∷ []) ∷ id ∷ body ∷ []
place_texts (Header device unique body) = (1 ∷ []) ∷ device ∷ unique ∷ (0 ∷ []) ∷ body ∷ []
place_texts (Snapshot device unique id body) = (1 ∷ []) ∷ device ∷ unique ∷ (1 ∷ []) ∷ id ∷ body
    ∷ []

abbrev pub place_cmp : Fact → Fact → Ordering
place_cmp = on place_texts (slice_cmp text_cmp)

-- facts of any kind in order of name, then of body: devices first, a header before the snapshots of
-- its record
abbrev pub any_cmp : AnyFact → AnyFact → Ordering
any_cmp = on fact_of place_cmp

-- ---- it is total, and only equal facts tie

pub place_total : IsTotalOrder place_cmp
place_total = on_total place_texts (lists_total nat_list_cmp_total)

pub any_total : IsTotalOrder any_cmp
any_total = on_total fact_of place_total

-- the fact that has these texts
abbrev placed : List (List ℕ) → Fact
placed (k ∷ i ∷ b ∷ []) = Device i b
placed (k ∷ d ∷ u ∷ j ∷ b ∷ []) = Header d u b
placed (k ∷ d ∷ u ∷ j ∷ i ∷ b ∷ _) = Snapshot d u i b
placed _ = Device [] []

placed-place_texts : (f : Fact) → placed (place_texts f) ≡ f
placed-place_texts (Device i b) = refl
placed-place_texts (Header d u b) = refl
placed-place_texts (Snapshot d u i b) = refl

pub place_exact : IsAntisymmetric place_cmp
place_exact f g e =
    sym (placed-place_texts f)
    ∙ (ap placed (slice_cmp-IsAntisymmetric (slice_cmp-IsAntisymmetric nat_cmp-IsAntisymmetric)
    (place_texts f) (place_texts g) e) ∙ placed-place_texts g)
