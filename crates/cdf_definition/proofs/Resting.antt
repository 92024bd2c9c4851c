-- A value with the lists of a report is a report where its rest is that of one.
use Rattle.std.proofs.Common.{◌≡◌, inl, inr, ℕ, List, [], ◌∷◌, map, Bool, true, false}
use Rattle.std.proofs.Common.{◌||◌, Some, IsSome, Contains, bytes_eq, codes, refl, sym, ap}
use Rattle.std.proofs.Common.{◌∙◌, subst, arith, length}
use Rattle.std.specs.Prelude.{option_and_then, option_map, unwrap_or}
use Rattle.std.proofs.lemmas.Slice.Eq.{bytes_eq-Decides}
use Rattle.serde_json.specs.Data.{Data}
use Rattle.serde_json.specs.Find.{get, as_array}
use Rattle.cdf_node.specs.Items.{list_of}
use Rattle.cdf_form.specs.declared.table.Class.{Class}
use Rattle.cdf_form.specs.declared.table.Class.TheVariants as its
use Rattle.cdf_form.specs.declared.table.Group.TheVariants as group
use Rattle.cdf_form.specs.declared.table.Leaf.TheVariants as leaf
use Rattle.cdf_form.specs.declared.table.Kind.TheVariants.{One}
use Rattle.cdf_form.specs.Tables.{Entry, table}
use Rattle.cdf_form.specs.Form.{class_in}
use Rattle.cdf_form.specs.HasForm.{IsEntry, HasForm, class}
use Rattle.cdf_form.specs.ByEntry.{HasEntry}
use Rattle.cdf_form.proofs.Laws.{has_class, only_class}
use Rattle.cdf_parts.specs.Parts.{array_at, id_of}
use Rattle.cdf_definition.specs.References.{Scope, scope_of}
use Rattle.cdf_definition.specs.Resolves.{Names, AllName, Each, CvrResolves, SelectionResolves}
use Rattle.cdf_definition.specs.Resolves.{ElectionResolves, Resolves}
use Rattle.cdf_definition.specs.Lists.{is_list, SameLists, HasEntries, HasRest}
use Rattle.cdf_definition.specs.Lists.{RestOfReportLaw, RestLaw}

-- ---- entries

-- what an entry says of a value
abbrev pub Holds : Data → Entry → Type 0
Holds d r = HasEntry r.required r.name r.kind d

same_at : (c d : Data) → SameLists c d → (n : List ℕ) → is_list n ≡ true → get n c ≡ get n d
same_at c d s n is = go (bytes_eq n (codes "Election")) (bytes_eq n (codes "GpUnit")) refl refl is
  where
    at : (k : List ℕ) → bytes_eq n k ≡ true → get k c ≡ get k d → get n c ≡ get n d
    at k e h = subst (λ m. get m c ≡ get m d) (sym ((bytes_eq-Decides n k).0 e)) h

    go : (a b : Bool) → bytes_eq n (codes "Election") ≡ a → bytes_eq n (codes "GpUnit") ≡ b
        → ((a || b) || bytes_eq n (codes "Party")) ≡ true → get n c ≡ get n d
    go true b e f h = at (codes "Election") e s.elections
    go false true e f h = at (codes "GpUnit") f s.units
    go false false e f h = at (codes "Party") h s.parties

entry_same : (c d : Data) → SameLists c d → (r : Entry) → is_list r.name ≡ true → Holds c r
    → Holds d r
entry_same c d s r is h =
    let e = same_at c d s r.name is in
    record { there = λ q. subst IsSome e (h.there q); part = λ x at. h.part x (e ∙ at) }

all_entries : (c d : Data) → SameLists c d → (rs : List Entry)
    → ((r : Entry) → IsEntry rs r → Holds c r) → HasEntries rs d → (r : Entry) → IsEntry rs r → Holds d r
all_entries c d s [] h rest r i = absurd i
all_entries c d s (x ∷ rs) h rest r (inl is) = subst (Holds d) is (go (is_list x.name) refl)
  where
    go : (b : Bool) → is_list x.name ≡ b → Holds d x
    go true e = entry_same c d s x e (h x (inl refl))
    go false e = rest.0 e
all_entries c d s (x ∷ rs) h rest r (inr i) = all_entries c d s rs (λ y j. h y (inr j)) rest.1 r i

entries_all : (d : Data) (rs : List Entry) → ((r : Entry) → IsEntry rs r → Holds d r) → HasEntries rs d
entries_all d [] h = tt
entries_all d (x ∷ rs) h = ((λ e. h x (inl refl)), entries_all d rs (λ r i. h r (inr i)))

-- ---- the form

abbrev Report : Data → Type 0
Report d = HasForm (One (leaf.Object group.Reports)) d

class_is : (d : Data) → Report d → class_in group.Reports d ≡ Some its.CastVoteRecordReport
class_is d f = only_class group.Reports its.CastVoteRecordReport d (refl, tt) f

entries_of_report : (d : Data) → Report d → (r : Entry) → IsEntry (table its.CastVoteRecordReport) r
    → Holds d r
entries_of_report d f =
    let h = has_class f in
    let only = class_is d f in
    let is : h.its ≡ its.CastVoteRecordReport = cc (h.its_is, only) in
    subst (λ (c : Class). (r : Entry) → IsEntry (table c) r → Holds d r) is h.entry

form : (c d : Data) → SameLists c d → Report c → HasRest d → Report d
form c d s f rest =
    let all = all_entries c d s (table its.CastVoteRecordReport) (entries_of_report c f) rest.entries in
    class rest.class_is (λ r i q. (all r i).there q) (λ r e i at. (all r i).part e at)

-- ---- references

pub array_same : (c d : Data) (n : List ℕ) → get n c ≡ get n d → array_at n c ≡ array_at n d
array_same c d n e = ap (λ o. unwrap_or (option_map list_of (option_and_then as_array o)) []) e

module _ (a b : Scope) (parties : a.parties ≡ b.parties) (units : a.units ≡ b.units) where
  selection_stays : (ids : List (List ℕ)) (d : Data) → SelectionResolves a ids d
      → SelectionResolves b ids d
  selection_stays ids d h = record {
    candidates = h.candidates;
    parties = λ is. subst (λ ps. AllName ps (codes "PartyIds") d) parties (h.parties is);
  }

  election_stays : (d : Data) → ElectionResolves a d → ElectionResolves b d
  election_stays d h = record {
    candidates = subst (λ ps. Each (Names ps (codes "PartyId")) (codes "Candidate") d) parties
        h.candidates;
    contests = λ x i y j. selection_stays _ y (h.contests x i y j);
    unit = subst (λ us. Names us (codes "ElectionScopeId") d) units h.unit;
  }

none_each : (P : Data → Type 0) (ds : List Data) → ds ≡ [] → (e : Data) → Contains ds e → P e
none_each P ds none e at =
    let short : length ds ≡ 0 = ap (λ xs. length xs) none in absurd (omega (arith, at.1))

resolves : (c d : Data) → SameLists c d → Resolves c → array_at (codes "CVR") d ≡ [] → HasRest d
    → Resolves d
resolves c d s r none rest =
    let units = ap (map id_of) (array_same c d (codes "GpUnit") s.units) in
    let parties = ap (map id_of) (array_same c d (codes "Party") s.parties) in
    record {
      cvrs = none_each (CvrResolves (scope_of d)) (array_at (codes "CVR") d) none;
      elections = λ e at. election_stays (scope_of c) (scope_of d) parties units e
          (r.elections e (subst (λ ds. Contains ds e)
          (sym (array_same c d (codes "Election") s.elections)) at));
      devices = rest.devices;
    }

-- ---- reports

pub rest_of_report : RestOfReportLaw
rest_of_report d r = record {
  whole = r.whole;
  class_is = class_is d r.form;
  entries = entries_all d (table its.CastVoteRecordReport) (entries_of_report d r.form);
  devices = r.references.devices;
}

pub rest_law : RestLaw
rest_law c d r s none h = record {
  whole = h.whole;
  form = form c d s r.form h;
  references = resolves c d s r.references none h;
}
