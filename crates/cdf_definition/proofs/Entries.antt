-- The entries of a table that are looked at one by one.
use Rattle.std.proofs.Common.{◌≡◌, ◌↔◌, ℕ, zero, suc, ◌<◌, List, [], ◌∷◌, length, get_or, Bool}
use Rattle.std.proofs.Common.{true, false, not, Option, Some, None, option_map, refl, ap, subst}
use Rattle.std.proofs.Common.{arith}
use Rattle.std.proofs.lemmas.Bool.{and_parts}
use Rattle.std.specs.Prelude.{IsTrue, is_some}
use Rattle.serde_json.specs.Data.{Data}
use Rattle.serde_json.specs.Find.{get}
use Rattle.cdf_form.specs.declared.table.Key.TheVariants as key
use Rattle.cdf_form.specs.declared.table.Kind.{Kind}
use Rattle.cdf_form.specs.declared.table.Member.{Member}
use Rattle.cdf_form.specs.Tables.{entries_of}
use Rattle.cdf_form.specs.Form.{Fault, first, faults}
use Rattle.cdf_form.specs.HasForm.{HasForm}
use Rattle.cdf_form.specs.ByEntry.{HasEntry}
use Rattle.cdf_form.specs.Laws.{is_keyed, are_keyed}
use Rattle.cdf_form.proofs.Laws.{no_faults}
use Rattle.cdf_parts.specs.Places.{Texts}
use Rattle.cdf_definition.specs.Paths.{Path}
use Rattle.cdf_definition.specs.References.{many}
use Rattle.cdf_definition.specs.Resolves.{AllName}
use Rattle.cdf_definition.proofs.Resolving.{many_law}

-- ---- one entry

pub entry_there : (b : Bool) (n : List ℕ) (k : Kind) (d e : Data) → get n d ≡ Some e → HasForm k e
    → HasEntry b n k d
entry_there b n k d e found f = record {
  there = λ q. rw found refl;
  part = λ x is. let same : e ≡ x = cc in subst (HasForm k) same f;
}

pub entry_wrong : (b : Bool) (n : List ℕ) (k : Kind) (d e : Data) (f : Fault) → get n d ≡ Some e
    → first (faults e k key.Free) ≡ Some f → HasEntry b n k d → ⊥
entry_wrong b n k d e f found wrong h = let none = no_faults (h.part e found) in absurd (cc)

-- ---- all of a table

pub keyed_at : (rs : List Member) (i : ℕ) (r : Member) → i < length rs
    → are_keyed (entries_of rs) ≡ true → is_keyed (get_or rs i r).kind ≡ true
keyed_at [] i r lt e = absurd (omega arith)
keyed_at (x ∷ rs) zero r lt e = (and_parts (is_keyed x.kind) _ e).0
keyed_at (x ∷ rs) (suc i) r lt e =
    keyed_at rs i r (omega arith) (and_parts (is_keyed x.kind) _ e).1

-- ---- the devices of a report

no_paths : (ps : List Path) → None ≡ first ps → ps ≡ []
no_paths [] e = refl
no_paths (p ∷ ps) e = absurd (cc)

-- where no path is found, each text is one of the ids
pub all_named : {X : Type 0} (f : X → Path) (ids : Texts) (n : List ℕ) (d : Data) (o : Option X)
    (b : Bool) → option_map f o ≡ first (many ids n d) → is_some o ≡ not b
    → IsTrue b ↔ AllName ids n d
all_named f ids n d None true e is = ((λ t. (many_law ids n d).0 (no_paths _ e)), λ a. refl)
all_named f ids n d None false e is = absurd (cc)
all_named f ids n d (Some x) true e is = absurd (cc)
all_named f ids n d (Some x) false e is = (
  (λ t. absurd (cc)),
  λ a. let none : first (many ids n d) ≡ None = ap first ((many_law ids n d).1 a) in absurd (cc),
)
