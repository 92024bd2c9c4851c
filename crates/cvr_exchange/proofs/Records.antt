-- A header with snapshots and the id of one of them is a CVR of a report.
use Rattle.std.proofs.Common.{◌≡◌, ◌≤◌, ℕ, List, [], ◌∷◌, map, Contains, Option, Some, None, IsSome}
use Rattle.std.proofs.Common.{IsUtf8, inl, inr, ◌⊎◌, codes, refl, sym, ap, ◌∙◌, subst, Bool}
use Rattle.std.proofs.Common.{true, false, bytes_eq, arith}
use Rattle.std.proofs.lemmas.Option.{same_Some}
use Rattle.std.specs.Prelude.{⊤, unwrap_or, option_map, option_and_then}
use Rattle.json.proofs.Printed.Utf8.{are_ascii, IsUtf8-are_ascii}
use Rattle.serde_json.specs.Data.{Data, string, array, object, Members, put}
use Rattle.serde_json.specs.Find.{get, get_member, as_str, as_array}
use Rattle.serde_json.specs.Events.{items_len}
use Rattle.serde_json.specs.View.{items_of}
use Rattle.serde_json.proofs.Views.{get_member-put, get_member-put_other}
use Rattle.cdf_form.specs.declared.table.Class.TheVariants as class_of
use Rattle.cdf_form.specs.declared.table.Group.TheVariants as group
use Rattle.cdf_form.specs.declared.table.Leaf.TheVariants as leaf
use Rattle.cdf_form.specs.declared.table.Key.TheVariants as key
use Rattle.cdf_form.specs.declared.table.Kind.TheVariants.{One, Array}
use Rattle.cdf_form.specs.Tables.{Entry, table, classes_of, required_member, any}
use Rattle.cdf_form.specs.Form.{class_in, find_class}
use Rattle.cdf_form.specs.HasForm.{HasForm, IsEntry, text, class}
use Rattle.cdf_node.specs.Items.{list_of}
use Rattle.cdf_parts.specs.Parts.{array_at, ids_at, id_of, text_at}
use Rattle.cdf_parts.specs.Places.{Texts}
use Rattle.cdf_parts.specs.Removing.{without}
use Rattle.cdf_parts.proofs.Laws.{list_of-items_of, without-put}
use Rattle.cdf_typed.specs.Typed.{header_of}
use Rattle.cdf_definition.specs.Bodies.{IsInHeader, HeaderStands, SnapshotStands}
use Rattle.cdf_definition.specs.References.{Scope, one, many}
use Rattle.cdf_definition.specs.Resolves.{Names, AllName, CvrResolves}
use Rattle.cdf_definition.proofs.Lemmas.{differ}
use Rattle.cdf_definition.proofs.Laws.{is_kept}
use Rattle.cdf_check.proofs.Laws.{cvr_parts}
use Rattle.cvr_report.specs.Record.{snapshots_name, current_name, record_members}
use Rattle.cvr_exchange.proofs.Arrays.{IsRising, objects_form}
use Rattle.cvr_exchange.proofs.Clean.{IsClean, clean_string, clean_array, clean_put}
use Rattle.cvr_exchange.proofs.Naming.{names_of, all_name_of, snapshot_of}

-- ---- entries of a table, one by one

abbrev pub AllEntries : (Entry → Type 0) → List Entry → Type 0
AllEntries P [] = ⊤
AllEntries P (r ∷ rs) = P r × AllEntries P rs

-- one after another
infixr 5 ◌▸◌
pub ◌▸◌ : {A B : Type 0} → A → B → A × B
◌▸◌ a b = (a, b)

pub all_entries : (P : Entry → Type 0) (rs : List Entry) (r : Entry) → AllEntries P rs → IsEntry rs r → P r
all_entries P [] r h i = absurd i
all_entries P (x ∷ rs) r h (inl e) = subst P e h.0
all_entries P (x ∷ rs) r h (inr i) = all_entries P rs r h.1 i

-- ---- the entries of a CVR: those that its header keeps, and two

abbrev snapshots_entry : Entry
snapshots_entry = required_member snapshots_name (Array (leaf.Object group.Snapshots) 1 any key.Id)

abbrev current_entry : Entry
current_entry = required_member current_name (One leaf.Text)

abbrev Case : Entry → Type 0
Case r = IsInHeader r.name ⊎ ((r ≡ snapshots_entry) ⊎ (r ≡ current_entry))

-- an entry of that name is that entry
abbrev OfName : List ℕ → Entry → Type 0
OfName name entry = (r : Entry) → IsEntry (table class_of.Cvr) r → bytes_eq r.name name ≡ true
    → r ≡ entry

of_snapshots : OfName snapshots_name snapshots_entry
of_snapshots r i h = grind arith

of_current : OfName current_name current_entry
of_current r i h = grind arith

cvr_case : (r : Entry) → IsEntry (table class_of.Cvr) r → Case r
cvr_case r i = go (bytes_eq r.name snapshots_name) (bytes_eq r.name current_name) refl refl
  where
    go : (a b : Bool) → bytes_eq r.name snapshots_name ≡ a → bytes_eq r.name current_name ≡ b
        → Case r
    go true b e f = inr (inl (of_snapshots r i e))
    go false true e f = inr (inr (of_current r i f))
    go false false e f = inl (is_kept r.name e f)

pub name_utf8 : (name : List ℕ) → are_ascii name ≡ true → IsUtf8 name
name_utf8 name h = IsUtf8-are_ascii name h

abbrev pub list_in : Option Data → List Data
list_in o = unwrap_or (option_map list_of (option_and_then as_array o)) []

-- ---- its members

module _ (ms : Members) (ds : List Data) (current : List ℕ) where
  abbrev made : Members
  made = record_members ms (items_of ds) current

  pub at_snapshots : get_member snapshots_name made ≡ Some (array (items_of ds))
  at_snapshots =
      get_member-put snapshots_name (array (items_of ds)) (put current_name (string current) ms)

  at_current : get_member current_name made ≡ Some (string current)
  at_current =
      get_member-put_other current_name snapshots_name (array (items_of ds))
      (put current_name (string current) ms) (differ current_name snapshots_name refl)
      ∙ get_member-put current_name (string current) ms

  at_other : (name : List ℕ) → IsInHeader name → get_member name made ≡ get_member name ms
  at_other name kept =
      get_member-put_other name snapshots_name (array (items_of ds))
      (put current_name (string current) ms) kept.0
      ∙ get_member-put_other name current_name (string current) ms kept.1

  pub snapshots_are : array_at snapshots_name (object made) ≡ ds
  snapshots_are = ap list_in at_snapshots ∙ list_of-items_of ds

  pub text_other : (name s : List ℕ) → IsInHeader name → get name (object ms) ≡ Some (string s)
      → text_at name (object made) ≡ s
  text_other name s kept is =
      ap (λ o. unwrap_or (option_and_then as_str o) []) (at_other name kept ∙ is)

  pub header_back : get snapshots_name (object ms) ≡ None → get current_name (object ms) ≡ None
      → header_of (object made) ≡ object ms
  header_back no_snapshots no_current =
      let absent = get_member-put_other snapshots_name current_name (string current) ms
      (differ snapshots_name current_name refl) ∙ no_snapshots in
      ap (λ m. object (without current_name m))
      (without-put snapshots_name (array (items_of ds)) (put current_name (string current) ms)
      absent)
      ∙ ap object (without-put current_name (string current) ms no_current)

  pub record_clean : IsClean 125 (object ms) → ((d : Data) → Contains ds d → IsClean 123 d)
      → IsUtf8 current → IsClean 125 (object made)
  record_clean h each u =
      clean_put 124 snapshots_name (array (items_of ds)) (put current_name (string current) ms)
      (name_utf8 snapshots_name refl) (clean_array 123 ds each)
      (clean_put 124 current_name (string current) ms (name_utf8 current_name refl)
      (clean_string 124 current u) h)

  -- ---- its form and references

  module _ (scope : Scope) (device unique : List ℕ)
      (head : HeaderStands scope device unique (object ms))
      (each : (d : Data) → Contains ds d → SnapshotStands scope (id_of d) d) where
    class_is : class_in group.Cvrs (object made) ≡ Some class_of.Cvr
    class_is =
        ap (λ o. option_and_then (find_class (classes_of group.Cvrs)) (option_and_then as_str o))
        (at_other (codes "@type") (is_kept (codes "@type") refl refl))
        ∙ head.form.class_is

    needed_at : (r : Entry) → IsEntry (table class_of.Cvr) r → Case r → r.required ≡ true
        → IsSome (get r.name (object made))
    needed_at r i (inl kept) q =
        subst IsSome (sym (at_other r.name kept)) (head.form.needed r i kept q)
    needed_at r i (inr (inl e)) q =
        subst IsSome (sym (ap (λ n. get_member n made) (ap (λ x. x.name) e) ∙ at_snapshots)) refl
    needed_at r i (inr (inr e)) q =
        subst IsSome (sym (ap (λ n. get_member n made) (ap (λ x. x.name) e) ∙ at_current)) refl

    module _ (rises : IsRising (map id_of ds)) (some : 1 ≤ items_len (items_of ds))
        (few : items_len (items_of ds) ≤ any) where
      part_at : (r : Entry) → IsEntry (table class_of.Cvr) r → Case r → (e : Data)
          → get r.name (object made) ≡ Some e → HasForm r.kind e
      part_at r i (inl kept) e at = head.form.member r e i kept (sym (at_other r.name kept) ∙ at)
      part_at r i (inr (inl is)) e at =
          let same : array (items_of ds)
          ≡ e = same_Some _ _ (sym (ap (λ n. get_member n made) (ap (λ x. x.name) is)
          ∙ at_snapshots) ∙ at) in
          subst (λ k. HasForm k e) (sym (ap (λ x. x.kind) is))
          (subst (HasForm (Array (leaf.Object group.Snapshots) 1 any key.Id)) same
          (objects_form group.Snapshots 1 ds (refl, tt) (λ d a. (each d a).form) rises some few))
      part_at r i (inr (inr is)) e at =
          let same : string current ≡ e = same_Some _ _
          (sym (ap (λ n. get_member n made) (ap (λ x. x.name) is) ∙ at_current) ∙ at) in
          subst (λ k. HasForm k e) (sym (ap (λ x. x.kind) is))
          (subst (HasForm (One leaf.Text)) same (text {s = current} refl))

      pub record_form : HasForm (One (leaf.Object group.Cvrs)) (object made)
      record_form = class class_is (λ r i q.
          needed_at r i (cvr_case r i) q)
          (λ r e i at. part_at r i (cvr_case r i) e at)

    kept_names : (ids : Texts) (name : List ℕ) → IsInHeader name → one ids name (object ms) ≡ []
        → Names ids name (object made)
    kept_names ids name kept e = λ s is.
        names_of ids name (object ms) e s
        (sym (ap (option_and_then as_str) (at_other name kept)) ∙ is)

    kept_all : (ids : Texts) (name : List ℕ) → IsInHeader name → many ids name (object ms) ≡ []
        → AllName ids name (object made)
    kept_all ids name kept e = λ x s a is.
        all_name_of ids name (object ms) e x s
        (subst (λ xs. Contains xs x) (ap list_in (at_other name kept)) a) is

    pub record_resolves : Contains (map id_of ds) current → CvrResolves scope (object made)
    record_resolves listed =
        let p = cvr_parts scope (object ms) head.references in
        record {
          unit = kept_names scope.units (codes "BallotStyleUnitId")
              (is_kept (codes "BallotStyleUnitId") refl refl) p.unit;
          snapshots = λ e a. snapshot_of scope e
              (each e (subst (λ xs. Contains xs e) snapshots_are a)).references;
          device = kept_names scope.devices (codes "CreatingDeviceId")
              (is_kept (codes "CreatingDeviceId") refl refl) p.device;
          current = λ s is.
              let same : current ≡ s =
              same_Some current s (sym (ap (option_and_then as_str) at_current) ∙ is) in
              subst (Contains (ids_at snapshots_name (object made))) same
              (subst (λ xs. Contains (map id_of xs) current) (sym snapshots_are) listed);
          election = kept_names scope.elections (codes "ElectionId")
              (is_kept (codes "ElectionId") refl refl) p.election;
          parties = kept_all scope.parties (codes "PartyIds") (is_kept (codes "PartyIds") refl refl)
              p.parties;
        }
