-- What the facts of an office keep, as far as a writer needs it.
use Rattle.std.proofs.Common.{◌≡◌, ℕ, ◌-◌, ◌<◌, List, [], ◌∷◌, reverse, length, min, true, Option}
use Rattle.std.proofs.Common.{Some, None, IsSome, Contains, unwrap_or, codes, refl, sym, ap, ◌∙◌}
use Rattle.std.proofs.Common.{subst, arith}
use Rattle.std.specs.Prelude.{option_and_then}
use Rattle.std.specs.FinSet.{contains, items}
use Rattle.std.proofs.lemmas.List.{length-reverse}
use Rattle.std.proofs.lemmas.List.Sorted.{IsPermutation-sym, IsPermutation-reverse}
use Rattle.std.proofs.lemmas.List.Sorted.{Contains-permutation}
use Rattle.serde_json.specs.Data.{Data, null, boolean, number, string, array, object, Members}
use Rattle.serde_json.specs.Data.{no_members}
use Rattle.serde_json.specs.Find.{get, get_member, as_object, as_str}
use Rattle.serde_json.specs.Written.{compact_text}
use Rattle.cdf_form.specs.declared.table.Class.{Class}
use Rattle.cdf_form.specs.declared.table.Group.TheVariants as group
use Rattle.cdf_form.specs.Form.{class_in, find_class}
use Rattle.cdf_parts.specs.Proper.{IsWell, MembersAreWell}
use Rattle.cdf_form.specs.Tables.{classes_of}
use Rattle.cdf_definition.specs.Frame.{Frame}
use Rattle.cvr_fact_types.specs.declared.name.RecordName.{RecordName}
use Rattle.cvr_fact_types.specs.Facts.{Fact, Device, Header, Snapshot, Facts}
use Rattle.cvr_facts.specs.Stands.{Stands, HasRecord, IsOfRecord}
use Rattle.cvr_facts.specs.Choosing.{data_of}
use Rattle.cvr_facts.proofs.Laws.{text_total, text_exact, choice_total, choice_exact, contains_iff}
use Rattle.cvr_facts.proofs.Lemmas.{at_head, at_tail, from-filter_map}
use Rattle.cvr_office.specs.Names.{records, record_of, snapshot_ids}
use Rattle.cvr_office.specs.Readers.{header_list, snapshot_list}
use Rattle.cvr_office.specs.CanHold.{CanHold, content_scope}
use Rattle.cvr_office.proofs.Lemmas.{from_ordered, in_ordered}
use Rattle.cvr_office.proofs.Laws.{name_exact, name_total, header_under, snapshot_under, id_under}
use Rattle.cvr_report.specs.Record.{HasHeaderMembers, item_texts}
use Rattle.cvr_report.specs.Page.{shown_body}
use Rattle.cvr_report.specs.Volume.{members_in, values_of}
use Rattle.cvr_report.proofs.Picking.{shown_at}

pub unreversed : {X : Type 0} (xs : List X) (x : X) → Contains (reverse xs) x → Contains xs x
unreversed xs x at = Contains-permutation (reverse xs) xs x
    (IsPermutation-sym xs (reverse xs) (IsPermutation-reverse xs)) at

pub some_listed : {X : Type 0} (xs : List X) (x : X) → Contains xs x → 0 < length (reverse xs)
some_listed xs x at = let lt = at.1 in omega (arith, lt, length-reverse xs)

-- ---- a header is an object with a class

typed : (o : Option Data) (c : Class) → option_and_then (find_class (classes_of group.Cvrs))
    (option_and_then as_str o) ≡ Some c → IsSome o
typed None c e = absurd (Prim.cc e)
typed (Some d) c e = refl

object_of : (d : Data) (c : Class) → class_in group.Cvrs d ≡ Some c
    → (ms : Members) × (d ≡ object ms) × IsSome (get_member (codes "@type") ms)
object_of null c e = absurd (Prim.cc e)
object_of (boolean b) c e = absurd (Prim.cc e)
object_of (number n) c e = absurd (Prim.cc e)
object_of (string s) c e = absurd (Prim.cc e)
object_of (array ds) c e = absurd (Prim.cc e)
object_of (object ms) c e = (ms, refl, typed (get_member (codes "@type") ms) c e)

pub record IsKeptHeader (body : List ℕ) (ms : Members) : Type 0 where
  pub well : MembersAreWell ms
  pub header : HasHeaderMembers ms
  pub text : body ≡ compact_text (object ms)
  pub members : members_in body ≡ ms

-- ---- the facts of a record

module _ (frame : Frame) (s : Facts) (can_hold : CanHold frame s) (key : RecordName) where
  header_held : (b : List ℕ) → Contains (header_list s key) b
      → contains s (Header key.device key.unique b) ≡ true
  header_held b at = (header_under key s b).0
      (from_ordered text_total text_exact _ b (unreversed _ b at))

  snapshot_held : (id b : List ℕ) → Contains (snapshot_list s key id) b
      → contains s (Snapshot key.device key.unique id b) ≡ true
  snapshot_held id b at = (snapshot_under key s id b).0
      (from_ordered choice_total choice_exact _ b (unreversed _ b at))

  -- an id has a body
  pub id_shows : (id : List ℕ) → Contains (snapshot_ids s key) id
      → 0 < length (snapshot_list s key id)
  id_shows id at =
      let found = (id_under key s id).0 (from_ordered text_total text_exact _ id at) in
      some_listed _ found.0 (in_ordered choice_total choice_exact _ found.0
      ((snapshot_under key s id found.0).1 found.1))

  of_whole : (f : Fact) → record_of f ≡ Some key → IsOfRecord s f
      → HasRecord s key.device key.unique
  of_whole (Device i b) e w = absurd (Prim.cc e)
  of_whole (Header d u b) e w =
      let same : record { device = d; unique = u } ≡ key = Prim.cc e in
      subst (λ (k : RecordName). HasRecord s k.device k.unique) same w
  of_whole (Snapshot d u i b) e w =
      let same : record { device = d; unique = u } ≡ key = Prim.cc e in
      subst (λ (k : RecordName). HasRecord s k.device k.unique) same w

  -- a record has a header
  pub headed : Contains (records s) key → 0 < length (header_list s key)
  headed at =
      let found =
      from-filter_map record_of (items s) key (from_ordered name_total name_exact _ key at) in
      let whole =
      of_whole found.0 found.2 (can_hold.whole found.0 ((contains_iff s found.0).1 found.1)) in
      some_listed _ whole.header.0 (in_ordered text_total text_exact _ whole.header.0
      ((header_under key s whole.header.0).1 whole.header.1))

  pub header_kept : (b : List ℕ) → Contains (header_list s key) b
      → (ms : Members) × IsKeptHeader b ms
  header_kept b at =
      let stands : Stands (content_scope frame s) (Header key.device key.unique b) =
      can_hold.stand (Header key.device key.unique b) (header_held b at) in
      let found = object_of stands.0 _ stands.2.form.class_is in (
        found.0,
        record {
          well = subst IsWell found.1 stands.2.proper.well;
          header = (
            sym (ap (get (codes "CVRSnapshot")) found.1)
                ∙ stands.2.form.no_snapshots,
            sym (ap (get (codes "CurrentSnapshotId")) found.1)
                ∙ stands.2.form.no_current,
            found.2,
          );
          text = stands.1.0 ∙ ap compact_text found.1;
          members = ap (λ o. unwrap_or (option_and_then as_object o) no_members)
              (stands.1.1 ∙ ap Some found.1);
        },
      )

  pub snapshot_kept : (id b : List ℕ) → Contains (snapshot_list s key id) b
      → compact_text (data_of b) ≡ b
  snapshot_kept id b at =
      let stands : Stands (content_scope frame s) (Snapshot key.device key.unique id b) =
      can_hold.stand (Snapshot key.device key.unique id b) (snapshot_held id b at) in
      ap (λ o. compact_text (unwrap_or o null)) stands.1.1 ∙ sym stands.1.0

-- ---- lists of bodies

pub shown_listed : (i : ℕ) (xs : List (List ℕ)) → 0 < i → 0 < length xs
    → Contains xs (shown_body i xs)
shown_listed i xs p q =
    (min i (length xs) - 1, omega (arith, p, q), sym (shown_at i xs (shown_body i xs) p q))

pub texts_back : (bs : List (List ℕ)) →
    ((b : List ℕ) → Contains bs b → compact_text (data_of b) ≡ b) → item_texts (values_of bs) ≡ bs
texts_back [] h = refl
texts_back (b ∷ bs) h = (λ j. h b (at_head b bs) j
    ∷ texts_back bs (λ c at. h c (at_tail b c bs at)) j)
