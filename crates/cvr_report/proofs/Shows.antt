-- What a volume shows of a record is what it shows of the facts that the office answered.
use Rattle.std.proofs.Common.{◌≡◌, true, false, cond, nat_le, ℕ, zero, suc, ◌-◌, ◌<◌, min, List, []}
use Rattle.std.proofs.Common.{◌∷◌, map, length, get_or, Option, Some, None, Contains, option_map}
use Rattle.std.proofs.Common.{refl, sym, ap, ◌∙◌, subst, arith}
use Rattle.std.specs.Option.{option_map_or}
use Rattle.std.specs.Ordering.{on}
use Rattle.std.proofs.lemmas.List.{length-map}
use Rattle.serde_json.specs.Written.{compact_text}
use Rattle.cdf_parts.specs.Places.{Contest}
use Rattle.cdf_typed.specs.Greatest.{max_by}
use Rattle.cdf_definition.specs.Frame.{Frame}
use Rattle.cvr_fact_types.specs.declared.name.RecordName.{RecordName}
use Rattle.cvr_fact_types.specs.declared.header.HeaderFact.{HeaderFact}
use Rattle.cvr_fact_types.specs.declared.snapshot.SnapshotFact.{SnapshotFact}
use Rattle.cvr_fact_types.specs.Facts.{Facts}
use Rattle.cvr_facts.specs.Choosing.{choice_cmp, fact_choice, data_of}
use Rattle.cvr_facts.specs.Stands.{IsSpelledSnapshot}
use Rattle.cvr_facts.proofs.Laws as choosing
use Rattle.cvr_facts.proofs.Lemmas.{at_head, at_tail, in_map, from_map}
use Rattle.cvr_office.specs.declared.record_facts.IdFacts.{IdFacts}
use Rattle.cvr_office.specs.declared.record_facts.RecordFacts.{RecordFacts}
use Rattle.cvr_office.specs.Names.{snapshot_ids, most}
use Rattle.cvr_office.specs.Readers.{header_list, snapshot_list, AreAllFactsOf}
use Rattle.cvr_office.specs.CanHold.{CanHold}
use Rattle.cvr_office.proofs.Lemmas.{map-map}
use Rattle.cvr_report.specs.Record.{item_texts}
use Rattle.cvr_report.specs.Page.{Shown, shown_body, shown_snapshots, shown_record, stands}
use Rattle.cvr_report.specs.Page.{current_id, body_counts}
use Rattle.cvr_report.specs.Pieces.{record_text}
use Rattle.cvr_report.specs.Volume.{values_of, record_data}
use Rattle.cvr_report.specs.Found.{bodies, shown_all, shown_bodies, counts_of, pick, picks, none}
use Rattle.cvr_report.specs.Found.{CanShow, HaveSnapshots}
use Rattle.cvr_report.proofs.Picking.{pick_body}
use Rattle.cvr_report.proofs.Kept.{id_shows, header_kept, snapshot_kept, shown_listed, texts_back}
use Rattle.cvr_report.proofs.Current.{greatest_map}

-- the id of the greatest of those that are shown
abbrev pub current_of : ℕ → List IdFacts → List ℕ
current_of i gs = option_map_or (λ (p : List ℕ × SnapshotFact). p.0)
    (max_by (on (λ (p : List ℕ × SnapshotFact). p.1) fact_choice) (picks i gs)) []

module _ (contests : List Contest) (s : Facts) (key : RecordName) (found : RecordFacts)
    (are : AreAllFactsOf contests s key found) where
  -- ---- what is shown

  all_shown : (i : ℕ) (gs : List IdFacts)
      → ((g : IdFacts) → Contains gs g → bodies g ≡ snapshot_list s key g.id.now)
      → shown_all i gs ≡ map (λ id. record
      { id = id; body = shown_body i (snapshot_list s key id) }) (map (λ g. g.id.now) gs)
  all_shown i [] h = refl
  all_shown i (g ∷ gs) h =
      (λ j. record { id = g.id.now; body = shown_body i (h g (at_head g gs) j) }
      ∷ all_shown i gs (λ x at. h x (at_tail g x gs at)) j)

  pub shown_are : (i : ℕ) → shown_all i found.ids.items ≡ shown_snapshots s i key
  shown_are i = all_shown i found.ids.items (λ g at. (are.snapshots g at).bodies)
      ∙ ap (map (λ id. record { id = id; body = shown_body i (snapshot_list s key id) })) are.ids

  all_counted : (gs : List IdFacts) → ((g : IdFacts) → Contains gs g
      → bodies g ≡ snapshot_list s key g.id.now)
      → map (λ g. length g.snapshots.items) gs
      ≡ map (λ id. length (snapshot_list s key id)) (map (λ g. g.id.now) gs)
  all_counted [] h = refl
  all_counted (g ∷ gs) h =
      let one : length g.snapshots.items ≡ length (snapshot_list s key g.id.now) =
      sym (length-map g.snapshots.items (λ s. s.now.body)) ∙ ap length (h g (at_head g gs)) in
      (λ j. one j ∷ all_counted gs (λ x at. h x (at_tail g x gs at)) j)

  pub counts_are : counts_of found ≡ body_counts s key
  counts_are =
      let first : length found.headers.items ≡ length (header_list s key) =
      sym (length-map found.headers.items (λ h. h.now.body)) ∙ ap length are.bodies in
      let rest = all_counted found.ids.items (λ g at. (are.snapshots g at).bodies)
      ∙ ap (map (λ id. length (snapshot_list s key id))) are.ids in
      (λ j. first j ∷ rest j)

  id_listed : (g : IdFacts) → Contains found.ids.items g → Contains (snapshot_ids s key) g.id.now
  id_listed g at =
      subst (λ ids. Contains ids g.id.now) are.ids (in_map (λ g. g.id.now) g found.ids.items at)

  pub header_listed : (h : HeaderFact) → Contains (map (λ h. h.now) found.headers.items) h
      → Contains (header_list s key) h.body
  header_listed h at =
      subst (λ bs. Contains bs h.body) (sym
      (map-map (λ h. h.now) (λ (h : HeaderFact). h.body) found.headers.items) ∙ are.bodies)
      (in_map (λ (h : HeaderFact). h.body) h (map (λ h. h.now) found.headers.items) at)

  -- ---- the current one

  picked : (i : ℕ) → 0 < i → (gs : List IdFacts) → HaveSnapshots gs
      → map (λ (p : List ℕ × SnapshotFact). record { id = p.0; body = p.1.body }) (picks i gs)
      ≡ shown_all i gs
  picked i q [] h = refl
  picked i q (g ∷ gs) h =
      (λ j. record { id = g.id.now; body = pick_body i g q (h g (at_head g gs)) j }
      ∷ picked i q gs (λ x at. h x (at_tail g x gs at)) j)

  pick_spelled : (i : ℕ) → 0 < i → HaveSnapshots found.ids.items → (p : List ℕ × SnapshotFact)
      → Contains (picks i found.ids.items) p → IsSpelledSnapshot contests p.1
  pick_spelled i q h p at =
      let from = from_map (λ g. (g.id.now, pick i g)) p found.ids.items at in
      let g = from.0 in
      let some = h g from.1 in
      let n = length-map g.snapshots.items (λ s. s.now) in
      let lt : min i (length g.snapshots.items) - 1 < length (map (λ s. s.now) g.snapshots.items) =
      omega (arith, n, q, some) in
      let listed : Contains (map (λ s. s.now) g.snapshots.items) (pick i g) = (
        min i (length g.snapshots.items)
            - 1,
        lt,
        get_at (map (λ s. s.now) g.snapshots.items) _ none (pick i g) lt,
      ) in
      subst (λ (p : List ℕ × SnapshotFact). IsSpelledSnapshot contests p.1) from.2
      ((are.snapshots g from.1).typed (pick i g) listed).spelled
    where
      get_at : (xs : List SnapshotFact) (k : ℕ) (d e : SnapshotFact) → k < length xs
          → get_or xs k (get_or xs k d) ≡ get_or xs k d
      get_at [] k d e lt = absurd (omega arith)
      get_at (x ∷ xs) zero d e lt = refl
      get_at (x ∷ xs) (suc k) d e lt = get_at xs k d e (omega arith)

  pub current_is : (i : ℕ) → 0 < i → HaveSnapshots found.ids.items
      → current_of i found.ids.items ≡ current_id (shown_snapshots s i key)
  current_is i q h =
      let f : List ℕ × SnapshotFact → Shown = λ p. record { id = p.0; body = p.1.body } in
      let same = greatest_map (on (λ (p : List ℕ × SnapshotFact). p.1) fact_choice)
      (on (λ (s : Shown). s.body) choice_cmp) f (λ p. IsSpelledSnapshot contests p.1)
      (λ x y p r. sym (choosing.bodies contests x.1 y.1 p r)) (picks i found.ids.items)
      (pick_spelled i q h) in
      ids_of (max_by (on (λ (p : List ℕ × SnapshotFact). p.1) fact_choice)
      (picks i found.ids.items))
      ∙ ap (λ o. option_map_or (λ (s : Shown). s.id) o [])
      (sym same ∙ ap (max_by (on (λ (s : Shown). s.body) choice_cmp))
      (picked i q found.ids.items h ∙ shown_are i))
    where
      ids_of : (o : Option (List ℕ × SnapshotFact))
          → option_map_or (λ p. p.0) o []
          ≡ option_map_or (λ (s : Shown). s.id)
          (option_map (λ p. record { id = p.0; body = p.1.body }) o) []
      ids_of None = refl
      ids_of (Some p) = refl

module _ (frame : Frame) (s : Facts) (can_hold : CanHold frame s) (key : RecordName)
    (found : RecordFacts) (are : AreAllFactsOf frame.contests s key found) where
  -- the facts can be shown
  pub can_show : 0 < length (header_list s key) → CanShow found
  can_show some = record {
    headed = let n : length found.headers.items
        ≡ length (header_list s key) = sym (length-map found.headers.items (λ h. h.now.body))
        ∙ ap length are.bodies in omega (arith, n, some);
    texts = λ h at. let kept =
        header_kept frame s can_hold key h.body (header_listed frame.contests s key found are h at) in
        let n = ap length kept.1.text in omega (arith, n);
    shot = λ g at.
        let n : length g.snapshots.items
        ≡ length (snapshot_list s key g.id.now) = sym
        (length-map g.snapshots.items (λ s. s.now.body))
        ∙ ap length (are.snapshots g at).bodies in
        let m = id_shows frame s can_hold key g.id.now (id_listed frame.contests s key found are g at)
        in
        omega (arith, n, m);
  }

  -- the snapshots' texts are those of what they spell
  pub texts_are : (i : ℕ) → 0 < i → shown_bodies i found.ids.items
      ≡ item_texts (values_of (map (λ (s : Shown). s.body) (shown_snapshots s i key)))
  texts_are i q =
      ap (map (λ (s : Shown). s.body)) (shown_are frame.contests s key found are i)
      ∙ sym (texts_back (map (λ (s : Shown). s.body) (shown_snapshots s i key)) each)
    where
      each : (b : List ℕ) → Contains (map (λ (s : Shown). s.body) (shown_snapshots s i key)) b
          → compact_text (data_of b) ≡ b
      each b at =
          let one = from_map (λ (s : Shown). s.body) b (shown_snapshots s i key) at in
          let two = from_map (λ id. record
          { id = id; body = shown_body i (snapshot_list s key id) }) one.0 (snapshot_ids s key)
          one.1 in
          let is : shown_body i (snapshot_list s key two.0) ≡ b =
          ap (λ (s : Shown). s.body) two.2 ∙ one.2 in
          snapshot_kept frame s can_hold key two.0 b
          (subst (Contains (snapshot_list s key two.0)) is
          (shown_listed i (snapshot_list s key two.0) q
          (id_shows frame s can_hold key two.0 two.1)))

  -- whether the record stands in a volume
  pub stands_is : (i : ℕ) → nat_le i (most (counts_of found)) ≡ stands s i key
  stands_is i = ap (λ ns. nat_le i (most ns)) (counts_are frame.contests s key found are)

-- ---- the text of a record

pub no_text : (s : Facts) (i : ℕ) (key : RecordName) → stands s i key ≡ false
    → record_text s i key ≡ None
no_text s i key e =
    ap (λ b. cond b (Some (compact_text (record_data (shown_record s i key)))) None) e

pub some_text : (s : Facts) (i : ℕ) (key : RecordName) → stands s i key ≡ true
    → record_text s i key ≡ Some (compact_text (record_data (shown_record s i key)))
some_text s i key e =
    ap (λ b. cond b (Some (compact_text (record_data (shown_record s i key)))) None) e
