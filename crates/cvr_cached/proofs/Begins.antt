-- What an office keeps that holds devices alone.
use Rattle.std.proofs.Common.{◌≡◌, ◌<◌, ◌^◌, ℕ, List, [], length, map, Contains, inl, inr, None}
use Rattle.std.proofs.Common.{sym, ap, ◌∙◌, subst, append-nil}
use Rattle.std.specs.FinMap.{empty, same_map, get-empty}
use Rattle.std.specs.Map.{keys_of}
use Rattle.cdf_parts.specs.Places.{Contest}
use Rattle.cdf_definition.specs.Named.{IdText}
use Rattle.cdf_definition.specs.Frame.{Frame}
use Rattle.cvr_fact_types.specs.Facts.{Device, name_cmp}
use Rattle.cvr_facts.proofs.Lemmas.{none_listed, in_map, from_map}
use Rattle.cvr_tally.specs.Rows.{Rows, TotalsValue}
use Rattle.cvr_tally.specs.Keys.{key_cmp, keys_total, keys_exact}
use Rattle.cvr_office.specs.declared.any_fact.AnyFact.{AnyFact}
use Rattle.cvr_office.specs.Names.{record_of}
use Rattle.cvr_office.specs.Place.{fact_of}
use Rattle.cvr_office.specs.Plain.{set_of, IsPlain, IsPut}
use Rattle.cvr_office.specs.Tallied.{rows, row_over}
use Rattle.cvr_office.proofs.Laws.{rows_law}
use Rattle.cvr_cached.specs.Contents.{Entries, fact_list}
use Rattle.cvr_cached.specs.Held.{AreOwn, IsHeld, IsCached}
use Rattle.cvr_cached.proofs.Listed.{sorted_nil}
use Rattle.cvr_cached.proofs.Answering.{records_are}

module _ (frame : Frame) (none more d : List AnyFact) (empty_is : none ≡ [])
    (are : map fact_of more ≡ map (λ (e : IdText). Device e.0 e.1) frame.devices)
    (put : IsPut none more d) (es : Entries) (no_entries : es ≡ []) where
  own_devices : (f : AnyFact) → Contains d f → record_of (fact_of f) ≡ None
  own_devices f at = elim (put.from f at) [
    | inl was ↦ absurd (none_listed f (subst (λ xs. Contains xs f) empty_is was))
    | inr came ↦
        let e = from_map (λ (e : IdText). Device e.0 e.1) (fact_of f) frame.devices
        (subst (λ fs. Contains fs (fact_of f)) are (in_map fact_of f more came)) in
        ap record_of (sym e.2)
  ]

  own_nil : AreOwn d []
  own_nil = record {
    names_rise = sorted_nil name_cmp;
    devices_rise = put.rises;
    devices_are = own_devices;
    contents_rise = λ k facts is. Prim.cc is;
    contents_are = λ k facts is f at. Prim.cc is;
    full = λ k facts is. Prim.cc is;
  }

  pub alone : fact_list d es ≡ d
  alone = ap (fact_list d) no_entries ∙ append-nil d

  no_rows : (contests : List Contest) (m : Rows) → m ≡ empty
      → m ≡ rows contests (set_of (fact_list d []))
  no_rows contests m is =
      same_map keys_total keys_exact m (rows contests (set_of (fact_list d []))) (λ q.
      ap (λ m. Rattle.std.specs.FinMap.get m q) is ∙ (get-empty key_cmp q
      ∙ sym (rows_law contests (set_of (fact_list d [])) q
      ∙ ap (row_over contests (set_of (fact_list d [])) q) (records_are d [] own_nil))))

  pub held_start : (t : TotalsValue) (count : ℕ) → t.rows ≡ empty → count ≡ length d
      → count < 2 ^ 64 → IsHeld (record { devices = d; records = es; totals = t }) count
  held_start t count rows_are is fits = subst
      (λ (es : Entries). IsHeld (record { devices = d; records = es; totals = t }) count)
      (sym no_entries) record {
        own = own_nil;
        rows_are = no_rows t.contests t.rows rows_are;
        counted = is ∙ ap length (sym (append-nil d));
        fits = fits;
      }

  pub cached_start : IsPlain frame d → (t : TotalsValue) → t.contests ≡ frame.contests
      → IsCached frame (record { devices = d; records = es; totals = t })
  cached_start plain t same =
      record { plain = subst (IsPlain frame) (sym alone) plain; contests_are = same }
