-- Entries by their ids: they rise, beside each id stands the text of the last entry that has it,
-- and how they are computed.
use Rattle.std.proofs.Common.{◌≡◌, ℕ, ◌&&◌, T, Bool, true, false, cond, List, [], ◌∷◌, ◌++◌, map}
use Rattle.std.proofs.Common.{reverse, codes, Some, Ordering, Less, nat_cmp}
use Rattle.std.proofs.Common.{refl, sym, ap, ◌∙◌, arith}
use mathlib.Core.List.{reverse_aux}
use Rattle.std.specs.List.{AllByRecursion}
use Rattle.std.specs.List.Sorted.{IsStrictlySortedBy}
use Rattle.std.specs.Ordering.{is_lt}
use Rattle.std.specs.Cmp.Lexicographic.{slice_cmp}
use Rattle.std.specs.FinMap.{empty, entries, entries_sorted, entries-insert, from_entries}
use Rattle.std.specs.FinMap.{get-entries, get-from_entries, len-empty, len-entries, find, put}
use Rattle.std.specs.FinMap.{is_sorted}
use Rattle.std.specs.FinMap.Entries.{below_all}
use Rattle.std.proofs.lemmas.Cmp.{nat_list_cmp_total}
use Rattle.std.proofs.lemmas.List.{reverse-append, nil_from_length}
use Rattle.std.proofs.lemmas.Map.Text.{is_eq-slice_cmp}
use Rattle.serde_json.specs.Data.{Data}
use Rattle.cdf_parts.specs.Parts.{array_at}
use Rattle.cdf_definition.specs.Named.{IdText, id_and_text, by_id, text_of}
use Rattle.cdf_definition.specs.Frame.{Frame, frame_of}
use Rattle.cdf_definition.specs.Laws.{ByIdLaw}

-- ---- sorted entries rise

both_left : (a b : Bool) → T (a && b) → T a
both_left true b h = tt
both_left false b h = h

both_right : (a b : Bool) → T (a && b) → T b
both_right true b h = h
both_right false b h = absurd h

less_is : (o : Ordering) → T (is_lt o) → o ≡ Less
less_is o h = grind arith

module _ {K X : Type 0} (R : K → K → Ordering) where
  below_is : (k : K) (es : List (K × X)) → T (below_all R k es)
      → AllByRecursion (λ y. R k y ≡ Less) (map (λ x. x.0) es)
  below_is k [] h = tt
  below_is k (x ∷ es) h = (
    less_is (R k x.0) (both_left (is_lt (R k x.0)) _ h),
    below_is k es
        (both_right (is_lt (R k x.0)) _ h),
  )

  pub keys_rise : (es : List (K × X)) → T (is_sorted R es)
      → IsStrictlySortedBy R (map (λ x. x.0) es)
  unfolding IsStrictlySortedBy
  keys_rise [] h = tt
  keys_rise (x ∷ es) h = (
    below_is x.0 es (both_left (below_all R x.0 es) _ h),
    keys_rise es
        (both_right (below_all R x.0 es) _ h),
  )

-- ---- entries by id

abbrev order : List ℕ → List ℕ → Ordering
order = slice_cmp nat_cmp

found : (es : List IdText) (id : List ℕ) → text_of es id ≡ find order id es
found [] id = refl
found (e ∷ es) id = λ i. cond (sym (is_eq-slice_cmp id e.0) i) (Some e.1) (found es id i)

pub by_id_law : ByIdLaw
by_id_law es = record {
  rises = keys_rise order (by_id es) (entries_sorted (from_entries {R = order} (reverse es)));
  texts = λ id.
      found (by_id es) id ∙ sym (get-entries (from_entries {R = order} (reverse es)) id)
      ∙ get-from_entries nat_list_cmp_total (reverse es) id ∙ sym (found (reverse es) id);
}

pub by_id-push : (es : List IdText) (e : IdText)
    → by_id (es ++ e ∷ []) ≡ put order e.0 e.1 (by_id es)
by_id-push es e =
    ap (λ l. entries (from_entries {R = order} l)) (reverse-append es (e ∷ []))
    ∙ entries-insert nat_list_cmp_total (from_entries {R = order} (reverse es)) e.0 e.1

-- ---- put in one after another, as they are computed

abbrev pub put_all : List IdText → List IdText → List IdText
put_all done [] = done
put_all done (e ∷ es) = put_all (put order e.0 e.1 done) es

put_behind : (es done : List IdText) → entries (from_entries {R = order} (reverse_aux es done))
    ≡ put_all (entries (from_entries {R = order} done)) es
put_behind [] done = refl
put_behind (e ∷ es) done =
    put_behind es (e ∷ done) ∙ ap (λ l. put_all l es)
    (entries-insert nat_list_cmp_total (from_entries {R = order} done) e.0 e.1)

pub by_id-put : (es : List IdText) → by_id es ≡ put_all [] es
by_id-put es =
    put_behind es [] ∙ ap (λ l. put_all l es)
    (nil_from_length (entries empty) (sym (len-entries empty) ∙ len-empty order (List ℕ)))

abbrev put_at : List ℕ → Data → List IdText
put_at name d = put_all [] (map id_and_text (array_at name d))

-- a frame whose lists compute
abbrev pub frame_put : Data → Frame
frame_put d = record {
  elections = put_at (codes "Election") d;
  units = put_at (codes "GpUnit") d;
  parties = put_at (codes "Party") d;
  devices = put_at (codes "ReportingDevice") d;
  contests = (frame_of d).contests;
}

pub frame_of-put : (d : Data) → frame_of d ≡ frame_put d
frame_of-put d = λ i. record {
  elections = by_id-put (map id_and_text (array_at (codes "Election") d)) i;
  units = by_id-put (map id_and_text (array_at (codes "GpUnit") d)) i;
  parties = by_id-put (map id_and_text (array_at (codes "Party") d)) i;
  devices = by_id-put (map id_and_text (array_at (codes "ReportingDevice") d)) i;
  contests = (frame_of d).contests;
}
