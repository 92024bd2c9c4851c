-- Contents and what comes to each of them, by place.
use Rattle.std.proofs.Common.{◌≡◌, ℕ, ◌+◌, ◌<◌, ◌==◌, false, List, [], ◌∷◌, ◌++◌, map, length}
use Rattle.std.proofs.Common.{Contains, inl, inr, Option, Some, IsSome, refl, sym, ap, subst, ◌∙◌, arith}
use Rattle.std.proofs.Common.{◌||◌}
use Rattle.std.specs.List.{sum_by}
use Rattle.std.specs.List.Sorted.{IsStrictlySortedBy}
use Rattle.std.specs.Option.{option_to_list}
use Rattle.std.proofs.lemmas.List.Sums.{sum_by-cons}
use Rattle.cdf_parts.specs.Places.{Contest}
use Rattle.cvr_fact_types.specs.declared.name.RecordName.{RecordName}
use Rattle.cvr_fact_types.specs.Facts.{name_cmp}
use Rattle.cvr_facts.proofs.Lemmas.{at_head, at_tail, head_or_tail, none_listed}
use Rattle.cvr_tally.specs.declared.key.RowKey.{RowKey}
use Rattle.cvr_tally.specs.Rows.{Rows}
use Rattle.cvr_office.specs.declared.any_fact.AnyFact.{AnyFact}
use Rattle.cvr_office.specs.Place.{any_cmp}
use Rattle.cvr_office.specs.Plain.{IsPut}
use Rattle.cvr_cached.specs.declared.growth.Growth.{Growth}
use Rattle.cvr_cached.specs.Contents.{Entries, facts_at, pairs_of, header_in, current_in, IsKeyOf}
use Rattle.cvr_fact_types.specs.Columns.{Column}
use Rattle.cvr_cached.specs.Cells.{shares, AreFit}
use Rattle.cvr_cached.specs.Growths.{grown_content, grown_contents, IsGrowth, IsGrowing}
use Rattle.cvr_cached.specs.Growths.{AreGrowing}
use Rattle.cvr_cached.specs.Merged.{merged}
use Rattle.cvr_cached.specs.Plans.{is_name_of, has_content, IsRoomy, IsReady}
use Rattle.cvr_cached.specs.Shown.{IsShown}
use Rattle.cvr_cached.proofs.Listed.{sorted_nil}
use Rattle.cvr_cached.proofs.MergedFacts.{merged_put, length-merged}
use Rattle.cvr_cached.proofs.Pairs.{pairs_are}

abbrev pub Names : Type 0
Names = RecordName → Option (List AnyFact)

abbrev Named : Type 0
Named = RecordName × List AnyFact

abbrev first : Named → RecordName
first c = c.0

-- ---- one content

-- where something stands, it is merged with what comes
module _ (old few : List AnyFact) (g : Growth) {n : ℕ} (long : length old ≡ n)
    (some : (n == 0) ≡ false) where
  pub grown_some : grown_content old few g ≡ merged old g.fresh.items
  grown_some = elim old as (λ xs. (length xs == 0) ≡ false
      → grown_content xs few g ≡ merged xs g.fresh.items)
      [ [] ↦ λ e. Prim.cc e | x ∷ xs ↦ λ e. refl ] (ap (λ k. k == 0) long ∙ some)

  pub grown_put : (fresh : List AnyFact) → IsStrictlySortedBy any_cmp old → IsGrowth old g
      → g.fresh.items ≡ fresh → IsPut old fresh (grown_content old few g)
      × (length (grown_content old few g) ≡ length old + length fresh)
  grown_put fresh rises own is = (
    subst (IsPut old fresh) (sym grown_some) (subst (λ xs. IsPut old xs (merged old g.fresh.items)) is
        (merged_put old g.fresh.items rises own.rises own.apart)),
    ap length grown_some ∙ (length-merged old g.fresh.items
        ∙ ap (λ xs. length old + length xs) is),
  )

-- and nothing of this depends on the key
abbrev under : RowKey → Growth → Growth
under k g = record { fresh = g.fresh; room = g.room; key = k }

grown_under : (old few : List AnyFact) (k : RowKey) (g : Growth)
    → grown_content old few (under k g) ≡ grown_content old few g
grown_under [] few k g = refl
grown_under (x ∷ xs) few k g = refl

module _ {old few old' few' : List AnyFact} (k : RowKey) (g : Growth) (stood : old' ≡ old)
    (are : few' ≡ few) where
  pub same_grown : grown_content old' few' (under k g) ≡ grown_content old few g
  same_grown = (λ i. grown_content (stood i) (are i) (under k g)) ∙ grown_under old few k g

  pub same_growth : IsGrowth old g → IsGrowth old' (under k g)
  same_growth own = subst (λ facts. IsGrowth facts (under k g)) (sym stood)
      (record { rises = own.rises; apart = own.apart; empty = own.empty; room = own.room })

  pub same_shown : IsShown few (grown_content old few g)
      → IsShown few' (grown_content old' few' (under k g))
  same_shown shown = subst (λ few. IsShown few (grown_content old' few' (under k g))) (sym are)
      (subst (IsShown few) (sym same_grown) shown)

pub grown_none : (old few : List AnyFact) (g : Growth) → old ≡ [] → grown_content old few g ≡ few
grown_none old few g none = ap (λ xs. grown_content xs few g) none

-- where nothing stands, nothing has to come
pub growing_none : (old few : List AnyFact) (g : Growth) → old ≡ [] → g.fresh.items ≡ []
    → g.room.items ≡ [] → IsGrowing old few g
growing_none old few g none none_fresh empty = record {
  growth_is = record {
    rises = subst (IsStrictlySortedBy any_cmp) (sym none_fresh) (sorted_nil any_cmp);
    apart = λ x at. absurd (none_listed x (subst (λ xs. Contains xs x) none_fresh at));
    empty = empty;
    room = omega (arith, ap length none, ap length none_fresh);
  };
  shown = subst (IsShown few) (sym (grown_none old few g none))
      (record { among = λ x at. at; header_is = refl; current_is = refl });
  key_is = subst (λ facts. IsKeyOf facts g.key) (sym none) (λ h is. Prim.cc is);
}

pub pairs_shown : (few all : List AnyFact) → IsShown few all → pairs_of few ≡ pairs_of all
pairs_shown few all shown =
    pairs_are few (header_in all) (current_in all) shown.header_is shown.current_is
    ∙ sym (pairs_are all (header_in all) (current_in all) refl refl)

-- ---- one more at the end

module _ (f : Names) where
  pub growing_push : (cs : Entries) (gs : List Growth) (c : Named) (g : Growth)
      → AreGrowing f cs gs → IsGrowing (facts_at (f c.0)) c.1 g
      → AreGrowing f (cs ++ c ∷ []) (gs ++ g ∷ [])
  growing_push [] [] c g a b = (b, tt)
  growing_push [] (h ∷ gs) c g a b = absurd a
  growing_push (d ∷ cs) [] c g a b = absurd a
  growing_push (d ∷ cs) (h ∷ gs) c g a b = (a.0, growing_push cs gs c g a.1 b)

  pub grown_push : (cs : Entries) (gs : List Growth) (c : Named) (g : Growth) → AreGrowing f cs gs
      → grown_contents f (cs ++ c ∷ []) (gs ++ g ∷ [])
      ≡ grown_contents f cs gs ++ (c.0, grown_content (facts_at (f c.0)) c.1 g) ∷ []
  grown_push [] [] c g a = refl
  grown_push [] (h ∷ gs) c g a = absurd a
  grown_push (d ∷ cs) [] c g a = absurd a
  grown_push (d ∷ cs) (h ∷ gs) c g a =
      ap (λ es. (d.0, grown_content (facts_at (f d.0)) d.1 h) ∷ es) (grown_push cs gs c g a.1)

  pub growing_some : (cs : Entries) (c : Named) (gs : List Growth) → AreGrowing f (cs ++ c ∷ []) gs
      → 0 < length gs
  growing_some [] c [] a = absurd a
  growing_some (d ∷ cs) c [] a = absurd a
  growing_some cs c (g ∷ gs) a = omega arith

  pub growing_last : (cs : Entries) (c : Named) (gs : List Growth) (g : Growth)
      → AreGrowing f (cs ++ c ∷ []) (gs ++ g ∷ [])
      → AreGrowing f cs gs × IsGrowing (facts_at (f c.0)) c.1 g
  growing_last [] c [] g a = (tt, a.0)
  growing_last [] c (h ∷ []) g a = absurd a.1
  growing_last [] c (h ∷ i ∷ gs) g a = absurd a.1
  growing_last (d ∷ []) c [] g a = absurd a.1
  growing_last (d ∷ e ∷ cs) c [] g a = absurd a.1
  growing_last (d ∷ cs) c (h ∷ gs) g a =
      let rest = growing_last cs c gs g a.1 in ((a.0, rest.0), rest.1)

  -- ---- names, and what few facts show

  pub names_grown : (cs : Entries) (gs : List Growth) → AreGrowing f cs gs
      → map first (grown_contents f cs gs) ≡ map first cs
  names_grown [] [] a = refl
  names_grown [] (g ∷ gs) a = absurd a
  names_grown (c ∷ cs) [] a = absurd a
  names_grown (c ∷ cs) (g ∷ gs) a = ap (λ ns. c.0 ∷ ns) (names_grown cs gs a.1)

  pub has_grown : (cs : Entries) (gs : List Growth) (q : RecordName) → AreGrowing f cs gs
      → has_content (grown_contents f cs gs) q ≡ has_content cs q
  has_grown [] [] q a = refl
  has_grown [] (g ∷ gs) q a = absurd a
  has_grown (c ∷ cs) [] q a = absurd a
  has_grown (c ∷ cs) (g ∷ gs) q a = ap (λ b. is_name_of c.0 q || b) (has_grown cs gs q a.1)

  pub sum_grown : (w : List AnyFact → ℕ)
      → ((few all : List AnyFact) → IsShown few all → w few ≡ w all) → (cs : Entries)
      (gs : List Growth) → AreGrowing f cs gs
      → sum_by (λ c. w c.1) (grown_contents f cs gs) ≡ sum_by (λ c. w c.1) cs
  sum_grown w same [] [] a = refl
  sum_grown w same [] (g ∷ gs) a = absurd a
  sum_grown w same (c ∷ cs) [] a = absurd a
  sum_grown w same (c ∷ cs) (g ∷ gs) a =
      let all = grown_content (facts_at (f c.0)) c.1 g in
      omega (
        arith,
        sum_by-cons (λ (c : Named). w c.1) c cs,
        sum_by-cons (λ (c : Named). w c.1) (c.0, all) (grown_contents f cs gs),
        same c.1 all a.0.shown,
        sum_grown w same cs gs a.1,
      )

  -- of each content few facts are there
  few_of : (cs : Entries) (gs : List Growth) → AreGrowing f cs gs → (c : Named)
      → Contains (grown_contents f cs gs) c → (d : Named) × Contains cs d × (d.0 ≡ c.0)
  few_of [] gs a c at = absurd (none_listed c at)
  few_of (d ∷ cs) [] a c at = absurd a
  few_of (d ∷ cs) (g ∷ gs) a c at =
      elim (head_or_tail (d.0, grown_content (facts_at (f d.0)) d.1 g) c (grown_contents f cs gs)
      at) [
        | inl is ↦ (d, at_head d cs, ap first is)
        | inr more ↦ let e = few_of cs gs a.1 c more in (e.0, at_tail d e.0 cs e.1, e.2)
      ]

  -- and of few facts the content
  all_of : (cs : Entries) (gs : List Growth) → AreGrowing f cs gs → (d : Named) → Contains cs d
      → (c : Named) × Contains (grown_contents f cs gs) c × IsShown d.1 c.1 × (c.0 ≡ d.0)
  all_of [] gs a d at = absurd (none_listed d at)
  all_of (c ∷ cs) [] a d at = absurd a
  all_of (c ∷ cs) (g ∷ gs) a d at =
      let all : Named = (c.0, grown_content (facts_at (f c.0)) c.1 g) in
      elim (head_or_tail c d cs at) [
        | inl is ↦ (
          all,
          at_head all (grown_contents f cs gs),
          subst (λ (e : Named). IsShown e.1 all.1) is a.0.shown,
          ap first is,
        )
        | inr more ↦ let e = all_of cs gs a.1 d more in
            (e.0, at_tail all e.0 (grown_contents f cs gs) e.1, e.2, e.3)
      ]

  -- what stands under their names stands under those of few facts
  pub still_few : (h : Names) (cs : Entries) (gs : List Growth) → AreGrowing f cs gs
      → ((c : Named) → Contains (grown_contents f cs gs) c → h c.0 ≡ f c.0)
      → (d : Named) → Contains cs d → facts_at (h d.0) ≡ facts_at (f d.0)
  still_few h cs gs a same d at =
      let c = all_of cs gs a d at in
      subst (λ n. facts_at (h n) ≡ facts_at (f n)) c.3 (ap facts_at (same c.0 c.1))

  shares_shown : (q : RowKey) (j : Column) (few all : List AnyFact) → IsShown few all
      → shares (pairs_of few) q j ≡ shares (pairs_of all) q j
  shares_shown q j few all shown = ap (λ ps. shares ps q j) (pairs_shown few all shown)

  -- where there is room for the contents, there is for their few facts
  pub roomy_few : (contests : List Contest) (es cs : Entries) (gs : List Growth)
      → AreGrowing f cs gs → IsRoomy contests es (grown_contents f cs gs) → IsRoomy contests es cs
  roomy_few contests es cs gs a room = record {
    names_rise = subst (IsStrictlySortedBy name_cmp) (names_grown cs gs a) room.names_rise;
    fit_old = room.fit_old;
    fit_new = λ d at. let c = all_of cs gs a d at in
        subst (AreFit contests) (sym (pairs_shown d.1 c.0.1 c.2)) (room.fit_new c.0 c.1);
    room = λ q j. omega (
      arith,
      room.room q j,
      sum_grown (λ facts. shares (pairs_of facts) q j) (shares_shown q j) cs gs a,
    );
  }

  -- where few facts are ready, the contents are
  pub ready_grown : (contests : List Contest) (h : Names) (t : RowKey → Column → ℕ) (m : Rows)
      (cs : Entries) (gs : List Growth) → AreGrowing f cs gs → IsReady contests h t m cs
      → IsReady contests h t m (grown_contents f cs gs)
  ready_grown contests h t m cs gs a ready = record {
    names_rise = subst (IsStrictlySortedBy name_cmp) (sym (names_grown cs gs a)) ready.names_rise;
    there = λ c at. let d = few_of cs gs a c at in
        subst (λ n. IsSome (h n)) d.2 (ready.there d.0 d.1);
    agrees = record {
      cells = λ q j. omega (
        arith,
        ready.agrees.cells q j,
        sum_grown (λ facts. shares (pairs_of facts) q j) (shares_shown q j) cs gs a,
      );
      none_empty = ready.agrees.none_empty;
    };
    fit = λ c at. let d = few_of cs gs a c at in
        subst (λ n. AreFit contests (pairs_of (facts_at (h n)))) d.2 (ready.fit d.0 d.1);
  }

  pub moves_grown : (cs : Entries) (gs : List Growth) → AreGrowing f cs gs
      → sum_by (λ c. length (pairs_of c.1)) (grown_contents f cs gs)
      ≡ sum_by (λ c. length (pairs_of c.1)) cs
  moves_grown cs gs a = sum_grown (λ facts. length (pairs_of facts))
      (λ few all shown. ap length (pairs_shown few all shown)) cs gs a

-- ---- the last of them

module _ (f : Names) {cs : Entries} (rest : Entries) {o : Option Named} {e : Named}
    {gs : List Growth} (more : List Growth) {r : Option Growth} {g : Growth}
    (popped : cs ≡ rest ++ option_to_list o) (some : o ≡ Some e)
    (taken : gs ≡ more ++ option_to_list r) (some_too : r ≡ Some g) (a : AreGrowing f cs gs) where
  was : cs ≡ rest ++ e ∷ []
  was = popped ∙ ap (λ x. rest ++ option_to_list x) some

  grew : gs ≡ more ++ g ∷ []
  grew = taken ∙ ap (λ x. more ++ option_to_list x) some_too

  pub last_grown : AreGrowing f rest more × IsGrowing (facts_at (f e.0)) e.1 g
  last_grown = growing_last f rest e more g
      (subst (λ gs. AreGrowing f (rest ++ e ∷ []) gs) grew (subst (λ cs. AreGrowing f cs gs) was a))

  pub grown_last : grown_contents f cs gs
      ≡ grown_contents f rest more ++ (e.0, grown_content (facts_at (f e.0)) e.1 g) ∷ []
  grown_last = (λ i. grown_contents f (was i) (grew i)) ∙ grown_push f rest more e g last_grown.0

-- ---- where the same stands under their names

pub growing_same : (f h : Names) (cs : Entries) (gs : List Growth)
    → ((c : Named) → Contains cs c → facts_at (h c.0) ≡ facts_at (f c.0))
    → AreGrowing f cs gs → AreGrowing h cs gs
growing_same f h [] [] same a = tt
growing_same f h [] (g ∷ gs) same a = absurd a
growing_same f h (c ∷ cs) [] same a = absurd a
growing_same f h (c ∷ cs) (g ∷ gs) same a = (
  subst (λ old. IsGrowing old c.1 g) (sym (same c (at_head c cs))) a.0,
  growing_same f h cs gs (λ d at. same d (at_tail c d cs at)) a.1,
)

pub grown_same : (f h : Names) (cs : Entries) (gs : List Growth)
    → ((c : Named) → Contains cs c → facts_at (h c.0) ≡ facts_at (f c.0))
    → grown_contents h cs gs ≡ grown_contents f cs gs
grown_same f h [] gs same = refl
grown_same f h (c ∷ cs) [] same = refl
grown_same f h (c ∷ cs) (g ∷ gs) same = λ i.
    (c.0, grown_content (same c (at_head c cs) i) c.1 g)
    ∷ grown_same f h cs gs (λ d at. same d (at_tail c d cs at)) i
