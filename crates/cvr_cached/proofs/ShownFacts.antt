-- A few facts that show what all facts of a record do.
use Rattle.std.proofs.Common.{◌≡◌, ℕ, true, false, List, [], ◌++◌, length, get_or, Contains, inl}
use Rattle.std.proofs.Common.{inr, Option, Some, None, refl, sym, ap, ◌∙◌, subst}
use Rattle.std.specs.declared.result.Result.{Result}
use Rattle.std.specs.declared.result.Result.TheVariants.{Ok, Err}
use Rattle.std.specs.Result.{result_ok}
use Rattle.std.specs.List.Sorted.{IsStrictlySortedBy, IsBinarySearchResult, IsSearchInRange}
use Rattle.std.specs.Option.{IfSome, option_map_or, option_to_list}
use Rattle.std.specs.FinSet.{contains}
use Rattle.std.proofs.lemmas.Bool.{false≢true}
use Rattle.std.proofs.lemmas.List.Elements.{Contains-get_or, Contains-append_left}
use Rattle.std.proofs.lemmas.List.Elements.{Contains-append_right, Contains-append_cases}
use Rattle.std.proofs.lemmas.Option.{slice_get-get_or, slice_get_within, get_or_from_slice_get}
use Rattle.cvr_fact_types.specs.declared.header.HeaderFact.{HeaderFact}
use Rattle.cvr_fact_types.specs.declared.snapshot.SnapshotFact.{SnapshotFact}
use Rattle.cvr_facts.proofs.Lemmas.{at_head, head_or_tail, none_listed}
use Rattle.cvr_office.specs.declared.any_fact.AnyFact.{AnyFact}
use Rattle.cvr_office.specs.declared.any_fact.AnyFact.TheVariants as any
use Rattle.cvr_office.specs.Place.{fact_of, place_exact, any_cmp}
use Rattle.cvr_office.specs.Plain.{set_of, IsPut}
use Rattle.cvr_office.specs.Runs.{as_header, as_snapshot}
use Rattle.cvr_office.proofs.Lemmas.{of_snapshot, of_header}
use Rattle.cvr_cached.specs.Fresh.{AreApart}
use Rattle.cvr_lists.proofs.Lemmas.{search_is}
use Rattle.cvr_cached.specs.Contents.{header_at, current_at, header_in, current_in, IsRemembered}
use Rattle.cvr_cached.proofs.Chosen.{shown_header, shown_current}
use Rattle.cvr_cached.proofs.FreshFacts.{Once, once_rising, alike_in, alike_from, more_in, old_in}
use Rattle.cvr_cached.specs.Shown.{fact_at, HasChosen, IsShown}

-- ---- the fact at a place

fact_in : (facts : List AnyFact) (place : Option ℕ) (x : AnyFact) → fact_at facts place ≡ Some x
    → Contains facts x
fact_in facts None x is = Prim.cc is
fact_in facts (Some i) x is =
    (i, slice_get_within facts i x is, get_or_from_slice_get facts i x x is)

pub fact_among : (few facts : List AnyFact) → ((x : AnyFact) → Contains few x → Contains facts x)
    → (place : Option ℕ) → IfSome (fact_at few place) (Contains facts)
fact_among few facts part place =
    elim (fact_at few place) as (λ o. fact_at few place ≡ o → IfSome o (Contains facts)) [
      | None ↦ λ e. tt
      | Some x ↦ λ e. part x (fact_in few place x e)
    ] refl

pub header_at-fact_at : (facts : List AnyFact) (place : Option ℕ)
    → header_at facts place ≡ option_map_or as_header (fact_at facts place) None
header_at-fact_at facts None = refl
header_at-fact_at facts (Some i) = refl

pub current_at-fact_at : (facts : List AnyFact) (place : Option ℕ)
    → current_at facts place ≡ option_map_or as_snapshot (fact_at facts place) None
current_at-fact_at facts None = refl
current_at-fact_at facts (Some i) = refl

header_there : (o : Option AnyFact) (h : HeaderFact) → option_map_or as_header o None ≡ Some h
    → o ≡ Some (any.Header h)
header_there None h is = Prim.cc is
header_there (Some x) h is = ap Some (of_header x h is)

current_there : (o : Option AnyFact) (s : SnapshotFact) → option_map_or as_snapshot o None ≡ Some s
    → o ≡ Some (any.Snapshot s)
current_there None s is = Prim.cc is
current_there (Some x) s is = ap Some (of_snapshot x s is)

-- ---- the header and the current snapshot of a content

listed : (o : Option AnyFact) (x : AnyFact) → o ≡ Some x → Contains (option_to_list o) x
listed o x is = subst (λ p. Contains (option_to_list p) x) (sym is) (at_head x [])

from_listed : (o : Option AnyFact) (x : AnyFact) → Contains (option_to_list o) x → o ≡ Some x
from_listed None x at = absurd (none_listed x at)
from_listed (Some y) x at =
    elim (head_or_tail y x [] at) [
      | inl is ↦ ap Some is
      | inr none ↦ absurd (none_listed x none)
    ]

pub has_chosen : (facts : List AnyFact) (head now : Option ℕ)
    → header_at facts head ≡ header_in facts → current_at facts now ≡ current_in facts
    → HasChosen (option_to_list (fact_at facts head) ++ option_to_list (fact_at facts now)) facts
has_chosen facts head now head_is now_is =
    let one = option_to_list (fact_at facts head) in
    let two = option_to_list (fact_at facts now) in
    record {
      among = λ x at. elim (Contains-append_cases one two x at) [
        | inl a ↦ fact_in facts head x (from_listed (fact_at facts head) x a)
        | inr b ↦ fact_in facts now x (from_listed (fact_at facts now) x b)
      ];
      header = λ h is. Contains-append_left one two (any.Header h)
          (listed (fact_at facts head) (any.Header h) (header_there (fact_at facts head) h
          (sym (header_at-fact_at facts head) ∙ (head_is ∙ is))));
      current = λ s is. Contains-append_right one two (any.Snapshot s)
          (listed (fact_at facts now) (any.Snapshot s) (current_there (fact_at facts now) s
          (sym (current_at-fact_at facts now) ∙ (now_is ∙ is))));
    }

-- ---- fresh facts beside these show what all do

pub shown_is : (old fresh some few new : List AnyFact) → IsStrictlySortedBy any_cmp old
    → IsStrictlySortedBy any_cmp fresh → AreApart old fresh → HasChosen some old
    → IsPut fresh some few → IsPut old fresh new → IsShown few new
shown_is old fresh some few new rises fresh_rises apart has put all =
    let old_once = once_rising old rises in
    let fresh_once = once_rising fresh fresh_rises in
    let some_once : Once some = λ x y a b same.
    old_once x y (has.among x a) (has.among y b) same in
    let other : AreApart fresh some = λ x at. elim (contains (set_of fresh) (fact_of x)) as
    (λ b. contains (set_of fresh) (fact_of x) ≡ b → b ≡ false) [
      | true ↦ λ e.
          let y = alike_from fresh (fact_of x) e in
          absurd (false≢true (sym (apart y.0 y.1)
          ∙ subst (λ f. contains (set_of old) f ≡ true) (sym y.2)
          (alike_in old x (has.among x at))))
      | false ↦ λ _. refl
    ] refl in
    let from_fresh : (x : AnyFact) → Contains fresh x → Contains few x =
    old_in fresh some few fresh_once some_once other put in
    let from_some : (x : AnyFact) → Contains some x → Contains few x =
    more_in fresh some few fresh_once some_once other put in
    let part : (x : AnyFact) → Contains few x → Contains new x = λ x at. elim (put.from x at) [
      | inl a ↦ more_in old fresh new old_once fresh_once apart all x a
      | inr b ↦ old_in old fresh new old_once fresh_once apart all x (has.among x b)
    ] in
    record {
      among = part;
      header_is = shown_header old fresh some few new rises fresh_rises apart has.among has.header
          from_fresh from_some part put all;
      current_is = shown_current old fresh some few new rises fresh_rises apart has.among
          has.current from_fresh from_some part put all;
    }

-- ---- among all facts

-- a search for a fact that is among them ends at it
pub found_at : (facts : List AnyFact) (x : AnyFact) (r : Result ℕ ℕ)
    → IsStrictlySortedBy any_cmp facts → Contains facts x → IsSearchInRange r (length facts)
    → IsBinarySearchResult (λ y. any_cmp y x) facts r → fact_at facts (result_ok r) ≡ Some x
found_at facts x (Ok i) rises at bound found =
    slice_get-get_or facts i x bound ∙ ap Some (once_rising facts rises (get_or facts i x) x
    (Contains-get_or facts i x bound) at
    (place_exact (fact_of (get_or facts i x)) (fact_of x) (found x)))
found_at facts x (Err i) rises at bound found =
    absurd (false≢true (sym (search_is facts x (Err i) rises bound found) ∙ alike_in facts x at))

-- what few facts remember is remembered of all
pub remembered_among : (few facts : List AnyFact) (head now head' now' : Option ℕ)
    → IsRemembered few head now → IsStrictlySortedBy any_cmp facts → IsShown few facts
    → fact_at facts head' ≡ fact_at few head → fact_at facts now' ≡ fact_at few now
    → IsRemembered facts head' now'
remembered_among few facts head now head' now' was rises shown head_at now_at = record {
  rises = rises;
  head_is = header_at-fact_at facts head' ∙ (ap (λ o. option_map_or as_header o None) head_at
      ∙ (sym (header_at-fact_at few head) ∙ (was.head_is ∙ shown.header_is)));
  now_is = current_at-fact_at facts now' ∙ (ap (λ o. option_map_or as_snapshot o None) now_at
      ∙ (sym (current_at-fact_at few now) ∙ (was.now_is ∙ shown.current_is)));
}
