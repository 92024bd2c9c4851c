-- One record more is read.
use Rattle.std.proofs.Common.{◌≡◌, ℕ, ◌+◌, List, [], ◌∷◌, ◌++◌, length, map, Option, None, Some}
use Rattle.std.proofs.Common.{All, option_map, false, refl, sym, ◌∙◌, ◌<◌, ◌^◌, arith}
use Rattle.std.proofs.lemmas.List.{append-nil, length-append, length-map, append_assoc, map-append}
use Rattle.std.proofs.lemmas.List.Elements.{All-push, All-pop}
use Rattle.std.specs.Option.{option_or}
use Rattle.serde_json.specs.Data.{Data, array}
use Rattle.cdf_node.specs.View.{items_of}
use Rattle.serde_json.specs.Written.{has_float}
use Rattle.cdf_types.specs.declared.report.Cvr.{Cvr}
use Rattle.cdf_form.specs.declared.table.Group.TheVariants as group
use Rattle.cdf_form.specs.declared.table.Leaf.TheVariants as leaf
use Rattle.cdf_form.specs.declared.table.Key.TheVariants as key
use Rattle.cdf_form.specs.Form.{Step, Fault, at_item, deeper_fault, under, first, float_faults}
use Rattle.cdf_form.specs.Form.{items_floats, items_faults}
use Rattle.cdf_form.specs.Found.{path_of}
use Rattle.cdf_form.specs.Records.{cvr_faults, cvrs_faults}
use Rattle.cdf_form.proofs.Laws.{whole_of}
use Rattle.cdf_form.proofs.Lemmas.{first-under}
use Rattle.cdf_typed.specs.Typed.{cvr_of}
use Rattle.cdf_form.specs.declared.found.Path.{Path as Found}
use Rattle.cdf_check.specs.declared.record_names.RecordNames.{RecordNames}
use Rattle.cdf_check.specs.declared.seen.Seen.{Seen}
use Rattle.cdf_check.specs.declared.seen.Seen.TheVariants.{Right, Unsettled, Form, Fraction}
use Rattle.cdf_types.specs.declared.body.Body.{Body}
use Rattle.cdf_form.specs.declared.found.Found.{Found as Told}
use Rattle.cdf_definition.specs.Paths as paths
use Rattle.cdf_definition.specs.Paths.{Path, below, below_each}
use Rattle.cdf_definition.specs.Frame.{Frame}
use Rattle.cdf_check.specs.Within.{AreNamed}
use Rattle.cdf_definition.specs.Naming.{NamesOwn}
use Rattle.cdf_check.specs.Seen.{in_file, fraction_seen, fault_seen, AreKept, IsKept, IsSeen}
use Rattle.cdf_definition.proofs.Lemmas.{either, none_right}
use Rattle.cdf_definition.proofs.Lemmas.{first_below, first_or}

pub or_none : {A : Type 0} (o p q : Option A) → o ≡ None → q ≡ p → q ≡ option_or o p
or_none o p q none is = rw none is

-- ---- one record more

-- what the records have, one after another
gathered-append : {A : Type 0} (f : ℕ → Data → List A) (all : List Data → ℕ → List A)
    → ((i : ℕ) → all [] i ≡ []) → ((d : Data) (ds : List Data) (i : ℕ)
    → all (d ∷ ds) i ≡ f i d ++ all ds (i + 1))
    → (ds : List Data) (d : Data) (i place : ℕ) → place ≡ i + length ds
    → all (ds ++ d ∷ []) i ≡ all ds i ++ f place d
gathered-append f all none next [] d i place at =
    let same : place ≡ i = omega (arith, at) in rw (next, none, none, same, append-nil)
gathered-append f all none next (e ∷ ds) d i place at = rw (
  next,
  next,
  gathered-append f all none next ds d (i + 1) place (omega (arith, at)),
  append_assoc,
)

first_next : (xs ys : List Fault) (s : Step)
    → first (xs ++ under s ys) ≡ option_or (first xs) (option_map (deeper_fault s) (first ys))
first_next [] ys s = first-under s ys
first_next (x ∷ xs) ys s = refl

mapped_next : (f : Fault → List ℕ) (o p : Option Fault) (s : Step)
    → option_map f (option_or o (option_map (deeper_fault s) p))
    ≡ option_or (option_map f o) (option_map (λ x. f (deeper_fault s x)) p)
mapped_next f o p s = grind arith

module _ (ds : List Data) (d : Data) (place : ℕ) (at : place ≡ length ds) where
  pub fraction_next : option_map in_file (first (float_faults (array (items_of (ds ++ d ∷ [])))))
      ≡ option_or (option_map in_file (first (float_faults (array (items_of ds)))))
      (option_map (λ f. in_file (deeper_fault (at_item place) f)) (first (float_faults d)))
  fraction_next =
      let all = gathered-append (λ i e. under (at_item i) (float_faults e))
      (λ es i. items_floats (items_of es) i) (λ i. refl) (λ e es i. refl) ds d 0 place
      (omega (arith, at)) in
      rw (all, first_next) (mapped_next in_file (first (items_floats (items_of ds) 0))
      (first (float_faults d)) (at_item place))

  pub form_next : first (cvrs_faults (items_of (ds ++ d ∷ [])))
      ≡ option_or (first (cvrs_faults (items_of ds)))
      (option_map (deeper_fault (at_item place)) (first (cvr_faults d)))
  form_next =
      let all = gathered-append (λ i e. under (at_item i) (cvr_faults e))
      (λ es i. items_faults (items_of es) (leaf.Object group.Cvrs) key.Free i []) (λ i. refl)
      (λ e es i. refl) ds d 0 place (omega (arith, at)) in
      rw all (first_next (cvrs_faults (items_of ds)) (cvr_faults d) (at_item place))

  pub place_next : (f : Data → List Path)
      → first (below_each f (ds ++ d ∷ []) 0)
      ≡ option_or (first (below_each f ds 0)) (option_map (λ p. at_item place ∷ p) (first (f d)))
  place_next f =
      let all = gathered-append (λ i e. below (at_item i) (f e)) (below_each f) (λ i. refl)
      (λ e es i. refl) ds d 0 place (omega (arith, at)) in
      rw (all, first_or, first_below)

pub whole_first : (d : Data) → first (float_faults d) ≡ None → has_float d ≡ false
whole_first d none = whole_of d (none_right (float_faults d) none)

-- ---- what is seen

pub no_fraction : {T : Type 0} (seen : Seen T) → ((path : Body) → seen ≡ Fraction path → ⊥)
    → fraction_seen seen ≡ None
no_fraction (Fraction path) other = absurd (other path refl)
no_fraction seen other = refl

pub no_fault : {T : Type 0} (seen : Seen T) → ((found : Told) → seen ≡ Form found → ⊥)
    → fault_seen seen ≡ None
no_fault (Form found) other = absurd (other found refl)
no_fault seen other = refl

-- one names what is neither
pub never_more : (frame : Frame) (ds : List Data) (d : Data)
    → (All (NamesOwn frame) ds → NamesOwn frame d → ⊥) → All (NamesOwn frame) (ds ++ d ∷ []) → ⊥
never_more frame ds d never all =
    let own = All-pop (NamesOwn frame) (ds ++ d ∷ []) ds (Some d) refl all in never own.0 own.1

module _ {T : Type 0} {keeps : List Cvr → T → Type 0} {frame : Frame} {ds : List Data} (d : Data)
    {place : ℕ} (at : place ≡ length ds) where
  -- what is kept of one record more
  pub kept_more : {names more : RecordNames} {kept next : T} → AreKept keeps frame ds names kept
      → NamesOwn frame d → (AreNamed ds names → AreNamed (ds ++ d ∷ []) more)
      → ((cs : List Cvr) → place ≡ length cs → keeps cs kept
      → keeps (cs ++ cvr_of frame.contests d ∷ []) next)
      → AreKept keeps frame (ds ++ d ∷ []) more next
  kept_more h own named records =
      record {
        settled = All-push (NamesOwn frame) ds d h.settled own;
        names = named h.names;
        records = rw map-append (records (map (cvr_of frame.contests) ds)
            (at ∙ sym (length-map ds (cvr_of frame.contests))) h.records);
      }

  -- what is seen of one record more
  pub seen_more : {seen more : Seen T} → place < 2 ^ 63 → IsSeen keeps frame ds seen
      → fraction_seen more ≡ option_or (fraction_seen seen)
      (option_map (λ f. in_file (deeper_fault (at_item place) f)) (first (float_faults d)))
      → (fraction_seen more ≡ None → fault_seen more ≡ option_or (fault_seen seen)
      (option_map (deeper_fault (at_item place)) (first (cvr_faults d))))
      → IsKept keeps frame (ds ++ d ∷ []) more → IsSeen keeps frame (ds ++ d ∷ []) more
  seen_more short h fraction form kept =
      let n = length-append ds (d ∷ []) in
      record {
        few = omega (arith, n, at, short);
        fraction = cc (h.fraction, fraction, fraction_next ds d place at);
        form = λ none.
            cc (h.form (either _ _ (sym fraction ∙ none)).0, form none, form_next ds d place at);
        kept = kept;
      }

-- what is kept where one named what is neither before
pub kept_before : {T : Type 0} (keeps : List Cvr → T → Type 0) (frame : Frame) (ds : List Data)
    (d : Data) (seen : Seen T) → ((names : RecordNames) (kept : T) → seen ≡ Right names kept → ⊥)
    → IsKept keeps frame ds seen → IsKept keeps frame (ds ++ d ∷ []) seen
kept_before keeps frame ds d (Right names kept) other h = absurd (other names kept refl)
kept_before keeps frame ds d Unsettled other h = never_more frame ds d (λ all _. h all)
kept_before keeps frame ds d seen other h = tt

-- where the first path wasn't found, there is none
pub no_path : (o : Option Found) (ps : List paths.Path) → option_map path_of o ≡ first ps → o ≡ None
    → ps ≡ []
no_path o [] told none = refl
no_path o (p ∷ ps) told none = cc
