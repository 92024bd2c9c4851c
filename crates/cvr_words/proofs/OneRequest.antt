-- Words ask for one request at most, and those that do have no fault but that memory ran out.
use Rattle.std.proofs.Common.{◌≡◌, ◌∙◌, ◌<◌, ℕ, List, [], ◌∷◌, None, Some, codes, refl}
use Rattle.std.proofs.Common.{ap, sym, subst, arith}
use Rattle.std.specs.Int.NonZero.{non_zero_u32_get}
use Rattle.std.specs.Coded.{le_prop}
use Rattle.std.specs.Str.Parse.{digits_value, without_leading_plus}
use Rattle.std.proofs.lemmas.Option.{same_Some}
use Rattle.clap.specs.Words.{IsAmong, Row, Text, fault_of, subcommand_of}
use Rattle.clap.specs.Kinds.{Kinds}
use Rattle.clap.specs.declared.error.ErrorKind.{ErrorKind}
use Rattle.cvr_words.specs.Fault.{IsFault, IsLoggedFault}
use Rattle.cvr_words.specs.Line.{cvr_line}
use Rattle.cvr_words.specs.Request.{Asks, IsRequest, IsTask, paths_in}
use Rattle.cvr_words.specs.Rows.{IsNumber, IsWord, words_in}
use Rattle.cvr_words.specs.Steps.{bad_place}
use Rattle.cvr_words.specs.declared.fault.LoggedFault.{LoggedFault}
use Rattle.cvr_words.specs.declared.fault.LoggedFault.TheVariants as line
use Rattle.cvr_words.specs.declared.fault.WordFault.{WordFault}
use Rattle.cvr_words.specs.declared.fault.WordFault.TheVariants as fault
use Rattle.cvr_words.specs.declared.request.Request.{Request}
use Rattle.cvr_words.specs.declared.request.Task.{Task}
use Rattle.cvr_words.specs.declared.request.Task.TheVariants.{Merge, Drill}

-- ---- values

one_word : (id : Text) (rows : List Row) (w x : Text) → IsWord id rows w → IsWord id rows x → w ≡ x
one_word id rows w x a b = same_Some w x (sym a ∙ b)

one_number : (id : Text) (low high : ℕ) (rows : List Row) (n m : ℕ) → IsNumber id low high rows n
    → IsNumber id low high rows m → n ≡ m
one_number id low high rows n m a b =
    a.2 ∙ (ap (λ (t : Text). digits_value 10 (without_leading_plus t))
    (same_Some a.0 b.0 (sym a.1 ∙ b.1)) ∙ sym b.2)

-- ---- requests

one_task : (name : Text) (rows : List Row) (t u : Task) → IsTask name rows t → IsTask name rows u
    → t ≡ u
one_task name rows (Merge d v n) (Merge d2 v2 n2) a b =
    let date = one_word (codes "DATE") rows d d2 a.1 b.1 in
    let device = one_word (codes "DEVICE") rows v v2 a.2 b.2 in
    let same = one_number (codes "VOLUME") 1 4294967295 rows (non_zero_u32_get n)
    (non_zero_u32_get n2) a.3 b.3 in
    let volume : n ≡ n2 = subst (λ (j : ℕ). (h : 0 < j) → n ≡ record { value = j; ok = h }) same
    (λ h. λ i. record { value = n.value; ok = le_prop n.ok h i }) n2.ok in
    λ i. Merge (date i) (device i) (volume i)
one_task name rows (Drill n s) (Drill n2 s2) a b =
    let offices = one_number (codes "OFFICES") 1 64 rows n n2 a.1 b.1 in
    let steps = a.3 ∙ sym b.3 in
    λ i. Drill (offices i) (steps i)
one_task name rows t u a b = grind arith

asked_once : (name : Text) (rows : List Row) (r s : Request) → Asks name rows r → Asks name rows s
    → r ≡ s
asked_once name rows r s a b =
    let task = one_task name rows r.task s.task a.task b.task in
    let def = one_word (codes "DEF") rows r.def s.def a.def b.def in
    let paths = a.paths ∙ (ap (λ t. paths_in t rows) task ∙ sym b.paths) in
    λ i. record { task = task i; def = def i; paths = paths i }

same_pair : (words : List Text) (p q : Text × List Row) → subcommand_of cvr_line words ≡ Some p
    → subcommand_of cvr_line words ≡ Some q → p ≡ q
same_pair words p q a b = same_Some p q (sym a ∙ b)

pub one_request : (words : List Text) (r s : Request) → IsRequest words r → IsRequest words s
    → r ≡ s
one_request words r s a b =
    let same = same_pair words (b.1, b.2) (a.1, a.2) b.3 a.3 in
    asked_once a.1 a.2 r s a.4 (subst (λ (p : Text × List Row). Asks p.0 p.1 s) same b.4)

-- ---- and no fault

no_kind : (kinds : Kinds) (k : ErrorKind) → kinds ≡ [] → IsAmong k kinds → ⊥
no_kind [] k e h = absurd h
no_kind (x ∷ xs) k e h = cc

fine_steps : (name : Text) (rows : List Row) (t : Task) → IsTask name rows t → name ≡ codes "drill"
    → bad_place (words_in (codes "STEP") rows) ≡ None
fine_steps name rows t a e = grind arith

no_bad_step : (words : List Text) (r : Request) (rows : List Row) (place : ℕ) → IsRequest words r
    → subcommand_of cvr_line words ≡ Some (codes "drill", rows)
    → bad_place (words_in (codes "STEP") rows) ≡ Some place → ⊥
no_bad_step words r rows place a is bad =
    let same = same_pair words (a.1, a.2) (codes "drill", rows) a.3 is in
    let fine = fine_steps a.1 a.2 r.task a.4.task (ap (λ (p : Text × List Row). p.0) same) in
    let none : bad_place (words_in (codes "STEP") rows) ≡ None =
    sym (ap (λ (p : Text × List Row). bad_place (words_in (codes "STEP") p.1)) same) ∙ fine in
    let both : None ≡ Some place = sym none ∙ bad in cc

pub no_fault_but_memory : (words : List Text) (r : Request) (f : WordFault) → IsRequest words r
    → IsFault words f → f ≡ fault.Memory
no_fault_but_memory words r (fault.Refused t) a h =
    absurd (no_kind (fault_of cvr_line words) h.0 a.0 h.1)
no_fault_but_memory words r (fault.Help t) a h = absurd (no_kind (fault_of cvr_line words) _ a.0 h)
no_fault_but_memory words r (fault.BadStep n) a h = absurd (no_bad_step words r h.1 n a h.2 h.3)
no_fault_but_memory words r fault.Memory a h = refl

pub no_line_fault_but_memory : (words : List Text) (r : Request) (f : LoggedFault) → IsRequest words r
    → IsLoggedFault words f → f ≡ line.Memory
no_line_fault_but_memory words r (line.Refused t) a h =
    absurd (no_kind (fault_of cvr_line words) h.0 a.0 h.1)
no_line_fault_but_memory words r (line.Help t) a h =
    absurd (no_kind (fault_of cvr_line words) _ a.0 h)
no_line_fault_but_memory words r (line.BadStep n s) a h =
    absurd (no_bad_step words r h.1 n a h.2 h.3.0)
no_line_fault_but_memory words r line.Memory a h = refl
