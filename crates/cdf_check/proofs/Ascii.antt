-- What is answered for files whose bytes are all ASCII.
use Rattle.std.proofs.Common.{◌≡◌, ◌≢◌, ℕ, List, [], ◌∷◌, length, true, false}
use Rattle.std.proofs.Common.{true≢false, Option, bytes_eq, sym, ap, subst, ◌∙◌}
use Rattle.std.specs.Prelude.{nat_le, unwrap_or}
use Rattle.serde_json.specs.Data.{null}
use Rattle.serde_json.specs.Read.{read}
use Rattle.cdf_types.specs.declared.fault.ReadFault.{ReadFault}
use Rattle.cdf_form.specs.Reading.{max_file, of_value}
use Rattle.cdf_definition.specs.Frame.{Frame, frame_of, IsSame}
use Rattle.cdf_definition.proofs.Lemmas.{frame_of-put, frame_put, ascii_value, all_ascii}
use Rattle.cdf_definition.specs.Acceptance.{own_refusal, value_refusal, first_unsound}
use Rattle.cdf_definition.specs.Acceptance.{first_refusal, frame_in}

pub ascii_frame : (bytes : List ℕ) → all_ascii bytes ≡ true
    → frame_in bytes ≡ frame_put (unwrap_or (read bytes) null)
ascii_frame bytes a = ap (λ o. frame_of (unwrap_or o null)) (ascii_value bytes a)
    ∙ frame_of-put (unwrap_or (read bytes) null)

pub ascii_unsound : (bytes : List ℕ) (r : Option ReadFault) → all_ascii bytes ≡ true
    → nat_le (length bytes) max_file ≡ true
    → of_value own_refusal (read bytes) ≡ r → first_unsound bytes ≡ r
ascii_unsound bytes r a l e = rw (l, ascii_value bytes a) e

pub ascii_refusal : (def bytes : List ℕ) (r : Option ReadFault) → all_ascii def ≡ true
    → all_ascii bytes ≡ true → nat_le (length bytes) max_file ≡ true
    → of_value (value_refusal (frame_put (unwrap_or (read def) null))) (read bytes) ≡ r
    → first_refusal (frame_in def) bytes ≡ r
ascii_refusal def bytes r d a l e = rw (l, ascii_value bytes a)
    (ap (λ f. of_value (value_refusal f) (read bytes)) (ascii_frame def d) ∙ e)

-- ---- definitions of two files

abbrev frame_read : List ℕ → Frame
frame_read bytes = frame_put (unwrap_or (read bytes) null)

pub ascii_same : (a b : List ℕ) → all_ascii a ≡ true → all_ascii b ≡ true
    → IsSame (frame_read a) (frame_read b) → IsSame (frame_in a) (frame_in b)
ascii_same a b p q h = subst (λ f. IsSame f (frame_in b)) (sym (ascii_frame a p))
    (subst (λ f. IsSame (frame_read a) f) (sym (ascii_frame b q)) h)

pub ascii_same_back : (a b : List ℕ) → all_ascii a ≡ true → all_ascii b ≡ true
    → IsSame (frame_in a) (frame_in b) → IsSame (frame_read a) (frame_read b)
ascii_same_back a b p q h = subst (λ f. IsSame f (frame_read b)) (ascii_frame a p)
    (subst (λ f. IsSame (frame_in a) f) (ascii_frame b q) h)

abbrev first_text : List (List ℕ) → List ℕ
first_text [] = []
first_text (t ∷ ts) = t

-- lists whose first texts differ
pub apart : (xs ys : List (List ℕ)) → bytes_eq (first_text xs) (first_text xs) ≡ true
    → bytes_eq (first_text xs) (first_text ys) ≡ false → xs ≢ ys
apart xs ys p q e = true≢false (sym p ∙ (ap (λ ts. bytes_eq (first_text xs) (first_text ts)) e ∙ q))
