-- A text that is written in pieces.
use Rattle.std.proofs.Common.{◌≡◌, ◌≢◌, ℕ, List, ◌∷◌, ◌++◌, Bool, false, Option, Result, Ok, Err}
use Rattle.std.proofs.Common.{refl, sym, ap, ◌∙◌, append_assoc, append-nil, [], Some, None}
use Rattle.std.specs.Result.{IsErrAnd}
use Rattle.cdf_types.specs.Device.{Taken, Appends, taken_with, AppendsPrefix, AppendsProperPrefix}
use Rattle.cdf_types.proofs.Lemmas.{appended_twice}
use Rattle.cvr_report.specs.Writes.{Writes, WritesOrLess, is_write_device}
use Rattle.cvr_report.specs.declared.fault.WriteFault.{WriteFault}
use Rattle.cvr_report.specs.declared.fault.WriteFault.TheVariants.{Memory}

pub appended_none : (o : Option (List ℕ)) → o ≡ taken_with o []
appended_none None = refl
appended_none (Some t) = ap Some (sym (append-nil t))

-- ---- a prefix, which may be all

-- a proper prefix is a prefix
pub some_prefix : (before after : Taken) (text : List ℕ) → AppendsProperPrefix before after text
    → AppendsPrefix before after text
some_prefix before after text (head, rest, e, left, t) = (head, rest, e, t)

pub writes : {T : Type 0} (before after : Taken) (r : Result T WriteFault) (text : List ℕ)
    → WritesOrLess before after r text → Writes before after r text
writes before after (Ok x) text w = w
writes before after (Err e) text w = (some_prefix before after text w.0, w.1)

-- a prefix of a first piece is a prefix of the whole
prefix_of : (before after : Taken) (a b : List ℕ) → AppendsPrefix before after a
    → AppendsPrefix before after (a ++ b)
prefix_of before after a b (head, rest, e, t) =
    (head, rest ++ b, ap (λ s. s ++ b) e ∙ append_assoc head rest b, t)

-- a fault in a piece is a fault in the whole
pub cut_short : {T : Type 0} (before after : Taken) (r : Result T WriteFault) (e : WriteFault)
    (a b : List ℕ) → IsErrAnd r (λ x. x ≡ e)
    → AppendsPrefix before after a × (after.failed ≡ is_write_device e)
    → Writes before after r (a ++ b)
cut_short before after (Ok x) e a b h w = absurd h
cut_short before after (Err x) e a b h w =
    (prefix_of before after a b w.0, w.1 ∙ sym (ap is_write_device h))

-- after a piece that was written, what the next call writes
pub goes_on : {T : Type 0} (before mid after : Taken) (r : Result T WriteFault) (a b : List ℕ)
    → Appends before mid a → Writes mid after r b → Writes before after r (a ++ b)
goes_on before mid after (Ok x) a b m w =
    (w.0 ∙ ap (λ o. taken_with o b) m ∙ appended_twice before.bytes a b, w.1)
goes_on before mid after (Err x) a b m (prefix, f) = (further prefix, f)
  where
    further : AppendsPrefix mid after b → AppendsPrefix before after (a ++ b)
    further (head, rest, e, t) = (
      a ++ head,
      rest,
      ap (λ s. a ++ s) e
          ∙ sym (append_assoc a head rest),
      t ∙ ap (λ o. taken_with o head) m
          ∙ appended_twice before.bytes a head,
    )

-- ---- a prefix that is not all

-- a text that ends with some bytes has some
pub not_empty : (a b : List ℕ) → b ≢ [] → a ++ b ≢ []
not_empty [] b some is = some is
not_empty (x ∷ a) b some is = absurd (Prim.cc is)

-- a prefix of a first piece is not all, where another follows
proper_prefix_of : (before after : Taken) (a b : List ℕ) → b ≢ [] → AppendsPrefix before after a
    → AppendsProperPrefix before after (a ++ b)
proper_prefix_of before after a b some (head, rest, e, t) =
    (head, rest ++ b, ap (λ s. s ++ b) e ∙ append_assoc head rest b, not_empty rest b some, t)

-- a fault in a piece before another
pub cut_before : {T : Type 0} (before after : Taken) (r : Result T WriteFault) (e : WriteFault)
    (a b : List ℕ) → b ≢ [] → IsErrAnd r (λ x. x ≡ e)
    → AppendsPrefix before after a × (after.failed ≡ is_write_device e)
    → WritesOrLess before after r (a ++ b)
cut_before before after (Ok x) e a b some h w = absurd h
cut_before before after (Err x) e a b some h w =
    (proper_prefix_of before after a b some w.0, w.1 ∙ sym (ap is_write_device h))

-- after a piece that was written, what the next call writes
pub then_less : {T : Type 0} (before mid after : Taken) (r : Result T WriteFault) (a b : List ℕ)
    → Appends before mid a → WritesOrLess mid after r b → WritesOrLess before after r (a ++ b)
then_less before mid after (Ok x) a b m w =
    (w.0 ∙ ap (λ o. taken_with o b) m ∙ appended_twice before.bytes a b, w.1)
then_less before mid after (Err x) a b m (prefix, f) = (further prefix, f)
  where
    further : AppendsProperPrefix mid after b → AppendsProperPrefix before after (a ++ b)
    further (head, rest, e, left, t) = (
      a ++ head,
      rest,
      ap (λ s. a ++ s) e
          ∙ sym (append_assoc a head rest),
      left,
      t ∙ ap (λ o. taken_with o head) m
          ∙ appended_twice before.bytes a head,
    )

-- out of memory, nothing of a text is written
pub no_memory : {T : Type 0} (before : Taken) (r : Result T WriteFault) (text : List ℕ) → text ≢ []
    → IsErrAnd r (λ x. x ≡ Memory) → before.failed ≡ false → WritesOrLess before before r text
no_memory before (Ok x) text some h works = absurd h
no_memory before (Err x) text some h works =
    (([], text, refl, some, appended_none before.bytes), works ∙ sym (ap is_write_device h))
