-- What is held of files: facts. Texts and bodies are lists of bytes. (Classes ReportingDevice, CVR
-- and CVRSnapshot of NIST SP 1500-103; that they are facts is this project's own.)
use Rattle.std.specs.Prelude.{◌≡◌, ℕ, List, [], ◌∷◌}
use Rattle.std.proofs.Common.{refl, ap, ◌∙◌, sym}
use Rattle.std.specs.Coded.{Coded, code_by, coded_list, coded_ℕ}
use Rattle.std.specs.declared.cmp.Ordering.{Ordering}
use Rattle.std.specs.Ordering.{nat_cmp, on, ordering_then}
use Rattle.std.specs.Cmp.{IsTotalOrder}
use Rattle.std.specs.Cmp.Lexicographic.{slice_cmp, lists_total, nat_list_cmp_total}
use Rattle.std.proofs.lemmas.Cmp.{on_total}
use Rattle.std.specs.FinSet as set
use Rattle.std.specs.FinMap.{IsAntisymmetric, nat_cmp-IsAntisymmetric, slice_cmp-IsAntisymmetric}
use Rattle.cvr_fact_types.specs.declared.name.RecordName.{RecordName}

-- A fact: a device (id and body), a header of a record (device, unique and body), or a snapshot of
-- a record (device, unique, `@id` and body). Bodies are compact texts.
pub data Fact : Type 0 where
  Device : (id body : List ℕ) → Fact
  Header : (device unique body : List ℕ) → Fact
  Snapshot : (device unique id body : List ℕ) → Fact

-- texts by their bytes
abbrev pub text_cmp : List ℕ → List ℕ → Ordering
text_cmp = slice_cmp nat_cmp

-- names of records by device, then by unique
abbrev pub name_cmp : RecordName → RecordName → Ordering
name_cmp a b = ordering_then (text_cmp a.device b.device) (text_cmp a.unique b.unique)

-- a fact as the list of its texts, whose number gives the kind
abbrev pub texts : Fact → List (List ℕ)
texts (Device i b) = i ∷ b ∷ []
texts (Header d u b) = d ∷ u ∷ b ∷ []
texts (Snapshot d u i b) = d ∷ u ∷ i ∷ b ∷ []

-- the fact of these texts
abbrev pub of_texts : List (List ℕ) → Fact
of_texts [] = Device [] []
of_texts (a ∷ []) = Device a []
of_texts (a ∷ b ∷ []) = Device a b
of_texts (a ∷ b ∷ c ∷ []) = Header a b c
of_texts (a ∷ b ∷ c ∷ d ∷ _) = Snapshot a b c d

pub of_texts-texts : (f : Fact) → of_texts (texts f) ≡ f
of_texts-texts (Device i b) = refl
of_texts-texts (Header d u b) = refl
of_texts-texts (Snapshot d u i b) = refl

abbrev pub coded_fact : Coded Fact
coded_fact = code_by (List (List ℕ)) (coded_list (coded_list coded_ℕ)) texts of_texts of_texts-texts

-- some order of facts, to keep sets of them: it means nothing
abbrev pub fact_cmp : Fact → Fact → Ordering
fact_cmp = on texts (slice_cmp text_cmp)

pub fact_total : IsTotalOrder fact_cmp
fact_total = on_total texts (lists_total nat_list_cmp_total)

pub fact_exact : IsAntisymmetric fact_cmp
fact_exact f g e =
    sym (of_texts-texts f) ∙ (ap of_texts
    (slice_cmp-IsAntisymmetric (slice_cmp-IsAntisymmetric nat_cmp-IsAntisymmetric) (texts f)
    (texts g) e) ∙ of_texts-texts g)

-- A finite set of facts. To join two is to take their union.
abbrev pub Facts : Type 0
Facts = set.FinSet fact_cmp

abbrev pub coded_facts : Coded Facts
coded_facts = set.code coded_fact
