-- Sets of facts that are given by lists: how many they hold, and which header and snapshot stand.
use Rattle.std.proofs.Common.{◌≡◌, ℕ, ◌+◌, List, [], ◌∷◌, ◌++◌, cond, true}
use Rattle.std.proofs.Common.{Option, Some, Ordering, refl}
use Rattle.std.proofs.Common.{sym, ◌∙◌}
use Rattle.std.proofs.lemmas.List.Folds.{list_any-append}
use Rattle.std.specs.List.{list_any, list_all, filter_map, flat_map}
use Rattle.std.specs.Ordering.{eq_by_cmp}
use Rattle.std.specs.Cmp.{IsTotalOrder}
use Rattle.std.proofs.lemmas.Str.{IsUtf8-from_ascii, is_utf8-from_IsUtf8}
use Rattle.std.proofs.lemmas.Bool.{and_parts}
use Rattle.std.specs.FinMap.{IsAntisymmetric}
use Rattle.std.specs.FinSet.{contains-union, contains-from_list, same_set}
use Rattle.std.specs.FinSet.{from_list, union, len, len-empty, len-insert, items}
use Rattle.serde_json.specs.Data.{Data}
use Rattle.cdf_typed.specs.Greatest.{max_by}
use Rattle.cdf_definition.specs.Acceptance.{value_in}
use Rattle.cdf_definition.proofs.Lemmas.{ascii, all_ascii}
use Rattle.cvr_fact_types.specs.declared.name.RecordName.{RecordName}
use Rattle.cvr_fact_types.specs.Facts.{Fact, Facts, fact_cmp, fact_total, fact_exact, text_cmp}
use Rattle.cvr_facts.specs.Reports.{facts, report_facts}
use Rattle.cvr_facts.specs.Choosing.{data_of, choice_cmp, header_body, snapshot_body, header}
use Rattle.cvr_facts.specs.Choosing.{current}
use Rattle.cvr_facts.specs.Examples.{facts_of_files}
use Rattle.cvr_facts.proofs.Members.{from_set, in_set}
use Rattle.cvr_facts.proofs.Records.{contains_iff, from-filter_map, Contains-filter_map}
use Rattle.cvr_facts.proofs.Greatest.{greatest_is, is_greatest}
use Rattle.cvr_facts.proofs.Choosing.{text_total, text_exact, choice_total, choice_exact}

-- ---- files whose bytes are all ASCII

pub value_in-ascii : (bytes : List ℕ) → all_ascii bytes ≡ true → value_in bytes ≡ data_of bytes
value_in-ascii bytes a =
    rw (is_utf8-from_IsUtf8 bytes (IsUtf8-from_ascii bytes (ascii bytes a))) refl

-- the facts that its bytes spell
abbrev pub spelled : List ℕ → List Fact
spelled bytes = report_facts (data_of bytes)

pub facts-ascii : (bytes : List ℕ) → all_ascii bytes ≡ true
    → facts bytes ≡ from_list (spelled bytes)
facts-ascii bytes a = rw (value_in-ascii bytes a) refl

-- what is made of two such files
pub both-ascii : {X : Type 0} (of : Data → Data → X) (one other : List ℕ) (x : X)
    → all_ascii one ≡ true → all_ascii other ≡ true
    → of (data_of one) (data_of other) ≡ x → of (value_in one) (value_in other) ≡ x
both-ascii of one other x a b e = rw (value_in-ascii one a, value_in-ascii other b) e

-- ---- together

union-from_list : (fs gs : List Fact) → union {R = fact_cmp} (from_list fs) (from_list gs)
    ≡ from_list (fs ++ gs)
union-from_list fs gs =
    same_set fact_total fact_exact _ _
    (λ q. contains-union fact_total (from_list fs) (from_list gs) q
    ∙ rw (contains-from_list fact_total fs q, contains-from_list fact_total gs q)
    (sym (list_any-append (eq_by_cmp fact_cmp q) fs gs))
    ∙ sym (contains-from_list fact_total (fs ++ gs) q))

pub facts_of_files-ascii : (files : List (List ℕ)) → list_all all_ascii files ≡ true
    → facts_of_files files ≡ from_list (flat_map spelled files)
facts_of_files-ascii [] a = refl
facts_of_files-ascii (one ∷ others) a =
    let both = and_parts (all_ascii one) (list_all all_ascii others) a in
    rw (facts-ascii one both.0, facts_of_files-ascii others both.1)
    (union-from_list (spelled one) (flat_map spelled others))

-- ---- how many

-- those that aren't among the later ones
abbrev pub count_distinct : List Fact → ℕ
count_distinct [] = 0
count_distinct (f ∷ fs) =
    cond (list_any (eq_by_cmp fact_cmp f) fs) (count_distinct fs) (count_distinct fs + 1)

len-from_list : (fs : List Fact) → len (from_list {R = fact_cmp} fs) ≡ count_distinct fs
len-from_list [] = len-empty fact_cmp
len-from_list (f ∷ fs) = len-insert fact_total (from_list fs) f
    ∙ rw (contains-from_list fact_total fs f, len-from_list fs) refl

pub len-file : (bytes : List ℕ) (n : ℕ) → all_ascii bytes ≡ true
    → count_distinct (spelled bytes) ≡ n → len (facts bytes) ≡ n
len-file bytes n a e = rw (facts-ascii bytes a) (len-from_list (spelled bytes) ∙ e)

pub len-files : (files : List (List ℕ)) (n : ℕ) → list_all all_ascii files ≡ true
    → count_distinct (flat_map spelled files) ≡ n → len (facts_of_files files) ≡ n
len-files files n a e =
    rw (facts_of_files-ascii files a) (len-from_list (flat_map spelled files) ∙ e)

-- ---- what stands

module _ (pick : Fact → Option (List ℕ)) where
  max_by-items : {R : List ℕ → List ℕ → Ordering} → IsTotalOrder R → IsAntisymmetric R
      → (fs : List Fact) (b : List ℕ) → max_by R (filter_map pick fs) ≡ Some b
      → max_by R (filter_map pick (items (from_list {R = fact_cmp} fs))) ≡ Some b
  max_by-items total exact fs b e =
      let set : Facts = from_list fs in
      let most = greatest_is total (filter_map pick fs) b e in
      is_greatest total exact (filter_map pick (items (from_list {R = fact_cmp} fs))) b (record {
        listed = let r = from-filter_map pick fs b most.listed in
            Contains-filter_map pick (items set) r.0 b ((contains_iff set r.0).0
            (in_set fact_total fact_exact fs r.0 r.1)) r.2;
        top = λ y h. let r = from-filter_map pick (items set) y h in
            most.top y (Contains-filter_map pick fs r.0 y
            (from_set fact_total fact_exact fs r.0 ((contains_iff set r.0).1 r.1)) r.2);
      })

pub current-files : (files : List (List ℕ)) (key : RecordName) (b : List ℕ)
    → list_all all_ascii files ≡ true
    → max_by choice_cmp (filter_map (snapshot_body key) (flat_map spelled files)) ≡ Some b
    → current (facts_of_files files) key ≡ Some b
current-files files key b a e = rw (facts_of_files-ascii files a)
    (max_by-items (snapshot_body key) choice_total choice_exact (flat_map spelled files) b e)

pub header-files : (files : List (List ℕ)) (key : RecordName) (b : List ℕ)
    → list_all all_ascii files ≡ true
    → max_by text_cmp (filter_map (header_body key) (flat_map spelled files)) ≡ Some b
    → header (facts_of_files files) key ≡ Some b
header-files files key b a e = rw (facts_of_files-ascii files a)
    (max_by-items (header_body key) text_total text_exact (flat_map spelled files) b e)
