-- What `read` gives has its names in order and its numbers in range.
use Rattle.std.proofs.Common.{◌≡◌, ◌==◌, ◌<◌, ◌≤◌, ◌^◌, ◌&&◌, ℕ, zero, suc, List, drop, slice_index}
use Rattle.std.proofs.Common.{nat_lt, nat_le}
use Rattle.std.proofs.Common.{Bool, true, false, cond, Option, Some, None, option_map}
use Rattle.std.proofs.Common.{option_and_then, Float}
use Rattle.std.proofs.Common.{refl, subst, arith}
use Rattle.std.specs.Prelude.{⊤}
use Rattle.fast_float.specs.Text.{minus, Parts, scan, digits_of, with_sign}
use Rattle.json.specs.Json as json
use Rattle.json.specs.Lex.{tokens}
use Rattle.serde_json.specs.Data.{unsigned, negative, float, Data, number, array, object}
use Rattle.serde_json.specs.Data.{item, Members, no_members, put}
use Rattle.serde_json.specs.Read.{number_of, number_from, float_of, is_integer, of_json, of_items}
use Rattle.serde_json.specs.Read.{of_members}
use Rattle.serde_json.specs.Read.{read, max_depth}
use Rattle.serde_json.specs.Written.{has_float, compact_text}
use Rattle.serde_json.proofs.Nesting.{depth-read}
use Rattle.cdf_parts.specs.Proper.{NumFits, IsWell, ItemsAreWell, MembersAreWell, IsProper}
use Rattle.cdf_parts.proofs.Order.{put_well}
use Rattle.cdf_parts.proofs.ReadsBack.{read-proper}

-- P holds of what is there
abbrev pub Within : {A : Type 0} → (A → Type 0) → Option A → Type 0
Within P None = ⊤
Within P (Some a) = P a

pub Within-map : {A B : Type 0} (P : A → Type 0) (Q : B → Type 0) (h : A → B)
    → ((a : A) → P a → Q (h a)) → (o : Option A) → Within P o → Within Q (option_map h o)
Within-map P Q h k None x = tt
Within-map P Q h k (Some a) x = k a x

pub Within-and_then : {A B : Type 0} (P : A → Type 0) (Q : B → Type 0) (h : A → Option B)
    → ((a : A) → P a → Within Q (h a)) → (o : Option A) → Within P o
    → Within Q (option_and_then h o)
Within-and_then P Q h k None x = tt
Within-and_then P Q h k (Some a) x = k a x

floats : (b : Bool) (x : Float) → Within NumFits (cond b (Some (float x)) None)
floats true x = tt
floats false x = tt

from_false : (p : Parts) (a b : Bool) → b ≡ nat_lt (digits_of p) (2 ^ 64)
    → Within NumFits (cond (a && b) (Some (unsigned (digits_of p))) (float_of false p))
from_false p true true e = grind arith
from_false p true false e = floats _ _
from_false p false b e = floats _ _

negative_fits : (n : ℕ) → 0 < n → n ≤ 2 ^ 63 → NumFits (negative (with_sign true n))
negative_fits zero h k = absurd (omega arith)
negative_fits (suc n) h k = omega arith

from_true : (p : Parts) (a b c : Bool) → b ≡ nat_lt 0 (digits_of p)
    → c ≡ nat_le (digits_of p) (2 ^ 63)
    → Within NumFits (cond (a && b && c) (Some (negative (with_sign true (digits_of p))))
    (float_of true p))
from_true p true true true e f = negative_fits (digits_of p) (grind arith) (grind arith)
from_true p true true false e f = floats _ _
from_true p true false c e f = floats _ _
from_true p false b c e f = floats _ _

from_fits : (sign : Bool) (p : Parts) → Within NumFits (number_from sign p)
from_fits false p = from_false p (is_integer p) _ refl
from_fits true p = from_true p (is_integer p) _ _ refl refl

either : {A : Type 0} (P : A → Type 0) (b : Bool) (x y : Option A)
    → Within P x → Within P y → Within P (cond b x y)
either P true x y p q = p
either P false x y p q = q

number_fits : (s : List ℕ) → Within NumFits (number_of s)
unfolding number_of
number_fits s =
    either NumFits (slice_index s 0 == minus) (number_from true (scan (drop 1 s)))
    (number_from false (scan s))
    (from_fits true (scan (drop 1 s)))
    (from_fits false (scan s))

mutual
  well-of_json : (j : json.Json) → Within IsWell (of_json j)
  well-of_json json.null = tt
  well-of_json (json.boolean b) = tt
  well-of_json (json.number s) =
      Within-map NumFits IsWell number (λ n h. h) (number_of s) (number_fits s)
  well-of_json (json.string s) = tt
  well-of_json (json.array js) =
      Within-map ItemsAreWell IsWell array (λ ds h. h) (of_items js) (well-of_items js)
  well-of_json (json.object ms) =
      Within-map MembersAreWell IsWell object (λ ds h. h) (of_members ms no_members)
      (well-of_members ms no_members tt)

  well-of_items : (js : json.Items) → Within ItemsAreWell (of_items js)
  well-of_items json.no_items = tt
  well-of_items (json.item j js) =
      Within-and_then IsWell ItemsAreWell _
      (λ d h. Within-map ItemsAreWell ItemsAreWell (item d) (λ ds k. (h, k)) (of_items js)
      (well-of_items js))
      (of_json j)
      (well-of_json j)

  well-of_members : (ms : json.Members) (found : Members)
      → MembersAreWell found → Within MembersAreWell (of_members ms found)
  well-of_members json.no_members found h = h
  well-of_members (json.member k j ms) found h =
      Within-and_then IsWell MembersAreWell _
      (λ d w. well-of_members ms (put k d found) (put_well k d found w h))
      (of_json j)
      (well-of_json j)

always : {A : Type 0} (o : Option A) → Within (λ _. ⊤) o
always None = tt
always (Some a) = tt

pub well_read : (text : List ℕ) (d : Data) → read text ≡ Some d → IsWell d
well_read text d e =
    let o : Option json.Json =
    option_and_then (λ p. json.if_last p.0 p.1) (json.value max_depth (tokens text)) in
    subst (Within IsWell) e (Within-and_then (λ _. ⊤) IsWell of_json (λ j x. well-of_json j) o
    (always o))

pub proper_read : (text : List ℕ) (d : Data) → read text ≡ Some d → has_float d ≡ false
    → IsProper max_depth d
proper_read text d is whole = record {
  well = well_read text d is;
  whole = whole;
  shallow = depth-read text d is;
}

pub read_again : (text : List ℕ) (d : Data)
    → read text ≡ Some d → has_float d ≡ false → read (compact_text d) ≡ Some d
read_again text d is whole = read-proper d (proper_read text d is whole)
