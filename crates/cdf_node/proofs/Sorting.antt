-- Names in byte order, and that what serde_json reads has them so.
use Rattle.std.proofs.Common.{◌≡◌, ◌≢◌, ℕ, ◌<◌, List, [], ◌∷◌, length, get_or, Bool, true, false}
use Rattle.std.proofs.Common.{cond, nat_lt, ne_eqb, Option, Some, None, option_map, option_and_then}
use Rattle.std.proofs.Common.{Ordering, Less, Equal, Greater, nat_cmp, refl, ap, ◌∙◌}
use Rattle.std.specs.Prelude.{IfSome, ⊤}
use Rattle.std.proofs.lemmas.Cmp.{nat_list_cmp_total}
use Rattle.std.proofs.lemmas.Option.{IfSome_then}
use Rattle.std.specs.Cmp.Lexicographic.{slice_cmp}
use Rattle.std.specs.Ordering.{match_ordering, ordering_reverse, ordering_then}
use Rattle.json.specs.Token.{Token}
use Rattle.json.specs.Lex.{tokens}
use Rattle.json.specs.Json as json
use Rattle.serde_json.specs.Data.{Data, number, array, object, item, Members, no_members, member}
use Rattle.serde_json.specs.Data.{put}
use Rattle.serde_json.specs.Read.{of_json, of_items, of_members, number_of, max_depth, read}
use Rattle.cdf_node.specs.Next.{next_value}
use Rattle.cdf_node.specs.Order.{Before, Below, Rises, IsSorted, ItemsAreSorted, MembersAreSorted}

-- ---- names

pub Below-trans : (k l : List ℕ) (ms : Members) → Before k l → Below l ms → Below k ms
Below-trans k l no_members p h = tt
Below-trans k l (member m d ms) p h = (
  nat_list_cmp_total.trans k l m p h.0,
  Below-trans k l ms p
      h.1,
)

pub reversed : (k l : List ℕ) → Before l k → slice_cmp nat_cmp k l ≡ Greater
reversed k l e = nat_list_cmp_total.antisymm k l ∙ ap ordering_reverse e

decided : (b : Bool) (o : Ordering) → ordering_then (cond b Less Greater) o ≡ cond b Less Greater
decided true o = refl
decided false o = refl

-- the first bytes decide, where they differ
pub first_decides : (a b : List ℕ) → 0 < length a → 0 < length b → get_or a 0 0 ≢ get_or b 0 0
    → slice_cmp nat_cmp a b ≡ nat_cmp (get_or a 0 0) (get_or b 0 0)
first_decides [] b some more other = elim some [ ]
first_decides (x ∷ xs) [] some more other = elim more [ ]
first_decides (x ∷ xs) (y ∷ ys) some more other =
    rw (ne_eqb x y other) (decided (nat_lt x y) _)

pub rises_sorted : (ms : Members) → MembersAreSorted ms → Rises ms
rises_sorted no_members h = tt
rises_sorted (member k d ms) h = (h.1, rises_sorted ms h.2)

-- ---- a member is put

Below-put_at : (o : Ordering) (q k l : List ℕ) (d e : Data) (ms : Members) → Before q k
    → Below q (member l e ms) → Below q (put k d ms)
    → Below q (match_ordering o (member k d (member l e ms)) (member l d ms)
    (member l e (put k d ms)))
Below-put_at Less q k l d e ms p h later = (p, h)
Below-put_at Equal q k l d e ms p h later = h
Below-put_at Greater q k l d e ms p h later = (h.0, later)

pub Below-put : (q k : List ℕ) (d : Data) (ms : Members) → Before q k → Below q ms
    → Below q (put k d ms)
Below-put q k d no_members p h = (p, tt)
Below-put q k d (member l e ms) p h = Below-put_at _ q k l d e ms p h (Below-put q k d ms p h.1)

sorted-put_at : (o : Ordering) (k l : List ℕ) (d e : Data) (ms : Members)
    → slice_cmp nat_cmp k l ≡ o → IsSorted d → MembersAreSorted (member l e ms)
    → MembersAreSorted (put k d ms)
    → MembersAreSorted (match_ordering o (member k d (member l e ms)) (member l d ms)
    (member l e (put k d ms)))
sorted-put_at Less k l d e ms is new h later = (new, (is, Below-trans k l ms is h.1), h)
sorted-put_at Equal k l d e ms is new h later = (new, h.1, h.2)
sorted-put_at Greater k l d e ms is new h later =
    (h.0, Below-put l k d ms (nat_list_cmp_total.antisymm l k ∙ ap ordering_reverse is) h.1, later)

sorted-put : (k : List ℕ) (d : Data) (ms : Members) → IsSorted d → MembersAreSorted ms
    → MembersAreSorted (put k d ms)
sorted-put k d no_members new h = (new, tt, tt)
sorted-put k d (member l e ms) new h =
    sorted-put_at _ k l d e ms refl new h (sorted-put k d ms new h.2)

-- ---- what is read

mapped : {A B : Type 0} (P : B → Type 0) (f : A → B) (o : Option A) → IfSome o (λ a. P (f a))
    → IfSome (option_map f o) P
mapped P f None h = tt
mapped P f (Some a) h = h

chained : {A B : Type 0} (P : A → Type 0) (Q : B → Type 0) (f : A → Option B) (o : Option A)
    → IfSome o P → ((a : A) → P a → IfSome (f a) Q) → IfSome (option_and_then f o) Q
chained P Q f None h next = tt
chained P Q f (Some a) h next = next a h

each : {A : Type 0} (P : A → Type 0) (o : Option A) → ((a : A) → P a) → IfSome o P
each P None h = tt
each P (Some a) h = h a

mutual
  sorted : (j : json.Json) → IfSome (of_json j) IsSorted
  sorted json.null = tt
  sorted (json.boolean b) = tt
  sorted (json.number s) = mapped IsSorted number (number_of s) (each _ (number_of s) (λ n. tt))
  sorted (json.string s) = tt
  sorted (json.array js) = mapped IsSorted array (of_items js) (sorted_items js)
  sorted (json.object ms) =
      mapped IsSorted object (of_members ms no_members) (sorted_members ms no_members tt)

  sorted_items : (js : json.Items) → IfSome (of_items js) ItemsAreSorted
  sorted_items json.no_items = tt
  sorted_items (json.item j js) =
      chained IsSorted ItemsAreSorted (λ d. option_map (item d) (of_items js)) (of_json j)
      (sorted j)
      (λ d is. mapped ItemsAreSorted (item d) (of_items js)
      (IfSome_then (of_items js) (sorted_items js) (λ ds are. (is, are))))

  sorted_members : (ms : json.Members) (found : Members) → MembersAreSorted found
      → IfSome (of_members ms found) MembersAreSorted
  sorted_members json.no_members found h = h
  sorted_members (json.member k j ms) found h =
      chained IsSorted MembersAreSorted (λ d. of_members ms (put k d found)) (of_json j) (sorted j)
      (λ d is. sorted_members ms (put k d found) (sorted-put k d found is h))

pub sorted_next : (depth : ℕ) (ts : List Token) → IfSome (next_value depth ts) (λ p. IsSorted p.0)
sorted_next depth ts =
    let read = json.value depth ts in
    chained (λ p. ⊤) (λ p. IsSorted p.0) (λ p. option_map (λ d. (d, p.1)) (of_json p.0)) read
    (each _ read (λ p. tt)) (λ p is.
    mapped (λ p. IsSorted p.0) (λ d. (d, p.1)) (of_json p.0) (sorted p.0))

pub sorted_read : (text : List ℕ) → IfSome (read text) IsSorted
sorted_read text =
    let whole = option_and_then (λ p. json.if_last p.0 p.1) (json.value max_depth (tokens text)) in
    chained (λ j. ⊤) IsSorted of_json whole (each _ whole (λ j. tt)) (λ j is. sorted j)
