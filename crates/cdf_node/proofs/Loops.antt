-- The two loops of the grammar, a turn at a time, under the conversion to data.
use Rattle.std.proofs.Common.{◌≡◌, ℕ, zero, suc, ◌-◌, ◌<◌, List, [], ◌∷◌, ◌++◌, length, Option}
use Rattle.std.proofs.Common.{Some, None, option_map, option_and_then, refl, ap, ◌∙◌, arith}
use Rattle.json.specs.Token.{Token}
use Rattle.json.specs.Json as json
use Rattle.json.specs.Json.{Json, Parse, parse_map, after_end_array, read_key, items_step}
use Rattle.json.specs.Json.{members_step, items, members, value}
use Rattle.json.proofs.Grammar.{value_is, value-begin_array, value-begin_object, items_end}
use Rattle.json.proofs.Grammar.{members_end, members_no_key, after_end_array-shorter}
use Rattle.json.proofs.Grammar.{read_key-shorter}
use Rattle.serde_json.specs.Data.{Data, array, object, Items, no_items, item, Members, no_members}
use Rattle.serde_json.specs.Data.{put}
use Rattle.serde_json.specs.Read.{of_json, of_items, of_members, converted}
use Rattle.serde_json.specs.View.{items_of}
use Rattle.cdf_node.specs.Loops.{items_before, InArray, InObject}
use Rattle.cdf_node.specs.Next.{next_value}

-- ---- what the grammar builds, converted

taken : {A B C : Type 0} (f : A → Option B) (g : C → A) (o : Option (C × List Token))
    → converted f (parse_map g o) ≡ converted (λ c. f (g c)) o
taken f g None = refl
taken f g (Some p) = refl

nothing : {A B : Type 0} (o : Option (A × List Token))
    → converted {A = A} {B = B} (λ a. None) o ≡ None
nothing None = refl
nothing (Some p) = refl

mapped_at : {B C : Type 0} (f : B → C) (r : List Token) (x : Option B)
    → option_map {U = C × List Token} (λ c. (c, r)) (option_map f x)
    ≡ parse_map f (option_map (λ b. (b, r)) x)
mapped_at f r None = refl
mapped_at f r (Some b) = refl

mapped : {A B C : Type 0} (f : B → C) (g : A → Option B) (o : Option (A × List Token))
    → converted (λ a. option_map f (g a)) o ≡ parse_map f (converted g o)
mapped f g None = refl
mapped f g (Some p) = mapped_at f p.1 (g p.0)

later : {A B : Type 0} (h : Data → A → Option B) (d : Option Data) (s : List Token) (more : Parse A)
    → converted (λ a. option_and_then (λ e. h e a) d) (more s)
    ≡ option_and_then (λ q. converted (h q.0) (more q.1))
    (option_map {U = Data × List Token} (λ e. (e, s)) d)
later h None s more = nothing (more s)
later h (Some d) s more = refl

-- a value is read, and then more
follows : {A B : Type 0} (f : A → Option B) (g : Json → A → A) (h : Data → A → Option B)
    (more : Parse A) → ((j : Json) → ◌≡◌ {A = A → Option B} (λ a. f (g j a))
    (λ a. option_and_then (λ e. h e a) (of_json j)))
    → (o : Option (Json × List Token)) → converted f
    (option_and_then (λ q. parse_map (g q.0) (more q.1)) o)
    ≡ option_and_then (λ q. converted (h q.0) (more q.1)) (converted of_json o)
follows f g h more is None = refl
follows f g h more is (Some q) = taken f (g q.0) (more q.1)
    ∙ ap (λ w. converted w (more q.1)) (is q.0) ∙ later h (of_json q.0) q.1 more

module _ (p : Parse Json) (n : ℕ) where
  items_turn : (ts : List Token) → after_end_array ts ≡ None
      → converted of_items (items p (suc n) ts)
      ≡ option_and_then (λ q. converted (λ js. option_map (item q.0) (of_items js))
      (items p n q.1)) (converted of_json (p ts))
  unfolding items
  items_turn ts going = ap (λ o. converted of_items (items_step p (items p n) ts o)) going
      ∙ follows of_items json.item (λ d js. option_map (item d) (of_items js)) (items p n)
      (λ j. refl) (p ts)

  members_turn : (found : Members) (k : List ℕ) (ts s : List Token) → read_key ts ≡ Some (Some k, s)
      → converted (λ ms. of_members ms found) (members p (suc n) ts)
      ≡ option_and_then (λ q. converted (λ ms. of_members ms (put k q.0 found))
      (members p n q.1)) (converted of_json (p s))
  unfolding members
  members_turn found k ts s named =
      ap (λ o. converted (λ ms. of_members ms found)
      (option_and_then (λ q. members_step p (members p n) q.0 q.1) o)) named
      ∙ follows (λ ms. of_members ms found) (json.member k) (λ d ms. of_members ms (put k d found))
      (members p n) (λ j. refl) (p s)

module _ (p : Parse Json) where
  items_none : (n : ℕ) (ts : List Token) → after_end_array ts ≡ None
      → converted of_json (p ts) ≡ None → converted of_items (items p n ts) ≡ None
  unfolding items
  items_none zero ts going none = refl
  items_none (suc n) ts going none = rw (items_turn p n ts going, none)

  members_none : (found : Members) (n : ℕ) (k : List ℕ) (ts s : List Token)
      → read_key ts ≡ Some (Some k, s) → converted of_json (p s) ≡ None
      → converted (λ ms. of_members ms found) (members p n ts) ≡ None
  unfolding members
  members_none found zero k ts s named none = refl
  members_none found (suc n) k ts s named none = rw (members_turn p n found k ts s named, none)

-- ---- an array

before-no_items : (ds : List Data) → items_before ds no_items ≡ items_of ds
before-no_items [] = refl
before-no_items (d ∷ ds) = ap (item d) (before-no_items ds)

before-push : (ds : List Data) (d : Data) (rest : Items)
    → items_before ds (item d rest) ≡ items_before (ds ++ d ∷ []) rest
before-push [] d rest = refl
before-push (e ∷ ds) d rest = ap (item e) (before-push ds d rest)

array-push : (ds : List Data) (d : Data) (o : Option (Items × List Token))
    → parse_map (λ es. array (items_before ds es)) (parse_map (item d) o)
    ≡ parse_map (λ es. array (items_before (ds ++ d ∷ []) es)) o
array-push ds d None = refl
array-push ds d (Some p) = ap (λ es. Some (array es, p.1)) (before-push ds d p.0)

pub array_begun : (depth : ℕ) (start : List Token) → 0 < depth → InArray depth start [] start
array_begun depth start some =
    let all = items (value (depth - 1)) (length start) start in
    record {
      turns = length start;
      enough = omega arith;
      fewer = omega arith;
      same = ap (converted of_json) (value-begin_array depth start some)
          ∙ taken of_json json.array all ∙ mapped array of_items all;
    }

module _ {depth : ℕ} {start now : List Token} {ds : List Data}
    (l : InArray depth start ds now) where
  pub array_next : {t r : List Token} {d : Data} → (after_end_array now ≡ None) × (t ≡ now)
      → next_value (depth - 1) t ≡ Some (d, r) → length r < length t
      → InArray depth start (ds ++ d ∷ []) r
  array_next {t} {r} {d} going comes less =
      let p = value (depth - 1) in
      let there : next_value (depth - 1) now ≡ Some (d, r) = rw (← going.1) comes in
      let shorter : length r < length now = rw (← going.1) less in
      let one : l.turns ≡ suc (l.turns - 1) = omega (arith, l.enough) in
      let turn : converted of_items (items p l.turns now)
      ≡ parse_map (item d) (converted of_items (items p (l.turns - 1) r)) =
      ap (λ n. converted of_items (items p n now)) one
      ∙ rw (items_turn p (l.turns - 1) now going.0, there)
      (mapped (item d) of_items (items p (l.turns - 1) r)) in
      record {
        turns = l.turns - 1;
        enough = omega (arith, l.enough);
        fewer = omega (arith, l.fewer);
        same = l.same ∙ ap (parse_map (λ es. array (items_before ds es))) turn ∙ array-push ds d _;
      }

  pub array_over : {r : List Token} → after_end_array now ≡ Some r
      → next_value depth (Token.begin_array ∷ start) ≡ Some (array (items_of ds), r)
  array_over {r} over =
      l.same ∙ ap (λ o. parse_map (λ es. array (items_before ds es)) (converted of_items o))
      (items_end (value (depth - 1)) l.turns now r l.enough over)
      ∙ ap (λ es. Some (array es, r)) (before-no_items ds)

  pub array_shorter : {r : List Token} → after_end_array now ≡ Some r → length r < length start
  array_shorter {r} over = omega (arith, l.fewer, after_end_array-shorter now r over)

  pub array_none : {t : List Token} → (after_end_array now ≡ None) × (t ≡ now)
      → next_value (depth - 1) t ≡ None → next_value depth (Token.begin_array ∷ start) ≡ None
  array_none going none = l.same ∙ ap (parse_map (λ es. array (items_before ds es)))
      (items_none (value (depth - 1)) l.turns now going.0 (rw (← going.1) none))

-- ---- an object

pub object_begun : (depth : ℕ) (start : List Token) → 0 < depth
    → InObject depth start no_members start
object_begun depth start some =
    let all = members (value (depth - 1)) (length start) start in
    record {
      turns = length start;
      enough = omega arith;
      fewer = omega arith;
      same = ap (converted of_json) (value-begin_object depth start some)
          ∙ taken of_json json.object all ∙ mapped object (λ ms. of_members ms no_members) all;
    }

module _ {depth : ℕ} {start now : List Token} {found : Members}
    (l : InObject depth start found now) where
  pub object_next : {k : List ℕ} {s r : List Token} {d : Data} → read_key now ≡ Some (Some k, s)
      → next_value (depth - 1) s ≡ Some (d, r) → length r < length s
      → InObject depth start (put k d found) r
  object_next {k} {s} {r} {d} named comes less =
      let p = value (depth - 1) in
      let shorter = read_key-shorter now (Some k) s named in
      let one : l.turns ≡ suc (l.turns - 1) = omega (arith, l.enough) in
      record {
        turns = l.turns - 1;
        enough = omega (arith, l.enough);
        fewer = omega (arith, l.fewer);
        same = l.same ∙ ap (λ n. parse_map object
            (converted (λ ms. of_members ms found) (members p n now))) one
            ∙ rw (members_turn p (l.turns - 1) found k now s named, comes);
      }

  pub object_over : {r : List Token} → read_key now ≡ Some (None, r)
      → next_value depth (Token.begin_object ∷ start) ≡ Some (object found, r)
  object_over {r} over = l.same ∙ ap (λ o.
      parse_map object (converted (λ ms. of_members ms found) o))
      (members_end (value (depth - 1)) l.turns now r l.enough over)

  pub object_shorter : {r : List Token} → read_key now ≡ Some (None, r) → length r < length start
  object_shorter {r} over = omega (arith, l.fewer, read_key-shorter now None r over)

  pub object_none : {k : List ℕ} {s : List Token} → read_key now ≡ Some (Some k, s)
      → next_value (depth - 1) s ≡ None → next_value depth (Token.begin_object ∷ start) ≡ None
  object_none {k} {s} named none = l.same
      ∙ ap (parse_map object) (members_none (value (depth - 1)) found l.turns k now s named none)

  pub object_no_key : read_key now ≡ None → next_value depth (Token.begin_object ∷ start) ≡ None
  object_no_key other = l.same ∙ ap (λ o.
      parse_map object (converted (λ ms. of_members ms found) o))
      (members_no_key (value (depth - 1)) l.turns now other)

-- ---- where nothing begins

pub next_value_nothing : (depth : ℕ) (ts : List Token) → ts ≡ [] → next_value depth ts ≡ None
next_value_nothing depth ts empty = rw empty (ap (converted of_json) (value_is depth []))

pub array_flat : (ts : List Token) → next_value 0 (Token.begin_array ∷ ts) ≡ None
unfolding value
array_flat ts = refl

pub object_flat : (ts : List Token) → next_value 0 (Token.begin_object ∷ ts) ≡ None
unfolding value
object_flat ts = refl
