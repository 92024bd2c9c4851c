-- The texts and names of what was read of a UTF-8 text are UTF-8.
use Rattle.std.proofs.Common.{◌≡◌, ◌<◌, ℕ, zero, suc, ◌-◌, List, [], ◌∷◌, ◌++◌, length, take, drop}
use Rattle.std.proofs.Common.{Bool, true, false, cond, ◌&&◌, ◌==◌, nat_eq}
use Rattle.std.proofs.Common.{Option, Some, None, option_map, IsUtf8, refl, sym, subst, arith}
use Rattle.std.proofs.Common.{append_assoc}
use Rattle.std.proofs.Common.{Ordering, Less, Equal, Greater}
use Rattle.std.proofs.lemmas.Bool.Decides.{nat_tests}
use Rattle.std.proofs.lemmas.Str.{IsUtf8-from_is_utf8}
use Rattle.std.specs.Prelude.{⊤, option_and_then}
use Rattle.std.specs.List.{starts_with}
use Rattle.std.specs.Ordering.{match_ordering, nat_cmp}
use Rattle.std.specs.Cmp.Lexicographic.{slice_cmp}
use Rattle.std.specs.Str.{is_utf8}
use Rattle.json.specs.Text.{content, plain}
use Rattle.json.specs.Token.{Token, bad}
use Rattle.json.specs.Word.{head, ends_word, literal, after_number, number_before, word}
use Rattle.json.specs.Ascii.{true_text, false_text, null_text}
use Rattle.json.specs.Lex.{Lexeme, token, comma, colon, Class, quote, backslash, operator, space}
use Rattle.json.specs.Lex.{other, class, operator_lexeme, string_token}
use Rattle.json.specs.Lex.{Mode, between, in_word, in_string, in_escape, lex_byte, lex}
use Rattle.json.specs.Lex.{Place, fresh, after_value, after_comma, after_key, begins_colon}
use Rattle.json.specs.Lex.{may_begin, may_close, if_allowed, place_token, punctuate, tokens}
use Rattle.json.specs.Json as json
use Rattle.json.specs.Json.{Json, Parse, parse_map, after_end_array, read_key, items_step}
use Rattle.json.specs.Json.{members_step, items, members, value_with, value}
use Rattle.serde_json.specs.Data.{Num, Data, number, array, object, item, Members, no_members}
use Rattle.serde_json.specs.Data.{member, put}
use Rattle.serde_json.specs.Read.{number_of, of_json, of_items, of_members, read, max_depth}
use Rattle.cdf_check.specs.Utf8.{HasUtf8, ItemsHaveUtf8, MembersHaveUtf8, ReadUtf8Law}
use Rattle.cdf_check.proofs.Contents.{cut, string_utf8}
use Rattle.cdf_parts.proofs.Lemmas.{Within-map, Within-and_then, Within}

-- ---- lexemes

-- the text of a token is UTF-8
abbrev pub TokenIsUtf8 : Token → Type 0
TokenIsUtf8 Token.begin_object = ⊤
TokenIsUtf8 Token.end_object = ⊤
TokenIsUtf8 Token.begin_array = ⊤
TokenIsUtf8 Token.end_array = ⊤
TokenIsUtf8 (Token.key s) = IsUtf8 s
TokenIsUtf8 (Token.string s) = IsUtf8 s
TokenIsUtf8 (Token.number s) = ⊤
TokenIsUtf8 (Token.boolean b) = ⊤
TokenIsUtf8 Token.null = ⊤
TokenIsUtf8 Token.bad = ⊤

abbrev pub TokensAreUtf8 : List Token → Type 0
TokensAreUtf8 [] = ⊤
TokensAreUtf8 (t ∷ ts) = TokenIsUtf8 t × TokensAreUtf8 ts

abbrev LexemeIsUtf8 : Lexeme → Type 0
LexemeIsUtf8 (token t) = TokenIsUtf8 t
LexemeIsUtf8 comma = ⊤
LexemeIsUtf8 colon = ⊤

abbrev LexemesAreUtf8 : List Lexeme → Type 0
LexemesAreUtf8 [] = ⊤
LexemesAreUtf8 (l ∷ ls) = LexemeIsUtf8 l × LexemesAreUtf8 ls

-- the end of some UTF-8 text
abbrev IsEnd : List ℕ → Type 0
IsEnd xs = (p : List ℕ) × IsUtf8 (p ++ xs)

shorter : (x : ℕ) (xs : List ℕ) → IsEnd (x ∷ xs) → IsEnd xs
shorter x xs e = (e.0 ++ x ∷ [], subst IsUtf8 (sym (append_assoc e.0 (x ∷ []) xs)) e.1)

is_quote : (a b c d : Bool) → cond a quote (cond b backslash (cond c operator (cond d space other)))
    ≡ quote → a ≡ true
is_quote a b c d e = grind arith

-- what follows a quote
past_quote : (x : ℕ) (xs : List ℕ) → class x ≡ quote → IsEnd (x ∷ xs) → IsUtf8 xs
past_quote x xs is e =
    let same : (x == 34) ≡ true = is_quote (x == 34) _ _ _ is in
    let small : x < 128 = grind (arith, nat_tests, same) in
    (cut e.0 xs x small e.1).1

of_string : (o : Option (List ℕ)) → ((s : List ℕ) → o ≡ Some s → IsUtf8 s)
    → TokenIsUtf8 (string_token o)
of_string None h = tt
of_string (Some s) h = h s refl

either : (b : Bool) (x y : Token) → TokenIsUtf8 x → TokenIsUtf8 y → TokenIsUtf8 (cond b x y)
either true x y h k = h
either false x y h k = k

operator_utf8 : (a b c d e : Bool) → LexemeIsUtf8
    (cond a (token Token.begin_object) (cond b (token Token.end_object)
    (cond c (token Token.begin_array) (cond d (token Token.end_array) (cond e comma colon)))))
operator_utf8 a b c d e = grind arith

of_operator : (x : ℕ) → LexemeIsUtf8 (operator_lexeme x)
of_operator x = operator_utf8 (x == 123) (x == 125) (x == 91) (x == 93) (x == 44)

of_number : (t : List ℕ) (o : Option (List ℕ)) → TokenIsUtf8 (number_before t o)
of_number t None = tt
of_number t (Some rest) =
    either (ends_word rest) (Token.number (take (length t - length rest) t)) bad tt tt

of_literal : (name : List ℕ) (x : Token) (t : List ℕ) → TokenIsUtf8 x
    → TokenIsUtf8 (literal name x t)
of_literal name x t h =
    either (starts_with nat_eq t name && ends_word (drop (length name) t)) x bad h tt

one_of : (a b c : Bool) (x y z n : Token) → TokenIsUtf8 x → TokenIsUtf8 y → TokenIsUtf8 z
    → TokenIsUtf8 n
    → TokenIsUtf8 (cond a x (cond b y (cond c z n)))
one_of true b c x y z n hx hy hz hn = hx
one_of false true c x y z n hx hy hz hn = hy
one_of false false true x y z n hx hy hz hn = hz
one_of false false false x y z n hx hy hz hn = hn

of_word : (t : List ℕ) → TokenIsUtf8 (word t)
unfolding word
of_word t =
    one_of (head t == 116) (head t == 102) (head t == 110)
    (literal true_text (Token.boolean true) t) (literal false_text (Token.boolean false) t)
    (literal null_text Token.null t)
    (number_before t (after_number t))
    (of_literal true_text (Token.boolean true) t tt)
    (of_literal false_text (Token.boolean false) t tt)
    (of_literal null_text Token.null t tt) (of_number t (after_number t))

byte_utf8 : (m : Mode) (c : Class) (x : ℕ) (xs : List ℕ) (k : Mode → List Lexeme) → class x ≡ c
    → IsEnd (x ∷ xs)
    → ((next : Mode) → LexemesAreUtf8 (k next)) → LexemesAreUtf8 (lex_byte m c x xs k)
byte_utf8 between quote x xs k is e h = (
  of_string (content plain xs) (λ s found. string_utf8 xs s (past_quote x xs is e) found),
  h
      in_string,
)
byte_utf8 between backslash x xs k is e h = (tt, h in_word)
byte_utf8 between operator x xs k is e h = (of_operator x, h between)
byte_utf8 between space x xs k is e h = h between
byte_utf8 between other x xs k is e h = (of_word (x ∷ xs), h in_word)
byte_utf8 in_word quote x xs k is e h = h in_word
byte_utf8 in_word backslash x xs k is e h = h in_word
byte_utf8 in_word operator x xs k is e h = (of_operator x, h between)
byte_utf8 in_word space x xs k is e h = h between
byte_utf8 in_word other x xs k is e h = h in_word
byte_utf8 in_string quote x xs k is e h = h between
byte_utf8 in_string backslash x xs k is e h = h in_escape
byte_utf8 in_string operator x xs k is e h = h in_string
byte_utf8 in_string space x xs k is e h = h in_string
byte_utf8 in_string other x xs k is e h = h in_string
byte_utf8 in_escape c x xs k is e h = h in_string

lex_utf8 : (m : Mode) (xs : List ℕ) → IsEnd xs → LexemesAreUtf8 (lex m xs)
unfolding lex
lex_utf8 m [] e = tt
lex_utf8 m (x ∷ xs) e =
    byte_utf8 m (class x) x xs (λ next. lex next xs) refl e
    (λ next. lex_utf8 next xs (shorter x xs e))

-- ---- tokens

if_allowed_utf8 : (b : Bool) (t : Token) (k : Place → List Token) (next : Place) → TokenIsUtf8 t
    → TokensAreUtf8 (k next)
    → TokensAreUtf8 (if_allowed b t k next)
if_allowed_utf8 true t k next h r = (h, r)
if_allowed_utf8 false t k next h r = (tt, tt)

place_utf8 : (p : Place) (t : Token) (b : Bool) (k : Place → List Token) → TokenIsUtf8 t
    → ((next : Place) → TokensAreUtf8 (k next)) → TokensAreUtf8 (place_token p t b k)
place_utf8 p Token.begin_object b k h r =
    if_allowed_utf8 (may_begin p) Token.begin_object k fresh tt (r fresh)
place_utf8 p Token.end_object b k h r =
    if_allowed_utf8 (may_close p) Token.end_object k after_value tt (r after_value)
place_utf8 p Token.begin_array b k h r =
    if_allowed_utf8 (may_begin p) Token.begin_array k fresh tt (r fresh)
place_utf8 p Token.end_array b k h r =
    if_allowed_utf8 (may_close p) Token.end_array k after_value tt (r after_value)
place_utf8 p (Token.key s) b k h r = (tt, tt)
place_utf8 p (Token.string s) true k h r =
    if_allowed_utf8 (may_begin p) (Token.key s) k after_key h (r after_key)
place_utf8 p (Token.string s) false k h r =
    if_allowed_utf8 (may_begin p) (Token.string s) k after_value h (r after_value)
place_utf8 p (Token.number s) b k h r =
    if_allowed_utf8 (may_begin p) (Token.number s) k after_value tt (r after_value)
place_utf8 p (Token.boolean v) b k h r =
    if_allowed_utf8 (may_begin p) (Token.boolean v) k after_value tt (r after_value)
place_utf8 p Token.null b k h r =
    if_allowed_utf8 (may_begin p) Token.null k after_value tt (r after_value)
place_utf8 p Token.bad b k h r = (tt, tt)

punctuate_utf8 : (p : Place) (ls : List Lexeme) → LexemesAreUtf8 ls → TokensAreUtf8 (punctuate p ls)
unfolding punctuate
punctuate_utf8 fresh [] h = tt
punctuate_utf8 after_value [] h = tt
punctuate_utf8 after_comma [] h = (tt, tt)
punctuate_utf8 after_key [] h = (tt, tt)
punctuate_utf8 fresh (token t ∷ ls) h =
    place_utf8 fresh t (begins_colon ls) (λ next. punctuate next ls) h.0
    (λ next. punctuate_utf8 next ls h.1)
punctuate_utf8 after_value (token t ∷ ls) h =
    place_utf8 after_value t (begins_colon ls) (λ next. punctuate next ls) h.0
    (λ next. punctuate_utf8 next ls h.1)
punctuate_utf8 after_comma (token t ∷ ls) h =
    place_utf8 after_comma t (begins_colon ls) (λ next. punctuate next ls) h.0
    (λ next. punctuate_utf8 next ls h.1)
punctuate_utf8 after_key (token t ∷ ls) h =
    place_utf8 after_key t (begins_colon ls) (λ next. punctuate next ls) h.0
    (λ next. punctuate_utf8 next ls h.1)
punctuate_utf8 fresh (comma ∷ ls) h = (tt, tt)
punctuate_utf8 after_value (comma ∷ ls) h = punctuate_utf8 after_comma ls h.1
punctuate_utf8 after_comma (comma ∷ ls) h = (tt, tt)
punctuate_utf8 after_key (comma ∷ ls) h = (tt, tt)
punctuate_utf8 fresh (colon ∷ ls) h = (tt, tt)
punctuate_utf8 after_value (colon ∷ ls) h = (tt, tt)
punctuate_utf8 after_comma (colon ∷ ls) h = (tt, tt)
punctuate_utf8 after_key (colon ∷ ls) h = punctuate_utf8 fresh ls h.1

pub tokens_utf8 : (text : List ℕ) → IsUtf8 text → TokensAreUtf8 (tokens text)
tokens_utf8 text u = punctuate_utf8 fresh (lex between text) (lex_utf8 between text ([], u))

-- ---- values of the grammar

abbrev mutual
  JsonIsUtf8 : Json → Type 0
  JsonIsUtf8 json.null = ⊤
  JsonIsUtf8 (json.boolean b) = ⊤
  JsonIsUtf8 (json.number s) = ⊤
  JsonIsUtf8 (json.string s) = IsUtf8 s
  JsonIsUtf8 (json.array js) = ItemsAreUtf8 js
  JsonIsUtf8 (json.object ms) = MembersAreUtf8 ms

  ItemsAreUtf8 : json.Items → Type 0
  ItemsAreUtf8 json.no_items = ⊤
  ItemsAreUtf8 (json.item j js) = JsonIsUtf8 j × ItemsAreUtf8 js

  MembersAreUtf8 : json.Members → Type 0
  MembersAreUtf8 json.no_members = ⊤
  MembersAreUtf8 (json.member k j ms) = IsUtf8 k × JsonIsUtf8 j × MembersAreUtf8 ms

-- what was parsed, if anything, and the tokens after it
abbrev Parsed : {A : Type 0} → (A → Type 0) → Option (A × List Token) → Type 0
Parsed P None = ⊤
Parsed P (Some p) = P p.0 × TokensAreUtf8 p.1

abbrev Parses : {A : Type 0} → (A → Type 0) → Parse A → Type 0
Parses P p = (ts : List Token) → TokensAreUtf8 ts → Parsed P (p ts)

mapped : {A B : Type 0} (P : A → Type 0) (Q : B → Type 0) (h : A → B) → ((a : A) → P a → Q (h a))
    → (o : Option (A × List Token)) → Parsed P o → Parsed Q (parse_map h o)
mapped P Q h k None x = tt
mapped P Q h k (Some p) x = (k p.0 x.0, x.1)

and_more : {B : Type 0} (Q : B → Type 0) (h : Json → B → B)
    → ((j : Json) (b : B) → JsonIsUtf8 j → Q b → Q (h j b))
    → (more : Parse B) → Parses Q more → (o : Option (Json × List Token)) → Parsed JsonIsUtf8 o
    → Parsed Q (option_and_then (λ q. parse_map (h q.0) (more q.1)) o)
and_more Q h k more parses None x = tt
and_more Q h k more parses (Some q) x =
    mapped Q Q (h q.0) (λ b y. k q.0 b x.0 y) (more q.1) (parses q.1 x.1)

abbrev RestIsUtf8 : Option (List Token) → Type 0
RestIsUtf8 None = ⊤
RestIsUtf8 (Some ts) = TokensAreUtf8 ts

after_array : (ts : List Token) → TokensAreUtf8 ts → RestIsUtf8 (after_end_array ts)
after_array ts h = grind arith

abbrev KeyIsUtf8 : Option (List ℕ) → Type 0
KeyIsUtf8 None = ⊤
KeyIsUtf8 (Some k) = IsUtf8 k

key_utf8 : (ts : List Token) → TokensAreUtf8 ts → Parsed KeyIsUtf8 (read_key ts)
key_utf8 [] h = tt
key_utf8 (Token.begin_object ∷ ts) h = tt
key_utf8 (Token.end_object ∷ ts) h = (tt, h.1)
key_utf8 (Token.begin_array ∷ ts) h = tt
key_utf8 (Token.end_array ∷ ts) h = tt
key_utf8 (Token.key s ∷ ts) h = (h.0, h.1)
key_utf8 (Token.string s ∷ ts) h = tt
key_utf8 (Token.number s ∷ ts) h = tt
key_utf8 (Token.boolean b ∷ ts) h = tt
key_utf8 (Token.null ∷ ts) h = tt
key_utf8 (Token.bad ∷ ts) h = tt

module _ (p : Parse Json) (parses : Parses JsonIsUtf8 p) where
  item_turn : (more : Parse json.Items) → Parses ItemsAreUtf8 more → (ts : List Token)
      → TokensAreUtf8 ts
      → (o : Option (List Token)) → RestIsUtf8 o → Parsed ItemsAreUtf8 (items_step p more ts o)
  item_turn more again ts h (Some r) x = (tt, x)
  item_turn more again ts h None x =
      and_more ItemsAreUtf8 json.item (λ j b y z. (y, z)) more again (p ts) (parses ts h)

  items_parse : (n : ℕ) → Parses ItemsAreUtf8 (items p n)
  unfolding items
  items_parse zero ts h = tt
  items_parse (suc n) ts h =
      item_turn (items p n) (items_parse n) ts h (after_end_array ts) (after_array ts h)

  member_turn : (more : Parse json.Members) → Parses MembersAreUtf8 more
      → (o : Option (Option (List ℕ) × List Token))
      → Parsed KeyIsUtf8 o → Parsed MembersAreUtf8
      (option_and_then (λ q. members_step p more q.0 q.1) o)
  member_turn more again None x = tt
  member_turn more again (Some (None, s)) x = (tt, x.1)
  member_turn more again (Some (Some k, s)) x =
      and_more MembersAreUtf8 (json.member k) (λ j b y z. (x.0, y, z)) more again (p s)
      (parses s x.1)

  members_parse : (n : ℕ) → Parses MembersAreUtf8 (members p n)
  unfolding members
  members_parse zero ts h = tt
  members_parse (suc n) ts h =
      member_turn (members p n) (members_parse n) (read_key ts) (key_utf8 ts h)

one_level : (a : Parse json.Items) (o : Parse json.Members) → Parses ItemsAreUtf8 a
    → Parses MembersAreUtf8 o
    → Parses JsonIsUtf8 (value_with a o)
one_level a o p q [] h = tt
one_level a o p q (Token.begin_object ∷ ts) h =
    mapped MembersAreUtf8 JsonIsUtf8 json.object (λ ms x. x) (o ts) (q ts h.1)
one_level a o p q (Token.end_object ∷ ts) h = tt
one_level a o p q (Token.begin_array ∷ ts) h =
    mapped ItemsAreUtf8 JsonIsUtf8 json.array (λ js x. x) (a ts) (p ts h.1)
one_level a o p q (Token.end_array ∷ ts) h = tt
one_level a o p q (Token.key s ∷ ts) h = tt
one_level a o p q (Token.string s ∷ ts) h = (h.0, h.1)
one_level a o p q (Token.number s ∷ ts) h = (tt, h.1)
one_level a o p q (Token.boolean b ∷ ts) h = (tt, h.1)
one_level a o p q (Token.null ∷ ts) h = (tt, h.1)
one_level a o p q (Token.bad ∷ ts) h = tt

value_parse : (d : ℕ) → Parses JsonIsUtf8 (value d)
unfolding value
value_parse zero = one_level (λ ts. None) (λ ts. None) (λ ts h. tt) (λ ts h. tt)
value_parse (suc d) =
    one_level (λ ts. items (value d) (length ts) ts) (λ ts. members (value d) (length ts) ts)
    (λ ts h. items_parse (value d) (value_parse d) (length ts) ts h)
    (λ ts h. members_parse (value d) (value_parse d) (length ts) ts h)

-- ---- data

put_at : (o : Ordering) (k l : List ℕ) (d e : Data) (ms rest : Members) → IsUtf8 k → HasUtf8 d
    → IsUtf8 l → HasUtf8 e
    → MembersHaveUtf8 ms → MembersHaveUtf8 rest
    → MembersHaveUtf8 (match_ordering o (member k d (member l e ms)) (member l d ms)
    (member l e rest))
put_at Less k l d e ms rest hk hd hl he hm hr = (hk, hd, (hl, he, hm))
put_at Equal k l d e ms rest hk hd hl he hm hr = (hl, hd, hm)
put_at Greater k l d e ms rest hk hd hl he hm hr = (hl, he, hr)

pub put_utf8 : (k : List ℕ) (d : Data) (ms : Members) → IsUtf8 k → HasUtf8 d → MembersHaveUtf8 ms
    → MembersHaveUtf8 (put k d ms)
put_utf8 k d no_members hk hd hm = (hk, hd, tt)
put_utf8 k d (member l e ms) hk hd hm =
    put_at (slice_cmp nat_cmp k l) k l d e ms (put k d ms) hk hd hm.0 hm.1 hm.2
    (put_utf8 k d ms hk hd hm.2)

any_number : (o : Option Num) → Within HasUtf8 (option_map number o)
any_number None = tt
any_number (Some n) = tt

mutual
  utf8-of_json : (j : Json) → JsonIsUtf8 j → Within HasUtf8 (of_json j)
  utf8-of_json json.null h = tt
  utf8-of_json (json.boolean b) h = tt
  utf8-of_json (json.number s) h = any_number (number_of s)
  utf8-of_json (json.string s) h = h
  utf8-of_json (json.array js) h =
      Within-map ItemsHaveUtf8 HasUtf8 array (λ ds x. x) (of_items js) (utf8-of_items js h)
  utf8-of_json (json.object ms) h =
      Within-map MembersHaveUtf8 HasUtf8 object (λ ds x. x) (of_members ms no_members)
      (utf8-of_members ms no_members h tt)

  utf8-of_items : (js : json.Items) → ItemsAreUtf8 js → Within ItemsHaveUtf8 (of_items js)
  utf8-of_items json.no_items h = tt
  utf8-of_items (json.item j js) h =
      Within-and_then HasUtf8 ItemsHaveUtf8 _
      (λ d x. Within-map ItemsHaveUtf8 ItemsHaveUtf8 (item d) (λ ds y. (x, y)) (of_items js)
      (utf8-of_items js h.1))
      (of_json j)
      (utf8-of_json j h.0)

  utf8-of_members : (ms : json.Members) (found : Members) → MembersAreUtf8 ms
      → MembersHaveUtf8 found
      → Within MembersHaveUtf8 (of_members ms found)
  utf8-of_members json.no_members found h k = k
  utf8-of_members (json.member name j ms) found h k =
      Within-and_then HasUtf8 MembersHaveUtf8 _
      (λ d x. utf8-of_members ms (put name d found) h.2 (put_utf8 name d found h.0 x k))
      (of_json j)
      (utf8-of_json j h.1)

last_utf8 : (o : Option (Json × List Token)) → Parsed JsonIsUtf8 o
    → Within JsonIsUtf8 (option_and_then (λ p. json.if_last p.0 p.1) o)
last_utf8 o x = grind arith

pub read_utf8 : (text : List ℕ) (d : Data) → IsUtf8 text → read text ≡ Some d → HasUtf8 d
read_utf8 text d u e =
    let o : Option Json =
    option_and_then (λ p. json.if_last p.0 p.1) (value max_depth (tokens text)) in
    subst (Within HasUtf8) e
    (Within-and_then JsonIsUtf8 HasUtf8 of_json (λ j x. utf8-of_json j x) o
    (last_utf8 (value max_depth (tokens text))
    (value_parse max_depth (tokens text) (tokens_utf8 text u))))

if_read : (b : Bool) (o : Option Data) (d : Data) → cond b o None ≡ Some d
    → (b ≡ true) × (o ≡ Some d)
if_read true o d e = (refl, e)
if_read false o d e = absurd (cc)

-- a file's value has UTF-8 alone
pub file_utf8 : ReadUtf8Law
file_utf8 bytes d e =
    let p = if_read (is_utf8 bytes) (read bytes) d e in
    read_utf8 bytes d (IsUtf8-from_is_utf8 bytes p.0) p.1
