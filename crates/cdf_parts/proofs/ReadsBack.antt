-- The compact text of data reads as that data.
use Rattle.std.proofs.Common.{◌≡◌, ◌≤◌, suc, pos, negsuc, List, [], false, Option, Some}
use Rattle.std.proofs.Common.{option_map, option_and_then, max, refl, sym, ap, ap₂, ◌∙◌, arith}
use Rattle.std.proofs.Common.{append-nil}
use Rattle.std.proofs.lemmas.Bool.{or_parts}
use Rattle.std.proofs.lemmas.Option.{same_Some}
use Rattle.json.specs.Json as json
use Rattle.json.specs.Tree as tree
use Rattle.json.specs.Tree.{HasNumbers, ItemsHaveNumbers, MembersHaveNumbers, json_tokens}
use Rattle.json.specs.Print.{IsNumber}
use Rattle.json.specs.Lex.{tokens}
use Rattle.json.specs.Token.{Token}
use Rattle.json.proofs.Printed.Decimals.{IsNumber-decimal, IsNumber-signed_decimal}
use Rattle.json.proofs.Printed.Tokens.{tokens-print}
use Rattle.json.proofs.Printed.Trees.{ArePrintable-json_tokens, value-json_tokens}
use Rattle.serde_json.specs.Data.{Num, unsigned, negative, float}
use Rattle.serde_json.specs.Data.{Data, null, boolean, number, string, array, object}
use Rattle.serde_json.specs.Data.{Items, no_items, item, Members, no_members, member, put}
use Rattle.serde_json.specs.Data.{depth, items_depth, members_depth}
use Rattle.serde_json.specs.Find.{is_float}
use Rattle.serde_json.specs.Read.{number_of, of_json, of_items, of_members, read, max_depth}
use Rattle.serde_json.specs.Written.{number_text, outline, items_outline, members_outline}
use Rattle.serde_json.specs.Written.{compact_text}
use Rattle.serde_json.specs.Written.{has_float, items_have_float, members_have_float}
use Rattle.serde_json.proofs.Numbers.{number_of-decimal, number_of-negative}
use Rattle.serde_json.proofs.Texts.{print-outline}
use Rattle.cdf_parts.specs.Proper.{NumFits, IsWell, ItemsAreWell, MembersAreWell, IsProper}
use Rattle.cdf_parts.proofs.Appending.{append, UnderFirst, from_none, put_above, append_assoc}
use Rattle.cdf_parts.proofs.Appending.{append_none, next_first}

pub number_back : (n : Num) → NumFits n → is_float n ≡ false → number_of (number_text n) ≡ Some n
number_back (unsigned n) h f = number_of-decimal n h
number_back (negative (pos n)) h f = absurd h
number_back (negative (negsuc n)) h f = number_of-negative n h
number_back (float x) h f = absurd (cc)

is_number : (n : Num) → NumFits n → is_float n ≡ false → IsNumber (number_text n)
is_number (unsigned n) h f = IsNumber-decimal n h
is_number (negative (pos n)) h f = absurd h
is_number (negative (negsuc n)) h f = IsNumber-signed_decimal (negsuc n) (omega arith)
is_number (float x) h f = absurd (cc)

mutual
  pub of_json-outline : (d : Data) → IsWell d → has_float d ≡ false → of_json (outline d) ≡ Some d
  of_json-outline null h f = refl
  of_json-outline (boolean b) h f = refl
  of_json-outline (number n) h f = ap (option_map number) (number_back n h f)
  of_json-outline (string s) h f = refl
  of_json-outline (array ds) h f = ap (option_map array) (of_items-outline ds h f)
  of_json-outline (object ms) h f =
      ap (option_map object) (of_members-outline no_members ms (from_none ms) h f)

  of_items-outline : (ds : Items)
      → ItemsAreWell ds → items_have_float ds ≡ false → of_items (items_outline ds) ≡ Some ds
  of_items-outline no_items h f = refl
  of_items-outline (item d ds) h f =
      let p = or_parts (has_float d) _ f in
      ap (option_and_then (λ e. option_map (item e) (of_items (items_outline ds))))
      (of_json-outline d h.0 p.0)
      ∙ ap (option_map (item d)) (of_items-outline ds h.1 p.1)

  of_members-outline : (done ms : Members) → UnderFirst done ms → MembersAreWell ms
      → members_have_float ms ≡ false → of_members (members_outline ms) done ≡ Some (append done ms)
  of_members-outline done no_members u h f = ap Some (sym (append_none done))
  of_members-outline done (member k d ms) u h f =
      let p = or_parts (has_float d) _ f in
      ap (option_and_then (λ e. of_members (members_outline ms) (put k e done)))
      (of_json-outline d h.0 p.0)
      ∙ ap (of_members (members_outline ms)) (put_above k d done u)
      ∙ of_members-outline (append done (member k d no_members)) ms (next_first done k d ms u h.1)
      h.2 p.1
      ∙ ap Some (append_assoc done (member k d no_members) ms)

mutual
  HasNumbers-outline : (d : Data) → IsWell d → has_float d ≡ false → HasNumbers (outline d)
  HasNumbers-outline null h f = tt
  HasNumbers-outline (boolean b) h f = tt
  HasNumbers-outline (number n) h f = is_number n h f
  HasNumbers-outline (string s) h f = tt
  HasNumbers-outline (array ds) h f = ItemsHaveNumbers-outline ds h f
  HasNumbers-outline (object ms) h f = MembersHaveNumbers-outline ms h f

  ItemsHaveNumbers-outline : (ds : Items)
      → ItemsAreWell ds → items_have_float ds ≡ false → ItemsHaveNumbers (items_outline ds)
  ItemsHaveNumbers-outline no_items h f = tt
  ItemsHaveNumbers-outline (item d ds) h f =
      let p = or_parts (has_float d) _ f in
      (HasNumbers-outline d h.0 p.0, ItemsHaveNumbers-outline ds h.1 p.1)

  MembersHaveNumbers-outline : (ms : Members)
      → MembersAreWell ms → members_have_float ms ≡ false → MembersHaveNumbers (members_outline ms)
  MembersHaveNumbers-outline no_members h f = tt
  MembersHaveNumbers-outline (member k d ms) h f =
      let p = or_parts (has_float d) _ f in
      (HasNumbers-outline d h.0 p.0, MembersHaveNumbers-outline ms h.2 p.1)

mutual
  depth-outline : (d : Data) → tree.depth (outline d) ≡ depth d
  depth-outline null = refl
  depth-outline (boolean b) = refl
  depth-outline (number n) = refl
  depth-outline (string s) = refl
  depth-outline (array ds) = ap suc (items_depth-outline ds)
  depth-outline (object ms) = ap suc (members_depth-outline ms)

  items_depth-outline : (ds : Items) → tree.items_depth (items_outline ds) ≡ items_depth ds
  items_depth-outline no_items = refl
  items_depth-outline (item d ds) = ap₂ max (depth-outline d) (items_depth-outline ds)

  members_depth-outline : (ms : Members)
      → tree.members_depth (members_outline ms) ≡ members_depth ms
  members_depth-outline no_members = refl
  members_depth-outline (member k d ms) = ap₂ max (depth-outline d) (members_depth-outline ms)

pub tokens-compact_text : (d : Data)
    → IsWell d → has_float d ≡ false → tokens (compact_text d) ≡ json_tokens (outline d)
tokens-compact_text d h f =
    ap tokens (sym (print-outline d))
    ∙ tokens-print (json_tokens (outline d))
    (ArePrintable-json_tokens (outline d) (HasNumbers-outline d h f))

-- what `read` makes of a value and the tokens after it
abbrev data_read : Option (json.Json × List Token) → Option Data
data_read o = option_and_then of_json (option_and_then (λ p. json.if_last p.0 p.1) o)

pub read-compact_text : (d : Data)
    → IsWell d → has_float d ≡ false → depth d ≤ max_depth → read (compact_text d) ≡ Some d
read-compact_text d h f shallow =
    ap data_read (
    ap (json.value max_depth) (tokens-compact_text d h f ∙ sym (append-nil _))
    ∙ value-json_tokens (outline d) max_depth [] (omega (arith, depth-outline d)))
    ∙ of_json-outline d h f

pub read-proper : (d : Data) → IsProper max_depth d → read (compact_text d) ≡ Some d
read-proper d h = read-compact_text d h.well h.whole h.shallow

-- one text, one value
pub same_text : (d e : Data) → IsWell d → has_float d ≡ false → depth d ≤ max_depth
    → IsWell e → has_float e ≡ false → depth e ≤ max_depth → compact_text d ≡ compact_text e → d ≡ e
same_text d e p q r s t u same =
    same_Some d e (sym (read-compact_text d p q r) ∙ ap read same ∙ read-compact_text e s t u)
