-- Values that are read back from their texts, in UTF-8.
use Rattle.std.proofs.Common.{◌≡◌, ◌≤◌, ℕ, suc, List, [], ◌∷◌, Contains, All, get_or, Bool, true}
use Rattle.std.proofs.Common.{false, Option, Some, None, IsUtf8}
use Rattle.std.proofs.Common.{refl, arith, true≢false, sym}
use Rattle.std.specs.Prelude.{if◌then◌else◌}
use Rattle.std.specs.Str.{is_utf8}
use Rattle.std.proofs.lemmas.List.Elements.{All-contains_itself}
use Rattle.std.proofs.lemmas.Str.{is_utf8-from_IsUtf8}
use Rattle.serde_json.specs.Data.{Data, string, array, object, Members, no_members, put}
use Rattle.serde_json.specs.Read.{read, max_depth}
use Rattle.serde_json.specs.View.{items_of}
use Rattle.serde_json.specs.Written.{compact_text}
use Rattle.cdf_parts.specs.Proper.{IsProper}
use Rattle.cdf_form.specs.Reading.{value_of}
use Rattle.cdf_parts.proofs.Laws.{array_proper, proper_deeper, read-proper, put_proper}
use Rattle.cdf_check.specs.Utf8.{HasUtf8, ItemsHaveUtf8}
use Rattle.cdf_check.proofs.Laws.{file_utf8, proper_utf8}
use Rattle.cdf_check.proofs.Lemmas.{put_utf8}
use Rattle.cvr_facts.proofs.Lemmas.{at_head, at_tail}

-- at most n deep, with no float, and each text in it is UTF-8
pub record IsClean (n : ℕ) (d : Data) : Type 0 where
  pub proper : IsProper n d
  pub utf8 : HasUtf8 d

-- what holds of each member of a list holds at each place
pub all_of : {X : Type 0} (P : X → Type 0) (xs : List X) → ((x : X) → Contains xs x → P x)
    → All P xs
all_of P xs h = λ i d lt. h (get_or xs i d) (All-contains_itself xs i d lt)

pub clean_string : (n : ℕ) (s : List ℕ) → IsUtf8 s → IsClean n (string s)
clean_string n s u =
    record { proper = record { well = tt; whole = refl; shallow = omega arith }; utf8 = u }

-- ---- arrays

utf8_items : (xs : List Data) → ((d : Data) → Contains xs d → HasUtf8 d)
    → ItemsHaveUtf8 (items_of xs)
utf8_items [] h = tt
utf8_items (x ∷ xs) h = (h x (at_head x xs), utf8_items xs (λ d a. h d (at_tail x d xs a)))

pub clean_array : (n : ℕ) (xs : List Data) → ((d : Data) → Contains xs d → IsClean n d)
    → IsClean (suc n) (array (items_of xs))
clean_array n xs h = record {
  proper = array_proper n xs (all_of (IsProper n) xs (λ d a. (h d a).proper));
  utf8 = utf8_items xs (λ d a. (h d a).utf8);
}

-- ---- objects

pub clean_put : (n : ℕ) (k : List ℕ) (d : Data) (ms : Members) → IsUtf8 k → IsClean n d
    → IsClean (suc n) (object ms) → IsClean (suc n) (object (put k d ms))
clean_put n k d ms hk hd h = record {
  proper = put_proper n k d ms hd.proper h.proper;
  utf8 = put_utf8 k d ms hk hd.utf8 h.utf8;
}

pub clean_none : (n : ℕ) → IsClean (suc n) (object no_members)
clean_none n =
    record { proper = record { well = tt; whole = refl; shallow = omega arith }; utf8 = tt }

pub clean_deeper : (m n : ℕ) (d : Data) → m ≤ n → IsClean m d → IsClean n d
clean_deeper m n d le h = record { proper = proper_deeper m n d le h.proper; utf8 = h.utf8 }

-- ---- texts

value_at : (b : Bool) (o : Option Data) (d : Data) → b ≡ true → o ≡ Some d
    → (if b then o else None) ≡ Some d
value_at true o d h is = is
value_at false o d h is = absurd (true≢false (sym h))

-- the value of a text in UTF-8
pub value_is : (text : List ℕ) (d : Data) → IsUtf8 text → read text ≡ Some d
    → value_of text ≡ Some d
value_is text d u is = value_at (is_utf8 text) (read text) d (is_utf8-from_IsUtf8 text u) is

pub clean_read : (n : ℕ) (text : List ℕ) (d : Data) → IsUtf8 text → read text ≡ Some d
    → IsProper n d → IsClean n d
clean_read n text d u is p = record { proper = p; utf8 = file_utf8 text d (value_is text d u is) }

-- its compact text is a file with that value
pub clean_value : (d : Data) → IsClean max_depth d → value_of (compact_text d) ≡ Some d
clean_value d h =
    value_is (compact_text d) d (proper_utf8 max_depth d h.proper h.utf8) (read-proper d h.proper)
