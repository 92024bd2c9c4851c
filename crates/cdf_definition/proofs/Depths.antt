-- How deep the parts of a file's value nest.
use Rattle.std.proofs.Common.{◌≡◌, ℕ, suc, List, [], Contains}
use Rattle.std.proofs.Common.{Bool, true, false, cond}
use Rattle.std.proofs.Common.{Option, Some, None, option_map, option_and_then, unwrap_or, refl}
use Rattle.std.proofs.Common.{arith}
use Rattle.std.specs.Str.{is_utf8}
use Rattle.serde_json.specs.Data.{Data, null, boolean, number, string, array, object}
use Rattle.serde_json.specs.Find.{get, as_array}
use Rattle.serde_json.specs.Read.{read}
use Rattle.cdf_node.specs.Items.{list_of}
use Rattle.cdf_parts.specs.Parts.{array_at}
use Rattle.cdf_parts.specs.Proper.{IsProper}
use Rattle.cdf_form.specs.Reading.{value_of}
use Rattle.cdf_parts.proofs.Laws.{member_proper, item_proper, proper_read}
use Rattle.cdf_parts.proofs.Lemmas.{item_in_list}
use Rattle.cdf_definition.specs.Acceptance.{IsReport}

-- ---- files

if_some : (b : Bool) (o : Option Data) (d : Data) → cond b o None ≡ Some d → o ≡ Some d
if_some true o d e = e
if_some false o d e = absurd (cc)

-- a file's value was read from its bytes
pub was_read : (bytes : List ℕ) (d : Data) → value_of bytes ≡ Some d → read bytes ≡ Some d
was_read bytes d e = if_some (is_utf8 bytes) (read bytes) d e

-- a report's value nests at most 127 deep
pub report_proper : (bytes : List ℕ) (d : Data) → value_of bytes ≡ Some d → IsReport d
    → IsProper 127 d
report_proper bytes d e r = proper_read bytes d (was_read bytes d e) r.whole

-- ---- items

proper_in : (n : ℕ) (o : Option Data) (e : Data) → ((f : Data) → o ≡ Some f → IsProper (suc n) f)
    → Contains (unwrap_or (option_map list_of (option_and_then as_array o)) []) e → IsProper n e
proper_in n None e h a = absurd (omega (arith, a.1))
proper_in n (Some null) e h a = absurd (omega (arith, a.1))
proper_in n (Some (boolean b)) e h a = absurd (omega (arith, a.1))
proper_in n (Some (number x)) e h a = absurd (omega (arith, a.1))
proper_in n (Some (string s)) e h a = absurd (omega (arith, a.1))
proper_in n (Some (object ms)) e h a = absurd (omega (arith, a.1))
proper_in n (Some (array ds)) e h a =
    item_proper n a.0 (array ds) e (item_in_list ds a.0 e a.1 a.2) (h (array ds) refl)

-- an item of the array under a name nests two less deep
pub listed_proper : (n : ℕ) (name : List ℕ) (d e : Data) → Contains (array_at name d) e
    → IsProper (suc (suc n)) d → IsProper n e
listed_proper n name d e a h =
    proper_in n (get name d) e (λ f is. member_proper (suc n) name d f is h) a
