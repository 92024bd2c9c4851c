-- Members that go in one after another, each after those before it.
use Rattle.std.proofs.Common.{◌≡◌, ℕ, List, refl, ap, ◌∙◌}
use Rattle.std.specs.Ordering.{match_ordering}
use Rattle.std.specs.Prelude.{⊤}
use Rattle.serde_json.specs.Data.{Data, Members, no_members, member, put}
use Rattle.cdf_parts.specs.Proper.{Before, Below}
use Rattle.cdf_parts.proofs.Order.{Before-trans, after_is}

-- the first members, then the others
abbrev pub append : Members → Members → Members
append no_members more = more
append (member k d ms) more = member k d (append ms more)

-- each name stands before k
abbrev pub Under : Members → List ℕ → Type 0
Under no_members k = ⊤
Under (member l e ms) k = Before l k × Under ms k

-- each name of the first stands before the first name of the second
abbrev pub UnderFirst : Members → Members → Type 0
UnderFirst done no_members = ⊤
UnderFirst done (member k d ms) = Under done k

pub from_none : (ms : Members) → UnderFirst no_members ms
from_none no_members = tt
from_none (member k d ms) = tt

Under-trans : (done : Members) (k l : List ℕ) → Under done k → Before k l → Under done l
Under-trans no_members k l h p = tt
Under-trans (member j e ms) k l h p = (Before-trans j k l h.0 p, Under-trans ms k l h.1 p)

Under-append : (done more : Members) (k : List ℕ) → Under done k → Under more k
    → Under (append done more) k
Under-append no_members more k h p = p
Under-append (member j e ms) more k h p = (h.0, Under-append ms more k h.1 p)

pub put_above : (k : List ℕ) (d : Data) (done : Members)
    → Under done k → put k d done ≡ append done (member k d no_members)
put_above k d no_members h = refl
put_above k d (member l e ms) h =
    ap (λ o. match_ordering o (member k d (member l e ms)) (member l d ms)
    (member l e (put k d ms))) (after_is l k h.0)
    ∙ ap (member l e) (put_above k d ms h.1)

pub append_assoc : (a b c : Members) → append (append a b) c ≡ append a (append b c)
append_assoc no_members b c = refl
append_assoc (member k d ms) b c = ap (member k d) (append_assoc ms b c)

pub append_none : (a : Members) → append a no_members ≡ a
append_none no_members = refl
append_none (member k d ms) = ap (member k d) (append_none ms)

pub next_first : (done : Members) (k : List ℕ) (d : Data) (ms : Members)
    → Under done k → Below k ms → UnderFirst (append done (member k d no_members)) ms
next_first done k d no_members h p = tt
next_first done k d (member l e ms) h p =
    Under-append done (member k d no_members) l (Under-trans done k l h p.0) (p.0, tt)
