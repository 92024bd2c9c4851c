-- What stands at a name among members.
use Rattle.std.proofs.Common.{None, zero, suc, subst}
use Rattle.std.proofs.Common.{◌≡◌, ℕ, List, [], ◌∷◌, Bool, true, false, bytes_eq, Option, Some}
use Rattle.std.proofs.Common.{option_map, Ordering, Less, Equal, Greater, is_eq, nat_cmp, refl, ap}
use Rattle.std.proofs.Common.{ap₂, ◌∙◌, ◌+◌, ◌<◌, length, get_or, drop, sym, arith}
use Rattle.std.specs.Prelude.{if◌then◌else◌}
use Rattle.std.specs.List.{find}
use Rattle.std.proofs.lemmas.Map.Text.{is_eq-slice_cmp}
use Rattle.std.specs.Cmp.Lexicographic.{slice_cmp}
use Rattle.std.specs.Ordering.{match_ordering, is_lt, ordering_reverse}
use Rattle.std.proofs.lemmas.Cmp.{nat_list_cmp_total}
use Rattle.std.proofs.lemmas.List.{drop_more}
use Rattle.serde_json.specs.Data.{Data, Members, no_members, member}
use Rattle.serde_json.specs.Find.{get_member}
use Rattle.cdf_node.specs.View.{view, members_view}
use Rattle.cdf_node.specs.Order.{Before, Below, Rises}
use Rattle.cdf_node.proofs.Sorting.{reversed, Below-trans}
use Rattle.cdf_node.proofs.Views.{Entry}

either : (o : Ordering) (a b : Option Data) → match_ordering o a b a ≡ (if is_eq o then b else a)
either o a b = grind arith

chosen : (b : Bool) (e : Entry) (o : Option Entry)
    → (if b then Some (view e.1) else option_map (λ e. view e.1) o)
    ≡ option_map (λ e. view e.1) (if b then Some e else o)
chosen true e o = refl
chosen false e o = refl

pub found_member : (name : List ℕ) (es : List Entry)
    → get_member name (members_view es)
    ≡ option_map (λ e. view e.1) (find (λ e. bytes_eq name e.0.now) es)
found_member name [] = refl
found_member name (e ∷ es) =
    either (slice_cmp nat_cmp name e.0.now) _ _
    ∙ ap₂ (λ b o. if b then Some (view e.1) else o) (is_eq-slice_cmp name e.0.now)
    (found_member name es)
    ∙ chosen (bytes_eq name e.0.now) e _

-- ---- members are passed

neither : (o : Ordering) → is_lt o ≡ false → is_eq o ≡ false → o ≡ Greater
neither Less lt eq = cc
neither Equal lt eq = cc
neither Greater lt eq = refl

equal : (o : Ordering) → is_eq o ≡ true → o ≡ Equal
equal Less eq = cc
equal Equal eq = refl
equal Greater eq = cc

-- a name that is neither another nor before it stands behind it
pub behind : (k l : List ℕ) → is_lt (slice_cmp nat_cmp k l) ≡ false → bytes_eq k l ≡ false
    → slice_cmp nat_cmp k l ≡ Greater
behind k l lt eq = neither (slice_cmp nat_cmp k l) lt (is_eq-slice_cmp k l ∙ eq)

-- and so does each name behind it
pub further : (q k l : List ℕ) → slice_cmp nat_cmp k l ≡ Greater → Before k q
    → slice_cmp nat_cmp q l ≡ Greater
further q k l g b =
    let less : Before l k = nat_list_cmp_total.antisymm l k ∙ ap ordering_reverse g in
    reversed q l (nat_list_cmp_total.trans l k q less b)

-- a member that stands before a name is none of that name
pub passed : (q : List ℕ) (es : List Entry) (i : ℕ) (e : Entry) → i < length es
    → slice_cmp nat_cmp q (get_or es i e).0.now ≡ Greater
    → get_member q (members_view (drop i es)) ≡ get_member q (members_view (drop (i + 1) es))
passed q es i e h g = rw (drop_more es i e h, g) refl

-- the member of a name, where it stands first
pub met : (q : List ℕ) (es : List Entry) (i : ℕ) (e : Entry) → i < length es
    → bytes_eq q (get_or es i e).0.now ≡ true
    → get_member q (members_view (drop i es)) ≡ Some (view (get_or es i e).1)
met q es i e h is =
    rw (drop_more es i e h)
    (either (slice_cmp nat_cmp q (get_or es i e).0.now) _ _
    ∙ ap (λ b. if b then Some (view (get_or es i e).1)
    else get_member q (members_view (drop (i + 1) es)))
    (is_eq-slice_cmp q (get_or es i e).0.now ∙ is))

-- a name behind that of the first member is none of its
pub after : (q k l : List ℕ) → bytes_eq k l ≡ true → Before k q → slice_cmp nat_cmp q l ≡ Greater
after q k l is b =
    let e = equal (slice_cmp nat_cmp k l) (is_eq-slice_cmp k l ∙ is) in
    reversed q l (sym (nat_list_cmp_total.congr k l q e) ∙ b)

-- ---- where members rise, none is of a name that stands before the first

pub below_none : (q : List ℕ) (ms : Members) → Below q ms → get_member q ms ≡ None
below_none q no_members h = refl
below_none q (member l d ms) h =
    ap (λ o. match_ordering o (get_member q ms) (Some d) (get_member q ms)) h.0
    ∙ below_none q ms h.1

rises_behind : (es : List Entry) (i : ℕ) → Rises (members_view es)
    → Rises (members_view (drop i es))
rises_behind es zero h = h
rises_behind [] (suc i) h = h
rises_behind (e ∷ es) (suc i) h = rises_behind es i h.1

pub absent : (q : List ℕ) (es : List Entry) (i : ℕ) (e : Entry) → Rises (members_view es)
    → i < length es → slice_cmp nat_cmp q (get_or es i e).0.now ≡ Less
    → get_member q (members_view (drop i es)) ≡ None
absent q es i e h here less =
    let at = drop_more es i e here in
    let rest = subst (λ xs. Rises (members_view xs)) at (rises_behind es i h) in
    subst (λ xs. get_member q (members_view xs) ≡ None) (sym at)
    (below_none q (members_view (get_or es i e ∷ drop (i + 1) es))
    (less, Below-trans q (get_or es i e).0.now (members_view (drop (i + 1) es)) less rest.0))

pub less : (o : Ordering) → is_lt o ≡ true → o ≡ Less
less o is = grind arith
