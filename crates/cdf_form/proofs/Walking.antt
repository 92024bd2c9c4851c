-- What the walk's steps say of the whole.
use Rattle.std.proofs.Common.{◌≡◌, ℕ, ◌+◌, ◌<◌, List, [], ◌∷◌, ◌++◌, length, get_or, drop, Option}
use Rattle.std.proofs.Common.{None, option_map, unwrap_or, Ordering, Less, arith}
use Rattle.std.proofs.Common.{true, false, nat_cmp, refl, sym, ap, ◌∙◌, subst}
use Rattle.std.specs.Prelude.{⊤}
use Rattle.std.specs.Ordering.{is_lt}
use Rattle.std.specs.Cmp.Lexicographic.{slice_cmp}
use Rattle.std.proofs.lemmas.List.{drop_more}
use Rattle.std.proofs.lemmas.Bool.{and_parts}
use Rattle.serde_json.specs.Data.{Data, null, boolean, number, string, array, object, Members}
use Rattle.serde_json.specs.Data.{no_members}
use Rattle.serde_json.specs.Find.{get, get_member, as_object}
use Rattle.cdf_node.specs.Order.{Before}
use Rattle.cdf_form.specs.declared.found.Stop.{Stop}
use Rattle.cdf_form.specs.declared.found.Stop.TheVariants as stop
use Rattle.cdf_form.specs.declared.table.Key.{Key}
use Rattle.cdf_form.specs.declared.table.Kind.{Kind}
use Rattle.cdf_form.specs.declared.table.Member.{Member}
use Rattle.cdf_form.specs.Tables.{Entry, entry_of, entries_of}
use Rattle.cdf_form.specs.Form.{Fault, at_member, deeper_fault, first, entry_faults, table_faults}
use Rattle.cdf_form.specs.Found.{StopsAt}
use Rattle.cdf_form.specs.Laws.{is_below_all, is_in_order}
use Rattle.cdf_form.proofs.Parts.{first-append_none, first-append_some, first-under}

pub tells_as : (s : Stop) (a b : Option Fault) → a ≡ b → StopsAt s a → StopsAt s b
tells_as s a b e h = subst (StopsAt s) e h

tells_more : (s : Stop) (xs ys : List Fault) → StopsAt s (first xs) → StopsAt s (first (xs ++ ys))
tells_more (stop.Fault f) xs ys h = first-append_some xs ys _ h
tells_more (stop.Memory m) xs ys h = tt

-- a fault of the entry at a place is the first of the entries from there on
pub entries_stop : (look : List ℕ → Kind → Option (List Fault)) (mark : Key) (rs : List Member) (i : ℕ)
    (r : Member) → i < length rs → (s : Stop)
    → StopsAt s (option_map (deeper_fault (at_member (get_or rs i r).name.now))
    (first (entry_faults mark (entry_of (get_or rs i r))
    (look (get_or rs i r).name.now (get_or rs i r).kind))))
    → StopsAt s (first (table_faults look mark (entries_of (drop i rs))))
entries_stop look mark rs i r lt s h =
    let here = ap (λ xs. table_faults look mark (entries_of xs)) (drop_more rs i r lt) in
    tells_as s _ _ (sym (ap first here))
    (tells_more s _ _ (tells_as s _ _ (sym (first-under _ _)) h))

-- where the entry at a place has no fault, the first is that of the entries behind it
pub entries_go : (look : List ℕ → Kind → Option (List Fault)) (mark : Key) (rs : List Member) (i : ℕ)
    (r : Member) → i < length rs
    → first (entry_faults mark (entry_of (get_or rs i r))
    (look (get_or rs i r).name.now (get_or rs i r).kind)) ≡ None
    → first (table_faults look mark (entries_of (drop (i + 1) rs)))
    ≡ first (table_faults look mark (entries_of (drop i rs)))
entries_go look mark rs i r lt e =
    let here = ap (λ (xs : List Member). first (table_faults look mark (entries_of xs)))
    (drop_more rs i r lt) in
    sym (here ∙ first-append_none _ _ (first-under _ _
    ∙ ap (option_map (deeper_fault (at_member (get_or rs i r).name.now))) e))

-- a member that may be absent
pub may_lack : (mark : Key) (r : Entry) → r.required ≡ false → first (entry_faults mark r None) ≡ None
may_lack mark r e = rw e refl

-- ---- the members of entries that rise

-- at the name of each entry, these members have what the value has
abbrev pub AllFound : Data → Members → List Entry → Type 0
AllFound d ms [] = ⊤
AllFound d ms (r ∷ rs) = (get_member r.name ms ≡ get r.name d) × AllFound d ms rs

all_found : (d : Data) (ms : Members) (rs : List Entry)
    → ((q : List ℕ) → get_member q ms ≡ get q d) → AllFound d ms rs
all_found d ms [] same = tt
all_found d ms (r ∷ rs) same = (same r.name, all_found d ms rs same)

get_members : (d : Data) (q : List ℕ)
    → get_member q (unwrap_or (as_object d) no_members) ≡ get q d
get_members null q = refl
get_members (boolean b) q = refl
get_members (number n) q = refl
get_members (string s) q = refl
get_members (array ds) q = refl
get_members (object ms) q = refl

-- all members of an object, and of anything else none
pub all_members : (d : Data) (ms : Members) (rs : List Entry)
    → ms ≡ unwrap_or (as_object d) no_members → AllFound d ms rs
all_members d ms rs e =
    all_found d ms rs (λ q. ap (λ (m : Members). get_member q m) e ∙ get_members d q)

pub less : (o : Ordering) → is_lt o ≡ true → o ≡ Less
less o e = grind arith

found_behind : (d : Data) (ms left : Members) (k : List ℕ) (rs : List Entry)
    → is_below_all k rs ≡ true
    → ((q : List ℕ) → Before k q → get_member q left ≡ get_member q ms)
    → AllFound d ms rs → AllFound d left rs
found_behind d ms left k [] below same h = tt
found_behind d ms left k (r ∷ rs) below same h =
    let first = (and_parts (is_lt (slice_cmp nat_cmp k r.name)) (is_below_all k rs) below).0 in
    let more = (and_parts (is_lt (slice_cmp nat_cmp k r.name)) (is_below_all k rs) below).1 in (
      same r.name (less (slice_cmp nat_cmp k r.name) first) ∙ h.0,
      found_behind d ms left k rs more same h.1,
    )

-- what is found at the entry at a place is the value's
pub found_at : (d : Data) (ms : Members) (rs : List Member) (i : ℕ) (r : Member) → i < length rs
    → AllFound d ms (entries_of (drop i rs))
    → get_member (get_or rs i r).name.now ms ≡ get (get_or rs i r).name.now d
found_at d ms rs i r lt h =
    let here = ap (λ (xs : List Member). entries_of xs) (drop_more rs i r lt) in
    (subst (AllFound d ms) here h).0

-- and behind it the members that are left have those of the entries that are left, which rise
pub rise_on : (rs : List Member) (i : ℕ) (r : Member) → i < length rs
    → is_in_order (entries_of (drop i rs)) ≡ true → is_in_order (entries_of (drop (i + 1) rs)) ≡ true
rise_on rs i r lt h =
    let here = ap (λ (xs : List Member). is_in_order (entries_of xs)) (drop_more rs i r lt) in
    (and_parts (is_below_all (get_or rs i r).name.now (entries_of (drop (i + 1) rs)))
    (is_in_order (entries_of (drop (i + 1) rs))) (sym here ∙ h)).1

pub found_on : (d : Data) (ms left : Members) (rs : List Member) (i : ℕ) (r : Member)
    → i < length rs → is_in_order (entries_of (drop i rs)) ≡ true
    → AllFound d ms (entries_of (drop i rs))
    → ((q : List ℕ) → Before (get_or rs i r).name.now q → get_member q left ≡ get_member q ms)
    → AllFound d left (entries_of (drop (i + 1) rs))
found_on d ms left rs i r lt rise h same =
    let entries = ap (λ (xs : List Member). entries_of xs) (drop_more rs i r lt) in
    let here = ap (λ (xs : List Member). is_in_order (entries_of xs)) (drop_more rs i r lt) in
    found_behind d ms left (get_or rs i r).name.now (entries_of (drop (i + 1) rs))
    (and_parts (is_below_all (get_or rs i r).name.now (entries_of (drop (i + 1) rs)))
    (is_in_order (entries_of (drop (i + 1) rs))) (sym here ∙ rise)).0
    same (subst (AllFound d ms) entries h).1
