-- Where a pass over the members of an object stops.
use Rattle.std.proofs.Common.{◌≡◌, ℕ, ◌+◌, ◌<◌, ◌≤◌, ◌==◌, ◌||◌, Bool, true, false, cond, List, []}
use Rattle.std.proofs.Common.{◌∷◌, ◌++◌, length, drop, get_or, Ordering, Less, Equal, Greater}
use Rattle.std.proofs.Common.{nat_cmp, refl, sym, ap, ◌∙◌, arith, append_assoc, length-drop}
use Rattle.std.proofs.lemmas.List.{drop_more}
use Rattle.std.proofs.lemmas.Cmp.{nat_list_cmp_total}
use Rattle.std.proofs.Math.Bool.{or-true, or-false}
use Rattle.std.specs.Cmp.Lexicographic.{slice_cmp}
use Rattle.std.specs.Ordering.{match_ordering, is_lt, ordering_reverse}
use Rattle.json.specs.Print.{escape}
use Rattle.serde_json.specs.Data.{Data, Members, no_members, member}
use Rattle.serde_json.specs.Written.{compact_text, members_text}
use Rattle.cdf_parts.specs.Proper.{MembersAreWell}
use Rattle.cvr_report.specs.Record.{front, back, some, IsCut}
use Rattle.cvr_report.specs.Scan.{InString, left_after, is_before, HasNoEscape, start_of}
use Rattle.cvr_report.proofs.Names.{is_before-escape}
use Rattle.cvr_report.proofs.Scanning.{member_pass}

-- what is known on the way: the members left, and that what is cut off them is cut off all
abbrev pub Goes : List ℕ → ℕ → List ℕ → ℕ → Type 0
Goes text from name at = (later : Bool) (ms : Members) → MembersAreWell ms
    → drop from text ≡ members_text later ms
    → (now : Bool) × (rest : Members) × MembersAreWell rest × (drop at text ≡ members_text now rest)
    × (back name rest ≡ back name ms)
    × ((now || some (front name rest)) ≡ (later || some (front name ms)))

pub goes_first : (text : List ℕ) (from : ℕ) (name : List ℕ) → Goes text from name from
goes_first text from name later ms h e = (later, ms, h, e, refl, refl)

within : (text : List ℕ) (at x : ℕ) (xs : List ℕ) → drop at text ≡ x ∷ xs → at < length text
within text at x xs e = omega (arith, length-drop at text, ap length e)

heads : (text : List ℕ) (at x : ℕ) (xs : List ℕ) → drop at text ≡ x ∷ xs
    → (get_or text at 0 ≡ x) × (drop (at + 1) text ≡ xs)
heads text at x xs e = let f = sym (drop_more text at 0 (within text at x xs e)) ∙ e in (cc, cc)

start_at : (text : List ℕ) (at x : ℕ) → get_or text at 0 ≡ x
    → start_of text at ≡ at + cond (x == 44) 2 1
start_at text at x e = ap (λ y. at + cond (y == 44) 2 1) e

abbrev rest_text : List ℕ → Data → Members → List ℕ
rest_text k d ms = escape k ++ 34 ∷ 58 ∷ (compact_text d ++ members_text true ms)

unquoted : (k r : List ℕ) → (escape k ++ 34 ∷ []) ++ r ≡ escape k ++ 34 ∷ r
unquoted k r = append_assoc (escape k) (34 ∷ []) r

pub name_at : (now : Bool) (text : List ℕ) (at : ℕ) (k : List ℕ) (d : Data) (ms : Members)
    → drop at text ≡ members_text now (member k d ms)
    → (start_of text at ≤ length text) × (drop (start_of text at) text ≡ rest_text k d ms)
    × (get_or text at 0 ≡ 125 → ⊥)
name_at true text at k d ms e =
    let a = heads text at 44 _ e in
    let b = heads text (at + 1) 34 _ a.1 in
    let two : at + 1 + 1 ≡ start_of text at = omega arith ∙ sym (start_at text at 44 a.0) in
    let inside = within text (at + 1) 34 _ a.1 in (
      omega (arith, two, inside),
      ap (λ n. drop n text) (sym two) ∙ b.1 ∙ unquoted k _,
      λ z. let never : 44 ≡ 125 = sym a.0 ∙ z in omega arith,
    )
name_at false text at k d ms e =
    let a = heads text at 34 _ e in
    let one : at + 1 ≡ start_of text at = sym (start_at text at 34 a.0) in
    let inside = within text at 34 _ e in (
      omega (arith, one, inside),
      ap (λ n. drop n text) (sym one) ∙ a.1 ∙ unquoted k _,
      λ z. let never : 34 ≡ 125 = sym a.0 ∙ z in omega arith,
    )

kept_at : (o : Ordering) (k : List ℕ) (d : Data) (f : Members) (b ms : Members) → is_lt o ≡ false
    → (match_ordering (ordering_reverse o) no_members no_members (member k d f) ≡ no_members)
    × (match_ordering (ordering_reverse o) (member k d ms) (member k d ms) b ≡ member k d ms)
kept_at Less k d f b ms h = absurd (cc)
kept_at Equal k d f b ms h = (refl, refl)
kept_at Greater k d f b ms h = (refl, refl)

passed_at : (o : Ordering) (k : List ℕ) (d : Data) (f : Members) (b ms : Members) → is_lt o ≡ true
    → (match_ordering (ordering_reverse o) no_members no_members (member k d f) ≡ member k d f)
    × (match_ordering (ordering_reverse o) (member k d ms) (member k d ms) b ≡ b)
passed_at o k d f b ms h = grind arith

kept : (name k : List ℕ) (d : Data) (ms : Members) → is_lt (slice_cmp nat_cmp k name) ≡ false
    → (front name (member k d ms) ≡ no_members) × (back name (member k d ms) ≡ member k d ms)
kept name k d ms h = rw (nat_list_cmp_total.antisymm name k)
    (kept_at (slice_cmp nat_cmp k name) k d (front name ms) (back name ms) ms h)

passed : (name k : List ℕ) (d : Data) (ms : Members) → is_lt (slice_cmp nat_cmp k name) ≡ true
    → (front name (member k d ms) ≡ member k d (front name ms))
    × (back name (member k d ms) ≡ back name ms)
passed name k d ms h = rw (nat_list_cmp_total.antisymm name k)
    (passed_at (slice_cmp nat_cmp k name) k d (front name ms) (back name ms) ms h)

-- ---- the ends of the pass

closed : (now : Bool) (text : List ℕ) (at : ℕ) (rest : Members) → get_or text at 0 ≡ 125
    → drop at text ≡ members_text now rest → rest ≡ no_members
closed now text at no_members z e = refl
closed now text at (member k d ms) z e = absurd ((name_at now text at k d ms e).2 z)

pub cut_at_end : (text : List ℕ) (from : ℕ) (name : List ℕ) (at : ℕ) → Goes text from name at
    → get_or text at 0 ≡ 125 → IsCut text from name at
cut_at_end text from name at g z later ms h e =
    let w = g later ms h e in
    let none = closed w.0 text at w.1 z w.3 in
    let gone : no_members ≡ back name ms = ap (back name) (sym none) ∙ w.4 in
    w.3 ∙ ap (members_text w.0) none ∙ ap (members_text (later || some (front name ms))) gone

some_text : (now : Bool) (ms : Members) → 0 < length (members_text now ms)
some_text true no_members = omega arith
some_text false no_members = omega arith
some_text true (member k d ms) = omega arith
some_text false (member k d ms) = omega arith

pub no_text : (text : List ℕ) (from : ℕ) (name : List ℕ) (at : ℕ) → Goes text from name at
    → length text ≤ at → IsCut text from name at
no_text text from name at g l later ms h e =
    let w = g later ms h e in
    absurd (omega (arith, some_text w.0 w.1, ap length w.3, length-drop at text))

here : (now later f : Bool) (text : List ℕ) (at : ℕ) (name : List ℕ) (rest b : Members)
    → (get_or text at 0 ≡ 125 → ⊥) → at < length text → drop at text ≡ members_text now rest
    → back name rest ≡ b
    → (now || some (front name rest)) ≡ f → HasNoEscape name
    → is_before (drop (start_of text at) text) name ≡ false → drop at text ≡ members_text f b
here now later f text at name no_members b unclosed l e same flag plain stop =
    absurd (unclosed (closes now e))
  where
    closes : (now : Bool) → drop at text ≡ members_text now no_members → get_or text at 0 ≡ 125
    closes now e = (heads text at 125 [] e).0
here now later f text at name (member k d ms) b unclosed l e same flag plain stop =
    let n = name_at now text at k d ms e in
    let above = sym (is_before-escape k name (58 ∷ (compact_text d ++ members_text true ms)) plain)
    ∙ ap (λ s. is_before s name) (sym n.1) ∙ stop in
    let p = kept name k d ms above in
    e ∙ (λ i. members_text ((sym (or-false now) ∙ ap (λ m. now || some m) (sym p.0) ∙ flag) i)
    ((sym p.1 ∙ same) i))

pub cut_at_name : (text : List ℕ) (from : ℕ) (name : List ℕ) (at : ℕ) → Goes text from name at
    → (get_or text at 0 ≡ 125 → ⊥) → at < length text → HasNoEscape name
    → is_before (drop (start_of text at) text) name ≡ false → IsCut text from name at
cut_at_name text from name at g unclosed l plain stop later ms h e =
    let w = g later ms h e in
    here w.0 later _ text at name w.1 (back name ms) unclosed l w.3 w.4 w.5 plain stop

past : (now : Bool) (text : List ℕ) (at : ℕ) (rest : Members) → (get_or text at 0 ≡ 125 → ⊥)
    → length text < start_of text at → drop at text ≡ members_text now rest → ⊥
past now text at no_members unclosed l e = unclosed (heads text at 125 [] e).0
past now text at (member k d ms) unclosed l e = omega (arith, (name_at now text at k d ms e).0, l)

pub cut_past : (text : List ℕ) (from : ℕ) (name : List ℕ) (at : ℕ) → Goes text from name at
    → (get_or text at 0 ≡ 125 → ⊥) → length text < start_of text at → IsCut text from name at
cut_past text from name at g unclosed l later ms h e =
    let w = g later ms h e in absurd (past w.0 text at w.1 unclosed l w.3)

next : (now f : Bool) (text : List ℕ) (at to : ℕ) (name : List ℕ) (rest b : Members)
    → MembersAreWell rest → (get_or text at 0 ≡ 125 → ⊥) → drop at text ≡ members_text now rest
    → back name rest ≡ b
    → (now || some (front name rest)) ≡ f → HasNoEscape name
    → is_before (drop (start_of text at) text) name ≡ true
    → drop to text ≡ left_after InString 0 (drop (start_of text at) text)
    → (now : Bool) × (rest : Members) × MembersAreWell rest × (drop to text ≡ members_text now rest)
    × (back name rest ≡ b) × ((now || some (front name rest)) ≡ f)
next now f text at to name no_members b h unclosed e same flag plain go skip =
    absurd (unclosed (heads text at 125 [] e).0)
next now f text at to name (member k d ms) b h unclosed e same flag plain go skip =
    let n = name_at now text at k d ms e in
    let below = sym (is_before-escape k name (58 ∷ (compact_text d ++ members_text true ms)) plain)
    ∙ ap (λ s. is_before s name) (sym n.1) ∙ go in
    let p = passed name k d ms below in (
      true,
      ms,
      h.2,
      skip ∙ ap (left_after InString 0) n.1 ∙ member_pass k d ms h.0,
      sym p.1 ∙ same,
      sym (or-true now) ∙ ap (λ m. now || some m) (sym p.0) ∙ flag,
    )

pub goes_on : (text : List ℕ) (from : ℕ) (name : List ℕ) (at to : ℕ) → Goes text from name at
    → (get_or text at 0 ≡ 125 → ⊥) → HasNoEscape name
    → is_before (drop (start_of text at) text) name ≡ true
    → drop to text ≡ left_after InString 0 (drop (start_of text at) text)
    → Goes text from name to
goes_on text from name at to g unclosed plain go skip later ms h e =
    let w = g later ms h e in
    next w.0 _ text at to name w.1 (back name ms) w.2 unclosed w.3 w.4 w.5 plain go skip
