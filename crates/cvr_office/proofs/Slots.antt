-- One place of a slice of offices is written.
use Rattle.std.proofs.Common.{◌≡◌, ℕ, ◌-◌, ◌<◌, List, [], ◌++◌, length, get_or, set, map, sym, ap}
use Rattle.std.proofs.Common.{◌∙◌, arith}
use Rattle.std.proofs.lemmas.List.{map-set, set-append_left, set-append_right, set-get_or}
use Rattle.std.proofs.lemmas.List.{get_or-map, get_or-append_right, get_or_append_left}
use Rattle.std.proofs.Math.Seq.{map-set_same}
use Rattle.std.specs.FinSet.{empty, len}
use Rattle.cvr_fact_types.specs.Facts.{Facts}
use Rattle.cvr_facts.specs.Reports.{facts}
use Rattle.cvr_office.specs.Readers.{growth}
use Rattle.cvr_office.specs.Outcomes.{contents_after, held_after}
use Rattle.cvr_office.specs.declared.event.Event.{Event}
use Rattle.cvr_office.specs.declared.event.Event.TheVariants.{Import, Exchange}
use Rattle.cvr_office.specs.declared.event.Cause.{Cause}
use Rattle.cvr_office.specs.declared.event.Outcome.{Outcome}
use Rattle.cvr_office.specs.declared.event.Outcome.TheVariants.{Accepted, Refused}
use Rattle.cvr_office.proofs.Unions.{union_same}

-- ---- a list in two parts

pub set-right : {A : Type 0} (all front back : List A) (i : ℕ) (v : A) → all ≡ front ++ back
    → length front ≡ i → front ++ set back 0 v ≡ set all i v
set-right all front back i v e h =
    let z : i - i ≡ 0 = omega arith in
    sym (ap (λ xs. set xs i v) e ∙ (set-append_right front back i i v h (omega arith)
    ∙ ap (λ k. front ++ set back k v) z))

pub set-left : {A : Type 0} (all front back : List A) (i : ℕ) (v : A) → all ≡ front ++ back
    → i < length front → set front i v ++ back ≡ set all i v
set-left all front back i v e h = sym (ap (λ xs. set xs i v) e ∙ set-append_left front back i v h)

pub get_or-right : {A : Type 0} (all front back : List A) (i : ℕ) (d : A) → all ≡ front ++ back
    → length front ≡ i → get_or back 0 d ≡ get_or all i d
get_or-right all front back i d e h =
    let z : i - i ≡ 0 = omega arith in
    sym (ap (λ xs. get_or xs i d) e ∙ (get_or-append_right front back i i d h (omega arith)
    ∙ ap (λ k. get_or back k d) z))

pub get_or-left : {A : Type 0} (all front back : List A) (i : ℕ) (d : A) → all ≡ front ++ back
    → i < length front → get_or front i d ≡ get_or all i d
get_or-left all front back i d e h =
    sym (ap (λ xs. get_or xs i d) e ∙ get_or_append_left front back d i h)

-- ---- one office of many

-- what f sees of the office stays
pub map-set_alike : {A B : Type 0} (f : A → B) (all : List A) (o : ℕ) (x d v : A)
    → x ≡ get_or all o d → f v ≡ f x → map f (set all o v) ≡ map f all
map-set_alike f all o x d v e h = map-set_same f all o v d (h ∙ ap f e)

-- the office o has taken in what the office p holds
pub map-set_joined : {A : Type 0} (f : A → Facts) (all : List A) (p o : ℕ) (x dx y dy v : A)
    (r : Outcome)
    → p < length all → o < length all → x ≡ get_or all o dx → y ≡ get_or all p dy
    → f v ≡ held_after r (f x) (f y)
    → map f (set all o v) ≡ contents_after [] (Exchange p o) r (map f all)
map-set_joined f all p o x dx y dy v r hp ho is_x is_y h =
    map-set f all o v
    ∙ ap (set (map f all) o)
    (h ∙ (ap (λ s. held_after r s (f y)) (ap f is_x ∙ sym (get_or-map f all o dx empty ho))
    ∙ ap (held_after r (get_or (map f all) o empty))
    (ap f is_y ∙ sym (get_or-map f all p dy empty hp))))

-- the office o has taken in the file k
pub map-set_imported : {A : Type 0} (f : A → Facts) (all : List A) (files : List (List ℕ)) (o k : ℕ)
    (x dx v : A) (bytes : List ℕ) (r : Outcome)
    → o < length all → x ≡ get_or all o dx → bytes ≡ get_or files k []
    → f v ≡ held_after r (f x) (facts bytes)
    → map f (set all o v) ≡ contents_after files (Import o k) r (map f all)
map-set_imported f all files o k x dx v bytes r ho is_x is_file h =
    map-set f all o v
    ∙ ap (set (map f all) o)
    (h ∙ (ap (λ s. held_after r s (facts bytes)) (ap f is_x ∙ sym (get_or-map f all o dx empty ho))
    ∙ ap (λ b. held_after r (get_or (map f all) o empty) (facts b)) is_file))

-- ---- events that change nothing

pub contents_after-refused : (files : List (List ℕ)) (e : Event) (c : Cause) (held : List Facts)
    → contents_after files e (Refused c) held ≡ held
contents_after-refused files (Import o f) c held = set-get_or held o empty
contents_after-refused files (Exchange p o) c held = set-get_or held o empty

pub contents_after-itself : (files : List (List ℕ)) (p n : ℕ) (held : List Facts)
    → contents_after files (Exchange p p) (Accepted n) held ≡ held
contents_after-itself files p n held =
    ap (set held p) (union_same (get_or held p empty)) ∙ set-get_or held p empty

pub growth-itself : (s : Facts) → growth s s ≡ 0
growth-itself s =
    ap (λ t. len t - len s) (union_same s) ∙ (let z : len s - len s ≡ 0 = omega arith in z)
