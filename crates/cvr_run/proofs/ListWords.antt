-- Words that name a list in the place of files.
use Rattle.std.proofs.Common.{◌↔◌, ◌≡◌, ◌≢◌, ◌∙◌, ◌++◌, ◌+◌, ◌<◌, ◌≤◌, ℕ, Bool, true, false, List, []}
use Rattle.std.proofs.Common.{◌∷◌, length, take, drop, min, codes, Option, Some, None, is_some}
use Rattle.std.proofs.Common.{IfSome, IfNone, arith, refl, ap, sym, subst, inl, inr}
use Rattle.std.proofs.lemmas.List.{length-append, length-take, length-take-le, take-append-drop}
use Rattle.std.proofs.lemmas.List.{take_all}
use Rattle.std.proofs.lemmas.Slice.Eq.{bytes_eq-Decides}
use Rattle.std.specs.Prelude.{◌⊎◌, if◌then◌else◌}
use Rattle.std.specs.Str.{bytes_eq}
use Rattle.cdf_types.specs.Device.{Taken}
use Rattle.cvr_words.specs.Line.{with_program}
use Rattle.cvr_words.specs.Request.{IsRequest}
use Rattle.cvr_words.specs.declared.request.Request.{Request}
use Rattle.cvr_words.proofs.Laws.{one_request}
use Rattle.cvr_run.specs.Answered.{Does, IsGiven}
use Rattle.cvr_run.specs.Devices.{Devices}
use Rattle.cvr_run.specs.declared.status.Status.{Status}
use Rattle.cvr_run.specs.Explained.{AsksCode}
use Rattle.cvr_run.specs.File.{held_bytes}
use Rattle.cvr_run.specs.Job.{Job}
use Rattle.cvr_run.specs.Listed.{AsksListed, DoesListed, HasNoList, IsBefore, IsGivenEither, IsList}
use Rattle.cvr_run.specs.Listed.{ListedRequest, ListsFiles, list_place, list_tail, list_words}
use Rattle.cvr_run.specs.Listed.{over_list}
use Rattle.cvr_run.specs.ListedPaths.{end_of, parts_at}
use Rattle.cvr_run.specs.Opening.{At, Has, Opener, IsRead, Opens}
use Rattle.cvr_run.specs.Outcome.{IsWhole}
use Rattle.cvr_run.specs.OwnWords.{AsksVersion}
use Rattle.cvr_run.specs.Logged.{LogsSome}
use Rattle.cvr_run.proofs.CodeWords.{code_asks_none}
use Rattle.cvr_run.proofs.Known.{not_whole, stopped}

-- ---- words are cut in one way

tail_low : (list : List ℕ) (by_null : Bool) → 2 ≤ length (list_tail list by_null)
tail_low list true = omega arith
tail_low list false = omega arith

tail_high : (list : List ℕ) (by_null : Bool) → length (list_tail list by_null) ≤ 3
tail_high list true = omega arith
tail_high list false = omega arith

-- one number of words before the list fits the number of all
same_count : (a b n : ℕ) → (a ≡ 2) ⊎ (a ≡ 5) → (b ≡ 2) ⊎ (b ≡ 5) → a + 2 ≤ n → n ≤ a + 3 → b + 2 ≤ n
    → n ≤ b + 3 → a ≡ b
same_count a b n (inl p) (inl q) la ha lb hb = p ∙ sym q
same_count a b n (inl p) (inr q) la ha lb hb = absurd (omega (arith, p, q, la, ha, lb, hb))
same_count a b n (inr p) (inl q) la ha lb hb = absurd (omega (arith, p, q, la, ha, lb, hb))
same_count a b n (inr p) (inr q) la ha lb hb = p ∙ sym q

-- the number of all words
count_words : (before : List (List ℕ)) (list : List ℕ) (by_null : Bool)
    → length (list_words before list by_null) ≡ length before + length (list_tail list by_null)
count_words before list by_null = length-append before (list_tail list by_null)

count_low : (before : List (List ℕ)) (list : List ℕ) (by_null : Bool)
    → length before + 2 ≤ length (list_words before list by_null)
count_low before list by_null = let all = count_words before list by_null in
    let low = tail_low list by_null in omega (arith, all, low)

count_high : (before : List (List ℕ)) (list : List ℕ) (by_null : Bool)
    → length (list_words before list by_null) ≤ length before + 3
count_high before list by_null = let all = count_words before list by_null in
    let high = tail_high list by_null in omega (arith, all, high)

same_parts : (f g s t : List (List ℕ)) → length f ≡ length g → f ++ s ≡ g ++ t → (f ≡ g) × (s ≡ t)
same_parts [] [] s t n e = (refl, e)
same_parts [] (y ∷ g) s t n e = absurd (omega (arith, n))
same_parts (x ∷ f) [] s t n e = absurd (omega (arith, n))
same_parts (x ∷ f) (y ∷ g) s t n e =
    let rest : (f ≡ g) × (s ≡ t) = same_parts f g s t (omega (arith, n)) (cc) in
    let first : x ≡ y = cc in
    (ap (λ w. w ∷ f) first ∙ ap (λ l. y ∷ l) rest.0, rest.1)

same_tail : (l m : List ℕ) (n k : Bool) → list_tail l n ≡ list_tail m k → (l ≡ m) × (n ≡ k)
same_tail l m true true e = (cc, refl)
same_tail l m true false e = absurd (cc)
same_tail l m false true e = absurd (cc)
same_tail l m false false e = (cc, refl)

pub same_words : (f g : List (List ℕ)) (l m : List ℕ) (n k : Bool) → IsBefore f → IsBefore g
    → list_words f l n ≡ list_words g m k → (f ≡ g) × ((l ≡ m) × (n ≡ k))
same_words f g l m n k short other e =
    let all : length (list_words f l n) ≡ length (list_words g m k) =
    ap (λ (w : List (List ℕ)). length w) e in
    let low : length g + 2 ≤ length (list_words f l n) =
    subst (λ (c : ℕ). length g + 2 ≤ c) (sym all) (count_low g m k) in
    let high : length (list_words f l n) ≤ length g + 3 =
    subst (λ (c : ℕ). c ≤ length g + 3) (sym all) (count_high g m k) in
    let same : length f ≡ length g = same_count (length f) (length g) (length (list_words f l n))
    short other (count_low f l n) (count_high f l n) low high in
    let parts = same_parts f g (list_tail l n) (list_tail m k) same e in
    (parts.0, same_tail l m n k parts.1)

-- where what stands behind the words before it names no list, no words before it do
pub no_tail : (words : List (List ℕ)) (count : ℕ) → (count ≡ 2) ⊎ (count ≡ 5)
    → count + 2 ≤ length words → length words ≤ count + 3
    → ((list : List ℕ) (by_null : Bool) → drop count words ≢ list_tail list by_null)
    → (before : List (List ℕ)) (list : List ℕ) (by_null : Bool) → IsBefore before
    → words ≢ list_words before list by_null
no_tail words count counted low high other before list by_null short is =
    let all : length words ≡ length (list_words before list by_null) =
    ap (λ (w : List (List ℕ)). length w) is in
    let before_low : length before + 2 ≤ length words =
    subst (λ (c : ℕ). length before + 2 ≤ c) (sym all) (count_low before list by_null) in
    let before_high : length words ≤ length before + 3 =
    subst (λ (c : ℕ). c ≤ length before + 3) (sym all) (count_high before list by_null) in
    let same : count ≡ length before = same_count count (length before) (length words) counted short
    low high before_low before_high in
    let cut : length (take count words) ≡ count = length-take-le count words (omega (arith, low)) in
    other list by_null (same_parts (take count words) before (drop count words)
    (list_tail list by_null) (cut ∙ same) (take-append-drop count words ∙ is)).1

pub holds_none : {T : Type 0} (o : Option T) (P : Type 0) → P → IfNone o P
holds_none None P p = p
holds_none (Some x) P p = tt

-- ---- what they ask for

-- words ask for one request with a list
pub one_listed : (words : List (List ℕ)) (one other : ListedRequest) → AsksListed words one
    → AsksListed words other → one ≡ other
one_listed words one other asks also =
    let same = same_words asks.before also.before one.list other.list one.by_null other.by_null
    asks.short also.short (sym asks.split ∙ also.split) in
    let request : one.request ≡ other.request =
    one_request (with_program asks.before) one.request other.request asks.request
    (subst (λ (w : List (List ℕ)). IsRequest (with_program w) other.request) (sym same.0)
    also.request) in
    λ i. record { request = request i; list = same.1.0 i; by_null = same.1.1 i }

-- those that are cut so ask for what the words before the list ask for
pub asked_before : (words before : List (List ℕ)) (list : List ℕ) (by_null : Bool)
    (other : ListedRequest)
    → IsBefore before → words ≡ list_words before list by_null → AsksListed words other
    → IsRequest (with_program before) other.request
asked_before words before list by_null other short is asks =
    let same = same_words before asks.before list other.list by_null other.by_null short asks.short
    (sym is ∙ asks.split) in
    subst (λ (w : List (List ℕ)). IsRequest (with_program w) other.request) (sym same.0)
    asks.request

-- a request was found exactly where there is one
pub some_found : (o : Option Request) (P : Request → Type 0) → IfSome o P
    → IfNone o ((request : Request) → ¬ P request)
    → (is_some o ≡ true) ↔ ((request : Request) × P request)
some_found None P some none = (λ is. cc, λ there. absurd (none there.0 there.1))
some_found (Some request) P some none = (λ is. (request, some), λ there. refl)

-- what follows where none was
pub none_has : (o : Option Request) (P Q : Type 0) → (P → Q) → IfNone o P → IfNone o Q
none_has None P Q has none = has none
none_has (Some request) P Q has none = tt

-- ---- where the list stands

pub place_input : (list : List ℕ) → list ≡ codes "-" → list_place list ≡ codes "/dev/stdin"
place_input list is = ap list_place is

pub place_other : (list : List ℕ) → list ≢ codes "-" → list_place list ≡ list
place_other list other = go (bytes_eq list (codes "-")) refl
  where
    go : (b : Bool) → bytes_eq list (codes "-") ≡ b
        → (if b then codes "/dev/stdin" else list) ≡ list
    go true is = absurd (other ((bytes_eq-Decides list (codes "-")).0 is))
    go false is = refl

-- ---- what is done

-- where there is no list, not all was said
pub no_list_ends : (old new : Opener) (path : List ℕ) (answer : Status) (b a : Taken)
    → LogsSome (HasNoList old new path answer) b a → IsWhole answer → ⊥
no_list_ends old new path answer b a (line, inl stops, logs) whole =
    not_whole answer (stopped old new _ answer line stops) whole
no_list_ends old new path answer b a (line, inr none, logs) (inl done) = let is = none.status in cc
no_list_ends old new path answer b a (line, inr none, logs) (inr refused) =
    let is = none.status in cc

-- a list that was read, over whose paths the request was done
pub listed_done : (asked : ListedRequest) (answer : Status) (old new : Devices) (unchanged : Type 0)
    (path : List ℕ) (found : List (List ℕ)) (between : Opener)
    → path ≡ list_place asked.list → ((text : List ℕ) × IsRead (old.opener.at path) text
    × IsList text × (found ≡ parts_at (end_of asked.by_null) text))
    → Opens old.opener between (path ∷ [])
    → Does (record { task = asked.request.task; def = asked.request.def; paths = found }) answer
    (record old { opener = between }) new unchanged
    → DoesListed asked answer old new unchanged
listed_done asked answer old new unchanged path found between is read opened does =
    let there : Opens old.opener between (list_place asked.list ∷ []) =
    subst (λ (p : List ℕ). Opens old.opener between (p ∷ [])) is opened in
    inr (
      read.0,
      subst (λ (p : List ℕ). IsRead (old.opener.at p) read.0) is read.1,
      read.2,
      subst (λ (o : Opener). Does (over_list asked read.0) answer (record old { opener = o }) new
          unchanged) there
          (subst (λ (ps : List (List ℕ)).
          Does (record { task = asked.request.task; def = asked.request.def; paths = ps })
          answer (record old { opener = between }) new unchanged) read.3 does),
    )

-- ---- where the opener says what stands at each path

-- what was read of a list is the whole of it
read_whole : (at : At) (text all : List ℕ) → IsRead at text → at ≡ Has all
    → length text < held_bytes → text ≡ all
read_whole at text all read is short =
    let held : text ≡ take held_bytes all = subst (λ said. IsRead said text) is read in
    let count : length text ≡ min held_bytes (length all) =
    ap (λ (t : List ℕ). length t) held ∙ length-take held_bytes all in
    held ∙ take_all held_bytes all (omega (arith, count, short))

-- so that its request is the job's
pub request_known : (at : List ℕ → At) (asked : ListedRequest) (job : Job) (path : List ℕ)
    (found : List (List ℕ))
    → path ≡ list_place asked.list → ((text : List ℕ) × IsRead (at path) text × IsList text
    × (found ≡ parts_at (end_of asked.by_null) text))
    → ListsFiles at asked job → job.request
    ≡ record { task = asked.request.task; def = asked.request.def; paths = found }
request_known at asked job path found is read lists =
    let there : at path ≡ Has lists.text = ap at is ∙ lists.at_place in
    let same : read.0 ≡ lists.text = read_whole (at path) read.0 lists.text read.1 there read.2.1 in
    let paths : found ≡ parts_at (end_of asked.by_null) lists.text =
    read.3 ∙ ap (parts_at (end_of asked.by_null)) same in
    lists.listed ∙ (λ i. record {
      task = asked.request.task;
      def = asked.request.def;
      paths = sym paths i;
    })

-- words that ask for this request with a list give a job by it
pub given_lists : (at : List ℕ → At) (words : List (List ℕ)) (asked : ListedRequest) (job : Job)
    → AsksListed words asked → IsGivenEither at words job → ListsFiles at asked job
given_lists at words asked job asks (inl is) = absurd (asks.free job.request is.asked)
given_lists at words asked job asks (inr is) = subst (λ (l : ListedRequest). ListsFiles at l job)
    (one_listed words is.by asked is.asked asks) is.lists

-- words that name no list give a job by its paths
pub only_paths : (at : List ℕ → At) (words : List (List ℕ)) (job : Job)
    → ((asked : ListedRequest) → ¬ AsksListed words asked) → IsGivenEither at words job
    → IsGiven at words job
only_paths at words job none (inl is) = is
only_paths at words job none (inr is) = absurd (none is.by is.asked)

pub none_listed : (words : List (List ℕ))
    → ((before : List (List ℕ)) (list : List ℕ) (by_null : Bool) → IsBefore before
    → words ≢ list_words before list by_null)
    → (asked : ListedRequest) → ¬ AsksListed words asked
none_listed words none asked asks = none asks.before asked.list asked.by_null asks.short asks.split

-- ---- a few words ask for no list

too_few : (before : List (List ℕ)) (n : ℕ) → IsBefore before → n ≤ 3 → length before + 2 ≤ n → ⊥
too_few before n (inl is) few low = omega (arith, is, few, low)
too_few before n (inr is) few low = omega (arith, is, few, low)

pub few_alone : (words : List (List ℕ)) → length words ≤ 3 → (asked : ListedRequest)
    → AsksListed words asked → ⊥
few_alone words few asked asks =
    let all : length words ≡ length (list_words asks.before asked.list asked.by_null) =
    ap (λ (w : List (List ℕ)). length w) asks.split in
    too_few asks.before (length words) asks.short few
    (subst (λ (c : ℕ). length asks.before + 2 ≤ c) (sym all)
    (count_low asks.before asked.list asked.by_null))

-- and where they ask for no request as they stand, they give none either way
pub few_give_none : (at : List ℕ → At) (words : List (List ℕ)) (job : Job)
    → length words ≤ 3 → ((request : Request) → IsRequest (with_program words) request → ⊥)
    → IsGivenEither at words job → ⊥
few_give_none at words job few none (inl given) = none job.request given.asked
few_give_none at words job few none (inr given) = few_alone words few given.by given.asked

pub version_few : (words : List (List ℕ)) → AsksVersion words → length words ≤ 3
version_few words (inl is) =
    let one : length words ≡ 1 = ap (λ (w : List (List ℕ)). length w) is in omega (arith, one)
version_few words (inr is) =
    let one : length words ≡ 1 = ap (λ (w : List (List ℕ)). length w) is in omega (arith, one)

-- those for a code ask for no list: what stands before it would begin with the same word
same_first : (before asked tail : List (List ℕ)) → IsBefore before
    → codes "explain" ∷ asked ≡ before ++ tail
    → (rest : List (List ℕ)) × (before ≡ codes "explain" ∷ rest)
same_first [] asked tail (inl short) is = absurd (omega (arith, short))
same_first [] asked tail (inr short) is = absurd (omega (arith, short))
same_first (word ∷ before) asked tail short is =
    let first : word ≡ codes "explain" = cc in (before, ap (λ w. w ∷ before) first)

pub code_alone : (words asked : List (List ℕ)) → AsksCode words asked → (listed : ListedRequest)
    → AsksListed words listed → ⊥
code_alone words asked (inl is) listed asks =
    let first = same_first asks.before asked (list_tail listed.list listed.by_null) asks.short
    (sym is ∙ asks.split) in
    code_asks_none asks.before first.0 (inl first.1) listed.request asks.request
code_alone words asked (inr is) listed asks =
    let two : length words ≡ 2 = ap (λ (w : List (List ℕ)). length w) is.0 in
    few_alone words (omega (arith, two)) listed asks

pub code_gives_none : (at : List ℕ → At) (words asked : List (List ℕ)) (job : Job)
    → AsksCode words asked → IsGivenEither at words job → ⊥
code_gives_none at words asked job asks (inl given) =
    code_asks_none words asked asks job.request given.asked
code_gives_none at words asked job asks (inr given) =
    code_alone words asked asks given.by given.asked
