-- Contents that have the same rows: under the same unit and batch, and of the same contests.
use Rattle.std.proofs.Common.{◌≡◌, ℕ, ◌+◌, ◌<◌, ◌==◌, Bool, true, false, ◌||◌, Option, Some, None}
use Rattle.std.proofs.Common.{List, [], ◌∷◌, map, length, take, get_or, refl, sym, ap, ◌∙◌, arith}
use Rattle.std.specs.List.{list_any}
use Rattle.std.specs.Option.{option_eq}
use Rattle.std.specs.Cmp.Lexicographic.{pointwise}
use Rattle.std.proofs.lemmas.Slice.Eq.{bytes_eq-Decides}
use Rattle.cvr_fact_types.specs.declared.name.RecordName.{RecordName}
use Rattle.cvr_fact_types.specs.declared.sums.VoteSums.{VoteSums}
use Rattle.cvr_tally.specs.declared.key.RowKey.{RowKey}
use Rattle.cvr_tally.specs.Keys.{is_key}
use Rattle.cvr_office.specs.declared.any_fact.AnyFact.{AnyFact}
use Rattle.cvr_cached.specs.Contents.{Entries, current_sums, IsKeyOf}
use Rattle.cvr_cached.specs.Cells.{is_row_of}
use Rattle.cvr_cached.specs.Plans.{is_touched}
use Rattle.cvr_cached.proofs.Opening.{any_more}
use Rattle.cvr_cached.proofs.Pairs.{pair, pairs_under}

-- whether a key is that of one of these contests, under a unit and a batch
abbrev is_under : RowKey → Option (List ℕ) → Option (List ℕ) → List ℕ → Bool
is_under q unit batch contests =
    list_any (λ n. is_key q (record { contest = n; unit = unit; batch = batch })) contests

any_under : (q k : RowKey) (vs : List VoteSums) → list_any (λ p. is_key q p.0) (map (pair k) vs)
    ≡ is_under q k.unit k.batch (map (λ v. v.contest) vs)
any_under q k [] = refl
any_under q k (v ∷ vs) = ap (λ b. is_key q (pair k v).0 || b) (any_under q k vs)

rows_are : (facts : List AnyFact) (k : RowKey) → IsKeyOf facts k → {vs : List VoteSums}
    → vs ≡ current_sums facts → (q : RowKey)
    → is_row_of facts q ≡ is_under q k.unit k.batch (map (λ v. v.contest) vs)
rows_are facts k of {vs} are q = ap (list_any (λ p. is_key q p.0)) (pairs_under facts k of are)
    ∙ any_under q k vs

pub same_rows : (facts others : List AnyFact) (k l : RowKey) → IsKeyOf facts k → IsKeyOf others l
    → k.unit ≡ l.unit → k.batch ≡ l.batch → {vs ws : List VoteSums} → vs ≡ current_sums facts
    → ws ≡ current_sums others → map (λ v. v.contest) vs ≡ map (λ v. v.contest) ws
    → (q : RowKey) → is_row_of facts q ≡ is_row_of others q
same_rows facts others k l of to unit batch {vs} {ws} are be same q =
    rows_are facts k of are q ∙ ((λ i. is_under q (unit i) (batch i) (same i))
    ∙ sym (rows_are others l to be q))

-- equal units are the same, and equal batches
pub same_part : (a b : Option (List ℕ)) → option_eq (pointwise ◌==◌) a b ≡ true → a ≡ b
same_part None None e = refl
same_part None (Some y) e = Prim.cc e
same_part (Some x) None e = Prim.cc e
same_part (Some x) (Some y) e = ap Some ((bytes_eq-Decides x y).0 e)

or_again : (a b c : Bool) → c ≡ b → ((a || b) || c) ≡ (a || b)
or_again true b c e = refl
or_again false true c e = refl
or_again false false c e = e

-- a content with the rows of the one before it touches no others
pub touches_none : (cs : Entries) (i j : ℕ) (b c : RecordName × List AnyFact) → j + 1 ≡ i
    → i < length cs → get_or cs j b ≡ b → get_or cs i c ≡ c
    → ((q : RowKey) → is_row_of c.1 q ≡ is_row_of b.1 q) → (q : RowKey)
    → is_touched (take (i + 1) cs) q ≡ is_touched (take i cs) q
touches_none cs i j b c next lt at here same q =
    let p : RecordName × List AnyFact → Bool = λ c. is_row_of c.1 q in
    let before : list_any p (take i cs) ≡ (list_any p (take j cs) || p b) =
    ap (λ n. list_any p (take n cs)) (sym next) ∙ any_more p cs j b (omega (arith, lt, next)) at in
    any_more p cs i c lt here ∙ (ap (λ t. t || p c) before
    ∙ (or_again (list_any p (take j cs)) (p b) (p c) (same q) ∙ sym before))
