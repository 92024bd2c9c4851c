-- What the getters of matches read, where the words are there.
use Rattle.std.proofs.Common.{◌≡◌, ◌∙◌, ◌<◌, ◌≤◌, ◌^◌, ℕ, Bor, List, [], Option, Some, None, Result}
use Rattle.std.proofs.Common.{Ok, map, option_map, unwrap_or, ap, sym, subst}
use Rattle.std.specs.Prelude.{pos}
use Rattle.std.specs.Str.Parse.{ParsesUnsigned}
use Rattle.std.proofs.lemmas.Option.{same_Some, none-some}
use Rattle.clap.specs.Lexer.{without_minus}
use Rattle.clap.specs.Words.{IsSignedIn, ReadsOne, Row, Text, one_of}
use Rattle.clap.proofs.CallerReads.{signed_reads}
use Rattle.cvr_words.specs.Rows.{IsNumber}

-- the number that is read is the number of the word
pub number_read : (E : Type 0) (G : List ℕ → Result ℕ E → Type 0) (id : Text) (low high : ℕ)
    (rows : List Row) (word : Text) (o : Option ℕ)
    → one_of id rows ≡ Some (without_minus word) → ReadsOne G (without_minus word) o
    → ((u : List ℕ) (x : Result ℕ E) → G u x → ParsesUnsigned 32 10 u x)
    → high < 2 ^ 32 → IsSignedIn (pos low) (pos high) word → (n : ℕ) → o ≡ Some n
    → IsNumber id low high rows n
number_read E G id low high rows word o one read only fits passed n is =
    let got = signed_reads E G 32 low high word o read only fits passed in
    let same : got.0 ≡ n = same_Some got.0 n (sym got.1 ∙ is) in
    let parsed = only (without_minus word) (Ok n)
    (subst (λ (p : Option ℕ). ReadsOne G (without_minus word) p) is read) in (
      without_minus word,
      one,
      parsed.1,
      subst (λ (m : ℕ). low ≤ m) same got.2,
      subst
          (λ (m : ℕ). m ≤ high) same got.3,
    )

-- and there is one
pub number_there : (E : Type 0) (G : List ℕ → Result ℕ E → Type 0) (low high : ℕ) (word : Text)
    (o : Option ℕ) → ReadsOne G (without_minus word) o
    → ((u : List ℕ) (x : Result ℕ E) → G u x → ParsesUnsigned 32 10 u x) → high < 2 ^ 32
    → IsSignedIn (pos low) (pos high) word → o ≡ None → ⊥
number_there E G low high word o read only fits passed none =
    let got = signed_reads E G 32 low high word o read only fits passed in
    none-some got.0 (sym none ∙ got.1)

-- the word that stands
pub word_read : (o : Option (Bor Text)) (t : Bor Text) (v : Option Text) → o ≡ Some t
    → option_map (λ s. s.now) o ≡ v → v ≡ Some t.now
word_read o t v is same = sym same ∙ ap (option_map (λ (s : Bor Text). s.now)) is

-- and there is one
pub word_there : (o : Option (Bor Text)) (v : Option Text) (word : Text)
    → option_map (λ s. s.now) o ≡ v → v ≡ Some word → o ≡ None → ⊥
word_there o v word same has none =
    none-some word (sym (ap (option_map (λ (s : Bor Text). s.now)) none) ∙ (same ∙ has))

-- the words that stand, where no words stand in for none
pub words_or : (o : Option (Bor (List (Bor Text)))) (t d : Bor (List (Bor Text)))
    (v : Option (List Text)) → t ≡ unwrap_or o d → d.now ≡ []
    → option_map (λ s. map (λ w. w.now) s.now) o ≡ v → map (λ w. w.now) t.now ≡ unwrap_or v []
words_or None t d v is empty same =
    ap (λ (s : Bor (List (Bor Text))). map (λ (w : Bor Text). w.now) s.now) is
    ∙ (ap (map (λ (w : Bor Text). w.now)) empty
    ∙ ap (λ (p : Option (List Text)). unwrap_or p []) same)
words_or (Some s) t d v is empty same =
    ap (λ (s : Bor (List (Bor Text))). map (λ (w : Bor Text). w.now) s.now) is
    ∙ ap (λ (p : Option (List Text)). unwrap_or p []) same
