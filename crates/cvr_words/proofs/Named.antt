-- The command that the words name.
use Rattle.std.proofs.Common.{◌≡◌, ◌∙◌, ◌++◌, ◌||◌, Bool, true, false, List, [], ◌∷◌, Option, Some}
use Rattle.std.proofs.Common.{None, Result, Ok, Err, codes, option_map, refl, ap, sym, subst}
use Rattle.std.specs.Prelude.{find}
use Rattle.std.specs.List.{list_any}
use Rattle.std.specs.Option.{option_map_or}
use Rattle.std.specs.Str.{bytes_eq}
use Rattle.std.proofs.lemmas.Slice.Eq.{bytes_eq-Decides}
use Rattle.std.proofs.lemmas.Option.{same_Some}
use Rattle.clap.specs.Words.{Row, Text, fault_of, is_simple, is_simple_and_free, subcommand_of}
use Rattle.clap.specs.Simple.{Shape, argument_words, built, built_leaf, entered, help_shape}
use Rattle.clap.specs.Simple.{label_of, names_of, rows_at}
use Rattle.clap.specs.Walk.{answers_to, nothing_held, walk, walk_from}
use Rattle.clap.specs.Faults.{entered_fault, level_fault, walk_fault}
use Rattle.clap.specs.Kinds.{FailsBy, Kinds}
use Rattle.clap.specs.declared.error.Error.{Error}
use Rattle.clap.proofs.OnLiterals.{clap_on_literals}
use Rattle.cvr_words.specs.Line.{command_names, cvr_line}
use Rattle.cvr_words.specs.Rows.{AreRowsOf}
use Rattle.cvr_words.proofs.Commands.{IsKnown, own, own_known}
use Rattle.cvr_words.proofs.Faultless.{no_first, no_second}
use Rattle.cvr_words.proofs.Lists.{IfFound, find_front, found}
use Rattle.cvr_words.proofs.Stops.{IsOther, walk_other}

pub simple : is_simple cvr_line ≡ true
unfolding clap_on_literals
simple = refl

pub simple_and_free : is_simple_and_free cvr_line ≡ true
unfolding clap_on_literals
simple_and_free = refl

-- ---- the command

-- a command of the program, with what has to stand
abbrev pub IsCommand : Text × List Row → Type 0
IsCommand p = (list_any (bytes_eq p.0) command_names ≡ true) × AreRowsOf p.0 p.1

subs_are : (built cvr_line).subs ≡ own ++ built_leaf help_shape ∷ []
unfolding clap_on_literals
subs_are = refl

no_help : (name : Text) → bytes_eq name (codes "help") ≡ false
    → (bytes_eq (codes "help") name || false) ≡ false
no_help name other = go (bytes_eq (codes "help") name) refl
  where
    go : (b : Bool) → bytes_eq (codes "help") name ≡ b → (b || false) ≡ false
    go true is =
        let same : bytes_eq name (codes "help")
        ≡ true = (bytes_eq-Decides name (codes "help")).1
        (sym ((bytes_eq-Decides (codes "help") name).0 is)) in
        let bad : true ≡ false = sym same ∙ other in cc
    go false is = refl

command_at : (words : List Text) (o : Option Shape) (p : Text × List Row) → IfFound IsKnown o
    → option_map (λ s. rows_at s words) o ≡ Some p
    → option_map_or (λ s. level_fault s [] nothing_held words false []) o [] ≡ [] → IsCommand p
command_at words None p known is fine = cc
command_at words (Some s) p known is fine =
    subst (λ (q : Text × List Row). IsCommand q) (same_Some (rows_at s words) p is)
    (known.named, known.whole words fine)

entered_at : (stop : Option (Text × List Text)) (p : Text × List Row) → IsOther stop
    → entered (built cvr_line) stop ≡ Some p
    → entered_fault (built cvr_line) stop ≡ [] → IsCommand p
entered_at None p other is fine = cc
entered_at (Some stop) p other is fine =
    let test : Shape → Bool = λ s. answers_to stop.0 (label_of s) in
    let same : find test (built cvr_line).subs ≡ find test own =
    ap (λ (l : List Shape). find test l) subs_are
    ∙ find_front test own (built_leaf help_shape) (no_help stop.0 other) in
    command_at stop.1 (find test own) p (found IsKnown test own own_known)
    (subst (λ (o : Option Shape). option_map (λ s. rows_at s stop.1) o ≡ Some p) same is)
    (subst (λ (o : Option Shape). option_map_or (λ s. level_fault s [] nothing_held stop.1 false [])
    o [] ≡ []) same fine)

-- words that name a command and meet no fault
pub command_of : (given : List Text) (p : Text × List Row) → subcommand_of cvr_line given ≡ Some p
    → fault_of cvr_line given ≡ [] → IsCommand p
command_of given p is fine =
    let words = argument_words cvr_line given in
    let top = (built cvr_line).top in
    let names = names_of (built cvr_line) in
    let walked_fine : walk_fault top names (walk_from nothing_held) words ≡ [] =
    no_first (walk_fault top names (walk_from nothing_held) words) _ fine in
    let stop = (walk top.rules names nothing_held words).stopped in
    entered_at stop p (walk_other top names (walk_from nothing_held) words refl tt walked_fine) is
    (no_first (entered_fault (built cvr_line) stop) _
    (no_second (walk_fault top names (walk_from nothing_held) words) _ fine))

-- an answer that is no error has no fault
pub no_fault : {T : Type 0} (kinds : Kinds) (r : Result T Error) (answer : T) → FailsBy kinds r
    → r ≡ Ok answer → kinds ≡ []
no_fault kinds (Ok x) answer fine is = fine
no_fault kinds (Err e) answer fine is = cc

-- what two maps of one option give, as a pair
pub paired : {X N R : Type 0} (f : X → N) (g : X → R) (o : Option X) (n : N) (r : R)
    → Some n ≡ option_map f o
    → Some r ≡ option_map (λ (p : N × R). p.1) (option_map {U = N × R} (λ b. (f b, g b)) o)
    → option_map {U = N × R} (λ b. (f b, g b)) o ≡ Some (n, r)
paired f g None n r h k = cc
paired f g (Some x) n r h k = cc
