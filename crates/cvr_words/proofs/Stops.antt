-- A walk over the words that meets no fault stops at no command that asks for help.
use Rattle.std.proofs.Common.{◌≡◌, ◌&&◌, ℕ, Bool, true, false, not, List, [], ◌∷◌, Option, Some}
use Rattle.std.proofs.Common.{None, cond, codes, is_some, arith}
use Rattle.std.specs.Prelude.{⊤}
use Rattle.std.specs.List.{fold}
use Rattle.std.specs.Str.{bytes_eq}
use Rattle.clap.specs.Lexer.{long_of, short_of}
use Rattle.clap.specs.Walk.{Held, Names, Outcome, Rule, Step, Text, Waiting, Walk, after_flag}
use Rattle.clap.specs.Walk.{after_step, arg_by_index, arg_by_long, bundle, done, long_met}
use Rattle.clap.specs.Walk.{long_or_other, next, plain, plain_word, refused}
use Rattle.clap.specs.Walk.{short_or_plain, subcommand, subcommand_met, subcommand_or_other}
use Rattle.clap.specs.Walk.{to_positional, trailing, value, waits, walked, walked_from, word_met}
use Rattle.clap.specs.Simple.{Shape}
use Rattle.clap.specs.Faults.{other_fault, step_fault, turn_fault, walk_fault, word_fault}
use Rattle.clap.specs.Kinds.{or_else}
use Rattle.clap.specs.declared.error.ErrorKind.TheVariants.{DisplayHelp, InvalidSubcommand}
use Rattle.cvr_words.proofs.Faultless.{no_first, no_second}

-- the walk has not stopped at `help`
abbrev pub IsOther : Option (Text × List Text) → Type 0
IsOther None = ⊤
IsOther (Some stop) = bytes_eq stop.0 (codes "help") ≡ false

-- the word is no `help`
abbrev IsOtherStep : Step → Type 0
IsOtherStep (next waiting) = ⊤
IsOtherStep (trailing position) = ⊤
IsOtherStep (subcommand name) = bytes_eq name (codes "help") ≡ false
IsOtherStep value = ⊤

plain_other : (c : List Rule) (waiting : Waiting) (word : Text) (h : Held)
    → IsOtherStep (plain_word c waiting word h).1
plain_other c waiting word h = grind arith

flag_other : (c : List Rule) (waiting : Waiting) (word : Text) (h : Held) (o : Outcome)
    → IsOtherStep (after_flag c waiting word h o).1
flag_other c waiting word h done = tt
flag_other c waiting word h (waits id) = tt
flag_other c waiting word h plain = plain_other c waiting word h
flag_other c waiting word h refused = plain_other c waiting word h

short_other : (c : List Rule) (waiting : Waiting) (word : Text) (flags : Option Text) (h : Held)
    → IsOtherStep (short_or_plain c waiting word flags h).1
short_other c waiting word (Some flags) h =
    flag_other c waiting word (bundle c flags h).0 (bundle c flags h).1
short_other c waiting word None h = plain_other c waiting word h

long_other : (c : List Rule) (waiting : Waiting) (word : Text) (o : Option (Text × Option Text))
    (h : Held) → IsOtherStep (long_or_other c waiting word o h).1
long_other c waiting word (Some p) h =
    flag_other c waiting word (long_met c (arg_by_long c p.0) p.1 h).0
    (long_met c (arg_by_long c p.0) p.1 h).1
long_other c waiting word None h = short_other c waiting word (short_of word) h

dash_other : (b : Bool) (c : List Rule) (waiting : Waiting) (position : ℕ) (word : Text) (h : Held)
    → IsOtherStep (cond b (h, trailing position) (long_or_other c waiting word (long_of word) h)).1
dash_other true c waiting position word h = tt
dash_other false c waiting position word h = long_other c waiting word (long_of word) h

no_help : (b d : Bool) → d ≡ false → cond (b && not d) (DisplayHelp ∷ InvalidSubcommand ∷ []) []
    ≡ [] → b ≡ false
no_help b d h h' = grind arith

named_other : (s : Shape) (met : Option Text) (waiting : Waiting) (position : ℕ) (word : Text)
    (h : Held) → s.disable_help_subcommand ≡ false
    → other_fault s met word h ≡ [] → IsOtherStep
    (subcommand_or_other s.rules met waiting position word h).1
named_other s (Some name) waiting position word h goes fine =
    no_help (bytes_eq name (codes "help")) s.disable_help_subcommand goes fine
named_other s None waiting position word h goes fine =
    dash_other (bytes_eq word (45 ∷ 45 ∷ [])) s.rules waiting position word h

word_other : (s : Shape) (names : Names) (t : Bool) (waiting : Waiting) (position : ℕ) (word : Text)
    (h : Held) → s.disable_help_subcommand ≡ false
    → word_fault s names t waiting word h ≡ []
    → IsOtherStep (word_met s.rules names t waiting position word h).1
word_other s names true waiting position word h goes fine = tt
word_other s names false waiting position word h goes fine =
    named_other s (subcommand_met names waiting word) waiting position word h goes fine

value_other : (c : List Rule) (o : Option Rule) (word : Text) (w : Walk) (h : Held)
    → IsOther w.stopped → IsOther (to_positional c o word w h).stopped
value_other c None word w h was = was
value_other c (Some a) word w h was = tt

step_other : (c : List Rule) (word : Text) (w : Walk) (h : Held) (step : Step) → IsOther w.stopped
    → IsOtherStep step → IsOther (after_step c word w h step).stopped
step_other c word w h (next waiting) was is = was
step_other c word w h (trailing position) was is = was
step_other c word w h (subcommand name) was is = is
step_other c word w h value was is = value_other c (arg_by_index c w.position) word w h was

turn_other : (s : Shape) (names : Names) (w : Walk) (word : Text) (stop : Option (Text × List Text))
    → s.disable_help_subcommand ≡ false → IsOther w.stopped → IsOther stop
    → cond (is_some stop) [] (or_else (word_fault s names w.is_trailing w.waiting word w.held)
    (step_fault s w.position (word_met s.rules names w.is_trailing w.waiting w.position word
    w.held).0 (word_met s.rules names w.is_trailing w.waiting w.position word w.held).1)) ≡ []
    → IsOther (walked_from s.rules names stop w word).stopped
turn_other s names w word (Some stop) goes was is fine = is
turn_other s names w word None goes was is fine =
    let met = word_met s.rules names w.is_trailing w.waiting w.position word w.held in
    step_other s.rules word w met.0 met.1 was
    (word_other s names w.is_trailing w.waiting w.position word w.held goes (no_first _ _ fine))

turn_walked : (s : Shape) (names : Names) (w : Walk) (word : Text)
    → s.disable_help_subcommand ≡ false → IsOther w.stopped
    → turn_fault s names w word ≡ [] → IsOther (walked s.rules names w word).stopped
unfolding walked
turn_walked s names w word goes was fine = turn_other s names w word w.stopped goes was was fine

pub walk_other : (s : Shape) (names : Names) (w : Walk) (words : List Text)
    → s.disable_help_subcommand ≡ false → IsOther w.stopped
    → walk_fault s names w words ≡ [] → IsOther (fold (walked s.rules names) w words).stopped
unfolding walk_fault
walk_other s names w [] goes was fine = was
walk_other s names w (word ∷ rest) goes was fine =
    walk_other s names (walked s.rules names w word) rest goes
    (turn_walked s names w word goes was (no_first (turn_fault s names w word) _ fine))
    (no_second (turn_fault s names w word) _ fine)
