-- What each use of an argument keeps, a walk over the words keeps.
use Rattle.std.proofs.Common.{◌≡◌, ◌&&◌, ℕ, Bool, true, false, zero, suc, List, [], ◌∷◌, Option}
use Rattle.std.proofs.Common.{Some, None, cond, is_some, length, drop}
use Rattle.std.specs.Prelude.{encode_utf8, slice_get}
use Rattle.std.specs.List.{fold}
use Rattle.std.specs.Option.{option_map_or}
use Rattle.std.specs.Str.{bytes_eq, chars}
use Rattle.clap.specs.Lexer.{long_of, short_of}
use Rattle.clap.specs.Walk.{Held, Names, Outcome, Row, Rule, Step, Text, Waiting, Walk, after_flag}
use Rattle.clap.specs.Walk.{after_step, arg_by_id, arg_by_index, arg_by_long, arg_by_short}
use Rattle.clap.specs.Walk.{attached_value, bundle, bundle_met, bundle_step, done, flag_met, idle}
use Rattle.clap.specs.Walk.{is_pending, long_met, long_or_other, next, option, option_met}
use Rattle.clap.specs.Walk.{option_word, plain, plain_word, positional, reacted, refused, settled}
use Rattle.clap.specs.Walk.{settled_rows, short_met, short_or_plain, subcommand, subcommand_met}
use Rattle.clap.specs.Walk.{subcommand_or_other, takes_several, takes_values, to_positional}
use Rattle.clap.specs.Walk.{trailing, used, used_by_id, value, waits, walked, walked_from, word_met}
use Rattle.clap.specs.Simple.{Shape}
use Rattle.clap.specs.Faults.{bundle_fault, bundle_step_fault, flag_word_fault, flags_fault}
use Rattle.clap.specs.Faults.{long_fault, option_fault, other_fault, positional_fault, react_fault}
use Rattle.clap.specs.Faults.{settle_fault, short_fault, step_fault, stray_fault, turn_fault}
use Rattle.clap.specs.Faults.{use_fault, walk_fault, word_fault}
use Rattle.clap.specs.Kinds.{Kinds, or_else}
use Rattle.clap.specs.declared.error.ErrorKind.TheVariants.{TooManyValues}
use Rattle.cvr_words.proofs.Faultless.{no_first, no_second}
use Rattle.cvr_words.proofs.Lists.{Each, IfFound, found}

-- a use with no fault keeps what holds of the rows
abbrev pub Keeps : Bool → (List Row → Type 0) → Rule → Type 0
Keeps again Q a = (values : List Text) (rows : List Row) → use_fault again a values rows ≡ []
    → Q rows → Q (used a values rows)

used_keeps : (again : Bool) (Q : List Row → Type 0) (o : Option Rule) → IfFound (Keeps again Q) o
    → (values : List Text) (rows : List Row)
    → option_map_or (λ a. use_fault again a values rows) o [] ≡ [] → Q rows
    → Q (used_by_id o values rows)
used_keeps again Q None keeps values rows fine q = q
used_keeps again Q (Some a) keeps values rows fine q = keeps values rows fine q

pending_keeps : (c : List Rule) (again : Bool) (Q : List Row → Type 0) → Each (Keeps again Q) c
    → (o : Option (Text × List Text)) (rows : List Row)
    → option_map_or (λ p. option_map_or (λ a. use_fault again a p.1 rows) (arg_by_id c p.0) []) o []
    ≡ [] → Q rows → Q (settled_rows c o rows)
pending_keeps c again Q keeps None rows fine q = q
pending_keeps c again Q keeps (Some p) rows fine q =
    used_keeps again Q (arg_by_id c p.0) (found (Keeps again Q) (λ a. bytes_eq a.id p.0) c keeps)
    p.1 rows fine q

pub settle_keeps : (c : List Rule) (again : Bool) (Q : List Row → Type 0) → Each (Keeps again Q) c
    → (h : Held)
    → settle_fault c again h ≡ [] → Q h.rows → Q (settled c h).rows
settle_keeps c again Q keeps h fine q = pending_keeps c again Q keeps h.pending h.rows fine q

react_keeps : (c : List Rule) (again : Bool) (Q : List Row → Type 0) → Each (Keeps again Q) c
    → (a : Rule) → Keeps again Q a → (values : List Text) (h : Held)
    → react_fault c again a values h ≡ [] → Q h.rows → Q (reacted c a values h).rows
react_keeps c again Q keeps a kept values h fine q =
    kept values (settled c h).rows (no_second (settle_fault c again h) _ fine)
    (settle_keeps c again Q keeps h (no_first _ _ fine) q)

option_keeps : (c : List Rule) (again : Bool) (Q : List Row → Type 0) → Each (Keeps again Q) c
    → (a : Rule) → Keeps again Q a → (v : Option Text) (h : Held)
    → option_fault c again a v h ≡ [] → Q h.rows → Q (option_met c a v h).0.rows
option_keeps c again Q keeps a kept (Some v) h fine q =
    react_keeps c again Q keeps a kept (v ∷ []) h fine q
option_keeps c again Q keeps a kept None h fine q = settle_keeps c again Q keeps h fine q

flag_keeps : (c : List Rule) (again : Bool) (Q : List Row → Type 0) → Each (Keeps again Q) c
    → (a : Rule) → Keeps again Q a → (v : Option Text) (h : Held)
    → cond (is_some v) (TooManyValues ∷ []) (react_fault c again a [] h) ≡ [] → Q h.rows
    → Q (flag_met c a v h).0.rows
flag_keeps c again Q keeps a kept (Some v) h fine q = q
flag_keeps c again Q keeps a kept None h fine q = react_keeps c again Q keeps a kept [] h fine q

taken_keeps : (c : List Rule) (again : Bool) (Q : List Row → Type 0) → Each (Keeps again Q) c
    → (a : Rule) → Keeps again Q a → (b : Bool) (v : Option Text) (h : Held)
    → cond b (option_fault c again a v h)
    (cond (is_some v) (TooManyValues ∷ []) (react_fault c again a [] h)) ≡ [] → Q h.rows
    → Q (cond b (option_met c a v h) (flag_met c a v h)).0.rows
taken_keeps c again Q keeps a kept true v h fine q = option_keeps c again Q keeps a kept v h fine q
taken_keeps c again Q keeps a kept false v h fine q = flag_keeps c again Q keeps a kept v h fine q

long_keeps : (c : List Rule) (again : Bool) (Q : List Row → Type 0) → Each (Keeps again Q) c
    → (o : Option Rule) → IfFound (Keeps again Q) o → (v : Option Text) (h : Held)
    → long_fault c again o v h ≡ [] → Q h.rows → Q (long_met c o v h).0.rows
long_keeps c again Q keeps None kept v h fine q = q
long_keeps c again Q keeps (Some a) kept v h fine q =
    taken_keeps c again Q keeps a kept (takes_values a) v h fine q

-- a way to go on with a bundle of flags that keeps what holds
abbrev GoesOn : List Rule → (List Row → Type 0) → (Held → Kinds) → (Held → Held × Outcome) → Type 0
GoesOn c Q fault go_on = (h : Held) → fault h ≡ [] → Q h.rows → Q (go_on h).0.rows

short_taken : (c : List Rule) (again : Bool) (Q : List Row → Type 0) → Each (Keeps again Q) c
    → (a : Rule) → Keeps again Q a → (b : Bool) (rest : Text) (h : Held)
    (fault : Held → Kinds) (go_on : Held → Held × Outcome) → GoesOn c Q fault go_on
    → cond b (option_fault c again a (attached_value rest) h)
    (or_else (react_fault c again a [] h) (fault (reacted c a [] h))) ≡ [] → Q h.rows
    → Q (cond b (option_met c a (attached_value rest) h) (go_on (reacted c a [] h))).0.rows
short_taken c again Q keeps a kept true rest h fault go_on goes fine q =
    option_keeps c again Q keeps a kept (attached_value rest) h fine q
short_taken c again Q keeps a kept false rest h fault go_on goes fine q =
    goes (reacted c a [] h) (no_second (react_fault c again a [] h) _ fine)
    (react_keeps c again Q keeps a kept [] h (no_first _ _ fine) q)

short_keeps : (c : List Rule) (again : Bool) (Q : List Row → Type 0) → Each (Keeps again Q) c
    → (o : Option Rule) → IfFound (Keeps again Q) o → (rest : Text) (h : Held)
    (fault : Held → Kinds) (go_on : Held → Held × Outcome) → GoesOn c Q fault go_on
    → short_fault c again o rest h fault ≡ [] → Q h.rows → Q (short_met c o rest h go_on).0.rows
short_keeps c again Q keeps None kept rest h fault go_on goes fine q = q
short_keeps c again Q keeps (Some a) kept rest h fault go_on goes fine q =
    short_taken c again Q keeps a kept (takes_values a) rest h fault go_on goes fine q

character_keeps : (c : List Rule) (again : Bool) (Q : List Row → Type 0) → Each (Keeps again Q) c
    → (o : Option ℕ) (flags : Text) (skip : ℕ) (so_far : Outcome) (h : Held)
    (fault : Text → ℕ → Held → Kinds) (go_on : Text → ℕ → Outcome → Held → Held × Outcome)
    → ((flags : Text) (skip : ℕ) (so_far : Outcome)
    → GoesOn c Q (fault flags skip) (go_on flags skip so_far))
    → bundle_step_fault c again o flags skip h fault ≡ [] → Q h.rows
    → Q (bundle_step c o flags skip so_far h go_on).0.rows
character_keeps c again Q keeps None flags skip so_far h fault go_on goes fine q = q
character_keeps c again Q keeps (Some x) flags zero so_far h fault go_on goes fine q =
    let rest = drop (length (encode_utf8 x)) flags in
    short_keeps c again Q keeps (arg_by_short c x) (found (Keeps again Q) _ c keeps) rest h
    (fault rest 0) (go_on rest 0 done) (goes rest 0 done) fine q
character_keeps c again Q keeps (Some x) flags (suc skip) so_far h fault go_on goes fine q =
    goes (drop (length (encode_utf8 x)) flags) skip so_far h fine q

bundle_keeps : (c : List Rule) (again : Bool) (Q : List Row → Type 0) → Each (Keeps again Q) c
    → (k : ℕ) (flags : Text) (skip : ℕ) (so_far : Outcome) (h : Held)
    → flags_fault c again k flags skip h ≡ [] → Q h.rows
    → Q (bundle_met c k flags skip so_far h).0.rows
unfolding bundle_met flags_fault
bundle_keeps c again Q keeps zero flags skip so_far h fine q = q
bundle_keeps c again Q keeps (suc k) flags skip so_far h fine q =
    character_keeps c again Q keeps (slice_get (chars flags) 0) flags skip so_far h
    (flags_fault c again k) (bundle_met c k)
    (bundle_keeps c again Q keeps k) fine q

counted_keeps : (Q : List Row → Type 0) (o : Option Rule) (id word : Text) (h : Held) → Q h.rows
    → Q (option_word o id word h).0.rows
counted_keeps Q None id word h q = q
counted_keeps Q (Some a) id word h q = q

plain_keeps : (c : List Rule) (Q : List Row → Type 0) (waiting : Waiting) (word : Text) (h : Held)
    → Q h.rows → Q (plain_word c waiting word h).0.rows
plain_keeps c Q idle word h q = q
plain_keeps c Q (option id) word h q = counted_keeps Q (arg_by_id c id) id word h q
plain_keeps c Q positional word h q = q

after_keeps : (c : List Rule) (Q : List Row → Type 0) (waiting : Waiting) (word : Text) (h : Held)
    (o : Outcome) → Q h.rows → Q (after_flag c waiting word h o).0.rows
after_keeps c Q waiting word h done q = q
after_keeps c Q waiting word h (waits id) q = q
after_keeps c Q waiting word h plain q = plain_keeps c Q waiting word h q
after_keeps c Q waiting word h refused q = plain_keeps c Q waiting word h q

short_word_keeps : (c : List Rule) (again : Bool) (Q : List Row → Type 0) → Each (Keeps again Q) c
    → (waiting : Waiting) (word : Text) (o : Option Text) (h : Held)
    → option_map_or (λ flags. bundle_fault c again flags h) o [] ≡ [] → Q h.rows
    → Q (short_or_plain c waiting word o h).0.rows
short_word_keeps c again Q keeps waiting word (Some flags) h fine q =
    after_keeps c Q waiting word (bundle c flags h).0 (bundle c flags h).1
    (bundle_keeps c again Q keeps (length flags) flags h.skip plain (record h { skip = 0 }) fine q)
short_word_keeps c again Q keeps waiting word None h fine q = plain_keeps c Q waiting word h q

long_word_keeps : (c : List Rule) (again : Bool) (Q : List Row → Type 0) → Each (Keeps again Q) c
    → (waiting : Waiting) (word : Text) (o : Option (Text × Option Text)) (h : Held)
    → flag_word_fault c again o word h ≡ [] → Q h.rows → Q (long_or_other c waiting word o h).0.rows
long_word_keeps c again Q keeps waiting word (Some p) h fine q =
    let met = long_met c (arg_by_long c p.0) p.1 h in
    after_keeps c Q waiting word met.0 met.1
    (long_keeps c again Q keeps (arg_by_long c p.0) (found (Keeps again Q) _ c keeps) p.1 h fine
    q)
long_word_keeps c again Q keeps waiting word None h fine q =
    short_word_keeps c again Q keeps waiting word (short_of word) h fine q

dash_keeps : (c : List Rule) (again : Bool) (Q : List Row → Type 0) → Each (Keeps again Q) c
    → (b : Bool) (waiting : Waiting) (position : ℕ) (word : Text) (h : Held)
    → cond b [] (flag_word_fault c again (long_of word) word h) ≡ [] → Q h.rows
    → Q (cond b (h, trailing position) (long_or_other c waiting word (long_of word) h)).0.rows
dash_keeps c again Q keeps true waiting position word h fine q = q
dash_keeps c again Q keeps false waiting position word h fine q =
    long_word_keeps c again Q keeps waiting word (long_of word) h fine q

named_keeps : (s : Shape) (Q : List Row → Type 0) → Each (Keeps s.args_override_self Q) s.rules
    → (met : Option Text) (waiting : Waiting) (position : ℕ) (word : Text) (h : Held)
    → other_fault s met word h ≡ [] → Q h.rows
    → Q (subcommand_or_other s.rules met waiting position word h).0.rows
named_keeps s Q keeps (Some name) waiting position word h fine q = q
named_keeps s Q keeps None waiting position word h fine q =
    dash_keeps s.rules s.args_override_self Q keeps (bytes_eq word (45 ∷ 45 ∷ [])) waiting position
    word h fine q

word_keeps : (s : Shape) (Q : List Row → Type 0) → Each (Keeps s.args_override_self Q) s.rules
    → (names : Names) (t : Bool) (waiting : Waiting) (position : ℕ) (word : Text) (h : Held)
    → word_fault s names t waiting word h ≡ [] → Q h.rows
    → Q (word_met s.rules names t waiting position word h).0.rows
word_keeps s Q keeps names true waiting position word h fine q = q
word_keeps s Q keeps names false waiting position word h fine q =
    named_keeps s Q keeps (subcommand_met names waiting word) waiting position word h fine q

held_keeps : (s : Shape) (Q : List Row → Type 0) → Each (Keeps s.args_override_self Q) s.rules
    → (b : Bool) (h : Held)
    → cond b [] (settle_fault s.rules s.args_override_self h) ≡ [] → Q h.rows
    → Q (cond b h (settled s.rules h)).rows
held_keeps s Q keeps true h fine q = q
held_keeps s Q keeps false h fine q = settle_keeps s.rules s.args_override_self Q keeps h fine q

value_keeps : (s : Shape) (Q : List Row → Type 0) → Each (Keeps s.args_override_self Q) s.rules
    → (o : Option Rule) (word : Text) (w : Walk) (h : Held)
    → option_map_or (λ a. positional_fault s.rules s.args_override_self a h) o (stray_fault s) ≡ []
    → Q h.rows → Q (to_positional s.rules o word w h).held.rows
value_keeps s Q keeps None word w h fine q = q
value_keeps s Q keeps (Some a) word w h fine q =
    held_keeps s Q keeps (is_pending a h.pending && takes_several a) h fine q

step_keeps : (s : Shape) (Q : List Row → Type 0) → Each (Keeps s.args_override_self Q) s.rules
    → (word : Text) (w : Walk) (h : Held) (step : Step)
    → step_fault s w.position h step ≡ [] → Q h.rows
    → Q (after_step s.rules word w h step).held.rows
step_keeps s Q keeps word w h (next waiting) fine q = q
step_keeps s Q keeps word w h (trailing position) fine q = q
step_keeps s Q keeps word w h (subcommand name) fine q = q
step_keeps s Q keeps word w h value fine q =
    value_keeps s Q keeps (arg_by_index s.rules w.position) word w h fine q

turn_keeps : (s : Shape) (Q : List Row → Type 0) → Each (Keeps s.args_override_self Q) s.rules
    → (names : Names) (w : Walk) (word : Text) (stop : Option (Text × List Text))
    → cond (is_some stop) [] (or_else (word_fault s names w.is_trailing w.waiting word w.held)
    (step_fault s w.position (word_met s.rules names w.is_trailing w.waiting w.position word
    w.held).0 (word_met s.rules names w.is_trailing w.waiting w.position word w.held).1)) ≡ []
    → Q w.held.rows → Q (walked_from s.rules names stop w word).held.rows
turn_keeps s Q keeps names w word (Some stop) fine q = q
turn_keeps s Q keeps names w word None fine q =
    let met = word_met s.rules names w.is_trailing w.waiting w.position word w.held in
    step_keeps s Q keeps word w met.0 met.1
    (no_second (word_fault s names w.is_trailing w.waiting word w.held) _ fine)
    (word_keeps s Q keeps names w.is_trailing w.waiting w.position word w.held (no_first _ _ fine)
    q)

walked_keeps : (s : Shape) (Q : List Row → Type 0) → Each (Keeps s.args_override_self Q) s.rules
    → (names : Names) (w : Walk) (word : Text)
    → turn_fault s names w word ≡ [] → Q w.held.rows → Q (walked s.rules names w word).held.rows
unfolding walked
walked_keeps s Q keeps names w word fine q = turn_keeps s Q keeps names w word w.stopped fine q

pub walk_keeps : (s : Shape) (Q : List Row → Type 0) → Each (Keeps s.args_override_self Q) s.rules
    → (names : Names) (w : Walk) (words : List Text)
    → walk_fault s names w words ≡ [] → Q w.held.rows
    → Q (fold (walked s.rules names) w words).held.rows
unfolding walk_fault
walk_keeps s Q keeps names w [] fine q = q
walk_keeps s Q keeps names w (word ∷ rest) fine q =
    walk_keeps s Q keeps names (walked s.rules names w word) rest
    (no_second (turn_fault s names w word) _ fine)
    (walked_keeps s Q keeps names w word (no_first (turn_fault s names w word) _ fine) q)
