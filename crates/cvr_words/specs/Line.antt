-- The command line, as clap sees it. (This project's own.)
use Rattle.std.specs.Prelude.{ℕ, pos, true, List, ◌∷◌, Some, codes, map}
use Rattle.clap.specs.Words.{App, Rule, Text, new_app, new_rule, with_rule, with_subcommand}
use Rattle.clap.specs.declared.builder.action.ArgAction.TheVariants.{Set, Append}
use Rattle.clap.specs.declared.builder.value_parser.ValueParser.TheVariants as parser

-- a word that has to stand once
abbrev pub required_word : Text → Rule
required_word id = record (new_rule id) { required = true; action = Some Set }

-- a whole number in a range, which has to stand once
abbrev pub one_number : Text → ℕ → ℕ → Rule
one_number id low high =
    record (required_word id) { parser = Some (parser.Signed (pos low) (pos high)) }

-- the words at the end, any number of them
abbrev pub several : Text → Rule
several id = record (new_rule id) {
  action = Some Append;
  range = Some (record { start_inclusive = 0; end_inclusive = 18446744073709551615 });
}

-- NAME DEF FILE..
abbrev pub files_line : Text → App
files_line name =
    with_rule (with_rule (new_app name) (required_word (codes "DEF"))) (several (codes "FILE"))

-- merge DEF DATE DEVICE VOLUME FILE..
abbrev pub merge_line : App
merge_line =
    with_rule (with_rule (with_rule (with_rule (with_rule (new_app (codes "merge"))
    (required_word (codes "DEF"))) (required_word (codes "DATE"))) (required_word (codes "DEVICE")))
    (one_number (codes "VOLUME") 1 4294967295)) (several (codes "FILE"))

-- drill DEF OFFICES STEP..
abbrev pub drill_line : App
drill_line =
    with_rule (with_rule (with_rule (new_app (codes "drill"))
    (required_word (codes "DEF"))) (one_number (codes "OFFICES") 1 64)) (several (codes "STEP"))

-- the program with no command yet: one has to stand
abbrev pub bare_line : App
bare_line = record (new_app (codes "cvr")) {
  top = record (new_app (codes "cvr")).top { subcommand_required = true };
}

-- The command line as clap sees it: the commands, the words that have to stand after each, those
-- that may, and the ranges of VOLUME and OFFICES. clap adds the command `help` and the flag
-- `--help`.
abbrev pub cvr_line : App
cvr_line =
    with_subcommand (with_subcommand (with_subcommand
    (with_subcommand (with_subcommand (with_subcommand bare_line
    (files_line (codes "currents")).top) (files_line (codes "conflicts")).top)
    (files_line (codes "tally")).top)
    (files_line (codes "check")).top) merge_line.top) drill_line.top

-- the words as clap takes them: the program's name stands before them
abbrev pub with_program : List Text → List Text
with_program words = codes "cvr" ∷ words

-- the names of the commands
abbrev pub command_names : List Text
command_names = map (λ command. command.name) cvr_line.subs
