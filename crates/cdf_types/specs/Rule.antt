-- The number of each rule of form. (This project's own.)
use Rattle.std.specs.Prelude.{ℕ}
use Rattle.cdf_types.specs.declared.rule.Rule.{Rule}
use Rattle.cdf_types.specs.declared.rule.Rule.TheVariants as rule

-- the number of a rule, as docs/FAULTS.md lists them
abbrev pub number_of : Rule → ℕ
number_of rule.NotObject = 1
number_of rule.Missing = 2
number_of rule.WrongKind = 3
number_of rule.NotListed = 4
number_of rule.WrongClass = 5
number_of rule.EmptyText = 6
number_of rule.OutOfRange = 7
number_of rule.TooFew = 8
number_of rule.TooMany = 9
number_of rule.Fractional = 10
number_of rule.NotMoment = 11
number_of rule.RepeatedId = 12
number_of rule.RepeatedContest = 13
number_of rule.NotWhole = 14
