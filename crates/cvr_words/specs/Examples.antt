-- Worked examples: texts of steps, and what they ask for. (This project's own.)
use Rattle.std.specs.Prelude.{◌≡◌, List, [], ◌∷◌, Some, None, map, codes}
use Rattle.cvr_words.specs.Step.{Text, import_form, exchange_form, step_form}
use Rattle.cvr_words.specs.Steps.{bad_place, paths_of, steps_of}
use Rattle.cvr_words.specs.declared.request.Act.TheVariants.{Import, Exchange}

-- an import is known by the first `=`: what follows is its path, whatever it is
abbrev pub ImportTexts : Type 0
ImportTexts =
    map step_form (codes "1=a" ∷ codes "01=a" ∷ codes "0=a" ∷ codes "123456789=a b" ∷ codes "1=2>3"
    ∷ codes "1==" ∷ [])
    ≡ Some (import_form 1 (codes "a")) ∷ Some (import_form 1 (codes "a"))
    ∷ Some (import_form 0 (codes "a"))
    ∷ Some (import_form 123456789 (codes "a b")) ∷ Some (import_form 1 (codes "2>3"))
    ∷ Some (import_form 1 (codes "=")) ∷ []

abbrev pub ExchangeTexts : Type 0
ExchangeTexts =
    map step_form (codes "1>2" ∷ codes "2>2" ∷ codes "03>999999999" ∷ [])
    ≡ Some (exchange_form 1 2) ∷ Some (exchange_form 2 2) ∷ Some (exchange_form 3 999999999) ∷ []

-- no path, no number, a sign or a blank in it, or ten digits
abbrev pub NoSteps : Type 0
NoSteps =
    map step_form (codes "" ∷ codes "1" ∷ codes "1=" ∷ codes "=a" ∷ codes "x=a" ∷ codes "+1=a"
    ∷ codes "1 =a" ∷ codes "1234567890=a" ∷ [])
    ≡ None ∷ None ∷ None ∷ None ∷ None ∷ None ∷ None ∷ None ∷ []

abbrev pub NoExchanges : Type 0
NoExchanges =
    map step_form (codes "1>" ∷ codes ">1" ∷ codes "1>x" ∷ codes "1>=f" ∷ codes "1>2>3"
    ∷ codes "1>1234567890" ∷ codes "1234567890>1" ∷ [])
    ≡ None ∷ None ∷ None ∷ None ∷ None ∷ None ∷ None ∷ []

-- ---- a drill

abbrev pub four_texts : List Text
four_texts = codes "2=b" ∷ codes "2>1" ∷ codes "1=a" ∷ codes "3=b" ∷ []

-- each import has a path of its own, in order
abbrev pub StepsOfFour : Type 0
StepsOfFour =
    steps_of 0 four_texts
    ≡ record { text = codes "2=b"; act = Import 2 0 }
    ∷ record { text = codes "2>1"; act = Exchange 2 1 }
    ∷ record { text = codes "1=a"; act = Import 1 1 }
    ∷ record { text = codes "3=b"; act = Import 3 2 } ∷ []

abbrev pub PathsOfFour : Type 0
PathsOfFour = paths_of four_texts ≡ codes "b" ∷ codes "a" ∷ codes "b" ∷ []

-- the first of two texts that have no form is reported
abbrev pub FirstBadStep : Type 0
FirstBadStep = bad_place (codes "1=a" ∷ codes "1=" ∷ codes "x" ∷ []) ≡ Some 1
