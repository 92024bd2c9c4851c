-- Openers of worked examples.
use Rattle.std.proofs.Common.{◌≡◌, ◌∙◌, ℕ, List, [], ◌∷◌, ◌++◌, codes, true, Some, option_map}
use Rattle.std.proofs.Common.{ap, subst, sym, true≢false, arith}
use Rattle.cvr_run.specs.declared.file.FileFault.TheVariants as fault
use Rattle.cvr_run.specs.declared.status.Status.TheVariants as status
use Rattle.cvr_run.specs.Opening.{Opener, AreRead, IsRead, FailedAt, Opens, FourAreShown}
use Rattle.cvr_run.specs.Worked.{Stop, CanStop, stop_line, stop_status, unread_line}
use Rattle.cvr_run.specs.Worked.{HasOnlyD, StopsAtA, TheMissingIsReported}

pub four_shown : FourAreShown
four_shown old new before opens = record {
  opened = ap (λ (o : Opener). o.opened) opens
      ∙ ap (λ o. option_map (λ opened. opened ++ (codes "c" ∷ codes "a" ∷ [])) o) before;
  at = ap (λ (o : Opener). o.at) opens;
  may_fail = ap (λ (o : Opener). o.may_fail) opens;
}

module _ (old new : Opener) (line : List ℕ) (has : HasOnlyD old) where
  stops_there : (before after files : List (List ℕ)) (path : List ℕ)
      → codes "d" ∷ codes "a" ∷ codes "b" ∷ [] ≡ before ++ path ∷ after
      → AreRead old.at before files
      → FailedAt (old.at path) (old.may_fail path) → Opens old new (before ++ path ∷ [])
      → line ≡ unread_line path fault.Device → StopsAtA new line
  stops_there [] after files path split read failed opened said =
      let is : path ≡ codes "d" = cc in
      let never : old.may_fail (codes "d")
      ≡ true = subst (λ at. FailedAt at (old.may_fail (codes "d"))) has.d
      (subst (λ p. FailedAt (old.at p) (old.may_fail p)) is failed) in
      absurd (true≢false (sym never ∙ has.reads))
  stops_there (x ∷ []) after files path split read failed opened said =
      let first : x ≡ codes "d" = cc in
      let is : path ≡ codes "a" = cc in
      record {
        said = said ∙ ap (λ p. unread_line p fault.Device) is;
        opened =
            ap (λ (o : Opener). o.opened) opened
            ∙ (ap (λ o. option_map (λ opened. opened ++ (x ∷ path ∷ [])) o) has.opened
            ∙ (λ i. Some (first i ∷ is i ∷ [])));
      }
  stops_there (x ∷ y ∷ before) after [] path split read failed opened said = absurd read
  stops_there (x ∷ y ∷ before) after (f ∷ []) path split read failed opened said = absurd read.1
  stops_there (x ∷ y ∷ before) after (f ∷ g ∷ files) path split read failed opened said =
      let is : y ≡ codes "a" = cc in
      absurd (subst (λ at. IsRead at g) has.a (subst (λ p. IsRead (old.at p) g) is read.1.0))

  stops_so : (stop : Stop) → CanStop old new (codes "d" ∷ codes "a" ∷ codes "b" ∷ []) stop
      → status.Device ≡ stop_status stop → line ≡ stop_line stop → StopsAtA new line
  stops_so stop u is said = grind (arith, stops_there)

pub missing_reported : TheMissingIsReported
missing_reported old new line has stops =
    stops_so old new line has stops.stop stops.possible stops.status stops.said
