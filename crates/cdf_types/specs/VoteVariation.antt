-- How the votes of a contest are counted (NIST SP 1500-103, enumeration VoteVariation).
use Rattle.std.specs.Prelude.{ℕ, List, codes}
use Rattle.cdf_types.specs.declared.vote_variation.VoteVariation.{VoteVariation}
use Rattle.cdf_types.specs.declared.vote_variation.VoteVariation.TheVariants as vote_variation

-- the text of each VoteVariation
abbrev pub vote_variation_text : VoteVariation → List ℕ
vote_variation_text vote_variation.Approval = codes "approval"
vote_variation_text vote_variation.Borda = codes "borda"
vote_variation_text vote_variation.Cumulative = codes "cumulative"
vote_variation_text vote_variation.Majority = codes "majority"
vote_variation_text vote_variation.NOfM = codes "n-of-m"
vote_variation_text vote_variation.Other = codes "other"
vote_variation_text vote_variation.Plurality = codes "plurality"
vote_variation_text vote_variation.Proportional = codes "proportional"
vote_variation_text vote_variation.Range = codes "range"
vote_variation_text vote_variation.Rcv = codes "rcv"
vote_variation_text vote_variation.SuperMajority = codes "super-majority"
