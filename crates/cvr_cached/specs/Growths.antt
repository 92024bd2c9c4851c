-- What comes to a list of facts, and the room for it. (This project's own.)
use Rattle.std.specs.Prelude.{◌≡◌, ◌≤◌, ◌+◌, List, [], ◌∷◌, length, Option, ⊤}
use Rattle.std.specs.Option.{option_map_or}
use Rattle.std.specs.Vec.{vec_capacity}
use Rattle.std.specs.List.Sorted.{IsStrictlySortedBy}
use Rattle.cvr_fact_types.specs.declared.name.RecordName.{RecordName}
use Rattle.cvr_office.specs.declared.any_fact.AnyFact.{AnyFact}
use Rattle.cvr_office.specs.Place.{any_cmp}
use Rattle.cvr_cached.specs.Contents.{Entries, facts_at, IsKeyOf}
use Rattle.cvr_cached.specs.Fresh.{AreApart}
use Rattle.cvr_cached.specs.Merged.{merged}
use Rattle.cvr_cached.specs.Shown.{IsShown}
use Rattle.cvr_cached.specs.declared.growth.Growth.{Growth}

-- what comes is in order and not among the facts, and there is room for both
pub record IsGrowth (facts : List AnyFact) (growth : Growth) : Type 0 where
  pub rises : IsStrictlySortedBy any_cmp growth.fresh.items
  pub apart : AreApart facts growth.fresh.items
  pub empty : growth.room.items ≡ []
  pub room : length facts + length growth.fresh.items ≤ vec_capacity growth.room

-- the facts once it came, if anything did
abbrev pub grown : List AnyFact → Option Growth → List AnyFact
grown facts growth = option_map_or (λ g. merged facts g.fresh.items) growth facts

-- ---- contents

-- a content once it came: a few facts that show what it does then are all where nothing stood
abbrev pub grown_content : List AnyFact → List AnyFact → Growth → List AnyFact
grown_content [] few growth = few
grown_content (x ∷ xs) few growth = merged (x ∷ xs) growth.fresh.items

-- what comes, a few facts that show what all do then, and a key of the rows of what stands
pub record IsGrowing (old few : List AnyFact) (growth : Growth) : Type 0 where
  pub growth_is : IsGrowth old growth
  pub shown : IsShown few (grown_content old few growth)
  pub key_is : IsKeyOf old growth.key

-- f: the contents that stand, by name; of others a few facts, and what comes to each, by place
abbrev pub grown_contents : (RecordName → Option (List AnyFact)) → Entries → List Growth → Entries
grown_contents f [] gs = []
grown_contents f (c ∷ cs) [] = []
grown_contents f (c ∷ cs) (g ∷ gs) =
    (c.0, grown_content (facts_at (f c.0)) c.1 g) ∷ grown_contents f cs gs

abbrev pub AreGrowing : (RecordName → Option (List AnyFact)) → Entries → List Growth → Type 0
AreGrowing f [] [] = ⊤
AreGrowing f [] (g ∷ gs) = ⊥
AreGrowing f (c ∷ cs) [] = ⊥
AreGrowing f (c ∷ cs) (g ∷ gs) = IsGrowing (facts_at (f c.0)) c.1 g × AreGrowing f cs gs
