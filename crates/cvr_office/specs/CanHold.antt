-- What an office keeps true of its facts, beside its definition. (This project's own.)
use Rattle.std.specs.Prelude.{◌≡◌, ℕ, List, map, true}
use Rattle.std.specs.List.{AllByRecursion, filter_map}
use Rattle.std.specs.FinSet.{contains, items, from_list}
use Rattle.std.specs.Str.{IsUtf8}
use Rattle.cdf_definition.specs.References.{Scope}
use Rattle.cdf_definition.specs.Frame.{Frame, scope_in}
use Rattle.cdf_definition.specs.Sound.{IsFrame}
use Rattle.cdf_definition.specs.Acceptance.{Valid}
use Rattle.cvr_fact_types.specs.Facts.{Fact, Device, Facts, texts}
use Rattle.cvr_facts.specs.Reports.{facts}
use Rattle.cvr_facts.specs.Stands.{Stands, IsOfRecord}
use Rattle.cvr_office.specs.Names.{device_in}

-- the content of a new office: the devices of its definition
abbrev pub starting_content : Frame → Facts
starting_content frame = from_list (map (λ e. Device e.0 e.1) frame.devices)

-- what the references of a body may name: the definition's objects and the devices of the content
abbrev pub content_scope : Frame → Facts → Scope
content_scope frame s = scope_in frame (filter_map device_in (items s))

-- what an office keeps true of its facts, beside its definition
pub record CanHold (frame : Frame) (s : Facts) : Type 0 where
  -- its definition is what is kept of some sound report
  pub sound : IsFrame frame
  -- each fact is one of some file that is valid for the definition
  pub given : (f : Fact) → contains s f ≡ true
      → ∥ ((bytes : List ℕ) × Valid frame bytes × (contains (facts bytes) f ≡ true)) ∥₁
  -- its body would stand in a written report
  pub stand : (f : Fact) → contains s f ≡ true → Stands (content_scope frame s) f
  -- its record has a header, a snapshot and a device
  pub whole : (f : Fact) → contains s f ≡ true → IsOfRecord s f
  -- the definition's devices are there
  pub started : (f : Fact) → contains (starting_content frame) f ≡ true → contains s f ≡ true
  -- each of its texts is UTF-8
  pub utf8 : (f : Fact) → contains s f ≡ true → AllByRecursion IsUtf8 (texts f)
