-- A plain office: a definition, and a list of facts in order. (This project's own.)
use Rattle.std.specs.Prelude.{◌≡◌, ◌⊎◌, ℕ, List, map, ⊤}
use Rattle.std.specs.List.{Contains}
use Rattle.std.specs.List.Sorted.{IsStrictlySortedBy}
use Rattle.std.specs.Coded.{Coded, code_by, coded×, coded_list, coded_ℕ}
use Rattle.std.specs.FinSet.{from_list, union}
use Rattle.std.proofs.Common.{refl}
use Rattle.cdf_parts.specs.Places.{Contest}
use Rattle.cdf_definition.specs.Named.{IdText}
use Rattle.cdf_definition.specs.Frame.{Frame}
use Rattle.cvr_fact_types.specs.Facts.{Facts, coded_facts}
use Rattle.cvr_facts.specs.Stands.{IsSpelledHeader, IsSpelledSnapshot}
use Rattle.cvr_tally.specs.Rows.{coded_contests}
use Rattle.cvr_office.specs.declared.any_fact.AnyFact.{AnyFact}
use Rattle.cvr_office.specs.declared.any_fact.AnyFact.TheVariants as any
use Rattle.cvr_office.specs.Place.{fact_of, any_cmp}
use Rattle.cvr_office.specs.CanHold.{CanHold}

-- the set of the facts of a list
abbrev pub set_of : List AnyFact → Facts
set_of items = from_list (map fact_of items)

-- a definition and facts
pub record Content : Type 0 where
  pub frame : Frame
  pub facts : Facts

abbrev pub coded_text : Coded (List ℕ)
coded_text = coded_list coded_ℕ

abbrev pub coded_entries : Coded (List IdText)
coded_entries = coded_list (coded× coded_text coded_text)

abbrev pub coded_content : Coded Content
coded_content =
    code_by (List IdText × (List IdText × (List IdText × (List IdText × (List Contest × Facts)))))
    (coded× coded_entries (coded× coded_entries
    (coded× coded_entries (coded× coded_entries (coded× coded_contests coded_facts)))))
    (λ c. (
      c.frame.elections,
      (
        c.frame.units,
        (c.frame.parties, (c.frame.devices, (c.frame.contests, c.facts))),
      ),
    ))
    (λ p. record {
      frame = record {
        elections = p.0;
        units = p.1.0;
        parties = p.1.1.0;
        devices = p.1.1.1.0;
        contests = p.1.1.1.1.0;
      };
      facts = p.1.1.1.1.1;
    })
    (λ _. refl)

-- the definition of a plain office, and the facts of its list
abbrev pub content_of : Frame → List AnyFact → Content
content_of frame items = record { frame = frame; facts = set_of items }

-- its fields are those that its body spells
abbrev pub IsSpelled : List Contest → AnyFact → Type 0
IsSpelled contests (any.Device d) = ⊤
IsSpelled contests (any.Header h) = IsSpelledHeader h
IsSpelled contests (any.Snapshot s) = IsSpelledSnapshot contests s

-- the list rises, each fact in it is spelled, and their set keeps what an office keeps true
pub record IsPlain (frame : Frame) (items : List AnyFact) : Type 0 where
  pub rises : IsStrictlySortedBy any_cmp items
  pub spelled : (fact : AnyFact) → Contains items fact → IsSpelled frame.contests fact
  pub can_hold : CanHold frame (set_of items)

-- what a list holds after another was put in
pub record IsPut (old more new : List AnyFact) : Type 0 where
  pub rises : IsStrictlySortedBy any_cmp new
  pub from : (fact : AnyFact) → Contains new fact → Contains old fact ⊎ Contains more fact
  pub set : set_of new ≡ union (set_of old) (set_of more)
