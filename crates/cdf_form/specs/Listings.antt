-- The lists of texts in the class tables, held against the enumerations. (NIST SP 1500-103,
-- enumerations.)
use Rattle.std.specs.Prelude.{◌≡◌, ℕ, ◌↔◌, List}
use Rattle.std.specs.List.{Contains}
use Rattle.cdf_form.specs.declared.table.Listing.{Listing}
use Rattle.cdf_form.specs.Tables.{listed_in}

-- the list has the texts of all values of an enumeration, and no other
abbrev pub HasTextsOf : {K : Type 0} → (K → List ℕ) → Listing → Type 0
HasTextsOf {K = K} text_of l = (text : List ℕ)
    → Contains (listed_in l) text ↔ ((value : K) × (text_of value ≡ text))
