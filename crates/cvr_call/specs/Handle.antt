-- The handle of an office that lives between calls. (This project's own.)
use Rattle.std.specs.Prelude.{◌≡◌, ℕ, Option, None, Some}
use Rattle.std.specs.Global.{Global}
use Rattle.std.specs.contracts.impls.GlobalAllocator.TheImpl.{ghosts}
use Rattle.std_alloc.specs.Box.Ownership.{box_owns}
use Rattle.cvr_cached.specs.Held.{Holding}
use Rattle.cvr_cached.specs.contracts.cached.CachedOffice.{the_row}
use base.Fml.{Fml, feq}
use denote.RawPtr.{Ptr, null_ptr}

-- what a handle owns: nothing at null, or else what a box of its office does
abbrev pub owned : Global → Ptr → Option Holding → Fml
owned alloc at None = feq Ptr at null_ptr
owned alloc at (Some office) = box_owns (ghosts.dealloc_token alloc) the_row at office

-- the handle has no office
abbrev pub no_office : ℕ
no_office = 7

-- what a call does to the office of a handle; without one it says so, and there is none after it
abbrev pub Does : Option Holding → Option Holding → ℕ → (Holding → Holding → Type 0) → Type 0
Does None None status does = status ≡ no_office
Does (Some old) (Some new) status does = does old new
Does old new status does = ⊥

-- what it does beside the office of another handle
abbrev pub Beside : Option Holding → ℕ → (Holding → Type 0) → Type 0
Beside None status does = status ≡ no_office
Beside (Some other) status does = does other
