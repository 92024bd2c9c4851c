-- Of two steps that have no fault together, neither has one.
use Rattle.std.proofs.Common.{◌≡◌, Bool, true, false, [], ◌∷◌, cond, refl}
use Rattle.clap.specs.Kinds.{Kinds, or_else}
use Rattle.clap.specs.declared.error.ErrorKind.{ErrorKind}

pub no_first : (a b : Kinds) → or_else a b ≡ [] → a ≡ []
no_first [] b h = refl
no_first (k ∷ ks) b h = cc

pub no_second : (a b : Kinds) → or_else a b ≡ [] → b ≡ []
no_second [] b h = h
no_second (k ∷ ks) b h = cc

-- a test that would give a kind fails
pub not_given : (b : Bool) (k : ErrorKind) (ks : Kinds) → cond b (k ∷ ks) [] ≡ [] → b ≡ false
not_given true k ks h = cc
not_given false k ks h = refl

-- a test that keeps a kind away holds
pub is_given : (b : Bool) (k : ErrorKind) (ks : Kinds) → cond b [] (k ∷ ks) ≡ [] → b ≡ true
is_given true k ks h = refl
is_given false k ks h = cc
