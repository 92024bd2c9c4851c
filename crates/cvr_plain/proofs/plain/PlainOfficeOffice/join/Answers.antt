use Rattle.std.proofs.Common.{refl}
use Rattle.cvr_plain.proofs.Lists.{plain_after}
use Rattle.cvr_plain.proofs.plain.PlainOfficeOffice.join.Goals as goal

pub invariant_of-self : goal.invariant_of-self
invariant_of-self c =
    plain_after c.put_copies.result _ _ _ _ _ (c.if-not-same.ensures.0 refl) c.self.invariant
    (rw (c.deref.ensures.value) c.other.invariant) c.put_copies.ensures.put
    c.put_copies.ensures.unchanged
