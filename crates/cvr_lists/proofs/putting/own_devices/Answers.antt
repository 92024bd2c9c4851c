use Rattle.std.proofs.Common.{◌∙◌}
use Rattle.cvr_lists.proofs.Puts.{more_devices}
use Rattle.cvr_lists.proofs.putting.own_devices.Goals as goal

pub loop-place-preserved : goal.loop-place-preserved
loop-place-preserved c =
    rw (c.in_ok-push.ensures.items, c.in_ok-new.ensures)
    (more_devices _ _ _ _ _ _ _ c.devices-bodies.ensures c.loop-place-test.true
    (c.new.ensures ∙ (c.in_ok-id.ensures.ok ∙ c.device_id.ensures)) c.in_ok-copy.ensures
    c.index-bodies-place.is c.loop-place.invariant)
