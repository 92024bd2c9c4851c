-- What was written and what is due from the `next` device on make up the list, in which `later` is
-- set after the first `id`; a write that fails leaves a beginning of it.
use Rattle.std.proofs.Common.{◌++◌, Some, None, option_map, true, false, refl, ap}
use Rattle.serde_json.specs.Written.{comma_if}
use Rattle.cvr_fact_types.specs.Facts.{text_cmp}
use Rattle.cvr_office.specs.Names.{devices}
use Rattle.cvr_office.specs.Readers.{next, device_list}
use Rattle.cvr_report.specs.Record.{comma_list}
use Rattle.cvr_report.specs.Page.{shown_body}
use Rattle.cvr_report.specs.Pieces.{device_texts}
use Rattle.cvr_report.proofs.Progress.{starts, writes_on, stops, device_there, devices_begin}
use Rattle.cvr_report.proofs.Progress.{devices_fewer, device_next, devices_rest}
use Rattle.cvr_report.proofs.volume.write_devices.Goals as goal

pub devices-init : goal.devices-init
devices-init g c =
    let s = g.O.Office.held c.args.office.now in
    let first = option_map (λ i. i.now) c.next_device-next.result in
    record {
      progress = starts (g.W.Sink.taken c.args.out.now)
          (comma_list false (device_texts s c.args.i (devices s)))
          (devices_rest s c.args.i false first) c.requires.working
          (devices_begin s c.args.i first c.next_device-next.ensures);
      listed = device_there s c.args.i None first c.next_device-next.ensures;
    }

pub returns-in_err-write_device : goal.returns-in_err-write_device
returns-in_err-write_device g c =
    let s = g.O.Office.held c.args.office.now in
    let i = c.args.i in
    let here = option_map (λ i. i.now) c.devices.next in
    let id = c.in-Some.id.now in
    let above = next text_cmp (devices s) (Some id) in
    stops (g.W.Sink.taken c.args.out.now) (g.W.Sink.taken c.devices.out)
    (g.W.Sink.taken c.write_device.new.out)
    (comma_list false (device_texts s i (devices s))) (devices_rest s i c.devices.later here)
    c.devices.invariant.progress c.from_residual.result c.in_err-write_device.field-0.0
    (comma_if c.devices.later ++ shown_body i (device_list s id)) (devices_rest s i true above)
    (device_next s i here above id c.devices.invariant.listed
    (ap (option_map (λ i. i.now)) c.in-Some.is) refl c.devices.later)
    c.from_residual.ensures.1 c.in_err-write_device.ensures

pub devices-smaller : goal.devices-smaller
devices-smaller g c =
    devices_fewer (g.O.Office.held c.args.office.now) c.args.i
    (option_map (λ i. i.now) c.devices.next)
    (option_map (λ i. i.now) c.next_device-next-in-Some.result) c.in-Some.id.now
    c.devices.invariant.listed (ap (option_map (λ i. i.now)) c.in-Some.is)
    c.next_device-next-in-Some.ensures

pub devices-preserved : goal.devices-preserved
devices-preserved g c =
    let s = g.O.Office.held c.args.office.now in
    let i = c.args.i in
    let here = option_map (λ i. i.now) c.devices.next in
    let id = c.in-Some.id.now in
    let above = option_map (λ i. i.now) c.next_device-next-in-Some.result in
    record {
      progress =
          writes_on (g.W.Sink.taken c.args.out.now) (g.W.Sink.taken c.devices.out)
          (g.W.Sink.taken c.write_device.new.out)
          (comma_list false (device_texts s i (devices s))) (devices_rest s i c.devices.later here)
          c.devices.invariant.progress
          (comma_if c.devices.later ++ shown_body i (device_list s id))
          (devices_rest s i true above)
          (device_next s i here above id c.devices.invariant.listed
          (ap (option_map (λ i. i.now)) c.in-Some.is) c.next_device-next-in-Some.ensures
          c.devices.later)
          c.in_ok-write_device.ensures.0 c.in_ok-write_device.ensures.1;
      listed = device_there s i (Some id) above c.next_device-next-in-Some.ensures;
    }
