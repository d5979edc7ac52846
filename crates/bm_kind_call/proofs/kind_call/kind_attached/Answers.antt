use Rattle.std.proofs.Common.{refl}
use Rattle.bm_top.specs.Moment.{source_of, sink_of, devices_of}
use Rattle.bm_top.proofs.CarryLoadLemmas.{loaded_from}
use Rattle.bm_kind_call.specs.Exits.{shape_task}
use Rattle.bm_kind_call.proofs.EarlyLemmas.{kind_not_loaded}
use Rattle.bm_kind_call.proofs.kind_call.kind_attached.Goals as goal

pub returns-in-Ok : goal.returns-in-Ok
returns-in-Ok g c = λ t old made.
    c.kind_loaded.ensures (record t { input = g.S.Source.tells }) (devices_of (source_of (g.S.Source.left c.load_records.new.input)
    (g.S.Source.faults c.load_records.new.input)) (sink_of (g.K.Sink.taken c.args.out.now) (g.K.Sink.faults c.args.out.now))
    (g.R.Rack.view c.load_records.new.rack)) old
    (loaded_from (record t {
      input = g.S.Source.tells;
      out = g.K.Sink.tells;
      stands = g.R.Rack.tells_stands;
      contents = g.R.Rack.tells_contents;
    }) (shape_task c.args.file.now.shape) old _ _ made
    (record {
      answer = c.in-Ok.ensures.answer;
      few = c.in-Ok.ensures.few;
      data_fault = c.in-Ok.ensures.data_fault;
      data_faults = c.in-Ok.ensures.data_faults;
      records = c.in-Ok.ensures.records;
      gates = c.in-Ok.ensures.gates;
      clean = c.in-Ok.ensures.clean;
      closed = c.in-Ok.ensures.closed;
      sound = c.in-Ok.ensures.sound;
      mended = c.in-Ok.ensures.mended;
      opened = c.in-Ok.ensures.opened;
      call = c.in-Ok.ensures.call;
      counts = c.in-Ok.ensures.counts;
      complete = c.in-Ok.ensures.complete;
      out = refl;
    }))

pub returns-in-Err : goal.returns-in-Err
returns-in-Err g c = λ t old made.
    rw c.load_status.ensures
    (kind_not_loaded (record t {
      input = g.S.Source.tells;
      out = g.K.Sink.tells;
      stands = g.R.Rack.tells_stands;
      contents = g.R.Rack.tells_contents;
    }) c.args.file.now old _ _ c.in-Err.error made
    (record {
      answer = c.in-Err.ensures.answer;
      few = c.in-Err.ensures.few;
      data_fault = c.in-Err.ensures.data_fault;
      data_faults = c.in-Err.ensures.data_faults;
      records = c.in-Err.ensures.records;
      gates = c.in-Err.ensures.gates;
      clean = c.in-Err.ensures.clean;
      closed = c.in-Err.ensures.closed;
      sound = c.in-Err.ensures.sound;
      mended = c.in-Err.ensures.mended;
      opened = c.in-Err.ensures.opened;
      call = c.in-Err.ensures.call;
      counts = c.in-Err.ensures.counts;
      complete = c.in-Err.ensures.complete;
      out = refl;
    }))
