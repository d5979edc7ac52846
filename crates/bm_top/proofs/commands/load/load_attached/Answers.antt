use Rattle.std.proofs.Common.{Ok, Err}
use Rattle.bm_top.specs.Moment.{source_of}
use Rattle.bm_top.proofs.LoadLemmas.{load_done}
use Rattle.bm_top.proofs.commands.load.load_attached.Goals as goal

pub returns-in-Ok-clause-call : goal.returns-in-Ok-clause-call
returns-in-Ok-clause-call g c = λ t d before from.
    let j = c.in-Ok.ensures in
    load_done (record t { input = g.S.Source.tells; stands = g.R.Rack.tells_stands; contents = g.R.Rack.tells_contents })
    c.args.task.now (record d { input = source_of (g.S.Source.left c.args.input.now) (g.S.Source.faults c.args.input.now) }) _ before _ _
    (Ok tt)
    (g.met.R.Rack.consistent c.args.rack.now) c.requires.attached from
    (record {
      answer = j.answer;
      few = j.few;
      data_fault = j.data_fault;
      data_faults = j.data_faults;
      records = j.records;
      gates = j.gates;
      clean = j.clean;
      closed = j.closed;
      sound = λ told. j.sound told.0 told.1;
      mended = λ told. j.mended told.0 told.1;
      opened = λ told input. j.opened input told.0 told.1;
      call = j.call;
      counts = j.counts;
    })

pub returns-in-Err-clause-call : goal.returns-in-Err-clause-call
returns-in-Err-clause-call g c = λ t d before from.
    let j = c.in-Err.ensures in
    rw c.load_status.ensures
    (load_done (record t { input = g.S.Source.tells; stands = g.R.Rack.tells_stands; contents = g.R.Rack.tells_contents })
    c.args.task.now (record d { input = source_of (g.S.Source.left c.args.input.now) (g.S.Source.faults c.args.input.now) }) _ before _ _
    (Err c.in-Err.error)
    (g.met.R.Rack.consistent c.args.rack.now) c.requires.attached from
    (record {
      answer = j.answer;
      few = j.few;
      data_fault = j.data_fault;
      data_faults = j.data_faults;
      records = j.records;
      gates = j.gates;
      clean = j.clean;
      closed = j.closed;
      sound = λ told. j.sound told.0 told.1;
      mended = λ told. j.mended told.0 told.1;
      opened = λ told input. j.opened input told.0 told.1;
      call = j.call;
      counts = j.counts;
    }))
