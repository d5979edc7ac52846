use Rattle.std.proofs.Common.{sym, ◌∙◌}
use Rattle.bm_top.specs.Moment.{sink_of}
use Rattle.bm_top.proofs.SeenLemmas.{detect_refused, seen_from}
use Rattle.bm_top.proofs.commands.detect.detect_attached.Goals as goal

pub returns-in-Ok : goal.returns-in-Ok
returns-in-Ok g c = λ t d before from.
    let j = c.open_job.ensures in
    c.detect_loaded.ensures t d before
    (seen_from (record t { out = g.K.Sink.tells; stands = g.R.Rack.tells_stands; contents = g.R.Rack.tells_contents })
    c.args.task.now before _ _ c.open_job.result (g.met.R.Rack.consistent c.args.rack.now) c.requires.attached from
    (sym c.loaded_of.ensures ∙ c.in-Ok.is)
    (record {
      answer = j.answer;
      good = λ told. j.good told.0 told.1;
      complete = λ told. j.complete told.0 told.1;
      contents = j.contents;
      sound = j.sound;
      call = j.call;
      means = λ told. j.means told.0 told.1;
      counts = j.counts;
    }))

pub returns-in-Err : goal.returns-in-Err
returns-in-Err g c = λ t d before from.
    let j = c.open_job.ensures in
    rw c.open_status.ensures
    (detect_refused (record t { out = g.K.Sink.tells; stands = g.R.Rack.tells_stands; contents = g.R.Rack.tells_contents })
    c.args.task.now (record d { out = sink_of (g.K.Sink.taken c.args.out.now) (g.K.Sink.faults c.args.out.now) }) before _ _
    c.open_job.result c.in-Err.error (g.met.R.Rack.consistent c.args.rack.now) c.requires.attached from
    (sym c.loaded_of.ensures ∙ c.in-Err.is)
    (record {
      answer = j.answer;
      good = λ told. j.good told.0 told.1;
      complete = λ told. j.complete told.0 told.1;
      contents = j.contents;
      sound = j.sound;
      call = j.call;
      means = λ told. j.means told.0 told.1;
      counts = j.counts;
    }))
