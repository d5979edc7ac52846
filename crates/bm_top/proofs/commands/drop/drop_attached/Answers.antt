use Rattle.std.proofs.Common.{Ok, Err}
use Rattle.bm_top.proofs.DropLemmas.{drop_done}
use Rattle.bm_top.proofs.commands.drop.drop_attached.Goals as goal

pub returns-in-Ok : goal.returns-in-Ok
returns-in-Ok g c = λ t d before from.
    let j = c.in-Ok.ensures in
    drop_done (record t { stands = g.R.Rack.tells_stands; contents = g.R.Rack.tells_contents }) c.args.task.now d before _ _ (Ok tt)
    (g.met.R.Rack.consistent c.args.rack.now) c.requires from (record {
      answer = j.answer;
      kept = j.kept;
      clean = j.clean;
      sound = λ told. j.sound told.0 told.1;
      input = j.input;
      call = j.call;
      counts = j.counts;
    })

pub returns-in-Err : goal.returns-in-Err
returns-in-Err g c = λ t d before from.
    let j = c.in-Err.ensures in
    rw c.drop_status.ensures
    (drop_done (record t { stands = g.R.Rack.tells_stands; contents = g.R.Rack.tells_contents }) c.args.task.now d before _ _
    (Err c.in-Err.error)
    (g.met.R.Rack.consistent c.args.rack.now) c.requires from (record {
      answer = j.answer;
      kept = j.kept;
      clean = j.clean;
      sound = λ told. j.sound told.0 told.1;
      input = j.input;
      call = j.call;
      counts = j.counts;
    }))
