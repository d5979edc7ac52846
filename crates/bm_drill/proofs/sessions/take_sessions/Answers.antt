use Rattle.std.proofs.Common.{length, arith}
use Rattle.bm_base.specs.Shape.{dims_of}
use Rattle.bm_drill.proofs.PaidLemmas.{between_none, between_next}
use Rattle.bm_drill.proofs.RefusalLemmas.{stop_of_session}
use Rattle.bm_drill.proofs.sessions.take_sessions.Goals as goal

pub loop-stop-init : goal.loop-stop-init
loop-stop-init g c = record {
  between = between_none g.R.Rack.tells_stands g.R.Rack.tells_contents c.args.shape.now c.args.job.now
      (length c.args.plan.now.forms) c.args.every _
      (g.met.R.Rack.consistent c.args.rack.now);
  index = omega arith;
  fits = c.requires.fits;
}

pub loop-stop-preserved : goal.loop-stop-preserved
loop-stop-preserved g c =
    let view = g.R.Rack.view in
    let told_stands = g.R.Rack.tells_stands in
    let told_contents = g.R.Rack.tells_contents in
    let s = c.args.shape.now in
    let job = c.args.job.now in
    let passes = length c.args.plan.now.forms in
    let every = c.args.every in
    record {
      between = between_next told_stands told_contents s job passes every c.loop-stop.restarts (dims_of s)
          (view c.args.rack.now) (view c.loop-stop.rack)
          (view c.stopped_run.new.rack) c.requires.attached c.loop-stop.invariant.between c.stopped_run.ensures.keeps
          (stop_of_session told_stands told_contents s job passes every _ _ _ c.in-Err-Failed.ensures.answer c.in-Err-Failed.field-0-is)
          (g.met.R.Rack.consistent c.stopped_run.new.rack);
      index = (let i = c.loop-stop.invariant.index in omega (arith, i));
      fits = c.stopped_run.ensures.fits;
    }
