use Rattle.std.proofs.Common.{length}
use Rattle.bm_batch.proofs.BeginLemmas.{BeginFacts, begun_of}
use Rattle.bm_batch.proofs.one_bay.begin_bay.Goals as goal

pub returns : goal.returns
returns g c =
    let view = g.Y.Rack.view in
    let facts : BeginFacts g.Y.Rack.tells_stands g.Y.Rack.tells_contents c.args.shape.now c.args.job.now.job
    (length c.args.job.now.plan.forms) c.args.job.now.every c.begin.result (view c.args.rack.now) (view c.begin.new.rack) = record {
      answer = c.begin.ensures.answer;
      fresh = c.begin.ensures.fresh;
      gone = c.begin.ensures.gone;
      follows = c.begin.ensures.follows;
      bodies = c.begin.ensures.bodies;
      clean = c.begin.ensures.clean;
      sound = c.begin.ensures.sound;
      good = c.begin.ensures.good;
      kept = c.begin.ensures.kept;
      unchanged = c.begin.ensures.unchanged;
      images = c.begin.ensures.images;
      call = c.begin.ensures.call;
      input = c.begin.ensures.input;
      most = c.begin.ensures.most;
      moves = c.begin.ensures.moves;
    } in
    record {
      begun = begun_of _ _ _ _ _ _ _ _ _ _ (g.met.Y.Rack.consistent c.begin.new.rack) c.slot_of.ensures facts;
    }
