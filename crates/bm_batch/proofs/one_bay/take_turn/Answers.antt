use Rattle.std.proofs.Common.{refl}
use Rattle.bm_batch.proofs.TurnLemmas.{TurnFacts, bay_went, bay_step}
use Rattle.bm_batch.proofs.one_bay.take_turn.Goals as goal

pub returns-clause-went : goal.returns-clause-went
returns-clause-went g c =
    let view = g.Y.Rack.view in
    let facts : TurnFacts g.Y.Rack.tells_stands g.Y.Rack.tells_contents c.args.machine c.turn.new.self c.turn.result
    (view c.args.rack.now) (view c.turn.new.rack) = record {
      answer = c.turn.ensures.answer;
      same = c.turn.ensures.same;
      next_of = c.turn.ensures.next c.requires.left;
      stopped = c.turn.ensures.stopped;
      moved = c.turn.ensures.moved c.requires.left;
      follows = c.turn.ensures.follows;
      sound = c.turn.ensures.sound;
      good = c.turn.ensures.good;
      bad = c.turn.ensures.bad;
      call = c.turn.ensures.call;
      input = c.turn.ensures.input;
      counts = c.turn.ensures.counts c.requires.left;
    } in
    bay_went _ _ c.args.machine c.turn.new.self c.turn.result _ _ _ c.requires.left refl c.state_after-state.ensures facts

pub returns-clause-step : goal.returns-clause-step
returns-clause-step g c =
    let view = g.Y.Rack.view in
    let facts : TurnFacts g.Y.Rack.tells_stands g.Y.Rack.tells_contents c.args.machine c.turn.new.self c.turn.result
    (view c.args.rack.now) (view c.turn.new.rack) = record {
      answer = c.turn.ensures.answer;
      same = c.turn.ensures.same;
      next_of = c.turn.ensures.next c.requires.left;
      stopped = c.turn.ensures.stopped;
      moved = c.turn.ensures.moved c.requires.left;
      follows = c.turn.ensures.follows;
      sound = c.turn.ensures.sound;
      good = c.turn.ensures.good;
      bad = c.turn.ensures.bad;
      call = c.turn.ensures.call;
      input = c.turn.ensures.input;
      counts = c.turn.ensures.counts c.requires.left;
    } in
    bay_step _ _ c.args.machine c.turn.new.self c.turn.result _ _ _ refl c.state_after-state.ensures facts
