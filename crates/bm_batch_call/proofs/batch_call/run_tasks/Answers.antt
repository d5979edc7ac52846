use Rattle.bm_batch_call.proofs.TopLemmas.{one_shape}
use Rattle.bm_batch_call.proofs.batch_call.run_tasks.Goals as goal

pub returns-in-None : goal.returns-in-None
returns-in-None g c = λ t e.
    one_shape (record t {
      input = g.S.Source.tells;
      out = g.K.Sink.tells;
      stands = g.Y.Rack.tells_stands;
      contents =
          g.Y.Rack.tells_contents;
    })
    c.args.batch.verb _ _ _ c.run_shape.result _ (c.in-None.ensures.none e) (c.run_shape.ensures t e)
