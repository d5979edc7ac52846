use Rattle.std.proofs.Common.{refl, arith}
use Rattle.std.proofs.lemmas.List.{length-map}
use Rattle.std.proofs.lemmas.Bool.{false≢true}
use Rattle.bm_batch_call.specs.Moment.{no_view}
use Rattle.bm_batch_call.proofs.ListLemmas.{up_to_none, up_to_next, up_to_at, ends_at}
use Rattle.bm_batch_call.proofs.attaching.attach_bays.Goals as goal

pub loop-bay-init : goal.loop-bay-init
loop-bay-init g c = λ t. up_to_none no_view _ _

pub loop-bay-preserved : goal.loop-bay-preserved
loop-bay-preserved g c = λ t.
    up_to_next g.Y.Rack.view no_view _ c.loop-bay.bay _ c.loop-bay.bays c.index-bays-bay.result c.attach_bay.new.rack
    (let below = c.loop-bay-test.true in let same = c.loop-bay.auto.bays in omega (arith, below, same))
    (c.loop-bay.invariant t) (c.in-Ok.ensures.attached t refl)

pub returns-in-Err : goal.returns-in-Err
returns-in-Err g c = λ t. record {
  attached = λ ok. absurd (false≢true ok);
  refused = record {
    at = c.loop-bay.bay;
    bays = ends_at g.Y.Rack.view no_view _ _ c.loop-bay.bay _ c.loop-bay.bays c.index-bays-bay.result c.attach_bay.new.rack
        (let below = c.loop-bay-test.true in let same = c.loop-bay.auto.bays in omega (arith, below, same)) (c.loop-bay.invariant t)
        (c.in-Err.ensures.fails t);
  };
}

pub returns : goal.returns
returns g c = λ t. record {
  attached = λ ok. up_to_at no_view _ _ _ _ _ (let many = length-map c.args.bays.now g.Y.Rack.view in let over = c.loop-bay-test.false in
      let near = c.loop-bay.auto.bay-end in omega (arith, many, over, near)) (c.loop-bay.invariant t);
  refused = tt;
}
