use Rattle.std.proofs.Common.{refl, arith}
use Rattle.std.proofs.lemmas.Bool.{false≢true}
use Rattle.bm_top.specs.Moment.{source_of}
use Rattle.bm_top.proofs.ExitLemmas.{IsRead-none}
use Rattle.bm_batch_call.proofs.BayLemmas.{bay_filled, bay_not_filled, bay_not_made}
use Rattle.bm_batch_call.proofs.filling.fill_bay.Goals as goal

pub returns-in-Ok-fill_disks-clause-call : goal.returns-in-Ok-fill_disks-clause-call
returns-in-Ok-fill_disks-clause-call g c = λ t.
    let f = c.in-Ok-fill_disks.ensures.call in
    let first = g.met.Y.Rack.consistent c.args.rack.now in
    record {
      filled = λ ok. bay_filled (record t { input = g.S.Source.tells; stands = g.Y.Rack.tells_stands; contents = g.Y.Rack.tells_contents })
          c.args.shape.now _ _ _ _ _ first (rw c.dims.ensures at (c.in-Ok.ensures.made refl))
          (rw c.dims.ensures at (c.in-Ok.ensures.attached refl))
          c.new_disks.ensures.counts c.new_disks.ensures.keeps f;
      taken = λ told ok. (f.whole told refl, f.taken told refl);
      few = f.few;
      faults = f.faults;
      refused = tt;
    }

pub returns-in-Err-fill_disks-clause-call : goal.returns-in-Err-fill_disks-clause-call
returns-in-Err-fill_disks-clause-call g c = λ t.
    let f = c.in-Err-fill_disks.ensures.call in
    let first = g.met.Y.Rack.consistent c.args.rack.now in
    record {
      filled = λ ok. absurd (false≢true ok);
      taken = λ told ok. absurd (false≢true ok);
      few = f.few;
      faults = f.faults;
      refused = rw c.load_status.ensures
          (bay_not_filled (record t { input = g.S.Source.tells; stands = g.Y.Rack.tells_stands; contents = g.Y.Rack.tells_contents })
          c.args.shape.now _ _ _ _ _ c.in-Err-fill_disks.error first (rw c.dims.ensures at (c.in-Ok.ensures.made refl))
          c.new_disks.ensures.counts c.new_disks.ensures.keeps f);
    }

pub returns-in-Err-clause-call : goal.returns-in-Err-clause-call
returns-in-Err-clause-call g c = λ t.
    let first = g.met.Y.Rack.consistent c.args.rack.now in
    record {
      filled = λ ok. absurd (false≢true ok);
      taken = λ told ok. absurd (false≢true ok);
      few = λ told. IsRead-none _ _;
      faults = omega arith;
      refused = rw c.disks_status.ensures
          (bay_not_made (record t { input = g.S.Source.tells; stands = g.Y.Rack.tells_stands; contents = g.Y.Rack.tells_contents })
          c.args.shape.now (source_of (g.S.Source.left c.args.input.now) (g.S.Source.faults c.args.input.now)) _ _ c.in-Err.error first
          (rw c.dims.ensures at c.in-Err.ensures.refusal) c.new_disks.ensures.counts c.new_disks.ensures.keeps c.in-Err.ensures.cause);
    }
