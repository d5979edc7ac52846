use Rattle.std.proofs.Common.{◌*◌, IsTrue}
use Rattle.bm_base.specs.Shape.{load_stripes}
use Rattle.bm_base.specs.Records.{record_at}
use Rattle.bm_bufs.specs.Bufs.{FitsShape}
use Rattle.bm_rack.specs.Frames.{Keeps, MovesRows, ChangesOnly}
use Rattle.bm_stripe.specs.Units.{IsAreaUnit}
use Rattle.bm_kinds.specs.OnBits.{kernel_over}
use Rattle.bm_kindjob.specs.ListMove.{ListsMoved}
use Rattle.bm_kindjob.proofs.whole_pass.kind_pass.Given as goal

abbrev pub invariant-loop-load : goal.invariant-loop-load
invariant-loop-load g l =
    let view = g.R.Rack.view in
    record {
      only : ChangesOnly (IsAreaUnit l.shape l.to) (view l.fn.rack) (view l.rack);
      moved : MovesRows (l.load * (2 * load_stripes l.shape)) (Unit {0}) (view l.fn.rack) (view l.rack);
      keeps : Keeps (view l.fn.rack) (view l.rack);
      fits : FitsShape l.shape l.bufs;
      records : IsTrue g.R.Rack.tells_contents
          → ListsMoved l.shape l.pass l.to l.load
          (kernel_over (g.K.Kernel.meaning l.kernel) l.shape.m l.set (record_at (view l.fn.rack).contents l.shape l.from))
          (view l.rack).contents;
    }
