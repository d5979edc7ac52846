use Rattle.std.proofs.Common.{◌*◌, IsTrue}
use Rattle.bm_base.specs.Shape.{load_stripes}
use Rattle.bm_bufs.specs.Bufs.{FitsShape}
use Rattle.bm_rack.specs.Frames.{Keeps, MovesRows, ChangesOnly}
use Rattle.bm_stripe.specs.Units.{IsAreaUnit}
use Rattle.bm_pass.specs.LoadMove.{LoadsMoved}
use Rattle.bm_pass.proofs.whole_pass.run_pass.Given as goal

abbrev pub invariant-loop-load : goal.invariant-loop-load
invariant-loop-load g l =
    let view = g.R.Rack.view in
    record {
      only : ChangesOnly (IsAreaUnit l.shape l.to) (view l.fn.rack) (view l.rack);
      moved : MovesRows (l.load * (2 * load_stripes l.shape)) (Unit {0}) (view l.fn.rack) (view l.rack);
      keeps : Keeps (view l.fn.rack) (view l.rack);
      fits : FitsShape l.shape l.bufs;
      records : IsTrue g.R.Rack.tells_contents
          → LoadsMoved l.shape l.pass l.from l.to l.load (view l.fn.rack).contents (view l.rack).contents;
    }
