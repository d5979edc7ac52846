use Rattle.std.proofs.Common.{◌*◌, ◌^◌, IsTrue}
use Rattle.bm_base.specs.Shape.{load_stripes}
use Rattle.bm_bufs.specs.Bufs.{FitsShape}
use Rattle.bm_rack.specs.Frames.{SameState, Keeps}
use Rattle.bm_detect.specs.Candidate.{input_number}
use Rattle.bm_detect.specs.Scan.{IsScan, Knows}
use Rattle.bm_rack.specs.Frames.{MovesRows}
use Rattle.bm_detect.proofs.scan_loads.scan_input.Given as goal

abbrev pub invariant-loop-load : goal.invariant-loop-load
invariant-loop-load g l =
    let view = g.R.Rack.view in
    record {
      scan : IsScan l.shape.n l.scan;
      fits : FitsShape l.shape l.bufs;
      state : SameState (view l.fn.rack) (view l.rack);
      moved : MovesRows (l.load * load_stripes l.shape) (Unit {0}) (view l.fn.rack) (view l.rack);
      keeps : Keeps (view l.fn.rack) (view l.rack);
      knows : IsTrue g.R.Rack.tells_contents
          → Knows l.shape.n (input_number (view l.fn.rack).contents l.shape) (2 ^ l.shape.m * l.load) l.scan;
    }
