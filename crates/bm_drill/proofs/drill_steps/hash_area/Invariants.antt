use Rattle.std.proofs.Common.{◌*◌, ◌^◌, IsTrue}
use Rattle.bm_base.specs.Shape.{load_stripes}
use Rattle.bm_base.specs.Records.{record_at, bytes_of}
use Rattle.bm_rack.specs.Frames.{SameState, Keeps, MovesRows}
use Rattle.sha2.specs.Hashers.{Holds256}
use Rattle.bm_drill.proofs.drill_steps.hash_area.Given as goal

abbrev pub invariant-loop-load : goal.invariant-loop-load
invariant-loop-load g l =
    let view = g.R.Rack.view in
    record {
      state : SameState (view l.fn.rack) (view l.rack);
      moved : MovesRows (l.load * load_stripes l.shape) (Unit {0}) (view l.fn.rack) (view l.rack);
      keeps : Keeps (view l.fn.rack) (view l.rack);
      holds : IsTrue g.R.Rack.tells_contents → Holds256 l.hasher (bytes_of (2 ^ l.shape.m * l.load) (record_at
          (view l.fn.rack).contents l.shape l.area));
    }
