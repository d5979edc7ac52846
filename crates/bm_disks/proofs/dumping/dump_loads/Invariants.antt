use Rattle.std.proofs.Common.{◌≡◌, ◌*◌, ◌^◌, ◌≤◌, ◌++◌, IsTrue}
use Rattle.bm_base.specs.Shape.{load_stripes}
use Rattle.bm_base.specs.Records.{record_at, bytes_of}
use Rattle.bm_rack.specs.Frames.{SameState, Keeps}
use Rattle.bm_rack.specs.Frames.{MovesRows}
use Rattle.bm_disks.proofs.dumping.dump_loads.Given as goal

abbrev pub invariant-loop-load : goal.invariant-loop-load
invariant-loop-load g l =
    let view = g.R.Rack.view in
    let taken = g.K.Sink.taken in
    let faults = g.K.Sink.faults in
    record {
      state : SameState (view l.fn.rack) (view l.rack);
      moved : MovesRows (l.load * load_stripes l.shape) (Unit {0}) (view l.fn.rack) (view l.rack);
      keeps : Keeps (view l.fn.rack) (view l.rack);
      taken : IsTrue g.K.Sink.tells → IsTrue g.R.Rack.tells_contents
          → taken l.out ≡ taken l.fn.out ++ bytes_of (2 ^ l.shape.m * l.load) (record_at (view l.fn.rack).contents l.shape l.area);
      faults : faults l.fn.out ≤ faults l.out;
    }
