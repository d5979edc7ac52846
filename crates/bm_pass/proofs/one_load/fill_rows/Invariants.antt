use Rattle.std.proofs.Common.{IsTrue}
use Rattle.bm_bufs.specs.Bufs.{FitsShape}
use Rattle.bm_rack.specs.Frames.{Keeps, MovesRows, SameState}
use Rattle.bm_pass.specs.LoadPlaces.{HoldsRowsOfLoad}
use Rattle.bm_pass.proofs.one_load.fill_rows.Given as goal

abbrev pub invariant-loop-row : goal.invariant-loop-row
invariant-loop-row g l =
    let view = g.R.Rack.view in
    record {
      state : SameState (view l.fn.rack) (view l.rack);
      moved : MovesRows l.row (Unit {0}) (view l.fn.rack) (view l.rack);
      keeps : Keeps (view l.fn.rack) (view l.rack);
      fits : FitsShape l.shape l.bufs;
      records : IsTrue g.R.Rack.tells_contents
          → HoldsRowsOfLoad l.shape l.placing l.from l.load (view l.fn.rack).contents l.row l.bufs.load;
    }
