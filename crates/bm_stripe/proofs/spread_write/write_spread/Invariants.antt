use Rattle.std.proofs.Common.{IsTrue}
use Rattle.bm_rack.specs.Frames.{Keeps, RaisesCounts, ChangesOnly}
use Rattle.bm_stripe.specs.Rows.{HoldsRows, IsRowsUnit, spread_place}
use Rattle.bm_stripe.proofs.spread_write.write_spread.Given as goal

abbrev pub invariant-loop-row : goal.invariant-loop-row
invariant-loop-row g l =
    let view = g.R.Rack.view in
    let place = spread_place l.shape l.area l.spread in
    record {
      only : ChangesOnly (IsRowsUnit l.dims.disks place l.row) (view l.fn.rack) (view l.rack);
      counts : RaisesCounts l.row 0 0 (view l.fn.rack) (view l.rack);
      keeps : Keeps (view l.fn.rack) (view l.rack);
      bytes : IsTrue g.R.Rack.tells_contents → HoldsRows l.dims (view l.rack).contents place l.row l.buf;
    }
