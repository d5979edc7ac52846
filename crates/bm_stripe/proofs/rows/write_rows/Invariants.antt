use Rattle.std.proofs.Common.{IsTrue}
use Rattle.bm_rack.specs.Frames.{Keeps, RaisesCounts, ChangesOnly}
use Rattle.bm_stripe.specs.Rows.{HoldsRows, IsRowsUnit, following}
use Rattle.bm_stripe.proofs.rows.write_rows.Given as goal

abbrev pub invariant-loop-row : goal.invariant-loop-row
invariant-loop-row g l =
    let view = g.R.Rack.view in
    record {
      only : ChangesOnly (IsRowsUnit l.dims.disks (following l.first) l.row) (view l.fn.rack) (view l.rack);
      counts : RaisesCounts l.row 0 0 (view l.fn.rack) (view l.rack);
      keeps : Keeps (view l.fn.rack) (view l.rack);
      bytes : IsTrue g.R.Rack.tells_contents → HoldsRows l.dims (view l.rack).contents (following l.first) l.row l.buf;
    }
