use Rattle.std.proofs.Common.{◌≡◌, ◌*◌, IsTrue}
use Rattle.bm_rack.specs.Frames.{Keeps, RaisesCounts, SameState}
use Rattle.bm_stripe.specs.Rows.{HoldsRows, following}
use Rattle.bm_stripe.proofs.rows.read_rows.Given as goal

abbrev pub invariant-loop-row : goal.invariant-loop-row
invariant-loop-row g l =
    let view = g.R.Rack.view in
    record {
      state : SameState (view l.fn.rack) (view l.rack);
      counts : RaisesCounts l.row 0 0 (view l.fn.rack) (view l.rack);
      keeps : Keeps (view l.fn.rack) (view l.rack);
      row_bytes : l.row_bytes ≡ l.fn.dims.disks * l.fn.dims.block;
      disks : l.disks ≡ l.fn.dims.disks;
      bytes : IsTrue g.R.Rack.tells_contents → HoldsRows l.fn.dims (view l.fn.rack).contents (following l.first) l.row l.buf;
    }
