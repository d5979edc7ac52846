use Rattle.std.proofs.Common.{◌≡◌, ◌*◌, IsTrue, length}
use Rattle.bm_rack.specs.Frames.{Keeps, SameState}
use Rattle.bm_mirror.specs.Healing.{IsFilled, StaysAttached}
use Rattle.bm_mirror.proofs.copying.copy_rows.Given as goal

abbrev pub invariant-loop-place : goal.invariant-loop-place
invariant-loop-place g l =
    let from = g.F.Rack.view in
    let to = g.T.Rack.view in
    record {
      same : SameState (from l.fn.from) (from l.from);
      read_keeps : Keeps (from l.fn.from) (from l.from);
      stays : StaysAttached (to l.fn.to) (to l.to);
      dims : l.dims ≡ l.fn.dims;
      row : length l.row ≡ l.fn.dims.disks * l.fn.dims.block;
      copied : IsTrue g.F.Rack.tells_contents → IsTrue g.T.Rack.tells_contents
          → IsFilled l.fn.dims l.place 0 (from l.fn.from).contents (to l.to).contents;
    }
