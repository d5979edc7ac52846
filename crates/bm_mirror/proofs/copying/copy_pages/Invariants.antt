use Rattle.std.proofs.Common.{◌≡◌, IsTrue}
use Rattle.bm_rack.specs.Frames.{Keeps, SameState}
use Rattle.bm_mirror.specs.Healing.{IsFilled, StaysAttached}
use Rattle.bm_mirror.proofs.copying.copy_pages.Given as goal

abbrev pub invariant-loop-page : goal.invariant-loop-page
invariant-loop-page g l =
    let from = g.F.Rack.view in
    let to = g.T.Rack.view in
    record {
      same : SameState (from l.fn.from) (from l.from);
      read_keeps : Keeps (from l.fn.from) (from l.from);
      stays : StaysAttached (to l.fn.to) (to l.to);
      dims : l.dims ≡ l.fn.dims;
      copied : IsTrue g.F.Rack.tells_contents → IsTrue g.T.Rack.tells_contents
          → IsFilled l.fn.dims l.fn.dims.places 0 (from l.fn.from).contents (to l.fn.to).contents
          → IsFilled l.fn.dims l.fn.dims.places l.page (from l.fn.from).contents (to l.to).contents;
    }
