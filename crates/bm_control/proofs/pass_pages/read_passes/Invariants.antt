use Rattle.std.proofs.Common.{◌≡◌, ◌≤◌, ◌*◌, IsTrue}
use Rattle.bm_base.specs.Contents.{Contents}
use Rattle.bm_rack.specs.Frames.{SameState, Keeps, RaisesCounts}
use Rattle.bm_control.specs.State.{PassesStand}
use Rattle.bm_control.proofs.pass_pages.read_passes.Given as goal

abbrev pub invariant-loop-k : goal.invariant-loop-k
invariant-loop-k g l =
    let view = g.R.Rack.view in
    record {
      done : l.done ≤ l.k;
      state : SameState (view l.fn.rack) (view l.rack);
      keeps : Keeps (view l.fn.rack) (view l.rack);
      counts : RaisesCounts 0 (2 * l.k) 0 (view l.fn.rack) (view l.rack);
      answer : IsTrue g.R.Rack.tells_contents → (v : Contents) → (view l.fn.rack).contents ≡ v → PassesStand l.shape v l.k l.done;
    }
