use Rattle.std.proofs.Common.{◌≡◌, ◌*◌, ◌/◌, ◌^◌, take, length, IsTrue}
use Rattle.bm_base.specs.declared.area.Area.TheVariants.{Input}
use Rattle.bm_base.specs.Area.{area_after}
use Rattle.bm_base.specs.Shape.{stripes}
use Rattle.bm_base.specs.Records.{SameRecords, record_at}
use Rattle.bm_bufs.specs.Bufs.{FitsShape}
use Rattle.bm_rack.specs.Frames.{Keeps, MovesRows, ChangesOnly}
use Rattle.bm_kindjob.specs.KindPasses.{kinds_passed}
use Rattle.bm_kindjob.specs.KindRun.{IsWorkBlock}
use Rattle.bm_kindjob.proofs.KindRoundLemmas.{bits_passed}
use Rattle.bm_kindjob.proofs.runs.run_kind.Given as goal

abbrev pub invariant-loop-i : goal.invariant-loop-i
invariant-loop-i g l =
    let view = g.R.Rack.view in
    let f = g.K.Kernel.meaning l.kernel in
    let s = l.shape in
    record {
      only : ChangesOnly (IsWorkBlock s) (view l.fn.rack) (view l.rack);
      moved : MovesRows (l.i * (2 * stripes s)) (Unit {0}) (view l.fn.rack) (view l.rack);
      keeps : Keeps (view l.fn.rack) (view l.rack);
      fits : FitsShape s l.bufs;
      end : l.i-end ≡ length l.plan.forms;
      left : l.left ≡ l.set / 2 ^ bits_passed (take l.i l.plan.forms);
      records : IsTrue g.R.Rack.tells_contents
          → SameRecords (2 ^ s.n) (record_at (view l.rack).contents s (area_after l.i))
          (kinds_passed f l.set (take l.i l.plan.forms) (record_at (view l.fn.rack).contents s Input));
    }
