use Rattle.std.proofs.Common.{◌≡◌, ℕ, ◌*◌, ◌^◌, ◌<◌, IsTrue}
use Rattle.bm_base.specs.declared.area.Area.TheVariants.{Input}
use Rattle.bm_base.specs.Shape.{load_stripes}
use Rattle.bm_base.specs.Records.{record_at}
use Rattle.bm_rack.specs.Frames.{ChangesOnly, Keeps, MovesRows}
use Rattle.bm_stripe.specs.Units.{IsAreaUnit}
use Rattle.bm_drill.specs.Generated.{generated}
use Rattle.bm_drill.proofs.drill_steps.write_input.Given as goal

abbrev pub invariant-loop-load : goal.invariant-loop-load
invariant-loop-load g l =
    let view = g.R.Rack.view in
    record {
      only : ChangesOnly (IsAreaUnit l.shape Input) (view l.fn.rack) (view l.rack);
      moved : MovesRows (l.load * load_stripes l.shape) (Unit {0}) (view l.fn.rack) (view l.rack);
      keeps : Keeps (view l.fn.rack) (view l.rack);
      records : IsTrue g.R.Rack.tells_contents → (x : ℕ) → x < 2 ^ l.shape.m * l.load
          → record_at (view l.rack).contents l.shape Input x ≡ generated l.shape.width l.start x;
    }
