use Rattle.std.proofs.Common.{◌≡◌, ℕ, ◌*◌, ◌^◌, ◌<◌, ◌≤◌, IsTrue, length, drop}
use Rattle.bm_base.specs.declared.area.Area.TheVariants.{Input}
use Rattle.bm_base.specs.Shape.{load_stripes}
use Rattle.bm_base.specs.Records.{record_at, record_in}
use Rattle.bm_rack.specs.Frames.{ChangesOnly, Keeps}
use Rattle.bm_stripe.specs.Units.{IsAreaUnit}
use Rattle.bm_base.specs.Shape.{load_size}
use Rattle.bm_rack.specs.Frames.{MovesRows}
use Rattle.bm_disks.proofs.input_loads.read_loads.Given as goal

abbrev pub invariant-loop-load : goal.invariant-loop-load
invariant-loop-load g l =
    let view = g.R.Rack.view in
    let left = g.S.Source.left in
    let faults = g.S.Source.faults in
    record {
      only : ChangesOnly (IsAreaUnit l.shape Input) (view l.fn.rack) (view l.rack);
      moved : MovesRows (l.load * load_stripes l.shape) (Unit {0}) (view l.fn.rack) (view l.rack);
      keeps : Keeps (view l.fn.rack) (view l.rack);
      whole : IsTrue g.S.Source.tells → load_size l.shape * l.load ≤ length (left l.fn.input);
      taken : IsTrue g.S.Source.tells → left l.input ≡ drop (load_size l.shape * l.load) (left l.fn.input);
      records : IsTrue g.S.Source.tells → IsTrue g.R.Rack.tells_contents → (x : ℕ) → x < 2 ^ l.shape.m * l.load
          → record_at (view l.rack).contents l.shape Input x ≡ record_in l.shape (left l.fn.input) x;
      faults : faults l.fn.input ≤ faults l.input;
      size : l.size ≡ load_size l.shape;
    }
