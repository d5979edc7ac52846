use Rattle.std.proofs.Common.{◌≡◌, Some, length}
use Rattle.bm_base.specs.Shape.{dims_of}
use Rattle.run_tests.proofs.run_rows.all_bytes.Given as goal

abbrev pub invariant-loop-page : goal.invariant-loop-page
invariant-loop-page g l = record {
  attached : (g.R.Rack.view l.rack).attached ≡ Some (dims_of l.shape);
  size : length l.page_bytes ≡ 512;
}
