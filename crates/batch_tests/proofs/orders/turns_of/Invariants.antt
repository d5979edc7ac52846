use Rattle.std.proofs.Common.{◌≡◌, length, map}
use Rattle.bm_bufs.specs.Bufs.{FitsShape}
use Rattle.bm_batch.specs.Batches.{AreAttached}
use Rattle.batch_tests.proofs.orders.turns_of.Given as goal

abbrev pub invariant-loop-bay : goal.invariant-loop-bay
invariant-loop-bay g l = record {
  many : length l.bays ≡ length l.batch.slots;
  count : length l.batch.slots ≡ length l.fn.batch.slots;
  attached : AreAttached l.batch (map g.R.Rack.view l.bays);
  fits : FitsShape l.batch.shape l.bufs;
}
