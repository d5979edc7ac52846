use Rattle.std.proofs.Common.{ℕ, ◌+◌, ◌<◌, refl, arith}
use Rattle.bm_rack.proofs.FrameLemmas.{RaisesCounts-trans, Keeps-trans}
use Rattle.bm_stripe.specs.Rows.{following}
use Rattle.bm_stripe.proofs.RowLemmas.{HoldsRows-written, ChangesOnly-row}
use Rattle.bm_stripe.proofs.rows.write_rows.Goals as goal

pub returns-in_err-write_row_of-clause-only : goal.returns-in_err-write_row_of-clause-only
returns-in_err-write_row_of-clause-only g c =
    ChangesOnly-row c.args.dims.disks (following c.args.first) c.loop-row.row c.args.rows c.same_places.result _ _ _ (omega arith)
    (omega arith) (λ disk below. c.same_places.ensures.each disk (omega arith))
    c.loop-row.invariant.only c.write_row_of.ensures.written.only

pub loop-row-preserved : goal.loop-row-preserved
loop-row-preserved g c =
    let inv = c.loop-row.invariant in
    let each = λ (disk : ℕ) (below : disk < c.args.dims.disks). c.same_places.ensures.each disk (omega arith) in
    record {
      only = ChangesOnly-row c.args.dims.disks (following c.args.first) c.loop-row.row (c.loop-row.row + 1) c.same_places.result _ _ _
          (omega arith) (omega arith) each inv.only c.write_row_of.ensures.written.only;
      counts = RaisesCounts-trans _ 0 0 1 0 0 _ _ _ inv.counts c.write_row_of.ensures.counts;
      keeps = Keeps-trans _ _ _ inv.keeps c.write_row_of.ensures.keeps;
      bytes = λ told. HoldsRows-written g.R.Rack.tells_contents c.args.dims _ _ (following c.args.first) c.loop-row.row
          c.same_places.result c.args.buf.now _ (inv.bytes told) c.in_ok-write_row_of.ensures.written told refl each
          (λ i disk early in_row same. omega arith);
    }
