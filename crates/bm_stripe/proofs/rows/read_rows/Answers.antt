use Rattle.std.proofs.Common.{◌≡◌, ◌+◌, ◌*◌, ◌≤◌, length, refl, ◌∙◌, ap, arith, length-take, length-drop}
use Rattle.std.proofs.Math.Nat.{mul-le-mul_right}
use Rattle.bm_base.specs.Contents.{block_at}
use Rattle.bm_rack.proofs.FrameLemmas.{RaisesCounts-trans, Keeps-trans, SameState-trans}
use Rattle.bm_stripe.specs.Rows.{following}
use Rattle.bm_stripe.proofs.RowLemmas.{HoldsRows-read, front_entry}
use Rattle.bm_stripe.proofs.rows.read_rows.Goals as goal

pub loop-row-preserved : goal.loop-row-preserved
loop-row-preserved g c =
    let view = g.R.Rack.view in
    let inv = c.loop-row.invariant in
    let dims = c.args.dims in
    let row_bytes = dims.disks * dims.block in
    let at = c.args.first + c.loop-row.row in
    let fits : (c.loop-row.row + 1) * row_bytes ≤ c.args.rows * row_bytes = mul-le-mul_right row_bytes (omega arith) in
    let long : length c.read_row.new.bytes ≡ row_bytes = c.read_row.auto.bytes ∙ simp (length-take, length-drop) (omega arith) in
    let entries = front_entry dims.disks (following c.args.first c.loop-row.row) c.same_places-places.result
    (λ disk below. c.same_places-places.ensures.each disk (omega arith)) in
    let read = c.in_ok-read_row.ensures.bytes dims (inv.state.attached ∙ c.requires.attached) in
    record {
      state = SameState-trans _ _ _ inv.state c.read_row.ensures.state;
      counts = RaisesCounts-trans _ 0 0 1 0 0 _ _ _ inv.counts c.read_row.ensures.counts;
      keeps = Keeps-trans _ _ _ inv.keeps c.read_row.ensures.keeps;
      row_bytes = refl;
      disks = refl;
      bytes = λ told. HoldsRows-read dims (view c.args.rack.now).contents (following c.args.first) c.loop-row.row _ c.loop-row.buf
          c.read_row.new.bytes long (omega arith) (inv.bytes told)
          (λ disk in_row. read.taking told refl disk at in_row (entries disk in_row) ∙ ap (λ v. block_at v disk at) inv.state.contents);
    }
