use Rattle.std.proofs.Common.{◌≡◌, ℕ, ◌+◌, ◌*◌, ◌^◌, ◌<◌, ◌≤◌, refl, sym, ◌∙◌, arith}
use Rattle.std.proofs.Math.Nat.{mul-le-mul_right}
use Rattle.bm_rack.proofs.FrameLemmas.{RaisesCounts-trans, Keeps-trans, ChangesOnly-wider}
use Rattle.bm_base.specs.Shape.{load_stripes}
use Rattle.bm_base.proofs.ShapeLemmas.{disks_fit}
use Rattle.bm_stripe.specs.Rows.{IsRowsUnit, spread_place}
use Rattle.bm_stripe.proofs.BlockLemmas.{load_bytes, record_of_spread}
use Rattle.bm_stripe.proofs.UnitLemmas.{IsSpreadUnit-rows, spread_place-area, spread_place-apart}
use Rattle.bm_stripe.proofs.RowLemmas.{HoldsRows-written, ChangesOnly-row}
use Rattle.bm_stripe.proofs.spread_write.write_spread.Goals as goal

pub write_row_of-requires-clause-disks : goal.write_row_of-requires-clause-disks
write_row_of-requires-clause-disks g c = rw c.dims-dims.ensures (disks_fit c.args.shape.now)

pub write_row_of-requires-clause-places : goal.write_row_of-requires-clause-places
write_row_of-requires-clause-places g c disk place below is =
    let s = c.args.shape.now in
    let in_disks : disk < 2 ^ s.d = rw c.dims-dims.ensures at below in
    let in_area = spread_place-area s c.args.area c.args.spread.now c.loop-row.row disk c.requires.loads (omega arith) in_disks in
    let entry = sym is ∙ c.places_of_row.ensures.each disk in_disks in
    let same : place ≡ spread_place s c.args.area c.args.spread.now c.loop-row.row disk = cc in
    rw (c.dims-dims.ensures, same) in_area

pub write_row_of-requires-clause-size : goal.write_row_of-requires-clause-size
write_row_of-requires-clause-size g c =
    let s = c.args.shape.now in
    let fits : (c.loop-row.row + 1) * (2 ^ s.d * (2 ^ s.b * s.width)) ≤ load_stripes s * (2 ^ s.d * (2 ^ s.b * s.width)) =
    mul-le-mul_right (2 ^ s.d * (2 ^ s.b * s.width)) (omega arith) in
    rw c.dims-dims.ensures (omega (arith, fits, c.requires.size, load_bytes s))

pub returns-in_err-write_row_of-clause-only : goal.returns-in_err-write_row_of-clause-only
returns-in_err-write_row_of-clause-only g c =
    let s = c.args.shape.now in
    let place = spread_place s c.args.area c.args.spread.now in
    let before = rw c.dims-dims.ensures at c.loop-row.invariant.only in
    let written = rw c.dims-dims.ensures at c.write_row_of.ensures.written.only in
    ChangesOnly-wider (IsRowsUnit (2 ^ s.d) place (load_stripes s)) _ _ _ (IsSpreadUnit-rows s c.args.area c.args.spread.now)
    (ChangesOnly-row (2 ^ s.d) place c.loop-row.row (load_stripes s) c.places_of_row.result _ _ _ (omega (arith, disks_fit s))
    (omega arith) c.places_of_row.ensures.each before written)

pub loop-row-preserved : goal.loop-row-preserved
loop-row-preserved g c =
    let s = c.args.shape.now in
    let dims = c.dims-dims.result in
    let inv = c.loop-row.invariant in
    let place = spread_place s c.args.area c.args.spread.now in
    let few : dims.disks ≤ 64 = rw c.dims-dims.ensures (disks_fit s) in
    let each = λ (disk : ℕ) (below : disk < dims.disks). c.places_of_row.ensures.each disk (rw c.dims-dims.ensures at below) in
    record {
      only = ChangesOnly-row dims.disks place c.loop-row.row (c.loop-row.row + 1) c.places_of_row.result _ _ _ (omega arith) (omega arith)
          each inv.only c.write_row_of.ensures.written.only;
      counts = RaisesCounts-trans _ 0 0 1 0 0 _ _ _ inv.counts c.write_row_of.ensures.counts;
      keeps = Keeps-trans _ _ _ inv.keeps c.write_row_of.ensures.keeps;
      bytes = λ told. HoldsRows-written g.R.Rack.tells_contents dims _ _ place c.loop-row.row c.places_of_row.result c.args.buf.now _
          (inv.bytes told) c.in_ok-write_row_of.ensures.written told refl each
          (λ i disk early in_row. spread_place-apart s c.args.area c.args.spread.now i c.loop-row.row disk early (omega arith));
    }

pub returns-clause-records : goal.returns-clause-records
returns-clause-records g c told ok p below =
    let s = c.args.shape.now in
    let all : c.loop-row.row ≡ load_stripes s = omega arith in
    let rows = rw (c.dims-dims.ensures, all) at (c.loop-row.invariant.bytes told) in
    sym (record_of_spread s c.args.area c.args.spread.now (g.R.Rack.view c.loop-row.rack).contents c.args.buf.now rows p below)

pub returns-clause-only : goal.returns-clause-only
returns-clause-only g c =
    let s = c.args.shape.now in
    let all : c.loop-row.row ≡ load_stripes s = omega arith in
    let only = rw (c.dims-dims.ensures, all) at c.loop-row.invariant.only in
    ChangesOnly-wider _ _ _ _ (IsSpreadUnit-rows s c.args.area c.args.spread.now) only
