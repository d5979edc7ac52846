use Rattle.std.proofs.Common.{◌^◌, ◌<◌, ◌≤◌, subst, arith}
use Rattle.std.proofs.Math.Pow.{pow_mono}
use Rattle.bm_base.specs.Shape.{load_stripes}
use Rattle.bm_pass.proofs.PlaceLemmas.{row_room}
use Rattle.bm_speed.proofs.placed.place_load.Goals as goal

pub overflow_mul-first : goal.overflow_mul-first
overflow_mul-first g c =
    let s = c.args.shape.now in
    let below : c.loop-r.r < load_stripes s = subst (λ k. c.loop-r.r < k) c.load_stripes-r-end.ensures c.loop-r-test.true in
    let whole : 2 ^ s.m ≤ 2 ^ 52 = pow_mono {i = s.m} {j = 52} (omega (arith, s.keeps.memory, s.keeps.addresses)) in
    rw c.row_records.ensures (omega (arith, row_room s c.loop-r.r below, whole))

pub place_row_at-requires-clause-inside : goal.place_row_at-requires-clause-inside
place_row_at-requires-clause-inside g c =
    let s = c.args.shape.now in
    let below : c.loop-r.r < load_stripes s = subst (λ k. c.loop-r.r < k) c.load_stripes-r-end.ensures c.loop-r-test.true in
    rw c.row_records.ensures (row_room s c.loop-r.r below)
