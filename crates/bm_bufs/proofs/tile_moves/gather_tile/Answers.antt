use Rattle.std.proofs.Common.{◌≡◌, ◌≢◌, ℕ, ◌+◌, ◌-◌, ◌*◌, ◌/◌, ◌%◌, ◌^◌, ◌<◌, ◌≤◌, ⊎_elim, w64, bit_xor, slice_index, length, refl, sym, ap}
use Rattle.std.proofs.Common.{◌∙◌, subst, arith}
use Rattle.std.specs.Fork.{slice_chunk}
use Rattle.std.specs.Int.{trailing_ones}
use Rattle.std.proofs.lemmas.Nat.{one_shl}
use Rattle.std.proofs.lemmas.Bool.{cases_eq}
use Rattle.std.proofs.Math.Pow.{pow_mono}
use Rattle.std.proofs.Math.Nat.{mul-le-mul_right}
use Rattle.bm_gf2.specs.Matrix.{image, column}
use Rattle.bm_bufs.specs.declared.tile_map.TileMap.{TileMap}
use Rattle.bm_bufs.proofs.StepLemmas.{has_entry, next_sum}
use Rattle.bm_bufs.proofs.TileLemmas.{tile_start, runs_of_tile, gathered}
use Rattle.bm_bufs.proofs.TurnLemmas.{tile_turn, run_of_load}
use Rattle.bm_bufs.proofs.tile_moves.gather_tile.Goals as goal

-- the size of a run, as the code reckons it
run_size : (m : TileMap) → 1 * 2 ^ m.low % 18446744073709551616 ≡ 2 ^ m.low
run_size m = one_shl m.low 64 (omega (arith, m.low_in, m.tile_in, m.placing.a.few))

pub overflow_mul-run : goal.overflow_mul-run
overflow_mul-run c =
    let m = c.args.steps.now.map in
    let size : 1 * 2 ^ m.low % 18446744073709551616 * c.from.result ≡ 2 ^ m.low * m.placing.width =
    ap (λ x. x * c.from.result) (run_size m) ∙ ap (λ x. 2 ^ m.low * x) c.from.ensures in
    let less : 2 ^ m.low * m.placing.width ≤ 2 ^ m.tile * m.placing.width = mul-le-mul_right m.placing.width
    (pow_mono {i = m.low} {j = m.tile} m.low_in) in
    omega (arith, size, less, c.requires.row)

pub apply-from-requires : goal.apply-from-requires
apply-from-requires c =
    let m = c.args.steps.now.map in
    let start = tile_start m c.args.o c.requires.o in
    subst (λ x. x < 2 ^ m.basis.n) (sym start.1) start.2

pub loop-q-init : goal.loop-q-init
loop-q-init c =
    let m = c.args.steps.now.map in
    let start = tile_start m c.args.o c.requires.o in
    record {
      low = refl;
      run = ap (λ x. x * c.from.result) (run_size m) ∙ ap (λ x. 2 ^ m.low * x) c.from.ensures;
      start = start.0;
      from = c.apply-from.ensures.value ∙ ap (image m.basis) start.1;
      size = refl;
      moved = λ k none. absurd (omega arith);
    }

pub copy_record-requires-clause-to : goal.copy_record-requires-clause-to
copy_record-requires-clause-to c =
    let m = c.args.steps.now.map in
    let inv = c.loop-q.invariant in
    let q = c.loop-q.q in
    let turn = tile_turn m c.args.o q c.requires.o c.loop-q-test.true in
    let fits = runs_of_tile q m.tile m.low m.placing.width m.low_in turn.0 in
    let done : (q + 1) * (2 ^ m.low * m.placing.width) ≤ length c.loop-q.row = omega (arith, fits, c.requires.row, inv.size) in
    subst (λ x. (q + 1) * x ≤ length c.loop-q.row) (sym inv.run) done

pub copy_record-requires-clause-from : goal.copy_record-requires-clause-from
copy_record-requires-clause-from c =
    let m = c.args.steps.now.map in
    let inv = c.loop-q.invariant in
    let turn = tile_turn m c.args.o c.loop-q.q c.requires.o c.loop-q-test.true in
    let r = c.args.o * 2 ^ (m.tile - m.low) + c.loop-q.q in
    let fits = run_of_load m r m.placing.width turn.1 in
    let done : (image m.basis (r * 2 ^ m.low) / 2 ^ m.low + 1) * (2 ^ m.low * m.placing.width) ≤ length c.args.load.now = omega
    (arith, fits, c.requires.load) in
    subst (λ x. (c.loop-q.from / 2 ^ m.low + 1) * x ≤ length c.args.load.now) (sym inv.run)
    (subst (λ x. (x / 2 ^ m.low + 1) * (2 ^ m.low * m.placing.width) ≤ length c.args.load.now) (sym inv.from) done)

pub overflow_add-start : goal.overflow_add-start
overflow_add-start c =
    let m = c.args.steps.now.map in
    let turn = (tile_turn m c.args.o c.loop-q.q c.requires.o c.loop-q-test.true).2 in
    let start = c.loop-q.invariant.start in
    omega (arith, turn, start)

pub bounds-steps-trailing_ones : goal.bounds-steps-trailing_ones
bounds-steps-trailing_ones c =
    let m = c.args.steps.now.map in
    let q = c.loop-q.q in
    let r = c.args.o * 2 ^ (m.tile - m.low) + q in
    let ones : c.trailing_ones.result ≡ trailing_ones w64 r = c.trailing_ones.ensures
    ∙ ap (λ x. trailing_ones w64 (x + q)) c.loop-q.invariant.start in
    subst (λ x. x < 53) (sym ones) (has_entry r (tile_turn m c.args.o q c.requires.o c.loop-q-test.true).2)

pub loop-q-preserved : goal.loop-q-preserved
loop-q-preserved c =
    let steps = c.args.steps.now in
    let m = steps.map in
    let inv = c.loop-q.invariant in
    let q = c.loop-q.q in
    let start = c.args.o * 2 ^ (m.tile - m.low) in
    let r = start + q in
    let size = 2 ^ m.low * m.placing.width in
    let turn = tile_turn m c.args.o q c.requires.o c.loop-q-test.true in
    let ones : c.trailing_ones.result ≡ trailing_ones w64 r = c.trailing_ones.ensures ∙ ap (λ x. trailing_ones w64 (x + q)) inv.start in
    let new = c.copy_record.new.to in
    let from_run = c.loop-q.from / 2 ^ m.low in
    let copied : slice_chunk new size q ≡ slice_chunk c.args.load.now size from_run =
    subst (λ x. slice_chunk new x q ≡ slice_chunk c.args.load.now x from_run) inv.run c.copy_record.ensures.copied in
    let others : (k : ℕ) → k ≢ q → slice_chunk new size k ≡ slice_chunk c.loop-q.row size k =
    subst (λ x. (k : ℕ) → k ≢ q → slice_chunk new x k ≡ slice_chunk c.loop-q.row x k) inv.run c.copy_record.ensures.others in
    record {
      low = refl;
      run = inv.run;
      start = inv.start;
      from = ap (λ x. bit_xor c.loop-q.from (slice_index steps.places x)) ones
          ∙ ap (λ x. bit_xor x (slice_index steps.places (trailing_ones w64 r))) inv.from
          ∙ next_sum (column m.basis) m.basis.n m.low r steps.places steps.places_table turn.2
          ∙ ap (λ x. image m.basis (x * 2 ^ m.low)) (let e : r + 1 ≡ start + (q + 1) = omega arith in e);
      size = c.copy_record.ensures.size ∙ inv.size;
      moved = λ k below. ⊎_elim
          (λ (p : k ≡ q). subst (λ x. slice_chunk new size x ≡ slice_chunk c.args.load.now size
          (image m.basis ((start + x) * 2 ^ m.low) / 2 ^ m.low))
          (sym p) (copied ∙ ap (λ x. slice_chunk c.args.load.now size (x / 2 ^ m.low)) inv.from))
          (λ (p : k ≢ q). others k p ∙ inv.moved k (omega arith))
          (cases_eq k q);
    }

pub returns : goal.returns
returns c =
    let m = c.args.steps.now.map in
    let one : 1 * 2 ^ (m.tile - m.low) % 18446744073709551616 ≡ 2 ^ (m.tile - m.low) =
    one_shl (m.tile - m.low) 64 (omega (arith, m.tile_in, m.placing.a.few)) in
    let test = c.loop-q-test.false in
    record {
      moved = gathered m m.placing.width c.args.o c.args.load.now c.loop-q.row c.requires.o
          (λ k below. c.loop-q.invariant.moved k (omega arith));
      size = c.loop-q.invariant.size;
    }
