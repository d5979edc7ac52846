use Rattle.std.proofs.Common.{◌≡◌, ◌≢◌, ◌⊎◌, ℕ, ◌+◌, ◌-◌, ◌*◌, ◌/◌, ◌%◌, ◌^◌, ◌<◌, ◌≤◌, inl, inr, ⊎_elim, w64, bit_and, bit_xor}
use Rattle.std.proofs.Common.{slice_index, refl, sym, ap, ◌∙◌, subst, arith}
use Rattle.std.specs.Int.{trailing_ones}
use Rattle.std.proofs.lemmas.Nat.{one_shl, and_mask}
use Rattle.std.proofs.lemmas.Bool.{cases_eq}
use Rattle.std.proofs.Math.Pow.{pow_mono}
use Rattle.std.proofs.Math.Nat.{mul-le-mul_right}
use Rattle.bm_gf2.specs.Matrix.{image, column}
use Rattle.bm_bufs.specs.declared.tile_map.TileMap.{TileMap}
use Rattle.bm_bufs.specs.Tiles.{origin}
use Rattle.bm_bufs.specs.TileMoves.{FillsRun}
use Rattle.bm_bufs.proofs.StepLemmas.{has_entry, next_sum, next_affine}
use Rattle.bm_bufs.proofs.TileLemmas.{tile_start, in_tile, out_of_tile, filled_run, filled_other}
use Rattle.bm_bufs.proofs.TurnLemmas.{tile_turn, run_room}
use Rattle.bm_bufs.proofs.tile_moves.fill_tile.Goals as goal

-- a number's place in its tile, as the code reckons it
masked : (m : TileMap) (from r : ℕ) → from ≡ origin m.back m.back_plus (r * 2 ^ m.low)
    → bit_and from (1 * 2 ^ m.tile % 18446744073709551616 - 1) ≡ origin m.back m.back_plus (r * 2 ^ m.low) % 2 ^ m.tile
masked m from r is =
    ap (λ x. bit_and from (x - 1)) (one_shl m.tile 64 (omega (arith, m.tile_in, m.placing.a.few)))
    ∙ and_mask from m.tile ∙ ap (λ x. x % 2 ^ m.tile) is

pub apply-at-requires : goal.apply-at-requires
apply-at-requires c =
    let m = c.args.steps.now.map in
    let start = tile_start m c.args.o c.requires.o in
    subst (λ x. x < 2 ^ m.basis.n) (sym start.1) start.2

pub apply-requires : goal.apply-requires
apply-requires c =
    let m = c.args.steps.now.map in
    let start = tile_start m c.args.o c.requires.o in
    subst (λ n. c.args.o * 2 ^ (m.tile - m.low) % 18446744073709551616 * 2 ^ m.low % 18446744073709551616 < 2 ^ n)
    (m.basis_size ∙ sym m.back_size) (subst (λ x. x < 2 ^ m.basis.n) (sym start.1) start.2)

pub loop-q-init : goal.loop-q-init
loop-q-init c =
    let m = c.args.steps.now.map in
    let start = tile_start m c.args.o c.requires.o in
    record {
      low = refl;
      start = start.0;
      at = c.apply-at.ensures.value ∙ ap (image m.basis) start.1;
      from = ap (bit_xor m.back_plus) (c.apply.ensures.value ∙ ap (image m.back) start.1);
      size = refl;
      moved = λ z short reached below. absurd (omega arith);
      others = λ z short away. refl;
    }

pub fill_run-requires-clause-load : goal.fill_run-requires-clause-load
fill_run-requires-clause-load c =
    let m = c.args.steps.now.map in
    let inv = c.loop-q.invariant in
    let turn = tile_turn m c.args.o c.loop-q.q c.requires.o c.loop-q-test.true in
    let room = subst (λ x. x + 2 ^ m.low ≤ 2 ^ m.basis.n) (sym inv.at) (run_room m (c.args.o * 2 ^ (m.tile - m.low) + c.loop-q.q) turn.1) in
    let fits : (c.loop-q.at + 2 ^ m.low) * m.placing.width ≤ 2 ^ m.basis.n * m.placing.width = mul-le-mul_right m.placing.width room in
    omega (arith, fits, inv.size, c.requires.load)

pub fill_run-requires-clause-at : goal.fill_run-requires-clause-at
fill_run-requires-clause-at c =
    let m = c.args.steps.now.map in
    let turn = tile_turn m c.args.o c.loop-q.q c.requires.o c.loop-q-test.true in
    let room = subst (λ x. x + 2 ^ m.low ≤ 2 ^ m.basis.n) (sym c.loop-q.invariant.at)
    (run_room m (c.args.o * 2 ^ (m.tile - m.low) + c.loop-q.q) turn.1) in
    let most : 2 ^ m.basis.n ≤ 2 ^ 52 = pow_mono {i = m.basis.n} {j = 52} m.basis.few in
    omega (arith, room, most)

pub overflow_add-start : goal.overflow_add-start
overflow_add-start c =
    let m = c.args.steps.now.map in
    let turn = (tile_turn m c.args.o c.loop-q.q c.requires.o c.loop-q-test.true).2 in
    let start = c.loop-q.invariant.start in
    omega (arith, turn, start)

pub bounds-steps-ones : goal.bounds-steps-ones
bounds-steps-ones c =
    let m = c.args.steps.now.map in
    let q = c.loop-q.q in
    let r = c.args.o * 2 ^ (m.tile - m.low) + q in
    let ones : c.trailing_ones-ones.result ≡ trailing_ones w64 r =
    c.trailing_ones-ones.ensures ∙ ap (λ x. trailing_ones w64 (x + q)) c.loop-q.invariant.start in
    subst (λ x. x < 53) (sym ones) (has_entry r (tile_turn m c.args.o q c.requires.o c.loop-q-test.true).2)

pub bounds-steps-ones-in-loop-q : goal.bounds-steps-ones-in-loop-q
bounds-steps-ones-in-loop-q c =
    let m = c.args.steps.now.map in
    let q = c.loop-q.q in
    let r = c.args.o * 2 ^ (m.tile - m.low) + q in
    let ones : c.trailing_ones-ones.result ≡ trailing_ones w64 r =
    c.trailing_ones-ones.ensures ∙ ap (λ x. trailing_ones w64 (x + q)) c.loop-q.invariant.start in
    subst (λ x. x < 53) (sym ones) (has_entry r (tile_turn m c.args.o q c.requires.o c.loop-q-test.true).2)

pub loop-q-preserved : goal.loop-q-preserved
loop-q-preserved c =
    let steps = c.args.steps.now in
    let m = steps.map in
    let inv = c.loop-q.invariant in
    let q = c.loop-q.q in
    let width = m.placing.width in
    let start = c.args.o * 2 ^ (m.tile - m.low) in
    let r = start + q in
    let at = image m.basis (r * 2 ^ m.low) in
    let first = origin m.back m.back_plus (r * 2 ^ m.low) % 2 ^ m.tile in
    let row = c.args.row.now in
    let old = c.loop-q.load in
    let new = c.fill_run.new.load in
    let turn = tile_turn m c.args.o q c.requires.o c.loop-q-test.true in
    let ones : c.trailing_ones-ones.result ≡ trailing_ones w64 r = c.trailing_ones-ones.ensures
    ∙ ap (λ x. trailing_ones w64 (x + q)) inv.start in
    let next : r + 1 ≡ start + (q + 1) = omega arith in
    let fills : FillsRun m width at first row old new =
    subst (λ x. FillsRun m width at x row old new) (masked m c.loop-q.from r inv.from)
    (subst (λ x. FillsRun m width x (bit_and c.loop-q.from (1 * 2 ^ m.tile % 18446744073709551616 - 1)) row old new) inv.at
    c.fill_run.ensures) in
    record {
      low = refl;
      start = inv.start;
      at = ap (λ x. bit_xor c.loop-q.at (slice_index steps.places x)) ones
          ∙ ap (λ x. bit_xor x (slice_index steps.places (trailing_ones w64 r))) inv.at
          ∙ next_sum (column m.basis) m.basis.n m.low r steps.places steps.places_table turn.2
          ∙ ap (λ x. image m.basis (x * 2 ^ m.low)) next;
      from = ap (λ x. bit_xor c.loop-q.from (slice_index steps.origins x)) ones
          ∙ ap (λ x. bit_xor x (slice_index steps.origins (trailing_ones w64 r))) inv.from
          ∙ next_affine (column m.back) m.back.n m.low r m.back_plus steps.origins steps.origins_table turn.2
          ∙ ap (λ x. origin m.back m.back_plus (x * 2 ^ m.low)) next;
      size = c.fill_run.ensures.size ∙ inv.size;
      moved = λ z short reached below. ⊎_elim
          (λ (p : z / 2 ^ m.low ≡ r). filled_run m width r row old new turn.1 fills z p)
          (λ (p : z / 2 ^ m.low ≢ r). filled_other m width r first row old new turn.1 fills z short p
          ∙ inv.moved z short reached (omega arith))
          (cases_eq (z / 2 ^ m.low) r);
      others = λ z short away.
          filled_other m width r first row old new turn.1 fills z short
          (⊎_elim (λ (p : z / 2 ^ m.low < start). λ (e : z / 2 ^ m.low ≡ r). absurd (omega arith))
          (λ (p : start + (q + 1) ≤ z / 2 ^ m.low). λ (e : z / 2 ^ m.low ≡ r). absurd (omega arith)) away)
          ∙ inv.others z short (⊎_elim (λ (p : z / 2 ^ m.low < start). inl p) (λ (p : start + (q + 1) ≤ z / 2 ^ m.low). inr (omega arith))
          away);
    }

pub returns : goal.returns
returns c =
    let m = c.args.steps.now.map in
    let inv = c.loop-q.invariant in
    let start = c.args.o * 2 ^ (m.tile - m.low) in
    let one : 1 * 2 ^ (m.tile - m.low) % 18446744073709551616 ≡ 2 ^ (m.tile - m.low) =
    one_shl (m.tile - m.low) 64 (omega (arith, m.tile_in, m.placing.a.few)) in
    let test = c.loop-q-test.false in
    let end = c.loop-q.auto.q-end in
    let all : c.loop-q.q ≡ 2 ^ (m.tile - m.low) = omega arith in
    record {
      moved = λ z short is. let inside = in_tile z m.tile m.low c.args.o m.low_in is in
          inv.moved z short inside.0 (subst (λ x. z / 2 ^ m.low < start + x) (sym all) inside.1);
      others = λ z short other. inv.others z short
          (subst (λ x. (z / 2 ^ m.low < start) ⊎ (start + x ≤ z / 2 ^ m.low)) (sym all)
          (out_of_tile z m.tile m.low c.args.o m.low_in other));
      size = inv.size;
    }
