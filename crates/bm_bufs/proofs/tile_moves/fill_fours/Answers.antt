use Rattle.std.proofs.Common.{◌≡◌, ℕ, ◌+◌, ◌-◌, ◌*◌, ◌%◌, ◌^◌, ◌<◌, ◌≤◌, inl, inr, ⊎_elim, w64, bit_xor, slice_index, length, refl, sym, ap}
use Rattle.std.proofs.Common.{◌∙◌, subst, arith}
use Rattle.std.specs.Int.{trailing_ones}
use Rattle.std.specs.Int.Bits.{xor_zero_r}
use Rattle.std.proofs.lemmas.Nat.{xor_lt, one_shl}
use Rattle.std.proofs.Math.Nat.{mul-le-mul_right}
use Rattle.bm_gf2.specs.Matrix.{column}
use Rattle.bm_gf2.specs.Vector.{xor_sum}
use Rattle.bm_gf2.proofs.VectorLemmas.{xor_sum-zero}
use Rattle.bm_bufs.specs.declared.tile_map.TileMap.{TileMap}
use Rattle.bm_bufs.proofs.FourLemmas.{row_fits}
use Rattle.bm_bufs.proofs.RunLemmas.{run_count}
use Rattle.bm_bufs.proofs.StepLemmas.{has_entry, next_affine}
use Rattle.bm_bufs.proofs.TileLemmas.{low_below, low_column}
use Rattle.bm_bufs.proofs.TurnLemmas.{four_turn, four_more}
use Rattle.bm_bufs.proofs.tile_moves.fill_fours.Goals as goal

-- the number that stands before four records
from_below : (m : TileMap) (first j from : ℕ) → first < 2 ^ m.tile → from ≡ bit_xor first (xor_sum (column m.back) m.low j)
    → from < 2 ^ m.tile
from_below m first j from short is = subst (λ x. x < 2 ^ m.tile) (sym is)
    (xor_lt m.tile first (xor_sum (column m.back) m.low j) short
    (low_below m.back m.back_plus m.tile m.low j m.tiles m.low_in (omega (arith, m.tile_in, m.back_size))))

-- one of the first two columns
column_below : (m : TileMap) (i : ℕ) → 2 ≤ m.low → i < 2 → column m.back i < 2 ^ m.tile
column_below m i some small =
    low_column m.back m.back_plus m.tile i m.tiles (omega (arith, m.low_in, m.tile_in, m.back_size)) (omega (arith, m.low_in))

pub loop-j-init : goal.loop-j-init
loop-j-init g c =
    let m = c.args.steps.now.map in
    record {
      one = refl;
      two = refl;
      from = sym (ap (bit_xor c.args.first) (xor_sum-zero (column m.back) m.low) ∙ xor_zero_r c.args.first);
      moved = λ i none. absurd (omega arith);
      others = λ k apart. refl;
      size = refl;
    }

pub overflow_mul-place : goal.overflow_mul-place
overflow_mul-place g c =
    let m = c.args.steps.now.map in
    let turn = (four_turn m.low c.loop-j.j c.requires.low (omega (arith, m.low_in, m.tile_in, m.placing.a.few)) c.loop-j-test.true).1 in
    omega arith

pub overflow_add-place : goal.overflow_add-place
overflow_add-place g c =
    let m = c.args.steps.now.map in
    let turn = (four_turn m.low c.loop-j.j c.requires.low (omega (arith, m.low_in, m.tile_in, m.placing.a.few)) c.loop-j-test.true).0 in
    omega (arith, turn, c.requires.at)

pub copy_four-requires-clause-at : goal.copy_four-requires-clause-at
copy_four-requires-clause-at g c =
    let m = c.args.steps.now.map in
    let turn = (four_turn m.low c.loop-j.j c.requires.low (omega (arith, m.low_in, m.tile_in, m.placing.a.few)) c.loop-j-test.true).0 in
    omega (arith, turn, c.requires.at)

pub copy_four-requires-clause-load : goal.copy_four-requires-clause-load
copy_four-requires-clause-load g c =
    let m = c.args.steps.now.map in
    let turn = (four_turn m.low c.loop-j.j c.requires.low (omega (arith, m.low_in, m.tile_in, m.placing.a.few)) c.loop-j-test.true).0 in
    let fits : (c.args.at + 4 * c.loop-j.j + 4) * g.row.W ≤ (c.args.at + 2 ^ m.low) * g.row.W =
    mul-le-mul_right g.row.W (let e : c.args.at + 4 * c.loop-j.j + 4 ≤ c.args.at + 2 ^ m.low = omega arith in e) in
    let done : (c.args.at + 4 * c.loop-j.j + 4) * g.row.W ≤ length c.loop-j.load = omega
    (arith, fits, c.loop-j.invariant.size, c.requires.load) in
    done

pub copy_four-requires-clause-a : goal.copy_four-requires-clause-a
copy_four-requires-clause-a g c =
    let m = c.args.steps.now.map in
    row_fits c.loop-j.from (2 ^ m.tile) g.row.W (length c.args.row.now)
    (from_below m c.args.first (c.loop-j.j * 2 ^ 2) c.loop-j.from c.requires.first c.loop-j.invariant.from) c.requires.row

pub copy_four-requires-clause-b : goal.copy_four-requires-clause-b
copy_four-requires-clause-b g c =
    let m = c.args.steps.now.map in
    let from = from_below m c.args.first (c.loop-j.j * 2 ^ 2) c.loop-j.from c.requires.first c.loop-j.invariant.from in
    row_fits (bit_xor c.loop-j.from (column m.back 0)) (2 ^ m.tile) g.row.W (length c.args.row.now)
    (xor_lt m.tile c.loop-j.from (column m.back 0) from (column_below m 0 c.requires.low (omega arith))) c.requires.row

pub copy_four-requires-clause-c : goal.copy_four-requires-clause-c
copy_four-requires-clause-c g c =
    let m = c.args.steps.now.map in
    let from = from_below m c.args.first (c.loop-j.j * 2 ^ 2) c.loop-j.from c.requires.first c.loop-j.invariant.from in
    row_fits (bit_xor c.loop-j.from (column m.back 1)) (2 ^ m.tile) g.row.W (length c.args.row.now)
    (xor_lt m.tile c.loop-j.from (column m.back 1) from (column_below m 1 c.requires.low (omega arith))) c.requires.row

pub copy_four-requires-clause-d : goal.copy_four-requires-clause-d
copy_four-requires-clause-d g c =
    let m = c.args.steps.now.map in
    let from = from_below m c.args.first (c.loop-j.j * 2 ^ 2) c.loop-j.from c.requires.first c.loop-j.invariant.from in
    row_fits (bit_xor (bit_xor c.loop-j.from (column m.back 0)) (column m.back 1)) (2 ^ m.tile) g.row.W (length c.args.row.now)
    (xor_lt m.tile (bit_xor c.loop-j.from (column m.back 0)) (column m.back 1)
    (xor_lt m.tile c.loop-j.from (column m.back 0) from (column_below m 0 c.requires.low (omega arith)))
    (column_below m 1 c.requires.low (omega arith))) c.requires.row

pub bounds-steps-trailing_ones : goal.bounds-steps-trailing_ones
bounds-steps-trailing_ones g c =
    let m = c.args.steps.now.map in
    let turn = (four_turn m.low c.loop-j.j c.requires.low (omega (arith, m.low_in, m.tile_in, m.placing.a.few)) c.loop-j-test.true).1 in
    subst (λ x. x < 53) (sym c.trailing_ones.ensures) (has_entry c.loop-j.j turn)

pub loop-j-preserved : goal.loop-j-preserved
loop-j-preserved g c =
    let steps = c.args.steps.now in
    let m = steps.map in
    let w = column m.back in
    let inv = c.loop-j.invariant in
    let j = c.loop-j.j in
    let copied = c.copy_four.ensures in
    let turn = four_turn m.low j c.requires.low (omega (arith, m.low_in, m.tile_in, m.placing.a.few)) c.loop-j-test.true in
    record {
      one = refl;
      two = refl;
      from = ap (λ x. bit_xor c.loop-j.from (slice_index steps.fours x)) c.trailing_ones.ensures
          ∙ ap (λ x. bit_xor x (slice_index steps.fours (trailing_ones w64 j))) inv.from
          ∙ next_affine w m.low 2 j c.args.first steps.fours steps.fours_table turn.1;
      moved = four_more w m.low g.row.W c.args.at c.args.first c.loop-j.from j (c.args.at + 4 * j) c.args.row.now c.loop-j.load
          c.copy_four.new.load c.requires.low refl inv.from copied.first copied.second copied.third copied.fourth copied.others inv.moved;
      others = λ k apart. copied.others k (⊎_elim
          (λ (p : k < c.args.at). inl (omega arith))
          (λ (p : c.args.at + 2 ^ m.low ≤ k). inr (omega (arith, turn.0, p))) apart)
          ∙ inv.others k apart;
      size = copied.size ∙ inv.size;
    }

pub returns : goal.returns
returns g c =
    let m = c.args.steps.now.map in
    let few : m.low ≤ 52 = omega (arith, m.low_in, m.tile_in, m.placing.a.few) in
    let one : 1 * 2 ^ (m.low - 2) % 18446744073709551616 ≡ 2 ^ (m.low - 2) = one_shl (m.low - 2) 64 (omega arith) in
    let all : 2 ^ m.low ≡ 2 ^ (m.low - 2) * 4 = run_count m.low 2 c.requires.low in
    let test = c.loop-j-test.false in
    record {
      moved = λ i below. c.loop-j.invariant.moved i (omega arith);
      others = c.loop-j.invariant.others;
      size = c.loop-j.invariant.size;
    }
