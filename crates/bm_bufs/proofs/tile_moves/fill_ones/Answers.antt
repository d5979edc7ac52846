use Rattle.std.proofs.Common.{◌≡◌, ◌≢◌, ℕ, ◌+◌, ◌*◌, ◌%◌, ◌^◌, ◌<◌, ◌≤◌, ⊎_elim, w64, bit_xor, slice_index, length, refl, sym, ap, ◌∙◌}
use Rattle.std.proofs.Common.{subst, arith}
use Rattle.std.specs.Fork.{slice_chunk}
use Rattle.std.specs.Int.{trailing_ones}
use Rattle.std.specs.Int.Bits.{xor_zero_r}
use Rattle.std.proofs.lemmas.Nat.{xor_lt, one_shl}
use Rattle.std.proofs.lemmas.Bool.{cases_eq}
use Rattle.std.proofs.Math.Nat.{mul-le-mul_right}
use Rattle.std.proofs.Math.Pow.{pow_mono}
use Rattle.bm_gf2.specs.Matrix.{column}
use Rattle.bm_gf2.specs.Vector.{xor_sum}
use Rattle.bm_gf2.proofs.VectorLemmas.{xor_sum-zero}
use Rattle.bm_bufs.proofs.StepLemmas.{has_entry, next_record}
use Rattle.bm_bufs.proofs.TileLemmas.{low_below}
use Rattle.bm_bufs.proofs.tile_moves.fill_ones.Goals as goal

pub loop-j-init : goal.loop-j-init
loop-j-init c =
    let m = c.args.steps.now.map in
    record {
      width = c.from-width.ensures;
      from = sym (ap (bit_xor c.args.first) (xor_sum-zero (column m.back) m.low) ∙ xor_zero_r c.args.first);
      moved = λ i none. absurd (omega arith);
      others = λ k apart. refl;
      size = refl;
    }

-- the record is one of the run
here : (j low : ℕ) → low ≤ 52 → j < 1 * 2 ^ low % 18446744073709551616 → (j < 2 ^ low) × (j < 4503599627370496)
here j low few test =
    let one : 1 * 2 ^ low % 18446744073709551616 ≡ 2 ^ low = one_shl low 64 (omega arith) in
    let most : 2 ^ low ≤ 2 ^ 52 = pow_mono {i = low} {j = 52} few in
    (omega arith, omega arith)

pub copy_record-requires-clause-to : goal.copy_record-requires-clause-to
copy_record-requires-clause-to c =
    let m = c.args.steps.now.map in
    let inv = c.loop-j.invariant in
    let j = c.loop-j.j in
    let short = (here j m.low (omega (arith, m.low_in, m.tile_in, m.placing.a.few)) c.loop-j-test.true).0 in
    let fits : (c.args.at + j + 1) * m.placing.width ≤ (c.args.at + 2 ^ m.low) * m.placing.width =
    mul-le-mul_right m.placing.width (let e : c.args.at + j + 1 ≤ c.args.at + 2 ^ m.low = omega arith in e) in
    let done : (c.args.at + j + 1) * m.placing.width ≤ length c.loop-j.load = omega (arith, fits, inv.size, c.requires.load) in
    subst (λ x. (c.args.at + j + 1) * x ≤ length c.loop-j.load) (sym inv.width) done

pub copy_record-requires-clause-from : goal.copy_record-requires-clause-from
copy_record-requires-clause-from c =
    let m = c.args.steps.now.map in
    let inv = c.loop-j.invariant in
    let less : c.loop-j.from < 2 ^ m.tile = subst (λ x. x < 2 ^ m.tile) (sym inv.from)
    (xor_lt m.tile c.args.first (xor_sum (column m.back) m.low c.loop-j.j) c.requires.first
    (low_below m.back m.back_plus m.tile m.low c.loop-j.j m.tiles m.low_in (omega (arith, m.tile_in, m.back_size)))) in
    let fits : (c.loop-j.from + 1) * m.placing.width ≤ 2 ^ m.tile * m.placing.width =
    mul-le-mul_right m.placing.width (let e : c.loop-j.from + 1 ≤ 2 ^ m.tile = omega arith in e) in
    let done : (c.loop-j.from + 1) * m.placing.width ≤ length c.args.row.now = omega (arith, fits, c.requires.row) in
    subst (λ x. (c.loop-j.from + 1) * x ≤ length c.args.row.now) (sym inv.width) done

pub bounds-steps-trailing_ones : goal.bounds-steps-trailing_ones
bounds-steps-trailing_ones c =
    let m = c.args.steps.now.map in
    let short = (here c.loop-j.j m.low (omega (arith, m.low_in, m.tile_in, m.placing.a.few)) c.loop-j-test.true).1 in
    subst (λ x. x < 53) (sym c.trailing_ones.ensures) (has_entry c.loop-j.j short)

pub loop-j-preserved : goal.loop-j-preserved
loop-j-preserved c =
    let steps = c.args.steps.now in
    let m = steps.map in
    let w = column m.back in
    let inv = c.loop-j.invariant in
    let j = c.loop-j.j in
    let width = c.from-width.result in
    let turn = here j m.low (omega (arith, m.low_in, m.tile_in, m.placing.a.few)) c.loop-j-test.true in
    let others = c.copy_record.ensures.others in
    record {
      width = inv.width;
      from = ap (λ x. bit_xor c.loop-j.from (slice_index steps.records x)) c.trailing_ones.ensures
          ∙ ap (λ x. bit_xor x (slice_index steps.records (trailing_ones w64 j))) inv.from
          ∙ next_record w m.low j c.args.first steps.records steps.records_table turn.1;
      moved = λ i below. ⊎_elim
          (λ (p : i ≡ j). subst (λ x. slice_chunk c.copy_record.new.to width (c.args.at + x) ≡ slice_chunk c.args.row.now width
          (bit_xor c.args.first (xor_sum w m.low x))) (sym p)
          (c.copy_record.ensures.copied ∙ ap (slice_chunk c.args.row.now width) inv.from))
          (λ (p : i ≢ j). others (c.args.at + i) (omega arith) ∙ inv.moved i (omega arith))
          (cases_eq i j);
      others = λ k apart. others k (⊎_elim
          (λ (p : k < c.args.at). λ (e : k ≡ c.args.at + j). absurd (omega arith))
          (λ (p : c.args.at + 2 ^ m.low ≤ k). λ (e : k ≡ c.args.at + j). absurd (omega (arith, turn.0, p, e))) apart)
          ∙ inv.others k apart;
      size = c.copy_record.ensures.size ∙ inv.size;
    }
