use Rattle.std.proofs.Common.{ℕ, ◌≡◌, ◌+◌, ◌-◌, ◌^◌, ◌<◌, ◌∙◌, ap, slice_index, bit_xor, length, refl, sym, subst, arith}
use Rattle.std.proofs.Math.ListN.{length-set}
use Rattle.std.proofs.lemmas.List.{get_or_past}
use Rattle.bm_gf2.specs.Vector.{xor_sum}
use Rattle.bm_gf2.proofs.VectorLemmas.{xor_sum_start}
use Rattle.bm_gf2.proofs.StepperLemmas.{prefix_more, prefix_same, table_more}
use Rattle.bm_gf2.proofs.stepper.prefix_sums.Goals as goal

pub loop-t-init : goal.loop-t-init
loop-t-init c = (refl, sym (xor_sum_start (slice_index c.args.cols.now) 0), λ k l. absurd (omega arith))

pub loop-t-preserved : goal.loop-t-preserved
loop-t-preserved c =
    let sum = ap (λ (s : ℕ). bit_xor s (slice_index c.args.cols.now c.loop-t.t)) c.loop-t.invariant.1
    ∙ sym (prefix_more (slice_index c.args.cols.now) c.loop-t.t) in
    let inside : c.loop-t.t < length c.loop-t.sums = omega (arith, c.loop-t.invariant.0) in (
      simp length-set (c.loop-t.invariant.0),
      sum,
      table_more (slice_index c.args.cols.now) c.loop-t.sums c.loop-t.t _ inside sum c.loop-t.invariant.2,
    )

pub returns-clause-table : goal.returns-clause-table
returns-clause-table c =
    let all : c.loop-t.t ≡ 52 = omega arith in
    let inside : 52 < length c.loop-t.sums = omega (arith, c.loop-t.invariant.0) in
    let none : slice_index c.args.cols.now 52 ≡ 0 = get_or_past c.args.cols.now 52 0 (omega arith) in
    table_more (slice_index c.args.cols.now) c.loop-t.sums 52 c.loop-t.sum inside
    (prefix_same (slice_index c.args.cols.now) 52 c.loop-t.sum none
    (subst (λ (t : ℕ). c.loop-t.sum ≡ xor_sum (slice_index c.args.cols.now) t (2 ^ t - 1)) all c.loop-t.invariant.1))
    (subst (λ (t : ℕ). (k : ℕ) → k < t
    → slice_index c.loop-t.sums k ≡ xor_sum (slice_index c.args.cols.now) (k + 1) (2 ^ (k + 1) - 1)) all c.loop-t.invariant.2)
