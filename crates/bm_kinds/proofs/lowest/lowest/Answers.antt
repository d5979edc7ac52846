use Rattle.std.proofs.Common.{ℕ, ◌+◌, ◌<◌, length, length-set, bit_xor, slice_index, slice_set, get_or-set_same, get_or-set_other, w64}
use Rattle.std.proofs.Common.{sym, ◌∙◌, subst, arith}
use Rattle.std.proofs.Math.ListN.{length-replicate}
use Rattle.std.specs.Int.{trailing_zeros}
use Rattle.std.proofs.lemmas.Nat.{one_shl}
use Rattle.bm_kinds.specs.Lowest.{TakesBits}
use Rattle.bm_kinds.proofs.SetLemmas.{TakesBits-none, TakesBits-more, some_bit}
use Rattle.bm_kinds.proofs.lowest.lowest.Goals as goal

pub loop-j-init : goal.loop-j-init
loop-j-init g c = record { long = length-replicate _ _; takes = TakesBits-none c.args.set _ }

pub overflow_shl-rest : goal.overflow_shl-rest
overflow_shl-rest g c =
    let test = c.loop-j-test.true in
    let takes = c.loop-j.invariant.takes in
    (some_bit c.loop-j.rest (omega (arith, takes.ones, c.requires)) (omega (arith, c.loop-j.auto.rest-fits))).0

pub loop-j-preserved : goal.loop-j-preserved
loop-j-preserved g c =
    let inv = c.loop-j.invariant in
    let test = c.loop-j-test.true in
    let j = c.loop-j.j in
    let rest = c.loop-j.rest in
    let lowest = some_bit rest (omega (arith, inv.takes.ones, c.requires)) (omega (arith, c.loop-j.auto.rest-fits)) in
    let i = trailing_zeros w64 rest in
    let inside : j < length c.loop-j.bits = omega (arith, inv.long) in
    record {
      long = length-set c.loop-j.bits _ _ ∙ inv.long;
      takes = subst (λ (k : ℕ). TakesBits c.args.set (j + 1) (slice_index (slice_set c.loop-j.bits j i)) (bit_xor rest k))
          (sym (one_shl i 64 lowest.0))
          (TakesBits-more c.args.set j rest i (slice_index c.loop-j.bits) (slice_index (slice_set c.loop-j.bits j i)) inv.takes lowest.1
          (λ k l. get_or-set_other c.loop-j.bits j k i 0 (λ e. absurd (omega arith))) (get_or-set_same c.loop-j.bits j i 0 inside));
    }
