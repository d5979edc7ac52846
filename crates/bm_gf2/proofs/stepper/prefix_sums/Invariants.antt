use Rattle.std.proofs.Common.{ℕ, ◌≡◌, ◌+◌, ◌-◌, ◌^◌, ◌<◌, length, slice_index}
use Rattle.bm_gf2.specs.Vector.{xor_sum}
use Rattle.bm_gf2.proofs.stepper.prefix_sums.Given as goal

abbrev pub invariant-loop-t : goal.invariant-loop-t
invariant-loop-t l =
    (length l.sums ≡ 53)
    × (l.sum ≡ xor_sum (slice_index l.cols) l.t (2 ^ l.t - 1))
    × ((k : ℕ) → k < l.t → slice_index l.sums k ≡ xor_sum (slice_index l.cols) (k + 1) (2 ^ (k + 1) - 1))
