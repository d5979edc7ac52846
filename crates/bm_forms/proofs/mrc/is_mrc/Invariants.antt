use Rattle.std.proofs.Common.{◌≡◌, ℕ, ◌<◌, ◌/◌, ◌^◌, slice_index}
use Rattle.bm_forms.proofs.mrc.is_mrc.Given as goal

abbrev pub invariant-loop-j : goal.invariant-loop-j
invariant-loop-j l = (k : ℕ) → k < l.j → slice_index l.a.cols k / 2 ^ l.shape.m ≡ 0
