-- The cost of a rotation.
use Rattle.std.proofs.Common.{ℕ, ◌≡◌, ◌+◌, ◌-◌, ◌%◌, ◌^◌, ◌<◌, List, slice_index, ap, ◌∙◌, arith}
use Rattle.std.specs.Int.{div_ceil}
use Rattle.bm_base.specs.declared.shape.Shape.{Shape}
use Rattle.bm_rank.specs.Rank.{rank_of_rows}
use Rattle.bm_forms.specs.PassCount.{map_passes}
use Rattle.bm_forms.specs.Rounds.{rotation_columns}
use Rattle.bm_forms.proofs.PassCountLemmas.{passes-rotation}
use Rattle.bm_forms.proofs.PassLimitLemmas.{rotation_rank}
use Rattle.bm_text.specs.declared.step_cost.StepCost.{StepCost}
use Rattle.bm_text.specs.StepCost.{cost_of, rotation_cost}

-- columns in place of the rotation's have its cost
pub cost_of_rotation : (s : Shape) (by : ℕ) (cols : List ℕ) → ((j : ℕ) → j < s.n → slice_index cols j ≡ 2 ^ ((j + s.n - by) % s.n))
    → cost_of s cols ≡ rotation_cost s by
cost_of_rotation s by cols same =
    let turned : List ℕ = rotation_columns s.n by s.n in
    let low = rotation_rank cols s.n by s.b (omega (arith, s.keeps.block, s.keeps.memory)) same in
    let high = rotation_rank cols s.n by s.m s.keeps.memory same in
    let cost : ℕ → ℕ → ℕ → StepCost = λ lower above passes. record {
      lower = lower;
      high = above;
      passes = passes;
      at_most = div_ceil lower (s.m - s.b) + 2;
    } in
    ap (λ (x : ℕ). cost x (rank_of_rows cols s.m s.m) (map_passes s cols)) low
    ∙ ap (λ (x : ℕ). cost (rank_of_rows turned s.b s.b) x (map_passes s cols)) high
    ∙ ap (λ (x : ℕ). cost (rank_of_rows turned s.b s.b) (rank_of_rows turned s.m s.m) x) (passes-rotation s by cols same)
