-- What a step of a plan costs: the ranks of its map, the passes that it takes, and the most that one of this lower rank takes.
use Rattle.std.specs.Prelude.{ℕ, List}
use Rattle.bm_base.specs.declared.shape.Shape.{Shape}
use Rattle.bm_rank.specs.Rank.{rank_of_rows}
use Rattle.bm_forms.specs.PassCount.{map_passes}
use Rattle.bm_forms.specs.PassLimit.{map_limit}
use Rattle.bm_forms.specs.Rounds.{rotation_columns}
use Rattle.bm_text.specs.declared.step_cost.StepCost.{StepCost}

-- the ranks of these columns, their passes, and the pass limit
abbrev pub cost_of : Shape → List ℕ → StepCost
cost_of s cols = record {
  lower = rank_of_rows cols s.b s.b;
  high = rank_of_rows cols s.m s.m;
  passes = map_passes s cols;
  at_most = map_limit cols s.b s.m;
}

-- of the rotation by `by`
abbrev pub rotation_cost : Shape → ℕ → StepCost
rotation_cost s by = cost_of s (rotation_columns s.n by s.n)
