-- The text of a plan.
use Rattle.std.specs.Prelude.{codes, ℕ, zero, suc, ◌+◌, ◌-◌, ◌*◌, List, [], ◌++◌, decimal}
use Rattle.bm_base.specs.declared.shape.Shape.{Shape}
use Rattle.bm_base.specs.Shape.{stripes}
use Rattle.bm_forms.specs.declared.job.Job.{Job}
use Rattle.bm_forms.specs.declared.job.Job.TheVariants.{Permute, Walsh}
use Rattle.bm_forms.specs.PassCount.{passes_of}
use Rattle.bm_forms.specs.PassLimit.{limit_of}
use Rattle.bm_forms.specs.Rounds.{rounds_of, last_bits}
use Rattle.bm_text.specs.declared.step_cost.StepCost.{StepCost}
use Rattle.bm_text.specs.StepCost.{cost_of, rotation_cost}
use Rattle.bm_text.specs.StatusText.{kind_line}

-- the line of the shape
abbrev pub shape_line : Shape → List ℕ
shape_line s =
    codes "shape n=" ++ decimal s.n ++ codes " b=" ++ decimal s.b ++ codes " d=" ++ decimal s.d
    ++ codes " m=" ++ decimal s.m ++ codes " width=" ++ decimal s.width ++ codes "\n"

-- the line of a step: its number, how many bits have butterflies, and what its permutation costs
abbrev pub step_line : ℕ → ℕ → StepCost → List ℕ
step_line number bits cost =
    codes "step " ++ decimal number ++ codes " butterflies " ++ decimal bits
    ++ codes " lower " ++ decimal cost.lower ++ codes " high " ++ decimal cost.high
    ++ codes " passes " ++ decimal cost.passes ++ codes " at-most " ++ decimal cost.at_most ++ codes "\n"

-- the lines of the first k rounds of the transform, where each does m bits
unfoldable pub round_lines : Shape → ℕ → List ℕ
round_lines s zero = []
round_lines s (suc k) = round_lines s k ++ step_line (k + 1) s.m (rotation_cost s s.m)

-- one step for a permutation, one a round for the transform, whose last round does the bits that are left
abbrev pub step_lines : Shape → Job → List ℕ
step_lines s (Permute f) = step_line 1 0 (cost_of s f.a.cols)
step_lines s Walsh =
    round_lines s (rounds_of s - 1) ++ step_line (rounds_of s) (last_bits s) (rotation_cost s (last_bits s))

-- the parallel transfers of this many passes, 2N/BD each
abbrev pub moves_of : Shape → ℕ → ℕ
moves_of s passes = passes * (2 * stripes s)

-- the passes of the plan, their parallel transfers, and those of the pass limit, a line each
abbrev pub total_lines : Shape → Job → List ℕ
total_lines s job =
    codes "passes " ++ decimal (passes_of s job) ++ codes "\nmoves " ++ decimal (moves_of s (passes_of s job))
    ++ codes "\nbound " ++ decimal (moves_of s (limit_of s job)) ++ codes "\n"

-- the shape, the job's kind, the steps and what they take together
abbrev pub plan_text : Shape → Job → List ℕ
plan_text s job = shape_line s ++ kind_line job ++ step_lines s job ++ total_lines s job
