use Rattle.std.proofs.Common.{◌≡◌, ◌∙◌, sym, subst, ℕ, ◌+◌, ◌-◌, ◌%◌, ◌^◌, ◌<◌, ◌≤◌, slice_index}
use Rattle.bm_text.proofs.StepCostLemmas.{cost_of_rotation}
use Rattle.bm_text.proofs.step_cost.rotation_cost.Goals as goal

pub returns : goal.returns
returns c =
    let s = c.args.shape.now in
    let turned = c.rotation.result in
    let few = subst (λ (n : ℕ). c.args.by ≤ n) (sym c.n.ensures) c.requires in
    let columns : (j : ℕ) → j < s.n → slice_index turned.cols j ≡ 2 ^ ((j + s.n - c.args.by) % s.n) =
    subst (λ (n : ℕ). (j : ℕ) → j < n → slice_index turned.cols j ≡ 2 ^ ((j + n - c.args.by) % n)) c.n.ensures
    (c.rotation.ensures.columns few) in
    c.cost_of.ensures ∙ cost_of_rotation s c.args.by turned.cols columns
