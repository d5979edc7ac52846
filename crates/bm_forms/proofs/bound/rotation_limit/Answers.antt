use Rattle.std.proofs.Common.{arith, ◌∙◌, ap, sym, subst, slice_index, ◌^◌, ◌≡◌, ℕ, ◌+◌, ◌-◌, ◌<◌, ◌≤◌, ◌%◌}
use Rattle.std.specs.Int.{div_ceil}
use Rattle.bm_forms.proofs.PassLimitLemmas.{rotation_rank}
use Rattle.bm_forms.proofs.bound.rotation_limit.Goals as goal

pub returns-clause-limit : goal.returns-clause-limit
returns-clause-limit c =
    let k = c.args.shape.now.keeps in
    let l : c.args.shape.now.b < c.args.shape.now.m = k.block in
    let mn : c.args.shape.now.m ≤ c.args.shape.now.n = k.memory in
    c.map_limit.ensures.limit
    ∙ ap (λ (r : ℕ). div_ceil r (c.args.shape.now.m - c.args.shape.now.b) + 2)
    (rotation_rank c.rotation.result.cols c.args.shape.now.n c.args.by c.args.shape.now.b (omega arith)
    (λ j h. subst (λ (n : ℕ). slice_index c.rotation.result.cols j ≡ 2 ^ ((j + n - c.args.by) % n)) c.n.ensures
    (c.rotation.ensures.columns (subst (λ (n : ℕ). c.args.by ≤ n) (sym c.n.ensures) (omega arith)) j
    (subst (λ (n : ℕ). j < n) (sym c.n.ensures) h))))
