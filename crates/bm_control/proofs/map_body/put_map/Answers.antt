use Rattle.std.proofs.Common.{◌++◌, List, ℕ, ap, ◌∙◌, arith, append_assoc}
use Rattle.bm_control.specs.Bodies.{u64_bytes, column_bytes, map_bytes}
use Rattle.bm_control.proofs.map_body.put_map.Goals as goal

pub returns-clause-bytes : goal.returns-clause-bytes
unfolding map_bytes
returns-clause-bytes c =
    c.put_columns.ensures.bytes
    ∙ ap (λ (x : List ℕ). x ++ column_bytes c.args.map.now.a.cols c.args.map.now.a.n) c.put_u64.ensures.bytes
    ∙ append_assoc c.args.page.now (u64_bytes c.args.map.now.c) (column_bytes c.args.map.now.a.cols c.args.map.now.a.n)

pub returns-clause-length : goal.returns-clause-length
returns-clause-length c =
    let few = c.args.map.now.a.few in
    let a = c.put_columns.ensures.length in
    let b = c.put_u64.ensures.length in
    omega (arith, few, a, b)
