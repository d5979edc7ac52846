use Rattle.std.proofs.Common.{◌+◌, ◌++◌, List, ℕ, length, ap, ◌∙◌, arith, length-append}
use Rattle.bm_control.specs.Bodies.{u64_bytes, padded}
use Rattle.bm_control.proofs.PageFrontLemmas.{length-padded, padded_full}
use Rattle.bm_control.proofs.BodyLemmas.{length-u64_bytes}
use Rattle.bm_control.proofs.map_body.end_body.Goals as goal

pub put_u64-requires : goal.put_u64-requires
put_u64-requires c =
    let front = ap length c.skip_to.ensures.bytes ∙ length-padded 504 c.args.page c.requires in
    omega (arith, front)

pub returns : goal.returns
returns c =
    let whole = c.put_u64.ensures.bytes ∙ ap (λ (x : List ℕ). x ++ u64_bytes c.args.last) c.skip_to.ensures.bytes in
    c.finish.ensures ∙ ap (padded 512) whole ∙ padded_full 512 (padded 504 c.args.page ++ u64_bytes c.args.last)
    (length-append (padded 504 c.args.page) (u64_bytes c.args.last)
    ∙ ap (λ (n : ℕ). n + length (u64_bytes c.args.last)) (length-padded 504 c.args.page c.requires)
    ∙ ap (λ (n : ℕ). 504 + n) (length-u64_bytes c.args.last))
