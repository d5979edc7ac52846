use Rattle.std.proofs.Common.{◌++◌, ◌+◌, List, ℕ, codes, ap, ◌∙◌}
use Rattle.bm_gf2.specs.declared.affine.Affine.{Affine}
use Rattle.bm_control.specs.Bodies.{pass_page, map_page, padded, u64_bytes, body_head, map_bytes}
use Rattle.bm_control.proofs.pass_body.encode_pass.Goals as goal

pub returns : goal.returns
unfolding pass_page map_page
returns c =
    c.end_body.ensures
    ∙ ap (λ (x : List ℕ). padded 504 x ++ u64_bytes 0) (c.put_map.ensures.bytes
    ∙ ap (λ (x : List ℕ). x ++ map_bytes c.affine.result.now) c.start_body-page.ensures.bytes)
    ∙ ap (λ (n : ℕ). padded 504 (body_head (codes "BMMCPASS") 1 c.args.pass.now.low n (c.args.k + 1) ++ map_bytes
    c.affine.result.now) ++ u64_bytes 0) c.n.ensures
    ∙ ap (λ (f : Affine). padded 504 (body_head (codes "BMMCPASS") 1 c.args.pass.now.low c.args.shape.now.n
    (c.args.k + 1) ++ map_bytes f) ++ u64_bytes 0) c.affine.ensures
