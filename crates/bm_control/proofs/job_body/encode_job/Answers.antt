use Rattle.std.proofs.Common.{◌++◌, ℕ, List, codes, ap, ◌∙◌}
use Rattle.bm_control.specs.Bodies.{job_page, map_page, padded, u64_bytes, body_head, kind_of, job_map, job_version}
use Rattle.bm_control.proofs.job_body.encode_job.Goals as goal

pub returns : goal.returns
unfolding job_page map_page
returns c =
    c.end_body.ensures
    ∙ ap (λ (x : List ℕ). padded 504 x ++ u64_bytes c.named_for.result) c.start_job_body-page.ensures.bytes
    ∙ ap (λ (v : ℕ). padded 504 (body_head (codes "BMMCTASK") v (kind_of c.args.job.now) c.args.shape.now.n
    c.args.passes ++ job_map c.args.job.now) ++ u64_bytes c.named_for.result) c.version_for.ensures
    ∙ ap (λ (v : ℕ). padded 504 (body_head (codes "BMMCTASK") (job_version c.args.shape.now c.args.every) (kind_of c.args.job.now)
    c.args.shape.now.n c.args.passes ++ job_map c.args.job.now) ++ u64_bytes v) c.named_for.ensures
