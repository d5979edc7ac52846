use Rattle.bm_program.proofs.one_job.call_over.Goals as goal

pub returns-in_ok-rack-in-Command-clause-lines : goal.returns-in_ok-rack-in-Command-clause-lines
returns-in_ok-rack-in-Command-clause-lines g c = rw c.in-Command.is c.bmmc_top.ensures.line

pub returns-in_ok-rack-in-Transform-clause-lines : goal.returns-in_ok-rack-in-Transform-clause-lines
returns-in_ok-rack-in-Transform-clause-lines g c = rw c.in-Transform.is c.kind_top.ensures.line

pub returns-in_ok-right-in-Mirror-clause-call : goal.returns-in_ok-right-in-Mirror-clause-call
returns-in_ok-right-in-Mirror-clause-call g c = rw c.in-Mirror.is (_, _, c.mirror_top-status.ensures.call)

pub returns-in_ok-right-in-Mirror-clause-lines : goal.returns-in_ok-right-in-Mirror-clause-lines
returns-in_ok-right-in-Mirror-clause-lines g c =
    rw c.in-Mirror.is (λ told calm. (c.mirror_top-status.result.1.sides, c.mirror_top-status.ensures.line told calm))

pub returns-in_ok-right-in-Mirror-clause-fronts : goal.returns-in_ok-right-in-Mirror-clause-fronts
returns-in_ok-right-in-Mirror-clause-fronts g c =
    rw c.in-Mirror.is (λ told. (c.mirror_top-status.result.1.sides, c.mirror_top-status.ensures.front told))
