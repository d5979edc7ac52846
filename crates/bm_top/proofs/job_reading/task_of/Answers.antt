use Rattle.std.proofs.Common.{rules}
use Rattle.bm_jobfile.specs.JobFile.{HasMapFault}
use Rattle.bm_top.proofs.JobCauseLemmas.{file_cause, early_cause, map_cause}
use Rattle.bm_top.proofs.job_reading.task_of.Goals as goal

pub returns-in-Some-clause-cause : goal.returns-in-Some-clause-cause
returns-in-Some-clause-cause c = file_cause c.args.verb _ c.in-Ok.file c.in-Some.status c.in-Ok.ensures.file c.in-Some.ensures.refused

pub returns-in-Some-shape_refusal-clause-cause : goal.returns-in-Some-shape_refusal-clause-cause
returns-in-Some-shape_refusal-clause-cause c =
    let faulty : HasMapFault c.args.text.now c.in-Err-Map.shape c.in-Err-Map.fault = search rules in
    early_cause c.args.verb _ c.in-Err-Map.shape c.in-Err-Map.fault _ faulty c.in-Some-shape_refusal.ensures.refused

pub returns-in-None-shape_refusal-clause-cause : goal.returns-in-None-shape_refusal-clause-cause
returns-in-None-shape_refusal-clause-cause c =
    let faulty : HasMapFault c.args.text.now c.in-Err-Map.shape c.in-Err-Map.fault = search rules in
    map_cause c.args.verb _ c.in-Err-Map.shape c.in-Err-Map.fault c.in-None-shape_refusal.ensures.takes faulty
