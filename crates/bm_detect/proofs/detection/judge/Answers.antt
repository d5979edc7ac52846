use Rattle.std.proofs.Common.{◌^◌}
use Rattle.bm_detect.proofs.AnswerLemmas.{judged_map, judged_singular}
use Rattle.bm_detect.proofs.ScanLemmas.{no_first}
use Rattle.bm_detect.proofs.detection.judge.Goals as goal

pub returns-in-Some-kernel_least-clause-answer : goal.returns-in-Some-kernel_least-clause-answer
returns-in-Some-kernel_least-clause-answer c n ys is knows =
    judged_singular n c.in-Some-kernel_least.x ys c.args.scan is knows
    (no_first n (2 ^ n) ys c.args.scan.first c.in_default.not-Some knows.first) c.in-Some-kernel_least.ensures

pub returns-in-None-clause-answer : goal.returns-in-None-clause-answer
returns-in-None-clause-answer c n ys is knows =
    judged_map n ys c.args.scan is knows
    (no_first n (2 ^ n) ys c.args.scan.first c.in_default.not-Some knows.first) c.in-None.ensures
