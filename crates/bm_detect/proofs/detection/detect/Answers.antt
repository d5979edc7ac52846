use Rattle.std.proofs.Common.{◌^◌, Err}
use Rattle.bm_detect.specs.Candidate.{input_number}
use Rattle.bm_detect.proofs.AnswerLemmas.{found, refused, read_failed}
use Rattle.bm_detect.proofs.detection.detect.Goals as goal

pub returns-in-Ok-clause-answer : goal.returns-in-Ok-clause-answer
returns-in-Ok-clause-answer g c told =
    let s = c.args.shape.now in
    let ys = input_number (g.R.Rack.view c.args.rack.now).contents s in
    c.judge.ensures.answer s.n ys c.in-Ok.ensures.scan (c.in-Ok.ensures.knows told)

pub returns-in-Ok-clause-complete : goal.returns-in-Ok-clause-complete
returns-in-Ok-clause-complete g c told f is nonsingular quiet =
    let s = c.args.shape.now in
    let ys = input_number (g.R.Rack.view c.args.rack.now).contents s in
    found s.n ys f c.judge.result is nonsingular
    (c.judge.ensures.answer s.n ys c.in-Ok.ensures.scan (c.in-Ok.ensures.knows told)) c.judge.ensures.read

pub returns-in-Err-clause-complete : goal.returns-in-Err-clause-complete
returns-in-Err-clause-complete g c told f is nonsingular quiet =
    let s = c.args.shape.now in
    let ys = input_number (g.R.Rack.view c.args.rack.now).contents s in
    found s.n ys f (Err c.in-Err.refusal) is nonsingular
    (refused s.n (2 ^ s.n) ys c.in-Err.refusal (c.in-Err.ensures.knows told))
    (λ failed. quiet (c.in-Err.ensures.cause.rose (read_failed c.in-Err.refusal failed)))
