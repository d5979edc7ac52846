use Rattle.std.proofs.Common.{arith}
use Rattle.bm_batch.proofs.BatchLemmas.{element_of}
use Rattle.bm_batch_call.proofs.TaskLemmas.{passes_are}
use Rattle.bm_batch_call.proofs.dumping.passes_of.Goals as goal

pub overflow_cast-result : goal.overflow_cast-result
overflow_cast-result c =
    let d = element_of c.args.batch.now.slots c.args.bay c.requires.below in
    let p = passes_are c.args.batch.now.slots c.args.batch.now.shape c.args.shape.now c.args.bay _ _ c.requires.below c.requires.finished
    c.requires.shape c.moved.ensures.all c.loads.ensures d in
    let same = p.0 in
    let few = p.1 in
    omega (arith, same, few)

pub returns : goal.returns
returns c = λ d.
    (passes_are c.args.batch.now.slots c.args.batch.now.shape c.args.shape.now c.args.bay _ _ c.requires.below c.requires.finished
    c.requires.shape c.moved.ensures.all c.loads.ensures d).0
