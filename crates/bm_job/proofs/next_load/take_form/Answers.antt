use Rattle.std.proofs.Common.{arith}
use Rattle.bm_job.proofs.RangeLemmas.{few_passes}
use Rattle.bm_job.proofs.next_load.take_form.Goals as goal

pub read_pass-requires-clause-number : goal.read_pass-requires-clause-number
read_pass-requires-clause-number g c =
    let m = c.args.machine.now in
    let few = few_passes m.shape m.job m.passes m.done m.every m.part m.slot m.load m.keeps in
    let left = c.requires.left in
    omega (arith, few, left)

pub returns-in-Some-clause-next : goal.returns-in-Some-clause-next
returns-in-Some-clause-next g c told follows = follows.form c.in-Some.form c.in-Some.is
