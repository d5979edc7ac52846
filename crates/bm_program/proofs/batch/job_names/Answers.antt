use Rattle.std.proofs.Common.{string_bytes, arith}
use Rattle.std.proofs.lemmas.List.{length-map}
use Rattle.bm_program.proofs.batch.job_names.Goals as goal

pub returns-in-Some-clause-few : goal.returns-in-Some-clause-few
returns-in-Some-clause-few c =
    let few = c.in-Some.ensures.found.2.few in
    let same = length-map c.in-Some.names.now string_bytes in
    omega (arith, few, same)

pub returns-in-None-clause-enough : goal.returns-in-None-clause-enough
returns-in-None-clause-enough c = λ verb seed names is. absurd (c.in-None.ensures.none verb seed names is)
