use Rattle.std.proofs.Common.{◌≢◌, ◌≤◌, count_ones, arith}
use Rattle.std.proofs.lemmas.Nat.{zero_from_ones}
use Rattle.bm_kinds.proofs.at_places.on_some.Goals as goal

pub on_lowest-requires-in_default-clause-ones : goal.on_lowest-requires-in_default-clause-ones
on_lowest-requires-in_default-clause-ones g c =
    let some : count_ones c.args.left ≢ 0 = λ e. c.requires.some (zero_from_ones c.args.left e) in
    let one : 1 ≤ count_ones c.args.left = omega arith in
    one
