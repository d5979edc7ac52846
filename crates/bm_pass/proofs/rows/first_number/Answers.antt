use Rattle.std.proofs.Common.{◌+◌, ◌≤◌, ◌^◌, sym, subst, arith}
use Rattle.bm_pass.proofs.PlaceLemmas.{first_of_row, row_room}
use Rattle.bm_pass.proofs.rows.first_number.Goals as goal

pub returns-clause-number : goal.returns-clause-number
returns-clause-number c =
    first_of_row c.args.shape.now c.args.row (c.b.result + c.d.result) c.requires (omega (arith, c.b.ensures, c.d.ensures))

pub returns-clause-inside : goal.returns-clause-inside
returns-clause-inside c =
    let s = c.args.shape.now in
    subst (λ k. k + 2 ^ (s.b + s.d) ≤ 2 ^ s.m) (sym (returns-clause-number c)) (row_room s c.args.row c.requires)
