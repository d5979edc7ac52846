use Rattle.std.proofs.Common.{arith}
use Rattle.bm_base.proofs.ShapeLemmas.{load_in_area, stripes_fit}
use Rattle.bm_pass.proofs.rows.stripe_of.Goals as goal

pub overflow_mul-result : goal.overflow_mul-result
overflow_mul-result c =
    let s = c.args.shape.now in
    rw c.load_stripes.ensures (omega (arith, load_in_area s c.args.load c.requires.load, stripes_fit s))

pub overflow_add-result : goal.overflow_add-result
overflow_add-result c =
    let s = c.args.shape.now in
    rw c.load_stripes.ensures (omega (arith, c.requires.row, load_in_area s c.args.load c.requires.load, stripes_fit s))

pub returns-clause-inside : goal.returns-clause-inside
returns-clause-inside c =
    let s = c.args.shape.now in
    rw c.load_stripes.ensures (omega (arith, c.requires.row, load_in_area s c.args.load c.requires.load))
