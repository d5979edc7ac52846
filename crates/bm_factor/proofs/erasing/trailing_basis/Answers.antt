use Rattle.std.proofs.Common.{ℕ, ◌/◌, ◌^◌, ◌∙◌, ap, arith, slice_index}
use Rattle.bm_gf2.specs.Matrix.{column}
use Rattle.bm_factor.proofs.EraserLemmas.{basis_more}
use Rattle.bm_factor.proofs.erasing.trailing_basis.Goals as goal
use Rattle.bm_base.proofs.PowerLemmas.{cut_below}

pub insert-requires : goal.insert-requires
insert-requires c =
    let a = c.args.a.now in
    rw (c.from.ensures, c.loop-j.invariant.0)
    (cut_below a.n c.args.m (column a c.loop-j.j) c.requires.m (a.below c.loop-j.j c.loop-j-test.true))

pub loop-j-preserved : goal.loop-j-preserved
loop-j-preserved c =
    let a = c.args.a.now in
    let more = basis_more (column a) a.n c.args.m c.loop-j.j c.loop-j.found.kept c.insert.new.self.kept
    (slice_index a.cols c.from.result / 2 ^ c.args.m) c.insert.result c.requires.trailing (omega arith) c.loop-j-test.true
    c.loop-j.invariant.1 c.loop-j.invariant.2 (ap (λ (k : ℕ). slice_index a.cols k / 2 ^ c.args.m) c.from.ensures)
    c.insert.ensures.fresh c.insert.ensures.kept in (
      c.insert.ensures.size ∙ c.loop-j.invariant.0,
      more.0,
      more.1,
    )
