use Rattle.std.proofs.Common.{◌<◌, ◌^◌, ◌-◌, ℕ, subst, sym, refl, arith}
use Rattle.bm_rank.proofs.RowCutLemmas.{leading_no_kernel, solution_solves, solution_below}
use Rattle.bm_rank.proofs.row_solution.solution_of.Goals as goal

pub unreachable-requires : goal.unreachable-requires
unreachable-requires c =
    leading_no_kernel c.args.a.now _ c.args.b c.args.m c.in_default.field-0.x c.requires.nonsingular
    (omega arith) c.requires.m c.requires.covered
    refl c.cut_rows.ensures.rows c.in_default.ensures.undone

pub returns : goal.returns
returns c = record {
  count = refl;
  solves = solution_solves c.args.a.now _ c.in-Ok.back c.args.b c.args.m c.args.highs.now c.loop-i.cols
      (omega arith) c.requires.m c.requires.covered
      refl c.cut_rows.ensures.rows c.requires.highs c.in-Ok.ensures.undone (λ i l. c.loop-i.invariant.0 i (omega arith));
  below = λ j l. subst (λ (w : ℕ). w < 2 ^ (c.args.a.now.n - c.args.m)) (sym (c.loop-i.invariant.0 j (omega arith)))
      (solution_below c.args.a.now c.args.m _ c.args.highs.now c.requires.highs);
}
