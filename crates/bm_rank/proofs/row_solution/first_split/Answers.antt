use Rattle.std.proofs.Common.{◌∙◌, sym, refl, slice_index, arith}
use Rattle.std.proofs.lemmas.Bool.{false≢true}
use Rattle.std.proofs.lemmas.List.{length-set}
use Rattle.bm_rank.proofs.RowSolutionLemmas.{solving_none, split_found, split_same, split_new}
use Rattle.bm_rank.proofs.row_solution.first_split.Goals as goal
use Rattle.bm_rank.proofs.row_solution.first_split.Goals.{in-Some+else-sum_of_columns-ne0, in_default}

pub loop-j-init : goal.loop-j-init
loop-j-init c =
    rw c.new-found.ensures.empty (
      c.new-found.ensures.size,
      refl,
      omega arith,
      c.no_columns-units.ensures.long,
      solving_none (slice_index c.args.lows.now) (slice_index c.args.highs.now) c.args.m _,
    )

pub returns-then-sum_of_columns-ne0-clause-some : goal.returns-then-sum_of_columns-ne0-clause-some
returns-then-sum_of_columns-ne0-clause-some c =
    split_found c.args.lows.now c.args.highs.now c.args.m c.loop-j.j c.loop-j.found.kept c.loop-j.units c.loop-j.invariant.4
    c.loop-j-test.true
    c.loop-j.count c.from.result c.loop-j.invariant.1 c.requires.few c.from.ensures
    c.in-Some.set c.sum_of_columns.result c.in-Some.ensures.sum c.sum_of_columns.ensures.value
    (λ z. c.if-sum_of_columns-ne0.true (c.sum_of_columns-in-Some.ensures.value ∙ z))

pub loop-j-preserved : goal.loop-j-preserved
loop-j-preserved c =
    elim c.match-combination.branch [
      | in-Some+else-sum_of_columns-ne0 w ↦
          rw (w.found-is, w.units-is, w.count-is) (
            c.loop-j.invariant.0,
            c.loop-j.invariant.1,
            omega arith,
            c.loop-j.invariant.3,
            split_same c.args.lows.now c.args.highs.now c.args.m c.loop-j.j c.loop-j.found.kept c.loop-j.units c.loop-j.invariant.4
                c.loop-j-test.true
                c.loop-j.count c.from.result c.loop-j.invariant.1 c.requires.few c.from.ensures
                w.in-Some.set w.sum_of_columns.result w.in-Some.ensures.sum w.sum_of_columns.ensures.value
                (sym w.sum_of_columns-in-Some.ensures.value ∙ w.if-sum_of_columns-ne0.false),
          )
      | in_default w ↦
          let m = split_new c.args.lows.now c.args.highs.now c.args.m c.loop-j.j c.loop-j.found.kept c.loop-j.units c.loop-j.invariant.4
          c.loop-j-test.true
          c.loop-j.count c.from.result c.loop-j.invariant.1 c.requires.few c.from.ensures
          w.insert.new.self.kept w.insert.result
          (λ h. false≢true (w.in_default.ensures.some.1 h)) w.insert.ensures.fresh w.insert.ensures.kept
          w.from-in_default.result w.from-in_default.ensures c.loop-j.invariant.2 c.loop-j.invariant.3 in
          rw (w.found-is, w.units-is, w.count-is) (
            w.insert.ensures.size ∙ c.loop-j.invariant.0,
            m.0,
            omega (arith, c.loop-j.invariant.2),
            length-set c.loop-j.units _ _ ∙ c.loop-j.invariant.3,
            m.1,
          )
    ]
