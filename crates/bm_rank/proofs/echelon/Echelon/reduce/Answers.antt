use Rattle.std.proofs.Common.{◌≤◌, length, arith}
use Rattle.bm_rank.proofs.EchelonLemmas.{count_le, in_span_of_rest, rest_of_span, span_of_used}
use Rattle.bm_rank.proofs.echelon.Echelon.reduce.Goals as goal

pub returns-clause-none : goal.returns-clause-none
returns-clause-none c =
    let i = c.self.inside in
    let r = c.reduction.result in
    let l : i.count ≤ length i.kept = omega (arith, count_le i.n i.count i.kept i.rows i.marks c.self.invariant, c.self.invariant.few) in
    rw (← c.self.view_is) (
      in_span_of_rest i.n i.count i.kept i.rows i.marks c.self.invariant l c.args.v r.0 r.1 c.reduction.ensures.sum,
      rest_of_span i.n i.count i.kept i.rows i.marks c.self.invariant l c.args.v r.0 r.1 c.reduction.ensures.sum
          c.reduction.ensures.reduced,
    )

pub returns-clause-rest : goal.returns-clause-rest
returns-clause-rest c =
    let i = c.self.inside in
    let r = c.reduction.result in
    let l : i.count ≤ length i.kept = omega (arith, count_le i.n i.count i.kept i.rows i.marks c.self.invariant, c.self.invariant.few) in
    rw (← c.self.view_is)
    (span_of_used i.n i.count i.kept i.rows i.marks c.self.invariant l c.args.v r.0 r.1 c.reduction.ensures.sum)

pub returns-clause-below : goal.returns-clause-below
returns-clause-below c = rw (← c.self.view_is) c.reduction.ensures.below
