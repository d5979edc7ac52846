use Rattle.std.proofs.Common.{subst, true, take, length-take, sym, ◌∙◌, ◌≡◌, ℕ, ◌≤◌, length, arith, refl}
use Rattle.std.proofs.lemmas.Bool.{false≢true}
use Rattle.bm_rank.specs.Span.{in_span}
use Rattle.bm_rank.proofs.SpanLemmas.{in_span-sum}
use Rattle.bm_rank.proofs.CombinationLemmas.{combination_sum, combination_only}
use Rattle.bm_rank.proofs.EchelonLemmas.{count_le, in_span_of_rest, rest_of_span, nothing_left}
use Rattle.bm_rank.proofs.echelon.Echelon.combination.Goals as goal

pub returns-then-rest-eq0-clause-some : goal.returns-then-rest-eq0-clause-some
returns-then-rest-eq0-clause-some c =
    let i = c.self.inside in
    let r = c.reduction-rest.result in
    let l : i.count ≤ length i.kept = omega (arith, count_le i.n i.count i.kept i.rows i.marks c.self.invariant, c.self.invariant.few) in
    rw (← c.self.view_is) (
      λ _. in_span_of_rest i.n i.count i.kept i.rows i.marks c.self.invariant l c.args.v r.0 r.1 c.reduction-rest.ensures.sum
          c.if-rest-eq0.true,
      λ _. refl,
    )

pub returns-then-rest-eq0-clause-sum : goal.returns-then-rest-eq0-clause-sum
returns-then-rest-eq0-clause-sum c =
    let i = c.self.inside in
    let r = c.reduction-rest.result in
    let l : i.count ≤ length i.kept = omega (arith, count_le i.n i.count i.kept i.rows i.marks c.self.invariant, c.self.invariant.few) in
    rw (← c.self.view_is, c.sum_of_columns.ensures.value)
    (combination_sum i.n i.count i.kept i.rows i.marks c.self.invariant l c.args.v r.0 r.1 c.reduction-rest.ensures.sum
    c.if-rest-eq0.true).0

pub returns-then-rest-eq0-clause-below : goal.returns-then-rest-eq0-clause-below
returns-then-rest-eq0-clause-below c =
    let i = c.self.inside in
    let r = c.reduction-rest.result in
    let l : i.count ≤ length i.kept = omega (arith, count_le i.n i.count i.kept i.rows i.marks c.self.invariant, c.self.invariant.few) in
    rw (← c.self.view_is, c.sum_of_columns.ensures.value)
    (combination_sum i.n i.count i.kept i.rows i.marks c.self.invariant l c.args.v r.0 r.1 c.reduction-rest.ensures.sum
    c.if-rest-eq0.true).1

pub returns-else-rest-eq0-clause-some : goal.returns-else-rest-eq0-clause-some
returns-else-rest-eq0-clause-some c =
    let i = c.self.inside in
    let r = c.reduction-rest.result in
    let l : i.count ≤ length i.kept = omega (arith, count_le i.n i.count i.kept i.rows i.marks c.self.invariant, c.self.invariant.few) in
    rw (← c.self.view_is) (
      λ h. absurd (false≢true h),
      λ h. absurd (c.if-rest-eq0.false
          (rest_of_span i.n i.count i.kept i.rows i.marks c.self.invariant l c.args.v r.0 r.1 c.reduction-rest.ensures.sum
          c.reduction-rest.ensures.reduced h)),
    )

pub returns-else-rest-eq0-clause-full : goal.returns-else-rest-eq0-clause-full
returns-else-rest-eq0-clause-full c =
    let i = c.self.inside in
    let r = c.reduction-rest.result in
    let small : i.count ≤ i.n = count_le i.n i.count i.kept i.rows i.marks c.self.invariant in
    let few : i.n ≤ 52 = c.self.invariant.few in
    let l : i.count ≤ length i.kept = omega arith in
    let len : length (take i.count i.kept) ≡ i.count = simp length-take (omega arith) in
    rw (← c.self.view_is)
    (λ full. absurd (c.if-rest-eq0.false
    (nothing_left i.n i.count i.kept i.rows i.marks c.self.invariant
    (sym len ∙ full) r.0 c.reduction-rest.ensures.below c.reduction-rest.ensures.reduced)))

pub returns-then-rest-eq0-clause-only : goal.returns-then-rest-eq0-clause-only
returns-then-rest-eq0-clause-only c =
    let i = c.self.inside in
    let r = c.reduction-rest.result in
    let l : i.count ≤ length i.kept = omega (arith, count_le i.n i.count i.kept i.rows i.marks c.self.invariant, c.self.invariant.few) in
    rw (← c.self.view_is, c.sum_of_columns.ensures.value)
    (combination_only i.n i.count i.kept i.rows i.marks c.self.invariant l c.args.v r.0 r.1 c.reduction-rest.ensures.sum c.if-rest-eq0.true)

pub returns-else-rest-eq0-clause-none : goal.returns-else-rest-eq0-clause-none
returns-else-rest-eq0-clause-none c =
    let i = c.self.inside in
    let r = c.reduction-rest.result in
    let l : i.count ≤ length i.kept = omega (arith, count_le i.n i.count i.kept i.rows i.marks c.self.invariant, c.self.invariant.few) in
    rw (← c.self.view_is)
    (λ y sum. c.if-rest-eq0.false
    (rest_of_span i.n i.count i.kept i.rows i.marks c.self.invariant l c.args.v r.0 r.1 c.reduction-rest.ensures.sum
    c.reduction-rest.ensures.reduced
    (subst (λ (v : ℕ). in_span (take i.count i.kept) v ≡ true) sum (in_span-sum (take i.count i.kept) y))))
