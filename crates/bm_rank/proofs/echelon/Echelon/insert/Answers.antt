use Rattle.std.proofs.Common.{subst, ◌≡◌, ◌+◌, ◌<◌, ◌≤◌, ◌^◌, ◌*◌, ◌%◌, length, arith, refl, sym}
use Rattle.std.proofs.lemmas.Nat.{one_shl}
use Rattle.std.proofs.lemmas.Grind.{take-set_at}
use Rattle.bm_rank.specs.Echelon.{Basis}
use Rattle.bm_rank.proofs.EchelonLemmas.{count_le, in_span_of_rest, no_span_of_rest, grown, count_fits, lead_fits}
use Rattle.bm_rank.proofs.echelon.Echelon.insert.Goals as goal

pub returns-then-rest-eq0-clause-fresh : goal.returns-then-rest-eq0-clause-fresh
returns-then-rest-eq0-clause-fresh c =
    let i = c.self.inside in
    let r = c.reduction-rest.result in
    let l : i.count ≤ length i.kept = omega (arith, count_le i.n i.count i.kept i.rows i.marks c.self.invariant, c.self.invariant.few) in
    rw (
      ← c.self.view_is,
      in_span_of_rest i.n i.count i.kept i.rows i.marks c.self.invariant l c.args.v r.0 r.1 c.reduction-rest.ensures.sum c.if-rest-eq0.true,
    ) refl

pub returns-clause-fresh : goal.returns-clause-fresh
returns-clause-fresh c =
    let i = c.self.inside in
    let r = c.reduction-rest.result in
    let l : i.count ≤ length i.kept = omega (arith, count_le i.n i.count i.kept i.rows i.marks c.self.invariant, c.self.invariant.few) in
    rw (
      ← c.self.view_is,
      no_span_of_rest i.n i.count i.kept i.rows i.marks c.self.invariant l c.args.v r.0 r.1 c.reduction-rest.ensures.sum
          c.reduction-rest.ensures.reduced c.if-rest-eq0.false,
    ) refl

pub overflow_shl-mark : goal.overflow_shl-mark
overflow_shl-mark c =
    let i = c.self.inside in
    omega (arith, count_le i.n i.count i.kept i.rows i.marks c.self.invariant, c.self.invariant.few)

pub bounds-self-inside-from : goal.bounds-self-inside-from
bounds-self-inside-from c =
    let i = c.self.inside in
    let r = c.reduction-rest.result in
    let e = c.reduction-rest.ensures in
    let lk : length i.kept ≡ 52 = omega arith in
    let lr : length i.rows ≡ 52 = omega arith in
    let lm : length i.marks ≡ 52 = omega arith in
    let vb : c.args.v < 2 ^ i.n = subst (λ (b : Basis). c.args.v < 2 ^ b.n) (sym c.self.view_is) c.requires in
    let few : i.n ≤ 52 = c.self.invariant.few in
    omega (
      arith,
      count_fits i.n i.count i.kept i.rows i.marks c.self.invariant lk lr lm c.args.v r.0 r.1 c.top_bit.result vb e.sum
          e.reduced c.top_bit.ensures.high c.top_bit.ensures.highest e.below,
    )

pub bounds-self-inside-lead : goal.bounds-self-inside-lead
bounds-self-inside-lead c =
    let i = c.self.inside in
    let r = c.reduction-rest.result in
    let e = c.reduction-rest.ensures in
    let lk : length i.kept ≡ 52 = omega arith in
    let lr : length i.rows ≡ 52 = omega arith in
    let lm : length i.marks ≡ 52 = omega arith in
    let vb : c.args.v < 2 ^ i.n = subst (λ (b : Basis). c.args.v < 2 ^ b.n) (sym c.self.view_is) c.requires in
    let few : i.n ≤ 52 = c.self.invariant.few in
    omega (
      arith,
      lead_fits i.n i.count i.kept i.rows i.marks c.self.invariant lk lr lm c.args.v r.0 r.1 c.top_bit.result vb e.sum
          e.reduced c.top_bit.ensures.high c.top_bit.ensures.highest e.below,
    )

pub bounds-self-inside-lead-2 : goal.bounds-self-inside-lead-2
bounds-self-inside-lead-2 c =
    let i = c.self.inside in
    let r = c.reduction-rest.result in
    let e = c.reduction-rest.ensures in
    let lk : length i.kept ≡ 52 = omega arith in
    let lr : length i.rows ≡ 52 = omega arith in
    let lm : length i.marks ≡ 52 = omega arith in
    let vb : c.args.v < 2 ^ i.n = subst (λ (b : Basis). c.args.v < 2 ^ b.n) (sym c.self.view_is) c.requires in
    let few : i.n ≤ 52 = c.self.invariant.few in
    omega (
      arith,
      lead_fits i.n i.count i.kept i.rows i.marks c.self.invariant lk lr lm c.args.v r.0 r.1 c.top_bit.result vb e.sum
          e.reduced c.top_bit.ensures.high c.top_bit.ensures.highest e.below,
    )

pub overflow_add-self : goal.overflow_add-self
overflow_add-self c =
    let i = c.self.inside in
    let r = c.reduction-rest.result in
    let e = c.reduction-rest.ensures in
    let lk : length i.kept ≡ 52 = omega arith in
    let lr : length i.rows ≡ 52 = omega arith in
    let lm : length i.marks ≡ 52 = omega arith in
    let vb : c.args.v < 2 ^ i.n = subst (λ (b : Basis). c.args.v < 2 ^ b.n) (sym c.self.view_is) c.requires in
    let few : i.n ≤ 52 = c.self.invariant.few in
    omega (
      arith,
      count_fits i.n i.count i.kept i.rows i.marks c.self.invariant lk lr lm c.args.v r.0 r.1 c.top_bit.result vb e.sum
          e.reduced c.top_bit.ensures.high c.top_bit.ensures.highest e.below,
    )

pub invariant_of-self : goal.invariant_of-self
invariant_of-self c =
    let i = c.self.inside in
    let r = c.reduction-rest.result in
    let e = c.reduction-rest.ensures in
    let lk : length i.kept ≡ 52 = omega arith in
    let lr : length i.rows ≡ 52 = omega arith in
    let lm : length i.marks ≡ 52 = omega arith in
    let vb : c.args.v < 2 ^ i.n = subst (λ (b : Basis). c.args.v < 2 ^ b.n) (sym c.self.view_is) c.requires in
    let few : i.n ≤ 52 = c.self.invariant.few in
    let small : i.count ≤ i.n = count_le i.n i.count i.kept i.rows i.marks c.self.invariant in
    let unit : 1 * 2 ^ i.count % 2 ^ 64 ≡ 2 ^ i.count = one_shl i.count 64 (omega arith) in
    rw (c.from.ensures, c.from-lead.ensures, c.sum_of_columns.ensures.value, unit)
    (grown i.n i.count i.kept i.rows i.marks c.self.invariant lk lr lm c.args.v r.0 r.1 c.top_bit.result vb e.sum e.reduced
    c.top_bit.ensures.high c.top_bit.ensures.highest e.below)

pub returns-clause-kept : goal.returns-clause-kept
returns-clause-kept c =
    let i = c.self.inside in
    let r = c.reduction-rest.result in
    let e = c.reduction-rest.ensures in
    let lk : length i.kept ≡ 52 = omega arith in
    let lr : length i.rows ≡ 52 = omega arith in
    let lm : length i.marks ≡ 52 = omega arith in
    let vb : c.args.v < 2 ^ i.n = subst (λ (b : Basis). c.args.v < 2 ^ b.n) (sym c.self.view_is) c.requires in
    let few : i.n ≤ 52 = c.self.invariant.few in
    let fits : i.count < i.n = count_fits i.n i.count i.kept i.rows i.marks c.self.invariant lk lr lm c.args.v r.0 r.1 c.top_bit.result
    vb e.sum e.reduced c.top_bit.ensures.high c.top_bit.ensures.highest e.below in
    rw (← c.self.view_is, c.from.ensures) (take-set_at i.kept i.count (i.count + 1) c.args.v refl (omega arith))
