use Rattle.std.proofs.Common.{ℕ, ◌≡◌, ◌<◌, ◌≤◌, ◌∙◌, subst, arith}
use Rattle.bm_forms.proofs.MldLemmas.{nonsingular_of_involution}
use Rattle.bm_factor.specs.Swapper.{IsSwapper}
use Rattle.bm_factor.proofs.SwapperLemmas.{swapping_none, swapping_all, swapper_inverse}
use Rattle.bm_factor.proofs.SwapperTurnLemmas.{turn_kept, turn_none, turn_exchanged}
use Rattle.bm_factor.proofs.swapping.swapper.Goals as goal

pub loop-i-init : goal.loop-i-init
loop-i-init c =
    let mn : c.m-m.result ≤ c.args.a.now.n = omega (arith, c.m-m.ensures, c.args.shape.now.keeps.memory, c.requires.size) in (
      swapping_none c.args.a.now c.identity-s.result c.m-m.result c.identity-s.ensures.size c.identity-s.ensures.columns mn,
      c.identity-s.ensures.size,
      omega arith,
      omega (arith, c.m-m.ensures, c.args.shape.now.keeps.block),
    )

pub loop-i-preserved-then-k-i : goal.loop-i-preserved-then-k-i
loop-i-preserved-then-k-i c =
    let w = c.loop-i.invariant.0 in
    let mn : c.m-m.result ≤ c.args.a.now.n = omega (arith, c.m-m.ensures, c.args.shape.now.keeps.memory, c.requires.size) in (
      turn_exchanged c.args.a.now c.loop-i.s c.swap_columns.new.self c.m-m.result c.loop-i.next c.loop-i.i c.from.result
          c.next_nonzero-k.result
          w (omega arith) mn c.from.ensures c.if-a-from-eq0.true (c.next_nonzero-k.ensures.from c.if-k-i.true) c.if-k-i.true
          (c.next_nonzero-k.ensures.nonzero c.if-k-i.true) c.next_nonzero-k.ensures.zeros c.swap_columns.ensures.size
          c.swap_columns.ensures.first c.swap_columns.ensures.second c.swap_columns.ensures.others,
      c.swap_columns.ensures.size ∙ c.loop-i.invariant.1,
      omega (arith, w.from_low, w.from_high, c.if-k-i.true),
      omega (arith, c.b-i-start.ensures, c.loop-i-test.true),
    )

pub loop-i-preserved-else-k-i : goal.loop-i-preserved-else-k-i
loop-i-preserved-else-k-i c =
    let w = c.loop-i.invariant.0 in
    let mn : c.m-m.result ≤ c.args.a.now.n = omega (arith, c.m-m.ensures, c.args.shape.now.keeps.memory, c.requires.size) in (
      turn_none c.args.a.now c.loop-i.s c.m-m.result c.loop-i.next c.loop-i.i c.from.result c.next_nonzero-k.result
          w (omega arith) mn c.from.ensures c.if-a-from-eq0.true (omega arith) c.next_nonzero-k.ensures.zeros,
      c.loop-i.invariant.1,
      c.loop-i.invariant.2,
      omega (arith, c.b-i-start.ensures, c.loop-i-test.true),
    )

pub loop-i-preserved : goal.loop-i-preserved
loop-i-preserved c =
    let w = c.loop-i.invariant.0 in
    let mn : c.m-m.result ≤ c.args.a.now.n = omega (arith, c.m-m.ensures, c.args.shape.now.keeps.memory, c.requires.size) in (
      turn_kept c.args.a.now c.loop-i.s c.m-m.result c.loop-i.next c.loop-i.i c.from.result w (omega arith) mn c.from.ensures
          c.if-a-from-eq0.false,
      c.loop-i.invariant.1,
      c.loop-i.invariant.2,
      omega (arith, c.b-i-start.ensures, c.loop-i-test.true),
    )

pub returns-clause-swapper : goal.returns-clause-swapper
returns-clause-swapper c =
    let e : c.loop-i.i ≡ c.args.shape.now.b = omega (arith, c.b-i-start.ensures, c.loop-i.invariant.3, c.loop-i-test.false) in
    let bm : c.args.shape.now.b < c.m-m.result = omega (arith, c.m-m.ensures, c.args.shape.now.keeps.block) in
    subst (λ (m : ℕ). IsSwapper c.args.a.now c.loop-i.s c.args.shape.now.b m) c.m-m.ensures
    (swapping_all c.args.a.now c.loop-i.s c.args.shape.now.b c.m-m.result c.loop-i.next c.loop-i.i c.loop-i.invariant.0 e bm)

pub returns-clause-inverse : goal.returns-clause-inverse
returns-clause-inverse c =
    let e : c.loop-i.i ≡ c.args.shape.now.b = omega (arith, c.b-i-start.ensures, c.loop-i.invariant.3, c.loop-i-test.false) in
    let bm : c.args.shape.now.b < c.m-m.result = omega (arith, c.m-m.ensures, c.args.shape.now.keeps.block) in
    let mn : c.m-m.result ≤ c.args.a.now.n = omega (arith, c.m-m.ensures, c.args.shape.now.keeps.memory, c.requires.size) in
    swapper_inverse c.args.a.now c.loop-i.s c.args.shape.now.b c.m-m.result
    (swapping_all c.args.a.now c.loop-i.s c.args.shape.now.b c.m-m.result c.loop-i.next c.loop-i.i c.loop-i.invariant.0 e bm) mn

pub returns-clause-nonsingular : goal.returns-clause-nonsingular
returns-clause-nonsingular c =
    let e : c.loop-i.i ≡ c.args.shape.now.b = omega (arith, c.b-i-start.ensures, c.loop-i.invariant.3, c.loop-i-test.false) in
    let bm : c.args.shape.now.b < c.m-m.result = omega (arith, c.m-m.ensures, c.args.shape.now.keeps.block) in
    let mn : c.m-m.result ≤ c.args.a.now.n = omega (arith, c.m-m.ensures, c.args.shape.now.keeps.memory, c.requires.size) in
    nonsingular_of_involution c.loop-i.s (swapper_inverse c.args.a.now c.loop-i.s c.args.shape.now.b c.m-m.result
    (swapping_all c.args.a.now c.loop-i.s c.args.shape.now.b c.m-m.result c.loop-i.next c.loop-i.i c.loop-i.invariant.0 e bm) mn)
