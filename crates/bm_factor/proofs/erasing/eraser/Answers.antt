use Rattle.std.proofs.Common.{ℕ, ◌<◌, ◌≤◌, ◌∙◌, subst, arith}
use Rattle.bm_gf2.specs.Matrix.{column}
use Rattle.bm_forms.specs.Mld.{IsMld}
use Rattle.bm_factor.specs.Eraser.{IsEraser}
use Rattle.bm_factor.proofs.EraserLemmas.{turn_below, turn_erased, erasing_none, erasing_all, eraser_inverse, eraser_mld}
use Rattle.bm_factor.proofs.erasing.eraser.Goals as goal
use Rattle.bm_base.proofs.PowerLemmas.{cut_below}

pub loop-j-init : goal.loop-j-init
loop-j-init c =
    let a = c.args.a.now in
    let bn : c.args.shape.now.b < a.n = omega (arith, c.args.shape.now.keeps.block, c.args.shape.now.keeps.memory, c.requires.size) in
    rw c.b-j.ensures (
      erasing_none a c.identity-e.result c.args.shape.now.b c.m-m.result c.identity-e.ensures.size c.identity-e.ensures.columns bn,
      c.identity-e.ensures.size,
    )

pub combination-requires : goal.combination-requires
combination-requires c =
    let a = c.args.a.now in
    let mn : c.m-m.result ≤ a.n = omega (arith, c.m-m.ensures, c.args.shape.now.keeps.memory, c.requires.size) in
    let inside : c.loop-j.j < a.n = omega arith in
    rw (c.from.ensures, c.trailing_basis-found.ensures.size)
    (cut_below a.n c.m-m.result (column a c.loop-j.j) mn (a.below c.loop-j.j inside))

pub with_column-e-requires-clause-below : goal.with_column-e-requires-clause-below
with_column-e-requires-clause-below c =
    let a = c.args.a.now in
    let mn : c.m-m.result ≤ a.n = omega (arith, c.m-m.ensures, c.args.shape.now.keeps.memory, c.requires.size) in
    turn_below a.n c.m-m.result c.loop-j.j c.unwrap-set.result _ c.loop-j.e c.loop-j.invariant.1 mn c.loop-j-test.true
    c.trailing_basis-found.ensures.long (rw c.unwrap-set.ensures at c.combination.ensures.below)

pub loop-j-preserved : goal.loop-j-preserved
loop-j-preserved c =
    let a = c.args.a.now in
    let mn : c.m-m.result ≤ a.n = omega (arith, c.m-m.ensures, c.args.shape.now.keeps.memory, c.requires.size) in (
      turn_erased a c.loop-j.e c.with_column-e.result c.args.shape.now.b c.m-m.result c.loop-j.j c.trailing_basis-found.result.kept
          c.from.result c.unwrap-set.result c.loop-j.invariant.0
          (omega (arith, c.b-j.ensures, c.loop-j.auto.j)) c.loop-j-test.true mn c.from.ensures
          c.trailing_basis-found.ensures.long c.trailing_basis-found.ensures.columns
          (rw c.unwrap-set.ensures at c.combination.ensures.sum) (rw c.unwrap-set.ensures at c.combination.ensures.below)
          c.with_column-e.ensures.size c.with_column-e.ensures.changed c.with_column-e.ensures.others,
      c.with_column-e.ensures.size ∙ c.loop-j.invariant.1,
    )

pub returns-clause-eraser : goal.returns-clause-eraser
returns-clause-eraser c =
    let bm : c.args.shape.now.b < c.args.shape.now.m = c.args.shape.now.keeps.block in
    subst (λ (m : ℕ). IsEraser c.args.a.now c.loop-j.e c.args.shape.now.b m) c.m-m.ensures
    (erasing_all c.args.a.now c.loop-j.e c.args.shape.now.b c.m-m.result c.loop-j.j c.loop-j.invariant.0
    (omega (arith, c.b-j.ensures, c.m-m.ensures)))

pub returns-clause-inverse : goal.returns-clause-inverse
returns-clause-inverse c =
    let bm : c.args.shape.now.b < c.args.shape.now.m = c.args.shape.now.keeps.block in
    let mn : c.m-m.result ≤ c.args.a.now.n = omega (arith, c.m-m.ensures, c.args.shape.now.keeps.memory, c.requires.size) in
    eraser_inverse c.args.a.now c.loop-j.e c.args.shape.now.b c.m-m.result
    (erasing_all c.args.a.now c.loop-j.e c.args.shape.now.b c.m-m.result c.loop-j.j c.loop-j.invariant.0
    (omega (arith, c.b-j.ensures, c.m-m.ensures))) mn

pub returns-clause-mld : goal.returns-clause-mld
returns-clause-mld c =
    let bm : c.args.shape.now.b < c.args.shape.now.m = c.args.shape.now.keeps.block in
    let mn : c.m-m.result ≤ c.args.a.now.n = omega (arith, c.m-m.ensures, c.args.shape.now.keeps.memory, c.requires.size) in
    subst (λ (m : ℕ). IsMld c.loop-j.e c.args.shape.now.b m) c.m-m.ensures
    (eraser_mld c.args.a.now c.loop-j.e c.args.shape.now.b c.m-m.result
    (erasing_all c.args.a.now c.loop-j.e c.args.shape.now.b c.m-m.result c.loop-j.j c.loop-j.invariant.0
    (omega (arith, c.b-j.ensures, c.m-m.ensures))) (omega (arith, c.m-m.ensures)) mn)
