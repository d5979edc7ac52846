use Rattle.std.proofs.Common.{◌<◌, ◌≤◌, ◌-◌, ◌∙◌, ℕ, subst, arith}
use Rattle.std.proofs.lemmas.Nat.{xor_lt}
use Rattle.bm_gf2.specs.Matrix.{column}
use Rattle.bm_factor.specs.Trailer.{IsTrailer}
use Rattle.bm_factor.proofs.TrailerLemmas.{turn_added, turn_kept, turn_free, trailing_all, trailing_none, trailer_inverse}
use Rattle.bm_factor.proofs.trailing.trailer.Goals as goal
use Rattle.bm_factor.proofs.trailing.trailer.Goals.{then-not-insert, else-not-insert}
use Rattle.bm_base.proofs.PowerLemmas.{cut_below}

pub loop-j-init : goal.loop-j-init
loop-j-init c =
    let mn : c.m-m.result ≤ c.args.a.now.n = omega (arith, c.m-m.ensures, c.args.shape.now.keeps.memory, c.requires.size) in
    rw c.new-found.ensures.empty (
      trailing_none c.args.a.now c.identity-t.result c.m-m.result c.identity-t.ensures.size c.identity-t.ensures.columns mn,
      c.new-found.ensures.size,
    )

pub insert-requires : goal.insert-requires
insert-requires c =
    let a = c.args.a.now in
    let mn : c.m-m.result ≤ a.n = omega (arith, c.m-m.ensures, c.args.shape.now.keeps.memory, c.requires.size) in
    rw (c.from.ensures, c.loop-j.invariant.1) (cut_below a.n c.m-m.result (column a c.loop-j.j) mn (a.below c.loop-j.j c.loop-j-test.true))

pub free_column-i-requires-clause-some : goal.free_column-i-requires-clause-some
free_column-i-requires-clause-some c =
    let a = c.args.a.now in
    turn_free a c.loop-j.t c.m-m.result c.loop-j.j c.loop-j.found.kept c.insert.new.self.kept c.insert.result c.requires.nonsingular
    (omega (arith, a.few)) c.loop-j.invariant.0
    (omega arith) c.loop-j-test.true c.if-not-insert.true (rw c.from.ensures at c.insert.ensures.fresh)
    (rw c.from.ensures at c.insert.ensures.kept)

pub insert-requires-then-not-insert : goal.insert-requires-then-not-insert
insert-requires-then-not-insert c =
    let a = c.args.a.now in
    let mn : c.m-m.result ≤ a.n = omega (arith, c.m-m.ensures, c.args.shape.now.keeps.memory, c.requires.size) in
    let i : c.free_column-i.result < a.n = omega (arith, c.free_column-i.ensures.below) in
    rw (c.from.ensures, c.from-then-not-insert.ensures, c.insert.ensures.size, c.loop-j.invariant.1)
    (xor_lt (a.n - c.m-m.result) _ _
    (cut_below a.n c.m-m.result (column a c.loop-j.j) mn (a.below c.loop-j.j c.loop-j-test.true))
    (cut_below a.n c.m-m.result (column a c.free_column-i.result) mn (a.below c.free_column-i.result i)))

pub loop-j-preserved : goal.loop-j-preserved
loop-j-preserved c =
    let a = c.args.a.now in
    elim c.if-not-insert.branch [
      | then-not-insert w ↦
          rw (w.t-is, w.found-is) (
            turn_added a c.loop-j.t w.add_column.new.self c.m-m.result c.loop-j.j w.free_column-i.result c.loop-j.found.kept
                c.insert.new.self.kept w.insert-then-not-insert.new.self.kept
                c.insert.result w.insert-then-not-insert.result c.loop-j.invariant.0 (omega arith) c.loop-j-test.true
                w.free_column-i.ensures.below w.add_column.ensures.size
                w.if-not-insert.true (rw c.from.ensures at c.insert.ensures.fresh) (rw c.from.ensures at c.insert.ensures.kept)
                w.free_column-i.ensures.free w.add_column.ensures.changed w.add_column.ensures.others
                (rw (c.from.ensures, w.from-then-not-insert.ensures) at w.insert-then-not-insert.ensures.fresh)
                (rw (c.from.ensures, w.from-then-not-insert.ensures) at w.insert-then-not-insert.ensures.kept),
            w.insert-then-not-insert.ensures.size ∙ c.insert.ensures.size ∙ c.loop-j.invariant.1,
          )
      | else-not-insert w ↦
          rw (w.t-is, w.found-is) (
            turn_kept a c.loop-j.t c.m-m.result c.loop-j.j c.loop-j.found.kept c.insert.new.self.kept c.insert.result c.loop-j.invariant.0
                (omega arith) c.loop-j-test.true
                w.if-not-insert.false (rw c.from.ensures at c.insert.ensures.fresh) (rw c.from.ensures at c.insert.ensures.kept),
            c.insert.ensures.size ∙ c.loop-j.invariant.1,
          )
    ]

pub returns-clause-trailer : goal.returns-clause-trailer
returns-clause-trailer c =
    let a = c.args.a.now in
    let mn : c.m-m.result ≤ a.n = omega (arith, c.m-m.ensures, c.args.shape.now.keeps.memory, c.requires.size) in
    subst (λ (m : ℕ). IsTrailer a c.loop-j.t m) c.m-m.ensures
    (trailing_all a c.loop-j.t c.m-m.result c.loop-j.j c.loop-j.found.kept c.loop-j.invariant.0 (omega arith))

pub returns-clause-inverse : goal.returns-clause-inverse
returns-clause-inverse c =
    let a = c.args.a.now in
    let mn : c.m-m.result ≤ a.n = omega (arith, c.m-m.ensures, c.args.shape.now.keeps.memory, c.requires.size) in
    trailer_inverse a c.loop-j.t c.m-m.result
    (trailing_all a c.loop-j.t c.m-m.result c.loop-j.j c.loop-j.found.kept c.loop-j.invariant.0 (omega arith)) mn
