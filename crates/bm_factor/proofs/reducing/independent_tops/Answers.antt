use Rattle.std.proofs.Common.{ℕ, ◌≡◌, ◌+◌, ◌/◌, ◌^◌, ◌<◌, ◌≤◌, ◌∙◌, refl, ap, subst, length, length-append, slice_index, [], ◌∷◌, ◌++◌}
use Rattle.std.proofs.Common.{arith}
use Rattle.std.proofs.lemmas.List.{length-set}
use Rattle.bm_gf2.specs.Matrix.{column}
use Rattle.bm_factor.proofs.InsertLemmas.{insert_same}
use Rattle.bm_factor.proofs.ReducerLemmas.{IsReducing, reducing_none}
use Rattle.bm_factor.proofs.ReducerTurnLemmas.{few_kept, turn_fresh, turn_known, turn_below, reducing_all, reducing_nonsingular}
use Rattle.bm_factor.proofs.reducing.independent_tops.Goals.{then-insert, else-insert}
use Rattle.bm_factor.proofs.reducing.independent_tops.Goals as goal
use Rattle.bm_base.proofs.PowerLemmas.{cut_below}

pub loop-j-init : goal.loop-j-init
loop-j-init c =
    rw c.new-found.ensures.empty (
      reducing_none c.args.a.now c.identity-r.result c.args.m (slice_index c.no_columns-pivots.result) c.identity-r.ensures.size
          c.identity-r.ensures.columns,
      c.new-found.ensures.size,
      refl,
      c.no_columns-pivots.ensures.long,
      c.identity-r.ensures.size,
    )

pub insert-requires : goal.insert-requires
insert-requires c =
    let a = c.args.a.now in
    let inside : c.loop-j.j < a.n = omega (arith, c.requires.m) in
    rw (c.from.ensures, c.loop-j.invariant.1) (cut_below a.n c.args.m (column a c.loop-j.j) c.requires.m (a.below c.loop-j.j inside))

pub bounds-pivots-from : goal.bounds-pivots-from
bounds-pivots-from c =
    let a = c.args.a.now in
    let k = few_kept a c.loop-j.r c.args.m c.loop-j.j c.loop-j.found.kept (slice_index c.loop-j.pivots) c.loop-j.invariant.0 in
    omega (arith, a.few, c.requires.m, c.loop-j.invariant.2, c.from-then-insert.ensures)

pub overflow_add-count : goal.overflow_add-count
overflow_add-count c =
    let a = c.args.a.now in
    let k = few_kept a c.loop-j.r c.args.m c.loop-j.j c.loop-j.found.kept (slice_index c.loop-j.pivots) c.loop-j.invariant.0 in
    omega (arith, a.few, c.requires.m, c.loop-j.invariant.2)

pub combination-requires : goal.combination-requires
combination-requires c =
    let a = c.args.a.now in
    let inside : c.loop-j.j < a.n = omega (arith, c.requires.m) in
    rw (c.from.ensures, c.insert.ensures.size, c.loop-j.invariant.1)
    (cut_below a.n c.args.m (column a c.loop-j.j) c.requires.m (a.below c.loop-j.j inside))

pub sum_of_columns-requires : goal.sum_of_columns-requires
sum_of_columns-requires c =
    let a = c.args.a.now in
    let k = few_kept a c.loop-j.r c.args.m c.loop-j.j c.loop-j.found.kept (slice_index c.loop-j.pivots) c.loop-j.invariant.0 in
    omega (arith, a.few, c.requires.m, c.loop-j.invariant.2)

pub with_column-r-requires-clause-below : goal.with_column-r-requires-clause-below
with_column-r-requires-clause-below c =
    let a = c.args.a.now in
    let inside : c.loop-j.j < a.n = omega (arith, c.requires.m) in
    turn_below a c.loop-j.r c.args.m c.loop-j.j c.loop-j.found.kept c.loop-j.pivots c.loop-j.count c.unwrap-set.result
    c.sum_of_columns.result c.loop-j.invariant.0 inside c.loop-j.invariant.2 c.sum_of_columns.ensures.value

pub loop-j-preserved : goal.loop-j-preserved
loop-j-preserved c =
    let a = c.args.a.now in
    let inside : c.loop-j.j < a.n = omega (arith, c.requires.m) in
    let room : a.n ≤ length a.cols = omega (arith, a.few) in
    elim c.if-insert.branch [
      | then-insert w ↦
          let kept2 : c.insert.new.self.kept ≡ c.loop-j.found.kept ++ (slice_index a.cols c.from.result / 2 ^ c.args.m) ∷ [] =
          rw w.if-insert.true at c.insert.ensures.kept in
          rw (w.r-is, w.pivots-is, w.count-is) (
            turn_fresh a c.loop-j.r c.args.m c.loop-j.j c.loop-j.found.kept c.insert.new.self.kept c.loop-j.pivots c.from.result
                c.loop-j.count w.from-then-insert.result c.insert.result c.loop-j.invariant.0 inside room c.from.ensures
                c.insert.ensures.fresh c.insert.ensures.kept w.if-insert.true c.loop-j.invariant.2 w.from-then-insert.ensures
                c.loop-j.invariant.3,
            c.insert.ensures.size ∙ c.loop-j.invariant.1,
            ap length kept2 ∙ length-append c.loop-j.found.kept _ ∙ ap (λ (k : ℕ). k + 1) c.loop-j.invariant.2,
            length-set c.loop-j.pivots _ _ ∙ c.loop-j.invariant.3,
            c.loop-j.invariant.4,
          )
      | else-insert w ↦
          let same : c.insert.new.self.kept ≡ c.loop-j.found.kept =
          insert_same c.loop-j.found.kept c.insert.new.self.kept _ c.insert.result c.insert.ensures.kept w.if-insert.false in
          rw (w.r-is, w.pivots-is, w.count-is) (
            turn_known a c.loop-j.r w.with_column-r.result c.args.m c.loop-j.j c.loop-j.found.kept c.insert.new.self.kept c.loop-j.pivots
                c.from.result c.loop-j.count w.unwrap-set.result w.sum_of_columns.result c.insert.result c.loop-j.invariant.0 inside room
                c.from.ensures c.insert.ensures.fresh c.insert.ensures.kept w.if-insert.false c.loop-j.invariant.2
                (rw w.unwrap-set.ensures at w.combination.ensures.sum) w.sum_of_columns.ensures.value w.with_column-r.ensures.size
                w.with_column-r.ensures.changed w.with_column-r.ensures.others,
            c.insert.ensures.size ∙ c.loop-j.invariant.1,
            ap length same ∙ c.loop-j.invariant.2,
            c.loop-j.invariant.3,
            w.with_column-r.ensures.size ∙ c.loop-j.invariant.4,
          )
    ]

pub returns-clause-reducer : goal.returns-clause-reducer
returns-clause-reducer c =
    let a = c.args.a.now in
    let room : a.n ≤ length a.cols = omega (arith, a.few) in
    let all : c.loop-j.j ≡ c.args.m = omega arith in
    reducing_all a c.loop-j.r c.args.m c.loop-j.found.kept (slice_index c.loop-j.pivots)
    (subst (λ (j : ℕ). IsReducing a c.loop-j.r c.args.m j c.loop-j.found.kept (slice_index c.loop-j.pivots)) all c.loop-j.invariant.0)
    c.requires.m room

pub returns-clause-nonsingular : goal.returns-clause-nonsingular
returns-clause-nonsingular c =
    let a = c.args.a.now in
    let all : c.loop-j.j ≡ c.args.m = omega arith in
    reducing_nonsingular a c.loop-j.r c.args.m c.loop-j.found.kept (slice_index c.loop-j.pivots)
    (subst (λ (j : ℕ). IsReducing a c.loop-j.r c.args.m j c.loop-j.found.kept (slice_index c.loop-j.pivots)) all c.loop-j.invariant.0)
