use Rattle.std.proofs.Common.{ℕ, ◌≡◌, ◌<◌, ◌≤◌, ◌^◌, ◌∙◌, sym, subst, arith}
use Rattle.std.proofs.lemmas.Nat.{pow_below}
use Rattle.bm_gf2.specs.Matrix.{column}
use Rattle.bm_forms.proofs.MldLemmas.{covered_after}
use Rattle.bm_factor.proofs.FactoredLemmas.{split_of_involutions, block-ext, column_kept, stays_low, erased_count}
use Rattle.bm_factor.proofs.factoring.erased.Goals as goal

pub eraser-e-requires-clause-trailing : goal.eraser-e-requires-clause-trailing
eraser-e-requires-clause-trailing c =
    let a = c.args.a.now in
    let s = c.swapper-s.ensures.swapper in
    let size : c.mul-swapped.result.n ≡ a.n = c.mul-swapped.ensures.size in
    block-ext (column c.mul-swapped.result) (column a) c.mul-swapped.result.n c.args.shape.now.m
    (λ j p q. column_kept a c.swapper-s.result c.mul-swapped.result j size c.mul-swapped.ensures.columns (omega arith)
    (s.kept j p (omega arith)))
    (rw size c.requires.trailing)

pub returns-clause-split : goal.returns-clause-split
returns-clause-split c =
    let s = c.swapper-s.ensures.swapper in
    let e = c.eraser-e.ensures.eraser in
    split_of_involutions c.args.a.now c.swapper-s.result c.eraser-e.result c.mul-swapped.result c.mul.result c.mul-2.result
    c.requires.nonsingular s.size (e.size ∙ c.mul-swapped.ensures.size) c.mul-swapped.ensures.size
    (c.mul.ensures.size ∙ c.mul-swapped.ensures.size) (c.mul-2.ensures.size ∙ e.size ∙ c.mul-swapped.ensures.size)
    c.swapper-s.ensures.inverse c.eraser-e.ensures.inverse c.mul-swapped.ensures.composes c.mul.ensures.composes c.mul-2.ensures.composes

pub returns-clause-covered : goal.returns-clause-covered
returns-clause-covered c =
    let s = c.swapper-s.ensures.swapper in
    let m : ℕ = c.args.shape.now.m in
    let sn : m ≤ c.swapper-s.result.n = omega (arith, s.size, c.args.shape.now.keeps.memory, c.requires.size) in
    covered_after c.eraser-e.result c.swapper-s.result c.mul-2.result c.args.shape.now.b m c.mul-2.ensures.composes
    (λ x h. stays_low c.swapper-s.result m x sn
    (λ j l. let x = s.exchanged j l in subst (λ (v : ℕ). v < 2 ^ m) (sym x.is) (pow_below x.with m x.below)) h)
    c.eraser-e.ensures.mld.1

pub returns-clause-trailing : goal.returns-clause-trailing
returns-clause-trailing c =
    let a = c.args.a.now in
    let s = c.swapper-s.ensures.swapper in
    let e = c.eraser-e.ensures.eraser in
    let size : c.mul-swapped.result.n ≡ a.n = c.mul-swapped.ensures.size in
    block-ext (column c.mul.result) (column a) a.n c.args.shape.now.m
    (λ j p q.
    column_kept c.mul-swapped.result c.eraser-e.result c.mul.result j c.mul.ensures.size c.mul.ensures.columns (omega arith)
    (e.kept j p (omega arith))
    ∙ column_kept a c.swapper-s.result c.mul-swapped.result j size c.mul-swapped.ensures.columns (omega arith) (s.kept j p (omega arith)))
    c.requires.trailing

pub returns-clause-count : goal.returns-clause-count
returns-clause-count c =
    let a = c.args.a.now in
    let size : c.mul-swapped.result.n ≡ a.n = c.mul-swapped.ensures.size in
    let mn : c.args.shape.now.m ≤ a.n = omega (arith, c.args.shape.now.keeps.memory, c.requires.size) in
    erased_count a c.swapper-s.result c.mul-swapped.result c.eraser-e.result c.mul.result c.args.shape.now.b c.args.shape.now.m
    c.swapper-s.ensures.swapper c.eraser-e.ensures.eraser c.args.shape.now.keeps.block mn size (c.mul.ensures.size ∙ size)
    c.mul-swapped.ensures.columns c.mul.ensures.columns
