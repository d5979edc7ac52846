use Rattle.std.proofs.Common.{ℕ, ◌≡◌, ◌<◌, ◌≤◌, ◌^◌, ◌∙◌, sym, ap, subst, arith}
use Rattle.bm_gf2.specs.Matrix.{image, column}
use Rattle.bm_forms.proofs.MldLemmas.{nonsingular_after, nonsingular_of_involution}
use Rattle.bm_factor.specs.Columns.{product}
use Rattle.bm_factor.proofs.ColumnLemmas.{unchanged_low}
use Rattle.bm_factor.proofs.FactoredLemmas.{split_of_inverses, undone_low, block-ext, column_kept, reduced_count}
use Rattle.bm_factor.proofs.factoring.reduced.Goals as goal

pub returns-clause-split : goal.returns-clause-split
returns-clause-split c =
    let t = c.trailer-t.ensures.trailer in
    let r = c.reducer-r.ensures.reducer in
    let undo = c.in-Ok.ensures.undone in
    split_of_inverses c.args.a.now c.trailer-t.result c.reducer-r.result c.in-Ok.undo c.mul-with_block.result c.mul.result c.mul-2.result
    c.requires.nonsingular t.size (r.size ∙ c.mul-with_block.ensures.size) c.mul-with_block.ensures.size
    (c.mul.ensures.size ∙ c.mul-with_block.ensures.size) (c.mul-2.ensures.size ∙ undo.size ∙ r.size ∙ c.mul-with_block.ensures.size)
    c.trailer-t.ensures.inverse undo c.mul-with_block.ensures.composes c.mul.ensures.composes c.mul-2.ensures.composes

pub returns-clause-stays : goal.returns-clause-stays
returns-clause-stays c =
    let t = c.trailer-t.ensures.trailer in
    let r = c.reducer-r.ensures.reducer in
    let m : ℕ = c.args.shape.now.m in
    let tn : m ≤ c.trailer-t.result.n = omega (arith, t.size, c.args.shape.now.keeps.memory, c.requires.size) in
    let rn : m ≤ c.reducer-r.result.n = omega
    (arith, r.size, c.mul-with_block.ensures.size, c.args.shape.now.keeps.memory, c.requires.size) in
    λ x h.
    let same : image c.trailer-t.result x ≡ x = unchanged_low c.trailer-t.result m x tn t.kept h in
    subst (λ (v : ℕ). v < 2 ^ m) (sym (c.mul-2.ensures.composes x ∙ ap (image c.in-Ok.undo) same))
    (undone_low c.reducer-r.result c.in-Ok.undo m x rn c.in-Ok.ensures.undone r.within
    (λ j p l. r.kept j p (subst (λ k. j < k) r.size l)) h)

pub returns-clause-trailing : goal.returns-clause-trailing
returns-clause-trailing c =
    let a = c.args.a.now in
    let t = c.trailer-t.ensures.trailer in
    let r = c.reducer-r.ensures.reducer in
    let size : c.mul-with_block.result.n ≡ a.n = c.mul-with_block.ensures.size in
    block-ext (column c.mul.result) (product a c.trailer-t.result) a.n c.args.shape.now.m
    (λ j p q.
    column_kept c.mul-with_block.result c.reducer-r.result c.mul.result j c.mul.ensures.size c.mul.ensures.columns (omega arith)
    (r.kept j p (omega arith))
    ∙ c.mul-with_block.ensures.columns j (omega arith))
    t.trailing

pub returns-clause-count : goal.returns-clause-count
returns-clause-count c =
    let a = c.args.a.now in
    let size : c.mul-with_block.result.n ≡ a.n = c.mul-with_block.ensures.size in
    let mn : c.args.shape.now.m ≤ a.n = omega (arith, c.args.shape.now.keeps.memory, c.requires.size) in
    let with_block = nonsingular_after a c.trailer-t.result c.mul-with_block.result (sym size)
    (c.trailer-t.ensures.trailer.size ∙ sym size) c.mul-with_block.ensures.composes c.requires.nonsingular
    (nonsingular_of_involution c.trailer-t.result c.trailer-t.ensures.inverse) in
    reduced_count a c.trailer-t.result c.mul-with_block.result c.reducer-r.result c.mul.result c.args.shape.now.m
    c.trailer-t.ensures.trailer c.reducer-r.ensures.reducer mn c.requires.nonsingular with_block size
    (c.mul.ensures.size ∙ size) c.mul-with_block.ensures.columns c.mul.ensures.columns
