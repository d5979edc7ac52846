use Rattle.std.proofs.Common.{◌∙◌, ◌<◌, ◌≤◌, ◌^◌, sym, ap, subst}
use Rattle.std.proofs.lemmas.Grind.{merely}
use Rattle.bm_gf2.specs.Matrix.{image}
use Rattle.bm_split.proofs.StepLemmas.{has_origin}
use Rattle.bm_split.proofs.TilingLemmas.{keeps_tiles_of}
use Rattle.bm_split.proofs.tiling.tile_map.Goals as goal

pub unreachable-requires : goal.unreachable-requires
unreachable-requires c =
    let kernel = c.in_default.ensures.undone in
    kernel.some (c.requires.nonsingular c.in_default.field-0.x kernel.below kernel.sent)

pub invariant_of-result-clause-tiles : goal.invariant_of-result-clause-tiles
invariant_of-result-clause-tiles c =
    let p = c.args.placing.now in
    let home = c.args.home.now in
    let basis = c.args.basis.now in
    let numbers = c.in-Ok.numbers in
    let inverse = c.in-Ok.ensures.undone in
    keeps_tiles_of home basis numbers c.mul.result c.mul-back.result p.plus c.apply-2.result c.args.tile
    (c.requires.home_size ∙ sym c.requires.basis_size) (c.mul-back.ensures.size ∙ inverse.size)
    (subst (λ k. c.args.tile ≤ k) (sym c.requires.basis_size) c.requires.tile) inverse c.mul.ensures.composes c.mul-back.ensures.composes
    (c.apply-2.ensures.value ∙ ap (image numbers) c.apply.ensures.value)
    (λ y l. c.requires.moves y (subst (λ k. y < 2 ^ k) c.requires.basis_size l)) c.requires.start

pub invariant_of-result-clause-origins : goal.invariant_of-result-clause-origins
invariant_of-result-clause-origins c =
    let p = c.args.placing.now in
    let numbers = c.in-Ok.numbers in
    λ y l.
    merely
    (has_origin p.a c.args.home.now c.args.basis.now numbers c.mul.result c.mul-back.result p.plus c.apply-2.result y
    c.requires.basis_size c.requires.home_size c.in-Ok.ensures.undone c.requires.home c.mul.ensures.composes c.mul-back.ensures.composes
    (c.apply-2.ensures.value ∙ ap (image numbers) c.apply.ensures.value) c.requires.plus l)
