use Rattle.std.proofs.Common.{◌<◌, ◌≤◌, sym, subst, arith}
use Rattle.bm_split.proofs.RunMapLemmas.{run_map_same}
use Rattle.bm_split.proofs.TileBasisLemmas.{images_in_tile, basis_nonsingular}
use Rattle.bm_split.proofs.tiling.tile_basis.Goals as goal

pub returns-clause-lows : goal.returns-clause-lows
returns-clause-lows c =
    let basis = c.run_map.result in
    λ v l. run_map_same basis c.args.low v c.independent_ones.result (subst (λ k. c.args.low < k) (sym c.run_map.ensures.size) c.requires)
    c.run_map.ensures.columns l

pub returns-clause-nonsingular : goal.returns-clause-nonsingular
returns-clause-nonsingular c =
    let a = c.args.a.now in
    let few : a.n ≤ 52 = a.few in
    basis_nonsingular a.n c.args.low c.run_map.result c.run_vectors-vectors.result c.independent_ones.result c.requires few (omega arith)
    (omega arith) c.run_map.ensures.size c.run_map.ensures.columns c.run_vectors-vectors.ensures.units c.independent_ones.ensures.below
    (c.independent_ones.ensures.bases a.n (omega arith))

pub returns-clause-images : goal.returns-clause-images
returns-clause-images c =
    let a = c.args.a.now in
    let few : a.n ≤ 52 = a.few in
    images_in_tile a c.run_map.result c.args.low c.run_vectors-vectors.result c.independent_ones.result c.requires (omega arith)
    (omega arith)
    (omega arith) c.run_map.ensures.size c.run_map.ensures.columns c.run_vectors-vectors.ensures.cut
    (c.independent_ones.ensures.bases c.args.low (omega (arith, c.requires)))
