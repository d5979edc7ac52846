use Rattle.std.proofs.Common.{◌<◌, sym, subst, arith}
use Rattle.bm_factor.specs.Trailer.{IsTrailer}
use Rattle.bm_split.proofs.RunMapLemmas.{run_map_keeps, cut_constant}
use Rattle.bm_split.proofs.TilingLemmas.{outer_near, outer_nonsingular, constant_near}
use Rattle.bm_split.proofs.splitting.outer_placing.Goals as goal

pub returns-clause-runs : goal.returns-clause-runs
returns-clause-runs c =
    let p = c.args.placing.now in
    let low = c.args.low in
    let r = c.run_map.result in
    run_map_keeps r low _ c.trailing_columns.result (subst (λ k. low < k) (sym c.run_map.ensures.size) c.requires.low)
    c.run_map.ensures.columns
    (cut_constant p.plus p.a.n low p.a.few (omega (arith, c.requires.low)) c.requires.plus).0

pub returns-clause-nonsingular : goal.returns-clause-nonsingular
returns-clause-nonsingular c =
    let a = c.args.placing.now.a in
    let t = c.trailer.result in
    outer_nonsingular a t c.mul-changed.result c.run_map.result c.args.low c.trailing_columns.result c.requires.low
    c.mul-changed.ensures.size
    c.run_map.ensures.size (subst (λ m. IsTrailer a t m) (sym c.requires.run) c.trailer.ensures.trailer) c.mul-changed.ensures.columns
    c.trailing_columns.ensures.columns c.run_map.ensures.columns

pub returns-clause-near : goal.returns-clause-near
returns-clause-near c =
    let a = c.args.placing.now.a in
    let t = c.trailer.result in
    outer_near a t c.mul-changed.result c.run_map.result c.args.low c.trailing_columns.result c.requires.low c.mul-changed.ensures.size
    c.run_map.ensures.size (subst (λ m. IsTrailer a t m) (sym c.requires.run) c.trailer.ensures.trailer) c.mul-changed.ensures.columns
    c.trailing_columns.ensures.columns c.run_map.ensures.columns

pub returns-clause-constant : goal.returns-clause-constant
returns-clause-constant c =
    let p = c.args.placing.now in
    constant_near p.plus p.a.n c.args.low p.a.few (omega (arith, c.requires.low)) c.requires.plus
