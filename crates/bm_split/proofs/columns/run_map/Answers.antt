use Rattle.std.proofs.Common.{◌+◌, ◌-◌, ◌<◌, slice_index, refl, arith}
use Rattle.bm_split.proofs.RunMapLemmas.{put_back, run_basis, run_columns_more}
use Rattle.bm_split.proofs.columns.run_map.Goals as goal

pub loop-i-preserved : goal.loop-i-preserved
loop-i-preserved c =
    let n = c.args.n in
    let low = c.args.low in
    let i = c.loop-i.i in
    let tops = c.args.tops.now in
    let l : i < n - low = omega arith in
    let b = put_back (slice_index tops i) n low c.requires.few (omega arith) (c.requires.below i l) in
    rw (c.from-in-loop-i.ensures, c.from.ensures, b.0)
    (run_columns_more n low i (low + i) _ tops c.loop-i.cols c.loop-i.invariant refl (omega arith) c.requires.few refl b.1)

pub returns-clause-runs : goal.returns-clause-runs
returns-clause-runs c =
    let inv = c.loop-i.invariant in
    run_basis _ c.args.low c.args.tops.now c.requires.low (record {
      units = inv.units;
      others = λ i l. inv.others i (omega arith);
    })
