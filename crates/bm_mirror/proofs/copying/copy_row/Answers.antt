use Rattle.std.proofs.Common.{arith}
use Rattle.bm_rack.proofs.FrameLemmas.{ChangesOnly-wider}
use Rattle.bm_mirror.proofs.HealLemmas.{in_place, entry}
use Rattle.bm_mirror.proofs.copying.copy_row.Goals as goal

pub returns-clause-changes : goal.returns-clause-changes
returns-clause-changes g c =
    ChangesOnly-wider _ _ _ _
    (in_place c.args.dims.now.disks c.args.place c.same_places-all.result c.same_places-all.ensures.length (omega arith)
    c.same_places-all.ensures.each) c.copy_blocks.ensures.changes

pub returns-clause-copied : goal.returns-clause-copied
returns-clause-copied g c from_told to_told ok disk below =
    c.copy_blocks.ensures.copied from_told to_told ok c.args.dims.now c.requires.from_ready c.requires.to_ready disk c.args.place below
    (entry c.args.dims.now.disks c.args.place c.same_places-all.result c.same_places-all.ensures.length (omega arith)
    c.same_places-all.ensures.each disk below)
