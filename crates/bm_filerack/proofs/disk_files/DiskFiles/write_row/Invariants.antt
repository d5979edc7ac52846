use Rattle.std.proofs.Common.{◌≡◌}
use Rattle.bm_filerack.proofs.disk_files.DiskFiles.write_row.Given as goal

abbrev pub invariant-loop-disk : goal.invariant-loop-disk
invariant-loop-disk g l = record { same : l.self.dims ≡ l.fn.self.dims }
