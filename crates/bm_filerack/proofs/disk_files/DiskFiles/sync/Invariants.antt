use Rattle.std.proofs.Common.{◌≡◌, ◌<◌, ℕ, false, slice_get, IfSome}
use Rattle.bm_filerack.proofs.disk_files.DiskFiles.sync.Given as goal

abbrev pub invariant-loop-disk : goal.invariant-loop-disk
invariant-loop-disk g l = (disk : ℕ) → disk < l.disk-index → IfSome (slice_get l.disk-items disk) (λ file. file.is_written ≡ false)
