use Rattle.std.proofs.Common.{◌≡◌, length}
use Rattle.bm_filerack.proofs.folder.Folder.disk_lengths.Given as goal

abbrev pub invariant-loop-disk : goal.invariant-loop-disk
invariant-loop-disk g l = record { whole : length l.lengths ≡ 64 }
