use Rattle.std.proofs.Common.{◌≡◌, length}
use Rattle.bm_filerack.proofs.folder.Folder.open_files.Given as goal

abbrev pub invariant-loop-disk : goal.invariant-loop-disk
invariant-loop-disk g l = record { opened : length l.disks.items ≡ l.disk }
