use Rattle.std.proofs.Common.{◌≡◌, ◌<◌, ℕ, None}
use Rattle.bm_rack.specs.Calls.{place_on, disk_bytes}
use Rattle.bm_filerack.proofs.disk_files.DiskFiles.read_row.Given as goal

abbrev pub invariant-loop-disk : goal.invariant-loop-disk
invariant-loop-disk g l = record {
  resting : (disk : ℕ) → disk < l.self.dims.disks → place_on l.places disk ≡ None
      → disk_bytes l.self.dims disk l.bytes ≡ disk_bytes l.self.dims disk l.fn.bytes;
}
