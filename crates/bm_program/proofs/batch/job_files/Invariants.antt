use Rattle.std.proofs.Common.{◌≡◌, ◌≤◌, length, vec_len}
use Rattle.std.specs.Vec.{vec_capacity}
use Rattle.bm_program.proofs.batch.job_files.Given as goal

abbrev pub invariant-loop-path : goal.invariant-loop-path
invariant-loop-path g l = record {
  many : length l.files.items ≡ l.path-index;
  room : length l.paths ≤ vec_capacity l.files;
  len : vec_len l.files ≡ l.path-index;
}
