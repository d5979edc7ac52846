use Rattle.std.proofs.Common.{◌≡◌, take}
use Rattle.bm_speed.specs.Checksum.{fnv1a}
use Rattle.bm_speed.proofs.checksum.checksum.Given as goal

-- the hash of the bytes so far
abbrev pub invariant-loop-byte : goal.invariant-loop-byte
invariant-loop-byte l = l.hash ≡ fnv1a (take l.byte-index l.bytes)
