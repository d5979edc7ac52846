-- What is left of the sources in memory.
use Rattle.std.specs.Prelude.{ℕ, List, drop}
use Rattle.bm_memrack.specs.declared.mem_source.MemSource.{MemSource}
use Rattle.bm_memrack.specs.declared.mem_source.SureSource.{SureSource}

-- the bytes that were not given yet
abbrev pub mem_left : MemSource → List ℕ
mem_left s = drop s.unread.at s.unread.bytes.items

-- the same of a source that never fails
abbrev pub sure_left : SureSource → List ℕ
sure_left s = drop s.unread.at s.unread.bytes.items
