-- What a sink in memory took, and the room that is left.
use Rattle.std.specs.Prelude.{ℕ, ◌-◌, Bool, List, length, nat_eq}
use Rattle.bm_memrack.specs.declared.mem_sink.MemSink.{MemSink}

-- the bytes that were taken
abbrev pub taken_by : MemSink → List ℕ
taken_by s = s.bytes.items

-- how many more it takes
abbrev pub room_left : MemSink → ℕ
room_left s = s.room - length s.bytes.items

-- its room is used up
abbrev pub is_full : MemSink → Bool
is_full s = nat_eq (room_left s) 0
