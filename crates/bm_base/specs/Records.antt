-- Records of an area, and lists of records. Such a list is a function of the address, of which the values below its length count.
use Rattle.std.specs.Prelude.{◌≡◌, ℕ, zero, suc, ◌+◌, ◌/◌, ◌%◌, ◌^◌, ◌<◌, List, [], ◌++◌}
use Rattle.std.specs.Fork.{slice_chunk}
use Rattle.bm_base.specs.declared.shape.Shape.{Shape}
use Rattle.bm_base.specs.declared.area.Area.{Area}
use Rattle.bm_base.specs.Contents.{Contents, block_at}
use Rattle.bm_base.specs.Area.{area_start}

-- Record x of an area: it lies in the block on disk x / B mod D, at the place x / BD of the area, at offset x mod B.
abbrev pub record_at : Contents → Shape → Area → ℕ → List ℕ
record_at c s area x =
    slice_chunk (block_at c (x / 2 ^ s.b % 2 ^ s.d) (area_start s area + x / 2 ^ s.b / 2 ^ s.d)) s.width (x % 2 ^ s.b)

-- record i of some bytes
abbrev pub record_in : Shape → List ℕ → ℕ → List ℕ
record_in s bytes i = slice_chunk bytes s.width i

-- the first `count` records of both are the same
abbrev pub SameRecords : ℕ → (ℕ → List ℕ) → (ℕ → List ℕ) → Type 0
SameRecords count xs ys = (x : ℕ) → x < count → xs x ≡ ys x

-- the bytes of the first `count` records in order of address
unfoldable pub bytes_of : ℕ → (ℕ → List ℕ) → List ℕ
bytes_of zero xs = []
bytes_of (suc x) xs = bytes_of x xs ++ xs x
