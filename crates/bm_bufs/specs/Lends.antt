-- What the buffers end as, where one of their lists was lent for writing.
use Rattle.std.specs.Prelude.{ℕ, List}
use Rattle.std.specs.Borrow.{Lends, Fml, MutBor, Array, u8}
use Rattle.bm_bufs.specs.Bufs.{Lists, with_load, with_row}
use Rattle.bm_bufs.specs.contracts.bufs.Bufs.{the_row}

-- once the borrow ends, the load list has the bytes that it shows last
abbrev pub LendsLoad : MutBor Lists → MutBor (List ℕ) → Fml
LendsLoad bufs bytes = Lends the_row (Array u8 0) bufs bytes (with_load bufs.now)

-- the same of the row list
abbrev pub LendsRow : MutBor Lists → MutBor (List ℕ) → Fml
LendsRow bufs bytes = Lends the_row (Array u8 0) bufs bytes (with_row bufs.now)
