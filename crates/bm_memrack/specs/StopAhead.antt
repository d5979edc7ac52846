-- A stop that is set ahead.
use Rattle.std.specs.Prelude.{ℕ, ◌-◌, Bool, false, Option, Some, None, nat_eq}

-- A stop ahead is the number of calls that go their way before it; it was reached where none is left.
abbrev pub is_stopped : Option ℕ → Bool
is_stopped None = false
is_stopped (Some left) = nat_eq left 0

-- the same stop after one more call
abbrev pub next_stop : Option ℕ → Option ℕ
next_stop None = None
next_stop (Some left) = Some (left - 1)
