-- Commit pages: a page is an open gate, or it is closed.
use Rattle.std.specs.Prelude.{◌≡◌, List, ℕ, ◌++◌, replicate, codes}

-- the page of an open gate: the text BMMCOPEN and zeros
unfoldable pub open_gate : List ℕ
open_gate = codes "BMMCOPEN" ++ replicate 504 0

-- the page is an open gate
abbrev pub IsOpenGate : List ℕ → Type 0
IsOpenGate page = page ≡ open_gate

-- every other page is a closed one
abbrev pub IsClosedGate : List ℕ → Type 0
IsClosedGate page = ¬ IsOpenGate page
