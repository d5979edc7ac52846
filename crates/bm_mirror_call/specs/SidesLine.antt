-- The line that tells which sides of a mirror are in.
use Rattle.std.specs.Prelude.{codes, ℕ, List, [], ◌∷◌, ◌++◌, if◌then◌else◌}
use Rattle.bm_mirror.specs.declared.sides.Sides.{Sides}

-- `sides`, the word of each side that is in, left first, and a line feed
abbrev pub sides_line : Sides → List ℕ
sides_line sides =
    codes "sides" ++ (if sides.left then codes " left" else []) ++ (if sides.right then codes " right" else []) ++ 10 ∷ []
