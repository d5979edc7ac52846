-- The names of a rack's files.
use Rattle.std.specs.Prelude.{ℕ, ◌+◌, ◌/◌, ◌%◌, List, [], ◌∷◌, ◌++◌, codes}

-- what the path of a disk's file ends with: its number with two decimal digits
abbrev pub disk_name : ℕ → List ℕ
disk_name disk = codes "disk-" ++ (48 + disk / 10) ∷ (48 + disk % 10) ∷ []

-- what the paths of the files of a bay begin with: its number with two decimal digits
abbrev pub bay_front : ℕ → List ℕ
bay_front number = codes "bmmc-bay-" ++ (48 + number / 10) ∷ (48 + number % 10) ∷ codes "-"
