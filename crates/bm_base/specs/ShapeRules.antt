-- The rules that the numbers of a shape keep.
use Rattle.std.specs.Prelude.{ℕ, ◌+◌, ◌*◌, ◌^◌, ◌<◌, ◌≤◌, nat_lt, nat_le, if◌then◌else◌}

-- every rule is kept
pub record IsShape (n b d m width : ℕ) : Type 0 where
  -- rule 1
  pub addresses : n ≤ 52
  -- rule 2
  pub disks : d ≤ 6
  -- rule 3
  pub block : b < m
  -- rule 4
  pub stripe : b + d ≤ m
  -- rule 5
  pub memory : m ≤ n
  -- rule 6
  pub record_some : 1 ≤ width
  pub record_few : width ≤ 4096
  -- rule 7
  pub load : 2 ^ m * width ≤ 2 ^ 30
  -- rule 9
  pub disk : 3 * 2 ^ n * width ≤ 2 ^ (63 + d)

-- the number of the first rule that is broken, or 0 where none is
abbrev pub broken_rule : ℕ → ℕ → ℕ → ℕ → ℕ → ℕ
broken_rule n b d m width =
    if nat_lt 52 n then 1 else
    if nat_lt 6 d then 2 else
    if nat_le m b then 3 else
    if nat_lt m (b + d) then 4 else
    if nat_lt n m then 5 else
    if nat_lt width 1 then 6 else
    if nat_lt 4096 width then 6 else
    if nat_lt (2 ^ 30) (2 ^ m * width) then 7 else
    if nat_lt (2 ^ (63 + d)) (3 * 2 ^ n * width) then 9 else 0
