-- Bases that are the first ones of a list.
use Rattle.std.specs.Prelude.{ℕ, ◌≤◌, List, take}
use Rattle.bm_rank.specs.Rank.{IsBasis}

-- the first few of `ones` are a basis of the span of the vectors
pub record HasBasis (ones ws : List ℕ) : Type 0 where
  pub number : ℕ
  pub few : number ≤ 52
  pub is : IsBasis (take number ones) ws
