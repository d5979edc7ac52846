-- A page that is filled from its front.
use Rattle.std.specs.Prelude.{◌≡◌, ℕ, ◌-◌, ◌≤◌, List, length, drop, replicate}

-- zeros stand from this place of the page on
pub record IsFront (len : ℕ) (bytes : List ℕ) : Type 0 where
  pub within : len ≤ 512
  pub size : length bytes ≡ 512
  pub zeros : drop len bytes ≡ replicate (512 - len) 0
