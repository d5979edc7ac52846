-- What a pass means, and which passes a shape has.
use Rattle.std.specs.Prelude.{ℕ, ◌≡◌, ◌≢◌, ◌≤◌, List}
use Rattle.bm_base.specs.declared.shape.Shape.{Shape}
use Rattle.bm_base.specs.Butterfly.{butterflies}
use Rattle.bm_forms.specs.declared.pass_form.PassForm.{PassForm}
use Rattle.bm_forms.specs.Permutation.{permuted}

-- the butterflies on the bits below `low`, then the permutation by the map
abbrev pub passed : PassForm → (ℕ → List ℕ) → ℕ → List ℕ
passed p xs = permuted p.map.map (butterflies p.low xs)

-- a pass of a shape: its map is for the shape's addresses, blocks and loads, and butterflies stay within a load of numbers
pub record IsOfShape (s : Shape) (p : PassForm) : Type 0 where
  pub addresses : p.map.map.a.n ≡ s.n
  pub block : p.map.b ≡ s.b
  pub memory : p.map.m ≡ s.m
  pub low : p.low ≤ s.m
  pub width : s.width ≢ 8 → p.low ≡ 0
