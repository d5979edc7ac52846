-- A list of records that a pass writes to the target area, a load at a time.
use Rattle.std.specs.Prelude.{ℕ, ◌≡◌, ◌+◌, ◌*◌, ◌^◌, ◌<◌, List}
use Rattle.bm_base.specs.declared.shape.Shape.{Shape}
use Rattle.bm_base.specs.declared.area.Area.{Area}
use Rattle.bm_base.specs.Contents.{Contents}
use Rattle.bm_base.specs.Records.{record_at}
use Rattle.bm_gf2.specs.Affine.{affine_image}
use Rattle.bm_forms.specs.declared.pass_form.PassForm.{PassForm}
use Rattle.bm_pass.specs.LoadMove.{target}

-- each record of one load of the list stands where the pass sends it
abbrev pub ListMoved : Shape → PassForm → Area → ℕ → (ℕ → List ℕ) → Contents → Type 0
ListMoved s p to load xs new = (i : ℕ) → i < 2 ^ s.m → record_at new s to (target s p load i) ≡ xs (2 ^ s.m * load + i)

-- the same of all loads below `loads`
abbrev pub ListsMoved : Shape → PassForm → Area → ℕ → (ℕ → List ℕ) → Contents → Type 0
ListsMoved s p to loads xs new = (x : ℕ) → x < 2 ^ s.m * loads → record_at new s to (affine_image p.map.map x) ≡ xs x
