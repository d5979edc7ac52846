-- What a pass makes of the target area, a load at a time.
use Rattle.std.specs.Prelude.{ℕ, ◌≡◌, ◌+◌, ◌*◌, ◌^◌, ◌<◌}
use Rattle.bm_base.specs.declared.shape.Shape.{Shape}
use Rattle.bm_base.specs.declared.area.Area.{Area}
use Rattle.bm_base.specs.Contents.{Contents, RackUnit}
use Rattle.bm_base.specs.Records.{record_at}
use Rattle.bm_gf2.specs.Affine.{affine_image}
use Rattle.bm_forms.specs.declared.pass_form.PassForm.{PassForm}
use Rattle.bm_forms.specs.PassForm.{passed}
use Rattle.bm_stripe.specs.Units.{record_unit}

-- where the pass sends record i of a load
abbrev pub target : Shape → PassForm → ℕ → ℕ → ℕ
target s p load i = affine_image p.map.map (2 ^ s.m * load + i)

-- where the pass sends the records of one load, the area `to` of `new` has the records that the pass makes of the area `from` of `old`
abbrev pub LoadMoved : Shape → PassForm → Area → Area → ℕ → Contents → Contents → Type 0
LoadMoved s p from to load old new =
    (i : ℕ) → i < 2 ^ s.m → record_at new s to (target s p load i) ≡ passed p (record_at old s from) (target s p load i)

-- the same of all loads below `loads`
abbrev pub LoadsMoved : Shape → PassForm → Area → Area → ℕ → Contents → Contents → Type 0
LoadsMoved s p from to loads old new =
    (x : ℕ) → x < 2 ^ s.m * loads
    → record_at new s to (affine_image p.map.map x) ≡ passed p (record_at old s from) (affine_image p.map.map x)

-- a block that holds such a record of one load
abbrev pub IsTargetUnit : Shape → PassForm → Area → ℕ → RackUnit → Type 0
IsTargetUnit s p to load u = (i : ℕ) × (i < 2 ^ s.m) × (u ≡ record_unit s to (target s p load i))
