-- The rows of a load.
use Rattle.std.proofs.Common.{◌≡◌, ℕ, ◌+◌, ◌-◌, ◌*◌, ◌^◌, ◌<◌, ◌≤◌, length, sym, ap, ◌∙◌, arith}
use Rattle.std.proofs.lemmas.Nat.{pow-add}
use Rattle.std.proofs.Math.Nat.{mul-le-mul_right}
use Rattle.std.proofs.Math.Pow.{pow_mono}
use Rattle.bm_base.specs.declared.shape.Shape.{Shape}
use Rattle.bm_base.specs.Shape.{load_stripes}
use Rattle.bm_bufs.specs.declared.tile_map.TileMap.{TileMap}
use Rattle.bm_bufs.specs.Bufs.{Lists, FitsShape}
use Rattle.bm_bufs.specs.TileMoves.{HasRoom}

-- the lists of a shape have room for tiles of at most a row
pub has_room : (s : Shape) (m : TileMap) (lists : Lists) → m.placing.a.n ≡ s.m → m.placing.width ≡ s.width
    → m.tile ≤ s.b + s.d → FitsShape s lists → HasRoom m lists
has_room s m lists size width tile fits =
    let load : length lists.load ≡ 2 ^ m.placing.a.n * m.placing.width = rw size (rw width fits.load) in
    let less : 2 ^ m.tile ≤ 2 ^ (s.b + s.d) = pow_mono {i = m.tile} {j = s.b + s.d} tile in
    let whole : 2 ^ m.tile * s.width ≤ 2 ^ (s.b + s.d) * s.width = mul-le-mul_right s.width less in
    record { load = load; row = rw width (rw fits.row whole) }
