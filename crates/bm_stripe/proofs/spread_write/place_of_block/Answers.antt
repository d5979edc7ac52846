use Rattle.std.proofs.Common.{◌≡◌, ℕ, ◌+◌, ◌-◌, ◌*◌, ◌%◌, ◌^◌, ◌<◌, ◌∙◌, ap, arith}
use Rattle.bm_base.specs.declared.shape.Shape.{Shape}
use Rattle.bm_base.specs.Shape.{stripes, load_stripes}
use Rattle.bm_base.proofs.ShapeLemmas.{load_in_area, stripes_fit}
use Rattle.bm_gf2.specs.Spread.{spread_value}
use Rattle.bm_stripe.proofs.UnitLemmas.{block_number_fits, block_number_below}
use Rattle.bm_stripe.proofs.spread_write.place_of_block.Goals as goal

-- the shift wraps nothing
shifted : (s : Shape) (row disk d : ℕ) → d ≡ s.d → row < load_stripes s → disk < 2 ^ s.d
    → row * 2 ^ d % 2 ^ 64 + disk ≡ row * 2 ^ s.d + disk
shifted s row disk d same in_rows in_disks = rw same (omega (arith, block_number_fits s row disk in_rows in_disks))

-- a row of a load lies in the area
in_area : (s : Shape) (load row : ℕ) → load < 2 ^ (s.n - s.m) → row < load_stripes s → load * load_stripes s + row < stripes s
in_area s load row in_loads in_rows = omega (arith, load_in_area s load in_loads)

-- the same of the load that the spread gives for a block
spread_in_area : (s : Shape) (value : ℕ → ℕ) (row disk d load rows : ℕ) → d ≡ s.d → row < load_stripes s → disk < 2 ^ s.d
    → ((t : ℕ) → t < 2 ^ (s.m - s.b) → value t < 2 ^ (s.n - s.m))
    → load ≡ value (row * 2 ^ d % 2 ^ 64 + disk) → rows ≡ load_stripes s → load * rows + row < stripes s
spread_in_area s value row disk d load rows same in_rows in_disks in_loads load_is rows_is =
    let at : load ≡ value (row * 2 ^ s.d + disk) = load_is ∙ ap value (shifted s row disk d same in_rows in_disks) in
    rw (rows_is, at) (in_area s (value (row * 2 ^ s.d + disk)) row
    (in_loads (row * 2 ^ s.d + disk) (block_number_below s row disk in_rows in_disks)) in_rows)

pub overflow_add-block : goal.overflow_add-block
overflow_add-block c = rw c.d.ensures
    (omega (arith, block_number_fits c.args.shape.now c.args.row c.args.disk c.requires.row c.requires.disk))

pub at-load-requires : goal.at-load-requires
at-load-requires c =
    rw (c.requires.columns, shifted c.args.shape.now c.args.row c.args.disk c.d.result c.d.ensures c.requires.row c.requires.disk)
    (block_number_below c.args.shape.now c.args.row c.args.disk c.requires.row c.requires.disk)

pub overflow_mul-load : goal.overflow_mul-load
overflow_mul-load c =
    let within = spread_in_area c.args.shape.now (spread_value c.args.spread.now) c.args.row c.args.disk c.d.result c.at-load.result
    c.load_stripes.result c.d.ensures c.requires.row c.requires.disk c.requires.loads c.at-load.ensures c.load_stripes.ensures in
    omega (arith, stripes_fit c.args.shape.now)

pub overflow_add-load : goal.overflow_add-load
overflow_add-load c =
    let within = spread_in_area c.args.shape.now (spread_value c.args.spread.now) c.args.row c.args.disk c.d.result c.at-load.result
    c.load_stripes.result c.d.ensures c.requires.row c.requires.disk c.requires.loads c.at-load.ensures c.load_stripes.ensures in
    omega (arith, stripes_fit c.args.shape.now)

pub place_in_area-requires : goal.place_in_area-requires
place_in_area-requires c =
    let within = spread_in_area c.args.shape.now (spread_value c.args.spread.now) c.args.row c.args.disk c.d.result c.at-load.result
    c.load_stripes.result c.d.ensures c.requires.row c.requires.disk c.requires.loads c.at-load.ensures c.load_stripes.ensures in
    omega arith

pub returns : goal.returns
returns c =
    let block = shifted c.args.shape.now c.args.row c.args.disk c.d.result c.d.ensures c.requires.row c.requires.disk in
    let load = c.at-load.ensures ∙ ap (spread_value c.args.spread.now) block in
    rw (c.place_in_area.ensures, load, c.load_stripes.ensures) (omega arith)
