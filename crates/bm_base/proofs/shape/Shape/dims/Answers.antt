use Rattle.std.proofs.Common.{◌≡◌, ◌-◌, ◌*◌, ◌%◌, ◌^◌, ◌≤◌, refl, arith}
use Rattle.std.proofs.Math.Pow.{pow_mono}
use Rattle.std.proofs.lemmas.Nat.{one_shl}
use Rattle.bm_base.proofs.ShapeLemmas.{load_bits, block_fits}
use Rattle.bm_base.proofs.shape.Shape.dims.Goals as goal

pub overflow_mul-result : goal.overflow_mul-result
overflow_mul-result c =
    let s = c.args.self.now in
    let less : 2 ^ (s.n - s.b - s.d) ≤ 2 ^ 52 = pow_mono {i = s.n - s.b - s.d} {j = 52} (omega (arith, s.keeps.addresses)) in
    omega (arith, c.stripes.ensures)

pub overflow_shl-result-2 : goal.overflow_shl-result-2
overflow_shl-result-2 c =
    let s = c.args.self.now in
    omega (arith, load_bits s.m s.width s.keeps.record_some s.keeps.load, s.keeps.block)

pub overflow_mul-result-2 : goal.overflow_mul-result-2
overflow_mul-result-2 c =
    let s = c.args.self.now in
    let e : 1 * 2 ^ s.b % 2 ^ 32 ≡ 2 ^ s.b = one_shl s.b 32
    (omega (arith, load_bits s.m s.width s.keeps.record_some s.keeps.load, s.keeps.block)) in
    let less = block_fits s.b s.m s.width s.keeps.block s.keeps.load in
    rw (e, c.from.ensures) (omega arith)

pub returns : goal.returns
returns c =
    let s = c.args.self.now in
    let d : 1 * 2 ^ s.d % 2 ^ 32 ≡ 2 ^ s.d = one_shl s.d 32 (omega (arith, s.keeps.disks)) in
    let b : 1 * 2 ^ s.b % 2 ^ 32 ≡ 2 ^ s.b = one_shl s.b 32
    (omega (arith, load_bits s.m s.width s.keeps.record_some s.keeps.load, s.keeps.block)) in
    rw (d, b, c.stripes.ensures, c.from.ensures) refl
