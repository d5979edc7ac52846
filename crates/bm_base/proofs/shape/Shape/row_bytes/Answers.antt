use Rattle.std.proofs.Common.{◌≡◌, ◌+◌, ◌*◌, ◌%◌, ◌^◌, ◌≤◌, ap, ◌∙◌, arith}
use Rattle.std.proofs.lemmas.Nat.{one_shl, pow-add}
use Rattle.std.proofs.Math.Pow.{pow_mono}
use Rattle.std.proofs.Math.Nat.{mul-le-mul_right}
use Rattle.bm_base.proofs.ShapeLemmas.{load_bits}
use Rattle.bm_base.proofs.shape.Shape.row_bytes.Goals as goal

pub overflow_mul-result : goal.overflow_mul-result
overflow_mul-result c =
    let s = c.args.self.now in
    let bits = load_bits s.m s.width s.keeps.record_some s.keeps.load in
    let whole : 1 * 2 ^ (s.b + s.d) % 2 ^ 64 ≡ 2 ^ (s.b + s.d) = one_shl (s.b + s.d) 64 (omega (arith, s.keeps.stripe)) in
    let less : 2 ^ (s.b + s.d) * s.width ≤ 2 ^ s.m * s.width =
    mul-le-mul_right s.width (pow_mono {i = s.b + s.d} {j = s.m} s.keeps.stripe) in
    rw (c.from.ensures, whole) (omega (arith, s.keeps.load))

pub returns-clause-row : goal.returns-clause-row
returns-clause-row c =
    let s = c.args.self.now in
    let whole : 1 * 2 ^ (s.b + s.d) % 2 ^ 64 ≡ 2 ^ (s.b + s.d) = one_shl (s.b + s.d) 64
    (omega (arith, load_bits s.m s.width s.keeps.record_some s.keeps.load, s.keeps.stripe)) in
    rw (c.from.ensures, whole) (ap (λ x. x * s.width) (pow-add 2 s.b s.d) ∙ omega arith)
