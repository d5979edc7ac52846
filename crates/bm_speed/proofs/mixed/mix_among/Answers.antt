use Rattle.std.proofs.Common.{◌≡◌, ◌-◌, ◌*◌, ◌%◌, ◌^◌, arith}
use Rattle.std.proofs.lemmas.Nat.{one_shl, pow_pos, and_le_r}
use Rattle.bm_speed.proofs.mixed.mix_among.Goals as goal

pub kernel_at-requires-clause-set : goal.kernel_at-requires-clause-set
kernel_at-requires-clause-set g c =
    let n = c.args.map.now.a.n in
    let one : 1 * 2 ^ n % 2 ^ 64 ≡ 2 ^ n = one_shl n 64 (omega (arith, c.args.map.now.a.few)) in
    let less = and_le_r c.args.among (1 * 2 ^ n % 2 ^ 64 - 1) in
    omega (arith, one, less, pow_pos n)
