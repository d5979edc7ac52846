use Rattle.std.proofs.Common.{◌≡◌, ◌*◌, ◌%◌, ◌^◌, ◌≤◌, arith}
use Rattle.std.proofs.lemmas.Nat.{one_shl}
use Rattle.std.proofs.Math.Pow.{pow_mono}
use Rattle.bm_speed.proofs.copied.copy_rows.Goals as goal

pub copy_load-requires-clause-few : goal.copy_load-requires-clause-few
copy_load-requires-clause-few c =
    let bits = c.args.sizes.load_bits in
    let few = c.args.sizes.load_in in
    let whole : 1 * 2 ^ bits % 2 ^ 64 ≡ 2 ^ bits = one_shl bits 64 (omega (arith, few)) in
    let less : 2 ^ bits ≤ 2 ^ 26 = pow_mono {i = bits} {j = 26} few in
    grind (arith, whole, less, c.in_ok-load.ensures, c.deref_mut.ensures.value)
