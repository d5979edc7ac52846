use Rattle.std.proofs.Common.{◌≡◌, ◌+◌, ◌-◌, ◌*◌, ◌%◌, ◌^◌, refl, ap, arith}
use Rattle.std.proofs.lemmas.Nat.{one_shl}
use Rattle.bm_bufs.proofs.PartLemmas.{record_beside_part}
use Rattle.bm_butter.proofs.BlockLemmas.{block_done}
use Rattle.bm_butter.proofs.blocks.transform_block.Goals as goal

pub returns-clause-done : goal.returns-clause-done
returns-clause-done g c =
    let one : 1 * 2 ^ c.args.bits % 18446744073709551616 ≡ 2 ^ c.args.bits = one_shl c.args.bits 64 (omega (arith, c.requires.bits)) in
    let bytes = 1 * 2 ^ c.args.bits % 18446744073709551616 * 8 in
    let long : bytes ≡ 2 ^ c.args.bits * 8 = ap (λ k. k * 8) one in
    let start = c.args.block * bytes in
    block_done (g.K.Kernel.meaning c.args.kernel.now) c.args.bits c.args.block start
    (start + bytes - start) c.args.buf.now _ c.sweep_in_order.new.buf
    (ap (λ k. c.args.block * k) long) (omega (arith, long)) (omega (arith, c.requires.fits, ap (λ k. c.args.block * k) long)) refl
    c.sweep_in_order.ensures.size c.sweep_in_order.ensures.records

pub returns-clause-others : goal.returns-clause-others
returns-clause-others g c x beside =
    let one : 1 * 2 ^ c.args.bits % 18446744073709551616 ≡ 2 ^ c.args.bits = one_shl c.args.bits 64 (omega (arith, c.requires.bits)) in
    let bytes = 1 * 2 ^ c.args.bits % 18446744073709551616 * 8 in
    let long : bytes ≡ 2 ^ c.args.bits * 8 = ap (λ k. k * 8) one in
    let start = c.args.block * bytes in
    let begins : start ≡ c.args.block * (2 ^ c.args.bits * 8) = ap (λ k. c.args.block * k) long in
    record_beside_part 8 (c.args.block * 2 ^ c.args.bits) start (2 ^ c.args.bits) _ x c.args.buf.now c.sweep_in_order.new.buf
    (omega (arith, begins)) (omega (arith, begins, long, c.sweep_in_order.auto.buf, c.requires.fits))
    (omega (arith, begins, long, c.sweep_in_order.auto.buf, c.requires.fits))
    (omega (arith, begins, long, c.sweep_in_order.auto.buf, c.requires.fits)) beside
