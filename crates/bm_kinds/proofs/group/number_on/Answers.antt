use Rattle.std.proofs.Common.{rules, ◌*◌, ◌%◌, ◌^◌, bit_xor, slice_index, Fits, w64, sym, ◌∙◌, arith}
use Rattle.std.proofs.lemmas.Nat.Bits.{shr_and_one}
use Rattle.bm_butter.proofs.OnBitLemmas.{number_pair-clear, number_pair-set, flip_short}
use Rattle.bm_kinds.proofs.group.number_on.Goals as goal

pub offset_bounds-from-t-2 : goal.offset_bounds-from-t-2
offset_bounds-from-t-2 g c = let e = flip_short c.args.t c.args.j c.requires.number c.requires.digit in omega arith

pub bounds-from-t-2 : goal.bounds-from-t-2
bounds-from-t-2 g c = flip_short c.args.t c.args.j c.requires.number c.requires.digit

pub returns-then-t-j-eq0 : goal.returns-then-t-j-eq0
returns-then-t-j-eq0 g c =
    let v = slice_index c.args.from.now in
    let here : Fits w64 (v c.args.t) = search rules in
    let there : Fits w64 (v (bit_xor c.args.t (1 * 2 ^ c.args.j % 18446744073709551616))) = search rules in
    number_pair-clear (g.K.Kernel.meaning c.args.kernel.now) c.args.j c.args.t v c.requires.digit
    (omega arith) (omega arith) (sym (shr_and_one c.args.t c.args.j) ∙ c.if-t-j-eq0.true) c.pair.result c.pair.ensures

pub returns-else-t-j-eq0 : goal.returns-else-t-j-eq0
returns-else-t-j-eq0 g c =
    let v = slice_index c.args.from.now in
    let here : Fits w64 (v c.args.t) = search rules in
    let there : Fits w64 (v (bit_xor c.args.t (1 * 2 ^ c.args.j % 18446744073709551616))) = search rules in
    number_pair-set (g.K.Kernel.meaning c.args.kernel.now) c.args.j c.args.t v c.requires.digit
    (omega arith) (omega arith) (λ e. c.if-t-j-eq0.false (shr_and_one c.args.t c.args.j ∙ e)) c.pair-else-t-j-eq0.result
    c.pair-else-t-j-eq0.ensures
