use Rattle.std.proofs.Common.{◌≡◌, ◌≤◌, ◌<◌, ◌+◌, ◌-◌, ◌*◌, ◌/◌, ◌^◌, ◌%◌, ◌∙◌, ap, subst, sym, bit_xor, slice_index, ℕ, arith}
use Rattle.std.proofs.lemmas.Nat.{one_shl, shr_below, pow_pos, xor_lt}
use Rattle.std.proofs.Math.Nat.{mod-lt}
use Rattle.bm_gf2.specs.Vector.{xor_sum}
use Rattle.bm_gf2.specs.Matrix.{image}
use Rattle.bm_gf2.proofs.VectorLemmas.{xor_sum-lt}
use Rattle.bm_forms.proofs.MldLemmas.{first_of_load, loads}
use Rattle.bm_forms.proofs.mld_form.MldForm.spread_for.Goals as goal

pub apply-from-requires : goal.apply-from-requires
apply-from-requires c =
    let f = c.args.self.now in
    let e = first_of_load c.args.load f.m f.map.a.n c.requires f.memory f.map.a.few in
    rw e.0 e.1

pub apply-served-requires : goal.apply-served-requires
apply-served-requires c =
    let f = c.args.self.now in
    let few : f.map.a.n ≤ 52 = f.map.a.few in
    let le : f.m ≤ f.map.a.n = f.memory in
    let block : f.b < f.m = f.block in
    let e : (f.m - f.b) + f.b ≡ f.m = omega arith in
    rw (one_shl f.m 64 (omega arith), f.solved.count)
    (shr_below (c.apply-from.result % 2 ^ f.m) (f.m - f.b) f.b
    (subst (λ (k : ℕ). c.apply-from.result % 2 ^ f.m < 2 ^ k) (sym e) (mod-lt c.apply-from.result (pow_pos f.m))))

pub returns-clause-loads : goal.returns-clause-loads
returns-clause-loads c = λ i h.
    let f = c.args.self.now in
    let few : f.map.a.n ≤ 52 = f.map.a.few in
    let le : f.m ≤ f.map.a.n = f.memory in
    let e = first_of_load c.args.load f.m f.map.a.n c.requires f.memory f.map.a.few in
    let v : c.apply-from.result ≡ bit_xor f.map.c (image f.map.a (2 ^ f.m * c.args.load)) =
    c.apply-from.ensures.value ∙ ap (λ (w : ℕ). bit_xor f.map.c (image f.map.a w)) e.0 in
    rw (c.apply-served.ensures.value, one_shl f.m 64 (omega arith), v)
    (loads f.map.a f.m f.map.c c.args.load i h f.k f.b f.solved (omega (arith, f.block)))

pub returns-clause-below : goal.returns-clause-below
returns-clause-below c = λ t.
    let f = c.args.self.now in
    let w : ℕ = f.map.a.n - f.m in
    let le : f.m ≤ f.map.a.n = f.memory in
    let e : w + f.m ≡ f.map.a.n = omega arith in
    let served : (x : ℕ) → xor_sum (slice_index f.k.cols) f.k.count x < 2 ^ w =
    λ x. xor_sum-lt (slice_index f.k.cols) f.k.count w x f.solved.below in
    let high : c.apply-from.result / 2 ^ f.m < 2 ^ w =
    shr_below c.apply-from.result w f.m (subst (λ (k : ℕ). c.apply-from.result < 2 ^ k) (sym e) c.apply-from.ensures.below) in
    rw c.apply-served.ensures.value
    (xor_lt w _ _ (xor_lt w _ _ high (served _)) (served t))
