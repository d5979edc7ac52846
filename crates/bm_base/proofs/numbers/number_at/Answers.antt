use Rattle.std.proofs.Common.{rules, ◌≡◌, ℕ, ◌+◌, ◌-◌, ◌*◌, ◌%◌, ◌^◌, ◌<◌, Fits, w64, take, drop, ap, ◌∙◌, arith}
use Rattle.std.specs.Fork.{slice_chunk}
use Rattle.bm_base.specs.Butterfly.{number_in}
use Rattle.bm_base.proofs.numbers.number_at.Goals as goal

-- as it is read
number_word : (v n : ℕ) → v < 2 ^ 64 → v ≡ n → v ≡ n % 2 ^ 64
number_word v n below same = omega arith

pub returns-clause-number : goal.returns-clause-number
unfolding number_in
returns-clause-number c =
    let at = c.args.i * 8 in
    c.read_u64.ensures ∙ ap (λ k. number_in (take k (drop at c.args.bytes.now))) (let e : at + 8 - at ≡ 8 = omega arith in e)

pub returns-clause-word : goal.returns-clause-word
unfolding number_in
returns-clause-word c =
    let at = c.args.i * 8 in
    let here : Fits w64 c.read_u64.result = search rules in
    number_word c.read_u64.result (number_in (slice_chunk c.args.bytes.now 8 c.args.i)) (omega arith)
    (c.read_u64.ensures ∙ ap (λ k. number_in (take k (drop at c.args.bytes.now))) (let e : at + 8 - at ≡ 8 = omega arith in e))
