use Rattle.std.proofs.Common.{◌≡◌, ◌≢◌, ◌<◌, ap, ◌∙◌, arith, ⊎_elim}
use Rattle.std.specs.Int.{bit_at}
use Rattle.std.proofs.lemmas.Bool.{cases_eq}
use Rattle.std.proofs.lemmas.Nat.Bits.{bit_at-lt, shr_and_one}
use Rattle.bm_kinds.proofs.low_run.low_run.Goals as goal

pub loop-low-preserved : goal.loop-low-preserved
loop-low-preserved c =
    let set = c.args.set in
    let low = c.loop-low.low in
    let range : bit_at set low < 2 = bit_at-lt set low in
    let same = shr_and_one set low in
    let some : bit_at set low ≢ 0 = λ e. c.if-set-low-eq0.false (same ∙ e) in
    let one : bit_at set low ≡ 1 = omega arith in
    record {
      held = λ k below. ⊎_elim
          (λ (p : k ≡ low). ap (bit_at set) p ∙ one)
          (λ (p : k ≢ low). c.loop-low.invariant.held k (omega arith))
          (cases_eq k low);
    }
