use Rattle.std.proofs.Common.{◌≡◌, ℕ, ◌+◌, ◌*◌, ◌%◌, ◌^◌, ◌≤◌, sym, subst, ◌∙◌, arith}
use Rattle.std.proofs.lemmas.Nat.{one_shl}
use Rattle.bm_detect.specs.Scan.{Knows}
use Rattle.bm_detect.proofs.scan_steps.take_load.Goals as goal

pub returns-then-y-n-clause-knows : goal.returns-then-y-n-clause-knows
returns-then-y-n-clause-knows c ys same knows =
    let bound : 1 * 2 ^ c.args.n % 2 ^ 64 ≡ 2 ^ c.args.n = one_shl c.args.n 64 (omega (arith, c.requires.few)) in
    record {
      inside = omega (arith, c.loop-i-test.true, c.requires.addresses);
      number = c.number_at-y.ensures.number ∙ same c.loop-i.i c.loop-i-test.true;
      large = subst (λ (b : ℕ). b ≤ c.number_at-y.result) bound c.if-y-n.true;
      before = (c.loop-i.invariant.knows ys same knows).addresses;
    }

pub loop-i-preserved : goal.loop-i-preserved
loop-i-preserved c =
    let i = c.loop-i.i in
    let from = c.args.from in
    record {
      scan = c.take_number-scan.ensures.scan;
      knows = λ ys same knows. subst (λ (seen : ℕ). Knows c.args.n ys seen c.take_number-scan.result)
          (let e : from + i + 1 ≡ from + (i + 1) = omega arith in e)
          (c.take_number-scan.ensures.knows ys (sym (c.number_at-y.ensures.number ∙ same i c.loop-i-test.true))
          (c.loop-i.invariant.knows ys same knows));
    }

pub returns-clause-knows : goal.returns-clause-knows
returns-clause-knows c ys same knows =
    let last : c.loop-i.i ≡ c.args.count = omega (arith, c.loop-i-test.false, c.loop-i.auto.i-end) in
    subst (λ (i : ℕ). Knows c.args.n ys (c.args.from + i) c.loop-i.scan) last (c.loop-i.invariant.knows ys same knows)
