use Rattle.std.proofs.Common.{◌≡◌, ℕ, ◌+◌, ◌^◌, sym, subst, ◌∙◌, arith}
use Rattle.bm_detect.specs.Scan.{Knows}
use Rattle.std.proofs.lemmas.Nat.{one_shl}
use Rattle.bm_detect.proofs.scan_steps.take_number.Goals as goal

pub returns-then-x-eq0-clause-knows : goal.returns-then-x-eq0-clause-knows
returns-then-x-eq0-clause-knows c ys is knows =
    let n = c.args.n in
    let at = c.if-x-eq0.true in
    subst (λ (x : ℕ). Knows n ys (x + 1) c.take_constant.result) (sym at)
    (c.take_constant.ensures.knows ys (subst (λ (x : ℕ). ys x ≡ c.args.y) at is) (subst (λ (x : ℕ). Knows n ys x c.args.scan) at knows))

pub returns-then-x-scan-clause-knows : goal.returns-then-x-scan-clause-knows
returns-then-x-scan-clause-knows c ys is knows =
    let n = c.args.n in
    let at : c.args.x ≡ 2 ^ c.args.scan.bits =
    c.if-x-scan.true ∙ one_shl c.args.scan.bits 64 (omega (arith, c.requires.scan.few, c.requires.few)) in
    subst (λ (x : ℕ). Knows n ys (x + 1) c.take_unit.result) (sym at)
    (c.take_unit.ensures.knows ys (subst (λ (x : ℕ). ys x ≡ c.args.y) at is) (subst (λ (x : ℕ). Knows n ys x c.args.scan) at knows))
