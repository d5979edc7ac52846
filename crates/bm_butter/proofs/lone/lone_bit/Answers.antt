use Rattle.std.proofs.Common.{◌≡◌, ◌≢◌, ℕ, ◌<◌, ◌^◌, ◌∙◌, sym, ap, subst, arith}
use Rattle.std.proofs.lemmas.Bool.{false≢true}
use Rattle.std.specs.Int.{bit_at}
use Rattle.bm_gf2.specs.Matrix.{column}
use Rattle.bm_base.proofs.PowerLemmas.{same_exponent}
use Rattle.bm_butter.proofs.lone.lone_bit.Goals as goal
use Rattle.bm_butter.proofs.lone.lone_bit.Goals.{else-h-a-via-then-h-a+else-is_alone, else-h-a-via-else-h-a}

pub returns-else-h-a : goal.returns-else-h-a
returns-else-h-a c = λ h lone.
    let unit : column c.args.a.now c.args.i ≡ 2 ^ c.in_ok-h.h = ap (column c.args.a.now) (sym c.from.ensures) ∙ c.in_ok-h.ensures in
    let same : h ≡ c.in_ok-h.h = same_exponent h c.in_ok-h.h (sym lone.unit ∙ unit) in
    let inside = lone.inside in
    elim c.else-h-a.branch [
      | else-h-a-via-then-h-a+else-is_alone w ↦
          absurd (false≢true (sym w.if-is_alone.false ∙ w.is_alone.ensures.1 (subst (λ k. (j : ℕ) → j < c.args.a.now.n → j ≢ c.args.i
          → bit_at (column c.args.a.now j) k ≡ 0) same lone.others)))
      | else-h-a-via-else-h-a w ↦ absurd (omega (arith, w.if-h-a.false))
    ]
