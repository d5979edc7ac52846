use Rattle.std.proofs.Common.{ℕ, ◌^◌, ap, ◌∙◌}
use Rattle.std.specs.Int.{bit_at}
use Rattle.std.proofs.Math.Nat.{add-mod-mod}
use Rattle.bm_gf2.proofs.RotationLemmas.{rotated_column}
use Rattle.bm_gf2.proofs.matrix.Matrix.rotation.Goals as goal

pub returns-clause-bits : goal.returns-clause-bits
returns-clause-bits c = λ x i inside.
    c.turn.ensures.bits x i inside ∙ ap (bit_at x) (add-mod-mod i c.args.by c.args.n)

pub returns-clause-columns : goal.returns-clause-columns
returns-clause-columns c = λ few j inside.
    c.turn.ensures.columns j inside ∙ ap (λ (k : ℕ). 2 ^ k) (rotated_column c.args.n c.args.by j few inside)
