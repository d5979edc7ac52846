use Rattle.std.proofs.Common.{◌∙◌, ap, ℕ, ◌-◌, arith}
use Rattle.bm_forms.proofs.PassLimitLemmas.{rounds_few}
use Rattle.bm_forms.proofs.rounds.over_rounds.Goals as goal

pub returns-clause-few : goal.returns-clause-few
returns-clause-few c =
    let s = c.args.shape.now in
    rounds_few s.n s.m s.b _ _ _ s.keeps.block s.keeps.memory s.keeps.addresses
    (c.from.ensures ∙ ap (λ (x : ℕ). x - 1) c.round_count.ensures.rounds)
    (omega (arith, c.from-2.ensures, c.requires.whole))
    (omega (arith, c.from-3.ensures, c.requires.last))
