use Rattle.std.proofs.Common.{◌≡◌, ◌+◌, ◌-◌, ◌<◌, ◌≤◌, ℕ, length, sym, ◌∙◌, subst, arith}
use Rattle.bm_forms.specs.PassLimit.{rotation_limit}
use Rattle.bm_forms.specs.Rounds.{rounds_of}
use Rattle.bm_walsh.specs.Rounds.{AppendsRound, AreWholeRounds}
use Rattle.bm_walsh.proofs.RoundsLemmas.{whole_none, whole_more, whole_room, last_room}
use Rattle.bm_walsh.proofs.rounds.all_rounds.Goals as goal

pub loop-round-init : goal.loop-round-init
loop-round-init c = (whole_none c.args.shape.now c.empty-plan.result.forms c.empty-plan.ensures.none, c.empty-plan.ensures.shape)

pub push_round-requires-clause-room : goal.push_round-requires-clause-room
push_round-requires-clause-room c =
    let s = c.args.shape.now in
    let more : c.loop-round._round < rounds_of s - 1 = omega (arith, c.round_count-round-end.ensures.rounds, c.loop-round-test.true) in
    subst (λ (k : ℕ). length c.loop-round.plan.forms + rotation_limit s k ≤ 256) (sym c.m.ensures)
    (whole_room s c.loop-round._round c.loop-round.plan.forms c.loop-round.invariant.0 more)

pub loop-round-preserved : goal.loop-round-preserved
loop-round-preserved c =
    let s = c.args.shape.now in (
      whole_more s c.loop-round._round c.loop-round.plan.forms c.push_round.new.plan.forms c.loop-round.invariant.0
          (subst (λ (k : ℕ). AppendsRound s k c.loop-round.plan.forms c.push_round.new.plan.forms) c.m.ensures
          c.in_ok-push_round.ensures.pushed),
      c.push_round.ensures.shape ∙ c.loop-round.invariant.1,
    )

pub push_round-requires-2-clause-room : goal.push_round-requires-2-clause-room
push_round-requires-2-clause-room c =
    let s = c.args.shape.now in
    let all : c.loop-round._round ≡ rounds_of s - 1 = omega (arith, c.round_count-round-end.ensures.rounds) in
    subst (λ (k : ℕ). length c.loop-round.plan.forms + rotation_limit s k ≤ 256)
    (sym c.last_bits.ensures.bits)
    (last_room s c.loop-round.plan.forms
    (subst (λ (k : ℕ). AreWholeRounds s k c.loop-round.plan.forms) all c.loop-round.invariant.0))
