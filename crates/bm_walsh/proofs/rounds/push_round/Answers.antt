use Rattle.std.proofs.Common.{◌≤◌, ◌∙◌, ℕ, length, subst, arith}
use Rattle.std.proofs.lemmas.Result.{on_ok_weaker}
use Rattle.bm_forms.specs.PassLimit.{rotation_limit}
use Rattle.bm_walsh.specs.Rounds.{IsRotationBy}
use Rattle.bm_walsh.proofs.RoundsLemmas.{rotation_by, map_within, map_count}
use Rattle.bm_walsh.proofs.rounds.push_round.Goals as goal

pub push_passes-requires-clause-room : goal.push_passes-requires-clause-room
push_passes-requires-clause-room c =
    let s = c.args.shape.now in
    let r = c.rotation-turn.ensures in
    let within : c.args.by ≤ s.n = omega (arith, c.requires.by, s.keeps.memory) in
    let turn : IsRotationBy s.n c.args.by c.rotation-turn.result =
    rotation_by s.n c.n.result c.args.by c.rotation-turn.result c.n.ensures within r.size r.columns r.constant r.nonsingular in
    let few : length c.in-Ok.round.forms ≤ rotation_limit s c.args.by =
    subst (λ (k : ℕ). length c.in-Ok.round.forms ≤ k) (map_within s c.args.by c.rotation-turn.result turn) c.in-Ok.ensures.few in
    omega (arith, few, c.requires.room)

pub returns-in-Ok-clause-pushed : goal.returns-in-Ok-clause-pushed
returns-in-Ok-clause-pushed c =
    let s = c.args.shape.now in
    let r = c.rotation-turn.ensures in
    let within : c.args.by ≤ s.n = omega (arith, c.requires.by, s.keeps.memory) in
    let turn : IsRotationBy s.n c.args.by c.rotation-turn.result =
    rotation_by s.n c.n.result c.args.by c.rotation-turn.result c.n.ensures within r.size r.columns r.constant r.nonsingular in
    on_ok_weaker c.push_passes.result
    (λ e. record {
      round = c.in-Ok.round.forms;
      turn = c.rotation-turn.result;
      is = e;
      rotates = turn;
      does = c.in-Ok.ensures.stands.does;
      plain = c.in-Ok.ensures.low;
      count = c.in-Ok.ensures.length ∙ map_count s c.args.by c.rotation-turn.result turn;
      few = subst (λ (k : ℕ). length c.in-Ok.round.forms ≤ k) (map_within s c.args.by c.rotation-turn.result turn) c.in-Ok.ensures.few;
    })
    c.push_passes.ensures.pushed
