use Rattle.std.proofs.Common.{ℕ, ◌≡◌, ◌-◌, ◌<◌, ◌^◌, ◌∙◌, sym, ap, subst, refl, arith}
use Rattle.std.specs.Int.{div_ceil}
use Rattle.bm_gf2.specs.declared.affine.Affine.{Affine}
use Rattle.bm_factor.proofs.FactoringLemmas.{factoring_none, factoring_more, round_mld, rest_mld, rounds_done, factoring_does, low_appended}
use Rattle.bm_factor.proofs.factoring.several_passes.Goals as goal

pub loop-round-init : goal.loop-round-init
loop-round-init c = (
  factoring_none c.args.shape.now c.args.map.now.a c.reduced.result.rest c.reduced.result.done c.rank_of-rank.result
      c.empty-plan.result.forms
      c.requires.size c.empty-plan.ensures.none c.reduced.ensures.split c.reduced.ensures.stays c.reduced.ensures.trailing
      (c.reduced.ensures.count ∙ sym (c.rank_of-rank.ensures.rank
      ∙ (let first = c.m.ensures in let second = c.m-2.ensures in rw (first, second) refl))),
  c.empty-plan.ensures.shape,
)

pub erased-next-requires-clause-trailing : goal.erased-next-requires-clause-trailing
erased-next-requires-clause-trailing c = rw c.loop-round.invariant.0.size_rest c.loop-round.invariant.0.trailing

pub form_of-requires-clause-mld : goal.form_of-requires-clause-mld
form_of-requires-clause-mld c =
    round_mld c.args.shape.now c.args.map.now.a c.loop-round.rest c.loop-round.done c.erased-next.result.rest c.erased-next.result.done
    c.mul-a.result
    c.rank_of-rank.result c.loop-round._round c.loop-round.plan.forms c.loop-round.invariant.0 c.erased-next.ensures.split
    c.erased-next.ensures.covered c.mul-a.ensures.size c.mul-a.ensures.composes

pub loop-round-preserved : goal.loop-round-preserved
loop-round-preserved c = (
  factoring_more c.args.shape.now c.args.map.now.a c.loop-round.rest c.loop-round.done c.erased-next.result.rest c.erased-next.result.done
      c.mul-a.result c.identity-done.result c.rank_of-rank.result c.loop-round._round c.loop-round.plan.forms c.push_form.new.plan.forms
      c.form_of.result.map c.loop-round.invariant.0 c.erased-next.ensures.split c.mul-a.ensures.size c.mul-a.ensures.composes
      c.erased-next.ensures.trailing c.erased-next.ensures.count c.in_ok-push_form.ensures.pushed
      (ap (λ (g : Affine). g.a) c.form_of.ensures.map) (ap (λ (g : Affine). g.c) c.form_of.ensures.map)
      (c.identity-done.ensures.size ∙ c.n.ensures)
      (λ x h. c.identity-done.ensures.unchanged x (subst (λ (k : ℕ). x < 2 ^ k) (sym c.n.ensures) h)),
  c.push_form.ensures.shape ∙ c.loop-round.invariant.1,
)

pub form_of-requires-2-clause-mld : goal.form_of-requires-2-clause-mld
form_of-requires-2-clause-mld c =
    let e : c.loop-round._round ≡ div_ceil c.rank_of-rank.result (c.args.shape.now.m - c.args.shape.now.b) =
    rounds_done c.loop-round._round c.div_ceil-rounds.result c.rank_of-rank.result c.m-3.result c.b.result c.args.shape.now.m
    c.args.shape.now.b
    (omega arith) c.div_ceil-rounds.ensures c.m-3.ensures c.b.ensures in
    rest_mld c.args.shape.now c.args.map.now.a c.loop-round.rest c.loop-round.done c.rank_of-rank.result c.loop-round._round
    c.loop-round.plan.forms c.loop-round.invariant.0 e

pub returns-clause-stands : goal.returns-clause-stands
returns-clause-stands c =
    let e : c.loop-round._round ≡ div_ceil c.rank_of-rank.result (c.args.shape.now.m - c.args.shape.now.b) =
    rounds_done c.loop-round._round c.div_ceil-rounds.result c.rank_of-rank.result c.m-3.result c.b.result c.args.shape.now.m
    c.args.shape.now.b
    (omega arith) c.div_ceil-rounds.ensures c.m-3.ensures c.b.ensures in
    record {
      shape = c.push_form-2.ensures.shape ∙ c.loop-round.invariant.1;
      does = factoring_does c.args.shape.now c.args.map.now c.form_of-2.result.map c.loop-round.rest c.loop-round.done c.rank_of-rank.result
          c.loop-round._round c.loop-round.plan.forms c.push_form-2.new.plan.forms c.loop-round.invariant.0 e c.requires.size
          c.requires.nonsingular c.requires.apart c.in_ok-push_form-2.ensures.pushed
          (ap (λ (g : Affine). g.a) c.form_of-2.ensures.map) (ap (λ (g : Affine). g.c) c.form_of-2.ensures.map);
    }

pub returns-clause-low : goal.returns-clause-low
returns-clause-low c =
    low_appended c.args.shape.now c.loop-round.plan.forms c.push_form-2.new.plan.forms c.form_of-2.result.map c.loop-round.invariant.0.low
    c.in_ok-push_form-2.ensures.pushed
