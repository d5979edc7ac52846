use Rattle.std.proofs.Common.{◌+◌, slice_index}
use Rattle.std.proofs.lemmas.Nat.{and_mask, pow_pos}
use Rattle.std.proofs.Math.Nat.{mod-lt}
use Rattle.bm_gf2.proofs.StepperLemmas.{trailing_place, next_image_by_table}
use Rattle.bm_gf2.proofs.stepper.Stepper.step.Goals as goal

pub bounds-self-trailing_ones : goal.bounds-self-trailing_ones
bounds-self-trailing_ones c =
    rw c.trailing_ones.ensures
    (trailing_place c.args.self.now.map.a.n c.args.self.now.position c.args.self.now.map.a.few c.args.self.now.inside)

pub invariant_of-self-clause-inside : goal.invariant_of-self-clause-inside
invariant_of-self-clause-inside c =
    rw (c.args.self.now.last_position, and_mask (c.args.self.now.position + 1) c.args.self.now.map.a.n)
    (mod-lt (c.args.self.now.position + 1) (pow_pos c.args.self.now.map.a.n))

pub invariant_of-self-clause-stands : goal.invariant_of-self-clause-stands
invariant_of-self-clause-stands c =
    let place = trailing_place c.args.self.now.map.a.n c.args.self.now.position c.args.self.now.map.a.few c.args.self.now.inside in
    rw (
      c.args.self.now.last_position,
      and_mask (c.args.self.now.position + 1) c.args.self.now.map.a.n,
      c.args.self.now.stands,
      c.trailing_ones.ensures,
      c.args.self.now.table _ place,
    )
    (next_image_by_table (slice_index c.args.self.now.map.a.cols) c.args.self.now.map.a.n c.args.self.now.position c.args.self.now.map.c
    c.args.self.now.map.a.few c.args.self.now.inside c.args.self.now.map.a.rest)

pub returns-clause-position : goal.returns-clause-position
returns-clause-position c = rw c.args.self.now.last_position (and_mask (c.args.self.now.position + 1) c.args.self.now.map.a.n)
