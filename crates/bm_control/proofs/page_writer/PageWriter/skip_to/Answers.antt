use Rattle.std.proofs.Common.{length, ap, ◌∙◌, arith}
use Rattle.std.proofs.lemmas.List.{length-take-le}
use Rattle.bm_control.specs.Bodies.{padded}
use Rattle.bm_control.proofs.PageFrontLemmas.{front_skip, skipped}
use Rattle.bm_control.proofs.page_writer.PageWriter.skip_to.Goals as goal

pub invariant_of-self : goal.invariant_of-self
invariant_of-self c =
    let long = length-take-le c.self.inside.len c.self.inside.bytes (omega (arith, c.self.invariant.size, c.self.invariant.within)) in
    let seen = ap length c.self.view_is in
    front_skip c.self.inside.len c.args.place c.self.inside.bytes c.self.invariant (omega (arith, long, seen, c.requires.before))
    c.requires.within

pub returns-clause-bytes : goal.returns-clause-bytes
returns-clause-bytes c =
    let long = length-take-le c.self.inside.len c.self.inside.bytes (omega (arith, c.self.invariant.size, c.self.invariant.within)) in
    let seen = ap length c.self.view_is in
    skipped c.self.inside.len c.args.place c.self.inside.bytes c.self.invariant (omega (arith, long, seen, c.requires.before))
    c.requires.within
    ∙ ap (padded c.args.place) c.self.view_is

pub returns-clause-length : goal.returns-clause-length
returns-clause-length c = length-take-le c.args.place c.self.inside.bytes (omega (arith, c.self.invariant.size, c.requires.within))
