use Rattle.std.proofs.Common.{length, ap, arith}
use Rattle.std.proofs.lemmas.List.{length-take-le}
use Rattle.bm_control.proofs.PageFrontLemmas.{front_put}
use Rattle.bm_control.proofs.page_writer.PageWriter.put.Goals as goal

pub invariant_of-self : goal.invariant_of-self
invariant_of-self c =
    let long = length-take-le c.self.inside.len c.self.inside.bytes (omega (arith, c.self.invariant.size, c.self.invariant.within)) in
    let seen = ap length c.self.view_is in
    front_put c.self.inside.len (length c.args.bytes.now) _ c.self.inside.bytes _ c.self.invariant (omega arith)
    (ap length c.copy_from_slice.ensures.after)
    (omega (arith, long, seen, c.requires))
