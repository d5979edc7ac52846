use Rattle.std.proofs.Common.{◌<◌, ◌^◌, ◌∙◌, length, slice_index, refl, arith}
use Rattle.bm_split.proofs.BasisLemmas.{found_fresh, found_known, set_within}
use Rattle.bm_split.proofs.columns.independent_ones.Goals as goal
use Rattle.bm_split.proofs.columns.independent_ones.Goals.{then-insert, else-insert}

pub loop-i-preserved : goal.loop-i-preserved
loop-i-preserved c =
    let vectors = c.args.vectors.now in
    let i = c.loop-i.i in
    let next = c.loop-i.next in
    let ones = c.loop-i.ones in
    let inv = c.loop-i.invariant in
    let f = inv.found in
    let inside : i < length vectors = omega (arith, c.requires.count) in
    let fewer = f.fewer in
    let long = f.long in
    elim c.if-insert.branch [
      | then-insert w ↦
          rw (w.ones-is, w.next-is, c.from.ensures) (record {
            size = c.insert.ensures.size ∙ inv.size;
            below = rw w.from-then-insert.ensures (set_within ones next (slice_index vectors i) (2 ^ c.args.bits)
                (omega (arith, c.requires.count)) inv.below
                (c.requires.below i c.loop-i-test.true));
            found = rw w.from-then-insert.ensures (found_fresh vectors i next next c.loop-i.found.kept c.insert.new.self.kept ones
                c.insert.result f inside
                w.if-insert.true (rw c.from.ensures at c.insert.ensures.fresh) (rw c.from.ensures at c.insert.ensures.kept) refl
                (omega (arith, c.requires.count)));
          })
      | else-insert w ↦
          rw (w.ones-is, w.next-is) (record {
            size = c.insert.ensures.size ∙ inv.size;
            below = inv.below;
            found = found_known vectors i next c.loop-i.found.kept c.insert.new.self.kept ones c.insert.result f inside
                w.if-insert.false (rw c.from.ensures at c.insert.ensures.fresh) (rw c.from.ensures at c.insert.ensures.kept)
                (omega (arith, c.requires.count));
          })
    ]
