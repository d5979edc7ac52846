use Rattle.std.proofs.Common.{◌+◌, ◌*◌, ◌≡◌, ◌^◌, sym, subst, arith}
use Rattle.std.proofs.lemmas.Nat.{one_shl}
use Rattle.std.proofs.Math.Nat.{add-mul}
use Rattle.bm_butter.specs.Groups.{AreTold, GroupsDone, corner_place}
use Rattle.bm_butter.proofs.GroupLemmas.{GroupsDone-shift}
use Rattle.bm_butter.proofs.CornerLemmas.{corner_starts, corner_run, run_bounds, run_told}
use Rattle.bm_butter.proofs.on_two_bits.transform_run.Goals as goal

pub overflow_add-start : goal.overflow_add-start
overflow_add-start g c =
    let k = c.args.corners.now in
    let bounds = run_bounds k.low k.high k.first k.second k.third k.fourth c.args.run c.run_start-start.result c.args.blocks k.order
    k.corners
    c.run_start-start.ensures c.requires.inside in
    omega (arith, bounds.0, c.requires.fits)

pub overflow_add-start-2 : goal.overflow_add-start-2
overflow_add-start-2 g c =
    let k = c.args.corners.now in
    let bounds = run_bounds k.low k.high k.first k.second k.third k.fourth c.args.run c.run_start-start.result c.args.blocks k.order
    k.corners
    c.run_start-start.ensures c.requires.inside in
    omega (arith, bounds.1, c.requires.fits)

pub overflow_add-start-3 : goal.overflow_add-start-3
overflow_add-start-3 g c =
    let k = c.args.corners.now in
    let bounds = run_bounds k.low k.high k.first k.second k.third k.fourth c.args.run c.run_start-start.result c.args.blocks k.order
    k.corners
    c.run_start-start.ensures c.requires.inside in
    omega (arith, bounds.2, c.requires.fits)

pub overflow_add-start-4 : goal.overflow_add-start-4
overflow_add-start-4 g c =
    let k = c.args.corners.now in
    let bounds = run_bounds k.low k.high k.first k.second k.third k.fourth c.args.run c.run_start-start.result c.args.blocks k.order
    k.corners
    c.run_start-start.ensures c.requires.inside in
    omega (arith, bounds.3, c.requires.fits)

pub make_quads-requires-clause-p : goal.make_quads-requires-clause-p
make_quads-requires-clause-p g c =
    let k = c.args.corners.now in
    let bounds = run_bounds k.low k.high k.first k.second k.third k.fourth c.args.run c.run_start-start.result c.args.blocks k.order
    k.corners
    c.run_start-start.ensures c.requires.inside in
    omega (arith, bounds.0, c.requires.fits, one_shl k.low 64 (omega (arith, k.order, k.few)))

pub make_quads-requires-clause-q : goal.make_quads-requires-clause-q
make_quads-requires-clause-q g c =
    let k = c.args.corners.now in
    let bounds = run_bounds k.low k.high k.first k.second k.third k.fourth c.args.run c.run_start-start.result c.args.blocks k.order
    k.corners
    c.run_start-start.ensures c.requires.inside in
    omega (arith, bounds.1, c.requires.fits, one_shl k.low 64 (omega (arith, k.order, k.few)))

pub make_quads-requires-clause-r : goal.make_quads-requires-clause-r
make_quads-requires-clause-r g c =
    let k = c.args.corners.now in
    let bounds = run_bounds k.low k.high k.first k.second k.third k.fourth c.args.run c.run_start-start.result c.args.blocks k.order
    k.corners
    c.run_start-start.ensures c.requires.inside in
    omega (arith, bounds.2, c.requires.fits, one_shl k.low 64 (omega (arith, k.order, k.few)))

pub make_quads-requires-clause-s : goal.make_quads-requires-clause-s
make_quads-requires-clause-s g c =
    let k = c.args.corners.now in
    let bounds = run_bounds k.low k.high k.first k.second k.third k.fourth c.args.run c.run_start-start.result c.args.blocks k.order
    k.corners
    c.run_start-start.ensures c.requires.inside in
    omega (arith, bounds.3, c.requires.fits, one_shl k.low 64 (omega (arith, k.order, k.few)))

pub make_quads-requires-clause-told : goal.make_quads-requires-clause-told
make_quads-requires-clause-told g c =
    let k = c.args.corners.now in
    let start = c.run_start-start.result in
    subst (λ n. AreTold n (corner_starts k.low k.high start k.first k.second k.third k.fourth))
    (sym (one_shl k.low 64 (omega (arith, k.order, k.few))))
    (run_told k.low k.high k.first k.second k.third k.fourth c.args.run start k.order k.corners c.run_start-start.ensures)

pub returns-clause-done : goal.returns-clause-done
returns-clause-done g c =
    let k = c.args.corners.now in
    let start = c.run_start-start.result in
    let run = c.args.run in
    let old = c.args.buf.now in
    let new = c.make_quads.new.buf in
    let place = corner_place k.low k.high k.first k.second k.third k.fourth in
    let next : run * 2 ^ k.low + 2 ^ k.low ≡ (run + 1) * 2 ^ k.low = omega (arith, add-mul run 1 (2 ^ k.low)) in
    subst (λ n. GroupsDone (g.K.Kernel.meaning c.args.kernel.now) place (run * 2 ^ k.low) n old new) next
    (GroupsDone-shift (g.K.Kernel.meaning c.args.kernel.now) place (corner_starts k.low k.high start k.first k.second k.third k.fourth)
    (run * 2 ^ k.low) (2 ^ k.low) old new
    (λ w t inside below. corner_run k.low k.high k.first k.second k.third k.fourth run start w t k.order inside c.run_start-start.ensures)
    (subst (λ n. GroupsDone (g.K.Kernel.meaning c.args.kernel.now)
    (corner_starts k.low k.high start k.first k.second k.third k.fourth) 0 n old new)
    (one_shl k.low 64 (omega (arith, k.order, k.few))) c.make_quads.ensures.done))
