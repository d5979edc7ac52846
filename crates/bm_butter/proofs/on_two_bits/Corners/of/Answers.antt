use Rattle.std.proofs.Common.{◌+◌, ◌≢◌, ◌<◌, min, sym, subst, arith}
use Rattle.bm_butter.specs.Groups.{AreCorners}
use Rattle.bm_butter.proofs.CornerLemmas.{half_fits, AreCorners-halves}
use Rattle.bm_butter.proofs.on_two_bits.Corners.of.Goals as goal

pub overflow_add-result : goal.overflow_add-result
overflow_add-result c =
    let inner = half_fits c.args.inner.bit c.args.inner.at_u c.args.inner.at_v c.args.inner.few c.args.inner.halves in
    let outer = half_fits c.args.outer.bit c.args.outer.at_u c.args.outer.at_v c.args.outer.few c.args.outer.halves in
    omega (arith, inner.0, inner.1, outer.0, outer.1)

pub overflow_add-result-2 : goal.overflow_add-result-2
overflow_add-result-2 c =
    let inner = half_fits c.args.inner.bit c.args.inner.at_u c.args.inner.at_v c.args.inner.few c.args.inner.halves in
    let outer = half_fits c.args.outer.bit c.args.outer.at_u c.args.outer.at_v c.args.outer.few c.args.outer.halves in
    omega (arith, inner.0, inner.1, outer.0, outer.1)

pub overflow_add-result-3 : goal.overflow_add-result-3
overflow_add-result-3 c =
    let inner = half_fits c.args.inner.bit c.args.inner.at_u c.args.inner.at_v c.args.inner.few c.args.inner.halves in
    let outer = half_fits c.args.outer.bit c.args.outer.at_u c.args.outer.at_v c.args.outer.few c.args.outer.halves in
    omega (arith, inner.0, inner.1, outer.0, outer.1)

pub overflow_add-result-4 : goal.overflow_add-result-4
overflow_add-result-4 c =
    let inner = half_fits c.args.inner.bit c.args.inner.at_u c.args.inner.at_v c.args.inner.few c.args.inner.halves in
    let outer = half_fits c.args.outer.bit c.args.outer.at_u c.args.outer.at_v c.args.outer.few c.args.outer.halves in
    omega (arith, inner.0, inner.1, outer.0, outer.1)

pub invariant_of-result : goal.invariant_of-result
invariant_of-result c =
    let inner = c.args.inner in
    let outer = c.args.outer in
    let few : c.max.result < 61 = omega (arith, c.max.ensures, inner.few, outer.few) in
    let differ : inner.bit ≢ outer.bit = c.requires in
    let order : c.min.result < c.max.result = omega (arith, c.min.ensures, c.max.ensures) in
    record {
      order = order;
      few = few;
      corners = subst (λ low. AreCorners low c.max.result (inner.at_u + outer.at_u) (inner.at_v + outer.at_u)
          (inner.at_u + outer.at_v) (inner.at_v + outer.at_v)) (sym c.min.ensures)
          (subst (λ high. AreCorners (min inner.bit outer.bit) high (inner.at_u + outer.at_u) (inner.at_v + outer.at_u)
          (inner.at_u + outer.at_v) (inner.at_v + outer.at_v)) (sym c.max.ensures)
          (AreCorners-halves inner.bit outer.bit inner.at_u inner.at_v outer.at_u outer.at_v differ inner.halves outer.halves));
    }
