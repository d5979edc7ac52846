use Rattle.std.proofs.Common.{◌≡◌, ℕ, ◌<◌, ◌^◌, subst, sym, slice_index}
use Rattle.bm_gf2.specs.Matrix.{column}
use Rattle.bm_named.specs.BitOrder.{IsBitOrder}
use Rattle.bm_named.proofs.ImageLemmas.{image-unit_row}
use Rattle.bm_named.proofs.BitOrderLemmas.{order_nonsingular}
use Rattle.bm_named.proofs.explicit.bits.Goals as goal

pub returns-clause-bits : goal.returns-clause-bits
returns-clause-bits c = λ x i _ inside.
    let n = c.args.n in
    let list = c.args.list.now in
    let m = c.by_sources.result in
    let size : m.n ≡ n = c.by_sources.ensures.size in
    image-unit_row (column m) m.n i (slice_index list i) x
    (subst (λ (k : ℕ). slice_index list i < k) (sym size) (c.in_default.ensures.none i inside))
    (λ j below. c.by_sources.ensures.entries i j inside (subst (λ (k : ℕ). j < k) size below))

pub returns-clause-nonsingular : goal.returns-clause-nonsingular
returns-clause-nonsingular c =
    let n = c.args.n in
    let list = c.args.list.now in
    let m = c.by_sources.result in
    let size : m.n ≡ n = c.by_sources.ensures.size in
    let order : IsBitOrder n list = record {
      long = c.in_ok-check_length.ensures.ok;
      below = c.in_default.ensures.none;
      distinct = c.in_default-first_repeat.ensures.none;
    } in
    order_nonsingular m list (subst (λ (k : ℕ). IsBitOrder k list) (sym size) order) m.few
    (λ x i below inside. returns-clause-bits c x i (subst (λ (k : ℕ). x < 2 ^ k) size below) (subst (λ (k : ℕ). i < k) size inside))
