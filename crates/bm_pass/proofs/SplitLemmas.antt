-- A load that is placed in two steps.
use Rattle.std.proofs.Common.{◌≡◌, ℕ, ◌+◌, ◌*◌, ◌^◌, ◌<◌, ◌≤◌, length, sym, ap, ◌∙◌, subst}
use Rattle.std.specs.Fork.{slice_chunk}
use Rattle.std.proofs.Math.Nat.{mul-le-mul_right}
use Rattle.std.proofs.Math.Pow.{pow_mono}
use Rattle.bm_base.specs.declared.shape.Shape.{Shape}
use Rattle.bm_base.specs.declared.area.Area.{Area}
use Rattle.bm_base.specs.Contents.{Contents}
use Rattle.bm_bufs.specs.declared.placing.Placing.{Placing}
use Rattle.bm_bufs.specs.Bufs.{Lists, FitsShape}
use Rattle.bm_bufs.specs.Places.{places_by}
use Rattle.bm_bufs.specs.TileMoves.{HasRoom, MovesLoad}
use Rattle.bm_split.specs.declared.split.Split.{Split}
use Rattle.bm_split.specs.Splits.{IsSplit}
use Rattle.bm_pass.specs.LoadPlaces.{IsOfLoad, HoldsLoad}
use Rattle.bm_pass.proofs.PlaceLemmas.{place_below}

-- the first step is a placing of the load too
pub IsOfLoad-outer : (s : Shape) (placing : Placing) (room : ℕ) (split : Split) → IsOfLoad s placing → IsSplit placing room split
    → IsOfLoad s split.outer
IsOfLoad-outer s placing room split of_load is = record {
  bits = is.outer.count ∙ of_load.bits;
  width = is.outer.width ∙ of_load.width;
  nonsingular = is.nonsingular;
  plus = is.outer.plus;
}

-- buffers that fit the shape have room for the second step
pub HasRoom-split : (s : Shape) (placing : Placing) (split : Split) (lists : Lists) → IsOfLoad s placing
    → IsSplit placing (s.b + s.d) split → FitsShape s lists → HasRoom split.inner lists
HasRoom-split s placing split lists of_load is fits =
    let bits : split.inner.placing.a.n ≡ s.m = is.inner.count ∙ of_load.bits in
    let width : split.inner.placing.width ≡ s.width = is.inner.width ∙ of_load.width in
    let tile : 2 ^ split.inner.tile * s.width ≤ 2 ^ (s.b + s.d) * s.width =
    mul-le-mul_right s.width (pow_mono {i = split.inner.tile} {j = s.b + s.d} is.tile) in
    record {
      load = fits.load ∙ ap (λ n. 2 ^ n * s.width) (sym bits) ∙ ap (λ w. 2 ^ split.inner.placing.a.n * w) (sym width);
      row = subst (λ w. 2 ^ split.inner.tile * w ≤ length lists.row) (sym width) (rw (sym fits.row) at tile);
    }

-- records that the first step put down, and that the second one moved, stand at their places
pub HoldsLoad-settled : (s : Shape) (placing : Placing) (room : ℕ) (split : Split) (from : Area) (load : ℕ) (contents : Contents)
    (filled settled : Lists) → IsOfLoad s placing → IsSplit placing room split → MovesLoad split.inner.placing filled settled
    → HoldsLoad s split.outer from load contents filled.load → HoldsLoad s placing from load contents settled.load
HoldsLoad-settled s placing room split from load contents filled settled of_load is moved holds i below =
    let outer = split.outer in
    let inner = split.inner.placing in
    let place = places_by outer.a outer.plus i in
    let goal = places_by placing.a placing.plus i in
    let of_outer : IsOfLoad s outer = IsOfLoad-outer s placing room split of_load is in
    let in_all : i < 2 ^ placing.a.n = subst (λ k. i < 2 ^ k) (sym of_load.bits) below in
    let in_load : place < 2 ^ inner.a.n =
    subst (λ k. place < 2 ^ k) (is.outer.count ∙ sym is.inner.count) (place_below outer i of_outer.plus) in
    ap (λ w. slice_chunk settled.load w goal) (sym is.inner.width)
    ∙ ap (slice_chunk settled.load inner.width) (sym (is.composes i in_all))
    ∙ moved.load.moved place in_load
    ∙ ap (λ w. slice_chunk filled.load w place) (is.inner.width ∙ sym is.outer.width)
    ∙ holds i below
