use Rattle.std.proofs.Common.{◌≡◌, ◌≢◌, ◌-◌, ◌*◌, ◌/◌, ◌%◌, ◌^◌, ◌<◌, inl, inr, ⊎_elim, sym, ◌∙◌, subst, arith}
use Rattle.std.proofs.lemmas.Nat.{one_shl}
use Rattle.std.proofs.lemmas.Bool.{cases_eq}
use Rattle.bm_bufs.specs.Tiles.{origin}
use Rattle.bm_bufs.specs.TileMoves.{GathersTile, FillsTile}
use Rattle.bm_bufs.proofs.TileLemmas.{kept_tile, origin_below}
use Rattle.bm_bufs.proofs.TurnLemmas.{settled}
use Rattle.bm_bufs.proofs.tile_moves.settle_tiles.Goals as goal
use Rattle.bm_base.proofs.PowerLemmas.{cut_below}

pub loop-o-preserved : goal.loop-o-preserved
loop-o-preserved c =
    let m = c.args.map.now in
    let inv = c.loop-o.invariant in
    let o = c.loop-o.o in
    let gathers = subst (λ x. GathersTile x o c.loop-o.load c.loop-o.row c.gather_tile.new.row) inv.map c.gather_tile.ensures in
    let fills = subst (λ x. FillsTile x o c.gather_tile.new.row c.loop-o.load c.fill_tile.new.load) inv.map c.fill_tile.ensures in
    record {
      map = inv.map;
      load = fills.size ∙ inv.load;
      row = gathers.size ∙ inv.row;
      moved = λ z short below. ⊎_elim
          (λ (p : z / 2 ^ m.tile ≡ o).
          let from = origin m.back m.back_plus z in
          let size : m.back.n ≡ m.basis.n = m.back_size ∙ sym m.basis_size in
          let kept : from / 2 ^ m.tile ≡ o = kept_tile m.back m.back_plus m.tile z m.tiles (subst (λ x. z < 2 ^ x) (sym size) short) ∙ p in
          let from_short : from < 2 ^ m.basis.n = subst (λ x. from < 2 ^ x) size
          (origin_below m.back m.back_plus m.tile z m.tiles (omega (arith, m.tile_in, m.back_size))) in
          fills.moved z short p ∙ gathers.moved from kept ∙ inv.left from from_short (omega arith))
          (λ (p : z / 2 ^ m.tile ≢ o). fills.others z short (inl (omega arith)) ∙ inv.moved z short (omega arith))
          (cases_eq (z / 2 ^ m.tile) o);
      left = λ z short above. fills.others z short (inr (omega arith)) ∙ inv.left z short (omega arith);
    }

pub returns-clause-moved : goal.returns-clause-moved
returns-clause-moved c =
    let m = c.args.map.now in
    let one : 1 * 2 ^ (m.basis.n - m.tile) % 18446744073709551616 ≡ 2 ^ (m.basis.n - m.tile) =
    one_shl (m.basis.n - m.tile) 64 (omega (arith, m.basis.few)) in
    let test = c.loop-o-test.false in
    record {
      moved = settled m m.placing.width c.args.load.now c.loop-o.load (λ z short. c.loop-o.invariant.moved z short
          (let inside = cut_below m.basis.n m.tile z (omega (arith, m.tile_in, m.basis_size)) short in omega arith));
      size = c.loop-o.invariant.load;
    }
