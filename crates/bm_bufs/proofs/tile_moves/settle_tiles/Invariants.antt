use Rattle.std.proofs.Common.{◌≡◌, ℕ, ◌/◌, ◌^◌, ◌<◌, ◌≤◌, length}
use Rattle.std.specs.Fork.{slice_chunk}
use Rattle.bm_gf2.specs.Matrix.{image}
use Rattle.bm_bufs.specs.Tiles.{origin}
use Rattle.bm_bufs.proofs.tile_moves.settle_tiles.Given as goal

abbrev pub invariant-loop-o : goal.invariant-loop-o
invariant-loop-o l =
    let m = l.map in
    let w = m.placing.width in
    record {
      map : l.steps.map ≡ m;
      load : length l.load ≡ length l.fn.load;
      row : length l.row ≡ length l.fn.row;
      moved : (z : ℕ) → z < 2 ^ m.basis.n → z / 2 ^ m.tile < l.o
          → slice_chunk l.load w (image m.basis z) ≡ slice_chunk l.fn.load w (image m.basis (origin m.back m.back_plus z));
      left : (z : ℕ) → z < 2 ^ m.basis.n → l.o ≤ z / 2 ^ m.tile
          → slice_chunk l.load w (image m.basis z) ≡ slice_chunk l.fn.load w (image m.basis z);
    }
