use Rattle.std.proofs.Common.{◌≡◌, ◌⊎◌, ℕ, ◌+◌, ◌-◌, ◌*◌, ◌/◌, ◌%◌, ◌^◌, ◌<◌, ◌≤◌, length}
use Rattle.std.specs.Fork.{slice_chunk}
use Rattle.bm_gf2.specs.Matrix.{image}
use Rattle.bm_bufs.specs.Tiles.{origin}
use Rattle.bm_bufs.proofs.tile_moves.fill_tile.Given as goal

abbrev pub invariant-loop-q : goal.invariant-loop-q
invariant-loop-q l =
    let m = l.steps.map in
    let w = m.placing.width in
    let begin = l.o * 2 ^ (m.tile - m.low) in
    record {
      low : l.low ≡ m.low;
      start : l.start ≡ begin;
      at : l.at ≡ image m.basis ((begin + l.q) * 2 ^ m.low);
      from : l.from ≡ origin m.back m.back_plus ((begin + l.q) * 2 ^ m.low);
      size : length l.load ≡ length l.fn.load;
      moved : (z : ℕ) → z < 2 ^ m.basis.n → begin ≤ z / 2 ^ m.low → z / 2 ^ m.low < begin + l.q
          → slice_chunk l.load w (image m.basis z) ≡ slice_chunk l.row w (origin m.back m.back_plus z % 2 ^ m.tile);
      others : (z : ℕ) → z < 2 ^ m.basis.n → (z / 2 ^ m.low < begin) ⊎ (begin + l.q ≤ z / 2 ^ m.low)
          → slice_chunk l.load w (image m.basis z) ≡ slice_chunk l.fn.load w (image m.basis z);
    }
