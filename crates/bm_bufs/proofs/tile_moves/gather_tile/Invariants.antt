use Rattle.std.proofs.Common.{◌≡◌, ℕ, ◌+◌, ◌-◌, ◌*◌, ◌/◌, ◌^◌, ◌<◌, length}
use Rattle.std.specs.Fork.{slice_chunk}
use Rattle.bm_gf2.specs.Matrix.{image}
use Rattle.bm_bufs.proofs.tile_moves.gather_tile.Given as goal

abbrev pub invariant-loop-q : goal.invariant-loop-q
invariant-loop-q l =
    let m = l.steps.map in
    let begin = l.o * 2 ^ (m.tile - m.low) in
    record {
      low : l.low ≡ m.low;
      run : l.run ≡ 2 ^ m.low * m.placing.width;
      start : l.start ≡ begin;
      from : l.from ≡ image m.basis ((begin + l.q) * 2 ^ m.low);
      size : length l.row ≡ length l.fn.row;
      moved : (k : ℕ) → k < l.q → slice_chunk l.row (2 ^ m.low * m.placing.width) k
          ≡ slice_chunk l.load (2 ^ m.low * m.placing.width) (image m.basis ((begin + k) * 2 ^ m.low) / 2 ^ m.low);
    }
