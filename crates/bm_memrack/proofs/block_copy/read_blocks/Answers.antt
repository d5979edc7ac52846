use Rattle.std.proofs.Common.{◌+◌, ◌*◌, List, ℕ, refl, sym, ◌∙◌, ap, subst, arith}
use Rattle.std.specs.Fork.{slice_chunk}
use borrow.Rule.Slice.PartMut.{put_mid}
use Rattle.bm_memrack.specs.BlockCopy.{number, flat_at, BlocksRead}
use Rattle.bm_memrack.proofs.BlockCopyLemmas.{read_skip, read_more, chunk_long, number_below}
use Rattle.bm_memrack.proofs.block_copy.read_blocks.Goals as goal
use Rattle.bm_memrack.proofs.block_copy.read_blocks.Goals.{in-Some, in_default}

pub loop-disk-preserved : goal.loop-disk-preserved
loop-disk-preserved c =
    let dims = c.args.dims.now in
    let k = c.loop-disk.disk in
    let block_of = flat_at dims c.args.flat.now in
    let P : List ℕ → Type 0 = λ x. BlocksRead dims (k + 1) block_of c.args.places.now c.args.bytes.now x in
    elim c.match-place.branch [
      | in-Some w ↦
          let p = w.in-Some.place in
          let placed : ℕ → List ℕ = λ n. put_mid (k * dims.block) dims.block c.loop-disk.bytes (slice_chunk c.args.flat.now dims.block n) in
          let e = w.bytes-is ∙ w.copy_bytes.ensures ∙ ap placed w.number_of-from.ensures.number in
          let on_disk = c.requires.below k p (omega arith) w.in-Some.is in
          record {
            read = subst P (sym e) (read_more dims k p block_of c.args.places.now c.args.bytes.now c.loop-disk.bytes (block_of k p)
                (omega arith) (omega arith)
                (chunk_long dims.block (dims.disks * dims.places) (number dims k p) c.args.flat.now c.requires.flat
                (number_below dims k p (omega arith) on_disk))
                refl w.in-Some.is c.loop-disk.invariant.read);
            block = refl;
          }
      | in_default w ↦ record {
        read = subst P (sym w.bytes-is) (read_skip dims k block_of c.args.places.now
            c.args.bytes.now c.loop-disk.bytes (omega arith) w.in_default.is c.loop-disk.invariant.read);
        block = refl;
      }
    ]
