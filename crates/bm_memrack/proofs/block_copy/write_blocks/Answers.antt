use Rattle.std.proofs.Common.{◌+◌, ◌*◌, Bool, true, List, ℕ, take, drop, set, refl, sym, ◌∙◌, ap, subst, arith}
use borrow.Rule.Slice.PartMut.{put_mid}
use Rattle.bm_memrack.specs.BlockCopy.{number, BlocksWritten}
use Rattle.bm_memrack.proofs.BlockCopyLemmas.{write_skip, write_more}
use Rattle.bm_memrack.proofs.block_copy.write_blocks.Goals as goal
use Rattle.bm_memrack.proofs.block_copy.write_blocks.Goals.{in-Some, in_default}

pub loop-disk-preserved : goal.loop-disk-preserved
loop-disk-preserved c =
    let dims = c.args.dims.now in
    let k = c.loop-disk.disk in
    let len = c.args.len in
    let places = c.args.places.now in
    let bytes = c.args.bytes.now in
    let flat = c.loop-disk.flat in
    let flags = c.loop-disk.dirty_blocks in
    let row = take len (drop (k * dims.block) bytes) in
    let P : List ℕ → List Bool → Type 0 = λ x y. BlocksWritten dims (k + 1) places bytes len c.args.flat.now c.args.dirty_blocks.now x y in
    elim c.match-place.branch [
      | in-Some w ↦
          let p = w.in-Some.place in
          let n = w.number_of-to.ensures.number in
          let next = put_mid (number dims k p * dims.block) len flat row in
          let flat_is = w.flat-is ∙ w.copy_bytes.ensures ∙ ap (λ x. put_mid (x * dims.block) len flat row) n in
          let flags_are = w.dirty_blocks-is ∙ ap (λ x. set flags x true) n in
          let on_disk = c.requires.below k p (omega arith) w.in-Some.is in
          let more = write_more dims k p len places bytes c.args.flat.now flat c.args.dirty_blocks.now flags (omega arith) on_disk
          c.requires.below
          (omega arith) (omega arith) c.requires.bytes c.requires.len w.in-Some.is c.loop-disk.invariant.written in
          record {
            written = subst (λ x. P x c.match-place.dirty_blocks) (sym flat_is) (subst (λ y. P next y) (sym flags_are) more);
            block = refl;
          }
      | in_default w ↦
          let skip = write_skip dims k len places bytes c.args.flat.now flat c.args.dirty_blocks.now flags w.in_default.is
          c.loop-disk.invariant.written in
          record {
            written = subst (λ x. P x c.match-place.dirty_blocks) (sym w.flat-is) (subst (λ y. P flat y) (sym w.dirty_blocks-is) skip);
            block = refl;
          }
    ]
