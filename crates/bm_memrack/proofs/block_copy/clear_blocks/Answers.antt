use Rattle.std.proofs.Common.{◌+◌, List, ℕ, refl, sym, ◌∙◌, subst, arith}
use Rattle.std.proofs.lemmas.List.{length-replicate}
use Rattle.bm_memrack.specs.BlockCopy.{zero_block, BlocksRead}
use Rattle.bm_memrack.proofs.BlockCopyLemmas.{read_skip, read_more, some_if, none_if}
use Rattle.bm_memrack.proofs.block_copy.clear_blocks.Goals as goal
use Rattle.bm_memrack.proofs.block_copy.clear_blocks.Goals.{then-is_some, else-is_some}

pub loop-disk-preserved : goal.loop-disk-preserved
loop-disk-preserved c =
    let dims = c.args.dims.now in
    let k = c.loop-disk.disk in
    let places = c.args.places.now in
    let P : List ℕ → Type 0 = λ x. BlocksRead dims (k + 1) (zero_block dims) places c.args.bytes.now x in
    elim c.if-is_some.branch [
      | then-is_some w ↦
          let some = some_if _ (sym c.is_some.ensures ∙ w.if-is_some.true) in
          record {
            cleared = subst P (sym (w.bytes-is ∙ w.clear_bytes.ensures)) (read_more dims k some.0 (zero_block dims) places
                c.args.bytes.now c.loop-disk.bytes (zero_block dims k some.0) (omega arith) (omega arith) (length-replicate dims.block 0)
                refl some.1 c.loop-disk.invariant.cleared);
            block = refl;
          }
      | else-is_some w ↦ record {
        cleared = subst P (sym w.bytes-is) (read_skip dims k (zero_block dims) places
            c.args.bytes.now c.loop-disk.bytes (omega arith) (none_if _ (sym c.is_some.ensures ∙ w.if-is_some.false))
            c.loop-disk.invariant.cleared);
        block = refl;
      }
    ]
