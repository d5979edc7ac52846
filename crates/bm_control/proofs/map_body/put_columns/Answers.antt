use Rattle.std.proofs.Common.{◌++◌, List, ℕ, slice_index, ap, sym, ◌∙◌, arith, append_assoc, add-one}
use Rattle.std.proofs.lemmas.List.{append-nil}
use Rattle.bm_control.specs.Bodies.{u64_bytes, column_bytes}
use Rattle.bm_control.proofs.map_body.put_columns.Goals as goal

pub loop-j-init : goal.loop-j-init
unfolding column_bytes
loop-j-init c = record { bytes = sym (append-nil c.args.page.now); size = omega arith }

pub loop-j-preserved : goal.loop-j-preserved
unfolding column_bytes
loop-j-preserved c = record {
  bytes =
      c.put_u64.ensures.bytes
      ∙ ap (λ (x : List ℕ). x ++ u64_bytes (slice_index c.args.cols.now c.from.result)) c.loop-j.invariant.bytes
      ∙ ap (λ (k : ℕ). (c.args.page.now ++ column_bytes c.args.cols.now c.loop-j.j) ++ u64_bytes (slice_index c.args.cols.now k))
      c.from.ensures
      ∙ append_assoc c.args.page.now (column_bytes c.args.cols.now c.loop-j.j) (u64_bytes (slice_index c.args.cols.now c.loop-j.j))
      ∙ ap (λ (k : ℕ). c.args.page.now ++ column_bytes c.args.cols.now k) (sym (add-one c.loop-j.j));
  size = (let e = c.put_u64.ensures.length in let before = c.loop-j.invariant.size in omega (arith, e, before));
}
