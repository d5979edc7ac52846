use Rattle.std.proofs.Common.{ℕ, ◌+◌, ◌*◌, List, sym, ◌∙◌, ap, subst, arith}
use Rattle.std.specs.Fork.{slice_chunk}
use borrow.Rule.Slice.PartMut.{put_mid}
use Rattle.bm_memrack.specs.declared.crash_choice.CrashChoice.{CrashChoice}
use Rattle.bm_memrack.specs.BlockCopy.{flag_at}
use Rattle.bm_memrack.specs.CrashChoice.{choice_of, remains_of}
use Rattle.bm_memrack.proofs.CrashChoiceLemmas.{UnitsChosen, dirty_count-zero, chosen_none, dirty_count_yes, dirty_count_no, chosen_skip}
use Rattle.bm_memrack.proofs.CrashChoiceLemmas.{chosen_more}
use Rattle.bm_memrack.proofs.crash_choice.choose_units.Goals as goal
use Rattle.bm_memrack.proofs.crash_choice.choose_units.Goals.{then-is_dirty, else-is_dirty}

pub loop-place-init : goal.loop-place-init
loop-place-init c = record {
  unit = omega (arith, dirty_count-zero (flag_at c.args.dirty.now));
  bound = omega arith;
  chosen = chosen_none c.args.dirty.now c.args.first c.args.pick c.args.size c.args.bytes.now;
}

pub loop-place-preserved : goal.loop-place-preserved
loop-place-preserved c =
    let dirty = c.args.dirty.now in
    let p = c.loop-place.place in
    let size = c.args.size in
    let pick = c.args.pick in
    let bytes = c.loop-place.bytes in
    let was = c.loop-place.invariant.chosen in
    let P : List ℕ → Type 0 = λ x. UnitsChosen dirty c.args.first pick size (p + 1) c.args.bytes.now x in
    elim c.if-is_dirty.branch [
      | then-is_dirty w ↦
          let left = remains_of (choice_of pick c.loop-place.unit) (slice_chunk bytes size p) in
          let placed : CrashChoice → List ℕ = λ choice. put_mid (p * size) size bytes (remains_of choice (slice_chunk bytes size p)) in
          let bytes_are = w.bytes-is ∙ w.apply_at.ensures ∙ ap placed w.of.ensures in
          let left_is = ap (λ n. remains_of (choice_of pick n) (slice_chunk bytes size p)) c.loop-place.invariant.unit in
          let more = chosen_more dirty c.args.first pick size p c.args.bytes.now bytes left (omega arith) w.if-is_dirty.true (omega arith)
          left_is was in
          record {
            unit = omega (arith, w.unit-is, c.loop-place.invariant.unit, dirty_count_yes (flag_at dirty) p w.if-is_dirty.true);
            bound = omega (arith, w.unit-is, c.loop-place.invariant.bound);
            chosen = subst P (sym bytes_are) more;
          }
      | else-is_dirty w ↦
          let skip = chosen_skip dirty c.args.first pick size p c.args.bytes.now bytes (omega arith) w.if-is_dirty.false was in
          record {
            unit = omega (arith, w.unit-is, c.loop-place.invariant.unit, dirty_count_no (flag_at dirty) p w.if-is_dirty.false);
            bound = omega (arith, w.unit-is, c.loop-place.invariant.bound);
            chosen = subst P (sym w.bytes-is) skip;
          }
    ]
