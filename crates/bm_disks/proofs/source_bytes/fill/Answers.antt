use Rattle.std.proofs.Common.{◌≡◌, ℕ, ◌+◌, ◌-◌, ◌≤◌, ◌++◌, List, length, take, drop, sym, ◌∙◌, ap, arith, append_assoc, length-append}
use Rattle.std.proofs.Common.{length-take, length-drop}
use Rattle.std.proofs.Math.Seq.{take-add}
use Rattle.std.proofs.lemmas.List.{take-append-le, drop_at, length-take-le}
use Rattle.std.proofs.lemmas.Slice.{take-put_mid_below}
use borrow.Rule.Slice.PartMut.{put_mid, post_of}
use Rattle.bm_disks.proofs.source_bytes.fill.Goals as goal

-- a front of the part that was written
front_written : (at n k : ℕ) (xs ys : List ℕ) → at ≤ length xs → n ≤ length ys
    → take (at + n) (put_mid at k xs ys) ≡ take at xs ++ take n ys
front_written at n k xs ys within short =
    let front : length (take at xs) ≡ at = length-take-le at xs within in
    take-add at n (put_mid at k xs ys)
    ∙ ap (λ (z : List ℕ). z ++ take n (drop at (put_mid at k xs ys))) (take-put_mid_below at k xs ys at (omega arith) within)
    ∙ ap (λ (z : List ℕ). take at xs ++ take n z) (drop_at (take at xs) (ys ++ post_of at k xs) at front)
    ∙ ap (λ (z : List ℕ). take at xs ++ z) (take-append-le n ys (post_of at k xs) short)

longer : (at n k : ℕ) (xs ys : List ℕ) → at ≤ length xs → n ≤ length ys → at + n ≤ length (put_mid at k xs ys)
longer at n k xs ys within short = simp (length-append, length-take) (omega arith)

-- what came before and what came now
filled_more : (at n k : ℕ) (into part before now left : List ℕ) → at ≤ length into → n ≤ length part
    → before ≡ take at into ++ now
    → now ≡ take n part ++ left → before ≡ take (at + n) (put_mid at k into part) ++ left
filled_more at n k into part before now left within short was came =
    was
    ∙ ap (λ (z : List ℕ). take at into ++ z) came
    ∙ sym (append_assoc (take at into) (take n part) left)
    ∙ ap (λ (z : List ℕ). z ++ left) (sym (front_written at n k into part within short))

pub loop-at-preserved : goal.loop-at-preserved
loop-at-preserved g c =
    let inv = c.loop-at.invariant in
    let rest = length c.loop-at.into - c.loop-at.at in
    let size : length c.read.new.into ≡ rest = c.read.auto.into ∙ simp (length-take, length-drop) (omega arith) in
    let few : c.in-Ok.count ≤ rest = omega (arith, simp (length-take, length-drop) at c.in-Ok.ensures.read.bound) in
    let short : c.in-Ok.count ≤ length c.read.new.into = omega arith in
    record {
      within = longer c.loop-at.at c.in-Ok.count _ c.loop-at.into c.read.new.into inv.within short;
      bytes = λ told. filled_more c.loop-at.at c.in-Ok.count _ c.loop-at.into c.read.new.into _ _ _ inv.within short
          (inv.bytes told) (c.in-Ok.ensures.read.bytes told);
      faults = omega (arith, c.read.ensures.faults, inv.faults);
    }
