use Rattle.std.proofs.Common.{◌++◌, List, codes, ℕ, decimal, sym, ap, ◌∙◌, arith, append_assoc}
use Rattle.std.proofs.lemmas.List.{append-nil}
use Rattle.bm_gf2.specs.Matrix.{column}
use Rattle.bm_text.specs.JobText.{row_of, row_list, first_rows}
use Rattle.bm_text.proofs.JobTextLemmas.{row_by_entries, first_row, row_more}
use Rattle.bm_text.proofs.job_text.push_rows.Goals as goal

pub loop-i-init : goal.loop-i-init
loop-i-init c =
    let a = c.args.a.now in
    let old = c.args.text.now.bytes in
    let row = row_by_entries (column a) 0 a.n c.row.result c.row.ensures.below c.row.ensures.bits in
    record {
      bytes = c.push_number.ensures.bytes
          ∙ ap (λ (z : List ℕ). z ++ decimal c.row.result) (append-nil old)
          ∙ ap (λ (z : ℕ). old ++ decimal z) row
          ∙ ap (λ (z : List ℕ). old ++ z) (sym (first_row (row_of (column a) a.n)));
      short = omega (arith, c.push_number.ensures.short);
    }

pub loop-i-preserved : goal.loop-i-preserved
loop-i-preserved c =
    let a = c.args.a.now in
    let i = c.loop-i.i in
    let old = c.args.text.now.bytes in
    let here = c.row-in-loop-i in
    let before = row_list (first_rows a i) in
    let row = row_by_entries (column a) i a.n here.result here.ensures.below here.ensures.bits in
    record {
      bytes = c.push_number-in-loop-i.ensures.bytes
          ∙ ap (λ (z : List ℕ). z ++ codes ", " ++ decimal here.result) c.loop-i.invariant.bytes
          ∙ ap (λ (z : ℕ). old ++ before ++ codes ", " ++ decimal z) row
          ∙ append_assoc (old ++ before) (codes ", ") (decimal (row_of (column a) a.n i))
          ∙ append_assoc old before (codes ", " ++ decimal (row_of (column a) a.n i))
          ∙ ap (λ (z : List ℕ). old ++ z) (sym (row_more (row_of (column a) a.n) i c.loop-i.auto.i));
      short = omega (arith, c.push_number-in-loop-i.ensures.short, c.loop-i.invariant.short);
    }
