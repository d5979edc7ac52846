use Rattle.std.proofs.Common.{◌≡◌, sym, ap, ◌∙◌}
use Rattle.bm_jobfile.specs.declared.map_table.NamedMap.TheVariants.{Rows}
use Rattle.bm_jobfile.proofs.NamedLemmas.{rows_named, rows_named_faultless}
use Rattle.bm_jobfile.proofs.map_job.affine_of.Goals as goal

pub returns-in-Rows-clause-value : goal.returns-in-Rows-clause-value
returns-in-Rows-clause-value c =
    let is : c.args.named.now ≡ Rows c.as_slice-in-Rows.result.now = c.in-Rows.is ∙ ap Rows (sym c.as_slice-in-Rows.ensures) in
    rows_named c.args.n c.args.named.now c.as_slice-in-Rows.result.now c.from_rows.result is c.from_rows.ensures.size
    c.from_rows.ensures.entries c.from_rows.ensures.constant

pub returns-in-Rows-clause-faultless : goal.returns-in-Rows-clause-faultless
returns-in-Rows-clause-faultless c =
    let is : c.args.named.now ≡ Rows c.as_slice-in-Rows.result.now = c.in-Rows.is ∙ ap Rows (sym c.as_slice-in-Rows.ensures) in
    rows_named_faultless c.args.n c.args.named.now c.as_slice-in-Rows.result.now c.from_rows.result is c.from_rows.ensures.size
    c.from_rows.ensures.entries c.from_rows.ensures.nonsingular c.from_rows.ensures.rows
