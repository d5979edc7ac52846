-- The report of a run.
use Rattle.std.specs.Prelude.{codes, ℕ, List, ◌++◌, decimal}
use Rattle.bm_base.specs.declared.report.RunReport.{RunReport}

-- the passes of the job, those that were done before, the parallel transfers and their bound, a line each
abbrev pub report_text : RunReport → ℕ → List ℕ
report_text report bound =
    codes "passes " ++ decimal report.passes ++ codes "\nbefore " ++ decimal report.done_before
    ++ codes "\nmoves " ++ decimal report.moves ++ codes "\nbound " ++ decimal bound ++ codes "\n"
