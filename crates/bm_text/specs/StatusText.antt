-- How far a job has come.
use Rattle.std.specs.Prelude.{codes, ℕ, List, ◌++◌, decimal}
use Rattle.bm_forms.specs.declared.job.Job.{Job}
use Rattle.bm_forms.specs.declared.job.Job.TheVariants.{Permute, Walsh}

-- the line of a job's kind
abbrev pub kind_line : Job → List ℕ
kind_line (Permute map) = codes "job permute\n"
kind_line Walsh = codes "job walsh\n"

-- the kind, and how many of the gates of its passes are open
abbrev pub status_text : Job → ℕ → ℕ → List ℕ
status_text job done all = kind_line job ++ codes "gates " ++ decimal done ++ codes " of " ++ decimal all ++ codes "\n"
