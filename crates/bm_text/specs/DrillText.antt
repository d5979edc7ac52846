-- The report of a drill.
use Rattle.std.specs.Prelude.{codes, ℕ, List, ◌++◌, decimal}
use Rattle.hex.specs.Hex.{encode_lower}
use Rattle.bm_base.specs.declared.report.DrillReport.{DrillReport}
use Rattle.bm_text.specs.Line.{headed}

-- the passes of the job, the restarts, the parallel transfers and their bound, and the word before the digest, a line each
abbrev pub count_lines : DrillReport → List ℕ
count_lines report =
    codes "passes " ++ decimal report.passes ++ codes "\nrestarts " ++ decimal report.restarts
    ++ codes "\nmoves " ++ decimal report.moves ++ codes "\nbound " ++ decimal report.bound ++ codes "\nsha256 "

-- these, and the digest in 64 hexadecimal digits
abbrev pub drill_text : DrillReport → List ℕ
drill_text report = headed (count_lines report) (encode_lower report.digest)
