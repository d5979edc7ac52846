-- The call of a batch whose job sources and bays no contract sees.
use Rattle.std.specs.Prelude.{◌≡◌, Bool, false, List, length, String}
use Rattle.std.specs.declared.alloc.Global.{Global}
use Rattle.bm_rack.specs.RackView.{RackView}
use Rattle.bm_top.specs.Moment.{SourceView, SinkView, tells_of}
use Rattle.bm_top.specs.declared.status.Status.{Status}
use Rattle.bm_batch_call.specs.BatchCall.{BatchTop}
use Rattle.bm_batch_call.specs.Moment.{devices_of, moment_of}

-- The call was made with this input and output, with job sources of its own and as many bays, which tell nothing.
abbrev pub CallsBatch : Bool → Bool → List (String Global) → SourceView → SinkView → Status → SourceView → SinkView → Type 0
CallsBatch told_input told_out words input out answer new_input new_out =
    (jobs : List SourceView) × (read : List SourceView) × (before : List RackView) × (after : List RackView)
    × (length before ≡ length jobs)
    × BatchTop (tells_of false told_input told_out false false) words (moment_of jobs (devices_of input out before)) answer
    (moment_of read (devices_of new_input new_out after))
