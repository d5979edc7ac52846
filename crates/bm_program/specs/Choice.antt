-- The calls that the program's first word chooses.
use Rattle.std.specs.Prelude.{◌≡◌, ◌≢◌, Bool, ℕ, List, String}
use Rattle.std.specs.declared.alloc.Global.{Global}
use Rattle.bm_top.specs.Moment.{SourceView, SinkView}
use Rattle.bm_top.specs.declared.status.Status.{Status}
use Rattle.bm_batch_call.specs.Words.{BeginsBatch}
use Rattle.bm_kind_call.specs.Words.{kind_word}
use Rattle.bm_mirror_call.specs.Words.{mirror_word}
use Rattle.bm_program.specs.declared.choice.Choice.{Choice}
use Rattle.bm_program.specs.declared.choice.Choice.TheVariants.{Batch, One}
use Rattle.bm_program.specs.declared.one_job.OneJob.TheVariants.{Command, Transform, Mirror}
use Rattle.bm_program.specs.BatchOverFiles.{CallsBatch}
use Rattle.bm_program.specs.Calls.{CallsWithJob}

-- this word chooses this call
abbrev pub Chooses : List ℕ → Choice → Type 0
Chooses word Batch = BeginsBatch word
Chooses word (One Mirror) = word ≡ mirror_word
Chooses word (One Transform) = word ≡ kind_word
Chooses word (One Command) = (¬ BeginsBatch word) × (word ≢ mirror_word) × (word ≢ kind_word)

-- that call was made with this input and output
abbrev pub CallsChosen : Choice → Bool → Bool → List (String Global) → SourceView → SinkView → Status → SourceView → SinkView → Type 0
CallsChosen Batch = CallsBatch
CallsChosen (One call) = CallsWithJob call
