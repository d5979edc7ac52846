-- What a batch works on, at one moment.
use Rattle.std.specs.Prelude.{ℕ, ◌*◌, ◌^◌, List, [], map, slice_index_or, None}
use Rattle.std.specs.Fork.{slice_chunk}
use Rattle.bm_base.specs.declared.shape.Shape.{Shape}
use Rattle.bm_base.specs.Records.{bytes_of}
use Rattle.bm_base.specs.Shape.{input_size}
use Rattle.bm_forms.specs.declared.job.Job.{Job}
use Rattle.bm_forms.specs.Job.{meaning}
use Rattle.bm_rack.specs.RackView.{RackView}
use Rattle.bm_rack.specs.Untold.{untold_view}
use Rattle.bm_top.specs.Moment.{SourceView, SinkView, source_of}
use Rattle.bm_top.specs.declared.task.Task.{Task}

-- once the job texts are read
pub record BatchDevices : Type 0 where
  pub input : SourceView
  pub out : SinkView
  pub bays : List RackView

-- all but the sink of the last line
pub record BatchMoment : Type 0 where
  pub jobs : List SourceView
  pub devices : BatchDevices

-- these, in short
abbrev pub devices_of : SourceView → SinkView → List RackView → BatchDevices
devices_of input out bays = record { input = input; out = out; bays = bays }

abbrev pub moment_of : List SourceView → BatchDevices → BatchMoment
moment_of jobs devices = record { jobs = jobs; devices = devices }

abbrev pub sources_of : {A : Type 0} → (A → List ℕ) → (A → ℕ) → List A → List SourceView
sources_of left faults xs = map (λ x. source_of (left x) (faults x)) xs

-- where there is no element: a view that is never seen
abbrev pub no_source : SourceView
no_source = source_of [] 0

abbrev pub no_view : RackView
no_view = untold_view None 0 0 0 0

abbrev pub source_at : List SourceView → ℕ → SourceView
source_at sources k = slice_index_or sources k no_source

-- what is to be done: so many jobs of one shape
pub record Work : Type 0 where
  pub shape : Shape
  pub count : ℕ
  pub job : ℕ → Job

-- that of tasks, which are of the shape of the first one
abbrev pub work_of : ℕ → (ℕ → Task) → Work
work_of count tasks = record { shape = (tasks 0).shape; count = count; job = λ k. (tasks k).job }

-- the bytes of an input for all bays
abbrev pub whole_size : Work → ℕ
whole_size w = w.count * input_size w.shape

-- those of bay k
abbrev pub part_of : Work → List ℕ → ℕ → List ℕ
part_of w bytes k = slice_chunk bytes (input_size w.shape) k

-- the bytes of what job k makes of these records, in order of address
abbrev pub made_by : Work → ℕ → (ℕ → List ℕ) → List ℕ
made_by w k records = bytes_of (2 ^ w.shape.n) (meaning w.shape.n (w.job k) records)
