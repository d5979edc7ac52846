-- The pages of the control file by their names, and what stands on the first four.
use Rattle.std.specs.Prelude.{◌≡◌, ℕ, ◌+◌, ◌*◌, List, replicate}
use Rattle.bm_base.specs.declared.shape.Shape.{Shape}
use Rattle.bm_base.specs.Contents.{Contents, page_at}
use Rattle.bm_base.specs.Gate.{IsOpenGate, IsClosedGate}
use Rattle.bm_forms.specs.declared.job.Job.{Job}
use Rattle.bm_control.specs.Bodies.{load_page, IsJobBody}

-- the page of the load body, which names the shape of the records, and of its gate
abbrev pub load_body : ℕ
load_body = 0

abbrev pub load_gate : ℕ
load_gate = 1

-- the page of the job body, and of its gate
abbrev pub job_body : ℕ
job_body = 2

abbrev pub job_gate : ℕ
job_gate = 3

-- the page of the body of pass k + 1, and of its gate
abbrev pub pass_body : ℕ → ℕ
pass_body k = 4 + 2 * k

abbrev pub pass_gate : ℕ → ℕ
pass_gate k = 5 + 2 * k

-- the page of a slot's body, and of its gate; there are slots 0 and 1
abbrev pub slot_body : ℕ → ℕ
slot_body slot = 512 + 2 * slot

abbrev pub slot_gate : ℕ → ℕ
slot_gate slot = 513 + 2 * slot

-- the slot that is told where none is counted
abbrev pub no_slot : ℕ
no_slot = 2

-- the page that closes a gate: 512 zeros
abbrev pub IsZeroPage : List ℕ → Type 0
IsZeroPage page = page ≡ replicate 512 0

-- records are loaded, or none are
abbrev pub HasOpenLoad : Contents → Type 0
HasOpenLoad v = IsOpenGate (page_at v load_gate)

abbrev pub HasClosedLoad : Contents → Type 0
HasClosedLoad v = IsClosedGate (page_at v load_gate)

-- a job is open, or none is
abbrev pub HasOpenJob : Contents → Type 0
HasOpenJob v = IsOpenGate (page_at v job_gate)

abbrev pub HasClosedJob : Contents → Type 0
HasClosedJob v = IsClosedGate (page_at v job_gate)

-- the load body is that of this shape
abbrev pub HasLoadBody : Shape → Contents → Type 0
HasLoadBody s v = page_at v load_body ≡ load_page s

-- the job body decodes to these values
abbrev pub HasJobBody : Shape → Contents → Job → ℕ → ℕ → Type 0
HasJobBody s v job passes every = IsJobBody s (page_at v job_body) job passes every
