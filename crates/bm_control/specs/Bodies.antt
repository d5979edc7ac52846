-- The body pages of the control file: a list of 512 bytes for each value. Numbers are little-endian.
use Rattle.std.specs.Prelude.{◌≡◌, ℕ, zero, suc, ◌+◌, ◌-◌, ◌<◌, ◌≤◌, ◌==◌, if◌then◌else◌, List, [], ◌∷◌, ◌++◌, length, replicate}
use Rattle.std.specs.Prelude.{slice_index}
use Rattle.std.specs.Prelude.{codes}
use Rattle.byteorder.specs.Endian.{little_bytes, little_number}
use Rattle.bm_base.specs.declared.shape.Shape.{Shape}
use Rattle.bm_base.specs.Shape.{loads_of}
use Rattle.bm_gf2.specs.declared.affine.Affine.{Affine}
use Rattle.bm_forms.specs.declared.job.Job.{Job}
use Rattle.bm_forms.specs.declared.job.Job.TheVariants.{Permute, Walsh}
use Rattle.bm_forms.specs.declared.pass_form.PassForm.{PassForm}
use Rattle.bm_forms.specs.Job.{JobFits}
use Rattle.bm_forms.specs.PassForm.{IsOfShape}
use Rattle.bm_forms.specs.PassLimit.{limit_of}

-- a number as 2 and as 8 bytes, and the number in the first 2 and in the first 8 bytes
unfoldable pub u16_bytes : ℕ → List ℕ
u16_bytes x = little_bytes 2 x

unfoldable pub u64_bytes : ℕ → List ℕ
u64_bytes x = little_bytes 8 x

unfoldable pub u16_in : List ℕ → ℕ
u16_in bytes = little_number 2 bytes

unfoldable pub u64_in : List ℕ → ℕ
u64_in bytes = little_number 8 bytes

-- the bytes, and zeros after them up to this size
unfoldable pub padded : ℕ → List ℕ → List ℕ
padded size bytes = bytes ++ replicate (size - length bytes) 0

-- Load body: the text BMMCLOAD, version 1, n, b, d, m, the width in 2 bytes, and zeros.
unfoldable pub load_page : Shape → List ℕ
load_page s = padded 512 (codes "BMMCLOAD" ++ (u16_bytes 1 ++ (s.n ∷ s.b ∷ s.d ∷ s.m ∷ u16_bytes s.width)))

-- the first so many columns, 8 bytes each
unfoldable pub column_bytes : List ℕ → ℕ → List ℕ
column_bytes cols zero = []
column_bytes cols (suc j) = column_bytes cols j ++ u64_bytes (slice_index cols j)

-- a map: its constant in 8 bytes, then its columns
unfoldable pub map_bytes : Affine → List ℕ
map_bytes f = u64_bytes f.c ++ column_bytes f.a.cols f.a.n

-- the first 16 bytes of a body with a map: a text of 8 bytes, the version in 2 bytes, two bytes, a number of 2 bytes, and 2 zeros
unfoldable pub body_head : List ℕ → ℕ → ℕ → ℕ → ℕ → List ℕ
body_head text version first second number =
    text ++ (u16_bytes version ++ (first ∷ second ∷ (u16_bytes number ++ 0 ∷ 0 ∷ [])))

-- A body with a map: its head, the map, zeros, and a last number from byte 504 on.
unfoldable pub map_page : List ℕ → List ℕ → ℕ → List ℕ
map_page head map last = padded 504 (head ++ map) ++ u64_bytes last

-- a job's kind: 1 for a permutation, 2 for the transform
abbrev pub kind_of : Job → ℕ
kind_of (Permute f) = 1
kind_of Walsh = 2

-- a job's map; the transform has none, and zeros stand there
abbrev pub job_map : Job → List ℕ
job_map (Permute f) = map_bytes f
job_map Walsh = []

-- the version of a job body: 1 where progress is made durable after whole passes alone, 2 where after fewer loads
abbrev pub job_version : Shape → ℕ → ℕ
job_version s every = if every == loads_of s then 1 else 2

-- the number of loads that version 2 names, and version 1 doesn't
abbrev pub named_loads : Shape → ℕ → ℕ
named_loads s every = if every == loads_of s then 0 else every

-- Job body: the text BMMCTASK, the version, the kind, n, the number of passes, the map, and the number of loads after which progress is
-- made durable.
unfoldable pub job_page : Shape → Job → ℕ → ℕ → List ℕ
job_page s job passes every =
    map_page (body_head (codes "BMMCTASK") (job_version s every) (kind_of job) s.n passes) (job_map job) (named_loads s every)

-- Pass body of pass k + 1: the text BMMCPASS, version 1, the bits with butterflies, n, the number of the pass, and the map.
unfoldable pub pass_page : Shape → PassForm → ℕ → List ℕ
pass_page s pass k = map_page (body_head (codes "BMMCPASS") 1 pass.low s.n (k + 1)) (map_bytes pass.map.map) 0

-- Part body: the text BMMCPART, version 2, the number of the pass in 2 bytes, 4 zeros, the number of loads in 8 bytes, and zeros.
unfoldable pub part_page : ℕ → ℕ → List ℕ
part_page pass loads =
    padded 512 (codes "BMMCPART" ++ (u16_bytes 2 ++ (u16_bytes pass ++ (0 ∷ 0 ∷ 0 ∷ 0 ∷ u64_bytes loads))))

-- A job body's values: a job of the shape, 1 to Q passes, and 1 to N/M loads.
pub record JobBodyFits (s : Shape) (job : Job) (passes every : ℕ) : Type 0 where
  pub fits : JobFits s job
  pub passes_some : 1 ≤ passes
  pub passes_few : passes ≤ limit_of s job
  pub every_some : 1 ≤ every
  pub every_few : every ≤ loads_of s

-- the page decodes to these values: it is their job body
pub record IsJobBody (s : Shape) (page : List ℕ) (job : Job) (passes every : ℕ) : Type 0 where
  pub fits : JobBodyFits s job passes every
  pub page_is : page ≡ job_page s job passes every

-- The page decodes to this pass as pass k + 1: it is its body. No pass has a number above 256.
pub record IsPassBody (s : Shape) (k : ℕ) (page : List ℕ) (pass : PassForm) : Type 0 where
  pub number : k < 256
  pub of_shape : IsOfShape s pass
  pub page_is : page ≡ pass_page s pass k

-- a part body's values: a pass number of 1 to 254, and 1 to N/M - 1 loads
pub record PartBodyFits (s : Shape) (pass loads : ℕ) : Type 0 where
  pub pass_some : 1 ≤ pass
  pub pass_few : pass ≤ 254
  pub loads_some : 1 ≤ loads
  pub loads_few : loads < loads_of s

-- the page decodes to these values: it is their part body
pub record IsPartBody (s : Shape) (page : List ℕ) (pass loads : ℕ) : Type 0 where
  pub fits : PartBodyFits s pass loads
  pub page_is : page ≡ part_page pass loads
