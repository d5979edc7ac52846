-- What stands where in a job body and in a pass body.
use Rattle.std.proofs.Common.{◌≡◌, ◌≢◌, inl, inr, ⊎_elim, ℕ, ◌+◌, ◌-◌, ◌*◌, ◌^◌, ◌<◌, ◌≤◌, List, codes, length, drop}
use Rattle.std.proofs.Common.{slice_index, refl, ap, ◌∙◌, arith}
use Rattle.std.specs.Int.{div_ceil}
use Rattle.std.proofs.lemmas.Bool.{cases_lt, cases_eq, eq-eqb, ne_eqb}
use Rattle.std.proofs.lemmas.Grind.{div_ceil_times}
use Rattle.std.proofs.Math.Nat.{mul-le-mul_left, add-mul, mul-add}
use Rattle.bm_base.specs.declared.shape.Shape.{Shape}
use Rattle.bm_rank.specs.Rank.{rank_of_rows}
use Rattle.bm_gf2.specs.declared.affine.Affine.{Affine}
use Rattle.bm_forms.specs.declared.job.Job.{Job}
use Rattle.bm_forms.specs.declared.job.Job.TheVariants.{Permute, Walsh}
use Rattle.bm_forms.specs.declared.pass_form.PassForm.{PassForm}
use Rattle.bm_forms.specs.PassLimit.{limit_of, rotation_columns, rotation_limit, rounds_of, last_bits}
use Rattle.bm_forms.proofs.PassLimitLemmas.{limit_few}
use Rattle.bm_base.specs.Shape.{loads_of}
use Rattle.bm_control.specs.Bodies.{u16_in, u64_in, body_head, map_bytes, map_page, kind_of, job_map, job_version, named_loads, job_page}
use Rattle.bm_control.specs.Bodies.{pass_page, IsJobBody, IsPassBody}
use Rattle.bm_control.proofs.BodyLemmas.{length-body_head, length-map_bytes, loads_small, version_of, first_of, second_of, number_of_head}
use Rattle.bm_control.proofs.BodyLemmas.{last_of}

-- the rounds of the transform have few passes together
rounds_most : (n m b before x y : ℕ) → b < m → m ≤ n → n ≤ 52 → before ≡ div_ceil n m - 1 → x ≤ b + 2 → y ≤ b + 2 → before * x + y ≤ 254
rounds_most n m b before x y lb lm ln e hx hy =
    let t = div_ceil_times n m (omega arith) in
    let upper : div_ceil n m * m < n + m = t.1 in
    let c : before * x ≤ before * (m + 1) = mul-le-mul_left before (omega arith) in
    let d : before * (m + 1) ≡ before * m + before * 1 = mul-add before m 1 in
    let one : before * 1 ≤ before * m = mul-le-mul_left before (omega arith) in
    ⊎_elim
    (λ (p : div_ceil n m < 1).
    let z : before ≡ 0 = omega arith in
    let q : before * x ≡ 0 = ap (λ (c : ℕ). c * x) z ∙ (let e : 0 * x ≡ 0 = omega arith in e) in
    omega arith)
    (λ (p : 1 ≤ div_ceil n m).
    let w : div_ceil n m ≡ before + 1 = omega arith in
    let v : div_ceil n m * m ≡ before * m + 1 * m = ap (λ (c : ℕ). c * m) w ∙ add-mul before 1 m in
    omega arith)
    (cases_lt (div_ceil n m) 1)

-- a pass limit leaves the last pages of the slate to the slots
pub limit-most : (s : Shape) (job : Job) → limit_of s job ≤ 254
limit-most s (Permute f) =
    let few = s.keeps.addresses in
    let less = s.keeps.memory in
    let block = s.keeps.block in
    let p = limit_few f.a.cols s.b s.m (rank_of_rows f.a.cols s.b s.b) s.keeps.block refl in
    omega (arith, p, few, less, block)
limit-most s Walsh =
    rounds_most s.n s.m s.b (rounds_of s - 1) (rotation_limit s s.m)
    (rotation_limit s (last_bits s)) s.keeps.block s.keeps.memory s.keeps.addresses refl
    (limit_few (rotation_columns s.n s.m s.n) s.b s.m (rank_of_rows (rotation_columns s.n s.m s.n) s.b s.b) s.keeps.block refl)
    (limit_few (rotation_columns s.n (last_bits s) s.n) s.b s.m (rank_of_rows (rotation_columns s.n (last_bits s) s.n) s.b s.b)
    s.keeps.block refl)

-- the numbers of a job body
pub record JobNumbers (s : Shape) (page : List ℕ) (job : Job) (passes every : ℕ) : Type 0 where
  pub version : u16_in (drop 8 page) ≡ job_version s every
  pub kind : slice_index page 10 ≡ kind_of job
  pub bits : slice_index page 11 ≡ s.n
  pub passes_are : u16_in (drop 12 page) ≡ passes
  pub named : u64_in (drop 504 page) ≡ named_loads s every

pub version_whole : (s : Shape) (every : ℕ) → every ≡ loads_of s → job_version s every ≡ 1
version_whole s every h = rw (eq-eqb every (loads_of s) h) refl

pub version_parts : (s : Shape) (every : ℕ) → every ≢ loads_of s → job_version s every ≡ 2
version_parts s every h = rw (ne_eqb every (loads_of s) h) refl

named_whole : (s : Shape) (every : ℕ) → every ≡ loads_of s → named_loads s every ≡ 0
named_whole s every h = rw (eq-eqb every (loads_of s) h) refl

pub named_parts : (s : Shape) (every : ℕ) → every ≢ loads_of s → named_loads s every ≡ every
named_parts s every h = rw (ne_eqb every (loads_of s) h) refl

version_small : (s : Shape) (every : ℕ) → job_version s every < 2 ^ 16
version_small s every = elim (cases_eq every (loads_of s)) [
  | inl same ↦ (let e = version_whole s every same in omega (arith, e))
  | inr other ↦ (let e = version_parts s every other in omega (arith, e))
]

named_small : (s : Shape) (every : ℕ) → every ≤ loads_of s → named_loads s every < 2 ^ 64
named_small s every few = elim (cases_eq every (loads_of s)) [
  | inl same ↦ (let e = named_whole s every same in omega (arith, e))
  | inr other ↦ (let e = named_parts s every other in let small = loads_small s in omega (arith, e, small, few))
]

job_map_short : (s : Shape) (job : Job) → length (job_map job) ≤ 424
job_map_short s (Permute f) =
    let few = f.a.few in
    let e = length-map_bytes f in
    omega (arith, e, few)
job_map_short s Walsh = omega arith

pub job_numbers : (s : Shape) (page : List ℕ) (job : Job) (passes every : ℕ) → IsJobBody s page job passes every
    → JobNumbers s page job passes every
unfolding job_page
job_numbers s page job passes every body =
    let few = limit-most s job in
    let less = body.fits.passes_few in
    let text = codes "BMMCTASK" in
    let short = job_map_short s job in
    let head = length-body_head (codes "BMMCTASK") (job_version s every) (kind_of job) s.n passes refl in
    record {
      version = version_of (codes "BMMCTASK") (job_map job) page (job_version s every) (kind_of job) s.n passes (named_loads s every) refl
          (version_small s every) body.page_is;
      kind = first_of (codes "BMMCTASK") (job_map job) page (job_version s every) (kind_of job) s.n passes (named_loads s every) refl
          body.page_is;
      bits = second_of (codes "BMMCTASK") (job_map job) page (job_version s every) (kind_of job) s.n passes (named_loads s every) refl
          body.page_is;
      passes_are = number_of_head (codes "BMMCTASK") (job_map job) page (job_version s every) (kind_of job) s.n passes (named_loads s every)
          refl
          (omega arith) body.page_is;
      named = last_of (body_head (codes "BMMCTASK") (job_version s every) (kind_of job) s.n passes) (job_map job) page (named_loads s every)
          (omega arith) (named_small s every body.fits.every_few) body.page_is;
    }

-- the bits with butterflies of a pass body
pub pass_low : (s : Shape) (k : ℕ) (page : List ℕ) (pass : PassForm) → page ≡ pass_page s pass k → slice_index page 10 ≡ pass.low
unfolding pass_page
pass_low s k page pass is = first_of (codes "BMMCPASS") (map_bytes pass.map.map) page 1 pass.low s.n (k + 1) 0 refl is

-- the map of a pass body
pub pass_map : (s : Shape) (k : ℕ) (page : List ℕ) (pass : PassForm) → IsPassBody s k page pass
    → (head : List ℕ) × (length head ≡ 16) × (page ≡ map_page head (map_bytes pass.map.map) 0)
unfolding pass_page
pass_map s k page pass body =
    (body_head (codes "BMMCPASS") 1 pass.low s.n (k + 1), length-body_head (codes "BMMCPASS") 1 pass.low s.n (k + 1) refl, body.page_is)

-- passes with equal numbers have one page
pub pass_page-same : (s : Shape) (p q : PassForm) (k : ℕ) → p.low ≡ q.low → p.map.map ≡ q.map.map → pass_page s p k ≡ pass_page s q k
unfolding pass_page
pass_page-same s p q k low map =
    ap (λ (v : ℕ). map_page (body_head (codes "BMMCPASS") 1 v s.n (k + 1)) (map_bytes p.map.map) 0) low
    ∙ ap (λ (f : Affine). map_page (body_head (codes "BMMCPASS") 1 q.low s.n (k + 1)) (map_bytes f) 0) map
