use Rattle.std.proofs.Common.{◌≡◌, ℕ, List, codes, slice_index, length, Some, None, ap, sym, subst, ◌∙◌, refl, arith}
use Rattle.bm_base.specs.declared.shape.Shape.{Shape}
use Rattle.bm_gf2.specs.declared.affine.Affine.{Affine}
use Rattle.bm_gf2.specs.Matrix.{IsNonsingular}
use Rattle.bm_gf2.specs.Kernel.{IsLeastKernel}
use Rattle.bm_forms.specs.declared.job.Job.{Job}
use Rattle.bm_forms.specs.declared.job.Job.TheVariants.{Permute, Walsh}
use Rattle.bm_control.specs.Bodies.{body_head, map_bytes, map_page, job_version, named_loads, job_page, IsJobBody}
use Rattle.bm_control.proofs.BodyLemmas.{length-body_head}
use Rattle.bm_control.proofs.EqualLemmas.{some_injective, none_some}
use Rattle.bm_control.proofs.JobBodyLemmas.{job_numbers}
use Rattle.bm_control.proofs.job_body.read_permutation.Goals as goal

-- what is read of the maps of bodies, for one page
abbrev Reads : ℕ → List ℕ → (Affine → Type 0) → Type 0
Reads n page P = (head : List ℕ) (f : Affine) (last : ℕ) → length head ≡ 16 → f.a.n ≡ n → page ≡ map_page head (map_bytes f) last → P f

-- of a job body it is the permutation's map
read_of : (s : Shape) (page : List ℕ) (job : Job) (passes every : ℕ) (P : Affine → Type 0) → IsJobBody s page job passes every
    → slice_index page 10 ≡ 1 → Reads s.n page P
    → (f : Affine) × (job ≡ Permute f) × IsNonsingular f.a × P f
unfolding job_page
read_of s page (Permute f) passes every P body kind reads = (
  f,
  refl,
  body.fits.fits.1,
  reads (body_head (codes "BMMCTASK") (job_version s every) 1 s.n passes) f (named_loads s every)
      (length-body_head (codes "BMMCTASK") (job_version s every) 1 s.n passes refl) body.fits.fits.0 body.page_is,
)
read_of s page Walsh passes every P body kind reads =
    let numbers = job_numbers s page Walsh passes every body in
    let two = numbers.kind in
    absurd (omega (arith, two, kind))

-- no nonsingular matrix sends a vector but 0 to 0
not_both : (g f : Affine) (x : ℕ) → g ≡ f → IsNonsingular f.a → ¬ IsLeastKernel g.a x
not_both g f x same nonsingular kernel =
    let k : IsLeastKernel f.a x = subst (λ (h : Affine). IsLeastKernel h.a x) same kernel in
    k.some (nonsingular x k.below k.sent)

-- an empty answer of the reading is no answer for a permutation
pub returns-in_err-map-clause-read : goal.returns-in_err-map-clause-read
returns-in_err-map-clause-read c job passes every body =
    let found = read_of c.args.shape.now c.args.page.now job passes every (λ f. None ≡ Some f) body c.requires
    (λ head f last long n page. c.in_err-map.ensures.read head f last long (n ∙ sym c.n.ensures) page) in
    absurd (none_some found.0 found.3)

pub returns-in-None-clause-read : goal.returns-in-None-clause-read
returns-in-None-clause-read c job passes every body =
    let found = read_of c.args.shape.now c.args.page.now job passes every (λ f. Some c.in_ok-map.map ≡ Some f) body c.requires
    (λ head f last long n page. c.in_ok-map.ensures.read head f last long (n ∙ sym c.n.ensures) page) in
    ap (λ (f : Affine). Some (Permute f)) (some_injective c.in_ok-map.map found.0 found.3) ∙ ap Some (sym found.1)

pub returns-in-Some-clause-read : goal.returns-in-Some-clause-read
returns-in-Some-clause-read c job passes every body =
    let found = read_of c.args.shape.now c.args.page.now job passes every (λ f. Some c.in_ok-map.map ≡ Some f) body c.requires
    (λ head f last long n page. c.in_ok-map.ensures.read head f last long (n ∙ sym c.n.ensures) page) in
    absurd (not_both c.in_ok-map.map found.0 c.in-Some.field-0 (some_injective c.in_ok-map.map found.0 found.3) found.2 c.in-Some.ensures)
