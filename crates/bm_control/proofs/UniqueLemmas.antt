-- What a control file tells is one thing.
use Rattle.std.proofs.Common.{◌≡◌, inl, inr, ⊎_elim, ℕ, ◌^◌, ◌<◌, ◌≤◌, List, length, codes, refl, sym, ◌∙◌, ap, arith}
use Rattle.std.proofs.lemmas.Bool.{cases_lt, cases_eq}
use Rattle.std.proofs.lemmas.List.{ext_get_or}
use Rattle.bm_base.specs.declared.shape.Shape.{Shape}
use Rattle.bm_base.specs.Contents.{Contents}
use Rattle.bm_gf2.specs.declared.affine.Affine.{Affine}
use Rattle.bm_gf2.specs.Matrix.{column}
use Rattle.bm_forms.specs.declared.job.Job.{Job}
use Rattle.bm_forms.specs.declared.job.Job.TheVariants.{Permute, Walsh}
use Rattle.bm_forms.specs.declared.pass_form.PassForm.{PassForm}
use Rattle.bm_base.specs.Shape.{loads_of}
use Rattle.bm_control.specs.Bodies.{body_head, job_page, job_version, named_loads, map_bytes, map_page, IsJobBody, IsPassBody}
use Rattle.bm_control.specs.Consistent.{GatesAre}
use Rattle.bm_control.proofs.BodyLemmas.{length-body_head, constant_of, column_of, small_number}
use Rattle.bm_gf2.proofs.MapLemmas.{matrix_equal, affine_equal}
use Rattle.bm_control.proofs.JobBodyLemmas.{job_numbers, version_whole, version_parts, named_parts, pass_low, pass_map}

-- the passes and the loads of a job's body
pub passes_unique : (s : Shape) (page : List ℕ) (job other : Job) (p q every more : ℕ) → IsJobBody s page job p every
    → IsJobBody s page other q more → p ≡ q
passes_unique s page job other p q every more one two = sym (job_numbers s page job p every one).passes_are
    ∙ (job_numbers s page other q more two).passes_are

pub every_unique : (s : Shape) (page : List ℕ) (job other : Job) (p q every more : ℕ) → IsJobBody s page job p every
    → IsJobBody s page other q more → every ≡ more
every_unique s page job other p q every more one two =
    let x = job_numbers s page job p every one in
    let y = job_numbers s page other q more two in
    let version : job_version s every ≡ job_version s more = sym x.version ∙ y.version in
    let named : named_loads s every ≡ named_loads s more = sym x.named ∙ y.named in
    elim (cases_eq every (loads_of s)) [
      | inl whole ↦ elim (cases_eq more (loads_of s)) [
        | inl same ↦ whole ∙ sym same
        | inr parts ↦ absurd (let e = version_whole s every whole in let f = version_parts s more parts in omega (arith, e, f, version))
      ]
      | inr parts ↦ elim (cases_eq more (loads_of s)) [
        | inl whole ↦ absurd (let e = version_parts s every parts in let f = version_whole s more whole in omega (arith, e, f, version))
        | inr same ↦ sym (named_parts s every parts) ∙ named ∙ named_parts s more same
      ]
    ]

-- the passes done, by the gates
pub done_unique : (v : Contents) (passes done other : ℕ) → GatesAre v passes done → GatesAre v passes other → done ≡ other
done_unique v passes done other one two = elim (cases_eq done other) [
  | inl same ↦ same
  | inr apart ↦ ⊎_elim
      (λ (less : done < other). let few = two.few in absurd
      (one.closed done (omega arith) (omega (arith, few, less)) (two.opened done less)))
      (λ (more : other ≤ done). let few = one.few in absurd
      (two.closed other (omega arith) (omega (arith, few, more, apart)) (one.opened other (omega (arith, more, apart)))))
      (cases_lt done other)
]

columns_small : (f : Affine) (j : ℕ) → j < f.a.n → column f.a j < 2 ^ 64
columns_small f j within = small_number (column f.a j) f.a.n f.a.few (f.a.below j within)

-- two maps of one body
map_unique : (head rest page : List ℕ) (f g : Affine) (k l : ℕ) → length head ≡ 16 → length rest ≡ 16 → f.a.n ≡ g.a.n
    → page ≡ map_page head (map_bytes f) k → page ≡ map_page rest (map_bytes g) l → f ≡ g
map_unique head rest page f g k l long wide bits one two =
    let constant : f.c ≡ g.c = sym (constant_of head page f k long (small_number f.c f.a.n f.a.few f.below) one)
    ∙ constant_of rest page g l wide (small_number g.c g.a.n g.a.few g.below) two in
    let columns : f.a.cols ≡ g.a.cols =
    ext_get_or 0 f.a.cols g.a.cols (f.a.long ∙ sym g.a.long) (λ j h. elim (cases_lt j f.a.n) [
      | inl within ↦ sym (column_of head page f k j long within (columns_small f j within) one)
          ∙ column_of rest page g l j wide (omega (arith, within, bits)) (columns_small g j (omega (arith, within, bits))) two
      | inr past ↦ f.a.rest j past ∙ sym (g.a.rest j (omega (arith, past, bits)))
    ]) in
    affine_equal f g (matrix_equal f.a g.a bits columns) constant

-- two passes of one body have one map and one number of butterflies
pub pass_map_unique : (s : Shape) (k : ℕ) (page : List ℕ) (p q : PassForm) → IsPassBody s k page p → IsPassBody s k page q
    → p.map.map ≡ q.map.map
pass_map_unique s k page p q one two =
    let x = pass_map s k page p one in
    let y = pass_map s k page q two in
    map_unique x.0 y.0 page p.map.map q.map.map 0 0 x.1 y.1 (one.of_shape.addresses ∙ sym two.of_shape.addresses) x.2 y.2

pub pass_low_unique : (s : Shape) (k : ℕ) (page : List ℕ) (p q : PassForm) → IsPassBody s k page p → IsPassBody s k page q → p.low ≡ q.low
pass_low_unique s k page p q one two = sym (pass_low s k page p one.page_is) ∙ pass_low s k page q two.page_is

-- the map of a permutation's body
job_map_of : (s : Shape) (page : List ℕ) (f : Affine) (passes every : ℕ) → IsJobBody s page (Permute f) passes every
    → (head : List ℕ) × (length head ≡ 16) × (page ≡ map_page head (map_bytes f) (named_loads s every))
unfolding job_page
job_map_of s page f passes every body = (
  body_head (codes "BMMCTASK") (job_version s every) 1 s.n passes,
  length-body_head (codes "BMMCTASK") (job_version s every) 1 s.n passes
      refl,
  body.page_is,
)

-- the job of a body, whatever its shape
pub job_unique : (s t : Shape) (page : List ℕ) (job other : Job) (p q every more : ℕ) → IsJobBody s page job p every
    → IsJobBody t page other q more → job ≡ other
job_unique s t page (Permute f) (Permute g) p q every more one two =
    let x = job_map_of s page f p every one in
    let y = job_map_of t page g q more two in
    let bits : s.n ≡ t.n = sym (job_numbers s page (Permute f) p every one).bits ∙ (job_numbers t page (Permute g) q more two).bits in
    ap Permute (map_unique x.0 y.0 page f g (named_loads s every) (named_loads t more) x.1 y.1
    (one.fits.fits.0 ∙ bits ∙ sym two.fits.fits.0) x.2 y.2)
job_unique s t page Walsh Walsh p q every more one two = refl
job_unique s t page (Permute f) Walsh p q every more one two =
    absurd (let a = (job_numbers s page (Permute f) p every one).kind in let b = (job_numbers t page Walsh q more two).kind in omega
    (arith, a, b))
job_unique s t page Walsh (Permute g) p q every more one two =
    absurd (let a = (job_numbers s page Walsh p every one).kind in let b = (job_numbers t page (Permute g) q more two).kind in omega
    (arith, a, b))
