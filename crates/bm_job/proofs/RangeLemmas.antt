-- The ranges of a machine's numbers.
use Rattle.std.proofs.Common.{◌≡◌, inl, inr, ℕ, ◌+◌, ◌-◌, ◌*◌, ◌%◌, ◌^◌, ◌<◌, ◌≤◌, refl, arith}
use Rattle.std.proofs.Math.Nat.{mul-le-mul, mod-eq_of_lt}
use Rattle.std.proofs.Math.Pow.{pow_mono}
use Rattle.std.proofs.lemmas.Bool.{cases_lt}
use Rattle.bm_base.specs.declared.shape.Shape.{Shape}
use Rattle.bm_forms.specs.declared.job.Job.{Job}
use Rattle.bm_base.specs.Shape.{loads_of}
use Rattle.bm_control.proofs.JobBodyLemmas.{limit-most}
use Rattle.bm_job.specs.Ranges.{MachineFits}

-- a machine has few passes
pub few_passes : (s : Shape) (job : Job) (passes done every part slot load : ℕ) → MachineFits s job passes done every part slot load
    → passes ≤ 254
few_passes s job passes done every part slot load fits =
    let most = limit-most s job in
    let few = fits.passes_few in
    omega (arith, most, few)

-- a number of loads that is a multiple of some loads is no less
multiple : (x every : ℕ) → 1 ≤ x → x % every ≡ 0 → every ≤ x
multiple x every some none = elim (cases_lt x every) [
  | inl less ↦ (let e : x % every ≡ x = mod-eq_of_lt less in absurd (omega (arith, e, none, some)))
  | inr more ↦ more
]

-- a job whose progress is made durable after this load has slots
pub marked_parts : (loads load every : ℕ) → load + 1 < loads → (load + 1) % every ≡ 0 → every < loads
marked_parts loads load every within none = (let few = multiple (load + 1) every (omega arith) none in omega (arith, few, within))

-- a machine once its loads are counted
pub marked_fits : (s : Shape) (job : Job) (passes done every part slot load free : ℕ) → MachineFits s job passes done every part slot load
    → done < passes
    → load + 1 < loads_of s → (load + 1) % every ≡ 0 → free < 2 → MachineFits s job passes done every (load + 1) free (load + 1)
marked_fits s job passes done every part slot load free fits left within none few = record {
  passes_some = fits.passes_some;
  passes_few = fits.passes_few;
  every_some = fits.every_some;
  every_few = fits.every_few;
  done_few = fits.done_few;
  counted = record {
    range = omega (arith, few);
    nothing = λ is. absurd (omega (arith, is, few));
    counts = λ h. record { loads_some = omega arith; loads_few = within; under_way = left };
    parts = λ h. marked_parts (loads_of s) load every within none;
    whole = λ is. absurd (let less = marked_parts (loads_of s) load every within none in omega (arith, is, less));
    few = within;
  };
  moved = omega arith;
  near = refl;
  within = within;
  rest = λ is. absurd (omega (arith, is, left));
}

-- the loads moved fit a word
moved_small : (s : Shape) (done load : ℕ) → done ≤ 254 → load < loads_of s → done * loads_of s + load < 2 ^ 64
moved_small s done load few within =
    let bits = s.keeps.addresses in
    let most : loads_of s ≤ 2 ^ 52 = pow_mono {i = s.n - s.m} {j = 52} (omega (arith, bits)) in
    let product : done * loads_of s ≤ 254 * 2 ^ 52 = mul-le-mul few most in
    omega (arith, product, most, within)

pub moved_fits : (s : Shape) (job : Job) (passes done every part slot load : ℕ) → MachineFits s job passes done every part slot load
    → done * loads_of s + load < 2 ^ 64
moved_fits s job passes done every part slot load fits =
    let few = few_passes s job passes done every part slot load fits in
    let most = fits.done_few in
    moved_small s done load (omega (arith, few, most)) fits.within
