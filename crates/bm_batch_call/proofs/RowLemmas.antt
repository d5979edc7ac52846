-- Row calls: those of a bay whose job was done are counted, and no bay makes too many.
use Rattle.std.proofs.Common.{◌≡◌, inl, inr, ℕ, ◌+◌, ◌-◌, ◌*◌, ◌≤◌, ◌∙◌, ap, arith}
use Rattle.bm_base.specs.declared.shape.Shape.{Shape}
use Rattle.bm_base.specs.Contents.{Contents}
use Rattle.bm_base.specs.Count.{raised}
use Rattle.bm_base.specs.Shape.{stripes, loads_of}
use Rattle.bm_rack.specs.RackView.{RackView}
use Rattle.bm_rack.specs.Frames.{RisesWhere}
use Rattle.bm_control.specs.Pages.{HasClosedJob}
use Rattle.bm_control.specs.Progress.{IsGone}
use Rattle.bm_job.specs.Runs.{load_rows}
use Rattle.bm_job.proofs.RunLemmas.{rows_of_passes}
use Rattle.bm_batch_call.specs.Bays.{RowsFew}

-- ---- few

pub few_same : (n : ℕ) (old new : RackView) → new.moves ≡ old.moves → RowsFew n old new
few_same n old new same = record { low = omega (arith, same); high = omega (arith, same) }

pub few_raised : (n : ℕ) (done : Type 0) (old new : RackView) → RisesWhere done n old.moves new.moves → RowsFew n old new
few_raised n done old new x = record { low = x.low; high = omega (arith, x.high) }

pub few_made : (n : ℕ) (old new : RackView) → old.moves ≤ new.moves → new.moves ≡ raised old.moves n → RowsFew n old new
few_made n old new low is = record { low = low; high = omega (arith, is) }

pub few_wider : (k n : ℕ) (old new : RackView) → k ≤ n → RowsFew k old new → RowsFew n old new
few_wider k n old new more f = record { low = f.low; high = (let h = f.high in omega (arith, h, more)) }

pub few_both : (k l n : ℕ) (a b c : RackView) → k + l ≤ n → RowsFew k a b → RowsFew l b c → RowsFew n a c
few_both k l n a b c room x y = record {
  low = (let f = x.low in let g = y.low in omega (arith, f, g));
  high = (let f = x.high in let g = y.high in omega (arith, f, g, room));
}

-- a load is within the row calls of a bay, and so are the parts of a bay's
pub load_within : (rows work : ℕ) → rows ≤ work + 2 * rows
load_within rows work = omega arith

pub load_and_rest : (rows work : ℕ) → rows + (work + rows) ≤ work + 2 * rows
load_and_rest rows work = omega arith

pub work_within : (rows work : ℕ) → work ≤ work + rows
work_within rows work = omega arith

-- ---- counted

-- none where no load is left
pub none_left : (s : Shape) (all moved : ℕ) → moved ≡ all → load_rows s (all - moved) ≡ 0
none_left s all moved same =
    let none : all - moved ≡ 0 = omega (arith, same) in
    let zero : load_rows s 0 ≡ 0 = omega arith in
    ap (λ (k : ℕ). load_rows s k) none ∙ zero

-- nothing is gone where no job is open
pub gone_none : (v : Contents) (gone : ℕ) → HasClosedJob v → IsGone v gone → gone ≡ 0
gone_none v gone closed is = elim is [
  | inl none ↦ none.1
  | inr job ↦ absurd (closed job.opened)
]

-- of a bay that was loaded, whose job was done, and that was written
pub whole_rows : (s : Shape) (passes gone a b c d : ℕ) → b ≡ raised a (stripes s) → gone ≡ 0
    → c ≡ raised b (load_rows s (passes * loads_of s - gone)) → d ≡ raised c (stripes s) → d ≡ raised a (2 * stripes s * (passes + 1))
whole_rows s passes gone a b c d loaded none ran written =
    let all : load_rows s (passes * loads_of s - gone) ≡ 2 * stripes s * passes =
    ap (λ (k : ℕ). load_rows s k) (less_none (passes * loads_of s) gone none) ∙ rows_of_passes s passes in
    total a b c d (stripes s) (load_rows s (passes * loads_of s - gone)) (2 * stripes s * (passes + 1)) loaded ran written
    (ap (λ (k : ℕ). stripes s + k + stripes s) all ∙ sum (stripes s) passes)
  where
    less_none : (n k : ℕ) → k ≡ 0 → n - k ≡ n
    less_none n k none = omega (arith, none)

    sum : (rows passes : ℕ) → rows + 2 * rows * passes + rows ≡ 2 * rows * (passes + 1)
    sum rows passes = omega arith

    total : (a b c d x y n : ℕ) → b ≡ raised a x → c ≡ raised b y → d ≡ raised c x → x + y + x ≡ n → d ≡ raised a n
    total a b c d x y n first second third all = omega (arith, first, second, third, all)

-- of one whose job was done, and that was written
pub rest_rows : (a b c x y : ℕ) → b ≡ raised a x → c ≡ raised b y → c ≡ raised a (x + y)
rest_rows a b c x y ran written = omega (arith, ran, written)
