-- Passes in order, with a pairing on parts of a set.
use Rattle.std.proofs.Common.{◌≡◌, inl, inr, ℕ, zero, suc, ◌+◌, ◌-◌, ◌*◌, ◌/◌, ◌%◌}
use Rattle.std.proofs.Common.{◌^◌, ◌<◌, ◌≤◌, List, [], ◌∷◌, length, take, take_all, slice_index_or, refl, sym}
use Rattle.std.proofs.Common.{ap, ◌∙◌, subst, arith}
use Rattle.std.proofs.lemmas.Bool.{cases_eq}
use Rattle.std.proofs.lemmas.Nat.{shr-shr, pow_pos}
use Rattle.std.proofs.lemmas.Nat.Bits.{bit_at_above}
use Rattle.std.proofs.Math.Nat.{div-one, mod-lt, mul-le-mul_right, add-mul, mul_comm}
use Rattle.bm_base.specs.declared.shape.Shape.{Shape}
use Rattle.bm_base.specs.Area.{area_after}
use Rattle.bm_base.specs.Contents.{Contents, RackUnit}
use Rattle.bm_base.specs.Records.{SameRecords, record_at}
use Rattle.bm_base.proofs.AreaLemmas.{area_odd, area_even}
use Rattle.bm_gf2.proofs.VectorLemmas.{bit_of_low}
use Rattle.bm_forms.specs.declared.pass_form.PassForm.{PassForm}
use Rattle.bm_forms.specs.Permutation.{permuted}
use Rattle.bm_forms.proofs.PermutationLemmas.{permuted-same}
use Rattle.bm_stripe.specs.Units.{IsAreaUnit}
use Rattle.bm_kinds.specs.OnBits.{kernel_over}
use Rattle.bm_kinds.proofs.OverLemmas.{kernel_over-left, kernel_over-bits, kernel_over-same}
use Rattle.bm_kindjob.specs.KindPasses.{kind_passed, kinds_passed}
use Rattle.bm_kindjob.specs.KindRun.{IsWorkBlock}
use Rattle.bm_kindjob.proofs.KindRoundLemmas.{bits_passed, rounds_do_kinds}
use Rattle.bm_forms.specs.Plan.{PlanValue}
use Rattle.bm_kindjob.specs.KindPlan.{IsKindPlan}

-- ---- areas

-- a pass writes one of the two work areas
pub IsWorkBlock-target : (s : Shape) (i : ℕ) (u : RackUnit) → IsAreaUnit s (area_after (i + 1)) u → IsWorkBlock s u
IsWorkBlock-target s i u is = elim (cases_eq ((i + 1) % 2) 1) [
  | inl odd ↦ inl (subst (λ a. IsAreaUnit s a u) (area_odd (i + 1) odd) is)
  | inr even ↦ inr (subst (λ a. IsAreaUnit s a u) (area_even (i + 1) (λ z. omega (arith, z)) even) is)
]

-- ---- one pass more

-- what the first passes make of a list
pub kinds_more : (f : ℕ → ℕ → ℕ × ℕ) (set : ℕ) (ps : List PassForm) (k : ℕ) (d : PassForm) (xs : ℕ → List ℕ) → k < length ps
    → kinds_passed f set (take (k + 1) ps) xs
    ≡ kind_passed f (set / 2 ^ bits_passed (take k ps)) (slice_index_or ps k d) (kinds_passed f set (take k ps) xs)
unfolding kinds_passed bits_passed
kinds_more f set [] k d xs l = absurd (omega arith)
kinds_more f set (p ∷ ps) zero d xs l = ap (λ (c : ℕ). kind_passed f c p xs) (sym (div-one set))
kinds_more f set (p ∷ ps) (suc k) d xs l =
    let e : suc k + 1 ≡ suc (k + 1) = omega arith in
    let part = set / 2 ^ p.low in
    let ys = kind_passed f set p xs in
    ap (λ (c : ℕ). kinds_passed f set (take c (p ∷ ps)) xs) e
    ∙ kinds_more f part ps k d ys (omega arith)
    ∙ ap (λ (c : ℕ). kind_passed f c (slice_index_or ps k d) (kinds_passed f part (take k ps) ys)) (shr-shr set p.low (bits_passed
    (take k ps)))

-- how many bits they have
pub bits_more : (ps : List PassForm) (k : ℕ) (d : PassForm) → k < length ps
    → bits_passed (take (k + 1) ps) ≡ bits_passed (take k ps) + (slice_index_or ps k d).low
unfolding bits_passed
bits_more [] k d l = absurd (omega arith)
bits_more (p ∷ ps) zero d l = omega arith
bits_more (p ∷ ps) (suc k) d l =
    let e : suc k + 1 ≡ suc (k + 1) = omega arith in
    ap (λ (c : ℕ). bits_passed (take c (p ∷ ps))) e ∙ ap (λ (c : ℕ). p.low + c) (bits_more ps k d (omega arith))
    ∙ (let h : p.low + (bits_passed (take k ps) + (slice_index_or ps k d).low)
    ≡ p.low + bits_passed (take k ps) + (slice_index_or ps k d).low = omega arith in h)

-- what is left of the set
pub left_more : (set left : ℕ) (ps : List PassForm) (k : ℕ) (p : PassForm) → k < length ps → p ≡ slice_index_or ps k p
    → left ≡ set / 2 ^ bits_passed (take k ps) → left / 2 ^ p.low ≡ set / 2 ^ bits_passed (take (k + 1) ps)
left_more set left ps k p l is now =
    ap (λ (c : ℕ). c / 2 ^ p.low) now ∙ shr-shr set (bits_passed (take k ps)) p.low
    ∙ ap (λ (c : ℕ). set / 2 ^ c) (ap (λ (q : PassForm). bits_passed (take k ps) + q.low) is ∙ sym (bits_more ps k p l))

pub left_first : (set : ℕ) (ps : List PassForm) → set ≡ set / 2 ^ bits_passed (take 0 ps)
unfolding bits_passed
left_first set ps = sym (div-one set)

-- bits past those of a set
kernel_past : (f : ℕ → ℕ → ℕ × ℕ) (low j part : ℕ) (xs : ℕ → List ℕ) → part < 2 ^ low
    → kernel_over f (low + j) part xs ≡ kernel_over f low part xs
kernel_past f low zero part xs short = ap (λ (c : ℕ). kernel_over f c part xs) (let e : low + 0 ≡ low = omega arith in e)
kernel_past f low (suc j) part xs short =
    ap (λ (c : ℕ). kernel_over f c part xs) (let e : low + suc j ≡ suc (low + j) = omega arith in e)
    ∙ kernel_over-left f (low + j) part xs (bit_at_above part low (low + j) short (omega arith))
    ∙ kernel_past f low j part xs short

-- the lowest bits of what is left
pub kernel_part : (f : ℕ → ℕ → ℕ × ℕ) (m low left : ℕ) (xs : ℕ → List ℕ) → low ≤ m
    → kernel_over f m (left % 2 ^ low) xs ≡ kernel_over f low left xs
kernel_part f m low left xs fewer =
    ap (λ (c : ℕ). kernel_over f c (left % 2 ^ low) xs) (let e : m ≡ low + (m - low) = omega arith in e)
    ∙ kernel_past f low (m - low) (left % 2 ^ low) xs (mod-lt left (pow_pos low))
    ∙ kernel_over-bits f low (left % 2 ^ low) left xs (λ k l. bit_of_low left low k l)

-- what one pass more makes
pub run_more : (f : ℕ → ℕ → ℕ × ℕ) (n m set left i : ℕ) (forms : List PassForm) (p : PassForm) (now new input : ℕ → List ℕ)
    → i < length forms → p ≡ slice_index_or forms i p → p.map.map.a.n ≡ n → p.low ≤ m → m ≤ n
    → left ≡ set / 2 ^ bits_passed (take i forms)
    → SameRecords (2 ^ n) now (kinds_passed f set (take i forms) input)
    → SameRecords (2 ^ n) new (permuted p.map.map (kernel_over f m (left % 2 ^ p.low) now))
    → SameRecords (2 ^ n) new (kinds_passed f set (take (i + 1) forms) input)
run_more f n m set left i forms p now new input inside is size low fewer at before made x below =
    let before_list = kinds_passed f set (take i forms) input in
    made x below
    ∙ permuted-same p.map.map (kernel_over f m (left % 2 ^ p.low) now) (kernel_over f m (left % 2 ^ p.low) before_list)
    (subst (λ k. SameRecords (2 ^ k) (kernel_over f m (left % 2 ^ p.low) now) (kernel_over f m (left % 2 ^ p.low) before_list)) (sym size)
    (kernel_over-same f m n (left % 2 ^ p.low) now before_list fewer before)) x
    ∙ ap (λ (ys : ℕ → List ℕ). permuted p.map.map ys x) (kernel_part f m p.low left before_list low)
    ∙ ap (λ (c : ℕ). kind_passed f c p before_list x) at
    ∙ ap (λ (q : PassForm). kind_passed f (set / 2 ^ bits_passed (take i forms)) q before_list x) is
    ∙ ap (λ (ys : ℕ → List ℕ). ys x) (sym (kinds_more f set forms i p input inside))

pub run_none : (f : ℕ → ℕ → ℕ × ℕ) (set : ℕ) (forms : List PassForm) (xs : ℕ → List ℕ) → kinds_passed f set (take 0 forms) xs ≡ xs
unfolding kinds_passed
run_none f set forms xs = refl

-- the row calls of the passes so far
pub rows_so_far : (rows i passes : ℕ) → i < passes → i * rows + rows ≤ rows * passes
rows_so_far rows i passes below =
    let more : (i + 1) * rows ≤ passes * rows = mul-le-mul_right rows (let e : i + 1 ≤ passes = omega arith in e) in
    let next : (i + 1) * rows ≡ i * rows + 1 * rows = add-mul i 1 rows in
    let turned : rows * passes ≡ passes * rows = mul_comm rows passes in
    omega arith

-- after all passes
pub run_whole : (f : ℕ → ℕ → ℕ × ℕ) (s : Shape) (plan : PlanValue) (set i : ℕ) (now : Contents) (input : ℕ → List ℕ) → plan.shape ≡ s
    → IsKindPlan plan → i ≡ length plan.forms
    → SameRecords (2 ^ s.n) (record_at now s (area_after i)) (kinds_passed f set (take i plan.forms) input)
    → SameRecords (2 ^ s.n) (record_at now s (area_after (length plan.forms))) (kernel_over f s.n set input)
run_whole f s plan set i now input shape is all done x below =
    ap (λ (k : ℕ). record_at now s (area_after k) x) (sym all) ∙ done x below
    ∙ ap (λ (ps : List PassForm). kinds_passed f set ps input x) (take_all i plan.forms (omega arith))
    ∙ subst (λ t. SameRecords (2 ^ t.n) (kinds_passed f set plan.forms input) (kernel_over f t.n set input)) shape
    (rounds_do_kinds plan.shape plan.forms is.rounds f set input) x below
