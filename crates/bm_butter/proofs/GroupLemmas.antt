-- Groups of four records.
use Rattle.std.proofs.Common.{◌≡◌, ◌≢◌, ℕ, ◌+◌, ◌-◌, ◌^◌, ◌<◌, ◌≤◌, ◌%◌, List, refl, sym, ap, ◌∙◌, subst, arith, ⊎_elim}
use Rattle.std.specs.Int.{bit_at}
use Rattle.std.proofs.lemmas.Bool.{cases_eq, cases_lt}
use Rattle.bm_base.specs.Records.{SameRecords}
use Rattle.bm_base.proofs.ButterflyLemmas.{without_bit}
use Rattle.bm_gf2.proofs.VectorLemmas.{xor_cancel_right}
use Rattle.bm_butter.specs.Records.{record_in_order}
use Rattle.bm_butter.specs.OnBits.{kernel_on, kernel_digits}
use Rattle.bm_butter.specs.Groups.{pick, IsGroup, AreTold, GroupsDone}
use Rattle.bm_butter.proofs.OnBitLemmas.{flip, flip_other, flip_set, flip_swap, bit_by}
use Rattle.bm_butter.proofs.PairedLemmas.{set_by_xor}
use Rattle.bm_butter.proofs.PairLemmas.{kernel_digits-next}
use Rattle.bm_butter.proofs.KernelLemmas.{four, two_on, kernel_digits-same}

-- a group at places of another form
pub IsGroup-same : (f : ℕ → ℕ → ℕ × ℕ) (place other : ℕ → ℕ) (old new : List ℕ) → ((t : ℕ) → t < 4 → place t ≡ other t)
    → IsGroup f place old new
    → IsGroup f other old new
IsGroup-same f place other old new same group t below =
    ap (record_in_order new) (sym (same t below)) ∙ group t below
    ∙ kernel_digits-same f 2 2 (λ k. record_in_order old (place k)) (λ k. record_in_order old (other k)) (omega arith)
    (λ k inside. ap (record_in_order old) (same k inside)) t below

-- no group is transformed yet
pub GroupsDone-none : (f : ℕ → ℕ → ℕ × ℕ) (place : ℕ → ℕ → ℕ) (from : ℕ) (old : List ℕ) → GroupsDone f place from from old old
GroupsDone-none f place from old = record { done = λ w above below. absurd (omega arith); others = λ x outside. refl }

-- one group more
pub GroupsDone-more : (f : ℕ → ℕ → ℕ × ℕ) (place : ℕ → ℕ → ℕ) (total from w : ℕ) (old now new : List ℕ) → AreTold total place → from ≤ w
    → w < total
    → GroupsDone f place from w old now
    → IsGroup f (place w) now new
    → ((x : ℕ) → ((t : ℕ) → t < 4 → x ≢ place w t) → record_in_order new x ≡ record_in_order now x)
    → GroupsDone f place from (w + 1) old new
GroupsDone-more f place total from w old now new told start inside before group others =
    let kept : (t : ℕ) → t < 4 → record_in_order now (place w t) ≡ record_in_order old (place w t) = λ t below.
    before.others (place w t) (λ v s above under inside_s e.
    let same : w ≡ v = told w v t s inside (omega arith) below inside_s e in absurd (omega arith)) in
    record {
      done = λ v above under.
          ⊎_elim
          (λ (p : v ≡ w). subst (λ c. IsGroup f (place c) old new) (sym p)
          (λ t below. group t below ∙ kernel_digits-same f 2 2 (λ k. record_in_order now (place w k)) (λ k. record_in_order old (place w k))
          (omega arith) kept t below))
          (λ (p : v ≢ w). λ t below.
          others (place v t) (λ s inside_s e. p (told v w t s (omega arith) inside below inside_s e))
          ∙ before.done v above (omega arith) t below)
          (cases_eq v w);
      others = λ x outside.
          others x (λ t below. outside w t start (omega arith) below)
          ∙ before.others x (λ v t above under below. outside v t above (omega arith) below);
    }

-- groups after others
pub GroupsDone-join : (f : ℕ → ℕ → ℕ × ℕ) (place : ℕ → ℕ → ℕ) (total from mid to : ℕ) (old now new : List ℕ) → AreTold total place
    → from ≤ mid → mid ≤ to
    → to ≤ total
    → GroupsDone f place from mid old now → GroupsDone f place mid to now new → GroupsDone f place from to old new
GroupsDone-join f place total from mid to old now new told first second inside before after = record {
  done = λ v above under.
      ⊎_elim
      (λ (p : v < mid). λ t below.
      after.others (place v t) (λ w s above_w under_w inside_s e.
      let same : v ≡ w = told v w t s (omega arith) (omega arith) below inside_s e in absurd (omega arith))
      ∙ before.done v above p t below)
      (λ (p : mid ≤ v). λ t below.
      after.done v p under t below ∙ kernel_digits-same f 2 2 (λ k. record_in_order now (place v k)) (λ k. record_in_order old (place v k))
      (omega arith) (λ k inside_k. before.others (place v k) (λ w s above_w under_w inside_s e.
      let same : v ≡ w = told v w k s (omega arith) (omega arith) inside_k inside_s e in absurd (omega arith))) t below)
      (cases_lt v mid);
  others = λ x outside.
      after.others x (λ w t above under below. outside w t (omega arith) under below)
      ∙ before.others x (λ w t above under below. outside w t above (omega arith) below);
}

-- the same groups, counted from another number on
pub GroupsDone-shift : (f : ℕ → ℕ → ℕ × ℕ) (place other : ℕ → ℕ → ℕ) (first count : ℕ) (old new : List ℕ)
    → ((w t : ℕ) → w < count → t < 4 → other w t ≡ place (first + w) t)
    → GroupsDone f other 0 count old new → GroupsDone f place first (first + count) old new
GroupsDone-shift f place other first count old new same made = record {
  done = λ v above under.
      let w = v - first in
      let at : first + w ≡ v = omega arith in
      subst (λ c. IsGroup f (place c) old new) at
      (IsGroup-same f (other w) (place (first + w)) old new (λ t below. same w t (omega arith) below)
      (made.done w (omega arith) (omega arith)));
  others = λ x outside. made.others x (λ w t above under below e.
      outside (first + w) t (omega arith) (omega arith) below (e ∙ same w t under below));
}

-- turning a bit that is set makes a number less
pub flip_less : (x i : ℕ) → bit_at x i ≡ 1 → flip x i ≤ x
flip_less x i set =
    let base = without_bit x i set in
    let y = x - 2 ^ i in
    let back : y + 2 ^ i ≡ x = omega (arith, base.0) in
    let turned : flip x i ≡ y = ap (λ (c : ℕ). flip c i) (sym back ∙ set_by_xor i y base.1) ∙ xor_cancel_right y (2 ^ i) in
    omega arith

-- all groups of four numbers
pub SameRecords-groups : (f : ℕ → ℕ → ℕ × ℕ) (i j count : ℕ) (old new : ℕ → List ℕ) → i ≢ j
    → ((y : ℕ) → y < count → bit_at y i ≡ 0 → bit_at y j ≡ 0
    → (t : ℕ) → t < 4 → new (four i j y t) ≡ kernel_digits f 2 (λ s. old (four i j y s)) t)
    → SameRecords count new (kernel_on f j (kernel_on f i old))
unfolding pick
SameRecords-groups f i j count old new differ made x inside =
    let whole = λ (y : ℕ) (l : y < count) (p : bit_at y i ≡ 0) (q : bit_at y j ≡ 0) (t : ℕ) (k : t < 4).
    made y l p q t k ∙ sym (two_on f i j y old differ p q t k) in
    let z = flip x i in
    let w = flip x j in
    bit_by x i
    (λ (p : bit_at x i ≡ 0). bit_by x j
    (λ (q : bit_at x j ≡ 0). whole x inside p q 0 (omega arith))
    (λ (q : bit_at x j ≡ 1).
    subst (λ c. new c ≡ kernel_on f j (kernel_on f i old) c) (xor_cancel_right x (2 ^ j))
    (whole w (omega (arith, flip_less x j q)) (flip_other x j i differ ∙ p) (flip_set x j q) 2 (omega arith))))
    (λ (p : bit_at x i ≡ 1). bit_by x j
    (λ (q : bit_at x j ≡ 0).
    subst (λ c. new c ≡ kernel_on f j (kernel_on f i old) c) (xor_cancel_right x (2 ^ i))
    (whole z (omega (arith, flip_less x i p)) (flip_set x i p) (flip_other x i j (λ e. differ (sym e)) ∙ q) 1 (omega arith)))
    (λ (q : bit_at x j ≡ 1).
    let r : bit_at z j ≡ 1 = flip_other x i j (λ e. differ (sym e)) ∙ q in
    let y = flip z j in
    let back : flip (flip y i) j ≡ x = flip_swap y i j ∙ ap (λ (c : ℕ). flip c i) (xor_cancel_right z (2 ^ j)) ∙ xor_cancel_right x
    (2 ^ i) in
    subst (λ c. new c ≡ kernel_on f j (kernel_on f i old) c) back
    (whole y (omega (arith, flip_less x i p, flip_less z j r)) (flip_other z j i differ ∙ flip_set x i p) (flip_set z j r) 3
    (omega arith))))

-- two bits more
pub kernel_digits-two : (f : ℕ → ℕ → ℕ × ℕ) (i count : ℕ) (old now new : ℕ → List ℕ) → count % 2 ^ (i + 1) ≡ 0
    → count % 2 ^ (i + 1 + 1) ≡ 0
    → SameRecords count now (kernel_digits f i old) → SameRecords count new (kernel_on f (i + 1) (kernel_on f i now))
    → SameRecords count new (kernel_digits f (i + 1 + 1) old)
kernel_digits-two f i count old now new whole wholes before made =
    kernel_digits-next f (i + 1) count old (kernel_on f i now) new wholes
    (kernel_digits-next f i count old now (kernel_on f i now) whole before (λ x inside. refl)) made
