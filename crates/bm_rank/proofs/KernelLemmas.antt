-- Columns that are independent, and the least vector that shows that they aren't.
use Rattle.std.proofs.Common.{◌≡◌, ◌≢◌, ℕ, ◌+◌, ◌-◌, ◌*◌, ◌/◌, ◌%◌, ◌^◌, ◌<◌, ◌≤◌, Bool, true, false, not, if◌then◌else◌, List, [], ◌∷◌}
use Rattle.std.proofs.Common.{◌++◌, length, length-take, set, get_or-set_same, get_or-set_other, take, slice_index, bit_xor, refl, sym, ap}
use Rattle.std.proofs.Common.{◌∙◌, subst, arith, add-one, ⊎_elim}
use Rattle.std.specs.Int.{bit_at}
use Rattle.std.specs.Int.Bits.{xor_self, xor_zero_r}
use Rattle.std.proofs.lemmas.Nat.{xor_lt, pow_pos, shr_below, shr_split, one_shl}
use Rattle.std.proofs.lemmas.Grind.{take_at_read}
use Rattle.std.proofs.Math.Nat.{pow-le-pow_right, two-pow-succ, mod-lt, mod-eq_of_lt, le_of_eq}
use Rattle.std.proofs.lemmas.Nat.Bits.{bit_at-lt}
use Rattle.std.proofs.lemmas.Bool.{cases_lt, cases_eq}
use Rattle.bm_gf2.specs.Vector.{xor_sum}
use Rattle.bm_gf2.proofs.VectorLemmas.{xor_pow_above, xor_sum-xor, xor_sum-pow, xor_sum-above, xor_sum-more, xor_sum-xor_sum, xor_sum-ext}
use Rattle.bm_gf2.proofs.VectorLemmas.{xor_sum-units, xor_sum-lt, bit_cases, xor_same, eq_of_xor-zero}
use Rattle.bm_gf2.specs.declared.matrix.Matrix.{Matrix}
use Rattle.bm_gf2.specs.Kernel.{IsLeastKernel}
use Rattle.bm_rank.specs.Span.{in_span}
use Rattle.bm_rank.specs.Span.{sum_of}
use Rattle.bm_rank.proofs.SpanLemmas.{false_from, in_span-sum}
use Rattle.bm_rank.proofs.SpanLemmas.{sum_of-take}
use Rattle.bm_base.proofs.PowerLemmas.{two_halves}

-- only 0 picks 0 from the first j
pub record IsIndependent (w : ℕ → ℕ) (j : ℕ) : Type 0 where
  pub only : (x : ℕ) → x < 2 ^ j → xor_sum w j x ≡ 0 → x ≡ 0

-- no columns
pub independent_none : (w : ℕ → ℕ) → IsIndependent w 0
independent_none w = record { only = λ x l h. omega arith }

-- a number with bit j clear and none above
below_from_bit : (x j : ℕ) → x < 2 ^ (j + 1) → bit_at x j ≡ 0 → x < 2 ^ j
below_from_bit x j l b =
    let one : j + 1 ≡ 1 + j = omega arith in
    let h : x / 2 ^ j < 2 ^ 1 = shr_below x 1 j (rw (← one) l) in
    let q : x / 2 ^ j ≡ 0 = omega arith in
    let s : x / 2 ^ j * 2 ^ j + x % 2 ^ j ≡ x = shr_split x j in
    let m : x % 2 ^ j < 2 ^ j = mod-lt x (pow_pos j) in
    let z : x / 2 ^ j * 2 ^ j ≡ 0 = rw q (let n : 0 * 2 ^ j ≡ 0 = omega arith in n) in
    omega arith

-- one column more that is no sum of those before it
pub independent_more : (w : ℕ → ℕ) (j : ℕ) → IsIndependent w j → ((x : ℕ) → xor_sum w j x ≢ w j) → IsIndependent w (j + 1)
independent_more w j i new = record {
  only = λ x l h.
      let more : xor_sum w (j + 1) x ≡ bit_xor (xor_sum w j x) (bit_at x j * w j) = xor_sum-more w j x in
      ⊎_elim
      (λ (p : (bit_at x j ≡ 0) × (bit_at x j * w j ≡ 0)).
      i.only x (below_from_bit x j l p.0) (sym (more ∙ ap (bit_xor (xor_sum w j x)) p.1 ∙ xor_zero_r (xor_sum w j x)) ∙ h))
      (λ (p : (bit_at x j ≡ 1) × (bit_at x j * w j ≡ w j)).
      absurd (new x (eq_of_xor-zero (xor_sum w j x) (w j) (sym (more ∙ ap (bit_xor (xor_sum w j x)) p.1) ∙ h))))
      (bit_cases (bit_at x j) (w j) (bit_at-lt x j));
}

-- what is not in the span is no sum
pub not_a_sum : (cols : List ℕ) (j v : ℕ) → j ≤ length cols → in_span (take j cols) v ≡ false → (x : ℕ)
    → xor_sum (slice_index cols) j x ≢ v
not_a_sum cols j v l f x e =
    let s : in_span (take j cols) (sum_of (take j cols) x) ≡ true = in_span-sum (take j cols) x in
    let t : in_span (take j cols) v ≡ true = subst (λ (c : ℕ). in_span (take j cols) c ≡ true) (sum_of-take cols j x l ∙ e) s in
    absurd_bool f t
  where
    absurd_bool : {b : Bool} → b ≡ false → b ≡ true → ⊥
    absurd_bool p q = cc

module _ (w : ℕ → ℕ) (j n m : ℕ) (i : IsIndependent w j) (l : j < n) (below : m < 2 ^ j) (sum : xor_sum w j m ≡ w j) where
  -- that set and column j
  least : ℕ
  least = bit_xor m (2 ^ j)

  -- a vector with the top bit j
  topped : (r : ℕ) → r < 2 ^ j → (bit_xor r (2 ^ j) ≡ 2 ^ j + r) × (xor_sum w (j + 1) (bit_xor r (2 ^ j)) ≡ bit_xor (xor_sum w j r) (w j))
  topped r h = (
    xor_pow_above r j h,
    xor_sum-xor w (j + 1) r (2 ^ j) ∙ xor_same (xor_sum-above w j (j + 1) r (omega arith) h) (xor_sum-pow w (j + 1) j (omega arith)),
  )

  -- .. as a number
  least_is : bit_xor m (2 ^ j) ≡ 2 ^ j + m
  least_is = (topped m below).0

  -- it is not 0
  pub least_some : bit_xor m (2 ^ j) ≢ 0
  least_some z = let p : 0 < 2 ^ j = pow_pos j in let e = least_is in absurd (omega (arith, e))

  -- it has no bit above j
  least_short : bit_xor m (2 ^ j) < 2 ^ (j + 1)
  least_short = let e = least_is in let t = two_halves j in omega (arith, e, t)

  -- it is below 2 ^ n
  pub least_below : bit_xor m (2 ^ j) < 2 ^ n
  least_below =
      let two : 0 < 2 = omega arith in
      let more : j + 1 ≤ n = omega arith in
      let p : 2 ^ (j + 1) ≤ 2 ^ n = pow-le-pow_right two more in
      omega (arith, least_short)

  -- it is sent to 0
  pub least_sent : xor_sum w n (bit_xor m (2 ^ j)) ≡ 0
  least_sent =
      xor_sum-above w (j + 1) n (bit_xor m (2 ^ j)) (omega arith) least_short
      ∙ (topped m below).1 ∙ ap (λ (c : ℕ). bit_xor c (w j)) sum ∙ xor_self (w j)

  -- no smaller one but 0 is
  pub least_least : (y : ℕ) → y < 2 ^ n → y ≢ 0 → xor_sum w n y ≡ 0 → bit_xor m (2 ^ j) ≤ y
  least_least y yb nz h =
      ⊎_elim
      (λ (p : y < 2 ^ j). absurd (nz (i.only y p (sym (xor_sum-above w j n y (omega arith) p) ∙ h))))
      (λ (p : 2 ^ j ≤ y).
      ⊎_elim
      (λ (q : y < 2 ^ (j + 1)).
      let r : ℕ = y - 2 ^ j in
      let rb : r < 2 ^ j = let t = two_halves j in omega (arith, t) in
      let ye : bit_xor r (2 ^ j) ≡ y = (topped r rb).0 ∙ (let d : 2 ^ j + r ≡ y = omega arith in d) in
      let s : bit_xor (xor_sum w j r) (w j) ≡ 0 = sym (topped r rb).1 ∙ ap (xor_sum w (j + 1)) ye
      ∙ sym (xor_sum-above w (j + 1) n y (omega arith) q) ∙ h in
      let t : xor_sum w j (bit_xor r m) ≡ 0 = xor_sum-xor w j r m ∙ ap (bit_xor (xor_sum w j r)) sum ∙ s in
      let same : r ≡ m = eq_of_xor-zero r m (i.only (bit_xor r m) (xor_lt j r m rb below) t) in
      le_of_eq (ap (λ (c : ℕ). bit_xor c (2 ^ j)) (sym same) ∙ ye))
      (λ (q : 2 ^ (j + 1) ≤ y). omega (arith, least_short))
      (cases_lt y (2 ^ (j + 1))))
      (cases_lt y (2 ^ j))

-- columns that the first matrix sends to the unit vectors are those of the inverse
module _ (a b : ℕ → ℕ) (n : ℕ) (i : IsIndependent a n) (short : (j : ℕ) → j < n → b j < 2 ^ n)
    (units : (j : ℕ) → j < n → xor_sum a n (b j) ≡ 2 ^ j)
    (ashort : (j : ℕ) → j < n → a j < 2 ^ n) where
  -- first b, then a
  pub undoes_right : (y : ℕ) → y < 2 ^ n → xor_sum a n (xor_sum b n y) ≡ y
  undoes_right y h =
      xor_sum-xor_sum a b n n y ∙ xor_sum-ext (λ j. xor_sum a n (b j)) (λ j. 2 ^ j) n y units ∙ xor_sum-units n y ∙ mod-eq_of_lt h

  -- first a, then b
  pub undoes_left : (x : ℕ) → x < 2 ^ n → xor_sum b n (xor_sum a n x) ≡ x
  undoes_left x h =
      let y : ℕ = xor_sum a n x in
      let yb : y < 2 ^ n = xor_sum-lt a n n x ashort in
      let z : ℕ = xor_sum b n y in
      let zb : z < 2 ^ n = xor_sum-lt b n n y short in
      let back : xor_sum a n z ≡ y = undoes_right y yb in
      let zero_sum : xor_sum a n (bit_xor z x) ≡ 0 = xor_sum-xor a n z x ∙ ap (λ (c : ℕ). bit_xor c y) back ∙ xor_self y in
      eq_of_xor-zero z x (i.only (bit_xor z x) (xor_lt n z x zb h) zero_sum)

-- column j is a sum of those before it
pub kernel_found : (a : Matrix) (kept : List ℕ) (j at x : ℕ) → kept ≡ take j a.cols → IsIndependent (slice_index a.cols) j → j < a.n
    → a.n ≤ length a.cols → a.n ≤ 52
    → at ≡ j → xor_sum (slice_index kept) (length kept) x ≡ slice_index a.cols at → x < 2 ^ length kept
    → IsLeastKernel a (bit_xor x (1 * 2 ^ j % 2 ^ 64))
kernel_found a kept j at x ke i l long few ae sum below =
    let w : ℕ → ℕ = slice_index a.cols in
    let jl : j ≤ length a.cols = omega arith in
    let unit : 1 * 2 ^ j % 2 ^ 64 ≡ 2 ^ j = one_shl j 64 (omega arith) in
    let len : length (take j a.cols) ≡ j = simp length-take (omega arith) in
    let lenk : length kept ≡ j = ap length ke ∙ len in
    let xb : x < 2 ^ j = subst (λ (k : ℕ). x < 2 ^ k) lenk below in
    let s : xor_sum w j x ≡ w j = sym (sum_of-take a.cols j x jl) ∙ ap (λ (k : List ℕ). sum_of k x) (sym ke) ∙ sum ∙ ap w ae in
    rw unit (record {
      some = least_some w j a.n x i l xb s;
      below = least_below w j a.n x i l xb s;
      sent = least_sent w j a.n x i l xb s;
      least = least_least w j a.n x i l xb s;
    })

-- column j is none, and is kept
pub kept_more : (cols kept kept2 : List ℕ) (j at : ℕ) (b : Bool) → kept ≡ take j cols → j < length cols → at ≡ j
    → (in_span kept (slice_index cols at) ≡ true → ⊥) → b ≡ not (in_span kept (slice_index cols at))
    → kept2 ≡ (if b then kept ++ (slice_index cols at) ∷ [] else kept) → IsIndependent (slice_index cols) j
    → (kept2 ≡ take (j + 1) cols) × IsIndependent (slice_index cols) (j + 1)
kept_more cols kept kept2 j at b ke l ae outside be k2 i =
    let w : ℕ → ℕ = slice_index cols in
    let f : in_span kept (w at) ≡ false = false_from (in_span kept (w at)) outside in
    let b1 : b ≡ true = be ∙ rw f refl in
    let k1 : kept2 ≡ kept ++ w at ∷ [] = k2 ∙ rw b1 refl in
    let f2 : in_span (take j cols) (w j) ≡ false = rw (← ke, ← ae) f in (
      k1 ∙ rw (ke, ae) (sym (take_at_read cols j 0 l).1),
      independent_more w j i (not_a_sum cols j (w j) (omega arith) f2),
    )

-- one more entry is written
pub written_more : (P : ℕ → ℕ → Type 0) (xs : List ℕ) (i at x : ℕ) → at ≡ i → i < length xs → ((j : ℕ) → j < i → P j (slice_index xs j))
    → P i x
    → (j : ℕ) → j < i + 1 → P j (slice_index (set xs at x) j)
written_more P xs i at x ae l old new j h =
    let here : at < length xs = omega arith in
    ⊎_elim
    (λ (p : j ≡ at). let q : i ≡ j = omega arith in
    let e : slice_index (set xs at x) j ≡ x = rw p (rw get_or-set_same refl) in
    subst (λ (v : ℕ). P j v) (sym e) (subst (λ (k : ℕ). P k x) q new))
    (λ (p : j ≢ at).
    let e : slice_index (set xs at x) j ≡ slice_index xs j = rw get_or-set_other refl in
    subst (λ (v : ℕ). P j v) (sym e) (old j (omega arith)))
    (cases_eq j at)

-- what the echelon of all columns gives at the unit vectors
pub unit_found : (a : Matrix) (kept : List ℕ) (n x v : ℕ) → kept ≡ take a.n a.cols → a.n ≤ length a.cols
    → xor_sum (slice_index kept) (length kept) x ≡ v → x < 2 ^ length kept → (x < 2 ^ a.n) × (xor_sum (slice_index a.cols) a.n x ≡ v)
unit_found a kept n x v ke long s below =
    let len : length (take a.n a.cols) ≡ a.n = simp length-take (omega arith) in (
      subst (λ (k : ℕ). x < 2 ^ k) (ap length ke ∙ len) below,
      sym (sum_of-take a.cols a.n x long) ∙ ap (λ (k : List ℕ). sum_of k x) (sym ke) ∙ s,
    )
