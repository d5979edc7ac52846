-- Where a form sends a record of a load.
use Rattle.std.proofs.Common.{◌≡◌, ℕ, ◌+◌, ◌-◌, ◌*◌, ◌/◌, ◌%◌, ◌^◌, ◌<◌, ◌≤◌, slice_index, bit_xor, sym, ap, ◌∙◌, subst, arith, zero-mul}
use Rattle.std.specs.Int.Bits.{xor_assoc, xor_shr, xor_mod, xor_shifted}
use Rattle.std.proofs.lemmas.Nat.{pow_pos, shr_split, shl_below, shl_whole, pow_below}
use Rattle.std.proofs.Math.Nat.{mod-lt, div-one, div-eq_of_lt, mul_comm}
use Rattle.bm_gf2.specs.Vector.{xor_sum}
use Rattle.bm_gf2.specs.declared.matrix.Matrix.{Matrix}
use Rattle.bm_gf2.specs.declared.row_map.RowMap.{RowMap}
use Rattle.bm_gf2.specs.Matrix.{image, column, IsNonsingular}
use Rattle.bm_gf2.proofs.VectorLemmas.{xor_sum-xor, xor_sum-zero, xor_sum-lt, xor_sum-above, xor_sum-pow, xor_cancel}
use Rattle.bm_rank.specs.RowSolution.{IsSolution, IsCut, IsCovered, middle_rows, top_rows}
use Rattle.bm_rank.proofs.RowCutLemmas.{cut_xor_sum, middle_of_low}
use Rattle.bm_forms.specs.Mld.{IsMld, IsMrc, HasNoTop}

-- a map that a row map serves is covered
pub covered_of_solution : (a : Matrix) (k : RowMap) (b m : ℕ) → IsSolution a b m k → IsCovered a b m
covered_of_solution a k b m s = λ x h z.
    sym (s.solves x h) ∙ ap (xor_sum (slice_index k.cols) k.count) z ∙ xor_sum-zero (slice_index k.cols) k.count

-- record i of load l
module _ (a : Matrix) (m c l i : ℕ) (ib : i < 2 ^ m) where
  -- what the load adds
  abbrev pub base : ℕ
  base = bit_xor c (image a (2 ^ m * l))

  -- a load's first address and a place in the load
  joined : 2 ^ m * l + i ≡ bit_xor (2 ^ m * l) i
  joined = let e : 2 ^ m * l ≡ l * 2 ^ m = mul_comm (2 ^ m) l in
      ap (λ (v : ℕ). v + i) e ∙ sym (xor_shifted l m i ib) ∙ ap (λ (v : ℕ). bit_xor v i) (sym e)

  -- what the load adds, and what the place adds
  pub whole : bit_xor c (image a (2 ^ m * l + i)) ≡ bit_xor base (image a i)
  whole =
      ap (λ (v : ℕ). bit_xor c (image a v)) joined ∙ ap (bit_xor c) (xor_sum-xor (column a) a.n (2 ^ m * l) i)
      ∙ sym (xor_assoc c (image a (2 ^ m * l)) (image a i))

  -- its place in the target loads, by the leading block
  pub places : (g : Matrix) → g.n ≡ m → IsCut a m 0 m g.cols → m ≤ a.n
      → bit_xor c (image a (2 ^ m * l + i)) % 2 ^ m ≡ bit_xor (base % 2 ^ m) (image g i)
  places g ge cut mn =
      ap (λ (v : ℕ). v % 2 ^ m) whole ∙ xor_mod base (image a i) m
      ∙ ap (bit_xor (base % 2 ^ m))
      (ap (λ (v : ℕ). v % 2 ^ m) (sym (div-one (image a i))) ∙ sym (cut_xor_sum a m 0 m i g.cols cut mn ib)
      ∙ ap (λ (n : ℕ). xor_sum (slice_index g.cols) n i) (sym ge))

  -- its target load, by the row map
  pub loads : (k : RowMap) (b : ℕ) → IsSolution a b m k → b ≤ m
      → bit_xor c (image a (2 ^ m * l + i)) / 2 ^ m
      ≡ bit_xor (bit_xor (base / 2 ^ m) (xor_sum (slice_index k.cols) k.count (base % 2 ^ m / 2 ^ b)))
      (xor_sum (slice_index k.cols) k.count (bit_xor c (image a (2 ^ m * l + i)) % 2 ^ m / 2 ^ b))
  loads k b s bm =
      let served : ℕ → ℕ = xor_sum (slice_index k.cols) k.count in
      let v : ℕ = bit_xor c (image a (2 ^ m * l + i)) in
      let h : ℕ = base / 2 ^ m in
      let q : ℕ = served (base % 2 ^ m / 2 ^ b) in
      let r : ℕ = served (middle_rows a b m i) in
      let parts : v % 2 ^ m / 2 ^ b ≡ bit_xor (base % 2 ^ m / 2 ^ b) (middle_rows a b m i) =
      ap (λ (w : ℕ). w % 2 ^ m / 2 ^ b) whole ∙ sym (middle_of_low (bit_xor base (image a i)) b m bm)
      ∙ ap (λ (w : ℕ). w % 2 ^ (m - b)) (xor_shr base (image a i) b) ∙ xor_mod (base / 2 ^ b) (image a i / 2 ^ b) (m - b)
      ∙ ap (λ (w : ℕ). bit_xor w (middle_rows a b m i)) (middle_of_low base b m bm) in
      let split : served (v % 2 ^ m / 2 ^ b) ≡ bit_xor q r =
      ap served parts ∙ xor_sum-xor (slice_index k.cols) k.count (base % 2 ^ m / 2 ^ b) (middle_rows a b m i) in
      ap (λ (w : ℕ). w / 2 ^ m) whole ∙ xor_shr base (image a i) m ∙ ap (bit_xor h) (sym (s.solves i ib))
      ∙ sym (xor_assoc h q (bit_xor q r) ∙ ap (bit_xor h) (xor_cancel q r)) ∙ ap (bit_xor (bit_xor h q)) (sym split)

-- the address of a load's first record fits
pub first_of_load : (load m n : ℕ) → load < 2 ^ (n - m) → m ≤ n → n ≤ 52 → (load * 2 ^ m % 2 ^ 64 ≡ 2 ^ m * load) × (2 ^ m * load < 2 ^ n)
first_of_load load m n h l few =
    let e : (n - m) + m ≡ n = omega arith in
    let b : load * 2 ^ m < 2 ^ n = subst (λ (k : ℕ). load * 2 ^ m < 2 ^ k) e (shl_below load (n - m) m h) in
    (shl_whole load (n - m) m 64 h (omega arith) ∙ mul_comm load (2 ^ m), subst (λ (v : ℕ). v < 2 ^ n) (mul_comm load (2 ^ m)) b)

-- after a map that keeps loads together, a covered map is covered
pub covered_after : (e q p : Matrix) (b m : ℕ) → ((x : ℕ) → image p x ≡ image e (image q x)) → ((x : ℕ) → x < 2 ^ m → image q x < 2 ^ m)
    → IsCovered e b m → IsCovered p b m
covered_after e q p b m comp stays c = λ x h z.
    ap (λ (v : ℕ). v / 2 ^ m) (comp x)
    ∙ c (image q x) (stays x h) (ap (λ (v : ℕ). v / 2 ^ b % 2 ^ (m - b)) (sym (comp x)) ∙ z)

-- a product of nonsingular maps
pub nonsingular_after : (e q p : Matrix) → e.n ≡ p.n → q.n ≡ p.n → ((x : ℕ) → image p x ≡ image e (image q x)) → IsNonsingular e
    → IsNonsingular q → IsNonsingular p
nonsingular_after e q p en qn comp ne nq = λ x h z.
    let qb : image q x < 2 ^ q.n = xor_sum-lt (column q) q.n q.n x q.below in
    let qz : image q x ≡ 0 = ne (image q x) (subst (λ (k : ℕ). image q x < 2 ^ k) (qn ∙ sym en) qb) (sym (comp x) ∙ z) in
    nq x (subst (λ (k : ℕ). x < 2 ^ k) (sym qn) h) qz

-- what undoes itself is nonsingular
pub nonsingular_of_involution : (t : Matrix) → ((x : ℕ) → x < 2 ^ t.n → image t (image t x) ≡ x) → IsNonsingular t
nonsingular_of_involution t inv = λ x h z. sym (inv x h) ∙ ap (image t) z ∙ xor_sum-zero (column t) t.n

-- an address by its place in a load and its load
pub lands : (v p t m : ℕ) → v % 2 ^ m ≡ p → v / 2 ^ m ≡ t → v ≡ 2 ^ m * t + p
lands v p t m place load =
    let split : v / 2 ^ m * 2 ^ m + v % 2 ^ m ≡ v = shr_split v m in
    let turned : v / 2 ^ m * 2 ^ m ≡ 2 ^ m * (v / 2 ^ m) = mul_comm (v / 2 ^ m) (2 ^ m) in
    let same : 2 ^ m * (v / 2 ^ m) ≡ 2 ^ m * t = ap (λ (c : ℕ). 2 ^ m * c) load in
    omega arith

-- ---- matrices without rows m and above in their first columns

-- a number that is 0 from bit m on is below 2 ^ m
pub below_of_none : (v m : ℕ) → v / 2 ^ m ≡ 0 → v < 2 ^ m
below_of_none v m none =
    let split : v / 2 ^ m * 2 ^ m + v % 2 ^ m ≡ v = shr_split v m in
    let zero_part : v / 2 ^ m * 2 ^ m ≡ 0 = ap (λ (c : ℕ). c * 2 ^ m) none ∙ zero-mul (2 ^ m) in
    let low : v % 2 ^ m < 2 ^ m = mod-lt v (pow_pos m) in
    omega arith

-- a load goes to one load
pub HasNoTop-rows : (a : Matrix) (m x : ℕ) → m ≤ a.n → HasNoTop a m → x < 2 ^ m → top_rows a m x ≡ 0
HasNoTop-rows a m x few none below =
    ap (λ (c : ℕ). c / 2 ^ m) (xor_sum-above (column a) m a.n x few below)
    ∙ div-eq_of_lt (xor_sum-lt (column a) m m x (λ j l. below_of_none (column a j) m (none j l)))

-- and only then
pub HasNoTop-columns : (a : Matrix) (m : ℕ) → m ≤ a.n → ((x : ℕ) → x < 2 ^ m → top_rows a m x ≡ 0) → HasNoTop a m
HasNoTop-columns a m few none = λ j l.
    ap (λ (c : ℕ). c / 2 ^ m) (sym (xor_sum-pow (column a) a.n j (omega arith))) ∙ none (2 ^ j) (pow_below j m l)

-- MRC is MLD
pub IsMrc-is_mld : (a : Matrix) (b m : ℕ) → m ≤ a.n → IsMrc a m → IsMld a b m
IsMrc-is_mld a b m few mrc = (mrc.0, λ x below _. HasNoTop-rows a m x few mrc.1 below)
