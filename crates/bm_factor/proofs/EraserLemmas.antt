-- The loop of the eraser: each of columns b..m-1 gets the columns from m on whose sum it is in rows m and above.
use Rattle.std.proofs.Common.{◌≡◌, ◌≢◌, ℕ, ◌+◌, ◌-◌, ◌*◌, ◌/◌, ◌%◌, ◌^◌, ◌<◌, ◌≤◌, Bool, false, not, if◌then◌else◌, List, [], ◌∷◌, ◌++◌}
use Rattle.std.proofs.Common.{length, length-append, slice_index, bit_xor, sym, ap, ◌∙◌, subst, arith, ⊎_elim}
use Rattle.std.specs.Int.{bit_at}
use Rattle.std.specs.Int.Bits.{xor_shr, xor_mod, xor_self, xor_zero_l}
use Rattle.std.proofs.Math.Nat.{pow-le-pow_right, mod-lt, mod-eq_of_lt, div-eq_of_lt}
use Rattle.std.proofs.lemmas.Nat.{xor_lt, pow_pos, pow_below, shl-shr, shl_below, shl_whole, one_shl, mod-mul-add}
use Rattle.std.proofs.lemmas.Nat.Bits.{bit_at-zero, bit_at_cat_low}
use Rattle.std.proofs.lemmas.Bool.{cases_lt, cases_eq}
use Rattle.bm_gf2.specs.Vector.{xor_sum}
use Rattle.bm_gf2.specs.declared.matrix.Matrix.{Matrix}
use Rattle.bm_gf2.specs.Matrix.{image, column}
use Rattle.bm_gf2.proofs.VectorLemmas.{xor_sum-zero, xor_sum-xor, xor_sum-pow, xor_sum-shr, xor_sum-mod, xor_sum-ext, xor_sum-bits}
use Rattle.bm_gf2.proofs.VectorLemmas.{xor_sum-above, xor_sum-units, xor_sum-split, xor_sum-low, xor_pow_above, xor_same}
use Rattle.bm_rank.specs.Span.{in_span, sum_of}
use Rattle.bm_rank.proofs.SpanLemmas.{kept_old, kept_last, sum_of_span, false_from}
use Rattle.bm_rank.proofs.RowCutLemmas.{middle_of_low}
use Rattle.bm_forms.specs.Mld.{IsMld}
use Rattle.bm_forms.proofs.MldLemmas.{nonsingular_of_involution, below_of_none}
use Rattle.bm_factor.specs.Columns.{product, HasTrailingBlock, IsOwnInverse}
use Rattle.bm_factor.specs.Eraser.{IsEraser, AddsTrailing}
use Rattle.bm_factor.proofs.ColumnLemmas.{xor_sum-picked, own_inverse, unit_back, added_back, unchanged_low}
use Rattle.bm_factor.proofs.InsertLemmas.{insert_done}
use Rattle.bm_base.proofs.PowerLemmas.{below_wider}

-- ---- the columns from m on

-- column j is no sum of those from m on before it
pub trailing_fresh : (w : ℕ → ℕ) (n m j : ℕ) (kept : List ℕ) → HasTrailingBlock w n m → m ≤ j → j < n → length kept ≡ j - m
    → ((k : ℕ) → k < j - m → slice_index kept k ≡ w (m + k) / 2 ^ m) → in_span kept (w j / 2 ^ m) ≡ false
trailing_fresh w n m j kept block mj jn long is =
    false_from (in_span kept (w j / 2 ^ m))
    (λ known.
    let s = sum_of_span kept (w j / 2 ^ m) known in
    let d : ℕ = j - m in
    let u : ℕ → ℕ = λ k. w (m + k) / 2 ^ m in
    let x : ℕ = s.0 % 2 ^ d in
    let xb : x < 2 ^ d = mod-lt s.0 (pow_pos d) in
    let y : ℕ = bit_xor x (2 ^ d) in
    let old : xor_sum u d x ≡ w j / 2 ^ m =
    xor_sum-low u d s.0 ∙ sym (xor_sum-ext (slice_index kept) u d s.0 is) ∙ ap (λ (k : ℕ). xor_sum (slice_index kept) k s.0) (sym long)
    ∙ s.1 in
    let new : u d ≡ w j / 2 ^ m = ap (λ (k : ℕ). w k / 2 ^ m) (let e : m + d ≡ j = omega arith in e) in
    let short : d < n - m = omega arith in
    let none : xor_sum u (n - m) y ≡ 0 =
    xor_sum-xor u (n - m) x (2 ^ d)
    ∙ xor_same (xor_sum-above u d (n - m) x (omega arith) xb ∙ old) (xor_sum-pow u (n - m) d short ∙ new) ∙ xor_self (w j / 2 ^ m) in
    let wide : x < 2 ^ (n - m) = below_wider x d (n - m) xb (omega arith) in
    let z : y ≡ 0 = block y (xor_lt (n - m) x (2 ^ d) wide (pow_below d (n - m) short)) none in
    let e : y ≡ 2 ^ d + x = xor_pow_above x d xb in
    let p : 0 < 2 ^ d = pow_pos d in
    omega arith)

-- and is kept
pub basis_more : (w : ℕ → ℕ) (n m j : ℕ) (kept kept2 : List ℕ) (v : ℕ) (b : Bool) → HasTrailingBlock w n m → m ≤ j → j < n
    → length kept ≡ j - m
    → ((k : ℕ) → k < j - m → slice_index kept k ≡ w (m + k) / 2 ^ m) → v ≡ w j / 2 ^ m → b ≡ not (in_span kept v)
    → kept2 ≡ (if b then kept ++ v ∷ [] else kept)
    → (length kept2 ≡ (j + 1) - m) × ((k : ℕ) → k < (j + 1) - m → slice_index kept2 k ≡ w (m + k) / 2 ^ m)
basis_more w n m j kept kept2 v b block mj jn long is ve be ke =
    let fresh : in_span kept v ≡ false = subst (λ (x : ℕ). in_span kept x ≡ false) (sym ve)
    (trailing_fresh w n m j kept block mj jn long is) in
    let all : kept2 ≡ kept ++ v ∷ [] = insert_done kept kept2 v (in_span kept v) b be ke fresh in (
      ap length all ∙ length-append kept (v ∷ []) ∙ (let e : length kept + 1 ≡ (j + 1) - m = omega arith in e),
      λ k l.
          ⊎_elim
          (λ (p : k < length kept). ap (λ (s : List ℕ). slice_index s k) all ∙ kept_old kept v k p ∙ is k (omega arith))
          (λ (p : length kept ≤ k).
          let e : k ≡ length kept = omega arith in
          ap (slice_index kept2) e ∙ ap (λ (s : List ℕ). slice_index s (length kept)) all ∙ kept_last kept v ∙ ve
          ∙ ap (λ (i : ℕ). w i / 2 ^ m) (let f : j ≡ m + k = omega arith in f))
          (cases_lt k (length kept)),
    )

-- ---- columns b..m-1

-- columns b..j-1 are done
pub record IsErasing (a e : Matrix) (b m j : ℕ) : Type 0 where
  pub size : e.n ≡ a.n
  pub first : (k : ℕ) → k < b → column e k ≡ 2 ^ k
  pub done : (k : ℕ) → b ≤ k → k < j → AddsTrailing e m k
  pub erased : (k : ℕ) → b ≤ k → k < j → product a e k / 2 ^ m ≡ 0
  pub rest : (k : ℕ) → j ≤ k → k < a.n → column e k ≡ 2 ^ k

-- nothing done yet
pub erasing_none : (a e : Matrix) (b m : ℕ) → e.n ≡ a.n → ((k : ℕ) → k < a.n → column e k ≡ 2 ^ k) → b < a.n → IsErasing a e b m b
erasing_none a e b m size units l = record {
  size = size;
  first = λ k h. units k (omega arith);
  done = λ k p q. absurd (omega arith);
  erased = λ k p q. absurd (omega arith);
  rest = λ k p q. units k q;
}

-- a multiple of 2 ^ m has no bit below m
high_bits : (v m j : ℕ) → j < m → bit_at (v * 2 ^ m) j ≡ 0
high_bits v m j l = ap (λ (x : ℕ). bit_at x j) (let e : v * 2 ^ m ≡ v * 2 ^ m + 0 = omega arith in e) ∙ bit_at_cat_low v m 0 j l
    ∙ bit_at-zero j

-- a set of the columns from m on, in rows m and above
high_image : (a : Matrix) (m set : ℕ) → m ≤ a.n
    → image a (set * 2 ^ m) / 2 ^ m ≡ xor_sum (λ k. column a (m + k) / 2 ^ m) (a.n - m) set
high_image a m set l =
    let w : ℕ → ℕ = column a in
    let v : ℕ = set * 2 ^ m in
    let front : xor_sum w m v ≡ 0 = xor_sum-bits w m v 0 (λ j q. high_bits set m j q ∙ sym (bit_at-zero j)) ∙ xor_sum-zero w m in
    let parts : image a v ≡ xor_sum (λ k. w (m + k)) (a.n - m) set =
    ap (λ (n : ℕ). xor_sum w n v) (let f : a.n ≡ m + (a.n - m) = omega arith in f) ∙ xor_sum-split w m (a.n - m) v
    ∙ xor_same front (ap (xor_sum (λ k. w (m + k)) (a.n - m)) (shl-shr set m)) ∙ xor_zero_l (xor_sum (λ k. w (m + k)) (a.n - m) set) in
    ap (λ (x : ℕ). x / 2 ^ m) parts ∙ xor_sum-shr (λ k. w (m + k)) (a.n - m) m set

-- one more column is done
pub erasing_more : (a e e2 : Matrix) (b m j set : ℕ) → IsErasing a e b m j → b ≤ j → j < m → m ≤ a.n → set < 2 ^ (a.n - m)
    → xor_sum (λ k. column a (m + k) / 2 ^ m) (a.n - m) set ≡ column a j / 2 ^ m → e2.n ≡ e.n
    → column e2 j ≡ bit_xor (set * 2 ^ m) (2 ^ j) → ((k : ℕ) → k ≢ j → column e2 k ≡ column e k) → IsErasing a e2 b m (j + 1)
erasing_more a e e2 b m j set s bj jm mn short sum size2 changed others =
    let size : e.n ≡ a.n = s.size in
    let same : e2.n ≡ a.n = size2 ∙ size in
    let top : product a e2 j / 2 ^ m ≡ 0 =
    ap (λ (v : ℕ). image a v / 2 ^ m) changed
    ∙ ap (λ (v : ℕ). v / 2 ^ m) (xor_sum-xor (column a) a.n (set * 2 ^ m) (2 ^ j)) ∙ xor_shr (image a (set * 2 ^ m)) (image a (2 ^ j)) m
    ∙ xor_same (high_image a m set mn ∙ sum) (ap (λ (v : ℕ). v / 2 ^ m) (xor_sum-pow (column a) a.n j (omega arith)))
    ∙ xor_self (column a j / 2 ^ m) in
    record {
      size = same;
      first = λ k l.
          ⊎_elim
          (λ (p : k ≡ j). absurd (omega arith))
          (λ (p : k ≢ j). others k p ∙ s.first k l)
          (cases_eq k j);
      done = λ k p q.
          ⊎_elim
          (λ (f : k ≡ j). subst (λ (x : ℕ). AddsTrailing e2 m x) (sym f)
          (record { added = set; below = subst (λ (n : ℕ). set < 2 ^ (n - m)) (sym same) short; is = changed }))
          (λ (f : k ≢ j).
          let d = s.done k p (omega arith) in
          record { added = d.added; below = subst (λ (n : ℕ). d.added < 2 ^ (n - m)) (sym size2) d.below; is = others k f ∙ d.is })
          (cases_eq k j);
      erased = λ k p q.
          ⊎_elim
          (λ (f : k ≡ j). ap (λ (x : ℕ). product a e2 x / 2 ^ m) f ∙ top)
          (λ (f : k ≢ j). ap (λ (v : ℕ). image a v / 2 ^ m) (others k f) ∙ s.erased k p (omega arith))
          (cases_eq k j);
      rest = λ k p q. others k (omega arith) ∙ s.rest k (omega arith) q;
    }

-- what the code writes: the set, moved up to the columns from m on, and the unit vector
written : (n m j set : ℕ) → n ≤ 52 → m ≤ n → j < m → set < 2 ^ (n - m)
    → (bit_xor (set * 2 ^ m % 2 ^ 64) (1 * 2 ^ j % 2 ^ 64) ≡ bit_xor (set * 2 ^ m) (2 ^ j)) × (bit_xor (set * 2 ^ m) (2 ^ j) < 2 ^ n)
written n m j set few mn jm short =
    let wide : (n - m) + m ≡ n = omega arith in
    let up : set * 2 ^ m < 2 ^ n = subst (λ (k : ℕ). set * 2 ^ m < 2 ^ k) wide (shl_below set (n - m) m short) in (
      xor_same (shl_whole set (n - m) m 64 short (omega arith)) (one_shl j 64 (omega arith)),
      xor_lt n (set * 2 ^ m) (2 ^ j) up (pow_below j n (omega arith)),
    )

-- the changed column is short
pub turn_below : (n m j set count : ℕ) (e : Matrix) → e.n ≡ n → m ≤ n → j < m → count ≡ n - m → set < 2 ^ count
    → bit_xor (set * 2 ^ m % 2 ^ 64) (1 * 2 ^ j % 2 ^ 64) < 2 ^ e.n
turn_below n m j set count e size mn jm ce short =
    let few : e.n ≤ 52 = e.few in
    let w = written e.n m j set few (omega arith) jm (subst (λ (k : ℕ). set < 2 ^ k) (ce ∙ ap (λ (k : ℕ). k - m) (sym size)) short) in
    subst (λ (v : ℕ). v < 2 ^ e.n) (sym w.0) w.1

-- one turn of the loop
pub turn_erased : (a e e2 : Matrix) (b m j : ℕ) (kept : List ℕ) (from set : ℕ) → IsErasing a e b m j → b ≤ j → j < m → m ≤ a.n → from ≡ j
    → length kept ≡ a.n - m → ((k : ℕ) → k < a.n - m → slice_index kept k ≡ column a (m + k) / 2 ^ m)
    → sum_of kept set ≡ slice_index a.cols from / 2 ^ m → set < 2 ^ length kept
    → e2.n ≡ e.n → column e2 j ≡ bit_xor (set * 2 ^ m % 2 ^ 64) (1 * 2 ^ j % 2 ^ 64) → ((k : ℕ) → k ≢ j → column e2 k ≡ column e k)
    → IsErasing a e2 b m (j + 1)
turn_erased a e e2 b m j kept from set s bj jm mn fe long is sum below size changed others =
    let short : set < 2 ^ (a.n - m) = subst (λ (k : ℕ). set < 2 ^ k) long below in
    erasing_more a e e2 b m j set s bj jm mn short
    (sym (xor_sum-ext (slice_index kept) (λ k. column a (m + k) / 2 ^ m) (a.n - m) set is)
    ∙ ap (λ (k : ℕ). xor_sum (slice_index kept) k set) (sym long) ∙ sum ∙ ap (λ (k : ℕ). slice_index a.cols k / 2 ^ m) fe)
    size (changed ∙ (written a.n m j set a.few mn jm short).0) others

-- ---- the end

-- all columns are done
pub erasing_all : (a e : Matrix) (b m j : ℕ) → IsErasing a e b m j → j ≡ m → IsEraser a e b m
erasing_all a e b m j s z = record {
  size = s.size;
  first = s.first;
  adds = λ k p q. s.done k p (omega arith);
  kept = λ k p q. s.rest k (omega arith) q;
  erased = λ k p q. s.erased k p (omega arith);
}

-- the eraser adds to each column what it leaves unchanged
pub eraser_inverse : (a e : Matrix) (b m : ℕ) → IsEraser a e b m → m ≤ a.n → IsOwnInverse e
eraser_inverse a e b m s mn =
    let size : e.n ≡ a.n = s.size in
    own_inverse e
    (λ j inside.
    ⊎_elim
    (λ (p : j < b). unit_back e j inside (s.first j p))
    (λ (p : b ≤ j).
    ⊎_elim
    (λ (q : j < m).
    let d = s.adds j p q in
    let c : ℕ = d.added * 2 ^ m in
    let wide : (e.n - m) + m ≡ e.n = omega arith in
    let short : c < 2 ^ e.n = subst (λ (k : ℕ). c < 2 ^ k) wide (shl_below d.added (e.n - m) m d.below) in
    added_back e j c inside d.is
    (xor_sum-picked (column e) (λ k. 2 ^ k) e.n c
    (λ k l bit.
    ⊎_elim
    (λ (r : k < m). let z : bit_at c k ≡ 0 = high_bits d.added m k r in absurd (omega arith))
    (λ (r : m ≤ k). s.kept k r (omega arith))
    (cases_lt k m))
    ∙ xor_sum-units e.n c ∙ mod-eq_of_lt short))
    (λ (q : m ≤ j). unit_back e j inside (s.kept j q (omega arith)))
    (cases_lt j m))
    (cases_lt j b))

-- the rows below m of the first m columns are those of the unit matrix
eraser_low : (a e : Matrix) (b m x : ℕ) → IsEraser a e b m → m ≤ a.n → x < 2 ^ m → image e x % 2 ^ m ≡ x
eraser_low a e b m x s mn h =
    let size : e.n ≡ a.n = s.size in
    ap (λ (v : ℕ). v % 2 ^ m) (xor_sum-above (column e) m e.n x (omega arith) h) ∙ xor_sum-mod (column e) m m x
    ∙ xor_sum-ext (λ j. column e j % 2 ^ m) (λ j. 2 ^ j) m x
    (λ j l.
    let unit : 2 ^ j % 2 ^ m ≡ 2 ^ j = mod-eq_of_lt (pow_below j m l) in
    ⊎_elim
    (λ (p : j < b). ap (λ (v : ℕ). v % 2 ^ m) (s.first j p) ∙ unit)
    (λ (p : b ≤ j).
    let d = s.adds j p l in
    let none : d.added * 2 ^ m % 2 ^ m ≡ 0 = ap (λ (v : ℕ). v % 2 ^ m) (let f : d.added * 2 ^ m ≡ d.added * 2 ^ m + 0 = omega arith in f)
    ∙ mod-mul-add d.added (2 ^ m) 0 (pow_pos m) in
    ap (λ (v : ℕ). v % 2 ^ m) d.is ∙ xor_mod (d.added * 2 ^ m) (2 ^ j) m ∙ xor_same none unit ∙ xor_zero_l (2 ^ j))
    (cases_lt j b))
    ∙ xor_sum-units m x ∙ mod-eq_of_lt h

-- the eraser is MLD: where rows b..m-1 of an image are 0, the vector picks none of the changed columns
pub eraser_mld : (a e : Matrix) (b m : ℕ) → IsEraser a e b m → b < m → m ≤ a.n → IsMld e b m
eraser_mld a e b m s bm mn =
    let size : e.n ≡ a.n = s.size in (
      nonsingular_of_involution e (eraser_inverse a e b m s mn),
      λ x h mid.
          let none : x / 2 ^ b ≡ 0 =
          ap (λ (v : ℕ). v / 2 ^ b) (sym (eraser_low a e b m x s mn h)) ∙ sym (middle_of_low (image e x) b m (omega arith)) ∙ mid in
          ap (λ (v : ℕ). v / 2 ^ m) (unchanged_low e b x (omega arith) s.first (below_of_none x b none)) ∙ div-eq_of_lt h,
    )
