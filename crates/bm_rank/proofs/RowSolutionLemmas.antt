-- One set of rows from another.
use Rattle.std.proofs.Common.{◌≡◌, ◌≢◌, ℕ, ◌+◌, ◌-◌, ◌*◌, ◌%◌, ◌^◌, ◌<◌, ◌≤◌, Bool, true, false, not, if◌then◌else◌, List, [], ◌∷◌, ◌++◌}
use Rattle.std.proofs.Common.{length, length-append, set, get_or-set_same, get_or-set_other, slice_index, bit_xor, refl, sym, ap, ◌∙◌}
use Rattle.std.proofs.Common.{subst, arith, add-one, inl, inr, ⊎_elim, ◌⊎◌}
use Rattle.std.specs.Int.{bit_at}
use Rattle.std.specs.Int.Bits.{xor_self, xor_zero_r}
use Rattle.std.proofs.lemmas.Nat.{xor_lt, pow_below, pow_pos, one_shl}
use Rattle.std.proofs.Math.Nat.{pow-le-pow_right, two-pow-succ}
use Rattle.std.proofs.lemmas.Nat.Bits.{bit_at-lt}
use Rattle.std.proofs.lemmas.Bool.{cases_lt, false≢true}
use Rattle.bm_gf2.specs.Vector.{xor_sum}
use Rattle.bm_gf2.proofs.VectorLemmas.{xor_pow_above, xor_sum-xor, xor_sum-zero, xor_sum-pow, xor_sum-more, xor_sum-xor_sum, xor_sum-ext}
use Rattle.bm_gf2.proofs.VectorLemmas.{xor_sum-lt, xor_sum_start, bit_cases, xor_same, eq_of_xor-zero, xor_cancel, xor_cancel_right}
use Rattle.bm_rank.specs.RowSolution.{IsLeastSplit}
use Rattle.bm_rank.specs.Span.{in_span}
use Rattle.bm_rank.specs.Span.{sum_of}
use Rattle.bm_rank.proofs.SpanLemmas.{kept_old, kept_last, false_from, in_span-sum, in_span-zero, in_span-xor, in_span-push, in_span-cons}
use Rattle.bm_base.proofs.PowerLemmas.{two_halves}

-- the first j columns: `lows` of m, what was kept of them, and the vectors that give what was kept
pub record IsSolving (lows highs : ℕ → ℕ) (m j : ℕ) (kept : List ℕ) (units : ℕ → ℕ) : Type 0 where
  pub units_below : (k : ℕ) → k < length kept → units k < 2 ^ j
  pub sent : (k : ℕ) → k < length kept → xor_sum lows m (units k) ≡ slice_index kept k
  pub spans : (y : ℕ) → y < 2 ^ j → in_span kept (xor_sum lows m y) ≡ true
  pub low : (s y : ℕ) → y < 2 ^ j → xor_sum lows m y ≡ xor_sum lows m (xor_sum units (length kept) s) → xor_sum units (length kept) s ≤ y
  pub good : (y : ℕ) → y < 2 ^ j → xor_sum lows m y ≡ 0 → xor_sum highs m y ≡ 0

-- a vector below 2 ^ (j + 1): below 2 ^ j, or 2 ^ j more than one
pub halves : (y j : ℕ) → y < 2 ^ (j + 1) → (y < 2 ^ j) ⊎ ((r : ℕ) × (r < 2 ^ j) × (y ≡ bit_xor r (2 ^ j)) × (y ≡ 2 ^ j + r))
halves y j h =
    ⊎_elim
    (λ (p : y < 2 ^ j). inl p)
    (λ (p : 2 ^ j ≤ y).
    let t : 2 ^ (j + 1) ≡ 2 ^ j + 2 ^ j = rw add-one (two-pow-succ j) in
    let r : ℕ = y - 2 ^ j in
    let rb : r < 2 ^ j = omega arith in
    inr (r, rb, (let d : y ≡ 2 ^ j + r = omega arith in d ∙ sym (xor_pow_above r j rb)), omega arith))
    (cases_lt y (2 ^ j))

module _ (lows highs : ℕ → ℕ) (m j : ℕ) (kept : List ℕ) (units : ℕ → ℕ) (s : IsSolving lows highs m j kept units) (l : j < m) where
  -- what a vector with the top bit j is sent to
  topped_low : (r : ℕ) → xor_sum lows m (bit_xor r (2 ^ j)) ≡ bit_xor (xor_sum lows m r) (lows j)
  topped_low r = xor_sum-xor lows m r (2 ^ j) ∙ ap (bit_xor (xor_sum lows m r)) (xor_sum-pow lows m j l)

  -- .. in the second columns
  topped_high : (r : ℕ) → xor_sum highs m (bit_xor r (2 ^ j)) ≡ bit_xor (xor_sum highs m r) (highs j)
  topped_high r = xor_sum-xor highs m r (2 ^ j) ∙ ap (bit_xor (xor_sum highs m r)) (xor_sum-pow highs m j l)

  -- a set of the kept vectors, and the vector that gives their sum
  vector_below : (x : ℕ) → xor_sum units (length kept) x < 2 ^ j
  vector_below x = xor_sum-lt units (length kept) j x s.units_below

  -- that vector has the sum
  vector_sent : (x : ℕ) → xor_sum lows m (xor_sum units (length kept) x) ≡ sum_of kept x
  vector_sent x =
      xor_sum-xor_sum lows units m (length kept) x ∙ xor_sum-ext (λ k. xor_sum lows m (units k)) (slice_index kept) (length kept) x s.sent

  -- ---- the column is a sum of those before it
  module _ (x : ℕ) (sum : sum_of kept x ≡ lows j) where
    found : ℕ
    found = xor_sum units (length kept) x

    found_sent : xor_sum lows m (xor_sum units (length kept) x) ≡ lows j
    found_sent = vector_sent x ∙ sum

    pub outside_below : bit_xor (xor_sum units (length kept) x) (2 ^ j) < 2 ^ m
    outside_below =
        xor_lt m (xor_sum units (length kept) x) (2 ^ j)
        (let two : 0 < 2 = omega arith in let le : j ≤ m = omega arith in let p : 2 ^ j ≤ 2 ^ m = pow-le-pow_right two le in
        let b : xor_sum units (length kept) x < 2 ^ j = vector_below x in omega arith)
        (pow_below j m l)

    pub outside_low : xor_sum lows m (bit_xor (xor_sum units (length kept) x) (2 ^ j)) ≡ 0
    outside_low = topped_low (xor_sum units (length kept) x) ∙ ap (λ (c : ℕ). bit_xor c (lows j)) found_sent ∙ xor_self (lows j)

    pub outside_least : (y : ℕ) → xor_sum lows m y ≡ 0 → xor_sum highs m y ≢ 0 → bit_xor (xor_sum units (length kept) x) (2 ^ j) ≤ y
    outside_least y h nz =
        let f : ℕ = xor_sum units (length kept) x in
        let fb : f < 2 ^ j = vector_below x in
        let fe : bit_xor f (2 ^ j) ≡ 2 ^ j + f = xor_pow_above f j fb in
        let room : 2 ^ (j + 1) ≡ 2 ^ j + 2 ^ j = two_halves j in
        ⊎_elim
        (λ (p : y < 2 ^ (j + 1)).
        ⊎_elim
        (λ (q : y < 2 ^ j). absurd (nz (s.good y q h)))
        (λ (q : (r : ℕ) × (r < 2 ^ j) × (y ≡ bit_xor r (2 ^ j)) × (y ≡ 2 ^ j + r)).
        let e : bit_xor (xor_sum lows m q.0) (lows j) ≡ 0 = sym (topped_low q.0) ∙ ap (xor_sum lows m) (sym q.2) ∙ h in
        let g : xor_sum lows m q.0 ≡ xor_sum lows m f = eq_of_xor-zero (xor_sum lows m q.0) (lows j) e ∙ sym found_sent in
        let le : f ≤ q.0 = s.low x q.0 q.1 g in
        let ye : y ≡ 2 ^ j + q.0 = q.3 in
        omega arith)
        (halves y j p))
        (λ (p : 2 ^ (j + 1) ≤ y). omega arith)
        (cases_lt y (2 ^ (j + 1)))

    -- and its rows above agree
    pub solving_same : xor_sum highs m (bit_xor (xor_sum units (length kept) x) (2 ^ j)) ≡ 0 → IsSolving lows highs m (j + 1) kept units
    solving_same z =
        let f : ℕ = xor_sum units (length kept) x in
        let fb : f < 2 ^ j = vector_below x in
        let room : 2 ^ (j + 1) ≡ 2 ^ j + 2 ^ j = two_halves j in
        record {
          units_below = λ k h. let u : units k < 2 ^ j = s.units_below k h in omega arith;
          sent = s.sent;
          spans = λ y h.
              ⊎_elim
              (λ (q : y < 2 ^ j). s.spans y q)
              (λ (q : (r : ℕ) × (r < 2 ^ j) × (y ≡ bit_xor r (2 ^ j)) × (y ≡ 2 ^ j + r)).
              subst (λ (v : ℕ). in_span kept v ≡ true) (sym (ap (xor_sum lows m) q.2 ∙ topped_low q.0))
              (in_span-xor kept (xor_sum lows m q.0) (lows j) (s.spans q.0 q.1)
              (subst (λ (v : ℕ). in_span kept v ≡ true) sum (in_span-sum kept x))))
              (halves y j h);
          low = λ t y h e.
              ⊎_elim
              (λ (q : y < 2 ^ j). s.low t y q e)
              (λ (q : (r : ℕ) × (r < 2 ^ j) × (y ≡ bit_xor r (2 ^ j)) × (y ≡ 2 ^ j + r)).
              let u : xor_sum units (length kept) t < 2 ^ j = vector_below t in let ye : y ≡ 2 ^ j + q.0 = q.3 in omega arith)
              (halves y j h);
          good = λ y h e.
              ⊎_elim
              (λ (q : y < 2 ^ j). s.good y q e)
              (λ (q : (r : ℕ) × (r < 2 ^ j) × (y ≡ bit_xor r (2 ^ j)) × (y ≡ 2 ^ j + r)).
              let r : ℕ = q.0 in
              let lr : xor_sum lows m r ≡ lows j = eq_of_xor-zero (xor_sum lows m r) (lows j)
              (sym (topped_low r) ∙ ap (xor_sum lows m) (sym q.2) ∙ e) in
              let ld : xor_sum lows m (bit_xor r f) ≡ 0 = xor_sum-xor lows m r f ∙ xor_same lr found_sent ∙ xor_self (lows j) in
              let hd : xor_sum highs m (bit_xor r f) ≡ 0 = s.good (bit_xor r f) (xor_lt j r f q.1 fb) ld in
              let same : xor_sum highs m r ≡ xor_sum highs m f = eq_of_xor-zero (xor_sum highs m r) (xor_sum highs m f)
              (sym (xor_sum-xor highs m r f) ∙ hd) in
              ap (xor_sum highs m) q.2 ∙ topped_high r ∙ ap (λ (c : ℕ). bit_xor c (highs j)) same ∙ sym (topped_high f) ∙ z)
              (halves y j h);
        }

  -- ---- the column is new
  pub solving_new : (units2 : ℕ → ℕ) → in_span kept (lows j) ≡ false → ((k : ℕ) → k < length kept → units2 k ≡ units k)
      → units2 (length kept) ≡ 2 ^ j
      → IsSolving lows highs m (j + 1) (kept ++ lows j ∷ []) units2
  solving_new units2 f same new =
      let n : ℕ = length kept in
      let w : ℕ = lows j in
      let kept2 : List ℕ = kept ++ w ∷ [] in
      let len : length kept2 ≡ n + 1 = simp length-append refl in
      let room : 2 ^ (j + 1) ≡ 2 ^ j + 2 ^ j = two_halves j in
      let outside : in_span kept w ≡ true → ⊥ = λ h. false≢true (sym f ∙ h) in
      let vec : (t : ℕ) → xor_sum units2 (length kept2) t ≡ bit_xor (xor_sum units n t) (bit_at t n * 2 ^ j) = λ t.
      ap (λ (c : ℕ). xor_sum units2 c t) len ∙ xor_sum-more units2 n t
      ∙ xor_same (xor_sum-ext units2 units n t same) (ap (λ (c : ℕ). bit_at t n * c) new) in
      record {
        units_below = λ k h.
            ⊎_elim
            (λ (p : k < n). let u : units k < 2 ^ j = s.units_below k p in let e : units2 k ≡ units k = same k p in
            let pos : 0 < 2 ^ j = pow_pos j in omega arith)
            (λ (p : n ≤ k). let e : k ≡ n = omega arith in let v : units2 k ≡ 2 ^ j = ap units2 e ∙ new in
            let pos : 0 < 2 ^ j = pow_pos j in omega arith)
            (cases_lt k n);
        sent = λ k h.
            ⊎_elim
            (λ (p : k < n). ap (xor_sum lows m) (same k p) ∙ s.sent k p ∙ sym (kept_old kept w k p))
            (λ (p : n ≤ k). let e : k ≡ n = omega arith in
            ap (λ (c : ℕ). xor_sum lows m (units2 c)) e ∙ ap (xor_sum lows m) new ∙ xor_sum-pow lows m j l
            ∙ sym (ap (slice_index kept2) e ∙ kept_last kept w))
            (cases_lt k n);
        spans = λ y h.
            in_span-push w kept (xor_sum lows m y)
            ∙ in_span-cons w kept (xor_sum lows m y)
            (⊎_elim
            (λ (q : y < 2 ^ j). inl (s.spans y q))
            (λ (q : (r : ℕ) × (r < 2 ^ j) × (y ≡ bit_xor r (2 ^ j)) × (y ≡ 2 ^ j + r)).
            inr (subst (λ (v : ℕ). in_span kept v ≡ true)
            (sym (ap (λ (c : ℕ). bit_xor c w) (ap (xor_sum lows m) q.2 ∙ topped_low q.0) ∙ xor_cancel_right (xor_sum lows m q.0) w))
            (s.spans q.0 q.1)))
            (halves y j h));
        low = λ t y h e.
            let u : ℕ = xor_sum units n t in
            let ub : u < 2 ^ j = vector_below t in
            ⊎_elim
            (λ (p : (bit_at t n ≡ 0) × (bit_at t n * 2 ^ j ≡ 0)).
            let v : xor_sum units2 (length kept2) t ≡ u = vec t ∙ ap (bit_xor u) p.1 ∙ xor_zero_r u in
            ⊎_elim
            (λ (q : y < 2 ^ j). subst (λ (c : ℕ). c ≤ y) (sym v) (s.low t y q (e ∙ ap (xor_sum lows m) v)))
            (λ (q : (r : ℕ) × (r < 2 ^ j) × (y ≡ bit_xor r (2 ^ j)) × (y ≡ 2 ^ j + r)). let ye : y ≡ 2 ^ j + q.0 = q.3 in omega arith)
            (halves y j h))
            (λ (p : (bit_at t n ≡ 1) × (bit_at t n * 2 ^ j ≡ 2 ^ j)).
            let v : xor_sum units2 (length kept2) t ≡ bit_xor u (2 ^ j) = vec t ∙ ap (bit_xor u) p.1 in
            let lv : xor_sum lows m y ≡ bit_xor (xor_sum lows m u) w = e ∙ ap (xor_sum lows m) v ∙ topped_low u in
            ⊎_elim
            (λ (q : y < 2 ^ j).
            let d : bit_xor (xor_sum lows m u) (xor_sum lows m y) ≡ w = ap (bit_xor (xor_sum lows m u)) lv
            ∙ xor_cancel (xor_sum lows m u) w in
            absurd (outside (subst (λ (c : ℕ). in_span kept c ≡ true) d
            (in_span-xor kept (xor_sum lows m u) (xor_sum lows m y) (s.spans u ub) (s.spans y q)))))
            (λ (q : (r : ℕ) × (r < 2 ^ j) × (y ≡ bit_xor r (2 ^ j)) × (y ≡ 2 ^ j + r)).
            let r : ℕ = q.0 in
            let a : bit_xor (xor_sum lows m r) w ≡ bit_xor (xor_sum lows m u) w = sym (topped_low r) ∙ ap (xor_sum lows m) (sym q.2) ∙ lv in
            let same_sum : xor_sum lows m r ≡ xor_sum lows m u = sym (xor_cancel_right (xor_sum lows m r) w)
            ∙ ap (λ (c : ℕ). bit_xor c w) a ∙ xor_cancel_right (xor_sum lows m u) w in
            let le : u ≤ r = s.low t r q.1 same_sum in
            let ye : y ≡ 2 ^ j + r = q.3 in
            let ue : bit_xor u (2 ^ j) ≡ 2 ^ j + u = xor_pow_above u j ub in
            omega arith)
            (halves y j h))
            (bit_cases (bit_at t n) (2 ^ j) (bit_at-lt t n));
        good = λ y h e.
            ⊎_elim
            (λ (q : y < 2 ^ j). s.good y q e)
            (λ (q : (r : ℕ) × (r < 2 ^ j) × (y ≡ bit_xor r (2 ^ j)) × (y ≡ 2 ^ j + r)).
            let lr : xor_sum lows m q.0 ≡ w = eq_of_xor-zero (xor_sum lows m q.0) w
            (sym (topped_low q.0) ∙ ap (xor_sum lows m) (sym q.2) ∙ e) in
            absurd (outside (subst (λ (c : ℕ). in_span kept c ≡ true) lr (s.spans q.0 q.1))))
            (halves y j h);
      }

-- nothing seen yet
pub solving_none : (lows highs : ℕ → ℕ) (m : ℕ) (units : ℕ → ℕ) → IsSolving lows highs m 0 [] units
solving_none lows highs m units = record {
  units_below = λ k h. absurd (omega arith);
  sent = λ k h. absurd (omega arith);
  spans = λ y h. let z : y ≡ 0 = omega arith in
      subst (λ (v : ℕ). in_span [] v ≡ true) (sym (ap (xor_sum lows m) z ∙ xor_sum-zero lows m)) (in_span-zero []);
  low = λ t y h e. subst (λ (v : ℕ). v ≤ y) (sym (xor_sum_start units t)) (omega arith);
  good = λ y h e. let z : y ≡ 0 = omega arith in ap (xor_sum highs m) z ∙ xor_sum-zero highs m;
}

-- ---- the steps as the code makes them
module _ (lows highs : List ℕ) (m j : ℕ) (kept units : List ℕ)
    (s : IsSolving (slice_index lows) (slice_index highs) m j kept (slice_index units)) (l : j < m)
    (count at : ℕ) (ke : length kept ≡ count) (few : m ≤ 52) (ae : at ≡ j) where
  -- 1 << j
  unit : 1 * 2 ^ j % 2 ^ 64 ≡ 2 ^ j
  unit = one_shl j 64 (omega arith)

  module _ (set x : ℕ) (sum : xor_sum (slice_index kept) (length kept) set ≡ slice_index lows at)
      (xe : x ≡ xor_sum (slice_index units) count set) where
    sum_here : sum_of kept set ≡ slice_index lows j
    sum_here = sum ∙ ap (slice_index lows) ae

    same_vector : bit_xor x (1 * 2 ^ j % 2 ^ 64) ≡ bit_xor (xor_sum (slice_index units) (length kept) set) (2 ^ j)
    same_vector = xor_same (xe ∙ ap (λ (c : ℕ). xor_sum (slice_index units) c set) (sym ke)) unit

    pub split_found : xor_sum (slice_index highs) m (bit_xor x (1 * 2 ^ j % 2 ^ 64)) ≢ 0
        → IsLeastSplit lows highs m (bit_xor x (1 * 2 ^ j % 2 ^ 64))
    split_found nz =
        let lo : ℕ → ℕ = slice_index lows in
        let hi : ℕ → ℕ = slice_index highs in
        let un : ℕ → ℕ = slice_index units in
        subst (λ (v : ℕ). IsLeastSplit lows highs m v) (sym same_vector) (record {
          below = outside_below lo hi m j kept un s l set sum_here;
          low = outside_low lo hi m j kept un s l set sum_here;
          high = λ z. nz (ap (xor_sum hi m) same_vector ∙ z);
          least = λ y b. outside_least lo hi m j kept un s l set sum_here y;
        })

    pub split_same : xor_sum (slice_index highs) m (bit_xor x (1 * 2 ^ j % 2 ^ 64)) ≡ 0
        → IsSolving (slice_index lows) (slice_index highs) m (j + 1) kept (slice_index units)
    split_same z =
        solving_same (slice_index lows) (slice_index highs) m j kept (slice_index units) s l set sum_here
        (sym (ap (xor_sum (slice_index highs) m) same_vector) ∙ z)

  -- the column is new
  pub split_new : (kept2 : List ℕ) (b : Bool) → (in_span kept (slice_index lows at) ≡ true → ⊥)
      → b ≡ not (in_span kept (slice_index lows at)) → kept2 ≡ (if b then kept ++ (slice_index lows at) ∷ [] else kept)
      → (place : ℕ) → place ≡ count → count ≤ j → length units ≡ 52
      → (length kept2 ≡ count + 1) × IsSolving (slice_index lows) (slice_index highs) m (j + 1) kept2
      (slice_index (set units place (1 * 2 ^ j % 2 ^ 64)))
  split_new kept2 b outside be k2 place pe cj ul =
      let w : ℕ = slice_index lows at in
      let f : in_span kept w ≡ false = false_from (in_span kept w) outside in
      let b1 : b ≡ true = be ∙ rw f refl in
      let k1 : kept2 ≡ kept ++ w ∷ [] = k2 ∙ rw b1 refl in
      let k3 : kept2 ≡ kept ++ slice_index lows j ∷ [] = k1 ∙ ap (λ (c : ℕ). kept ++ slice_index lows c ∷ []) ae in
      let f2 : in_span kept (slice_index lows j) ≡ false = sym (ap (λ (c : ℕ). in_span kept (slice_index lows c)) ae) ∙ f in
      let len : length kept2 ≡ length kept + 1 = ap length k1 ∙ simp length-append refl in
      let room : place < length units = omega arith in
      let last : slice_index (set units place (1 * 2 ^ j % 2 ^ 64)) (length kept) ≡ 2 ^ j =
      let e : length kept ≡ place = omega arith in rw e (rw get_or-set_same unit) in
      let new = solving_new (slice_index lows) (slice_index highs) m j kept (slice_index units) s l
      (slice_index (set units place (1 * 2 ^ j % 2 ^ 64))) f2
      (λ k h. let ne : k ≢ place = omega arith in rw get_or-set_other refl) last in
      (omega arith, rw k3 new)
