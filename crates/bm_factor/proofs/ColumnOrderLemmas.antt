-- Two columns exchanged: what a reducer keeps.
use Rattle.std.proofs.Common.{◌≡◌, ◌≢◌, ℕ, ◌==◌, ◌/◌, ◌^◌, ◌<◌, ◌≤◌, if◌then◌else◌, refl, sym, ap, ◌∙◌, subst, arith, ⊎_elim}
use Rattle.std.specs.Int.{bit_at}
use Rattle.std.proofs.Math.Nat.{mod-eq_of_lt}
use Rattle.std.proofs.lemmas.Nat.{pow_pos, pow_below}
use Rattle.std.proofs.lemmas.Nat.Bits.{bit_at-zero, bit_at-pow_same, bit_at-pow_other, same_from_bits_below}
use Rattle.std.proofs.lemmas.Bool.{cases_eq}
use Rattle.bm_gf2.specs.Vector.{xor_sum}
use Rattle.bm_gf2.specs.declared.matrix.Matrix.{Matrix}
use Rattle.bm_gf2.specs.Matrix.{image, column, IsNonsingular}
use Rattle.bm_gf2.proofs.VectorLemmas.{xor_sum-pow, xor_sum-xor_sum, xor_sum-ext, xor_sum-units, xor_sum-bit, xor_sum-lt}
use Rattle.bm_base.proofs.CaseLemmas.{if_same, if_other}
use Rattle.bm_factor.specs.Columns.{product}
use Rattle.bm_factor.specs.Reducer.{IsReducer}
use Rattle.bm_factor.proofs.TopCountLemmas.{count_exchanged}

-- where number k goes when i and j are exchanged
abbrev exchanged : ℕ → ℕ → ℕ → ℕ
exchanged i j k = if k == i then j else (if k == j then i else k)

-- what is said of i, of j and of every other number holds of each
by_cases : (i j : ℕ) (P : ℕ → ℕ → Type 0) → P i j → P j i → ((k : ℕ) → k ≢ i → k ≢ j → P k k) → (k : ℕ) → P k (exchanged i j k)
by_cases i j P first second rest k =
    ⊎_elim
    (λ (e : k ≡ i). subst (P k) (sym (if_same k i j (if k == j then i else k) e)) (subst (λ x. P x j) (sym e) first))
    (λ (ne : k ≢ i).
    subst (P k) (sym (if_other k i j (if k == j then i else k) ne))
    (⊎_elim
    (λ (e : k ≡ j). subst (P k) (sym (if_same k j i k e)) (subst (λ x. P x i) (sym e) second))
    (λ (nj : k ≢ j). subst (P k) (sym (if_other k j i k nj)) (rest k ne nj))
    (cases_eq k j)))
    (cases_eq k i)

-- x with its bits in another order, by an exchange `at`
record IsReordered (v w at : ℕ → ℕ) (m x : ℕ) : Type 0 where
  pub set : ℕ
  pub below : set < 2 ^ m
  pub sum : xor_sum w m set ≡ xor_sum v m x
  pub bits : (p : ℕ) → p < m → bit_at set p ≡ bit_at x (at p)

-- columns in another order have the sum of a set in that order
reordered : (v w at : ℕ → ℕ) (m x : ℕ) → ((k : ℕ) → k < m → at k < m) → ((k : ℕ) → at (at k) ≡ k) → ((k : ℕ) → k < m → v k ≡ w (at k))
    → x < 2 ^ m → IsReordered v w at m x
reordered v w at m x inside back is short =
    let units : ℕ → ℕ = λ k. 2 ^ at k in record {
      set = xor_sum units m x;
      below = xor_sum-lt units m m x (λ k l. pow_below (at k) m (inside k l));
      sum = xor_sum-xor_sum w units m m x
          ∙ xor_sum-ext (λ k. xor_sum w m (2 ^ at k)) v m x (λ k l. xor_sum-pow w m (at k) (inside k l) ∙ sym (is k l));
      bits = λ p l.
          xor_sum-bit units m p x
          ∙ xor_sum-ext (λ k. bit_at (2 ^ at k) p) (λ k. bit_at (2 ^ k) (at p)) m x
          (λ k _. ⊎_elim
          (λ (e : k ≡ at p).
          ap (λ c. bit_at (2 ^ c) p) (ap at e ∙ back p) ∙ bit_at-pow_same p
          ∙ sym (ap (λ c. bit_at (2 ^ c) (at p)) e ∙ bit_at-pow_same (at p)))
          (λ (ne : k ≢ at p).
          bit_at-pow_other (at k) p (λ e. ne (sym (ap at e ∙ back k))) ∙ sym (bit_at-pow_other k (at p) (λ e. ne (sym e))))
          (cases_eq k (at p)))
          ∙ sym (xor_sum-bit (λ k. 2 ^ k) m (at p) x) ∙ ap (λ c. bit_at c (at p)) (xor_sum-units m x ∙ mod-eq_of_lt short);
    }

-- a set that is empty in another order is empty
none_reordered : (v w at : ℕ → ℕ) (m x : ℕ) → ((k : ℕ) → k < m → at k < m) → ((k : ℕ) → at (at k) ≡ k) → x < 2 ^ m
    → (o : IsReordered v w at m x) → o.set ≡ 0 → x ≡ 0
none_reordered v w at m x inside back short o none =
    same_from_bits_below m x 0 short (pow_pos m)
    (λ k l. ap (bit_at x) (sym (back k)) ∙ sym (o.bits (at k) (inside k l)) ∙ ap (λ c. bit_at c (at k)) none
    ∙ bit_at-zero (at k) ∙ sym (bit_at-zero k))

-- columns i and j of r are exchanged
module _ (r r2 : Matrix) (i j : ℕ) (size : r2.n ≡ r.n) (first : column r2 i ≡ column r j) (second : column r2 j ≡ column r i)
    (others : (k : ℕ) → k ≢ i → k ≢ j → column r2 k ≡ column r k) where
  -- each column is one of r
  columns : (k : ℕ) → column r2 k ≡ column r (exchanged i j k)
  columns = by_cases i j (λ k l. column r2 k ≡ column r l) first second others

  -- an exchange is its own inverse
  back : (k : ℕ) → exchanged i j (exchanged i j k) ≡ k
  back = by_cases i j (λ k l. exchanged i j l ≡ k)
      (⊎_elim
      (λ (e : j ≡ i). if_same j i j (if j == j then i else j) e ∙ e)
      (λ (ne : j ≢ i). if_other j i j (if j == j then i else j) ne ∙ if_same j j i j refl)
      (cases_eq j i))
      (if_same i i j (if i == j then i else i) refl)
      (λ k ni nj. if_other k i j (if k == j then i else k) ni ∙ if_other k j i k nj)

  -- it stays below m
  inside : (m : ℕ) → i < m → j < m → (k : ℕ) → k < m → exchanged i j k < m
  inside m il jl = by_cases i j (λ k l. k < m → l < m) (λ _. jl) (λ _. il) (λ k _ _ l. l)

  -- the matrix stays nonsingular
  pub nonsingular_exchanged : i < r.n → j < r.n → IsNonsingular r → IsNonsingular r2
  nonsingular_exchanged il jl n = λ x short sent.
      let xb : x < 2 ^ r.n = subst (λ k. x < 2 ^ k) size short in
      let o = reordered (column r2) (column r) (exchanged i j) r.n x (inside r.n il jl) back (λ k l. columns k) xb in
      none_reordered (column r2) (column r) (exchanged i j) r.n x (inside r.n il jl) back xb o
      (n o.set o.below (o.sum ∙ ap (λ k. xor_sum (column r2) k x) (sym size) ∙ sent))

  -- and a reducer of a
  pub reducer_exchanged : (a : Matrix) (m : ℕ) → i < j → j < m → m ≤ a.n → IsReducer a r m → IsReducer a r2 m
  reducer_exchanged a m lt jl mn s =
      let il : i < m = omega arith in
      let top : ℕ → ℕ = λ k. product a r k / 2 ^ m in
      let top2 : ℕ → ℕ = λ k. product a r2 k / 2 ^ m in
      let same : (k : ℕ) → top2 k ≡ top (exchanged i j k) = λ k. ap (λ c. image a c / 2 ^ m) (columns k) in
      record {
        size = size ∙ s.size;
        within = λ k l. subst (λ c. c < 2 ^ m) (sym (columns k)) (s.within (exchanged i j k) (inside m il jl k l));
        kept = λ k p l. others k (omega arith) (omega arith) ∙ s.kept k p l;
        independent = λ x short zeros sum.
            let o = reordered top2 top (exchanged i j) m x (inside m il jl) back (λ k l. same k) short in
            none_reordered top2 top (exchanged i j) m x (inside m il jl) back short o
            (s.independent o.set o.below
            (λ p l none. o.bits p l ∙ zeros (exchanged i j p) (inside m il jl p l) (same (exchanged i j p) ∙ ap top (back p) ∙ none))
            (o.sum ∙ sum));
        count = count_exchanged (product a r2) (product a r) m i j m lt jl
            (ap (image a) first) (ap (image a) second) (λ k ni nj. ap (image a) (others k ni nj))
            ∙ s.count;
      }
