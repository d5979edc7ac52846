-- The loop of the swapper, from column m - 1 down: a column that is 0 in rows m and above is exchanged with the first one that is not.
use Rattle.std.proofs.Common.{◌≡◌, ◌≢◌, ℕ, ◌+◌, ◌-◌, ◌/◌, ◌^◌, ◌<◌, ◌≤◌, refl, sym, ap, ◌∙◌, subst, arith, inl, inr, ⊎_elim, ◌⊎◌}
use Rattle.std.proofs.lemmas.Bool.{cases_lt, cases_eq}
use Rattle.std.specs.Int.{bit_at}
use Rattle.std.proofs.lemmas.Nat.Bits.{bit_at-pow_same, bit_at-pow_other}
use Rattle.bm_gf2.specs.declared.matrix.Matrix.{Matrix}
use Rattle.bm_gf2.specs.Matrix.{image, column}
use Rattle.bm_gf2.proofs.VectorLemmas.{xor_sum-pow}
use Rattle.bm_factor.specs.Columns.{product, top_count, IsOwnInverse}
use Rattle.bm_factor.specs.Swapper.{IsSwapper, IsExchanged}
use Rattle.bm_factor.proofs.ColumnLemmas.{own_inverse, unit_back}
use Rattle.bm_factor.proofs.TopCountLemmas.{count_exchanged, top_count-ext, top_count-split, top_count-le, top_count-none, top_count-all}
use Rattle.bm_base.proofs.PowerLemmas.{same_exponent}

-- columns i..m-1 are done, and those below `next` that are left are 0 in rows m and above: columns `from`..m-1 are not, and
-- those before are, unless `from` is i
pub record IsSwapping (a s : Matrix) (m next i : ℕ) : Type 0 where
  pub size : s.n ≡ a.n
  pub exchanged : (j : ℕ) → j < m → IsExchanged s m j
  pub kept : (j : ℕ) → m ≤ j → j < a.n → column s j ≡ 2 ^ j
  pub free : (j : ℕ) → next ≤ j → j < i → column s j ≡ 2 ^ j
  pub used : (j : ℕ) → j < next → j < i → product a s j / 2 ^ m ≡ 0
  pub counted : top_count (product a s) m m ≡ top_count (column a) m m
  pub from : ℕ
  pub from_low : i ≤ from
  pub from_high : from ≤ m
  pub full : (j : ℕ) → from ≤ j → j < m → product a s j / 2 ^ m ≢ 0
  pub rest : (from ≡ i) ⊎ ((j : ℕ) → j < from → product a s j / 2 ^ m ≡ 0)

-- a unit column is a column of a
unit_column : (a s : Matrix) (j : ℕ) → j < a.n → column s j ≡ 2 ^ j → product a s j ≡ column a j
unit_column a s j l e = ap (image a) e ∙ xor_sum-pow (column a) a.n j l

-- nothing done yet
pub swapping_none : (a s : Matrix) (m : ℕ) → s.n ≡ a.n → ((k : ℕ) → k < a.n → column s k ≡ 2 ^ k) → m ≤ a.n → IsSwapping a s m 0 m
swapping_none a s m size units mn = record {
  size = size;
  exchanged = λ j l. record { with = j; below = l; is = units j (omega arith); back = units j (omega arith) };
  kept = λ j p q. units j q;
  free = λ j p q. units j (omega arith);
  used = λ j p q. absurd (omega arith);
  counted = top_count-ext (product a s) (column a) m m
      (λ j l. let inside : j < a.n = omega arith in ap (λ (c : ℕ). c / 2 ^ m) (unit_column a s j inside (units j inside)));
  from = m;
  from_low = omega arith;
  from_high = omega arith;
  full = λ j p q. absurd (omega arith);
  rest = inl refl;
}

-- one more column, with none before it to come
empty_below : (a s : Matrix) (m next i : ℕ) (s1 : IsSwapping a s m next (i + 1)) → i < m
    → ((j : ℕ) → j < i + 1 → product a s j / 2 ^ m ≡ 0) → IsSwapping a s m next i
empty_below a s m next i s1 im zeros =
    let low : i + 1 ≤ s1.from = s1.from_low in record {
      size = s1.size;
      exchanged = s1.exchanged;
      kept = s1.kept;
      free = λ j p q. s1.free j p (omega arith);
      used = λ j p q. s1.used j p (omega arith);
      counted = s1.counted;
      from = s1.from;
      from_low = omega arith;
      from_high = s1.from_high;
      full = s1.full;
      rest = inr (⊎_elim
          (λ (e : s1.from ≡ i + 1). λ j l. zeros j (omega arith))
          (λ (f : (j : ℕ) → j < s1.from → product a s j / 2 ^ m ≡ 0). f)
          s1.rest);
    }

-- column i is not 0 in rows m and above: it stays
pub swapping_kept : (a s : Matrix) (m next i : ℕ) → IsSwapping a s m next (i + 1) → i < m → m ≤ a.n → column a i / 2 ^ m ≢ 0
    → IsSwapping a s m next i
swapping_kept a s m next i s1 im mn some =
    let low : i + 1 ≤ s1.from = s1.from_low in
    ⊎_elim
    (λ (f : i < next). ⊎_elim
    (λ (e : s1.from ≡ i + 1). empty_below a s m next i s1 im (λ j l. s1.used j (omega arith) l))
    (λ (g : (j : ℕ) → j < s1.from → product a s j / 2 ^ m ≡ 0). empty_below a s m next i s1 im (λ j l. g j (omega arith)))
    s1.rest)
    (λ (f : next ≤ i).
    let here : product a s i ≡ column a i = unit_column a s i (omega arith) (s1.free i f (omega arith)) in
    let nonzero : product a s i / 2 ^ m ≢ 0 = λ z. some (ap (λ (c : ℕ). c / 2 ^ m) (sym here) ∙ z) in
    ⊎_elim
    (λ (e : s1.from ≡ i + 1). record {
      size = s1.size;
      exchanged = s1.exchanged;
      kept = s1.kept;
      free = λ j p q. s1.free j p (omega arith);
      used = λ j p q. s1.used j p (omega arith);
      counted = s1.counted;
      from = i;
      from_low = omega arith;
      from_high = omega arith;
      full = λ j p q.
          ⊎_elim
          (λ (g : j ≡ i). subst (λ (k : ℕ). product a s k / 2 ^ m ≢ 0) (sym g) nonzero)
          (λ (g : j ≢ i). s1.full j (omega arith) q)
          (cases_eq j i);
      rest = inl refl;
    })
    (λ (g : (j : ℕ) → j < s1.from → product a s j / 2 ^ m ≡ 0). absurd (nonzero (g i (omega arith))))
    s1.rest)
    (cases_lt i next)

-- column i is 0 there, and no other is left that is not
pub swapping_none_left : (a s : Matrix) (m next i k : ℕ) → IsSwapping a s m next (i + 1) → i < m → m ≤ a.n → column a i / 2 ^ m ≡ 0
    → i ≤ k → ((p : ℕ) → next ≤ p → p < k → column a p / 2 ^ m ≡ 0) → IsSwapping a s m next i
swapping_none_left a s m next i k s1 im mn none ik zeros =
    empty_below a s m next i s1 im
    (λ j l.
    ⊎_elim
    (λ (f : j < next). s1.used j f l)
    (λ (f : next ≤ j).
    ap (λ (c : ℕ). c / 2 ^ m) (unit_column a s j (omega arith) (s1.free j f l))
    ∙ ⊎_elim
    (λ (e : j ≡ i). ap (λ (c : ℕ). column a c / 2 ^ m) e ∙ none)
    (λ (e : j ≢ i). zeros j f (omega arith))
    (cases_eq j i))
    (cases_lt j next))

-- column i is 0 there and column k is not: they are exchanged
pub swapping_exchanged : (a s s2 : Matrix) (m next i k : ℕ) → IsSwapping a s m next (i + 1) → i < m → m ≤ a.n → column a i / 2 ^ m ≡ 0
    → next ≤ k → k < i → column a k / 2 ^ m ≢ 0 → ((p : ℕ) → next ≤ p → p < k → column a p / 2 ^ m ≡ 0)
    → s2.n ≡ s.n → column s2 i ≡ column s k → column s2 k ≡ column s i → ((j : ℕ) → j ≢ i → j ≢ k → column s2 j ≡ column s j)
    → IsSwapping a s2 m (k + 1) i
swapping_exchanged a s s2 m next i k s1 im mn none nk ki some zeros size2 first second others =
    let low : i + 1 ≤ s1.from = s1.from_low in
    let unit_i : column s i ≡ 2 ^ i = s1.free i (omega arith) (omega arith) in
    let unit_k : column s k ≡ 2 ^ k = s1.free k nk (omega arith) in
    let now_i : column s2 i ≡ 2 ^ k = first ∙ unit_k in
    let now_k : column s2 k ≡ 2 ^ i = second ∙ unit_i in
    let top_i : product a s2 i ≡ column a k = ap (image a) now_i ∙ xor_sum-pow (column a) a.n k (omega arith) in
    let top_k : product a s2 k ≡ column a i = ap (image a) now_k ∙ xor_sum-pow (column a) a.n i (omega arith) in
    let old : (j : ℕ) → j ≢ i → j ≢ k → product a s2 j ≡ product a s j = λ j p q. ap (image a) (others j p q) in
    let at_end : s1.from ≡ i + 1 = ⊎_elim
    (λ (e : s1.from ≡ i + 1). e)
    (λ (g : (j : ℕ) → j < s1.from → product a s j / 2 ^ m ≡ 0).
    absurd (some (ap (λ (c : ℕ). c / 2 ^ m) (sym (unit_column a s k (omega arith) unit_k)) ∙ g k (omega arith))))
    s1.rest in
    record {
      size = size2 ∙ s1.size;
      exchanged = λ j l.
          ⊎_elim
          (λ (e : j ≡ i). subst (λ (x : ℕ). IsExchanged s2 m x) (sym e)
          (record { with = k; below = omega arith; is = now_i; back = now_k }))
          (λ (e : j ≢ i).
          ⊎_elim
          (λ (f : j ≡ k). subst (λ (x : ℕ). IsExchanged s2 m x) (sym f) (record { with = i; below = im; is = now_k; back = now_i }))
          (λ (f : j ≢ k).
          let x = s1.exchanged j l in
          let not_i : x.with ≢ i = λ z. e (same_exponent j i (sym x.back ∙ ap (column s) z ∙ unit_i)) in
          let not_k : x.with ≢ k = λ z. f (same_exponent j k (sym x.back ∙ ap (column s) z ∙ unit_k)) in
          record { with = x.with; below = x.below; is = others j e f ∙ x.is; back = others x.with not_i not_k ∙ x.back })
          (cases_eq j k))
          (cases_eq j i);
      kept = λ j p q. let ni : j ≢ i = omega arith in let nk2 : j ≢ k = omega arith in others j ni nk2 ∙ s1.kept j p q;
      free = λ j p q. let ni : j ≢ i = omega arith in let nk2 : j ≢ k = omega arith in others j ni nk2
          ∙ s1.free j (omega arith) (omega arith);
      used = λ j p q.
          ⊎_elim
          (λ (e : j ≡ k). ap (λ (x : ℕ). product a s2 x / 2 ^ m) e ∙ ap (λ (c : ℕ). c / 2 ^ m) top_k ∙ none)
          (λ (e : j ≢ k).
          let ni : j ≢ i = omega arith in
          ap (λ (c : ℕ). c / 2 ^ m) (old j ni e)
          ∙ ⊎_elim
          (λ (f : j < next). s1.used j f (omega arith))
          (λ (f : next ≤ j). ap (λ (c : ℕ). c / 2 ^ m) (unit_column a s j (omega arith) (s1.free j f (omega arith)))
          ∙ zeros j f (omega arith))
          (cases_lt j next))
          (cases_eq j k);
      counted = count_exchanged (product a s2) (product a s) m k i m ki im (ap (image a) second) (ap (image a) first) (λ j p q. old j q p)
          ∙ s1.counted;
      from = i;
      from_low = omega arith;
      from_high = omega arith;
      full = λ j p q.
          ⊎_elim
          (λ (e : j ≡ i). λ z. some (ap (λ (c : ℕ). c / 2 ^ m) (sym top_i) ∙ ap (λ (x : ℕ). product a s2 x / 2 ^ m) (sym e) ∙ z))
          (λ (e : j ≢ i). λ z. let nk2 : j ≢ k = omega arith in s1.full j (omega arith) q
          (ap (λ (c : ℕ). c / 2 ^ m) (sym (old j e nk2)) ∙ z))
          (cases_eq j i);
      rest = inl refl;
    }

-- ---- the end

-- all of columns b..m-1 are done
pub swapping_all : (a s : Matrix) (b m next i : ℕ) → IsSwapping a s m next i → i ≡ b → b < m → IsSwapper a s b m
swapping_all a s b m next i w e bm =
    let v : ℕ → ℕ = product a s in
    let low : i ≤ w.from = w.from_low in
    let high : w.from ≤ m = w.from_high in
    record {
      size = w.size;
      exchanged = w.exchanged;
      kept = w.kept;
      same = w.counted;
      most =
          let d : ℕ = m - b in
          let parts : top_count v m m ≡ top_count v m b + top_count (λ k. v (b + k)) m d =
          ap (top_count v m) (let f : m ≡ b + d = omega arith in f) ∙ top_count-split v m b d in
          let all = w.counted in
          let few = top_count-le (λ k. v (b + k)) m d in
          ⊎_elim
          (λ (f : w.from ≡ i).
          let full = top_count-all (λ k. v (b + k)) m d (λ k l. w.full (b + k) (omega arith) (omega arith)) in omega arith)
          (λ (g : (j : ℕ) → j < w.from → v j / 2 ^ m ≡ 0).
          let none = top_count-none v m b (λ j l. g j (omega arith)) in omega arith)
          w.rest;
      last = λ p q bp pq qm some.
          ⊎_elim
          (λ (f : q < w.from).
          ⊎_elim
          (λ (g : w.from ≡ i). absurd (omega arith))
          (λ (g : (j : ℕ) → j < w.from → v j / 2 ^ m ≡ 0). absurd (some (g p (omega arith))))
          w.rest)
          (λ (f : w.from ≤ q). w.full q f qm)
          (cases_lt q w.from);
    }

-- an exchange is its own inverse
pub swapper_inverse : (a s : Matrix) (b m : ℕ) → IsSwapper a s b m → m ≤ a.n → IsOwnInverse s
swapper_inverse a s b m w mn =
    let size : s.n ≡ a.n = w.size in
    own_inverse s
    (λ j inside.
    ⊎_elim
    (λ (p : j < m). let x = w.exchanged j p in let l : x.with < s.n = (let q = x.below in omega arith) in
    ap (image s) x.is ∙ xor_sum-pow (column s) s.n x.with l ∙ x.back)
    (λ (p : m ≤ j). unit_back s j inside (w.kept j p (omega arith)))
    (cases_lt j m))
