-- Numbers with no low bits, and maps that keep runs.
use Rattle.std.proofs.Common.{◌≡◌, ◌≢◌, ℕ, ◌+◌, ◌-◌, ◌*◌, ◌%◌, ◌^◌, ◌<◌, ◌≤◌, ◌↔◌, ⊎_elim, min, w64, sym, ap, ◌∙◌, subst, arith}
use Rattle.std.specs.Int.{bit_at, trailing_zeros}
use Rattle.std.specs.Int.Count.{trailing_of_zero}
use Rattle.std.proofs.Math.Nat.{mod-lt, zero-mod, mul-mod_left}
use Rattle.std.proofs.lemmas.Nat.{pow_pos, pow-add}
use Rattle.std.proofs.lemmas.Nat.Bits.{bit_at-trailing_zeros, bit_at-zero, same_from_bits_below}
use Rattle.std.proofs.lemmas.Bool.{cases_lt, cases_eq}
use Rattle.bm_gf2.specs.declared.matrix.Matrix.{Matrix}
use Rattle.bm_gf2.specs.Matrix.{column}
use Rattle.bm_gf2.proofs.VectorLemmas.{bit_of_low}
use Rattle.bm_bufs.specs.Runs.{FitsRuns, KeepsRuns}

-- a number that 2 ^ k divides has no bit below k
no_low_bit : (v k i : ℕ) → v % 2 ^ k ≡ 0 → i < k → bit_at v i ≡ 0
no_low_bit v k i none below = sym (bit_of_low v k i below) ∙ ap (λ c. bit_at c i) none ∙ bit_at-zero i

-- and one with no such bit is divided
no_low_bits : (v k : ℕ) → ((i : ℕ) → i < k → bit_at v i ≡ 0) → v % 2 ^ k ≡ 0
no_low_bits v k none =
    same_from_bits_below k (v % 2 ^ k) 0 (mod-lt v (pow_pos k)) (pow_pos k)
    (λ i below. bit_of_low v k i below ∙ none i below ∙ sym (bit_at-zero i))

-- the zeros at the end of a number say which powers of two divide it
pub ends_clear : (v k : ℕ) → v < 2 ^ 64 → k ≤ 64 → (k ≤ trailing_zeros w64 v) ↔ (v % 2 ^ k ≡ 0)
ends_clear v k fits few =
    ⊎_elim
    (λ (p : v ≡ 0). (
      λ _. ap (λ c. c % 2 ^ k) p ∙ zero-mod (2 ^ k),
      λ _. subst (λ c. k ≤ trailing_zeros w64 c) (sym p) (subst (λ c. k ≤ c) (sym (trailing_of_zero 64)) few),
    ))
    (λ (p : v ≢ 0).
    let zeros = bit_at-trailing_zeros w64 v (omega arith) fits in (
      λ l. no_low_bits v k (λ i below. zeros.2 i (omega arith)),
      λ none. ⊎_elim
          (λ (q : trailing_zeros w64 v < k).
          let one = zeros.1 in
          let other = no_low_bit v k (trailing_zeros w64 v) none q in
          absurd (omega arith))
          (λ (q : k ≤ trailing_zeros w64 v). q)
          (cases_lt (trailing_zeros w64 v) k),
    ))
    (cases_eq v 0)

-- a unit fits runs of any size
pub unit_fits : (v j k : ℕ) → v ≡ 2 ^ j → FitsRuns v j k
unit_fits v j k is = record {
  unit = λ _. is;
  clear = λ l.
      let e : 2 ^ j ≡ 2 ^ (j - k) * 2 ^ k = ap (λ c. 2 ^ c) (let s : j ≡ j - k + k = omega arith in s) ∙ pow-add 2 (j - k) k in
      ap (λ c. c % 2 ^ k) (is ∙ e) ∙ mul-mod_left (2 ^ (j - k)) (2 ^ k);
}

-- another column fits those of at most j bits that divide it
pub other_fits : (v j k most : ℕ) → v ≢ 2 ^ j → k ≤ 52 → ((i : ℕ) → i ≤ 64 → (i ≤ most) ↔ (v % 2 ^ i ≡ 0))
    → (k ≤ min most j) ↔ FitsRuns v j k
other_fits v j k most other few divides = (
  λ l. record {
    unit = λ below. absurd (omega arith);
    clear = λ _. (divides k (omega arith)).0 (omega arith);
  },
  λ fits. ⊎_elim
      (λ (p : j < k). absurd (other (fits.unit p)))
      (λ (p : k ≤ j). let l : k ≤ most = (divides k (omega arith)).1 (fits.clear p) in omega arith)
      (cases_lt j k),
)

-- runs of 2 ^ low records are kept by the constant and by the first columns
pub record KeepsFirst (a : Matrix) (plus first low : ℕ) : Type 0 where
  pub inside : low < a.n
  pub constant : plus % 2 ^ low ≡ 0
  pub columns : (i : ℕ) → i < first → FitsRuns (column a i) i low

-- by no column yet
pub first_none : (a : Matrix) (plus most k : ℕ) → ((i : ℕ) → i ≤ 64 → (i ≤ most) ↔ (plus % 2 ^ i ≡ 0))
    → (k ≤ min most (a.n - 1)) ↔ KeepsFirst a plus 0 k
first_none a plus most k divides =
    let some = a.some in
    let few = a.few in (
      λ l. record {
        inside = omega arith;
        constant = (divides k (omega arith)).0 (omega arith);
        columns = λ i none. absurd (omega arith);
      },
      λ keeps.
          let inside = keeps.inside in
          let l : k ≤ most = (divides k (omega arith)).1 keeps.constant in
          omega arith,
    )

-- by one column more
pub first_more : (a : Matrix) (plus j most bits k : ℕ) → j < a.n → ((i : ℕ) → (i ≤ most) ↔ KeepsFirst a plus j i)
    → ((i : ℕ) → i ≤ 52 → (i ≤ bits) ↔ FitsRuns (column a j) j i) → (k ≤ min most bits) ↔ KeepsFirst a plus (j + 1) k
first_more a plus j most bits k below before here =
    let few = a.few in (
      λ l.
          let keeps = (before k).0 (omega arith) in
          let inside = keeps.inside in
          record {
            inside = keeps.inside;
            constant = keeps.constant;
            columns = λ i h. ⊎_elim
                (λ (p : i ≡ j). subst (λ c. FitsRuns (column a c) c k) (sym p) ((here k (omega arith)).0 (omega arith)))
                (λ (p : i ≢ j). keeps.columns i (omega arith))
                (cases_eq i j);
          },
      λ keeps.
          let inside = keeps.inside in
          let m : k ≤ most = (before k).1 (record {
            inside = keeps.inside;
            constant = keeps.constant;
            columns = λ i h. keeps.columns i (omega arith);
          }) in
          let b : k ≤ bits = (here k (omega arith)).1 (keeps.columns j (omega arith)) in
          omega arith,
    )

-- by all of them
pub first_all : (a : Matrix) (plus k : ℕ) → KeepsFirst a plus a.n k ↔ KeepsRuns a plus k
first_all a plus k = (
  λ keeps. let inside = keeps.inside in record {
    inside = keeps.inside;
    units = λ j l. (keeps.columns j (omega arith)).unit l;
    others = λ j l h. (keeps.columns j h).clear l;
    constant = keeps.constant;
  },
  λ keeps. record {
    inside = keeps.inside;
    constant = keeps.constant;
    columns = λ i h. record { unit = λ l. keeps.units i l; clear = λ l. keeps.others i l h };
  },
)
