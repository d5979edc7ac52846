-- Groups of four numbers, whose bits i and j, i < j, go through all digits, at the places of an affine map.
use Rattle.std.proofs.Common.{◌≡◌, ◌≢◌, ℕ, ◌+◌, ◌-◌, ◌*◌, ◌/◌, ◌%◌, ◌^◌, ◌<◌, ◌≤◌, bit_xor, List, sym, ap, ◌∙◌, subst, arith, ⊎_elim}
use Rattle.std.specs.Int.{bit_at}
use Rattle.std.proofs.lemmas.Bool.{cases_eq}
use Rattle.std.proofs.lemmas.Nat.{pow-add}
use Rattle.bm_base.specs.Records.{SameRecords}
use Rattle.bm_gf2.specs.declared.matrix.Matrix.{Matrix}
use Rattle.bm_gf2.specs.Matrix.{column, IsNonsingular}
use Rattle.bm_gf2.proofs.MapLemmas.{images_apart}
use Rattle.bm_butter.specs.Records.{record_at_place}
use Rattle.bm_butter.specs.OnBits.{kernel_on, kernel_digits}
use Rattle.bm_butter.specs.Groups.{pick, AreApart, AreTold, GroupsDone, spread, spread_two}
use Rattle.bm_butter.proofs.OnBitLemmas.{flip, flip_other}
use Rattle.bm_butter.proofs.KernelLemmas.{four, four_first, four_second}
use Rattle.bm_butter.proofs.PairedLemmas.{set_by_xor}
use Rattle.bm_butter.proofs.PlaceLemmas.{place, place_below, place_turned}
use Rattle.bm_butter.proofs.FourLemmas.{by_four}
use Rattle.bm_butter.proofs.SpreadLemmas.{squeeze_two, squeeze_two-told, squeeze_two-lt, spread_two-squeeze, spread_two-lt, spread-lt}
use Rattle.bm_butter.proofs.SpreadLemmas.{spread_bit}
use Rattle.bm_butter.proofs.WithoutLemmas.{spread_low}
use Rattle.bm_butter.proofs.GroupLemmas.{SameRecords-groups}

-- number t of group w
abbrev pub number : ℕ → ℕ → ℕ → ℕ → ℕ
number i j w t = four i j (spread_two i j w) t

-- its place
abbrev pub number_place : Matrix → ℕ → ℕ → ℕ → ℕ → ℕ → ℕ
number_place a plus i j w t = place a plus (number i j w t)

-- the bits of the first number of a group are clear
number_clear : (i j w : ℕ) → i < j → bit_at (spread_two i j w) i ≡ 0
number_clear i j w order = sym (spread_low j (spread i w) i order) ∙ spread_bit i w

number_clear_above : (i j w : ℕ) → bit_at (spread_two i j w) j ≡ 0
number_clear_above i j w = spread_bit j (spread i w)

-- the digits of one of four
number_digits : (i j w t : ℕ) → i < j → t < 4 → number i j w t ≡ spread_two i j w + (t % 2 * 2 ^ i + t / 2 * 2 ^ j)
unfolding pick
number_digits i j w t order below =
    let y = spread_two i j w in
    let clear = number_clear i j w order in
    let clear_above = number_clear_above i j w in
    let inner : y + 2 ^ i ≡ flip y i = set_by_xor i y clear in
    let outer : y + 2 ^ j ≡ flip y j = set_by_xor j y clear_above in
    let both : flip y i + 2 ^ j ≡ flip (flip y i) j = set_by_xor j (flip y i)
    (flip_other y i j (λ e. absurd (omega arith)) ∙ clear_above) in
    by_four (λ s. number i j w s ≡ y + (s % 2 * 2 ^ i + s / 2 * 2 ^ j))
    (let e : y ≡ y + (0 * 2 ^ i + 0 * 2 ^ j) = omega arith in e)
    (sym inner ∙ (let e : y + 2 ^ i ≡ y + (1 * 2 ^ i + 0 * 2 ^ j) = omega arith in e))
    (sym outer ∙ (let e : y + 2 ^ j ≡ y + (0 * 2 ^ i + 1 * 2 ^ j) = omega arith in e))
    (sym both ∙ ap (λ (c : ℕ). c + 2 ^ j) (sym inner) ∙ (let e : y + 2 ^ i + 2 ^ j ≡ y + (1 * 2 ^ i + 1 * 2 ^ j) = omega arith in e))
    t below

-- the group of a number
pub number_group : (i j w t : ℕ) → i < j → t < 4 → squeeze_two i j (number i j w t) ≡ w
number_group i j w t order below = ap (squeeze_two i j) (number_digits i j w t order below)
    ∙ squeeze_two-told i j (t % 2) (t / 2) w order (omega arith) (omega arith)

-- how many blocks of the higher bit there are, and how many groups
pub corner_blocks : (n high : ℕ) → high < n → 1 ≤ high
    → (2 ^ (n - 1 - high) * 2 ^ (high + 1) ≡ 2 ^ n) × (2 ^ (n - 1 - high) * 2 ^ (high - 1) ≡ 2 ^ (n - 2))
corner_blocks n high inside some = (
  sym (pow-add 2 (n - 1 - high) (high + 1)) ∙ ap (λ c. 2 ^ c) (let e : n - 1 - high + (high + 1) ≡ n = omega arith in e),
  sym (pow-add 2 (n - 1 - high) (high - 1)) ∙ ap (λ c. 2 ^ c) (let e : n - 1 - high + (high - 1) ≡ n - 2 = omega arith in e),
)

-- the numbers of n bits
pub number_below : (n i j w t : ℕ) → i < j → j < n → w < 2 ^ (n - 2) → t < 4 → number i j w t < 2 ^ n
number_below n i j w t order inside short below =
    let blocks = corner_blocks n j inside (omega arith) in
    subst (λ c. c < 2 ^ n) (sym (number_digits i j w t order below))
    (subst (λ c. spread_two i j w + (t % 2 * 2 ^ i + t / 2 * 2 ^ j) < c) blocks.0
    (spread_two-lt i j (t % 2) (t / 2) w (2 ^ (n - 1 - j)) order (omega arith) (omega arith)
    (subst (λ c. w < c) (sym blocks.1) short)))

-- the same place, the same number
pub same_number : (a : Matrix) (plus x y : ℕ) → IsNonsingular a → x < 2 ^ a.n → y < 2 ^ a.n → place a plus x ≡ place a plus y → x ≡ y
same_number a plus x y nonsingular short_x short_y same =
    ⊎_elim (λ (p : x ≡ y). p) (λ (p : x ≢ y). absurd (images_apart a plus x y nonsingular short_x short_y p same)) (cases_eq x y)

-- different groups have no place in common
pub numbers_told : (a : Matrix) (plus i j : ℕ) → IsNonsingular a → i < j → j < a.n → AreTold (2 ^ (a.n - 2)) (number_place a plus i j)
numbers_told a plus i j nonsingular order inside v w s t inside_v inside_w below_s below_t same =
    sym (number_group i j v s order below_s)
    ∙ ap (squeeze_two i j) (same_number a plus (number i j v s) (number i j w t) nonsingular
    (number_below a.n i j v s order inside inside_v below_s) (number_below a.n i j w t order inside inside_w below_t) same)
    ∙ number_group i j w t order below_t

-- the places of a group are different
pub numbers_apart : (a : Matrix) (plus i j w s t : ℕ) → IsNonsingular a → i < j → j < a.n → w < 2 ^ (a.n - 2) → s < 4 → t < 4 → s ≢ t
    → number_place a plus i j w s ≢ number_place a plus i j w t
numbers_apart a plus i j w s t nonsingular order inside short below_s below_t differ same =
    let y = spread_two i j w in
    let numbers : number i j w s ≡ number i j w t = same_number a plus (number i j w s) (number i j w t) nonsingular
    (number_below a.n i j w s order inside short below_s) (number_below a.n i j w t order inside short below_t) same in
    let apart : i ≢ j = λ e. absurd (omega arith) in
    let low : s / 1 % 2 ≡ t / 1 % 2 = sym (four_first i j y apart (number_clear i j w order) s below_s) ∙ ap (λ c. bit_at c i) numbers
    ∙ four_first i j y apart (number_clear i j w order) t below_t in
    let high : s / 2 % 2 ≡ t / 2 % 2 = sym (four_second i j y apart (number_clear_above i j w) s below_s) ∙ ap (λ c. bit_at c j) numbers
    ∙ four_second i j y apart (number_clear_above i j w) t below_t in
    differ (omega arith)

-- four places that are those of a group are apart
pub AreApart-places : (p q r s : ℕ) (place : ℕ → ℕ) → ((t : ℕ) → t < 4 → pick p q r s t ≡ place t)
    → ((u t : ℕ) → u < 4 → t < 4 → u ≢ t → place u ≢ place t) → AreApart p q r s
unfolding pick
AreApart-places p q r s place same apart = record {
  p_q = λ e. apart 0 1 (omega arith) (omega arith) (omega arith) (sym (same 0 (omega arith)) ∙ e ∙ same 1 (omega arith));
  p_r = λ e. apart 0 2 (omega arith) (omega arith) (omega arith) (sym (same 0 (omega arith)) ∙ e ∙ same 2 (omega arith));
  p_s = λ e. apart 0 3 (omega arith) (omega arith) (omega arith) (sym (same 0 (omega arith)) ∙ e ∙ same 3 (omega arith));
  q_r = λ e. apart 1 2 (omega arith) (omega arith) (omega arith) (sym (same 1 (omega arith)) ∙ e ∙ same 2 (omega arith));
  q_s = λ e. apart 1 3 (omega arith) (omega arith) (omega arith) (sym (same 1 (omega arith)) ∙ e ∙ same 3 (omega arith));
  r_s = λ e. apart 2 3 (omega arith) (omega arith) (omega arith) (sym (same 2 (omega arith)) ∙ e ∙ same 3 (omega arith));
}

-- the places that the columns give, of the four numbers of y
pub four_places : (a : Matrix) (plus i j y p c d : ℕ) → i < a.n → j < a.n → p ≡ place a plus y → c ≡ column a i → d ≡ column a j
    → (t : ℕ) → t < 4 → pick p (bit_xor p c) (bit_xor p d) (bit_xor (bit_xor p c) d) t ≡ place a plus (four i j y t)
unfolding pick
four_places a plus i j y p c d inside_i inside_j here is_c is_d =
    let first : bit_xor p c ≡ place a plus (flip y i) = ap (bit_xor p) is_c ∙ ap (λ k. bit_xor k (column a i)) here
    ∙ place_turned a plus i y inside_i in
    by_four (λ t. pick p (bit_xor p c) (bit_xor p d) (bit_xor (bit_xor p c) d) t ≡ place a plus (four i j y t))
    here first
    (ap (bit_xor p) is_d ∙ ap (λ k. bit_xor k (column a j)) here ∙ place_turned a plus j y inside_j)
    (ap (bit_xor (bit_xor p c)) is_d ∙ ap (λ k. bit_xor k (column a j)) first ∙ place_turned a plus j (flip y i) inside_j)

-- a number without both bits is the first of its group
pub first_of_group : (i j y : ℕ) → i < j → bit_at y i ≡ 0 → bit_at y j ≡ 0 → spread_two i j (squeeze_two i j y) ≡ y
first_of_group i j y order clear clear_above =
    let whole = spread_two-squeeze i j y order in
    let none : bit_at y i * 2 ^ i ≡ 0 = ap (λ c. c * 2 ^ i) clear ∙ (let e : 0 * 2 ^ i ≡ 0 = omega arith in e) in
    let none_above : bit_at y j * 2 ^ j ≡ 0 = ap (λ c. c * 2 ^ j) clear_above ∙ (let e : 0 * 2 ^ j ≡ 0 = omega arith in e) in
    omega (arith, whole)

-- its group, of 2 ^ n numbers
pub group_below : (n i j y : ℕ) → i < j → j < n → y < 2 ^ n → squeeze_two i j y < 2 ^ (n - 2)
group_below n i j y order inside short =
    let blocks = corner_blocks n j inside (omega arith) in
    subst (λ c. squeeze_two i j y < c) blocks.1
    (squeeze_two-lt i j y (2 ^ (n - 1 - j)) order (subst (λ c. y < c) (sym blocks.0) short))

-- all groups
pub SameRecords-numbers : (f : ℕ → ℕ → ℕ × ℕ) (a : Matrix) (plus i j : ℕ) (old new : List ℕ) → i < j → j < a.n
    → GroupsDone f (number_place a plus i j) 0 (2 ^ (a.n - 2)) old new
    → SameRecords (2 ^ a.n) (record_at_place a plus new) (kernel_on f j (kernel_on f i (record_at_place a plus old)))
SameRecords-numbers f a plus i j old new order inside made =
    SameRecords-groups f i j (2 ^ a.n) (record_at_place a plus old) (record_at_place a plus new) (λ e. absurd (omega arith))
    (λ y short clear clear_above t below.
    subst (λ x. record_at_place a plus new (four i j x t) ≡ kernel_digits f 2 (λ s. record_at_place a plus old (four i j x s)) t)
    (first_of_group i j y order clear clear_above)
    (made.done (squeeze_two i j y) (omega arith) (group_below a.n i j y order inside short) t below))

-- p, q, r and s are the places of group w
pub record HoldFour (a : Matrix) (plus i j w p q r s : ℕ) : Type 0 where
  pub places : (t : ℕ) → t < 4 → pick p q r s t ≡ number_place a plus i j w t
  pub apart : AreApart p q r s
  pub below_q : q < 2 ^ a.n
  pub below_r : r < 2 ^ a.n
  pub below_s : s < 2 ^ a.n

-- the places that the columns give
pub HoldFour-by_columns : (a : Matrix) (plus i j w p c d : ℕ) → IsNonsingular a → plus < 2 ^ a.n → i < j → j < a.n → w < 2 ^ (a.n - 2)
    → p ≡ place a plus (spread_two i j w) → c ≡ column a i → d ≡ column a j
    → HoldFour a plus i j w p (bit_xor p c) (bit_xor p d) (bit_xor (bit_xor p c) d)
unfolding pick
HoldFour-by_columns a plus i j w p c d nonsingular short order inside below here is_c is_d =
    let places = four_places a plus i j (spread_two i j w) p c d (omega arith) inside here is_c is_d in
    record {
      places = places;
      apart = AreApart-places p (bit_xor p c) (bit_xor p d) (bit_xor (bit_xor p c) d) (number_place a plus i j w) places
          (λ s t below_s below_t differ. numbers_apart a plus i j w s t nonsingular order inside below below_s below_t differ);
      below_q = subst (λ k. k < 2 ^ a.n) (sym (places 1 (omega arith))) (place_below a plus (number i j w 1) short);
      below_r = subst (λ k. k < 2 ^ a.n) (sym (places 2 (omega arith))) (place_below a plus (number i j w 2) short);
      below_s = subst (λ k. k < 2 ^ a.n) (sym (places 3 (omega arith))) (place_below a plus (number i j w 3) short);
    }

-- a group with one clear bit put in
pub spread_short : (n i w : ℕ) → i + 1 < n → w < 2 ^ (n - 2) → spread i w < 2 ^ (n - 1)
spread_short n i w inside short =
    let less : 2 ^ (n - 2) ≡ 2 ^ (n - 2 - i) * 2 ^ i = ap (λ k. 2 ^ k) (let e : n - 2 ≡ n - 2 - i + i = omega arith in e)
    ∙ pow-add 2 (n - 2 - i) i in
    let more : 2 ^ (n - 2 - i) * 2 ^ (i + 1) ≡ 2 ^ (n - 1) = sym (pow-add 2 (n - 2 - i) (i + 1))
    ∙ ap (λ k. 2 ^ k) (let e : n - 2 - i + (i + 1) ≡ n - 1 = omega arith in e) in
    let inside_all : spread i w + 0 * 2 ^ i < 2 ^ (n - 1) = subst (λ k. spread i w + 0 * 2 ^ i < k) more
    (spread-lt i 0 w (2 ^ (n - 2 - i)) (omega arith) (subst (λ k. w < k) less short)) in
    omega arith
