-- The places of numbers.
use Rattle.std.proofs.Common.{◌≡◌, ◌≢◌, ℕ, zero, suc, ◌⊎◌, inl, inr, ⊎_elim, ◌+◌, ◌-◌, ◌*◌, ◌%◌, ◌^◌, ◌<◌, bit_xor, List, sym, ap, ◌∙◌}
use Rattle.std.proofs.Common.{subst, arith}
use Rattle.std.specs.Int.{bit_at}
use Rattle.std.specs.Int.Bits.{xor_assoc}
use Rattle.std.proofs.lemmas.Nat.{xor_lt, pow_pos}
use Rattle.bm_gf2.specs.declared.matrix.Matrix.{Matrix}
use Rattle.bm_gf2.specs.declared.affine.Affine.{Affine}
use Rattle.bm_gf2.specs.Affine.{affine_image}
use Rattle.bm_gf2.specs.Matrix.{column, image, IsNonsingular}
use Rattle.bm_base.proofs.ButterflyLemmas.{set_below, without_bit}
use Rattle.std.proofs.lemmas.Nat.Bits.{bit_at-lt, bit_at_xor, bit_at_above}
use Rattle.std.proofs.lemmas.Bool.{cases_eq}
use Rattle.bm_gf2.specs.Vector.{xor_sum}
use Rattle.bm_butter.specs.Pairs.{IsPaired}
use Rattle.bm_butter.specs.LoneBit.{IsLoneBit}
use Rattle.bm_gf2.proofs.MapLemmas.{images_apart}
use Rattle.bm_gf2.proofs.VectorLemmas.{bit_cases, xor_cancel_right, xor_sum-xor, xor_sum-pow, xor_sum-lt}
use Rattle.bm_butter.specs.Records.{record_in_order, record_at_place}
use Rattle.bm_butter.proofs.OnBitLemmas.{flip}
use Rattle.bm_butter.proofs.PairedLemmas.{set_by_xor}
use Rattle.bm_butter.proofs.PairLemmas.{PairsBelow, PairsBelow-pair}

-- the place of a number
abbrev pub place : Matrix → ℕ → ℕ → ℕ
place a plus x = bit_xor plus (image a x)

-- a place lies in the list
pub place_below : (a : Matrix) (plus x : ℕ) → plus < 2 ^ a.n → place a plus x < 2 ^ a.n
place_below a plus x short = xor_lt a.n plus (image a x) short (xor_sum-lt (column a) a.n a.n x a.below)

-- the place of the number with a bit turned
pub place_turned : (a : Matrix) (plus i x : ℕ) → i < a.n → bit_xor (place a plus x) (column a i) ≡ place a plus (flip x i)
place_turned a plus i x inside =
    xor_assoc plus (image a x) (column a i)
    ∙ ap (bit_xor plus) (ap (bit_xor (image a x)) (sym (xor_sum-pow (column a) a.n i inside))
    ∙ sym (xor_sum-xor (column a) a.n x (2 ^ i)))

-- the place of the number with the bit
pub place_with_bit : (a : Matrix) (plus i x : ℕ) → i < a.n → bit_at x i ≡ 0
    → bit_xor (place a plus x) (column a i) ≡ place a plus (x + 2 ^ i)
place_with_bit a plus i x inside clear = place_turned a plus i x inside ∙ ap (place a plus) (sym (set_by_xor i x clear))

-- the places p and q of the pair of x
pub record HoldPair (a : Matrix) (plus i x p q : ℕ) : Type 0 where
  pub first : p ≡ place a plus x
  pub second : q ≡ place a plus (x + 2 ^ i)
  pub apart : p ≢ q
  pub first_below : p < 2 ^ a.n
  pub second_below : q < 2 ^ a.n

-- the second place is the XOR of the first with column i
pub HoldPair-by_column : (a : Matrix) (plus i x p col : ℕ) → IsNonsingular a → plus < 2 ^ a.n → i < a.n → x < 2 ^ a.n → bit_at x i ≡ 0
    → p ≡ place a plus x → col ≡ column a i → HoldPair a plus i x p (bit_xor p col)
HoldPair-by_column a plus i x p col nonsingular short bit inside clear here is_column =
    let second : bit_xor p col ≡ place a plus (x + 2 ^ i) = ap (bit_xor p) is_column ∙ ap (λ c. bit_xor c (column a i)) here
    ∙ place_with_bit a plus i x bit clear in
    let some : 0 < 2 ^ i = pow_pos i in
    record {
      first = here;
      second = second;
      apart = λ e. images_apart a plus x (x + 2 ^ i) nonsingular inside (set_below x i a.n inside bit clear) (λ s. absurd (omega arith))
          (sym here ∙ e ∙ second);
      first_below = subst (λ c. c < 2 ^ a.n) (sym here) (place_below a plus x short);
      second_below = subst (λ c. c < 2 ^ a.n) (sym second) (place_below a plus (x + 2 ^ i) short);
    }

-- one pair more, made at its places
pub PairsBelow-places : (f : ℕ → ℕ → ℕ × ℕ) (a : Matrix) (plus i x p q : ℕ) (old now new : List ℕ) → IsNonsingular a → i < a.n
    → x < 2 ^ a.n → bit_at x i ≡ 0
    → HoldPair a plus i x p q
    → PairsBelow f a.n i x (record_at_place a plus old) (record_at_place a plus now)
    → IsPaired f now new p q
    → ((k : ℕ) → k ≢ p → k ≢ q → record_in_order new k ≡ record_in_order now k)
    → PairsBelow f a.n i (x + 1) (record_at_place a plus old) (record_at_place a plus new)
PairsBelow-places f a plus i x p q old now new nonsingular bit inside clear hold before paired others =
    let pair : IsPaired f now new (place a plus x) (place a plus (x + 2 ^ i)) =
    subst (λ c. IsPaired f now new c (place a plus (x + 2 ^ i))) hold.first
    (subst (λ c. IsPaired f now new p c) hold.second paired) in
    PairsBelow-pair f a.n i x (record_at_place a plus old) (record_at_place a plus now) (record_at_place a plus new) inside bit clear before
    pair.first pair.second
    (λ z below not_x not_set. others (place a plus z)
    (λ e. images_apart a plus z x nonsingular below inside not_x (e ∙ hold.first))
    (λ e. images_apart a plus z (x + 2 ^ i) nonsingular below (set_below x i a.n inside bit clear) not_set (e ∙ hold.second)))

-- the image that a stepper shows
pub stepped_place : (a : Matrix) (plus : ℕ) (map : Affine) (position x here : ℕ) → map.a ≡ a → map.c ≡ plus → position ≡ x
    → here ≡ affine_image map position → here ≡ place a plus x
stepped_place a plus map position x here matrix constant number shown =
    shown ∙ ap (λ m. bit_xor map.c (image m position)) matrix ∙ ap (λ c. bit_xor c (image a position)) constant ∙ ap (place a plus) number

-- where no column that x picks has row h, the sum has not
pub xor_sum-clear : (w : ℕ → ℕ) (k h x : ℕ) → ((j : ℕ) → j < k → (bit_at (w j) h ≡ 0) ⊎ (bit_at x j ≡ 0)) → bit_at (xor_sum w k x) h ≡ 0
unfolding xor_sum
xor_sum-clear w zero h x none = bit_at_above 0 0 h (omega arith) (omega arith)
xor_sum-clear w (suc m) h x none =
    let before : bit_at (xor_sum w m x) h ≡ 0 = xor_sum-clear w m h x (λ j below. none j (omega arith)) in
    let nothing : bit_at 0 h ≡ 0 = bit_at_above 0 0 h (omega arith) (omega arith) in
    let last : bit_at (bit_at x m * w m) h ≡ 0 = ⊎_elim
    (λ (p : (bit_at x m ≡ 0) × (bit_at x m * w m ≡ 0)). ap (λ c. bit_at c h) p.1 ∙ nothing)
    (λ (p : (bit_at x m ≡ 1) × (bit_at x m * w m ≡ w m)). ap (λ c. bit_at c h) p.1
    ∙ ⊎_elim (λ (q : bit_at (w m) h ≡ 0). q) (λ (q : bit_at x m ≡ 0). absurd (omega (arith, p.0, q))) (none m (omega arith)))
    (bit_cases (bit_at x m) (w m) (bit_at-lt x m)) in
    bit_at_xor (xor_sum w m x) (bit_at x m * w m) h ∙ ap (λ c. (c + bit_at (bit_at x m * w m) h) % 2) before ∙ ap (λ c. (0 + c) % 2) last

-- a lone bit of the place of a number without the bit is that of the constant
pub lone_place : (a : Matrix) (plus i h y : ℕ) → IsLoneBit a i h → bit_at y i ≡ 0 → bit_at (place a plus y) h ≡ bit_at plus h
lone_place a plus i h y lone clear =
    let none : bit_at (image a y) h ≡ 0 = xor_sum-clear (column a) a.n h y
    (λ j below. ⊎_elim (λ (p : j ≡ i). inr (ap (bit_at y) p ∙ clear)) (λ (p : j ≢ i). inl (lone.others j below p)) (cases_eq j i)) in
    let bit : bit_at plus h < 2 = bit_at-lt plus h in
    bit_at_xor plus (image a y) h ∙ ap (λ c. (bit_at plus h + c) % 2) none
    ∙ (let e : (bit_at plus h + 0) % 2 ≡ bit_at plus h = omega arith in e)

-- the pair of a number, where its bit is one bit of the places
pub IsPaired-lone : (f : ℕ → ℕ → ℕ × ℕ) (a : Matrix) (plus i h y at_u at_v : ℕ) (old new : List ℕ) → plus < 2 ^ a.n → i < a.n → y < 2 ^ a.n
    → bit_at y i ≡ 0
    → IsLoneBit a i h
    → (bit_at plus h ≡ 0 → (at_u ≡ 0) × (at_v ≡ 2 ^ h)) → (bit_at plus h ≡ 1 → (at_u ≡ 2 ^ h) × (at_v ≡ 0))
    → ((x : ℕ) → x < 2 ^ a.n → bit_at x h ≡ 0 → IsPaired f old new (x + at_u) (x + at_v))
    → IsPaired f old new (place a plus y) (place a plus (y + 2 ^ i))
IsPaired-lone f a plus i h y at_u at_v old new short bit inside clear lone upright turned paired =
    let p = place a plus y in
    let low : p < 2 ^ a.n = place_below a plus y short in
    let same : bit_at p h ≡ bit_at plus h = lone_place a plus i h y lone clear in
    let second : bit_xor p (2 ^ h) ≡ place a plus (y + 2 ^ i) = ap (bit_xor p) (sym lone.unit) ∙ place_with_bit a plus i y bit clear in
    let range : bit_at plus h < 2 = bit_at-lt plus h in
    subst (λ c. IsPaired f old new p c) second
    (⊎_elim
    (λ (z : bit_at plus h ≡ 0).
    let halves = upright z in
    let q : p + at_v ≡ bit_xor p (2 ^ h) = (let e : p + at_v ≡ p + 2 ^ h = omega (arith, halves.1) in e)
    ∙ set_by_xor h p (same ∙ z) in
    let s : p + at_u ≡ p = omega (arith, halves.0) in
    subst (λ c. IsPaired f old new p c) q (subst (λ c. IsPaired f old new c (p + at_v)) s (paired p low (same ∙ z))))
    (λ (z : bit_at plus h ≢ 0).
    let one : bit_at plus h ≡ 1 = omega arith in
    let halves = turned one in
    let base = without_bit p h (same ∙ one) in
    let x = p - 2 ^ h in
    let back : x + 2 ^ h ≡ p = omega (arith, base.0) in
    let s : x + at_u ≡ p = omega (arith, halves.0) in
    let q : x + at_v ≡ bit_xor p (2 ^ h) = (let e : x + at_v ≡ x = omega (arith, halves.1) in e)
    ∙ sym (ap (λ c. bit_xor c (2 ^ h)) (sym back ∙ set_by_xor h x base.1) ∙ xor_cancel_right x (2 ^ h)) in
    subst (λ c. IsPaired f old new p c) q (subst (λ c. IsPaired f old new c (x + at_v)) s (paired x (omega arith) base.1)))
    (cases_eq (bit_at plus h) 0))
