-- The places of groups whose bits are bits of the places.
use Rattle.std.proofs.Common.{◌≡◌, ◌≢◌, ℕ, zero, suc, refl, ◌+◌, ◌-◌, ◌*◌, ◌/◌, ◌%◌, ◌^◌, ◌<◌, ◌≤◌, ◌⊎◌, inl, inr, min, max, List, sym, ap}
use Rattle.std.proofs.Common.{◌∙◌, subst, arith, ⊎_elim}
use Rattle.std.proofs.lemmas.Bool.{cases_eq, cases_lt}
use Rattle.std.proofs.lemmas.Nat.{pow_pos, pow-add, div-mul-add}
use Rattle.std.proofs.lemmas.Nat.Bits.{bit_at-lt, bit_at_cat_low, bit_at_cat_high, bit_at_lowest}
use Rattle.std.proofs.Math.Nat.{add-mul, div-div-eq-div-mul, div-mul-le_self, mod-eq_of_lt, mul-le-mul_left, mul-le-mul_right}
use Rattle.std.proofs.Math.Pow.{pow_mono}
use Rattle.std.specs.Int.{bit_at}
use Rattle.bm_butter.specs.Pairs.{AreHalves}
use Rattle.bm_butter.specs.Groups.{pick, AreTold, AreCorners, IsCorner, GroupsDone, spread, spread_two, corner_place, run_place}
use Rattle.bm_butter.proofs.SpreadLemmas.{squeeze_two, squeeze_two-told, spread_two-lt, split_blocks, join_blocks}
use Rattle.bm_butter.proofs.SpreadLemmas.{twice_as_many}
use Rattle.bm_butter.proofs.FourLemmas.{by_four}
use Rattle.bm_base.proofs.PowerLemmas.{two_halves, same_exponent}

-- the group of a place is told
pub corner_group : (low high p q r s w t : ℕ) → low < high → AreCorners low high p q r s → t < 4
    → squeeze_two low high (corner_place low high p q r s w t) ≡ w
corner_group low high p q r s w t order corners below =
    let corner = pick p q r s t in
    ap (λ c. squeeze_two low high (spread_two low high w + c)) (corners.corners t below)
    ∙ squeeze_two-told low high (bit_at corner low) (bit_at corner high) w order (bit_at-lt corner low) (bit_at-lt corner high)

-- different groups have no place in common
pub corners_told : (total low high p q r s : ℕ) → low < high → AreCorners low high p q r s → AreTold total (corner_place low high p q r s)
corners_told total low high p q r s order corners v w k t inside_v inside_w below_k below_t same =
    sym (corner_group low high p q r s v k order corners below_k) ∙ ap (squeeze_two low high) same
    ∙ corner_group low high p q r s w t order corners below_t

-- the places of so many blocks
pub corner_inside : (low high p q r s w t m : ℕ) → low < high → AreCorners low high p q r s → t < 4 → w < m * 2 ^ (high - 1)
    → corner_place low high p q r s w t < m * 2 ^ (high + 1)
corner_inside low high p q r s w t m order corners below inside =
    let corner = pick p q r s t in
    subst (λ c. spread_two low high w + c < m * 2 ^ (high + 1)) (sym (corners.corners t below))
    (spread_two-lt low high (bit_at corner low) (bit_at corner high) w m order (bit_at-lt corner low) (bit_at-lt corner high) inside)

-- blocks of a lower power of two in those of a higher one
high_blocks : (low high x : ℕ) → low < high → x / 2 ^ high ≡ x / 2 ^ (low + 1) / 2 ^ (high - low - 1)
high_blocks low high x order =
    ap (λ c. x / c) (ap (λ k. 2 ^ k) (let e : high ≡ low + 1 + (high - low - 1) = omega arith in e) ∙ pow-add 2 (low + 1) (high - low - 1))
    ∙ sym (div-div-eq-div-mul x (2 ^ (low + 1)) (2 ^ (high - low - 1)))

-- the groups of a run are neighbours
pub spread_run : (low high z k : ℕ) → low < high → k < 2 ^ low → spread_two low high (z * 2 ^ low + k) ≡ spread high (z * 2 ^ (low + 1)) + k
spread_run low high z k order short =
    let s = z * 2 ^ (low + 1) in
    let twice : s ≡ z * 2 ^ low + z * 2 ^ low = ap (λ c. z * c) (two_halves low)
    ∙ (let e : z * (2 ^ low + 2 ^ low) ≡ z * 2 ^ low + z * 2 ^ low = omega arith in e) in
    let inner : (z * 2 ^ low + k) / 2 ^ low * 2 ^ low ≡ z * 2 ^ low = ap (λ c. c * 2 ^ low) (div-mul-add z (2 ^ low) k short) in
    let first : spread low (z * 2 ^ low + k) ≡ s + k = omega arith in
    let short_k : k < 2 ^ (low + 1) = omega (arith, two_halves low) in
    let none : 0 < 2 ^ (low + 1) = pow_pos (low + 1) in
    let with_k : (s + k) / 2 ^ (low + 1) ≡ z = div-mul-add z (2 ^ (low + 1)) k short_k in
    let with_none : s / 2 ^ (low + 1) ≡ z = ap (λ c. c / 2 ^ (low + 1)) (let e : s ≡ s + 0 = omega arith in e)
    ∙ div-mul-add z (2 ^ (low + 1)) 0 none in
    let same : (s + k) / 2 ^ high ≡ s / 2 ^ high = high_blocks low high (s + k) order
    ∙ ap (λ c. c / 2 ^ (high - low - 1)) (with_k ∙ sym with_none) ∙ sym (high_blocks low high s order) in
    let outer : (s + k) / 2 ^ high * 2 ^ high ≡ s / 2 ^ high * 2 ^ high = ap (λ c. c * 2 ^ high) same in
    ap (spread high) first ∙ (let e : spread high (s + k) ≡ spread high s + k = omega arith in e)

-- where the corners of a run begin
abbrev pub corner_starts : ℕ → ℕ → ℕ → ℕ → ℕ → ℕ → ℕ → ℕ → ℕ → ℕ
corner_starts low high start p q r s w t = run_place (start + p) (start + q) (start + r) (start + s) w t

-- a number that is added to each of four
pub pick-add : (a p q r s t : ℕ) → pick (a + p) (a + q) (a + r) (a + s) t ≡ a + pick p q r s t
unfolding pick
pick-add a p q r s zero = refl
pick-add a p q r s (suc zero) = refl
pick-add a p q r s (suc (suc zero)) = refl
pick-add a p q r s (suc (suc (suc t))) = refl

-- the same, with the number on the right
pub pick-more : (k p q r s t : ℕ) → pick (p + k) (q + k) (r + k) (s + k) t ≡ pick p q r s t + k
unfolding pick
pick-more k p q r s zero = refl
pick-more k p q r s (suc zero) = refl
pick-more k p q r s (suc (suc zero)) = refl
pick-more k p q r s (suc (suc (suc t))) = refl

-- the places of a run at a corner
pub corner_run : (low high p q r s z start k t : ℕ) → low < high → k < 2 ^ low → start ≡ spread high (z * 2 ^ (low + 1))
    → corner_starts low high start p q r s k t ≡ corner_place low high p q r s (z * 2 ^ low + k) t
corner_run low high p q r s z start k t order short is =
    omega (arith, pick-add start p q r s t, spread_run low high z k order short)

-- the groups of a run have no place in common
pub run_told : (low high p q r s z start : ℕ) → low < high → AreCorners low high p q r s → start ≡ spread high (z * 2 ^ (low + 1))
    → AreTold (2 ^ low) (corner_starts low high start p q r s)
run_told low high p q r s z start order corners is v w k t inside_v inside_w below_k below_t same =
    let told : z * 2 ^ low + v ≡ z * 2 ^ low + w =
    corners_told (z * 2 ^ low + 2 ^ low) low high p q r s order corners (z * 2 ^ low + v) (z * 2 ^ low + w) k t (omega arith) (omega arith)
    below_k below_t
    (sym (corner_run low high p q r s z start v k order inside_v is) ∙ same
    ∙ corner_run low high p q r s z start w t order inside_w is) in
    omega arith

-- a run lies within the blocks
pub run_inside : (low high p q r s z start t m : ℕ) → low < high → AreCorners low high p q r s → t < 4
    → start ≡ spread high (z * 2 ^ (low + 1)) → z < m * 2 ^ (high - low - 1)
    → start + pick p q r s t + 2 ^ low ≤ m * 2 ^ (high + 1)
run_inside low high p q r s z start t m order corners below is inside =
    let some : 0 < 2 ^ low = pow_pos low in
    let k = 2 ^ low - 1 in
    let room : (z + 1) * 2 ^ low ≤ m * 2 ^ (high - low - 1) * 2 ^ low =
    mul-le-mul_right (2 ^ low) (let e : z + 1 ≤ m * 2 ^ (high - low - 1) = omega arith in e) in
    let last : z * 2 ^ low + k < m * 2 ^ (high - 1) = omega (arith, split_blocks low high m order, add-mul z 1 (2 ^ low)) in
    let place : corner_place low high p q r s (z * 2 ^ low + k) t < m * 2 ^ (high + 1) =
    corner_inside low high p q r s (z * 2 ^ low + k) t m order corners below last in
    omega (arith, spread_run low high z k order (let e : k < 2 ^ low = omega arith in e))

-- a digit at each of the two bits
pub IsCorner-digits : (low high b c : ℕ) → low < high → b < 2 → c < 2 → IsCorner low high (b * 2 ^ low + c * 2 ^ high)
IsCorner-digits low high b c order small_b small_c =
    let corner = b * 2 ^ low + c * 2 ^ high in
    let some : 0 < 2 ^ low = pow_pos low in
    let at_low : bit_at (b * 2 ^ low) low ≡ b =
    ap (λ k. k % 2) (ap (λ k. k / 2 ^ low) (let e : b * 2 ^ low ≡ b * 2 ^ low + 0 = omega arith in e) ∙ div-mul-add b (2 ^ low) 0 some)
    ∙ mod-eq_of_lt small_b in
    let blocks : c * 2 ^ high ≡ c * 2 ^ (high - low - 1) * 2 ^ (low + 1) =
    ap (λ k. c * k) (ap (λ k. 2 ^ k) (let e : high ≡ high - low - 1 + (low + 1) = omega arith in e) ∙ pow-add 2 (high - low - 1) (low + 1))
    ∙ (let e : c * (2 ^ (high - low - 1) * 2 ^ (low + 1)) ≡ c * 2 ^ (high - low - 1) * 2 ^ (low + 1) = omega arith in e) in
    let low_bit : bit_at corner low ≡ b =
    ap (λ k. bit_at k low) (let e : corner ≡ c * 2 ^ (high - low - 1) * 2 ^ (low + 1) + b * 2 ^ low = omega arith in e)
    ∙ bit_at_cat_low (c * 2 ^ (high - low - 1)) (low + 1) (b * 2 ^ low) low (omega arith) ∙ at_low in
    let below : b * 2 ^ low < 2 ^ high =
    (let most : b * 2 ^ low ≤ 1 * 2 ^ low = mul-le-mul_right (2 ^ low) (let e : b ≤ 1 = omega arith in e) in
    let more : 2 ^ (low + 1) ≤ 2 ^ high = pow_mono {i = low + 1} {j = high} (omega arith) in
    omega (arith, two_halves low)) in
    let high_bit : bit_at corner high ≡ c =
    ap (λ k. bit_at k high) (let e : corner ≡ c * 2 ^ high + b * 2 ^ low = omega arith in e)
    ∙ bit_at_cat_high c high (b * 2 ^ low) high below (omega arith)
    ∙ ap (bit_at c) (let e : high - high ≡ 0 = omega arith in e) ∙ bit_at_lowest c ∙ mod-eq_of_lt small_c in
    sym (ap (λ k. k * 2 ^ low + bit_at corner high * 2 ^ high) low_bit ∙ ap (λ k. b * 2 ^ low + k * 2 ^ high) high_bit)

-- a sum of two values of bits
corner_of : (low high u v b c : ℕ) → low < high → b < 2 → c < 2 → u ≡ b * 2 ^ low → v ≡ c * 2 ^ high → IsCorner low high (u + v)
corner_of low high u v b c order small_b small_c is_u is_v =
    subst (IsCorner low high) (let e : b * 2 ^ low + c * 2 ^ high ≡ u + v = omega arith in e)
    (IsCorner-digits low high b c order small_b small_c)

-- no bit or the lower, and no bit or the higher
corner_sum : (low high u v : ℕ) → low < high → (u ≡ 0) ⊎ (u ≡ 2 ^ low) → (v ≡ 0) ⊎ (v ≡ 2 ^ high) → IsCorner low high (u + v)
corner_sum low high u v order first second =
    ⊎_elim
    (λ (p : u ≡ 0). ⊎_elim
    (λ (q : v ≡ 0). corner_of low high u v 0 0 order (omega arith) (omega arith) (omega arith) (omega arith))
    (λ (q : v ≡ 2 ^ high). corner_of low high u v 0 1 order (omega arith) (omega arith) (omega arith) (omega arith)) second)
    (λ (p : u ≡ 2 ^ low). ⊎_elim
    (λ (q : v ≡ 0). corner_of low high u v 1 0 order (omega arith) (omega arith) (omega arith) (omega arith))
    (λ (q : v ≡ 2 ^ high). corner_of low high u v 1 1 order (omega arith) (omega arith) (omega arith) (omega arith)) second)
    first

-- the same, whichever bit is the lower
either_sum : (i o u v : ℕ) → i ≢ o → (u ≡ 0) ⊎ (u ≡ 2 ^ i) → (v ≡ 0) ⊎ (v ≡ 2 ^ o) → IsCorner (min i o) (max i o) (u + v)
either_sum i o u v differ first second =
    ⊎_elim
    (λ (p : i < o). subst (λ low. IsCorner low (max i o) (u + v)) (let e : i ≡ min i o = omega arith in e)
    (subst (λ high. IsCorner i high (u + v)) (let e : o ≡ max i o = omega arith in e) (corner_sum i o u v p first second)))
    (λ (p : o ≤ i). subst (λ low. IsCorner low (max i o) (u + v)) (let e : o ≡ min i o = omega arith in e)
    (subst (λ high. IsCorner o high (u + v)) (let e : i ≡ max i o = omega arith in e)
    (subst (IsCorner o i) (let e : v + u ≡ u + v = omega arith in e) (corner_sum o i v u (omega arith) second first))))
    (cases_lt i o)

-- each place of a pair
half_sum : (bit at_u at_v : ℕ) → AreHalves bit at_u at_v → (at_u ≡ 0) ⊎ (at_u ≡ 2 ^ bit)
half_sum bit at_u at_v halves =
    ⊎_elim (λ (p : at_u ≡ 0). inl p) (λ (p : at_u ≢ 0). inr (omega (arith, halves.0, halves.1))) (cases_eq at_u 0)

half_difference : (bit at_u at_v : ℕ) → AreHalves bit at_u at_v → (at_v ≡ 0) ⊎ (at_v ≡ 2 ^ bit)
half_difference bit at_u at_v halves =
    ⊎_elim (λ (p : at_v ≡ 0). inl p) (λ (p : at_v ≢ 0). inr (omega (arith, halves.0, halves.1))) (cases_eq at_v 0)

-- the corners of two bits
pub AreCorners-halves : (i o a b c d : ℕ) → i ≢ o → AreHalves i a b → AreHalves o c d
    → AreCorners (min i o) (max i o) (a + c) (b + c) (a + d) (b + d)
unfolding pick
AreCorners-halves i o a b c d differ inner outer =
    let some_i : 0 < 2 ^ i = pow_pos i in
    let some_o : 0 < 2 ^ o = pow_pos o in
    let powers : 2 ^ i ≢ 2 ^ o = λ e. differ (same_exponent i o e) in
    record {
      apart = record {
        p_q = λ e. absurd (omega (arith, inner.0, inner.1));
        p_r = λ e. absurd (omega (arith, outer.0, outer.1));
        p_s = λ e. powers (omega (arith, inner.0, inner.1, outer.0, outer.1));
        q_r = λ e. powers (omega (arith, inner.0, inner.1, outer.0, outer.1));
        q_s = λ e. absurd (omega (arith, outer.0, outer.1));
        r_s = λ e. absurd (omega (arith, inner.0, inner.1));
      };
      corners = by_four (λ t. IsCorner (min i o) (max i o) (pick (a + c) (b + c) (a + d) (b + d) t))
          (either_sum i o a c differ (half_sum i a b inner) (half_sum o c d outer))
          (either_sum i o b c differ (half_difference i a b inner) (half_sum o c d outer))
          (either_sum i o a d differ (half_sum i a b inner) (half_difference o c d outer))
          (either_sum i o b d differ (half_difference i a b inner) (half_difference o c d outer));
    }

-- both places of a pair, within the powers that are used
pub half_fits : (bit at_u at_v : ℕ) → bit < 61 → AreHalves bit at_u at_v → (at_u ≤ 2 ^ 60) × (at_v ≤ 2 ^ 60)
half_fits bit at_u at_v few halves =
    let most : 2 ^ bit ≤ 2 ^ 60 = pow_mono {i = bit} {j = 60} (omega arith) in
    (omega (arith, halves.0), omega (arith, halves.0))

-- where a run begins, as code reckons it
pub run_begins : (low high m z : ℕ) → low < high → m * 2 ^ (high + 1) < 2 ^ 64 → z < m * 2 ^ (high - low - 1)
    → (z * 2 ^ (low + 1) % 2 ^ 64 + z * 2 ^ (low + 1) % 2 ^ 64 / 2 ^ high * 2 ^ high % 2 ^ 64 ≡ spread high (z * 2 ^ (low + 1)))
    × (spread high (z * 2 ^ (low + 1)) < 2 ^ 64)
run_begins low high m z order fits inside =
    let s = z * 2 ^ (low + 1) in
    let room : (z + 1) * 2 ^ (low + 1) ≤ m * 2 ^ (high - low - 1) * 2 ^ (low + 1) =
    mul-le-mul_right (2 ^ (low + 1)) (let e : z + 1 ≤ m * 2 ^ (high - low - 1) = omega arith in e) in
    let some : 0 < 2 ^ (low + 1) = pow_pos (low + 1) in
    let short : s < m * 2 ^ high = omega (arith, join_blocks low high m order, add-mul z 1 (2 ^ (low + 1))) in
    let double : m * 2 ^ (high + 1) ≡ m * 2 ^ high + m * 2 ^ high = twice_as_many m high in
    let whole : s % 2 ^ 64 ≡ s = mod-eq_of_lt (omega arith) in
    let less : s / 2 ^ high * 2 ^ high ≤ s = div-mul-le_self s (2 ^ high) in
    let part : s / 2 ^ high * 2 ^ high % 2 ^ 64 ≡ s / 2 ^ high * 2 ^ high = mod-eq_of_lt (omega arith) in
    (ap (λ k. k + k / 2 ^ high * 2 ^ high % 2 ^ 64) whole ∙ ap (λ k. s + k) part, omega arith)

-- the corners of a run, within so many bytes
pub run_bounds : (low high p q r s z start m : ℕ) → low < high → AreCorners low high p q r s
    → start ≡ spread high (z * 2 ^ (low + 1)) → z < m * 2 ^ (high - low - 1)
    → (start + p + 2 ^ low ≤ m * 2 ^ (high + 1)) × (start + q + 2 ^ low ≤ m * 2 ^ (high + 1))
    × (start + r + 2 ^ low ≤ m * 2 ^ (high + 1)) × (start + s + 2 ^ low ≤ m * 2 ^ (high + 1))
unfolding pick
run_bounds low high p q r s z start m order corners is inside = (
  run_inside low high p q r s z start 0 m order corners (omega arith) is inside,
  run_inside low high p q r s z start 1 m order corners (omega arith) is inside,
  run_inside low high p q r s z start 2 m order corners (omega arith) is inside,
  run_inside low high p q r s z start 3 m order corners (omega arith) is inside,
)

-- how many runs, as code reckons it
pub run_count : (low high m : ℕ) → low < high → m * 2 ^ (high + 1) < 2 ^ 64
    → m * 2 ^ (high - low - 1) % 2 ^ 64 ≡ m * 2 ^ (high - low - 1)
run_count low high m order fits =
    let less : m * 2 ^ (high - low - 1) ≤ m * 2 ^ (high + 1) =
    mul-le-mul_left m (pow_mono {i = high - low - 1} {j = high + 1} (omega arith)) in
    mod-eq_of_lt (omega arith)

-- the same groups, by other names
pub GroupsDone-as : (f : ℕ → ℕ → ℕ × ℕ) (low high p q r s count l h u v x y n : ℕ) (old new : List ℕ) → low ≡ l → high ≡ h → p ≡ u
    → q ≡ v → r ≡ x → s ≡ y
    → count ≡ n → GroupsDone f (corner_place low high p q r s) 0 count old new → GroupsDone f (corner_place l h u v x y) 0 n old new
GroupsDone-as f low high p q r s count l h u v x y n old new is_l is_h is_u is_v is_x is_y is_n made =
    subst (λ k. GroupsDone f (corner_place k h u v x y) 0 n old new) is_l
    (subst (λ k. GroupsDone f (corner_place low k u v x y) 0 n old new) is_h
    (subst (λ k. GroupsDone f (corner_place low high k v x y) 0 n old new) is_u
    (subst (λ k. GroupsDone f (corner_place low high p k x y) 0 n old new) is_v
    (subst (λ k. GroupsDone f (corner_place low high p q k y) 0 n old new) is_x
    (subst (λ k. GroupsDone f (corner_place low high p q r k) 0 n old new) is_y
    (subst (λ k. GroupsDone f (corner_place low high p q r s) 0 k old new) is_n made))))))
