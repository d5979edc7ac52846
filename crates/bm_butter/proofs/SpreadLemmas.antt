-- Numbers with clear bits put in, and the numbers without their bits.
use Rattle.std.proofs.Common.{◌≡◌, ℕ, suc, ◌+◌, ◌-◌, ◌*◌, ◌/◌, ◌%◌, ◌^◌, ◌<◌, ◌≤◌, sym, ap, ◌∙◌, subst, arith, ⊎_elim}
use Rattle.std.specs.Int.{bit_at}
use Rattle.std.proofs.lemmas.Bool.{cases_lt}
use Rattle.std.proofs.lemmas.Nat.{pow_pos, pow-add, mod-pow-add, div-mul-add, mod-mul-add}
use Rattle.std.proofs.lemmas.Nat.Bits.{bit_at-lt, bit_at_cat_low}
use Rattle.std.proofs.Math.Nat.{two-pow-succ, add-mul, mul-add, mod-lt, mod-add-div', mul-le-mul_right}
use Rattle.bm_base.proofs.ButterflyLemmas.{set_below}
use Rattle.bm_base.proofs.PowerLemmas.{two_halves}
use Rattle.bm_gf2.proofs.VectorLemmas.{bit_of_low}
use Rattle.bm_butter.specs.Groups.{spread, spread_two}

-- x without its bit i
abbrev pub squeeze : ℕ → ℕ → ℕ
squeeze i x = x / 2 ^ (i + 1) * 2 ^ i + x % 2 ^ i

-- x without its bits low and high, low < high
abbrev pub squeeze_two : ℕ → ℕ → ℕ → ℕ
squeeze_two low high x = squeeze low (squeeze high x)

-- so many blocks of it
pub twice_as_many : (q i : ℕ) → q * 2 ^ (i + 1) ≡ q * 2 ^ i + q * 2 ^ i
twice_as_many q i = ap (λ c. q * c) (two_halves i) ∙ mul-add q (2 ^ i) (2 ^ i)

-- a digit before less than 2 ^ i
digit_small : (i b r : ℕ) → b < 2 → r < 2 ^ i → b * 2 ^ i + r < 2 ^ (i + 1)
digit_small i b r small short =
    let most : b * 2 ^ i ≤ 1 * 2 ^ i = mul-le-mul_right (2 ^ i) (let e : b ≤ 1 = omega arith in e) in
    omega (arith, two_halves i)

-- the blocks of 2 ^ (i + 1) and the rest of a number with a digit put in
spread_parts : (i b z : ℕ) → spread i z + b * 2 ^ i ≡ z / 2 ^ i * 2 ^ (i + 1) + (b * 2 ^ i + z % 2 ^ i)
spread_parts i b z =
    let parts : z % 2 ^ i + z / 2 ^ i * 2 ^ i ≡ z = mod-add-div' z (2 ^ i) in
    omega (arith, twice_as_many (z / 2 ^ i) i)

-- its blocks of 2 ^ i
spread_digits : (i b z : ℕ) → spread i z + b * 2 ^ i ≡ (z / 2 ^ i + z / 2 ^ i + b) * 2 ^ i + z % 2 ^ i
spread_digits i b z =
    let q = z / 2 ^ i in
    let parts : z % 2 ^ i + q * 2 ^ i ≡ z = mod-add-div' z (2 ^ i) in
    omega (arith, add-mul (q + q) b (2 ^ i), add-mul q q (2 ^ i))

-- a digit that was put in is taken out
pub squeeze-spread : (i b z : ℕ) → b < 2 → squeeze i (spread i z + b * 2 ^ i) ≡ z
squeeze-spread i b z small =
    let q = z / 2 ^ i in
    let r = z % 2 ^ i in
    let x = spread i z + b * 2 ^ i in
    let short : r < 2 ^ i = mod-lt z (pow_pos i) in
    let high : x / 2 ^ (i + 1) ≡ q = ap (λ c. c / 2 ^ (i + 1)) (spread_parts i b z)
    ∙ div-mul-add q (2 ^ (i + 1)) (b * 2 ^ i + r) (digit_small i b r small short) in
    let low : x % 2 ^ i ≡ r = ap (λ c. c % 2 ^ i) (spread_digits i b z) ∙ mod-mul-add (q + q + b) (2 ^ i) r short in
    let parts : r + q * 2 ^ i ≡ z = mod-add-div' z (2 ^ i) in
    ap (λ c. c * 2 ^ i + x % 2 ^ i) high ∙ ap (λ c. q * 2 ^ i + c) low ∙ (let e : q * 2 ^ i + r ≡ z = omega arith in e)

-- the bit that is put in is clear
pub spread_bit : (i z : ℕ) → bit_at (spread i z) i ≡ 0
spread_bit i z =
    let q = z / 2 ^ i in
    let is : spread i z ≡ (q + q + 0) * 2 ^ i + z % 2 ^ i = (let e : spread i z ≡ spread i z + 0 * 2 ^ i = omega arith in e)
    ∙ spread_digits i 0 z in
    let high : spread i z / 2 ^ i ≡ q + q + 0 = ap (λ c. c / 2 ^ i) is
    ∙ div-mul-add (q + q + 0) (2 ^ i) (z % 2 ^ i) (mod-lt z (pow_pos i)) in
    ap (λ c. c % 2) high ∙ (let e : (q + q + 0) % 2 ≡ 0 = omega arith in e)

-- a number is what is left without a bit, and the bit
pub spread-squeeze : (i x : ℕ) → spread i (squeeze i x) + bit_at x i * 2 ^ i ≡ x
spread-squeeze i x =
    let q = x / 2 ^ (i + 1) in
    let r = x % 2 ^ i in
    let y = squeeze i x in
    let short : r < 2 ^ i = mod-lt x (pow_pos i) in
    let high : y / 2 ^ i * 2 ^ i ≡ q * 2 ^ i = ap (λ c. c * 2 ^ i) (div-mul-add q (2 ^ i) r short) in
    let low : x % 2 ^ (i + 1) ≡ bit_at x i * 2 ^ i + r = ap (λ c. x % 2 ^ c) (let e : i + 1 ≡ 1 + i = omega arith in e)
    ∙ mod-pow-add x 1 i in
    let parts : x % 2 ^ (i + 1) + q * 2 ^ (i + 1) ≡ x = mod-add-div' x (2 ^ (i + 1)) in
    omega (arith, twice_as_many q i)

-- taking a bit out leaves the bits below it
pub squeeze_bit : (h k x : ℕ) → h < k → bit_at (squeeze k x) h ≡ bit_at x h
squeeze_bit h k x below = bit_at_cat_low (x / 2 ^ (k + 1)) k (x % 2 ^ k) h below ∙ bit_of_low x k h below

-- a clear bit put in above a digit
pub spread_more : (h k b z : ℕ) → h < k → b < 2 → bit_at z h ≡ 0 → spread k (z + b * 2 ^ h) ≡ spread k z + b * 2 ^ h
spread_more h k b z below small clear =
    let q = z / 2 ^ k in
    let r = z % 2 ^ k in
    let short : r < 2 ^ k = mod-lt z (pow_pos k) in
    let room : r + 2 ^ h < 2 ^ k = set_below r h k short below (bit_of_low z k h below ∙ clear) in
    let most : b * 2 ^ h ≤ 1 * 2 ^ h = mul-le-mul_right (2 ^ h) (let e : b ≤ 1 = omega arith in e) in
    let parts : r + q * 2 ^ k ≡ z = mod-add-div' z (2 ^ k) in
    let is : z + b * 2 ^ h ≡ q * 2 ^ k + (r + b * 2 ^ h) = omega arith in
    let high : (z + b * 2 ^ h) / 2 ^ k ≡ q = ap (λ c. c / 2 ^ k) is ∙ div-mul-add q (2 ^ k) (r + b * 2 ^ h) (omega arith) in
    let same : (z + b * 2 ^ h) / 2 ^ k * 2 ^ k ≡ q * 2 ^ k = ap (λ c. c * 2 ^ k) high in
    omega arith

-- two digits put in at once
spread_both : (low high b c w : ℕ) → low < high → b < 2
    → spread_two low high w + (b * 2 ^ low + c * 2 ^ high) ≡ spread high (spread low w + b * 2 ^ low) + c * 2 ^ high
spread_both low high b c w below small =
    let more = spread_more low high b (spread low w) below small (spread_bit low w) in
    omega (arith, more)

-- the group of a number that has two digits put in
pub squeeze_two-told : (low high b c w : ℕ) → low < high → b < 2 → c < 2
    → squeeze_two low high (spread_two low high w + (b * 2 ^ low + c * 2 ^ high)) ≡ w
squeeze_two-told low high b c w below small_b small_c =
    ap (squeeze_two low high) (spread_both low high b c w below small_b)
    ∙ ap (squeeze low) (squeeze-spread high c (spread low w + b * 2 ^ low) small_c) ∙ squeeze-spread low b w small_b

-- a number is its group and two bits
pub spread_two-squeeze : (low high x : ℕ) → low < high
    → spread_two low high (squeeze_two low high x) + (bit_at x low * 2 ^ low + bit_at x high * 2 ^ high) ≡ x
spread_two-squeeze low high x below =
    let y = squeeze high x in
    let first : spread low (squeeze low y) + bit_at x low * 2 ^ low ≡ y =
    ap (λ c. spread low (squeeze low y) + c * 2 ^ low) (sym (squeeze_bit low high x below)) ∙ spread-squeeze low y in
    spread_both low high (bit_at x low) (bit_at x high) (squeeze_two low high x) below (bit_at-lt x low)
    ∙ ap (λ c. spread high c + bit_at x high * 2 ^ high) first ∙ spread-squeeze high x

-- so many blocks
block_before : (q b m z : ℕ) → q * b ≤ z → z < m * b → q < m
block_before q b m z above below =
    ⊎_elim (λ (p : q < m). p) (λ (p : m ≤ q). let more : m * b ≤ q * b = mul-le-mul_right b p in absurd (omega arith)) (cases_lt q m)

-- a number with a digit put in is in as many blocks as before, twice as long
pub spread-lt : (i b z m : ℕ) → b < 2 → z < m * 2 ^ i → spread i z + b * 2 ^ i < m * 2 ^ (i + 1)
spread-lt i b z m small below =
    let q = z / 2 ^ i in
    let r = z % 2 ^ i in
    let parts : r + q * 2 ^ i ≡ z = mod-add-div' z (2 ^ i) in
    let before : q < m = block_before q (2 ^ i) m z (omega arith) below in
    let room : (q + 1) * 2 ^ (i + 1) ≤ m * 2 ^ (i + 1) = mul-le-mul_right (2 ^ (i + 1)) (let e : q + 1 ≤ m = omega arith in e) in
    let small_rest : b * 2 ^ i + r < 2 ^ (i + 1) = digit_small i b r small (mod-lt z (pow_pos i)) in
    omega (arith, spread_parts i b z, add-mul q 1 (2 ^ (i + 1)))

-- a number without a bit
squeeze-lt : (i x m : ℕ) → x < m * 2 ^ (i + 1) → squeeze i x < m * 2 ^ i
squeeze-lt i x m below =
    let q = x / 2 ^ (i + 1) in
    let r = x % 2 ^ i in
    let short : r < 2 ^ i = mod-lt x (pow_pos i) in
    let parts : x % 2 ^ (i + 1) + q * 2 ^ (i + 1) ≡ x = mod-add-div' x (2 ^ (i + 1)) in
    let before : q < m = block_before q (2 ^ (i + 1)) m x (omega arith) below in
    let room : (q + 1) * 2 ^ i ≤ m * 2 ^ i = mul-le-mul_right (2 ^ i) (let e : q + 1 ≤ m = omega arith in e) in
    omega (arith, add-mul q 1 (2 ^ i))

-- the groups of so many blocks of the higher bit, as blocks of the lower bit
pub split_blocks : (low high m : ℕ) → low < high → m * 2 ^ (high - 1) ≡ m * 2 ^ (high - low - 1) * 2 ^ low
split_blocks low high m below =
    ap (λ c. m * c) (ap (λ k. 2 ^ k) (let e : high - 1 ≡ high - low - 1 + low = omega arith in e) ∙ pow-add 2 (high - low - 1) low)
    ∙ (let e : m * (2 ^ (high - low - 1) * 2 ^ low) ≡ m * 2 ^ (high - low - 1) * 2 ^ low = omega arith in e)

-- the same, of pairs of the lower bit
pub join_blocks : (low high m : ℕ) → low < high → m * 2 ^ (high - low - 1) * 2 ^ (low + 1) ≡ m * 2 ^ high
join_blocks low high m below =
    (let e : m * 2 ^ (high - low - 1) * 2 ^ (low + 1) ≡ m * (2 ^ (high - low - 1) * 2 ^ (low + 1)) = omega arith in e)
    ∙ ap (λ c. m * c) (sym (pow-add 2 (high - low - 1) (low + 1))
    ∙ ap (λ k. 2 ^ k) (let e : high - low - 1 + (low + 1) ≡ high = omega arith in e))

-- a number with two digits put in
pub spread_two-lt : (low high b c w m : ℕ) → low < high → b < 2 → c < 2 → w < m * 2 ^ (high - 1)
    → spread_two low high w + (b * 2 ^ low + c * 2 ^ high) < m * 2 ^ (high + 1)
spread_two-lt low high b c w m below small_b small_c inside =
    let first : spread low w + b * 2 ^ low < m * 2 ^ (high - low - 1) * 2 ^ (low + 1) =
    spread-lt low b w (m * 2 ^ (high - low - 1)) small_b (subst (λ k. w < k) (split_blocks low high m below) inside) in
    let second : spread high (spread low w + b * 2 ^ low) + c * 2 ^ high < m * 2 ^ (high + 1) =
    spread-lt high c (spread low w + b * 2 ^ low) m small_c (subst (λ k. spread low w + b * 2 ^ low < k) (join_blocks low high m below)
    first)
    in
    subst (λ k. k < m * 2 ^ (high + 1)) (sym (spread_both low high b c w below small_b)) second

-- a number without two bits
pub squeeze_two-lt : (low high x m : ℕ) → low < high → x < m * 2 ^ (high + 1) → squeeze_two low high x < m * 2 ^ (high - 1)
squeeze_two-lt low high x m below inside =
    let first : squeeze high x < m * 2 ^ high = squeeze-lt high x m inside in
    let second : squeeze_two low high x < m * 2 ^ (high - low - 1) * 2 ^ low =
    squeeze-lt low (squeeze high x) (m * 2 ^ (high - low - 1))
    (subst (λ k. squeeze high x < k) (sym (join_blocks low high m below)) first) in
    subst (λ k. squeeze_two low high x < k) (sym (split_blocks low high m below)) second
