-- Lists of whole blocks of records.
use Rattle.std.proofs.Common.{◌≡◌, ℕ, ◌+◌, ◌-◌, ◌*◌, ◌/◌, ◌%◌, ◌^◌, ◌<◌, ◌≤◌, sym, ap, ◌∙◌, subst, arith, ⊎_elim}
use Rattle.std.proofs.lemmas.Bool.{cases_lt}
use Rattle.std.proofs.lemmas.Nat.{pow_pos, pow-add, mod-mul-add, one_shl}
use Rattle.std.proofs.Math.Pow.{pow_mono}
use Rattle.std.proofs.Math.Nat.{mod-eq_of_lt, mod-add-div', mul-le-mul_right, add-mul}

-- some bytes in whole blocks of 8 * 2 ^ low are at least one block
pub whole_block : (size low : ℕ) → 0 < size → size % (8 * 2 ^ low) ≡ 0 → 8 * 2 ^ low ≤ size
whole_block size low some whole =
    ⊎_elim
    (λ (p : size < 8 * 2 ^ low). let same : size % (8 * 2 ^ low) ≡ size = mod-eq_of_lt p in absurd (omega arith))
    (λ (p : 8 * 2 ^ low ≤ size). p)
    (cases_lt size (8 * 2 ^ low))

-- so their addresses have few bits
pub few_bits : (size low : ℕ) → 0 < size → size < 2 ^ 64 → size % (8 * 2 ^ low) ≡ 0 → low < 61
few_bits size low some fits whole =
    let block : 8 * 2 ^ low ≤ size = whole_block size low some whole in
    ⊎_elim
    (λ (p : low < 61). p)
    (λ (p : 61 ≤ low). let large : 2 ^ 61 ≤ 2 ^ low = pow_mono {i = 61} {j = low} p in absurd (omega arith))
    (cases_lt low 61)

-- whole blocks of d * e are whole blocks of d
pub whole_parts : (size d e : ℕ) → 0 < d → size % (d * e) ≡ 0 → size % d ≡ 0
whole_parts size d e some whole =
    let parts : size % (d * e) + size / (d * e) * (d * e) ≡ size = mod-add-div' size (d * e) in
    let is : size ≡ size / (d * e) * e * d + 0 = omega arith in
    ap (λ s. s % d) is ∙ mod-mul-add (size / (d * e) * e) d 0 some

-- whole blocks of 2 ^ low records are whole blocks of 2 ^ i
pub whole_fewer : (size low i : ℕ) → i ≤ low → size % (8 * 2 ^ low) ≡ 0 → size % (8 * 2 ^ i) ≡ 0
whole_fewer size low i fewer whole =
    let some : 0 < 2 ^ i = pow_pos i in
    let split : 2 ^ low ≡ 2 ^ i * 2 ^ (low - i) = ap (λ k. 2 ^ k) (let e : low ≡ i + (low - i) = omega arith in e)
    ∙ pow-add 2 i (low - i) in
    let factor : 8 * 2 ^ low ≡ 8 * 2 ^ i * 2 ^ (low - i) = ap (λ k. 8 * k) split
    ∙ (let e : 8 * (2 ^ i * 2 ^ (low - i)) ≡ 8 * 2 ^ i * 2 ^ (low - i) = omega arith in e) in
    whole_parts size (8 * 2 ^ i) (2 ^ (low - i)) (omega arith) (subst (λ k. size % k ≡ 0) factor whole)

-- the number of their records is a multiple of 2 ^ low
pub whole_count : (size low : ℕ) → size % (8 * 2 ^ low) ≡ 0 → size / 8 % 2 ^ low ≡ 0
whole_count size low whole =
    let q = size / (8 * 2 ^ low) in
    let parts : size % (8 * 2 ^ low) + q * (8 * 2 ^ low) ≡ size = mod-add-div' size (8 * 2 ^ low) in
    let is : size ≡ 8 * (q * 2 ^ low) = omega arith in
    let count : size / 8 ≡ q * 2 ^ low + 0 = omega arith in
    ap (λ s. s % 2 ^ low) count ∙ mod-mul-add q (2 ^ low) 0 (pow_pos low)

-- a multiple of a block that is at least so many blocks
pub blocks_reach : (count b block : ℕ) → count % b ≡ 0 → count / b ≤ block → count ≤ block * b
blocks_reach count b block whole end =
    let parts : count % b + count / b * b ≡ count = mod-add-div' count b in
    let more : count / b * b ≤ block * b = mul-le-mul_right b end in
    omega arith

-- a block within the count
pub block_within : (count b block : ℕ) → block < count / b → block * b + b ≤ count
block_within count b block below =
    let parts : count % b + count / b * b ≡ count = mod-add-div' count b in
    let more : (block + 1) * b ≤ count / b * b = mul-le-mul_right b (let e : block + 1 ≤ count / b = omega arith in e) in
    let next : (block + 1) * b ≡ block * b + b = add-mul block 1 b ∙ (let e : block * b + 1 * b ≡ block * b + b = omega arith in e) in
    omega arith

-- a power of two is whole blocks of a lower one
pub power_whole : (n i : ℕ) → i ≤ n → 2 ^ n % 2 ^ i ≡ 0
power_whole n i fewer =
    let split : 2 ^ n ≡ 2 ^ (n - i) * 2 ^ i + 0 = ap (λ k. 2 ^ k) (let e : n ≡ (n - i) + i = omega arith in e) ∙ pow-add 2 (n - i) i
    ∙ (let e : 2 ^ (n - i) * 2 ^ i ≡ 2 ^ (n - i) * 2 ^ i + 0 = omega arith in e) in
    ap (λ s. s % 2 ^ i) split ∙ mod-mul-add (2 ^ (n - i)) (2 ^ i) 0 (pow_pos i)

-- the blocks of a bit in 2 ^ n records, as code counts them
pub power_blocks : (n h bit : ℕ) → n ≤ 52 → h < n → bit ≡ h → 1 * 2 ^ (n - h - 1) % 2 ^ 64 * 2 ^ (bit + 1) ≡ 2 ^ n
power_blocks n h bit few inside same =
    ap (λ b. 1 * 2 ^ (n - h - 1) % 2 ^ 64 * 2 ^ (b + 1)) same ∙ ap (λ k. k * 2 ^ (h + 1)) (one_shl (n - h - 1) 64 (omega arith))
    ∙ sym (pow-add 2 (n - h - 1) (h + 1)) ∙ ap (λ k. 2 ^ k) (let e : n - h - 1 + (h + 1) ≡ n = omega arith in e)
