-- Pairings on low bits, block after block.
use Rattle.std.proofs.Common.{◌≡◌, ℕ, ◌⊎◌, inl, ⊎_elim, ◌+◌, ◌-◌, ◌*◌, ◌/◌, ◌%◌, ◌^◌, ◌<◌, ◌≤◌, List, length, take, drop, length-drop, refl}
use Rattle.std.proofs.Common.{sym, ap, ◌∙◌, arith}
use Rattle.std.proofs.lemmas.Bool.{cases_lt}
use Rattle.std.proofs.lemmas.List.{length-take-le}
use Rattle.std.proofs.lemmas.Nat.{pow_pos}
use Rattle.std.proofs.Math.Nat.{mod-lt, mod-add-div', add-mul, mod_self}
use Rattle.bm_base.specs.Records.{SameRecords}
use Rattle.bm_gf2.specs.declared.matrix.Matrix.{Matrix}
use Rattle.bm_bufs.specs.Places.{places_by}
use Rattle.bm_bufs.specs.Runs.{KeepsRuns}
use Rattle.bm_bufs.proofs.PartLemmas.{part_record, record_of_part}
use Rattle.bm_bufs.proofs.RunLemmas.{place_follows, place_of_first, whole_run}
use Rattle.bm_butter.specs.Records.{record_in_order, record_at_place}
use Rattle.bm_butter.specs.OnBits.{kernel_digits}
use Rattle.bm_butter.proofs.KernelLemmas.{kernel_digits-start, kernel_digits-block}
use Rattle.bm_butter.proofs.PlaceLemmas.{place_below}
use Rattle.bm_butter.proofs.SizeLemmas.{whole_fewer}
use borrow.Rule.Slice.PartMut.{put_mid}

-- the records before any bit
pub SameRecords-start : (f : ℕ → ℕ → ℕ × ℕ) (count : ℕ) (xs : ℕ → List ℕ) → SameRecords count xs (kernel_digits f 0 xs)
SameRecords-start f count xs x inside = sym (kernel_digits-start f xs x)

-- a block of a list that was transformed by itself
pub block_done : (f : ℕ → ℕ → ℕ × ℕ) (bits block start k : ℕ) (old mid new : List ℕ) → start ≡ block * (2 ^ bits * 8) → k ≡ 2 ^ bits * 8
    → start + k ≤ length old
    → mid ≡ take k (drop start old) → length new ≡ length mid
    → ((xs : ℕ → List ℕ) → SameRecords (length mid / 8) (record_in_order mid) (kernel_digits f 0 xs)
    → SameRecords (length mid / 8) (record_in_order new) (kernel_digits f bits xs))
    → (t : ℕ) → t < 2 ^ bits → record_in_order (put_mid start k old new) (block * 2 ^ bits + t)
    ≡ kernel_digits f bits (λ q. record_in_order old (block * 2 ^ bits + q)) t
block_done f bits block start k old mid new begins long fits part size swept t below =
    let at = block * 2 ^ bits in
    let here : start ≡ at * 8 = omega arith in
    let rest : length (drop start old) ≡ length old - start = length-drop start old in
    let whole : length mid ≡ k = ap length part ∙ length-take-le k (drop start old) (omega arith) in
    record_of_part 8 at start (2 ^ bits) k t old new here (omega arith) (omega arith) below
    ∙ swept (λ q. record_in_order old (at + q))
    (λ x inside. ap (λ l. record_in_order l x) part ∙ part_record 8 at start (2 ^ bits) k x old here long (omega arith)
    ∙ sym (kernel_digits-start f (λ q. record_in_order old (at + q)) x))
    t (omega arith)

-- one block more
pub blocks_more : (f : ℕ → ℕ → ℕ × ℕ) (bits block : ℕ) (old now new : List ℕ)
    → ((x : ℕ) → x < block * 2 ^ bits → record_in_order now x ≡ kernel_digits f bits (record_in_order old) x)
    → ((x : ℕ) → block * 2 ^ bits ≤ x → record_in_order now x ≡ record_in_order old x)
    → ((t : ℕ) → t < 2 ^ bits → record_in_order new (block * 2 ^ bits + t)
    ≡ kernel_digits f bits (λ q. record_in_order now (block * 2 ^ bits + q)) t)
    → ((x : ℕ) → (x < block * 2 ^ bits) ⊎ (block * 2 ^ bits + 2 ^ bits ≤ x) → record_in_order new x ≡ record_in_order now x)
    → (x : ℕ) → x < (block + 1) * 2 ^ bits → record_in_order new x ≡ kernel_digits f bits (record_in_order old) x
blocks_more f bits block old now new done left step others x below =
    let at = block * 2 ^ bits in
    let next : (block + 1) * 2 ^ bits ≡ at + 1 * 2 ^ bits = add-mul block 1 (2 ^ bits) in
    ⊎_elim
    (λ (p : x < at). others x (inl p) ∙ done x p)
    (λ (p : at ≤ x).
    let t = x - at in
    let here : at + t ≡ x = omega arith in
    let small : t < 2 ^ bits = omega arith in
    ap (record_in_order new) (sym here) ∙ step t small
    ∙ sym (kernel_digits-block f bits bits block (record_in_order old) (λ q. record_in_order now (at + q)) (omega arith)
    (λ q l. sym (left (at + q) (omega arith))) t small)
    ∙ ap (kernel_digits f bits (record_in_order old)) here)
    (cases_lt x at)

-- where low bits keep their places, a pairing on bits of the places is that on bits of the numbers
pub blocks_at_places : (f : ℕ → ℕ → ℕ × ℕ) (a : Matrix) (plus bits low : ℕ) (old new : List ℕ) → plus < 2 ^ a.n → KeepsRuns a plus low
    → bits ≤ low
    → SameRecords (2 ^ a.n) (record_in_order new) (kernel_digits f bits (record_in_order old))
    → SameRecords (2 ^ a.n) (record_at_place a plus new) (kernel_digits f bits (record_at_place a plus old))
blocks_at_places f a plus bits low old new short keeps fewer done x inside =
    let r = x / 2 ^ low in
    let t = x % 2 ^ low in
    let first = places_by a plus (r * 2 ^ low) in
    let q = first / 2 ^ low in
    let small : t < 2 ^ low = mod-lt x (pow_pos low) in
    let parts : t + r * 2 ^ low ≡ x = mod-add-div' x (2 ^ low) in
    let number : r * 2 ^ low + t ≡ x = omega arith in
    let run : q * 2 ^ low ≡ first = whole_run first low (place_of_first a plus low r keeps) in
    let at : (k : ℕ) → k < 2 ^ low → places_by a plus (r * 2 ^ low + k) ≡ q * 2 ^ low + k =
    λ k l. place_follows a plus low r k keeps l ∙ ap (λ y. y + k) (sym run) in
    let here : places_by a plus x ≡ q * 2 ^ low + t = ap (places_by a plus) (sym number) ∙ at t small in
    let ys = λ (k : ℕ). record_in_order old (q * 2 ^ low + k) in
    done (places_by a plus x) (place_below a plus x short)
    ∙ ap (kernel_digits f bits (record_in_order old)) here
    ∙ kernel_digits-block f bits low q (record_in_order old) ys fewer (λ k l. refl) t small
    ∙ sym (kernel_digits-block f bits low r (record_at_place a plus old) ys fewer (λ k l. ap (record_in_order old) (at k l)) t small)
    ∙ ap (kernel_digits f bits (record_at_place a plus old)) number

-- a list of 2 ^ n records is whole blocks
pub power_blocks_whole : (size n bits : ℕ) → size ≡ 8 * 2 ^ n → bits ≤ n → size % (8 * 2 ^ bits) ≡ 0
power_blocks_whole size n bits long fewer =
    whole_fewer size n bits fewer (ap (λ s. s % (8 * 2 ^ n)) long ∙ mod_self (8 * 2 ^ n))
