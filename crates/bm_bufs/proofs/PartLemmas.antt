-- Records of a part of a list, which begins at the place of record `at`, and of the list after a write of the part.
use Rattle.std.proofs.Common.{◌≡◌, ℕ, ◌⊎◌, ⊎_elim, ◌+◌, ◌*◌, ◌<◌, ◌≤◌, List, length, take, drop, ap, ◌∙◌, arith}
use Rattle.std.specs.Fork.{slice_chunk}
use Rattle.std.proofs.Math.Nat.{add-mul, mul-le-mul_right}
use Rattle.std.proofs.lemmas.Slice.{drop-put_mid}
use Rattle.bm_base.proofs.ChunkLemmas.{chunk_within, chunk_before, chunk_of_part, block_fits_at}
use borrow.Rule.Slice.PartMut.{put_mid}

-- a record of the part as it was
pub part_record : (w at start count k r : ℕ) (xs : List ℕ) → start ≡ at * w → k ≡ count * w → r < count
    → slice_chunk (take k (drop start xs)) w r ≡ slice_chunk xs w (at + r)
part_record w at start count k r xs here long below =
    let next : (r + 1) * w ≡ r * w + 1 * w = add-mul r 1 w in
    chunk_of_part w (r * w) k start xs (omega (arith, block_fits_at w r count below))
    ∙ ap (λ n. take w (drop n xs)) (let e : start + r * w ≡ (at + r) * w = omega (arith, add-mul at r w) in e)

-- a record of the part as it was written
pub record_of_part : (w at start count k r : ℕ) (xs ys : List ℕ) → start ≡ at * w → start ≤ length xs → length ys ≡ count * w → r < count
    → slice_chunk (put_mid start k xs ys) w (at + r) ≡ slice_chunk ys w r
record_of_part w at start count k r xs ys here inside long below =
    let next : (r + 1) * w ≡ r * w + 1 * w = add-mul r 1 w in
    ap (λ n. take w (drop n (put_mid start k xs ys))) (let e : (at + r) * w ≡ start + r * w = omega (arith, add-mul at r w) in e)
    ∙ chunk_within w (r * w) start k xs ys (omega (arith, block_fits_at w r count below)) inside

-- a record before the part, or after it
pub record_beside_part : (w at start count k q : ℕ) (xs ys : List ℕ) → start ≡ at * w → start + length ys ≤ length xs
    → length ys ≡ count * w → k ≡ length ys → (q < at) ⊎ (at + count ≤ q)
    → slice_chunk (put_mid start k xs ys) w q ≡ slice_chunk xs w q
record_beside_part w at start count k q xs ys here inside long all beside =
    let next : (q + 1) * w ≡ q * w + 1 * w = add-mul q 1 w in
    let end : (at + count) * w ≡ at * w + count * w = add-mul at count w in
    ⊎_elim
    (λ (p : q < at). chunk_before w (q * w) start k xs ys (omega (arith, block_fits_at w q at p)) (omega arith))
    (λ (p : at + count ≤ q).
    ap (take w) (drop-put_mid start k xs ys (q * w) (omega (arith, mul-le-mul_right w p)) (omega arith) (omega arith)))
    beside
