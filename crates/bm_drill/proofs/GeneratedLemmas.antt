-- Generated records in a memory load.
use Rattle.std.proofs.Common.{◌≡◌, inl, inr, ℕ, ◌+◌, ◌-◌, ◌*◌, ◌%◌, ◌^◌, ◌<◌, ◌≤◌, List, length, slice_index, take, drop, length-drop, map}
use Rattle.std.proofs.Common.{sym, ◌∙◌, ap, arith}
use Rattle.std.specs.Int.{byte_at}
use Rattle.std.specs.List.{range_with_len}
use Rattle.std.specs.Fork.{slice_chunk}
use Rattle.std.proofs.lemmas.Bool.{cases_eq}
use Rattle.std.proofs.lemmas.List.{ext_get_or, length-take-le}
use Rattle.std.proofs.lemmas.List.FromFn.{length-map-range_with_len, get_or-map-range_with_len}
use Rattle.std.proofs.Math.Pow.{pow_mono}
use Rattle.std.proofs.Math.Nat.{mul-le-mul_right}
use Rattle.std.proofs.lemmas.Nat.{pow-add}
use Rattle.bm_base.specs.declared.shape.Shape.{Shape}
use Rattle.bm_base.proofs.ChunkLemmas.{chunk_same, chunk_other, block_fits_at}
use Rattle.bm_drill.specs.Generated.{generated, generated_number, spread_bytes}
use borrow.Rule.Slice.PartMut.{put_mid}

-- bytes that are all a number's, again and again
pub filled_all : (number : ℕ) (bytes : List ℕ) (width : ℕ) → length bytes ≡ width
    → ((k : ℕ) → k < width → slice_index bytes k ≡ byte_at (k % 8) number) → bytes ≡ spread_bytes width number
unfolding spread_bytes
filled_all number bytes width long each =
    let f : ℕ → ℕ = λ i. byte_at (i % 8) number in
    ext_get_or 0 bytes (map f (range_with_len 0 width)) (long ∙ sym (length-map-range_with_len f 0 width))
    (λ i below. each i (omega (arith, below, long)) ∙ sym (get_or-map-range_with_len f 0 width i i 0 (omega (arith, below, long))
    (omega arith)))

-- a number's bytes are as many as they are to be
pub length-spread_bytes : (width number : ℕ) → length (spread_bytes width number) ≡ width
unfolding spread_bytes
length-spread_bytes width number = length-map-range_with_len (λ i. byte_at (i % 8) number) 0 width

-- a part of the bytes of some records is as long as a record
part_long : (width count i k : ℕ) (bytes : List ℕ) → i < count → length bytes ≡ count * width → k ≡ width
    → length (take k (drop (i * width) bytes)) ≡ width
part_long width count i k bytes below long size =
    let fits = block_fits_at width i count below in
    let rest = length-drop (i * width) bytes in
    length-take-le k (drop (i * width) bytes) (omega (arith, rest, fits, long, size)) ∙ size

-- one record more
pub records_more : (width start first count i k : ℕ) (old written : List ℕ) → i < count → length old ≡ count * width → k ≡ width
    → ((j : ℕ) → j < i → slice_chunk old width j ≡ generated width start (first + j))
    → written ≡ spread_bytes (length (take k (drop (i * width) old))) (generated_number start (first + i))
    → (j : ℕ) → j < i + 1 → slice_chunk (put_mid (i * width) k old written) width j ≡ generated width start (first + j)
records_more width start first count i k old written below long size before made j less =
    let fits = block_fits_at width i count below in
    let here : written ≡ generated width start (first + i) =
    made ∙ ap (λ (w : ℕ). spread_bytes w (generated_number start (first + i))) (part_long width count i k old below long size) in
    let wide : length written ≡ width = ap length here ∙ length-spread_bytes width _ in
    elim (cases_eq j i) [
      | inl is ↦
          ap (λ (l : ℕ). slice_chunk (put_mid (i * width) k old written) width l) is
          ∙ chunk_same width i k old written (omega (arith, fits, long)) wide ∙ here ∙ ap (λ (l : ℕ). generated width start (first + l))
          (sym is)
      | inr apart ↦
          chunk_other width j i width k old written apart (omega (arith, fits, long)) (omega arith) size wide
          ∙ before j (omega (arith, less, apart))
    ]

-- the addresses of a load are numbers of the type
pub load_numbers : (s : Shape) (load : ℕ) → load < 2 ^ (s.n - s.m) → load * 2 ^ s.m + 2 ^ s.m ≤ 2 ^ 52
load_numbers s load below =
    let exponent : (s.n - s.m) + s.m ≡ s.n = omega (arith, s.keeps.memory) in
    let split : 2 ^ s.n ≡ 2 ^ (s.n - s.m) * 2 ^ s.m = ap (λ (x : ℕ). 2 ^ x) (sym exponent) ∙ pow-add 2 (s.n - s.m) s.m in
    let more : (load + 1) * 2 ^ s.m ≤ 2 ^ (s.n - s.m) * 2 ^ s.m = mul-le-mul_right (2 ^ s.m) (omega (arith, below)) in
    let most : 2 ^ s.n ≤ 2 ^ 52 = pow_mono {i = s.n} {j = 52} s.keeps.addresses in
    omega (arith, split, more, most)
