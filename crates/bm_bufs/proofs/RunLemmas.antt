-- Records of runs that move as a whole.
use Rattle.std.proofs.Common.{◌≡◌, ℕ, zero, suc, refl, ◌+◌, ◌-◌, ◌*◌, ◌/◌, ◌%◌, ◌^◌, ◌<◌, ◌≤◌, ◌⊎◌, inl, inr, ⊎_elim, List, bit_xor, take}
use Rattle.std.proofs.Common.{drop, sym, ap, ◌∙◌, subst, arith}
use Rattle.std.specs.Fork.{slice_chunk}
use Rattle.std.specs.Int.{bit_at}
use Rattle.std.specs.Int.Bits.{xor_shifted, xor_mod, xor_shr, xor_assoc, xor_self, xor_zero_l}
use Rattle.std.proofs.lemmas.Nat.{pow_pos, pow-add, mod-mul-add, div-mul-add, shl-shr}
use Rattle.std.proofs.lemmas.Nat.Bits.{bit_at_cat_low}
use Rattle.std.proofs.lemmas.Bool.{cases_lt}
use Rattle.std.proofs.Math.Nat.{mod-lt, mod-eq_of_lt, mod-add-div', mul-le-mul_right, add-mul}
use Rattle.std.proofs.Math.Pow.{pow_mono}
use Rattle.bm_base.proofs.ChunkLemmas.{chunk_of_part}
use Rattle.bm_base.proofs.PowerLemmas.{cut_below}
use Rattle.bm_gf2.specs.declared.matrix.Matrix.{Matrix}
use Rattle.bm_gf2.specs.Matrix.{column, image, IsNonsingular}
use Rattle.bm_gf2.specs.Vector.{xor_sum}
use Rattle.bm_gf2.proofs.VectorLemmas.{xor_sum-zero, xor_sum-bits, xor_sum-ext, xor_sum-units, xor_sum-above, xor_sum-split, xor_sum-shr}
use Rattle.bm_gf2.proofs.VectorLemmas.{xor_sum-mod, xor_sum-xor, xor_same}
use Rattle.bm_bufs.specs.Places.{places_by, PlacesRecords}
use Rattle.bm_bufs.specs.Runs.{KeepsRuns, IsRunMatrix}

-- the first number of a run has no low bits
pub first_clear : (r low : ℕ) → r * 2 ^ low % 2 ^ low ≡ 0
first_clear r low = ap (λ x. x % 2 ^ low) (let e : r * 2 ^ low ≡ r * 2 ^ low + 0 = omega arith in e)
    ∙ mod-mul-add r (2 ^ low) 0 (pow_pos low)

-- a number without low bits is that of its run
pub whole_run : (x low : ℕ) → x % 2 ^ low ≡ 0 → x / 2 ^ low * 2 ^ low ≡ x
whole_run x low none = let parts : x % 2 ^ low + x / 2 ^ low * 2 ^ low ≡ x = mod-add-div' x (2 ^ low) in omega arith

-- columns of 0
xor_sum-none : (k x : ℕ) → xor_sum (λ j. 0) k x ≡ 0
unfolding xor_sum
xor_sum-none zero x = refl
xor_sum-none (suc k) x = xor_same (xor_sum-none k x) (let e : bit_at x k * 0 ≡ 0 = omega arith in e) ∙ xor_self 0

-- the image of a run's first number, in the columns from low on
image_of_first : (a : Matrix) (plus low r : ℕ) → KeepsRuns a plus low
    → image a (r * 2 ^ low) ≡ xor_sum (λ j. column a (low + j)) (a.n - low) r
image_of_first a plus low r keeps =
    let size : low + (a.n - low) ≡ a.n = omega (arith, keeps.inside) in
    let lows : xor_sum (column a) low (r * 2 ^ low) ≡ 0 =
    xor_sum-bits (column a) low (r * 2 ^ low) 0
    (λ j below. ap (λ c. bit_at c j) (let e : r * 2 ^ low ≡ r * 2 ^ low + 0 = omega arith in e) ∙ bit_at_cat_low r low 0 j below)
    ∙ xor_sum-zero (column a) low in
    ap (λ k. xor_sum (column a) k (r * 2 ^ low)) (sym size)
    ∙ xor_sum-split (column a) low (a.n - low) (r * 2 ^ low)
    ∙ ap (λ c. bit_xor c (xor_sum (λ j. column a (low + j)) (a.n - low) (r * 2 ^ low / 2 ^ low))) lows
    ∙ xor_zero_l (xor_sum (λ j. column a (low + j)) (a.n - low) (r * 2 ^ low / 2 ^ low))
    ∙ ap (xor_sum (λ j. column a (low + j)) (a.n - low)) (shl-shr r low)

-- it has no low bits
image_clear : (a : Matrix) (plus low r : ℕ) → KeepsRuns a plus low → image a (r * 2 ^ low) % 2 ^ low ≡ 0
image_clear a plus low r keeps =
    ap (λ c. c % 2 ^ low) (image_of_first a plus low r keeps)
    ∙ xor_sum-mod (λ j. column a (low + j)) (a.n - low) low r
    ∙ xor_sum-ext (λ j. column a (low + j) % 2 ^ low) (λ j. 0) (a.n - low) r (λ j below. keeps.others (low + j) (omega arith) (omega arith))
    ∙ xor_sum-none (a.n - low) r

-- the matrix of the runs sends their numbers to those of the images
image_of_run : (a runs : Matrix) (plus low r : ℕ) → KeepsRuns a plus low → IsRunMatrix a low runs
    → image runs r ≡ image a (r * 2 ^ low) / 2 ^ low
image_of_run a runs plus low r keeps is =
    xor_sum-ext (column runs) (λ j. column a (low + j) / 2 ^ low) runs.n r is.columns
    ∙ ap (λ k. xor_sum (λ j. column a (low + j) / 2 ^ low) k r) is.size
    ∙ sym (ap (λ c. c / 2 ^ low) (image_of_first a plus low r keeps) ∙ xor_sum-shr (λ j. column a (low + j)) (a.n - low) low r)

-- the matrix of the runs is nonsingular too
pub run_nonsingular : (a runs : Matrix) (plus low : ℕ) → KeepsRuns a plus low → IsRunMatrix a low runs → IsNonsingular a
    → IsNonsingular runs
run_nonsingular a runs plus low keeps is nonsingular r short none =
    let M = image a (r * 2 ^ low) in
    let run : M / 2 ^ low ≡ 0 = sym (image_of_run a runs plus low r keeps is) ∙ none in
    let image_none : M ≡ 0 = sym (whole_run M low (image_clear a plus low r keeps)) ∙ ap (λ c. c * 2 ^ low) run
    ∙ (let e : 0 * 2 ^ low ≡ 0 = omega arith in e) in
    let some : 0 < 2 ^ low = pow_pos low in
    let short_run : r < 2 ^ (a.n - low) = subst (λ k. r < 2 ^ k) is.size short in
    let room : (r + 1) * 2 ^ low ≤ 2 ^ (a.n - low) * 2 ^ low =
    mul-le-mul_right (2 ^ low) (let e : r + 1 ≤ 2 ^ (a.n - low) = omega arith in e) in
    let all : 2 ^ (a.n - low) * 2 ^ low ≡ 2 ^ a.n = sym (pow-add 2 (a.n - low) low)
    ∙ ap (λ k. 2 ^ k) (let e : a.n - low + low ≡ a.n = omega (arith, keeps.inside) in e) in
    let first_none : r * 2 ^ low ≡ 0 = nonsingular (r * 2 ^ low) (omega arith) image_none in
    ⊎_elim (λ (p : r < 1). omega arith)
    (λ (p : 1 ≤ r). let more : 1 * 2 ^ low ≤ r * 2 ^ low = mul-le-mul_right (2 ^ low) p in absurd (omega arith)) (cases_lt r 1)

-- the place of a run's first record has no low bits
pub place_of_first : (a : Matrix) (plus low r : ℕ) → KeepsRuns a plus low → places_by a plus (r * 2 ^ low) % 2 ^ low ≡ 0
place_of_first a plus low r keeps =
    xor_mod plus (image a (r * 2 ^ low)) low ∙ xor_same keeps.constant (image_clear a plus low r keeps) ∙ xor_self 0

-- those of its other records follow
pub place_follows : (a : Matrix) (plus low r j : ℕ) → KeepsRuns a plus low → j < 2 ^ low
    → places_by a plus (r * 2 ^ low + j) ≡ places_by a plus (r * 2 ^ low) + j
place_follows a plus low r j keeps small =
    let own : image a j ≡ j = xor_sum-above (column a) low a.n j (omega (arith, keeps.inside)) small
    ∙ xor_sum-ext (column a) (λ i. 2 ^ i) low j keeps.units ∙ xor_sum-units low j ∙ mod-eq_of_lt small in
    let M = image a (r * 2 ^ low) in
    let first = bit_xor plus M in
    let whole = whole_run first low (place_of_first a plus low r keeps) in
    ap (λ y. bit_xor plus (image a y)) (sym (xor_shifted r low j small))
    ∙ ap (bit_xor plus) (xor_sum-xor (column a) a.n (r * 2 ^ low) j ∙ ap (bit_xor M) own)
    ∙ sym (xor_assoc plus M j)
    ∙ ap (λ y. bit_xor y j) (sym whole)
    ∙ xor_shifted (first / 2 ^ low) low j small
    ∙ ap (λ y. y + j) whole

-- the place of a run's record
pub place_in_run : (a runs : Matrix) (plus low x : ℕ) → KeepsRuns a plus low → IsRunMatrix a low runs
    → places_by a plus x ≡ places_by runs (plus / 2 ^ low) (x / 2 ^ low) * 2 ^ low + x % 2 ^ low
place_in_run a runs plus low x keeps is =
    let r = x / 2 ^ low in
    let j = x % 2 ^ low in
    let parts : j + r * 2 ^ low ≡ x = mod-add-div' x (2 ^ low) in
    let M = image a (r * 2 ^ low) in
    let first = bit_xor plus M in
    let run : places_by runs (plus / 2 ^ low) r ≡ first / 2 ^ low =
    ap (bit_xor (plus / 2 ^ low)) (image_of_run a runs plus low r keeps is) ∙ sym (xor_shr plus M low) in
    ap (places_by a plus) (let e : x ≡ r * 2 ^ low + j = omega arith in e)
    ∙ place_follows a plus low r j keeps (mod-lt x (pow_pos low))
    ∙ ap (λ y. y + j) (sym (whole_run first low (place_of_first a plus low r keeps)) ∙ ap (λ y. y * 2 ^ low) (sym run))

-- a record of a run
chunk_of_run : (width size i j : ℕ) (xs : List ℕ) → j < size
    → slice_chunk (slice_chunk xs (size * width) i) width j ≡ slice_chunk xs width (i * size + j)
chunk_of_run width size i j xs small =
    let room : (j + 1) * width ≤ size * width = mul-le-mul_right width (let e : j + 1 ≤ size = omega arith in e) in
    chunk_of_part width (j * width) (size * width) (i * (size * width)) xs (let e : j * width + width ≤ size * width = omega arith in e)
    ∙ ap (λ k. take width (drop k xs)) (let e : i * (size * width) + j * width ≡ (i * size + j) * width = omega arith in e)

-- a record of a run that was copied whole
pub chunk_copied : (width size i k j : ℕ) (xs ys : List ℕ) → j < size → slice_chunk xs (size * width) i ≡ slice_chunk ys (size * width) k
    → slice_chunk xs width (i * size + j) ≡ slice_chunk ys width (k * size + j)
chunk_copied width size i k j xs ys small same =
    sym (chunk_of_run width size i j xs small) ∙ ap (λ zs. slice_chunk zs width j) same ∙ chunk_of_run width size k j ys small

-- a number's run lies below that of a later first number
run_below : (x y size : ℕ) → 0 < size → y % size ≡ 0 → x < y → x / size < y / size
run_below x y size some none below =
    let parts_x : x % size + x / size * size ≡ x = mod-add-div' x size in
    let parts_y : y % size + y / size * size ≡ y = mod-add-div' y size in
    ⊎_elim (λ (p : x / size < y / size). p)
    (λ (p : y / size ≤ x / size). let more : y / size * size ≤ x / size * size = mul-le-mul_right size p in absurd (omega arith))
    (cases_lt (x / size) (y / size))

-- and not below that of an earlier one
run_reached : (x y size : ℕ) → 0 < size → y % size ≡ 0 → y ≤ x → y / size ≤ x / size
run_reached x y size some none reached =
    ⊎_elim
    (λ (p : x / size < y / size).
    let parts_x : x % size + x / size * size ≡ x = mod-add-div' x size in
    let parts_y : y % size + y / size * size ≡ y = mod-add-div' y size in
    let rest : x % size < size = mod-lt x some in
    let more : (x / size + 1) * size ≤ y / size * size = mul-le-mul_right size (let e : x / size + 1 ≤ y / size = omega arith in e) in
    let next : (x / size + 1) * size ≡ x / size * size + 1 * size = add-mul (x / size) 1 size in
    absurd (omega arith))
    (λ (p : y / size ≤ x / size). p)
    (cases_lt (x / size) (y / size))

-- the run of a sum, where the first number begins a run
run_of_sum : (first r size : ℕ) → 0 < size → first % size ≡ 0
    → ((first + r) / size ≡ first / size + r / size) × ((first + r) % size ≡ r % size)
run_of_sum first r size some none =
    let parts_first : first % size + first / size * size ≡ first = mod-add-div' first size in
    let parts_r : r % size + r / size * size ≡ r = mod-add-div' r size in
    let both : (first / size + r / size) * size ≡ first / size * size + r / size * size = add-mul (first / size) (r / size) size in
    let is : first + r ≡ (first / size + r / size) * size + r % size = omega arith in (
      ap (λ x. x / size) is ∙ div-mul-add (first / size + r / size) size (r % size) (mod-lt r some),
      ap (λ x. x % size) is
          ∙ mod-mul-add (first / size + r / size) size (r % size) (mod-lt r some),
    )

-- records that are placed run by run are placed one by one
pub PlacesRecords-runs : (a runs : Matrix) (plus low width first count : ℕ) (row old new : List ℕ) → KeepsRuns a plus low
    → IsRunMatrix a low runs
    → first % 2 ^ low ≡ 0 → count % 2 ^ low ≡ 0
    → PlacesRecords (places_by runs (plus / 2 ^ low)) runs.n (2 ^ low * width) (first / 2 ^ low) (count / 2 ^ low) row old new
    → PlacesRecords (places_by a plus) a.n width first count row old new
PlacesRecords-runs a runs plus low width first count row old new keeps is first_whole count_whole coarse =
    let size = 2 ^ low in
    let some : 0 < size = pow_pos low in
    let run_place = places_by runs (plus / size) in
    let at : (x : ℕ) → places_by a plus x ≡ run_place (x / size) * size + x % size = λ x. place_in_run a runs plus low x keeps is in
    record {
      placed = λ r below.
          let sum = run_of_sum first r size some first_whole in
          let parts : r % size + r / size * size ≡ r = mod-add-div' r size in
          ap (slice_chunk new width) (at (first + r) ∙ ap (λ q. run_place q * size + (first + r) % size) sum.0
          ∙ ap (λ j. run_place (first / size + r / size) * size + j) sum.1)
          ∙ chunk_copied width size (run_place (first / size + r / size)) (r / size) (r % size) new row (mod-lt r some)
          (coarse.placed (r / size) (run_below r count size some count_whole below))
          ∙ ap (slice_chunk row width) (let e : r / size * size + r % size ≡ r = omega arith in e);
      others = λ x inside apart.
          let run : x / size < 2 ^ runs.n =
          subst (λ k. x / size < 2 ^ k) (sym is.size) (cut_below a.n low x (omega (arith, keeps.inside)) inside) in
          let away : (x / size < first / size) ⊎ (first / size + count / size ≤ x / size) = ⊎_elim
          (λ (p : x < first). inl (run_below x first size some first_whole p))
          (λ (p : first + count ≤ x).
          let sum = run_of_sum first count size some first_whole in
          inr (subst (λ k. k ≤ x / size) sum.0 (run_reached x (first + count) size some (sum.1 ∙ count_whole) p)))
          apart in
          ap (slice_chunk new width) (at x)
          ∙ chunk_copied width size (run_place (x / size)) (run_place (x / size)) (x % size) new old (mod-lt x some)
          (coarse.others (x / size) run away)
          ∙ ap (slice_chunk old width) (sym (at x));
      size = coarse.size;
    }

-- 2 ^ n records are 2 ^ (n - low) runs
pub run_count : (n low : ℕ) → low ≤ n → 2 ^ n ≡ 2 ^ (n - low) * 2 ^ low
run_count n low few = ap (λ k. 2 ^ k) (let e : n ≡ n - low + low = omega arith in e) ∙ pow-add 2 (n - low) low

-- the runs of a load
pub runs_of_load : (n low width : ℕ) → low ≤ n → 2 ^ n * width ≡ 2 ^ (n - low) * (2 ^ low * width)
runs_of_load n low width few = ap (λ k. k * width) (run_count n low few)
    ∙ (let e : 2 ^ (n - low) * 2 ^ low * width ≡ 2 ^ (n - low) * (2 ^ low * width) = omega arith in e)

-- the runs of a row
pub runs_of_row : (count low width : ℕ) → count % 2 ^ low ≡ 0 → count / 2 ^ low * (2 ^ low * width) ≡ count * width
runs_of_row count low width whole = (let e : count / 2 ^ low * (2 ^ low * width) ≡ count / 2 ^ low * 2 ^ low * width = omega arith in e)
    ∙ ap (λ k. k * width) (whole_run count low whole)

-- their numbers
pub runs_inside : (n low first count : ℕ) → low ≤ n → first % 2 ^ low ≡ 0 → count % 2 ^ low ≡ 0 → first + count ≤ 2 ^ n
    → first / 2 ^ low + count / 2 ^ low ≤ 2 ^ (n - low)
runs_inside n low first count few first_whole count_whole inside =
    let some : 0 < 2 ^ low = pow_pos low in
    let all = run_count n low few in
    let sum : (first / 2 ^ low + count / 2 ^ low) * 2 ^ low ≡ first + count = add-mul (first / 2 ^ low) (count / 2 ^ low) (2 ^ low)
    ∙ ap (λ k. k + count / 2 ^ low * 2 ^ low) (whole_run first low first_whole) ∙ ap (λ k. first + k) (whole_run count low count_whole) in
    ⊎_elim
    (λ (p : 2 ^ (n - low) < first / 2 ^ low + count / 2 ^ low).
    let more : (2 ^ (n - low) + 1) * 2 ^ low ≤ (first / 2 ^ low + count / 2 ^ low) * 2 ^ low =
    mul-le-mul_right (2 ^ low) (let e : 2 ^ (n - low) + 1 ≤ first / 2 ^ low + count / 2 ^ low = omega arith in e) in
    let next : (2 ^ (n - low) + 1) * 2 ^ low ≡ 2 ^ (n - low) * 2 ^ low + 1 * 2 ^ low = add-mul (2 ^ (n - low)) 1 (2 ^ low) in
    absurd (omega arith))
    (λ (p : first / 2 ^ low + count / 2 ^ low ≤ 2 ^ (n - low)). p)
    (cases_lt (2 ^ (n - low)) (first / 2 ^ low + count / 2 ^ low))

-- a run is no longer than the load
pub run_fits : (n low width : ℕ) → low ≤ n → 2 ^ low * width ≤ 2 ^ n * width
run_fits n low width few = mul-le-mul_right width (pow_mono {i = low} {j = n} few)
