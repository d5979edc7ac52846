-- Records of runs and of tiles.
use Rattle.std.proofs.Common.{◌≡◌, ◌≢◌, ℕ, ◌+◌, ◌-◌, ◌*◌, ◌/◌, ◌%◌, ◌^◌, ◌<◌, ◌≤◌, bit_xor, sym, ap, ◌∙◌, subst, arith, inl, inr, ⊎_elim}
use Rattle.std.proofs.Common.{◌⊎◌, List}
use Rattle.std.specs.Fork.{slice_chunk}
use Rattle.std.specs.Int.Bits.{xor_shifted, xor_mod, xor_shr, xor_assoc, xor_zero_l}
use Rattle.std.proofs.lemmas.Nat.{pow_pos, pow_below, pow-add, xor_lt, div-mul-add, shl_whole, shr_split}
use Rattle.std.proofs.lemmas.Bool.{cases_lt, cases_eq}
use Rattle.std.proofs.Math.Pow.{pow_mono, mod-mod-pow}
use Rattle.std.proofs.Math.Nat.{mod-eq_of_lt, div-eq_of_lt, mod-lt, mul-le-mul_right, mul_assoc, mul-add-div_right}
use Rattle.bm_gf2.specs.declared.matrix.Matrix.{Matrix}
use Rattle.bm_gf2.specs.Matrix.{image, column, IsNonsingular}
use Rattle.bm_gf2.specs.Vector.{xor_sum}
use Rattle.bm_gf2.proofs.VectorLemmas.{xor_sum-mod, xor_sum-shr, xor_sum-ext, xor_sum-units, xor_sum-xor, xor_sum-above, xor_sum-lt}
use Rattle.bm_gf2.proofs.VectorLemmas.{xor_same}
use Rattle.bm_gf2.proofs.ShiftLemmas.{image_below}
use Rattle.bm_bufs.specs.declared.tile_map.TileMap.{TileMap}
use Rattle.bm_bufs.specs.Tiles.{origin, HasRunBasis, KeepsTiles}
use Rattle.bm_bufs.specs.TileMoves.{FillsRun}
use Rattle.bm_bufs.proofs.PlacesLemmas.{places_by-injective}
use Rattle.bm_bufs.proofs.RunLemmas.{first_clear, run_count, chunk_copied}
use Rattle.bm_base.proofs.PowerLemmas.{cut_below}

-- where there are no low bits, a XOR of low bits is a sum
xor_low : (z low j : ℕ) → z % 2 ^ low ≡ 0 → j < 2 ^ low → bit_xor z j ≡ z + j
xor_low z low j clear small =
    let p = shr_split z low in
    let e : z / 2 ^ low * 2 ^ low ≡ z = omega arith in
    subst (λ x. bit_xor x j ≡ x + j) e (xor_shifted (z / 2 ^ low) low j small)

-- a place has the low bits of its number
low_rows : (b : Matrix) (low z : ℕ) → HasRunBasis b low → z < 2 ^ b.n → image b z % 2 ^ low ≡ z % 2 ^ low
low_rows b low z runs short =
    xor_sum-mod (column b) b.n low z
    ∙ xor_sum-ext (λ j. column b j % 2 ^ low) (λ j. 2 ^ j % 2 ^ low) b.n z runs.lows
    ∙ sym (xor_sum-mod (λ j. 2 ^ j) b.n low z)
    ∙ ap (λ x. x % 2 ^ low) (xor_sum-units b.n z ∙ mod-eq_of_lt short)

-- the places of a run follow its first one
in_run : (b : Matrix) (low z j : ℕ) → HasRunBasis b low → low ≤ b.n → z < 2 ^ b.n → z % 2 ^ low ≡ 0 → j < 2 ^ low
    → image b (z + j) ≡ image b z + j
in_run b low z j runs few short clear small =
    let own : image b j ≡ j = xor_sum-above (column b) low b.n j few small
    ∙ xor_sum-ext (column b) (λ i. 2 ^ i) low j runs.units
    ∙ xor_sum-units low j ∙ mod-eq_of_lt small in
    ap (image b) (sym (xor_low z low j clear small)) ∙ xor_sum-xor (column b) b.n z j ∙ ap (bit_xor (image b z)) own
    ∙ xor_low (image b z) low j (low_rows b low z runs short ∙ clear) small

-- an origin is of the same tile
pub kept_tile : (b : Matrix) (plus tile z : ℕ) → KeepsTiles b plus tile → z < 2 ^ b.n → origin b plus z / 2 ^ tile ≡ z / 2 ^ tile
kept_tile b plus tile z keeps short =
    xor_shr plus (image b z) tile
    ∙ xor_same (div-eq_of_lt keeps.start)
    (xor_sum-shr (column b) b.n tile z
    ∙ xor_sum-ext (λ j. column b j / 2 ^ tile) (λ j. 2 ^ j / 2 ^ tile) b.n z keeps.highs
    ∙ sym (xor_sum-shr (λ j. 2 ^ j) b.n tile z)
    ∙ ap (λ x. x / 2 ^ tile) (xor_sum-units b.n z ∙ mod-eq_of_lt short))
    ∙ xor_zero_l (z / 2 ^ tile)

-- a low column stays below the tile's size
pub low_column : (b : Matrix) (plus tile j : ℕ) → KeepsTiles b plus tile → j < b.n → j < tile → column b j < 2 ^ tile
low_column b plus tile j keeps inside small =
    let c = column b j in
    let none : c / 2 ^ tile ≡ 0 = keeps.highs j inside ∙ div-eq_of_lt (pow_below j tile small) in
    let p = shr_split c tile in
    let less : c % 2 ^ tile < 2 ^ tile = mod-lt c (pow_pos tile) in
    let e : c / 2 ^ tile * 2 ^ tile ≡ 0 * 2 ^ tile = ap (λ x. x * 2 ^ tile) none in
    omega arith

-- so do sums of low columns
pub low_below : (b : Matrix) (plus tile low j : ℕ) → KeepsTiles b plus tile → low ≤ tile → tile ≤ b.n → xor_sum (column b) low j < 2 ^ tile
low_below b plus tile low j keeps inside few = xor_sum-lt (column b) low tile j
    (λ i below. low_column b plus tile i keeps (omega arith) (omega arith))

-- so has an origin
pub origin_below : (b : Matrix) (plus tile z : ℕ) → KeepsTiles b plus tile → tile ≤ b.n → origin b plus z < 2 ^ b.n
origin_below b plus tile z keeps few =
    xor_lt b.n plus (image b z) (let p : 2 ^ tile ≤ 2 ^ b.n = pow_mono few in omega (arith, keeps.start)) (image_below b z)

-- the origins of a run, by the low columns
origin_in_run : (b : Matrix) (plus tile low z j : ℕ) → KeepsTiles b plus tile → low ≤ tile → tile ≤ b.n → z % 2 ^ low ≡ 0 → j < 2 ^ low
    → origin b plus (z + j) % 2 ^ tile ≡ bit_xor (origin b plus z % 2 ^ tile) (xor_sum (column b) low j)
origin_in_run b plus tile low z j keeps inside few clear small =
    let own : image b j ≡ xor_sum (column b) low j = xor_sum-above (column b) low b.n j (omega arith) small in
    ap (λ x. x % 2 ^ tile) (
    ap (origin b plus) (sym (xor_low z low j clear small))
    ∙ ap (bit_xor plus) (xor_sum-xor (column b) b.n z j ∙ ap (bit_xor (image b z)) own)
    ∙ sym (xor_assoc plus (image b z) (xor_sum (column b) low j)))
    ∙ xor_mod (origin b plus z) (xor_sum (column b) low j) tile
    ∙ ap (bit_xor (origin b plus z % 2 ^ tile)) (mod-eq_of_lt (low_below b plus tile low j keeps inside few))

-- a place outside a run's places is that of another run's number
apart : (b : Matrix) (low r z : ℕ) → IsNonsingular b → HasRunBasis b low → low ≤ b.n → r * 2 ^ low + 2 ^ low ≤ 2 ^ b.n → z < 2 ^ b.n
    → z / 2 ^ low ≢ r → (image b z < image b (r * 2 ^ low)) ⊎ (image b (r * 2 ^ low) + 2 ^ low ≤ image b z)
apart b low r z nonsingular runs few fits short other =
    let first = r * 2 ^ low in
    let at = image b first in
    let some : 0 < 2 ^ low = pow_pos low in
    ⊎_elim
    (λ (p : image b z < at). inl p)
    (λ (p : at ≤ image b z).
    ⊎_elim
    (λ (q : image b z < at + 2 ^ low).
    let j = image b z - at in
    let goes : image b (first + j) ≡ at + j = in_run b low first j runs few (omega arith) (first_clear r low) (omega arith) in
    let same : image b (first + j) ≡ image b z = goes ∙ (let e : at + j ≡ image b z = omega arith in e) in
    ⊎_elim
    (λ (s : first + j ≡ z). absurd (other (ap (λ x. x / 2 ^ low) (sym s) ∙ div-mul-add r (2 ^ low) j (omega arith))))
    (λ (s : first + j ≢ z). absurd ((places_by-injective b 0 nonsingular).apart (first + j) z (omega arith) short s (ap (bit_xor 0) same)))
    (cases_eq (first + j) z))
    (λ (q : at + 2 ^ low ≤ image b z). inr q)
    (cases_lt (image b z) (at + 2 ^ low)))
    (cases_lt (image b z) at)

-- the run of a number, by its tile and its run there
tile_run : (z tile low : ℕ) → low ≤ tile → z / 2 ^ low ≡ z / 2 ^ tile * 2 ^ (tile - low) + z % 2 ^ tile / 2 ^ low
tile_run z tile low few =
    ap (λ x. x / 2 ^ low) (sym (shr_split z tile))
    ∙ ap (λ x. (z / 2 ^ tile * x + z % 2 ^ tile) / 2 ^ low) (run_count tile low few)
    ∙ ap (λ x. (x + z % 2 ^ tile) / 2 ^ low) (sym (mul_assoc (z / 2 ^ tile) (2 ^ (tile - low)) (2 ^ low)))
    ∙ mul-add-div_right (pow_pos low) (z / 2 ^ tile * 2 ^ (tile - low)) (z % 2 ^ tile)

-- the place in the run, by that in the tile
low_again : (z tile low : ℕ) → low ≤ tile → z % 2 ^ tile % 2 ^ low ≡ z % 2 ^ low
low_again z tile low few = let e : tile - low + low ≡ tile = omega arith in
    subst (λ x. z % 2 ^ x % 2 ^ low ≡ z % 2 ^ low) e (mod-mod-pow z (tile - low) low)

-- a number of a tile
tile_end : (z n tile : ℕ) → tile ≤ n → z / 2 ^ tile < 2 ^ (n - tile) → z < 2 ^ n
tile_end z n tile few inside =
    let p = shr_split z tile in
    let less : z % 2 ^ tile < 2 ^ tile = mod-lt z (pow_pos tile) in
    let whole = run_count n tile few in
    let room : (z / 2 ^ tile + 1) * 2 ^ tile ≤ 2 ^ (n - tile) * 2 ^ tile =
    mul-le-mul_right (2 ^ tile) (let e : z / 2 ^ tile + 1 ≤ 2 ^ (n - tile) = omega arith in e) in
    omega arith

-- the runs of tile o
pub in_tile : (z tile low o : ℕ) → low ≤ tile → z / 2 ^ tile ≡ o
    → (o * 2 ^ (tile - low) ≤ z / 2 ^ low) × (z / 2 ^ low < o * 2 ^ (tile - low) + 2 ^ (tile - low))
in_tile z tile low o few is =
    let run : z / 2 ^ low ≡ o * 2 ^ (tile - low) + z % 2 ^ tile / 2 ^ low = tile_run z tile low few
    ∙ ap (λ x. x * 2 ^ (tile - low) + z % 2 ^ tile / 2 ^ low) is in
    let inside = cut_below tile low (z % 2 ^ tile) few (mod-lt z (pow_pos tile)) in
    (omega arith, omega arith)

-- the runs of the others
pub out_of_tile : (z tile low o : ℕ) → low ≤ tile → (z / 2 ^ tile < o) ⊎ (o < z / 2 ^ tile)
    → (z / 2 ^ low < o * 2 ^ (tile - low)) ⊎ (o * 2 ^ (tile - low) + 2 ^ (tile - low) ≤ z / 2 ^ low)
out_of_tile z tile low o few other =
    let run = tile_run z tile low few in
    let inside = cut_below tile low (z % 2 ^ tile) few (mod-lt z (pow_pos tile)) in
    let own = z / 2 ^ tile in
    ⊎_elim
    (λ (p : own < o). let room : (own + 1) * 2 ^ (tile - low) ≤ o * 2 ^ (tile - low) =
    mul-le-mul_right (2 ^ (tile - low)) (let e : own + 1 ≤ o = omega arith in e) in inl (omega arith))
    (λ (p : o < own). let room : (o + 1) * 2 ^ (tile - low) ≤ own * 2 ^ (tile - low) =
    mul-le-mul_right (2 ^ (tile - low)) (let e : o + 1 ≤ own = omega arith in e) in inr (omega arith))
    other

-- a shift that loses no bits
pub shift_fits : (x j k : ℕ) → x < 2 ^ j → (x + 1) * 2 ^ k ≤ 2 ^ (j + k)
shift_fits x j k short =
    subst (λ p. (x + 1) * 2 ^ k ≤ p) (sym (pow-add 2 j k)) (mul-le-mul_right (2 ^ k) (let e : x + 1 ≤ 2 ^ j = omega arith in e))

-- the number of a tile's run
pub run_of_tile : (o q n tile low : ℕ) → low ≤ tile → tile ≤ n → o < 2 ^ (n - tile) → q < 2 ^ (tile - low)
    → o * 2 ^ (tile - low) + q < 2 ^ (n - low)
run_of_tile o q n tile low few inside tile_short run_short =
    let room : (o + 1) * 2 ^ (tile - low) ≤ 2 ^ (n - tile + (tile - low)) = shift_fits o (n - tile) (tile - low) tile_short in
    let e : 2 ^ (n - tile + (tile - low)) ≡ 2 ^ (n - low) = ap (λ x. 2 ^ x) (let e : n - tile + (tile - low) ≡ n - low = omega arith in e)
    in
    omega arith

-- the numbers of a run stay below 2 ^ n
pub run_end : (r n low : ℕ) → low ≤ n → r < 2 ^ (n - low) → r * 2 ^ low + 2 ^ low ≤ 2 ^ n
run_end r n low few short =
    let room : (r + 1) * 2 ^ low ≤ 2 ^ (n - low + low) = shift_fits r (n - low) low short in
    let e : 2 ^ (n - low + low) ≡ 2 ^ n = ap (λ x. 2 ^ x) (let e : n - low + low ≡ n = omega arith in e) in
    omega arith

-- the first place of a run leaves room for the run
pub place_fits : (b : Matrix) (low r : ℕ) → HasRunBasis b low → low ≤ b.n → r < 2 ^ (b.n - low)
    → (image b (r * 2 ^ low) / 2 ^ low * 2 ^ low ≡ image b (r * 2 ^ low)) × (image b (r * 2 ^ low) + 2 ^ low ≤ 2 ^ b.n)
place_fits b low r runs few short =
    let at = image b (r * 2 ^ low) in
    let some : 0 < 2 ^ low = pow_pos low in
    let end = run_end r b.n low few short in
    let clear : at % 2 ^ low ≡ 0 = low_rows b low (r * 2 ^ low) runs (omega arith) ∙ first_clear r low in
    let p = shr_split at low in
    let run : at / 2 ^ low < 2 ^ (b.n - low) = cut_below b.n low at few (image_below b (r * 2 ^ low)) in
    let room = run_end (at / 2 ^ low) b.n low few run in
    (omega arith, omega arith)

-- bytes of a tile's runs
pub runs_of_tile : (q tile low width : ℕ) → low ≤ tile → q < 2 ^ (tile - low) → (q + 1) * (2 ^ low * width) ≤ 2 ^ tile * width
runs_of_tile q tile low width few short =
    let room : (q + 1) * (2 ^ low * width) ≤ 2 ^ (tile - low) * (2 ^ low * width) =
    mul-le-mul_right (2 ^ low * width) (let e : q + 1 ≤ 2 ^ (tile - low) = omega arith in e) in
    let e : 2 ^ (tile - low) * (2 ^ low * width) ≡ 2 ^ tile * width =
    sym (mul_assoc (2 ^ (tile - low)) (2 ^ low) width) ∙ ap (λ x. x * width) (sym (run_count tile low few)) in
    omega arith

-- a whole tile in the row, from its runs
pub gathered : (m : TileMap) (w o : ℕ) (load row : List ℕ) → o < 2 ^ (m.basis.n - m.tile)
    → ((k : ℕ) → k < 2 ^ (m.tile - m.low)
    → slice_chunk row (2 ^ m.low * w) k ≡ slice_chunk load (2 ^ m.low * w)
    (image m.basis ((o * 2 ^ (m.tile - m.low) + k) * 2 ^ m.low) / 2 ^ m.low))
    → (z : ℕ) → z / 2 ^ m.tile ≡ o → slice_chunk row w (z % 2 ^ m.tile) ≡ slice_chunk load w (image m.basis z)
gathered m w o load row inside runs z is =
    let few : m.low ≤ m.basis.n = omega (arith, m.low_in, m.tile_in, m.basis_size) in
    let tile_few : m.tile ≤ m.basis.n = omega (arith, m.tile_in, m.basis_size) in
    let k = z % 2 ^ m.tile / 2 ^ m.low in
    let j = z % 2 ^ m.tile % 2 ^ m.low in
    let r = o * 2 ^ (m.tile - m.low) + k in
    let at = image m.basis (r * 2 ^ m.low) in
    let small : j < 2 ^ m.low = mod-lt (z % 2 ^ m.tile) (pow_pos m.low) in
    let run : k < 2 ^ (m.tile - m.low) = cut_below m.tile m.low (z % 2 ^ m.tile) m.low_in (mod-lt z (pow_pos m.tile)) in
    let number : z / 2 ^ m.low ≡ r = tile_run z m.tile m.low m.low_in ∙ ap (λ x. x * 2 ^ (m.tile - m.low) + k) is in
    let again = low_again z m.tile m.low m.low_in in
    let p : z / 2 ^ m.low * 2 ^ m.low + z % 2 ^ m.low ≡ z = shr_split z m.low in
    let first : z / 2 ^ m.low * 2 ^ m.low ≡ r * 2 ^ m.low = ap (λ x. x * 2 ^ m.low) number in
    let sum : r * 2 ^ m.low + j ≡ z = omega arith in
    let short : z < 2 ^ m.basis.n = tile_end z m.basis.n m.tile tile_few (subst (λ x. x < 2 ^ (m.basis.n - m.tile)) (sym is) inside) in
    let goes : image m.basis (r * 2 ^ m.low + j) ≡ at + j =
    in_run m.basis m.low (r * 2 ^ m.low) j m.runs few (omega arith) (first_clear r m.low) small in
    let whole = (place_fits m.basis m.low r m.runs few (run_of_tile o k m.basis.n m.tile m.low m.low_in tile_few inside run)).0 in
    ap (slice_chunk row w) (sym (shr_split (z % 2 ^ m.tile) m.low))
    ∙ chunk_copied w (2 ^ m.low) k (at / 2 ^ m.low) j row load small (runs k run)
    ∙ ap (slice_chunk load w) (ap (λ x. x + j) whole ∙ sym goes ∙ ap (image m.basis) sum)

-- the places of a run that was filled
pub filled_run : (m : TileMap) (w r : ℕ) (row old new : List ℕ) → r < 2 ^ (m.basis.n - m.low)
    → FillsRun m w (image m.basis (r * 2 ^ m.low)) (origin m.back m.back_plus (r * 2 ^ m.low) % 2 ^ m.tile) row old new
    → (z : ℕ) → z / 2 ^ m.low ≡ r → slice_chunk new w (image m.basis z) ≡ slice_chunk row w (origin m.back m.back_plus z % 2 ^ m.tile)
filled_run m w r row old new inside fills z is =
    let few : m.low ≤ m.basis.n = omega (arith, m.low_in, m.tile_in, m.basis_size) in
    let j = z % 2 ^ m.low in
    let small : j < 2 ^ m.low = mod-lt z (pow_pos m.low) in
    let p : z / 2 ^ m.low * 2 ^ m.low + z % 2 ^ m.low ≡ z = shr_split z m.low in
    let first : z / 2 ^ m.low * 2 ^ m.low ≡ r * 2 ^ m.low = ap (λ x. x * 2 ^ m.low) is in
    let sum : z ≡ r * 2 ^ m.low + j = omega arith in
    let end = run_end r m.basis.n m.low few inside in
    let some : 0 < 2 ^ m.low = pow_pos m.low in
    ap (slice_chunk new w) (ap (image m.basis) sum
    ∙ in_run m.basis m.low (r * 2 ^ m.low) j m.runs few (omega arith) (first_clear r m.low) small)
    ∙ fills.moved j small
    ∙ ap (slice_chunk row w) (
    sym (origin_in_run m.back m.back_plus m.tile m.low (r * 2 ^ m.low) j m.tiles m.low_in
    (omega (arith, m.tile_in, m.back_size)) (first_clear r m.low) small)
    ∙ ap (λ x. origin m.back m.back_plus x % 2 ^ m.tile) (sym sum))

-- the other places
pub filled_other : (m : TileMap) (w r first : ℕ) (row old new : List ℕ) → r < 2 ^ (m.basis.n - m.low)
    → FillsRun m w (image m.basis (r * 2 ^ m.low)) first row old new
    → (z : ℕ) → z < 2 ^ m.basis.n → z / 2 ^ m.low ≢ r → slice_chunk new w (image m.basis z) ≡ slice_chunk old w (image m.basis z)
filled_other m w r first row old new inside fills z short other =
    let few : m.low ≤ m.basis.n = omega (arith, m.low_in, m.tile_in, m.basis_size) in
    fills.others (image m.basis z)
    (apart m.basis m.low r z m.nonsingular m.runs few (run_end r m.basis.n m.low few inside) short other)

-- the first run of a tile, as the code reckons it
pub tile_start : (m : TileMap) (o : ℕ) → o < 2 ^ (m.basis.n - m.tile)
    → (o * 2 ^ (m.tile - m.low) % 18446744073709551616 ≡ o * 2 ^ (m.tile - m.low))
    × (o * 2 ^ (m.tile - m.low) % 18446744073709551616 * 2 ^ m.low % 18446744073709551616 ≡ (o * 2 ^ (m.tile - m.low) + 0) * 2 ^ m.low)
    × ((o * 2 ^ (m.tile - m.low) + 0) * 2 ^ m.low < 2 ^ m.basis.n)
tile_start m o inside =
    let n = m.basis.n in
    let few : n ≤ 52 = omega (arith, m.basis.few) in
    let low_few : m.low ≤ n = omega (arith, m.low_in, m.tile_in, m.basis_size) in
    let tile_few : m.tile ≤ n = omega (arith, m.tile_in, m.basis_size) in
    let start = o * 2 ^ (m.tile - m.low) in
    let short : start + 0 < 2 ^ (n - m.low) = run_of_tile o 0 n m.tile m.low m.low_in tile_few inside (pow_pos (m.tile - m.low)) in
    let whole : start % 18446744073709551616 ≡ start = shl_whole o (n - m.tile) (m.tile - m.low) 64 inside (omega (arith, m.low_in)) in
    let again : start * 2 ^ m.low % 18446744073709551616 ≡ start * 2 ^ m.low = shl_whole start (n - m.low) m.low 64 (omega arith)
    (omega arith) in
    let end = run_end (start + 0) n m.low low_few short in
    let some : 0 < 2 ^ m.low = pow_pos m.low in (
      whole,
      ap (λ x. x * 2 ^ m.low % 18446744073709551616) whole ∙ again ∙ ap (λ x. x * 2 ^ m.low) (let e : start ≡ start + 0 = omega arith in e),
      omega arith,
    )
