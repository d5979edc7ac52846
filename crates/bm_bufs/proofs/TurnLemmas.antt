-- The turns of the loops that fill and settle tiles.
use Rattle.std.proofs.Common.{◌≡◌, ◌≢◌, ℕ, ◌+◌, ◌-◌, ◌*◌, ◌/◌, ◌%◌, ◌^◌, ◌<◌, ◌≤◌, bit_xor, sym, ap, ◌∙◌, arith, inl, ⊎_elim}
use Rattle.std.proofs.Common.{◌⊎◌, List}
use Rattle.std.specs.Fork.{slice_chunk}
use Rattle.std.specs.Int.Bits.{xor_assoc, xor_zero_r}
use Rattle.std.proofs.lemmas.Nat.{one_shl}
use Rattle.std.proofs.lemmas.Bool.{cases_lt, cases_eq}
use Rattle.std.proofs.Math.Pow.{pow_mono}
use Rattle.std.proofs.Math.Nat.{mul-le-mul_right, mul_assoc}
use Rattle.std.proofs.Math.Logic.{∥∥₁_elim}
use Rattle.std.proofs.Props.{props}
use Rattle.bm_gf2.specs.Matrix.{image}
use Rattle.bm_gf2.specs.Vector.{xor_sum}
use Rattle.bm_bufs.specs.declared.tile_map.TileMap.{TileMap}
use Rattle.bm_bufs.specs.Tiles.{origin}
use Rattle.bm_bufs.specs.Places.{places_by}
use Rattle.bm_bufs.proofs.StepLemmas.{few_picked, four_numbers}
use Rattle.bm_bufs.proofs.RunLemmas.{run_count}
use Rattle.bm_bufs.proofs.TileLemmas.{place_fits, run_of_tile}

-- a run of a tile, as the loop over them tests it
pub tile_turn : (m : TileMap) (o q : ℕ) → o < 2 ^ (m.basis.n - m.tile) → q < 1 * 2 ^ (m.tile - m.low) % 18446744073709551616
    → (q < 2 ^ (m.tile - m.low)) × (o * 2 ^ (m.tile - m.low) + q < 2 ^ (m.basis.n - m.low))
    × (o * 2 ^ (m.tile - m.low) + q < 4503599627370496)
tile_turn m o q inside test =
    let n = m.basis.n in
    let few : n ≤ 52 = omega (arith, m.basis.few) in
    let tile_few : m.tile ≤ n = omega (arith, m.tile_in, m.basis_size) in
    let one : 1 * 2 ^ (m.tile - m.low) % 18446744073709551616 ≡ 2 ^ (m.tile - m.low) = one_shl (m.tile - m.low) 64 (omega (arith, m.low_in))
    in
    let turn : q < 2 ^ (m.tile - m.low) = omega arith in
    let run = run_of_tile o q n m.tile m.low m.low_in tile_few inside turn in
    let most : 2 ^ (n - m.low) ≤ 2 ^ 52 = pow_mono {i = n - m.low} {j = 52} (omega arith) in
    (turn, run, omega arith)

-- four records of a run, as the loop over them tests it
pub four_turn : (low j : ℕ) → 2 ≤ low → low ≤ 52 → j < 1 * 2 ^ (low - 2) % 18446744073709551616 → (j * 4 + 4 ≤ 2 ^ low)
    × (j < 4503599627370496)
four_turn low j some few test =
    let one : 1 * 2 ^ (low - 2) % 18446744073709551616 ≡ 2 ^ (low - 2) = one_shl (low - 2) 64 (omega arith) in
    let all : 2 ^ low ≡ 2 ^ (low - 2) * 4 = run_count low 2 some in
    let most : 2 ^ low ≤ 2 ^ 52 = pow_mono {i = low} {j = 52} few in
    (omega arith, omega arith)

-- four records of a run more
pub four_more : (w : ℕ → ℕ) (low width at first from j place : ℕ) (row load new : List ℕ) → 2 ≤ low
    → place ≡ at + 4 * j
    → from ≡ bit_xor first (xor_sum w low (j * 2 ^ 2))
    → slice_chunk new width place ≡ slice_chunk row width from
    → slice_chunk new width (place + 1) ≡ slice_chunk row width (bit_xor from (w 0))
    → slice_chunk new width (place + 2) ≡ slice_chunk row width (bit_xor from (w 1))
    → slice_chunk new width (place + 3) ≡ slice_chunk row width (bit_xor (bit_xor from (w 0)) (w 1))
    → ((k : ℕ) → (k < place) ⊎ (place + 4 ≤ k) → slice_chunk new width k ≡ slice_chunk load width k)
    → ((i : ℕ) → i < j * 4 → slice_chunk load width (at + i) ≡ slice_chunk row width (bit_xor first (xor_sum w low i)))
    → (i : ℕ) → i < (j + 1) * 4 → slice_chunk new width (at + i) ≡ slice_chunk row width (bit_xor first (xor_sum w low i))
four_more w low width at first from j place row load new some is here one two three four others before i below =
    let picked = few_picked w low some in
    let number : (k : ℕ) → k < 4 → bit_xor from (xor_sum w low k) ≡ bit_xor first (xor_sum w low (j * 4 + k)) =
    λ k small. ap (λ x. bit_xor x (xor_sum w low k)) here ∙ sym (four_numbers w low j k first small) in
    let at_k : (k : ℕ) → (i ≡ j * 4 + k) → k < 4 → slice_chunk new width (place + k) ≡ slice_chunk row width
    (bit_xor from (xor_sum w low k))
    → slice_chunk new width (at + i) ≡ slice_chunk row width (bit_xor first (xor_sum w low i)) =
    λ k e small copied. ap (slice_chunk new width) (let s : at + i ≡ place + k = omega arith in s) ∙ copied
    ∙ ap (slice_chunk row width) (number k small ∙ ap (λ x. bit_xor first (xor_sum w low x)) (sym e)) in
    ⊎_elim
    (λ (p : i < j * 4). others (at + i) (inl (omega arith)) ∙ before i p)
    (λ (p : j * 4 ≤ i).
    ⊎_elim
    (λ (q : i ≡ j * 4). at_k 0 (omega arith) (omega arith)
    (ap (slice_chunk new width) (let s : place + 0 ≡ place = omega arith in s) ∙ one
    ∙ ap (slice_chunk row width) (sym (ap (bit_xor from) picked.0 ∙ xor_zero_r from))))
    (λ (q : i ≢ j * 4).
    ⊎_elim
    (λ (r : i ≡ j * 4 + 1). at_k 1 r (omega arith) (two ∙ ap (λ x. slice_chunk row width (bit_xor from x)) (sym picked.1)))
    (λ (r : i ≢ j * 4 + 1).
    ⊎_elim
    (λ (s : i ≡ j * 4 + 2). at_k 2 s (omega arith) (three ∙ ap (λ x. slice_chunk row width (bit_xor from x)) (sym picked.2)))
    (λ (s : i ≢ j * 4 + 2). at_k 3 (omega arith) (omega arith)
    (four ∙ ap (slice_chunk row width) (xor_assoc from (w 0) (w 1) ∙ ap (bit_xor from) (sym picked.3))))
    (cases_eq i (j * 4 + 2)))
    (cases_eq i (j * 4 + 1)))
    (cases_eq i (j * 4)))
    (cases_lt i (j * 4))

-- the places of a run leave room for it in the load
pub run_room : (m : TileMap) (r : ℕ) → r < 2 ^ (m.basis.n - m.low) → image m.basis (r * 2 ^ m.low) + 2 ^ m.low ≤ 2 ^ m.basis.n
run_room m r short = (place_fits m.basis m.low r m.runs (omega (arith, m.low_in, m.tile_in, m.basis_size)) short).1

-- the same in bytes, by the number of the places' run
pub run_of_load : (m : TileMap) (r width : ℕ) → r < 2 ^ (m.basis.n - m.low)
    → (image m.basis (r * 2 ^ m.low) / 2 ^ m.low + 1) * (2 ^ m.low * width) ≤ 2 ^ m.basis.n * width
run_of_load m r width short =
    let fits = place_fits m.basis m.low r m.runs (omega (arith, m.low_in, m.tile_in, m.basis_size)) short in
    let run = image m.basis (r * 2 ^ m.low) / 2 ^ m.low in
    let room : (run + 1) * 2 ^ m.low ≤ 2 ^ m.basis.n = omega (arith, fits.0, fits.1) in
    let bytes : (run + 1) * 2 ^ m.low * width ≤ 2 ^ m.basis.n * width = mul-le-mul_right width room in
    let e : (run + 1) * 2 ^ m.low * width ≡ (run + 1) * (2 ^ m.low * width) = mul_assoc (run + 1) (2 ^ m.low) width in
    omega arith

-- where the place of each number has the record of its origin, each record went where the placing sends it
pub settled : (m : TileMap) (w : ℕ) (old new : List ℕ)
    → ((z : ℕ) → z < 2 ^ m.basis.n → slice_chunk new w (image m.basis z) ≡ slice_chunk old w (image m.basis (origin m.back m.back_plus z)))
    → (y : ℕ) → y < 2 ^ m.placing.a.n → slice_chunk new w (places_by m.placing.a m.placing.plus y) ≡ slice_chunk old w y
settled m w old new filled y short = ∥∥₁_elim (m.origins y short) (Prim.hlevel props)
    (λ found. ap (slice_chunk new w) (sym found.goes) ∙ filled found.number found.below ∙ ap (slice_chunk old w) found.comes)
