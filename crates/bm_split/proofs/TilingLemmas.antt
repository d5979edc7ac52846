-- What keeps a record within its tile.
use Rattle.std.proofs.Common.{◌≡◌, ℕ, zero, suc, ◌+◌, ◌-◌, ◌*◌, ◌/◌, ◌%◌, ◌^◌, ◌<◌, ◌≤◌, List, slice_index, bit_xor, sym, ap, ◌∙◌, subst}
use Rattle.std.proofs.Common.{arith, ⊎_elim, zero-mul}
use Rattle.std.specs.Int.{bit_at}
use Rattle.std.specs.Int.Bits.{xor_assoc, xor_shr, xor_shifted, xor_zero_r}
use Rattle.std.proofs.Math.Nat.{div-eq_of_lt, div-add-mod', mod-lt}
use Rattle.std.proofs.Math.Pow.{pow_mono}
use Rattle.std.proofs.lemmas.Nat.{xor_lt, xor_comm, pow_pos, pow_below}
use Rattle.std.proofs.lemmas.Nat.Bits.{bit_at-lt}
use Rattle.std.proofs.lemmas.Bool.{cases_lt}
use Rattle.bm_gf2.specs.Vector.{xor_sum}
use Rattle.bm_gf2.specs.declared.matrix.Matrix.{Matrix}
use Rattle.bm_gf2.specs.Matrix.{column, image, IsNonsingular}
use Rattle.bm_gf2.proofs.VectorLemmas.{xor_sum-xor, xor_sum-pow, xor_sum-ext, xor_sum-zero, xor_same, xor_swap, xor_cancel}
use Rattle.bm_gf2.proofs.ShiftLemmas.{xor_shl, image_below}
use Rattle.bm_rank.specs.Inverse.{IsInverse}
use Rattle.bm_bufs.specs.Tiles.{KeepsTiles}
use Rattle.bm_factor.specs.Columns.{product}
use Rattle.bm_factor.specs.Trailer.{IsTrailer}
use Rattle.bm_split.specs.RunMap.{IsRunMap}
use Rattle.bm_split.specs.Tiling.{IsInTile, IsNearRun}
use Rattle.bm_split.proofs.RunMapLemmas.{put_back, run_map_nonsingular}
use Rattle.bm_base.proofs.PowerLemmas.{cut_below, below_wider}

-- sums stay in the tile
pub in_tile_xor : (basis : Matrix) (tile u v : ℕ) → IsInTile basis tile u → IsInTile basis tile v → IsInTile basis tile (bit_xor u v)
in_tile_xor basis tile u v p q = record {
  number = bit_xor p.number q.number;
  below = xor_lt tile p.number q.number p.below q.below;
  place = xor_sum-xor (column basis) basis.n p.number q.number ∙ xor_same p.place q.place;
}

-- nothing is in it
in_tile_zero : (basis : Matrix) (tile : ℕ) → IsInTile basis tile 0
in_tile_zero basis tile = record { number = 0; below = pow_pos tile; place = xor_sum-zero (column basis) basis.n }

-- a vector or nothing
in_tile_bit : (basis : Matrix) (tile u b : ℕ) → b < 2 → IsInTile basis tile u → IsInTile basis tile (b * u)
in_tile_bit basis tile u zero l p = subst (IsInTile basis tile) (sym (zero-mul u)) (in_tile_zero basis tile)
in_tile_bit basis tile u (suc zero) l p = subst (IsInTile basis tile) (let e : u ≡ 1 * u = omega arith in e) p
in_tile_bit basis tile u (suc (suc b)) l p = absurd (omega arith)

-- where columns differ within the tile, sums of them do
pub in_tile_sums : (basis : Matrix) (tile : ℕ) (v w : ℕ → ℕ) (k x : ℕ) → ((j : ℕ) → j < k → IsInTile basis tile (bit_xor (v j) (w j)))
    → IsInTile basis tile (bit_xor (xor_sum v k x) (xor_sum w k x))
unfolding xor_sum
in_tile_sums basis tile v w zero x h = in_tile_zero basis tile
in_tile_sums basis tile v w (suc k) x h =
    let b : ℕ = bit_at x k in
    let e : bit_xor (bit_xor (xor_sum v k x) (b * v k)) (bit_xor (xor_sum w k x) (b * w k))
    ≡ bit_xor (bit_xor (xor_sum v k x) (xor_sum w k x)) (b * bit_xor (v k) (w k)) =
    xor_swap (xor_sum v k x) (b * v k) (xor_sum w k x) (b * w k)
    ∙ ap (bit_xor (bit_xor (xor_sum v k x) (xor_sum w k x))) (sym (times_xor b (v k) (w k) (bit_at-lt x k))) in
    subst (IsInTile basis tile) (sym e)
    (in_tile_xor basis tile (bit_xor (xor_sum v k x) (xor_sum w k x)) (b * bit_xor (v k) (w k))
    (in_tile_sums basis tile v w k x (λ j l. h j (omega arith)))
    (in_tile_bit basis tile (bit_xor (v k) (w k)) b (bit_at-lt x k) (h k (omega arith))))
  where
    times_xor : (b u w : ℕ) → b < 2 → b * bit_xor u w ≡ bit_xor (b * u) (b * w)
    times_xor zero u w l = zero-mul (bit_xor u w) ∙ sym (xor_same (zero-mul u) (zero-mul w))
    times_xor (suc zero) u w l =
        let e : (c : ℕ) → 1 * c ≡ c = λ c. omega arith in
        e (bit_xor u w) ∙ sym (xor_same (e u) (e w))
    times_xor (suc (suc b)) u w l = absurd (omega arith)

-- what is near a run is in the tile
pub near_in_tile : (a basis : Matrix) (low tile v : ℕ) → low ≤ tile → ((u : ℕ) → u < 2 ^ low → image basis u ≡ u)
    → ((x : ℕ) → x < 2 ^ low → IsInTile basis tile (image a x / 2 ^ low * 2 ^ low)) → IsNearRun a low v → IsInTile basis tile v
near_in_tile a basis low tile v le same images near =
    subst (IsInTile basis tile) (sym near.is)
    (in_tile_xor basis tile (image a near.place / 2 ^ low * 2 ^ low) near.lows (images near.place near.place_in)
    (record { number = near.lows; below = below_wider near.lows low tile near.lows_in le; place = same near.lows near.lows_in }))

-- where each place moves within the tile, the map of the numbers keeps tiles
pub keeps_tiles_of : (home basis numbers middle back : Matrix) (plus back_plus tile : ℕ) → home.n ≡ basis.n → back.n ≡ basis.n
    → tile ≤ basis.n
    → IsInverse basis numbers
    → ((x : ℕ) → image middle x ≡ image home (image basis x)) → ((x : ℕ) → image back x ≡ image numbers (image middle x))
    → back_plus ≡ image numbers (image home plus)
    → ((y : ℕ) → y < 2 ^ basis.n → IsInTile basis tile (bit_xor y (image home y))) → IsInTile basis tile (image home plus)
    → KeepsTiles back back_plus tile
keeps_tiles_of home basis numbers middle back plus back_plus tile home_size back_size inside of_basis middle_is back_is plus_is moves start
    =
    let named : (s : ℕ) → s < 2 ^ tile → image numbers (image basis s) ≡ s = λ s l. of_basis.left s (below_wider s tile basis.n l inside) in
    record {
      start = subst (λ c. c < 2 ^ tile)
          (sym (plus_is ∙ ap (image numbers) (sym start.place) ∙ named start.number start.below)) start.below;
      highs = λ j l.
          let in_basis : j < basis.n = subst (λ k. j < k) back_size l in
          let unit : ℕ = 2 ^ j in
          let y : ℕ = image basis unit in
          let m = moves y (image_below basis unit) in
          let s : ℕ = m.number in
          let goes : image home y ≡ image basis (bit_xor unit s) =
          sym (xor_cancel y (image home y)) ∙ ap (bit_xor y) (sym m.place) ∙ sym (xor_sum-xor (column basis) basis.n unit s) in
          let sum_in : bit_xor unit s < 2 ^ basis.n =
          xor_lt basis.n unit s (pow_below j basis.n in_basis) (below_wider s tile basis.n m.below inside) in
          let is : column back j ≡ bit_xor unit s =
          sym (xor_sum-pow (column back) back.n j l) ∙ back_is unit ∙ ap (image numbers) (middle_is unit ∙ goes)
          ∙ of_basis.left (bit_xor unit s) sum_in in
          ap (λ c. c / 2 ^ tile) is ∙ xor_shr unit s tile ∙ ap (bit_xor (unit / 2 ^ tile)) (div-eq_of_lt m.below)
          ∙ xor_zero_r (unit / 2 ^ tile);
    }

-- ---- what the first step leaves

-- a number less its high bits
pub less_high : (v low : ℕ) → bit_xor v (v / 2 ^ low * 2 ^ low) ≡ v % 2 ^ low
less_high v low =
    let h : ℕ = v / 2 ^ low * 2 ^ low in
    let r : ℕ = v % 2 ^ low in
    let r_in : r < 2 ^ low = mod-lt v (pow_pos low) in
    let is : bit_xor h r ≡ v = xor_shifted (v / 2 ^ low) low r r_in ∙ div-add-mod' v (2 ^ low) in
    xor_comm v h ∙ ap (bit_xor h) (sym is) ∙ xor_cancel h r

-- a number by its high and low bits
high_low : (v low : ℕ) → bit_xor (v / 2 ^ low * 2 ^ low) (v % 2 ^ low) ≡ v
high_low v low = xor_shifted (v / 2 ^ low) low (v % 2 ^ low) (mod-lt v (pow_pos low)) ∙ div-add-mod' v (2 ^ low)

-- the first term stands second
xor_left : (p q r : ℕ) → bit_xor p (bit_xor q r) ≡ bit_xor q (bit_xor p r)
xor_left p q r = sym (xor_assoc p q r) ∙ ap (λ c. bit_xor c r) (xor_comm p q) ∙ xor_assoc q p r

-- the columns of the first step differ from those of the placing by what is near a run
pub outer_near : (a t changed outer : Matrix) (low : ℕ) (tops : List ℕ) → low < a.n → changed.n ≡ a.n → outer.n ≡ a.n → IsTrailer a t low
    → ((j : ℕ) → j < changed.n → column changed j ≡ image a (column t j))
    → ((i : ℕ) → i < changed.n - low → slice_index tops i ≡ column changed (low + i) / 2 ^ low) → IsRunMap outer low tops
    → (j : ℕ) → j < a.n → IsNearRun a low (bit_xor (column a j) (column outer j))
outer_near a t changed outer low tops inside changed_size outer_size trailer changed_is tops_is is j l =
    let v : ℕ = column a j in
    let h : ℕ = v / 2 ^ low * 2 ^ low in
    let r : ℕ = v % 2 ^ low in
    let r_in : r < 2 ^ low = mod-lt v (pow_pos low) in
    ⊎_elim
    (λ (p : j < low).
    let unit : image a (2 ^ j) ≡ v = xor_sum-pow (column a) a.n j l in
    record {
      place = 2 ^ j;
      place_in = pow_below j low p;
      lows = bit_xor r (2 ^ j);
      lows_in = xor_lt low r (2 ^ j) r_in (pow_below j low p);
      is = ap (bit_xor v) (is.units j p) ∙ ap (λ c. bit_xor c (2 ^ j)) (sym (high_low v low)) ∙ xor_assoc h r (2 ^ j)
          ∙ ap (λ c. bit_xor (c / 2 ^ low * 2 ^ low) (bit_xor r (2 ^ j))) (sym unit);
    })
    (λ (p : low ≤ j).
    let d = trailer.adds j p l in
    let u : ℕ = image a d.added in
    let g : ℕ = u / 2 ^ low * 2 ^ low in
    let i : ℕ = j - low in
    let e : low + i ≡ j = omega arith in
    let sum : image a (column t j) ≡ bit_xor u v =
    ap (image a) d.is ∙ xor_sum-xor (column a) a.n d.added (2 ^ j) ∙ ap (bit_xor u) (xor_sum-pow (column a) a.n j l) in
    let top : slice_index tops i ≡ bit_xor (u / 2 ^ low) (v / 2 ^ low) =
    tops_is i (omega arith) ∙ ap (λ k. column changed k / 2 ^ low) e ∙ ap (λ c. c / 2 ^ low) (changed_is j (omega arith) ∙ sum)
    ∙ xor_shr u v low in
    let here : column outer j ≡ bit_xor g h =
    ap (column outer) (sym e) ∙ is.others i (omega arith) ∙ ap (λ c. c * 2 ^ low) top ∙ xor_shl (u / 2 ^ low) (v / 2 ^ low) low in
    record {
      place = d.added;
      place_in = d.below;
      lows = r;
      lows_in = r_in;
      is = ap (bit_xor v) here ∙ xor_left v g h ∙ ap (bit_xor g) (less_high v low);
    })
    (cases_lt j low)

-- its matrix is nonsingular
pub outer_nonsingular : (a t changed outer : Matrix) (low : ℕ) (tops : List ℕ) → low < a.n → changed.n ≡ a.n → outer.n ≡ a.n
    → IsTrailer a t low → ((j : ℕ) → j < changed.n → column changed j ≡ image a (column t j))
    → ((i : ℕ) → i < changed.n - low → slice_index tops i ≡ column changed (low + i) / 2 ^ low) → IsRunMap outer low tops
    → IsNonsingular outer
outer_nonsingular a t changed outer low tops inside changed_size outer_size trailer changed_is tops_is is =
    let e : outer.n - low ≡ a.n - low = ap (λ k. k - low) outer_size in
    run_map_nonsingular outer low tops (omega arith) is (λ y l z.
    trailer.trailing y (subst (λ k. y < 2 ^ k) e l)
    (xor_sum-ext (λ k. product a t (low + k) / 2 ^ low) (slice_index tops) (a.n - low) y (λ i h.
    sym (tops_is i (omega arith) ∙ ap (λ c. c / 2 ^ low) (changed_is (low + i) (omega arith))))
    ∙ ap (λ k. xor_sum (slice_index tops) k y) (sym e) ∙ z))

-- the constant of the first step differs from the placing's in low bits
pub constant_near : (plus n low : ℕ) → n ≤ 52 → low ≤ n → plus < 2 ^ n
    → bit_xor plus (plus / 2 ^ low * 2 ^ low % 18446744073709551616) < 2 ^ low
constant_near plus n low few l h =
    let b = put_back (plus / 2 ^ low) n low few l (cut_below n low plus l h) in
    subst (λ c. c < 2 ^ low) (sym (ap (bit_xor plus) b.0 ∙ less_high plus low)) (mod-lt plus (pow_pos low))

-- so what takes each place back moves it within its tile
pub tile_moves : (a outer a_back home basis : Matrix) (tile : ℕ) → outer.n ≡ a.n → IsInverse a a_back
    → ((x : ℕ) → image home x ≡ image outer (image a_back x))
    → ((j : ℕ) → j < a.n → IsInTile basis tile (bit_xor (column a j) (column outer j)))
    → (y : ℕ) → y < 2 ^ a.n → IsInTile basis tile (bit_xor y (image home y))
tile_moves a outer a_back home basis tile size of_a home_is columns y l =
    let x : ℕ = image a_back y in
    subst (IsInTile basis tile)
    (xor_same (of_a.right y l) (ap (λ k. xor_sum (column outer) k x) (sym size) ∙ sym (home_is y)))
    (in_tile_sums basis tile (column a) (column outer) a.n x columns)

-- .. and the constant of the second step too
pub tile_start : (home basis : Matrix) (low tile plus outer_plus moved : ℕ) → low ≤ tile → ((u : ℕ) → u < 2 ^ low → image basis u ≡ u)
    → IsInTile basis tile (bit_xor plus (image home plus)) → image home moved ≡ outer_plus → bit_xor plus outer_plus < 2 ^ low
    → IsInTile basis tile (image home (bit_xor plus moved))
tile_start home basis low tile plus outer_plus moved le same moves back near =
    let g : ℕ = image home plus in
    let d : ℕ = bit_xor plus outer_plus in
    let e : bit_xor (bit_xor plus g) d ≡ image home (bit_xor plus moved) =
    ap (λ c. bit_xor c d) (xor_comm plus g) ∙ xor_assoc g plus d ∙ ap (bit_xor g) (xor_cancel plus outer_plus)
    ∙ ap (bit_xor g) (sym back) ∙ sym (xor_sum-xor (column home) home.n plus moved) in
    subst (IsInTile basis tile) e
    (in_tile_xor basis tile (bit_xor plus g) d moves (record { number = d; below = below_wider d low tile near le; place = same d near }))
