-- Maps that keep the low bits of a number.
use Rattle.std.proofs.Common.{◌≡◌, ◌≢◌, ℕ, ◌+◌, ◌-◌, ◌*◌, ◌/◌, ◌%◌, ◌^◌, ◌<◌, ◌≤◌, List, length, set, length-set, get_or-set_other}
use Rattle.std.proofs.Common.{get_or-set_same, slice_index, refl, sym, ap, ◌∙◌, subst, arith, ⊎_elim}
use Rattle.std.proofs.lemmas.Nat.{shl_below, shr_below, shl-shr, one_shl, pow_below, pow-add, xor_comm}
use Rattle.std.proofs.lemmas.Bool.{cases_lt, cases_eq, le-ltb, lt-leb}
use Rattle.bm_base.specs.ShapeRules.{broken_rule}
use Rattle.bm_base.proofs.PowerLemmas.{cut_below}
use Rattle.std.specs.Int.Bits.{xor_zero_r}
use Rattle.std.proofs.Math.Nat.{mod-eq_of_lt, div-eq_of_lt, mul-mod_left, div-add-mod', zero-div}
use Rattle.std.proofs.Math.Pow.{pow_mono}
use Rattle.bm_gf2.specs.declared.matrix.Matrix.{Matrix}
use Rattle.bm_gf2.specs.Matrix.{column, image, IsNonsingular}
use Rattle.bm_gf2.specs.Vector.{xor_sum}
use Rattle.bm_gf2.proofs.VectorLemmas.{set_below, set_rest, xor_same, xor_sum-zero, xor_sum-ext, xor_sum-lt, xor_sum-mod, xor_sum-shr}
use Rattle.bm_gf2.proofs.VectorLemmas.{xor_sum-split, xor_sum-units}
use Rattle.bm_bufs.specs.Runs.{KeepsRuns}
use Rattle.bm_bufs.specs.Tiles.{HasRunBasis}
use Rattle.bm_split.specs.RunMap.{IsRunMap}

-- the rows above, put back as code does it
pub put_back : (v n low : ℕ) → n ≤ 52 → low ≤ n → v < 2 ^ (n - low)
    → (v * 2 ^ low % 18446744073709551616 ≡ v * 2 ^ low) × (v * 2 ^ low < 2 ^ n)
put_back v n low few l h =
    let e : (n - low) + low ≡ n = omega arith in
    let s : v * 2 ^ low < 2 ^ n = subst (λ k. v * 2 ^ low < 2 ^ k) e (shl_below v (n - low) low h) in
    let most : 2 ^ n ≤ 18446744073709551616 = pow_mono {i = n} {j = 64} (omega arith) in
    (mod-eq_of_lt (omega arith), s)

-- columns from low on have no low bits
pub run_basis : (a : Matrix) (low : ℕ) (tops : List ℕ) → low < a.n → IsRunMap a low tops → HasRunBasis a low
run_basis a low tops inside is = record {
  units = is.units;
  lows = λ j l.
      ⊎_elim
      (λ (p : j < low). ap (λ c. c % 2 ^ low) (is.units j p))
      (λ (p : low ≤ j).
      let e : low + (j - low) ≡ j = omega arith in
      let g : (j - low) + low ≡ j = omega arith in
      ap (λ c. c % 2 ^ low) (ap (column a) (sym e) ∙ is.others (j - low) (omega arith))
      ∙ mul-mod_left (slice_index tops (j - low)) (2 ^ low)
      ∙ sym (ap (λ c. c % 2 ^ low) (ap (λ c. 2 ^ c) (sym g) ∙ pow-add 2 (j - low) low) ∙ mul-mod_left (2 ^ (j - low)) (2 ^ low)))
      (cases_lt j low);
}

-- so the map keeps runs, with a constant that has no low bits
pub run_map_keeps : (a : Matrix) (low plus : ℕ) (tops : List ℕ) → low < a.n → IsRunMap a low tops → plus % 2 ^ low ≡ 0
    → KeepsRuns a plus low
run_map_keeps a low plus tops inside is clear = record {
  inside = inside;
  units = is.units;
  others = λ j l h.
      let e : low + (j - low) ≡ j = omega arith in
      ap (λ c. c % 2 ^ low) (ap (column a) (sym e) ∙ is.others (j - low) (omega arith))
      ∙ mul-mod_left (slice_index tops (j - low)) (2 ^ low);
  constant = clear;
}

-- the constant of the first step, as code makes it: without low bits, and no longer
pub cut_constant : (plus n low : ℕ) → n ≤ 52 → low ≤ n → plus < 2 ^ n
    → (plus / 2 ^ low * 2 ^ low % 18446744073709551616 % 2 ^ low ≡ 0) × (plus / 2 ^ low * 2 ^ low % 18446744073709551616 < 2 ^ n)
cut_constant plus n low few l h =
    let b = put_back (plus / 2 ^ low) n low few l (cut_below n low plus l h) in
    (ap (λ c. c % 2 ^ low) b.0 ∙ mul-mod_left (plus / 2 ^ low) (2 ^ low), subst (λ c. c < 2 ^ n) (sym b.0) b.1)

-- columns low..low+i-1 stand, and the other ones are units
pub record IsRunColumns (n low i : ℕ) (tops cols : List ℕ) : Type 0 where
  pub long : length cols ≡ 52
  pub units : (k : ℕ) → k < low → slice_index cols k ≡ 2 ^ k
  pub others : (k : ℕ) → k < i → slice_index cols (low + k) ≡ slice_index tops k * 2 ^ low
  pub below : (k : ℕ) → k < n → slice_index cols k < 2 ^ n
  pub rest : (k : ℕ) → n ≤ k → slice_index cols k ≡ 0

-- one more stands
pub run_columns_more : (n low i at v : ℕ) (tops cols : List ℕ) → IsRunColumns n low i tops cols → at ≡ low + i → low + i < n → n ≤ 52
    → v ≡ slice_index tops i * 2 ^ low → v < 2 ^ n → IsRunColumns n low (i + 1) tops (set cols at v)
run_columns_more n low i at v tops cols is here inside few v_is v_in =
    let long = is.long in
    let other : (k : ℕ) → k ≢ at → slice_index (set cols at v) k ≡ slice_index cols k = λ k ne. rw get_or-set_other refl in
    record {
      long = length-set cols at v ∙ is.long;
      units = λ k l. let ne : k ≢ at = omega arith in other k ne ∙ is.units k l;
      others = λ k l.
          ⊎_elim
          (λ (e : k ≡ i).
          let q : low + k ≡ at = omega arith in
          let room : at < length cols = omega arith in
          rw q (rw get_or-set_same (v_is ∙ ap (λ c. slice_index tops c * 2 ^ low) (sym e))))
          (λ (e : k ≢ i). let ne : low + k ≢ at = omega arith in other (low + k) ne ∙ is.others k (omega arith))
          (cases_eq k i);
      below = set_below cols n (2 ^ n) at v (omega arith) is.below (omega arith) v_in;
      rest = set_rest cols n at v is.rest (omega arith);
    }

-- ---- images

-- the high bits of an image
pub run_map_high : (a : Matrix) (low x : ℕ) (tops : List ℕ) → low ≤ a.n → IsRunMap a low tops
    → image a x / 2 ^ low ≡ xor_sum (slice_index tops) (a.n - low) (x / 2 ^ low)
run_map_high a low x tops l is =
    let e : low + (a.n - low) ≡ a.n = omega arith in
    let rest : ℕ = xor_sum (slice_index tops) (a.n - low) (x / 2 ^ low) in
    let lows : xor_sum (λ j. column a j / 2 ^ low) low x ≡ 0 =
    sym (xor_sum-shr (column a) low low x)
    ∙ div-eq_of_lt (xor_sum-lt (column a) low low x (λ j h. subst (λ v. v < 2 ^ low) (sym (is.units j h)) (pow_below j low h))) in
    xor_sum-shr (column a) a.n low x
    ∙ ap (λ k. xor_sum (λ j. column a j / 2 ^ low) k x) (sym e)
    ∙ xor_sum-split (λ j. column a j / 2 ^ low) low (a.n - low) x
    ∙ xor_same lows
    (xor_sum-ext (λ j. column a (low + j) / 2 ^ low) (slice_index tops) (a.n - low) (x / 2 ^ low) (λ j h.
    ap (λ v. v / 2 ^ low) (is.others j h) ∙ shl-shr (slice_index tops j) low))
    ∙ xor_comm 0 rest ∙ xor_zero_r rest

-- the low bits of an image
pub run_map_low : (a : Matrix) (low x : ℕ) (tops : List ℕ) → low < a.n → IsRunMap a low tops → x < 2 ^ a.n
    → image a x % 2 ^ low ≡ x % 2 ^ low
run_map_low a low x tops inside is l =
    let runs : HasRunBasis a low = run_basis a low tops inside is in
    xor_sum-mod (column a) a.n low x
    ∙ xor_sum-ext (λ j. column a j % 2 ^ low) (λ j. 2 ^ j % 2 ^ low) a.n x runs.lows
    ∙ sym (xor_sum-mod (λ j. 2 ^ j) a.n low x)
    ∙ ap (λ v. v % 2 ^ low) (xor_sum-units a.n x ∙ mod-eq_of_lt l)

-- a number by its high and low bits
pub of_parts : (u v low : ℕ) → u / 2 ^ low ≡ v / 2 ^ low → u % 2 ^ low ≡ v % 2 ^ low → u ≡ v
of_parts u v low high lows =
    let p : u / 2 ^ low * 2 ^ low + u % 2 ^ low ≡ u = div-add-mod' u (2 ^ low) in
    let q : v / 2 ^ low * 2 ^ low + v % 2 ^ low ≡ v = div-add-mod' v (2 ^ low) in
    let h : u / 2 ^ low * 2 ^ low ≡ v / 2 ^ low * 2 ^ low = ap (λ c. c * 2 ^ low) high in
    omega arith

-- low bits stay
pub run_map_same : (a : Matrix) (low v : ℕ) (tops : List ℕ) → low < a.n → IsRunMap a low tops → v < 2 ^ low → image a v ≡ v
run_map_same a low v tops inside is l =
    let up : 2 ^ low < 2 ^ a.n = pow_below low a.n inside in
    let none : v / 2 ^ low ≡ 0 = div-eq_of_lt l in
    of_parts (image a v) v low
    (run_map_high a low v tops (omega arith) is ∙ ap (xor_sum (slice_index tops) (a.n - low)) none
    ∙ xor_sum-zero (slice_index tops) (a.n - low)
    ∙ sym none)
    (run_map_low a low v tops inside is (omega arith))

-- numbers without low bits
pub run_map_shifted : (a : Matrix) (low y : ℕ) (tops : List ℕ) → low < a.n → IsRunMap a low tops → y < 2 ^ (a.n - low)
    → image a (y * 2 ^ low) ≡ xor_sum (slice_index tops) (a.n - low) y * 2 ^ low
run_map_shifted a low y tops inside is l =
    let sum : ℕ = xor_sum (slice_index tops) (a.n - low) y in
    let e : (a.n - low) + low ≡ a.n = omega arith in
    let up : y * 2 ^ low < 2 ^ a.n = subst (λ k. y * 2 ^ low < 2 ^ k) e (shl_below y (a.n - low) low l) in
    of_parts (image a (y * 2 ^ low)) (sum * 2 ^ low) low
    (run_map_high a low (y * 2 ^ low) tops (omega arith) is ∙ ap (xor_sum (slice_index tops) (a.n - low)) (shl-shr y low)
    ∙ sym (shl-shr sum low))
    (run_map_low a low (y * 2 ^ low) tops inside is up ∙ mul-mod_left y (2 ^ low) ∙ sym (mul-mod_left sum (2 ^ low)))

-- independent columns make it nonsingular
pub run_map_nonsingular : (a : Matrix) (low : ℕ) (tops : List ℕ) → low < a.n → IsRunMap a low tops
    → ((y : ℕ) → y < 2 ^ (a.n - low) → xor_sum (slice_index tops) (a.n - low) y ≡ 0 → y ≡ 0) → IsNonsingular a
run_map_nonsingular a low tops inside is only = λ x l sent.
    let high : xor_sum (slice_index tops) (a.n - low) (x / 2 ^ low) ≡ 0 =
    sym (run_map_high a low x tops (omega arith) is) ∙ ap (λ v. v / 2 ^ low) sent ∙ zero-div (2 ^ low) in
    let none : x / 2 ^ low ≡ 0 = only (x / 2 ^ low) (cut_below a.n low x (omega arith) l) high in
    let lows : x % 2 ^ low ≡ 0 % 2 ^ low = sym (run_map_low a low x tops inside is l) ∙ ap (λ v. v % 2 ^ low) sent in
    of_parts x 0 low (none ∙ sym (zero-div (2 ^ low))) lows

-- ---- the shape of a run

-- a memory that holds one run breaks no rule
pub run_shape : (n low : ℕ) → n ≤ 52 → 1 ≤ low → low ≤ 30 → low ≤ n → broken_rule n 0 0 low 1 ≡ 0
run_shape n low addresses some few inside =
    let run : 2 ^ low ≤ 2 ^ 30 = pow_mono {i = low} {j = 30} few in
    let all : 2 ^ n ≤ 4503599627370496 = pow_mono {i = n} {j = 52} addresses in
    rw (
      le-ltb 52 n addresses,
      lt-leb low 0 (omega arith),
      le-ltb low 0 (omega arith),
      le-ltb n low inside,
      le-ltb (2 ^ 30) (2 ^ low * 1) (omega arith),
      le-ltb (2 ^ 63) (3 * 2 ^ n * 1) (omega arith),
    ) refl
