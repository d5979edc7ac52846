-- Named maps: what the rows of a matrix make of an address, and a complement that is taken back.
use Rattle.std.proofs.Common.{◌≡◌, ℕ, ◌*◌, ◌+◌, ◌-◌, ◌^◌, ◌<◌, List, slice_index, bit_xor}
use Rattle.std.proofs.Common.{sym, ap, subst, ◌∙◌, arith, Result, Ok, Err, IfOk, OnOk}
use Rattle.std.specs.Int.{bit_at}
use Rattle.std.proofs.lemmas.Nat.{pow_pos}
use Rattle.std.proofs.lemmas.Nat.Bits.{bit_at-zero, same_from_bits_below}
use Rattle.bm_gf2.specs.Vector.{xor_sum}
use Rattle.bm_gf2.specs.declared.affine.Affine.{Affine}
use Rattle.bm_gf2.specs.Matrix.{column, image, IsNonsingular}
use Rattle.bm_gf2.specs.Affine.{affine_image}
use Rattle.bm_gf2.proofs.VectorLemmas.{xor_cancel_right}
use Rattle.bm_gf2.proofs.ShiftLemmas.{image_below}
use Rattle.bm_named.specs.declared.map_fault.MapFault.{MapFault}
use Rattle.bm_named.specs.declared.map_fault.MapFault.TheVariants.{Width, Side, Length, Range, Twice, Wide, Singular, Complement}
use Rattle.bm_named.specs.RowList.{AreRows, SendToZero, RowsFaultIs}
use Rattle.bm_named.proofs.ImageLemmas.{image-row}
use Rattle.bm_jobfile.specs.declared.map_table.NamedMap.{NamedMap}
use Rattle.bm_jobfile.specs.declared.map_table.NamedMap.TheVariants.{Identity, Reversal, BitReversal, Transpose}
use Rattle.bm_jobfile.specs.declared.map_table.NamedMap.TheVariants.{Gray, InverseGray, Rotation, Bits, Rows}
use Rattle.bm_jobfile.specs.MapJob.{IsNamedMap, NamedIsFaultless}

-- two functions of the same values are both the named map
pub named-same : (n : ℕ) (named : NamedMap) (f g : ℕ → ℕ) → ((x : ℕ) → g x ≡ f x) → IsNamedMap n named f → IsNamedMap n named g
named-same n Identity f g same is = λ x below. same x ∙ is x below
named-same n Reversal f g same is = λ x below. same x ∙ is x below
named-same n BitReversal f g same is = λ x i below inside. ap (λ (v : ℕ). bit_at v i) (same x) ∙ is x i below inside
named-same n (Transpose p) f g same is = λ i j row col. same (i * 2 ^ (n - p) + j) ∙ is i j row col
named-same n Gray f g same is = λ x below. same x ∙ is x below
named-same n InverseGray f g same is = λ x i below inside. ap (λ (v : ℕ). bit_at v i) (same x) ∙ is x i below inside
named-same n (Rotation by) f g same is = λ x i below inside. ap (λ (v : ℕ). bit_at v i) (same x) ∙ is x i below inside
named-same n (Bits list) f g same is = λ x i below inside. ap (λ (v : ℕ). bit_at v i) (same x) ∙ is x i below inside
named-same n (Rows rows) f g same is = λ x i below inside. ap (λ (v : ℕ). bit_at v i) (same x) ∙ is x i below inside

-- the complement is taken back
pub named-complement : (n : ℕ) (named : NamedMap) (f h : ℕ → ℕ) (c : ℕ) → ((x : ℕ) → h x ≡ bit_xor (f x) c) → IsNamedMap n named f
    → IsNamedMap n named (λ x. bit_xor (h x) c)
named-complement n named f h c value is =
    named-same n named f (λ x. bit_xor (h x) c) (λ x. ap (λ (v : ℕ). bit_xor v c) (value x) ∙ xor_cancel_right (f x) c) is

-- a linear map of these rows
module _ (map : Affine) (rows : List ℕ) (entries : (i j : ℕ) → i < map.a.n → j < map.a.n
    → bit_at (column map.a j) i ≡ bit_at (slice_index rows i) j) where
  row_bit : (x i : ℕ) → i < map.a.n → bit_at (image map.a x) i ≡ xor_sum (bit_at (slice_index rows i)) map.a.n x
  row_bit x i inside = image-row (column map.a) map.a.n i (slice_index rows i) x (λ j below. entries i j inside below)

  -- it is the map of the rows
  pub rows_value : map.c ≡ 0 → IsNamedMap map.a.n (Rows rows) (affine_image map)
  rows_value none = λ x i below inside.
      ap (λ (v : ℕ). bit_at v i) (ap (λ (c : ℕ). bit_xor c (image map.a x)) none) ∙ row_bit x i inside

  -- where it is nonsingular, the rows have no fault
  pub rows_faultless : IsNonsingular map.a → AreRows map.a.n rows → NamedIsFaultless map.a.n (Rows rows)
  rows_faultless nonsingular valid = no_fault
    where
      only_zero : (x : ℕ) → x < 2 ^ map.a.n → SendToZero map.a.n rows x → x ≡ 0
      only_zero x below sent =
          nonsingular x below
          (same_from_bits_below map.a.n (image map.a x) 0 (image_below map.a x) (pow_pos map.a.n)
          (λ i inside. row_bit x i inside ∙ sent i inside ∙ sym (bit_at-zero i)))

      no_fault : (e : MapFault) → ¬ RowsFaultIs map.a.n rows e
      no_fault (Length got) = λ wrong. wrong.0 valid.long
      no_fault (Wide i) = λ wrong. absurd (omega (arith, wrong.1.wide, valid.below i wrong.1.inside))
      no_fault (Singular x) = λ wrong. wrong.1.some (only_zero x wrong.1.below wrong.1.sent)
      no_fault Width = λ wrong. wrong
      no_fault (Side p) = λ wrong. wrong
      no_fault (Range i) = λ wrong. wrong
      no_fault (Twice i j) = λ wrong. wrong
      no_fault (Complement c) = λ wrong. wrong

-- the entries of a matrix of n columns by its rows
abbrev pub HasEntries : ℕ → List ℕ → Affine → Type 0
HasEntries n rows map = (i j : ℕ) → i < n → j < n → bit_at (column map.a j) i ≡ bit_at (slice_index rows i) j

-- what is found for rows is the map of the rows
pub rows_named : (n : ℕ) (named : NamedMap) (rows : List ℕ) (found : Result Affine MapFault) → named ≡ Rows rows
    → IfOk found (λ map. map.a.n ≡ n) → IfOk found (HasEntries n rows) → IfOk found (λ map. map.c ≡ 0)
    → IfOk found (λ map. IsNamedMap n named (affine_image map))
rows_named n named rows (Err e) is size entries constant = tt
rows_named n named rows (Ok map) is size entries constant =
    subst (λ (m : NamedMap). IsNamedMap n m (affine_image map)) (sym is)
    (subst (λ (k : ℕ). HasEntries k rows map → IsNamedMap k (Rows rows) (affine_image map)) size
    (λ e. rows_value map rows e constant) entries)

-- and the rows have no fault
pub rows_named_faultless : (n : ℕ) (named : NamedMap) (rows : List ℕ) (found : Result Affine MapFault) → named ≡ Rows rows
    → IfOk found (λ map. map.a.n ≡ n) → IfOk found (HasEntries n rows) → IfOk found (λ map. IsNonsingular map.a)
    → OnOk found (AreRows n rows)
    → OnOk found (NamedIsFaultless n named)
rows_named_faultless n named rows (Err e) is size entries nonsingular valid = tt
rows_named_faultless n named rows (Ok map) is size entries nonsingular valid =
    subst (λ (m : NamedMap). NamedIsFaultless n m) (sym is)
    (subst (λ (k : ℕ). HasEntries k rows map → AreRows k rows → NamedIsFaultless k (Rows rows)) size
    (λ e v. rows_faultless map rows e nonsingular v) entries valid)
