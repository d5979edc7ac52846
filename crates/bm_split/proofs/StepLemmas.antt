-- The two steps of a placing.
use Rattle.std.proofs.Common.{◌≡◌, ℕ, ◌^◌, ◌<◌, bit_xor, sym, ap, ◌∙◌, subst}
use Rattle.std.specs.Int.Bits.{xor_assoc}
use Rattle.std.proofs.lemmas.Nat.{xor_lt}
use Rattle.bm_gf2.specs.declared.matrix.Matrix.{Matrix}
use Rattle.bm_gf2.specs.Matrix.{image, column}
use Rattle.bm_gf2.proofs.VectorLemmas.{xor_sum-xor, xor_same, xor_cancel}
use Rattle.bm_gf2.proofs.ShiftLemmas.{image_below}
use Rattle.bm_rank.specs.Inverse.{IsInverse}
use Rattle.bm_bufs.specs.Places.{places_by}
use Rattle.bm_bufs.specs.Tiles.{HasOrigin}

-- an image, under another matrix's bound
pub image_within : (a b : Matrix) (x : ℕ) → a.n ≡ b.n → image a x < 2 ^ b.n
image_within a b x e = subst (λ k. image a x < 2 ^ k) e (image_below a x)

-- the second step's matrix is undone by the first step's after the inverse
pub goes_home : (a outer a_back outer_back rest home : Matrix) (y : ℕ) → outer.n ≡ a.n → IsInverse a a_back → IsInverse outer outer_back
    → ((x : ℕ) → image rest x ≡ image a (image outer_back x)) → ((x : ℕ) → image home x ≡ image outer (image a_back x))
    → y < 2 ^ a.n → image home (image rest y) ≡ y
goes_home a outer a_back outer_back rest home y size of_a of_outer rest_is home_is l =
    home_is (image rest y)
    ∙ ap (λ c. image outer (image a_back c)) (rest_is y)
    ∙ ap (image outer) (of_a.left (image outer_back y) (image_within outer_back a y (of_outer.size ∙ size)))
    ∙ of_outer.right y (subst (λ k. y < 2 ^ k) (sym size) l)

-- the second step after the first is the placing
pub two_steps : (a outer outer_back rest : Matrix) (plus outer_plus x : ℕ) → outer.n ≡ a.n → IsInverse outer outer_back
    → ((y : ℕ) → image rest y ≡ image a (image outer_back y)) → x < 2 ^ a.n
    → places_by rest (bit_xor plus (image rest outer_plus)) (places_by outer outer_plus x) ≡ places_by a plus x
two_steps a outer outer_back rest plus outer_plus x size of_outer rest_is l =
    let r : ℕ = image rest outer_plus in
    let undone : image rest (image outer x) ≡ image a x =
    rest_is (image outer x) ∙ ap (image a) (of_outer.left x (subst (λ k. x < 2 ^ k) (sym size) l)) in
    let sum : image rest (bit_xor outer_plus (image outer x)) ≡ bit_xor r (image a x) =
    xor_sum-xor (column rest) rest.n outer_plus (image outer x) ∙ ap (bit_xor r) undone in
    ap (bit_xor (bit_xor plus r)) sum ∙ xor_assoc plus r (bit_xor r (image a x)) ∙ ap (bit_xor plus) (xor_cancel r (image a x))

-- where a placing is described by a basis: the record of each place has a number
pub has_origin : (a home basis numbers middle back : Matrix) (plus back_plus y : ℕ) → basis.n ≡ a.n → home.n ≡ a.n
    → IsInverse basis numbers → ((x : ℕ) → x < 2 ^ a.n → image home (image a x) ≡ x)
    → ((x : ℕ) → image middle x ≡ image home (image basis x)) → ((x : ℕ) → image back x ≡ image numbers (image middle x))
    → back_plus ≡ image numbers (image home plus) → plus < 2 ^ a.n → y < 2 ^ a.n
    → HasOrigin a plus basis back back_plus y
has_origin a home basis numbers middle back plus back_plus y basis_size home_size of_basis goes_back middle_is back_is plus_is plus_in l =
    let v : ℕ = places_by a plus y in
    let up : (x : ℕ) → x < 2 ^ a.n → x < 2 ^ basis.n = λ x h. subst (λ k. x < 2 ^ k) (sym basis_size) h in
    let v_in : v < 2 ^ a.n = xor_lt a.n plus (image a y) plus_in (image_below a y) in
    let z : ℕ = image numbers v in
    let placed : image basis z ≡ v = of_basis.right v (up v v_in) in
    let h : ℕ = image home plus in
    let start : image basis back_plus ≡ h =
    ap (image basis) plus_is ∙ of_basis.right h (up h (image_within home a plus home_size)) in
    let m : image middle z ≡ bit_xor h y =
    middle_is z ∙ ap (image home) placed ∙ xor_sum-xor (column home) home.n plus (image a y) ∙ ap (bit_xor h) (goes_back y l) in
    let m_in : image middle z < 2 ^ basis.n =
    subst (λ c. c < 2 ^ basis.n) (sym (middle_is z)) (image_within home basis (image basis z) (home_size ∙ sym basis_size)) in
    let moved : image basis (image back z) ≡ bit_xor h y = ap (image basis) (back_is z) ∙ of_basis.right (image middle z) m_in ∙ m in
    record {
      number = z;
      below = image_within numbers basis v of_basis.size;
      goes = placed;
      comes = xor_sum-xor (column basis) basis.n back_plus (image back z) ∙ xor_same start moved ∙ xor_cancel h y;
    }
