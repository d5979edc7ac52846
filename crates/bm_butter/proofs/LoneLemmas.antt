-- Groups of four numbers, where both bits are bits of the places.
use Rattle.std.proofs.Common.{◌≡◌, ◌≢◌, ℕ, ◌+◌, ◌-◌, ◌*◌, ◌^◌, ◌<◌, ◌≤◌, bit_xor, min, max, List, sym, ap, ◌∙◌, subst, arith, ⊎_elim}
use Rattle.std.specs.Int.{bit_at}
use Rattle.std.proofs.lemmas.Bool.{cases_eq, cases_lt}
use Rattle.std.proofs.lemmas.Nat.Bits.{bit_at-lt, bit_at-pow_same, bit_at-pow_other}
use Rattle.bm_base.specs.Records.{SameRecords}
use Rattle.bm_base.proofs.ButterflyLemmas.{without_bit}
use Rattle.bm_gf2.specs.declared.matrix.Matrix.{Matrix}
use Rattle.bm_gf2.specs.Matrix.{column}
use Rattle.bm_gf2.proofs.VectorLemmas.{xor_cancel_right}
use Rattle.bm_butter.specs.Records.{record_in_order, record_at_place}
use Rattle.bm_butter.specs.LoneBit.{IsLoneBit}
use Rattle.bm_butter.specs.OnBits.{kernel_on}
use Rattle.bm_butter.specs.Groups.{pick, GroupsDone, spread_two, corner_place}
use Rattle.bm_butter.proofs.OnBitLemmas.{flip, flip_other}
use Rattle.bm_butter.proofs.KernelLemmas.{four}
use Rattle.bm_butter.proofs.PairedLemmas.{set_by_xor}
use Rattle.bm_butter.proofs.PlaceLemmas.{place, place_below, place_turned, lone_place}
use Rattle.bm_butter.proofs.FourLemmas.{by_four}
use Rattle.bm_butter.proofs.SpreadLemmas.{squeeze_two, squeeze_two-lt, spread_two-squeeze}
use Rattle.bm_butter.proofs.GroupLemmas.{IsGroup-same, SameRecords-groups}
use Rattle.bm_butter.proofs.NumberLemmas.{first_of_group, corner_blocks}

-- the places of a pair, u at the one where bit h is that of plus
pub record HoldHalves (plus h at_u at_v : ℕ) : Type 0 where
  pub upright : bit_at plus h ≡ 0 → (at_u ≡ 0) × (at_v ≡ 2 ^ h)
  pub turned : bit_at plus h ≡ 1 → (at_u ≡ 2 ^ h) × (at_v ≡ 0)

-- u stands at the value of the bit of plus
halves_sum : (plus h at_u at_v : ℕ) → HoldHalves plus h at_u at_v → bit_at plus h * 2 ^ h ≡ at_u
halves_sum plus h at_u at_v halves =
    ⊎_elim
    (λ (z : bit_at plus h ≡ 0). ap (λ c. c * 2 ^ h) z ∙ (let e : 0 * 2 ^ h ≡ at_u = omega (arith, (halves.upright z).0) in e))
    (λ (z : bit_at plus h ≢ 0).
    let range : bit_at plus h < 2 = bit_at-lt plus h in
    let one : bit_at plus h ≡ 1 = omega arith in
    ap (λ c. c * 2 ^ h) one ∙ (let e : 1 * 2 ^ h ≡ at_u = omega (arith, (halves.turned one).0) in e))
    (cases_eq (bit_at plus h) 0)

-- the other place of a pair
halves_turn : (plus h at_u at_v x : ℕ) → HoldHalves plus h at_u at_v → bit_at x h ≡ bit_at plus h
    → bit_xor x (2 ^ h) + at_u ≡ x + at_v
halves_turn plus h at_u at_v x halves same =
    ⊎_elim
    (λ (z : bit_at plus h ≡ 0). omega (arith, (halves.upright z).0, (halves.upright z).1, set_by_xor h x (same ∙ z)))
    (λ (z : bit_at plus h ≢ 0).
    let range : bit_at plus h < 2 = bit_at-lt plus h in
    let one : bit_at plus h ≡ 1 = omega arith in
    let base = without_bit x h (same ∙ one) in
    let y = x - 2 ^ h in
    let back : y + 2 ^ h ≡ x = omega (arith, base.0) in
    let turned : bit_xor x (2 ^ h) ≡ y = ap (λ c. bit_xor c (2 ^ h)) (sym back ∙ set_by_xor h y base.1) ∙ xor_cancel_right y (2 ^ h) in
    omega (arith, (halves.turned one).0, (halves.turned one).1))
    (cases_eq (bit_at plus h) 0)

-- lone bits of different numbers are different
pub lone_apart : (a : Matrix) (i j h k : ℕ) → j < a.n → i ≢ j → IsLoneBit a i h → IsLoneBit a j k → h ≢ k
lone_apart a i j h k inside differ inner outer same =
    let none : bit_at (column a j) h ≡ 0 = inner.others j inside (λ e. differ (sym e)) in
    let one : bit_at (column a j) h ≡ 1 = ap (bit_at (column a j)) same ∙ ap (λ c. bit_at c k) outer.unit ∙ bit_at-pow_same k in
    absurd (omega arith)

-- a number by two of its bits, whichever is the lower
both_bits : (h k x : ℕ) → h ≢ k
    → spread_two (min h k) (max h k) (squeeze_two (min h k) (max h k) x) + (bit_at x h * 2 ^ h + bit_at x k * 2 ^ k) ≡ x
both_bits h k x differ =
    ⊎_elim
    (λ (p : h < k).
    subst (λ low. spread_two low (max h k) (squeeze_two low (max h k) x) + (bit_at x h * 2 ^ h + bit_at x k * 2 ^ k) ≡ x)
    (let e : h ≡ min h k = omega arith in e)
    (subst (λ high. spread_two h high (squeeze_two h high x) + (bit_at x h * 2 ^ h + bit_at x k * 2 ^ k) ≡ x)
    (let e : k ≡ max h k = omega arith in e) (spread_two-squeeze h k x p)))
    (λ (p : k ≤ h).
    subst (λ low. spread_two low (max h k) (squeeze_two low (max h k) x) + (bit_at x h * 2 ^ h + bit_at x k * 2 ^ k) ≡ x)
    (let e : k ≡ min h k = omega arith in e)
    (subst (λ high. spread_two k high (squeeze_two k high x) + (bit_at x h * 2 ^ h + bit_at x k * 2 ^ k) ≡ x)
    (let e : h ≡ max h k = omega arith in e)
    (let whole = spread_two-squeeze k h x (omega arith) in omega (arith, whole))))
    (cases_lt h k)

-- the places of the numbers of a group are corners of one place
pub lone_corners : (a : Matrix) (plus i j h k y at_u at_v at_u_above at_v_above : ℕ) → i < a.n → j < a.n → i ≢ j
    → IsLoneBit a i h → IsLoneBit a j k
    → HoldHalves plus h at_u at_v → HoldHalves plus k at_u_above at_v_above
    → bit_at y i ≡ 0 → bit_at y j ≡ 0
    → (t : ℕ) → t < 4
    → corner_place (min h k) (max h k) (at_u + at_u_above) (at_v + at_u_above) (at_u + at_v_above) (at_v + at_v_above)
    (squeeze_two (min h k) (max h k) (place a plus y)) t ≡ place a plus (four i j y t)
unfolding pick
lone_corners a plus i j h k y at_u at_v at_u_above at_v_above inside_i inside_j apart inner outer halves halves_above clear
    clear_above
    =
    let x = place a plus y in
    let x_1 = place a plus (flip y i) in
    let differ = lone_apart a i j h k inside_j apart inner outer in
    let beside : bit_at (flip y i) j ≡ 0 = flip_other y i j (λ e. apart (sym e)) ∙ clear_above in
    let bit_h : bit_at x h ≡ bit_at plus h = lone_place a plus i h y inner clear in
    let bit_k : bit_at x k ≡ bit_at plus k = lone_place a plus j k y outer clear_above in
    let bit_k_1 : bit_at x_1 k ≡ bit_at plus k = lone_place a plus j k (flip y i) outer beside in
    let base = spread_two (min h k) (max h k) (squeeze_two (min h k) (max h k) x) in
    let first : base + (at_u + at_u_above) ≡ x = ap (λ c. base + (c + at_u_above))
    (sym (ap (λ c. c * 2 ^ h) bit_h ∙ halves_sum plus h at_u at_v halves))
    ∙ ap (λ c. base + (bit_at x h * 2 ^ h + c))
    (sym (ap (λ c. c * 2 ^ k) bit_k ∙ halves_sum plus k at_u_above at_v_above halves_above))
    ∙ both_bits h k x differ in
    let turn : bit_xor x (2 ^ h) + at_u ≡ x + at_v = halves_turn plus h at_u at_v x halves bit_h in
    let turn_above : bit_xor x (2 ^ k) + at_u_above ≡ x + at_v_above = halves_turn plus k at_u_above at_v_above x halves_above
    bit_k in
    let turn_both : bit_xor x_1 (2 ^ k) + at_u_above ≡ x_1 + at_v_above =
    halves_turn plus k at_u_above at_v_above x_1 halves_above bit_k_1 in
    let is_1 : bit_xor x (2 ^ h) ≡ x_1 = ap (bit_xor x) (sym inner.unit) ∙ place_turned a plus i y inside_i in
    let is_2 : bit_xor x (2 ^ k) ≡ place a plus (flip y j) = ap (bit_xor x) (sym outer.unit) ∙ place_turned a plus j y inside_j in
    let is_3 : bit_xor x_1 (2 ^ k) ≡ place a plus (flip (flip y i) j) = ap (bit_xor x_1) (sym outer.unit)
    ∙ place_turned a plus j (flip y i) inside_j in
    by_four (λ t. base + pick (at_u + at_u_above) (at_v + at_u_above) (at_u + at_v_above) (at_v + at_v_above) t
    ≡ place a plus (four i j y t))
    first
    ((let e : base + (at_v + at_u_above) ≡ bit_xor x (2 ^ h) = omega arith in e) ∙ is_1)
    ((let e : base + (at_u + at_v_above) ≡ bit_xor x (2 ^ k) = omega arith in e) ∙ is_2)
    ((let e : base + (at_v + at_v_above) ≡ bit_xor x_1 (2 ^ k) = omega arith in e) ∙ is_3)

-- all groups
pub SameRecords-lone : (f : ℕ → ℕ → ℕ × ℕ) (a : Matrix) (plus i j h k at_u at_v at_u_above at_v_above : ℕ) (old new : List ℕ)
    → plus < 2 ^ a.n → i < a.n → j < a.n → i ≢ j
    → IsLoneBit a i h → IsLoneBit a j k
    → HoldHalves plus h at_u at_v → HoldHalves plus k at_u_above at_v_above
    → GroupsDone f (corner_place (min h k) (max h k) (at_u + at_u_above) (at_v + at_u_above) (at_u + at_v_above)
    (at_v + at_v_above)) 0 (2 ^ (a.n - 1 - max h k) * 2 ^ (max h k - 1)) old new
    → SameRecords (2 ^ a.n) (record_at_place a plus new) (kernel_on f j (kernel_on f i (record_at_place a plus old)))
SameRecords-lone f a plus i j h k at_u at_v at_u_above at_v_above old new short inside_i inside_j apart inner outer halves
    halves_above made
    =
    let differ = lone_apart a i j h k inside_j apart inner outer in
    let order : min h k < max h k = omega arith in
    let high_inside : max h k < a.n = omega (arith, inner.inside, outer.inside) in
    let blocks = corner_blocks a.n (max h k) high_inside (omega arith) in
    SameRecords-groups f i j (2 ^ a.n) (record_at_place a plus old) (record_at_place a plus new) apart
    (λ y below clear clear_above.
    let x = place a plus y in
    let w = squeeze_two (min h k) (max h k) x in
    let w_below : w < 2 ^ (a.n - 1 - max h k) * 2 ^ (max h k - 1) = squeeze_two-lt (min h k) (max h k) x (2 ^ (a.n - 1 - max h k)) order
    (subst (λ c. x < c) (sym blocks.0) (place_below a plus y short)) in
    IsGroup-same f _ (λ t. place a plus (four i j y t)) old new
    (lone_corners a plus i j h k y at_u at_v at_u_above at_v_above inside_i inside_j apart inner outer halves halves_above clear
    clear_above)
    (made.done w (omega arith) w_below))

-- all groups of records in order of address
pub SameRecords-order : (f : ℕ → ℕ → ℕ × ℕ) (i count m : ℕ) (old new : List ℕ) → count ≤ m * 2 ^ (i + 1 + 1)
    → GroupsDone f (corner_place i (i + 1) 0 (2 ^ i) (2 ^ (i + 1)) (2 ^ i + 2 ^ (i + 1))) 0 (m * 2 ^ (i + 1 - 1)) old new
    → SameRecords count (record_in_order new) (kernel_on f (i + 1) (kernel_on f i (record_in_order old)))
unfolding pick
SameRecords-order f i count m old new reach made =
    let apart : i ≢ i + 1 = λ e. absurd (omega arith) in
    SameRecords-groups f i (i + 1) count (record_in_order old) (record_in_order new) apart
    (λ y below clear clear_above.
    let w = squeeze_two i (i + 1) y in
    let first : spread_two i (i + 1) w ≡ y = first_of_group i (i + 1) y (omega arith) clear clear_above in
    let inner : y + 2 ^ i ≡ flip y i = set_by_xor i y clear in
    let outer : y + 2 ^ (i + 1) ≡ flip y (i + 1) = set_by_xor (i + 1) y clear_above in
    let both : flip y i + 2 ^ (i + 1) ≡ flip (flip y i) (i + 1) =
    set_by_xor (i + 1) (flip y i) (flip_other y i (i + 1) (λ e. apart (sym e)) ∙ clear_above) in
    IsGroup-same f _ (λ t. four i (i + 1) y t) old new
    (by_four (λ t. spread_two i (i + 1) w + pick 0 (2 ^ i) (2 ^ (i + 1)) (2 ^ i + 2 ^ (i + 1)) t ≡ four i (i + 1) y t)
    (omega arith) (omega arith) (omega arith) (omega arith))
    (made.done w (omega arith) (squeeze_two-lt i (i + 1) y m (omega arith) (omega arith))))
