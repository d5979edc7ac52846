-- The places of a group.
use Rattle.std.proofs.Common.{ℕ, ◌≡◌, ◌≢◌, ◌+◌, ◌*◌, ◌^◌, ◌<◌, ◌≤◌, List, bit_xor, sym}
use Rattle.std.proofs.Common.{ap, ◌∙◌, arith}
use Rattle.std.specs.Int.Bits.{xor_assoc}
use Rattle.bm_gf2.specs.declared.matrix.Matrix.{Matrix}
use Rattle.bm_gf2.specs.Matrix.{column, image, IsNonsingular}
use Rattle.bm_gf2.proofs.VectorLemmas.{xor_same, xor_sum-xor}
use Rattle.bm_butter.specs.Records.{record_in_order, record_at_place}
use Rattle.bm_butter.proofs.PlaceLemmas.{place, place_below}
use Rattle.bm_butter.proofs.NumberLemmas.{same_number}
use Rattle.bm_butter.specs.OnBits.{word, kernel_digits, AreBits}
use Rattle.bm_kinds.specs.Groups.{member}
use Rattle.bm_kinds.proofs.OverLemmas.{kernel_digits-words}
use Rattle.bm_kinds.proofs.MemberLemmas.{IsBase, number, number_below, number_digits}
use Rattle.bm_kinds.proofs.GroupLemmas.{GroupsBelow, GroupsBelow-more}

-- ---- places

-- the place of a number of a group
pub corner_place : (a : Matrix) (plus here w t count offset : ℕ) (bits : ℕ → ℕ) → here ≡ place a plus w
    → offset ≡ image a (member bits count t)
    → bit_xor here offset ≡ place a plus (number bits count w t)
corner_place a plus here w t count offset bits is picks =
    xor_same is picks ∙ xor_assoc plus (image a w) (image a (member bits count t))
    ∙ ap (bit_xor plus) (sym (xor_sum-xor (column a) a.n w (member bits count t)))

-- the places of a group
pub record HoldGroup (a : Matrix) (plus w count : ℕ) (bits places : ℕ → ℕ) : Type 0 where
  pub are : AreBits a.n count bits
  pub nonsingular : IsNonsingular a
  pub constant : plus < 2 ^ a.n
  pub base : IsBase bits count w
  pub below : w < 2 ^ a.n
  pub at : (t : ℕ) → t < 2 ^ count → places t ≡ place a plus (number bits count w t)

pub HoldGroup-inside : (a : Matrix) (plus w count size : ℕ) (bits places : ℕ → ℕ) → HoldGroup a plus w count bits places
    → size ≡ 8 * 2 ^ a.n
    → (t : ℕ) → t < 2 ^ count → (places t + 1) * 8 ≤ size
HoldGroup-inside a plus w count size bits places hold whole t l =
    let e = hold.at t l in
    let b : place a plus (number bits count w t) < 2 ^ a.n = place_below a plus (number bits count w t) hold.constant in
    omega arith

pub HoldGroup-apart : (a : Matrix) (plus w count : ℕ) (bits places : ℕ → ℕ) → HoldGroup a plus w count bits places
    → (s t : ℕ) → s < 2 ^ count → t < 2 ^ count → s ≢ t → places s ≢ places t
HoldGroup-apart a plus w count bits places hold s t k l differ same =
    differ (number_digits a.n count w w s t bits hold.are hold.base hold.base k l
    (same_number a plus (number bits count w s) (number bits count w t) hold.nonsingular
    (number_below a.n count w s bits hold.are hold.below) (number_below a.n count w t bits hold.are hold.below)
    (sym (hold.at s k) ∙ same ∙ hold.at t l)))

-- one group more, made at its places
pub GroupsBelow-places : (f : ℕ → ℕ → ℕ × ℕ) (a : Matrix) (plus w count : ℕ) (bits places : ℕ → ℕ) (old now new : List ℕ) → 1 ≤ count
    → HoldGroup a plus w count bits places
    → GroupsBelow f a.n count bits w (record_at_place a plus old) (record_at_place a plus now)
    → ((t : ℕ) → t < 2 ^ count → record_in_order new (places t) ≡ kernel_digits f count (λ k. record_in_order now (places k)) t)
    → ((x : ℕ) → ((t : ℕ) → t < 2 ^ count → x ≢ places t) → record_in_order new x ≡ record_in_order now x)
    → GroupsBelow f a.n count bits (w + 1) (record_at_place a plus old) (record_at_place a plus new)
GroupsBelow-places f a plus w count bits places old now new some hold before made others =
    GroupsBelow-more f a.n count bits w (record_at_place a plus old) (record_at_place a plus now) (record_at_place a plus new) hold.are some
    hold.below hold.base before
    (λ t l. ap (record_in_order new) (sym (hold.at t l)) ∙ made t l
    ∙ kernel_digits-words f count (λ k. record_in_order now (places k)) (λ k. record_at_place a plus now (number bits count w k)) some
    (λ k m. ap (λ (c : ℕ). word (record_in_order now c)) (hold.at k m)) t l)
    (λ y short out. others (place a plus y)
    (λ t l e. out t l (same_number a plus y (number bits count w t) hold.nonsingular short
    (number_below a.n count w t bits hold.are hold.below) (e ∙ hold.at t l))))
