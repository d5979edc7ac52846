-- Pairings on rotated lists of records.
use Rattle.std.proofs.Common.{ℕ, zero, suc, ◌≡◌, ◌+◌, ◌/◌, ◌%◌, ◌^◌, ◌<◌, ◌≤◌, List, sym, ap, ◌∙◌, subst, arith}
use Rattle.std.specs.Int.{bit_at}
use Rattle.std.proofs.lemmas.Nat.{shr-shr}
use Rattle.bm_base.specs.Records.{SameRecords}
use Rattle.bm_gf2.specs.declared.affine.Affine.{Affine}
use Rattle.bm_gf2.specs.Matrix.{IsNonsingular}
use Rattle.bm_gf2.proofs.VectorLemmas.{xor_cancel_right}
use Rattle.bm_forms.specs.Permutation.{permuted}
use Rattle.bm_forms.proofs.PermutationLemmas.{permuted-image}
use Rattle.bm_forms.proofs.RoundLemmas.{rotated, rotated-lt, rotated-bit, rotated-add}
use Rattle.bm_forms.proofs.RoundLemmas.{rotated-rotated, rotated-none, rotated-all, IsRotation}
use Rattle.bm_butter.proofs.PairedLemmas.{set_by_xor}
use Rattle.bm_kinds.specs.OnBits.{word, kernel_on, kernel_over}
use Rattle.bm_kinds.proofs.OnBitLemmas.{flip, flip_set, flip_below, bit_by, kernel_on-same}
use Rattle.bm_kinds.proofs.OverLemmas.{kernel_over-left, kernel_over-taken}

-- the list ys is zs, rotated by `by`
unfoldable pub Turned : ℕ → ℕ → (ℕ → List ℕ) → (ℕ → List ℕ) → Type 0
Turned n by zs ys = (k : ℕ) → k < 2 ^ n → ys (rotated n by k) ≡ zs k

-- a clear bit turned over, rotated
turned_clear : (n by j k : ℕ) → bit_at k (by + j) ≡ 0 → by + j < n → rotated n by (flip k (by + j)) ≡ flip (rotated n by k) j
turned_clear n by j k clear inside =
    ap (rotated n by) (sym (set_by_xor (by + j) k clear)) ∙ rotated-add n by j k
    ∙ set_by_xor j (rotated n by k) (rotated-bit n by j k inside ∙ clear)

-- a bit turned over, rotated
turned_flip : (n by j k : ℕ) → by + j < n → rotated n by (flip k (by + j)) ≡ flip (rotated n by k) j
turned_flip n by j k inside = bit_by k (by + j)
    (λ (p : bit_at k (by + j) ≡ 0). turned_clear n by j k p inside)
    (λ (p : bit_at k (by + j) ≡ 1).
    let base = flip k (by + j) in
    let back : flip base (by + j) ≡ k = xor_cancel_right k (2 ^ (by + j)) in
    let step : rotated n by k ≡ flip (rotated n by base) j = ap (rotated n by) (sym back)
    ∙ turned_clear n by j base (flip_set k (by + j) p) inside in
    sym (xor_cancel_right (rotated n by base) (2 ^ j)) ∙ ap (λ (c : ℕ). flip c j) (sym step))

-- bit j of the rotated list is bit by + j
turned_on : (f : ℕ → ℕ → ℕ × ℕ) (n by j : ℕ) (zs ys : ℕ → List ℕ) → by + j < n → Turned n by zs ys
    → Turned n by (kernel_on f (by + j) zs) (kernel_on f j ys)
unfolding Turned
turned_on f n by j zs ys inside turned k short =
    kernel_on-same f j (by + j) ys zs (rotated n by k) k (rotated-bit n by j k inside)
    (ap word (turned k short))
    (ap (λ (c : ℕ). word (ys c)) (sym (turned_flip n by j k inside))
    ∙ ap word (turned (flip k (by + j)) (flip_below n k (by + j) short inside)))

-- the bits of a set above those that were done
part_bit : (set by j : ℕ) → bit_at (set / 2 ^ by) j ≡ bit_at set (by + j)
part_bit set by j = ap (λ (c : ℕ). c % 2) (shr-shr set by j)

-- so many bits more
pub turned_over : (f : ℕ → ℕ → ℕ × ℕ) (n by low set : ℕ) (xs ys : ℕ → List ℕ) → by + low ≤ n → Turned n by (kernel_over f by set xs) ys
    → Turned n by (kernel_over f (by + low) set xs) (kernel_over f low (set / 2 ^ by) ys)
unfolding kernel_over
turned_over f n by zero set xs ys inside turned =
    subst (λ (c : ℕ). Turned n by (kernel_over f c set xs) ys) (let e : by ≡ by + 0 = omega arith in e) turned
turned_over f n by (suc j) set xs ys inside turned =
    let before = turned_over f n by j set xs ys (omega arith) turned in
    let part = set / 2 ^ by in
    let next : suc (by + j) ≡ by + suc j = omega arith in
    subst (λ (c : ℕ). Turned n by (kernel_over f c set xs) (kernel_over f (suc j) part ys)) next
    (bit_by part j
    (λ (p : bit_at part j ≡ 0).
    subst (λ (zs : ℕ → List ℕ). Turned n by zs (kernel_over f (suc j) part ys))
    (sym (kernel_over-left f (by + j) set xs (sym (part_bit set by j) ∙ p)))
    (subst (Turned n by (kernel_over f (by + j) set xs)) (sym (kernel_over-left f j part ys p)) before))
    (λ (p : bit_at part j ≡ 1).
    subst (λ (zs : ℕ → List ℕ). Turned n by zs (kernel_over f (suc j) part ys))
    (sym (kernel_over-taken f (by + j) set xs (sym (part_bit set by j) ∙ p)))
    (subst (Turned n by (kernel_on f (by + j) (kernel_over f (by + j) set xs))) (sym (kernel_over-taken f j part ys p))
    (turned_on f n by j (kernel_over f (by + j) set xs) (kernel_over f j part ys) (omega arith) before))))

-- one rotation more
pub turned_more : (n by low : ℕ) (f : Affine) (zs ys : ℕ → List ℕ) → by + low ≤ n → f.a.n ≡ n → IsNonsingular f.a → IsRotation n low f
    → Turned n by zs ys → Turned n (by + low) zs (permuted f ys)
unfolding Turned IsRotation
turned_more n by low f zs ys inside size nonsingular rotates turned k short =
    let here : rotated n by k < 2 ^ n = rotated-lt n by k (omega arith) short in
    ap (permuted f ys) (sym (rotated-rotated n by low k inside) ∙ sym (rotates (rotated n by k) here))
    ∙ permuted-image f ys (rotated n by k) nonsingular (subst (λ (c : ℕ). rotated n by k < 2 ^ c) (sym size) here)
    ∙ turned k short

-- no rotation
pub turned_none : (n : ℕ) (xs : ℕ → List ℕ) → Turned n 0 xs xs
unfolding Turned
turned_none n xs k short = ap xs (rotated-none n k)

-- a rotation by all bits
pub turned_all : (n : ℕ) (zs ys : ℕ → List ℕ) → Turned n n zs ys → SameRecords (2 ^ n) ys zs
unfolding Turned
turned_all n zs ys turned k short = ap ys (sym (rotated-all n k short)) ∙ turned k short

-- the records in the range decide
pub turned_same : (n by : ℕ) (zs ws ys : ℕ → List ℕ) → by ≤ n → SameRecords (2 ^ n) ys ws → Turned n by zs ws → Turned n by zs ys
unfolding Turned
turned_same n by zs ws ys inside same turned k short = same (rotated n by k) (rotated-lt n by k inside short) ∙ turned k short
