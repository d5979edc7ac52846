-- Bytes of records in order.
use Rattle.std.proofs.Common.{ℕ, zero, suc, ◌≡◌, ◌+◌, ◌*◌, List, ◌++◌, length, take, drop, refl, sym, ap, ◌∙◌, arith}
use Rattle.std.proofs.Math.Seq.{take-add}
use Rattle.std.proofs.Math.Nat.{add-suc, add-mul}
use Rattle.std.proofs.lemmas.List.{append_assoc, append-nil, take_all}
use Rattle.bm_base.specs.Records.{SameRecords, bytes_of}

append_same : {a b c d : List ℕ} → a ≡ b → c ≡ d → a ++ c ≡ b ++ d
append_same p q = cc

more : (i w : ℕ) → i * w + 1 * w ≡ (i + 1) * w → i * w + w ≡ suc i * w
more i w h = (let e : i * w + w ≡ i * w + 1 * w = omega arith in e) ∙ h ∙ ap (λ (c : ℕ). c * w) (let e : i + 1 ≡ suc i = omega arith in e)

pub bytes_of-same : (count : ℕ) (xs ys : ℕ → List ℕ) → SameRecords count xs ys → bytes_of count xs ≡ bytes_of count ys
unfolding bytes_of
bytes_of-same zero xs ys h = refl
bytes_of-same (suc x) xs ys h = append_same (bytes_of-same x xs ys (λ t l. h t (omega arith))) (h x (omega arith))

-- the records of one piece after those before
pub bytes_of-add : (a b : ℕ) (xs : ℕ → List ℕ) → bytes_of (a + b) xs ≡ bytes_of a xs ++ bytes_of b (λ t. xs (a + t))
unfolding bytes_of
bytes_of-add a zero xs = ap (λ (c : ℕ). bytes_of c xs) (let e : a + 0 ≡ a = omega arith in e) ∙ sym (append-nil (bytes_of a xs))
bytes_of-add a (suc b) xs =
    rw add-suc (ap (λ (c : List ℕ). c ++ xs (a + b)) (bytes_of-add a b xs) ∙ append_assoc (bytes_of a xs) (bytes_of b (λ t. xs (a + t)))
    (xs (a + b)))

-- bytes cut into pieces and put together again
pub bytes_of-pieces : (count width : ℕ) (bytes : List ℕ) → bytes_of count (λ i. take width (drop (i * width) bytes)) ≡ take (count * width)
    bytes
unfolding bytes_of
bytes_of-pieces zero width bytes = ap (λ (c : ℕ). take c bytes) (let e : 0 ≡ 0 * width = omega arith in e)
bytes_of-pieces (suc i) width bytes =
    ap (λ (c : List ℕ). c ++ take width (drop (i * width) bytes)) (bytes_of-pieces i width bytes)
    ∙ sym (take-add (i * width) width bytes)
    ∙ ap (λ (c : ℕ). take c bytes) (let e : i * width + 1 * width ≡ (i + 1) * width = sym (add-mul i 1 width) in let
    f : i * width + width ≡ suc i * width = more i width e in f)

pub bytes_of-all : (count width : ℕ) (bytes : List ℕ) → length bytes ≡ count * width
    → bytes_of count (λ i. take width (drop (i * width) bytes)) ≡ bytes
bytes_of-all count width bytes h = bytes_of-pieces count width bytes ∙ take_all (count * width) bytes (omega arith)
