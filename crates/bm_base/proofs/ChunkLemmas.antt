-- A part of a list after another part was written.
use Rattle.std.proofs.Common.{inl, inr, ◌≡◌, ◌≢◌, ℕ, ◌+◌, ◌-◌, ◌*◌, ◌<◌, ◌≤◌, List, ◌++◌, length, take, drop, sym, ◌∙◌, ap, subst, arith}
use Rattle.std.proofs.Common.{length-drop}
use Rattle.std.proofs.lemmas.List.{take-append-le, drop-append-le, take-take, drop-take, drop-drop, drop_at, length-take-le, take_all}
use Rattle.std.proofs.lemmas.Bool.{cases_lt}
use Rattle.std.proofs.Math.Nat.{mul-le-mul_right}
use Rattle.std.proofs.lemmas.Slice.{drop-put_mid}
use borrow.Rule.Slice.PartMut.{put_mid, post_of}

-- before the part
pub chunk_before : (w n a k : ℕ) (xs ys : List ℕ) → n + w ≤ a → a ≤ length xs → take w (drop n (put_mid a k xs ys)) ≡ take w (drop n xs)
chunk_before w n a k xs ys h l =
    let rest = ys ++ post_of a k xs in
    let front : length (take a xs) ≡ a = length-take-le a xs l in
    let e1 : drop n (take a xs ++ rest) ≡ drop n (take a xs) ++ rest = drop-append-le n (take a xs) rest (omega arith) in
    let e2 : drop n (take (n + (a - n)) xs) ≡ take (a - n) (drop n xs) = drop-take n (a - n) xs in
    let same : n + (a - n) ≡ a = omega arith in
    let e3 : drop n (take a xs) ≡ take (a - n) (drop n xs) = subst (λ (x : ℕ). drop n (take x xs) ≡ take (a - n) (drop n xs)) same e2 in
    let long : length (drop n (take a xs)) ≡ a - n = length-drop n (take a xs) ∙ ap (λ (x : ℕ). x - n) front in
    ap (λ (x : List ℕ). take w x) e1
    ∙ take-append-le w (drop n (take a xs)) rest (omega arith)
    ∙ ap (λ (x : List ℕ). take w x) e3
    ∙ take-take w (a - n) (drop n xs) (omega arith)

-- within the part
pub chunk_within : (w j a k : ℕ) (xs ys : List ℕ) → j + w ≤ length ys → a ≤ length xs
    → take w (drop (a + j) (put_mid a k xs ys)) ≡ take w (drop j ys)
chunk_within w j a k xs ys h l =
    let rest = ys ++ post_of a k xs in
    let front : length (take a xs) ≡ a = length-take-le a xs l in
    let e0 : drop (a + j) (take a xs ++ rest) ≡ drop j (drop a (take a xs ++ rest)) = sym (drop-drop j a (take a xs ++ rest)) in
    let e1 : drop a (take a xs ++ rest) ≡ rest = drop_at (take a xs) rest a front in
    let e2 : drop j (ys ++ post_of a k xs) ≡ drop j ys ++ post_of a k xs = drop-append-le j ys (post_of a k xs) (omega arith) in
    let long : length (drop j ys) ≡ length ys - j = length-drop j ys in
    ap (λ (x : List ℕ). take w x) (e0 ∙ ap (λ (x : List ℕ). drop j x) e1 ∙ e2)
    ∙ take-append-le w (drop j ys) (post_of a k xs) (omega arith)

-- a part of a part
pub chunk_of_part : (w j n a : ℕ) (xs : List ℕ) → j + w ≤ n → take w (drop j (take n (drop a xs))) ≡ take w (drop (a + j) xs)
chunk_of_part w j n a xs h =
    let same : j + (n - j) ≡ n = omega arith in
    let e : drop j (take (j + (n - j)) (drop a xs)) ≡ take (n - j) (drop j (drop a xs)) = drop-take j (n - j) (drop a xs) in
    let e' : drop j (take n (drop a xs)) ≡ take (n - j) (drop j (drop a xs)) = subst
    (λ (x : ℕ). drop j (take x (drop a xs)) ≡ take (n - j) (drop j (drop a xs))) same e in
    ap (λ (x : List ℕ). take w x) e'
    ∙ take-take w (n - j) (drop j (drop a xs)) (omega arith)
    ∙ ap (λ (x : List ℕ). take w x) (drop-drop j a xs)

-- block number i after the first bytes of block number j were written
pub chunk_other : (w i j n k : ℕ) (xs ys : List ℕ) → i ≢ j → (j + 1) * w ≤ length xs → n ≤ w → k ≡ n → length ys ≡ n
    → take w (drop (i * w) (put_mid (j * w) k xs ys)) ≡ take w (drop (i * w) xs)
chunk_other w i j n k xs ys apart fits short size long = elim (cases_lt i j) [
  | inl below ↦
      let end : (i + 1) * w ≤ j * w = mul-le-mul_right w (omega arith) in
      chunk_before w (i * w) (j * w) k xs ys (omega arith) (omega arith)
  | inr from ↦
      let above : j + 1 ≤ i = omega arith in
      let end : (j + 1) * w ≤ i * w = mul-le-mul_right w above in
      ap (λ (x : List ℕ). take w x) (drop-put_mid (j * w) k xs ys (i * w) (omega arith) (omega arith) (omega arith))
]

-- the block that was written whole
pub chunk_same : (w j k : ℕ) (xs ys : List ℕ) → j * w ≤ length xs → length ys ≡ w → take w (drop (j * w) (put_mid (j * w) k xs ys)) ≡ ys
chunk_same w j k xs ys fits long =
    let at : j * w + 0 ≡ j * w = omega arith in
    ap (λ (x : ℕ). take w (drop x (put_mid (j * w) k xs ys))) (sym at)
    ∙ chunk_within w 0 (j * w) k xs ys (omega arith) fits
    ∙ take_all w ys (omega arith)

-- block number j of so many fits
pub block_fits_at : (w j n : ℕ) → j < n → (j + 1) * w ≤ n * w
block_fits_at w j n below = mul-le-mul_right w (omega arith)
