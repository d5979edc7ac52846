-- Rows of a matrix as numbers, and lists of them.
use Rattle.std.proofs.Common.{ℕ, zero, suc, ◌≡◌, ◌+◌, ◌*◌, ◌%◌, ◌^◌, ◌<◌, ◌≤◌, List, [], ◌∷◌, ◌++◌, map, codes, decimal, sym, ap, ◌∙◌}
use Rattle.std.proofs.Common.{arith, append_assoc}
use Rattle.std.specs.Int.{bit_at}
use Rattle.std.specs.List.{range_with_len, flat_map}
use Rattle.std.proofs.lemmas.Grind.{flat_map-append}
use Rattle.std.proofs.lemmas.List.{append-nil, map-append}
use Rattle.std.proofs.lemmas.Nat.{mod-pow-add}
use Rattle.std.proofs.Math.Nat.{mod-eq_of_lt}
use Rattle.bm_text.specs.JobText.{row_of, row_list}

-- its low bits and the next one
low_more : (x k : ℕ) → x % 2 ^ suc k ≡ bit_at x k * 2 ^ k + x % 2 ^ k
low_more x k =
    let one : suc k ≡ 1 + k = omega arith in
    ap (λ (z : ℕ). x % 2 ^ z) one ∙ mod-pow-add x 1 k

-- the low bits of a number whose bits are the entries
low_row : (columns : ℕ → ℕ) (i k x : ℕ)
    → ((j : ℕ) → j < k → bit_at x j ≡ bit_at (columns j) i)
    → x % 2 ^ k ≡ row_of columns k i
unfolding row_of
low_row columns i zero x same = omega arith
low_row columns i (suc k) x same =
    low_more x k
    ∙ ap (λ (b : ℕ). b * 2 ^ k + x % 2 ^ k) (same k (omega arith))
    ∙ ap (λ (z : ℕ). bit_at (columns k) i * 2 ^ k + z) (low_row columns i k x (λ j l. same j (omega arith)))

-- a number below 2 ^ n whose bits are the entries is the row
pub row_by_entries : (columns : ℕ → ℕ) (i n x : ℕ) → x < 2 ^ n
    → ((j : ℕ) → j < n → bit_at x j ≡ bit_at (columns j) i)
    → x ≡ row_of columns n i
row_by_entries columns i n x small same = sym (mod-eq_of_lt small) ∙ low_row columns i n x same

-- one number more in a range
range_more : (a n : ℕ) → range_with_len a (suc n) ≡ range_with_len a n ++ (a + n) ∷ []
range_more a zero = let same : a ≡ a + 0 = omega arith in ap (λ (z : ℕ). z ∷ []) same
range_more a (suc n) =
    let same : a + 1 + n ≡ a + suc n = omega arith in
    ap (λ (z : List ℕ). a ∷ z) (range_more (a + 1) n)
    ∙ ap (λ (z : ℕ). a ∷ range_with_len (a + 1) n ++ z ∷ []) same

-- the first row alone
pub first_row : (f : ℕ → ℕ) → row_list (map f (range_with_len 0 1)) ≡ decimal (f 0)
first_row f = append-nil (decimal (f 0))

-- one number more in a list that is not empty
joined_more : (x y : ℕ) (xs : List ℕ) → row_list (x ∷ xs ++ y ∷ []) ≡ row_list (x ∷ xs) ++ (codes ", " ++ decimal y)
joined_more x y xs =
    let each : ℕ → List ℕ = λ z. codes ", " ++ decimal z in
    let more = flat_map-append each xs (y ∷ []) ∙ ap (λ (z : List ℕ). flat_map each xs ++ z) (append-nil (each y)) in
    ap (λ (z : List ℕ). decimal x ++ z) more
    ∙ sym (append_assoc (decimal x) (flat_map each xs) (each y))

-- one row more
pub row_more : (f : ℕ → ℕ) (k : ℕ) → 1 ≤ k
    → row_list (map f (range_with_len 0 (k + 1))) ≡ row_list (map f (range_with_len 0 k)) ++ (codes ", " ++ decimal (f k))
row_more f zero some = absurd (omega arith)
row_more f (suc k) some =
    let next : suc k + 1 ≡ suc (suc k) = omega arith in
    let last : 0 + suc k ≡ suc k = omega arith in
    ap (λ (z : ℕ). row_list (map f (range_with_len 0 z))) next
    ∙ ap (λ (z : List ℕ). row_list (map f z)) (range_more 0 (suc k))
    ∙ ap row_list (map-append f (range_with_len 0 (suc k)) ((0 + suc k) ∷ []))
    ∙ ap (λ (z : ℕ). row_list (map f (range_with_len 0 (suc k)) ++ f z ∷ [])) last
    ∙ joined_more (f 0) (f (suc k)) (map f (range_with_len 1 k))
