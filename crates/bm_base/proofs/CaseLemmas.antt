-- Choices, answers and counts, as the layers above use them.
use Rattle.std.proofs.Common.{◌≡◌, ℕ, ◌+◌, ◌==◌, true, false, if◌then◌else◌, List, length, drop, Result, Ok, Err, IsOk, IsErr, is_err}
use Rattle.std.proofs.Common.{refl, ◌∙◌, arith}
use Rattle.std.specs.List.{refill}
use Rattle.std.proofs.lemmas.Bool.{false≢true, eq-eqb, ne_eqb}
use Rattle.std.proofs.lemmas.List.{take-append-le, take_all}

-- the choice where both numbers are equal
pub if_same : {A : Type 0} (a b : ℕ) (x y : A) → a ≡ b → (if a == b then x else y) ≡ x
if_same a b x y h = let e : (a == b) ≡ true = eq-eqb a b h in rw e refl

-- and where they are not
pub if_other : {A : Type 0} (a b : ℕ) (x y : A) → (a ≡ b → ⊥) → (if a == b then x else y) ≡ y
if_other a b x y h = let e : (a == b) ≡ false = ne_eqb a b h in rw e refl

-- sums of equals
pub plus_same : {a b c d : ℕ} → a ≡ c → b ≡ d → a + b ≡ c + d
plus_same p q = cc

-- what is no error is a value
pub ok_of_no_error : {T E : Type 0} (result : Result T E) → false ≡ is_err result → IsOk result
ok_of_no_error (Ok x) h = refl
ok_of_no_error (Err e) h = absurd (false≢true h)

-- an error is no value
pub error_not_ok : {T E : Type 0} (result : Result T E) → IsErr result → ¬ IsOk result
error_not_ok (Ok x) err ok = false≢true err
error_not_ok (Err e) err ok = false≢true ok

-- a list that was filled up to its length again holds what it was filled with
pub refill_all : (xs ws : List ℕ) → length ws ≡ length xs → refill (length xs) xs ws ≡ ws
refill_all xs ws same = take-append-le (length xs) ws (drop (length ws) xs) (omega arith) ∙ take_all (length xs) ws (omega arith)
