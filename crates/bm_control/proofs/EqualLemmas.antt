-- Answers that are one, and tests.
use Rattle.std.proofs.Common.{◌≡◌, Result, Ok, Err, IsOk, IsErrAnd, Option, Some, None, Bool, true, false, ℕ, ap}
use Rattle.std.proofs.lemmas.Bool.{false≢true}

-- what an answer holds is told by it
pub some_injective : {X : Type 0} (a b : X) → Some a ≡ Some b → a ≡ b
some_injective a b e = cc

pub none_some : {X : Type 0} (a : X) → ¬ (None ≡ Some a)
none_some a e = cc

pub pair_injective : (a b k l : ℕ) → ◌≡◌ {A = Option (ℕ × ℕ)} (Some (a, k)) (Some (b, l)) → (a ≡ b) × (k ≡ l)
pair_injective a b k l e =
    let both : ◌≡◌ {A = ℕ × ℕ} (a, k) (b, l) = some_injective {X = ℕ × ℕ} (a, k) (b, l) e in
    (ap (λ (p : ℕ × ℕ). p.0) both, ap (λ (p : ℕ × ℕ). p.1) both)

-- a test has one outcome
pub one_outcome : (b : Bool) → b ≡ true → ¬ (b ≡ false)
one_outcome b holds fails = cc

-- an error that is handed on
pub error_is : {T E : Type 0} (r : Result T E) (e : E) → IsErrAnd r (λ x. x ≡ e) → r ≡ Err e
error_is (Ok x) e h = absurd h
error_is (Err x) e h = ap Err h

pub error_fails : {T E : Type 0} (r : Result T E) (e : E) → IsErrAnd r (λ x. x ≡ e) → ¬ IsOk r
error_fails (Ok x) e h ok = absurd h
error_fails (Err x) e h ok = false≢true ok
