-- Stops that are read from a list of numbers, two at a time.
use Rattle.std.proofs.Common.{◌≡◌, ℕ, ◌+◌, ◌*◌, ◌/◌, ◌<◌, ◌≤◌, List, [], ◌∷◌, ◌++◌}
use Rattle.std.proofs.Common.{length, length-append, length-drop, drop, slice_index, refl, sym, ap, ◌∙◌}
use Rattle.std.proofs.Common.{append_assoc, arith}
use Rattle.std.proofs.lemmas.List.{drop_more, append-nil}
use Rattle.bm_base.specs.declared.stops.Stop.{Stop}
use Rattle.bm_jobfile.specs.DrillTable.{pairs_of}

-- as far as the first k pairs, these are the stops
pub record HasPaired (numbers : List ℕ) (k : ℕ) (read : List Stop) : Type 0 where
  pub whole : pairs_of numbers ≡ read ++ pairs_of (drop (2 * k) numbers)
  pub count : length read ≡ k

-- no pair is read
pub paired_none : (numbers : List ℕ) → HasPaired numbers 0 []
paired_none numbers = record { whole = refl; count = refl }

-- the stop of pair k
abbrev pub stop_at : List ℕ → ℕ → Stop
stop_at numbers k = record { after = slice_index numbers (2 * k); pick = slice_index numbers (2 * k + 1) }

-- the numbers from pair k on begin with it
pair_first : (numbers : List ℕ) (k : ℕ) → 2 * k + 1 < length numbers
    → pairs_of (drop (2 * k) numbers) ≡ stop_at numbers k ∷ pairs_of (drop (2 * (k + 1)) numbers)
pair_first numbers k inside =
    let first = drop_more numbers (2 * k) 0 (omega arith) in
    let second = drop_more numbers (2 * k + 1) 0 inside in
    let next : 2 * k + 1 + 1 ≡ 2 * (k + 1) = omega arith in
    ap pairs_of (first ∙ ap (λ (rest : List ℕ). slice_index numbers (2 * k) ∷ rest) second)
    ∙ ap (λ (at : ℕ). stop_at numbers k ∷ pairs_of (drop at numbers)) next

-- one pair more is read
pub paired_more : (numbers : List ℕ) (k : ℕ) (read : List Stop) → HasPaired numbers k read → 2 * k + 1 < length numbers
    → HasPaired numbers (k + 1) (read ++ stop_at numbers k ∷ [])
paired_more numbers k read far inside = record {
  whole =
      far.whole ∙ ap (λ (rest : List Stop). read ++ rest) (pair_first numbers k inside)
      ∙ sym (append_assoc read (stop_at numbers k ∷ []) (pairs_of (drop (2 * (k + 1)) numbers)));
  count = length-append read (stop_at numbers k ∷ []) ∙ ap (λ (n : ℕ). n + 1) far.count;
}

-- a list of one number has no pair
one_left : (numbers : List ℕ) → length numbers ≤ 1 → pairs_of numbers ≡ []
one_left [] few = refl
one_left (a ∷ []) few = refl
one_left (a ∷ b ∷ rest) few = absurd (omega arith)

-- every pair is read
pub paired_all : (numbers : List ℕ) (k : ℕ) (read : List Stop) → HasPaired numbers k read → length numbers / 2 ≤ k → read ≡ pairs_of numbers
paired_all numbers k read far past =
    let few : length (drop (2 * k) numbers) ≤ 1 = omega (arith, length-drop (2 * k) numbers) in
    sym (far.whole ∙ ap (λ (stops : List Stop). read ++ stops) (one_left (drop (2 * k) numbers) few) ∙ append-nil read)
