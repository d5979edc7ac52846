-- Fronts of bytes that are written part by part.
use Rattle.std.proofs.Common.{◌≡◌, ℕ, ◌+◌, ◌-◌, ◌≤◌, List, ◌++◌, length, take, drop, sym, ◌∙◌, ap, subst, arith, length-append, length-take}
use Rattle.std.proofs.Common.{length-drop, append_assoc}
use Rattle.std.proofs.Math.Seq.{take-add, take-append-add}
use Rattle.std.proofs.lemmas.List.{take-take, take-append-le}
use Rattle.bm_rack.specs.Sink.{AppendsFront}

-- a front of the rest ends within the bytes
pub front_within : (bytes : List ℕ) (at k : ℕ) → at ≤ length bytes → k ≤ length (take (length bytes - at) (drop at bytes))
    → at + k ≤ length bytes
front_within bytes at k before fits =
    let rest : k ≤ length bytes - at = omega (arith, simp (length-take, length-drop) at fits) in
    omega arith

-- a front of the rest, after the bytes before it
pub front_longer : (before bytes now new : List ℕ) (at k : ℕ) → k ≤ length (take (length bytes - at) (drop at bytes))
    → now ≡ before ++ take at bytes
    → new ≡ now ++ take k (take (length bytes - at) (drop at bytes)) → new ≡ before ++ take (at + k) bytes
front_longer before bytes now new at k fits was e =
    let rest : k ≤ length bytes - at = omega (arith, simp (length-take, length-drop) at fits) in
    e ∙ ap (λ (x : List ℕ). x ++ take k (take (length bytes - at) (drop at bytes))) was
    ∙ ap (λ (x : List ℕ). (before ++ take at bytes) ++ x) (take-take k (length bytes - at) (drop at bytes) rest)
    ∙ append_assoc before (take at bytes) (take k (drop at bytes))
    ∙ ap (λ (x : List ℕ). before ++ x) (sym (take-add at k bytes))

-- a front of a part, after the parts before
pub AppendsFront-part : (old now new before part rest bytes : List ℕ) → bytes ≡ (before ++ part) ++ rest → now ≡ old ++ before
    → AppendsFront now new part → AppendsFront old new bytes
AppendsFront-part old now new before part rest bytes whole was (k, few, came) = (
  length before + k,
  subst (λ (z : List ℕ). length before + k ≤ length z) (sym whole) (simp length-append (omega arith)),
  came
      ∙ ap (λ (z : List ℕ). z ++ take k part) was
      ∙ append_assoc old before (take k part)
      ∙ ap (λ (z : List ℕ). old ++ z)
      (sym (take-append-add before part k)
      ∙ sym (take-append-le (length before + k) (before ++ part) rest (simp length-append (omega arith)))
      ∙ ap (λ (z : List ℕ). take (length before + k) z) (sym whole)),
)
