-- Bounds on ranks.
use Rattle.std.proofs.Common.{◌≡◌, ℕ, ◌+◌, ◌-◌, ◌/◌, ◌^◌, ◌≤◌, true, false, List, [], ◌∷◌, ◌++◌, length, take, drop, map, bit_xor, refl}
use Rattle.std.proofs.Common.{sym, ap, ◌∙◌, subst, arith, inl, inr, ⊎_elim, ◌⊎◌, length-take}
use Rattle.std.specs.Int.Bits.{xor_shr}
use Rattle.std.proofs.lemmas.Nat.{shr-shr}
use Rattle.std.proofs.lemmas.Bool.{cases_Bool, false≢true}
use Rattle.std.proofs.Math.Nat.{zero-div}
use Rattle.std.proofs.Math.Seq.{take-add}
use Rattle.std.proofs.lemmas.List.{map-append, length-map, length-drop}
use Rattle.std.proofs.lemmas.Simd.{map-map}
use Rattle.bm_rank.specs.Span.{in_span}
use Rattle.bm_rank.specs.Rank.{rank, rank_of_rows}
use Rattle.bm_rank.proofs.SpanLemmas.{in_span-cons, in_span-cases, in_span-none, in_span-zero}
use Rattle.bm_rank.proofs.RankLemmas.{rank-fresh, rank-known}

-- one vector more adds 1 or nothing
pub rank-step : (w : ℕ) (us : List ℕ)
    → ((in_span us w ≡ true) × (rank (w ∷ us) ≡ rank us)) ⊎ ((in_span us w ≡ false) × (rank (w ∷ us) ≡ rank us + 1))
rank-step w us =
    ⊎_elim
    (λ (p : in_span us w ≡ true). inl (p, rank-known w us p))
    (λ (p : in_span us w ≡ false). inr (p, rank-fresh w us p))
    (cases_Bool (in_span us w))

-- no vectors
pub rank-nil : rank [] ≡ 0
unfolding rank
rank-nil = refl

-- no more than the vectors
pub rank-le-length : (ws : List ℕ) → rank ws ≤ length ws
rank-le-length [] = omega (arith, rank-nil)
rank-le-length (w ∷ ws) =
    ⊎_elim
    (λ (p : (in_span ws w ≡ true) × (rank (w ∷ ws) ≡ rank ws)). omega (arith, p.1, rank-le-length ws))
    (λ (p : (in_span ws w ≡ false) × (rank (w ∷ ws) ≡ rank ws + 1)). omega (arith, p.1, rank-le-length ws))
    (rank-step w ws)

-- more vectors span more
pub in_span-append_left : (us ws : List ℕ) (v : ℕ) → in_span us v ≡ true → in_span (us ++ ws) v ≡ true
in_span-append_left [] ws v h = let z : v ≡ 0 = in_span-none v h in rw z (in_span-zero ws)
in_span-append_left (u ∷ us) ws v h =
    in_span-cons u (us ++ ws) v
    (⊎_elim
    (λ (p : in_span us v ≡ true). inl (in_span-append_left us ws v p))
    (λ (p : in_span us (bit_xor v u) ≡ true). inr (in_span-append_left us ws (bit_xor v u) p))
    (in_span-cases u us v h))

-- each further vector adds at most 1
pub rank-append-le : (us ws : List ℕ) → rank (us ++ ws) ≤ rank us + length ws
rank-append-le [] ws = omega (arith, rank-nil, rank-le-length ws)
rank-append-le (u ∷ us) ws =
    let ih = rank-append-le us ws in
    ⊎_elim
    (λ (p : (in_span (us ++ ws) u ≡ true) × (rank (u ∷ (us ++ ws)) ≡ rank (us ++ ws))).
    ⊎_elim
    (λ (q : (in_span us u ≡ true) × (rank (u ∷ us) ≡ rank us)). omega (arith, p.1, q.1, ih))
    (λ (q : (in_span us u ≡ false) × (rank (u ∷ us) ≡ rank us + 1)). omega (arith, p.1, q.1, ih))
    (rank-step u us))
    (λ (p : (in_span (us ++ ws) u ≡ false) × (rank (u ∷ (us ++ ws)) ≡ rank (us ++ ws) + 1)).
    ⊎_elim
    (λ (q : (in_span us u ≡ true) × (rank (u ∷ us) ≡ rank us)). absurd (false≢true (sym p.0 ∙ in_span-append_left us ws u q.0)))
    (λ (q : (in_span us u ≡ false) × (rank (u ∷ us) ≡ rank us + 1)). omega (arith, p.1, q.1, ih))
    (rank-step u us))
    (rank-step u (us ++ ws))

-- an additive function keeps sums
pub in_span-map : (f : ℕ → ℕ) → f 0 ≡ 0 → ((a b : ℕ) → f (bit_xor a b) ≡ bit_xor (f a) (f b)) → (ws : List ℕ) (v : ℕ)
    → in_span ws v ≡ true → in_span (map f ws) (f v) ≡ true
in_span-map f f0 fx [] v h = let z : f v ≡ 0 = ap f (in_span-none v h) ∙ f0 in rw z (in_span-zero [])
in_span-map f f0 fx (w ∷ ws) v h =
    in_span-cons (f w) (map f ws) (f v)
    (⊎_elim
    (λ (p : in_span ws v ≡ true). inl (in_span-map f f0 fx ws v p))
    (λ (p : in_span ws (bit_xor v w) ≡ true). inr
    (subst (λ (c : ℕ). in_span (map f ws) c ≡ true) (fx v w) (in_span-map f f0 fx ws (bit_xor v w) p)))
    (in_span-cases w ws v h))

-- an additive function never raises a rank
pub rank-map-le : (f : ℕ → ℕ) → f 0 ≡ 0 → ((a b : ℕ) → f (bit_xor a b) ≡ bit_xor (f a) (f b)) → (ws : List ℕ) → rank (map f ws) ≤ rank ws
rank-map-le f f0 fx [] = omega (arith, rank-nil)
rank-map-le f f0 fx (w ∷ ws) =
    let ih = rank-map-le f f0 fx ws in
    ⊎_elim
    (λ (p : (in_span ws w ≡ true) × (rank (w ∷ ws) ≡ rank ws)).
    let k : rank (f w ∷ map f ws) ≡ rank (map f ws) = rank-known (f w) (map f ws) (in_span-map f f0 fx ws w p.0) in
    omega (arith, p.1, k, ih))
    (λ (p : (in_span ws w ≡ false) × (rank (w ∷ ws) ≡ rank ws + 1)).
    ⊎_elim
    (λ (q : (in_span (map f ws) (f w) ≡ true) × (rank (f w ∷ map f ws) ≡ rank (map f ws))). omega (arith, p.1, q.1, ih))
    (λ (q : (in_span (map f ws) (f w) ≡ false) × (rank (f w ∷ map f ws) ≡ rank (map f ws) + 1)). omega (arith, p.1, q.1, ih))
    (rank-step (f w) (map f ws)))
    (rank-step w ws)

-- functions with the same values map alike
map-ext : (f g : ℕ → ℕ) → ((w : ℕ) → f w ≡ g w) → (ws : List ℕ) → map f ws ≡ map g ws
map-ext f g h [] = refl
map-ext f g h (w ∷ ws) = let t = map-ext f g h ws in let e = h w in cc

-- fewer rows and more columns: the rank of the trailing rows of m columns against that of b columns
pub rank_of_rows-le : (cols : List ℕ) (b m : ℕ) → b ≤ m → m ≤ length cols → rank_of_rows cols m m ≤ rank_of_rows cols b b + (m - b)
rank_of_rows-le cols b m l k =
    let shr : ℕ → ℕ → ℕ = λ r w. w / 2 ^ r in
    let front : List ℕ = take b cols in
    let mid : List ℕ = take (m - b) (drop b cols) in
    let us : List ℕ = map (shr b) front in
    let ws : List ℕ = map (shr b) mid in
    let e : b + (m - b) ≡ m = omega arith in
    let lw : length ws ≡ m - b = simp (length-map, length-take, length-drop) (omega arith) in
    let cut : take m cols ≡ front ++ mid = ap (λ (x : ℕ). take x cols) (sym e) ∙ take-add b (m - b) cols in
    let twice : (w : ℕ) → shr m w ≡ shr (m - b) (shr b w) = λ w. ap (λ (x : ℕ). w / 2 ^ x) (sym e) ∙ sym (shr-shr w b (m - b)) in
    let all : map (shr m) (take m cols) ≡ map (shr (m - b)) (us ++ ws) =
    ap (map (shr m)) cut ∙ map-ext (shr m) (λ w. shr (m - b) (shr b w)) twice (front ++ mid)
    ∙ sym (map-map (shr (m - b)) (shr b) (front ++ mid)) ∙ ap (map (shr (m - b))) (map-append (shr b) front mid) in
    let a : rank (map (shr (m - b)) (us ++ ws)) ≤ rank (us ++ ws) = rank-map-le (shr (m - b)) (zero-div (2 ^ (m - b)))
    (λ x y. xor_shr x y (m - b)) (us ++ ws) in
    let c : rank (us ++ ws) ≤ rank us + length ws = rank-append-le us ws in
    let f : rank (map (shr m) (take m cols)) ≡ rank (map (shr (m - b)) (us ++ ws)) = ap rank all in
    omega (arith, a, c, f, lw)
