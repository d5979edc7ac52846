-- Counts of columns with something in the trailing rows.
use Rattle.std.proofs.Common.{◌-◌, ◌≡◌, ◌≢◌, ℕ, zero, suc, ◌+◌, ◌/◌, ◌^◌, ◌<◌, ◌≤◌, refl, sym, ap, ◌∙◌, arith, add-one, ⊎_elim}
use Rattle.std.proofs.Math.Nat.{add-suc}
use Rattle.std.proofs.lemmas.Bool.{cases_eq}
use Rattle.bm_rank.specs.Echelon.{weight}
use Rattle.bm_rank.proofs.PivotLemmas.{one_row}
use Rattle.bm_factor.specs.Columns.{top_count}

-- one more column
pub top_count-more : (w : ℕ → ℕ) (m k : ℕ) → top_count w m (k + 1) ≡ top_count w m k + weight (w k / 2 ^ m)
unfolding top_count
top_count-more w m k = rw add-one refl

-- the trailing rows decide
pub top_count-ext : (v w : ℕ → ℕ) (m k : ℕ) → ((j : ℕ) → j < k → v j / 2 ^ m ≡ w j / 2 ^ m) → top_count v m k ≡ top_count w m k
unfolding top_count
top_count-ext v w m zero h = refl
top_count-ext v w m (suc k) h =
    ap (λ (c : ℕ). c + weight (v k / 2 ^ m)) (top_count-ext v w m k (λ j l. h j (omega arith)))
    ∙ ap (λ (c : ℕ). top_count w m k + weight c) (h k (omega arith))

-- the columns from k on, apart
pub top_count-split : (w : ℕ → ℕ) (m k d : ℕ) → top_count w m (k + d) ≡ top_count w m k + top_count (λ j. w (k + j)) m d
unfolding top_count
top_count-split w m k zero = let e : k + 0 ≡ k = omega arith in rw e (let f : top_count w m k + 0 ≡ top_count w m k = omega arith in sym f)
top_count-split w m k (suc d) =
    rw add-suc (
    ap (λ (c : ℕ). c + weight (w (k + d) / 2 ^ m)) (top_count-split w m k d)
    ∙ (let t : ℕ = top_count (λ j. w (k + j)) m d in let e : top_count w m k + t + weight (w (k + d) / 2 ^ m)
    ≡ top_count w m k + (t + weight (w (k + d) / 2 ^ m)) = omega arith in e))

-- no more than the columns
pub top_count-le : (w : ℕ → ℕ) (m k : ℕ) → top_count w m k ≤ k
unfolding top_count
top_count-le w m zero = omega arith
top_count-le w m (suc k) =
    let ih = top_count-le w m k in
    ⊎_elim
    (λ (p : (w k / 2 ^ m ≡ 0) × (weight (w k / 2 ^ m) ≡ 0)). omega (arith, p.1, ih))
    (λ (p : (w k / 2 ^ m ≢ 0) × (weight (w k / 2 ^ m) ≡ 1)). omega (arith, p.1, ih))
    (one_row (w k / 2 ^ m))

-- a column without anything in the trailing rows
pub weight-none : (r : ℕ) → r ≡ 0 → weight r ≡ 0
weight-none r e = rw e refl

-- a column with something there
pub weight-some : (r : ℕ) → r ≢ 0 → weight r ≡ 1
weight-some r h =
    ⊎_elim
    (λ (p : (r ≡ 0) × (weight r ≡ 0)). absurd (h p.0))
    (λ (p : (r ≢ 0) × (weight r ≡ 1)). p.1)
    (one_row r)

-- none of them
pub top_count-none : (w : ℕ → ℕ) (m k : ℕ) → ((j : ℕ) → j < k → w j / 2 ^ m ≡ 0) → top_count w m k ≡ 0
unfolding top_count
top_count-none w m zero h = refl
top_count-none w m (suc k) h =
    let ih = top_count-none w m k (λ j l. h j (omega arith)) in
    let e = weight-none (w k / 2 ^ m) (h k (omega arith)) in omega arith

-- all of them
pub top_count-all : (w : ℕ → ℕ) (m k : ℕ) → ((j : ℕ) → j < k → w j / 2 ^ m ≢ 0) → top_count w m k ≡ k
unfolding top_count
top_count-all w m zero h = refl
top_count-all w m (suc k) h =
    let ih = top_count-all w m k (λ j l. h j (omega arith)) in
    let e = weight-some (w k / 2 ^ m) (h k (omega arith)) in omega arith

-- where the count is 0 each is 0
pub none_counted : (w : ℕ → ℕ) (m k : ℕ) → top_count w m k ≡ 0 → (j : ℕ) → j < k → w j / 2 ^ m ≡ 0
unfolding top_count
none_counted w m zero z j l = absurd (omega arith)
none_counted w m (suc k) z j l =
    ⊎_elim
    (λ (p : (w k / 2 ^ m ≡ 0) × (weight (w k / 2 ^ m) ≡ 0)).
    ⊎_elim
    (λ (e : j ≡ k). ap (λ (c : ℕ). w c / 2 ^ m) e ∙ p.0)
    (λ (e : j ≢ k). none_counted w m k (omega (arith, p.1)) j (omega arith))
    (cases_eq j k))
    (λ (p : (w k / 2 ^ m ≢ 0) × (weight (w k / 2 ^ m) ≡ 1)). absurd (let o = p.1 in omega arith))
    (one_row (w k / 2 ^ m))

-- one column
pub top_count-one : (v : ℕ → ℕ) (m : ℕ) → top_count v m 1 ≡ weight (v 0 / 2 ^ m)
unfolding top_count
top_count-one v m = omega arith

-- another column p
count_changed : (v w : ℕ → ℕ) (m p k : ℕ) → p < k → ((j : ℕ) → j < k → j ≢ p → v j / 2 ^ m ≡ w j / 2 ^ m)
    → top_count v m k + weight (w p / 2 ^ m) ≡ top_count w m k + weight (v p / 2 ^ m)
unfolding top_count
count_changed v w m p zero l h = absurd (omega arith)
count_changed v w m p (suc k) l h =
    ⊎_elim
    (λ (e : p ≡ k).
    let same = top_count-ext v w m k (λ j q. h j (omega arith) (omega arith)) in
    let a : weight (w p / 2 ^ m) ≡ weight (w k / 2 ^ m) = ap (λ (i : ℕ). weight (w i / 2 ^ m)) e in
    let b : weight (v p / 2 ^ m) ≡ weight (v k / 2 ^ m) = ap (λ (i : ℕ). weight (v i / 2 ^ m)) e in
    omega arith)
    (λ (e : p ≢ k).
    let ih = count_changed v w m p k (omega arith) (λ j q ne. h j (omega arith) ne) in
    let last : weight (v k / 2 ^ m) ≡ weight (w k / 2 ^ m) = ap weight (h k (omega arith) (λ z. e (sym z))) in
    omega arith)
    (cases_eq p k)

-- columns k and i exchanged
pub count_exchanged : (v w : ℕ → ℕ) (m k i n : ℕ) → k < i → i < n → v k ≡ w i → v i ≡ w k → ((j : ℕ) → j ≢ k → j ≢ i → v j ≡ w j)
    → top_count v m n ≡ top_count w m n
count_exchanged v w m k i n ki len vk vi others =
    let top : ℕ → ℕ = λ c. c / 2 ^ m in
    let first = count_changed v w m k i ki (λ j l ne. let ni : j ≢ i = omega arith in ap top (others j ne ni)) in
    let a : weight (v k / 2 ^ m) ≡ weight (w i / 2 ^ m) = ap (λ (c : ℕ). weight (c / 2 ^ m)) vk in
    let b : weight (v i / 2 ^ m) ≡ weight (w k / 2 ^ m) = ap (λ (c : ℕ). weight (c / 2 ^ m)) vi in
    let vm = top_count-more v m i in
    let wm = top_count-more w m i in
    let d : ℕ = n - (i + 1) in
    let e : n ≡ (i + 1) + d = omega arith in
    let vs = top_count-split v m (i + 1) d in
    let ws = top_count-split w m (i + 1) d in
    let rest = top_count-ext (λ j. v (i + 1 + j)) (λ j. w (i + 1 + j)) m d
    (λ j l. let nk : i + 1 + j ≢ k = omega arith in let ni : i + 1 + j ≢ i = omega arith in ap top (others (i + 1 + j) nk ni)) in
    ap (top_count v m) e ∙ (let f : top_count v m ((i + 1) + d) ≡ top_count w m ((i + 1) + d) = omega arith in f)
    ∙ ap (top_count w m) (sym e)
