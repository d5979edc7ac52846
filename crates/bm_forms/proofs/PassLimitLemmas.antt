-- Bounds of the pass limit.
use Rattle.std.proofs.Common.{ℕ, zero, suc, ◌≡◌, ◌+◌, ◌-◌, ◌*◌, ◌/◌, ◌%◌, ◌^◌, ◌<◌, ◌≤◌, min, List, [], ◌∷◌, ◌++◌, length, take, map}
use Rattle.std.proofs.Common.{get_or, slice_index, refl, sym, ap, ◌∙◌, arith, ⊎_elim}
use Rattle.std.proofs.lemmas.Bool.{cases_lt}
use Rattle.std.proofs.lemmas.List.{ext_get_or, get_or-take, length-take-le, length-take, length-map, get_or_past, get_or_append_left}
use Rattle.std.proofs.lemmas.List.{get_or-append-add, length-append}
use Rattle.std.proofs.lemmas.Grind.{div_ceil_times}
use Rattle.std.proofs.lemmas.Nat.{pow_pos}
use Rattle.std.proofs.Math.Nat.{mul-le-mul_left, mul-le-mul_right, add-mul, mul-add}
use Rattle.std.specs.Int.{div_ceil}
use Rattle.bm_rank.specs.Rank.{rank, cut_columns, rank_of_rows}
use Rattle.bm_rank.proofs.RankBoundLemmas.{rank-le-length}
use Rattle.bm_forms.specs.Rounds.{rotation_columns}

-- rounded up, it is no more than the number
pub ceil_le : (x y : ℕ) → 0 < y → div_ceil x y ≤ x
ceil_le x zero h = absurd (omega arith)
ceil_le x (suc z) h =
    ⊎_elim
    (λ (p : x < div_ceil x (suc z)).
    let t = div_ceil_times x (suc z) h in
    let m : (x + 1) * suc z ≤ div_ceil x (suc z) * suc z = mul-le-mul_right (suc z) (omega arith) in
    let d : (x + 1) * suc z ≡ x * suc z + 1 * suc z = add-mul x 1 (suc z) in
    let l : x * 1 ≤ x * suc z = mul-le-mul_left x (let e : 1 ≤ suc z = omega arith in e) in
    let b : div_ceil x (suc z) * suc z < x + suc z = t.1 in
    absurd (omega arith))
    (λ (p : div_ceil x (suc z) ≤ x). p)
    (cases_lt x (div_ceil x (suc z)))

-- rounded up, k more is at most one more
pub ceil_more : (x y k : ℕ) → 0 < k → x ≤ y + k → div_ceil x k ≤ div_ceil y k + 1
ceil_more x y k pos le =
    ⊎_elim
    (λ (p : div_ceil y k + 1 < div_ceil x k).
    let t = div_ceil_times x k pos in
    let u = div_ceil_times y k pos in
    let over : div_ceil x k * k < x + k = t.1 in
    let under : y ≤ div_ceil y k * k = u.0 in
    let m : (div_ceil y k + 2) * k ≤ div_ceil x k * k = mul-le-mul_right k (omega arith) in
    let e : (div_ceil y k + 2) * k ≡ div_ceil y k * k + 2 * k = add-mul (div_ceil y k) 2 k in
    absurd (omega arith))
    (λ (p : div_ceil x k ≤ div_ceil y k + 1). p)
    (cases_lt (div_ceil y k + 1) (div_ceil x k))

-- a limit's rank
pub cut_rank_le : (cols : List ℕ) (b : ℕ) → rank_of_rows cols b b ≤ b
cut_rank_le cols b =
    let l : rank (cut_columns cols b b) ≤ length (cut_columns cols b b) = rank-le-length (cut_columns cols b b) in
    let e : length (cut_columns cols b b) ≡ min b (length cols) = length-map (take b cols) (λ (w : ℕ). w / 2 ^ b) ∙ length-take b cols in
    omega arith

-- the limit of one map is at most b + 2
pub limit_few : (cols : List ℕ) (b m rank : ℕ) → b < m → rank ≡ rank_of_rows cols b b → div_ceil rank (m - b) + 2 ≤ b + 2
limit_few cols b m rank l e =
    let c : div_ceil rank (m - b) ≤ rank = ceil_le rank (m - b) (omega arith) in
    let r : rank_of_rows cols b b ≤ b = cut_rank_le cols b in
    omega arith

-- the columns that are read decide
pub cut_same : (us ws : List ℕ) (r k : ℕ) → k ≤ length us → k ≤ length ws → ((j : ℕ) → j < k → get_or us j 0 ≡ get_or ws j 0)
    → rank_of_rows us r k ≡ rank_of_rows ws r k
cut_same us ws r k hu hw h =
    ap (λ (c : List ℕ). rank (map (λ w. w / 2 ^ r) c))
    (ext_get_or 0 (take k us) (take k ws) (length-take-le k us hu ∙ sym (length-take-le k ws hw))
    (λ i l. let b : i < k = (let e : length (take k us) ≡ k = length-take-le k us hu in omega arith) in
    get_or-take k us i 0 b ∙ h i b ∙ sym (get_or-take k ws i 0 b)))

-- the rotation's columns
pub length-rotation : (n by k : ℕ) → length (rotation_columns n by k) ≡ k
unfolding rotation_columns
length-rotation n by zero = refl
length-rotation n by (suc k) = length-append (rotation_columns n by k) (2 ^ ((k + n - by) % n) ∷ [])
    ∙ (let e : length (rotation_columns n by k) ≡ k = length-rotation n by k in omega arith)

-- and their values
pub rotation_column : (n by k j : ℕ) → j < k → get_or (rotation_columns n by k) j 0 ≡ 2 ^ ((j + n - by) % n)
unfolding rotation_columns
rotation_column n by zero j l = absurd (omega arith)
rotation_column n by (suc k) j l =
    let len : length (rotation_columns n by k) ≡ k = length-rotation n by k in
    ⊎_elim
    (λ (p : j < k). get_or_append_left (rotation_columns n by k) (2 ^ ((k + n - by) % n) ∷ []) 0 j (omega arith)
    ∙ rotation_column n by k j p)
    (λ (p : k ≤ j).
    let e : j ≡ k = omega arith in
    let e2 : j ≡ length (rotation_columns n by k) + 0 = omega arith in
    ap (λ (c : ℕ). get_or (rotation_columns n by k ++ 2 ^ ((k + n - by) % n) ∷ []) c 0) e2
    ∙ get_or-append-add (rotation_columns n by k) (2 ^ ((k + n - by) % n) ∷ []) 0 0
    ∙ ap (λ (c : ℕ). 2 ^ ((c + n - by) % n)) (sym e))
    (cases_lt j k)

-- columns of a rotation are all there
rotation_long : (cols : List ℕ) (n by : ℕ) → ((j : ℕ) → j < n → slice_index cols j ≡ 2 ^ ((j + n - by) % n)) → n ≤ length cols
rotation_long cols n by e =
    ⊎_elim
    (λ (p : length cols < n).
    let z : slice_index cols (length cols) ≡ 0 = get_or_past cols (length cols) 0 (omega arith) in
    let q : 0 < 2 ^ ((length cols + n - by) % n) = pow_pos ((length cols + n - by) % n) in
    let h = e (length cols) p in
    absurd (omega arith))
    (λ (p : n ≤ length cols). p)
    (cases_lt (length cols) n)

-- columns in place of the rotation's have its rank
pub rotation_rank : (cols : List ℕ) (n by b : ℕ) → b ≤ n → ((j : ℕ) → j < n → slice_index cols j ≡ 2 ^ ((j + n - by) % n))
    → rank_of_rows cols b b ≡ rank_of_rows (rotation_columns n by n) b b
rotation_rank cols n by b l e =
    let h : n ≤ length cols = rotation_long cols n by e in
    let len : length (rotation_columns n by n) ≡ n = length-rotation n by n in
    cut_same cols (rotation_columns n by n) b b (omega arith) (omega arith)
    (λ j k. let i : j < n = omega arith in e j i ∙ sym (rotation_column n by n j i))

-- one factor more
mul_more : (a m : ℕ) → a * (m + 1) ≡ a * m + a
mul_more a m = mul-add a m 1 ∙ (let e : a * m + a * 1 ≡ a * m + a = omega arith in e)

-- all rounds together
pub rounds_few : (n m b before x y : ℕ) → b < m → m ≤ n → n ≤ 52 → before ≡ div_ceil n m - 1 → x ≤ b + 2 → y ≤ b + 2 → before * x + y ≤ 256
rounds_few n m b before x y lb lm ln e hx hy =
    let t = div_ceil_times n m (omega arith) in
    let upper : div_ceil n m * m < n + m = t.1 in
    let c : before * x ≤ before * (m + 1) = mul-le-mul_left before (omega arith) in
    let d : before * (m + 1) ≡ before * m + before = mul_more before m in
    let one : before * 1 ≤ before * m = mul-le-mul_left before (omega arith) in
    ⊎_elim
    (λ (p : div_ceil n m < 1).
    let z : before ≡ 0 = omega arith in
    let q : before * x ≡ 0 = ap (λ (c : ℕ). c * x) z ∙ (let e : 0 * x ≡ 0 = omega arith in e) in
    omega arith)
    (λ (p : 1 ≤ div_ceil n m).
    let w : div_ceil n m ≡ before + 1 = omega arith in
    let v : div_ceil n m * m ≡ before * m + 1 * m = ap (λ (c : ℕ). c * m) w ∙ add-mul before 1 m in
    omega arith)
    (cases_lt (div_ceil n m) 1)
