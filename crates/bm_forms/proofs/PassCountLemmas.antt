-- The test of MLD decides its definition, and how many passes a map takes.
use Rattle.std.proofs.Common.{ℕ, zero, suc, ◌≡◌, ◌+◌, ◌-◌, ◌/◌, ◌%◌, ◌^◌, ◌<◌, ◌≤◌, ◌==◌, if◌then◌else◌, ◌&&◌, Bool, true, false, List}
use Rattle.std.proofs.Common.{slice_index, Decides, refl, sym, ap, ◌∙◌, subst, arith, ⊎_elim}
use Rattle.std.specs.Int.{div_ceil}
use Rattle.std.proofs.lemmas.Bool.{cases_Bool, eqb-true, eq-eqb, false_from_ne_true}
use Rattle.std.proofs.lemmas.Bool.Decides.{Decides-and, Decides-below_and}
use Rattle.bm_base.specs.declared.shape.Shape.{Shape}
use Rattle.bm_gf2.specs.declared.matrix.Matrix.{Matrix}
use Rattle.bm_gf2.proofs.VectorLemmas.{xor_sum-ext}
use Rattle.bm_rank.specs.Rank.{rank_of_rows}
use Rattle.bm_rank.specs.RowSolution.{middle_rows, top_rows}
use Rattle.bm_forms.specs.Mld.{IsMld}
use Rattle.bm_forms.specs.MldTest.{all_below, image_by, is_nonsingular, is_covered, is_mld}
use Rattle.bm_forms.specs.Rounds.{rotation_columns}
use Rattle.bm_forms.specs.PassCount.{map_passes, rotation_passes}
use Rattle.bm_forms.proofs.PassLimitLemmas.{rotation_rank, rotation_column}

-- ---- the test decides

-- a fact about zeros
zeros_decide : (u v : ℕ) → Decides (if u == 0 then v == 0 else true) (u ≡ 0 → v ≡ 0)
zeros_decide u v = (
  λ test e. eqb-true v 0 (sym (when (u == 0) (v == 0) (eq-eqb u 0 e)) ∙ test),
  λ there. by_test (u == 0) (v == 0) (λ t. eq-eqb v 0 (there (eqb-true u 0 t))),
)
  where
    when : (p q : Bool) → p ≡ true → (if p then q else true) ≡ q
    when p q e = rw e refl

    by_test : (p q : Bool) → (p ≡ true → q ≡ true) → (if p then q else true) ≡ true
    by_test true q there = there refl
    by_test false q there = refl

-- a fact at every number below k
each_decides : (test : ℕ → Bool) (P : ℕ → Type 0) → ((x : ℕ) → Decides (test x) (P x)) → (k : ℕ)
    → Decides (all_below test k) ((x : ℕ) → x < k → P x)
unfolding all_below
each_decides test P each k = Decides-below_and test P (all_below test) each refl (λ n. refl) k

-- the test passes where a matrix is MLD, and nowhere else
pub is_mld-decides : (a : Matrix) (b m : ℕ) → Decides (is_mld a.cols a.n b m) (IsMld a b m)
is_mld-decides a b m =
    Decides-and (is_nonsingular a.cols a.n) (is_covered a.cols a.n b m)
    (each_decides _ (λ x. image_by a.cols a.n x ≡ 0 → x ≡ 0) (λ x. zeros_decide (image_by a.cols a.n x) x) (2 ^ a.n))
    (each_decides _ (λ x. middle_rows a b m x ≡ 0 → top_rows a m x ≡ 0) (λ x. zeros_decide (middle_rows a b m x) (top_rows a m x)) (2 ^ m))

-- tests that agree below k
all_same : (f g : ℕ → Bool) (k : ℕ) → ((x : ℕ) → f x ≡ g x) → all_below f k ≡ all_below g k
unfolding all_below
all_same f g zero same = refl
all_same f g (suc k) same = ap (λ (p : Bool). p && all_below f k) (same k) ∙ ap (λ (p : Bool). g k && p) (all_same f g k same)

-- the columns that are read decide
mld_same : (us ws : List ℕ) (n b m : ℕ) → ((j : ℕ) → j < n → slice_index us j ≡ slice_index ws j) → is_mld us n b m ≡ is_mld ws n b m
mld_same us ws n b m same =
    let image_same : (x : ℕ) → image_by us n x ≡ image_by ws n x = λ x. xor_sum-ext (slice_index us) (slice_index ws) n x same in
    ap (λ (p : Bool). p && is_covered us n b m)
    (all_same _ _ (2 ^ n) (λ x. ap (λ (y : ℕ). if y == 0 then x == 0 else true) (image_same x)))
    ∙ ap (λ (p : Bool). is_nonsingular ws n && p)
    (all_same _ _ (2 ^ m) (λ x. ap (λ (y : ℕ). if y / 2 ^ b % 2 ^ (m - b) == 0 then y / 2 ^ m == 0 else true) (image_same x)))

-- ---- the passes of a map

-- an MLD map takes one
pub passes-mld : (s : Shape) (a : Matrix) → a.n ≡ s.n → IsMld a s.b s.m → map_passes s a.cols ≡ 1
passes-mld s a size mld =
    let test : is_mld a.cols s.n s.b s.m ≡ true =
    subst (λ k. is_mld a.cols k s.b s.m ≡ true) size ((is_mld-decides a s.b s.m).1 mld) in
    rw test refl

-- another takes more
pub passes-several : (s : Shape) (a : Matrix) → a.n ≡ s.n → ¬ IsMld a s.b s.m
    → map_passes s a.cols ≡ div_ceil (rank_of_rows a.cols s.m s.m) (s.m - s.b) + 1
passes-several s a size not_mld =
    let test : is_mld a.cols s.n s.b s.m ≡ false =
    false_from_ne_true (is_mld a.cols s.n s.b s.m)
    (λ e. not_mld ((is_mld-decides a s.b s.m).0 (subst (λ k. is_mld a.cols k s.b s.m ≡ true) (sym size) e))) in
    rw test refl

-- at least one
pub passes-some : (s : Shape) (cols : List ℕ) → 1 ≤ map_passes s cols
passes-some s cols =
    ⊎_elim
    (λ (e : is_mld cols s.n s.b s.m ≡ true). rw e (omega arith))
    (λ (e : is_mld cols s.n s.b s.m ≡ false). rw e (omega arith))
    (cases_Bool (is_mld cols s.n s.b s.m))

-- columns in place of the rotation's take its passes
pub passes-rotation : (s : Shape) (by : ℕ) (cols : List ℕ) → ((j : ℕ) → j < s.n → slice_index cols j ≡ 2 ^ ((j + s.n - by) % s.n))
    → map_passes s cols ≡ rotation_passes s by
passes-rotation s by cols same =
    let turned : List ℕ = rotation_columns s.n by s.n in
    let high = rotation_rank cols s.n by s.m s.keeps.memory same in
    let mld = mld_same cols turned s.n s.b s.m (λ j l. same j l ∙ sym (rotation_column s.n by s.n j l)) in
    ap (λ (x : ℕ). if is_mld cols s.n s.b s.m then 1 else div_ceil x (s.m - s.b) + 1) high
    ∙ ap (λ (x : Bool). if x then 1 else div_ceil (rank_of_rows turned s.m s.m) (s.m - s.b) + 1) mld
