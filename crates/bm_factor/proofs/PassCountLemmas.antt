-- A plan of one pass, and the number of passes.
use Rattle.std.proofs.Common.{◌≡◌, ℕ, ◌+◌, ◌-◌, ◌<◌, ◌≤◌, List, [], length, Result, Ok, Err, IfOk, MatchResult, IsErrAnd, sym, ap, ◌∙◌}
use Rattle.std.proofs.Common.{subst, arith}
use Rattle.std.specs.Int.{div_ceil}
use Rattle.std.proofs.lemmas.List.Elements.{All-nil}
use Rattle.bm_base.specs.declared.shape.Shape.{Shape}
use Rattle.bm_gf2.specs.declared.matrix.Matrix.{Matrix}
use Rattle.bm_gf2.specs.declared.affine.Affine.{Affine}
use Rattle.bm_gf2.specs.Matrix.{IsNonsingular}
use Rattle.bm_gf2.specs.Affine.{affine_image}
use Rattle.bm_rank.specs.Rank.{rank_of_rows}
use Rattle.bm_rank.proofs.RankBoundLemmas.{rank_of_rows-le}
use Rattle.bm_forms.specs.declared.pass_form.PassForm.{PassForm}
use Rattle.bm_forms.specs.declared.job.Job.TheVariants.{Permute}
use Rattle.bm_forms.specs.declared.mld_form.FormError.{FormError}
use Rattle.bm_forms.specs.declared.mld_form.FormError.TheVariants.{NotMld}
use Rattle.bm_forms.specs.Mld.{FormErrorIs}
use Rattle.bm_forms.specs.PassLimit.{map_limit}
use Rattle.bm_forms.specs.Plan.{PlanValue, DoJob, StandsFor}
use Rattle.bm_forms.proofs.PassLimitLemmas.{ceil_more}
use Rattle.bm_forms.proofs.PermutationLemmas.{nonsingular_long}
use Rattle.bm_forms.proofs.PlanLemmas.{route, IsPlainOf, plain_do}
use Rattle.bm_factor.specs.Factoring.{AppendsPass}
use Rattle.bm_factor.proofs.FactoringLemmas.{plain_more, route_none, route_appended}

-- ---- one pass

-- the pass of the map itself does its permutation
pub one_does : (s : Shape) (map f : Affine) (forms : List PassForm) → AppendsPass s [] forms f → f ≡ map → map.a.n ≡ s.n
    → IsNonsingular map.a
    → DoJob forms s.n (Permute map)
one_does s map f forms more fe size na =
    plain_do s.n forms map (plain_more s [] forms f (All-nil (IsPlainOf s.n)) more s.keeps.memory) size na
    (λ x h. route_appended s [] forms f x more ∙ ap (λ (g : Affine). affine_image g (route [] x)) fe ∙ ap (affine_image map) (route_none x))

-- ---- the pass limit

-- the plan has no more passes than the limit
pub count_within : (a : Matrix) (b m count : ℕ) → IsNonsingular a → b < m → m ≤ a.n
    → count ≡ div_ceil (rank_of_rows a.cols m m) (m - b) + 1 → count ≤ map_limit a.cols b m
count_within a b m count na bm mn e =
    let long = nonsingular_long a na in
    let le = rank_of_rows-le a.cols b m (omega arith) (omega arith) in
    let c = ceil_more (rank_of_rows a.cols m m) (rank_of_rows a.cols b b) (m - b) (omega arith) le in
    omega arith

-- ---- results whose error is changed

-- the value stays
pub ok_through : {T E F : Type 0} (r : Result T E) (q : Result T F) (P : T → Type 0) (R : E → F → Type 0)
    → MatchResult r (λ x. q ≡ Ok x) (λ e. IsErrAnd q (R e)) → IfOk r P → IfOk q P
ok_through (Ok x) q P R m h = subst (λ k. IfOk k P) (sym m) h
ok_through (Err e) (Ok y) P R m h = absurd m
ok_through (Err e) (Err f) P R m h = tt

-- the one pass of an MLD map, in a plan of the shape
pub one_stands : (s : Shape) (map f : Affine) (plan : PlanValue) → f ≡ map → map.a.n ≡ s.n → IsNonsingular map.a → plan.shape ≡ s
    → AppendsPass s [] plan.forms f → StandsFor plan s (Permute map)
one_stands s map f plan fe size na shape more = record { shape = shape; does = one_does s map f plan.forms more fe size na }

-- two facts of one value
pub both_ok : {T E : Type 0} (r : Result T E) (P Q : T → Type 0) → IfOk r P → IfOk r Q → IfOk r (λ x. P x × Q x)
both_ok (Ok x) P Q p q = (p, q)
both_ok (Err e) P Q p q = tt

-- a map that is not MLD for no other cause is nonsingular
pub nonsingular_of_error : (a : Matrix) (b m x : ℕ) (e : FormError) → e ≡ NotMld x → FormErrorIs a b m e → IsNonsingular a
nonsingular_of_error a b m x e is f = (subst (FormErrorIs a b m) is f).0

-- the high rank is at most the lower rank and lg(M/B)
pub high_rank_bound : (a : Matrix) (s : Shape) → a.n ≡ s.n → IsNonsingular a
    → rank_of_rows a.cols s.m s.m ≤ rank_of_rows a.cols s.b s.b + (s.m - s.b)
high_rank_bound a s size nonsingular =
    let long : a.n ≤ length a.cols = nonsingular_long a nonsingular in
    rank_of_rows-le a.cols s.b s.m (omega (arith, s.keeps.block)) (omega (arith, s.keeps.memory))
