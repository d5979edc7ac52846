-- Rounds in order: they do the transform, and have no more passes than its limit.
use Rattle.std.proofs.Common.{ℕ, zero, suc, ◌≡◌, ◌+◌, ◌-◌, ◌*◌, ◌%◌, ◌^◌, ◌<◌, ◌≤◌, List, [], ◌∷◌, ◌++◌, length, length-append, refl, sym}
use Rattle.std.proofs.Common.{ap, ◌∙◌, subst, arith, ⊎_elim}
use Rattle.std.specs.Int.{div_ceil}
use Rattle.std.proofs.Math.Nat.{mul-le-mul_right, add-mul}
use Rattle.std.proofs.lemmas.Bool.{cases_lt}
use Rattle.std.proofs.lemmas.Grind.{div_ceil_times}
use Rattle.bm_base.specs.declared.shape.Shape.{Shape}
use Rattle.bm_gf2.specs.declared.affine.Affine.{Affine}
use Rattle.bm_gf2.specs.Matrix.{column, IsNonsingular}
use Rattle.bm_forms.specs.declared.pass_form.PassForm.{PassForm}
use Rattle.bm_forms.specs.declared.job.Job.TheVariants.{Permute, Walsh}
use Rattle.bm_forms.specs.Plan.{PlanValue, DoJob, StandsFor}
use Rattle.bm_forms.specs.PassCount.{map_passes, rotation_passes, passes_of}
use Rattle.bm_forms.specs.PassLimit.{map_limit, rotation_limit, limit_of}
use Rattle.bm_forms.specs.Rounds.{rotation_columns, rounds_of, last_bits}
use Rattle.bm_forms.proofs.PassCountLemmas.{passes-some, passes-rotation}
use Rattle.bm_forms.proofs.PassLimitLemmas.{limit_few, rounds_few, rotation_rank}
use Rattle.bm_forms.proofs.RotationLemmas.{is_rotation}
use Rattle.bm_forms.proofs.RoundLemmas.{IsRotation}
use Rattle.bm_forms.proofs.RoundPlanLemmas.{with_low, IsRounds, rounds_none, rounds_more, rounds_do}
use Rattle.bm_factor.specs.Factoring.{AreWithoutButterflies}
use Rattle.bm_walsh.specs.Rounds.{IsRotationBy, first_with, AppendsRound, AreWholeRounds, AreRounds}
use Rattle.bm_walsh.proofs.PassListLemmas.{length_first}

-- ---- what the rounds do

-- the rotation as a map
pub rotation_is : (n by : ℕ) (f : Affine) → IsRotationBy n by f → by ≤ n → IsRotation n by f
rotation_is n by f r l =
    subst (λ (k : ℕ). IsRotation k by f) r.size
    (is_rotation f by (subst (λ (k : ℕ). by ≤ k) (sym r.size) l) r.constant
    (λ j h. subst (λ (k : ℕ). column f.a j ≡ 2 ^ ((j + k - by) % k)) (sym r.size)
    (r.columns j (subst (λ (k : ℕ). j < k) r.size h))))

-- the passes of one round after others
passes_more : (n by done : ℕ) (old round : List PassForm) (f : Affine) → IsRounds n done old → DoJob round n (Permute f)
    → AreWithoutButterflies round → 1 ≤ length round → IsRotationBy n by f → 0 < by → done + by ≤ n
    → IsRounds n (done + by) (old ++ first_with by round)
unfolding first_with with_low
passes_more n by done old [] f r does plain some rot pos l = absurd (omega arith)
passes_more n by done old (p ∷ qs) f r does plain some rot pos l =
    rounds_more n done by old p qs f r does (plain 0 p (omega arith)) rot.size rot.nonsingular
    (rotation_is n by f rot (omega arith)) pos l

-- a round has a pass
round_some : (s : Shape) (by : ℕ) (round : List PassForm) → length round ≡ rotation_passes s by → 1 ≤ length round
round_some s by round count = let some : 1 ≤ rotation_passes s by = passes-some s (rotation_columns s.n by s.n) in omega arith

-- one round after others
round_more : (s : Shape) (by done : ℕ) (old new : List PassForm) → AppendsRound s by old new → IsRounds s.n done old → 0 < by
    → done + by ≤ s.n → IsRounds s.n (done + by) new
round_more s by done old new a r pos l =
    subst (IsRounds s.n (done + by)) (sym a.is)
    (passes_more s.n by done old a.round a.turn r a.does a.plain (round_some s by a.round a.count) a.rotates pos l)

-- whole rounds
whole_rounds_do : (s : Shape) (k : ℕ) (forms : List PassForm) → AreWholeRounds s k forms → k * s.m ≤ s.n → IsRounds s.n (k * s.m) forms
unfolding AreWholeRounds
whole_rounds_do s zero forms w l =
    subst (IsRounds s.n (0 * s.m)) (sym w)
    (subst (λ (c : ℕ). IsRounds s.n c []) (let e : 0 ≡ 0 * s.m = omega arith in e) (rounds_none s.n))
whole_rounds_do s (suc k) forms w l =
    let more : suc k * s.m ≡ k * s.m + s.m = omega arith in
    let pos : 0 < s.m = omega (arith, s.keeps.block) in
    subst (λ (c : ℕ). IsRounds s.n c forms) (sym more)
    (round_more s s.m (k * s.m) w.0 forms w.2 (whole_rounds_do s k w.0 w.1 (omega arith)) pos (omega arith))

-- the bits of the last round
pub last_some : (s : Shape) → (0 < last_bits s) × (last_bits s ≤ s.m) × ((rounds_of s - 1) * s.m + last_bits s ≡ s.n)
last_some s =
    let pos : 0 < s.m = omega (arith, s.keeps.block) in
    let within : s.m ≤ s.n = s.keeps.memory in
    let t = div_ceil_times s.n s.m pos in
    let lower : s.n ≤ rounds_of s * s.m = t.0 in
    let upper : rounds_of s * s.m < s.n + s.m = t.1 in
    let some : 1 ≤ rounds_of s = ⊎_elim
    (λ (p : rounds_of s < 1). (let z : rounds_of s ≡ 0 = omega arith in
    let q : rounds_of s * s.m ≡ 0 = ap (λ (c : ℕ). c * s.m) z ∙ (let e : 0 * s.m ≡ 0 = omega arith in e) in absurd (omega arith)))
    (λ (p : 1 ≤ rounds_of s). p)
    (cases_lt (rounds_of s) 1) in
    let w : rounds_of s ≡ rounds_of s - 1 + 1 = omega arith in
    let v : rounds_of s * s.m ≡ (rounds_of s - 1) * s.m + 1 * s.m =
    ap (λ (c : ℕ). c * s.m) w ∙ add-mul (rounds_of s - 1) 1 s.m in
    (omega arith, omega arith, omega arith)

-- all rounds do the transform
pub rounds_stand : (s : Shape) (plan : PlanValue) → plan.shape ≡ s → AreRounds s plan.forms → StandsFor plan s Walsh
rounds_stand s plan shape r =
    let t = last_some s in
    let whole : (rounds_of s - 1) * s.m + last_bits s ≡ s.n = t.2 in
    let pos : 0 < s.n = omega (arith, s.keeps.block, s.keeps.memory) in
    record {
      shape = shape;
      does = rounds_do s.n plan.forms pos
          (subst (λ (c : ℕ). IsRounds s.n c plan.forms) whole
          (round_more s (last_bits s) ((rounds_of s - 1) * s.m) r.before plan.forms r.last
          (whole_rounds_do s (rounds_of s - 1) r.before r.whole (omega arith)) t.0 (omega arith)));
    }

-- ---- how many passes they have

-- one round more
appended_few : (s : Shape) (by : ℕ) (old new : List PassForm) → AppendsRound s by old new
    → (length new ≤ length old + rotation_limit s by) × (1 ≤ length new)
appended_few s by old new a =
    let e : length new ≡ length old + length (first_with by a.round) = ap length a.is ∙ length-append old (first_with by a.round) in
    let f : length (first_with by a.round) ≡ length a.round = length_first by a.round in
    let few : length a.round ≤ rotation_limit s by = a.few in
    let some : 1 ≤ length a.round = round_some s by a.round a.count in
    (omega arith, omega arith)

-- whole rounds
whole_few : (s : Shape) (k : ℕ) (forms : List PassForm) → AreWholeRounds s k forms → length forms ≤ k * rotation_limit s s.m
unfolding AreWholeRounds
whole_few s zero forms w = let e : length forms ≡ 0 = ap length w in omega arith
whole_few s (suc k) forms w =
    let h : length w.0 ≤ k * rotation_limit s s.m = whole_few s k w.0 w.1 in
    let a : length forms ≤ length w.0 + rotation_limit s s.m = (appended_few s s.m w.0 forms w.2).0 in
    let e : (k + 1) * rotation_limit s s.m ≡ k * rotation_limit s s.m + 1 * rotation_limit s s.m = add-mul k 1 (rotation_limit s s.m) in
    let c : suc k ≡ k + 1 = omega arith in
    let d : suc k * rotation_limit s s.m ≡ (k + 1) * rotation_limit s s.m = ap (λ (x : ℕ). x * rotation_limit s s.m) c in
    omega arith

-- all rounds
pub rounds_within : (s : Shape) (forms : List PassForm) → AreRounds s forms → (length forms ≤ limit_of s Walsh) × (1 ≤ length forms)
rounds_within s forms r =
    let h : length r.before ≤ (rounds_of s - 1) * rotation_limit s s.m = whole_few s (rounds_of s - 1) r.before r.whole in
    let a = appended_few s (last_bits s) r.before forms r.last in
    let b : length forms ≤ length r.before + rotation_limit s (last_bits s) = a.0 in
    (omega arith, a.1)

-- a round has the passes of its rotation
appended_count : (s : Shape) (by : ℕ) (old new : List PassForm) → AppendsRound s by old new
    → length new ≡ length old + rotation_passes s by
appended_count s by old new a =
    let e : length new ≡ length old + length (first_with by a.round) = ap length a.is ∙ length-append old (first_with by a.round) in
    let f : length (first_with by a.round) ≡ length a.round = length_first by a.round in
    e ∙ ap (λ (k : ℕ). length old + k) (f ∙ a.count)

-- whole rounds have theirs
whole_count : (s : Shape) (k : ℕ) (forms : List PassForm) → AreWholeRounds s k forms → length forms ≡ k * rotation_passes s s.m
unfolding AreWholeRounds
whole_count s zero forms w = let e : length forms ≡ 0 = ap length w in omega arith
whole_count s (suc k) forms w =
    let h : length w.0 ≡ k * rotation_passes s s.m = whole_count s k w.0 w.1 in
    let a : length forms ≡ length w.0 + rotation_passes s s.m = appended_count s s.m w.0 forms w.2 in
    let e : (k + 1) * rotation_passes s s.m ≡ k * rotation_passes s s.m + 1 * rotation_passes s s.m = add-mul k 1 (rotation_passes s s.m) in
    let c : suc k ≡ k + 1 = omega arith in
    let d : suc k * rotation_passes s s.m ≡ (k + 1) * rotation_passes s s.m = ap (λ (x : ℕ). x * rotation_passes s s.m) c in
    omega arith

-- all rounds have what the count says
pub rounds_count : (s : Shape) (forms : List PassForm) → AreRounds s forms → length forms ≡ passes_of s Walsh
rounds_count s forms r =
    appended_count s (last_bits s) r.before forms r.last
    ∙ ap (λ (k : ℕ). k + rotation_passes s (last_bits s)) (whole_count s (rounds_of s - 1) r.before r.whole)

-- the limit of a rotation
limit_small : (s : Shape) (by : ℕ) → rotation_limit s by ≤ s.b + 2
limit_small s by = limit_few (rotation_columns s.n by s.n) s.b s.m _ s.keeps.block refl

-- all fit a plan
all_fit : (s : Shape) → (rounds_of s - 1) * rotation_limit s s.m + rotation_limit s (last_bits s) ≤ 256
all_fit s =
    rounds_few s.n s.m s.b (rounds_of s - 1) (rotation_limit s s.m) (rotation_limit s (last_bits s)) s.keeps.block s.keeps.memory
    s.keeps.addresses refl (limit_small s s.m) (limit_small s (last_bits s))

-- there is room for a whole round
pub whole_room : (s : Shape) (k : ℕ) (forms : List PassForm) → AreWholeRounds s k forms → k < rounds_of s - 1
    → length forms + rotation_limit s s.m ≤ 256
whole_room s k forms w l =
    let h : length forms ≤ k * rotation_limit s s.m = whole_few s k forms w in
    let e : (k + 1) * rotation_limit s s.m ≡ k * rotation_limit s s.m + 1 * rotation_limit s s.m = add-mul k 1 (rotation_limit s s.m) in
    let m : (k + 1) * rotation_limit s s.m ≤ (rounds_of s - 1) * rotation_limit s s.m = mul-le-mul_right (rotation_limit s s.m)
    (omega arith) in
    let f : (rounds_of s - 1) * rotation_limit s s.m + rotation_limit s (last_bits s) ≤ 256 = all_fit s in
    omega arith

-- there is room for the last round
pub last_room : (s : Shape) (forms : List PassForm) → AreWholeRounds s (rounds_of s - 1) forms
    → length forms + rotation_limit s (last_bits s) ≤ 256
last_room s forms w =
    let h : length forms ≤ (rounds_of s - 1) * rotation_limit s s.m = whole_few s (rounds_of s - 1) forms w in
    let f : (rounds_of s - 1) * rotation_limit s s.m + rotation_limit s (last_bits s) ≤ 256 = all_fit s in
    omega arith

-- the limit of the rotation's own map
pub map_within : (s : Shape) (by : ℕ) (f : Affine) → IsRotationBy s.n by f → map_limit f.a.cols s.b s.m ≡ rotation_limit s by
map_within s by f r =
    let l : s.b ≤ s.n = omega (arith, s.keeps.block, s.keeps.memory) in
    ap (λ (c : ℕ). div_ceil c (s.m - s.b) + 2) (rotation_rank f.a.cols s.n by s.b l r.columns)

-- the passes of the rotation's own map
pub map_count : (s : Shape) (by : ℕ) (f : Affine) → IsRotationBy s.n by f → map_passes s f.a.cols ≡ rotation_passes s by
map_count s by f r = passes-rotation s by f.a.cols r.columns

-- ---- rounds put at the end

-- before all rounds
pub whole_none : (s : Shape) (forms : List PassForm) → forms ≡ [] → AreWholeRounds s 0 forms
unfolding AreWholeRounds
whole_none s forms e = e

-- one more
pub whole_more : (s : Shape) (k : ℕ) (old new : List PassForm) → AreWholeRounds s k old → AppendsRound s s.m old new
    → AreWholeRounds s (k + 1) new
unfolding AreWholeRounds
whole_more s k old new w a =
    let e : suc k ≡ k + 1 = omega arith in
    subst (λ (c : ℕ). AreWholeRounds s c new) e (old, w, a)

-- a rotation from its sizes
pub rotation_by : (n k by : ℕ) (f : Affine) → k ≡ n → by ≤ n → f.a.n ≡ k
    → (by ≤ k → (j : ℕ) → j < k → column f.a j ≡ 2 ^ ((j + k - by) % k)) → f.c ≡ 0 → IsNonsingular f.a → IsRotationBy n by f
rotation_by n k by f e l size columns constant nonsingular = record {
  size = size ∙ e;
  columns = subst (λ (x : ℕ). (j : ℕ) → j < x → column f.a j ≡ 2 ^ ((j + x - by) % x)) e (columns (subst (λ (x : ℕ). by ≤ x) (sym e) l));
  constant = constant;
  nonsingular = nonsingular;
}
