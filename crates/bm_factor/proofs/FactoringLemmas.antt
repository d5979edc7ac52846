-- The rounds of the factoring, and the passes that undo them.
use Rattle.std.proofs.Common.{◌≡◌, ℕ, ◌+◌, ◌-◌, ◌*◌, ◌/◌, ◌^◌, ◌<◌, ◌≤◌, List, [], ◌∷◌, ◌++◌, length, length-append, take, All, bit_xor}
use Rattle.std.proofs.Common.{refl, sym, ap, ◌∙◌, subst, arith, inl, inr, ⊎_elim, ◌⊎◌}
use Rattle.std.specs.Int.{div_ceil}
use Rattle.std.specs.Int.Bits.{xor_zero_l}
use Rattle.std.proofs.Math.Nat.{add-mul, pow-le-pow_right}
use Rattle.std.proofs.Math.Seq.{take-append_seam}
use Rattle.std.proofs.lemmas.Grind.{div_ceil_times}
use Rattle.std.proofs.lemmas.List.Elements.{All-push, All-nil}
use Rattle.bm_base.specs.declared.shape.Shape.{Shape}
use Rattle.bm_base.proofs.PowerLemmas.{below_wider}
use Rattle.bm_gf2.specs.declared.matrix.Matrix.{Matrix}
use Rattle.bm_gf2.specs.declared.affine.Affine.{Affine}
use Rattle.bm_gf2.specs.Matrix.{image, column, IsNonsingular}
use Rattle.bm_gf2.specs.Affine.{affine_image}
use Rattle.bm_gf2.proofs.ShiftLemmas.{image_below}
use Rattle.bm_rank.specs.RowSolution.{IsCovered}
use Rattle.bm_forms.specs.declared.pass_form.PassForm.{PassForm}
use Rattle.bm_forms.specs.declared.job.Job.TheVariants.{Permute}
use Rattle.bm_forms.specs.Mld.{IsMld, HasNoTop}
use Rattle.bm_forms.specs.Plan.{DoJob}
use Rattle.bm_forms.proofs.MldLemmas.{covered_after, nonsingular_after, HasNoTop-rows, IsMrc-is_mld}
use Rattle.bm_forms.proofs.PassFormLemmas.{fits_of_shape}
use Rattle.bm_forms.proofs.PermutationLemmas.{affine-lt}
use Rattle.bm_forms.proofs.PlanLemmas.{route, route-append, IsPlainOf, plain_do}
use Rattle.bm_factor.specs.Columns.{top_count, HasTrailingBlock}
use Rattle.bm_factor.specs.Factoring.{IsFactored, AppendsPass, AreWithoutButterflies, AreLinearButLast}
use Rattle.bm_factor.proofs.TopCountLemmas.{none_counted}

-- the map of one more pass
pub route_more : (forms : List PassForm) (p : PassForm) (x : ℕ) → route (forms ++ p ∷ []) x ≡ affine_image p.map.map (route forms x)
unfolding route
route_more forms p x = route-append forms (p ∷ []) x

-- no pass
pub route_none : (x : ℕ) → route [] x ≡ x
unfolding route
route_none x = refl

-- after i rounds: the passes so far, then `done`, then `rest`, are a
pub record IsFactoring (s : Shape) (a rest done : Matrix) (rank i : ℕ) (forms : List PassForm) : Type 0 where
  pub size_rest : rest.n ≡ s.n
  pub size_done : done.n ≡ s.n
  pub plain : All (IsPlainOf s.n) forms
  pub low : All (λ (p : PassForm). p.low ≡ 0) forms
  pub linear : All (λ (p : PassForm). p.map.map.c ≡ 0) forms
  pub inside : (x : ℕ) → x < 2 ^ s.n → route forms x < 2 ^ s.n
  pub undone : (x : ℕ) → x < 2 ^ s.n → image rest (image done (route forms x)) ≡ image a x
  pub rest_nonsingular : IsNonsingular rest
  pub done_nonsingular : IsNonsingular done
  pub stays : (x : ℕ) → x < 2 ^ s.m → image done x < 2 ^ s.m
  pub trailing : HasTrailingBlock (column rest) s.n s.m
  pub count : top_count (column rest) s.m s.m ≡ rank - i * (s.m - s.b)
  pub long : length forms ≡ i
  pub state : ((i ≡ 0) × ((x : ℕ) → route forms x ≡ x)) ⊎ ((x : ℕ) → x < 2 ^ s.n → image done x ≡ x)

-- no round yet
pub factoring_none : (s : Shape) (a rest done : Matrix) (rank : ℕ) (forms : List PassForm) → a.n ≡ s.n → forms ≡ [] → IsFactored a rest done
    → ((x : ℕ) → x < 2 ^ s.m → image done x < 2 ^ s.m) → HasTrailingBlock (column rest) a.n s.m
    → top_count (column rest) s.m s.m ≡ rank → IsFactoring s a rest done rank 0 forms
factoring_none s a rest done rank forms an none split stays trailing count =
    let still : (x : ℕ) → route forms x ≡ x = λ x. ap (λ (l : List PassForm). route l x) none ∙ route_none x in
    record {
      size_rest = split.size_rest ∙ an;
      size_done = split.size_done ∙ an;
      plain = subst (All (IsPlainOf s.n)) (sym none) (All-nil (IsPlainOf s.n));
      low = subst (All (λ (p : PassForm). p.low ≡ 0)) (sym none) (All-nil (λ (p : PassForm). p.low ≡ 0));
      linear = subst (All (λ (p : PassForm). p.map.map.c ≡ 0)) (sym none) (All-nil (λ (p : PassForm). p.map.map.c ≡ 0));
      inside = λ x h. subst (λ (v : ℕ). v < 2 ^ s.n) (sym (still x)) h;
      undone = λ x h. ap (λ (v : ℕ). image rest (image done v)) (still x) ∙ split.undone x (subst (λ (k : ℕ). x < 2 ^ k) (sym an) h);
      rest_nonsingular = split.rest_nonsingular;
      done_nonsingular = split.done_nonsingular;
      stays = stays;
      trailing = subst (λ (k : ℕ). HasTrailingBlock (column rest) k s.m) an trailing;
      count = count ∙ (let e : rank ≡ rank - 0 * (s.m - s.b) = omega arith in e);
      long = ap length none;
      state = inl (refl, still);
    }

-- the pass of a round is MLD
pub round_mld : (s : Shape) (a rest done rest2 done2 p : Matrix) (rank i : ℕ) (forms : List PassForm)
    → IsFactoring s a rest done rank i forms → IsFactored rest rest2 done2 → IsCovered done2 s.b s.m → p.n ≡ done2.n
    → ((x : ℕ) → image p x ≡ image done2 (image done x)) → IsMld p s.b s.m
round_mld s a rest done rest2 done2 p rank i forms f split covered pn comp = (
  nonsingular_after done2 done p (sym pn)
      (f.size_done ∙ sym (split.size_done ∙ f.size_rest) ∙ sym pn) comp split.done_nonsingular f.done_nonsingular,
  covered_after done2 done p s.b s.m comp f.stays covered,
)

-- one pass more, and all are plain
pub plain_more : (s : Shape) (forms forms2 : List PassForm) (f : Affine) → All (IsPlainOf s.n) forms → AppendsPass s forms forms2 f
    → s.m ≤ s.n
    → All (IsPlainOf s.n) forms2
plain_more s forms forms2 f all more mn =
    subst (All (IsPlainOf s.n)) (sym more.is)
    (All-push (IsPlainOf s.n) forms more.pass all (record { fits = fits_of_shape s more.pass mn more.of_shape; plain = more.low }))

-- the map of one pass more
pub route_appended : (s : Shape) (forms forms2 : List PassForm) (f : Affine) (x : ℕ) → AppendsPass s forms forms2 f
    → route forms2 x ≡ affine_image f (route forms x)
route_appended s forms forms2 f x more =
    ap (λ (l : List PassForm). route l x) more.is ∙ route_more forms more.pass x
    ∙ ap (λ (g : Affine). affine_image g (route forms x)) more.map

-- one round more
pub factoring_more : (s : Shape) (a rest done rest2 done2 p id : Matrix) (rank i : ℕ) (forms forms2 : List PassForm) (f : Affine)
    → IsFactoring s a rest done rank i forms → IsFactored rest rest2 done2 → p.n ≡ done2.n
    → ((x : ℕ) → image p x ≡ image done2 (image done x)) → HasTrailingBlock (column rest2) rest.n s.m
    → top_count (column rest2) s.m s.m ≡ top_count (column rest) s.m s.m - (s.m - s.b)
    → AppendsPass s forms forms2 f → f.a ≡ p → f.c ≡ 0 → id.n ≡ s.n → ((x : ℕ) → x < 2 ^ s.n → image id x ≡ x)
    → IsFactoring s a rest2 id rank (i + 1) forms2
factoring_more s a rest done rest2 done2 p id rank i forms forms2 f r split pn comp trailing count more fa fc idn still =
    let mn : s.m ≤ s.n = s.keeps.memory in
    let nums : rest.n ≡ s.n = r.size_rest in
    let pass_n : f.a.n ≡ s.n = ap (λ (g : Matrix). g.n) fa ∙ pn ∙ split.size_done ∙ nums in
    let linear : more.pass.map.map.c ≡ 0 = ap (λ (g : Affine). g.c) more.map ∙ fc in
    let goes : (x : ℕ) → route forms2 x ≡ image done2 (image done (route forms x)) = λ x.
    route_appended s forms forms2 f x more
    ∙ ap (λ (c : ℕ). bit_xor c (image f.a (route forms x))) fc ∙ xor_zero_l (image f.a (route forms x))
    ∙ ap (λ (g : Matrix). image g (route forms x)) fa ∙ comp (route forms x) in
    let inside : (x : ℕ) → x < 2 ^ s.n → route forms2 x < 2 ^ s.n = λ x h.
    subst (λ (v : ℕ). v < 2 ^ s.n) (sym (route_appended s forms forms2 f x more))
    (subst (λ (k : ℕ). affine_image f (route forms x) < 2 ^ k) pass_n (affine-lt f (route forms x))) in
    record {
      size_rest = split.size_rest ∙ nums;
      size_done = idn;
      plain = plain_more s forms forms2 f r.plain more mn;
      low = subst (All (λ (q : PassForm). q.low ≡ 0)) (sym more.is) (All-push (λ (q : PassForm). q.low ≡ 0) forms more.pass r.low more.low);
      linear = subst (All (λ (q : PassForm). q.map.map.c ≡ 0)) (sym more.is)
          (All-push (λ (q : PassForm). q.map.map.c ≡ 0) forms more.pass r.linear linear);
      inside = inside;
      undone = λ x h.
          let y : ℕ = image done (route forms x) in
          let yb : y < 2 ^ rest.n = subst (λ (k : ℕ). y < 2 ^ k) (r.size_done ∙ sym nums) (image_below done (route forms x)) in
          ap (image rest2) (still (route forms2 x) (inside x h) ∙ goes x) ∙ split.undone y yb ∙ r.undone x h;
      rest_nonsingular = split.rest_nonsingular;
      done_nonsingular = λ x h z. sym (still x (subst (λ (k : ℕ). x < 2 ^ k) idn h)) ∙ z;
      stays = λ x h. subst (λ (v : ℕ). v < 2 ^ s.m) (sym (still x (below_wider x s.m s.n h mn))) h;
      trailing = subst (λ (k : ℕ). HasTrailingBlock (column rest2) k s.m) nums trailing;
      count =
          let t = r.count in
          let e : (i + 1) * (s.m - s.b) ≡ i * (s.m - s.b) + 1 * (s.m - s.b) = add-mul i 1 (s.m - s.b) in omega arith;
      long = ap length more.is ∙ length-append forms (more.pass ∷ []) ∙ ap (λ (k : ℕ). k + 1) r.long;
      state = inr still;
    }

-- ---- the end

-- after as many rounds as the rank says, nothing is left in rows m and above
pub rest_has_no_top : (s : Shape) (a rest done : Matrix) (rank i : ℕ) (forms : List PassForm) → IsFactoring s a rest done rank i forms
    → i ≡ div_ceil rank (s.m - s.b) → HasNoTop rest s.m
rest_has_no_top s a rest done rank i forms r ie =
    let bm : s.b < s.m = s.keeps.block in
    let d : ℕ = s.m - s.b in
    let t = div_ceil_times rank d (omega arith) in
    let enough : rank ≤ div_ceil rank d * d = t.0 in
    let same : i * d ≡ div_ceil rank d * d = ap (λ (k : ℕ). k * d) ie in
    let count = r.count in
    none_counted (column rest) s.m s.m (omega arith)

-- so what is left is MRC, and MLD
pub rest_mld : (s : Shape) (a rest done : Matrix) (rank i : ℕ) (forms : List PassForm) → IsFactoring s a rest done rank i forms
    → i ≡ div_ceil rank (s.m - s.b) → IsMld rest s.b s.m
rest_mld s a rest done rank i forms r ie =
    let mn : s.m ≤ s.n = s.keeps.memory in
    let size : rest.n ≡ s.n = r.size_rest in
    IsMrc-is_mld rest s.b s.m (omega arith) (r.rest_nonsingular, rest_has_no_top s a rest done rank i forms r ie)

-- with no round before, the matrix itself is MLD
no_round_mld : (s : Shape) (a rest done : Matrix) (rank i : ℕ) (forms : List PassForm) → IsFactoring s a rest done rank i forms
    → i ≡ div_ceil rank (s.m - s.b) → IsNonsingular a → ((x : ℕ) → route forms x ≡ x) → IsMld a s.b s.m
no_round_mld s a rest done rank i forms r ie na still =
    let mn : s.m ≤ s.n = s.keeps.memory in
    let size : rest.n ≡ s.n = r.size_rest in (
      na,
      λ x h _.
          let inside : x < 2 ^ s.n = below_wider x s.m s.n h mn in
          let there : image a x ≡ image rest (image done x) =
          sym (r.undone x inside) ∙ ap (λ (v : ℕ). image rest (image done v)) (still x) in
          ap (λ (v : ℕ). v / 2 ^ s.m) there
          ∙ HasNoTop-rows rest s.m (image done x) (omega arith) (rest_has_no_top s a rest done rank i forms r ie) (r.stays x h),
    )

-- the loop's end, by the numbers that the code has
pub rounds_done : (i rounds rank m b m2 b2 : ℕ) → i ≡ rounds → rounds ≡ div_ceil rank (m - b) → m ≡ m2 → b ≡ b2
    → i ≡ div_ceil rank (m2 - b2)
rounds_done i rounds rank m b m2 b2 e r me be = e ∙ r ∙ ap (λ (k : ℕ). div_ceil rank (k - b)) me ∙ ap (λ (k : ℕ). div_ceil rank (m2 - k)) be

-- with the last pass, which has the constant, the passes in order do the permutation
pub factoring_does : (s : Shape) (map last : Affine) (rest done : Matrix) (rank i : ℕ) (forms forms2 : List PassForm)
    → IsFactoring s map.a rest done rank i forms → i ≡ div_ceil rank (s.m - s.b) → map.a.n ≡ s.n → IsNonsingular map.a
    → (IsMld map.a s.b s.m → ⊥) → AppendsPass s forms forms2 last → last.a ≡ rest → last.c ≡ map.c → DoJob forms2 s.n (Permute map)
factoring_does s map last rest done rank i forms forms2 r ie size na apart more la lc =
    plain_do s.n forms2 map (plain_more s forms forms2 last r.plain more s.keeps.memory) size na
    (λ x h.
    let y : ℕ = route forms x in
    let still : image done y ≡ y =
    ⊎_elim
    (λ (e : (i ≡ 0) × ((x : ℕ) → route forms x ≡ x)). absurd (apart (no_round_mld s map.a rest done rank i forms r ie na e.1)))
    (λ (e : (x : ℕ) → x < 2 ^ s.n → image done x ≡ x). e y (r.inside x h))
    r.state in
    route_appended s forms forms2 last x more
    ∙ ap (λ (c : ℕ). bit_xor c (image last.a y)) lc ∙ ap (λ (g : Matrix). bit_xor map.c (image g y)) la
    ∙ ap (λ (v : ℕ). bit_xor map.c (image rest v)) (sym still) ∙ ap (bit_xor map.c) (r.undone x h))

-- no pass has butterflies
pub low_appended : (s : Shape) (forms forms2 : List PassForm) (f : Affine) → All (λ (p : PassForm). p.low ≡ 0) forms
    → AppendsPass s forms forms2 f → AreWithoutButterflies forms2
low_appended s forms forms2 f all more =
    subst (All (λ (p : PassForm). p.low ≡ 0)) (sym more.is) (All-push (λ (p : PassForm). p.low ≡ 0) forms more.pass all more.low)

-- the maps before the last are linear
pub linear_appended : (s : Shape) (forms forms2 : List PassForm) (f : Affine) → All (λ (p : PassForm). p.map.map.c ≡ 0) forms
    → AppendsPass s forms forms2 f → AreLinearButLast forms2
linear_appended s forms forms2 f all more =
    let long : length forms2 - 1 ≡ length forms =
    ap (λ (l : List PassForm). length l - 1) more.is
    ∙ (let e = length-append forms (more.pass ∷ []) in let g : length (more.pass ∷ []) ≡ 1 = refl in omega arith) in
    let front : take (length forms2 - 1) forms2 ≡ forms =
    ap (λ (k : ℕ). take k forms2) long ∙ ap (take (length forms)) more.is ∙ take-append_seam forms (more.pass ∷ []) in
    subst (All (λ (p : PassForm). p.map.map.c ≡ 0)) (sym front) all
