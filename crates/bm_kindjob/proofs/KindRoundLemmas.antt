-- Rounds in order do a pairing on each bit of a set.
use Rattle.std.proofs.Common.{ℕ, zero, suc, ◌≡◌, ◌+◌, ◌-◌, ◌*◌, ◌/◌, ◌^◌, ◌<◌, ◌≤◌, List, [], ◌∷◌, ◌++◌, length, refl, sym, ap, ◌∙◌}
use Rattle.std.proofs.Common.{subst, arith}
use Rattle.std.proofs.lemmas.Nat.{shr-shr}
use Rattle.std.proofs.Math.Nat.{div-one}
use Rattle.bm_base.specs.declared.shape.Shape.{Shape}
use Rattle.bm_base.specs.Butterfly.{butterflies}
use Rattle.bm_forms.specs.declared.pass_form.PassForm.{PassForm}
use Rattle.bm_forms.specs.Permutation.{permuted}
use Rattle.bm_forms.specs.Plan.{all_passed}
use Rattle.bm_forms.specs.Rounds.{rounds_of, last_bits}
use Rattle.bm_forms.specs.PassCount.{rotation_passes}
use Rattle.bm_forms.proofs.PassCountLemmas.{passes-some}
use Rattle.bm_forms.specs.Rounds.{rotation_columns}
use Rattle.bm_factor.specs.Factoring.{AreWithoutButterflies}
use Rattle.bm_walsh.specs.Rounds.{first_with, AppendsRound, AreWholeRounds, AreRounds}
use Rattle.bm_walsh.proofs.RoundsLemmas.{last_some, rotation_is}
use Rattle.bm_kinds.specs.OnBits.{kernel_over}
use Rattle.bm_kindjob.specs.KindPasses.{kind_passed, kinds_passed, DoKinds}
use Rattle.bm_kindjob.proofs.TurnLemmas.{Turned, turned_over, turned_more, turned_none, turned_all, turned_same}

-- how many bits the passes have together
unfoldable pub bits_passed : List PassForm → ℕ
bits_passed [] = 0
bits_passed (p ∷ ps) = p.low + bits_passed ps

-- passes after passes
kinds_append : (f : ℕ → ℕ → ℕ × ℕ) (set : ℕ) (ps qs : List PassForm) (xs : ℕ → List ℕ)
    → kinds_passed f set (ps ++ qs) xs ≡ kinds_passed f (set / 2 ^ bits_passed ps) qs (kinds_passed f set ps xs)
unfolding kinds_passed bits_passed
kinds_append f set [] qs xs = ap (λ (c : ℕ). kinds_passed f c qs xs) (sym (div-one set))
kinds_append f set (p ∷ ps) qs xs =
    kinds_append f (set / 2 ^ p.low) ps qs (kind_passed f set p xs)
    ∙ ap (λ (c : ℕ). kinds_passed f c qs (kinds_passed f (set / 2 ^ p.low) ps (kind_passed f set p xs))) (shr-shr set p.low
    (bits_passed ps))

bits_append : (ps qs : List PassForm) → bits_passed (ps ++ qs) ≡ bits_passed ps + bits_passed qs
unfolding bits_passed
bits_append [] qs = omega arith
bits_append (p ∷ ps) qs = ap (λ (c : ℕ). p.low + c) (bits_append ps qs)
    ∙ (let e : p.low + (bits_passed ps + bits_passed qs) ≡ p.low + bits_passed ps + bits_passed qs = omega arith in e)

-- the first of plain passes, and the others
plain_first : (p : PassForm) (ps : List PassForm) → AreWithoutButterflies (p ∷ ps) → p.low ≡ 0
plain_first p ps plain = plain 0 p (let e : 0 < suc (length ps) = omega arith in e)

plain_rest : (p : PassForm) (ps : List PassForm) → AreWithoutButterflies (p ∷ ps) → AreWithoutButterflies ps
plain_rest p ps plain k d l = plain (suc k) d (let e : suc k < suc (length ps) = omega arith in e)

-- a plain pass does no pairing and no butterfly
kernel_none : (f : ℕ → ℕ → ℕ × ℕ) (low set : ℕ) (xs : ℕ → List ℕ) → low ≡ 0 → kernel_over f low set xs ≡ butterflies low xs
unfolding kernel_over butterflies
kernel_none f zero set xs none = refl
kernel_none f (suc j) set xs none = absurd (omega arith)

-- plain passes
plain_passes : (f : ℕ → ℕ → ℕ × ℕ) (set : ℕ) (ps : List PassForm) (xs : ℕ → List ℕ) → AreWithoutButterflies ps
    → kinds_passed f set ps xs ≡ all_passed ps xs
unfolding kinds_passed all_passed
plain_passes f set [] xs plain = refl
plain_passes f set (p ∷ ps) xs plain =
    plain_passes f (set / 2 ^ p.low) ps (kind_passed f set p xs) (plain_rest p ps plain)
    ∙ ap (λ (ys : ℕ → List ℕ). all_passed ps (permuted p.map.map ys)) (kernel_none f p.low set xs (plain_first p ps plain))

plain_bits : (ps : List PassForm) → AreWithoutButterflies ps → bits_passed ps ≡ 0
unfolding bits_passed
plain_bits [] plain = refl
plain_bits (p ∷ ps) plain =
    let first = plain_first p ps plain in
    let rest = plain_bits ps (plain_rest p ps plain) in
    omega arith

-- the passes of a round
round_passes : (f : ℕ → ℕ → ℕ × ℕ) (by set : ℕ) (round : List PassForm) (ys : ℕ → List ℕ) → AreWithoutButterflies round → 1 ≤ length round
    → kinds_passed f set (first_with by round) ys ≡ all_passed round (kernel_over f by set ys)
unfolding first_with kinds_passed all_passed butterflies
round_passes f by set [] ys plain some = absurd (omega arith)
round_passes f by set (p ∷ ps) ys plain some =
    plain_passes f (set / 2 ^ by) ps (permuted p.map.map (kernel_over f by set ys)) (plain_rest p ps plain)
    ∙ ap (λ (c : ℕ). all_passed ps (permuted p.map.map (butterflies c (kernel_over f by set ys)))) (sym (plain_first p ps plain))

round_bits : (by : ℕ) (round : List PassForm) → AreWithoutButterflies round → 1 ≤ length round → bits_passed (first_with by round) ≡ by
unfolding first_with bits_passed
round_bits by [] plain some = absurd (omega arith)
round_bits by (p ∷ ps) plain some = let rest = plain_bits ps (plain_rest p ps plain) in omega arith

-- ---- rounds

-- rounds that have done the first `by` bits
pub record HaveDone (n by : ℕ) (forms : List PassForm) : Type 0 where
  pub bits : bits_passed forms ≡ by
  pub turned : (f : ℕ → ℕ → ℕ × ℕ) (set : ℕ) (xs : ℕ → List ℕ) → Turned n by (kernel_over f by set xs) (kinds_passed f set forms xs)

have_none : (n : ℕ) → HaveDone n 0 []
unfolding kernel_over kinds_passed bits_passed
have_none n = record { bits = refl; turned = λ f set xs. turned_none n xs }

-- one round more
have_more : (s : Shape) (by done : ℕ) (old new : List PassForm) → AppendsRound s by old new → HaveDone s.n done old → done + by ≤ s.n
    → HaveDone s.n (done + by) new
have_more s by done old new a have inside =
    let some : 1 ≤ length a.round = (let e : 1 ≤ rotation_passes s by = passes-some s (rotation_columns s.n by s.n) in
    let c : length a.round ≡ rotation_passes s by = a.count in omega arith) in
    record {
      bits = ap bits_passed a.is ∙ bits_append old (first_with by a.round)
          ∙ ap (λ (c : ℕ). bits_passed old + c) (round_bits by a.round a.plain some) ∙ ap (λ (c : ℕ). c + by) have.bits;
      turned = λ f set xs.
          let ys = kinds_passed f set old xs in
          let part = set / 2 ^ done in
          let zs = kernel_over f by part ys in
          let is : kinds_passed f set new xs ≡ all_passed a.round zs = ap (λ (ps : List PassForm). kinds_passed f set ps xs) a.is
          ∙ kinds_append f set old (first_with by a.round) xs
          ∙ ap (λ (c : ℕ). kinds_passed f (set / 2 ^ c) (first_with by a.round) ys) have.bits
          ∙ round_passes f by part a.round ys a.plain some in
          subst (Turned s.n (done + by) (kernel_over f (done + by) set xs)) (sym is)
          (turned_same s.n (done + by) (kernel_over f (done + by) set xs) (permuted a.turn zs) (all_passed a.round zs) inside
          (a.does zs)
          (turned_more s.n done by a.turn (kernel_over f (done + by) set xs) zs inside a.rotates.size a.rotates.nonsingular
          (rotation_is s.n by a.turn a.rotates (omega arith))
          (turned_over f s.n done by set xs ys inside (have.turned f set xs))));
    }

-- whole rounds
have_whole : (s : Shape) (k : ℕ) (forms : List PassForm) → AreWholeRounds s k forms → k * s.m ≤ s.n → HaveDone s.n (k * s.m) forms
unfolding AreWholeRounds
have_whole s zero forms w inside =
    subst (HaveDone s.n (0 * s.m)) (sym w)
    (subst (λ (c : ℕ). HaveDone s.n c []) (let e : 0 ≡ 0 * s.m = omega arith in e) (have_none s.n))
have_whole s (suc k) forms w inside =
    let more : suc k * s.m ≡ k * s.m + s.m = omega arith in
    subst (λ (c : ℕ). HaveDone s.n c forms) (sym more)
    (have_more s s.m (k * s.m) w.0 forms w.2 (have_whole s k w.0 w.1 (omega arith)) (omega arith))

-- all rounds
pub rounds_do_kinds : (s : Shape) (forms : List PassForm) → AreRounds s forms → DoKinds forms s.n
rounds_do_kinds s forms r f set xs =
    let t = last_some s in
    let whole : (rounds_of s - 1) * s.m + last_bits s ≡ s.n = t.2 in
    let have = subst (λ (c : ℕ). HaveDone s.n c forms) whole
    (have_more s (last_bits s) ((rounds_of s - 1) * s.m) r.before forms r.last
    (have_whole s (rounds_of s - 1) r.before r.whole (omega arith)) (omega arith)) in
    turned_all s.n (kernel_over f s.n set xs) (kinds_passed f set forms xs) (have.turned f set xs)
