use Rattle.std.proofs.Common.{rules, ◌≡◌, ℕ, ◌+◌, ◌-◌, ◌*◌, ◌%◌, ◌^◌, ◌<◌, ◌≤◌, List, length, refl, sym, ap, ◌∙◌, subst, arith}
use Rattle.std.proofs.lemmas.Nat.{pow_pos}
use Rattle.std.proofs.Math.Nat.{mod-lt, mul-le-mul_right}
use Rattle.std.proofs.Math.Pow.{pow_mono}
use Rattle.bm_base.specs.declared.area.Area.TheVariants.{Input}
use Rattle.bm_base.specs.Area.{area_after}
use Rattle.bm_base.specs.Shape.{stripes}
use Rattle.bm_base.specs.Records.{record_at}
use Rattle.bm_forms.specs.Permutation.{permuted}
use Rattle.bm_rack.proofs.CallLemmas.{MovesRows-refl, MovesRows-next, MovesRows-failed, MovesRows-all}
use Rattle.bm_rack.proofs.FrameLemmas.{Keeps-trans, ChangesOnly-trans, ChangesOnly-wider}
use Rattle.bm_stripe.specs.Units.{IsAreaUnit}
use Rattle.bm_kinds.specs.OnBits.{word, kernel_over}
use Rattle.bm_kinds.proofs.KindLemmas.{kernel_over-kind}
use Rattle.bm_kindjob.specs.KindRun.{IsWorkBlock}
use Rattle.bm_kindjob.proofs.RunLemmas.{IsWorkBlock-target, left_first, left_more, run_none, run_more, run_whole, rows_so_far}
use Rattle.bm_kindjob.proofs.SoundLemmas.{sound_work}
use Rattle.bm_kindjob.proofs.runs.run_kind.Goals as goal

pub loop-i-init : goal.loop-i-init
loop-i-init g c =
    let now = g.R.Rack.view c.args.rack.now in
    let s = c.args.shape.now in
    record {
      only = search rules;
      moved = MovesRows-all 0 (0 * (2 * stripes s)) (Unit {0}) _ _ (omega arith)
          (MovesRows-refl _ _ (Unit {0}) _ (g.met.R.Rack.consistent c.args.rack.now));
      keeps = search rules;
      fits = c.requires.fits;
      end = c.len-i-end.ensures.count;
      left = left_first c.args.set c.args.plan.now.forms;
      records = λ told x below. ap (λ (ys : ℕ → List ℕ). ys x)
          (sym (run_none (g.K.Kernel.meaning c.args.kernel.now) c.args.set c.args.plan.now.forms (record_at now.contents s Input)));
    }

pub kind_pass-requires-clause-width : goal.kind_pass-requires-clause-width
kind_pass-requires-clause-width g c = ap (λ s. s.width) (sym c.requires.plan) ∙ c.len-i-end.ensures.rounds.width

pub kind_pass-requires-clause-set : goal.kind_pass-requires-clause-set
kind_pass-requires-clause-set g c =
    let s = c.args.shape.now in
    let p = c.at-pass.result.now in
    let of = c.at-pass.ensures.shape in
    let low : p.low ≤ s.m = subst (λ s. p.low ≤ s.m) c.requires.plan of.low in
    let small : c.loop-i.left % 2 ^ p.low < 2 ^ p.low = mod-lt c.loop-i.left (pow_pos p.low) in
    let more : 2 ^ p.low ≤ 2 ^ s.m = pow_mono {i = p.low} {j = s.m} low in
    omega (arith, c.lowest-part.ensures)

pub returns-in_err-kind_pass-clause-only : goal.returns-in_err-kind_pass-clause-only
returns-in_err-kind_pass-clause-only g c =
    let s = c.args.shape.now in
    let to = c.area_of-in-loop-i.result in
    ChangesOnly-trans (IsWorkBlock s) _ _ _ c.loop-i.invariant.only
    (ChangesOnly-wider (IsAreaUnit s to) (IsWorkBlock s) _ _
    (λ u is. IsWorkBlock-target s c.loop-i.i u (subst (λ a. IsAreaUnit s a u) c.area_of-in-loop-i.ensures is)) c.kind_pass.ensures.only)

pub returns-in_err-kind_pass-clause-sound : goal.returns-in_err-kind_pass-clause-sound
returns-in_err-kind_pass-clause-sound g c told_stands told closed sound =
    let s = c.args.shape.now in
    let to = c.area_of-in-loop-i.result in
    sound_work s _ _ _ _ told_stands told (g.met.R.Rack.consistent c.args.rack.now) c.requires.attached
    (ChangesOnly-trans (IsWorkBlock s) _ _ _ c.loop-i.invariant.only
    (ChangesOnly-wider (IsAreaUnit s to) (IsWorkBlock s) _ _
    (λ u is. IsWorkBlock-target s c.loop-i.i u (subst (λ a. IsAreaUnit s a u) c.area_of-in-loop-i.ensures is)) c.kind_pass.ensures.only))
    closed sound

pub returns-clause-sound : goal.returns-clause-sound
returns-clause-sound g c told_stands told closed sound =
    sound_work c.args.shape.now _ _ _ _ told_stands told (g.met.R.Rack.consistent c.args.rack.now) c.requires.attached
    c.loop-i.invariant.only closed sound

pub returns-in_err-kind_pass-clause-moved : goal.returns-in_err-kind_pass-clause-moved
returns-in_err-kind_pass-clause-moved g c =
    let s = c.args.shape.now in
    let rows = 2 * stripes s in
    let passes = length c.args.plan.now.forms in
    let inside : c.loop-i.i < passes = subst (λ k. c.loop-i.i < k) c.len-i-end.ensures.count c.loop-i-test.true in
    MovesRows-failed (c.loop-i.i * rows) rows (rows * passes) _ _ _ _ _ (rows_so_far rows c.loop-i.i passes inside) (λ ok. search rules)
    c.loop-i.invariant.moved c.in_err-kind_pass.ensures.moved

pub loop-i-preserved : goal.loop-i-preserved
loop-i-preserved g c =
    let f = g.K.Kernel.meaning c.args.kernel.now in
    let s = c.args.shape.now in
    let forms = c.args.plan.now.forms in
    let rows = 2 * stripes s in
    let i = c.loop-i.i in
    let left = c.loop-i.left in
    let inv = c.loop-i.invariant in
    let p = c.at-pass.result.now in
    let of = c.at-pass.ensures.shape in
    let from = c.area_of.result in
    let to = c.area_of-in-loop-i.result in
    let before = g.R.Rack.view c.args.rack.now in
    let now = g.R.Rack.view c.loop-i.rack in
    let after = g.R.Rack.view c.kind_pass.new.rack in
    let inside : i < length forms = subst (λ k. i < k) c.len-i-end.ensures.count c.loop-i-test.true in
    record {
      only = ChangesOnly-trans (IsWorkBlock s) _ _ _ inv.only
          (ChangesOnly-wider (IsAreaUnit s to) (IsWorkBlock s) _ _
          (λ u is. IsWorkBlock-target s i u (subst (λ a. IsAreaUnit s a u) c.area_of-in-loop-i.ensures is)) c.kind_pass.ensures.only);
      moved = MovesRows-next rows i _ _ _ _ refl inv.moved c.in_ok-kind_pass.ensures.moved;
      keeps = Keeps-trans _ _ _ inv.keeps c.kind_pass.ensures.keeps;
      fits = c.kind_pass.ensures.fits;
      end = inv.end;
      left = left_more c.args.set left forms i p inside c.at-pass.ensures.form inv.left;
      records = λ told. run_more f s.n s.m c.args.set left i forms p (record_at now.contents s (area_after i))
          (record_at after.contents s (area_after (i + 1))) (record_at before.contents s Input) inside c.at-pass.ensures.form
          (of.addresses ∙ ap (λ t. t.n) c.requires.plan) (subst (λ t. p.low ≤ t.m) c.requires.plan of.low) s.keeps.memory inv.left
          (inv.records told)
          (λ x below. ap (λ a. record_at after.contents s a x) (sym c.area_of-in-loop-i.ensures)
          ∙ c.in_ok-kind_pass.ensures.records told x below
          ∙ ap (λ a. permuted p.map.map (kernel_over f s.m c.lowest-part.result (record_at now.contents s a)) x) c.area_of.ensures
          ∙ ap (λ k. permuted p.map.map (kernel_over f s.m k (record_at now.contents s (area_after i))) x) c.lowest-part.ensures);
    }

pub overflow_mul-result : goal.overflow_mul-result
overflow_mul-result g c =
    let s = c.args.shape.now in
    let most : stripes s ≤ 2 ^ 52 = pow_mono {i = s.n - s.b - s.d} {j = 52} (omega (arith, s.keeps.addresses)) in
    let product : c.pass_moves.result * c.from.result ≤ 9007199254740992 * c.from.result =
    mul-le-mul_right c.from.result (omega (arith, c.pass_moves.ensures)) in
    omega (arith, c.from.ensures, c.len-i-end.ensures.most)

pub returns-clause-records : goal.returns-clause-records
returns-clause-records g c told = λ x below.
    let f = g.K.Kernel.meaning c.args.kernel.now in
    let s = c.args.shape.now in
    let forms = c.args.plan.now.forms in
    let inv = c.loop-i.invariant in
    let test = c.loop-i-test.false in
    let all : c.loop-i.i ≡ length forms = omega (arith, c.loop-i.auto.i-end, inv.end) in
    let input = record_at (g.R.Rack.view c.args.rack.now).contents s Input in
    run_whole f s c.args.plan.now c.args.set c.loop-i.i (g.R.Rack.view c.loop-i.rack).contents input c.requires.plan
    c.len-i-end.ensures.rounds all (inv.records told) x below

pub returns-clause-kinds : goal.returns-clause-kinds
returns-clause-kinds g c kind is told = λ k below.
    let f = g.K.Kernel.meaning c.args.kernel.now in
    let s = c.args.shape.now in
    let forms = c.args.plan.now.forms in
    let inv = c.loop-i.invariant in
    let test = c.loop-i-test.false in
    let all : c.loop-i.i ≡ length forms = omega (arith, c.loop-i.auto.i-end, inv.end) in
    let input = record_at (g.R.Rack.view c.args.rack.now).contents s Input in
    ap word (run_whole f s c.args.plan.now c.args.set c.loop-i.i (g.R.Rack.view c.loop-i.rack).contents input c.requires.plan
    c.len-i-end.ensures.rounds all (inv.records told) k below)
    ∙ ap (λ (h : ℕ → ℕ → ℕ × ℕ). word (kernel_over h s.n c.args.set input k)) is
    ∙ kernel_over-kind kind s.n c.args.set input c.requires.set k below
