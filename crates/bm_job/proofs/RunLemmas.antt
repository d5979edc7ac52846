-- A run from its first turn to its last one.
use Rattle.std.proofs.Common.{◌≡◌, ℕ, ◌+◌, ◌-◌, ◌*◌, ◌^◌, ◌<◌, ◌≤◌, Bool, IsTrue, List, refl, sym, ◌∙◌, ap, subst, arith}
use Rattle.std.proofs.Math.Nat.{mul-le-mul_left, mul-le-mul_right}
use Rattle.std.proofs.Math.Pow.{pow_mono}
use Rattle.bm_base.specs.declared.shape.Shape.{Shape}
use Rattle.bm_base.specs.Contents.{page_unit, page_at}
use Rattle.bm_base.specs.Shape.{dims_of, stripes, load_stripes, loads_of}
use Rattle.bm_base.proofs.ShapeLemmas.{loads_rows}
use Rattle.bm_rack.specs.RackView.{RackView, IsWellFormed}
use Rattle.bm_rack.specs.Image.{SameInput}
use Rattle.bm_rack.specs.Frames.{DirtiesOnly, Keeps, RackCall, MakesCalls}
use Rattle.bm_rack.proofs.CallLemmas.{MakesCalls-refl, MakesCalls-trans, MakesCalls-weaker, most_of}
use Rattle.bm_rack.proofs.FrameLemmas.{DirtiesOnly-wider, DirtiesOnly-trans, Keeps-refl, Keeps-trans, HasCause-later}
use Rattle.bm_pass.proofs.PassLemmas.{rows_of_pass}
use Rattle.bm_control.specs.Bodies.{IsPassBody}
use Rattle.bm_control.specs.Pages.{pass_body}
use Rattle.bm_job.specs.declared.machine.Machine.{Machine}
use Rattle.bm_job.specs.Begins.{HasBodies}
use Rattle.bm_job.specs.Follows.{Follows, IsNext, loads_moved, loads_counted}
use Rattle.bm_job.specs.Turns.{SameJob, IsNextOf, IsTurnUnit, IsBadBody, form_pages, durable_pages, durable_syncs}
use Rattle.bm_job.specs.Runs.{IsWorkUnit, turn_pages, turn_syncs, loads_left, load_rows, IsReached}
use Rattle.bm_job.proofs.RangeLemmas.{few_passes}
use Rattle.bm_job.proofs.PaceLemmas.{pages_spent, syncs_spent, turn_pages_few, turn_syncs_few, turn_pages_paid, turn_syncs_paid}
use Rattle.bm_job.proofs.PaceLemmas.{end_pages_few, end_syncs_few}
use Rattle.bm_job.proofs.LeftLemmas.{counted_grows, load_left, loads_all, moved_near}
use Rattle.bm_job.proofs.WorkUnitLemmas.{turn_work, body_kept}

-- ---- counts

-- the input is the same after two calls
pub same_input_then : (s : Shape) (a b c : RackView) → SameInput (dims_of s) a b → SameInput (dims_of s) b c → SameInput (dims_of s) a c
same_input_then s a b c x y = record {
  contents = λ u is. y.contents u is ∙ x.contents u is;
  dirty = λ u is clean. y.dirty u is (x.dirty u is clean);
}

-- and where nothing was called
pub same_input_none : (s : Shape) (a : RackView) → SameInput (dims_of s) a a
same_input_none s a = record { contents = λ u is. refl; dirty = λ u is clean. clean }

-- ---- the turns so far, which all went well
pub record OnWay (told_stands told_contents : Bool) (start now : Machine) (old new : RackView) : Type 0 where
  pub same : SameJob start now
  pub alive : IsTrue now.alive
  pub further : loads_moved start ≤ loads_moved now
  pub counted : loads_counted start ≤ loads_counted now
  pub follows : IsTrue told_stands → IsTrue told_contents → Follows start old → Follows now new
  pub frame : DirtiesOnly (IsWorkUnit start.shape) old new
  pub keeps : Keeps old new
  pub input : SameInput (dims_of start.shape) old new
  pub counts : MakesCalls (Unit {0}) (load_rows start.shape (loads_moved now - loads_moved start)) (pages_spent now) (syncs_spent now)
      old new

-- no turn yet
pub on_way_start : (told_stands told_contents : Bool) (m : Machine) (v : RackView) → IsWellFormed told_stands told_contents v
    → IsTrue m.alive
    → OnWay told_stands told_contents m m v v
on_way_start told_stands told_contents m v well alive =
    let zero : 0 ≡ load_rows m.shape 0 = omega arith in
    let none : 0 ≡ load_rows m.shape (loads_moved m - loads_moved m) = zero
    ∙ ap (λ (k : ℕ). load_rows m.shape k) (let e : 0 ≡ loads_moved m - loads_moved m = omega arith in e) in
    record {
      same = record { shape = refl; job = refl; passes = refl; every = refl };
      alive = alive;
      further = omega arith;
      counted = omega arith;
      follows = λ _ _ f. f;
      frame = record { stands = refl; attached = refl; contents = λ u h. refl; dirty = λ u h clean. clean };
      keeps = Keeps-refl v;
      input = same_input_none m.shape v;
      counts = MakesCalls-weaker 0 0 0 (load_rows m.shape (loads_moved m - loads_moved m)) (pages_spent m) (syncs_spent m) (Unit {0})
          (Unit {0}) v v (omega arith) (omega arith) (omega arith) (λ _. (tt, none)) (MakesCalls-refl _ _ (Unit {0}) v well);
    }

-- both are of the same job as the first
pub same_job_then : (a b c : Machine) → SameJob a b → SameJob b c → SameJob a c
same_job_then a b c x y = record { shape = y.shape ∙ x.shape; job = y.job ∙ x.job; passes = y.passes ∙ x.passes; every = y.every ∙ x.every }

-- the rows of one load more
rows_next : (s : Shape) (k : ℕ) → load_rows s k + 2 * load_stripes s ≡ load_rows s (k + 1)
rows_next s k = omega arith

-- the frame of a turn as that of the job's turns
turn_frame : (s : Shape) (m : Machine) (old new : RackView) → m.shape ≡ s → DirtiesOnly (IsTurnUnit m) old new
    → DirtiesOnly (IsWorkUnit s) old new
turn_frame s m old new same w = subst (λ (t : Shape). DirtiesOnly (IsWorkUnit t) old new) same
    (DirtiesOnly-wider (IsTurnUnit m) (IsWorkUnit m.shape) old new (turn_work m) w)

-- and its input
turn_input_of : (s : Shape) (m : Machine) (old new : RackView) → m.shape ≡ s → SameInput (dims_of m.shape) old new
    → SameInput (dims_of s) old new
turn_input_of s m old new same x = subst (λ (t : Shape). SameInput (dims_of t) old new) same x

-- the calls so far and those of a turn
so_far : (told_stands told_contents : Bool) (start now : Machine) (old mid new : RackView) (succeeds : Type 0)
    → OnWay told_stands told_contents start now old mid
    → MakesCalls succeeds (2 * load_stripes now.shape) (form_pages now.form + durable_pages now) (durable_syncs now) mid new
    → MakesCalls succeeds (load_rows start.shape (loads_moved now - loads_moved start) + 2 * load_stripes now.shape)
    (pages_spent now + (form_pages now.form + durable_pages now)) (syncs_spent now + durable_syncs now) old new
so_far told_stands told_contents start now old mid new succeeds o c =
    MakesCalls-trans (load_rows start.shape (loads_moved now - loads_moved start)) (pages_spent now) (syncs_spent now)
    (2 * load_stripes now.shape) (form_pages now.form + durable_pages now) (durable_syncs now) (Unit {0}) succeeds old mid new (λ _. tt)
    o.counts c

-- a turn more
pub on_way_next : (told_stands told_contents : Bool) (start now next : Machine) (old mid new : RackView) (failed succeeds : Type 0)
    → OnWay told_stands told_contents start now old mid → IsNextOf now next → loads_moved next ≡ loads_moved now + 1
    → (IsTrue told_stands → IsTrue told_contents → Follows now mid → Follows next new)
    → RackCall (IsTurnUnit now) failed mid new → SameInput (dims_of now.shape) mid new
    → succeeds → MakesCalls succeeds (2 * load_stripes now.shape) (form_pages now.form + durable_pages now) (durable_syncs now) mid new
    → OnWay told_stands told_contents start next old new
on_way_next told_stands told_contents start now next old mid new failed succeeds o n moved follows call input ok c =
    let further = o.further in
    let shape = o.same.shape in
    let k = loads_moved now - loads_moved start in
    let one : loads_moved next - loads_moved start ≡ k + 1 = omega (arith, further, moved) in
    let rows : load_rows start.shape k + 2 * load_stripes now.shape ≡ load_rows start.shape (loads_moved next - loads_moved start) =
    ap (λ (t : Shape). load_rows start.shape k + 2 * load_stripes t) shape ∙ rows_next start.shape k
    ∙ ap (λ (j : ℕ). load_rows start.shape j) (sym one) in
    record {
      same = same_job_then start now next o.same n.same;
      alive = n.alive;
      further = omega (arith, further, moved);
      counted = (let a = o.counted in let b = counted_grows now next n in omega (arith, a, b));
      follows = λ ts tc f. follows ts tc (o.follows ts tc f);
      frame = DirtiesOnly-trans (IsWorkUnit start.shape) _ _ _ o.frame (turn_frame start.shape now mid new shape call.frame);
      keeps = Keeps-trans _ _ _ o.keeps call.keeps;
      input = same_input_then start.shape _ _ _ o.input (turn_input_of start.shape now mid new shape input);
      counts = MakesCalls-weaker _ _ _ _ (pages_spent next) (syncs_spent next) succeeds (Unit {0}) old new (omega (arith, rows))
          (turn_pages_paid now next n) (turn_syncs_paid now next n) (λ _. (ok, rows))
          (so_far told_stands told_contents start now old mid new succeeds o c);
    }

-- fewer loads are left
pub fewer_left : (now next : Machine) → IsNextOf now next → now.done < now.passes → loads_moved next ≡ loads_moved now + 1
    → loads_left next < loads_left now
fewer_left now next n left moved =
    let most = load_left now left in
    let all : next.passes * loads_of next.shape ≡ now.passes * loads_of now.shape = rw (n.same.passes, n.same.shape) refl in
    omega (arith, most, all, moved)

-- the same numbers of calls by the first machine
pages_of_start : (start now : Machine) → SameJob start now → turn_pages now.shape now.passes now.every ≡ turn_pages start.shape start.passes
    start.every
pages_of_start start now same = rw (same.shape, same.passes, same.every) refl

-- the same numbers of syncs and of loads
syncs_of_start : (start now : Machine) → SameJob start now → turn_syncs now.shape now.passes now.every ≡ turn_syncs start.shape start.passes
    start.every
syncs_of_start start now same = rw (same.shape, same.passes, same.every) refl

loads_of_start : (start now : Machine) → SameJob start now → now.passes * loads_of now.shape ≡ start.passes * loads_of start.shape
loads_of_start start now same = rw (same.passes, same.shape) refl

-- the calls of all turns
pub end_calls : (told_stands told_contents : Bool) (start now : Machine) (old new : RackView) (succeeds : Type 0)
    → OnWay told_stands told_contents start now old new
    → now.done ≡ now.passes
    → MakesCalls succeeds (load_rows start.shape (loads_left start)) (turn_pages start.shape start.passes start.every)
    (turn_syncs start.shape start.passes start.every) old new
end_calls told_stands told_contents start now old new succeeds o end =
    let all : loads_moved now ≡ start.passes * loads_of start.shape = loads_all now end ∙ loads_of_start start now o.same in
    let rows : load_rows start.shape (loads_moved now - loads_moved start) ≡ load_rows start.shape (loads_left start) =
    ap (λ (k : ℕ). load_rows start.shape (k - loads_moved start)) all in
    MakesCalls-weaker _ (pages_spent now) (syncs_spent now) _ _ _ (Unit {0}) succeeds old new (omega (arith, rows))
    (subst (λ (k : ℕ). pages_spent now ≤ k) (pages_of_start start now o.same) (end_pages_few now end))
    (subst (λ (k : ℕ). syncs_spent now ≤ k) (syncs_of_start start now o.same) (end_syncs_few now end)) (λ _. (tt, rows)) o.counts

-- the calls so far, and those of a turn that failed
pub failed_calls : (told_stands told_contents : Bool) (start now : Machine) (old mid new : RackView) (first succeeds : Type 0)
    → OnWay told_stands told_contents start now old mid → now.done < now.passes → ¬ succeeds
    → MakesCalls first (2 * load_stripes now.shape) (form_pages now.form + durable_pages now) (durable_syncs now) mid new
    → MakesCalls succeeds (load_rows start.shape (loads_left start)) (turn_pages start.shape start.passes start.every)
    (turn_syncs start.shape start.passes start.every) old new
failed_calls told_stands told_contents start now old mid new first succeeds o left fails c =
    let further = o.further in
    let k = loads_moved now - loads_moved start in
    let rows : 2 * load_stripes now.shape ≡ 2 * load_stripes start.shape = ap (λ (t : Shape). 2 * load_stripes t) o.same.shape in
    let most = load_left now left in
    let all = loads_of_start start now o.same in
    let within : load_rows start.shape (k + 1) ≤ load_rows start.shape (loads_left start) = mul-le-mul_left (2 * load_stripes start.shape)
    (omega (arith, most, all, further)) in
    let one = rows_next start.shape k in
    MakesCalls-weaker _ _ _ (load_rows start.shape (loads_left start)) (turn_pages start.shape start.passes start.every)
    (turn_syncs start.shape start.passes start.every) first succeeds old new (omega (arith, rows, within, one))
    (subst (λ (k : ℕ). pages_spent now + (form_pages now.form + durable_pages now) ≤ k) (pages_of_start start now o.same)
    (turn_pages_few now left))
    (subst (λ (k : ℕ). syncs_spent now + durable_syncs now ≤ k) (syncs_of_start start now o.same) (turn_syncs_few now left))
    (λ ok. absurd (fails ok)) (so_far told_stands told_contents start now old mid new first o c)

-- how far they came
pub reached_of : (told_stands told_contents : Bool) (start now : Machine) (old mid new : RackView) (first : Type 0) (gone : ℕ)
    → OnWay told_stands told_contents start now old mid
    → MakesCalls first (2 * load_stripes now.shape) (form_pages now.form + durable_pages now) (durable_syncs now) mid new
    → loads_counted now ≤ gone → IsReached start gone old new
reached_of told_stands told_contents start now old mid new first gone o c sure =
    let further = o.further in
    let counted = o.counted in
    let near = moved_near now in
    let every = o.same.every in
    let k = loads_moved now - loads_moved start in
    let rows : 2 * load_stripes now.shape ≡ 2 * load_stripes start.shape = ap (λ (t : Shape). 2 * load_stripes t) o.same.shape in
    let within : load_rows start.shape (k + 1) ≤ load_rows start.shape (gone + start.every - loads_moved start) = mul-le-mul_left
    (2 * load_stripes start.shape) (omega (arith, near, every, sure, further)) in
    let one = rows_next start.shape k in
    record {
      counted = omega (arith, counted, sure);
      rows = (most_of _ _ first _ _ (omega (arith, rows, within, one))
          (so_far told_stands told_contents start now old mid new first o c).moves).high;
    }

-- the calls so far and one that failed
pub failed_call : (told_stands told_contents : Bool) (start now : Machine) (old mid new : RackView) (first failed : Type 0)
    → OnWay told_stands told_contents start now old mid → (failed → first) → RackCall (IsTurnUnit now) first mid new
    → RackCall (IsWorkUnit start.shape) failed old new
failed_call told_stands told_contents start now old mid new first failed o f c = record {
  frame = DirtiesOnly-trans (IsWorkUnit start.shape) _ _ _ o.frame (turn_frame start.shape now mid new o.same.shape c.frame);
  keeps = Keeps-trans _ _ _ o.keeps c.keeps;
  cause = HasCause-later failed _ _ _ o.keeps (record { rose = λ e. c.cause.rose (f e); sure = λ h k e. c.cause.sure h k (f e) });
}

-- the input after it
pub failed_input : (told_stands told_contents : Bool) (start now : Machine) (old mid new : RackView)
    → OnWay told_stands told_contents start now old mid → SameInput (dims_of now.shape) mid new → SameInput (dims_of start.shape) old new
failed_input told_stands told_contents start now old mid new o x = same_input_then start.shape _ _ _ o.input
    (turn_input_of start.shape now mid new o.same.shape x)

-- the body of the pass under way stands where all of them stood before
pub body_stands : (told_stands told_contents : Bool) (start now : Machine) (old mid : RackView) (page : ℕ)
    → OnWay told_stands told_contents start now old mid
    → now.done < now.passes → HasBodies start old.contents → ¬ IsBadBody now mid.contents page
body_stands told_stands told_contents start now old mid page o left bodies bad =
    let few = few_passes now.shape now.job now.passes now.done now.every now.part now.slot now.load now.keeps in
    let same : page_at mid.contents (pass_body now.done) ≡ page_at old.contents (pass_body now.done) =
    o.frame.contents (page_unit (pass_body now.done)) (body_kept start.shape now.done (omega (arith, left, few))) in
    let has = bodies now.done (subst (λ (p : ℕ). now.done < p) o.same.passes left) in
    bad.1 has.pass (subst (λ (t : Shape). IsNext t now.done mid.contents has.pass) (sym o.same.shape)
    (subst (λ (p : List ℕ). IsPassBody start.shape now.done p has.pass) (sym same) has.body))

-- the row calls of whole passes
pub rows_of_passes : (s : Shape) (p : ℕ) → load_rows s (p * loads_of s) ≡ 2 * stripes s * p
rows_of_passes s p =
    let one = loads_rows s in
    let all : load_rows s (p * loads_of s) ≡ 2 * (loads_of s * load_stripes s) * p = omega arith in
    all ∙ ap (λ (k : ℕ). 2 * k * p) one

-- the row calls of so many loads fit a word
pub rows_fit : (s : Shape) (passes moved : ℕ) → passes ≤ 254 → moved ≤ passes * loads_of s → load_rows s moved < 2 ^ 64
rows_fit s passes moved few most =
    let a : passes * loads_of s ≤ 254 * loads_of s = mul-le-mul_right (loads_of s) few in
    let b : load_rows s moved ≤ load_rows s (254 * loads_of s) = mul-le-mul_left (2 * load_stripes s) (omega (arith, a, most)) in
    let c : load_rows s (254 * loads_of s) ≡ 254 * (loads_of s * (2 * load_stripes s)) = omega arith in
    let d = rows_of_pass s in
    let e : stripes s ≤ 2 ^ 52 = pow_mono {i = s.n - s.b - s.d} {j = 52} (let few = s.keeps.addresses in omega (arith, few)) in
    let f : 254 * (loads_of s * (2 * load_stripes s)) ≡ 254 * (2 * stripes s) = ap (λ (k : ℕ). 254 * k) d in
    omega (arith, b, c, e, f)

-- and are within the job's limit
pub rows_most : (s : Shape) (passes most loads : ℕ) → passes ≤ most → loads ≤ passes * loads_of s → load_rows s loads ≤ 2 * stripes s * most
rows_most s passes most loads few less =
    let a : passes * loads_of s ≤ most * loads_of s = mul-le-mul_right (loads_of s) few in
    let b : load_rows s loads ≤ load_rows s (most * loads_of s) = mul-le-mul_left (2 * load_stripes s) (omega (arith, a, less)) in
    let c : load_rows s (most * loads_of s) ≡ most * (loads_of s * (2 * load_stripes s)) = omega arith in
    let d : most * (loads_of s * (2 * load_stripes s)) ≡ most * (2 * stripes s) = ap (λ (k : ℕ). most * k) (rows_of_pass s) in
    omega (arith, b, c, d)
