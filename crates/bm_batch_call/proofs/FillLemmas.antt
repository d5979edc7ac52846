-- The one input that bays are filled from.
use Rattle.std.proofs.Common.{◌≡◌, ℕ, ◌+◌, ◌-◌, ◌*◌, ◌<◌, ◌≤◌, IsTrue, List, length, drop, ◌∙◌, ap, subst, arith, length-drop}
use Rattle.std.proofs.lemmas.List.{drop-drop}
use Rattle.std.proofs.Math.Nat.{mul-le-mul_right}
use Rattle.bm_base.specs.declared.shape.Shape.{Shape}
use Rattle.bm_base.specs.Shape.{input_size}
use Rattle.bm_rack.specs.RackView.{RackView}
use Rattle.bm_disks.specs.Input.{IsRead}
use Rattle.bm_disks.specs.Loading.{HoldsInput}
use Rattle.bm_disks.proofs.LoadLemmas.{IsRead-later}
use Rattle.bm_top.specs.Moment.{SourceView, Tells}
use Rattle.bm_batch_call.specs.Bays.{BayFilled}
use Rattle.bm_batch_call.specs.Filling.{IsFrom}

pub from_none : (told : _) (s : Shape) (source : SourceView) → IsFrom told s source 0 source
from_none told s source = record {
  before = λ t. omega arith;
  left = λ t. ap (λ (n : ℕ). drop n source.left) (let e : 0 ≡ 0 * input_size s = omega arith in e);
  faults = omega arith;
}

pub from_next : (told : _) (s : Shape) (source here rest : SourceView) (at : ℕ) → IsFrom told s source at here
    → (IsTrue told → (input_size s ≤ length here.left) × (rest.left ≡ drop (input_size s) here.left)) → here.faults ≤ rest.faults
    → IsFrom told s source (at + 1) rest
from_next told s source here rest at f taken low = record {
  before = λ t.
      let size = input_size s in
      let long : length here.left ≡ length source.left - at * size = ap length (f.left t) ∙ length-drop (at * size) source.left in
      let some = (taken t).0 in
      let before = f.before t in
      let one : (at + 1) * size ≡ at * size + size = omega arith in
      fits (at * size) size ((at + 1) * size) (length here.left) (length source.left) one long some before;
  left = λ t.
      let size = input_size s in
      (taken t).1
      ∙ ap (λ (z : List ℕ). drop size z) (f.left t)
      ∙ drop-drop size (at * size) source.left
      ∙ ap (λ (n : ℕ). drop n source.left) (let e : at * size + size ≡ (at + 1) * size = omega arith in e);
  faults = (let h = f.faults in omega (arith, h, low));
}
  where
    fits : (a b c left all : ℕ) → c ≡ a + b → left ≡ all - a → b ≤ left → a ≤ all → c ≤ all
    fits a b c left all one long some before = omega arith

pub filled_as : (t : Tells) (s : Shape) (a b : List ℕ) (old new : RackView) → (IsTrue t.input → a ≡ b) → BayFilled t s a old new
    → BayFilled t s b old new
filled_as t s a b old new same f = record {
  stood = f.stood;
  stands = f.stands;
  attached = f.attached;
  holds = λ input told. subst (λ (bytes : List ℕ). HoldsInput s bytes new.contents) (same input) (f.holds input told);
  closed = f.closed;
  no_job = f.no_job;
  sound = f.sound;
  keeps = f.keeps;
  moves = f.moves;
  rows = f.rows;
}

-- what was read by the call at one of so many bays
pub read_at : (told : _) (s : Shape) (source here rest : SourceView) (at count : ℕ) → at < count → IsFrom told s source at here
    → (IsTrue told → IsRead (input_size s) here.left rest.left) → IsTrue told → IsRead (count * input_size s) source.left rest.left
read_at told s source here rest at count below f few t =
    let size = input_size s in
    let more : (at + 1) * size ≤ count * size = mul-le-mul_right size (omega (arith, below)) in
    let one : (at + 1) * size ≡ at * size + size = omega arith in
    IsRead-later (at * size) size (count * size) source.left here.left rest.left (omega (arith, more, one)) (f.left t) (few t)
