-- How many loads are moved, counted and left.
use Rattle.std.proofs.Common.{◌≡◌, inl, inr, ℕ, ◌+◌, ◌*◌, ◌<◌, ◌≤◌, sym, ap}
use Rattle.std.proofs.Common.{subst, arith}
use Rattle.std.proofs.lemmas.Bool.{cases_eq}
use Rattle.std.proofs.Math.Nat.{mul-le-mul_right}
use Rattle.bm_base.specs.declared.shape.Shape.{Shape}
use Rattle.bm_base.specs.Shape.{loads_of}
use Rattle.bm_job.specs.declared.machine.Machine.{Machine}
use Rattle.bm_job.specs.Follows.{loads_moved, loads_counted}
use Rattle.bm_job.specs.Turns.{IsNextOf}
use Rattle.bm_job.proofs.PaceLemmas.{TurnKind, last_load, marked_load, other_load, near_places, turn_kind}

-- what is counted grows from turn to turn
pub counted_grows : (old new : Machine) → IsNextOf old new → loads_counted old ≤ loads_counted new
counted_grows old new n = subst (λ (s : Shape). loads_counted old ≤ new.done * loads_of s + new.part) (sym n.same.shape)
    (grows (turn_kind old))
  where
    grows : TurnKind old → loads_counted old ≤ new.done * loads_of old.shape + new.part
    grows (last_load last) =
        let to = n.last last in
        let few = old.keeps.counted.few in
        let all : new.done * loads_of old.shape ≡ (old.done + 1) * loads_of old.shape = ap (λ (k : ℕ). k * loads_of old.shape) to.0 in
        omega (arith, few, all)
    grows (marked_load within none) =
        let to = n.before within in
        let part = (n.marked (within, none)).0 in
        let few = old.keeps.moved in
        let all : new.done * loads_of old.shape ≡ old.done * loads_of old.shape = ap (λ (k : ℕ). k * loads_of old.shape) to.0 in
        omega (arith, few, all, part)
    grows (other_load within some) =
        let to = n.before within in
        let part = (n.unmarked within some).0 in
        let all : new.done * loads_of old.shape ≡ old.done * loads_of old.shape = ap (λ (k : ℕ). k * loads_of old.shape) to.0 in
        omega (arith, all, part)

-- a turn moves one load
pub moved_one : (old new : Machine) → IsNextOf old new → loads_moved new ≡ loads_moved old + 1
moved_one old new n = subst (λ (s : Shape). new.done * loads_of s + new.load ≡ loads_moved old + 1) (sym n.same.shape)
    (one (turn_kind old))
  where
    more : old.load + 1 < loads_of old.shape → new.done * loads_of old.shape + new.load ≡ loads_moved old + 1
    more within =
        let to = n.before within in
        let all : new.done * loads_of old.shape ≡ old.done * loads_of old.shape = ap (λ (k : ℕ). k * loads_of old.shape) to.0 in
        omega (arith, to.1, all)

    one : TurnKind old → new.done * loads_of old.shape + new.load ≡ loads_moved old + 1
    one (last_load last) =
        let to = n.last last in
        let all : new.done * loads_of old.shape ≡ (old.done + 1) * loads_of old.shape = ap (λ (k : ℕ). k * loads_of old.shape) to.0 in
        omega (arith, last, to.1, all)
    one (marked_load within none) = more within
    one (other_load within some) = more within

-- a load is left where a pass is
pub load_left : (m : Machine) → m.done < m.passes → loads_moved m + 1 ≤ m.passes * loads_of m.shape
load_left m left =
    let within = m.keeps.within in
    let all : (m.done + 1) * loads_of m.shape ≤ m.passes * loads_of m.shape = mul-le-mul_right (loads_of m.shape) (omega (arith, left)) in
    omega (arith, within, all)

-- no more loads are moved than there are
pub loads_few : (m : Machine) → loads_moved m ≤ m.passes * loads_of m.shape
loads_few m = elim (cases_eq m.done m.passes) [
  | inl end ↦
      let rest = m.keeps.rest end in
      let all : m.done * loads_of m.shape ≡ m.passes * loads_of m.shape = ap (λ (k : ℕ). k * loads_of m.shape) end in
      omega (arith, rest, all)
  | inr before ↦ (let few = m.keeps.done_few in let one = load_left m (omega (arith, before, few)) in omega (arith, one))
]

-- all are moved at the end
pub loads_all : (m : Machine) → m.done ≡ m.passes → loads_moved m ≡ m.passes * loads_of m.shape
loads_all m end =
    let rest = m.keeps.rest end in
    let all : m.done * loads_of m.shape ≡ m.passes * loads_of m.shape = ap (λ (k : ℕ). k * loads_of m.shape) end in
    omega (arith, rest, all)

-- the loads moved are few more than those counted
pub moved_near : (m : Machine) → loads_moved m < loads_counted m + m.every
moved_near m =
    let near = near_places m.every m.part m.load m.keeps.every_some (sym m.keeps.near) in
    omega (arith, near)
