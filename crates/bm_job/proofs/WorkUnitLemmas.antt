-- What the turns of a job write.
use Rattle.std.proofs.Common.{◌≡◌, ◌⊎◌, inl, inr, ℕ, ◌+◌, ◌%◌, ◌<◌, refl, subst, arith}
use Rattle.std.proofs.lemmas.Bool.{cases_eq, eq-eqb, ne_eqb}
use Rattle.bm_base.specs.declared.shape.Shape.{Shape}
use Rattle.bm_base.specs.declared.area.Area.{Area}
use Rattle.bm_base.specs.declared.area.Area.TheVariants.{One, Two}
use Rattle.bm_base.specs.Area.{area_after}
use Rattle.bm_base.specs.Contents.{RackUnit, block_unit, page_unit}
use Rattle.bm_stripe.specs.Units.{IsAreaUnit}
use Rattle.bm_control.specs.Pages.{pass_body}
use Rattle.bm_control.specs.PageCalls.{IsSlotPage}
use Rattle.bm_job.specs.declared.machine.Machine.{Machine}
use Rattle.bm_job.specs.Turns.{IsTurnUnit}
use Rattle.bm_job.specs.Runs.{IsProgressPage, IsWorkUnit}

-- a pass writes area One or Two
target_areas : (done : ℕ) → (area_after (done + 1) ≡ One) ⊎ (area_after (done + 1) ≡ Two)
target_areas done = elim (cases_eq ((done + 1) % 2) 1) [
  | inl odd ↦ inl (rw (ne_eqb (done + 1) 0 (λ z. omega (arith, z)), eq-eqb ((done + 1) % 2) 1 odd) refl)
  | inr even ↦ inr (rw (ne_eqb (done + 1) 0 (λ z. omega (arith, z)), ne_eqb ((done + 1) % 2) 1 even) refl)
]

-- a slot's page shows progress
slot_progress : (slot : ℕ) (u : RackUnit) → IsSlotPage slot u → IsProgressPage u
slot_progress slot (block_unit disk place) is = is
slot_progress slot (page_unit page) (inl is) = (omega (arith, is), inr (omega (arith, is)))
slot_progress slot (page_unit page) (inr is) = (omega (arith, is), inr (omega (arith, is)))

-- what a turn writes the turns of a job write
pub turn_work : (m : Machine) (u : RackUnit) → IsTurnUnit m u → IsWorkUnit m.shape u
turn_work m u (inl is) = elim (target_areas m.done) [
  | inl one ↦ inl (subst (λ (a : Area). IsAreaUnit m.shape a u) one is)
  | inr two ↦ inr (inl (subst (λ (a : Area). IsAreaUnit m.shape a u) two is))
]
turn_work m (block_unit disk place) (inr (inl is)) = absurd is
turn_work m (page_unit page) (inr (inl is)) = inr (inr (omega (arith, is), inl (omega (arith, is))))
turn_work m (block_unit disk place) (inr (inr is)) = absurd is
turn_work m (page_unit page) (inr (inr is)) = inr (inr (slot_progress _ (page_unit page) is))

-- no page before the first gate is written, nor a pass's body
pub front_kept : (s : Shape) (page : ℕ) → page < 5 → ¬ IsWorkUnit s (page_unit page)
front_kept s page early (inl is) = is
front_kept s page early (inr (inl is)) = is
front_kept s page early (inr (inr is)) = (let from = is.0 in omega (arith, early, from))

pub body_kept : (s : Shape) (k : ℕ) → k < 254 → ¬ IsWorkUnit s (page_unit (pass_body k))
body_kept s k few (inl is) = is
body_kept s k few (inr (inl is)) = is
body_kept s k few (inr (inr (from, inl odd))) = omega (arith, odd)
body_kept s k few (inr (inr (from, inr late))) = omega (arith, late, few)
