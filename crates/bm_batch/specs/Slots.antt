-- What a bay's state says of its machine.
use Rattle.std.specs.Prelude.{◌≡◌, ◌<◌, Option, Some, IsSome, IsTrue}
use Rattle.bm_job.specs.declared.machine.Machine.{Machine}
use Rattle.bm_batch.specs.declared.bay_state.BayState.{BayState}
use Rattle.bm_batch.specs.declared.bay_state.BayState.TheVariants.{Going, Finished}

-- A bay that is Going has a machine that may take turns, with a pass left. One that is Finished has a machine with none left.
pub record SlotFits (machine : Option Machine) (state : BayState) : Type 0 where
  pub going : state ≡ Going → IsSome machine
  pub alive : (m : Machine) → machine ≡ Some m → state ≡ Going → IsTrue m.alive
  pub left : (m : Machine) → machine ≡ Some m → state ≡ Going → m.done < m.passes
  pub finished : state ≡ Finished → IsSome machine
  pub all : (m : Machine) → machine ≡ Some m → state ≡ Finished → m.done ≡ m.passes
