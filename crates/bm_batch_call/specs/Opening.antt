-- Bays that are opened, or attached, in order.
use Rattle.std.specs.Prelude.{◌≡◌, ℕ, true, false, IsTrue, List, length, Result, IsOk, IfErr}
use Rattle.bm_base.specs.declared.shape.Shape.{Shape}
use Rattle.bm_rack.specs.RackView.{RackView}
use Rattle.bm_top.specs.Moment.{Tells}
use Rattle.bm_top.specs.declared.status.Status.{Status}
use Rattle.bm_top.specs.declared.status.Status.TheVariants.{RackFault}
use Rattle.bm_batch_call.specs.Bays.{BayOpens, BayAttached, AttachFails}
use Rattle.bm_batch_call.specs.Lists.{UpTo, EndsAt}
use Rattle.bm_batch_call.specs.Moment.{no_view}

-- a load gate was opened, or its rack failed
abbrev pub IsOpened : Tells → Shape → ℕ → RackView → RackView → Type 0
IsOpened t s k old new = BayOpens t s (IsTrue true) (IsTrue false) old new

abbrev pub IsNotOpened : Tells → Shape → ℕ → RackView → RackView → Type 0
IsNotOpened t s k old new = BayOpens t s (IsTrue false) (IsTrue true) old new

pub record OpensRefusal (t : Tells) (s : Shape) (old : List RackView) (e : Status) (new : List RackView) : Type 0 where
  pub fault : e ≡ RackFault
  pub at : ℕ
  pub bays : EndsAt no_view (IsOpened t s) (IsNotOpened t s) at old new

pub record OpensCall (t : Tells) (s : Shape) (old : List RackView) (result : Result (Unit {0}) Status) (new : List RackView) : Type 0 where
  pub opened : IsOk result → UpTo no_view (IsOpened t s) (length old) old new
  pub refused : IfErr result (λ e. OpensRefusal t s old e new)

-- disks were attached, or not
pub record AttachEnds (t : Tells) (s : Shape) (old : List RackView) (e : Status) (new : List RackView) : Type 0 where
  pub at : ℕ
  pub bays : EndsAt no_view (λ k was is. BayAttached t s was is) (λ k was is. AttachFails t s was e is) at old new

pub record AttachCall (t : Tells) (s : Shape) (old : List RackView) (result : Result (Unit {0}) Status) (new : List RackView) : Type 0 where
  pub attached : IsOk result → UpTo no_view (λ k was is. BayAttached t s was is) (length old) old new
  pub refused : IfErr result (λ e. AttachEnds t s old e new)
