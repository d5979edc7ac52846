-- What a command does with disks, by its word.
use Rattle.std.proofs.Common.{◌≡◌, ◌⊎◌, inl, inr, Option, Some, None}
use Rattle.bm_base.specs.declared.dims.Dims.{Dims}
use Rattle.bm_base.specs.Shape.{dims_of}
use Rattle.bm_top.specs.Causes.{Attaches, GoesOn}
use Rattle.bm_top.specs.Exits.{Makes}
use Rattle.bm_top.specs.Moment.{Devices, Tells, TellsRack}
use Rattle.bm_top.specs.TopCall.{done_of, leaves_of}
use Rattle.bm_top.specs.declared.task.Task.{Task}
use Rattle.bm_top.specs.declared.status.Status.{Status}
use Rattle.bm_top.specs.declared.words.Command.TheVariants.{On}
use Rattle.bm_top.specs.declared.words.Verb.{Verb}
use Rattle.bm_top.specs.declared.words.Verb.TheVariants as verbs
use Rattle.bm_mirror_call.specs.Sides.{WorksOnDisks, TouchesNone}

-- one that has disks attaches or makes them
pub which : (verb : Verb) → WorksOnDisks (On verb) → Attaches verb ⊎ Makes verb
which verbs.New has = inr tt
which verbs.Load has = inl tt
which verbs.Plan has = absurd has
which verbs.Run has = inl tt
which verbs.Status has = inl tt
which verbs.Dump has = inl tt
which verbs.Drop has = inl tt
which verbs.Detect has = inl tt
which verbs.Carry has = inr tt
which verbs.Drill has = absurd has

-- one that makes them attaches none
pub makes_new : (verb : Verb) → Makes verb → ¬ Attaches verb
makes_new verbs.New makes is = is
makes_new verbs.Load makes is = makes
makes_new verbs.Plan makes is = is
makes_new verbs.Run makes is = makes
makes_new verbs.Status makes is = makes
makes_new verbs.Dump makes is = makes
makes_new verbs.Drop makes is = makes
makes_new verbs.Detect makes is = makes
makes_new verbs.Carry makes is = is
makes_new verbs.Drill makes is = is

-- nor does one that touches none
pub touches_none : (verb : Verb) → TouchesNone (On verb) → ¬ Attaches verb
touches_none verbs.New none is = is
touches_none verbs.Load none is = none
touches_none verbs.Plan none is = is
touches_none verbs.Run none is = none
touches_none verbs.Status none is = none
touches_none verbs.Dump none is = none
touches_none verbs.Drop none is = none
touches_none verbs.Detect none is = none
touches_none verbs.Carry none is = is
touches_none verbs.Drill none is = is

-- what stands where it goes on
pub stands_where : (verb : Verb) (dims : Dims) (stands : Option Dims) → Attaches verb → GoesOn verb dims stands → stands ≡ Some dims
stands_where verbs.New dims stands is on = absurd is
stands_where verbs.Load dims stands is on = on
stands_where verbs.Plan dims stands is on = absurd is
stands_where verbs.Run dims stands is on = on
stands_where verbs.Status dims stands is on = on
stands_where verbs.Dump dims stands is on = on
stands_where verbs.Drop dims stands is on = on
stands_where verbs.Detect dims stands is on = on
stands_where verbs.Carry dims stands is on = absurd is
stands_where verbs.Drill dims stands is on = absurd is

pub none_where : (verb : Verb) (dims : Dims) (stands : Option Dims) → Makes verb → GoesOn verb dims stands → stands ≡ None
none_where verbs.New dims stands makes on = on
none_where verbs.Load dims stands makes on = absurd makes
none_where verbs.Plan dims stands makes on = absurd makes
none_where verbs.Run dims stands makes on = absurd makes
none_where verbs.Status dims stands makes on = absurd makes
none_where verbs.Dump dims stands makes on = absurd makes
none_where verbs.Drop dims stands makes on = absurd makes
none_where verbs.Detect dims stands makes on = absurd makes
none_where verbs.Carry dims stands makes on = on
none_where verbs.Drill dims stands makes on = absurd makes

-- the disks that were made stand at the end
pub made_where : (t : Tells) (verb : Verb) (task : Task) (old new : Devices) → Makes verb → TellsRack t → done_of verb t task old new
    → new.rack.stands ≡ Some (dims_of task.shape)
made_where t verbs.New task old new makes told done = done.stands told.0
made_where t verbs.Load task old new makes told done = absurd makes
made_where t verbs.Plan task old new makes told done = absurd makes
made_where t verbs.Run task old new makes told done = absurd makes
made_where t verbs.Status task old new makes told done = absurd makes
made_where t verbs.Dump task old new makes told done = absurd makes
made_where t verbs.Drop task old new makes told done = absurd makes
made_where t verbs.Detect task old new makes told done = absurd makes
made_where t verbs.Carry task old new makes told done = (done.after told).stands
made_where t verbs.Drill task old new makes told done = absurd makes

-- one that touches none leaves the rack
pub rack_left : (t : Tells) (verb : Verb) (task : Task) (old : Devices) (answer : Status) (new : Devices) → TouchesNone (On verb)
    → leaves_of verb t task old answer new → new.rack ≡ old.rack
rack_left t verbs.New task old answer new none leaves = absurd none
rack_left t verbs.Load task old answer new none leaves = absurd none
rack_left t verbs.Plan task old answer new none leaves = leaves.rack
rack_left t verbs.Run task old answer new none leaves = absurd none
rack_left t verbs.Status task old answer new none leaves = absurd none
rack_left t verbs.Dump task old answer new none leaves = absurd none
rack_left t verbs.Drop task old answer new none leaves = absurd none
rack_left t verbs.Detect task old answer new none leaves = absurd none
rack_left t verbs.Carry task old answer new none leaves = absurd none
rack_left t verbs.Drill task old answer new none leaves = leaves.rack
