-- What a contract sees of a mirror, and of all that a command over one is lent.
use Rattle.std.specs.Prelude.{◌&&◌, ℕ, Bool, true, false, Option, None}
use Rattle.bm_base.specs.declared.dims.Dims.{Dims}
use Rattle.bm_rack.specs.RackView.{RackView}
use Rattle.bm_mirror.specs.declared.sides.Side.{Side}
use Rattle.bm_mirror.specs.declared.sides.Side.TheVariants.{Left, Right}
use Rattle.bm_mirror.specs.declared.sides.Sides.{Sides}
use Rattle.bm_mirror.specs.Lasting.{History, history, mirror_facts}
use Rattle.bm_mirror.specs.TwoSides.{TwoSides, two_sides, preferred, tells_all, shown}
use Rattle.bm_top.specs.Moment.{SourceView, SinkView, Devices, Tells, devices_of, tells_of}

-- which of its two racks tell what stands, and which tell what they hold
pub record SidesTell : Type 0 where
  pub left_stands : Bool
  pub left_contents : Bool
  pub right_stands : Bool
  pub right_contents : Bool

abbrev pub sides_tell : Bool → Bool → Bool → Bool → SidesTell
sides_tell left_stands left_contents right_stands right_contents = record {
  left_stands = left_stands;
  left_contents = left_contents;
  right_stands = right_stands;
  right_contents = right_contents;
}

-- the mirror tells what stands, and its contents
abbrev pub told_stands : SidesTell → Bool
told_stands t = t.left_stands && t.right_stands

abbrev pub told_contents : SidesTell → Bool
told_contents t = tells_all t.left_stands t.right_stands t.left_contents t.right_contents

-- what a command over it is told, where its job source, its input and its output tell so much
abbrev pub tells_over : Bool → Bool → Bool → SidesTell → Tells
tells_over job input out t = tells_of job input out (told_stands t) (told_contents t)

-- Of a mirror: its racks and which of them are in, what it has come through, and what it shows as a rack.
pub record MirrorSeen : Type 0 where
  pub sides : TwoSides
  pub history : History
  pub rack : RackView

-- one that has these sizes attached and has made so many calls
abbrev pub mirror_seen : SidesTell → TwoSides → History → Option Dims → ℕ → ℕ → ℕ → MirrorSeen
mirror_seen t s h attached moves pages syncs = record {
  sides = s;
  history = h;
  rack = shown (told_stands t) (told_contents t) (preferred s) attached h.faults moves pages syncs (mirror_facts (told_stands t) s h);
}

-- only this side is in
abbrev pub only : Side → Sides
only Left = record { left = true; right = false }
only Right = record { left = false; right = true }

-- a new one, whose first side is this
abbrev pub new_mirror : SidesTell → RackView → RackView → Side → MirrorSeen
new_mirror t left right first = mirror_seen t (two_sides left right (only first)) (history (only first) false false 0) None 0 0 0

-- what a command over a mirror works on once its job is read
pub record MirrorDevices : Type 0 where
  pub input : SourceView
  pub out : SinkView
  pub mirror : MirrorSeen

-- all that it is lent but the sink of its lines
pub record MirrorMoment : Type 0 where
  pub job : SourceView
  pub devices : MirrorDevices

-- these, in short
abbrev pub mirror_devices : SourceView → SinkView → MirrorSeen → MirrorDevices
mirror_devices input out mirror = record { input = input; out = out; mirror = mirror }

abbrev pub mirror_moment : SourceView → MirrorDevices → MirrorMoment
mirror_moment job devices = record { job = job; devices = devices }

-- what the command itself sees, where the mirror shows this rack
abbrev pub devices_over : MirrorDevices → RackView → Devices
devices_over d rack = devices_of d.input d.out rack

abbrev pub devices_seen : MirrorDevices → Devices
devices_seen d = devices_over d d.mirror.rack
