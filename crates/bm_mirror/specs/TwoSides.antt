-- The two sides of a mirror, what a contract sees of the mirror, and what holds of the two at every moment.
use Rattle.std.specs.Prelude.{◌≡◌, ◌&&◌, ℕ, Bool, false, List, IsTrue, IsFalse, if◌then◌else◌, Option, Some, None}
use Rattle.bm_base.specs.declared.dims.Dims.{Dims}
use Rattle.bm_base.specs.Contents.{Contents}
use Rattle.bm_rack.specs.RackView.{RackView}
use Rattle.bm_rack.specs.Image.{IsImage}
use Rattle.bm_rack.specs.Untold.{untold_contents}
use Rattle.bm_mirror.specs.declared.sides.Sides.{Sides}

-- the racks of both sides, and which of them are in
pub record TwoSides : Type 0 where
  pub left : RackView
  pub right : RackView
  pub sides : Sides

abbrev pub two_sides : RackView → RackView → Sides → TwoSides
two_sides left right sides = record { left = left; right = right; sides = sides }

-- the side that is asked first: left where left is in, else right
abbrev pub preferred : TwoSides → RackView
preferred s = if s.sides.left then s.left else s.right

-- A mirror tells its contents where both racks tell theirs and what stands: without their sizes two contents can't be compared.
abbrev pub tells_all : Bool → Bool → Bool → Bool → Bool
tells_all left_stands right_stands left_contents right_contents = (left_stands && right_stands) && (left_contents && right_contents)

-- a mirror that shows this rack: what it does not tell is empty, it may fail at any time, and the attached sizes, the counts and the
-- lasting facts are its own
abbrev pub shown : Bool → Bool → RackView → Option Dims → ℕ → ℕ → ℕ → ℕ → (List ℕ → Bool) → RackView
shown tells_stands tells_contents v attached faults moves pages syncs facts = record {
  stands = if tells_stands then v.stands else None;
  contents = if tells_contents then v.contents else untold_contents;
  dirty = if tells_contents then v.dirty else (λ u. false);
  attached = attached;
  faults = faults;
  moves = moves;
  pages = pages;
  syncs = syncs;
  steady = false;
  stopping = false;
  lasting = facts;
}

-- Two sides that are both in show the same, as far as it is told, and something stands.
pub record IsLevel (tells_stands tells_contents : Bool) (left right : RackView) : Type 0 where
  pub stands : IsTrue tells_stands → left.stands ≡ right.stands
  pub something : IsTrue tells_stands → ¬ (left.stands ≡ None)
  pub contents : IsTrue tells_contents → left.contents ≡ right.contents
  pub dirty : IsTrue tells_contents → left.dirty ≡ right.dirty

-- What holds of the sides of a mirror at every moment, where these sizes are attached or none are.
pub record IsMirror (tells_stands tells_contents : Bool) (s : TwoSides) (attached : Option Dims) : Type 0 where
  -- one side at least is in
  pub some_in : IsFalse s.sides.left → IsTrue s.sides.right
  -- two that are in are level
  pub level : IsTrue s.sides.left → IsTrue s.sides.right → IsLevel tells_stands tells_contents s.left s.right
  -- each that is in is attached with the mirror's sizes
  pub left_attached : IsTrue s.sides.left → (dims : Dims) → attached ≡ Some dims → s.left.attached ≡ Some dims
  pub right_attached : IsTrue s.sides.right → (dims : Dims) → attached ≡ Some dims → s.right.attached ≡ Some dims

-- each image of a side that is in is an image of the mirror, whose view this is
pub record HasSideImages (s : TwoSides) (mirror : RackView) : Type 0 where
  pub left : IsTrue s.sides.left → (dims : Dims) (image : Contents) → IsImage dims s.left image → IsImage dims mirror image
  pub right : IsTrue s.sides.right → (dims : Dims) (image : Contents) → IsImage dims s.right image → IsImage dims mirror image
