-- The words of a command over a mirror.
use Rattle.std.specs.Prelude.{◌≡◌, codes, ℕ, List, [], ◌∷◌, take, drop, String}
use Rattle.std.specs.declared.alloc.Global.{Global}
use Rattle.bm_mirror.specs.declared.sides.Side.{Side}
use Rattle.bm_mirror.specs.declared.sides.Side.TheVariants.{Left, Right}
use Rattle.bm_top.specs.Words.{texts_of, IsCommand, NamesJob}
use Rattle.bm_top.specs.declared.words.Command.{Command}
use Rattle.bm_top.specs.declared.words.Verb.{Verb}

-- the word of a side
abbrev pub side_word : Side → List ℕ
side_word Left = codes "left"
side_word Right = codes "right"

-- the first word of the call
abbrev pub mirror_word : List ℕ
mirror_word = codes "mirror"

-- the first two words are those of a mirror whose first side is this
abbrev pub NamesSide : List (String Global) → Side → Type 0
NamesSide words side = texts_of (take 2 words) ≡ mirror_word ∷ side_word side ∷ []

-- the words are these, and those of a command
pub record IsMirrorCommand (words : List (String Global)) (side : Side) (command : Command) : Type 0 where
  pub first : NamesSide words side
  pub rest : IsCommand (drop 2 words) command

-- this one of them names the job
pub record NamesMirrorJob (words : List (String Global)) (side : Side) (verb : Verb) (job : List ℕ) : Type 0 where
  pub first : NamesSide words side
  pub rest : NamesJob (drop 2 words) verb job

-- the words are those of no command over a mirror
abbrev pub IsNoMirrorCommand : List (String Global) → Type 0
IsNoMirrorCommand words = (side : Side) (command : Command) → ¬ IsMirrorCommand words side command
