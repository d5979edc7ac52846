-- The words of a command.
use Rattle.std.specs.Prelude.{◌≡◌, codes, ℕ, ◌^◌, ◌<◌, ◌≤◌, List, [], ◌∷◌, map, String, string_bytes, decimal}
use Rattle.std.specs.declared.alloc.Global.{Global}
use Rattle.bm_base.specs.declared.shape.Shape.{Shape}
use Rattle.bm_top.specs.declared.words.Flip.{Flip}
use Rattle.bm_top.specs.declared.words.Command.{Command}
use Rattle.bm_top.specs.declared.words.Command.TheVariants as command
use Rattle.bm_top.specs.declared.words.Verb.{Verb}
use Rattle.bm_top.specs.declared.words.Verb.TheVariants as verbs

-- the words as texts
abbrev pub texts_of : List (String Global) → List (List ℕ)
texts_of words = map string_bytes words

-- the texts that spell a flip: its name and its numbers in decimal
abbrev pub spelled : Flip → List (List ℕ)
spelled f = codes "flip" ∷ decimal f.n ∷ decimal f.b ∷ decimal f.d ∷ decimal f.m ∷ decimal f.width ∷ decimal f.c ∷ []

-- its numbers are within their bounds, and c is an address where n may be a shape's
pub record IsWithin (f : Flip) : Type 0 where
  pub n : f.n < 2 ^ 8
  pub b : f.b < 2 ^ 8
  pub d : f.d < 2 ^ 8
  pub m : f.m < 2 ^ 8
  pub width : f.width < 2 ^ 16
  pub c : f.c < 2 ^ 64
  pub address : f.n ≤ 52 → f.c < 2 ^ f.n

-- the words are those of this flip
pub record IsFlip (words : List (String Global)) (f : Flip) : Type 0 where
  pub words_are : texts_of words ≡ spelled f
  pub within : IsWithin f

-- the numbers of a flip of this shape by c
abbrev pub flip_by : Shape → ℕ → Flip
flip_by s c = record { n = s.n; b = s.b; d = s.d; m = s.m; width = s.width; c = c }

-- the word of a command that has a job
abbrev pub verb_word : Verb → List ℕ
verb_word verbs.New = codes "new"
verb_word verbs.Load = codes "load"
verb_word verbs.Plan = codes "plan"
verb_word verbs.Run = codes "run"
verb_word verbs.Status = codes "status"
verb_word verbs.Dump = codes "dump"
verb_word verbs.Drop = codes "drop"
verb_word verbs.Detect = codes "detect"
verb_word verbs.Carry = codes "carry"
verb_word verbs.Drill = codes "drill"

-- the words are that of the command and this one, which names the job
abbrev pub NamesJob : List (String Global) → Verb → List ℕ → Type 0
NamesJob words verb job = texts_of words ≡ verb_word verb ∷ job ∷ []

-- the words are that of the command and any one more
abbrev pub IsJobWords : List (String Global) → Verb → Type 0
IsJobWords words verb = (job : List ℕ) × NamesJob words verb job

-- the words are those of this command
abbrev pub IsCommand : List (String Global) → Command → Type 0
IsCommand words (command.Flip f) = IsFlip words f
IsCommand words (command.On verb) = IsJobWords words verb

-- the words are those of no flip
abbrev pub IsNoFlip : List (String Global) → Type 0
IsNoFlip words = (f : Flip) → ¬ IsFlip words f

-- the words are those of no command
abbrev pub IsNoCommand : List (String Global) → Type 0
IsNoCommand words = (c : Command) → ¬ IsCommand words c
