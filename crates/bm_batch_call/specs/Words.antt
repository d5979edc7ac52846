-- The words of a batch.
use Rattle.std.specs.Prelude.{◌≡◌, codes, ℕ, ◌^◌, ◌<◌, ◌≤◌, List, ◌∷◌, length, String, decimal}
use Rattle.std.specs.declared.alloc.Global.{Global}
use Rattle.bm_top.specs.Words.{texts_of}
use Rattle.bm_batch_call.specs.declared.words.BatchVerb.{BatchVerb}
use Rattle.bm_batch_call.specs.declared.words.BatchVerb.TheVariants.{Batch, Run}

-- its first word
abbrev pub batch_word : BatchVerb → List ℕ
batch_word Batch = codes "batch"
batch_word Run = codes "batch-run"

-- a word that is one of these
abbrev pub BeginsBatch : List ℕ → Type 0
BeginsBatch word = (verb : BatchVerb) × (word ≡ batch_word verb)

-- the words are this one, a seed in decimal, and 1 to 64 words that name jobs
pub record IsBatchWords (words : List (String Global)) (verb : BatchVerb) (seed : ℕ) (jobs : List (List ℕ)) : Type 0 where
  pub words_are : texts_of words ≡ batch_word verb ∷ decimal seed ∷ jobs
  pub seed_fits : seed < 2 ^ 64
  pub some : 1 ≤ length jobs
  pub few : length jobs ≤ 64

-- the words are those of no batch
abbrev pub IsNoBatch : List (String Global) → Type 0
IsNoBatch words = (verb : BatchVerb) (seed : ℕ) (jobs : List (List ℕ)) → ¬ IsBatchWords words verb seed jobs

-- wherever the words are those of a batch, there are so many jobs and bays as they name
abbrev pub AreEnough : List (String Global) → ℕ → ℕ → Type 0
AreEnough words jobs bays = (verb : BatchVerb) (seed : ℕ) (names : List (List ℕ)) → IsBatchWords words verb seed names
    → (jobs ≡ length names) × (bays ≡ length names)
