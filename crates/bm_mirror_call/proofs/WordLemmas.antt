-- The words of a command over a mirror.
use Rattle.std.proofs.Common.{◌≡◌, ◌-◌, ◌==◌, codes, ℕ, List, [], ◌∷◌, take, drop}
use Rattle.std.proofs.Common.{length, String, Global, if◌then◌else◌, refl, Option, Some, None, IfNone}
use Rattle.std.proofs.Common.{sym, ◌∙◌, ap, subst, arith}
use Rattle.std.proofs.lemmas.List.{take_all, length-drop}
use Rattle.bm_mirror.specs.declared.sides.Side.{Side}
use Rattle.bm_mirror.specs.declared.sides.Side.TheVariants.{Left, Right}
use Rattle.bm_top.specs.Words.{IsCommand, IsJobWords}
use Rattle.bm_top.specs.declared.words.Command.{Command}
use Rattle.bm_top.specs.declared.words.Command.TheVariants as command
use Rattle.bm_top.specs.declared.words.Verb.{Verb}
use Rattle.bm_top.proofs.WordsLemmas.{IsFlip-unique, the_verb, verb_no_flip}
use Rattle.bm_mirror_call.specs.Words.{IsMirrorCommand, NamesSide, side_word}

-- the words after the first two
pub rest_is : (words : List (String Global)) → take (length words - 2) (drop 2 words) ≡ drop 2 words
rest_is words = take_all (length words - 2) (drop 2 words) (let e : length (drop 2 words) ≡ length words - 2 = length-drop 2 words in
    omega (arith, e))

-- the words name one side alone
side_from : List ℕ → Side
side_from [] = Left
side_from (c ∷ rest) = if c == 108 then Left else Right

side_back : (side : Side) → side_from (side_word side) ≡ side
unfolding side_from
side_back Left = refl
side_back Right = refl

pub one_side : (words : List (String Global)) (a b : Side) → NamesSide words a → NamesSide words b → a ≡ b
one_side words a b x y =
    let same : codes "mirror" ∷ side_word a ∷ [] ≡ codes "mirror" ∷ side_word b ∷ [] = sym x ∙ y in
    let word : side_word a ≡ side_word b = cc in
    sym (side_back a) ∙ ap side_from word ∙ side_back b

-- and one command alone
pub one_command : (words : List (String Global)) (c d : Command) → IsCommand words c → IsCommand words d → c ≡ d
one_command words (command.Flip f) (command.Flip g) x y = ap command.Flip (IsFlip-unique words f g x y)
one_command words (command.Flip f) (command.On w) x y = absurd (verb_no_flip words w f y x)
one_command words (command.On v) (command.Flip g) x y = absurd (verb_no_flip words v g x y)
one_command words (command.On v) (command.On w) x y = ap command.On (the_verb words v w x y)

-- words after the first two that name no job
pub names_none : {X : Type 0} (words : List (String Global)) (job : Option X)
    → IfNone job ((verb : Verb) → ¬ IsJobWords (take (length words - 2) (drop 2 words)) verb)
    → IfNone job ((side : Side) (verb : Verb) → ¬ IsMirrorCommand words side (command.On verb))
names_none words None none =
    λ side verb is. none verb (subst (λ (ws : List (String Global)). IsJobWords ws verb) (sym (rest_is words)) is.rest)
names_none words (Some x) none = tt

-- the words of its command
pub rest_spells : (words : List (String Global)) (side : Side) (c : Command) → IsMirrorCommand words side c
    → IsCommand (take (length words - 2) (drop 2 words)) c
rest_spells words side c is = subst (λ (ws : List (String Global)). IsCommand ws c) (sym (rest_is words)) is.rest
