-- The words of a command, one by one.
use Rattle.std.proofs.Common.{◌≡◌, ℕ, ◌<◌, ◌==◌, if◌then◌else◌, List, [], ◌∷◌, length, get_or, Option, Some, None, String, Global}
use Rattle.std.proofs.Common.{string_bytes, refl, sym, ap, subst, ◌∙◌, arith}
use Rattle.std.specs.Fmt.{decimal}
use Rattle.std.proofs.lemmas.Fmt.{decimal_injective}
use Rattle.std.proofs.lemmas.List.{get_or-map}
use Rattle.std.specs.Option.{IfSome, IfNone}
use Rattle.bm_top.specs.declared.words.Flip.{Flip}
use Rattle.bm_top.specs.declared.words.Command.{Command}
use Rattle.bm_top.specs.declared.words.Command.TheVariants as command
use Rattle.bm_top.specs.declared.words.Verb.{Verb}
use Rattle.bm_top.specs.declared.words.Verb.TheVariants as verbs
use Rattle.bm_top.specs.Words.{IsFlip, IsJobWords, NamesJob, IsCommand, verb_word, texts_of, spelled}

-- a fact holds where nothing was found, if it holds anyway
pub if_none : {T : Type 0} (o : Option T) {P : Type 0} → P → IfNone o P
if_none None p = p
if_none (Some x) p = tt

-- the word at a place has the bytes that are spelled there
pub word_at : (words : List (String Global)) (f : Flip) (i : ℕ) (word : String Global)
    → texts_of words ≡ spelled f → i < length words → word ≡ get_or words i word → string_bytes word ≡ get_or (spelled f) i []
word_at words f i word same within is =
    ap string_bytes is ∙ sym (get_or-map string_bytes words i word [] within) ∙ ap (λ ts. get_or ts i []) same

-- seven words, each the word at its place
pub record AreSeven (words : List (String Global)) (w0 w1 w2 w3 w4 w5 w6 : String Global) : Type 0 where
  pub length : length words ≡ 7
  pub at0 : w0 ≡ get_or words 0 w0
  pub at1 : w1 ≡ get_or words 1 w1
  pub at2 : w2 ≡ get_or words 2 w2
  pub at3 : w3 ≡ get_or words 3 w3
  pub at4 : w4 ≡ get_or words 4 w4
  pub at5 : w5 ≡ get_or words 5 w5
  pub at6 : w6 ≡ get_or words 6 w6

-- the texts of seven words
pub seven : (words : List (String Global)) (w0 w1 w2 w3 w4 w5 w6 : String Global) → AreSeven words w0 w1 w2 w3 w4 w5 w6
    → texts_of words
    ≡ string_bytes w0 ∷ string_bytes w1 ∷ string_bytes w2 ∷ string_bytes w3 ∷ string_bytes w4 ∷ string_bytes w5 ∷ string_bytes w6 ∷ []
seven ([]) w0 w1 w2 w3 w4 w5 w6 h = absurd (omega (arith, h.length))
seven (a ∷ []) w0 w1 w2 w3 w4 w5 w6 h = absurd (omega (arith, h.length))
seven (a ∷ b ∷ []) w0 w1 w2 w3 w4 w5 w6 h = absurd (omega (arith, h.length))
seven (a ∷ b ∷ c ∷ []) w0 w1 w2 w3 w4 w5 w6 h = absurd (omega (arith, h.length))
seven (a ∷ b ∷ c ∷ d ∷ []) w0 w1 w2 w3 w4 w5 w6 h = absurd (omega (arith, h.length))
seven (a ∷ b ∷ c ∷ d ∷ e ∷ []) w0 w1 w2 w3 w4 w5 w6 h = absurd (omega (arith, h.length))
seven (a ∷ b ∷ c ∷ d ∷ e ∷ f ∷ []) w0 w1 w2 w3 w4 w5 w6 h = absurd (omega (arith, h.length))
seven (a ∷ b ∷ c ∷ d ∷ e ∷ f ∷ g ∷ x ∷ xs) w0 w1 w2 w3 w4 w5 w6 h = absurd (omega (arith, h.length))
seven (a ∷ b ∷ c ∷ d ∷ e ∷ f ∷ g ∷ []) w0 w1 w2 w3 w4 w5 w6 h = rw (h.at0, h.at1, h.at2, h.at3, h.at4, h.at5, h.at6) refl

-- flips with the same numbers are the same
same_flip : (f g : Flip) → f.n ≡ g.n → f.b ≡ g.b → f.d ≡ g.d → f.m ≡ g.m → f.width ≡ g.width → f.c ≡ g.c → f ≡ g
same_flip f g n b d m width c =
    let flip : ℕ → ℕ → ℕ → ℕ → ℕ → ℕ → Flip = λ n b d m width c. record { n = n; b = b; d = d; m = m; width = width; c = c } in
    ap (λ x. flip x f.b f.d f.m f.width f.c) n
    ∙ ap (λ x. flip g.n x f.d f.m f.width f.c) b
    ∙ ap (λ x. flip g.n g.b x f.m f.width f.c) d
    ∙ ap (λ x. flip g.n g.b g.d x f.width f.c) m
    ∙ ap (λ x. flip g.n g.b g.d g.m x f.c) width
    ∙ ap (λ x. flip g.n g.b g.d g.m g.width x) c

-- the words spell one flip alone
pub IsFlip-unique : (words : List (String Global)) (f g : Flip) → IsFlip words f → IsFlip words g → f ≡ g
IsFlip-unique words f g x y =
    let same : spelled f ≡ spelled g = sym x.words_are ∙ y.words_are in
    let n : decimal f.n ≡ decimal g.n = cc in
    let b : decimal f.b ≡ decimal g.b = cc in
    let d : decimal f.d ≡ decimal g.d = cc in
    let m : decimal f.m ≡ decimal g.m = cc in
    let width : decimal f.width ≡ decimal g.width = cc in
    let c : decimal f.c ≡ decimal g.c = cc in
    same_flip f g
    (decimal_injective _ _ (omega arith) (omega arith) n)
    (decimal_injective _ _ (omega arith) (omega arith) b)
    (decimal_injective _ _ (omega arith) (omega arith) d)
    (decimal_injective _ _ (omega arith) (omega arith) m)
    (decimal_injective _ _ (omega arith) (omega arith) width)
    (decimal_injective _ _ x.within.c y.within.c c)

-- the flip of the command that the words spell is the one that they spell
pub the_flip : (words : List (String Global)) (c : Command) (f g : Flip) → c ≡ command.Flip f → IsCommand words c → IsFlip words g → f ≡ g
the_flip words c f g same is other = IsFlip-unique words f g (subst (IsCommand words) same is) other

-- two words spell the command of the first one, and name a job by the second
pub two_words : (words : List (String Global)) (a b : String Global) (verb : Verb) → length words ≡ 2 → a ≡ get_or words 0 a
    → b ≡ get_or words 1 b
    → string_bytes a ≡ verb_word verb → NamesJob words verb (string_bytes b)
two_words ([]) a b verb two at0 at1 name = absurd (omega (arith, two))
two_words (x ∷ []) a b verb two at0 at1 name = absurd (omega (arith, two))
two_words (x ∷ y ∷ z ∷ rest) a b verb two at0 at1 name = absurd (omega (arith, two))
two_words (x ∷ y ∷ []) a b verb two at0 at1 name =
    ap (λ (w : List ℕ). w ∷ string_bytes y ∷ []) (ap string_bytes (sym at0) ∙ name)
    ∙ ap (λ (w : List ℕ). verb_word verb ∷ w ∷ []) (ap string_bytes (sym at1))

-- the first word of a command that has a job
pub verb_name : (words : List (String Global)) (w : String Global) (verb : Verb) → w ≡ get_or words 0 w → IsJobWords words verb
    → string_bytes w ≡ verb_word verb
verb_name ([]) w verb at is = let spelt = is.1 in absurd (cc)
verb_name (a ∷ rest) w verb at is =
    let spelt = is.1 in
    let first : string_bytes a ≡ verb_word verb = cc in
    ap string_bytes at ∙ first

-- the command of a word
verb_from : List ℕ → Verb
verb_from word =
    let first = get_or word 0 0 in
    let second = get_or word 1 0 in
    let third = get_or word 2 0 in
    if first == 110 then verbs.New else
    if first == 108 then verbs.Load else
    if first == 112 then verbs.Plan else
    if first == 115 then verbs.Status else
    if first == 99 then verbs.Carry else
    if third == 105 then verbs.Drill else
    if second == 114 then verbs.Drop else
    if second == 101 then verbs.Detect else
    if first == 100 then verbs.Dump else verbs.Run

verb_back : (verb : Verb) → verb_from (verb_word verb) ≡ verb
unfolding verb_from
verb_back verbs.New = refl
verb_back verbs.Load = refl
verb_back verbs.Plan = refl
verb_back verbs.Run = refl
verb_back verbs.Status = refl
verb_back verbs.Dump = refl
verb_back verbs.Drop = refl
verb_back verbs.Detect = refl
verb_back verbs.Carry = refl
verb_back verbs.Drill = refl

-- words spell one command that has a job
pub the_verb : (words : List (String Global)) (v w : Verb) → IsJobWords words v → IsJobWords words w → v ≡ w
the_verb words v w one other =
    let same : verb_word v ∷ one.0 ∷ [] ≡ verb_word w ∷ other.0 ∷ [] = sym one.1 ∙ other.1 in
    let word : verb_word v ≡ verb_word w = cc in
    sym (verb_back v) ∙ ap verb_from word ∙ verb_back w

-- and no flip
pub verb_no_flip : (words : List (String Global)) (verb : Verb) (f : Flip) → IsJobWords words verb → ¬ IsFlip words f
verb_no_flip words verb f is flip =
    let same : verb_word verb ∷ is.0 ∷ [] ≡ spelled f = sym is.1 ∙ flip.words_are in
    let long : length (verb_word verb ∷ is.0 ∷ []) ≡ length (spelled f) = ap length same in
    absurd (omega (arith, long))

-- the first of two words is that of a command that has a job
pub job_words : (words : List (String Global)) (a : String Global) (name : List ℕ) (verb : Option Verb) → length words ≡ 2
    → a ≡ get_or words 0 a
    → name ≡ string_bytes a → IfSome verb (λ v. name ≡ verb_word v) → IfSome verb (λ v. IsJobWords words v)
job_words words a name None two at is found = tt
job_words ([]) a name (Some v) two at is found = absurd (omega (arith, two))
job_words (x ∷ []) a name (Some v) two at is found = absurd (omega (arith, two))
job_words (x ∷ y ∷ z ∷ rest) a name (Some v) two at is found = absurd (omega (arith, two))
job_words (x ∷ y ∷ []) a name (Some v) two at is found =
    (string_bytes y, two_words (x ∷ y ∷ []) a y v two at refl (sym is ∙ found))
