use Rattle.std.proofs.Common.{◌≡◌, ◌-◌, length, drop, take, sym, subst, arith}
use Rattle.std.proofs.lemmas.List.{take_all, length-drop}
use Rattle.std.proofs.Common.{List, String, Global}
use Rattle.bm_batch_call.specs.Words.{AreEnough}
use Rattle.bm_batch_call.proofs.TopLemmas.{enough_jobs}
use Rattle.bm_batch_call.proofs.words.batch_jobs.Goals as goal

pub returns-in-Some-clause-enough : goal.returns-in-Some-clause-enough
returns-in-Some-clause-enough c =
    let words = c.args.words.now in
    let all : take (length words - 2) (drop 2 words) ≡ drop 2 words =
    take_all (length words - 2) (drop 2 words) (let e : length (drop 2 words) ≡ length words - 2 = length-drop 2 words in
    omega (arith, e)) in
    subst (λ (jobs : List (String Global)). AreEnough words (length jobs) (length jobs)) (sym all)
    (enough_jobs words (drop 2 words) _ _ c.in-Some.ensures.found)
