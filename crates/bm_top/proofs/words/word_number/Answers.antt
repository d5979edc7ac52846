use Rattle.std.proofs.Common.{◌≡◌, ◌<◌, ◌^◌, rules, arith}
use Rattle.std.proofs.lemmas.Fmt.{parse-decimal}
use Rattle.bm_top.proofs.words.word_number.Goals.{else-number-most-via-then-number-most+else-eq, else-number-most-via-else-number-most}
use Rattle.bm_top.proofs.words.word_number.Goals as goal

pub returns-else-number-most-clause-none : goal.returns-else-number-most-clause-none
returns-else-number-most-clause-none c n small is =
    let fits : n < 2 ^ 64 = omega (arith, c.ranges.most.fits) in
    let read = parse-decimal 64 n _ _ fits fits is c.parse.ensures.value.0 in
    let same : c.in-Ok.number ≡ n = cc in
    elim c.else-number-most.branch [
      | else-number-most-via-then-number-most+else-eq w ↦ let text : w.format.result.now ≡ c.args.word.now = cc is in search rules
      | else-number-most-via-else-number-most w ↦ omega (arith, same)
    ]

pub returns-in-Err-clause-none : goal.returns-in-Err-clause-none
returns-in-Err-clause-none c n small is =
    let fits : n < 2 ^ 64 = omega (arith, c.ranges.most.fits) in
    absurd (cc (parse-decimal 64 n _ _ fits fits is c.parse.ensures.value.0))
