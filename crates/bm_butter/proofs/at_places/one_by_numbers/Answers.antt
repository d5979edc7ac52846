use Rattle.std.proofs.Common.{◌≡◌, ◌+◌, ◌%◌, ◌^◌, ◌<◌, sym, ap, ◌∙◌, subst, arith}
use Rattle.std.specs.Int.{bit_at}
use Rattle.std.proofs.lemmas.Nat.Bits.{shr_and_one}
use Rattle.std.proofs.Math.Nat.{mod-eq_of_lt}
use Rattle.bm_butter.specs.Records.{record_at_place}
use Rattle.bm_butter.proofs.PairLemmas.{PairsBelow, PairsBelow-skip, SameRecords-pairs}
use Rattle.bm_butter.proofs.PlaceLemmas.{place, stepped_place, HoldPair-by_column, PairsBelow-places}
use Rattle.bm_butter.proofs.at_places.one_by_numbers.Goals.{then-number-i-eq0, else-number-i-eq0}
use Rattle.bm_butter.proofs.at_places.one_by_numbers.Goals as goal

pub pair-requires-clause-apart : goal.pair-requires-clause-apart
pair-requires-clause-apart g c =
    let a = c.args.a.now in
    let inv = c.loop-number.invariant in
    let test = c.loop-number-test.true in
    let inside : c.loop-number.number < 2 ^ a.n = omega arith in
    let position : c.loop-number.stepper.position ≡ c.loop-number.number = inv.position ∙ mod-eq_of_lt inside in
    let clear : bit_at c.loop-number.number c.args.i ≡ 0 = sym (shr_and_one c.loop-number.number c.args.i) ∙ c.if-number-i-eq0.true in
    let here : c.here-place.result ≡ place a c.args.plus c.loop-number.number =
    stepped_place a c.args.plus c.loop-number.stepper.map _ _ _ inv.matrix inv.plus position c.here-place.ensures.value in
    let hold = HoldPair-by_column a c.args.plus c.args.i c.loop-number.number c.here-place.result _ c.requires.nonsingular c.requires.plus
    c.requires.bit inside clear here inv.apart in
    hold.apart

pub pair-requires-clause-j : goal.pair-requires-clause-j
pair-requires-clause-j g c =
    let a = c.args.a.now in
    let inv = c.loop-number.invariant in
    let test = c.loop-number-test.true in
    let inside : c.loop-number.number < 2 ^ a.n = omega arith in
    let position : c.loop-number.stepper.position ≡ c.loop-number.number = inv.position ∙ mod-eq_of_lt inside in
    let clear : bit_at c.loop-number.number c.args.i ≡ 0 = sym (shr_and_one c.loop-number.number c.args.i) ∙ c.if-number-i-eq0.true in
    let here : c.here-place.result ≡ place a c.args.plus c.loop-number.number =
    stepped_place a c.args.plus c.loop-number.stepper.map _ _ _ inv.matrix inv.plus position c.here-place.ensures.value in
    let hold = HoldPair-by_column a c.args.plus c.args.i c.loop-number.number c.here-place.result _ c.requires.nonsingular c.requires.plus
    c.requires.bit inside clear here inv.apart in
    omega (arith, hold.second_below, c.requires.whole, inv.size)

pub loop-number-preserved : goal.loop-number-preserved
loop-number-preserved g c =
    let f = g.K.Kernel.meaning c.args.kernel.now in
    let a = c.args.a.now in
    let plus = c.args.plus in
    let i = c.args.i in
    let x = c.loop-number.number in
    let inv = c.loop-number.invariant in
    let test = c.loop-number-test.true in
    let inside : x < 2 ^ a.n = omega arith in
    let position : c.loop-number.stepper.position ≡ x = inv.position ∙ mod-eq_of_lt inside in
    record {
      size = c.if-number-i-eq0.auto.buf ∙ inv.size;
      apart = inv.apart;
      matrix = ap (λ m. m.a) c.step.ensures.map ∙ inv.matrix;
      plus = ap (λ m. m.c) c.step.ensures.map ∙ inv.plus;
      position = c.step.ensures.position ∙ ap (λ m. (c.loop-number.stepper.position + 1) % 2 ^ m.n) inv.matrix
          ∙ ap (λ p. (p + 1) % 2 ^ a.n) position;
      end = inv.end;
      pairs = elim c.if-number-i-eq0.branch [
        | then-number-i-eq0 w ↦
            let clear : bit_at x i ≡ 0 = sym (shr_and_one x i) ∙ w.if-number-i-eq0.true in
            let here : w.here-place.result ≡ place a plus x =
            stepped_place a plus c.loop-number.stepper.map _ _ _ inv.matrix inv.plus position w.here-place.ensures.value in
            let hold = HoldPair-by_column a plus i x w.here-place.result _ c.requires.nonsingular c.requires.plus c.requires.bit inside
            clear here inv.apart in
            subst (λ b. PairsBelow f a.n i (x + 1) (record_at_place a plus c.args.buf.now) (record_at_place a plus b)) (sym w.buf-is)
            (PairsBelow-places f a plus i x w.here-place.result _ c.args.buf.now c.loop-number.buf w.pair.new.buf c.requires.nonsingular
            c.requires.bit inside clear hold inv.pairs
            w.pair.ensures.paired w.pair.ensures.others)
        | else-number-i-eq0 w ↦
            subst (λ b. PairsBelow f a.n i (x + 1) (record_at_place a plus c.args.buf.now) (record_at_place a plus b)) (sym w.buf-is)
            (PairsBelow-skip f a.n i x (record_at_place a plus c.args.buf.now) (record_at_place a plus c.loop-number.buf)
            (λ e. w.if-number-i-eq0.false (shr_and_one x i ∙ e)) inv.pairs)
      ];
    }

pub returns-clause-records : goal.returns-clause-records
returns-clause-records g c =
    let f = g.K.Kernel.meaning c.args.kernel.now in
    let inv = c.loop-number.invariant in
    let test = c.loop-number-test.false in
    SameRecords-pairs f c.args.i (2 ^ c.args.a.now.n) (record_at_place c.args.a.now c.args.plus c.args.buf.now)
    (record_at_place c.args.a.now c.args.plus c.loop-number.buf)
    (λ y inside. inv.pairs.done y (omega arith) inside)
