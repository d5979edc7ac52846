use Rattle.std.proofs.Common.{◌≡◌, ◌+◌, ◌-◌, ◌%◌, ◌^◌, ◌<◌, ◌≤◌, bit_xor, sym, ap, refl, ◌∙◌, subst, arith}
use Rattle.std.proofs.lemmas.Nat.{one_shl, pow_pos}
use Rattle.std.proofs.Math.Nat.{mod-eq_of_lt}
use Rattle.std.proofs.Math.Pow.{pow_mono}
use Rattle.bm_gf2.specs.Matrix.{column, image}
use Rattle.bm_butter.specs.Groups.{pick, GroupsDone, spread, spread_two}
use Rattle.bm_butter.proofs.PlaceLemmas.{place}
use Rattle.bm_butter.proofs.GroupLemmas.{IsGroup-same, GroupsDone-none, GroupsDone-more}
use Rattle.bm_butter.proofs.NumberLemmas.{number_place, numbers_told, spread_short, HoldFour-by_columns, SameRecords-numbers}
use Rattle.bm_butter.proofs.at_places.two_by_numbers.Goals as goal
use Rattle.bm_base.proofs.PowerLemmas.{two_halves}

pub loop-group-init : goal.loop-group-init
loop-group-init g c =
    let a = c.args.a.now in
    let f = g.K.Kernel.meaning c.args.kernel.now in
    let i = c.args.i in
    let j = c.args.j in
    let inner = c.without_column.ensures in
    let outer = c.without_column-others.ensures in
    let more : 2 ^ (a.n - 2) ≤ 2 ^ (a.n - 1) = pow_mono {i = a.n - 2} {j = a.n - 1} (omega arith) in
    record {
      size = refl;
      first = ap (column a) c.from.ensures;
      second = ap (column a) c.from-2.ensures;
      bits = ap (λ m. m.n) c.start-stepper.ensures.matrix ∙ outer.size ∙ inner.size;
      images = λ w short.
          ap (λ m. image m w) c.start-stepper.ensures.matrix
          ∙ outer.image w (subst (λ n. w < 2 ^ (n - 1)) (sym inner.size) (omega arith))
          ∙ inner.image (spread i w) (spread_short a.n i w (omega (arith, c.requires.order, c.requires.bits)) short);
      plus = c.start-stepper.ensures.plus;
      position = c.start-stepper.ensures.position;
      end = one_shl (a.n - 2) 64 (omega (arith, a.few));
      done = GroupsDone-none f (number_place a c.args.plus i j) 0 c.args.buf.now;
    }

pub quad-requires-clause-apart : goal.quad-requires-clause-apart
quad-requires-clause-apart g c =
    let a = c.args.a.now in
    let f = g.K.Kernel.meaning c.args.kernel.now in
    let i = c.args.i in
    let j = c.args.j in
    let w = c.loop-group.group in
    let inv = c.loop-group.invariant in
    let test = c.loop-group-test.true in
    let inside : w < 2 ^ (a.n - 2) = omega (arith, inv.end) in
    let here : c.here-place.result ≡ place a c.args.plus (spread_two i j w) =
    c.here-place.ensures.value
    ∙ ap (λ k. bit_xor k (image c.loop-group.stepper.map.a c.loop-group.stepper.position)) inv.plus
    ∙ ap (λ k. bit_xor c.args.plus (image c.loop-group.stepper.map.a k)) inv.position
    ∙ ap (bit_xor c.args.plus) (inv.images w inside) in
    let hold = HoldFour-by_columns a c.args.plus i j w c.here-place.result _ _ c.requires.nonsingular c.requires.plus c.requires.order
    c.requires.bits inside
    here inv.first inv.second in
    hold.apart

pub quad-requires-clause-q : goal.quad-requires-clause-q
quad-requires-clause-q g c =
    let a = c.args.a.now in
    let f = g.K.Kernel.meaning c.args.kernel.now in
    let i = c.args.i in
    let j = c.args.j in
    let w = c.loop-group.group in
    let inv = c.loop-group.invariant in
    let test = c.loop-group-test.true in
    let inside : w < 2 ^ (a.n - 2) = omega (arith, inv.end) in
    let here : c.here-place.result ≡ place a c.args.plus (spread_two i j w) =
    c.here-place.ensures.value
    ∙ ap (λ k. bit_xor k (image c.loop-group.stepper.map.a c.loop-group.stepper.position)) inv.plus
    ∙ ap (λ k. bit_xor c.args.plus (image c.loop-group.stepper.map.a k)) inv.position
    ∙ ap (bit_xor c.args.plus) (inv.images w inside) in
    let hold = HoldFour-by_columns a c.args.plus i j w c.here-place.result _ _ c.requires.nonsingular c.requires.plus c.requires.order
    c.requires.bits inside
    here inv.first inv.second in
    omega (arith, hold.below_q, c.requires.whole, inv.size)

pub quad-requires-clause-r : goal.quad-requires-clause-r
quad-requires-clause-r g c =
    let a = c.args.a.now in
    let f = g.K.Kernel.meaning c.args.kernel.now in
    let i = c.args.i in
    let j = c.args.j in
    let w = c.loop-group.group in
    let inv = c.loop-group.invariant in
    let test = c.loop-group-test.true in
    let inside : w < 2 ^ (a.n - 2) = omega (arith, inv.end) in
    let here : c.here-place.result ≡ place a c.args.plus (spread_two i j w) =
    c.here-place.ensures.value
    ∙ ap (λ k. bit_xor k (image c.loop-group.stepper.map.a c.loop-group.stepper.position)) inv.plus
    ∙ ap (λ k. bit_xor c.args.plus (image c.loop-group.stepper.map.a k)) inv.position
    ∙ ap (bit_xor c.args.plus) (inv.images w inside) in
    let hold = HoldFour-by_columns a c.args.plus i j w c.here-place.result _ _ c.requires.nonsingular c.requires.plus c.requires.order
    c.requires.bits inside
    here inv.first inv.second in
    omega (arith, hold.below_r, c.requires.whole, inv.size)

pub quad-requires-clause-s : goal.quad-requires-clause-s
quad-requires-clause-s g c =
    let a = c.args.a.now in
    let f = g.K.Kernel.meaning c.args.kernel.now in
    let i = c.args.i in
    let j = c.args.j in
    let w = c.loop-group.group in
    let inv = c.loop-group.invariant in
    let test = c.loop-group-test.true in
    let inside : w < 2 ^ (a.n - 2) = omega (arith, inv.end) in
    let here : c.here-place.result ≡ place a c.args.plus (spread_two i j w) =
    c.here-place.ensures.value
    ∙ ap (λ k. bit_xor k (image c.loop-group.stepper.map.a c.loop-group.stepper.position)) inv.plus
    ∙ ap (λ k. bit_xor c.args.plus (image c.loop-group.stepper.map.a k)) inv.position
    ∙ ap (bit_xor c.args.plus) (inv.images w inside) in
    let hold = HoldFour-by_columns a c.args.plus i j w c.here-place.result _ _ c.requires.nonsingular c.requires.plus c.requires.order
    c.requires.bits inside
    here inv.first inv.second in
    omega (arith, hold.below_s, c.requires.whole, inv.size)

pub loop-group-preserved : goal.loop-group-preserved
unfolding pick
loop-group-preserved g c =
    let a = c.args.a.now in
    let f = g.K.Kernel.meaning c.args.kernel.now in
    let i = c.args.i in
    let j = c.args.j in
    let w = c.loop-group.group in
    let inv = c.loop-group.invariant in
    let test = c.loop-group-test.true in
    let inside : w < 2 ^ (a.n - 2) = omega (arith, inv.end) in
    let here : c.here-place.result ≡ place a c.args.plus (spread_two i j w) =
    c.here-place.ensures.value
    ∙ ap (λ k. bit_xor k (image c.loop-group.stepper.map.a c.loop-group.stepper.position)) inv.plus
    ∙ ap (λ k. bit_xor c.args.plus (image c.loop-group.stepper.map.a k)) inv.position
    ∙ ap (bit_xor c.args.plus) (inv.images w inside) in
    let hold = HoldFour-by_columns a c.args.plus i j w c.here-place.result _ _ c.requires.nonsingular c.requires.plus c.requires.order
    c.requires.bits inside
    here inv.first inv.second in
    let old = c.args.buf.now in
    let now = c.loop-group.buf in
    let new = c.quad.new.buf in
    let more : 2 ^ (a.n - 2 + 1) ≤ 2 ^ a.n = pow_mono {i = a.n - 2 + 1} {j = a.n} (omega arith) in
    let next : w + 1 < 2 ^ a.n = omega (arith, two_halves (a.n - 2), pow_pos (a.n - 2)) in
    record {
      size = c.quad.ensures.size ∙ inv.size;
      first = inv.first;
      second = inv.second;
      bits = ap (λ m. m.a.n) c.step.ensures.map ∙ inv.bits;
      images = λ v short. ap (λ m. image m.a v) c.step.ensures.map ∙ inv.images v short;
      plus = ap (λ m. m.c) c.step.ensures.map ∙ inv.plus;
      position = c.step.ensures.position ∙ ap (λ n. (c.loop-group.stepper.position + 1) % 2 ^ n) inv.bits
          ∙ ap (λ p. (p + 1) % 2 ^ a.n) inv.position ∙ mod-eq_of_lt next;
      end = inv.end;
      done = GroupsDone-more f (number_place a c.args.plus i j) (2 ^ (a.n - 2)) 0 w old now new
          (numbers_told a c.args.plus i j c.requires.nonsingular c.requires.order c.requires.bits) (omega arith) inside inv.done
          (IsGroup-same f _ (number_place a c.args.plus i j w) now new hold.places c.quad.ensures.group)
          (λ x out. c.quad.ensures.others x (λ e. out 0 (omega arith) (e ∙ hold.places 0 (omega arith)))
          (λ e. out 1 (omega arith) (e ∙ hold.places 1 (omega arith))) (λ e. out 2 (omega arith) (e ∙ hold.places 2 (omega arith)))
          (λ e. out 3 (omega arith) (e ∙ hold.places 3 (omega arith))));
    }

pub returns-clause-records : goal.returns-clause-records
returns-clause-records g c =
    let f = g.K.Kernel.meaning c.args.kernel.now in
    let a = c.args.a.now in
    let inv = c.loop-group.invariant in
    let test = c.loop-group-test.false in
    let all : c.loop-group.group ≡ 2 ^ (a.n - 2) = omega (arith, inv.end, c.loop-group.auto.group-end) in
    SameRecords-numbers f a c.args.plus c.args.i c.args.j c.args.buf.now c.loop-group.buf c.requires.order c.requires.bits
    (subst (λ k. GroupsDone f (number_place a c.args.plus c.args.i c.args.j) 0 k c.args.buf.now c.loop-group.buf) all inv.done)
