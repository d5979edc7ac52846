use Rattle.std.proofs.Common.{◌≡◌, ℕ, ◌+◌, ◌%◌, ◌^◌, ◌<◌, List, length, slice_index, refl, sym, ap, ◌∙◌, subst, arith}
use Rattle.std.proofs.lemmas.Nat.{one_shl, pow_pos}
use Rattle.std.proofs.Math.Nat.{mod-eq_of_lt}
use Rattle.bm_butter.specs.Records.{record_at_place}
use Rattle.bm_butter.proofs.PlaceLemmas.{place, stepped_place}
use Rattle.bm_kinds.specs.Groups.{corner}
use Rattle.bm_kinds.proofs.OverLemmas.{kernel_along-set}
use Rattle.bm_kinds.proofs.MemberLemmas.{base_of, not_base}
use Rattle.bm_kinds.proofs.GroupLemmas.{GroupsBelow, GroupsBelow-none, GroupsBelow-skip, SameRecords-groups}
use Rattle.bm_kinds.proofs.HoldLemmas.{HoldGroup, HoldGroup-inside, HoldGroup-apart, GroupsBelow-places, corner_place}
use Rattle.bm_kinds.proofs.few_bits.by_numbers.Goals.{then-number-set-eq0, else-number-set-eq0}
use Rattle.bm_kinds.proofs.few_bits.by_numbers.Goals as goal

pub loop-number-init : goal.loop-number-init
loop-number-init g c =
    let a = c.args.a.now in
    record {
      size = refl;
      matrix = c.start-stepper.ensures.matrix;
      plus = c.start-stepper.ensures.plus;
      position = c.start-stepper.ensures.position ∙ sym (mod-eq_of_lt (pow_pos a.n));
      end = one_shl a.n 64 (omega (arith, a.few));
      groups = GroupsBelow-none (g.K.Kernel.meaning c.args.kernel.now) a.n g.row.T (slice_index c.args.bits)
          (record_at_place a c.args.plus c.args.buf.now);
    }

pub transform_group-requires-clause-inside : goal.transform_group-requires-clause-inside
transform_group-requires-clause-inside g c =
    let a = c.args.a.now in
    let inv = c.loop-number.invariant in
    let test = c.loop-number-test.true in
    let x = c.loop-number.number in
    let inside : x < 2 ^ a.n = omega (arith, inv.end) in
    let position : c.loop-number.stepper.position ≡ x = inv.position ∙ mod-eq_of_lt inside in
    let here : c.here.result ≡ place a c.args.plus x =
    stepped_place a c.args.plus c.loop-number.stepper.map _ _ _ inv.matrix inv.plus position c.here.ensures.value in
    let bits = slice_index c.args.bits in
    let places = corner c.here.result (slice_index c.offsets_of-offsets.result) in
    let hold : HoldGroup a c.args.plus x g.row.T bits places = record {
      are = c.requires.bits;
      nonsingular = c.requires.nonsingular;
      constant = c.requires.plus;
      base = base_of bits g.row.T x _ c.set_of_bits-set.ensures c.if-number-set-eq0.true;
      below = inside;
      at = λ t l. corner_place a c.args.plus c.here.result x t g.row.T _ bits here (c.offsets_of-offsets.ensures t l);
    } in
    HoldGroup-inside a c.args.plus x g.row.T (length c.loop-number.buf) bits places hold (inv.size ∙ c.requires.whole)

pub transform_group-requires-clause-apart : goal.transform_group-requires-clause-apart
transform_group-requires-clause-apart g c =
    let a = c.args.a.now in
    let inv = c.loop-number.invariant in
    let test = c.loop-number-test.true in
    let x = c.loop-number.number in
    let inside : x < 2 ^ a.n = omega (arith, inv.end) in
    let position : c.loop-number.stepper.position ≡ x = inv.position ∙ mod-eq_of_lt inside in
    let here : c.here.result ≡ place a c.args.plus x =
    stepped_place a c.args.plus c.loop-number.stepper.map _ _ _ inv.matrix inv.plus position c.here.ensures.value in
    let bits = slice_index c.args.bits in
    let places = corner c.here.result (slice_index c.offsets_of-offsets.result) in
    let hold : HoldGroup a c.args.plus x g.row.T bits places = record {
      are = c.requires.bits;
      nonsingular = c.requires.nonsingular;
      constant = c.requires.plus;
      base = base_of bits g.row.T x _ c.set_of_bits-set.ensures c.if-number-set-eq0.true;
      below = inside;
      at = λ t l. corner_place a c.args.plus c.here.result x t g.row.T _ bits here (c.offsets_of-offsets.ensures t l);
    } in
    HoldGroup-apart a c.args.plus x g.row.T bits places hold

pub loop-number-preserved : goal.loop-number-preserved
loop-number-preserved g c =
    let f = g.K.Kernel.meaning c.args.kernel.now in
    let a = c.args.a.now in
    let plus = c.args.plus in
    let inv = c.loop-number.invariant in
    let test = c.loop-number-test.true in
    let x = c.loop-number.number in
    let inside : x < 2 ^ a.n = omega (arith, inv.end) in
    let position : c.loop-number.stepper.position ≡ x = inv.position ∙ mod-eq_of_lt inside in
    let bits = slice_index c.args.bits in
    record {
      size = c.if-number-set-eq0.auto.buf ∙ inv.size;
      matrix = ap (λ m. m.a) c.step.ensures.map ∙ inv.matrix;
      plus = ap (λ m. m.c) c.step.ensures.map ∙ inv.plus;
      position = c.step.ensures.position ∙ ap (λ m. (c.loop-number.stepper.position + 1) % 2 ^ m.n) inv.matrix
          ∙ ap (λ p. (p + 1) % 2 ^ a.n) position;
      end = inv.end;
      groups = elim c.if-number-set-eq0.branch [
        | then-number-set-eq0 w ↦
            let here : w.here.result ≡ place a plus x =
            stepped_place a plus c.loop-number.stepper.map _ _ _ inv.matrix inv.plus position w.here.ensures.value in
            let places = corner w.here.result (slice_index c.offsets_of-offsets.result) in
            let hold : HoldGroup a plus x g.row.T bits places = record {
              are = c.requires.bits;
              nonsingular = c.requires.nonsingular;
              constant = c.requires.plus;
              base = base_of bits g.row.T x _ c.set_of_bits-set.ensures w.if-number-set-eq0.true;
              below = inside;
              at = λ t l. corner_place a plus w.here.result x t g.row.T _ bits here (c.offsets_of-offsets.ensures t l);
            } in
            subst (λ b. GroupsBelow f a.n g.row.T bits (x + 1) (record_at_place a plus c.args.buf.now) (record_at_place a plus b))
            (sym w.buf-is)
            (GroupsBelow-places f a plus x g.row.T bits places c.args.buf.now c.loop-number.buf w.transform_group.new.buf
            c.requires.some hold inv.groups
            w.transform_group.ensures.done w.transform_group.ensures.others)
        | else-number-set-eq0 w ↦
            subst (λ b. GroupsBelow f a.n g.row.T bits (x + 1) (record_at_place a plus c.args.buf.now) (record_at_place a plus b))
            (sym w.buf-is)
            (GroupsBelow-skip f a.n g.row.T bits x (record_at_place a plus c.args.buf.now) (record_at_place a plus c.loop-number.buf)
            (not_base bits g.row.T x _ c.set_of_bits-set.ensures w.if-number-set-eq0.false) inv.groups)
      ];
    }

pub returns-clause-records : goal.returns-clause-records
returns-clause-records g c y l =
    let f = g.K.Kernel.meaning c.args.kernel.now in
    let a = c.args.a.now in
    let inv = c.loop-number.invariant in
    let test = c.loop-number-test.false in
    let bits = slice_index c.args.bits in
    let old = record_at_place a c.args.plus c.args.buf.now in
    SameRecords-groups f a.n g.row.T bits c.loop-number.number old (record_at_place a c.args.plus c.loop-number.buf) c.requires.bits
    (omega (arith, inv.end)) inv.groups y l
    ∙ ap (λ (ys : ℕ → List ℕ). ys y)
    (kernel_along-set f a.n g.row.T bits old (g.met.K.Kernel.keeps c.args.kernel.now)
    (g.met.K.Kernel.law c.args.kernel.now) c.requires.bits)
