use Rattle.std.proofs.Common.{◌≡◌, ◌≢◌, ◌^◌, ◌<◌, slice_index, refl, sym, ◌∙◌, subst, arith, ⊎_elim}
use Rattle.std.proofs.lemmas.Bool.{cases_eq}
use Rattle.std.proofs.lemmas.Nat.{one_shl}
use Rattle.bm_base.specs.Butterfly.{record_of}
use Rattle.bm_butter.specs.Records.{record_in_order}
use Rattle.bm_kinds.specs.Groups.{corner}
use Rattle.bm_kinds.proofs.GroupLemmas.{few_numbers}
use Rattle.bm_kinds.proofs.group.scatter.Goals as goal

pub loop-t-init : goal.loop-t-init
loop-t-init g c = record {
  size = refl;
  written = λ s l. absurd (omega arith);
  others = λ x out. refl;
  end = one_shl g.row.T 64 (omega (arith, c.requires.few));
}

pub bounds-offsets-t : goal.bounds-offsets-t
bounds-offsets-t g c =
    let test = c.loop-t-test.true in
    omega (arith, c.loop-t.invariant.end, few_numbers g.row.T c.requires.few)

pub bounds-numbers-t : goal.bounds-numbers-t
bounds-numbers-t g c =
    let test = c.loop-t-test.true in
    omega (arith, c.loop-t.invariant.end, few_numbers g.row.T c.requires.few)

pub loop-t-preserved : goal.loop-t-preserved
loop-t-preserved g c =
    let inv = c.loop-t.invariant in
    let test = c.loop-t-test.true in
    let at = c.loop-t.t in
    let inside : at < 2 ^ g.row.T = omega (arith, inv.end) in
    let place = corner c.args.here (slice_index c.args.offsets.now) in
    let new = c.set_number.new.buf in
    record {
      size = c.set_number.ensures.size ∙ inv.size;
      written = λ s l. ⊎_elim
          (λ (p : s ≡ at). subst (λ k. record_in_order new (place k) ≡ record_of (slice_index c.args.numbers.now k)) (sym p)
          c.set_number.ensures.written)
          (λ (p : s ≢ at). c.set_number.ensures.others (place s) (c.requires.apart s at (omega arith) inside p)
          ∙ inv.written s (omega arith))
          (cases_eq s at);
      others = λ x out. c.set_number.ensures.others x (out at (omega arith)) ∙ inv.others x (λ s l. out s (omega arith));
      end = inv.end;
    }
