use Rattle.std.proofs.Common.{◌≡◌, ℕ, ◌^◌, ◌<◌, length-set, slice_index, subst, sym, ap, ◌∙◌, arith}
use Rattle.std.proofs.lemmas.Nat.{one_shl}
use Rattle.bm_gf2.specs.Matrix.{image}
use Rattle.bm_kinds.specs.Groups.{member}
use Rattle.bm_kinds.proofs.GroupLemmas.{written_more, few_numbers}
use Rattle.bm_kinds.proofs.MemberLemmas.{member_below}
use Rattle.bm_kinds.proofs.few_bits.offsets_of.Goals as goal

pub loop-t-init : goal.loop-t-init
loop-t-init g c = record {
  long = c.zeros-offsets.ensures;
  images = λ s l. absurd (omega arith);
  end = one_shl g.row.T 64 (omega (arith, c.requires.few));
}

pub apply-requires : goal.apply-requires
apply-requires g c =
    subst (λ (k : ℕ). k < 2 ^ c.args.a.now.n) (sym c.member_of.ensures)
    (member_below c.args.a.now.n g.row.T c.loop-t.t (slice_index c.args.bits.now) c.requires.bits)

pub bounds-offsets-t : goal.bounds-offsets-t
bounds-offsets-t g c =
    let test = c.loop-t-test.true in
    omega (arith, c.loop-t.invariant.end, few_numbers g.row.T c.requires.few)

pub loop-t-preserved : goal.loop-t-preserved
loop-t-preserved g c =
    let inv = c.loop-t.invariant in
    let test = c.loop-t-test.true in
    let a = c.args.a.now in
    record {
      long = length-set c.loop-t.offsets _ _ ∙ inv.long;
      images = written_more c.loop-t.offsets c.loop-t.t c.apply.result (λ s v. v ≡ image a (member (slice_index c.args.bits.now) g.row.T s))
          (omega (arith, inv.end, inv.long, few_numbers g.row.T c.requires.few)) inv.images
          (c.apply.ensures.value ∙ ap (image a) c.member_of.ensures);
      end = inv.end;
    }
