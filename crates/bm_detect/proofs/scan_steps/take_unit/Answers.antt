use Rattle.std.proofs.Common.{ℕ, ◌+◌, ◌^◌, ◌<◌, bit_xor, refl, sym, subst, ◌∙◌}
use Rattle.std.proofs.lemmas.Nat.{pow_pos, xor_lt}
use Rattle.bm_gf2.specs.Matrix.{column}
use Rattle.bm_gf2.proofs.VectorLemmas.{xor_same}
use Rattle.bm_detect.specs.Candidate.{candidate_column}
use Rattle.bm_detect.proofs.ScanLemmas.{addresses_more, first_more, candidate_unit, met_more, columns_more}
use Rattle.bm_detect.proofs.scan_steps.take_unit.Goals as goal

pub with_column-requires-clause-below : goal.with_column-requires-clause-below
with_column-requires-clause-below c =
    let size = c.requires.scan.size in
    subst (λ (m : ℕ). bit_xor c.args.y c.args.scan.map.c < 2 ^ m) (sym size)
    (xor_lt c.args.n c.args.y c.args.scan.map.c c.requires.below (subst (λ (m : ℕ). c.args.scan.map.c < 2 ^ m) size c.args.scan.map.below))

pub returns-clause-knows : goal.returns-clause-knows
returns-clause-knows c ys is knows =
    let n = c.args.n in
    let k = c.args.scan.bits in
    let constant = knows.constant (pow_pos k) in
    record {
      addresses = addresses_more n (2 ^ k) (2 ^ k + 1) c.args.y ys refl knows.addresses is c.requires.below;
      constant = λ _. constant;
      met = met_more k;
      columns = columns_more k (column c.args.scan.map.a) (column c.with_column.result) (candidate_column ys) knows.columns
          c.with_column.ensures.others (c.with_column.ensures.changed ∙ xor_same (sym is) constant);
      first = first_more n (2 ^ k) (2 ^ k + 1) ys c.args.scan.first refl knows.first (candidate_unit n k ys c.requires.more);
    }
