use Rattle.std.proofs.Common.{◌^◌, ◌<◌, sym, arith}
use Rattle.std.proofs.lemmas.Nat.{pow_pos}
use Rattle.bm_detect.proofs.ScanLemmas.{addresses_more, first_more, candidate_zero}
use Rattle.bm_detect.proofs.scan_steps.take_constant.Goals as goal

pub returns-clause-knows : goal.returns-clause-knows
returns-clause-knows c ys is knows = record {
  addresses = addresses_more c.args.n 0 1 c.args.y ys (omega arith) knows.addresses is c.requires.below;
  constant = λ _. sym is;
  met = (let p : 0 < 2 ^ c.args.scan.bits = pow_pos c.args.scan.bits in omega arith);
  columns = knows.columns;
  first = first_more c.args.n 0 1 ys c.args.scan.first (omega arith) knows.first (candidate_zero c.args.n ys);
}
