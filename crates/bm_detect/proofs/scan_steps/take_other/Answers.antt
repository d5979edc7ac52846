use Rattle.std.proofs.Common.{◌≡◌, ◌+◌, refl, sym, ap, ◌∙◌, arith}
use Rattle.std.proofs.lemmas.Bool.{false≢true}
use Rattle.std.specs.Option.{is_some}
use Rattle.bm_detect.specs.Candidate.{candidate}
use Rattle.bm_detect.proofs.ScanLemmas.{addresses_more, first_more, value_known, no_first}
use Rattle.bm_detect.proofs.scan_steps.take_other.Goals as goal

pub returns-then-y-want-clause-knows : goal.returns-then-y-want-clause-knows
returns-then-y-want-clause-knows c ys is knows =
    let n = c.args.n in
    let x = c.args.x in
    let known = value_known n x ys c.args.scan c.requires.scan knows c.requires.some c.requires.other in
    let same : ys x ≡ candidate n ys x = is ∙ c.if-y-want.true ∙ c.apply-want.ensures.value ∙ known in
    record {
      addresses = addresses_more n x (x + 1) c.args.y ys refl knows.addresses is c.requires.below;
      constant = λ _. knows.constant c.requires.some;
      met = omega (arith, knows.met, c.requires.other);
      columns = knows.columns;
      first = first_more n x (x + 1) ys c.args.scan.first refl knows.first same;
    }

pub returns-clause-knows : goal.returns-clause-knows
returns-clause-knows c ys is knows =
    let n = c.args.n in
    let x = c.args.x in
    let known = value_known n x ys c.args.scan c.requires.scan knows c.requires.some c.requires.other in
    record {
      addresses = addresses_more n x (x + 1) c.args.y ys refl knows.addresses is c.requires.below;
      constant = λ _. knows.constant c.requires.some;
      met = omega (arith, knows.met, c.requires.other);
      columns = knows.columns;
      first = (
        omega arith,
        record {
          number = sym is;
          value = c.apply-want.ensures.value ∙ known;
          apart = c.if-y-want.false;
          before = no_first n x ys c.args.scan.first (λ d is. false≢true (c.if-is_some.ensures ∙ ap is_some is)) knows.first;
        },
      );
    }
