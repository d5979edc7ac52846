use Rattle.std.proofs.Common.{refl, arith}
use Rattle.std.proofs.lemmas.Result.{on_ok_weaker}
use Rattle.bm_factor.proofs.factoring.push_form.Goals as goal

pub returns-clause-pushed : goal.returns-clause-pushed
returns-clause-pushed c =
    on_ok_weaker c.push.result
    (λ e. record {
      pass = record { low = 0; map = c.args.form };
      is = e;
      map = refl;
      low = refl;
      of_shape = record {
        addresses = c.requires.addresses;
        block = c.requires.sizes.0;
        memory = c.requires.sizes.1;
        low = omega arith;
        width = λ _. refl;
      };
    })
    c.push.ensures.pushed
