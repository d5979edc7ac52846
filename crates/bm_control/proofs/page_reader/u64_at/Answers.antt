use Rattle.std.proofs.Common.{drop, take_all, ap, ◌∙◌, arith}
use Rattle.std.proofs.lemmas.List.{length-drop}
use Rattle.byteorder.specs.Endian.{little_number}
use Rattle.bm_control.specs.Bodies.{u64_in}
use Rattle.bm_control.proofs.page_reader.u64_at.Goals as goal

pub returns : goal.returns
unfolding u64_in
returns c =
    c.read_u64.ensures
    ∙ ap (little_number 8) (take_all _ (drop c.args.place c.args.page.now)
    (omega (arith, length-drop c.args.place c.args.page.now, c.told-page)))
