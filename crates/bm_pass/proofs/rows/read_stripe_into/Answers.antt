use Rattle.std.proofs.Common.{◌+◌, ◌^◌, ◌∙◌, arith}
use Rattle.bm_bufs.proofs.PartLemmas.{record_of_part, record_beside_part}
use Rattle.bm_pass.proofs.rows.read_stripe_into.Goals as goal

pub returns-clause-records : goal.returns-clause-records
returns-clause-records g c at here told ok r below =
    let s = c.args.shape.now in
    record_of_part s.width at c.args.start (2 ^ (s.b + s.d)) _ r c.args.bytes.now c.read_stripe.new.buf here
    (omega (arith, c.requires.room))
    (omega (arith, c.read_stripe.auto.buf, c.requires.size, c.requires.room)) below
    ∙ c.read_stripe.ensures.records told ok r below

pub returns-clause-others : goal.returns-clause-others
returns-clause-others g c at k here beside =
    let s = c.args.shape.now in
    record_beside_part s.width at c.args.start (2 ^ (s.b + s.d)) _ k c.args.bytes.now c.read_stripe.new.buf here
    (omega (arith, c.read_stripe.auto.buf, c.requires.size, c.requires.room))
    (omega (arith, c.read_stripe.auto.buf, c.requires.size, c.requires.room))
    (omega (arith, c.read_stripe.auto.buf, c.requires.size, c.requires.room)) beside
