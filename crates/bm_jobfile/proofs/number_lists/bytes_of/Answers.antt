use Rattle.std.proofs.Common.{◌≡◌, Some, None, sym, ◌∙◌}
use Rattle.toml.specs.View.{view}
use Rattle.bm_jobfile.specs.Fields.{is_byte, number_of}
use Rattle.bm_jobfile.proofs.NumberLemmas.{read_none, read_more, read_fault, read_all}
use Rattle.bm_jobfile.proofs.number_lists.bytes_of.Goals as goal

pub loop-value-init : goal.loop-value-init
loop-value-init c = rw c.new-list.ensures.items (read_none is_byte c.args.values.now)

pub loop-value-preserved : goal.loop-value-preserved
loop-value-preserved c =
    let number : number_of is_byte (view c.value-item.result) ≡ Some c.in-Some.number = sym c.byte_of.ensures ∙ c.in-Some.is in
    rw c.in_ok-push-in-Some.ensures.items
    (read_more is_byte c.args.values.now c.loop-value.value-index c.loop-value.list.items c.value-item.result c.in-Some.number
    c.loop-value.invariant c.loop-value-test.true c.value-item.is number)

pub returns-in-None : goal.returns-in-None
returns-in-None c =
    let number : number_of is_byte (view c.value-item.result) ≡ None = sym c.byte_of.ensures ∙ c.in-None.is in
    read_fault is_byte c.args.values.now c.loop-value.value-index c.loop-value.list.items c.value-item.result c.loop-value.invariant
    c.loop-value-test.true c.value-item.is number

pub returns : goal.returns
returns c =
    read_all is_byte c.args.values.now c.loop-value.value-index c.loop-value.list.items c.loop-value.invariant c.loop-value-test.false
