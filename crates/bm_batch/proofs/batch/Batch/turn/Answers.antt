use Rattle.std.proofs.Common.{◌≡◌, ℕ, ◌<◌, length, map, slice_index_or, slice_set, sym, ◌∙◌, ap, subst, arith}
use Rattle.std.proofs.lemmas.List.{get_or_default, length-set}
use Rattle.std.proofs.lemmas.List.Elements.{All-set}
use Rattle.bm_bufs.specs.Bufs.{FitsShape}
use Rattle.bm_base.specs.declared.shape.Shape.{Shape}
use Rattle.bm_batch.specs.declared.bay_slot.BaySlot.{BaySlot}
use Rattle.bm_batch.specs.Bays.{IsBayOfShape, BayStep}
use Rattle.bm_batch.specs.Batches.{BatchValue, view_at, AreAttached, BatchTurns}
use Rattle.bm_batch.proofs.BatchLemmas.{batch_turned, batch_step, own_shape, own_attached}
use Rattle.bm_batch.proofs.BatchLemmas.{batch_follows, batch_attached, batch_sound, batch_done}
use Rattle.bm_batch.proofs.batch.Batch.turn.Goals as goal

pub turn_bay-slot-requires-clause-attached : goal.turn_bay-slot-requires-clause-attached
turn_bay-slot-requires-clause-attached g c going m machine =
    let b = c.self.inside in
    let at = c.from-at.result in
    let many : length c.args.bays.now ≡ length b.slots.items = subst (λ (x : BatchValue). length c.args.bays.now ≡ length x.slots)
    (sym c.self.view_is) c.requires.many in
    let below : at < length b.slots.items = subst (λ (x : BatchValue). at < length x.slots) (sym c.self.view_is)
    (let h = c.requires.below in let e = c.from-at.ensures in omega (arith, h, e)) in
    let attached = subst (λ (x : BatchValue). AreAttached x (map g.Y.Rack.view c.args.bays.now)) (sym c.self.view_is) c.requires.attached in
    own_attached g.Y.Rack.view b.shape b.slots.items c.args.bays.now at c.index.result.now c.index-bays-at.result m
    c.self.invariant.of_shape below many c.index.ensures attached going machine

pub turn_bay-slot-requires-clause-fits : goal.turn_bay-slot-requires-clause-fits
turn_bay-slot-requires-clause-fits g c m machine =
    let b = c.self.inside in
    let at = c.from-at.result in
    let below : at < length b.slots.items = subst (λ (x : BatchValue). at < length x.slots) (sym c.self.view_is)
    (let h = c.requires.below in let e = c.from-at.ensures in omega (arith, h, e)) in
    let fits : FitsShape b.shape c.args.bufs.now = subst (λ (x : BatchValue). FitsShape x.shape c.args.bufs.now) (sym c.self.view_is)
    c.requires.fits in
    subst (λ (s : Shape). FitsShape s c.args.bufs.now)
    (sym (own_shape b.shape b.slots.items at c.index.result.now c.self.invariant.of_shape below c.index.ensures m machine)) fits

pub invariant_of-self : goal.invariant_of-self
invariant_of-self g c =
    let b = c.self.inside in
    let at = c.from-at.result in
    let next = c.turn_bay-slot.result in
    let below : at < length b.slots.items = subst (λ (x : BatchValue). at < length x.slots) (sym c.self.view_is)
    (let h = c.requires.below in let e = c.from-at.ensures in omega (arith, h, e)) in
    record {
      some = (let some = c.self.invariant.some in let same = length-set b.slots.items at next in omega (arith, some, same));
      few = (let few = c.self.invariant.few in let same = length-set b.slots.items at next in omega (arith, few, same));
      of_shape = All-set (IsBayOfShape b.shape) b.slots.items at next
          (c.turn_bay-slot.ensures.shape b.shape
          (own_shape b.shape b.slots.items at c.index.result.now c.self.invariant.of_shape below c.index.ensures))
          c.self.invariant.of_shape;
    }

pub returns-clause-turned : goal.returns-clause-turned
returns-clause-turned g c =
    let b = c.self.inside in
    let at = c.from-at.result in
    let next = c.turn_bay-slot.result in
    let many : length c.args.bays.now ≡ length b.slots.items = subst (λ (x : BatchValue). length c.args.bays.now ≡ length x.slots)
    (sym c.self.view_is) c.requires.many in
    let below : at < length b.slots.items = subst (λ (x : BatchValue). at < length x.slots) (sym c.self.view_is)
    (let h = c.requires.below in let e = c.from-at.ensures in omega (arith, h, e)) in
    subst (λ (x : BatchValue). BatchTurns g.Y.Rack.tells_stands g.Y.Rack.tells_contents x
    (record { shape = b.shape; slots = slice_set b.slots.items at next }) (map g.Y.Rack.view c.args.bays.now)
    (map g.Y.Rack.view (slice_set c.args.bays.now at c.turn_bay-slot.new.rack))) c.self.view_is
    (batch_turned g.Y.Rack.view _ _ b.shape at b.slots.items c.args.bays.now c.index.result.now next c.index-bays-at.result
    c.turn_bay-slot.new.rack g.met.Y.Rack.consistent below many c.index.ensures c.self.invariant.of_shape
    c.turn_bay-slot.ensures.turns)

pub returns-clause-follows : goal.returns-clause-follows
returns-clause-follows g c told_stands told_contents =
    batch_follows _ _ _ _ _ _ told_stands told_contents (returns-clause-turned g c)

pub returns-clause-attached : goal.returns-clause-attached
returns-clause-attached g c = batch_attached _ _ _ _ _ _ (returns-clause-turned g c) c.requires.attached

pub returns-clause-done : goal.returns-clause-done
returns-clause-done g c told_stands told_contents =
    let many = length-set c.args.bays.now c.from-at.result c.turn_bay-slot.new.rack in
    let same = c.requires.many in
    batch_done g.Y.Rack.view _ _ _ _ _ (slice_set c.args.bays.now c.from-at.result c.turn_bay-slot.new.rack)
    told_stands told_contents g.met.Y.Rack.consistent (many ∙ same) (returns-clause-turned g c)

pub returns-clause-step : goal.returns-clause-step
returns-clause-step g c d m going machine =
    let b = c.self.inside in
    let at = c.from-at.result in
    let slot = c.index.result.now in
    let next = c.turn_bay-slot.result in
    let many : length c.args.bays.now ≡ length b.slots.items = subst (λ (x : BatchValue). length c.args.bays.now ≡ length x.slots)
    (sym c.self.view_is) c.requires.many in
    let below : at < length b.slots.items = subst (λ (x : BatchValue). at < length x.slots) (sym c.self.view_is)
    (let h = c.requires.below in let e = c.from-at.ensures in omega (arith, h, e)) in
    let here : slice_index_or c.args.self.now.slots c.args.bay d ≡ slot =
    subst (λ (x : BatchValue). slice_index_or x.slots c.args.bay d ≡ slot) c.self.view_is
    (subst (λ (k : ℕ). slice_index_or b.slots.items k d ≡ slot) c.from-at.ensures
    (get_or_default b.slots.items at d slot below ∙ sym c.index.ensures)) in
    subst (λ (k : ℕ). BayStep g.Y.Rack.tells_stands g.Y.Rack.tells_contents m (slice_index_or (slice_set b.slots.items at next) k d)
    (view_at (map g.Y.Rack.view c.args.bays.now) k)
    (view_at (map g.Y.Rack.view (slice_set c.args.bays.now at c.turn_bay-slot.new.rack)) k)) c.from-at.ensures
    (batch_step g.Y.Rack.view _ _ at b.slots.items c.args.bays.now m next d c.index-bays-at.result c.turn_bay-slot.new.rack below many
    (c.turn_bay-slot.ensures.step (ap (λ (x : BaySlot). x.state) (sym here) ∙ going) m
    (ap (λ (x : BaySlot). x.machine) (sym here) ∙ machine)))

pub returns-clause-fits : goal.returns-clause-fits
returns-clause-fits g c =
    let b = c.self.inside in
    let at = c.from-at.result in
    let below : at < length b.slots.items = subst (λ (x : BatchValue). at < length x.slots) (sym c.self.view_is)
    (let h = c.requires.below in let e = c.from-at.ensures in omega (arith, h, e)) in
    c.turn_bay-slot.ensures.fits b.shape
    (own_shape b.shape b.slots.items at c.index.result.now c.self.invariant.of_shape below c.index.ensures)
    (subst (λ (x : BatchValue). FitsShape x.shape c.args.bufs.now) (sym c.self.view_is) c.requires.fits)

pub returns-clause-sound : goal.returns-clause-sound
returns-clause-sound g c told_stands told_contents =
    batch_sound _ _ _ _ _ _ told_stands told_contents (returns-clause-turned g c)
