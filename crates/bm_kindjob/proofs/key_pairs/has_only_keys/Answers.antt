use Rattle.std.proofs.Common.{[], ◌∷◌, ◌≡◌, true, false, string_bytes, sym, ap, ◌∙◌, rules}
use Rattle.std.proofs.lemmas.Map.Iter.{rest_more, rest_all}
use Rattle.std.specs.List.{list_all}
use Rattle.std.specs.Map.Iter.{deref}
use Rattle.bm_jobfile.specs.Keys.{is_one_of}
use Rattle.bm_jobfile.proofs.KeyLemmas.{is_named, has_only-keys, one_key}
use Rattle.bm_kindjob.proofs.key_pairs.has_only_keys.Goals as goal

pub loop-key-init : goal.loop-key-init
loop-key-init c =
    let names = (c.args.one.now ∷ c.args.other.now ∷ []) in
    has_only-keys names c.args.table.now.entries
    ∙ ap (list_all (is_named names)) (sym (c.into_iter-key-iterator.ensures.into_iter_gives ∙ c.keys-key-items.ensures.rest))

pub returns-then-not-is_either : goal.returns-then-not-is_either
returns-then-not-is_either c =
    let names = (c.args.one.now ∷ c.args.other.now ∷ []) in
    let named : is_one_of names (string_bytes c.in-Some.key.now) ≡ c.is_either.result =
    ap (is_one_of names) (sym c.as_str.ensures.value) ∙ sym c.is_either.ensures in
    let unknown : c.is_either.result ≡ false = search rules in
    let more = rest_more deref c.loop-key.key-iterator c.next.new.self c.next.result c.in-Some.key c.in-Some.is c.next.ensures.steps in
    sym (one_key names c.in-Some.key.now c.next.new.self false _
    (c.loop-key.invariant ∙ ap (list_all (is_named names)) more) (named ∙ unknown))

pub loop-key-preserved : goal.loop-key-preserved
loop-key-preserved c =
    let names = (c.args.one.now ∷ c.args.other.now ∷ []) in
    let named : is_one_of names (string_bytes c.in-Some.key.now) ≡ c.is_either.result =
    ap (is_one_of names) (sym c.as_str.ensures.value) ∙ sym c.is_either.ensures in
    let known : c.is_either.result ≡ true = search rules in
    let more = rest_more deref c.loop-key.key-iterator c.next.new.self c.next.result c.in-Some.key c.in-Some.is c.next.ensures.steps in
    one_key names c.in-Some.key.now c.next.new.self true _ (c.loop-key.invariant ∙ ap (list_all (is_named names)) more) (named ∙ known)

pub returns : goal.returns
returns c =
    let none = rest_all deref c.loop-key.key-iterator c.next.new.self c.next.result c.in-None.is c.next.ensures.steps in
    sym (c.loop-key.invariant ∙ ap (list_all (is_named (c.args.one.now ∷ c.args.other.now ∷ []))) none)
