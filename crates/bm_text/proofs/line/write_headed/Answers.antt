use Rattle.std.proofs.Common.{◌++◌, codes, List, [], ℕ, refl, sym, ◌∙◌, ap, append_assoc, rules}
use Rattle.std.proofs.lemmas.List.{append-nil}
use Rattle.bm_rack.proofs.SinkLemmas.{AppendsFront-part}
use Rattle.bm_text.proofs.line.write_headed.Goals as goal

pub returns-in_err-write_all_of-2-clause-front : goal.returns-in_err-write_all_of-2-clause-front
returns-in_err-write_all_of-2-clause-front g c told =
    AppendsFront-part _ _ _ c.args.head.now c.args.words.now (codes "\n") _ refl
    (c.write_all_of.ensures.all told (search rules)) (c.write_all_of-2.ensures.front told)

pub returns-clause-all : goal.returns-clause-all
returns-clause-all g c told ok =
    let old = g.K.Sink.taken c.args.sink.now in
    let head = c.args.head.now in
    let words = c.args.words.now in
    c.write_all_of-3.ensures.all told ok
    ∙ ap (λ (z : List ℕ). z ++ codes "\n")
    (c.write_all_of-2.ensures.all told (search rules)
    ∙ ap (λ (z : List ℕ). z ++ words) (c.write_all_of.ensures.all told (search rules))
    ∙ append_assoc old head words)
    ∙ append_assoc old (head ++ words) (codes "\n")

pub returns-clause-front : goal.returns-clause-front
returns-clause-front g c told =
    let old = g.K.Sink.taken c.args.sink.now in
    let head = c.args.head.now in
    let words = c.args.words.now in
    AppendsFront-part _ _ _ (head ++ words) (codes "\n") [] _ (sym (append-nil (head ++ words ++ codes "\n")))
    (c.write_all_of-2.ensures.all told (search rules)
    ∙ ap (λ (z : List ℕ). z ++ words) (c.write_all_of.ensures.all told (search rules))
    ∙ append_assoc old head words)
    (c.write_all_of-3.ensures.front told)
