use Rattle.std.proofs.Common.{◌≡◌, ◌∙◌, sym, rules, arith, true, refl, codes, string_bytes}
use Rattle.std.specs.Fmt.{decimal}
use Rattle.std.proofs.lemmas.Fmt.{decimal_injective}
use Rattle.bm_top.specs.Words.{IsNoFlip}
use Rattle.bm_top.proofs.WordsLemmas.{if_none, word_at, seven}
use Rattle.bm_top.proofs.words.flip_of.Goals as goal

pub returns-in_err-n-in-len7-clause-none : goal.returns-in_err-n-in-len7-clause-none
returns-in_err-n-in-len7-clause-none c =
    let words = c.args.words.now in
    if_none _ {P = IsNoFlip words} (λ f is.
    let spelt = word_at words f 1 c.n-item.result is.words_are (omega (arith, c.in-len7.len_at_least)) c.n-item.is in
    c.in_err-n-in-len7.ensures.none f.n is.within.n (c.as_str-in-len7.ensures.value ∙ spelt))

pub returns-in_err-b-in-len7-clause-none : goal.returns-in_err-b-in-len7-clause-none
returns-in_err-b-in-len7-clause-none c =
    let words = c.args.words.now in
    if_none _ {P = IsNoFlip words} (λ f is.
    let spelt = word_at words f 2 c.b-item.result is.words_are (omega (arith, c.in-len7.len_at_least)) c.b-item.is in
    c.in_err-b-in-len7.ensures.none f.b is.within.b (c.as_str-in-len7-2.ensures.value ∙ spelt))

pub returns-in_err-d-in-len7-clause-none : goal.returns-in_err-d-in-len7-clause-none
returns-in_err-d-in-len7-clause-none c =
    let words = c.args.words.now in
    if_none _ {P = IsNoFlip words} (λ f is.
    let spelt = word_at words f 3 c.d-item.result is.words_are (omega (arith, c.in-len7.len_at_least)) c.d-item.is in
    c.in_err-d-in-len7.ensures.none f.d is.within.d (c.as_str-in-len7-3.ensures.value ∙ spelt))

pub returns-in_err-m-in-len7-clause-none : goal.returns-in_err-m-in-len7-clause-none
returns-in_err-m-in-len7-clause-none c =
    let words = c.args.words.now in
    if_none _ {P = IsNoFlip words} (λ f is.
    let spelt = word_at words f 4 c.m-item.result is.words_are (omega (arith, c.in-len7.len_at_least)) c.m-item.is in
    c.in_err-m-in-len7.ensures.none f.m is.within.m (c.as_str-in-len7-4.ensures.value ∙ spelt))

pub returns-in_err-width-in-len7-clause-none : goal.returns-in_err-width-in-len7-clause-none
returns-in_err-width-in-len7-clause-none c =
    let words = c.args.words.now in
    if_none _ {P = IsNoFlip words} (λ f is.
    let spelt = word_at words f 5 c.width-item.result is.words_are (omega (arith, c.in-len7.len_at_least)) c.width-item.is in
    c.in_err-width-in-len7.ensures.none f.width is.within.width (c.as_str-in-len7-5.ensures.value ∙ spelt))

pub returns-in_err-c-in-len7-clause-none : goal.returns-in_err-c-in-len7-clause-none
returns-in_err-c-in-len7-clause-none c =
    let words = c.args.words.now in
    if_none _ {P = IsNoFlip words} (λ f is.
    let spelt = word_at words f 6 c.c-item.result is.words_are (omega (arith, c.in-len7.len_at_least)) c.c-item.is in
    c.in_err-c-in-len7.ensures.none f.c (omega (arith, is.within.c)) (c.as_str-in-len7-6.ensures.value ∙ spelt))

pub returns-then-not-is_address-clause-none : goal.returns-then-not-is_address-clause-none
returns-then-not-is_address-clause-none c f is =
    let words = c.args.words.now in
    let n_spelt = word_at words f 1 c.n-item.result is.words_are (omega (arith, c.in-len7.len_at_least)) c.n-item.is in
    let c_spelt = word_at words f 6 c.c-item.result is.words_are (omega (arith, c.in-len7.len_at_least)) c.c-item.is in
    let n : decimal c.in_ok-n-in-len7.n ≡ decimal f.n = sym c.in_ok-n-in-len7.ensures.found.1 ∙ c.as_str-in-len7.ensures.value ∙ n_spelt in
    let x : decimal c.in_ok-c-in-len7.c ≡ decimal f.c = sym c.in_ok-c-in-len7.ensures.found.1 ∙ c.as_str-in-len7-6.ensures.value
    ∙ c_spelt in
    let same_n : c.in_ok-n-in-len7.n ≡ f.n =
    decimal_injective _ _ (omega (arith, c.in_ok-n-in-len7.ensures.found.0)) (omega (arith, is.within.n)) n in
    let same_c : c.in_ok-c-in-len7.c ≡ f.c =
    decimal_injective _ _ (omega (arith, c.in_ok-c-in-len7.ensures.found.0)) is.within.c x in
    let below : c.is_address.result ≡ true = c.is_address.ensures.1 (rw (same_n, same_c) is.within.address) in
    absurd (search (rules, below))

pub returns-else-not-is_address-clause-found : goal.returns-else-not-is_address-clause-found
returns-else-not-is_address-clause-found c =
    let name : string_bytes c.name-item.result ≡ codes "flip" =
    let same : c.as_str.result.now ≡ codes "flip" = search rules in sym c.as_str.ensures.value ∙ same in
    let texts = seven c.args.words.now c.name-item.result c.n-item.result c.b-item.result c.d-item.result c.m-item.result
    c.width-item.result
    c.c-item.result (record {
      length = omega (arith, c.in-len7.len_at_least, c.in-len7.len_below);
      at0 = c.name-item.is;
      at1 = c.n-item.is;
      at2 = c.b-item.is;
      at3 = c.d-item.is;
      at4 = c.m-item.is;
      at5 = c.width-item.is;
      at6 = c.c-item.is;
    }) in
    record {
      words_are = texts ∙ rw (
        name,
        sym c.as_str-in-len7.ensures.value ∙ c.in_ok-n-in-len7.ensures.found.1,
        sym c.as_str-in-len7-2.ensures.value ∙ c.in_ok-b-in-len7.ensures.found.1,
        sym c.as_str-in-len7-3.ensures.value ∙ c.in_ok-d-in-len7.ensures.found.1,
        sym c.as_str-in-len7-4.ensures.value ∙ c.in_ok-m-in-len7.ensures.found.1,
        sym c.as_str-in-len7-5.ensures.value ∙ c.in_ok-width-in-len7.ensures.found.1,
        sym c.as_str-in-len7-6.ensures.value ∙ c.in_ok-c-in-len7.ensures.found.1,
      ) refl;
      within = record {
        n = c.in_ok-n-in-len7.ensures.found.0;
        b = c.in_ok-b-in-len7.ensures.found.0;
        d = c.in_ok-d-in-len7.ensures.found.0;
        m = c.in_ok-m-in-len7.ensures.found.0;
        width = c.in_ok-width-in-len7.ensures.found.0;
        c = omega (arith, c.in_ok-c-in-len7.ensures.found.0);
        address = c.is_address.ensures.0 c.if-not-is_address.false;
      };
    }
