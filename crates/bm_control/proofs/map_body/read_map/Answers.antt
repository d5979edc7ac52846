use Rattle.std.proofs.Common.{◌≡◌, ◌/◌, ℕ, ◌+◌, ◌*◌, ◌^◌, ◌<◌, ◌≤◌, Some, drop, ap, sym, subst, ◌∙◌, arith, inl, inr}
use Rattle.std.proofs.lemmas.Bool.{cases_lt}
use Rattle.std.proofs.lemmas.List.{ext_get_or}
use Rattle.std.proofs.Math.Nat.{div-eq_of_lt}
use Rattle.bm_gf2.specs.declared.affine.Affine.{Affine}
use Rattle.bm_gf2.specs.Matrix.{column}
use Rattle.bm_control.specs.Bodies.{u64_in}
use Rattle.bm_control.proofs.BodyLemmas.{constant_of, column_of, small_number}
use Rattle.bm_gf2.proofs.MapLemmas.{matrix_equal, affine_equal}
use Rattle.bm_control.proofs.map_body.read_map.Goals as goal

-- a map's numbers are of 64 bits
columns_small : (f : Affine) (n j : ℕ) → n ≤ 52 → f.a.n ≡ n → j < n → column f.a j < 2 ^ 64
columns_small f n j few is within =
    small_number (column f.a j) n few (subst (λ (k : ℕ). column f.a j < 2 ^ k) is (f.a.below j (omega arith)))

pub returns-then-c-n-ne0-clause-read : goal.returns-then-c-n-ne0-clause-read
returns-then-c-n-ne0-clause-read c head f last long n page =
    let below : f.c < 2 ^ c.args.n = subst (λ (k : ℕ). f.c < 2 ^ k) n f.below in
    let seen : c.u64_at-c.result ≡ f.c = c.u64_at-c.ensures
    ∙ constant_of head _ f last long (small_number f.c c.args.n c.requires.few below) page in
    absurd (c.if-c-n-ne0.true (ap (λ (v : ℕ). v / 2 ^ c.args.n) seen ∙ div-eq_of_lt below))

pub returns-in_err-cols-clause-read : goal.returns-in_err-cols-clause-read
returns-in_err-cols-clause-read c head f last long n page =
    absurd (c.in_err-cols.ensures.wide (λ j h.
    let e : u64_in (drop (24 + 8 * j) c.args.page.now) ≡ column f.a j =
    column_of head _ f last j long (omega (arith, n)) (columns_small f c.args.n j c.requires.few n h) page in
    subst (λ (v : ℕ). v < 2 ^ c.args.n) (sym e) (subst (λ (k : ℕ). column f.a j < 2 ^ k) n (f.a.below j (omega (arith, n))))))

pub returns-clause-read : goal.returns-clause-read
returns-clause-read c head f last long n page =
    let few : c.args.n ≤ 52 = c.requires.few in
    let found = c.in_ok-cols.ensures in
    let below : f.c < 2 ^ c.args.n = subst (λ (k : ℕ). f.c < 2 ^ k) n f.below in
    let constant : c.u64_at-c.result ≡ f.c = c.u64_at-c.ensures ∙ constant_of head _ f last long (small_number f.c c.args.n few below) page
    in
    let columns : c.in_ok-cols.cols ≡ f.a.cols =
    ext_get_or 0 c.in_ok-cols.cols f.a.cols (found.long ∙ sym f.a.long) (λ j h. elim (cases_lt j c.args.n) [
      | inl within ↦ found.columns j within ∙ column_of head _ f last j long (omega (arith, n)) (columns_small f c.args.n j few n within)
          page
      | inr past ↦ found.rest j past ∙ sym (f.a.rest j (omega (arith, n, past)))
    ]) in
    ap Some (affine_equal _ f (matrix_equal _ f.a (sym n) columns) constant)
