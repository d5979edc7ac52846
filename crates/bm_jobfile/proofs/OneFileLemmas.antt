-- A text means one job file alone.
use Rattle.std.proofs.Common.{◌≡◌, ℕ, ◌*◌, ◌+◌, ◌-◌, ◌/◌, ◌%◌, ◌^◌, ◌<◌, ◌≤◌, List, bit_xor, Some, Ok}
use Rattle.std.proofs.Common.{sym, ap, subst, ◌∙◌, arith, refl, inl, inr, ⊎_elim}
use Rattle.std.proofs.lemmas.List.{ext_get_or}
use Rattle.std.proofs.lemmas.Bool.{cases_lt}
use Rattle.std.proofs.lemmas.Nat.{pow_pos, shr_below, xor_lt}
use Rattle.std.proofs.Math.Pow.{pow-lt}
use Rattle.std.proofs.lemmas.Nat.Bits.{same_from_bits_below}
use Rattle.std.specs.Int.Bits.{xor_zero_r}
use Rattle.std.proofs.Math.Nat.{mod-add-div', mod-lt}
use Rattle.bm_base.specs.declared.shape.Shape.{Shape}
use Rattle.bm_gf2.specs.declared.affine.Affine.{Affine}
use Rattle.bm_gf2.specs.Matrix.{column, image}
use Rattle.bm_gf2.specs.Affine.{affine_image}
use Rattle.bm_gf2.proofs.VectorLemmas.{xor_cancel, xor_cancel_right, xor_sum-zero, xor_sum-pow}
use Rattle.bm_gf2.proofs.MapLemmas.{matrix_equal, affine_equal}
use Rattle.bm_gf2.proofs.ShiftLemmas.{image_below}
use Rattle.bm_base.proofs.EqualLemmas.{shape_equal}
use Rattle.bm_forms.specs.declared.job.Job.{Job}
use Rattle.bm_forms.specs.declared.job.Job.TheVariants as job
use Rattle.bm_named.specs.declared.map_fault.MapFault.TheVariants as fault
use Rattle.bm_jobfile.specs.declared.map_table.NamedMap.{NamedMap}
use Rattle.bm_jobfile.specs.declared.map_table.NamedMap.TheVariants.{Identity, Reversal, BitReversal, Transpose}
use Rattle.bm_jobfile.specs.declared.map_table.NamedMap.TheVariants.{Gray, InverseGray, Rotation, Bits, Rows}
use Rattle.bm_jobfile.specs.declared.map_table.MapText.{MapText}
use Rattle.bm_jobfile.specs.declared.map_table.MapText.TheVariants.{Permute, Walsh}
use Rattle.bm_jobfile.specs.declared.job_file.JobFile.{JobFile}
use Rattle.bm_jobfile.specs.declared.reading.JobText.{JobText as Said}
use Rattle.bm_jobfile.specs.JobText.{text_of}
use Rattle.bm_jobfile.specs.MapJob.{IsNamedMap, NamedIsFaultless, MapIsFaultless, IsPermuteOf, IsJobOf}
use Rattle.bm_jobfile.specs.JobFile.{every_of, Says, IsFileOf, IsJobFile}

-- ---- the images of a map decide it

-- the image of 0 is the constant
image_of_zero : (f : Affine) → affine_image f 0 ≡ f.c
image_of_zero f = ap (bit_xor f.c) (xor_sum-zero (column f.a) f.a.n) ∙ xor_zero_r f.c

-- the image of a unit vector, without the constant, is its column
image_of_unit : (f : Affine) (j : ℕ) → j < f.a.n → bit_xor f.c (affine_image f (2 ^ j)) ≡ column f.a j
image_of_unit f j inside = xor_cancel f.c (image f.a (2 ^ j)) ∙ xor_sum-pow (column f.a) f.a.n j inside

unit_inside : (n j : ℕ) → j < n → 2 ^ j < 2 ^ n
unit_inside n j inside = pow-lt inside

-- two affine maps of n bits with one image at each address are equal
affine_once : (f g : Affine) → f.a.n ≡ g.a.n → ((x : ℕ) → x < 2 ^ f.a.n → affine_image f x ≡ affine_image g x) → f ≡ g
affine_once f g n same =
    affine_equal f g (matrix_equal f.a g.a n (ext_get_or 0 f.a.cols g.a.cols (f.a.long ∙ sym g.a.long) (λ j inside. columns j))) constant
  where
    constant : f.c ≡ g.c
    constant = sym (image_of_zero f) ∙ same 0 (pow_pos f.a.n) ∙ image_of_zero g

    columns_in : (j : ℕ) → j < f.a.n → column f.a j ≡ column g.a j
    columns_in j inside =
        sym (image_of_unit f j inside)
        ∙ ap (bit_xor f.c) (same (2 ^ j) (unit_inside f.a.n j inside))
        ∙ ap (λ (c : ℕ). bit_xor c (affine_image g (2 ^ j))) constant
        ∙ image_of_unit g j (subst (λ (k : ℕ). j < k) n inside)

    columns : (j : ℕ) → column f.a j ≡ column g.a j
    columns j = ⊎_elim (columns_in j) (λ past. f.a.rest j past ∙ sym (g.a.rest j (subst (λ (k : ℕ). k ≤ j) n past))) (cases_lt j f.a.n)

-- ---- a named map is one function of the addresses

-- two functions that the named map has are equal at each address, where their values are addresses
named_once : (n : ℕ) (named : NamedMap) (f g : ℕ → ℕ) → NamedIsFaultless n named → IsNamedMap n named f → IsNamedMap n named g
    → ((x : ℕ) → f x < 2 ^ n) → ((x : ℕ) → g x < 2 ^ n) → (x : ℕ) → x < 2 ^ n → f x ≡ g x
named_once n Identity f g ok p q low low' x b = p x b ∙ sym (q x b)
named_once n Reversal f g ok p q low low' x b = p x b ∙ sym (q x b)
named_once n BitReversal f g ok p q low low' x b = same_from_bits_below n (f x) (g x) (low x) (low' x) (λ i inside. p x i b inside
    ∙ sym (q x i b inside))
named_once n (Transpose s) f g ok p q low low' x b =
    let side : s ≤ n = omega (arith, λ (wide : n < s). ok (fault.Side s) (refl, wide)) in
    let whole : s + (n - s) ≡ n = omega arith in
    let row : x / 2 ^ (n - s) < 2 ^ s = shr_below x s (n - s) (subst (λ (k : ℕ). x < 2 ^ k) (sym whole) b) in
    let col : x % 2 ^ (n - s) < 2 ^ (n - s) = mod-lt x (pow_pos (n - s)) in
    let is : x / 2 ^ (n - s) * 2 ^ (n - s) + x % 2 ^ (n - s) ≡ x = omega (arith, mod-add-div' x (2 ^ (n - s))) in
    ap f (sym is) ∙ p (x / 2 ^ (n - s)) (x % 2 ^ (n - s)) row col
    ∙ sym (q (x / 2 ^ (n - s)) (x % 2 ^ (n - s)) row col) ∙ ap g is
named_once n Gray f g ok p q low low' x b = p x b ∙ sym (q x b)
named_once n InverseGray f g ok p q low low' x b = same_from_bits_below n (f x) (g x) (low x) (low' x) (λ i inside. p x i b inside
    ∙ sym (q x i b inside))
named_once n (Rotation by) f g ok p q low low' x b = same_from_bits_below n (f x) (g x) (low x) (low' x) (λ i inside. p x i b inside
    ∙ sym (q x i b inside))
named_once n (Bits list) f g ok p q low low' x b = same_from_bits_below n (f x) (g x) (low x) (low' x) (λ i inside. p x i b inside
    ∙ sym (q x i b inside))
named_once n (Rows rows) f g ok p q low low' x b = same_from_bits_below n (f x) (g x) (low x) (low' x) (λ i inside. p x i b inside
    ∙ sym (q x i b inside))

-- a map of n bits, followed by XOR with a number of n bits
value_below : (n c : ℕ) (f : Affine) → f.a.n ≡ n → c < 2 ^ n → (x : ℕ) → bit_xor (affine_image f x) c < 2 ^ n
value_below n c f size below x =
    let low : affine_image f x < 2 ^ f.a.n = xor_lt f.a.n f.c (image f.a x) f.below (image_below f.a x) in
    xor_lt n (affine_image f x) c (subst (λ (k : ℕ). affine_image f x < 2 ^ k) size low) below

-- ---- the job, and the file

-- the map of a text without fault is one
permute_once : (n : ℕ) (named : NamedMap) (c : ℕ) (f g : Affine) → NamedIsFaultless n named → c < 2 ^ n
    → IsPermuteOf n named c f → IsPermuteOf n named c g → f ≡ g
permute_once n named c f g ok below p q =
    affine_once f g (p.size ∙ sym q.size)
    (λ x inside.
    let both = named_once n named (λ x. bit_xor (affine_image f x) c) (λ x. bit_xor (affine_image g x) c) ok p.value q.value
    (value_below n c f p.size below) (value_below n c g q.size below) x (subst (λ (k : ℕ). x < 2 ^ k) p.size inside) in
    sym (xor_cancel_right (affine_image f x) c) ∙ ap (λ (v : ℕ). bit_xor v c) both ∙ xor_cancel_right (affine_image g x) c)

-- the job of a text without fault is one
job_once : (s : Shape) (map : MapText) (j k : Job) → MapIsFaultless s map → IsJobOf s map j → IsJobOf s map k → j ≡ k
job_once s Walsh job.Walsh job.Walsh ok p q = refl
job_once s Walsh job.Walsh (job.Permute g) ok p q = absurd q
job_once s Walsh (job.Permute f) k ok p q = absurd p
job_once s (Permute named c) job.Walsh k ok p q = absurd p
job_once s (Permute named c) (job.Permute f) job.Walsh ok p q = absurd q
job_once s (Permute named c) (job.Permute f) (job.Permute g) ok p q =
    let faultless : NamedIsFaultless s.n named = λ e wrong. ok e (inl wrong) in
    let below : c < 2 ^ s.n = omega (arith, λ (wide : 2 ^ s.n ≤ c). ok (fault.Complement c) (inr (refl, wide, faultless))) in
    ap job.Permute (permute_once s.n named c f g faultless below p q)

-- what the fields say is one file
file_once : (said : Said) (f g : JobFile) → IsFileOf said f → IsFileOf said g → f ≡ g
file_once said f g p q =
    let shape : f.shape ≡ g.shape =
    shape_equal f.shape g.shape (p.numbers.n ∙ sym q.numbers.n) (p.numbers.b ∙ sym q.numbers.b) (p.numbers.d ∙ sym q.numbers.d)
    (p.numbers.m ∙ sym q.numbers.m) (p.numbers.width ∙ sym q.numbers.width) in
    let same_job : f.job ≡ g.job =
    job_once f.shape said.map f.job g.job p.faultless p.job (subst (λ (s : Shape). IsJobOf s said.map g.job) (sym shape) q.job) in
    let start : f.start ≡ g.start = p.start ∙ sym q.start in
    let stops : f.stops ≡ g.stops = p.stops ∙ sym q.stops in
    let every : f.every ≡ g.every =
    p.every ∙ ap (λ (s : Shape). every_of said.checkpoint (2 ^ (s.n - s.m))) shape ∙ sym q.every in
    λ i. record { shape = shape i; job = same_job i; start = start i; stops = stops i; every = every i }

-- a text says one thing alone
pub said_once : (text : List ℕ) (a b : Said) → Says text a → Says text b → a ≡ b
said_once text a b x y =
    let parsed : Some x.document ≡ Some y.document = sym x.read.parsed ∙ y.read.parsed in
    let document : x.document ≡ y.document = cc in
    let fields : Ok a ≡ Ok b = sym x.fields ∙ ap text_of document ∙ y.fields in
    cc

-- and it means one file alone
pub job_file_once : (text : List ℕ) (f g : JobFile) → IsJobFile text f → IsJobFile text g → f ≡ g
job_file_once text f g p q =
    file_once p.said f g p.file_said
    (subst (λ (said : Said). IsFileOf said g) (sym (said_once text p.said q.said p.says q.says)) q.file_said)
