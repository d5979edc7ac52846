-- How many calls the turns of a machine make.
use Rattle.std.proofs.Common.{◌≡◌, ◌≢◌, inl, inr, ℕ, ◌+◌, ◌-◌, ◌*◌, ◌/◌, ◌%◌, ◌<◌, ◌≤◌, Option, Some, None, IsSome, refl, sym, ◌∙◌, ap}
use Rattle.std.proofs.Common.{subst, arith}
use Rattle.std.specs.Int.{div_ceil}
use Rattle.std.proofs.lemmas.Bool.{false≢true, cases_eq, eq-eqb, ne_eqb}
use Rattle.std.proofs.lemmas.Grind.{div_ceil_times}
use Rattle.std.proofs.lemmas.Nat.{div-mul-add, div-add-mod'}
use Rattle.std.proofs.Math.Nat.{mod-lt, div-eq_of_lt, mul-le-mul_right, lt_of_mul-lt-mul_right}
use Rattle.bm_forms.specs.declared.pass_form.PassForm.{PassForm}
use Rattle.bm_base.specs.Shape.{loads_of}
use Rattle.bm_job.specs.declared.machine.Machine.{Machine}
use Rattle.bm_job.specs.Turns.{SameJob, IsNextOf, IsLastLoad, form_pages, durable_pages, durable_syncs}
use Rattle.bm_job.specs.Runs.{marks_of, turn_pages, turn_syncs}

-- a number of loads below all is a place between two of the moments at which progress is made durable
place_below : (x every t : ℕ) → 1 ≤ every → t < x → t / every < div_ceil x every
place_below x every t some below =
    let up = div_ceil_times x every some in
    let at = div-add-mod' t every in
    lt_of_mul-lt-mul_right every (let a = up.0 in omega (arith, a, at, below))

-- the next place, where a moment comes between
place_next : (every t : ℕ) → 1 ≤ every → (t + 1) % every ≡ 0 → (t + 1) / every ≡ t / every + 1
place_next every t some none =
    let a = (t + 1) / every in
    let at : a * every + (t + 1) % every ≡ t + 1 = div-add-mod' (t + 1) every in
    elim (cases_eq a 0) [
      | inl empty ↦ (let e : a * every ≡ 0 * every = ap (λ (k : ℕ). k * every) empty in absurd (omega (arith, at, e, none)))
      | inr more ↦
          let split : a * every ≡ (a - 1) * every + every = (let e : a ≡ (a - 1) + 1 = omega (arith, more) in ap (λ (k : ℕ). k * every) e
          ∙ (let f : ((a - 1) + 1) * every ≡ (a - 1) * every + every = omega arith in f)) in
          let here : t ≡ (a - 1) * every + (every - 1) = omega (arith, at, split, none, some) in
          let down : t / every ≡ a - 1 = ap (λ (k : ℕ). k / every) here ∙ div-mul-add (a - 1) every (every - 1) (omega (arith, some)) in
          omega (arith, down, more)
    ]

-- and where none does
place_same : (every t : ℕ) → 1 ≤ every → (t + 1) % every ≢ 0 → (t + 1) / every ≡ t / every
place_same every t some more =
    let a = (t + 1) / every in
    let at : a * every + (t + 1) % every ≡ t + 1 = div-add-mod' (t + 1) every in
    let low : (t + 1) % every < every = mod-lt (t + 1) some in
    let here : t ≡ a * every + ((t + 1) % every - 1) = omega (arith, at, more) in
    sym (ap (λ (k : ℕ). k / every) here ∙ div-mul-add a every ((t + 1) % every - 1) (omega (arith, low, some)))

-- two numbers at one place are near
pub near_places : (every t u : ℕ) → 1 ≤ every → t / every ≡ u / every → u < t + every
near_places every t u some same =
    let a = div-add-mod' t every in
    let b = div-add-mod' u every in
    let low : u % every < every = mod-lt u some in
    let e : t / every * every ≡ u / every * every = ap (λ (k : ℕ). k * every) same in
    omega (arith, a, b, low, e)

-- whether the form of the pass under way was read
form_read : Option PassForm → ℕ
form_read None = 0
form_read (Some form) = 1

-- no form that was read counts as none, one that was read as one
unread : (form : Option PassForm) → form ≡ None → form_read form ≡ 0
unfolding form_read
unread form none = ap form_read none

once_read : (form : Option PassForm) → IsSome form → form_read form ≡ 1
unfolding form_read
once_read None is = absurd (false≢true is)
once_read (Some form) is = refl

read_once : (form : Option PassForm) → form_read form + form_pages form ≡ 1
unfolding form_read
read_once None = refl
read_once (Some form) = refl

-- the page calls that a machine at such a place has made at most since the start of the job
pub pages_at : ℕ → ℕ → ℕ → ℕ → ℕ
pages_at marks done form place = done * (2 + 4 * marks) + form + 4 * place

-- the same of syncs
pub syncs_at : ℕ → ℕ → ℕ → ℕ
syncs_at marks done place = done * (2 + 3 * marks) + 3 * place

pub pages_spent : Machine → ℕ
pages_spent m = pages_at (marks_of m.shape m.every) m.done (form_read m.form) (m.load / m.every)

pub syncs_spent : Machine → ℕ
syncs_spent m = syncs_at (marks_of m.shape m.every) m.done (m.load / m.every)

-- what is made durable after the last load of a pass, after one that is counted, and after another
last_pages : (m : Machine) → IsLastLoad m → durable_pages m ≡ 1
last_pages m last = rw (eq-eqb (m.load + 1) (loads_of m.shape) last) refl

last_syncs : (m : Machine) → IsLastLoad m → durable_syncs m ≡ 2
last_syncs m last = rw (eq-eqb (m.load + 1) (loads_of m.shape) last) refl

marked_pages : (m : Machine) → m.load + 1 < loads_of m.shape → (m.load + 1) % m.every ≡ 0 → durable_pages m ≡ 4
marked_pages m within none = rw (
  ne_eqb (m.load + 1) (loads_of m.shape) (λ e. omega (arith, e, within)),
  eq-eqb ((m.load + 1) % m.every) 0
      none,
) refl

marked_syncs : (m : Machine) → m.load + 1 < loads_of m.shape → (m.load + 1) % m.every ≡ 0 → durable_syncs m ≡ 3
marked_syncs m within none = rw (
  ne_eqb (m.load + 1) (loads_of m.shape) (λ e. omega (arith, e, within)),
  eq-eqb ((m.load + 1) % m.every) 0
      none,
) refl

other_pages : (m : Machine) → m.load + 1 < loads_of m.shape → (m.load + 1) % m.every ≢ 0 → durable_pages m ≡ 0
other_pages m within some = rw (
  ne_eqb (m.load + 1) (loads_of m.shape) (λ e. omega (arith, e, within)),
  ne_eqb ((m.load + 1) % m.every) 0
      some,
) refl

other_syncs : (m : Machine) → m.load + 1 < loads_of m.shape → (m.load + 1) % m.every ≢ 0 → durable_syncs m ≡ 0
other_syncs m within some = rw (
  ne_eqb (m.load + 1) (loads_of m.shape) (λ e. omega (arith, e, within)),
  ne_eqb ((m.load + 1) % m.every) 0
      some,
) refl

-- the three turns that there are
pub data TurnKind (m : Machine) : Type 0 where
  last_load : IsLastLoad m → TurnKind m
  marked_load : m.load + 1 < loads_of m.shape → (m.load + 1) % m.every ≡ 0 → TurnKind m
  other_load : m.load + 1 < loads_of m.shape → (m.load + 1) % m.every ≢ 0 → TurnKind m

pub turn_kind : (m : Machine) → TurnKind m
turn_kind m =
    let within = m.keeps.within in
    elim (cases_eq (m.load + 1) (loads_of m.shape)) [
      | inl last ↦ last_load last
      | inr before ↦ elim (cases_eq ((m.load + 1) % m.every) 0) [
        | inl none ↦ marked_load (omega (arith, within, before)) none
        | inr some ↦ other_load (omega (arith, within, before)) some
      ]
    ]

-- the moments so far are no more than those of the pass, nor with one that comes next
place_few : (m : Machine) → m.load / m.every ≤ marks_of m.shape m.every
place_few m = (let below = place_below (loads_of m.shape) m.every m.load m.keeps.every_some m.keeps.within in omega (arith, below))

mark_few : (m : Machine) → m.load + 1 < loads_of m.shape → (m.load + 1) % m.every ≡ 0 → m.load / m.every + 1 ≤ marks_of m.shape m.every
mark_few m within none =
    let below = place_below (loads_of m.shape) m.every (m.load + 1) m.keeps.every_some within in
    let next = place_next m.every m.load m.keeps.every_some none in
    omega (arith, below, next)

-- the page calls of a turn are within those of the passes
turn_pages_pass : (m : Machine) (kind : TurnKind m)
    → pages_spent m + (form_pages m.form + durable_pages m) ≤ (m.done + 1) * (2 + 4 * marks_of m.shape m.every)
unfolding pages_spent pages_at
turn_pages_pass m (last_load last) = (let a = read_once m.form in let b = last_pages m last in let c = place_few m in omega
    (arith, a, b, c))
turn_pages_pass m (marked_load within none) = (let a = read_once m.form in let b = marked_pages m within none in let c = mark_few m within
    none in omega (arith, a, b, c))
turn_pages_pass m (other_load within some) = (let a = read_once m.form in let b = other_pages m within some in let c = place_few m in omega
    (arith, a, b, c))

-- and so are its syncs
turn_syncs_pass : (m : Machine) (kind : TurnKind m) → syncs_spent m + durable_syncs m ≤ (m.done + 1) * (2 + 3 * marks_of m.shape m.every)
unfolding syncs_spent syncs_at
turn_syncs_pass m (last_load last) = (let b = last_syncs m last in let c = place_few m in omega (arith, b, c))
turn_syncs_pass m (marked_load within none) = (let b = marked_syncs m within none in let c = mark_few m within none in omega (arith, b, c))
turn_syncs_pass m (other_load within some) = (let b = other_syncs m within some in let c = place_few m in omega (arith, b, c))

-- and those of the job
pub turn_pages_few : (m : Machine) → m.done < m.passes → pages_spent m + (form_pages m.form + durable_pages m) ≤ turn_pages m.shape m.passes
    m.every
turn_pages_few m left =
    let a = turn_pages_pass m (turn_kind m) in
    let b : (m.done + 1) * (2 + 4 * marks_of m.shape m.every) ≤ m.passes * (2 + 4 * marks_of m.shape m.every) = mul-le-mul_right
    (2 + 4 * marks_of m.shape m.every) (omega (arith, left)) in
    omega (arith, a, b)

pub turn_syncs_few : (m : Machine) → m.done < m.passes → syncs_spent m + durable_syncs m ≤ turn_syncs m.shape m.passes m.every
turn_syncs_few m left =
    let a = turn_syncs_pass m (turn_kind m) in
    let b : (m.done + 1) * (2 + 3 * marks_of m.shape m.every) ≤ m.passes * (2 + 3 * marks_of m.shape m.every) = mul-le-mul_right
    (2 + 3 * marks_of m.shape m.every) (omega (arith, left)) in
    omega (arith, a, b)

-- the first place
place_zero : (every : ℕ) → 1 ≤ every → 0 / every ≡ 0
place_zero every some = div-eq_of_lt some

-- the page calls of a machine at its end
pub end_pages_few : (m : Machine) → m.done ≡ m.passes → pages_spent m ≤ turn_pages m.shape m.passes m.every
unfolding pages_spent pages_at
end_pages_few m end =
    let a = read_once m.form in
    let rest = m.keeps.rest end in
    let place : m.load / m.every ≡ 0 = ap (λ (k : ℕ). k / m.every) rest ∙ place_zero m.every m.keeps.every_some in
    let all : m.done * (2 + 4 * marks_of m.shape m.every) ≡ m.passes * (2 + 4 * marks_of m.shape m.every) = ap
    (λ (k : ℕ). k * (2 + 4 * marks_of m.shape m.every)) end in
    omega (arith, a, place, all)

-- and its syncs
pub end_syncs_few : (m : Machine) → m.done ≡ m.passes → syncs_spent m ≤ turn_syncs m.shape m.passes m.every
unfolding syncs_spent syncs_at
end_syncs_few m end =
    let rest = m.keeps.rest end in
    let place : m.load / m.every ≡ 0 = ap (λ (k : ℕ). k / m.every) rest ∙ place_zero m.every m.keeps.every_some in
    let all : m.done * (2 + 3 * marks_of m.shape m.every) ≡ m.passes * (2 + 3 * marks_of m.shape m.every) = ap
    (λ (k : ℕ). k * (2 + 3 * marks_of m.shape m.every)) end in
    omega (arith, place, all)

-- what the next machine has spent, by this one's shape
next_pages : (old new : Machine) → SameJob old new → pages_spent new ≡ pages_at (marks_of old.shape old.every) new.done (form_read new.form)
    (new.load / old.every)
unfolding pages_spent
next_pages old new same = rw (same.shape, same.every) refl

-- and the syncs
next_syncs : (old new : Machine) → SameJob old new → syncs_spent new ≡ syncs_at (marks_of old.shape old.every) new.done
    (new.load / old.every)
unfolding syncs_spent
next_syncs old new same = rw (same.shape, same.every) refl

-- a turn's page calls are paid for by the next machine's place
pub turn_pages_paid : (old new : Machine) → IsNextOf old new → pages_spent old + (form_pages old.form + durable_pages old) ≤ pages_spent new
unfolding pages_spent pages_at
turn_pages_paid old new n = subst (λ (k : ℕ). pages_spent old + (form_pages old.form + durable_pages old) ≤ k)
    (sym (next_pages old new n.same)) (paid (turn_kind old))
  where
    paid : TurnKind old → pages_spent old + (form_pages old.form + durable_pages old) ≤ pages_at (marks_of old.shape old.every) new.done
        (form_read new.form) (new.load / old.every)
    paid (last_load last) =
        let a = turn_pages_pass old (last_load last) in
        let to = n.last last in
        let all : new.done * (2 + 4 * marks_of old.shape old.every) ≡ (old.done + 1) * (2 + 4 * marks_of old.shape old.every) = ap
        (λ (k : ℕ). k * (2 + 4 * marks_of old.shape old.every)) to.0 in
        omega (arith, a, all)
    paid (marked_load within none) =
        let a = read_once old.form in
        let b = marked_pages old within none in
        let to = n.before within in
        let all : new.done * (2 + 4 * marks_of old.shape old.every) ≡ old.done * (2 + 4 * marks_of old.shape old.every) = ap
        (λ (k : ℕ). k * (2 + 4 * marks_of old.shape old.every)) to.0 in
        let place : new.load / old.every ≡ old.load / old.every + 1 = ap (λ (k : ℕ). k / old.every) to.1
        ∙ place_next old.every old.load old.keeps.every_some none in
        let read = once_read new.form to.2 in
        omega (arith, a, b, all, place, read)
    paid (other_load within some) =
        let a = read_once old.form in
        let b = other_pages old within some in
        let to = n.before within in
        let all : new.done * (2 + 4 * marks_of old.shape old.every) ≡ old.done * (2 + 4 * marks_of old.shape old.every) = ap
        (λ (k : ℕ). k * (2 + 4 * marks_of old.shape old.every)) to.0 in
        let place : new.load / old.every ≡ old.load / old.every = ap (λ (k : ℕ). k / old.every) to.1
        ∙ place_same old.every old.load old.keeps.every_some some in
        let read = once_read new.form to.2 in
        omega (arith, a, b, all, place, read)

-- and its syncs
pub turn_syncs_paid : (old new : Machine) → IsNextOf old new → syncs_spent old + durable_syncs old ≤ syncs_spent new
unfolding syncs_spent syncs_at
turn_syncs_paid old new n = subst (λ (k : ℕ). syncs_spent old + durable_syncs old ≤ k) (sym (next_syncs old new n.same))
    (paid (turn_kind old))
  where
    paid : TurnKind old → syncs_spent old + durable_syncs old ≤ syncs_at (marks_of old.shape old.every) new.done (new.load / old.every)
    paid (last_load last) =
        let a = turn_syncs_pass old (last_load last) in
        let to = n.last last in
        let all : new.done * (2 + 3 * marks_of old.shape old.every) ≡ (old.done + 1) * (2 + 3 * marks_of old.shape old.every) = ap
        (λ (k : ℕ). k * (2 + 3 * marks_of old.shape old.every)) to.0 in
        omega (arith, a, all)
    paid (marked_load within none) =
        let b = marked_syncs old within none in
        let to = n.before within in
        let all : new.done * (2 + 3 * marks_of old.shape old.every) ≡ old.done * (2 + 3 * marks_of old.shape old.every) = ap
        (λ (k : ℕ). k * (2 + 3 * marks_of old.shape old.every)) to.0 in
        let place : new.load / old.every ≡ old.load / old.every + 1 = ap (λ (k : ℕ). k / old.every) to.1
        ∙ place_next old.every old.load old.keeps.every_some none in
        omega (arith, b, all, place)
    paid (other_load within some) =
        let b = other_syncs old within some in
        let to = n.before within in
        let all : new.done * (2 + 3 * marks_of old.shape old.every) ≡ old.done * (2 + 3 * marks_of old.shape old.every) = ap
        (λ (k : ℕ). k * (2 + 3 * marks_of old.shape old.every)) to.0 in
        let place : new.load / old.every ≡ old.load / old.every = ap (λ (k : ℕ). k / old.every) to.1
        ∙ place_same old.every old.load old.keeps.every_some some in
        omega (arith, b, all, place)
