-- A channel follows the timeline of its bursts.
use Rattle.std.proofs.Common.{◌≡◌, ◌≢◌, ℕ, zero, suc, ◌+◌, ◌-◌, ◌<◌, ◌≤◌, ◌==◌, nat_eq, nat_lt, ◌&&◌, if◌then◌else◌, refl, sym, ap, ap₂, subst, ◌∙◌, arith, ◌⊎◌, inl, inr, Bool, true, false, ne_eqb, eq-eqb, lt-ltb, le-ltb, List, [], ◌∷◌, ◌++◌}
use Rattle.std.proofs.lemmas.Bool.{cases_eq, cases_lt, cases_Bool, true≢false}
use Rattle.std.specs.Prelude.{All, slice_index, length}
use Rattle.std.proofs.lemmas.List.{get_or_past}
use Rattle.sp_netlist.specs.Cells.{PlainCell}
use Rattle.sp_netlist.specs.Signals.{Setting, Signals, Phase, idle, waiting, moving, asks, next_phase, ready_word, after_asking, delay_of, RunsChannel}
use Rattle.sp_channel_runs.specs.Bursts.{asked_by, taken_by, channel_asks, taken, Burst, first_word, last_word, phase_in, phase_at, begun, Begins, IsBurst, Spaced, Opens, Moves, last_is, LastRight, Takes, Says, Pulses, FollowsBursts, ChannelFollows, Transfer, bursts, bursts_end, transfer_end, all_bursts, Ordered, Asks, TransfersFollow, DelaysAreSmall}

-- the search finds what was taken
module _ (ask : ℕ → Bool) (takes : ℕ → ℕ) where
  asked_up : (t u : ℕ) → t ≤ u → asked_by ask t ≤ asked_by ask u
  asked_up t zero l = let q : t ≡ 0 = omega (arith, l) in let v = ap (asked_by ask) q in omega (arith, v)
  asked_up t (suc u) l = elim (cases_eq t (suc u)) [
    | inl q ↦ (let v = ap (asked_by ask) q in omega (arith, v))
    | inr n ↦ (let p = asked_up t u (omega (arith, l, n)) in elim (cases_Bool (ask u)) [
      | inl e ↦ (let v = ap (λ c. if c then suc (asked_by ask u) else asked_by ask u) e in omega (arith, p, v))
      | inr e ↦ (let v = ap (λ c. if c then suc (asked_by ask u) else asked_by ask u) e in omega (arith, p, v))
    ])
  ]

  asked_more : (t u : ℕ) → ask t ≡ true → t < u → asked_by ask t < asked_by ask u
  asked_more t u e l = let v = ap (λ c. if c then suc (asked_by ask t) else asked_by ask t) e in let p = asked_up (suc t) u l in omega (arith, v, p)

  pub finds : (t bound : ℕ) → ask t ≡ true → t < bound → taken_by ask takes bound (asked_by ask t) ≡ takes t
  finds t zero e l = absurd (omega (arith, l))
  finds t (suc b) e l = elim (cases_eq t b) [
    | inl q ↦ ap (λ c. if c then takes b else taken_by ask takes b (asked_by ask t)) (ap₂ (λ x y. x && y) (ap ask (sym q) ∙ e) (eq-eqb (asked_by ask b) (asked_by ask t) (ap (asked_by ask) (sym q)))) ∙ ap takes (sym q)
    | inr n ↦ (let k : t < b = omega (arith, l, n) in let m = asked_more t b e k in
        let f : nat_eq (asked_by ask b) (asked_by ask t) ≡ false = ne_eqb (asked_by ask b) (asked_by ask t) (λ x. omega (arith, m, x)) in
        elim (cases_Bool (ask b)) [
          | inl y ↦ ap (λ c. if c then takes b else taken_by ask takes b (asked_by ask t)) (ap₂ (λ x y. x && y) y f) ∙ finds t b e k
          | inr y ↦ ap (λ c. if c && nat_eq (asked_by ask b) (asked_by ask t) then takes b else taken_by ask takes b (asked_by ask t)) y ∙ finds t b e k
        ])
  ]

  pub taken_small : (d bound i : ℕ) → ((t : ℕ) → takes t ≤ d) → taken_by ask takes bound i ≤ d
  taken_small d zero i f = omega arith
  taken_small d (suc b) i f = elim (cases_Bool (ask b && nat_eq (asked_by ask b) i)) [
    | inl e ↦ (let v = ap (λ c. if c then takes b else taken_by ask takes b i) e in let p = f b in omega (arith, v, p))
    | inr e ↦ (let v = ap (λ c. if c then takes b else taken_by ask takes b i) e in let p = taken_small d b i f in omega (arith, v, p))
  ]

index_small : (d : ℕ) (xs : List ℕ) (i : ℕ) → All (λ e. e ≤ d) xs → slice_index xs i ≤ d
index_small d xs i a = elim (cases_lt i (length xs)) [ inl l ↦ a i 0 l | inr g ↦ (let v = get_or_past xs i 0 g in omega (arith, v)) ]

pub delays_are_small : DelaysAreSmall
delays_are_small g s before channel request last d bound small i = taken_small (channel_asks s channel request last) (λ t. delay_of g s t before) d bound i (λ t. index_small d g.delays _ small)

-- the timeline's phases
module _ (b : Burst) (bs : List Burst) where
  at_before : (t : ℕ) → t ≤ b.cycle → phase_at (b ∷ bs) t ≡ idle
  at_before t l = ap (λ c. if c then (if nat_lt (last_word b) t then phase_at bs t else phase_in b t) else idle) (le-ltb b.cycle t l)

  none_before : (t : ℕ) → t ≤ b.cycle → begun (b ∷ bs) t ≡ 0
  none_before t l = ap (λ c. if c then suc (begun bs t) else 0) (le-ltb b.cycle t l)

  one_after : (t : ℕ) → b.cycle < t → begun (b ∷ bs) t ≡ suc (begun bs t)
  one_after t l = ap (λ c. if c then suc (begun bs t) else 0) (lt-ltb b.cycle t l)

  at_in : (t : ℕ) → b.cycle < t → t ≤ last_word b → phase_at (b ∷ bs) t ≡ phase_in b t
  at_in t l m = ap (λ c. if c then (if nat_lt (last_word b) t then phase_at bs t else phase_in b t) else idle) (lt-ltb b.cycle t l) ∙ ap (λ c. if c then phase_at bs t else phase_in b t) (le-ltb (last_word b) t m)

  at_wait : (t : ℕ) → b.cycle < t → t < first_word b → phase_at (b ∷ bs) t ≡ waiting (b.cycle + b.wait - t)
  at_wait t l m = at_in t l (omega (arith, m)) ∙ ap (λ c. if c then waiting (b.cycle + b.wait - t) else moving (t - first_word b)) (lt-ltb t (first_word b) m)

  at_move : (t : ℕ) → first_word b ≤ t → t ≤ last_word b → phase_at (b ∷ bs) t ≡ moving (t - first_word b)
  at_move t l m = at_in t (omega (arith, l)) m ∙ ap (λ c. if c then waiting (b.cycle + b.wait - t) else moving (t - first_word b)) (le-ltb t (first_word b) l)

  at_after : (t : ℕ) → last_word b < t → phase_at (b ∷ bs) t ≡ phase_at bs t
  at_after t l = ap (λ c. if c then (if nat_lt (last_word b) t then phase_at bs t else phase_in b t) else idle) (lt-ltb b.cycle t (omega (arith, l))) ∙ ap (λ c. if c then phase_at bs t else phase_in b t) (lt-ltb (last_word b) t l)

  at_first : IsBurst b → (k : ℕ) → b.wait ≡ k → phase_at (b ∷ bs) (suc b.cycle) ≡ after_asking k
  at_first i zero e = let m = i.some in at_move (suc b.cycle) (omega (arith, e)) (omega (arith, e, m)) ∙ ap moving (omega (arith, e))
  at_first i (suc k) e = at_wait (suc b.cycle) (omega arith) (omega (arith, e)) ∙ ap waiting (omega (arith, e))

none_yet : (going : Bool) (free : ℕ) (bs : List Burst) (t : ℕ) → Spaced going free bs → t < free → begun bs t ≡ 0
none_yet going free [] t sp l = refl
none_yet true free (b ∷ bs) t sp l = none_before b bs t (let e = sp.0 in omega (arith, e, l))
none_yet false free (b ∷ bs) t sp l = none_before b bs t (let e = sp.0 in omega (arith, e, l))

idle_yet : (free : ℕ) (bs : List Burst) (t : ℕ) → Spaced false free bs → t ≤ free → (phase_at bs t ≡ idle) × (begun bs t ≡ 0)
idle_yet free [] t sp l = (refl, refl)
idle_yet free (b ∷ bs) t sp l = let e = sp.0 in (at_before b bs t (omega (arith, e, l)), none_before b bs t (omega (arith, e, l)))

opens_late : (going : Bool) (free : ℕ) (bs : List Burst) (t : ℕ) → Spaced going free bs → Opens going bs t → free ≤ t
opens_late true free [] t sp o = absurd o
opens_late false free [] t sp o = absurd o
opens_late true free (b ∷ bs) t sp o = let e = sp.0 in let p = opens_late b.more (suc (last_word b)) bs t sp.2 o in omega (arith, e, p)
opens_late false free (b ∷ bs) t sp (inl q) = let e = sp.0 in omega (arith, e, q)
opens_late false free (b ∷ bs) t sp (inr o) = let e = sp.0 in let p = opens_late b.more (suc (last_word b)) bs t sp.2 o in omega (arith, e, p)

abbrev Stepped : (r l d : ℕ) → Phase → Phase → ℕ → ℕ → Type 0
Stepped r l d p q n m = (q ≡ next_phase p r l d) × (m ≡ (if asks p r l then suc n else n))

stepped_as : (r l d : ℕ) {p q p' q' : Phase} {n m n' m' : ℕ} → p ≡ p' → q ≡ q' → n ≡ n' → m ≡ m' → Stepped r l d p' q' n' m' → Stepped r l d p q n m
stepped_as r l d {p} {q} {p'} {q'} {n} {m} {n'} {m'} e f g h s =
    subst (λ x. Stepped r l d x q n m) (sym e) (subst (λ x. Stepped r l d p' x n m) (sym f) (subst (λ x. Stepped r l d p' q' x m) (sym g) (subst (λ x. Stepped r l d p' q' n' x) (sym h) s)))

stays_idle : (r l d : ℕ) → r ≢ 1 → Stepped r l d idle idle 0 0
stays_idle r l d n = (sym (ap (λ c. if c then after_asking d else idle) (ne_eqb r 1 n)), sym (ap (λ c. if c then 1 else 0) (ne_eqb r 1 n)))

asks_now : (r l d : ℕ) → r ≡ 1 → Stepped r l d idle (after_asking d) 0 1
asks_now r l d e = (sym (ap (λ c. if c then after_asking d else idle) (eq-eqb r 1 e)), sym (ap (λ c. if c then 1 else 0) (eq-eqb r 1 e)))

goes_on : (r l d k : ℕ) → l ≡ 0 → k ≢ 15 → (n : ℕ) → Stepped r l d (moving k) (moving (k + 1)) n n
goes_on r l d k e f n = (
  sym (ap (λ c. if c then (if k == 15 then after_asking d else moving (k + 1)) else idle) (eq-eqb l 0 e) ∙ ap (λ c. if c then after_asking d else moving (k + 1)) (ne_eqb k 15 f)),
  sym (ap₂ (λ x y. if x && y then suc n else n) (eq-eqb l 0 e) (ne_eqb k 15 f)),
)

asks_again : (r l d k : ℕ) → l ≡ 0 → k ≡ 15 → (n : ℕ) → Stepped r l d (moving k) (after_asking d) n (suc n)
asks_again r l d k e f n = (
  sym (ap (λ c. if c then (if k == 15 then after_asking d else moving (k + 1)) else idle) (eq-eqb l 0 e) ∙ ap (λ c. if c then after_asking d else moving (k + 1)) (eq-eqb k 15 f)),
  sym (ap₂ (λ x y. if x && y then suc n else n) (eq-eqb l 0 e) (eq-eqb k 15 f)),
)

is_over : (r l d k : ℕ) → l ≡ 1 → (n : ℕ) → Stepped r l d (moving k) idle n n
is_over r l d k e n = (
  sym (ap (λ c. if c then (if k == 15 then after_asking d else moving (k + 1)) else idle) (ne_eqb l 0 (λ z. omega (arith, e, z)))),
  sym (ap (λ c. if c && (k == 15) then suc n else n) (ne_eqb l 0 (λ z. omega (arith, e, z)))),
)

waits_on : (r l d k : ℕ) (n : ℕ) → Stepped r l d (waiting k) (after_asking k) n n
waits_on r l d k n = (refl, refl)

-- one cycle
module _ (w : ℕ → ℕ) (lst : ℕ → ℕ) (upto t r d : ℕ) (soon : t ≤ upto) where
  abbrev Steps : List Burst → Type 0
  Steps bs = Stepped r (lst t) d (phase_at bs t) (phase_at bs (suc t)) (begun bs t) (begun bs (suc t))

  abbrev TakesNow : ℕ → List Burst → Type 0
  TakesNow i bs = asks (phase_at bs t) r (lst t) ≡ true → d ≡ w (i + begun bs t)

  in_wait : (b : Burst) (bs : List Burst) (k : ℕ) → IsBurst b → b.cycle < t → t < first_word b → b.cycle + b.wait - t ≡ k → phase_at (b ∷ bs) (suc t) ≡ after_asking k
  in_wait b bs zero i l m e = let p = i.some in at_move b bs (suc t) (omega (arith, m, e)) (omega (arith, p, m)) ∙ ap moving (omega (arith, m, e))
  in_wait b bs (suc k) i l m e = at_wait b bs (suc t) (omega (arith, l)) (omega (arith, m, e)) ∙ ap waiting (omega (arith, e))

  -- with its last word a channel asks again, or is idle
  at_last : (b : Burst) (bs : List Burst) (i : ℕ) → IsBurst b → Spaced b.more (suc (last_word b)) bs → Takes w (suc i) bs → t ≡ last_word b → lst t ≡ last_is b t → TakesNow i (b ∷ bs) → (more : Bool) → b.more ≡ more → Steps (b ∷ bs)
  at_last b bs i ib sp tk e lw now true f = again bs (subst (λ c. Spaced c (suc (last_word b)) bs) f sp) tk now
    where
      some : 0 < b.words
      some = ib.some

      zero_last : lst t ≡ 0
      zero_last = lw ∙ ap (λ c. if c then 0 else (if b.more then 0 else 1)) (le-ltb t (last_word b) (omega (arith, e))) ∙ ap (λ c. if c then 0 else 1) f

      fifteen : t - first_word b ≡ 15
      fifteen = let q = ib.full f in omega (arith, e, q)

      again : (bs : List Burst) → Spaced true (suc (last_word b)) bs → Takes w (suc i) bs → TakesNow i (b ∷ bs) → Steps (b ∷ bs)
      again [] sp tk now = absurd (true≢false sp)
      again (c ∷ bs) sp tk now =
          let same : c.cycle ≡ t = (let q = sp.0 in omega (arith, q, e)) in
          let here = at_move b (c ∷ bs) t (omega (arith, e, some)) (omega (arith, e)) in
          let none = none_before c bs t (omega (arith, same)) in
          let count = one_after b (c ∷ bs) t (omega (arith, e, some)) in
          let asked : asks (phase_at (b ∷ c ∷ bs) t) r (lst t) ≡ true = ap (λ p. asks p r (lst t)) here ∙ ap₂ (λ x y. x && y) (eq-eqb (lst t) 0 zero_last) (eq-eqb (t - first_word b) 15 fifteen) in
          let took : d ≡ c.wait = now asked ∙ ap w (omega (arith, none, count)) ∙ sym tk.0 in
          let next : phase_at (b ∷ c ∷ bs) (suc t) ≡ after_asking d = at_after b (c ∷ bs) (suc t) (omega (arith, e)) ∙ ap (λ x. phase_at (c ∷ bs) (suc x)) (sym same) ∙ at_first c bs sp.1 d (sym took) in
          let after = one_after b (c ∷ bs) (suc t) (omega (arith, e, some)) in
          let second = one_after c bs (suc t) (omega (arith, same)) in
          let ic = sp.1.some in
          let third = none_yet c.more (suc (last_word c)) bs (suc t) sp.2 (omega (arith, same, ic)) in
          stepped_as r (lst t) d here next (count ∙ ap suc none) (after ∙ ap suc (second ∙ ap suc third)) (asks_again r (lst t) d (t - first_word b) zero_last fifteen 1)
  at_last b bs i ib sp tk e lw now false f =
      let some = ib.some in
      let one : lst t ≡ 1 = lw ∙ ap (λ c. if c then 0 else (if b.more then 0 else 1)) (le-ltb t (last_word b) (omega (arith, e))) ∙ ap (λ c. if c then 0 else 1) f in
      let z = idle_yet (suc (last_word b)) bs (suc t) (subst (λ c. Spaced c (suc (last_word b)) bs) f sp) (omega (arith, e)) in
      stepped_as r (lst t) d (at_move b bs t (omega (arith, e, some)) (omega (arith, e))) (at_after b bs (suc t) (omega (arith, e)) ∙ z.0)
      (one_after b bs t (omega (arith, e, some)) ∙ ap suc (none_yet b.more (suc (last_word b)) bs t sp (omega (arith, e)))) (one_after b bs (suc t) (omega (arith, e)) ∙ ap suc z.1)
      (is_over r (lst t) d (t - first_word b) one 1)

  -- in a burst
  within : (b : Burst) (bs : List Burst) (i : ℕ) → IsBurst b → Spaced b.more (suc (last_word b)) bs → Takes w (suc i) bs → b.cycle < t → t ≤ last_word b
      → (first_word b ≤ t → lst t ≡ last_is b t) → TakesNow i (b ∷ bs) → Steps (b ∷ bs)
  within b bs i ib sp tk l m lw now = elim (cases_lt t (first_word b)) [
    | inl f ↦ (let some = ib.some in stepped_as r (lst t) d (at_wait b bs t l f) (in_wait b bs (b.cycle + b.wait - t) ib l f refl)
        (one_after b bs t l ∙ ap suc (none_yet b.more (suc (last_word b)) bs t sp (omega (arith, m)))) (one_after b bs (suc t) (omega (arith, l)) ∙ ap suc (none_yet b.more (suc (last_word b)) bs (suc t) sp (omega (arith, f, some))))
        (waits_on r (lst t) d (b.cycle + b.wait - t) 1))
    | inr g ↦ elim (cases_eq t (last_word b)) [
      | inl e ↦ at_last b bs i ib sp tk e (lw g) now b.more refl
      | inr n ↦ (let few = ib.few in
          stepped_as r (lst t) d (at_move b bs t g m) (at_move b bs (suc t) (omega (arith, g)) (omega (arith, m, n)) ∙ ap moving (omega (arith, g)))
          (one_after b bs t l ∙ ap suc (none_yet b.more (suc (last_word b)) bs t sp (omega (arith, m)))) (one_after b bs (suc t) (omega (arith, l)) ∙ ap suc (none_yet b.more (suc (last_word b)) bs (suc t) sp (omega (arith, m, n))))
          (goes_on r (lst t) d (t - first_word b) (lw g ∙ ap (λ c. if c then 0 else (if b.more then 0 else 1)) (lt-ltb t (last_word b) (omega (arith, m, n)))) (λ k. omega (arith, k, m, n, few, g)) 1))
    ]
  ]

  sucs : (a : Bool) (n m : ℕ) → m ≡ (if a then suc n else n) → suc m ≡ (if a then suc (suc n) else suc n)
  sucs true n m e = ap suc e
  sucs false n m e = ap suc e

  -- a burst has begun
  begun_step : (b : Burst) (bs : List Burst) (i : ℕ) → IsBurst b → Spaced b.more (suc (last_word b)) bs → Takes w i (b ∷ bs) → b.cycle < t → LastRight lst upto (b ∷ bs) → TakesNow i (b ∷ bs)
      → (last_word b < t → TakesNow (suc i) bs → Steps bs) → Steps (b ∷ bs)
  begun_step b bs i ib sp tk l lr now rest = elim (cases_lt (last_word b) t) [
    | inl k ↦ (let e = one_after b bs t l in
        let z = rest k (λ a. now (ap (λ p. asks p r (lst t)) (at_after b bs t k) ∙ a) ∙ ap w (omega (arith, e))) in
        stepped_as r (lst t) d (at_after b bs t k) (at_after b bs (suc t) (omega (arith, k))) e (one_after b bs (suc t) (omega (arith, l)))
        (z.0, sucs (asks (phase_at bs t) r (lst t)) (begun bs t) (begun bs (suc t)) z.1))
    | inr g ↦ within b bs i ib sp tk.1 l g (λ f. lr.0 t f g soon) now
  ]

  step : (going : Bool) (free : ℕ) (bs : List Burst) (i : ℕ) → Spaced going free bs → free ≤ t → Takes w i bs → Says r (Opens going bs t) → LastRight lst upto bs → TakesNow i bs → Steps bs
  step true free [] i sp l tk says lr now = absurd (true≢false sp)
  step false free [] i sp l tk says lr now = stays_idle r (lst t) d (λ o. says.back o)
  step true free (b ∷ bs) i sp l tk says lr now = begun_step b bs i sp.1 sp.2 tk (let e = sp.0 in omega (arith, e, l)) lr now (λ k n. step b.more (suc (last_word b)) bs (suc i) sp.2 k tk.1 says lr.1 n)
  step false free (b ∷ bs) i sp l tk says lr now = elim (cases_lt b.cycle t) [
    | inl k ↦ begun_step b bs i sp.1 sp.2 tk k lr now
        (λ m n. step b.more (suc (last_word b)) bs (suc i) sp.2 m tk.1 (record { forth = λ o. says.forth (inr o); back = λ o. elim (says.back o) [ inl e ↦ absurd (omega (arith, e, k)) | inr x ↦ x ] }) lr.1 n)
    | inr g ↦ elim (cases_eq t b.cycle) [
      | inl e ↦ (let one = says.forth (inl e) in
          let here = at_before b bs t g in
          let none = none_before b bs t g in
          let took : d ≡ b.wait = now (ap (λ p. asks p r (lst t)) here ∙ eq-eqb r 1 one) ∙ ap w (omega (arith, none)) ∙ sym tk.0 in
          let some = sp.1.some in
          stepped_as r (lst t) d here (ap (λ x. phase_at (b ∷ bs) (suc x)) e ∙ at_first b bs sp.1 d (sym took)) none
          (one_after b bs (suc t) (omega (arith, e)) ∙ ap suc (none_yet b.more (suc (last_word b)) bs (suc t) sp.2 (omega (arith, e, some))))
          (asks_now r (lst t) d one))
      | inr n ↦ stepped_as r (lst t) d (at_before b bs t g) (at_before b bs (suc t) (omega (arith, g, n))) (none_before b bs t g) (none_before b bs (suc t) (omega (arith, g, n)))
          (stays_idle r (lst t) d (λ o. elim (says.back o) [ inl e ↦ n e | inr x ↦ (let p = opens_late b.more (suc (last_word b)) bs t sp.2 x in omega (arith, p, g)) ]))
    ]
  ]

-- READY is 1 where a word moves
moves_late : (going : Bool) (free : ℕ) (bs : List Burst) (t : ℕ) → Spaced going free bs → Moves bs t → free ≤ t
moves_late going free [] t sp o = absurd o
moves_late true free (b ∷ bs) t sp (inl m) = let e = sp.0 in let p = m.0 in omega (arith, e, p)
moves_late false free (b ∷ bs) t sp (inl m) = let e = sp.0 in let p = m.0 in omega (arith, e, p)
moves_late true free (b ∷ bs) t sp (inr m) = let e = sp.0 in let p = moves_late b.more (suc (last_word b)) bs t sp.2 m in omega (arith, e, p)
moves_late false free (b ∷ bs) t sp (inr m) = let e = sp.0 in let p = moves_late b.more (suc (last_word b)) bs t sp.2 m in omega (arith, e, p)

pub says_as : {v w : ℕ} {A B : Type 0} → v ≡ w → Says w A → (A → B) → (B → A) → Says v B
says_as e s f g = record { forth = λ b. e ∙ s.forth (g b); back = λ o. f (s.back (sym e ∙ o)) }

pub says_not : {w : ℕ} {A : Type 0} → w ≡ 0 → (A → ⊥) → Says w A
says_not e n = record { forth = λ a. absurd (n a); back = λ o. absurd (let x = sym e ∙ o in omega (arith, x)) }

ready_says : (going : Bool) (free : ℕ) (bs : List Burst) (t : ℕ) → Spaced going free bs → Says (ready_word (phase_at bs t)) (Moves bs t)
ready_says going free [] t sp = says_not refl (λ o. o)
ready_says going free (b ∷ bs) t sp = let late : Moves bs t → suc (last_word b) ≤ t = (λ m. moves_late b.more (suc (last_word b)) bs t sp.2 m) in elim (cases_lt b.cycle t) [
  | inr g ↦ says_not (ap ready_word (at_before b bs t g)) (λ o. elim o [ inl m ↦ (let p = m.0 in omega (arith, p, g)) | inr m ↦ (let p = late m in omega (arith, p, g)) ])
  | inl l ↦ elim (cases_lt (last_word b) t) [
    | inl k ↦ says_as (ap ready_word (at_after b bs t k)) (ready_says b.more (suc (last_word b)) bs t sp.2) (λ m. inr m) (λ o. elim o [ inl m ↦ (let p = m.1 in absurd (omega (arith, p, k))) | inr m ↦ m ])
    | inr k ↦ elim (cases_lt t (first_word b)) [
      | inl f ↦ says_not (ap ready_word (at_wait b bs t l f)) (λ o. elim o [ inl m ↦ (let p = m.0 in omega (arith, p, f)) | inr m ↦ (let p = late m in omega (arith, p, k)) ])
      | inr f ↦ record { forth = λ o. ap ready_word (at_move b bs t f k); back = λ o. inl (f, k) }
    ]
  ]
]

module _ (g : Setting) (s : Signals) (before : List PlainCell) (channel ready request last bound : ℕ) (bs : List Burst) (upto : ℕ)
    (runs : RunsChannel g s before channel ready request last) (sp : Spaced false 0 bs) (tk : Takes (taken g s before channel request last bound) 0 bs) (less : upto < bound)
    (req : Pulses (λ t. s.net t request) (Opens false bs) upto) (lr : LastRight (λ t. s.net t last) upto bs) where
  abbrev ask : ℕ → Bool
  ask = channel_asks s channel request last

  so_far : (t : ℕ) → t ≤ suc upto → (s.phase t channel ≡ phase_at bs t) × (asked_by ask t ≡ begun bs t)
  so_far zero l = let z = idle_yet 0 bs 0 sp (omega arith) in (runs.begins ∙ sym z.0, sym z.1)
  so_far (suc t) l =
      let h = so_far t (omega (arith, l)) in
      let same : ask t ≡ asks (phase_at bs t) (s.net t request) (s.net t last) = ap (λ p. asks p (s.net t request) (s.net t last)) h.0 in
      let z = step (taken g s before channel request last bound) (λ t. s.net t last) upto t (s.net t request) (delay_of g s t before) (omega (arith, l)) false 0 bs 0 sp (omega arith) tk (req t (omega (arith, l))) lr
      (λ a. sym (finds ask (λ t. delay_of g s t before) t bound (same ∙ a) (omega (arith, l, less))) ∙ ap (taken g s before channel request last bound) (let e = h.1 in omega (arith, e))) in (
        runs.goes_on t ∙ ap (λ p. next_phase p (s.net t request) (s.net t last) (delay_of g s t before)) h.0 ∙ sym z.0,
        ap₂ (λ a n. if a then suc n else n) same h.1 ∙ sym z.1,
      )

  follows : FollowsBursts s channel ready request last bs (suc upto)
  follows = record {
    phase = λ t l. (so_far t l).0;
    asked = λ t l. (so_far t l).1;
    ready = λ t l. says_as (runs.shows t ∙ ap ready_word (so_far t l).0) (ready_says false 0 bs t sp) (λ m. m) (λ m. m);
  }

pub channel_follows : ChannelFollows
channel_follows g s before channel ready request last bound bs upto runs sp tk less req lr = follows g s before channel ready request last bound bs upto runs sp tk less req lr

-- the bursts of transfers
module _ (w : ℕ → ℕ) where
  pub joined_spaced : (going : Bool) (free c i full rest : ℕ) (bs : List Burst) → Begins going free c → 0 < rest → rest ≤ 16 → Spaced false (suc (bursts_end w c i full rest)) bs → Spaced going free (bursts w c i full rest ++ bs)
  joined_spaced going free c i zero rest bs b m n sp = (b, record { some = m; few = n; full = λ e. absurd (true≢false (sym e)) }, sp)
  joined_spaced going free c i (suc full) rest bs b m n sp = (b, record { some = omega arith; few = omega arith; full = λ e. refl }, joined_spaced true (suc (c + w i + 16)) (c + w i + 16) (suc i) full rest bs refl m n sp)

  joined_takes : (c i full rest : ℕ) (bs : List Burst) → Takes w (suc (i + full)) bs → Takes w i (bursts w c i full rest ++ bs)
  joined_takes c i zero rest bs tk = (refl, subst (λ k. Takes w k bs) (omega arith) tk)
  joined_takes c i (suc full) rest bs tk = (refl, joined_takes (c + w i + 16) (suc i) full rest bs (subst (λ k. Takes w k bs) (omega arith) tk))

  going_opens : (c i full rest : ℕ) (bs : List Burst) (t : ℕ) → Opens true (bursts w c i full rest ++ bs) t ≡ Opens false bs t
  going_opens c i zero rest bs t = refl
  going_opens c i (suc full) rest bs t = going_opens (c + w i + 16) (suc i) full rest bs t

  pub joined_opens : (c i full rest : ℕ) (bs : List Burst) (t : ℕ) → Opens false (bursts w c i full rest ++ bs) t ≡ ((t ≡ c) ⊎ Opens false bs t)
  joined_opens c i zero rest bs t = refl
  joined_opens c i (suc full) rest bs t = ap (λ X. (t ≡ c) ⊎ X) (going_opens (c + w i + 16) (suc i) full rest bs t)

  all_spaced : (free i : ℕ) (xs : List Transfer) → Ordered w free i xs → Spaced false free (all_bursts w xs)
  all_spaced free i [] o = refl
  all_spaced free i (x ∷ xs) o = joined_spaced false free (suc x.start) x.first x.full x.rest (all_bursts w xs) o.0 o.2 o.3 (all_spaced (transfer_end w x) (suc (i + x.full)) xs o.4)

  all_takes : (free i : ℕ) (xs : List Transfer) → Ordered w free i xs → Takes w i (all_bursts w xs)
  all_takes free i [] o = tt
  all_takes free i (x ∷ xs) o = subst (λ k. Takes w k (all_bursts w (x ∷ xs))) o.1
      (joined_takes (suc x.start) x.first x.full x.rest (all_bursts w xs) (subst (λ k. Takes w (suc (k + x.full)) (all_bursts w xs)) (sym o.1) (all_takes (transfer_end w x) (suc (i + x.full)) xs o.4)))

  all_opens : (xs : List Transfer) (t : ℕ) → Opens false (all_bursts w xs) t ≡ Asks xs t
  all_opens [] t = refl
  all_opens (x ∷ xs) t = joined_opens (suc x.start) x.first x.full x.rest (all_bursts w xs) t ∙ ap (λ X. (t ≡ suc x.start) ⊎ X) (all_opens xs t)

pub transfers_follow : TransfersFollow
transfers_follow g s before channel ready request last bound xs upto runs o less req lr =
    let w = taken g s before channel request last bound in
    channel_follows g s before channel ready request last bound (all_bursts w xs) upto runs (all_spaced w 0 0 xs o) (all_takes w 0 0 xs o) less
    (λ t l. says_as refl (req t l) (λ a. subst (λ X. X) (sym (all_opens w xs t)) a) (λ a. subst (λ X. X) (all_opens w xs t) a)) lr
