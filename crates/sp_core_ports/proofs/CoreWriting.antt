-- Two writes of one memory, by stages that may be at work at once, stand in the meets as those of one element do.
use Rattle.std.proofs.Common.{◌≡◌, ℕ, zero, suc, ◌-◌, ◌<◌, ◌≤◌, inl, inr, Bool, true, false, cond, List, [], ◌∷◌, ◌++◌, length, arith, refl, sym, ap, ◌∙◌}
use Rattle.std.proofs.lemmas.Bool.{cases_lt, eq-eqb, ne_eqb, lt-ltb, true≢false, false≢true}
use Rattle.std.specs.Prelude.{◌==◌, ◌&&◌, ◌||◌, not, slice_index_or}
use Rattle.sp_core.specs.declared.access.Meet.{Meet}
use Rattle.sp_core.specs.Declarations.{mem, kind_of, dims}
use Rattle.sp_core.specs.Events.{At, in_group_of, Event}
use Rattle.sp_core.specs.Meeting.{changes, element, is_one_element, is_group, go_on, together_at, together, in_loop, nowhere, is_in_stream, is_at_once, owns, share_port, stand_apart, do_stand, is_met}
use Rattle.sp_core.specs.PlainCore.{PlainMem, no_mem, PlainCore}
use Rattle.sp_plan.specs.Ports.{has_banks}
use Rattle.sp_time.specs.Lists.{Each}
use Rattle.sp_overlap.proofs.Inside.{BeginsAt}

-- a memory with banks is on the chip
past_last : (ms : List PlainMem) (m : ℕ) → length ms ≤ m → slice_index_or ms m no_mem ≡ no_mem
past_last [] zero l = refl
past_last [] (suc m) l = refl
past_last (x ∷ ms) zero l = absurd (omega (arith, l))
past_last (x ∷ ms) (suc m) l = past_last ms m (omega arith)

pub on_chip : (core : PlainCore) (m : ℕ) → has_banks (mem core m).kind ≡ true → m < length core.mems
on_chip core m h = elim (cases_lt m (length core.mems)) [
  | inl l ↦ l
  | inr l ↦ absurd (true≢false (sym h ∙ ap (λ (x : PlainMem). has_banks x.kind) (past_last core.mems m l)))
]

module _ (core : PlainCore) (k : ℕ) (no_stream : is_in_stream core k ≡ false) where
  abbrev group_at : (g s : ℕ) → At
  group_at g s = record { node = k; when = in_group_of g s }

  -- events of two stages are compared over the loop
  go_apart : (i j : ℕ) → (i ≡ j → ⊥) → (a b : List At) → BeginsAt i a → BeginsAt j b → go_on a b ≡ false
  go_apart i j n [] b p q = refl
  go_apart i j n (a ∷ x) [] p q = refl
  go_apart i j n (a ∷ x) (b ∷ y) p q = ne_eqb a.node b.node (λ e. n (sym p ∙ e ∙ q))

  meet_there : (g s h r : ℕ) (a b : List At) → go_on a b ≡ false → (path : List At) → Each (λ (x : At). (is_in_stream core x.node ≡ false) × (is_group x.when x.when ≡ true)) path
      → together core (path ++ group_at g s ∷ a) (path ++ group_at h r ∷ b) ≡ in_loop k g h (s == r)
  meet_there g s h r a b apart [] e =
      ap (λ t. cond t (cond (go_on a b) (cond (is_group (in_group_of g s) (in_group_of h r)) (together core a b) nowhere) (in_loop k g h (s == r))) nowhere) (here (k == k) (is_in_stream core k) (eq-eqb k k refl) no_stream)
      ∙ ap (λ t. cond t (cond (is_group (in_group_of g s) (in_group_of h r)) (together core a b) nowhere) (in_loop k g h (s == r))) apart
    where
      here : (x y : Bool) → x ≡ true → y ≡ false → (x && not y) ≡ true
      here true true p q = absurd (true≢false q)
      here true false p q = refl
      here false y p q = absurd (false≢true p)
  meet_there g s h r a b apart (x ∷ path) e =
      ap (λ t. cond (t && not (is_in_stream core x.node)) (cond (go_on (path ++ group_at g s ∷ a) (path ++ group_at h r ∷ b)) (cond (is_group x.when x.when) (together core (path ++ group_at g s ∷ a) (path ++ group_at h r ∷ b)) nowhere) (together_at x.node x.when x.when)) nowhere) (eq-eqb x.node x.node refl)
      ∙ ap (λ t. cond (not t) (cond (go_on (path ++ group_at g s ∷ a) (path ++ group_at h r ∷ b)) (cond (is_group x.when x.when) (together core (path ++ group_at g s ∷ a) (path ++ group_at h r ∷ b)) nowhere) (together_at x.node x.when x.when)) nowhere) e.0.0
      ∙ ap (λ t. cond t (cond (is_group x.when x.when) (together core (path ++ group_at g s ∷ a) (path ++ group_at h r ∷ b)) nowhere) (together_at x.node x.when x.when)) (goes path)
      ∙ ap (λ t. cond t (together core (path ++ group_at g s ∷ a) (path ++ group_at h r ∷ b)) nowhere) e.0.1
      ∙ meet_there g s h r a b apart path e.1
    where
      goes : (path : List At) → go_on (path ++ group_at g s ∷ a) (path ++ group_at h r ∷ b) ≡ true
      goes [] = eq-eqb k k refl
      goes (y ∷ path) = eq-eqb y.node y.node refl

  -- the second one as if it were at the element of the first
  abbrev pub there : Event → Event → Event
  there e f = record f { indices = e.indices }

  append_one : (path : List At) (x : At) (rest : List At) → (path ++ x ∷ []) ++ rest ≡ path ++ x ∷ rest
  append_one [] x rest = refl
  append_one (y ∷ path) x rest = ap (λ t. y ∷ t) (append_one path x rest)

  -- where a port is shared it doesn't matter whether the elements are one
  alike : (test own e d port stand : Bool) → port ≡ true → (test || ((own || (not e && not port)) || stand)) ≡ true → (test || ((own || (not d && not port)) || stand)) ≡ true
  alike test own true true true stand p h = h
  alike test own true false true stand p h = h
  alike test own false true true stand p h = h
  alike test own false false true stand p h = h
  alike test own e d false stand p h = absurd (false≢true p)

  pub met_there : (meets : List Meet) (path : List At) → Each (λ (x : At). (is_in_stream core x.node ≡ false) × (is_group x.when x.when ≡ true)) path → (i j : ℕ) → (i ≡ j → ⊥) → (g s h r : ℕ) (e f : Event) (a b : List At)
      → e.standing.path ≡ (path ++ group_at g s ∷ []) ++ a → f.standing.path ≡ (path ++ group_at h r ∷ []) ++ b → BeginsAt i a → BeginsAt j b → (s ≡ r → ⊥) → is_at_once core k ≡ true → e.mem < length core.mems → is_met core meets e f ≡ true → is_met core meets e (there e f) ≡ true
  met_there meets path around i j n g s h r e f a b p q pa qb apart once chip met =
      let at : together core e.standing.path f.standing.path ≡ in_loop k g h (s == r) =
      ap (λ x. together core x f.standing.path) (p ∙ append_one path (group_at g s) a) ∙ ap (together core (path ++ group_at g s ∷ a)) (q ∙ append_one path (group_at h r) b) ∙ meet_there g s h r a b (go_apart i j n a b pa qb) path around in
      let test : Bool = not (e.mem == f.mem) || not (changes e.act || changes f.act) in
      let x : (test || do_stand core meets e f (in_loop k g h (s == r))) ≡ true = ap (λ t. test || do_stand core meets e f t) (sym at) ∙ met in
      let y : (test || do_stand core meets e (there e f) (in_loop k g h (s == r))) ≡ true =
      alike test (owns core k e.mem && not (g == h)) (is_one_element core e f) (is_one_element core e (there e f)) (share_port core e k (s == r)) (stand_apart core meets e f (h - g)) port x in
      ap (λ t. test || do_stand core meets e (there e f) t) at ∙ y
    where
      all_true : (x y z : Bool) → x ≡ false → y ≡ true → z ≡ true → ((not x && y) && z) ≡ true
      all_true false true true p q r = refl
      all_true true y z p q r = absurd (true≢false p)
      all_true false false z p q r = absurd (false≢true q)
      all_true false true false p q r = absurd (false≢true r)

      port : share_port core e k (s == r) ≡ true
      port = all_true (s == r) (is_at_once core k) _ (ne_eqb s r apart) once (lt-ltb _ _ chip)

  -- then the elements are one
  pub one_there : (e f : Event) → e.mem ≡ f.mem → is_one_element core e (there e f) ≡ true
  one_there e f m = eq-eqb _ _ (ap (λ z. element (kind_of core z) (dims core z) e.indices) m)
