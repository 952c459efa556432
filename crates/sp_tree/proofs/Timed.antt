-- How a step depends on the turns that are left: it takes a number of them, needs as many, and does the same with any
-- more.
use Rattle.std.proofs.Common.{◌≡◌, ℕ, zero, suc, ◌+◌, ◌-◌, ◌<◌, ◌≤◌, Bool, true, false, List, [], ◌∷◌, refl, sym, ◌∙◌, ap, subst, arith}
use Rattle.std.proofs.Math.Decide.{dec_lt}
use Rattle.sp_tree.specs.declared.statement.FaultKind.{FaultKind}
use Rattle.sp_tree.specs.Step.{Step, Went, went, faulted, more, pure, ◌>>=◌, ◌>>◌, turn, out_of_turns, fault, read, change, repeated, as_long_as}
use Rattle.sp_tree.specs.Store.{Store}
use Rattle.sp_tree.proofs.Closure.{IsClosed, Loops, repeated_Q}

abbrev pub TimedAt : {A : Type 0} → Step A → Store → (left : ℕ) → Went A → Type 0
TimedAt step s left (went a rest s') = (t : ℕ) × (t + rest ≡ left) × ((m : ℕ) → step (t + m) s ≡ went a m s') × ((m : ℕ) → m < t → step m s ≡ more)
TimedAt step s left (faulted kind place) = (t : ℕ) × (t ≤ left) × ((m : ℕ) → step (t + m) s ≡ faulted kind place) × ((m : ℕ) → m < t → step m s ≡ more)
TimedAt step s left more = (m : ℕ) → m ≤ left → step m s ≡ more

abbrev pub IsTimed : (A : Type 0) → Step A → Type 0
IsTimed A step = (left : ℕ) (s : Store) → TimedAt step s left (step left s)

-- what follows a step, by how the step went
bind-went : {A B : Type 0} (step : Step A) (rest : A → Step B) (left : ℕ) (s : Store) (a : A) (l : ℕ) (s' : Store) → step left s ≡ went a l s' → (step >>= rest) left s ≡ rest a l s'
unfolding ◌>>=◌
bind-went {B = B} step rest left s a l s' e = ap (λ w. elim w as (λ _. Went B) [ went a l s ↦ rest a l s | faulted kind place ↦ faulted kind place | more ↦ more ]) e

bind-faulted : {A B : Type 0} (step : Step A) (rest : A → Step B) (left : ℕ) (s : Store) (kind : FaultKind) (place : ℕ) → step left s ≡ faulted kind place → (step >>= rest) left s ≡ faulted kind place
unfolding ◌>>=◌
bind-faulted {B = B} step rest left s kind place e = ap (λ w. elim w as (λ _. Went B) [ went a l s ↦ rest a l s | faulted kind place ↦ faulted kind place | more ↦ more ]) e

bind-more : {A B : Type 0} (step : Step A) (rest : A → Step B) (left : ℕ) (s : Store) → step left s ≡ more → (step >>= rest) left s ≡ more
unfolding ◌>>=◌
bind-more {B = B} step rest left s e = ap (λ w. elim w as (λ _. Went B) [ went a l s ↦ rest a l s | faulted kind place ↦ faulted kind place | more ↦ more ]) e

-- a step that takes t turns, and then one that goes so
module _ {A B : Type 0} (step : Step A) (rest : A → Step B) (s : Store) (left : ℕ) (a : A) (l : ℕ) (s' : Store) (t : ℕ) (sum : t + l ≡ left) (same : (m : ℕ) → step (t + m) s ≡ went a m s') (fewer : (m : ℕ) → m < t → step m s ≡ more) where
  later : (k m : ℕ) → k ≡ t + m → (step >>= rest) k s ≡ rest a m s'
  later k m e = bind-went step rest k s a m s' (ap (λ n. step n s) e ∙ same m)

  short : (t2 m : ℕ) → ((k : ℕ) → k < t2 → rest a k s' ≡ more) → m < t + t2 → (step >>= rest) m s ≡ more
  short t2 m few lt = elim (dec_lt m t) [
    | yes h ↦ bind-more step rest m s (fewer m h)
    | no h ↦ later m (m - t) (omega arith) ∙ few (m - t) (omega arith)
  ]

  then_timed : (v : Went B) → TimedAt (rest a) s' l v → TimedAt (step >>= rest) s left v
  then_timed (went b l2 s2) r = (t + r.0, omega (arith, r.1), λ m. later (t + r.0 + m) (r.0 + m) (omega arith) ∙ r.2 m, λ m. short r.0 m r.3)
  then_timed (faulted kind place) r = (t + r.0, omega (arith, r.1), λ m. later (t + r.0 + m) (r.0 + m) (omega arith) ∙ r.2 m, λ m. short r.0 m r.3)
  then_timed more r = λ m h. elim (dec_lt m t) [
    | yes lt ↦ bind-more step rest m s (fewer m lt)
    | no ge ↦ later m (m - t) (omega arith) ∙ r (m - t) (omega arith)
  ]

bind_timed : {A B : Type 0} (step : Step A) (rest : A → Step B) → IsTimed A step → ((a : A) → IsTimed B (rest a)) → IsTimed B (step >>= rest)
unfolding ◌>>=◌
bind_timed {A = A} {B = B} step rest f g left s = go (step left s) (f left s)
  where
    go : (w : Went A) → TimedAt step s left w → TimedAt (step >>= rest) s left (elim w as (λ _. Went B) [ went a l s ↦ rest a l s | faulted kind place ↦ faulted kind place | more ↦ more ])
    go (went a l s') r = then_timed step rest s left a l s' r.0 r.1 r.2 r.3 (rest a l s') (g a l s')
    go (faulted kind place) r = (r.0, r.1, λ m. bind-faulted step rest (r.0 + m) s kind place (r.2 m), λ m h. bind-more step rest m s (r.3 m h))
    go more r = λ m h. bind-more step rest m s (r m h)

-- a step that takes no turn
still_timed : {A : Type 0} (look : Store → A) (next : Store → Store) → IsTimed A (λ left s. went (look s) left (next s))
still_timed look next left s = (0, omega arith, λ m. ap (λ k. went (look s) k (next s)) (omega arith), λ m h. absurd (omega arith))

pure_timed : {A : Type 0} (a : A) → IsTimed A (pure a)
unfolding pure
pure_timed a = still_timed (λ _. a) (λ s. s)

read_timed : {A : Type 0} (look : Store → A) → IsTimed A (read look)
unfolding read
read_timed look = still_timed look (λ s. s)

change_timed : (next : Store → Store) → IsTimed (Unit {0}) (change next)
unfolding change
change_timed next = still_timed (λ _. tt) next

no_turn_timed : (A : Type 0) → IsTimed A out_of_turns
unfolding out_of_turns
no_turn_timed A left s m h = refl

fault_timed : (A : Type 0) (kind : FaultKind) (place : ℕ) → IsTimed A (fault kind place)
unfolding fault
fault_timed A kind place left s = (0, omega arith, λ m. refl, λ m h. absurd (omega arith))

turn_at : (k m : ℕ) (s : Store) → k ≡ suc m → turn k s ≡ went tt m s
unfolding turn
turn_at k m s e = ap (λ n. turn n s) e

no_turn_at : (k : ℕ) (s : Store) → k ≡ 0 → turn k s ≡ more
unfolding turn
no_turn_at k s e = ap (λ n. turn n s) e

turn_timed : IsTimed (Unit {0}) turn
unfolding turn
turn_timed zero s = λ m h. no_turn_at m s (omega arith)
turn_timed (suc left) s = (1, omega arith, λ m. turn_at (1 + m) m s (omega arith), λ m h. no_turn_at m s (omega arith))

pub timed_closed : IsClosed IsTimed (λ _. true)
timed_closed = record {
  of_pure = pure_timed;
  of_bind = bind_timed;
  of_turn = turn_timed;
  of_no_turn = no_turn_timed _;
  of_fault = fault_timed _;
  of_held = λ m f h. read_timed (λ s. f (s.held m));
  of_value = λ v. read_timed (λ s. s.values v);
  of_count = λ n. read_timed (λ s. s.counts n);
  of_hold = λ m contents h. change_timed _;
  of_name = λ v w. change_timed _;
  of_set = λ n w. change_timed _;
}

-- where a step went on, at most as many turns are left
left_le : {A : Type 0} (step : Step A) → IsTimed A step → (left : ℕ) (s : Store) (a : A) (l : ℕ) (s' : Store) → step left s ≡ went a l s' → l ≤ left
left_le step f left s a l s' e = let r : TimedAt step s left (went a l s') = subst (TimedAt step s left) e (f left s) in omega (arith, r.1)

-- and fewer where it begins with a turn
left_lt : {A : Type 0} (step : Step A) → IsTimed A step → (left : ℕ) (s : Store) (a : A) (l : ℕ) (s' : Store) → (turn >> step) left s ≡ went a l s' → l < left
unfolding ◌>>=◌ turn
left_lt step f zero s a l s' e = absurd (cc)
left_lt step f (suc left) s a l s' e = let h : l ≤ left = left_le step f left s a l s' e in omega arith

-- two steps that go on alike after one
bind_alike : {A B : Type 0} (step : Step A) (one two : A → Step B) (left : ℕ) (s : Store) → ((a : A) (l : ℕ) (s' : Store) → step left s ≡ went a l s' → one a l s' ≡ two a l s') → (step >>= one) left s ≡ (step >>= two) left s
bind_alike {A = A} step one two left s alike = go (step left s) refl
  where
    go : (w : Went A) → step left s ≡ w → (step >>= one) left s ≡ (step >>= two) left s
    go (went a l s') e = bind-went step one left s a l s' e ∙ alike a l s' e ∙ sym (bind-went step two left s a l s' e)
    go (faulted kind place) e = bind-faulted step one left s kind place e ∙ sym (bind-faulted step two left s kind place e)
    go more e = bind-more step one left s e ∙ sym (bind-more step two left s e)

bind_same : {A B : Type 0} (one two : Step A) (rest : A → Step B) (left : ℕ) (s : Store) → one left s ≡ two left s → (one >>= rest) left s ≡ (two >>= rest) left s
unfolding ◌>>=◌
bind_same {B = B} one two rest left s e = ap (λ w. elim w as (λ _. Went B) [ went a l s ↦ rest a l s | faulted kind place ↦ faulted kind place | more ↦ more ]) e

module _ {A B : Type 0} (test : A → Step Bool) (step : A → Step (A × B)) (t : (a : A) → IsTimed Bool (test a)) (q : (a : A) → IsTimed (A × B) (step a)) where
  loop : ℕ → A → Step (List B)
  loop most a = repeated most test (λ x. turn >> step x) a

  again : ℕ → A × B → Step (List B)
  again most r = loop most r.0 >>= (λ others. pure (r.1 ∷ others))

  none_left : (g : ℕ) (a : A) (l : ℕ) (s : Store) → l ≡ 0 → (holds : Bool) → (elim holds as (λ _. Step (List B)) [ true ↦ out_of_turns | false ↦ pure [] ]) l s ≡ (elim holds as (λ _. Step (List B)) [ true ↦ (turn >> step a) >>= again g | false ↦ pure [] ]) l s
  unfolding out_of_turns
  none_left g a l s e true = sym (bind-more (turn >> step a) (again g) l s (bind-more turn (λ _. step a) l s (no_turn_at l s e)))
  none_left g a l s e false = refl

  some_left : (f g : ℕ) → ((l : ℕ) (s : Store) (a : A) → l ≤ f → l ≤ g → loop f a l s ≡ loop g a l s) → (a : A) (l : ℕ) (s : Store) → l ≤ suc f → l ≤ suc g → (holds : Bool) → (elim holds as (λ _. Step (List B)) [ true ↦ (turn >> step a) >>= again f | false ↦ pure [] ]) l s ≡ (elim holds as (λ _. Step (List B)) [ true ↦ (turn >> step a) >>= again g | false ↦ pure [] ]) l s
  unfolding again ◌>>=◌
  some_left f g same a l s hf hg true = bind_alike (turn >> step a) (again f) (again g) l s (λ r l2 s2 e.
      let lt : l2 < l = left_lt (step a) (q a) l s r l2 s2 e in
      bind_same (loop f r.0) (loop g r.0) (λ others. pure (r.1 ∷ others)) l2 s2 (same l2 s2 r.0 (omega arith) (omega arith)))
  some_left f g same a l s hf hg false = refl

  -- a bound on the turns of a loop makes no difference where it isn't below the turns that are left
  same_bound : (f g left : ℕ) (s : Store) (a : A) → left ≤ f → left ≤ g → loop f a left s ≡ loop g a left s
  unfolding repeated loop again
  same_bound zero zero left s a hf hg = refl
  same_bound zero (suc g) left s a hf hg = bind_alike (test a) _ _ left s (λ holds l s' e. none_left g a l s' (let h : l ≤ left = left_le (test a) (t a) left s holds l s' e in omega arith) holds)
  same_bound (suc f) zero left s a hf hg = bind_alike (test a) _ _ left s (λ holds l s' e. sym (none_left f a l s' (let h : l ≤ left = left_le (test a) (t a) left s holds l s' e in omega arith) holds))
  same_bound (suc f) (suc g) left s a hf hg = bind_alike (test a) _ _ left s (λ holds l s' e.
      let h : l ≤ left = left_le (test a) (t a) left s holds l s' e in
      some_left f g (λ l s a. same_bound f g l s a) a l s' (omega arith) (omega arith) holds)

  loop_timed : (most : ℕ) (a : A) → IsTimed (List B) (loop most a)
  unfolding loop
  loop_timed most a = repeated_Q IsTimed (λ _. true) timed_closed test (λ x. turn >> step x) t (λ x. bind_timed turn (λ _. step x) turn_timed (λ _. q x)) most a

  module _ (a : A) (s : Store) (left : ℕ) where
    -- the same bound for each number of turns
    at : (most m : ℕ) → m ≤ most → loop m a m s ≡ loop most a m s
    at most m h = same_bound m most m s a (omega arith) h

    by_bound : (most : ℕ) → left ≤ most → (w : Went (List B)) → loop left a left s ≡ w → TimedAt (loop most a) s left w
    by_bound most h w e = subst (TimedAt (loop most a) s left) (sym (at most left h) ∙ e) (loop_timed most a left s)

    still : (kind : FaultKind) (place : ℕ) → loop left a left s ≡ faulted kind place → (r : TimedAt (loop left a) s left (faulted kind place)) (m : ℕ) → loop (r.0 + m) a (r.0 + m) s ≡ faulted kind place
    still kind place e r m =
        let r' : TimedAt (loop (left + (r.0 + m)) a) s left (faulted kind place) = by_bound (left + (r.0 + m)) (omega arith) (faulted kind place) e in
        elim (dec_lt r.0 r'.0) [
          | yes lt ↦
              let first : loop (left + (r.0 + m)) a r.0 s ≡ faulted kind place = sym (at (left + (r.0 + m)) r.0 (omega arith)) ∙ at left r.0 r.1 ∙ ap (λ n. loop left a n s) (omega arith) ∙ r.2 0 in
              let both : faulted kind place ≡ more = sym first ∙ r'.3 r.0 lt in
              absurd (cc)
          | no ge ↦ at (left + (r.0 + m)) (r.0 + m) (omega arith) ∙ ap (λ n. loop (left + (r.0 + m)) a n s) (omega arith) ∙ r'.2 (r.0 + m - r'.0)
        ]

    as_long_as_at : (w : Went (List B)) → loop left a left s ≡ w → TimedAt (λ n s. loop n a n s) s left w
    as_long_as_at (went b l s') e =
        let r = by_bound left (omega arith) (went b l s') e in (
          r.0,
          r.1,
          λ m. let r' = by_bound (left + (r.0 + m)) (omega arith) (went b l s') e in
              at (left + (r.0 + m)) (r.0 + m) (omega arith) ∙ ap (λ n. loop (left + (r.0 + m)) a n s) (omega (arith, r.1, r'.1)) ∙ r'.2 m,
          λ m lt. at left m (omega (arith, r.1)) ∙ r.3 m lt,
        )
    as_long_as_at (faulted kind place) e =
        let r = by_bound left (omega arith) (faulted kind place) e in
        (r.0, r.1, λ m. still kind place e r m, λ m lt. at left m (omega (arith, r.1)) ∙ r.3 m lt)
    as_long_as_at more e = λ m h. at left m h ∙ by_bound left (omega arith) more e m h

pub timed_loops : Loops IsTimed
unfolding as_long_as loop
timed_loops A B test step t q a left s = as_long_as_at test step t q a s left (loop test step t q left a left s) refl
