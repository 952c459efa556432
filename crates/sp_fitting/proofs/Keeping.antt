-- Steps from a store whose words fit: what they leave fits, and what they give has a property.
use Rattle.std.proofs.Common.{◌≡◌, ℕ, zero, suc, Bool, true, false, List, [], ◌∷◌, Option, Some, None, All, refl, subst}
use Rattle.std.proofs.lemmas.List.Elements.{All-nil, All-cons, All-head}
use Rattle.std.specs.Prelude.{nat_lt, length}
use Rattle.sp_words.specs.Memory.{Contents}
use Rattle.sp_words.specs.Words.{IsWord}
use Rattle.sp_core.specs.Accesses.{hold_now, written, first_of_queue, read_in, write_in, turn_rows, enqueue, dequeue}
use Rattle.sp_core.specs.Declarations.{kind_of, dims, room}
use Rattle.sp_core.specs.PlainCore.{PlainCore}
use Rattle.sp_core.specs.Step.{Step, Went, went, stopped, more, pure, ◌>>=◌, stop, ensure, out_of_turns, look, change, in_order, repeated}
use Rattle.sp_core.specs.Store.{Store}
use Rattle.sp_core.proofs.Replays.{not_stopped, not_more, same_value, same_store}
use Rattle.sp_fitting.specs.Fitting.{type_at, IsCell, AreWords, StoreFits}
use Rattle.sp_fitting.proofs.Contents.{queue_fits, word_found, word_put, newest_put, oldest_taken, rows_turned, held}

-- whatever it gives
abbrev pub Anything : {A : Type 0} → A → Type 0
Anything a = Unit {0}

module _ (core : PlainCore) where
  abbrev pub Keeps : {A : Type 0} → (A → Type 0) → Step A → Type 0
  Keeps {A = A} P step = (s t : Store) (a : A) → StoreFits core s → step s ≡ went a t → StoreFits core t × P a

  pub bind_keeps : {A B : Type 0} (step : Step A) (rest : A → Step B) (P : A → Type 0) (R : B → Type 0) → Keeps P step → ((a : A) → P a → Keeps R (rest a)) → Keeps R (step >>= rest)
  unfolding ◌>>=◌
  bind_keeps {A = A} {B = B} step rest P R f g s t b fits e = go (step s) refl e
    where
      go : (w : Went A) → step s ≡ w → (elim w as (λ _. Went B) [ went a s ↦ rest a s | stopped ↦ stopped | more ↦ more ]) ≡ went b t → StoreFits core t × R b
      go (went a u) h k = let first = f s u a fits h in g a first.1 u t b first.0 k
      go stopped h k = not_stopped b t k
      go more h k = not_more b t k

  pub pure_keeps : {A : Type 0} (P : A → Type 0) (a : A) → P a → Keeps P (pure a)
  unfolding pure
  pure_keeps P a p s t b fits e = (subst (StoreFits core) (same_store a b s t e) fits, subst P (same_value a b s t e) p)

  pub stop_keeps : {A : Type 0} (P : A → Type 0) → Keeps P stop
  unfolding stop
  stop_keeps P s t a fits e = not_stopped a t e

  pub no_turn_keeps : {A : Type 0} (P : A → Type 0) → Keeps P out_of_turns
  unfolding out_of_turns
  no_turn_keeps P s t a fits e = not_more a t e

  pub weaker_keeps : {A : Type 0} (P R : A → Type 0) (step : Step A) → ((a : A) → P a → R a) → Keeps P step → Keeps R step
  weaker_keeps P R step w f s t a fits e = let g = f s t a fits e in (g.0, w a g.1)

  pub ensure_keeps : (b : Bool) → Keeps Anything (ensure b)
  ensure_keeps true = pure_keeps Anything tt tt
  ensure_keeps false = stop_keeps Anything

  pub look_keeps : {A : Type 0} (P : A → Type 0) (at : Store → A) → ((s : Store) → StoreFits core s → P (at s)) → Keeps P (look at)
  unfolding look
  look_keeps P at f s t a fits e = (subst (StoreFits core) (same_store (at s) a s t e) fits, subst P (same_value (at s) a s t e) (f s fits))

  pub change_keeps : (next : Store → Store) → ((s : Store) → StoreFits core s → StoreFits core (next s)) → Keeps Anything (change next)
  unfolding change
  change_keeps next f s t a fits e = (subst (StoreFits core) (same_store tt a (next s) t e) (f s fits), tt)

  -- a step, and then one that doesn't ask what it gave
  pub then_keeps : {A B : Type 0} (step : Step A) (rest : A → Step B) (R : B → Type 0) → Keeps Anything step → ((a : A) → Keeps R (rest a)) → Keeps R (step >>= rest)
  then_keeps step rest R f g = bind_keeps step rest Anything R f (λ a u. g a)

  -- of each element of a list
  pub each_keeps : {A B : Type 0} (step : A → Step B) (P : B → Type 0) → ((a : A) → Keeps P (step a)) → (xs : List A) → Keeps (All P) (in_order step xs)
  unfolding in_order
  each_keeps step P f [] = pure_keeps (All P) [] (All-nil P)
  each_keeps step P f (x ∷ xs) = bind_keeps (step x) _ P _ (f x) (λ y p. bind_keeps (in_order step xs) _ (All P) _ (each_keeps step P f xs) (λ ys h. pure_keeps _ (y ∷ ys) (All-cons P y ys p h)))

  -- the turns of an FSM, and its last test
  pub repeated_keeps : {A B : Type 0} (Q : A → Type 0) (P : B → Type 0) (test : Step A) (holds : A → Bool) (turn : A → Step B) → Keeps Q test → ((a : A) → Q a → Keeps P (turn a)) → (many : ℕ) → Keeps (λ r. All P r.0 × Q r.1) (repeated many test holds turn)
  unfolding repeated
  repeated_keeps {A = A} {B = B} Q P test holds turn q f zero = bind_keeps test _ Q _ q (λ a h. choose (holds a) a h)
    where
      choose : (b : Bool) (a : A) → Q a → Keeps (λ (r : List B × A). All P r.0 × Q r.1) (elim b as (λ _. Step (List B × A)) [ true ↦ out_of_turns | false ↦ pure ([], a) ])
      choose true a h = no_turn_keeps _
      choose false a h = pure_keeps _ ([], a) (All-nil P, h)
  repeated_keeps {A = A} {B = B} Q P test holds turn q f (suc many) = bind_keeps test _ Q _ q (λ a h. choose (repeated_keeps Q P test holds turn q f many) (holds a) a h)
    where
      choose : Keeps (λ (r : List B × A). All P r.0 × Q r.1) (repeated many test holds turn) → (b : Bool) (a : A) → Q a
          → Keeps (λ (r : List B × A). All P r.0 × Q r.1) (elim b as (λ _. Step (List B × A)) [ true ↦ turn a >>= (λ first. repeated many test holds turn >>= (λ r. pure (first ∷ r.0, r.1))) | false ↦ pure ([], a) ])
      choose others true a h = bind_keeps (turn a) _ P _ (f a h) (λ b p. bind_keeps (repeated many test holds turn) _ _ _ others (λ r hs. pure_keeps _ (b ∷ r.0, r.1) (All-cons P b r.0 p hs.0, hs.1)))
      choose others false a h = pure_keeps _ ([], a) (All-nil P, h)

  -- accesses
  pub hold_keeps : (m : ℕ) (c : Contents) → AreWords (type_at core m) c → Keeps Anything (hold_now m c)
  hold_keeps m c p = change_keeps _ (λ s fits. held core s m c p fits)

  written_keeps : (m : ℕ) (found : Option ℕ) → IsCell (type_at core m) found → Keeps (IsWord (type_at core m)) (written found)
  written_keeps m None p = stop_keeps _
  written_keeps m (Some w) p = pure_keeps _ w p

  pub read_keeps : (m : ℕ) (is : List ℕ) → Keeps (IsWord (type_at core m)) (read_in core m is)
  read_keeps m is =
      bind_keeps _ _ (IsCell (type_at core m)) _ (look_keeps _ _ (λ s fits. word_found (type_at core m) (kind_of core m) (dims core m) is (s m) (fits m)))
      (λ found p. written_keeps m found p)

  pub write_keeps : (m : ℕ) (is : List ℕ) (w : ℕ) → IsWord (type_at core m) w → Keeps Anything (write_in core m is w)
  write_keeps m is w p = change_keeps _ (λ s fits. held core s m _ (word_put (type_at core m) (kind_of core m) (dims core m) is w (s m) p (fits m)) fits)

  pub turn_keeps : (m : ℕ) → Keeps Anything (turn_rows core m)
  turn_keeps m = change_keeps _ (λ s fits. held core s m _ (rows_turned (type_at core m) (dims core m) (s m) (fits m)) fits)

  pub enqueue_keeps : (m w : ℕ) → IsWord (type_at core m) w → Keeps Anything (enqueue core m w)
  enqueue_keeps m w p =
      then_keeps _ _ _ (look_keeps _ _ (λ s fits. tt)) (λ ws. then_keeps _ _ _ (ensure_keeps (nat_lt (length ws) (room core m)))
      (λ u. change_keeps _ (λ s fits. held core s m _ (newest_put (type_at core m) w (s m) p (fits m)) fits)))

  first_keeps : (m : ℕ) (ws : List ℕ) → All (IsWord (type_at core m)) ws → Keeps (IsWord (type_at core m)) (first_of_queue ws)
  first_keeps m [] h = stop_keeps _
  first_keeps m (w ∷ ws) h = pure_keeps _ w (All-head (IsWord (type_at core m)) w ws h)

  pub dequeue_keeps : (m : ℕ) → Keeps (IsWord (type_at core m)) (dequeue core m)
  dequeue_keeps m =
      bind_keeps _ _ (All (IsWord (type_at core m))) _ (look_keeps _ _ (λ s fits. queue_fits (type_at core m) (s m) (fits m))) (λ ws h.
      bind_keeps _ _ (IsWord (type_at core m)) _ (first_keeps m ws h) (λ w p.
      then_keeps _ _ _ (change_keeps _ (λ s fits. held core s m _ (oldest_taken (type_at core m) (s m) (fits m)) fits)) (λ u. pure_keeps _ w p)))
