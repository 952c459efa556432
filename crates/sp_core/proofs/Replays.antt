-- The moments of a run that ends, done one after the other, find what they need and leave what the run leaves.
use Rattle.std.proofs.Common.{◌≡◌, ℕ, Bool, true, false, List, [], ◌∷◌, ◌++◌, Option, Some, None, refl, sym, ◌∙◌, ap, subst}
use Rattle.std.proofs.lemmas.Bool.{ltb-true}
use Rattle.std.specs.Prelude.{length, nat_lt}
use Rattle.sp_core.specs.Accesses.{word_in, with_newest, without_oldest, written, first_of_queue, read_in, write_in, turn_rows, enqueue, dequeue}
use Rattle.sp_core.specs.Declarations.{kind_of, dims, room}
use Rattle.sp_core.specs.Events.{Act, reads, writes, puts, takes, turns, Standing, Moment, touches}
use Rattle.sp_core.specs.PlainCore.{PlainCore}
use Rattle.sp_core.specs.Replay.{FindsNow, after_moment, Happens, after_all}
use Rattle.sp_core.specs.Step.{Step, Went, went, stopped, more, pure, ◌>>=◌, ◌>>◌, stop, ensure, out_of_turns, look, change}
use Rattle.sp_core.specs.Store.{Store, hold, queue_of}

is_went : {A : Type 0} → Went A → Type 0
is_went (went a s) = Unit {0}
is_went _ = ⊥

pub not_stopped : {A B : Type 0} (a : A) (t : Store) → stopped ≡ went a t → B
unfolding is_went
not_stopped {A = A} a t e = absurd (subst is_went (sym e) tt)

pub not_more : {A B : Type 0} (a : A) (t : Store) → more ≡ went a t → B
unfolding is_went
not_more a t e = absurd (subst is_went (sym e) tt)

store_or : {A : Type 0} → Store → Went A → Store
store_or s (went a t) = t
store_or s _ = s

value_or : {A : Type 0} → A → Went A → A
value_or b (went a t) = a
value_or b _ = b

pub same_store : {A : Type 0} (a b : A) (s t : Store) → went a s ≡ went b t → s ≡ t
unfolding store_or
same_store a b s t e = ap (store_or s) e

pub same_value : {A : Type 0} (a b : A) (s t : Store) → went a s ≡ went b t → a ≡ b
unfolding value_or
same_value a b s t e = ap (value_or a) e

module _ (core : PlainCore) where
  pub happens_append : (ms ns : List Moment) (s : Store) → Happens core ms s → Happens core ns (after_all core ms s) → Happens core (ms ++ ns) s
  happens_append [] ns s h k = k
  happens_append (m ∷ ms) ns s h k = (h.0, happens_append ms ns (after_moment core m s) h.1 k)

  pub after_append : (ms ns : List Moment) (s : Store) → after_all core (ms ++ ns) s ≡ after_all core ns (after_all core ms s)
  after_append [] ns s = refl
  after_append (m ∷ ms) ns s = after_append ms ns (after_moment core m s)

  -- a step that goes on does moments that its answer tells
  abbrev pub Does : {A : Type 0} → (A → List Moment → Type 0) → Step A → Type 0
  Does {A = A} P step = (s t : Store) (a : A) → step s ≡ went a t → (ms : List Moment) × P a ms × Happens core ms s × (after_all core ms s ≡ t)

  pub bind_does : {A B : Type 0} (step : Step A) (rest : A → Step B) (P : A → List Moment → Type 0) (R : B → List Moment → Type 0) → Does P step → ((a : A) (ms : List Moment) → P a ms → Does (λ b ns. R b (ms ++ ns)) (rest a)) → Does R (step >>= rest)
  unfolding ◌>>=◌
  bind_does {A = A} {B = B} step rest P R f g s t b e = go (step s) refl e
    where
      go : (w : Went A) → step s ≡ w → (elim w as (λ _. Went B) [ went a s ↦ rest a s | stopped ↦ stopped | more ↦ more ]) ≡ went b t → (ms : List Moment) × R b ms × Happens core ms s × (after_all core ms s ≡ t)
      go (went a u) h k =
          let first = f s u a h in
          let second = g a first.0 first.1 u t b k in
          (first.0 ++ second.0, second.1, happens_append first.0 second.0 s first.2 (subst (λ x. Happens core second.0 x) (sym first.3) second.2), after_append first.0 second.0 s ∙ ap (after_all core second.0) first.3 ∙ second.3)
      go stopped h k = not_stopped b t k
      go more h k = not_more b t k

  pub pure_does : {A : Type 0} (P : A → List Moment → Type 0) (a : A) → P a [] → Does P (pure a)
  unfolding pure
  pure_does P a p s t b e = ([], subst (λ x. P x []) (same_value a b s t e) p, tt, same_store a b s t e)

  pub stop_does : {A : Type 0} (P : A → List Moment → Type 0) → Does P stop
  unfolding stop
  stop_does P s t a e = not_stopped a t e

  pub no_turn_does : {A : Type 0} (P : A → List Moment → Type 0) → Does P out_of_turns
  unfolding out_of_turns
  no_turn_does P s t a e = not_more a t e

  pub weaker_does : {A : Type 0} (P R : A → List Moment → Type 0) (step : Step A) → ((a : A) (ms : List Moment) → P a ms → R a ms) → Does P step → Does R step
  weaker_does P R step h f s t a e = let d = f s t a e in (d.0, h a d.0 d.1, d.2, d.3)

  -- nothing is done
  abbrev pub Still : {A : Type 0} → A → List Moment → Type 0
  Still a ms = ms ≡ []

  pub ensure_does : (b : Bool) → Does Still (ensure b)
  ensure_does true = pure_does Still tt refl
  ensure_does false = stop_does Still

  pub look_does : {A : Type 0} (f : Store → A) → Does Still (look f)
  unfolding look
  look_does f s t a e = ([], refl, tt, same_store (f s) a s t e)

  -- one moment that needs nothing
  pub change_does : (next : Store → Store) (m : Moment) → ((s : Store) → FindsNow core m s) → ((s : Store) → after_moment core m s ≡ next s) → Does (λ _ ms. ms ≡ m ∷ []) (change next)
  unfolding change
  change_does next m f h s t a e = (m ∷ [], refl, (f s, tt), h s ∙ same_store tt a (next s) t e)

  -- a step that does nothing, and then another one
  pub still_then : {A B : Type 0} (step : Step A) (rest : A → Step B) (R : B → List Moment → Type 0) → Does Still step → ((a : A) → Does R (rest a)) → Does R (step >>= rest)
  still_then step rest R f g = bind_does step rest Still R f (λ a ms p. let Q : List Moment → Type 0 = λ x. Does (λ b ns. R b (x ++ ns)) (rest a) in subst Q (sym p) (g a))

  -- a step that does moments, and then an answer
  pub then_pure : {A B : Type 0} (step : Step A) (answer : A → B) (P : A → List Moment → Type 0) (R : B → List Moment → Type 0) → Does P step → ((a : A) (ms : List Moment) → P a ms → R (answer a) ms) → Does R (step >>= (λ a. pure (answer a)))
  then_pure step answer P R f h = bind_does step _ P R f (λ a ms p. pure_does (λ b ns. R b (ms ++ ns)) (answer a) (subst (R (answer a)) (sym (append_nil ms)) (h a ms p)))
    where
      append_nil : (ms : List Moment) → ms ++ [] ≡ ms
      append_nil [] = refl
      append_nil (m ∷ ms) = ap (λ x. m ∷ x) (append_nil ms)

  module _ (n : ℕ) (st : Standing) where
    abbrev pub event : (m : ℕ) → (indices : List ℕ) → Act → Moment
    event m is act = touches (record { number = n; standing = st; mem = m; indices = is; act = act })

    pub read_does : (m : ℕ) (is : List ℕ) → Does (λ w ms. ms ≡ event m is (reads w) ∷ []) (read_in core m is)
    unfolding ◌>>=◌ look pure stop
    read_does m is s t w e = go (word_in (kind_of core m) (dims core m) is (s m)) refl e
      where
        go : (o : Option ℕ) → word_in (kind_of core m) (dims core m) is (s m) ≡ o → written o s ≡ went w t → (ms : List Moment) × (ms ≡ event m is (reads w) ∷ []) × Happens core ms s × (after_all core ms s ≡ t)
        go None h k = not_stopped w t k
        go (Some x) h k = (event m is (reads w) ∷ [], refl, (h ∙ ap Some (same_value x w s t k), tt), same_store x w s t k)

    pub write_does : (m : ℕ) (is : List ℕ) (w : ℕ) → Does (λ _ ms. ms ≡ event m is (writes w) ∷ []) (write_in core m is w)
    write_does m is w = change_does _ (event m is (writes w)) (λ s. tt) (λ s. refl)

    pub turn_does : (m : ℕ) → Does (λ _ ms. ms ≡ event m [] turns ∷ []) (turn_rows core m)
    turn_does m = change_does _ (event m [] turns) (λ s. tt) (λ s. refl)

    pub enqueue_does : (m w : ℕ) → Does (λ _ ms. ms ≡ event m [] (puts w) ∷ []) (enqueue core m w)
    unfolding ◌>>=◌ look pure stop change
    enqueue_does m w s t a e = go (nat_lt (length (queue_of (s m))) (room core m)) refl e
      where
        go : (b : Bool) → nat_lt (length (queue_of (s m))) (room core m) ≡ b → (ensure b >> change (λ s. hold s m (with_newest w (s m)))) s ≡ went a t → (ms : List Moment) × (ms ≡ event m [] (puts w) ∷ []) × Happens core ms s × (after_all core ms s ≡ t)
        go true h k = (event m [] (puts w) ∷ [], refl, (ltb-true _ _ h, tt), same_store tt a _ t k)
        go false h k = not_stopped a t k

    pub dequeue_does : (m : ℕ) → Does (λ w ms. ms ≡ event m [] (takes w) ∷ []) (dequeue core m)
    unfolding ◌>>=◌ look pure stop change
    dequeue_does m s t w e = go (queue_of (s m)) refl e
      where
        go : (ws : List ℕ) → queue_of (s m) ≡ ws → (first_of_queue ws >>= (λ w. change (λ s. hold s m (without_oldest (s m))) >> pure w)) s ≡ went w t → (ms : List Moment) × (ms ≡ event m [] (takes w) ∷ []) × Happens core ms s × (after_all core ms s ≡ t)
        go [] h k = not_stopped w t k
        go (x ∷ rest) h k = (event m [] (takes w) ∷ [], refl, ((rest, h ∙ ap (λ y. y ∷ rest) (same_value x w _ t k)), tt), same_store x w _ t k)
