-- Steps from a store whose words fit: they do moments that their answers tell, each of which touches a target of its spot in
-- the store in which it happens, and leave a store whose words fit.
use Rattle.std.proofs.Common.{◌≡◌, List, [], ◌++◌, refl, sym, ap, ◌∙◌, subst}
use Rattle.sp_core.specs.Events.{Moment}
use Rattle.sp_core.specs.PlainCore.{PlainCore}
use Rattle.sp_core.specs.Replay.{after_all}
use Rattle.sp_core.specs.Step.{Step, Went, went, stopped, more, pure, ◌>>=◌, stop, out_of_turns}
use Rattle.sp_core.specs.Store.{Store}
use Rattle.sp_core.proofs.Replays.{Does, not_stopped, not_more, same_value, same_store, after_append}
use Rattle.sp_core.proofs.ReplayLists.{append_nil}
use Rattle.sp_fitting.specs.Fitting.{StoreFits}
use Rattle.sp_fitting.proofs.Keeping.{Keeps}
use Rattle.sp_along.specs.AlongSymbols.{EachIn}
use Rattle.sp_touched.specs.Touched.{Touches}
use Rattle.sp_touched.proofs.Words.{each_both}

module _ (core : PlainCore) where
  -- what moments did
  pub record Did (ms : List Moment) (s t : Store) : Type 0 where
    pub hold : EachIn core (Touches core) s ms
    pub after : after_all core ms s ≡ t
    pub fits : StoreFits core t

  pub did_both : (ms ns : List Moment) (s u t : Store) → Did ms s u → Did ns u t → Did (ms ++ ns) s t
  did_both ms ns s u t h k = record {
    hold = each_both core ms ns s h.hold (subst (λ x. EachIn core (Touches core) x ns) (sym h.after) k.hold);
    after = after_append core ms ns s ∙ ap (after_all core ns) h.after ∙ k.after;
    fits = k.fits;
  }

  abbrev pub Holds : {A : Type 0} → (A → List Moment → Type 0) → Step A → Type 0
  Holds {A = A} P step = (s t : Store) (a : A) → StoreFits core s → step s ≡ went a t → (ms : List Moment) × P a ms × Did ms s t

  pub bind_holds : {A B : Type 0} (step : Step A) (rest : A → Step B) (P : A → List Moment → Type 0) (R : B → List Moment → Type 0) → Holds P step → ((a : A) (ms : List Moment) → P a ms → Holds (λ b ns. R b (ms ++ ns)) (rest a)) → Holds R (step >>= rest)
  unfolding ◌>>=◌
  bind_holds {A = A} {B = B} step rest P R f g s t b fits e = go (step s) refl e
    where
      go : (w : Went A) → step s ≡ w → (elim w as (λ _. Went B) [ went a s ↦ rest a s | stopped ↦ stopped | more ↦ more ]) ≡ went b t → (ms : List Moment) × R b ms × Did ms s t
      go (went a u) h k =
          let first = f s u a fits h in
          let second = g a first.0 first.1 u t b first.2.fits k in
          (first.0 ++ second.0, second.1, did_both first.0 second.0 s u t first.2 second.2)
      go stopped h k = not_stopped b t k
      go more h k = not_more b t k

  pub pure_holds : {A : Type 0} (P : A → List Moment → Type 0) (a : A) → P a [] → Holds P (pure a)
  unfolding pure
  pure_holds P a p s t b fits e = ([], subst (λ x. P x []) (same_value a b s t e) p, record { hold = tt; after = same_store a b s t e; fits = subst (StoreFits core) (same_store a b s t e) fits })

  pub stop_holds : {A : Type 0} (P : A → List Moment → Type 0) → Holds P stop
  unfolding stop
  stop_holds P s t a fits e = not_stopped a t e

  pub no_turn_holds : {A : Type 0} (P : A → List Moment → Type 0) → Holds P out_of_turns
  unfolding out_of_turns
  no_turn_holds P s t a fits e = not_more a t e

  pub weaker_holds : {A : Type 0} (P R : A → List Moment → Type 0) (step : Step A) → ((a : A) (ms : List Moment) → P a ms → R a ms) → Holds P step → Holds R step
  weaker_holds P R step h f s t a fits e = let d = f s t a fits e in (d.0, h a d.0 d.1, d.2)

  -- a step of which it is known what it does and what it leaves
  pub known_holds : {A : Type 0} (P : A → List Moment → Type 0) (Q : A → Type 0) (step : Step A) → Does core P step → Keeps core Q step → ((a : A) (ms : List Moment) → P a ms → (s : Store) → EachIn core (Touches core) s ms) → Holds P step
  known_holds P Q step f k h s t a fits e =
      let d = f s t a e in
      (d.0, d.1, record { hold = h a d.0 d.1 s; after = d.3; fits = (k s t a fits e).0 })

  -- a step whose moments are those that its answer tells, and then one that does what both tell
  pub after_given : {A B : Type 0} (step : Step A) (rest : A → Step B) (f : A → List Moment) (Q : A → Type 0) (R : B → List Moment → Type 0) → Holds (λ a ms. (ms ≡ f a) × Q a) step → ((a : A) → Q a → Holds (λ b ns. R b (f a ++ ns)) (rest a)) → Holds R (step >>= rest)
  after_given step rest f Q R h k = bind_holds step rest _ R h (λ a ms p. weaker_holds _ _ (rest a) (λ b ns r. subst (λ x. R b (x ++ ns)) (sym p.0) r) (k a p.1))

  pub after_known : {A B : Type 0} (step : Step A) (rest : A → Step B) (f : A → List Moment) (R : B → List Moment → Type 0) → Holds (λ a ms. ms ≡ f a) step → ((a : A) → Holds (λ b ns. R b (f a ++ ns)) (rest a)) → Holds R (step >>= rest)
  after_known step rest f R h k = bind_holds step rest _ R h (λ a ms p. weaker_holds _ _ (rest a) (λ b ns r. subst (λ x. R b (x ++ ns)) (sym p) r) (k a))

  -- a step, and then an answer
  pub then_answer : {A B : Type 0} (step : Step A) (answer : A → B) (P : A → List Moment → Type 0) (R : B → List Moment → Type 0) → Holds P step → ((a : A) (ms : List Moment) → P a ms → R (answer a) ms) → Holds R (step >>= (λ a. pure (answer a)))
  then_answer step answer P R f h = bind_holds step _ P R f (λ a ms p. pure_holds (λ b ns. R b (ms ++ ns)) (answer a) (subst (R (answer a)) (sym (append_nil ms)) (h a ms p)))

  -- a step that does nothing, and then another one
  pub still_then : {A B : Type 0} (step : Step A) (rest : A → Step B) (R : B → List Moment → Type 0) → Holds (λ a ms. ms ≡ []) step → ((a : A) → Holds R (rest a)) → Holds R (step >>= rest)
  still_then step rest R f g = after_known step rest (λ _. []) R f g
