-- An iteration looks at and changes only the memories that it names or owns.
use Rattle.std.proofs.Common.{◌≡◌, ℕ, Bool, true, false, List, [], ◌∷◌, Option, Some, refl, sym, ◌∙◌, ap, subst, ◌==◌}
use Rattle.std.proofs.lemmas.Bool.{true≢false, eqb-true}
use Rattle.std.specs.Prelude.{IsTrue}
use Rattle.sp_words.specs.Memory.{Contents}
use Rattle.sp_core.specs.Accesses.{hold_now}
use Rattle.sp_core.specs.Declarations.{mem, fresh}
use Rattle.sp_core.specs.Footprint.{ListNames, AllPass}
use Rattle.sp_core.specs.History.{Entry}
use Rattle.sp_core.specs.Operations.{operations}
use Rattle.sp_core.specs.PlainCore.{PlainOp, PlainCore}
use Rattle.sp_core.specs.Scope.{plainly, Scope}
use Rattle.sp_core.specs.Sequential.{has_reset, renew_in_body}
use Rattle.sp_core.specs.Step.{Step, went, pure, ◌>>=◌, stop, out_of_turns, look, change, in_order}
use Rattle.sp_core.specs.Store.{Store, hold}
use Rattle.sp_core.proofs.Closure.{IsClosed, operations_Q}
use Rattle.sp_lane_groups.proofs.LiveAlong.{did_go, answer_of, store_of}
use Rattle.sp_lane_groups.specs.Groups.{iteration}
use Rattle.sp_lane_groups.proofs.Renewed.{bind_known, bind_split}

module _ (is : ℕ → Bool) where
  -- two stores hold the same in memories that pass a test
  abbrev pub AgreeOn : Store → Store → Type 0
  AgreeOn s t = (m : ℕ) → is m ≡ true → t m ≡ s m

  -- what a memory holds that doesn't pass it, it still holds
  abbrev pub KeptBut : Store → Store → Type 0
  KeptBut s after = (m : ℕ) → is m ≡ false → after m ≡ s m

  -- from stores that agree both go on alike
  pub record FramedAt {A : Type 0} (step : Step A) (s t after : Store) (a : A) : Type 0 where
    pub ended : Store
    pub ran : step t ≡ went a ended
    pub agree : AgreeOn after ended
    pub kept : KeptBut s after
    pub kept_too : KeptBut t ended

  abbrev pub Framed : (A : Type 0) → Step A → Type 0
  Framed A step = (s t after : Store) (a : A) → AgreeOn s t → step s ≡ went a after → FramedAt step s t after a

  pub bind_framed : {A B : Type 0} (step : Step A) (rest : A → Step B) → Framed A step → ((a : A) → Framed B (rest a)) → Framed B (step >>= rest)
  bind_framed step rest f g s t after b agree e =
      let r = bind_split step rest s after b e in
      let x : FramedAt step s t r.1 r.0 = f s t r.1 r.0 agree r.2 in
      let y : FramedAt (rest r.0) r.1 x.ended after b = g r.0 r.1 x.ended after b x.agree r.3 in
      record {
        ended = y.ended;
        ran = bind_known step rest t x.ended r.0 x.ran ∙ y.ran;
        agree = y.agree;
        kept = λ m n. y.kept m n ∙ x.kept m n;
        kept_too = λ m n. y.kept_too m n ∙ x.kept_too m n;
      }

  same_framed : {A : Type 0} (step : Step A) (s t after : Store) (a b : A) → AgreeOn s t → step s ≡ went b s → step t ≡ went b t → step s ≡ went a after → FramedAt step s t after a
  same_framed step s t after a b agree one two e =
      let both : went b s ≡ went a after = sym one ∙ e in
      record {
        ended = t;
        ran = two ∙ ap (λ x. went x t) (ap (answer_of a) both);
        agree = subst (λ (u : Store). AgreeOn u t) (ap (store_of s) both) agree;
        kept = λ m n. ap (λ (u : Store). u m) (sym (ap (store_of s) both));
        kept_too = λ m n. refl;
      }

  pub pure_framed : {A : Type 0} (a : A) → Framed A (pure a)
  unfolding pure
  pure_framed a s t after b agree e = same_framed (pure a) s t after b a agree refl refl e

  stop_framed : {A : Type 0} → Framed A stop
  unfolding stop
  stop_framed s t after b agree e = absurd (true≢false (sym (ap did_go e)))

  no_turn_framed : {A : Type 0} → Framed A out_of_turns
  unfolding out_of_turns
  no_turn_framed s t after b agree e = absurd (true≢false (sym (ap did_go e)))

  look_framed : {A : Type 0} (m : ℕ) (f : Option Contents → A) → IsTrue (is m) → Framed A (look (λ s. f (s m)))
  unfolding look
  look_framed m f h s t after b agree e = same_framed (look (λ s. f (s m))) s t after b (f (s m)) agree refl (ap (λ c. went (f c) t) (agree m h)) e

  pub change_framed : (m : ℕ) (f : Option Contents → Contents) → IsTrue (is m) → Framed (Unit {0}) (change (λ s. hold s m (f (s m))))
  unfolding change
  change_framed m f h s t after b agree e =
      let now : hold s m (f (s m)) ≡ after = ap (store_of s) e in
      record {
        ended = hold t m (f (t m));
        ran = ap (λ x. went x (hold t m (f (t m)))) (ap (answer_of tt) e);
        agree = λ k i. by k i (k == m) ∙ ap (λ (u : Store). u k) now;
        kept = λ k n. ap (λ (u : Store). u k) (sym now) ∙ apart k n s (k == m) refl;
        kept_too = λ k n. apart k n t (k == m) refl;
      }
    where
      by : (k : ℕ) → is k ≡ true → (b : Bool) → (elim b as (λ _. Option Contents) [ true ↦ Some (f (t m)) | false ↦ t k ]) ≡ (elim b as (λ _. Option Contents) [ true ↦ Some (f (s m)) | false ↦ s k ])
      by k i true = ap (λ c. Some (f c)) (agree m h)
      by k i false = agree k i

      apart : (k : ℕ) → is k ≡ false → (v : Store) (b : Bool) → (k == m) ≡ b → (elim b as (λ _. Option Contents) [ true ↦ Some (f (v m)) | false ↦ v k ]) ≡ v k
      apart k n v true i = absurd (true≢false (sym h ∙ ap is (sym (eqb-true k m i)) ∙ n))
      apart k n v false i = refl

  pub framed_closed : IsClosed Framed is
  framed_closed = record {
    of_pure = pure_framed;
    of_bind = bind_framed;
    of_stop = stop_framed;
    of_no_turn = no_turn_framed;
    of_look = look_framed;
    of_change = change_framed;
  }

  module _ (core : PlainCore) (scope : Scope) where
    renew_framed : (m : ℕ) → IsTrue (is m) → Framed (Unit {0}) (renew_in_body core plainly 0 m)
    renew_framed m h = by (has_reset (mem core m).kind (mem core m).start)
      where
        by : (b : Bool) → Framed (Unit {0}) (elim b as (λ _. Step (Unit {0})) [ true ↦ pure tt | false ↦ hold_now m (fresh core m) ])
        by true = pure_framed tt
        by false = change_framed m (λ c. fresh core m) h

    renewed_framed : (owned : List ℕ) → AllPass core is owned → Framed (List (Unit {0})) (in_order (renew_in_body core plainly 0) owned)
    unfolding in_order
    renewed_framed [] h = pure_framed []
    renewed_framed (m ∷ owned) h = bind_framed (renew_in_body core plainly 0 m) _ (renew_framed m h.0) (λ a. bind_framed (in_order (renew_in_body core plainly 0) owned) _ (renewed_framed owned h.1) (λ others. pure_framed (a ∷ others)))

    pub iteration_framed : (owned : List ℕ) (ops : List PlainOp) → AllPass core is owned → ListNames core is ops → Framed (List Entry) (iteration core scope owned ops)
    iteration_framed owned ops h k = bind_framed (in_order (renew_in_body core plainly 0) owned) (λ _. operations core scope ops) (renewed_framed owned h) (λ a. operations_Q Framed is framed_closed core scope ops k)
