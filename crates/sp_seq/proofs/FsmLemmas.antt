-- How an FSM goes, turn by turn.
use Rattle.std.proofs.Common.{◌≡◌, ℕ, zero, suc, ◌<◌, ◌≤◌, Bool, true, false, List, [], ◌∷◌, ◌++◌, refl, sym, ◌∙◌, ap, arith, append_assoc, append-nil}
use mathlib.Core.Path.{fun_ext}
use Rattle.sp_tree.specs.PlainProgram.{PlainMem}
use Rattle.sp_tree.specs.Step.{Step, Went, went, faulted, more, ◌>>=◌, pure, out_of_turns, repeated, as_long_as}
use Rattle.sp_tree.specs.Store.{Store}
use Rattle.sp_tree.specs.Typing.{Scope}
use Rattle.sp_seq.specs.declared.state.State.{State}
use Rattle.sp_seq.specs.declared.state.Stop.{Stop}
use Rattle.sp_seq.specs.declared.state.Stop.TheVariants.{Fault, Turns}
use Rattle.sp_seq.specs.Running.{Stands}
use Rattle.sp_seq.specs.States.{store_of, halted}
use Rattle.sp_seq.proofs.ScopeLemmas.{stands_on}
use Rattle.sp_seq.proofs.StepLemmas.{bind_went, bind_halted, bind_pure, bind_bind}

-- a stop for want of turns, whatever the answer would be
only_turns : {A B : Type 0} (stop : Stop) → ◌≡◌ {A = Went A} more (halted stop) → ◌≡◌ {A = Went B} more (halted stop)
only_turns (Fault kind place) e = absurd (differ e)
  where
    differ : {A : Type 0} → ◌≡◌ {A = Went A} more (faulted kind place) → ⊥
    differ e = cc
only_turns Turns e = refl

module _ {A B : Type 0} (test : A → Step Bool) (step : A → Step (A × B)) where
  -- what is left to do, with at most so many steps
  pub going_of : ℕ → (done : List B) → A → Step (List B)
  going_of most done a = repeated most test step a >>= (λ others. pure (done ++ others))

  joined : (rest : Step (List B)) (done : List B) (b : B) (l : ℕ) (t : Store) → (rest >>= (λ others. pure (b ∷ others) >>= (λ more. pure (done ++ more)))) l t ≡ (rest >>= (λ others. pure ((done ++ b ∷ []) ++ others))) l t
  unfolding ◌>>=◌ pure
  joined rest done b l t = ap (λ f. (rest >>= f) l t) (fun_ext (λ others. ap pure (sym (append_assoc done (b ∷ []) others))))

  module _ (done : List B) (a : A) (left : ℕ) (s : Store) where
    untested : (most : ℕ) (stop : Stop) → test a left s ≡ halted stop → going_of most done a left s ≡ halted stop
    unfolding going_of repeated
    untested zero stop e = bind_bind (test a) _ (λ others. pure (done ++ others)) left s ∙ bind_halted (test a) _ left s stop e
    untested (suc most) stop e = bind_bind (test a) _ (λ others. pure (done ++ others)) left s ∙ bind_halted (test a) _ left s stop e

    module _ (l : ℕ) (t : Store) where
      over : (most : ℕ) → test a left s ≡ went false l t → going_of most done a left s ≡ went done l t
      unfolding going_of repeated ◌>>=◌ pure
      over zero e = bind_bind (test a) _ (λ others. pure (done ++ others)) left s ∙ bind_went (test a) _ left s false l t e ∙ ap (λ bs. went bs l t) (append-nil done)
      over (suc most) e = bind_bind (test a) _ (λ others. pure (done ++ others)) left s ∙ bind_went (test a) _ left s false l t e ∙ ap (λ bs. went bs l t) (append-nil done)

      module _ (holds : test a left s ≡ went true l t) where
        spent : going_of zero done a left s ≡ more
        unfolding going_of repeated ◌>>=◌ out_of_turns
        spent = bind_bind (test a) _ (λ others. pure (done ++ others)) left s ∙ bind_went (test a) _ left s true l t holds

        halted_in : (most : ℕ) (stop : Stop) → step a l t ≡ halted stop → going_of (suc most) done a left s ≡ halted stop
        unfolding going_of repeated
        halted_in most stop f =
            bind_bind (test a) _ (λ others. pure (done ++ others)) left s
            ∙ bind_went (test a) _ left s true l t holds
            ∙ bind_bind (step a) _ (λ others. pure (done ++ others)) l t
            ∙ bind_halted (step a) _ l t stop f

        once : (most : ℕ) (next : A) (b : B) (n : ℕ) (u : Store) → step a l t ≡ went (next, b) n u → going_of (suc most) done a left s ≡ going_of most (done ++ b ∷ []) next n u
        unfolding going_of repeated pure
        once most next b n u f =
            bind_bind (test a) _ (λ others. pure (done ++ others)) left s
            ∙ bind_went (test a) _ left s true l t holds
            ∙ bind_bind (step a) _ (λ others. pure (done ++ others)) l t
            ∙ bind_went (step a) _ l t (next, b) n u f
            ∙ bind_bind (repeated most test step next) (λ others. pure (b ∷ others)) (λ others. pure (done ++ others)) n u
            ∙ joined (repeated most test step next) done b n u

  -- so far: the state is a, and no more turns are left than steps
  pub record FsmGo (mems : List PlainMem) (roomy : List ℕ) (scope : Scope) (whole : Went (List B)) (start now : State) (a : A) : Type 0 where
    pub most : ℕ
    pub enough : now.left ≤ most
    pub done : List B
    pub so_far : whole ≡ going_of most done a now.left (store_of now)
    pub stands : Stands mems roomy scope start now

  module _ (mems : List PlainMem) (roomy : List ℕ) (scope : Scope) where
    pub fsm_start : (a : A) (start now : State) → Stands mems roomy scope start now → FsmGo mems roomy scope (as_long_as test step a now.left (store_of now)) start now a
    unfolding going_of as_long_as
    fsm_start a start now st = record {
      most = now.left;
      enough = omega arith;
      done = [];
      so_far = sym (bind_pure (repeated now.left test step a) now.left (store_of now));
      stands = st;
    }

    module _ (whole : Went (List B)) (start now : State) (a : A) (h : FsmGo mems roomy scope whole start now a) where
      pub fsm_untested : (stop : Stop) → test a now.left (store_of now) ≡ halted stop → whole ≡ halted stop
      fsm_untested stop e = h.so_far ∙ untested h.done a now.left (store_of now) h.most stop e

      pub fsm_over : (t : State) → test a now.left (store_of now) ≡ went false t.left (store_of t) → whole ≡ went h.done t.left (store_of t)
      fsm_over t e = h.so_far ∙ over h.done a now.left (store_of now) t.left (store_of t) h.most e

      module _ (t : State) (holds : test a now.left (store_of now) ≡ went true t.left (store_of t)) (later : t.left ≤ now.left) where
        -- a step takes a turn
        pub fsm_halted : (stop : Stop) → step a t.left (store_of t) ≡ halted stop → ((s : Store) → step a 0 s ≡ more) → whole ≡ halted stop
        fsm_halted stop f none = h.so_far ∙ by h.most h.enough
          where
            by : (most : ℕ) → now.left ≤ most → going_of most h.done a now.left (store_of now) ≡ halted stop
            by zero l =
                let z : t.left ≡ 0 = omega arith in
                spent h.done a now.left (store_of now) t.left (store_of t) holds ∙ only_turns stop (sym (none (store_of t)) ∙ ap (λ n. step a n (store_of t)) (sym z) ∙ f)
            by (suc most) l = halted_in h.done a now.left (store_of now) t.left (store_of t) holds most stop f

        pub fsm_more : (next : A) (b : B) (u : State) → step a t.left (store_of t) ≡ went (next, b) u.left (store_of u) → u.left < t.left → Stands mems roomy scope now u → FsmGo mems roomy scope whole start u next
        fsm_more next b u f less st = by h.most h.enough h.so_far
          where
            by : (most : ℕ) → now.left ≤ most → whole ≡ going_of most h.done a now.left (store_of now) → FsmGo mems roomy scope whole start u next
            by zero l e = absurd (omega arith)
            by (suc most) l e = record {
              most = most;
              enough = omega arith;
              done = h.done ++ b ∷ [];
              so_far = e ∙ once h.done a now.left (store_of now) t.left (store_of t) holds most next b u.left (store_of u) f;
              stands = stands_on h.stands st;
            }
