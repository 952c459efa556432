-- How loops go, iteration by iteration, for any step and any list of words.
use Rattle.std.proofs.Common.{◌≡◌, ℕ, Bool, true, false, List, [], ◌∷◌, ◌++◌, map, length, refl, sym, ◌∙◌, ap}
use mathlib.Core.Path.{fun_ext}
use Rattle.sp_words.specs.declared.kind.Style.{Style}
use Rattle.sp_tree.specs.declared.statement.Comb.{Comb}
use Rattle.sp_tree.specs.Elements.{tuples}
use Rattle.sp_tree.specs.Expressions.{word}
use Rattle.sp_tree.specs.PlainExpression.{PlainExpr}
use Rattle.sp_tree.specs.PlainProgram.{PlainMem}
use Rattle.sp_tree.specs.PlainStatement as plain
use Rattle.sp_tree.specs.PlainStatement.{PlainCounter, PlainStmts}
use Rattle.sp_tree.specs.Sequential.{run, run_kind, run_all, count_now, counter_range, combining, assign}
use Rattle.sp_tree.specs.Shape.{Shape, ran, shapes, looped}
use Rattle.sp_tree.specs.Step.{Step, Went, went, faulted, more, ◌>>=◌, ◌>>◌, pure, turn, in_order}
use Rattle.sp_tree.specs.Store.{Store}
use Rattle.sp_tree.specs.Typing.{Scope}
use Rattle.sp_seq.specs.declared.state.State.{State}
use Rattle.sp_seq.specs.declared.state.Stop.{Stop}
use Rattle.sp_seq.specs.Looping.{word_combined, part_combined}
use Rattle.sp_seq.specs.Controlling.{round}
use Rattle.sp_seq.specs.Running.{Stands}
use Rattle.sp_seq.specs.States.{store_of, halted}
use Rattle.sp_seq.proofs.LoopLemmas.{left_of, left_none, left_over, left_more, left_halted}
use Rattle.sp_seq.proofs.ScopeLemmas.{stands_on}
use Rattle.sp_seq.proofs.StepLemmas.{bind_went, bind_halted, bind_bind}

-- so far: these are left to do, and what is visible outside of the loop stands
pub record LoopGo {A B : Type 0} (step : A → Step B) (whole : Went (List B)) (mems : List PlainMem) (roomy : List ℕ) (scope : Scope) (start now : State) (rest : List A) : Type 0 where
  pub done : List B
  pub so_far : whole ≡ left_of step done rest now.left (store_of now)
  pub stands : Stands mems roomy scope start now

module _ {A B : Type 0} (step : A → Step B) (mems : List PlainMem) (roomy : List ℕ) (scope : Scope) where
  pub loop_start : (xs : List A) (start now : State) → Stands mems roomy scope start now → LoopGo step (in_order step xs now.left (store_of now)) mems roomy scope start now xs
  loop_start xs start now st = record { done = []; so_far = left_none step now.left (store_of now) xs; stands = st }

  module _ (whole : Went (List B)) (start now : State) (rest : List A) (h : LoopGo step whole mems roomy scope start now rest) where
    pub loop_more : (x : A) (xs : List A) → rest ≡ x ∷ xs → (b : B) (t : State) → step x now.left (store_of now) ≡ went b t.left (store_of t) → Stands mems roomy scope now t → LoopGo step whole mems roomy scope start t xs
    loop_more x xs e b t r st = record {
      done = h.done ++ b ∷ [];
      so_far = h.so_far ∙ ap (λ ys. left_of step h.done ys now.left (store_of now)) e ∙ left_more step now.left (store_of now) h.done x xs b t.left (store_of t) r;
      stands = stands_on h.stands st;
    }

    pub loop_halted : (x : A) (xs : List A) → rest ≡ x ∷ xs → (stop : Stop) → step x now.left (store_of now) ≡ halted stop → whole ≡ halted stop
    loop_halted x xs e stop r = h.so_far ∙ ap (λ ys. left_of step h.done ys now.left (store_of now)) e ∙ left_halted step now.left (store_of now) h.done x xs stop r

    pub loop_over : rest ≡ [] → whole ≡ went h.done now.left (store_of now)
    loop_over e = h.so_far ∙ ap (λ ys. left_of step h.done ys now.left (store_of now)) e ∙ left_over step now.left (store_of now) h.done

-- a step whose rest may be told in another way
bind_same : {A B : Type 0} (step : Step A) (f g : A → Step B) (left : ℕ) (s : Store) → ((a : A) (l : ℕ) (t : Store) → f a l t ≡ g a l t) → (step >>= f) left s ≡ (step >>= g) left s
unfolding ◌>>=◌
bind_same {A = A} {B = B} step f g left s h = same (step left s)
  where
    same : (w : Went A) → elim w as (λ _. Went B) [ went a l t ↦ f a l t | faulted kind place ↦ faulted kind place | more ↦ more ]
        ≡ elim w as (λ _. Went B) [ went a l t ↦ g a l t | faulted kind place ↦ faulted kind place | more ↦ more ]
    same (went a l t) = h a l t
    same (faulted kind place) = refl
    same more = refl

module _ (mems : List PlainMem) (roomy : List ℕ) (counters : List PlainCounter) (body : PlainStmts) where
  -- what follows the body, and the whole iteration
  abbrev after_round : {B : Type 0} → (List Shape → Step B) → List ℕ → Step B
  after_round rest ws = do
    turn
    count_now counters ws
    inner ← run_all mems roomy body
    rest inner

  after_is : {B : Type 0} (rest : List Shape → Step B) (ws : List ℕ) (left : ℕ) (s : Store) → after_round rest ws left s ≡ (round mems roomy counters body ws >>= rest) left s
  after_is rest ws left s =
      sym (bind_bind turn (λ _. count_now counters ws >> run_all mems roomy body) rest left s
      ∙ bind_same turn (λ _. (count_now counters ws >> run_all mems roomy body) >>= rest) (λ _. count_now counters ws >> (run_all mems roomy body >>= rest)) left s
      (λ u l t. bind_bind (count_now counters ws) (λ _. run_all mems roomy body) rest l t))

  pub foreach_step : List ℕ → Step Shape
  foreach_step ws = after_round (λ inner. pure (ran (shapes inner))) ws

  pub foreach_halted : (ws : List ℕ) (left : ℕ) (s : Store) (stop : Stop) → round mems roomy counters body ws left s ≡ halted stop → foreach_step ws left s ≡ halted stop
  unfolding foreach_step
  foreach_halted ws left s stop e = after_is _ ws left s ∙ bind_halted (round mems roomy counters body ws) _ left s stop e

  pub foreach_went : (ws : List ℕ) (left : ℕ) (s : Store) (inner : List Shape) (l : ℕ) (t : Store) → round mems roomy counters body ws left s ≡ went inner l t → foreach_step ws left s ≡ went (ran (shapes inner)) l t
  unfolding foreach_step pure
  foreach_went ws left s inner l t e = after_is _ ws left s ∙ bind_went (round mems roomy counters body ws) _ left s inner l t e

  module _ (style : Style) (place left : ℕ) (s : Store) where
    pub foreach_unranged : (stop : Stop) → in_order (counter_range mems) counters left s ≡ halted stop → run_kind mems roomy (plain.foreach style counters body) place left s ≡ halted stop
    unfolding run
    foreach_unranged stop e = bind_halted (in_order (counter_range mems) counters) _ left s stop e

    module _ (ranges : List (List ℕ)) (l : ℕ) (t : Store) (e : in_order (counter_range mems) counters left s ≡ went ranges l t) where
      pub foreach_stopped : (stop : Stop) → in_order foreach_step (tuples ranges) l t ≡ halted stop → run_kind mems roomy (plain.foreach style counters body) place left s ≡ halted stop
      unfolding run foreach_step
      foreach_stopped stop f = bind_went (in_order (counter_range mems) counters) _ left s ranges l t e ∙ bind_halted (in_order foreach_step (tuples ranges)) _ l t stop f

      pub foreach_done : (bodies : List Shape) (n : ℕ) (u : Store) → in_order foreach_step (tuples ranges) l t ≡ went bodies n u → run_kind mems roomy (plain.foreach style counters body) place left s ≡ went (looped (map length ranges) (shapes bodies) ∷ []) n u
      unfolding run foreach_step pure
      foreach_done bodies n u f = bind_went (in_order (counter_range mems) counters) _ left s ranges l t e ∙ bind_went (in_order foreach_step (tuples ranges)) _ l t bodies n u f

  -- a loop that combines: what it does after the body, with whether it combines
  module _ {C : Type 0} (combine : Bool → Step C) where
    pub combine_step : Bool × List ℕ → Step Shape
    combine_step = λ (combines, ws). after_round (λ inner. combine combines >> pure (ran (shapes inner))) ws

    module _ (combines : Bool) (ws : List ℕ) (left : ℕ) (s : Store) where
      pub combine_halted : (stop : Stop) → round mems roomy counters body ws left s ≡ halted stop → combine_step (combines, ws) left s ≡ halted stop
      unfolding combine_step
      combine_halted stop e = after_is _ ws left s ∙ bind_halted (round mems roomy counters body ws) _ left s stop e

      module _ (inner : List Shape) (l : ℕ) (t : Store) (e : round mems roomy counters body ws left s ≡ went inner l t) where
        pub combine_stopped : (stop : Stop) → combine combines l t ≡ halted stop → combine_step (combines, ws) left s ≡ halted stop
        unfolding combine_step
        combine_stopped stop f = after_is _ ws left s ∙ bind_went (round mems roomy counters body ws) _ left s inner l t e ∙ bind_halted (combine combines) _ l t stop f

        pub combine_went : (c : C) (n : ℕ) (u : Store) → combine combines l t ≡ went c n u → combine_step (combines, ws) left s ≡ went (ran (shapes inner)) n u
        unfolding combine_step pure
        combine_went c n u f = after_is _ ws left s ∙ bind_went (round mems roomy counters body ws) _ left s inner l t e ∙ bind_went (combine combines) _ l t c n u f

-- the first iteration combines as it is asked to, and the others do
pub combining_more : (combines : Bool) (x : List ℕ) (xs : List (List ℕ)) → combining combines (x ∷ xs) ≡ (combines, x) ∷ combining true xs
combining_more combines x [] = refl
combining_more combines x (y ∷ ys) = refl

module _ (mems : List PlainMem) (roomy : List ℕ) (counters : List PlainCounter) (body : PlainStmts) where
  after_same : {B : Type 0} (f g : List Shape → Step B) → ((inner : List Shape) (l : ℕ) (t : Store) → f inner l t ≡ g inner l t) → (ws : List ℕ) (left : ℕ) (s : Store) → after_round mems roomy counters body f ws left s ≡ after_round mems roomy counters body g ws left s
  after_same f g h ws left s =
      after_is mems roomy counters body f ws left s ∙ bind_same (round mems roomy counters body ws) f g left s h ∙ sym (after_is mems roomy counters body g ws left s)

  module _ (place : ℕ) (acc : ℕ) (comb : Comb) (style : Style) (left : ℕ) (s : Store) where
    module _ (fold : Bool) (e : PlainExpr) where
      reduce_as : Bool × List ℕ → Step Shape
      reduce_as = λ (combines, ws). after_round mems roomy counters body (λ inner. do
        w ← word mems e
        assign mems comb acc 0 combines w place
        pure (ran (shapes inner))) ws

      reduce_is : reduce_as ≡ combine_step mems roomy counters body (word_combined mems comb acc place e)
      unfolding reduce_as combine_step
      reduce_is = fun_ext (λ x. fun_ext (λ l. fun_ext (λ t. after_same _ _ (λ inner n u. sym (bind_bind (word mems e) (λ w. assign mems comb acc 0 x.0 w place) (λ _. pure (ran (shapes inner))) n u)) x.1 l t)))

      pub reduce_unranged : (stop : Stop) → in_order (counter_range mems) counters left s ≡ halted stop → run_kind mems roomy (plain.reduce style fold acc counters body e comb) place left s ≡ halted stop
      unfolding run
      reduce_unranged stop r = bind_halted (in_order (counter_range mems) counters) _ left s stop r

      module _ (ranges : List (List ℕ)) (l : ℕ) (t : Store) (r : in_order (counter_range mems) counters left s ≡ went ranges l t) where
        pub reduce_stopped : (stop : Stop) → in_order (combine_step mems roomy counters body (word_combined mems comb acc place e)) (combining fold (tuples ranges)) l t ≡ halted stop → run_kind mems roomy (plain.reduce style fold acc counters body e comb) place left s ≡ halted stop
        unfolding run reduce_as
        reduce_stopped stop f =
            bind_went (in_order (counter_range mems) counters) _ left s ranges l t r
            ∙ bind_halted (in_order reduce_as (combining fold (tuples ranges))) _ l t stop (ap (λ g. in_order g (combining fold (tuples ranges)) l t) reduce_is ∙ f)

        pub reduce_done : (bodies : List Shape) (n : ℕ) (u : Store) → in_order (combine_step mems roomy counters body (word_combined mems comb acc place e)) (combining fold (tuples ranges)) l t ≡ went bodies n u
            → run_kind mems roomy (plain.reduce style fold acc counters body e comb) place left s ≡ went (looped (map length ranges) (shapes bodies) ∷ []) n u
        unfolding run reduce_as pure
        reduce_done bodies n u f =
            bind_went (in_order (counter_range mems) counters) _ left s ranges l t r
            ∙ bind_went (in_order reduce_as (combining fold (tuples ranges))) _ l t bodies n u (ap (λ g. in_order g (combining fold (tuples ranges)) l t) reduce_is ∙ f)

    module _ (part : ℕ) where
      pub mem_reduce_unranged : (stop : Stop) → in_order (counter_range mems) counters left s ≡ halted stop → run_kind mems roomy (plain.mem_reduce style acc counters body part comb) place left s ≡ halted stop
      unfolding run
      mem_reduce_unranged stop r = bind_halted (in_order (counter_range mems) counters) _ left s stop r

      module _ (ranges : List (List ℕ)) (l : ℕ) (t : Store) (r : in_order (counter_range mems) counters left s ≡ went ranges l t) where
        pub mem_reduce_stopped : (stop : Stop) → in_order (combine_step mems roomy counters body (part_combined mems comb acc part place)) (combining false (tuples ranges)) l t ≡ halted stop → run_kind mems roomy (plain.mem_reduce style acc counters body part comb) place left s ≡ halted stop
        unfolding run combine_step
        mem_reduce_stopped stop f = bind_went (in_order (counter_range mems) counters) _ left s ranges l t r ∙ bind_halted (in_order (combine_step mems roomy counters body (part_combined mems comb acc part place)) (combining false (tuples ranges))) _ l t stop f

        pub mem_reduce_done : (bodies : List Shape) (n : ℕ) (u : Store) → in_order (combine_step mems roomy counters body (part_combined mems comb acc part place)) (combining false (tuples ranges)) l t ≡ went bodies n u
            → run_kind mems roomy (plain.mem_reduce style acc counters body part comb) place left s ≡ went (looped (map length ranges) (shapes bodies) ∷ []) n u
        unfolding run combine_step pure
        mem_reduce_done bodies n u f = bind_went (in_order (counter_range mems) counters) _ left s ranges l t r ∙ bind_went (in_order (combine_step mems roomy counters body (part_combined mems comb acc part place)) (combining false (tuples ranges))) _ l t bodies n u f
