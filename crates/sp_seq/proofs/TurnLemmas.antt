-- How a turn of an FSM goes, and an FSM by its turns; and what a combination needs after an iteration.
use Rattle.std.proofs.Common.{◌≡◌, ℕ, ◌<◌, Bool, List, [], ◌∷◌, ◌++◌, length, refl, sym, ◌∙◌, ap, ap₂, subst, arith}
use Rattle.std.specs.Prelude.{◌==◌, Result, Ok, Err, IfOk}
use Rattle.std.specs.Result.{IsErrAnd, OnOk}
use Rattle.sp_words.specs.declared.kind.Style.{Style}
use Rattle.sp_words.specs.Words.{IsWord}
use Rattle.sp_tree.specs.declared.statement.Comb.{Comb}
use Rattle.sp_tree.specs.Expressions.{mem, dims, word}
use Rattle.sp_tree.specs.PlainExpression.{PlainExpr, type_of}
use Rattle.sp_tree.specs.PlainProgram.{PlainMem}
use Rattle.sp_tree.specs.PlainStatement as plain
use Rattle.sp_tree.specs.PlainStatement.{PlainCounter, PlainStmts}
use Rattle.sp_tree.specs.Sequential.{run, run_kind, run_all, name_now}
use Rattle.sp_tree.specs.Shape.{Shape, ran, turned, shapes}
use Rattle.sp_tree.specs.Step.{Step, Went, went, more, ◌>>=◌, ◌>>◌, pure, turn, change, as_long_as}
use Rattle.sp_tree.specs.Store.{Store, name_value}
use Rattle.sp_tree.specs.Structure.{vals_declared}
use Rattle.sp_tree.specs.Typing.{Scope, after_all, with_counters}
use Rattle.sp_seq.specs.declared.state.State.{State}
use Rattle.sp_seq.specs.declared.state.Stop.{Stop}
use Rattle.sp_seq.specs.Controlling.{CanTurn, FinishedWith, fsm_turn}
use Rattle.sp_seq.specs.Looping.{CanCombine, CanCombineAll, CanName, word_named}
use Rattle.sp_seq.specs.Running.{CanRun, Stands}
use Rattle.sp_seq.specs.States.{store_of, halted, Ran, Sees}
use Rattle.sp_seq.proofs.ControlLemmas.{test_of}
use Rattle.sp_seq.proofs.RunningLemmas.{contained_first}
use Rattle.sp_seq.proofs.ScopeLemmas.{contained_later, numbered_later, numbered_some, own_visible, stands_on, within_on, within_counters, within_after_all}
use Rattle.sp_seq.proofs.StepLemmas.{bind_went, bind_halted, bind_bind}

-- what came back at a stop, where an answer was due
pub finished_with_stop : {A : Type 0} (mems : List PlainMem) (roomy : List ℕ) (scope : Scope) (good : A → Type 0) (s : State) (w : Went (A × Shape)) (r : Result A Stop) (t : State) (stop : Stop) → IsErrAnd r (λ y. y ≡ stop) → w ≡ halted stop → FinishedWith mems roomy scope good s w r t
finished_with_stop mems roomy scope good s w (Ok a) t stop h e = absurd h
finished_with_stop mems roomy scope good s w (Err y) t stop h e = e ∙ ap halted (sym h)

pub not_ok : {A : Type 0} (r : Result A Stop) (P : Type 0) (stop : Stop) → IsErrAnd r (λ y. y ≡ stop) → OnOk r P
not_ok (Ok a) P stop h = absurd h
not_ok (Err y) P stop h = tt

-- the word of an expression under a name, and then something
module _ (mems : List PlainMem) (value named : ℕ) (e : PlainExpr) (left : ℕ) (s : Store) where
  under : {B : Type 0} (rest : ℕ → Step B) → (name_now value named >> (word mems e >>= rest)) left s ≡ (word_named mems value named e >>= rest) left s
  under rest = sym (bind_bind (name_now value named) (λ _. word mems e) rest left s)

-- a turn
module _ (mems : List PlainMem) (roomy : List ℕ) (state last : ℕ) (body : PlainStmts) (next : PlainExpr) (from : ℕ) where
  pub no_turn : (t : Store) → fsm_turn mems roomy state last body next from 0 t ≡ more
  unfolding ◌>>=◌ turn
  no_turn t = refl

  module _ (s : State) where
    pub turn_halts : (stop : Stop) → turn s.left (store_of s) ≡ halted stop → fsm_turn mems roomy state last body next from s.left (store_of s) ≡ halted stop
    turn_halts stop e = bind_halted turn _ s.left (store_of s) stop e

    module _ (u v : State) (e : turn s.left (store_of s) ≡ went tt u.left (store_of u)) (st : store_of v ≡ name_value (store_of u) state from) (left : v.left ≡ u.left) where
      after_body : List Shape → Step (ℕ × Shape)
      after_body inner = name_now last from >> (word mems next >>= (λ after. pure (after, ran (shapes inner))))

      named : name_now state from u.left (store_of u) ≡ went tt v.left (store_of v)
      unfolding change
      named = ap₂ (λ l t. went tt l t) (sym left) (sym st)

      up_to_body : fsm_turn mems roomy state last body next from s.left (store_of s) ≡ (run_all mems roomy body >>= after_body) v.left (store_of v)
      unfolding after_body
      up_to_body = bind_went turn _ s.left (store_of s) tt u.left (store_of u) e ∙ bind_went (name_now state from) _ u.left (store_of u) tt v.left (store_of v) named

      pub body_halts : (stop : Stop) → run_all mems roomy body v.left (store_of v) ≡ halted stop → fsm_turn mems roomy state last body next from s.left (store_of s) ≡ halted stop
      body_halts stop f = up_to_body ∙ bind_halted (run_all mems roomy body) after_body v.left (store_of v) stop f

      module _ (inner : List Shape) (w : State) (f : run_all mems roomy body v.left (store_of v) ≡ went inner w.left (store_of w)) where
        up_to_word : fsm_turn mems roomy state last body next from s.left (store_of s) ≡ (word_named mems last from next >>= (λ after. pure (after, ran (shapes inner)))) w.left (store_of w)
        unfolding after_body
        up_to_word =
            up_to_body
            ∙ bind_went (run_all mems roomy body) after_body v.left (store_of v) inner w.left (store_of w) f
            ∙ under mems last from next w.left (store_of w) (λ after. pure (after, ran (shapes inner)))

        pub turn_ends : (scope : Scope) (good : ℕ → Type 0) → Stands mems roomy scope s w → (r : Result ℕ Stop) (t : State) → Ran (word_named mems last from next w.left (store_of w)) r t → OnOk r (Stands mems roomy scope w t) → IfOk r good
            → FinishedWith mems roomy scope good s (fsm_turn mems roomy state last body next from s.left (store_of s)) r t
        unfolding pure
        turn_ends scope good before (Ok a) t g later fits = (ran (shapes inner), up_to_word ∙ bind_went (word_named mems last from next) _ w.left (store_of w) a t.left (store_of t) g, stands_on before later, fits)
        turn_ends scope good before (Err stop) t g later fits = up_to_word ∙ bind_halted (word_named mems last from next) _ w.left (store_of w) stop g

pub turn_taken : (mems : List PlainMem) (roomy : List ℕ) (scope : Scope) (w t : State) (n : ℕ) (r : Result ℕ Stop) → w.left < n → OnOk r (Stands mems roomy scope w t) → OnOk r (t.left < n)
turn_taken mems roomy scope w t n (Ok a) l st = omega (arith, l, st.left)
turn_taken mems roomy scope w t n (Err stop) l st = tt

-- the test of an FSM
module _ (mems : List PlainMem) (tested : ℕ) (test : PlainExpr) (w left : ℕ) (s : Store) where
  test_is : test_of mems tested test w left s ≡ (word_named mems tested w test >>= (λ holds. pure (holds == 1))) left s
  test_is = under mems tested w test left s (λ holds. pure (holds == 1))

  pub test_halts : (stop : Stop) → word_named mems tested w test left s ≡ halted stop → test_of mems tested test w left s ≡ halted stop
  test_halts stop e = test_is ∙ bind_halted (word_named mems tested w test) _ left s stop e

  pub test_goes : (h l : ℕ) (t : Store) → word_named mems tested w test left s ≡ went h l t → (b : Bool) → (h == 1) ≡ b → test_of mems tested test w left s ≡ went b l t
  unfolding pure
  test_goes h l t e b q = test_is ∙ bind_went (word_named mems tested w test) _ left s h l t e ∙ ap (λ b. went b l t) q

-- an FSM, by its turns
module _ (mems : List PlainMem) (roomy : List ℕ) (start : PlainExpr) (tested : ℕ) (test : PlainExpr) (state : ℕ) (body : PlainStmts) (last : ℕ) (next : PlainExpr) (place : ℕ) (s : State) where
  pub fsm_unstarted : (stop : Stop) → word mems start s.left (store_of s) ≡ halted stop → run_kind mems roomy (plain.fsm start tested test state body last next) place s.left (store_of s) ≡ halted stop
  unfolding run
  fsm_unstarted stop e = bind_halted (word mems start) _ s.left (store_of s) stop e

  module _ (first : ℕ) (begun : State) (e : word mems start s.left (store_of s) ≡ went first begun.left (store_of begun)) where
    pub fsm_stopped : (stop : Stop) → as_long_as (test_of mems tested test) (fsm_turn mems roomy state last body next) first begun.left (store_of begun) ≡ halted stop
        → run_kind mems roomy (plain.fsm start tested test state body last next) place s.left (store_of s) ≡ halted stop
    unfolding run
    fsm_stopped stop f = bind_went (word mems start) _ s.left (store_of s) first begun.left (store_of begun) e ∙ bind_halted (as_long_as (test_of mems tested test) (fsm_turn mems roomy state last body next) first) _ begun.left (store_of begun) stop f

    pub fsm_done : (bodies : List Shape) (l : ℕ) (t : Store) → as_long_as (test_of mems tested test) (fsm_turn mems roomy state last body next) first begun.left (store_of begun) ≡ went bodies l t
        → run_kind mems roomy (plain.fsm start tested test state body last next) place s.left (store_of s) ≡ went (turned (length bodies) (shapes bodies) ∷ []) l t
    unfolding run pure
    fsm_done bodies l t f = bind_went (word mems start) _ s.left (store_of s) first begun.left (store_of begun) e ∙ bind_went (as_long_as (test_of mems tested test) (fsm_turn mems roomy state last body next) first) _ begun.left (store_of begun) bodies l t f

-- what its test and its turns need
module _ {mems : List PlainMem} {start : PlainExpr} {tested : ℕ} {test : PlainExpr} {state : ℕ} {body : PlainStmts} {last : ℕ} {next : PlainExpr} {s : State}
    (can : CanRun mems (plain.fsm start tested test state body last next) s) (t : State) (st : Stands mems can.setting.roomy can.setting.scope s t) (w : ℕ) (is : IsWord (type_of start) w) where
  abbrev pub fsm_test : CanName mems t tested w test
  fsm_test = record {
    setting = record { program = can.setting.program; same = can.setting.same; scope = can.setting.scope; roomy = can.setting.roomy; sees = st.sees };
    ty = type_of start;
    is_word = is;
    fresh = can.typed.1;
    inside = subst (λ n. tested < n) (sym st.values) (can.numbered.vals tested (contained_first tested (state ∷ vals_declared body ++ last ∷ [])));
    typed = can.typed.2.0.0;
  }

  abbrev pub fsm_can : CanTurn mems state last body next t w
  fsm_can = record {
    setting = record { program = can.setting.program; same = can.setting.same; scope = can.setting.scope; roomy = can.setting.roomy; sees = st.sees };
    ty = type_of start;
    is_word = is;
    state_fresh = can.typed.3;
    last_fresh = can.typed.5;
    typed = can.typed.4;
    next_typed = can.typed.6.0;
    numbered = numbered_later st.values st.counts (numbered_some (λ m h. h) (λ v h. contained_later tested v (state ∷ vals_declared body ++ last ∷ []) h) (λ c h. h) can.numbered);
    told = can.told;
  }

-- what a combination needs, after an iteration
module _ {mems : List PlainMem} {counters : List PlainCounter} {body : PlainStmts} {s : State} where
  pub reduce_combines : (style : Style) (fold : Bool) (acc : ℕ) (e : PlainExpr) (comb : Comb) (can : CanRun mems (plain.reduce style fold acc counters body e comb) s) (t : State)
      → Sees mems can.setting.roomy (after_all (with_counters can.setting.scope counters) body) t → CanCombine mems t acc e
  reduce_combines style fold acc e comb can t sees =
      let scope = can.setting.scope in
      let inner = with_counters scope counters in
      record {
        setting = record { program = can.setting.program; same = can.setting.same; scope = after_all inner body; roomy = can.setting.roomy; sees = sees };
        into = record { seen = (within_on scope inner _ (within_counters counters scope) (within_after_all body inner)).mems acc can.typed.3.seen; is_kind = can.typed.3.is_kind; is_type = can.typed.3.is_type };
        typed = can.typed.5;
      }

  pub mem_reduce_combines : (style : Style) (acc part : ℕ) (comb : Comb) (can : CanRun mems (plain.mem_reduce style acc counters body part comb) s) (t : State)
      → Sees mems can.setting.roomy (after_all (with_counters can.setting.scope counters) body) t → CanCombineAll mems t acc part
  mem_reduce_combines style acc part comb can t sees =
      let scope = can.setting.scope in
      let inner = with_counters scope counters in
      record {
        setting = record { program = can.setting.program; same = can.setting.same; scope = after_all inner body; roomy = can.setting.roomy; sees = sees };
        ty = (mem can.setting.program.mems acc).ty;
        into = record { seen = (within_on scope inner _ (within_counters counters scope) (within_after_all body inner)).mems acc can.typed.3.seen; is_kind = can.typed.3.is_kind; is_type = can.typed.3.is_type };
        from = record { seen = own_visible body inner part can.typed.6; is_kind = can.typed.7; is_type = can.typed.8 };
        same_dims = subst (λ ms. dims ms part ≡ dims ms acc) can.setting.same can.typed.9;
      }
