-- How branches and blocks go, by how their bodies do.
use Rattle.std.proofs.Common.{◌≡◌, ◌<◌, ℕ, Bool, true, false, List, [], ◌∷◌, length, Vec, Global, rules, refl, ◌∙◌, ap}
use Rattle.std.specs.Prelude.{◌==◌, Result, Ok, Err}
use Rattle.sp_words.specs.declared.kind.Style.{Style}
use Rattle.sp_words.specs.declared.kind.Style.TheVariants.{Stream, Pipe, Sequential, Parallel}
use Rattle.sp_tree.specs.Expressions.{word}
use Rattle.sp_tree.specs.PlainExpression.{PlainExpr}
use Rattle.sp_tree.specs.PlainProgram.{PlainMem}
use Rattle.sp_tree.specs.PlainStatement.{PlainStmts, block, branch}
use Rattle.sp_tree.specs.Sequential.{run, run_kind, run_all, end_block}
use Rattle.sp_tree.specs.Shape.{Shape, ran, branched, shapes}
use Rattle.sp_tree.specs.Step.{Step, Went, went, ◌>>=◌, ◌>>◌, pure, in_order}
use Rattle.sp_tree.specs.Store.{Store}
use Rattle.sp_tree.specs.Structure.{mems_declared, vals_declared, counters_declared}
use Rattle.sp_tree.specs.Typing.{Scope, after_all}
use Rattle.sp_tree.specs.declared.statement.Ctl.{Ctl, MemReduce, Reduce, Fsm, Branch, the_lemmas}
use Rattle.sp_tree.specs.declared.expression.Expr.{Expr}
use Rattle.sp_tree.specs.declared.statement.Stmt.{Stmt}
use Rattle.sp_tree.specs.declared.statement.Comb.{Comb}
use Rattle.sp_tree.specs.declared.statement.Counter.{Counter}
use Rattle.sp_tree.proofs.statement.Stmt.TheLaws as stmt_laws
use Rattle.sp_tree.proofs.statement.Ctl.TheLaws as ctl_laws
use denote.Param.Weighed.{most}
use Rattle.sp_seq.specs.declared.state.State.{State}
use Rattle.sp_seq.specs.declared.state.Stop.{Stop}
use Rattle.sp_seq.specs.Ending.{CanEnd}
use Rattle.sp_seq.specs.Running.{CanRun, CanRunAll, Finished, Stands}
use Rattle.sp_seq.specs.Slices.{RanSome}
use Rattle.sp_seq.specs.States.{store_of, halted, Keeps, Sees}
use Rattle.sp_seq.proofs.RunningLemmas.{stands_kept}
use Rattle.sp_seq.proofs.ScopeLemmas.{own_visible, numbered_later, numbered_first, numbered_rest, stands_on, stands_within, within_after_all}
use Rattle.sp_seq.proofs.SeesLemmas.{setting_later}
use Rattle.sp_seq.proofs.StepLemmas.{bind_went, bind_halted}

-- the sizes of a body and of a controller, by which calls end
abbrev pub body_size : List Stmt → ℕ
body_size body = most stmt_laws.the_size body

abbrev pub ctl_size : Ctl → ℕ
ctl_size ctl = ctl_laws.the_size ctl

-- a block, whose end changes nothing
module _ (mems : List PlainMem) (roomy : List ℕ) (scope : Scope) (style : Style) (body : PlainStmts) (place : ℕ) (s : State) where
  pub block_stops : (stop : Stop) → run_all mems roomy body s.left (store_of s) ≡ halted stop → run_kind mems roomy (block style body) place s.left (store_of s) ≡ halted stop
  unfolding run
  block_stops stop e = bind_halted (run_all mems roomy body) _ s.left (store_of s) stop e

  module _ (t : State) (f : Finished mems roomy (after_all scope body) s (run_all mems roomy body s.left (store_of s)) (Ok tt) t) where
    up_to_end : run_kind mems roomy (block style body) place s.left (store_of s) ≡ (end_block mems style body place >> pure (ran (shapes f.0) ∷ [])) t.left (store_of t)
    unfolding run
    up_to_end = bind_went (run_all mems roomy body) _ s.left (store_of s) f.0 t.left (store_of t) f.1

    pub block_ends : (r : Result (Unit {0}) Stop) → RanSome (end_block mems style body place t.left (store_of t)) r t → Finished mems roomy scope s (run_kind mems roomy (block style body) place s.left (store_of s)) r t
    unfolding pure
    block_ends (Ok u) h = (ran (shapes f.0) ∷ [], up_to_end ∙ bind_went (end_block mems style body place) _ t.left (store_of t) h.0 t.left (store_of t) h.1, stands_within (within_after_all body scope) f.2)
    block_ends (Err stop) h = up_to_end ∙ bind_halted (end_block mems style body place) _ t.left (store_of t) stop h

abbrev pub block_body : {mems : List PlainMem} {body : PlainStmts} {s : State} (style : Style) (can : CanRun mems (block style body) s) → CanRunAll mems body s
block_body style can = record { setting = can.setting; typed = can.typed; numbered = can.numbered; told = can.told.1 }

-- only the end of a Stream block has a rule
module _ (mems : List PlainMem) (body : PlainStmts) (place left : ℕ) (s : Store) where
  pub pipe_end : end_block mems Pipe body place left s ≡ went [] left s
  unfolding in_order pure
  pipe_end = refl

  pub sequential_end : end_block mems Sequential body place left s ≡ went [] left s
  unfolding in_order pure
  sequential_end = refl

  pub parallel_end : end_block mems Parallel body place left s ≡ went [] left s
  unfolding in_order pure
  parallel_end = refl

-- the end of a Stream block that can run, after its body
pub stream_end : (mems : List PlainMem) (body : PlainStmts) (s t : State) (can : CanRun mems (block Stream body) s) → Stands mems can.setting.roomy (after_all can.setting.scope body) s t → CanEnd mems body t
stream_end mems body s t can st = record {
  setting = record { program = can.setting.program; same = can.setting.same; scope = after_all can.setting.scope body; roomy = can.setting.roomy; sees = st.sees };
  seen = λ m c. own_visible body can.setting.scope m c;
  told = can.told.0;
}

-- a branch, after its test
module _ (mems : List PlainMem) (roomy : List ℕ) (scope : Scope) (test : PlainExpr) (yes no : PlainStmts) (place : ℕ) (s : State) where
  pub branch_stops : (stop : Stop) → word mems test s.left (store_of s) ≡ halted stop → run_kind mems roomy (branch test yes no) place s.left (store_of s) ≡ halted stop
  unfolding run
  branch_stops stop e = bind_halted (word mems test) _ s.left (store_of s) stop e

  module _ (w : ℕ) (t : State) (e : word mems test s.left (store_of s) ≡ went w t.left (store_of t)) where
    side : Bool → Step (List Shape)
    side b = elim b [ true ↦ run_all mems roomy yes | false ↦ run_all mems roomy no ]

    from_side : Bool → Went (List Shape)
    from_side b = (side b >>= (λ inner. pure (branched b (ran (shapes inner)) ∷ []))) t.left (store_of t)

    up_to_side : run_kind mems roomy (branch test yes no) place s.left (store_of s) ≡ from_side (w == 1)
    unfolding run from_side side
    up_to_side = bind_went (word mems test) _ s.left (store_of s) w t.left (store_of t) e

    module _ (sees : Sees mems roomy scope s) (keeps : Keeps s t) where
      stands_outer : (body : PlainStmts) (u : State) → Stands mems roomy (after_all scope body) t u → Stands mems roomy scope s u
      stands_outer body u st = stands_within (within_after_all body scope) (stands_on (stands_kept {mems = mems} {roomy = roomy} {scope = scope} sees keeps) st)

      pub branch_then : (w == 1) ≡ true → (r : Result (Unit {0}) Stop) (u : State) → Finished mems roomy (after_all scope yes) t (run_all mems roomy yes t.left (store_of t)) r u → Finished mems roomy scope s (run_kind mems roomy (branch test yes no) place s.left (store_of s)) r u
      unfolding from_side side pure
      branch_then q (Ok x) u f = (branched true (ran (shapes f.0)) ∷ [], up_to_side ∙ ap from_side q ∙ bind_went (run_all mems roomy yes) _ t.left (store_of t) f.0 u.left (store_of u) f.1, stands_outer yes u f.2)
      branch_then q (Err stop) u f = up_to_side ∙ ap from_side q ∙ bind_halted (run_all mems roomy yes) _ t.left (store_of t) stop f

      pub branch_else : (w == 1) ≡ false → (r : Result (Unit {0}) Stop) (u : State) → Finished mems roomy (after_all scope no) t (run_all mems roomy no t.left (store_of t)) r u → Finished mems roomy scope s (run_kind mems roomy (branch test yes no) place s.left (store_of s)) r u
      unfolding from_side side pure
      branch_else q (Ok x) u f = (branched false (ran (shapes f.0)) ∷ [], up_to_side ∙ ap from_side q ∙ bind_went (run_all mems roomy no) _ t.left (store_of t) f.0 u.left (store_of u) f.1, stands_outer no u f.2)
      branch_else q (Err stop) u f = up_to_side ∙ ap from_side q ∙ bind_halted (run_all mems roomy no) _ t.left (store_of t) stop f

-- each side of a branch that can run, after its test
module _ (mems : List PlainMem) (test : PlainExpr) (yes no : PlainStmts) (s : State) (can : CanRun mems (branch test yes no) s) (t : State) (keeps : Keeps s t) where
  abbrev pub then_can : CanRunAll mems yes t
  then_can = record {
    setting = setting_later can.setting keeps;
    typed = can.typed.1;
    numbered = numbered_later (ap length keeps.values) (ap length keeps.counts) (numbered_first (mems_declared yes) (mems_declared no) (vals_declared yes) (vals_declared no) (counters_declared yes) (counters_declared no) can.numbered);
    told = can.told.0;
  }

  abbrev pub else_can : CanRunAll mems no t
  else_can = record {
    setting = setting_later can.setting keeps;
    typed = can.typed.2;
    numbered = numbered_later (ap length keeps.values) (ap length keeps.counts) (numbered_rest (mems_declared yes) (mems_declared no) (vals_declared yes) (vals_declared no) (counters_declared yes) (counters_declared no) can.numbered);
    told = can.told.1;
  }

-- a body is smaller than its controller
pub reduce_falls : (style : Style) (fold : Bool) (acc : ℕ) (counters : Vec Counter Global) (body : Vec Stmt Global) (e : Expr) (comb : Comb) → body_size body.items < ctl_size (Reduce style fold acc counters body e comb)
reduce_falls style fold acc counters body e comb = search (rules, the_lemmas)

pub mem_reduce_falls : (style : Style) (acc : ℕ) (counters : Vec Counter Global) (body : Vec Stmt Global) (part : ℕ) (comb : Comb) → body_size body.items < ctl_size (MemReduce style acc counters body part comb)
mem_reduce_falls style acc counters body part comb = search (rules, the_lemmas)

pub fsm_falls : (start : Expr) (tested : ℕ) (test : Expr) (state : ℕ) (body : Vec Stmt Global) (last : ℕ) (next : Expr) → body_size body.items < ctl_size (Fsm start tested test state body last next)
fsm_falls start tested test state body last next = search (rules, the_lemmas)

pub then_falls : (test : Expr) (first second : Vec Stmt Global) → body_size first.items < ctl_size (Branch test first second)
then_falls test first second = search (rules, the_lemmas)

pub else_falls : (test : Expr) (first second : Vec Stmt Global) → body_size second.items < ctl_size (Branch test first second)
else_falls test first second = search (rules, the_lemmas)
