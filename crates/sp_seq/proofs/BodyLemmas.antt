-- How the statements of a body go, one after another.
use Rattle.std.proofs.Common.{◌≡◌, ℕ, ◌≤◌, List, [], ◌++◌, length, refl, sym, ◌∙◌, ap, subst, arith, append_assoc}
use mathlib.Core.Path.{fun_ext}
use Rattle.std.specs.Prelude.{Ok, Err}
use Rattle.sp_tree.specs.PlainProgram.{PlainMem}
use Rattle.sp_tree.specs.PlainStatement.{PlainStmtKind, PlainStmts, stmt, no_stmt, more_stmt}
use Rattle.sp_tree.specs.Sequential.{run, run_kind, run_all}
use Rattle.sp_tree.specs.Shape.{Shape}
use Rattle.sp_tree.specs.Structure.{mems_in, mems_declared, vals_in, vals_declared, counters_in, counters_declared}
use Rattle.sp_tree.specs.Step.{Step, Went, went, ◌>>=◌, pure, turn}
use Rattle.sp_tree.specs.Store.{Store}
use Rattle.sp_tree.specs.Typing.{Scope, after, after_all}
use Rattle.sp_seq.specs.declared.state.State.{State}
use Rattle.sp_seq.specs.declared.state.Stop.{Stop}
use Rattle.sp_seq.specs.Controlling.{Runs}
use Rattle.sp_seq.specs.Running.{CanRun, CanRunAll, Finished, Stands}
use Rattle.sp_seq.specs.States.{store_of, halted, Keeps}
use Rattle.sp_seq.proofs.RunningLemmas.{stands_kept}
use Rattle.sp_seq.proofs.ScopeLemmas.{numbered_first, numbered_rest, numbered_later}
use Rattle.sp_seq.proofs.SeesLemmas.{setting_later}
use Rattle.sp_seq.proofs.StepLemmas.{bind_went, bind_halted, bind_pure, bind_bind}

-- the statements that are left, of which some are done
pub rest_of : List PlainMem → List ℕ → (done : List Shape) → PlainStmts → Step (List Shape)
rest_of mems roomy done xs = run_all mems roomy xs >>= (λ others. pure (done ++ others))

joined : (rest : Step (List Shape)) (done one : List Shape) (l : ℕ) (t : Store) → (rest >>= (λ others. pure (one ++ others) >>= (λ more. pure (done ++ more)))) l t ≡ (rest >>= (λ others. pure ((done ++ one) ++ others))) l t
unfolding ◌>>=◌ pure
joined rest done one l t = ap (λ f. (rest >>= f) l t) (fun_ext (λ others. ap pure (sym (append_assoc done one others))))

module _ (mems : List PlainMem) (roomy : List ℕ) (left : ℕ) (s : Store) where
  rest_none : (xs : PlainStmts) → run_all mems roomy xs left s ≡ rest_of mems roomy [] xs left s
  unfolding rest_of
  rest_none xs = sym (bind_pure (run_all mems roomy xs) left s)

  rest_over : (done : List Shape) → rest_of mems roomy done no_stmt left s ≡ went (done ++ []) left s
  unfolding run rest_of ◌>>=◌ pure
  rest_over done = refl

  module _ (done : List Shape) (p : ℕ) (kind : PlainStmtKind) (xs : PlainStmts) where
    rest_more : (l : ℕ) (t : Store) (one : List Shape) (n : ℕ) (u : Store) → turn left s ≡ went tt l t → run_kind mems roomy kind p l t ≡ went one n u → rest_of mems roomy done (more_stmt (stmt p kind) xs) left s ≡ rest_of mems roomy (done ++ one) xs n u
    unfolding run rest_of pure
    rest_more l t one n u e f =
        bind_bind (run mems roomy (stmt p kind)) _ (λ others. pure (done ++ others)) left s
        ∙ bind_went (run mems roomy (stmt p kind)) _ left s one n u (bind_went turn (λ _. run_kind mems roomy kind p) left s tt l t e ∙ f)
        ∙ bind_bind (run_all mems roomy xs) (λ others. pure (one ++ others)) (λ others. pure (done ++ others)) n u
        ∙ joined (run_all mems roomy xs) done one n u

    rest_spent : (stop : Stop) → turn left s ≡ halted stop → rest_of mems roomy done (more_stmt (stmt p kind) xs) left s ≡ halted stop
    unfolding run rest_of
    rest_spent stop e =
        bind_bind (run mems roomy (stmt p kind)) _ (λ others. pure (done ++ others)) left s
        ∙ bind_halted (run mems roomy (stmt p kind)) _ left s stop (bind_halted turn (λ _. run_kind mems roomy kind p) left s stop e)

    rest_halted : (l : ℕ) (t : Store) (stop : Stop) → turn left s ≡ went tt l t → run_kind mems roomy kind p l t ≡ halted stop → rest_of mems roomy done (more_stmt (stmt p kind) xs) left s ≡ halted stop
    unfolding run rest_of
    rest_halted l t stop e f =
        bind_bind (run mems roomy (stmt p kind)) _ (λ others. pure (done ++ others)) left s
        ∙ bind_halted (run mems roomy (stmt p kind)) _ left s stop (bind_went turn (λ _. run_kind mems roomy kind p) left s tt l t e ∙ f)

-- so far: the statements xs are left, and in the end this will be visible
pub record BodyGo (mems : List PlainMem) (roomy : List ℕ) (final : Scope) (whole : Went (List Shape)) (start now : State) (xs : PlainStmts) : Type 0 where
  pub can : CanRunAll mems xs now
  pub same_roomy : can.setting.roomy ≡ roomy
  pub same_final : after_all can.setting.scope xs ≡ final
  pub done : List Shape
  pub so_far : whole ≡ rest_of mems can.setting.roomy done xs now.left (store_of now)
  pub values : length now.values.items ≡ length start.values.items
  pub counts : length now.counts.items ≡ length start.counts.items
  pub left : now.left ≤ start.left

pub body_start : (mems : List PlainMem) (xs : PlainStmts) (s : State) (can : CanRunAll mems xs s) → BodyGo mems can.setting.roomy (after_all can.setting.scope xs) (run_all mems can.setting.roomy xs s.left (store_of s)) s s xs
body_start mems xs s can = record {
  can = can;
  same_roomy = refl;
  same_final = refl;
  done = [];
  so_far = rest_none mems can.setting.roomy s.left (store_of s) xs;
  values = refl;
  counts = refl;
  left = omega arith;
}

pub body_over : (mems : List PlainMem) (roomy : List ℕ) (final : Scope) (whole : Went (List Shape)) (start now : State) → BodyGo mems roomy final whole start now no_stmt → Finished mems roomy final start whole (Ok tt) now
body_over mems roomy final whole start now h =
    let sees = subst (λ r. Stands mems r final start now) h.same_roomy (subst (λ sc. Stands mems h.can.setting.roomy sc start now) h.same_final (record { sees = h.can.setting.sees; values = h.values; counts = h.counts; left = h.left })) in
    (h.done ++ [], h.so_far ∙ rest_over mems h.can.setting.roomy now.left (store_of now) h.done, sees)

module _ (mems : List PlainMem) (roomy : List ℕ) (final : Scope) (whole : Went (List Shape)) (start now : State) (p : ℕ) (kind : PlainStmtKind) (xs : PlainStmts) (h : BodyGo mems roomy final whole start now (more_stmt (stmt p kind) xs)) where
  pub body_spent : (stop : Stop) → turn now.left (store_of now) ≡ halted stop → whole ≡ halted stop
  body_spent stop e = h.so_far ∙ rest_spent mems h.can.setting.roomy now.left (store_of now) h.done p kind xs stop e

  module _ (u : State) (keeps : Keeps now u) where
    pub body_can : CanRun mems kind u
    body_can = record {
      setting = setting_later h.can.setting keeps;
      typed = h.can.typed.0;
      numbered = numbered_later (ap length keeps.values) (ap length keeps.counts) (numbered_first (mems_in kind) (mems_declared xs) (vals_in kind) (vals_declared xs) (counters_in kind) (counters_declared xs) h.can.numbered);
      told = h.can.told.0;
    }

    module _ (e : turn now.left (store_of now) ≡ went tt u.left (store_of u)) where
      pub body_halted : (stop : Stop) (v : State) → Runs mems kind p u (Err stop) v → whole ≡ halted stop
      unfolding body_can
      body_halted stop v r = h.so_far ∙ rest_halted mems h.can.setting.roomy now.left (store_of now) h.done p kind xs u.left (store_of u) stop e (r body_can)

      pub body_more : (v : State) → Runs mems kind p u (Ok tt) v → BodyGo mems roomy final whole start v xs
      unfolding body_can
      body_more v r =
          let f = r body_can in
          let stands = f.2 in
          let kept = stands_kept {mems = mems} {roomy = h.can.setting.roomy} {scope = h.can.setting.scope} h.can.setting.sees keeps in
          let l = stands.left in
          let m = kept.left in
          let o = h.left in
          let values = stands.values ∙ kept.values in
          let counts = stands.counts ∙ kept.counts in
          record {
            can = record {
              setting = record { program = h.can.setting.program; same = h.can.setting.same; scope = after h.can.setting.scope kind; roomy = h.can.setting.roomy; sees = stands.sees };
              typed = h.can.typed.1;
              numbered = numbered_later values counts (numbered_rest (mems_in kind) (mems_declared xs) (vals_in kind) (vals_declared xs) (counters_in kind) (counters_declared xs) h.can.numbered);
              told = h.can.told.1;
            };
            same_roomy = h.same_roomy;
            same_final = h.same_final;
            done = h.done ++ f.0;
            so_far = h.so_far ∙ rest_more mems h.can.setting.roomy now.left (store_of now) h.done p kind xs u.left (store_of u) f.0 v.left (store_of v) e f.1;
            values = values ∙ h.values;
            counts = counts ∙ h.counts;
            left = omega arith;
          }
