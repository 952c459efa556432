-- What is visible after statements and under counters, and what of it was visible before.
use Rattle.std.proofs.Common.{◌≡◌, ℕ, suc, ◌<◌, List, [], ◌∷◌, ◌++◌, length, ◌∙◌, subst, sym, arith, Contains, ⊎_elim}
use Rattle.std.proofs.lemmas.List.Elements.{Contains-append_left, Contains-append_right}
use Rattle.sp_words.specs.declared.types.Ty.{Ty}
use Rattle.sp_tree.specs.PlainProgram.{PlainMem}
use Rattle.sp_tree.specs.PlainStatement.{PlainCounter, PlainStmtKind, PlainStmts, stmt, declare, name, set_reg, set_out, set_sram, enq, load_sram, load_line, store, gather, scatter, block, foreach, reduce, mem_reduce, fsm, branch, no_stmt, more_stmt}
use Rattle.sp_tree.specs.Structure.{own_mems}
use Rattle.sp_tree.specs.Typing.{Scope, after, after_all, with_counter, with_counters, with_val}
use Rattle.sp_seq.specs.declared.state.State.{State}
use Rattle.sp_seq.specs.Running.{Numbered, Stands}
use Rattle.sp_seq.specs.States.{Sees}
use Rattle.sp_seq.proofs.RunningLemmas.{first_or_rest, contained_first}

-- all that is visible in the first is visible in the second
pub record Within (a b : Scope) : Type 0 where
  pub mems : (m : ℕ) → Contains a.mems m → Contains b.mems m
  pub vals : (v : ℕ) (ty : Ty) → Contains a.vals (v, ty) → Contains b.vals (v, ty)
  pub counters : (c : ℕ) → Contains a.counters c → Contains b.counters c

pub contained_later : {A : Type 0} (y x : A) (xs : List A) → Contains xs x → Contains (y ∷ xs) x
contained_later y x xs h = (suc h.0, omega (arith, h.1), h.2)

pub within_same : (a : Scope) → Within a a
within_same a = record { mems = λ m h. h; vals = λ v ty h. h; counters = λ c h. h }

pub within_on : (a b c : Scope) → Within a b → Within b c → Within a c
within_on a b c h k = record { mems = λ m x. k.mems m (h.mems m x); vals = λ v ty x. k.vals v ty (h.vals v ty x); counters = λ n x. k.counters n (h.counters n x) }

pub within_val : (scope : Scope) (v : ℕ) (ty : Ty) → Within scope (with_val scope v ty)
within_val scope v ty = record { mems = λ m h. h; vals = λ k t h. contained_later (v, ty) (k, t) scope.vals h; counters = λ c h. h }

pub within_after : (scope : Scope) (kind : PlainStmtKind) → Within scope (after scope kind)
within_after scope (declare m) = record { mems = λ k h. contained_later m k scope.mems h; vals = λ v ty h. h; counters = λ c h. h }
within_after scope (name v e) = record { mems = λ k h. h; vals = λ k ty h. contained_later _ (k, ty) scope.vals h; counters = λ c h. h }
within_after scope _ = within_same scope

pub within_after_all : (body : PlainStmts) (scope : Scope) → Within scope (after_all scope body)
within_after_all no_stmt scope = within_same scope
within_after_all (more_stmt (stmt place kind) rest) scope = within_on scope (after scope kind) _ (within_after scope kind) (within_after_all rest (after scope kind))

pub within_counters : (counters : List PlainCounter) (scope : Scope) → Within scope (with_counters scope counters)
within_counters [] scope = within_same scope
within_counters (c ∷ counters) scope =
    within_on scope (with_counter scope c.number) _
    (record { mems = λ m h. h; vals = λ v ty h. h; counters = λ k h. contained_later c.number k scope.counters h })
    (within_counters counters (with_counter scope c.number))

module _ {mems : List PlainMem} {roomy : List ℕ} where
  pub sees_within : {a b : Scope} {t : State} → Within a b → Sees mems roomy b t → Sees mems roomy a t
  sees_within w h = record {
    declared = h.declared;
    sizes = h.sizes;
    memories = h.memories;
    stored = h.stored;
    live = λ m x. h.live m (w.mems m x);
    values = λ v ty x. h.values v ty (w.vals v ty x);
    counters = λ c x. h.counters c (w.counters c x);
  }

  pub stands_within : {a b : Scope} {s t : State} → Within a b → Stands mems roomy b s t → Stands mems roomy a s t
  stands_within w h = record { sees = sees_within w h.sees; values = h.values; counts = h.counts; left = h.left }

  pub stands_on : {a b : Scope} {s t u : State} → Stands mems roomy a s t → Stands mems roomy b t u → Stands mems roomy b s u
  stands_on h k = let l = h.left in let m = k.left in record { sees = k.sees; values = k.values ∙ h.values; counts = k.counts ∙ h.counts; left = omega arith }

-- a memory that a body declares itself is visible after it
pub own_visible : (body : PlainStmts) (scope : Scope) (m : ℕ) → Contains (own_mems body) m → Contains (after_all scope body).mems m
own_visible no_stmt scope m h = absurd (omega (arith, h.1))
own_visible (more_stmt (stmt place (declare k)) rest) scope m h = ⊎_elim
    (λ e. (within_after_all rest (after scope (declare k))).mems m (subst (λ j. Contains (k ∷ scope.mems) j) e (contained_first k scope.mems)))
    (λ r. own_visible rest (after scope (declare k)) m r)
    (first_or_rest k m (own_mems rest) h)
own_visible (more_stmt (stmt place (name v e)) rest) scope m h = own_visible rest (after scope (name v e)) m h
own_visible (more_stmt (stmt place (set_reg n e)) rest) scope m h = own_visible rest scope m h
own_visible (more_stmt (stmt place (set_out n e)) rest) scope m h = own_visible rest scope m h
own_visible (more_stmt (stmt place (set_sram n es e)) rest) scope m h = own_visible rest scope m h
own_visible (more_stmt (stmt place (enq n e)) rest) scope m h = own_visible rest scope m h
own_visible (more_stmt (stmt place (load_sram a b spans)) rest) scope m h = own_visible rest scope m h
own_visible (more_stmt (stmt place (load_line a b spans)) rest) scope m h = own_visible rest scope m h
own_visible (more_stmt (stmt place (store a spans b)) rest) scope m h = own_visible rest scope m h
own_visible (more_stmt (stmt place (gather a b c e)) rest) scope m h = own_visible rest scope m h
own_visible (more_stmt (stmt place (scatter a b e c)) rest) scope m h = own_visible rest scope m h
own_visible (more_stmt (stmt place (block style body)) rest) scope m h = own_visible rest scope m h
own_visible (more_stmt (stmt place (foreach style counters body)) rest) scope m h = own_visible rest scope m h
own_visible (more_stmt (stmt place (reduce style fold acc counters body word comb)) rest) scope m h = own_visible rest scope m h
own_visible (more_stmt (stmt place (mem_reduce style acc counters body part comb)) rest) scope m h = own_visible rest scope m h
own_visible (more_stmt (stmt place (fsm start tested test state body last next)) rest) scope m h = own_visible rest scope m h
own_visible (more_stmt (stmt place (branch test first second)) rest) scope m h = own_visible rest scope m h

-- numbers of some of these memories, values and counters
module _ {mems : List PlainMem} where
  pub numbered_some : {s : State} {ms vs cs ns ws ds : List ℕ} → ((m : ℕ) → Contains ns m → Contains ms m) → ((v : ℕ) → Contains ws v → Contains vs v) → ((c : ℕ) → Contains ds c → Contains cs c) → Numbered mems s ms vs cs → Numbered mems s ns ws ds
  numbered_some f g k h = record { chip = λ m x. h.chip m (f m x); vals = λ v x. h.vals v (g v x); counters = λ c x. h.counters c (k c x) }

  pub numbered_later : {s t : State} {ms vs cs : List ℕ} → length t.values.items ≡ length s.values.items → length t.counts.items ≡ length s.counts.items → Numbered mems s ms vs cs → Numbered mems t ms vs cs
  numbered_later a b h = record { chip = h.chip; vals = λ v x. subst (λ n. v < n) (sym a) (h.vals v x); counters = λ c x. subst (λ n. c < n) (sym b) (h.counters c x) }

  module _ {s : State} (ms ns vs ws cs ds : List ℕ) (h : Numbered mems s (ms ++ ns) (vs ++ ws) (cs ++ ds)) where
    pub numbered_first : Numbered mems s ms vs cs
    numbered_first = numbered_some (λ m x. Contains-append_left ms ns m x) (λ v x. Contains-append_left vs ws v x) (λ c x. Contains-append_left cs ds c x) h

    pub numbered_rest : Numbered mems s ns ws ds
    numbered_rest = numbered_some (λ m x. Contains-append_right ms ns m x) (λ v x. Contains-append_right vs ws v x) (λ c x. Contains-append_right cs ds c x) h
