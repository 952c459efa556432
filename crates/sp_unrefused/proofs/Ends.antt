-- What stands at the end of a body of a program's tree.
use Rattle.std.proofs.Common.{◌≡◌, ℕ, suc, ◌==◌, not, eq-eqb, Bool, true, List, [], ◌∷◌, ◌++◌, map, length, slice_index_or, Contains, IsTrue, refl, sym, ap, subst, ◌∙◌, inl, inr, arith}
use Rattle.std.specs.Prelude.{◌⊎◌}
use Rattle.std.specs.Bool.{nat_eq}
use Rattle.std.specs.Cmp.Lexicographic.{pointwise}
use Rattle.std.proofs.lemmas.List.Elements.{Contains-append_cases}
use Rattle.sp_reader.specs.PlainTree as tree
use Rattle.sp_reader.specs.PlainStatement as tree_of
use Rattle.sp_tree.specs.Footprint.{BodyNames}
use Rattle.sp_tree.specs.PlainProgram.{PlainProgram}
use Rattle.sp_tree.specs.PlainStatement as program
use Rattle.sp_tree.specs.Structure.{mems_declared, mems_in, vals_declared, vals_in, counters_declared, counters_in, counter_numbers, own_mems}
use Rattle.sp_tree.specs.Typing.{Scope, mem_at, visible, IsFresh, BodyTyped, BindersFresh, after, after_all, with_mem, with_counter, with_counters}
use Rattle.sp_printer.specs.Names.{names_in}
use Rattle.sp_printed.specs.LoopTrees.{AreCounterTrees, AreBindTrees}
use Rattle.sp_printed.specs.StatementTrees.{IsBodyTree}
use Rattle.sp_types.specs.Spans.{with_binds, names_for_counters}
use Rattle.sp_types.specs.Statements as rule
use Rattle.sp_types.specs.Visible.{Visible, with_acc}
use Rattle.sp_typed.specs.Declarations as typed
use Rattle.sp_typed.specs.Named.{Here}
use Rattle.sp_retyped.proofs.Bodies.{Numbered, first_part, right_left, right_right, numbered_after}
use Rattle.sp_retyped.proofs.Declared.{Right}
use Rattle.sp_retyped.proofs.Names.{none_if}
use Rattle.sp_retyped.proofs.Numbered.{IsRun, mapped_length}
use Rattle.sp_retyped.proofs.Parts.{binds_count}
use Rattle.sp_retyped.proofs.Scopes.{first_or_rest, one_more, in_middle}
use Rattle.sp_unrefused.specs.Placed.{Placed}
use Rattle.sp_unrefused.proofs.Places.{placed_after, placed_binders, placed_like, placed_inside}

-- ---- lists

-- what holds of some numbers and of one more
pub one_besides : (P : ℕ → Type 0) (accs : List ℕ) (acc : ℕ) → ((a : ℕ) → Contains accs a → P a) → P acc → (a : ℕ) → Contains (accs ++ acc ∷ []) a → P a
one_besides P accs acc h f a at = by (Contains-append_cases accs (acc ∷ []) a at)
  where
    last : (acc ≡ a) ⊎ Contains [] a → P a
    last (inl e) = subst P e f
    last (inr (k, lt, e)) = absurd (omega (arith, lt))

    by : Contains accs a ⊎ Contains (acc ∷ []) a → P a
    by (inl k) = h a k
    by (inr k) = last (first_or_rest acc [] a k)

pub same_dims : (ds es : List ℕ) → ds ≡ es → pointwise nat_eq ds es ≡ true
same_dims ds es e = subst (λ l. pointwise nat_eq ds l ≡ true) e (itself ds)
  where
    itself : (ds : List ℕ) → pointwise nat_eq ds ds ≡ true
    itself [] = refl
    itself (d ∷ ds) = rw (eq-eqb d d refl, itself ds) refl

-- ---- loops

counters_length : {names : _} {cs : List program.PlainCounter} {xs : List tree_of.PlainCounter} → AreCounterTrees names cs xs → length xs ≡ length cs
counters_length AreCounterTrees.no_counters = refl
counters_length (AreCounterTrees.more_counters t ts) = ap (λ n. suc n) (counters_length ts)

names_none : (want : ℕ) (binds : List tree.PlainIdent) → want ≡ length binds → names_for_counters want binds ≡ []
names_none want [] e = refl
names_none want (i ∷ rest) e = none_if (not (want == length (i ∷ rest))) _ (ap not (eq-eqb want (length (i ∷ rest)) e))

module _ (p : PlainProgram) where
  pub binds_named : {cs : List program.PlainCounter} {xs : List tree_of.PlainCounter} {binds : List tree.PlainIdent} → AreCounterTrees (names_in p) cs xs → AreBindTrees (names_in p) cs binds → names_for_counters (length xs) binds ≡ []
  binds_named {cs} {xs} {binds} t b = names_none (length xs) binds (counters_length t ∙ sym (binds_count p b ∙ mapped_length (λ (c : program.PlainCounter). c.number) cs))

  pub with_counters_keeps : (scope : Scope) (cs : List program.PlainCounter) (m : ℕ) → Contains scope.mems m → Contains (with_counters scope cs).mems m
  with_counters_keeps scope [] m at = at
  with_counters_keeps scope (c ∷ cs) m at = with_counters_keeps (with_counter scope c.number) cs m at

  -- the place inside of a loop
  pub placed_loop : {cs : List program.PlainCounter} {binds : List tree.PlainIdent} (scope : Scope) (here : Here) (seen : Visible) (accs : List ℕ) → AreBindTrees (names_in p) cs binds → BindersFresh p scope cs → IsRun here.counters (counter_numbers cs)
      → Placed p scope here seen accs → Placed p (with_counters scope cs) (typed.in_loop here binds) (with_binds seen binds) accs
  placed_loop {cs} {binds} scope here seen accs b fresh run h =
      let inside = (placed_binders p scope here seen accs here.counters b fresh run h).0 in
      placed_like p (with_counters scope cs) (with_counters scope cs) _ (typed.in_loop here binds) (with_binds seen binds) accs inside refl inside.shown (λ a at. at)

  -- and inside of one with an accumulator
  pub placed_acc : {cs : List program.PlainCounter} {binds : List tree.PlainIdent} (scope : Scope) (here : Here) (seen : Visible) (accs : List ℕ) (acc : ℕ) (w : List ℕ) → w ≡ (mem_at p acc).name → Contains scope.mems acc → AreBindTrees (names_in p) cs binds → BindersFresh p scope cs
      → IsRun here.counters (counter_numbers cs) → Placed p scope here seen accs → Placed p (with_counters scope cs) (typed.in_loop here binds) (with_acc (with_binds seen binds) w) (accs ++ acc ∷ [])
  placed_acc {cs} {binds} scope here seen accs acc w text at b fresh run h =
      placed_inside p (with_counters scope cs) (typed.in_loop here binds) (with_binds seen binds) accs acc w text (with_counters_keeps scope cs acc at) (placed_loop scope here seen accs b fresh run h)

  pub placed_end : {body : program.PlainStmts} {ss : tree_of.PlainStmts} (scope : Scope) (here : Here) (seen : Visible) (accs : List ℕ) → IsBodyTree (names_in p) body ss → Placed p scope here seen accs → BodyTyped p scope body → Right p (mems_declared body)
      → Numbered here (mems_declared body) (vals_declared body) (counters_declared body) → Placed p (after_all scope body) (typed.after_all here ss) (rule.after_all seen ss) accs
  placed_end scope here seen accs IsBodyTree.empty h t r n = h
  placed_end scope here seen accs (IsBodyTree.more {s = s} {x = x} {rest = rest} u us) h t r n =
      let mine = right_left p (mems_in s) (mems_declared rest) r in
      let first = first_part (mems_in s) (mems_declared rest) (vals_in s) (vals_declared rest) (counters_in s) (counters_declared rest) n in
      placed_end (after scope s) (typed.after here x) (rule.after seen x) accs us (placed_after p scope here seen accs u h t.0 mine first) t.1 (right_right p (mems_in s) (mems_declared rest) r) (numbered_after p here rest u mine n)

  -- ---- memories of a body

  -- what a body declares itself has a name that isn't visible before it
  pub own_fresh : (scope : Scope) (body : program.PlainStmts) (m : ℕ) → BodyTyped p scope body → Contains (own_mems body) m → IsFresh p scope (mem_at p m).name
  own_fresh scope program.no_stmt m t at = absurd (omega (arith, at.1))
  own_fresh scope (program.more_stmt (program.stmt place (program.declare x)) rest) m t at = by (first_or_rest x (own_mems rest) m at) (λ k. own_fresh (with_mem scope x) rest m t.1 k)
    where
      by : (x ≡ m) ⊎ Contains (own_mems rest) m → (Contains (own_mems rest) m → IsFresh p (with_mem scope x) (mem_at p m).name) → IsFresh p scope (mem_at p m).name
      by (inl e) f = subst (λ y. IsFresh p scope (mem_at p y).name) e t.0
      by (inr k) f = λ there. f k (one_more (mem_at p x).name (visible p scope) (mem_at p m).name there)
  own_fresh scope (program.more_stmt (program.stmt place (program.name v e)) rest) m t at =
      λ there. own_fresh (after scope (program.name v e)) rest m t.1 at (in_middle p (map (λ m. (mem_at p m).name) scope.mems) (map (λ v. slice_index_or p.vals v.0 []) scope.vals) (map (λ c. slice_index_or p.counters c []) scope.counters) (slice_index_or p.vals v []) (mem_at p m).name there)
  own_fresh scope (program.more_stmt (program.stmt place kind) rest) m t at = own_fresh (after scope kind) rest m t.1 at

  -- and is named by it
  pub own_named : (is : ℕ → Bool) (body : program.PlainStmts) (m : ℕ) → BodyNames is body → Contains (own_mems body) m → IsTrue (is m)
  own_named is program.no_stmt m h at = absurd (omega (arith, at.1))
  own_named is (program.more_stmt (program.stmt place (program.declare x)) rest) m h at = by (first_or_rest x (own_mems rest) m at) (λ k. own_named is rest m h.1 k)
    where
      by : (x ≡ m) ⊎ Contains (own_mems rest) m → (Contains (own_mems rest) m → IsTrue (is m)) → IsTrue (is m)
      by (inl e) f = subst (λ y. IsTrue (is y)) e h.0
      by (inr k) f = f k
  own_named is (program.more_stmt (program.stmt place kind) rest) m h at = own_named is rest m h.1 at
