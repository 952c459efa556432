-- Loops and FSMs of a program's tree without refusals, where their bodies have none.
use Rattle.std.proofs.Common.{◌≡◌, ℕ, ◌&&◌, ◌||◌, not, Bool, true, false, List, [], slice_index_or, Option, Some, refl, sym, ap, ap₂, subst, ◌∙◌, inr}
use Rattle.sp_words.specs.declared.kind.Kind.{Kind}
use Rattle.sp_words.specs.declared.kind.Kind.TheVariants.{Sram}
use Rattle.sp_words.specs.declared.kind.Style.{Style}
use Rattle.sp_words.specs.declared.types.Ty.{Ty}
use Rattle.sp_reader.specs.PlainTree as tree
use Rattle.sp_reader.specs.PlainStatement as tree_of
use Rattle.sp_tree.specs.declared.statement.Comb.{Comb}
use Rattle.sp_tree.specs.PlainExpression.{PlainExpr, type_of}
use Rattle.sp_tree.specs.PlainProgram.{PlainProgram}
use Rattle.sp_tree.specs.PlainStatement as program
use Rattle.sp_tree.specs.Structure.{counter_numbers}
use Rattle.sp_tree.specs.Typing.{Scope, IsMem, IsFreshVal, CountersTyped, Typed, CombTyped, mem_at, with_val}
use Rattle.sp_printer.specs.Names.{names_in}
use Rattle.sp_printed.specs.Trees.{IsTree}
use Rattle.sp_printed.specs.LoopTrees.{IsHeadTree, IsCombTree}
use Rattle.sp_types.specs.Statements.{head_refusals, acc_refusals, value_refusals, fits_acc, part_name, state, with_state}
use Rattle.sp_types.specs.Types.{is_type, symbol_type}
use Rattle.sp_types.specs.Visible.{memory, value, Visible, symbol_of}
use Rattle.sp_typed.specs.Named.{Here, given}
use Rattle.sp_retyped.specs.Shown.{Shown}
use Rattle.sp_retyped.proofs.Bodies.{val_shown}
use Rattle.sp_retyped.proofs.Names.{none_if, two_none, three_none, mem_means}
use Rattle.sp_retyped.proofs.Numbered.{IsRun}
use Rattle.sp_retyped.proofs.Owns.{own_is, by_itself}
use Rattle.sp_retyped.proofs.Values.{same_type}
use Rattle.sp_unrefused.specs.Placed.{Placed}
use Rattle.sp_unrefused.proofs.Free.{Spared, Spares}
use Rattle.sp_unrefused.proofs.Uses.{used, counters_right, CountersSpare}
use Rattle.sp_unrefused.proofs.Places.{placed_next, placed_binders}
use Rattle.sp_unrefused.proofs.Simple.{comb_none, word_right}
use Rattle.sp_unrefused.proofs.Ends.{binds_named, same_dims}

fits : (t u : Ty) (ds es : List ℕ) → t ≡ u → ds ≡ es → fits_acc (Some (memory Sram (Some t) ds)) (Some (memory Sram (Some u) es)) ≡ true
fits t u ds es e d = both _ _ (subst (λ x. is_type t x ≡ true) e (same_type t)) (same_dims ds es d)
  where
    both : (a b : Bool) → a ≡ true → b ≡ true → (a && b) ≡ true
    both true true x y = refl
    both true false x y = y
    both false b x y = x

neither : (a b : Bool) → a ≡ false → b ≡ true → (a || not b) ≡ false
neither a b x y = ap₂ (λ u v. u || not v) x y

module _ (p : PlainProgram) where
  module _ (scope : Scope) (here : Here) (seen : Visible) (accs : List ℕ) (h : Placed p scope here seen accs) where
    pub head_right : (s : Style) (cs : List program.PlainCounter) (head : tree_of.PlainHead) → IsHeadTree (names_in p) s cs head → CountersTyped p scope cs → CountersSpare p scope here seen accs h cs → IsRun here.counters (counter_numbers cs)
        → head_refusals seen head.counters head.binds ≡ []
    head_right s cs head t typed spare run =
        three_none _ _ _ (counters_right p scope here seen accs h t.counters_are typed.bounds spare (inr typed.lanes)) (binds_named p t.counters_are t.binds_are) (placed_binders p scope here seen accs here.counters t.binds_are typed.binders run h).1

    -- the accumulator and the head of its loop
    pub acc_right : (kind : Kind) (ty : Ty) (acc : ℕ) (i : tree.PlainIdent) (s : Style) (cs : List program.PlainCounter) (head : tree_of.PlainHead) → i.text ≡ (mem_at p acc).name → IsMem p scope acc kind ty → Spared p accs acc
        → IsHeadTree (names_in p) s cs head → CountersTyped p scope cs → CountersSpare p scope here seen accs h cs → IsRun here.counters (counter_numbers cs) → acc_refusals seen kind head.counters head.binds i ≡ []
    acc_right kind ty acc i s cs head text mem spared t typed spare run = two_none _ _ (used p scope here seen accs h i acc kind ty text mem spared).use_right (head_right s cs head t typed spare run)

    pub symbol_type_is : (kind : Kind) (ty : Ty) (acc : ℕ) (i : tree.PlainIdent) → i.text ≡ (mem_at p acc).name → IsMem p scope acc kind ty → Spared p accs acc → symbol_type (symbol_of seen i.text) ≡ Some ty
    symbol_type_is kind ty acc i text mem spared = ap symbol_type (used p scope here seen accs h i acc kind ty text mem spared).symbol

    -- ---- states of an FSM

    pub state_is : {e : PlainExpr} {x : tree.PlainExpr} → IsTree (names_in p) e x → Typed p scope e → state seen x ≡ Some (type_of e)
    state_is t typed = by_itself (own_is p scope here h.shown seen h.same t typed)

    -- where a binder stands for a state
    pub placed_state : {e : PlainExpr} {x : tree.PlainExpr} (v : ℕ) (i : tree.PlainIdent) (there : Here) → IsTree (names_in p) e x → Typed p scope e → i.text ≡ slice_index_or p.vals v [] → IsFreshVal p scope v
        → there.names ≡ given here.names i.text (value (Some (type_of e))) v → Placed p (with_val scope v (type_of e)) there (with_state seen x i) accs
    placed_state {e} {x} v i there t typed text fresh names =
        let shown = val_shown p scope here h.shown v v (type_of e) (type_of e) i.text text refl refl fresh in
        placed_next p scope (with_val scope v (type_of e)) here there seen accs h (slice_index_or p.vals v []) i.text text fresh (value (state seen x)) (value (Some (type_of e))) v (ap (λ o. value o) (state_is t typed)) names
        (subst (Shown p (with_val scope v (type_of e))) (sym names) shown) (λ a at. at)

  -- the word of a Reduce or a Fold, at the end of the body
  pub value_right : (scope : Scope) (here : Here) (seen : Visible) (accs : List ℕ) → Placed p scope here seen accs → (word : PlainExpr) (x : tree.PlainExpr) (c : Comb) (y : tree_of.PlainComb) (want : Option Ty) → want ≡ Some (type_of word) → IsTree (names_in p) word x → Typed p scope word
      → Spares p accs word → CombTyped c (type_of word) → IsCombTree c y → value_refusals want seen x y ≡ []
  value_right scope here seen accs h word x c y want same t typed spares comb is = two_none _ _ (word_right p scope here seen accs h want same t typed spares) (comb_none want (type_of word) same comb is)

  -- the part that a MemReduce combines
  pub part_right : (scope : Scope) (here : Here) (seen : Visible) (accs : List ℕ) → Placed p scope here seen accs → (outside : Bool) (acc part : ℕ) (i j : tree.PlainIdent) (ty : Ty) → outside ≡ false → i.text ≡ (mem_at p acc).name → j.text ≡ (mem_at p part).name
      → IsMem p scope acc Sram ty → IsMem p scope part Sram ty → (mem_at p part).dims ≡ (mem_at p acc).dims → Spared p accs part → part_name outside seen i.text j ≡ []
  part_right scope here seen accs h outside acc part i j ty none text inner a b dims spared =
      let u = used p scope here seen accs h j part Sram ty inner b spared in
      let v = (mem_means p scope here h.shown i acc Sram ty text a).seen_is seen h.same in
      two_none _ _ u.name (none_if (outside || not (fits_acc (symbol_of seen i.text) (symbol_of seen j.text))) _
      (neither outside (fits_acc (symbol_of seen i.text) (symbol_of seen j.text)) none (ap₂ fits_acc v u.symbol ∙ fits ty ty (mem_at p acc).dims (mem_at p part).dims refl (sym dims))))
