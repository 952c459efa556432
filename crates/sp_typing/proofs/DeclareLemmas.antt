-- Declarations and values without refusals.
use Rattle.std.proofs.Common.{◌≡◌, ℕ, false, List, [], ◌∷◌, ◌++◌, Option, Some, None, is_none, is_some, IsTrue, refl, sym, ap, subst, ◌∙◌, true≢false}
use Rattle.std.specs.Prelude.{Contains, slice_index_or}
use Rattle.sp_words.specs.declared.kind.Kind.{Kind}
use Rattle.sp_words.specs.declared.types.Ty.{Ty}
use Rattle.sp_reader.specs.declared.syntax.expression.SynTy.{SynTy}
use Rattle.sp_reader.specs.PlainTree.{PlainIdent, PlainExprKind, expr}
use Rattle.sp_reader.specs.PlainStatement.{bind}
use Rattle.sp_tree.specs.PlainProgram.{PlainProgram, PlainMem, no_mem}
use Rattle.sp_tree.specs.Typing.{Scope, IsFresh, visible, mem_at, with_mem, with_val, all_but}
use Rattle.sp_types.specs.Expressions.{expr_refusals, type_refusals}
use Rattle.sp_types.specs.Spans.{twice}
use Rattle.sp_types.specs.Statements.{declaration_refusals, word}
use Rattle.sp_types.specs.Types.{own, own_or_int, type_of}
use Rattle.sp_types.specs.Visible.{memory, value, Visible, symbol_of, declare}
use Rattle.sp_typed.proofs.ExpressionLemmas.{by_itself, expr_right}
use Rattle.sp_typed.proofs.NoneLemmas.{both_none, not_noted}
use Rattle.sp_typed.specs.Declarations.{mem_of}
use Rattle.sp_typed.specs.Expressions.{known, type_by_itself}
use Rattle.sp_typed.specs.Named.{Here, given}
use Rattle.sp_typed.specs.ReadTree.{IsReadExpr}
use Rattle.sp_typing.specs.Places.{Held, Place, IsAround, StmtRight}
use Rattle.sp_typing.proofs.AloneLemmas.{expr_alone}
use Rattle.sp_typing.proofs.HeldLemmas.{held_at}
use Rattle.sp_typing.proofs.PlaceLemmas.{fresh, give_mem, give_val}
use Rattle.sp_typing.proofs.UsedLemmas.{new_name}

type_there : (o : Option Ty) → is_none o ≡ false → o ≡ Some (known o)
type_there None e = absurd (true≢false e)
type_there (Some ty) e = refl

-- a memory that is declared
pub record Declared (p : PlainProgram) (scope : Scope) (here : Here) (seen : Visible) (i : PlainIdent) (kind : Kind) (ty : SynTy) (dims : List ℕ) : Type 0 where
  pub new : IsFresh p scope (mem_at p here.mems).name
  pub alone : (acc : ℕ) → IsAround p seen acc → IsTrue (all_but p acc here.mems)
  pub next : Place p (with_mem scope here.mems) (given here.names i.text (memory kind (type_of ty) dims) here.mems) (declare seen i.text (memory kind (type_of ty) dims)).names

module _ (p : PlainProgram) (scope : Scope) (here : Here) (seen : Visible) (at : Place p scope here.names seen.names) where
  pub declared : (place : ℕ) (i : PlainIdent) (kind : Kind) (ty : SynTy) (dims : List ℕ) (start : Option ℕ) → Held p.mems here.mems (mem_of place i kind ty dims start ∷ [])
      → declaration_refusals seen i ty ≡ [] → Declared p scope here seen i kind ty dims
  declared place i kind ty dims start held none =
      let f = both_none (twice seen i) (type_refusals ty) none in
      let free = not_noted _ _ f.0 in
      let e : mem_at p here.mems ≡ mem_of place i kind ty dims start = held_at p.mems here.mems (mem_of place i kind ty dims start) [] no_mem held in
      let name : (mem_at p here.mems).name ≡ i.text = ap (λ (m : PlainMem). m.name) e in
      let t = type_there (type_of ty) (not_noted _ _ f.1) in
      let P : Option Ty → Type 0 = λ o. Place p (with_mem scope here.mems) (given here.names i.text (memory kind o dims) here.mems) (declare seen i.text (memory kind o dims)).names in
      record {
        new = λ h. fresh p scope here.names seen at i.text free (subst (λ x. Contains (visible p scope) x) name h);
        alone = λ acc around. new_name p seen acc here.mems around (ap (λ x. is_some (symbol_of seen x)) name ∙ free);
        next = subst P (sym t) (give_mem p scope here.names seen at i.text kind (known (type_of ty)) dims here.mems free name
            (ap (λ (m : PlainMem). m.kind) e) (ap (λ (m : PlainMem). m.ty) e) (ap (λ (m : PlainMem). m.dims) e));
      }

  -- a value of a type that an expression has by itself
  pub valued : (i : PlainIdent) (ty : Ty) (own_ty : Option Ty) (n : ℕ) → twice seen i ≡ [] → own_ty ≡ Some ty → slice_index_or p.vals n [] ≡ i.text
      → Place p (with_val scope n ty) (given here.names i.text (value (Some ty)) n) (declare seen i.text (value own_ty)).names
  valued i ty own_ty n none e name =
      let P : Option Ty → Type 0 = λ o. Place p (with_val scope n ty) (given here.names i.text (value (Some ty)) n) (declare seen i.text (value o)).names in
      subst P (sym e) (give_val p scope here.names seen at i.text ty n (not_noted _ _ none) name)

  pub fresh_val : (i : PlainIdent) (n : ℕ) → twice seen i ≡ [] → slice_index_or p.vals n [] ≡ i.text → IsFresh p scope (slice_index_or p.vals n [])
  fresh_val i n none name = λ h. fresh p scope here.names seen at i.text (not_noted _ _ none) (subst (λ x. Contains (visible p scope) x) name h)

  pub bind_right : (i : PlainIdent) (place : ℕ) (k : PlainExprKind) → Held p.vals here.vals (i.text ∷ []) → IsReadExpr (expr place k)
      → twice seen i ++ expr_refusals seen (word (own_or_int (own seen (expr place k)))) (expr place k) ≡ [] → StmtRight p scope here seen (bind i (expr place k))
  bind_right i place k held read none =
      let e = expr place k in
      let f = both_none (twice seen i) _ none in
      let ask = word (own_or_int (own seen e)) in
      let own_is = by_itself p scope here seen at.agree at.same ask e f.1 in
      let name = held_at p.vals here.vals i.text [] [] held in
      record {
        typed = (fresh_val i here.vals f.0 name, expr_right p scope here seen at.agree at.same ask (type_by_itself here e) e own_is read f.1);
        alone = λ acc around. expr_alone p scope here seen at acc around ask (type_by_itself here e) e read f.1;
        next = valued i (type_by_itself here e) (own_or_int (own seen e)) here.vals f.0 own_is name;
      }
