-- The head of a loop, its combiner, and what is visible inside of it.
use Rattle.std.proofs.Common.{◌≡◌, ℕ, suc, ◌+◌, ◌≤◌, false, ◌&&◌, List, [], ◌∷◌, length, Some, refl, sym, ap, subst, ◌∙◌, true≢false, arith}
use Rattle.std.specs.Prelude.{Contains, slice_index_or}
use Rattle.sp_words.specs.declared.kind.BinOp.{BinOp}
use Rattle.sp_words.specs.declared.kind.BinOp.TheVariants as binary
use Rattle.sp_words.specs.declared.types.Ty.{Ty}
use Rattle.sp_reader.specs.PlainTree.{PlainIdent}
use Rattle.sp_reader.specs.PlainStatement.{PlainCounter, PlainComb, PlainHead}
use Rattle.sp_tree.specs.Footprint.{CountersName}
use Rattle.sp_tree.specs.PlainProgram.{PlainProgram}
use Rattle.sp_tree.specs.Typing.{Scope, BindersFresh, CountersTyped, CombTyped, IsNumber, visible, with_counter, with_counters as with_numbers, all_but}
use Rattle.sp_types.specs.Spans.{twice, binds_refusals, with_binds, counters_refusals, names_for_counters, combines_numbers, is_bit_type, comb_refusals, comb_names}
use Rattle.sp_types.specs.Statements.{head_refusals}
use Rattle.sp_types.specs.Visible.{counter, Visible, declare}
use Rattle.sp_typed.proofs.NoneLemmas.{both_none, three_none, not_noted, as_many}
use Rattle.sp_typed.proofs.SpanLemmas.{counters_right}
use Rattle.sp_typed.specs.Declarations.{texts, with_counters}
use Rattle.sp_typed.specs.Named.{Here, given}
use Rattle.sp_typed.specs.ReadTree.{IsReadHead, IsCombiner}
use Rattle.sp_typed.specs.Statements.{counters_typed, comb_typed}
use Rattle.sp_typing.specs.Places.{Held, Place, IsAround}
use Rattle.sp_typing.proofs.AloneLemmas.{counters_alone}
use Rattle.sp_typing.proofs.FindLemmas.{Found}
use Rattle.sp_typing.proofs.HeldLemmas.{held_at, held_tail}
use Rattle.sp_typing.proofs.PlaceLemmas.{fresh, give_counter}

pub record HeadRight (p : PlainProgram) (scope : Scope) (here : Here) (seen : Visible) (h : PlainHead) : Type 0 where
  pub counters : CountersTyped p scope (counters_typed here here.counters h.counters)
  pub inside : Place p (with_numbers scope (counters_typed here here.counters h.counters)) (with_counters here.names here.counters h.binds) (with_binds seen h.binds).names
  pub alone : (acc : ℕ) → IsAround p seen acc → CountersName (all_but p acc) (counters_typed here here.counters h.counters)

record BindersRight (p : PlainProgram) (here : Here) (scope : Scope) (names : Found) (seen : Visible) (n : ℕ) (cs : List PlainCounter) (binds : List PlainIdent) : Type 0 where
  fresh_ones : BindersFresh p scope (counters_typed here n cs)
  inside : Place p (with_numbers scope (counters_typed here n cs)) (with_counters names n binds) (with_binds seen binds).names

counted : (here : Here) (n : ℕ) (cs : List PlainCounter) → length (counters_typed here n cs) ≡ length cs
counted here n [] = refl
counted here n (c ∷ cs) = ap suc (counted here (n + 1) cs)

module _ (p : PlainProgram) where
  binders_right : (here : Here) (scope : Scope) (names : Found) (seen : Visible) (n : ℕ) (cs : List PlainCounter) (binds : List PlainIdent) → Place p scope names seen.names
      → Held p.counters n (texts binds) → length cs ≡ length binds → binds_refusals seen binds ≡ [] → BindersRight p here scope names seen n cs binds
  binders_right here scope names seen n [] [] at held e none = record { fresh_ones = tt; inside = at }
  binders_right here scope names seen n [] (i ∷ binds) at held e none = absurd (omega arith)
  binders_right here scope names seen n (c ∷ cs) [] at held e none = absurd (omega arith)
  binders_right here scope names seen n (c ∷ cs) (i ∷ binds) at held e none =
      let f = both_none (twice seen i) (binds_refusals (declare seen i.text counter) binds) none in
      let free = not_noted _ _ f.0 in
      let name : slice_index_or p.counters n [] ≡ i.text = held_at p.counters n i.text (texts binds) [] held in
      let rest = binders_right here (with_counter scope n) (given names i.text counter n) (declare seen i.text counter) (n + 1) cs binds
      (give_counter p scope names seen at i.text n free name) (held_tail p.counters n i.text (texts binds) held) (omega arith) f.1 in
      record {
        fresh_ones = ((λ h. fresh p scope names seen at i.text free (subst (λ t. Contains (visible p scope) t) name h)), rest.fresh_ones);
        inside = rest.inside;
      }

  pub head_right : (scope : Scope) (here : Here) (seen : Visible) (h : PlainHead) → Place p scope here.names seen.names → Held p.counters here.counters (texts h.binds) → IsReadHead h
      → head_refusals seen h.counters h.binds ≡ [] → HeadRight p scope here seen h
  head_right scope here seen h at held read none =
      let f = three_none (counters_refusals seen h.counters) (names_for_counters (length h.counters) h.binds) (binds_refusals seen h.binds) none in
      let many : length h.counters ≡ length h.binds = as_many (length h.counters) h.binds read.binder f.1 in
      let b = binders_right here scope here.names seen here.counters h.counters h.binds at held many f.2 in
      let c = counters_right p scope here seen at.agree at.same here.counters h.counters read.counters f.0 in
      let n = counted here here.counters h.counters in
      record {
        counters = record {
          one_to_four = (subst (λ k. 1 ≤ k) (sym n) read.one_to_four.0, subst (λ k. k ≤ 4) (sym n) read.one_to_four.1);
          bounds = c.bounds;
          lanes = c.lanes read.one_to_four.0;
          binders = b.fresh_ones;
        };
        inside = b.inside;
        alone = λ acc around. counters_alone p scope here seen at acc around here.counters h.counters read.counters f.0;
      }

-- ---- combiners

no_bit : (ty : Ty) → is_bit_type (Some ty) ≡ false → IsNumber ty
no_bit ty e w = true≢false (ap (λ t. is_bit_type (Some t)) (sym w) ∙ e)

operator_right : (op : BinOp) (ty : Ty) → IsCombiner op → (combines_numbers op && is_bit_type (Some ty)) ≡ false → CombTyped (comb_typed op) ty
operator_right binary.Add ty is e = no_bit ty e
operator_right binary.Mul ty is e = no_bit ty e
operator_right binary.Min ty is e = no_bit ty e
operator_right binary.Max ty is e = no_bit ty e
operator_right binary.And ty is e = tt
operator_right binary.Or ty is e = tt
operator_right binary.Xor ty is e = tt
operator_right binary.Sub ty is e = absurd is
operator_right binary.Div ty is e = absurd is
operator_right binary.Rem ty is e = absurd is
operator_right binary.Lt ty is e = absurd is
operator_right binary.Le ty is e = absurd is
operator_right binary.Gt ty is e = absurd is
operator_right binary.Ge ty is e = absurd is
operator_right binary.Eq ty is e = absurd is
operator_right binary.Ne ty is e = absurd is

pub comb_right : (ty : Ty) (c : PlainComb) → IsCombiner c.operator → comb_refusals (Some ty) c ≡ [] → CombTyped (comb_typed c.operator) ty
comb_right ty c is none = operator_right c.operator ty is (not_noted _ _ (both_none _ (comb_names c.params c.args) none).0)
