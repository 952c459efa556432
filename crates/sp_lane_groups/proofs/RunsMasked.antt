-- A lane that has no iteration changes nothing.
use Rattle.std.proofs.Common.{◌≡◌, ℕ, zero, suc, ◌+◌, ◌-◌, ◌<◌, Bool, true, false, List, [], ◌∷◌, ◌++◌, length, map, Option, Some, None, refl, sym, ◌∙◌, ap, subst, arith}
use Rattle.std.proofs.lemmas.Bool.{true≢false, eq-eqb}
use Rattle.std.proofs.lemmas.List.{append_assoc, length-append}
use Rattle.std.specs.Prelude.{option_map, slice_index, nat_le, bit_and, ◌&&◌}
use Rattle.sp_words.specs.declared.kind.BinOp.TheVariants.{And}
use Rattle.sp_words.specs.declared.types.Ty.{Ty}
use Rattle.sp_words.specs.declared.types.Ty.TheVariants.{Bit}
use Rattle.sp_core.specs.declared.operation.OpKind.{OpKind}
use Rattle.sp_core.specs.declared.operation.OpKind.TheVariants.{Word, Count, Live, Read, Write, Enq, Deq, Reset, One, Two, Shift, Mux, Cast}
use Rattle.sp_core.specs.History.{Entry, left_out, gave, word_of, word_at}
use Rattle.sp_core.specs.OperationRules.{is_access}
use Rattle.sp_core.specs.Operations.{is_masked, done_by, operation, operations_after}
use Rattle.sp_core.specs.Operators.{bit}
use Rattle.sp_core.specs.PlainCore.{PlainOp, PlainCore}
use Rattle.sp_core.specs.Scope.{Scope, is_some_up_to}
use Rattle.sp_core.specs.Step.{Step, Went, went, stopped, more, pure, ◌>>=◌}
use Rattle.sp_words.specs.Words.{word_and}
use Rattle.sp_core.specs.Store.{Store}
use Rattle.sp_lanes.specs.Bodies.{computes, live_op, under, in_mask, at_places, lane_from}
use Rattle.sp_lanes.specs.Within.{Within, kind_in, op_in}
use Rattle.sp_lane_groups.specs.RunsLaws.{AreNamed, MaskedLaneRests}

append_none : {A : Type 0} (xs : List A) → xs ++ [] ≡ xs
append_none [] = refl
append_none (x ∷ xs) = ap (λ l. x ∷ l) (append_none xs)

-- what is done stays at its place, and what is done next stands at the end
word_kept : (done es : List Entry) (k : ℕ) → k < length done → word_at (done ++ es) k ≡ word_at done k
word_kept [] es k lt = absurd (omega arith)
word_kept (e ∷ done) es zero lt = refl
word_kept (e ∷ done) es (suc k) lt = word_kept done es k (omega arith)

word_end : (done : List Entry) (e : Entry) (at : ℕ) → at ≡ length done → word_at (done ++ e ∷ []) at ≡ word_of e
word_end [] e at same = ap (λ k. word_at (e ∷ []) k) same
word_end (d ∷ done) e zero same = absurd (omega (arith, same))
word_end (d ∷ done) e (suc at) same = word_end done e at (omega (arith, same))

none_and : (n : ℕ) → bit_and 0 n ≡ 0
none_and n = refl

module _ (lanes : PlainCore) (scope : Scope) where
  none_rests : (done : List Entry) (s : Store) → (es : List Entry) × (operations_after lanes scope done [] s ≡ went (done ++ es) s)
  unfolding operations_after pure
  none_rests done s = ([], ap (λ d. went d s) (sym (append_none done)))

  -- an operation that changes nothing, and operations after it that don't
  one_rests : (done : List Entry) (op : PlainOp) (ops : List PlainOp) (s : Store) (e : Entry) → operation lanes scope op done s ≡ went e s
      → (es : List Entry) × (operations_after lanes scope (done ++ e ∷ []) ops s ≡ went ((done ++ e ∷ []) ++ es) s)
      → (es : List Entry) × (operations_after lanes scope done (op ∷ ops) s ≡ went (done ++ es) s)
  unfolding operations_after ◌>>=◌
  one_rests done op ops s e here rest = (
    e ∷ rest.0,
    ap (λ (r : Went Entry). elim r as (λ _. Went (List Entry)) [ went a t ↦ operations_after lanes scope (done ++ a ∷ []) ops t | stopped ↦ stopped | more ↦ more ]) here
        ∙ rest.1 ∙ ap (λ d. went d s) (append_assoc done (e ∷ []) rest.0),
  )

  -- what is no access changes nothing, whatever its mask is
  pure_kind : (w : Within) (kind : OpKind) (ty : Ty) (args : List ℕ) (s : Store) → is_access kind ≡ false → (e : Entry) × (done_by lanes scope (kind_in w kind) ty None args s ≡ went e s)
  unfolding pure
  pure_kind w (Word n) ty args s h = (_, refl)
  pure_kind w (Count c l) ty args s h = (_, refl)
  pure_kind w (Live c f l) ty args s h = (_, refl)
  pure_kind w Read ty args s h = absurd (true≢false h)
  pure_kind w Write ty args s h = absurd (true≢false h)
  pure_kind w Enq ty args s h = absurd (true≢false h)
  pure_kind w Deq ty args s h = absurd (true≢false h)
  pure_kind w Reset ty args s h = absurd (true≢false h)
  pure_kind w (One o) ty args s h = (_, refl)
  pure_kind w (Two o) ty args s h = (_, refl)
  pure_kind w (Shift l by) ty args s h = (_, refl)
  pure_kind w Mux ty args s h = (_, refl)
  pure_kind w (Cast to) ty args s h = (_, refl)

  left_gives : (s : Store) → pure left_out s ≡ went left_out s
  unfolding pure
  left_gives s = refl

  plain_operation : (w : Within) (kind : OpKind) (ty : Ty) (args : List ℕ) (mask : Option ℕ) (done : List Entry) (s : Store) → is_access kind ≡ false
      → (e : Entry) × (operation lanes scope (record { kind = kind_in w kind; ty = ty; args = args; mem = None; mask = mask }) done s ≡ went e s)
  plain_operation w kind ty args mask done s h = by (is_masked mask done)
    where
      by : (b : Bool) → (e : Entry) × (elim b as (λ _. Step Entry) [ true ↦ pure left_out | false ↦ done_by lanes scope (kind_in w kind) ty None (map (word_at done) args) ] s ≡ went e s)
      by true = (left_out, left_gives s)
      by false = pure_kind w kind ty (map (word_at done) args) s h

  -- what is under a mask of 0 is left out
  masked_operation : (op : PlainOp) (mask : ℕ) (done : List Entry) (s : Store) → word_at done mask ≡ 0 → operation lanes scope (under mask op) done s ≡ went left_out s
  unfolding pure
  masked_operation op mask done s e = ap (λ b. elim b as (λ _. Step Entry) [ true ↦ pure left_out | false ↦ done_by lanes scope op.kind op.ty op.mem (map (word_at done) op.args) ] s) (eq-eqb (word_at done mask) 0 e)

  -- the conjunction of a mask of 0 and another one
  both_masked : (live k : ℕ) (done : List Entry) (s : Store) → word_at done live ≡ 0 → operation lanes scope (computes (Two And) Bit (live ∷ k ∷ [])) done s ≡ went (gave 0) s
  unfolding pure word_and
  both_masked live k done s e = ap (λ n. went (gave (bit_and n (word_at done k))) s) e ∙ ap (λ n. went (gave n) s) (none_and (word_at done k))

  -- an operation of the body, by its parts
  op_rests : (w : Within) (live at : ℕ) (places : List ℕ) (kind : OpKind) (ty : Ty) (args : List ℕ) (m mask : Option ℕ) (done : List Entry) (ops : List PlainOp) (s : Store)
      → (m ≡ None → is_access kind ≡ false) → at ≡ length done → live < length done → word_at done live ≡ 0
      → ((next : List Entry) → length (done ++ next) ≡ at + length (in_mask live at m (at_places places (op_in w (record { kind = kind; ty = ty; args = args; mem = m; mask = mask }))))
      → (es : List Entry) × (operations_after lanes scope (done ++ next) ops s ≡ went ((done ++ next) ++ es) s))
      → (es : List Entry) × (operations_after lanes scope done (in_mask live at m (at_places places (op_in w (record { kind = kind; ty = ty; args = args; mem = m; mask = mask }))) ++ ops) s ≡ went (done ++ es) s)
  op_rests w live at places kind ty args None mask done ops s named same lt zero_mask rest =
      let a = plain_operation w kind ty (map (slice_index places) args) (option_map (slice_index places) mask) done s (named refl) in
      one_rests done (at_places places (op_in w (record { kind = kind; ty = ty; args = args; mem = None; mask = mask }))) ops s a.0 a.1 (rest (a.0 ∷ []) (omega (arith, same, length-append done (a.0 ∷ []))))
  op_rests w live at places kind ty args (Some m) None done ops s named same lt zero_mask rest =
      one_rests done (under live (at_places places (op_in w (record { kind = kind; ty = ty; args = args; mem = Some m; mask = None })))) ops s left_out
      (masked_operation (at_places places (op_in w (record { kind = kind; ty = ty; args = args; mem = Some m; mask = None }))) live done s zero_mask)
      (rest (left_out ∷ []) (omega (arith, same, length-append done (left_out ∷ []))))
  op_rests w live at places kind ty args (Some m) (Some k) done ops s named same lt zero_mask rest =
      one_rests done (computes (Two And) Bit (live ∷ slice_index places k ∷ [])) (under at (at_places places (op_in w (record { kind = kind; ty = ty; args = args; mem = Some m; mask = Some k }))) ∷ ops) s (gave 0)
      (both_masked live (slice_index places k) done s zero_mask)
      (one_rests (done ++ gave 0 ∷ []) (under at (at_places places (op_in w (record { kind = kind; ty = ty; args = args; mem = Some m; mask = Some k })))) ops s left_out
      (masked_operation (at_places places (op_in w (record { kind = kind; ty = ty; args = args; mem = Some m; mask = Some k }))) at (done ++ gave 0 ∷ []) s (word_end done (gave 0) at same))
      (subst (λ d. (es : List Entry) × (operations_after lanes scope d ops s ≡ went (d ++ es) s)) (sym (append_assoc done (gave 0 ∷ []) (left_out ∷ [])))
      (rest (gave 0 ∷ left_out ∷ []) (omega (arith, same, length-append done (gave 0 ∷ left_out ∷ []))))))

  -- the operations of a lane from a place on
  from_rests : (w : Within) (live at : ℕ) (places : List ℕ) (ops : List PlainOp) (others : List (Option ℕ)) (done : List Entry) (s : Store)
      → AreNamed ops → at ≡ length done → live < length done → word_at done live ≡ 0
      → (es : List Entry) × (operations_after lanes scope done (lane_from w live at places ops others).ops s ≡ went (done ++ es) s)
  from_rests w live at places [] others done s named same lt zero_mask = none_rests done s
  from_rests w live at places (op ∷ ops) [] done s named same lt zero_mask = none_rests done s
  from_rests w live at places (op ∷ ops) (Some p ∷ others) done s named same lt zero_mask = from_rests w live at (places ++ p ∷ []) ops others done s named.1 same lt zero_mask
  from_rests w live at places (op ∷ ops) (None ∷ others) done s named same lt zero_mask =
      let new : List PlainOp = in_mask live at op.mem (at_places places (op_in w op)) in
      op_rests w live at places op.kind op.ty op.args op.mem op.mask done (lane_from w live (at + length new) (places ++ (at + length new - 1) ∷ []) ops others).ops s named.0 same lt zero_mask
      (λ next long. from_rests w live (at + length new) (places ++ (at + length new - 1) ∷ []) ops others (done ++ next) s named.1 (sym long) (omega (arith, lt, length-append done next)) (word_kept done next live lt ∙ zero_mask))

  -- whether a lane has an iteration
  live_gives : (counter l : ℕ) (done : List Entry) (s : Store) → (scope counter).live l ≡ false → operation lanes scope (live_op counter l l) done s ≡ went (gave 0) s
  unfolding pure
  live_gives counter l done s e = ap (λ b. went (gave (bit b)) s) (one_lane (nat_le l l) (l - l) (omega arith))
    where
      one_lane : (b : Bool) (n : ℕ) → n ≡ 0 → (b && is_some_up_to (scope counter).live l n) ≡ false
      one_lane true n i = ap (is_some_up_to (scope counter).live l) i ∙ e
      one_lane false n i = refl

pub lane_rests : (lanes : PlainCore) → MaskedLaneRests lanes
lane_rests lanes scope counter l at in_lane body others done s named same off =
    one_rests lanes scope done (live_op counter l l) (lane_from (in_lane l) at (suc at) [] body others).ops s (gave 0) (live_gives lanes scope counter l done s off)
    (from_rests lanes scope (in_lane l) at (suc at) [] body others (done ++ gave 0 ∷ []) s named (omega (arith, same, length-append done (gave 0 ∷ []))) (omega (arith, same, length-append done (gave 0 ∷ []))) (word_end done (gave 0) at same))
