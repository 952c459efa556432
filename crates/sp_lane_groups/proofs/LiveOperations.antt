-- Operations, and lists of them, in a lane.
use Rattle.std.proofs.Common.{◌≡◌, ℕ, Bool, true, false, ◌&&◌, List, [], ◌∷◌, ◌++◌, map, Option, Some, None, refl, sym, ◌∙◌, ap, subst}
use Rattle.std.proofs.lemmas.Bool.{and_parts, true≢false}
use Rattle.std.specs.Prelude.{option_map, slice_index}
use Rattle.sp_words.specs.declared.types.Ty.{Ty}
use Rattle.sp_words.specs.Words.{word_cast}
use Rattle.sp_core.specs.declared.operation.OpKind.{OpKind}
use Rattle.sp_core.specs.declared.operation.OpKind.TheVariants.{Word, Count, Live, Read, Write, Enq, Deq, Reset, One, Two, Shift, Mux, Cast}
use Rattle.sp_core.specs.Around.{Around, is_usable}
use Rattle.sp_core.specs.Declarations.{mem}
use Rattle.sp_core.specs.History.{Entry, left_out, gave, word_at}
use Rattle.sp_core.specs.OperationRules.{is_access, can, is_in_range, names_rightly, indices_of, is_mask, is_operation_right, are_operations_right_after}
use Rattle.sp_core.specs.Operations.{is_masked, access_of, done_by, operation, operations_after}
use Rattle.sp_core.specs.Operators.{one_word, two_word, shifted, chosen}
use Rattle.sp_core.specs.PlainCore.{PlainOp, PlainCore}
use Rattle.sp_core.specs.Scope.{Scope, count_word}
use Rattle.sp_core.specs.Step.{Step, Went, went, stopped, more, pure, ◌>>=◌, stop}
use Rattle.sp_core.specs.Store.{Store}
use Rattle.sp_core.specs.Typed.{Given, is_type, given_type, taken_types, give_all}
use Rattle.sp_lanes.specs.Unrolled.{unrolled}
use Rattle.sp_lanes.specs.Within.{Within, kind_in, op_in, ops_in}
use Rattle.sp_lane_rules.specs.UnrolledPlaces.{GoTogether}
use Rattle.sp_lane_groups.specs.LiveStores.{AreCopies, HaveRoom, HoldAlike, LeavesOthers, ScopesAgree, IsPlainKind, ArePlain}
use Rattle.sp_lane_groups.proofs.LiveAlong.{did_go, answer_of, store_of}
use Rattle.sp_lane_groups.proofs.LiveWhole.{accesses_go}

module _ (core : PlainCore) (around inside : Around) (w : Within) (h : GoTogether core (unrolled core) around inside w) (copies : AreCopies core around w) (rooms : HaveRoom core around w (unrolled core))
    (plain in_lanes : Scope) (agree : ScopesAgree w plain in_lanes) where
  -- a step in the core and one in a lane
  abbrev pub Goes : (A : Type 0) → Step A → Step A → Type 0
  Goes A one two = (s t : Store) → HoldAlike core around w s t → (a : A) (after : Store) → one s ≡ went a after
      → (ended : Store) × (two t ≡ went a ended) × HoldAlike core around w after ended × LeavesOthers core around w t ended

  pure_goes : {A : Type 0} (a b : A) → b ≡ a → Goes A (pure a) (pure b)
  unfolding pure
  pure_goes a b same s t alike c after e =
      (t, ap (λ x. went x t) (same ∙ ap (answer_of a) e), (λ m i. alike m i ∙ ap (λ (u : Store). u m) (ap (store_of s) e)), (λ n others. refl))

  stop_goes : {A : Type 0} (two : Step A) → Goes A stop two
  unfolding stop
  stop_goes two s t alike c after e = absurd (true≢false (sym (ap did_go e)))

  bind_goes : {A B : Type 0} (P Q : Step A) (R S : A → Step B) → Goes A P Q → ((a : A) → Goes B (R a) (S a)) → Goes B (P >>= R) (Q >>= S)
  unfolding ◌>>=◌
  bind_goes {A = A} {B = B} P Q R S f g s t alike b after e = by (P s) refl e
    where
      by : (r : Went A) → P s ≡ r → elim r as (λ _. Went B) [ went a u ↦ R a u | stopped ↦ stopped | more ↦ more ] ≡ went b after
          → (ended : Store) × (elim (Q t) as (λ _. Went B) [ went a u ↦ S a u | stopped ↦ stopped | more ↦ more ] ≡ went b ended) × HoldAlike core around w after ended × LeavesOthers core around w t ended
      by (went a u) i e =
          let x = f s t alike a u i in
          let y = g a u x.0 x.2 b after e in
          (y.0, ap (λ (r : Went A). elim r as (λ _. Went B) [ went a u ↦ S a u | stopped ↦ stopped | more ↦ more ]) x.1 ∙ y.1, y.2, (λ n others. y.3 n others ∙ x.3 n others))
      by stopped i e = absurd (true≢false (sym (ap did_go e)))
      by more i e = absurd (true≢false (sym (ap did_go e)))

  -- what names a memory names one that may be used
  abbrev pub MayUse : Option ℕ → Type 0
  MayUse None = Unit {0}
  MayUse (Some m) = is_usable core around m ≡ true

  access_goes : (kind : OpKind) (m : Option ℕ) (args : List ℕ) → MayUse m → Goes Entry (access_of core plain kind m args) (access_of (unrolled core) in_lanes kind (option_map w.number m) args)
  access_goes kind None args u = stop_goes stop
  access_goes kind (Some m) args u = λ s t alike e after ran. accesses_go core around inside w h copies rooms plain in_lanes kind m args s after t e u alike ran

  done_goes : (kind : OpKind) (ty : Ty) (m : Option ℕ) (args : List ℕ) → IsPlainKind kind → MayUse m → Goes Entry (done_by core plain kind ty m args) (done_by (unrolled core) in_lanes (kind_in w kind) ty (option_map w.number m) args)
  done_goes (Word n) ty m args p u = pure_goes (gave n) (gave n) refl
  done_goes (Count c l) ty m args p u = pure_goes (gave (count_word (plain c) l)) (gave (count_word (in_lanes c) (w.lane c))) (ap gave (agree c ∙ ap (count_word (plain c)) (sym p)))
  done_goes (Live c first last) ty m args p u = absurd p
  done_goes Read ty m args p u = access_goes Read m args u
  done_goes Write ty m args p u = access_goes Write m args u
  done_goes Enq ty m args p u = access_goes Enq m args u
  done_goes Deq ty m args p u = access_goes Deq m args u
  done_goes Reset ty m args p u = access_goes Reset m args u
  done_goes (One op) ty m args p u = pure_goes (gave (one_word op ty (slice_index args 0))) (gave (one_word op ty (slice_index args 0))) refl
  done_goes (Two op) ty m args p u = pure_goes (gave (two_word op ty (slice_index args 0) (slice_index args 1))) (gave (two_word op ty (slice_index args 0) (slice_index args 1))) refl
  done_goes (Shift left by) ty m args p u = pure_goes (gave (shifted left ty (slice_index args 0) by)) (gave (shifted left ty (slice_index args 0) by)) refl
  done_goes Mux ty m args p u = pure_goes (gave (chosen (slice_index args 0) (slice_index args 1) (slice_index args 2))) (gave (chosen (slice_index args 0) (slice_index args 1) (slice_index args 2))) refl
  done_goes (Cast to) ty m args p u = pure_goes (gave (word_cast ty to (slice_index args 0))) (gave (word_cast ty to (slice_index args 0))) refl

  -- an operation whose operands and mask stand at other places, with the same words
  pub operation_goes : (op : PlainOp) (args : List ℕ) (mask : Option ℕ) (done others : List Entry) → IsPlainKind op.kind → MayUse op.mem
      → map (word_at others) args ≡ map (word_at done) op.args → is_masked mask others ≡ is_masked op.mask done
      → Goes Entry (operation core plain op done) (operation (unrolled core) in_lanes (record { kind = kind_in w op.kind; ty = op.ty; args = args; mem = option_map w.number op.mem; mask = mask }) others)
  operation_goes op args mask done others p u words masks =
      subst (λ b. Goes Entry (operation core plain op done) (elim b as (λ _. Step Entry) [ true ↦ pure left_out | false ↦ done_by (unrolled core) in_lanes (kind_in w op.kind) op.ty (option_map w.number op.mem) (map (word_at others) args) ])) (sym masks)
      (subst (λ l. Goes Entry (operation core plain op done) (elim (is_masked op.mask done) as (λ _. Step Entry) [ true ↦ pure left_out | false ↦ done_by (unrolled core) in_lanes (kind_in w op.kind) op.ty (option_map w.number op.mem) l ])) (sym words)
      (by (is_masked op.mask done)))
    where
      by : (b : Bool) → Goes Entry (elim b as (λ _. Step Entry) [ true ↦ pure left_out | false ↦ done_by core plain op.kind op.ty op.mem (map (word_at done) op.args) ])
          (elim b as (λ _. Step Entry) [ true ↦ pure left_out | false ↦ done_by (unrolled core) in_lanes (kind_in w op.kind) op.ty (option_map w.number op.mem) (map (word_at done) op.args) ])
      by true = pure_goes left_out left_out refl
      by false = done_goes op.kind op.ty op.mem (map (word_at done) op.args) p u

  pub named_right : (op : PlainOp) (earlier : Given) → is_operation_right core around earlier op ≡ true → MayUse op.mem
  named_right op earlier e =
      let a = and_parts (is_in_range op.kind op.ty around && names_rightly core around op.kind op.ty op.mem) (give_all earlier op.args (taken_types op.kind op.ty (indices_of core around op.mem)) && is_mask core around earlier op.mask) e in
      by op.mem (and_parts (is_in_range op.kind op.ty around) (names_rightly core around op.kind op.ty op.mem) a.0).1
    where
      by : (m : Option ℕ) → names_rightly core around op.kind op.ty m ≡ true → MayUse m
      by None n = tt
      by (Some m) n =
          (and_parts (is_access op.kind) (is_usable core around m) (and_parts (is_access op.kind && is_usable core around m) (can op.kind (mem core m).kind (mem core m).start && is_type op.ty (mem core m).ty) n).0).1

  -- a list of one lane
  pub list_goes : (ops : List PlainOp) (done : List Entry) (earlier : Given) → ArePlain ops → are_operations_right_after core around earlier ops ≡ true
      → Goes (List Entry) (operations_after core plain done ops) (operations_after (unrolled core) in_lanes done (ops_in w ops))
  unfolding operations_after
  list_goes [] done earlier p e = pure_goes done done refl
  list_goes (op ∷ ops) done earlier p e =
      let a = and_parts (is_operation_right core around earlier op) (are_operations_right_after core around (earlier ++ given_type op.kind op.ty ∷ []) ops) e in
      bind_goes (operation core plain op done) (operation (unrolled core) in_lanes (op_in w op) done) (λ x. operations_after core plain (done ++ x ∷ []) ops) (λ x. operations_after (unrolled core) in_lanes (done ++ x ∷ []) (ops_in w ops))
      (operation_goes op op.args op.mask done done p.0 (named_right op earlier a.0) refl refl)
      (λ x. list_goes ops (done ++ x ∷ []) (earlier ++ given_type op.kind op.ty ∷ []) p.1 a.1)
