-- A list of operations from two stores that hold the same but in memories that are reset first.
use Rattle.std.proofs.Common.{◌≡◌, ℕ, Bool, true, false, ◌&&◌, not, List, [], ◌∷◌, ◌++◌, map, Option, None, Some, refl, sym, ◌∙◌, ap, subst, inl, inr}
use Rattle.std.proofs.lemmas.Bool.{true≢false, eq-eqb, ne_eqb}
use Rattle.std.proofs.lemmas.Bool.Decides.{eqb_tells}
use Rattle.sp_words.specs.declared.types.Ty.{Ty}
use Rattle.sp_words.specs.Memory.{Contents}
use Rattle.sp_core.specs.declared.operation.OpKind.{OpKind}
use Rattle.sp_core.specs.declared.operation.OpKind.TheVariants.{Word, Count, Live, Read, Write, Enq, Deq, Reset, One, Two, Shift, Mux, Cast}
use Rattle.sp_core.specs.Declarations.{fresh}
use Rattle.sp_core.specs.History.{Entry, left_out, touched, word_at}
use Rattle.sp_core.specs.Operations.{is_masked, access, done_by, operation, operations_after}
use Rattle.sp_core.specs.PlainCore.{PlainOp, PlainCore}
use Rattle.sp_core.specs.Scope.{Scope}
use Rattle.sp_core.specs.Step.{Step, Went, went, stopped, more, pure, ◌>>=◌, stop, change}
use Rattle.sp_core.specs.Store.{Store, hold}
use Rattle.sp_lanes.specs.Shared.{is_of}
use Rattle.sp_lane_groups.proofs.LiveAccesses.{Same, access_along}
use Rattle.sp_lane_groups.proofs.LiveAlong.{did_go, answer_of, store_of}
use Rattle.sp_lane_groups.proofs.LiveLane.{split_run, nothing_run}
use Rattle.sp_lane_groups.specs.Laws.{HoldSameBut, ResetsComeFirst}
use Rattle.sp_lane_groups.specs.Waiting.{is_reset, is_unmasked, resets, waits_after, ResetsFirst}

same_here : (core : PlainCore) (m : ℕ) → Same core core m m
same_here core m = record { kinds = refl; sizes = refl; rooms = refl; starts = refl }

no : {P : Type 0} → true ≡ false → P
no e = absurd (true≢false e)

module _ (core : PlainCore) (scope : Scope) where
  -- a step from both stores, after which other memories wait
  abbrev TwoGo : (was now : ℕ → Bool) → Step Entry → Type 0
  TwoGo was now step = (s t u : Store) (e : Entry) → HoldSameBut was s t → step s ≡ went e u → (v : Store) × (step t ≡ went e v) × HoldSameBut now u v

  pure_two : (waits : ℕ → Bool) (x : Entry) → TwoGo waits waits (pure x)
  unfolding pure
  pure_two waits x s t u e h i =
      (t, ap (λ y. went y t) (ap (answer_of x) i), (λ m n. h m n ∙ ap (λ (z : Store). z m) (ap (store_of s) i)))

  stop_two : (was now : ℕ → Bool) → TwoGo was now stop
  unfolding stop
  stop_two was now s t u e h i = absurd (true≢false (sym (ap did_go i)))

  -- an access to a memory that doesn't wait
  access_two : (waits : ℕ → Bool) (kind : OpKind) (k : ℕ) (args : List ℕ) → waits k ≡ false → TwoGo waits waits (access core scope kind k args)
  access_two waits kind k args none s t u e h i =
      let x = access_along core core k k (same_here core k) scope scope kind args s t (h k none) e u i in (
        x.0,
        x.1,
        (λ m n. elim (eqb_tells m k) [
          | inl same ↦ subst (λ j. x.0 j ≡ u j) (sym same.1) x.2
          | inr apart ↦ x.4 m apart.1 ∙ h m n ∙ sym (x.3 m apart.1)
        ]),
      )

  -- a reset of one that waits
  hold_here : (s : Store) (k : ℕ) (c : Contents) → hold s k c k ≡ Some c
  hold_here s k c = ap (λ b. elim b as (λ _. Option Contents) [ true ↦ Some c | false ↦ s k ]) (eq-eqb k k refl)

  hold_there : (s : Store) (k : ℕ) (c : Contents) (m : ℕ) → (m ≡ k → ⊥) → hold s k c m ≡ s m
  hold_there s k c m ne = ap (λ b. elim b as (λ _. Option Contents) [ true ↦ Some c | false ↦ s m ]) (ne_eqb m k ne)

  reset_two : (was now : ℕ → Bool) (k : ℕ) (args : List ℕ) → ((m : ℕ) → (m ≡ k → ⊥) → now m ≡ false → was m ≡ false) → TwoGo was now (access core scope Reset k args)
  unfolding pure ◌>>=◌ change
  reset_two was now k args others s t u e h i =
      let c = fresh core k in
      let left : hold s k c ≡ u = ap (store_of s) i in (
        hold t k c,
        ap (λ y. went y (hold t k c)) (ap (answer_of (touched [] 0)) i),
        (λ m n. elim (eqb_tells m k) [
          | inl same ↦ subst (λ j. hold t k c j ≡ u j) (sym same.1) (hold_here t k c ∙ sym (hold_here s k c) ∙ ap (λ (z : Store). z k) left)
          | inr apart ↦ hold_there t k c m apart.1 ∙ h m (others m apart.1 n) ∙ sym (hold_there s k c m apart.1) ∙ ap (λ (z : Store). z m) left
        ]),
      )

  -- as many wait where nothing is reset
  none_reset : (now was : ℕ → Bool) (step : Step Entry) → TwoGo was was step → ((m : ℕ) → now m ≡ was m) → TwoGo was now step
  none_reset now was step f same s t u e h i = let x = f s t u e h i in (x.0, x.1, (λ m n. x.2 m (sym (same m) ∙ n)))

  and_true : (b : Bool) → (b && true) ≡ b
  and_true true = refl
  and_true false = refl

  not_true : (b : Bool) → (b ≡ true → ⊥) → b ≡ false
  not_true true f = absurd (f refl)
  not_true false f = refl

  done_two : (kind : OpKind) (ty : Ty) (mem : Option ℕ) (args : List ℕ) (waits : ℕ → Bool) → is_reset kind ≡ false → ((k : ℕ) → mem ≡ Some k → waits k ≡ false) → TwoGo waits waits (done_by core scope kind ty mem args)
  done_two Read ty None args waits e h = stop_two waits waits
  done_two Write ty None args waits e h = stop_two waits waits
  done_two Enq ty None args waits e h = stop_two waits waits
  done_two Deq ty None args waits e h = stop_two waits waits
  done_two Read ty (Some k) args waits e h = access_two waits Read k args (h k refl)
  done_two Write ty (Some k) args waits e h = access_two waits Write k args (h k refl)
  done_two Enq ty (Some k) args waits e h = access_two waits Enq k args (h k refl)
  done_two Deq ty (Some k) args waits e h = access_two waits Deq k args (h k refl)
  done_two Reset ty mem args waits e h = no e
  done_two (Word w) ty mem args waits e h = pure_two waits _
  done_two (Count c l) ty mem args waits e h = pure_two waits _
  done_two (Live c first last) ty mem args waits e h = pure_two waits _
  done_two (One op) ty mem args waits e h = pure_two waits _
  done_two (Two op) ty mem args waits e h = pure_two waits _
  done_two (Shift left by) ty mem args waits e h = pure_two waits _
  done_two Mux ty mem args waits e h = pure_two waits _
  done_two (Cast to) ty mem args waits e h = pure_two waits _

  -- an operation that doesn't reset for sure uses nothing that waits
  unused : (op : PlainOp) (waits : ℕ → Bool) → (is_reset op.kind && is_unmasked op.mask) ≡ false → ((m : ℕ) → is_of op.mem m ≡ true → waits m ≡ true → resets op m ≡ true) → (k : ℕ) → op.mem ≡ Some k → waits k ≡ false
  unused op waits e first k i =
      not_true (waits k) (λ w. true≢false (sym (first k (ap (λ x. is_of x k) i ∙ eq-eqb k k refl) w) ∙ ap (λ b. b && is_of op.mem k) e))

  as_many : (op : PlainOp) (waits : ℕ → Bool) → (is_reset op.kind && is_unmasked op.mask) ≡ false → (m : ℕ) → waits_after op waits m ≡ waits m
  as_many op waits e m = ap (λ b. waits m && not (b && is_of op.mem m)) e ∙ and_true (waits m)

  -- one operation, by whether it resets for sure
  op_two : (op : PlainOp) (done : List Entry) (waits : ℕ → Bool) → ((m : ℕ) → is_of op.mem m ≡ true → waits m ≡ true → resets op m ≡ true) → TwoGo waits (waits_after op waits) (operation core scope op done)
  op_two op done waits first = by op.kind op.mask op.mem refl refl refl
    where
      elsewise : (b : Bool) (step : Step Entry) → (is_reset op.kind && is_unmasked op.mask) ≡ false → TwoGo waits waits step → TwoGo waits (waits_after op waits) (elim b as (λ _. Step Entry) [ true ↦ pure left_out | false ↦ step ])
      elsewise true step e f = none_reset (waits_after op waits) waits (pure left_out) (pure_two waits left_out) (as_many op waits e)
      elsewise false step e f = none_reset (waits_after op waits) waits step f (as_many op waits e)

      given : (kind : OpKind) → op.kind ≡ kind → is_reset kind ≡ false → (is_reset op.kind && is_unmasked op.mask) ≡ false
      given kind e f = ap (λ b. b && is_unmasked op.mask) (ap is_reset e ∙ f)

      other : (kind : OpKind) → op.kind ≡ kind → is_reset kind ≡ false → TwoGo waits (waits_after op waits) (operation core scope op done)
      other kind e f =
          elsewise (is_masked op.mask done) (done_by core scope op.kind op.ty op.mem (map (word_at done) op.args)) (given kind e f)
          (done_two op.kind op.ty op.mem (map (word_at done) op.args) waits (ap is_reset e ∙ f) (unused op waits (given kind e f) first))

      later : (k m : ℕ) → op.mem ≡ Some k → (m ≡ k → ⊥) → waits_after op waits m ≡ false → waits m ≡ false
      later k m i ne w =
          sym (ap (λ b. waits m && not b) (ap (λ x. (is_reset op.kind && is_unmasked op.mask) && is_of x m) i ∙ ap (λ b. (is_reset op.kind && is_unmasked op.mask) && b) (ne_eqb k m (λ s. ne (sym s))) ∙ and_false (is_reset op.kind && is_unmasked op.mask)) ∙ and_true (waits m)) ∙ w
        where
          and_false : (b : Bool) → (b && false) ≡ false
          and_false true = refl
          and_false false = refl

      by : (kind : OpKind) (mask mem : Option ℕ) → op.kind ≡ kind → op.mask ≡ mask → op.mem ≡ mem → TwoGo waits (waits_after op waits) (operation core scope op done)
      by Reset None None e f g =
          subst (λ x. TwoGo waits (waits_after op waits) (elim (is_masked x done) as (λ _. Step Entry) [ true ↦ pure left_out | false ↦ done_by core scope op.kind op.ty op.mem (map (word_at done) op.args) ])) (sym f)
          (subst (λ x. TwoGo waits (waits_after op waits) (done_by core scope x op.ty op.mem (map (word_at done) op.args))) (sym e)
          (subst (λ x. TwoGo waits (waits_after op waits) (done_by core scope Reset op.ty x (map (word_at done) op.args))) (sym g) (stop_two waits (waits_after op waits))))
      by Reset None (Some k) e f g =
          subst (λ x. TwoGo waits (waits_after op waits) (elim (is_masked x done) as (λ _. Step Entry) [ true ↦ pure left_out | false ↦ done_by core scope op.kind op.ty op.mem (map (word_at done) op.args) ])) (sym f)
          (subst (λ x. TwoGo waits (waits_after op waits) (done_by core scope x op.ty op.mem (map (word_at done) op.args))) (sym e)
          (subst (λ x. TwoGo waits (waits_after op waits) (done_by core scope Reset op.ty x (map (word_at done) op.args))) (sym g) (reset_two waits (waits_after op waits) k (map (word_at done) op.args) (λ m ne w. later k m g ne w))))
      by Reset (Some j) mem e f g =
          let sure : (is_reset op.kind && is_unmasked op.mask) ≡ false = ap (λ x. is_reset op.kind && is_unmasked x) f ∙ and_no (is_reset op.kind) in
          elsewise (is_masked op.mask done) (done_by core scope op.kind op.ty op.mem (map (word_at done) op.args)) sure
          (subst (λ x. TwoGo waits waits (done_by core scope x op.ty op.mem (map (word_at done) op.args))) (sym e) (masked_reset op.mem (unused op waits sure first)))
        where
          and_no : (b : Bool) → (b && false) ≡ false
          and_no true = refl
          and_no false = refl

          masked_reset : (mem : Option ℕ) → ((k : ℕ) → mem ≡ Some k → waits k ≡ false) → TwoGo waits waits (done_by core scope Reset op.ty mem (map (word_at done) op.args))
          masked_reset None h = stop_two waits waits
          masked_reset (Some k) h = access_two waits Reset k (map (word_at done) op.args) (h k refl)
      by (Word w) mask mem e f g = other (Word w) e refl
      by (Count c l) mask mem e f g = other (Count c l) e refl
      by (Live c first last) mask mem e f g = other (Live c first last) e refl
      by Read mask mem e f g = other Read e refl
      by Write mask mem e f g = other Write e refl
      by Enq mask mem e f g = other Enq e refl
      by Deq mask mem e f g = other Deq e refl
      by (One o) mask mem e f g = other (One o) e refl
      by (Two o) mask mem e f g = other (Two o) e refl
      by (Shift left amount) mask mem e f g = other (Shift left amount) e refl
      by Mux mask mem e f g = other Mux e refl
      by (Cast to) mask mem e f g = other (Cast to) e refl

  step_on : (op : PlainOp) (ops : List PlainOp) (done : List Entry) (t : Store) (e : Entry) (u : Store) → operation core scope op done t ≡ went e u → operations_after core scope done (op ∷ ops) t ≡ operations_after core scope (done ++ e ∷ []) ops u
  unfolding operations_after ◌>>=◌
  step_on op ops done t e u i = ap (λ (r : Went Entry). elim r as (λ _. Went (List Entry)) [ went a v ↦ operations_after core scope (done ++ a ∷ []) ops v | stopped ↦ stopped | more ↦ more ]) i

  nothing_on : (done es : List Entry) (t : Store) → done ≡ es → operations_after core scope done [] t ≡ went es t
  unfolding operations_after pure
  nothing_on done es t e = ap (λ d. went d t) e

  list_two : (ops : List PlainOp) (done : List Entry) (waits : ℕ → Bool) (s t after : Store) (es : List Entry) → ResetsFirst waits ops → HoldSameBut waits s t → operations_after core scope done ops s ≡ went es after
      → (ended : Store) × (operations_after core scope done ops t ≡ went es ended) × HoldSameBut waits after ended
  list_two [] done waits s t after es first h i =
      let r = nothing_run core scope done s es after i in
      (t, nothing_on done es t r.0, (λ m n. h m n ∙ ap (λ (z : Store). z m) r.1))
  list_two (op ∷ ops) done waits s t after es first h i =
      let r = split_run core scope op ops done s es after i in
      let x = op_two op done waits first.0 s t r.1 r.0 h r.2 in
      let y = list_two ops (done ++ r.0 ∷ []) (waits_after op waits) r.1 x.0 after es first.1 x.2 r.3 in
      (y.0, step_on op ops done t r.0 x.0 x.1 ∙ y.1, (λ m n. y.2 m (ap (λ b. b && not (resets op m)) n)))

pub come_first : (core : PlainCore) → ResetsComeFirst core
come_first core scope ops waits s t after es first h i = list_two core scope ops [] waits s t after es first h i
