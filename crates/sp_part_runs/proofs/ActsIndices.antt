-- The words that accesses take as indices.
use Rattle.std.proofs.Common.{◌≡◌, ℕ, zero, suc, ◌-◌, ◌<◌, ◌^◌, Bool, true, false, List, [], ◌∷◌, ◌++◌, length, map, take, replicate, slice_index_or, refl, sym, subst, arith, append_assoc}
use Rattle.std.specs.List.{All}
use Rattle.std.specs.Prelude.{nat_le, ℤ, pos, negsuc, ◌-ℤ◌, if◌then◌else◌}
use Rattle.std.proofs.lemmas.Bool.{and_parts, false≢true, leb-false}
use Rattle.std.proofs.lemmas.Int.{ints}
use Rattle.std.proofs.lemmas.List.{append-nil}
use Rattle.std.proofs.lemmas.List.Elements.{All-nil, All-cons, All-head, All-tail}
use Rattle.sp_words.specs.declared.types.Ty.{Ty}
use Rattle.sp_words.specs.Types.{int_type}
use Rattle.sp_words.specs.Words.{IsWord, value_of, has_sign}
use Rattle.sp_core.specs.declared.operation.OpKind.{OpKind}
use Rattle.sp_core.specs.declared.operation.OpKind.TheVariants.{Word, Count, Live, Read, Write, Enq, Deq, Reset, One, Two, Shift, Mux, Cast}
use Rattle.sp_core.specs.Accesses.{inside}
use Rattle.sp_core.specs.Around.{Around}
use Rattle.sp_core.specs.Declarations.{dims}
use Rattle.sp_core.specs.Elements.{index_value, is_below, are_inside}
use Rattle.sp_core.specs.History.{Entry, word_of, word_at}
use Rattle.sp_core.specs.OperationRules.{indices_of, are_operations_right_after, are_operations_right}
use Rattle.sp_core.specs.PlainCore.{PlainOp, PlainCore}
use Rattle.sp_core.specs.Step.{went}
use Rattle.sp_core.specs.Store.{Store}
use Rattle.sp_core.specs.Typed.{Given, given_type, taken_types}
use Rattle.sp_fitting.specs.Fitting.{EntriesFit}
use Rattle.sp_fitting.proofs.Lists.{first_right}
use Rattle.sp_fitting.proofs.Words.{GivenFit, given_more, given_words, given_of, AreWordsOf}
use Rattle.sp_hold.proofs.Steps.{bound, was_ensured}
use Rattle.sp_part_runs.specs.ActsEntries.{index_words, IsOpAt, IndicesAreWords}

-- a word of `Int` that is a number below some dimension has no sign
abbrev by_sign : ℕ → Bool → ℤ
by_sign w b = if b then pos w -ℤ pos (2 ^ 32) else pos w

below_none : (w d : ℕ) → w < 2 ^ 32 → is_below (pos w -ℤ pos (2 ^ 32)) d ≡ true → ⊥
below_none w d small h = by (pos w -ℤ pos (2 ^ 32)) refl h
  where
    by : (z : ℤ) → pos w -ℤ pos (2 ^ 32) ≡ z → is_below z d ≡ true → ⊥
    by (pos n) e g = omega (arith, ints, e, small)
    by (negsuc n) e g = false≢true g

below_small : (w d : ℕ) → is_below (index_value w) d ≡ true → IsWord int_type w → w < 2 ^ 31
unfolding value_of has_sign
below_small w d h small = by (nat_le (2 ^ 31) w) refl h
  where
    by : (b : Bool) → nat_le (2 ^ 31) w ≡ b → is_below (by_sign w b) d ≡ true → w < 2 ^ 31
    by true e g = absurd (below_none w d small g)
    by false e g = leb-false (2 ^ 31) w e

-- so it is with all indices inside of a memory
inside_small : (ds ws : List ℕ) → are_inside ds (map index_value ws) ≡ true → All (λ w. IsWord int_type w → w < 2 ^ 31) ws
inside_small ds [] h = All-nil (λ w. IsWord int_type w → w < 2 ^ 31)
inside_small [] (w ∷ ws) h = absurd (false≢true h)
inside_small (d ∷ ds) (w ∷ ws) h =
    let p = and_parts (is_below (index_value w) d) (are_inside ds (map index_value ws)) h in
    All-cons (λ w. IsWord int_type w → w < 2 ^ 31) w ws (below_small w d p.0) (inside_small ds ws p.1)

-- those of an access that went
pub went_small : (core : PlainCore) (m : ℕ) (ws is : List ℕ) (s t : Store) → inside core m ws s ≡ went is t → All (λ w. IsWord int_type w → w < 2 ^ 31) ws
went_small core m ws is s t h =
    let b = bound _ _ s is t h in
    inside_small (dims core m) ws (was_ensured (are_inside (dims core m) (map index_value ws)) b.value s b.middle b.first).0

-- the indices of a read are all of its words, those of a write all but the last one
reads_fit : (n : ℕ) (ws : List ℕ) → AreWordsOf (replicate n int_type) ws → All (IsWord int_type) ws
reads_fit zero [] h = All-nil (IsWord int_type)
reads_fit zero (w ∷ ws) h = absurd h
reads_fit (suc n) [] h = absurd h
reads_fit (suc n) (w ∷ ws) h = All-cons (IsWord int_type) w ws h.0 (reads_fit n ws h.1)

writes_fit : (n : ℕ) (ty : Ty) (ws : List ℕ) (k : ℕ) → suc k ≡ length ws → AreWordsOf (replicate n int_type ++ ty ∷ []) ws → All (IsWord int_type) (take k ws)
writes_fit n ty ws zero e h = All-nil (IsWord int_type)
writes_fit n ty [] (suc k) e h = absurd (omega (arith, e))
writes_fit zero ty (w ∷ []) (suc k) e h = absurd (omega (arith, e))
writes_fit zero ty (w ∷ x ∷ ws) (suc k) e h = absurd h.1
writes_fit (suc n) ty (w ∷ ws) (suc k) e h = All-cons (IsWord int_type) w (take k ws) h.0 (writes_fit n ty ws k (omega (arith, e)) h.1)

all_but_last : (n : ℕ) (ty : Ty) (ws : List ℕ) → AreWordsOf (replicate n int_type ++ ty ∷ []) ws → All (IsWord int_type) (take (length ws - 1) ws)
all_but_last n ty [] h = All-nil (IsWord int_type)
all_but_last n ty (w ∷ ws) h = writes_fit n ty (w ∷ ws) (length (w ∷ ws) - 1) (omega arith) h

indices_fit : (kind : OpKind) (ty : Ty) (n : ℕ) (ws : List ℕ) → AreWordsOf (taken_types kind ty n) ws → All (IsWord int_type) (index_words kind ws)
indices_fit Read ty n ws h = reads_fit n ws h
indices_fit Write ty n ws h = all_but_last n ty ws h
indices_fit Enq ty n ws h = All-nil (IsWord int_type)
indices_fit Deq ty n ws h = All-nil (IsWord int_type)
indices_fit Reset ty n ws h = All-nil (IsWord int_type)
indices_fit (Word w) ty n ws h = All-nil (IsWord int_type)
indices_fit (Count c lane) ty n ws h = All-nil (IsWord int_type)
indices_fit (Live c first last) ty n ws h = All-nil (IsWord int_type)
indices_fit (One op) ty n ws h = All-nil (IsWord int_type)
indices_fit (Two op) ty n ws h = All-nil (IsWord int_type)
indices_fit (Shift left by) ty n ws h = All-nil (IsWord int_type)
indices_fit Mux ty n ws h = All-nil (IsWord int_type)
indices_fit (Cast to) ty n ws h = All-nil (IsWord int_type)

module _ (core : PlainCore) (around : Around) where
  indices_after : (given : Given) (done : List Entry) (ops : List PlainOp) (es : List Entry) → are_operations_right_after core around given ops ≡ true → GivenFit given done → EntriesFit ops es
      → (k : ℕ) (op : PlainOp) → IsOpAt ops k op → All (IsWord int_type) (index_words op.kind (map (word_at (done ++ take k es)) op.args))
  indices_after given done [] es right fits h k op at = let l = at.within in absurd (omega (arith, l))
  indices_after given done (o ∷ ops) [] right fits h k op at = absurd h
  indices_after given done (o ∷ ops) (e ∷ es) right fits h zero op at =
      let r = first_right core around given o ops right in
      subst (λ xs. All (IsWord int_type) (index_words op.kind (map (word_at xs) op.args))) (sym (append-nil done))
      (subst (λ (x : PlainOp). All (IsWord int_type) (index_words x.kind (map (word_at done) x.args))) (at.is op)
      (indices_fit o.kind o.ty (indices_of core around o.mem) (map (word_at done) o.args) (given_words given done o.args _ fits r.0.takes)))
  indices_after given done (o ∷ ops) (e ∷ es) right fits h (suc k) op at =
      let r = first_right core around given o ops right in
      subst (λ xs. All (IsWord int_type) (index_words op.kind (map (word_at xs) op.args))) (append_assoc done (e ∷ []) (take k es))
      (indices_after (given ++ given_type o.kind o.ty ∷ []) (done ++ e ∷ []) ops es r.1
      (given_more given done (given_type o.kind o.ty) e fits (given_of (given_type o.kind o.ty) o.ty (word_of e) h.0)) h.1 k op (record { within = (let l = at.within in omega (arith, l)); is = at.is }))

  pub indices_are_words : (ops : List PlainOp) (es : List Entry) → are_operations_right core around ops ≡ true → EntriesFit ops es → IndicesAreWords ops es
  indices_are_words ops es right h k op at = indices_after [] [] ops es right tt h k op at

  -- in each group
  pub group_indices : (ops : List PlainOp) → are_operations_right core around ops ≡ true → (groups : List (List Entry)) → All (EntriesFit ops) groups → (g : ℕ) → g < length groups → IndicesAreWords ops (slice_index_or groups g [])
  group_indices ops right [] h g l = absurd (omega (arith, l))
  group_indices ops right (es ∷ groups) h zero l = indices_are_words ops es right (All-head (EntriesFit ops) es groups h)
  group_indices ops right (es ∷ groups) h (suc g) l = group_indices ops right groups (All-tail (EntriesFit ops) es groups h) g (omega (arith, l))
