-- Lists of operations, in a store whose words fit.
use Rattle.std.proofs.Common.{◌≡◌, ℕ, zero, suc, ◌-◌, ◌^◌, Bool, true, false, ◌&&◌, ◌||◌, List, [], ◌∷◌, ◌++◌, length, map, take, Option, Some, None, refl, sym, ap, ◌∙◌, subst, append_assoc, slice_index}
use Rattle.std.proofs.lemmas.Bool.{and_parts, false≢true, ltb-true}
use Rattle.std.specs.Option.{unwrap_or}
use Rattle.std.specs.Prelude.{nat_lt, nat_le}
use Rattle.sp_words.specs.declared.types.Ty.{Ty}
use Rattle.sp_words.specs.declared.types.Ty.TheVariants.{Bit}
use Rattle.sp_words.specs.Types.{int_type, width_of}
use Rattle.sp_words.specs.Words.{IsWord}
use Rattle.sp_core.specs.declared.operation.OpKind.{OpKind}
use Rattle.sp_core.specs.declared.operation.OpKind.TheVariants.{Word, Count, Live, Read, Write, Enq, Deq, Reset, One, Two, Shift, Mux, Cast}
use Rattle.sp_core.specs.Accesses.{inside}
use Rattle.sp_core.specs.Around.{Around, has_lane, is_port_kind, is_usable}
use Rattle.sp_core.specs.Declarations.{mem, is_among}
use Rattle.sp_core.specs.History.{Entry, left_out, touched, word_of, word_at, last_word}
use Rattle.sp_core.specs.MemoryRules.{are_memories_right}
use Rattle.sp_core.specs.OperationRules.{is_access, can, is_in_range, names_rightly, indices_of, is_mask, is_operation_right, are_operations_right_after, are_operations_right}
use Rattle.sp_core.specs.Operations.{is_masked, access, access_of, done_by, operation, operations_after, operations}
use Rattle.sp_core.specs.PlainCore.{PlainOp, PlainCore}
use Rattle.sp_core.specs.Scope.{Scope, is_some_live}
use Rattle.sp_core.specs.Step.{Step, pure}
use Rattle.sp_core.specs.Typed.{Given, is_type, given_type, index_count, taken_types, is_given, gives, give_all, last_gives}
use Rattle.sp_fitting.specs.Fitting.{type_at, word_type, EntriesFit, MasksAreBits}
use Rattle.sp_fitting.proofs.Contents.{zero_fits, type_of_mem, fresh_fits, same_word, same_word_back}
use Rattle.sp_fitting.proofs.Keeping.{Keeps, Anything, bind_keeps, pure_keeps, stop_keeps, weaker_keeps, then_keeps, ensure_keeps, hold_keeps, read_keeps, write_keeps, enqueue_keeps, dequeue_keeps}
use Rattle.sp_fitting.proofs.Words.{Operators, bit_fits, one_fits, two_fits, shift_fits, chosen_fits, GivenFit, given_more, given_word, AreWordsOf, given_words, first_word, second_word, third_word, last_of_words, given_of}

-- the entry of an operation has a word of its type
abbrev pub EntryFits : OpKind → Ty → Entry → Type 0
EntryFits kind ty e = IsWord (word_type kind ty) (word_of e)

module _ (core : PlainCore) (around : Around) where
  -- an operation that keeps the rules
  pub record IsRightOp (given : Given) (op : PlainOp) : Type 0 where
    pub in_range : is_in_range op.kind op.ty around ≡ true
    pub names : names_rightly core around op.kind op.ty op.mem ≡ true
    pub takes : give_all given op.args (taken_types op.kind op.ty (indices_of core around op.mem)) ≡ true
    pub mask : is_mask core around given op.mask ≡ true

  pub right_op : (given : Given) (op : PlainOp) → is_operation_right core around given op ≡ true → IsRightOp given op
  right_op given op e =
      let a = and_parts (is_in_range op.kind op.ty around && names_rightly core around op.kind op.ty op.mem) (give_all given op.args (taken_types op.kind op.ty (indices_of core around op.mem)) && is_mask core around given op.mask) e in
      let b = and_parts (is_in_range op.kind op.ty around) (names_rightly core around op.kind op.ty op.mem) a.0 in
      let c = and_parts (give_all given op.args (taken_types op.kind op.ty (indices_of core around op.mem))) (is_mask core around given op.mask) a.1 in
      record { in_range = b.0; names = b.1; takes = c.0; mask = c.1 }

  pub first_right : (given : Given) (op : PlainOp) (ops : List PlainOp) → are_operations_right_after core around given (op ∷ ops) ≡ true
      → IsRightOp given op × (are_operations_right_after core around (given ++ given_type op.kind op.ty ∷ []) ops ≡ true)
  first_right given op ops e =
      let a = and_parts (is_operation_right core around given op) (are_operations_right_after core around (given ++ given_type op.kind op.ty ∷ []) ops) e in
      (right_op given op a.0, a.1)

  -- an access has its memory's type
  pub record IsTypedAt (ty : Ty) (m : ℕ) : Type 0 where
    pub there : nat_lt m (length core.mems) ≡ true
    pub typed : is_type ty (mem core m).ty ≡ true

  pub typed_at : (kind : OpKind) (ty : Ty) (m : ℕ) → names_rightly core around kind ty (Some m) ≡ true → IsTypedAt ty m
  typed_at kind ty m e =
      let a = and_parts (is_access kind && is_usable core around m) (can kind (mem core m).kind (mem core m).start && is_type ty (mem core m).ty) e in
      let b = and_parts (is_access kind) (is_usable core around m) a.0 in
      let c = and_parts (nat_lt m (length core.mems)) (is_port_kind (mem core m).kind || is_among m around.owned) b.1 in
      record { there = c.0; typed = (and_parts (can kind (mem core m).kind (mem core m).start) (is_type ty (mem core m).ty) a.1).1 }

  pub into_memory : (ty : Ty) (m w : ℕ) → IsTypedAt ty m → IsWord ty w → IsWord (type_at core m) w
  into_memory ty m w h p = subst (λ t. IsWord t w) (sym (type_of_mem core m h.there)) (same_word ty (mem core m).ty w h.typed p)

  pub out_of_memory : (ty : Ty) (m w : ℕ) → IsTypedAt ty m → IsWord (type_at core m) w → IsWord ty w
  out_of_memory ty m w h p = same_word_back ty (mem core m).ty w h.typed (subst (λ t. IsWord t w) (type_of_mem core m h.there) p)

module _ (core : PlainCore) (known : Operators) (memories : are_memories_right core ≡ true) (around : Around) (scope : Scope) where
  inside_keeps : (m : ℕ) (indices : List ℕ) → Keeps core Anything (inside core m indices)
  inside_keeps m indices = then_keeps core _ _ _ (ensure_keeps core _) (λ u. pure_keeps core _ _ tt)

  access_keeps : (kind : OpKind) (ty : Ty) (m : ℕ) (ws : List ℕ) → IsTypedAt core around ty m → AreWordsOf (taken_types kind ty (index_count (mem core m))) ws → Keeps core (EntryFits kind ty) (access core scope kind m ws)
  access_keeps Read ty m ws at h =
      then_keeps core _ _ _ (inside_keeps m ws) (λ is. bind_keeps core _ _ (IsWord (type_at core m)) _ (read_keeps core m is) (λ w p. pure_keeps core _ (touched is w) (out_of_memory core around ty m w at p)))
  access_keeps Write ty m ws at h =
      let p : IsWord ty (slice_index ws (length ws - 1)) = last_of_words _ ty ws h in
      then_keeps core _ _ _ (inside_keeps m (take (length ws - 1) ws)) (λ is. then_keeps core _ _ _ (write_keeps core m is _ (into_memory core around ty m _ at p)) (λ u. pure_keeps core _ (touched is _) p))
  access_keeps Enq ty m ws at h =
      let p : IsWord ty (slice_index ws 0) = first_word ty [] ws h in
      then_keeps core _ _ _ (enqueue_keeps core m _ (into_memory core around ty m _ at p)) (λ u. pure_keeps core _ (touched [] _) p)
  access_keeps Deq ty m ws at h = bind_keeps core _ _ (IsWord (type_at core m)) _ (dequeue_keeps core m) (λ w p. pure_keeps core _ (touched [] w) (out_of_memory core around ty m w at p))
  access_keeps Reset ty m ws at h = then_keeps core _ _ _ (hold_keeps core m _ (fresh_fits core m memories)) (λ u. pure_keeps core _ (touched [] 0) (zero_fits ty))
  access_keeps (Word w) ty m ws at h = stop_keeps core _
  access_keeps (Count c lane) ty m ws at h = stop_keeps core _
  access_keeps (Live c first last) ty m ws at h = stop_keeps core _
  access_keeps (One op) ty m ws at h = stop_keeps core _
  access_keeps (Two op) ty m ws at h = stop_keeps core _
  access_keeps (Shift left by) ty m ws at h = stop_keeps core _
  access_keeps Mux ty m ws at h = stop_keeps core _
  access_keeps (Cast to) ty m ws at h = stop_keeps core _

  access_of_keeps : (kind : OpKind) (ty : Ty) (m : Option ℕ) (ws : List ℕ) → names_rightly core around kind ty m ≡ true → AreWordsOf (taken_types kind ty (indices_of core around m)) ws → Keeps core (EntryFits kind ty) (access_of core scope kind m ws)
  access_of_keeps kind ty None ws e h = stop_keeps core _
  access_of_keeps kind ty (Some m) ws e h = access_keeps kind ty m ws (typed_at core around kind ty m e) h

  done_keeps : (kind : OpKind) (ty : Ty) (m : Option ℕ) (ws : List ℕ) → is_in_range kind ty around ≡ true → names_rightly core around kind ty m ≡ true → AreWordsOf (taken_types kind ty (indices_of core around m)) ws
      → Keeps core (EntryFits kind ty) (done_by core scope kind ty m ws)
  done_keeps (Word w) ty m ws r e h = pure_keeps core _ _ (ltb-true w (2 ^ width_of ty) r)
  done_keeps (Count c lane) ty m ws r e h =
      pure_keeps core _ _ (same_word_back ty int_type _ (and_parts (has_lane around.counters c lane) (is_type ty int_type) r).1 (known.wrapped int_type _))
  done_keeps (Live c first last) ty m ws r e h =
      pure_keeps core _ _ (same_word_back ty Bit _ (and_parts (nat_le first last && has_lane around.counters c last) (is_type ty Bit) r).1 (bit_fits (is_some_live (scope c).live first last)))
  done_keeps (One op) ty m ws r e h = pure_keeps core _ _ (one_fits known op ty _ (first_word ty [] ws h))
  done_keeps (Two op) ty m ws r e h = pure_keeps core _ _ (two_fits known op ty _ _ (first_word ty (ty ∷ []) ws h) (second_word ty ty [] ws h))
  done_keeps (Shift left by) ty m ws r e h = pure_keeps core _ _ (shift_fits known left ty _ by)
  done_keeps Mux ty m ws r e h = pure_keeps core _ _ (chosen_fits ty _ _ _ (second_word Bit ty (ty ∷ []) ws h) (third_word Bit ty ty [] ws h))
  done_keeps (Cast to) ty m ws r e h = pure_keeps core _ _ (known.cast ty to _)
  done_keeps Read ty m ws r e h = access_of_keeps Read ty m ws e h
  done_keeps Write ty m ws r e h = access_of_keeps Write ty m ws e h
  done_keeps Enq ty m ws r e h = access_of_keeps Enq ty m ws e h
  done_keeps Deq ty m ws r e h = access_of_keeps Deq ty m ws e h
  done_keeps Reset ty m ws r e h = access_of_keeps Reset ty m ws e h

  operation_keeps : (given : Given) (op : PlainOp) (done : List Entry) → IsRightOp core around given op → GivenFit given done → Keeps core (EntryFits op.kind op.ty) (operation core scope op done)
  operation_keeps given op done right fits = go (is_masked op.mask done)
    where
      go : (b : Bool) → Keeps core (EntryFits op.kind op.ty) (elim b as (λ _. Step Entry) [ true ↦ pure left_out | false ↦ done_by core scope op.kind op.ty op.mem (map (word_at done) op.args) ])
      go true = pure_keeps core _ left_out (zero_fits (word_type op.kind op.ty))
      go false = done_keeps op.kind op.ty op.mem (map (word_at done) op.args) right.in_range right.names (given_words given done op.args _ fits right.takes)

  append_one : (done rest : List Entry) (e : Entry) → (done ++ e ∷ []) ++ rest ≡ done ++ e ∷ rest
  append_one done rest e = append_assoc done (e ∷ []) rest

  append_none : (es : List Entry) → es ≡ es ++ []
  append_none [] = refl
  append_none (e ∷ es) = ap (λ x. e ∷ x) (append_none es)

  abbrev After : List PlainOp → List Entry → List Entry → Type 0
  After ops done es = (rest : List Entry) × (es ≡ done ++ rest) × EntriesFit ops rest

  after_keeps : (given : Given) (done : List Entry) (ops : List PlainOp) → are_operations_right_after core around given ops ≡ true → GivenFit given done → Keeps core (After ops done) (operations_after core scope done ops)
  unfolding operations_after
  after_keeps given done [] e fits = pure_keeps core _ done ([], append_none done, tt)
  after_keeps given done (op ∷ ops) e fits =
      let r = first_right core around given op ops e in
      bind_keeps core _ _ _ _ (operation_keeps given op done r.0 fits) (λ x p.
      weaker_keeps core _ _ _ (λ es a. (x ∷ a.0, a.1 ∙ append_one done a.0 x, (p, a.2)))
      (after_keeps (given ++ given_type op.kind op.ty ∷ []) (done ++ x ∷ []) ops r.1 (given_more given done (given_type op.kind op.ty) x fits (given_of (given_type op.kind op.ty) op.ty (word_of x) p))))

  -- a list of operations
  pub list_keeps : (ops : List PlainOp) → are_operations_right core around ops ≡ true → Keeps core (EntriesFit ops) (operations core scope ops)
  list_keeps ops e = weaker_keeps core _ _ _ (λ es a. subst (EntriesFit ops) (sym a.1) a.2) (after_keeps [] [] ops e tt)

-- the word that a list gives
given_at : (t : Option Ty) (own ty : Ty) (w : ℕ) → is_given t ty ≡ true → IsWord (unwrap_or t own) w → IsWord ty w
given_at None own ty w e h = absurd (false≢true e)
given_at (Some u) own ty w e h = same_word u ty w e h

pub last_fits : (ops : List PlainOp) (es : List Entry) (ty : Ty) → last_gives ops ty ≡ true → EntriesFit ops es → IsWord ty (last_word es)
last_fits [] es ty e h = absurd (false≢true e)
last_fits (op ∷ ops) [] ty e h = absurd h
last_fits (op ∷ []) (x ∷ []) ty e h = given_at (given_type op.kind op.ty) op.ty ty (word_of x) e h.0
last_fits (op ∷ []) (x ∷ y ∷ es) ty e h = absurd h.1
last_fits (op ∷ o ∷ ops) (x ∷ []) ty e h = absurd h.1
last_fits (op ∷ o ∷ ops) (x ∷ y ∷ es) ty e h = last_fits (o ∷ ops) (y ∷ es) ty e h.1

-- what a list gives
types_of : List PlainOp → Given
types_of [] = []
types_of (op ∷ ops) = given_type op.kind op.ty ∷ types_of ops

types_fit : (ops : List PlainOp) (es : List Entry) → EntriesFit ops es → GivenFit (types_of ops) es
unfolding types_of
types_fit [] [] h = tt
types_fit [] (x ∷ es) h = absurd h
types_fit (op ∷ ops) [] h = absurd h
types_fit (op ∷ ops) (x ∷ es) h = (given_of (given_type op.kind op.ty) op.ty (word_of x) h.0, types_fit ops es h.1)

-- what is given is still given when there is more
still_gives : (given more : Given) (k : ℕ) (ty : Ty) → gives given k ty ≡ true → gives (given ++ more) k ty ≡ true
still_gives [] more k ty e = absurd (false≢true e)
still_gives (g ∷ given) more zero ty e = e
still_gives (g ∷ given) more (suc k) ty e = still_gives given more k ty e

module _ (core : PlainCore) (around : Around) where
  masks_after : (given : Given) (ops : List PlainOp) (es : List Entry) → are_operations_right_after core around given ops ≡ true → GivenFit (given ++ types_of ops) es → MasksAreBits ops es
  unfolding types_of
  masks_after given [] es e h = tt
  masks_after given (op ∷ ops) es e h =
      let r = first_right core around given op ops e in (
        λ k is. given_word (given ++ given_type op.kind op.ty ∷ types_of ops) es k Bit h (still_gives given (given_type op.kind op.ty ∷ types_of ops) k Bit (sym (ap (is_mask core around given) is) ∙ r.0.mask)),
        masks_after (given ++ given_type op.kind op.ty ∷ []) ops es r.1 (subst (λ g. GivenFit g es) (sym (append_assoc given (given_type op.kind op.ty ∷ []) (types_of ops))) h),
      )

  pub masks_are_bits : (ops : List PlainOp) (es : List Entry) → are_operations_right core around ops ≡ true → EntriesFit ops es → MasksAreBits ops es
  masks_are_bits ops es e h = masks_after [] ops es e (types_fit ops es h)
