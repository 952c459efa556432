-- The body of a lane that has an iteration.
use Rattle.std.proofs.Common.{◌≡◌, ℕ, zero, suc, ◌+◌, ◌-◌, ◌<◌, ◌≤◌, Bool, true, false, ◌&&◌, ◌==◌, List, [], ◌∷◌, ◌++◌, length, map, Option, Some, None, refl, sym, ◌∙◌, ap, subst, arith}
use Rattle.std.proofs.lemmas.Bool.{and_parts, true≢false, le-leb}
use Rattle.std.proofs.lemmas.List.{append_assoc, length-append}
use Rattle.std.specs.Prelude.{option_map, slice_index, bit_and, nat_le}
use Rattle.sp_words.specs.Words.{word_and}
use Rattle.sp_words.specs.declared.kind.BinOp.TheVariants.{And}
use Rattle.sp_words.specs.declared.types.Ty.{Ty}
use Rattle.sp_words.specs.declared.types.Ty.TheVariants.{Bit}
use Rattle.sp_core.specs.declared.operation.OpKind.{OpKind}
use Rattle.sp_core.specs.declared.operation.OpKind.TheVariants.{Word, Count, Live, Read, Write, Enq, Deq, Reset, One, Two, Shift, Mux, Cast}
use Rattle.sp_core.specs.Around.{Around}
use Rattle.sp_core.specs.Accesses as accesses
use Rattle.sp_core.specs.Accesses.{word_in, written, read_in, read_at}
use Rattle.sp_core.specs.Declarations.{kind_of, dims}
use Rattle.sp_core.specs.Elements.{index_value, are_inside}
use Rattle.sp_core.specs.History.{Entry, left_out, gave, touched, word_of, word_at}
use Rattle.sp_core.specs.OperationRules.{is_in_range, names_rightly, indices_of, is_mask, is_operation_right, are_operations_right_after}
use Rattle.sp_core.specs.Operations.{is_masked, done_by, operation, operations_after}
use Rattle.sp_core.specs.Operators.{bit}
use Rattle.sp_core.specs.PlainCore.{PlainOp, PlainCore}
use Rattle.sp_core.specs.Scope.{Scope, is_some_up_to}
use Rattle.sp_core.specs.Step.{Step, Went, went, stopped, more, pure, ◌>>=◌, stop, ensure, look}
use Rattle.sp_core.specs.Store.{Store}
use Rattle.sp_core.specs.Typed.{Given, given_type, taken_types, gives, give_all}
use Rattle.sp_fitting.specs.Fitting.{MasksAreBits}
use Rattle.sp_lanes.specs.Bodies.{computes, live_op, under, masked, in_mask, at_places, nowhere, Body, lane_from}
use Rattle.sp_lanes.specs.Shared.{is_read}
use Rattle.sp_lanes.specs.Unrolled.{unrolled}
use Rattle.sp_lanes.specs.Within.{Within, op_in}
use Rattle.sp_lane_rules.specs.UnrolledPlaces.{GoTogether}
use Rattle.sp_lane_groups.specs.LiveLaws.{LiveLanesGoAlong}
use Rattle.sp_lane_groups.specs.LiveStores.{AreCopies, HaveRoom, HoldAlike, LeavesOthers, ScopesAgree, IsPlainKind, ArePlain, AreStanding}
use Rattle.sp_lane_groups.proofs.LiveAlong.{did_go, answer_of, store_of}
use Rattle.sp_lane_groups.proofs.LiveOperations.{operation_goes, named_right}

-- at places stand entries with the words of these
abbrev pub WordsAt : List Entry → (places : List ℕ) → List Entry → Type 0
WordsAt others [] [] = Unit {0}
WordsAt others (p ∷ places) (e ∷ done) = (p < length others) × (word_at others p ≡ word_of e) × WordsAt others places done
WordsAt others [] (e ∷ done) = ⊥
WordsAt others (p ∷ places) [] = ⊥

pub word_kept : (others es : List Entry) (k : ℕ) → k < length others → word_at (others ++ es) k ≡ word_at others k
word_kept [] es k lt = absurd (omega arith)
word_kept (e ∷ others) es zero lt = refl
word_kept (e ∷ others) es (suc k) lt = word_kept others es k (omega arith)

pub word_end : (others : List Entry) (e : Entry) (at : ℕ) → at ≡ length others → word_at (others ++ e ∷ []) at ≡ word_of e
word_end [] e at same = ap (λ k. word_at (e ∷ []) k) same
word_end (d ∷ others) e zero same = absurd (omega (arith, same))
word_end (d ∷ others) e (suc at) same = word_end others e at (omega (arith, same))

words_more : (others es : List Entry) (places : List ℕ) (done : List Entry) → WordsAt others places done → WordsAt (others ++ es) places done
words_more others es [] [] h = tt
words_more others es (p ∷ places) (e ∷ done) h =
    (let lt = h.0 in omega (arith, lt, length-append others es), word_kept others es p h.0 ∙ h.1, words_more others es places done h.2)
words_more others es [] (e ∷ done) h = absurd h
words_more others es (p ∷ places) [] h = absurd h

words_end : (others : List Entry) (places : List ℕ) (done : List Entry) (p : ℕ) (e : Entry) → WordsAt others places done → p < length others → word_at others p ≡ word_of e → WordsAt others (places ++ p ∷ []) (done ++ e ∷ [])
words_end others [] [] p e h lt same = (lt, same, tt)
words_end others (q ∷ places) (d ∷ done) p e h lt same = (h.0, h.1, words_end others places done p e h.2 lt same)
words_end others [] (d ∷ done) p e h lt same = absurd h
words_end others (q ∷ places) [] p e h lt same = absurd h

words_get : (others : List Entry) (places : List ℕ) (done : List Entry) (k : ℕ) → WordsAt others places done → k < length done → word_at others (slice_index places k) ≡ word_at done k
words_get others [] [] k h lt = absurd (omega arith)
words_get others (p ∷ places) (e ∷ done) zero h lt = h.1
words_get others (p ∷ places) (e ∷ done) (suc k) h lt = words_get others places done k h.2 (omega arith)
words_get others [] (e ∷ done) k h lt = absurd h
words_get others (p ∷ places) [] k h lt = absurd h

places_less : (others : List Entry) (places : List ℕ) (done : List Entry) (k : ℕ) → WordsAt others places done → k < length done → slice_index places k < length others
places_less others [] [] k h lt = absurd (omega arith)
places_less others (p ∷ places) (e ∷ done) zero h lt = h.0
places_less others (p ∷ places) (e ∷ done) (suc k) h lt = places_less others places done k h.2 (omega arith)
places_less others [] (e ∷ done) k h lt = absurd h
places_less others (p ∷ places) [] k h lt = absurd h

words_long : (others : List Entry) (places : List ℕ) (done : List Entry) → WordsAt others places done → length places ≡ length done
words_long others [] [] h = refl
words_long others (p ∷ places) (e ∷ done) h = let long = words_long others places done h.2 in omega (arith, long)
words_long others [] (e ∷ done) h = absurd h
words_long others (p ∷ places) [] h = absurd h

-- what stands already does so after more entries
standing_more : (others next es : List Entry) (k : ℕ) (ops : List PlainOp) (stand : List (Option ℕ)) → AreStanding others es k ops stand → AreStanding (others ++ next) es k ops stand
standing_more others next es k [] [] h = tt
standing_more others next es k (op ∷ ops) (None ∷ stand) h = standing_more others next es (suc k) ops stand h
standing_more others next es k (op ∷ ops) (Some p ∷ stand) h =
    (h.0, (let lt = h.1 in omega (arith, lt, length-append others next)), word_kept others next p h.1 ∙ h.2, standing_more others next es (suc k) ops stand h.3)
standing_more others next es k [] (q ∷ stand) h = absurd h
standing_more others next es k (op ∷ ops) [] h = absurd h

pub none_stands : (done es : List Entry) (k : ℕ) (body : List PlainOp) → AreStanding done es k body (nowhere body)
none_stands done es k [] = tt
none_stands done es k (op ∷ ops) = none_stands done es (suc k) ops

-- a read changes nothing
module _ (core : PlainCore) (scope : Scope) where
  abbrev pub Stays : {A : Type 0} → Step A → Type 0
  Stays {A = A} step = (s u : Store) (a : A) → step s ≡ went a u → s ≡ u

  pub pure_stays : {A : Type 0} (a : A) → Stays (pure a)
  unfolding pure
  pure_stays a s u b e = ap (store_of s) e

  pub stop_stays : {A : Type 0} → Stays {A = A} stop
  unfolding stop
  stop_stays s u b e = absurd (true≢false (sym (ap did_go e)))

  look_stays : {A : Type 0} (f : Store → A) → Stays (look f)
  unfolding look
  look_stays f s u b e = ap (store_of s) e

  ensure_stays : (b : Bool) → Stays (ensure b)
  ensure_stays true = pure_stays tt
  ensure_stays false = stop_stays

  written_stays : (o : Option ℕ) → Stays (written o)
  written_stays None = stop_stays
  written_stays (Some w) = pure_stays w

  bind_stays : {A B : Type 0} (P : Step A) (R : A → Step B) → Stays P → ((a : A) → Stays (R a)) → Stays (P >>= R)
  unfolding ◌>>=◌
  bind_stays {A = A} {B = B} P R f g s u b e = by (P s) refl e
    where
      by : (r : Went A) → P s ≡ r → elim r as (λ _. Went B) [ went a v ↦ R a v | stopped ↦ stopped | more ↦ more ] ≡ went b u → s ≡ u
      by (went a v) i e = f s v a i ∙ g a v u b e
      by stopped i e = absurd (true≢false (sym (ap did_go e)))
      by more i e = absurd (true≢false (sym (ap did_go e)))

  read_stays : (m : ℕ) (args : List ℕ) → Stays (read_at core m args)
  read_stays m args = bind_stays (accesses.inside core m args) _ (bind_stays (ensure (are_inside (dims core m) (map index_value args))) _ (ensure_stays (are_inside (dims core m) (map index_value args))) (λ u. pure_stays _))
      (λ is. bind_stays (read_in core m is) _ (bind_stays (look (λ s. word_in (kind_of core m) (dims core m) is (s m))) _ (look_stays (λ s. word_in (kind_of core m) (dims core m) is (s m))) (λ o. written_stays o)) (λ w. pure_stays (touched is w)))

  pub done_stays : (kind : OpKind) (ty : Ty) (m : Option ℕ) (args : List ℕ) → is_read kind ≡ true → Stays (done_by core scope kind ty m args)
  done_stays Read ty None args e = stop_stays
  done_stays Read ty (Some m) args e = read_stays m args
  done_stays (Word w) ty m args e = absurd (true≢false (sym e))
  done_stays (Count c lane) ty m args e = absurd (true≢false (sym e))
  done_stays (Live c first last) ty m args e = absurd (true≢false (sym e))
  done_stays Write ty m args e = absurd (true≢false (sym e))
  done_stays Enq ty m args e = absurd (true≢false (sym e))
  done_stays Deq ty m args e = absurd (true≢false (sym e))
  done_stays Reset ty m args e = absurd (true≢false (sym e))
  done_stays (One op) ty m args e = absurd (true≢false (sym e))
  done_stays (Two op) ty m args e = absurd (true≢false (sym e))
  done_stays (Shift left by) ty m args e = absurd (true≢false (sym e))
  done_stays Mux ty m args e = absurd (true≢false (sym e))
  done_stays (Cast to) ty m args e = absurd (true≢false (sym e))

  pub reads_stay : (op : PlainOp) (done : List Entry) → is_read op.kind ≡ true → Stays (operation core scope op done)
  reads_stay op done e = by (is_masked op.mask done)
    where
      by : (b : Bool) → Stays (elim b as (λ _. Step Entry) [ true ↦ pure left_out | false ↦ done_by core scope op.kind op.ty op.mem (map (word_at done) op.args) ])
      by true = pure_stays left_out
      by false = done_stays op.kind op.ty op.mem (map (word_at done) op.args) e

gives_less : (g : Given) (k : ℕ) (t : Ty) → gives g k t ≡ true → k < length g
gives_less [] k t e = absurd (true≢false (sym e))
gives_less (x ∷ g) zero t e = omega arith
gives_less (x ∷ g) (suc k) t e = let r = gives_less g k t e in omega (arith, r)

args_words : (others : List Entry) (places : List ℕ) (done : List Entry) (g : Given) → WordsAt others places done → length g ≡ length done → (args : List ℕ) (types : List Ty) → give_all g args types ≡ true
    → map (word_at others) (map (slice_index places) args) ≡ map (word_at done) args
args_words others places done g h long [] [] e = refl
args_words others places done g h long (a ∷ args) (ty ∷ types) e =
    let b = and_parts (gives g a ty) (give_all g args types) e in
    let lt : a < length g = gives_less g a ty b.0 in
    ap (λ n. n ∷ map (word_at others) (map (slice_index places) args)) (words_get others places done a h (omega (arith, lt, long)))
    ∙ ap (λ l. word_at done a ∷ l) (args_words others places done g h long args types b.1)
args_words others places done g h long [] (ty ∷ types) e = absurd (true≢false (sym e))
args_words others places done g h long (a ∷ args) [] e = absurd (true≢false (sym e))

-- what is asked of the operands and of the mask of an operation
module _ (core : PlainCore) (around : Around) (g : Given) (op : PlainOp) (right : is_operation_right core around g op ≡ true) where
  given_parts : (give_all g op.args (taken_types op.kind op.ty (indices_of core around op.mem)) ≡ true) × (is_mask core around g op.mask ≡ true)
  given_parts =
      let a = and_parts (is_in_range op.kind op.ty around && names_rightly core around op.kind op.ty op.mem) (give_all g op.args (taken_types op.kind op.ty (indices_of core around op.mem)) && is_mask core around g op.mask) right in
      and_parts (give_all g op.args (taken_types op.kind op.ty (indices_of core around op.mem))) (is_mask core around g op.mask) a.1

  given_args : give_all g op.args (taken_types op.kind op.ty (indices_of core around op.mem)) ≡ true
  given_args = given_parts.0

  given_mask : is_mask core around g op.mask ≡ true
  given_mask = given_parts.1

in_mask_some : (live at : ℕ) (m : Option ℕ) (op : PlainOp) → 1 ≤ length (in_mask live at m op)
in_mask_some live at None op = omega arith
in_mask_some live at (Some m) op = by op.mask
  where
    by : (mask : Option ℕ) → 1 ≤ length (masked live at mask op)
    by None = omega arith
    by (Some k) = omega arith

bits_and : (n : ℕ) → n < 2 → (bit_and 1 n == 0) ≡ (n == 0)
bits_and zero lt = refl
bits_and (suc zero) lt = refl
bits_and (suc (suc n)) lt = absurd (omega arith)

-- a run of a list, by its first operation and the others; what is done stays
module _ (core : PlainCore) (scope : Scope) where
  pub split_run : (op : PlainOp) (ops : List PlainOp) (done : List Entry) (s : Store) (es : List Entry) (after : Store) → operations_after core scope done (op ∷ ops) s ≡ went es after
      → (e : Entry) × (u : Store) × (operation core scope op done s ≡ went e u) × (operations_after core scope (done ++ e ∷ []) ops u ≡ went es after)
  unfolding operations_after ◌>>=◌
  split_run op ops done s es after ran = by (operation core scope op done s) refl ran
    where
      by : (r : Went Entry) → operation core scope op done s ≡ r → elim r as (λ _. Went (List Entry)) [ went a u ↦ operations_after core scope (done ++ a ∷ []) ops u | stopped ↦ stopped | more ↦ more ] ≡ went es after
          → (e : Entry) × (u : Store) × (operation core scope op done s ≡ went e u) × (operations_after core scope (done ++ e ∷ []) ops u ≡ went es after)
      by (went a u) i e = (a, u, i, e)
      by stopped i e = absurd (true≢false (sym (ap did_go e)))
      by more i e = absurd (true≢false (sym (ap did_go e)))

  pub nothing_run : (done : List Entry) (s : Store) (es : List Entry) (after : Store) → operations_after core scope done [] s ≡ went es after → (done ≡ es) × (s ≡ after)
  unfolding operations_after pure
  nothing_run done s es after ran = (ap (answer_of done) ran, ap (store_of s) ran)

  pub kept_run : (ops : List PlainOp) (done : List Entry) (s : Store) (es : List Entry) (after : Store) → operations_after core scope done ops s ≡ went es after → (k : ℕ) → k < length done → word_at es k ≡ word_at done k
  kept_run [] done s es after ran k lt = ap (λ (l : List Entry). word_at l k) (sym (nothing_run done s es after ran).0)
  kept_run (op ∷ ops) done s es after ran k lt =
      let r = split_run op ops done s es after ran in
      kept_run ops (done ++ r.0 ∷ []) r.1 es after r.3 k (omega (arith, lt, length-append done (r.0 ∷ []))) ∙ word_kept done (r.0 ∷ []) k lt

  step_on : (op : PlainOp) (ops : List PlainOp) (done : List Entry) (t : Store) (e : Entry) (u : Store) → operation core scope op done t ≡ went e u → operations_after core scope done (op ∷ ops) t ≡ operations_after core scope (done ++ e ∷ []) ops u
  unfolding operations_after ◌>>=◌
  step_on op ops done t e u i = ap (λ (r : Went Entry). elim r as (λ _. Went (List Entry)) [ went a v ↦ operations_after core scope (done ++ a ∷ []) ops v | stopped ↦ stopped | more ↦ more ]) i

  none_on : (done : List Entry) (t : Store) → operations_after core scope done [] t ≡ went (done ++ []) t
  unfolding operations_after pure
  none_on done t = ap (λ d. went d t) (sym (append_none done))
    where
      append_none : (xs : List Entry) → xs ++ [] ≡ xs
      append_none [] = refl
      append_none (x ∷ xs) = ap (λ l. x ∷ l) (append_none xs)

  -- the mask of a lane and another one
  and_gives : (live k : ℕ) (done : List Entry) (s : Store) → word_at done live ≡ 1 → operation core scope (computes (Two And) Bit (live ∷ k ∷ [])) done s ≡ went (gave (bit_and 1 (word_at done k))) s
  unfolding pure word_and
  and_gives live k done s e = ap (λ n. went (gave (bit_and n (word_at done k))) s) e

  live_gives : (counter l : ℕ) (done : List Entry) (s : Store) → (scope counter).live l ≡ true → operation core scope (live_op counter l l) done s ≡ went (gave 1) s
  unfolding pure
  live_gives counter l done s e = ap (λ b. went (gave (bit b)) s) (one_lane (nat_le l l) (l - l) (le-leb l l (omega arith)) (omega arith))
    where
      one_lane : (b : Bool) (n : ℕ) → b ≡ true → n ≡ 0 → (b && is_some_up_to (scope counter).live l n) ≡ true
      one_lane b n i j = ap (λ c. c && is_some_up_to (scope counter).live l n) i ∙ ap (is_some_up_to (scope counter).live l) j ∙ e

module _ (core : PlainCore) (around inside : Around) (w : Within) (h : GoTogether core (unrolled core) around inside w) (copies : AreCopies core around w) (rooms : HaveRoom core around w (unrolled core))
    (plain in_lanes : Scope) (agree : ScopesAgree w plain in_lanes) where
  -- after other entries operations go on, and what stands at places then has these words
  abbrev Result : List Entry → List PlainOp → (t after : Store) → (places : List ℕ) → List Entry → Type 0
  Result others ops t after places es =
      (new : List Entry) × (ended : Store) × (operations_after (unrolled core) in_lanes others ops t ≡ went (others ++ new) ended)
      × HoldAlike core around w after ended × LeavesOthers core around w t ended × WordsAt (others ++ new) places es

  one_on : (op : PlainOp) (ops : List PlainOp) (others : List Entry) (t u after : Store) (e : Entry) (places : List ℕ) (es : List Entry) → operation (unrolled core) in_lanes op others t ≡ went e u → LeavesOthers core around w t u
      → Result (others ++ e ∷ []) ops u after places es → Result others (op ∷ ops) t after places es
  one_on op ops others t u after e places es i leaves r = (
    e ∷ r.0,
    r.1,
    step_on (unrolled core) in_lanes op ops others t e u i ∙ r.2 ∙ ap (λ d. went d r.1) (append_assoc others (e ∷ []) r.0),
    r.3,
    (λ n others_than. r.4 n others_than ∙ leaves n others_than),
    subst (λ d. WordsAt d places es) (append_assoc others (e ∷ []) r.0) r.5,
  )

  -- one operation of the body, by its parts
  op_goes : (live at : ℕ) (places : List ℕ) (kind : OpKind) (ty : Ty) (args : List ℕ) (m mask : Option ℕ) (done others : List Entry) (g : Given) (rest : List PlainOp) (s t u after : Store) (e : Entry) (ends : List ℕ) (es : List Entry)
      → IsPlainKind kind → is_operation_right core around g (record { kind = kind; ty = ty; args = args; mem = m; mask = mask }) ≡ true
      → ((k : ℕ) → mask ≡ Some k → word_at done k < 2)
      → at ≡ length others → live < length others → word_at others live ≡ 1 → length g ≡ length done → WordsAt others places done → HoldAlike core around w s t
      → operation core plain (record { kind = kind; ty = ty; args = args; mem = m; mask = mask }) done s ≡ went e u
      → ((next : List Entry) (v : Store) → HoldAlike core around w u v → length (others ++ next) ≡ at + length (in_mask live at m (at_places places (op_in w (record { kind = kind; ty = ty; args = args; mem = m; mask = mask }))))
      → word_at (others ++ next) (at + length (in_mask live at m (at_places places (op_in w (record { kind = kind; ty = ty; args = args; mem = m; mask = mask })))) - 1) ≡ word_of e
      → Result (others ++ next) rest v after ends es)
      → Result others (in_mask live at m (at_places places (op_in w (record { kind = kind; ty = ty; args = args; mem = m; mask = mask }))) ++ rest) t after ends es
  op_goes live at places kind ty args None mask done others g rest s t u after e ends es p right bits same lt one long words alike ran k =
      let op : PlainOp = record { kind = kind; ty = ty; args = args; mem = None; mask = mask } in
      let x = operation_goes core around inside w h copies rooms plain in_lanes agree op (map (slice_index places) args) (option_map (slice_index places) mask) done others p tt
      (args_words others places done g words long args _ (given_args core around g op right)) (masks mask (given_mask core around g op right)) s t alike e u ran in
      one_on (at_places places (op_in w op)) rest others t x.0 after e ends es x.1 x.3
      (k (e ∷ []) x.0 x.2 (omega (arith, same, length-append others (e ∷ []))) (ap (word_at (others ++ e ∷ [])) {x = at + 1 - 1} {y = at} (omega arith) ∙ word_end others e at same))
    where
      masks : (mask : Option ℕ) → is_mask core around g mask ≡ true → is_masked (option_map (slice_index places) mask) others ≡ is_masked mask done
      masks None i = refl
      masks (Some j) i = ap (λ n. n == 0) (words_get others places done j words (let less = gives_less g j Bit i in omega (arith, less, long)))
  op_goes live at places kind ty args (Some m) None done others g rest s t u after e ends es p right bits same lt one long words alike ran k =
      let op : PlainOp = record { kind = kind; ty = ty; args = args; mem = Some m; mask = None } in
      let x = operation_goes core around inside w h copies rooms plain in_lanes agree op (map (slice_index places) args) (Some live) done others p (named_right core around inside w h copies rooms plain in_lanes agree op g right)
      (args_words others places done g words long args _ (given_args core around g op right)) (ap (λ n. n == 0) one) s t alike e u ran in
      one_on (under live (at_places places (op_in w op))) rest others t x.0 after e ends es x.1 x.3
      (k (e ∷ []) x.0 x.2 (omega (arith, same, length-append others (e ∷ []))) (ap (word_at (others ++ e ∷ [])) {x = at + 1 - 1} {y = at} (omega arith) ∙ word_end others e at same))
  op_goes live at places kind ty args (Some m) (Some j) done others g rest s t u after e ends es p right bits same lt one long words alike ran k =
      let op : PlainOp = record { kind = kind; ty = ty; args = args; mem = Some m; mask = Some j } in
      let both : Entry = gave (bit_and 1 (word_at others (slice_index places j))) in
      let less : j < length g = gives_less g j Bit (given_mask core around g op right) in
      let is : word_at others (slice_index places j) ≡ word_at done j = words_get others places done j words (omega (arith, less, long)) in
      let x = operation_goes core around inside w h copies rooms plain in_lanes agree op (map (slice_index places) args) (Some at) done (others ++ both ∷ []) p (named_right core around inside w h copies rooms plain in_lanes agree op g right)
      (args_words (others ++ both ∷ []) places done g (words_more others (both ∷ []) places done words) long args _ (given_args core around g op right))
      (ap (λ n. n == 0) (word_end others both at same) ∙ ap (λ n. bit_and 1 n == 0) is ∙ bits_and (word_at done j) (bits j refl)) s t alike e u ran in
      one_on (computes (Two And) Bit (live ∷ slice_index places j ∷ [])) (under at (at_places places (op_in w op)) ∷ rest) others t t after both ends es
      (and_gives (unrolled core) in_lanes live (slice_index places j) others t one) (λ n others_than. refl)
      (one_on (under at (at_places places (op_in w op))) rest (others ++ both ∷ []) t x.0 after e ends es x.1 x.3
      (subst (λ d. Result d rest x.0 after ends es) (sym (append_assoc others (both ∷ []) (e ∷ [])))
      (k (both ∷ e ∷ []) x.0 x.2 (omega (arith, same, length-append others (both ∷ e ∷ [])))
      (ap (λ (d : List Entry). word_at d (at + 2 - 1)) (sym (append_assoc others (both ∷ []) (e ∷ [])))
      ∙ word_end (others ++ both ∷ []) e (at + 2 - 1) (omega (arith, same, length-append others (both ∷ [])))))))

  -- the operations of a lane from a place on
  from_goes : (live at : ℕ) (places : List ℕ) (ops : List PlainOp) (stand : List (Option ℕ)) (done others : List Entry) (g : Given) (s t after : Store) (es : List Entry)
      → ArePlain ops → are_operations_right_after core around g ops ≡ true → MasksAreBits ops es → AreStanding others es (length done) ops stand
      → at ≡ length others → live < length others → word_at others live ≡ 1 → length g ≡ length done → WordsAt others places done → HoldAlike core around w s t
      → operations_after core plain done ops s ≡ went es after
      → Result others (lane_from w live at places ops stand).ops t after (lane_from w live at places ops stand).places es
  from_goes live at places [] [] done others g s t after es p right bits standing same lt one long words alike ran =
      let r = nothing_run core plain done s es after ran in
      ([], t, none_on (unrolled core) in_lanes others t, (λ m i. alike m i ∙ ap (λ (u : Store). u m) r.1), (λ n others_than. refl), words_more others [] places es (subst (λ d. WordsAt others places d) r.0 words))
  from_goes live at places [] (q ∷ stand) done others g s t after es p right bits standing same lt one long words alike ran = absurd standing
  from_goes live at places (op ∷ ops) [] done others g s t after es p right bits standing same lt one long words alike ran = absurd standing
  from_goes live at places (op ∷ ops) (Some q ∷ stand) done others g s t after es p right bits standing same lt one long words alike ran =
      let r = split_run core plain op ops done s es after ran in
      let a = and_parts (is_operation_right core around g op) (are_operations_right_after core around (g ++ given_type op.kind op.ty ∷ []) ops) right in
      let longer : length (done ++ r.0 ∷ []) ≡ suc (length done) = omega (arith, length-append done (r.0 ∷ [])) in
      let word : word_at es (length done) ≡ word_of r.0 = kept_run core plain ops (done ++ r.0 ∷ []) r.1 es after r.3 (length done) (omega (arith, longer)) ∙ word_end done r.0 (length done) refl in
      from_goes live at (places ++ q ∷ []) ops stand (done ++ r.0 ∷ []) others (g ++ given_type op.kind op.ty ∷ []) r.1 t after es p.1 a.1 bits.1
      (subst (λ n. AreStanding others es n ops stand) (sym longer) standing.3)
      same lt one (omega (arith, long, length-append g (given_type op.kind op.ty ∷ []), longer)) (words_end others places done q r.0 words standing.1 (standing.2 ∙ word))
      (λ m i. alike m i ∙ ap (λ (u : Store). u m) (reads_stay core plain op done standing.0 s r.1 r.0 r.2)) r.3
  from_goes live at places (op ∷ ops) (None ∷ stand) done others g s t after es p right bits standing same lt one long words alike ran =
      let r = split_run core plain op ops done s es after ran in
      let a = and_parts (is_operation_right core around g op) (are_operations_right_after core around (g ++ given_type op.kind op.ty ∷ []) ops) right in
      let new : List PlainOp = in_mask live at op.mem (at_places places (op_in w op)) in
      let grown : length (done ++ r.0 ∷ []) ≡ suc (length done) = omega (arith, length-append done (r.0 ∷ [])) in
      op_goes live at places op.kind op.ty op.args op.mem op.mask done others g (lane_from w live (at + length new) (places ++ (at + length new - 1) ∷ []) ops stand).ops s t r.1 after r.0
      (lane_from w live (at + length new) (places ++ (at + length new - 1) ∷ []) ops stand).places es p.0 a.0
      (λ k i. subst (λ n. n < 2) (kept_run core plain (op ∷ ops) done s es after ran k (let less = gives_less g k Bit (subst (λ o. is_mask core around g o ≡ true) i (given_mask core around g op a.0)) in omega (arith, less, long))) (bits.0 k i))
      same lt one long words alike r.2
      (λ next v alike_v longer word. from_goes live (at + length new) (places ++ (at + length new - 1) ∷ []) ops stand (done ++ r.0 ∷ []) (others ++ next) (g ++ given_type op.kind op.ty ∷ []) r.1 v after es p.1 a.1 bits.1
      (subst (λ n. AreStanding (others ++ next) es n ops stand) (sym grown) (standing_more others next es (suc (length done)) ops stand standing))
      (sym longer) (omega (arith, lt, length-append others next)) (word_kept others next live lt ∙ one) (omega (arith, long, length-append g (given_type op.kind op.ty ∷ []), grown))
      (words_end (others ++ next) places done (at + length new - 1) r.0 (words_more others next places done words) (let some = in_mask_some live at op.mem (at_places places (op_in w op)) in omega (arith, longer, some)) word) alike_v r.3)

-- the body of a lane that has an iteration
pub lane_goes : (core : PlainCore) → LiveLanesGoAlong core
lane_goes core around inside in_lane l h copies rooms plain in_lanes agree counter live body stand s after t es done p right alike ran bits standing =
    let rest : Body = lane_from (in_lane l) (length done) (suc (length done)) [] body stand in
    let r = one_on core around inside (in_lane l) h copies rooms plain in_lanes agree (live_op counter l l) rest.ops done t t after (gave 1) rest.places es (live_gives (unrolled core) in_lanes counter l done t live) (λ n others_than. refl)
    (from_goes core around inside (in_lane l) h copies rooms plain in_lanes agree (length done) (suc (length done)) [] body stand [] (done ++ gave 1 ∷ []) [] s t after es p right bits (standing_more done (gave 1 ∷ []) es 0 body stand standing)
    (omega (arith, length-append done (gave 1 ∷ []))) (omega (arith, length-append done (gave 1 ∷ []))) (word_end done (gave 1) (length done) refl) refl tt alike ran) in
    (r.0, r.1, r.2, r.3, r.4, (λ k lt. (places_less (done ++ r.0) rest.places es k r.5 lt, words_get (done ++ r.0) rest.places es k r.5 lt)), words_long (done ++ r.0) rest.places es r.5)
