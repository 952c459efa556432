-- The words of a list's operations are like the values of their forms, one operation after the other.
use Rattle.std.proofs.Common.{◌≡◌, ℕ, zero, suc, ◌*◌, Bool, true, false, ◌&&◌, ℤ, pos, negsuc, ◌+ℤ◌, ◌*ℤ◌, List, [], ◌∷◌, ◌++◌, length, map, replicate, refl, ap, sym, ◌∙◌, subst, arith}
use Rattle.std.specs.Prelude.{Option, Some, None, IfSome, is_none, option_and_then, slice_index, slice_index_or, if◌then◌else◌}
use Rattle.std.specs.List.{AllZip, list_all}
use Rattle.std.specs.Ordering.{int_eq}
use Rattle.std.proofs.lemmas.Int.{ints}
use Rattle.std.proofs.lemmas.Bool.Decides.{Decides-int_eq}
use Rattle.std.proofs.Math.IntN.{*ℤ_comm, zero-*ℤ}
use Rattle.sp_words.specs.declared.kind.BinOp.TheVariants.{Add, Sub, Mul}
use Rattle.sp_words.specs.declared.kind.UnOp.TheVariants.{Neg}
use Rattle.sp_words.specs.declared.types.Ty.{Ty}
use Rattle.sp_words.specs.Types.{int_type}
use Rattle.sp_words.specs.Words.{word_add, word_sub, word_mul}
use Rattle.sp_affine.specs.Affine.{Affine, dot, value_of, symbol_value}
use Rattle.sp_core.specs.declared.operation.OpKind.{OpKind}
use Rattle.sp_core.specs.declared.operation.OpKind.TheVariants.{Word, Count, Read, One, Two}
use Rattle.sp_core.specs.Declarations.{mem}
use Rattle.sp_core.specs.Elements.{index_value}
use Rattle.sp_core.specs.Forms.{PlainForms, symbol_in}
use Rattle.sp_core.specs.History.{Entry, left_out, gave, word_of, word_at}
use Rattle.sp_core.specs.Operations.{is_masked, done_by, operation, operations_after, operations}
use Rattle.sp_core.specs.PlainCore.{PlainOp, PlainCore, no_mem}
use Rattle.sp_core.specs.Scope.{Scope, count_word}
use Rattle.sp_core.specs.Step.{Went, went, pure}
use Rattle.sp_core.specs.Store.{Store}
use Rattle.sp_core.specs.Typed.{is_type}
use Rattle.sp_patterns.specs.declared.place.CounterPlace.{CounterPlace}
use Rattle.sp_patterns.specs.Forms.{shape_of, fits, is_constant, of_both, operand, opposite_form, sum_form, difference_form, product_form, multiple_form, constant_form, symbol_form, counter_form, read_form, is_around, nearest_coefs, lane_step, is_steady, is_masked_alike, form_by_shape, form_of, forms_after, forms_of}
use Rattle.sp_hold.specs.Laws.{AreWordsLikeForms}
use Rattle.sp_hold.specs.Values.{AreInScope, AreLike, ArePassed, AreRead, IsRead, IsLike, did, is_allowed, is_typed}
use Rattle.sp_hold.proofs.Counters.{found, length_of_nearest}
use Rattle.sp_hold.proofs.FormValues.{sum_value, difference_value, multiple_value, dot_of_zeros, sum_symbol_kept, difference_symbol_kept, multiple_symbol_kept}
use Rattle.sp_hold.proofs.ListSteps.{first_step, at_end, longer, stands}
use Rattle.sp_hold.proofs.Steady.{are_read}
use Rattle.sp_hold.proofs.Likeness.{Kept, like_wrapped, like_sum, like_difference, like_product, like_opposite, is_int}

length_of_replicate : (n : ℕ) → length (replicate n (pos 0)) ≡ n
length_of_replicate zero = refl
length_of_replicate (suc n) = ap suc (length_of_replicate n)

past_end : (rs : List (Option Affine)) → slice_index_or rs (length rs) None ≡ None
past_end [] = refl
past_end (r ∷ rs) = past_end rs

both : (a b : Bool) → (a && b) ≡ true → (a ≡ true) × (b ≡ true)
both true b h = (refl, h)
both false b h = cc

-- what a constant form comes to
all_zero : (coefs xs : List ℤ) → list_all (int_eq (pos 0)) coefs ≡ true → dot coefs xs ≡ pos 0
all_zero [] xs h = refl
all_zero (c ∷ coefs) [] h = refl
all_zero (c ∷ coefs) (x ∷ xs) h =
    let parts = both (int_eq (pos 0) c) _ h in
    nothing _ _ (ap (λ z. z *ℤ x) (sym ((Decides-int_eq (pos 0) c).0 parts.0)) ∙ zero-*ℤ x) (all_zero coefs xs parts.1)
  where
    nothing : (a b : ℤ) → a ≡ pos 0 → b ≡ pos 0 → a +ℤ b ≡ pos 0
    nothing a b h k = omega (arith, ints)

pub constant_value : (f : Affine) (values : List ℤ) (symbols : ℕ → ℤ) → is_constant f ≡ true → value_of f values symbols ≡ f.constant
constant_value f values symbols h =
    let parts = both (list_all (int_eq (pos 0)) f.coefs) _ h in
    joined _ f.constant _ (all_zero f.coefs values parts.0) (no_symbol f.symbol parts.1)
  where
    no_symbol : (s : Option ℕ) → is_none s ≡ true → symbol_value s symbols ≡ pos 0
    no_symbol None e = refl
    no_symbol (Some m) e = cc

    joined : (d k s : ℤ) → d ≡ pos 0 → s ≡ pos 0 → (d +ℤ k) +ℤ s ≡ k
    joined d k s a b = omega (arith, ints)

is_pure : (x e : Entry) (s s1 : Store) → pure x s ≡ went e s1 → x ≡ e
unfolding pure
is_pure x e s s1 h = cc

-- a symbol is a memory of type `Int` that gives one word as long as the list runs
abbrev pub IsSymbol : PlainCore → (all : List PlainOp) → ℕ → Type 0
IsSymbol core all m = (is_steady (mem core m).kind all m ≡ true) × (is_type int_type (mem core m).ty ≡ true)

-- a form that is there has a coefficient for each of so many counters and such a symbol, and the word is like its value
abbrev pub Fits : PlainCore → (all : List PlainOp) → (counters : ℕ) → (values : List ℤ) → (symbols : ℕ → ℤ) → Option Affine → (word : ℕ) → Type 0
Fits core all n values symbols r w = IfSome r (λ f. (length f.coefs ≡ n) × IsLike w (value_of f values symbols) × IfSome f.symbol (IsSymbol core all))

module _ (kept : Kept) (core : PlainCore) (all : List PlainOp) (mask : Option ℕ) (scope : Scope) (places : List CounterPlace) (values : List ℤ) (symbols : ℕ → ℤ) (in_scope : AreInScope scope places values) where
  abbrev FitsHere : Option Affine → (word : ℕ) → Type 0
  FitsHere r w = Fits core all (length places) values symbols r w

  abbrev Is : Option Affine → Entry → Type 0
  Is r e = FitsHere r (word_of e)

  looked_up : (rs : List (Option Affine)) (es : List Entry) → AllZip Is rs es → (k : ℕ) → Is (slice_index_or rs k None) (slice_index_or es k left_out)
  looked_up [] [] h k = tt
  looked_up [] (e ∷ es) h k = absurd h
  looked_up (r ∷ rs) [] h k = absurd h
  looked_up (r ∷ rs) (e ∷ es) (here, rest) zero = here
  looked_up (r ∷ rs) (e ∷ es) (here, rest) (suc k) = looked_up rs es rest k

  one_more : (rs : List (Option Affine)) (es : List Entry) (r : Option Affine) (e : Entry) → AllZip Is rs es → Is r e → AllZip Is (rs ++ r ∷ []) (es ++ e ∷ [])
  one_more [] [] r e h k = (k, tt)
  one_more [] (f ∷ es) r e h k = absurd h
  one_more (s ∷ rs) [] r e h k = absurd h
  one_more (s ∷ rs) (f ∷ es) r e (here, rest) k = (here, one_more rs es r e rest k)

  module _ (rs : List (Option Affine)) (es : List Entry) (zipped : AllZip Is rs es) where
    of_operand : (args : List ℕ) (k : ℕ) → FitsHere (operand rs args k) (slice_index (map (word_at es) args) k)
    of_operand [] k = let P : Option Affine → Type 0 = λ r. FitsHere r 0 in subst P (sym (past_end rs)) tt
    of_operand (a ∷ args) zero = looked_up rs es zipped a
    of_operand (a ∷ args) (suc k) = of_operand args k

    -- by the form that an operation comes to
    of_opposite : (o : Option Affine) (a : ℕ) → FitsHere o a → FitsHere (option_and_then opposite_form o) (word_sub int_type 0 a)
    of_opposite None a h = tt
    of_opposite (Some f) a (counters, like, good) = by_form (opposite_form f) refl
      where
        by_form : (r : Option Affine) → opposite_form f ≡ r → FitsHere r (word_sub int_type 0 a)
        by_form None e = tt
        by_form (Some h) e =
            let is = multiple_value (length places) values symbols f (negsuc 0) h counters e in
            (is.counters, subst (IsLike (word_sub int_type 0 a)) (sym is.value) (like_opposite kept a (value_of f values symbols) like), multiple_symbol_kept (IsSymbol core all) f (negsuc 0) h e good)

    of_sum : (o p : Option Affine) (a b : ℕ) → FitsHere o a → FitsHere p b → FitsHere (of_both sum_form o p) (word_add int_type a b)
    of_sum None p a b h k = tt
    of_sum (Some f) None a b h k = tt
    of_sum (Some f) (Some g) a b (m, first, good) (n, second, better) = by_form (sum_form f g) refl
      where
        by_form : (r : Option Affine) → sum_form f g ≡ r → FitsHere r (word_add int_type a b)
        by_form None e = tt
        by_form (Some h) e =
            let is = sum_value (length places) values symbols f g h m n e in
            (is.counters, subst (IsLike (word_add int_type a b)) (sym is.value) (like_sum kept a b (value_of f values symbols) (value_of g values symbols) first second), sum_symbol_kept (IsSymbol core all) f g h e good better)

    of_difference : (o p : Option Affine) (a b : ℕ) → FitsHere o a → FitsHere p b → FitsHere (of_both difference_form o p) (word_sub int_type a b)
    of_difference None p a b h k = tt
    of_difference (Some f) None a b h k = tt
    of_difference (Some f) (Some g) a b (m, first, good) (n, second, better) = by_form (difference_form f g) refl
      where
        by_form : (r : Option Affine) → difference_form f g ≡ r → FitsHere r (word_sub int_type a b)
        by_form None e = tt
        by_form (Some h) e =
            let is = difference_value (length places) values symbols f g h m n e in
            (is.counters, subst (IsLike (word_sub int_type a b)) (sym is.value) (like_difference kept a b (value_of f values symbols) (value_of g values symbols) first second), difference_symbol_kept (IsSymbol core all) f g h e good)

    of_product : (o p : Option Affine) (a b : ℕ) → FitsHere o a → FitsHere p b → FitsHere (of_both product_form o p) (word_mul int_type a b)
    of_product None p a b h k = tt
    of_product (Some f) None a b h k = tt
    of_product (Some f) (Some g) a b (m, first, good) (n, second, better) = by_first (is_constant f) refl
      where
        like : IsLike (word_mul int_type a b) (value_of f values symbols *ℤ value_of g values symbols)
        like = like_product kept a b (value_of f values symbols) (value_of g values symbols) first second

        times_first : (r : Option Affine) → is_constant f ≡ true → multiple_form g f.constant ≡ r → FitsHere r (word_mul int_type a b)
        times_first None c e = tt
        times_first (Some h) c e =
            let is = multiple_value (length places) values symbols g f.constant h n e in
            let same = *ℤ_comm (value_of f values symbols) (value_of g values symbols) ∙ ap (λ z. value_of g values symbols *ℤ z) (constant_value f values symbols c) ∙ sym is.value in
            (is.counters, subst (IsLike (word_mul int_type a b)) same like, multiple_symbol_kept (IsSymbol core all) g f.constant h e better)

        times_second : (r : Option Affine) → is_constant g ≡ true → multiple_form f g.constant ≡ r → FitsHere r (word_mul int_type a b)
        times_second None c e = tt
        times_second (Some h) c e =
            let is = multiple_value (length places) values symbols f g.constant h m e in
            let same = ap (λ z. value_of f values symbols *ℤ z) (constant_value g values symbols c) ∙ sym is.value in
            (is.counters, subst (IsLike (word_mul int_type a b)) same like, multiple_symbol_kept (IsSymbol core all) f g.constant h e good)

        by_second : (c : Bool) → is_constant g ≡ c → FitsHere (if c then multiple_form f g.constant else None) (word_mul int_type a b)
        by_second true e = times_second _ e refl
        by_second false e = tt

        by_first : (c : Bool) → is_constant f ≡ c → FitsHere (if c then multiple_form g f.constant else (if is_constant g then multiple_form f g.constant else None)) (word_mul int_type a b)
        by_first true e = times_first _ e refl
        by_first false e = by_second _ refl

    zeros_and : (z x : ℤ) (d s : ℤ) → d ≡ pos 0 → (z +ℤ s) ≡ x → (d +ℤ z) +ℤ s ≡ x
    zeros_and z x d s e f = omega (arith, ints)

    zero_more : (z : ℤ) → z +ℤ pos 0 ≡ z
    zero_more z = omega (arith, ints)

    zero_first : (z : ℤ) → pos 0 +ℤ z ≡ z
    zero_first z = omega (arith, ints)

    of_literal : (w : ℕ) → FitsHere (constant_form places (index_value w)) w
    of_literal w = by_test (fits (index_value w))
      where
        by_test : (b : Bool) → FitsHere (if b then Some (record { coefs = replicate (length places) (pos 0); constant = index_value w; symbol = None }) else None) w
        by_test true = (length_of_replicate (length places), subst (IsLike w) (sym (zeros_and (index_value w) (index_value w) _ (pos 0) (dot_of_zeros (length places) values) (zero_more (index_value w)))) refl, tt)
        by_test false = tt

    of_symbol : (m : ℕ) (w : ℕ) → IsLike w (symbols m) → IsSymbol core all m → FitsHere (Some (symbol_form places m)) w
    of_symbol m w h good = (length_of_replicate (length places), subst (IsLike w) (sym (zeros_and (pos 0) (symbols m) _ (symbols m) (dot_of_zeros (length places) values) (zero_first (symbols m)))) h, good)

    of_read : (mem : Option ℕ) (e : Entry) → IsRead core all symbols Read mem e → did e ≡ true → is_typed core int_type mem ≡ true → Is (read_form core.mems all places mem) e
    of_read None e h d y = tt
    of_read (Some m) e h d y = by_test (is_steady (slice_index_or core.mems m no_mem).kind all m) refl
      where
        by_test : (b : Bool) → is_steady (slice_index_or core.mems m no_mem).kind all m ≡ b → Is (if b then Some (symbol_form places m) else None) e
        by_test true t = of_symbol m (word_of e) (h t d) (t, y)
        by_test false t = tt

    of_counter : (c lane : ℕ) → FitsHere (counter_form places c lane) (count_word (scope c) lane)
    of_counter c lane = by_test (is_around places c && fits (pos (lane * lane_step places c))) refl
      where
        sum : (d z v : ℤ) → d ≡ v → (d +ℤ z) +ℤ pos 0 ≡ v +ℤ z
        sum d z v e = omega (arith, ints)

        by_test : (b : Bool) → (is_around places c && fits (pos (lane * lane_step places c))) ≡ b →
            FitsHere (if b then Some (record { coefs = nearest_coefs places c; constant = pos (lane * lane_step places c); symbol = None }) else None) (count_word (scope c) lane)
        by_test true e =
            let f = found scope places values c in_scope (both _ _ e).0 in
            let same = sum _ (pos (lane * lane_step places c)) _ f.value ∙ ap (λ n. (scope c).value +ℤ pos (lane * n)) f.step in
            (length_of_nearest places c, subst (IsLike (count_word (scope c) lane)) (sym same) (like_wrapped kept _), tt)
        by_test false e = tt

    given : (w : ℕ) (e : Entry) (s s1 : Store) → pure (gave w) s ≡ went e s1 → gave w ≡ e
    given w e s s1 h = is_pure (gave w) e s s1 h

    of_kind : (kind : OpKind) (mem : Option ℕ) (args : List ℕ) (e : Entry) (s s1 : Store) → done_by core scope kind int_type mem (map (word_at es) args) s ≡ went e s1 → IsRead core all symbols kind mem e → did e ≡ true → is_typed core int_type mem ≡ true →
        Is (form_by_shape core.mems all mask places (shape_of kind) mem args rs) e
    of_kind (Word w) mem args e s s1 h r d y = subst (λ (x : Entry). Is (constant_form places (index_value w)) x) (given w e s s1 h) (of_literal w)
    of_kind (Count c lane) mem args e s s1 h r d y = subst (λ (x : Entry). Is (counter_form places c lane) x) (given _ e s s1 h) (of_counter c lane)
    of_kind Read mem args e s s1 h r d y = of_read mem e r d y
    of_kind (One Neg) mem args e s s1 h r d y = subst (λ (x : Entry). Is (option_and_then opposite_form (operand rs args 0)) x) (given _ e s s1 h) (of_opposite _ _ (of_operand args 0))
    of_kind (Two Add) mem args e s s1 h r d y = subst (λ (x : Entry). Is (of_both sum_form (operand rs args 0) (operand rs args 1)) x) (given _ e s s1 h) (of_sum _ _ _ _ (of_operand args 0) (of_operand args 1))
    of_kind (Two Sub) mem args e s s1 h r d y = subst (λ (x : Entry). Is (of_both difference_form (operand rs args 0) (operand rs args 1)) x) (given _ e s s1 h) (of_difference _ _ _ _ (of_operand args 0) (of_operand args 1))
    of_kind (Two Mul) mem args e s s1 h r d y = subst (λ (x : Entry). Is (of_both product_form (operand rs args 0) (operand rs args 1)) x) (given _ e s s1 h) (of_product _ _ _ _ (of_operand args 0) (of_operand args 1))
    of_kind _ mem args e s s1 h r d y = tt

    of_operation : (op : PlainOp) (e : Entry) (s s1 : Store) → operation core scope op es s ≡ went e s1 → (is_masked_alike op.mask mask ≡ true → did e ≡ true) → IsRead core all symbols op.kind op.mem e → is_typed core op.ty op.mem ≡ true →
        Is (form_of core.mems all mask places op rs) e
    of_operation op e s s1 h passed r typed = by_test (is_type op.ty int_type && is_masked_alike op.mask mask) refl
      where
        left : left_out ≡ e → did e ≡ true → ⊥
        left same d = let not_done : false ≡ true = ap did same ∙ d in cc

        nothing_done : pure left_out s ≡ went e s1 → left_out ≡ e
        nothing_done g = is_pure left_out e s s1 g

        unmasked : (m : Bool) → (elim m as (λ b. Store → Went Entry) [ true ↦ pure left_out | false ↦ done_by core scope op.kind op.ty op.mem (map (word_at es) op.args) ]) s ≡ went e s1 → did e ≡ true →
            done_by core scope op.kind op.ty op.mem (map (word_at es) op.args) s ≡ went e s1
        unmasked true g d = absurd (left (nothing_done g) d)
        unmasked false g d = g

        by_test : (b : Bool) → (is_type op.ty int_type && is_masked_alike op.mask mask) ≡ b → Is (if b then form_by_shape core.mems all mask places (shape_of op.kind) op.mem op.args rs else None) e
        by_test true t =
            let parts = both (is_type op.ty int_type) _ t in
            let g = unmasked (is_masked op.mask es) h (passed parts.1) in
            of_kind op.kind op.mem op.args e s s1 (subst (λ (ty : Ty). done_by core scope op.kind ty op.mem (map (word_at es) op.args) s ≡ went e s1) (is_int kept op.ty parts.0) g) r (passed parts.1) (subst (λ (ty : Ty). is_typed core ty op.mem ≡ true) (is_int kept op.ty parts.0) typed)
        by_test false t = tt

  all_like : (later : List PlainOp) (rs : List (Option Affine)) (done : List Entry) (s : Store) (es : List Entry) (t : Store) → AllZip Is rs done → list_all (is_allowed core) later ≡ true → operations_after core scope done later s ≡ went es t →
      ArePassed mask (length done) later es → AreRead core all symbols (length done) later es → AllZip Is (forms_after core.mems all mask places rs later) es
  all_like [] rs done s es t z allowed h p r = subst (λ (x : List Entry). AllZip Is rs x) (at_end core scope done s es t h) z
  all_like (op ∷ later) rs done s es t z allowed h (p, ps) (r, reads) =
      let allow = both (is_allowed core op) _ allowed in
      let f = first_step core scope done op later s es t h in
      let longer_one = longer core scope done f.entry in
      let here = stands core scope done op later s es t h in
      let did_it : is_masked_alike op.mask mask ≡ true → did f.entry ≡ true = λ a. ap did (sym here) ∙ p a in
      let was_read = subst (λ (x : Entry). IsRead core all symbols op.kind op.mem x) here r in
      all_like later (rs ++ form_of core.mems all mask places op rs ∷ []) (done ++ f.entry ∷ []) f.next es t
      (one_more rs done _ f.entry z (of_operation rs done z op f.entry s f.next f.here did_it was_read (both _ _ allow.0).1)) allow.1 f.rest
      (subst (λ (n : ℕ). ArePassed mask n later es) (sym longer_one) ps) (subst (λ (n : ℕ). AreRead core all symbols n later es) (sym longer_one) reads)

  like_alone : (rs : List (Option Affine)) (es : List Entry) → AllZip Is rs es → AreLike values symbols rs es
  like_alone [] [] h = tt
  like_alone [] (e ∷ es) h = absurd h
  like_alone (r ∷ rs) [] h = absurd h
  like_alone (None ∷ rs) (e ∷ es) (here, rest) = (tt, like_alone rs es rest)
  like_alone (Some f ∷ rs) (e ∷ es) (here, rest) = (here.1, like_alone rs es rest)

pub words_are_like : Kept → (core : PlainCore) (ops : List PlainOp) → AreWordsLikeForms core ops
words_are_like kept core ops forms mask scope places values s t entries allowed h in_scope passed =
    let symbols = symbol_in core forms s in
    let m = all_like kept core ops mask scope places values symbols in_scope ops [] [] s entries t tt allowed h passed (are_read core forms scope ops s entries t allowed h) in
    like_alone kept core ops mask scope places values symbols in_scope (forms_of core.mems ops mask places) entries m

-- the form of an operation that has one has a coefficient for each counter, and its word is like the form's value
pub words_fit : Kept → (core : PlainCore) (ops : List PlainOp) (forms : PlainForms) (mask : Option ℕ) (scope : Scope) (places : List CounterPlace) (values : List ℤ) (s t : Store) (entries : List Entry) →
    list_all (is_allowed core) ops ≡ true → operations core scope ops s ≡ went entries t → AreInScope scope places values → ArePassed mask 0 ops entries → (k : ℕ) →
    Fits core ops (length places) values (symbol_in core forms s) (slice_index_or (forms_of core.mems ops mask places) k None) (word_at entries k)
words_fit kept core ops forms mask scope places values s t entries allowed h in_scope passed k =
    let symbols = symbol_in core forms s in
    let m = all_like kept core ops mask scope places values symbols in_scope ops [] [] s entries t tt allowed h passed (are_read core forms scope ops s entries t allowed h) in
    looked_up kept core ops mask scope places values symbols in_scope (forms_of core.mems ops mask places) entries m k
