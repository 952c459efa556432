-- The indices at which an access touches its memory are its forms.
use Rattle.std.proofs.Common.{◌≡◌, ℕ, zero, suc, ◌-◌, ◌^◌, ◌<◌, ◌≤◌, Bool, true, false, ◌&&◌, ℤ, pos, negsuc, ◌≤ℤ◌, List, [], ◌∷◌, ◌++◌, length, map, take, refl, ap, sym, ◌∙◌, subst, arith, append_assoc, zero-add, ◌||◌, ◌+ℤ◌}
use Rattle.std.specs.Prelude.{Option, Some, None, IfSome, nat_lt, nat_le, slice_index_or, if◌then◌else◌}
use Rattle.std.specs.List.{list_all, list_any}
use Rattle.std.specs.Ordering.{int_eq}
use Rattle.std.proofs.lemmas.Int.{ints}
use Rattle.std.proofs.lemmas.Bool.Decides.{Decides-int_eq, Decides-eqb, Decides-ltb}
use Rattle.sp_words.specs.declared.kind.Kind.{Kind}
use Rattle.sp_words.specs.declared.kind.Kind.TheVariants.{Reg, Sram, Fifo, LineBuf, Dram, ArgIn, ArgOut}
use Rattle.sp_words.specs.declared.types.Ty.{Ty}
use Rattle.sp_words.specs.Memory.{Contents}
use Rattle.sp_words.specs.Types.{int_type}
use Rattle.sp_affine.specs.Affine.{Affine, value_of, symbol_value, dot}
use Rattle.sp_core.specs.declared.operation.OpKind.{OpKind}
use Rattle.sp_core.specs.declared.operation.OpKind.TheVariants.{Read, Write, Enq, Deq, Reset}
use Rattle.sp_core.specs.Accesses.{read_in, write_in, inside, word_in}
use Rattle.sp_core.specs.Declarations.{mem, dims, kind_of}
use Rattle.sp_core.specs.Elements.{index_value, natural, is_below, are_inside}
use Rattle.sp_core.specs.Forms.{PlainForms, symbol_in, are_indices, are_known_indices, held_word}
use Rattle.sp_core.specs.History.{Entry, left_out, touched, word_of, word_at}
use Rattle.sp_core.specs.OperationRules.{can, is_fifo}
use Rattle.sp_core.specs.Operations.{access, done_by, operation, operations}
use Rattle.sp_core.specs.PlainCore.{PlainOp, PlainCore}
use Rattle.sp_core.specs.Scope.{Scope}
use Rattle.sp_core.specs.Sequential.{has_reset}
use Rattle.sp_core.specs.Step.{went}
use Rattle.sp_core.specs.Store.{Store}
use Rattle.sp_core.specs.Typed.{rank_of, is_type}
use Rattle.sp_patterns.specs.Forms.{forms_of, changes}
use Rattle.sp_patterns.specs.Indices.{is_index, index_form, known_after, indices_at, access_forms}
use Rattle.sp_patterns.specs.Ranges.{PlainAround}
use Rattle.sp_hold.proofs.Orderly.{all_allowed, all_masked, orderly}
use Rattle.sp_core.specs.Around.{Around}
use Rattle.sp_hold.specs.Laws.{IsIndexItsForm, AreFormsIndices}
use Rattle.sp_hold.specs.Values.{IsInt, AreInRanges, AreValues, takes, is_allowed, is_allowed_at, did, IsLike, AreInScope, are_masks_earlier, IsOrderly}
use Rattle.sp_hold.proofs.Likeness.{Kept}
use Rattle.sp_hold.proofs.ListSteps.{at_place}
use Rattle.sp_hold.proofs.ListWords.{IsSymbol, Fits, words_fit}
use Rattle.sp_hold.proofs.Masks.{all_passed}
use Rattle.sp_hold.proofs.Steady.{unmasked, steady_kept}
use Rattle.sp_hold.proofs.Steps.{bound, was_pure, was_ensured, no_stop}

both : (a b : Bool) → (a && b) ≡ true → (a ≡ true) × (b ≡ true)
both true b h = (refl, h)
both false b h = cc

-- words that are indices of a memory
abbrev AreSmall : List ℕ → Type 0
AreSmall [] = Unit {0}
AreSmall (w ∷ words) = (pos 0 ≤ℤ index_value w) × (index_value w ≤ℤ pos (2 ^ 26)) × AreSmall words

abbrev index_at : ℕ → ℕ
index_at w = natural (index_value w)

below_is_small : (z : ℤ) (d : ℕ) → is_below z d ≡ true → nat_le d (2 ^ 26) ≡ true → (pos 0 ≤ℤ z) × (z ≤ℤ pos (2 ^ 26))
below_is_small (pos n) d h k = inner n d ((Decides-ltb n d).0 h) (at_most d k)
  where
    at_most : (d : ℕ) → nat_le d (2 ^ 26) ≡ true → d ≤ 2 ^ 26
    at_most d k = grind arith

    inner : (n d : ℕ) → n < d → d ≤ 2 ^ 26 → (pos 0 ≤ℤ pos n) × (pos n ≤ℤ pos (2 ^ 26))
    inner n d h k = (omega (arith, ints), omega (arith, ints))
below_is_small (negsuc n) d h k = cc

inside_is_small : (ds : List ℕ) (words : List ℕ) → are_inside ds (map index_value words) ≡ true → list_all (λ d. nat_le d (2 ^ 26)) ds ≡ true → AreSmall words
inside_is_small [] [] h k = tt
inside_is_small [] (w ∷ words) h k = cc
inside_is_small (d ∷ ds) [] h k = tt
inside_is_small (d ∷ ds) (w ∷ words) h k =
    let a = both (is_below (index_value w) d) _ h in
    let b = both (nat_le d (2 ^ 26)) _ k in
    let small = below_is_small (index_value w) d a.0 b.0 in
    (small.0, small.1, inside_is_small ds words a.1 b.1)

take_whole : (n : ℕ) (xs : List ℕ) → length xs ≡ n → take n xs ≡ xs
take_whole zero [] e = refl
take_whole (suc n) [] e = refl
take_whole zero (x ∷ xs) e = absurd (omega arith)
take_whole (suc n) (x ∷ xs) e = ap (λ ys. x ∷ ys) (take_whole n xs (omega arith))

take_of_map : (n : ℕ) (f : ℕ → ℕ) (xs : List ℕ) → take n (map f xs) ≡ map f (take n xs)
take_of_map zero f [] = refl
take_of_map zero f (x ∷ xs) = refl
take_of_map (suc n) f [] = refl
take_of_map (suc n) f (x ∷ xs) = ap (λ ys. f x ∷ ys) (take_of_map n f xs)

map_twice : (f g : ℕ → ℕ) (xs : List ℕ) → map f (map g xs) ≡ map (λ x. f (g x)) xs
map_twice f g [] = refl
map_twice f g (x ∷ xs) = ap (λ ys. f (g x) ∷ ys) (map_twice f g xs)

length_of_map : (f : ℕ → ℕ) (xs : List ℕ) → length (map f xs) ≡ length xs
length_of_map f [] = refl
length_of_map f (x ∷ xs) = ap suc (length_of_map f xs)

all_of_take : (n : ℕ) (p : ℕ → Bool) (xs : List ℕ) → list_all p xs ≡ true → list_all p (take n xs) ≡ true
all_of_take zero p [] h = refl
all_of_take zero p (x ∷ xs) h = refl
all_of_take (suc n) p [] h = refl
all_of_take (suc n) p (x ∷ xs) h =
    let a = both (p x) _ h in
    ap (λ b. b && list_all p (take n xs)) a.0 ∙ all_of_take n p xs a.1

fifo_rank : (kind : Kind) (n : ℕ) → is_fifo kind ≡ true → rank_of kind n ≡ 0
fifo_rank Fifo n h = refl
fifo_rank Reg n h = refl
fifo_rank Sram n h = cc
fifo_rank LineBuf n h = cc
fifo_rank Dram n h = refl
fifo_rank ArgIn n h = refl
fifo_rank ArgOut n h = refl

reset_rank : (kind : Kind) (start : Option ℕ) (n : ℕ) → has_reset kind start ≡ true → rank_of kind n ≡ 0
reset_rank Fifo start n h = refl
reset_rank Reg start n h = refl
reset_rank Sram start n h = cc
reset_rank LineBuf start n h = cc
reset_rank Dram start n h = refl
reset_rank ArgIn start n h = refl
reset_rank ArgOut start n h = refl

indices_are : (is js : List ℕ) (w x : ℕ) → touched is w ≡ touched js x → is ≡ js
indices_are is js w x h = cc

module _ (core : PlainCore) (scope : Scope) where
  -- the first words are the indices
  record Took (n : ℕ) (words indices : List ℕ) : Type 0 where
    are : indices ≡ map index_at (take n words)
    small : AreSmall (take n words)

  took_none : (n : ℕ) (words indices : List ℕ) → n ≡ 0 → [] ≡ indices → Took n words indices
  took_none n words indices e same = record {
    are = sym same ∙ sym (ap (λ k. map index_at (take k words)) e ∙ ap (map index_at) (nothing words));
    small = subst AreSmall (sym (ap (λ k. take k words) e ∙ nothing words)) tt;
  }
    where
      nothing : (xs : List ℕ) → take 0 xs ≡ []
      nothing [] = refl
      nothing (x ∷ xs) = refl

  took_inside : (n k : ℕ) (words args is : List ℕ) (s t : Store) → inside core k args s ≡ went is t → args ≡ take n words → list_all (λ d. nat_le d (2 ^ 26)) (dims core k) ≡ true → Took n words is
  took_inside n k words args is s t h e small =
      let b = bound _ _ s is t h in
      let within = (was_ensured _ b.value s b.middle b.first).0 in
      let given = (was_pure _ is b.middle t b.later).value in
      record {
        are = sym given ∙ ap (map index_at) e;
        small = subst AreSmall e (inside_is_small (dims core k) args within small);
      }

  took : (kind : OpKind) (k : ℕ) (words indices : List ℕ) (word : ℕ) (s t : Store) → access core scope kind k words s ≡ went (touched indices word) t → can kind (mem core k).kind (mem core k).start ≡ true →
      takes kind (length words) (indices_at core.mems (Some k)) ≡ true → list_all (λ d. nat_le d (2 ^ 26)) (dims core k) ≡ true → Took (indices_at core.mems (Some k)) words indices
  took Read k words indices word s t h allowed n small =
      let b = bound (inside core k words) _ s (touched indices word) t h in
      let c = bound (read_in core k b.value) _ b.middle (touched indices word) t b.later in
      let p = was_pure (touched b.value c.value) (touched indices word) c.middle t c.later in
      let as_many = (Decides-eqb (length words) (indices_at core.mems (Some k))).0 n in
      subst (Took (indices_at core.mems (Some k)) words) (indices_are b.value indices c.value word p.value)
      (took_inside (indices_at core.mems (Some k)) k words words b.value s b.middle b.first (sym (take_whole (indices_at core.mems (Some k)) words as_many)) small)
  took Write k words indices word s t h allowed n small =
      let b = bound (inside core k (take (length words - 1) words)) _ s (touched indices word) t h in
      let c = bound (write_in core k b.value _) _ b.middle (touched indices word) t b.later in
      let p = was_pure (touched b.value _) (touched indices word) c.middle t c.later in
      let as_many = (Decides-eqb (length words) (suc (indices_at core.mems (Some k)))).0 n in
      let one_less : length words - 1 ≡ indices_at core.mems (Some k) = less_one (length words) (indices_at core.mems (Some k)) as_many in
      subst (Took (indices_at core.mems (Some k)) words) (indices_are b.value indices _ word p.value)
      (took_inside (indices_at core.mems (Some k)) k words (take (length words - 1) words) b.value s b.middle b.first (ap (λ j. take j words) one_less) small)
    where
      less_one : (a b : ℕ) → a ≡ suc b → a - 1 ≡ b
      less_one a b e = omega arith
  took Enq k words indices word s t h allowed n small =
      let b = bound _ _ s (touched indices word) t h in
      took_none _ words indices (fifo_rank (mem core k).kind _ allowed) (indices_are [] indices _ word (was_pure _ (touched indices word) b.middle t b.later).value)
  took Deq k words indices word s t h allowed n small =
      let b = bound _ _ s (touched indices word) t h in
      took_none _ words indices (fifo_rank (mem core k).kind _ allowed) (indices_are [] indices _ word (was_pure _ (touched indices word) b.middle t b.later).value)
  took Reset k words indices word s t h allowed n small =
      let b = bound _ _ s (touched indices word) t h in
      took_none _ words indices (reset_rank (mem core k).kind (mem core k).start _ allowed) (indices_are [] indices _ word (was_pure _ (touched indices word) b.middle t b.later).value)
  took kind k words indices word s t h allowed n small = no_stop (touched indices word) s t h

  took_at : (kind : OpKind) (ty : Ty) (k : ℕ) (words indices : List ℕ) (word : ℕ) (s t : Store) → done_by core scope kind ty (Some k) words s ≡ went (touched indices word) t → can kind (mem core k).kind (mem core k).start ≡ true →
      takes kind (length words) (indices_at core.mems (Some k)) ≡ true → list_all (λ d. nat_le d (2 ^ 26)) (dims core k) ≡ true → Took (indices_at core.mems (Some k)) words indices
  took_at Read ty k words indices word s t h = took Read k words indices word s t h
  took_at Write ty k words indices word s t h = took Write k words indices word s t h
  took_at Enq ty k words indices word s t h = took Enq k words indices word s t h
  took_at Deq ty k words indices word s t h = took Deq k words indices word s t h
  took_at Reset ty k words indices word s t h = took Reset k words indices word s t h
  took_at kind ty k words indices word s t h = λ a b c. cc

in_ranges : (coefs : List ℤ) (ranges : List (Option (ℤ × ℤ))) (values : List ℤ) → length coefs ≡ length ranges → AreValues ranges values → AreInRanges coefs ranges values
in_ranges [] [] [] e h = tt
in_ranges [] [] (v ∷ values) e h = absurd h
in_ranges [] (r ∷ ranges) values e h = absurd (omega arith)
in_ranges (c ∷ coefs) [] values e h = absurd (omega arith)
in_ranges (c ∷ coefs) (r ∷ ranges) [] e h = absurd h
in_ranges (c ∷ coefs) (r ∷ ranges) (v ∷ values) e (in_range, int, rest) = (in_range, int, in_ranges coefs ranges values (omega arith) rest)

module _ (kept : Kept) (index_is : (f : Affine) → IsIndexItsForm f) (core : PlainCore) (all : List PlainOp) (forms : PlainForms) (around : PlainAround) (values : List ℤ) (symbols : ℕ → ℤ)
    (lengths : length around.ranges ≡ length around.places) (are_values : AreValues around.ranges values) (are_int : (m : ℕ) → is_type int_type (mem core m).ty ≡ true → IsInt (symbols m)) where
  one_symbol : (s : Option ℕ) → IfSome s (IsSymbol core all) → IsInt (symbol_value s symbols)
  one_symbol None good = (omega (arith, ints), omega (arith, ints))
  one_symbol (Some m) (steady, typed) = are_int m typed

  -- an index whose form is known is the form's value
  one_index : (r : Option Affine) (w : ℕ) (f : Affine) → Fits core all (length around.places) values symbols r w → index_form around.ranges r ≡ Some f →
      pos 0 ≤ℤ index_value w → index_value w ≤ℤ pos (2 ^ 26) → value_of f values symbols ≡ pos (index_at w)
  one_index None w f fits e above below = cc
  one_index (Some g) w f (counters, like, good) e above below = by_test (is_index around.ranges g) refl e
    where
      natural_is : (z : ℤ) → pos 0 ≤ℤ z → z ≡ pos (natural z)
      natural_is (pos n) h = refl
      natural_is (negsuc n) h = absurd (omega (arith, ints))

      its_value : is_index around.ranges g ≡ true → g ≡ f → value_of f values symbols ≡ pos (index_at w)
      its_value is same =
          ap (λ (x : Affine). value_of x values symbols) (sym same)
          ∙ sym (index_is g around.ranges values symbols w is (in_ranges g.coefs around.ranges values (counters ∙ sym lengths) are_values) (one_symbol g.symbol good) above below like)
          ∙ natural_is (index_value w) above

      by_test : (b : Bool) → is_index around.ranges g ≡ b → (if b then Some g else None) ≡ Some f → value_of f values symbols ≡ pos (index_at w)
      by_test true t h = let same : g ≡ f = cc in its_value t same
      by_test false t h = cc

  indices_more : (fs : List Affine) (is : List ℤ) (f : Affine) (i : ℤ) → are_indices core forms fs is values symbols ≡ true → value_of f values symbols ≡ i → are_indices core forms (fs ++ f ∷ []) (is ++ i ∷ []) values symbols ≡ true
  indices_more [] [] f i h e = ap (λ b. b && true) ((Decides-int_eq (value_of f values symbols) i).1 e)
  indices_more [] (j ∷ is) f i h e = cc
  indices_more (g ∷ fs) [] f i h e = cc
  indices_more (g ∷ fs) (j ∷ is) f i h e =
      let a = both (int_eq (value_of g values symbols) j) _ h in
      ap (λ b. b && are_indices core forms (fs ++ f ∷ []) (is ++ i ∷ []) values symbols) a.0 ∙ indices_more fs is f i a.1 e

  pos_more : (is : List ℕ) (i : ℕ) → map pos (is ++ i ∷ []) ≡ map pos is ++ pos i ∷ []
  pos_more [] i = refl
  pos_more (j ∷ is) i = ap (λ xs. pos j ∷ xs) (pos_more is i)

  -- at each of some operands
  abbrev AreFit : (rs : List (Option Affine)) → (word : ℕ → ℕ) → List ℕ → Type 0
  AreFit rs word [] = Unit {0}
  AreFit rs word (a ∷ args) = Fits core all (length around.places) values symbols (slice_index_or rs a None) (word a) × AreFit rs word args

  module _ (rs : List (Option Affine)) (word : ℕ → ℕ) where
    all_indices : (args : List ℕ) (fs : List Affine) (is : List ℕ) → AreSmall (map word args) → AreFit rs word args → are_indices core forms fs (map pos is) values symbols ≡ true →
        are_known_indices core forms (known_after fs (map (λ a. index_form around.ranges (slice_index_or rs a None)) args)) (map pos (is ++ map (λ a. index_at (word a)) args)) values symbols ≡ true
    all_indices [] fs is small fit h = ap (λ (xs : List ℕ). are_indices core forms fs (map pos xs) values symbols) (nil_right is) ∙ h
      where
        nil_right : (xs : List ℕ) → xs ++ [] ≡ xs
        nil_right [] = refl
        nil_right (x ∷ xs) = ap (λ ys. x ∷ ys) (nil_right xs)
    all_indices (a ∷ args) fs is (above, below, small) (fit, others) h = by_form (index_form around.ranges (slice_index_or rs a None)) refl (λ f k. all_indices args (fs ++ f ∷ []) (is ++ index_at (word a) ∷ []) small others k)
      where
        by_form : (r : Option Affine) → index_form around.ranges (slice_index_or rs a None) ≡ r →
            ((f : Affine) → are_indices core forms (fs ++ f ∷ []) (map pos (is ++ index_at (word a) ∷ [])) values symbols ≡ true →
            are_known_indices core forms (known_after (fs ++ f ∷ []) (map (λ a. index_form around.ranges (slice_index_or rs a None)) args)) (map pos ((is ++ index_at (word a) ∷ []) ++ map (λ a. index_at (word a)) args)) values symbols ≡ true) →
            are_known_indices core forms (known_after fs (r ∷ map (λ a. index_form around.ranges (slice_index_or rs a None)) args)) (map pos (is ++ (index_at (word a) ∷ map (λ a. index_at (word a)) args))) values symbols ≡ true
        by_form None e later = refl
        by_form (Some f) e later =
            let is_value = one_index (slice_index_or rs a None) (word a) f fit e above below in
            let more = ap (λ (xs : List ℤ). are_indices core forms (fs ++ f ∷ []) xs values symbols) (pos_more is (index_at (word a))) ∙ indices_more fs (map pos is) f (pos (index_at (word a))) h is_value in
            ap (λ (xs : List ℕ). are_known_indices core forms (known_after (fs ++ f ∷ []) (map (λ a. index_form around.ranges (slice_index_or rs a None)) args)) (map pos xs) values symbols) (sym (append_assoc is (index_at (word a) ∷ []) (map (λ a. index_at (word a)) args))) ∙ later f more

    -- by what stands at each operand
    all_fit : (n : ℕ) (args : List ℕ) → list_all (λ a. nat_lt a n) args ≡ true →
        ((a : ℕ) → a < n → Fits core all (length around.places) values symbols (slice_index_or rs a None) (word a)) → AreFit rs word args
    all_fit n [] h fits = tt
    all_fit n (a ∷ args) h fits =
        let b = both (nat_lt a n) _ h in
        (fits a ((Decides-ltb a n).0 b.0), all_fit n args b.1 fits)

allowed_there : (core : PlainCore) (before : List PlainOp) (op : PlainOp) (after : List PlainOp) → list_all (is_allowed core) (before ++ op ∷ after) ≡ true → is_allowed core op ≡ true
allowed_there core [] op after h = (both (is_allowed core op) _ h).0
allowed_there core (b ∷ before) op after h = allowed_there core before op after (both (is_allowed core b) _ h).1

did_nothing : {P : Type 0} (indices : List ℕ) (word : ℕ) → left_out ≡ touched indices word → P
did_nothing indices word h = cc

-- what holds of a list holds of its front
all_front : {A : Type 0} (p : A → Bool) (xs ys : List A) → list_all p (xs ++ ys) ≡ true → list_all p xs ≡ true
all_front p [] ys h = refl
all_front p (x ∷ xs) ys h =
    let b = both (p x) _ h in
    ap (λ c. c && list_all p xs) b.0 ∙ all_front p xs ys b.1

neither : (a b : Bool) → (a || b) ≡ false → (a ≡ false) × (b ≡ false)
neither true b h = cc
neither false b h = (refl, h)

none_front : {A : Type 0} (p : A → Bool) (xs ys : List A) → list_any p (xs ++ ys) ≡ false → list_any p xs ≡ false
none_front p [] ys h = refl
none_front p (x ∷ xs) ys h =
    let b = neither (p x) _ h in
    ap (λ c. c || list_any p xs) b.0 ∙ none_front p xs ys b.1

-- a form's value is the same where its symbol is
fits_too : (core : PlainCore) (all : List PlainOp) (n : ℕ) (values : List ℤ) (one two : ℕ → ℤ) (r : Option Affine) (w : ℕ) → Fits core all n values one r w → ((m : ℕ) → IsSymbol core all m → one m ≡ two m) → Fits core all n values two r w
fits_too core all n values one two None w h same = tt
fits_too core all n values one two (Some f) w (counters, like, good) same = (counters, subst (IsLike w) (ap (λ z. (dot f.coefs values +ℤ f.constant) +ℤ z) (by_symbol f.symbol good)) like, good)
  where
    by_symbol : (o : Option ℕ) → IfSome o (IsSymbol core all) → symbol_value o one ≡ symbol_value o two
    by_symbol None h = refl
    by_symbol (Some m) h = same m h

one_run : (es fs : List Entry) (s t : Store) → went es s ≡ went fs t → s ≡ t
one_run es fs s t h = cc

-- by what its list keeps
abbrev AreIndices : PlainCore → PlainAround → (before : List PlainOp) → PlainOp → (after : List PlainOp) → Type 0
AreIndices core around before op after =
    (forms : PlainForms) (scope : Scope) (values : List ℤ) (s u t : Store) (first entries : List Entry) (memory : ℕ) (indices : List ℕ) (word : ℕ) →
    list_all (is_allowed core) (before ++ op ∷ after) ≡ true → operations core scope before s ≡ went first u → operations core scope (before ++ op ∷ after) s ≡ went entries t →
    AreInScope scope around.places values → are_masks_earlier 0 (before ++ op ∷ after) ≡ true → slice_index_or entries (length before) left_out ≡ touched indices word → IsOrderly core before op memory →
    length around.ranges ≡ length around.places → AreValues around.ranges values → ((m : ℕ) → is_type int_type (mem core m).ty ≡ true → IsInt (symbol_in core forms u m)) →
    are_known_indices core forms (access_forms core.mems around (before ++ op ∷ after) op) (map pos indices) values (symbol_in core forms u) ≡ true

orderly_indices : Kept → ((f : Affine) → IsIndexItsForm f) → (core : PlainCore) (around : PlainAround) (before : List PlainOp) (op : PlainOp) (after : List PlainOp) → AreIndices core around before op after
orderly_indices kept index_is core around before op after forms scope values s u t begun entries m indices word allowed g h in_scope masks stands orderly lengths are_values are_int =
    let touched_it = ap did stands in
    let passed = all_passed core scope before op after s entries t h masks touched_it in
    let at = at_place core scope before op after [] s entries t h in
    let place : length at.earlier ≡ length before = at.place ∙ zero-add (length before) in
    let stores : at.from ≡ u = one_run at.earlier begun at.from u (sym at.reached ∙ g) in
    let front = all_front (is_allowed core) before (op ∷ after) allowed in
    let kept_words = λ (n : ℕ) (good : IsSymbol core (before ++ op ∷ after) n).
    ap (λ (c : Option Contents). held_word core forms (word_in (kind_of core n) (dims core n) [] c)) (sym (steady_kept core scope (before ++ op ∷ after) before [] s begun u g front (λ k away. none_front (changes k) before (op ∷ after) away) n good.0)) in
    let is_entry : at.entry ≡ touched indices word = sym at.stands_there ∙ ap (λ k. slice_index_or entries k left_out) place ∙ stands in
    let here = subst (λ (e : Entry). operation core scope op at.earlier at.from ≡ went e at.to) is_entry at.here in
    let can_be = subst (λ (x : Option ℕ). is_allowed_at core op.kind x ≡ true) orderly.names (both _ _ (allowed_there core before op after allowed)).0 in
    let fits : (a : ℕ) → a < length before →
    Fits core (before ++ op ∷ after) (length around.places) values (symbol_in core forms u) (slice_index_or (forms_of core.mems (before ++ op ∷ after) op.mask around.places) a None) (word_at at.earlier a) =
    λ a less. moved core (before ++ op ∷ after) around (forms_of core.mems (before ++ op ∷ after) op.mask around.places) values (symbol_in core forms u) (word_at entries a) (word_at at.earlier a) a
    (same_word entries at.earlier a (at.same a (earlier_too a (length before) (length at.earlier) place less)))
    (fits_too core (before ++ op ∷ after) (length around.places) values (symbol_in core forms s) (symbol_in core forms u) _ _ (words_fit kept core (before ++ op ∷ after) forms op.mask scope around.places values s t entries allowed h in_scope passed a) kept_words) in
    unmasked core scope (before ++ op ∷ after) op at.earlier (touched indices word) at.from at.to here
    (λ left same. did_nothing indices word left)
    (λ d. finish at.earlier at.from at.to (subst (λ (x : Option ℕ). done_by core scope op.kind op.ty x (map (word_at at.earlier) op.args) at.from ≡ went (touched indices word) at.to) orderly.names d) (both _ _ can_be).1 fits)
  where
    earlier_too : (a n k : ℕ) → k ≡ n → a < n → a < k
    earlier_too a n k e h = omega arith

    same_word : (es done : List Entry) (a : ℕ) → slice_index_or es a left_out ≡ slice_index_or done a left_out → word_at es a ≡ word_at done a
    same_word es done a e = ap word_of e

    moved : (core : PlainCore) (all : List PlainOp) (around : PlainAround) (rs : List (Option Affine)) (values : List ℤ) (symbols : ℕ → ℤ) (w x a : ℕ) → w ≡ x →
        Fits core all (length around.places) values symbols (slice_index_or rs a None) w → Fits core all (length around.places) values symbols (slice_index_or rs a None) x
    moved core all around rs values symbols w x a e h =
        subst (λ (y : ℕ). Fits core all (length around.places) values symbols (slice_index_or rs a None) y) e h

    finish : (earlier : List Entry) (from to : Store) → done_by core scope op.kind op.ty (Some m) (map (word_at earlier) op.args) from ≡ went (touched indices word) to → can op.kind (mem core m).kind (mem core m).start ≡ true →
        ((a : ℕ) → a < length before →
        Fits core (before ++ op ∷ after) (length around.places) values (symbol_in core forms u) (slice_index_or (forms_of core.mems (before ++ op ∷ after) op.mask around.places) a None) (word_at earlier a)) →
        are_known_indices core forms (access_forms core.mems around (before ++ op ∷ after) op) (map pos indices) values (symbol_in core forms u) ≡ true
    finish earlier from to done can_be fits =
        let symbols = symbol_in core forms u in
        let rs = forms_of core.mems (before ++ op ∷ after) op.mask around.places in
        let n = indices_at core.mems (Some m) in
        let count : indices_at core.mems op.mem ≡ n = ap (indices_at core.mems) orderly.names in
        let many : takes op.kind (length (map (word_at earlier) op.args)) n ≡ true =
        ap (λ k. takes op.kind k n) (length_of_map (word_at earlier) op.args) ∙ ap (λ k. takes op.kind (length op.args) k) (sym count) ∙ orderly.taken in
        let taken = took_at core scope op.kind op.ty m (map (word_at earlier) op.args) indices word from to done can_be many orderly.small in
        let first = take_of_map n (word_at earlier) op.args in
        let are = taken.are ∙ ap (map index_at) first ∙ map_twice index_at (word_at earlier) (take n op.args) in
        let small = subst AreSmall first taken.small in
        let fit = all_fit kept index_is core (before ++ op ∷ after) forms around values symbols lengths are_values are_int rs (word_at earlier) (length before) (take n op.args) (all_of_take n (λ a. nat_lt a (length before)) op.args orderly.earlier) fits in
        let whole = all_indices kept index_is core (before ++ op ∷ after) forms around values symbols lengths are_values are_int rs (word_at earlier) (take n op.args) [] [] small fit refl in
        ap (λ k. are_known_indices core forms (known_after [] (map (λ a. index_form around.ranges (slice_index_or rs a None)) (take k op.args))) (map pos indices) values symbols) count
        ∙ ap (λ (xs : List ℕ). are_known_indices core forms (known_after [] (map (λ a. index_form around.ranges (slice_index_or rs a None)) (take n op.args))) (map pos xs) values symbols) are
        ∙ whole

pub forms_are_indices : Kept → ((f : Affine) → IsIndexItsForm f) → (core : PlainCore) (outside : Around) (around : PlainAround) (before : List PlainOp) (op : PlainOp) (after : List PlainOp) → AreFormsIndices core outside around before op after
forms_are_indices kept index_is core outside around before op after forms scope values s u t begun entries m indices word memories right names g h stands in_scope lengths are_values are_int =
    orderly_indices kept index_is core around before op after forms scope values s u t begun entries m indices word (all_allowed core outside (before ++ op ∷ after) [] right) g h in_scope
    (all_masked core outside (before ++ op ∷ after) [] right) stands (orderly core outside before op after m memories right names) lengths are_values are_int
