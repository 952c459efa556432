-- The symbols of forms are registers and arguments.
use Rattle.std.proofs.Common.{◌≡◌, ℕ, zero, suc, ◌*◌, Bool, true, false, ◌&&◌, ℤ, pos, List, [], ◌∷◌, ◌++◌, length, replicate, map, take, Option, Some, None, refl, ap, ◌∙◌, subst, if◌then◌else◌}
use Rattle.std.specs.Prelude.{All, IfSome, option_and_then, option_map, slice_index_or, nat_lt}
use Rattle.std.specs.List.{list_all}
use Rattle.std.proofs.lemmas.Bool.{and_parts, false≢true}
use Rattle.std.proofs.lemmas.List.Elements.{All-nil, All-cons, All-head, All-tail, All-append}
use Rattle.sp_words.specs.declared.kind.Kind.{Kind}
use Rattle.sp_words.specs.declared.kind.Kind.TheVariants.{Reg, Sram, Fifo, LineBuf, Dram, ArgIn, ArgOut}
use Rattle.sp_affine.specs.Affine.{Affine}
use Rattle.sp_core.specs.Declarations.{mem, kind_of}
use Rattle.sp_core.specs.OperationRules.{can}
use Rattle.sp_core.specs.PlainCore.{PlainOp, PlainSpan, single, range, no_mem, PlainCore}
use Rattle.sp_core.specs.Typed.{is_type}
use Rattle.sp_words.specs.Types.{int_type}
use Rattle.sp_words.specs.Words.{value_of}
use Rattle.sp_hold.specs.Values.{is_allowed, is_allowed_at}
use Rattle.sp_hold.proofs.FormValues.{sum_symbol_kept, difference_symbol_kept, multiple_symbol_kept}
use Rattle.sp_patterns.specs.declared.place.CounterPlace.{CounterPlace}
use Rattle.sp_patterns.specs.declared.shape.Shape.{Shape}
use Rattle.sp_patterns.specs.declared.shape.Shape.TheVariants.{Literal, Counter, Symbol, Opposite, Sum, Difference, Product, Other}
use Rattle.sp_patterns.specs.Forms.{shape_of, is_steady, fits, sum_form, difference_form, multiple_form, opposite_form, is_constant, product_form, of_both, operand, symbol_form, is_around, nearest_coefs, lane_step, read_form, is_masked_alike, form_by_shape, form_of, forms_after, forms_of}
use Rattle.sp_patterns.specs.Indices.{is_index, index_form, known_after, indices_at, access_forms, bound_form, first_form, slice_forms}
use Rattle.sp_patterns.specs.Ranges.{PlainAround, word_form}
use Rattle.sp_meets.specs.Sites.{unit, with_more, slice_indices, counter_indices}
use Rattle.sp_along.specs.AlongSymbols.{holds_symbol}
use Rattle.sp_touched.specs.Touched.{IsOfSymbol, AreSymbols}

module _ (core : PlainCore) where
  -- a form, if it is known, has such a symbol
  abbrev Has : Option Affine → Type 0
  Has r = IfSome r (IsOfSymbol core)

  abbrev HaveAll : List (Option Affine) → Type 0
  HaveAll rs = All Has rs

  abbrev IsSymbol : ℕ → Type 0
  IsSymbol m = holds_symbol (kind_of core m) ≡ true

  some_has : (r : Option Affine) → ((f : Affine) → r ≡ Some f → IsOfSymbol core f) → Has r
  some_has None h = tt
  some_has (Some f) h = h f refl

  by_test : (b : Bool) (f : Affine) → (b ≡ true → IsOfSymbol core f) → Has (if b then Some f else None)
  by_test true f h = h refl
  by_test false f h = tt

  steady_kind : (k : Kind) (ops : List PlainOp) (m : ℕ) → is_steady k ops m ≡ true → holds_symbol k ≡ true
  steady_kind Reg ops m h = refl
  steady_kind ArgIn ops m h = refl
  steady_kind Sram ops m h = absurd (false≢true h)
  steady_kind Fifo ops m h = absurd (false≢true h)
  steady_kind LineBuf ops m h = absurd (false≢true h)
  steady_kind Dram ops m h = absurd (false≢true h)
  steady_kind ArgOut ops m h = absurd (false≢true h)

  read_has : (ops : List PlainOp) (places : List CounterPlace) (op : PlainOp) (m : Option ℕ) → is_allowed_at core op.kind m ≡ true → Has (read_form core.mems ops places m)
  read_has ops places op None h = tt
  read_has ops places op (Some m) h =
      let there = (and_parts (nat_lt m (length core.mems)) (can op.kind (mem core m).kind (mem core m).start) h).0 in
      by_test (is_steady (slice_index_or core.mems m no_mem).kind ops m) (symbol_form places m) (λ e. ap (λ b. holds_symbol (if b then (mem core m).kind else Dram)) there ∙ steady_kind (mem core m).kind ops m e)

  multiple_has : (f : Affine) (z : ℤ) → IsOfSymbol core f → Has (multiple_form f z)
  multiple_has f z h = some_has (multiple_form f z) (λ g e. multiple_symbol_kept IsSymbol f z g e h)

  opposite_has : (r : Option Affine) → Has r → Has (option_and_then opposite_form r)
  opposite_has None h = tt
  opposite_has (Some f) h = multiple_has f _ h

  both_have : (make : Affine → Affine → Option Affine) → ((f g : Affine) → IsOfSymbol core f → IsOfSymbol core g → Has (make f g)) → (r q : Option Affine) → Has r → Has q → Has (of_both make r q)
  both_have make f None q h k = tt
  both_have make f (Some a) None h k = tt
  both_have make f (Some a) (Some b) h k = f a b h k

  product_has : (f g : Affine) → IsOfSymbol core f → IsOfSymbol core g → Has (product_form f g)
  product_has f g h k = go (is_constant f) (is_constant g)
    where
      go : (b c : Bool) → Has (if b then multiple_form g f.constant else (if c then multiple_form f g.constant else None))
      go true c = multiple_has g f.constant k
      go false true = multiple_has f g.constant h
      go false false = tt

  at_place : (forms : List (Option Affine)) (k : ℕ) → HaveAll forms → Has (slice_index_or forms k None)
  at_place [] k h = tt
  at_place (r ∷ forms) zero h = All-head Has r forms h
  at_place (r ∷ forms) (suc k) h = at_place forms k (All-tail Has r forms h)

  module _ (ops : List PlainOp) (mask : Option ℕ) (places : List CounterPlace) where
    shape_has : (s : Shape) (op : PlainOp) (m : Option ℕ) (args : List ℕ) (done : List (Option Affine)) → is_allowed_at core op.kind m ≡ true → HaveAll done → Has (form_by_shape core.mems ops mask places s m args done)
    shape_has (Literal w) op m args done a h = by_test (fits (value_of int_type w)) (record { coefs = replicate (length places) (pos 0); constant = value_of int_type w; symbol = None }) (λ e. tt)
    shape_has (Counter c lane) op m args done a h = by_test (is_around places c && fits (pos (lane * lane_step places c))) (record { coefs = nearest_coefs places c; constant = pos (lane * lane_step places c); symbol = None }) (λ e. tt)
    shape_has Symbol op m args done a h = read_has ops places op m a
    shape_has Opposite op m args done a h = opposite_has (operand done args 0) (at_place done _ h)
    shape_has Sum op m args done a h = both_have sum_form (λ f g x y. some_has (sum_form f g) (λ k e. sum_symbol_kept IsSymbol f g k e x y)) (operand done args 0) (operand done args 1) (at_place done _ h) (at_place done _ h)
    shape_has Difference op m args done a h = both_have difference_form (λ f g x y. some_has (difference_form f g) (λ k e. difference_symbol_kept IsSymbol f g k e x)) (operand done args 0) (operand done args 1) (at_place done _ h) (at_place done _ h)
    shape_has Product op m args done a h = both_have product_form product_has (operand done args 0) (operand done args 1) (at_place done _ h) (at_place done _ h)
    shape_has Other op m args done a h = tt

    form_has : (op : PlainOp) (done : List (Option Affine)) → is_allowed core op ≡ true → HaveAll done → Has (form_of core.mems ops mask places op done)
    form_has op done a h = go (is_type op.ty int_type && is_masked_alike op.mask mask)
      where
        go : (b : Bool) → Has (if b then form_by_shape core.mems ops mask places (shape_of op.kind) op.mem op.args done else None)
        go true = shape_has (shape_of op.kind) op op.mem op.args done (and_parts (is_allowed_at core op.kind op.mem) _ a).0 h
        go false = tt

    all_have : (done : List (Option Affine)) (later : List PlainOp) → list_all (is_allowed core) later ≡ true → HaveAll done → HaveAll (forms_after core.mems ops mask places done later)
    all_have done [] a h = h
    all_have done (op ∷ later) a h =
        let p = and_parts (is_allowed core op) (list_all (is_allowed core) later) a in
        all_have (done ++ form_of core.mems ops mask places op done ∷ []) later p.1 (All-append Has done (form_of core.mems ops mask places op done ∷ []) h (All-cons Has (form_of core.mems ops mask places op done) [] (form_has op done p.0 h) (All-nil Has)))

    forms_have : list_all (is_allowed core) ops ≡ true → HaveAll (forms_of core.mems ops mask places)
    forms_have a = all_have [] ops a (All-nil Has)

  index_has : (ranges : List (Option (ℤ × ℤ))) (r : Option Affine) → Has r → Has (index_form ranges r)
  index_has ranges None h = tt
  index_has ranges (Some f) h = by_test (is_index ranges f) f (λ e. h)

  -- of several forms, where all are known
  abbrev pub RowHas : Option (List Affine) → Type 0
  RowHas row = IfSome row (AreSymbols core)

  known_have : (done : List Affine) (rest : List (Option Affine)) → AreSymbols core done → HaveAll rest → RowHas (known_after done rest)
  known_have done [] h k = h
  known_have done (None ∷ rest) h k = tt
  known_have done (Some f ∷ rest) h k =
      known_have (done ++ f ∷ []) rest (All-append (IsOfSymbol core) done (f ∷ []) h (All-cons (IsOfSymbol core) f [] (All-head Has (Some f) rest k) (All-nil (IsOfSymbol core)))) (All-tail Has (Some f) rest k)

  map_have : {A : Type 0} (p : A → Bool) (make : A → Option Affine) → ((x : A) → p x ≡ true → Has (make x)) → (xs : List A) → list_all p xs ≡ true → HaveAll (map make xs)
  map_have p make f [] a = All-nil Has
  map_have p make f (x ∷ xs) a = let q = and_parts (p x) (list_all p xs) a in All-cons Has (make x) (map make xs) (f x q.0) (map_have p make f xs q.1)

  every : {A : Type 0} (xs : List A) → list_all (λ x. true) xs ≡ true
  every [] = refl
  every (x ∷ xs) = every xs

  module _ (around : PlainAround) where
    pub access_symbols : (ops : List PlainOp) (op : PlainOp) → list_all (is_allowed core) ops ≡ true → RowHas (access_forms core.mems around ops op)
    access_symbols ops op a =
        known_have [] _ (All-nil (IsOfSymbol core))
        (map_have (λ x. true) (λ a. index_form around.ranges (slice_index_or (forms_of core.mems ops op.mask around.places) a None))
        (λ x e. index_has around.ranges _ (at_place (forms_of core.mems ops op.mask around.places) x (forms_have ops op.mask around.places a))) (take (indices_at core.mems op.mem) op.args) (every (take (indices_at core.mems op.mem) op.args)))

    bound_has : (ops : List PlainOp) → list_all (is_allowed core) ops ≡ true → Has (bound_form core.mems around ops)
    bound_has ops a = index_has around.ranges (word_form core.mems around.places ops) (at_place (forms_of core.mems ops None around.places) _ (forms_have ops None around.places a))

    abbrev pub is_span_allowed : PlainSpan → Bool
    is_span_allowed (single ops) = list_all (is_allowed core) ops
    is_span_allowed (range a b) = list_all (is_allowed core) a

    first_has : (span : PlainSpan) → is_span_allowed span ≡ true → Has (first_form core.mems around span)
    first_has (single ops) a = bound_has ops a
    first_has (range x y) a = bound_has x a

    pub slice_symbols : (spans : List PlainSpan) → list_all is_span_allowed spans ≡ true → RowHas (slice_forms core.mems around spans)
    slice_symbols spans a = known_have [] _ (All-nil (IsOfSymbol core)) (map_have is_span_allowed (first_form core.mems around) first_has spans a)

  -- with counters of its own
  more_symbols : (n i : ℕ) (rs : List Bool) (fs : List Affine) → AreSymbols core fs → AreSymbols core (slice_indices n i rs fs)
  more_symbols n i [] fs h = All-nil (IsOfSymbol core)
  more_symbols n i (true ∷ rs) [] h = All-nil (IsOfSymbol core)
  more_symbols n i (false ∷ rs) [] h = All-nil (IsOfSymbol core)
  more_symbols n i (true ∷ rs) (f ∷ fs) h = All-cons (IsOfSymbol core) (with_more (unit n i) f) (slice_indices n (suc i) rs fs) (All-head (IsOfSymbol core) f fs h) (more_symbols n (suc i) rs fs (All-tail (IsOfSymbol core) f fs h))
  more_symbols n i (false ∷ rs) (f ∷ fs) h = All-cons (IsOfSymbol core) (with_more (replicate n (pos 0)) f) (slice_indices n i rs fs) (All-head (IsOfSymbol core) f fs h) (more_symbols n i rs fs (All-tail (IsOfSymbol core) f fs h))

  pub slice_row : (n : ℕ) (rs : List Bool) (row : Option (List Affine)) → RowHas row → RowHas (option_map (slice_indices n 0 rs) row)
  slice_row n rs None h = tt
  slice_row n rs (Some fs) h = more_symbols n 0 rs fs h

  pub counter_symbols : (size n last : ℕ) → AreSymbols core (counter_indices size n last)
  counter_symbols size n zero = All-nil (IsOfSymbol core)
  counter_symbols size n (suc last) = All-cons (IsOfSymbol core) _ (counter_indices size n last) tt (counter_symbols size n last)

  pub its_symbols : (row : Option (List Affine)) → RowHas row → (fs : List Affine) → row ≡ Some fs → AreSymbols core fs
  its_symbols row h fs e = subst RowHas e h
