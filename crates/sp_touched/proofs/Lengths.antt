-- Forms have a coefficient for each counter around.
use Rattle.std.proofs.Common.{◌≡◌, ℕ, zero, suc, ◌*◌, Bool, true, false, ◌&&◌, ℤ, pos, List, [], ◌∷◌, ◌++◌, length, replicate, map, take, Option, Some, None, refl, ap, if◌then◌else◌}
use Rattle.std.specs.Prelude.{All, IfSome, option_and_then, slice_index_or}
use Rattle.std.proofs.lemmas.List.Elements.{All-nil, All-cons, All-head, All-tail, All-append}
use Rattle.sp_affine.specs.Affine.{Affine}
use Rattle.sp_core.specs.PlainCore.{PlainOp, PlainSpan, single, range, PlainMem}
use Rattle.sp_core.specs.Typed.{is_type}
use Rattle.sp_words.specs.Types.{int_type}
use Rattle.sp_words.specs.Words.{value_of}
use Rattle.sp_patterns.specs.declared.place.CounterPlace.{CounterPlace}
use Rattle.sp_patterns.specs.declared.shape.Shape.{Shape}
use Rattle.sp_patterns.specs.declared.shape.Shape.TheVariants.{Literal, Counter, Symbol, Opposite, Sum, Difference, Product, Other}
use Rattle.sp_patterns.specs.Forms.{shape_of, fits, sum_form, difference_form, multiple_form, opposite_form, is_constant, product_form, of_both, operand, constant_form, symbol_form, is_around, nearest_coefs, lane_step, counter_form, read_form, is_masked_alike, form_by_shape, form_of, forms_after, forms_of, HaveCounters}
use Rattle.sp_patterns.specs.Indices.{is_index, index_form, known_after, indices_at, access_forms, bound_form, first_form, slice_forms}
use Rattle.sp_patterns.specs.Ranges.{PlainAround, word_form}
use Rattle.sp_deps.specs.Groups.{HaveLength}
use Rattle.sp_hold.proofs.FormValues.{sum_value, difference_value, multiple_value}

no_symbols : ℕ → ℤ
no_symbols n = pos 0

-- a form, if it is known, has so many coefficients
abbrev pub Has : ℕ → Option Affine → Type 0
Has n r = IfSome r (λ f. length f.coefs ≡ n)

some_has : (n : ℕ) (r : Option Affine) → ((f : Affine) → r ≡ Some f → length f.coefs ≡ n) → Has n r
some_has n None h = tt
some_has n (Some f) h = h f refl

length_replicate : {A : Type 0} (n : ℕ) (x : A) → length (replicate n x) ≡ n
length_replicate zero x = refl
length_replicate (suc n) x = ap suc (length_replicate n x)

length_nearest : (places : List CounterPlace) (c : ℕ) → length (nearest_coefs places c) ≡ length places
length_nearest [] c = refl
length_nearest (p ∷ places) c = ap suc (length_nearest places c)

by_test : (n : ℕ) (b : Bool) (f : Affine) → length f.coefs ≡ n → Has n (if b then Some f else None)
by_test n true f h = h
by_test n false f h = tt

constant_has : (places : List CounterPlace) (z : ℤ) → Has (length places) (constant_form places z)
constant_has places z = by_test (length places) (fits z) (record { coefs = replicate (length places) (pos 0); constant = z; symbol = None }) (length_replicate (length places) (pos 0))

counter_has : (places : List CounterPlace) (c lane : ℕ) → Has (length places) (counter_form places c lane)
counter_has places c lane =
    by_test (length places) (is_around places c && fits (pos (lane * lane_step places c))) (record { coefs = nearest_coefs places c; constant = pos (lane * lane_step places c); symbol = None }) (length_nearest places c)

read_has : (mems : List PlainMem) (ops : List PlainOp) (places : List CounterPlace) (m : Option ℕ) → Has (length places) (read_form mems ops places m)
read_has mems ops places None = tt
read_has mems ops places (Some m) = by_test (length places) _ (symbol_form places m) (length_replicate (length places) (pos 0))

-- forms of forms
multiple_has : (n : ℕ) (f : Affine) (z : ℤ) → length f.coefs ≡ n → Has n (multiple_form f z)
multiple_has n f z h = some_has n (multiple_form f z) (λ g e. (multiple_value n [] no_symbols f z g h e).counters)

opposite_has : (n : ℕ) (r : Option Affine) → Has n r → Has n (option_and_then opposite_form r)
opposite_has n None h = tt
opposite_has n (Some f) h = multiple_has n f _ h

both_have : (n : ℕ) (make : Affine → Affine → Option Affine) → ((f g : Affine) → length f.coefs ≡ n → length g.coefs ≡ n → Has n (make f g)) → (r q : Option Affine) → Has n r → Has n q → Has n (of_both make r q)
both_have n make f None q h k = tt
both_have n make f (Some a) None h k = tt
both_have n make f (Some a) (Some b) h k = f a b h k

product_has : (n : ℕ) (f g : Affine) → length f.coefs ≡ n → length g.coefs ≡ n → Has n (product_form f g)
product_has n f g h k = go (is_constant f) (is_constant g)
  where
    go : (b c : Bool) → Has n (if b then multiple_form g f.constant else (if c then multiple_form f g.constant else None))
    go true c = multiple_has n g f.constant k
    go false true = multiple_has n f g.constant h
    go false false = tt

at_place : (n : ℕ) (forms : List (Option Affine)) (k : ℕ) → HaveCounters n forms → Has n (slice_index_or forms k None)
at_place n [] k h = tt
at_place n (r ∷ forms) zero h = All-head (λ r. IfSome r (λ f. length f.coefs ≡ n)) r forms h
at_place n (r ∷ forms) (suc k) h = at_place n forms k (All-tail (λ r. IfSome r (λ f. length f.coefs ≡ n)) r forms h)

module _ (mems : List PlainMem) (ops : List PlainOp) (mask : Option ℕ) (places : List CounterPlace) where
  shape_has : (s : Shape) (m : Option ℕ) (args : List ℕ) (done : List (Option Affine)) → HaveCounters (length places) done → Has (length places) (form_by_shape mems ops mask places s m args done)
  shape_has (Literal w) m args done h = constant_has places (value_of int_type w)
  shape_has (Counter c lane) m args done h = counter_has places c lane
  shape_has Symbol m args done h = read_has mems ops places m
  shape_has Opposite m args done h = opposite_has (length places) (operand done args 0) (at_place (length places) done _ h)
  shape_has Sum m args done h = both_have (length places) sum_form (λ f g a b. some_has (length places) (sum_form f g) (λ k e. (sum_value (length places) [] no_symbols f g k a b e).counters)) (operand done args 0) (operand done args 1) (at_place (length places) done _ h) (at_place (length places) done _ h)
  shape_has Difference m args done h = both_have (length places) difference_form (λ f g a b. some_has (length places) (difference_form f g) (λ k e. (difference_value (length places) [] no_symbols f g k a b e).counters)) (operand done args 0) (operand done args 1) (at_place (length places) done _ h) (at_place (length places) done _ h)
  shape_has Product m args done h = both_have (length places) product_form (product_has (length places)) (operand done args 0) (operand done args 1) (at_place (length places) done _ h) (at_place (length places) done _ h)
  shape_has Other m args done h = tt

  form_has : (op : PlainOp) (done : List (Option Affine)) → HaveCounters (length places) done → Has (length places) (form_of mems ops mask places op done)
  form_has op done h = go (is_type op.ty int_type && is_masked_alike op.mask mask)
    where
      go : (b : Bool) → Has (length places) (if b then form_by_shape mems ops mask places (shape_of op.kind) op.mem op.args done else None)
      go true = shape_has (shape_of op.kind) op.mem op.args done h
      go false = tt

  all_have : (done : List (Option Affine)) (later : List PlainOp) → HaveCounters (length places) done → HaveCounters (length places) (forms_after mems ops mask places done later)
  all_have done [] h = h
  all_have done (op ∷ later) h =
      let H = λ (r : Option Affine). IfSome r (λ f. length f.coefs ≡ length places) in
      all_have (done ++ form_of mems ops mask places op done ∷ []) later (All-append H done (form_of mems ops mask places op done ∷ []) h (All-cons H (form_of mems ops mask places op done) [] (form_has op done h) (All-nil H)))

  pub forms_have : HaveCounters (length places) (forms_of mems ops mask places)
  forms_have = all_have [] ops (All-nil (λ r. IfSome r (λ f. length f.coefs ≡ length places)))

index_has : (n : ℕ) (ranges : List (Option (ℤ × ℤ))) (r : Option Affine) → Has n r → Has n (index_form ranges r)
index_has n ranges None h = tt
index_has n ranges (Some f) h = by_test n (is_index ranges f) f h

-- of several forms, where all are known
abbrev AllHave : ℕ → List Affine → Type 0
AllHave n fs = All (λ f. length f.coefs ≡ n) fs

known_have : (n : ℕ) (done : List Affine) (rest : List (Option Affine)) → AllHave n done → HaveCounters n rest → HaveLength n (known_after done rest)
known_have n done [] h k = h
known_have n done (None ∷ rest) h k = tt
known_have n done (Some f ∷ rest) h k =
    let L = λ (f : Affine). length f.coefs ≡ n in
    let H = λ (r : Option Affine). IfSome r (λ f. length f.coefs ≡ n) in
    known_have n (done ++ f ∷ []) rest (All-append L done (f ∷ []) h (All-cons L f [] (All-head H (Some f) rest k) (All-nil L))) (All-tail H (Some f) rest k)

map_have : {A : Type 0} (n : ℕ) (make : A → Option Affine) → ((x : A) → Has n (make x)) → (xs : List A) → HaveCounters n (map make xs)
map_have n make f [] = All-nil (λ r. IfSome r (λ f. length f.coefs ≡ n))
map_have n make f (x ∷ xs) = All-cons (λ r. IfSome r (λ f. length f.coefs ≡ n)) (make x) (map make xs) (f x) (map_have n make f xs)

module _ (mems : List PlainMem) (around : PlainAround) where
  pub access_have : (ops : List PlainOp) (op : PlainOp) → HaveLength (length around.places) (access_forms mems around ops op)
  access_have ops op =
      known_have (length around.places) [] _ (All-nil _)
      (map_have (length around.places) (λ a. index_form around.ranges (slice_index_or (forms_of mems ops op.mask around.places) a None)) (λ a. index_has (length around.places) around.ranges _ (at_place (length around.places) (forms_of mems ops op.mask around.places) a (forms_have mems ops op.mask around.places))) (take (indices_at mems op.mem) op.args))

  bound_has : (ops : List PlainOp) → Has (length around.places) (bound_form mems around ops)
  bound_has ops = index_has (length around.places) around.ranges (word_form mems around.places ops) (at_place (length around.places) (forms_of mems ops None around.places) _ (forms_have mems ops None around.places))

  first_has : (span : PlainSpan) → Has (length around.places) (first_form mems around span)
  first_has (single ops) = bound_has ops
  first_has (range a b) = bound_has a

  pub slice_have : (spans : List PlainSpan) → HaveLength (length around.places) (slice_forms mems around spans)
  slice_have spans = known_have (length around.places) [] _ (All-nil _) (map_have (length around.places) (first_form mems around) first_has spans)
