-- The form of an operation: an affine form over the counters around it, which stand outermost first, with at most one symbol,
-- a memory that gives one word as long as its list of operations runs.
use Rattle.std.specs.Prelude.{ℕ, ◌*◌, ◌^◌, ◌==◌, nat_lt, Bool, true, false, ◌&&◌, not, if◌then◌else◌, ℤ, pos, negsuc, ◌+ℤ◌, ◌-ℤ◌, ◌*ℤ◌, List, [], ◌∷◌, ◌++◌, length, replicate, Option, Some, None, is_none, option_and_then, slice_index_or, All, IfSome, ◌≡◌}
use Rattle.std.specs.List.{list_all, list_any}
use Rattle.std.specs.Ordering.{int_eq}
use Rattle.sp_words.specs.declared.kind.BinOp.{BinOp}
use Rattle.sp_words.specs.declared.kind.BinOp.TheVariants.{Add, Sub, Mul}
use Rattle.sp_words.specs.declared.kind.Kind.{Kind}
use Rattle.sp_words.specs.declared.kind.Kind.TheVariants.{Reg, ArgIn}
use Rattle.sp_words.specs.declared.kind.UnOp.{UnOp}
use Rattle.sp_words.specs.declared.kind.UnOp.TheVariants.{Neg}
use Rattle.sp_words.specs.Types.{int_type}
use Rattle.sp_words.specs.Words.{value_of}
use Rattle.sp_affine.specs.Affine.{Affine}
use Rattle.sp_affine.specs.Combination.{sums, differences, multiples}
use Rattle.sp_core.specs.declared.operation.OpKind.{OpKind}
use Rattle.sp_core.specs.declared.operation.OpKind.TheVariants.{Word, Count, Read, Write, Reset, One, Two}
use Rattle.sp_core.specs.PlainCore.{PlainOp, PlainMem, no_mem}
use Rattle.sp_core.specs.Typed.{is_type}
use Rattle.sp_patterns.specs.declared.place.CounterPlace.{CounterPlace}
use Rattle.sp_patterns.specs.declared.shape.Shape.{Shape}
use Rattle.sp_patterns.specs.declared.shape.Shape.TheVariants.{Literal, Counter, Symbol, Opposite, Sum, Difference, Product, Other}

-- the operations that have forms
abbrev pub two_shape : BinOp → Shape
two_shape Add = Sum
two_shape Sub = Difference
two_shape Mul = Product
two_shape _ = Other

abbrev pub one_shape : UnOp → Shape
one_shape Neg = Opposite
one_shape _ = Other

abbrev pub shape_of : OpKind → Shape
shape_of (Word w) = Literal w
shape_of (Count c lane) = Counter c lane
shape_of Read = Symbol
shape_of (One op) = one_shape op
shape_of (Two op) = two_shape op
shape_of _ = Other

-- whether a memory gives one word as long as a list runs: an argument, and a register that the list doesn't write
abbrev pub is_change : OpKind → Bool
is_change Write = true
is_change Reset = true
is_change _ = false

abbrev pub is_memory : Option ℕ → ℕ → Bool
is_memory None m = false
is_memory (Some n) m = n == m

abbrev pub changes : ℕ → PlainOp → Bool
changes m op = is_change op.kind && is_memory op.mem m

abbrev pub is_steady : Kind → List PlainOp → ℕ → Bool
is_steady ArgIn ops m = true
is_steady Reg ops m = not (list_any (changes m) ops)
is_steady _ ops m = false

-- whether a number fits 64 bits with its sign
unfoldable pub fits : ℤ → Bool
fits (pos n) = nat_lt n (2 ^ 63)
fits (negsuc n) = nat_lt n (2 ^ 63)

-- the form of these numbers, where all of them fit, over what is left of its parts' symbols, where that is one at most
abbrev pub held : (coefs : List ℤ) → (constant : ℤ) → Option (Option ℕ) → Option Affine
held coefs z None = None
held coefs z (Some symbol) = if list_all fits coefs && fits z then Some (record { coefs = coefs; constant = z; symbol = symbol }) else None

-- a symbol that is left has the factor 1
abbrev pub sum_symbol : Option ℕ → Option ℕ → Option (Option ℕ)
sum_symbol None s = Some s
sum_symbol (Some m) None = Some (Some m)
sum_symbol (Some m) (Some n) = None

abbrev pub difference_symbol : Option ℕ → Option ℕ → Option (Option ℕ)
difference_symbol s None = Some s
difference_symbol None (Some n) = None
difference_symbol (Some m) (Some n) = if m == n then Some None else None

abbrev pub multiple_symbol : Option ℕ → ℤ → Option (Option ℕ)
multiple_symbol None z = Some None
multiple_symbol (Some m) z =
    if int_eq z (pos 0) then Some None
    else if int_eq z (pos 1) then Some (Some m)
    else None

abbrev pub sum_form : Affine → Affine → Option Affine
sum_form f g = held (sums f.coefs g.coefs) (f.constant +ℤ g.constant) (sum_symbol f.symbol g.symbol)

abbrev pub difference_form : Affine → Affine → Option Affine
difference_form f g = held (differences f.coefs g.coefs) (f.constant -ℤ g.constant) (difference_symbol f.symbol g.symbol)

abbrev pub multiple_form : Affine → ℤ → Option Affine
multiple_form f z = held (multiples f.coefs z) (f.constant *ℤ z) (multiple_symbol f.symbol z)

abbrev pub opposite_form : Affine → Option Affine
opposite_form f = multiple_form f (negsuc 0)

-- only a form without counters and symbols may be a factor
abbrev pub is_constant : Affine → Bool
is_constant f = list_all (int_eq (pos 0)) f.coefs && is_none f.symbol

abbrev pub product_form : Affine → Affine → Option Affine
product_form f g =
    if is_constant f then multiple_form g f.constant
    else if is_constant g then multiple_form f g.constant
    else None

-- of two that have forms
abbrev pub of_both : (Affine → Affine → Option Affine) → Option Affine → Option Affine → Option Affine
of_both make (Some f) (Some g) = make f g
of_both make _ _ = None

-- the form of an operand, by those of the operations before
abbrev pub operand : List (Option Affine) → List ℕ → ℕ → Option Affine
operand done args k = slice_index_or done (slice_index_or args k (length done)) None

module _ (places : List CounterPlace) where
  abbrev pub no_counters : List ℤ
  no_counters = replicate (length places) (pos 0)

  abbrev pub constant_form : ℤ → Option Affine
  constant_form z = if fits z then Some (record { coefs = no_counters; constant = z; symbol = None }) else None

  abbrev pub symbol_form : ℕ → Affine
  symbol_form m = record { coefs = no_counters; constant = pos 0; symbol = Some m }

abbrev pub is_around : List CounterPlace → ℕ → Bool
is_around places c = list_any (λ (p : CounterPlace). p.id == c) places

-- of several counters of one number the nearest one counts
abbrev pub nearest_coefs : List CounterPlace → ℕ → List ℤ
nearest_coefs [] c = []
nearest_coefs (p ∷ places) c = (if (p.id == c) && not (is_around places c) then pos 1 else pos 0) ∷ nearest_coefs places c

-- how much more it is from one lane to the next
abbrev pub lane_step : List CounterPlace → ℕ → ℕ
lane_step [] c = 0
lane_step (p ∷ places) c = if (p.id == c) && not (is_around places c) then p.lane_step else lane_step places c

-- a counter in a lane is itself and so many steps more
abbrev pub counter_form : List CounterPlace → (c lane : ℕ) → Option Affine
counter_form places c lane =
    if is_around places c && fits (pos (lane * lane_step places c))
    then Some (record { coefs = nearest_coefs places c; constant = pos (lane * lane_step places c); symbol = None })
    else None

-- a word that is read from a memory
abbrev pub read_form : List PlainMem → List PlainOp → List CounterPlace → Option ℕ → Option Affine
read_form mems ops places None = None
read_form mems ops places (Some m) = if is_steady (slice_index_or mems m no_mem).kind ops m then Some (symbol_form places m) else None

-- an operation under a mask gives 0 where the mask is 0, so it has a form only for an access under that mask
abbrev pub is_masked_alike : Option ℕ → Option ℕ → Bool
is_masked_alike None n = true
is_masked_alike (Some m) None = false
is_masked_alike (Some m) (Some n) = m == n

module _ (mems : List PlainMem) (ops : List PlainOp) (mask : Option ℕ) (places : List CounterPlace) where
  abbrev pub form_by_shape : Shape → (mem : Option ℕ) → (args : List ℕ) → (done : List (Option Affine)) → Option Affine
  form_by_shape (Literal w) m args done = constant_form places (value_of int_type w)
  form_by_shape (Counter c lane) m args done = counter_form places c lane
  form_by_shape Symbol m args done = read_form mems ops places m
  form_by_shape Opposite m args done = option_and_then opposite_form (operand done args 0)
  form_by_shape Sum m args done = of_both sum_form (operand done args 0) (operand done args 1)
  form_by_shape Difference m args done = of_both difference_form (operand done args 0) (operand done args 1)
  form_by_shape Product m args done = of_both product_form (operand done args 0) (operand done args 1)
  form_by_shape Other m args done = None

  abbrev pub form_of : PlainOp → (done : List (Option Affine)) → Option Affine
  form_of op done = if is_type op.ty int_type && is_masked_alike op.mask mask then form_by_shape (shape_of op.kind) op.mem op.args done else None

  -- the forms of a list of operations, each by those before it
  abbrev pub forms_after : (done : List (Option Affine)) → List PlainOp → List (Option Affine)
  forms_after done [] = done
  forms_after done (op ∷ later) = forms_after (done ++ form_of op done ∷ []) later

  abbrev pub forms_of : List (Option Affine)
  forms_of = forms_after [] ops

-- each form has a coefficient for each of so many counters
abbrev pub HaveCounters : ℕ → List (Option Affine) → Type 0
HaveCounters n forms = All (λ r. IfSome r (λ f. length f.coefs ≡ n)) forms
