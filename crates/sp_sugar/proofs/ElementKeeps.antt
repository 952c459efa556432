-- The combination of the elements of two memories keeps the rules.
use Rattle.std.proofs.Common.{◌≡◌, ℕ, zero, suc, ◌+◌, ◌^◌, ◌<◌, ◌≤◌, Bool, true, false, List, [], ◌∷◌, ◌++◌, Some, None, refl, sym, ◌∙◌, ap, subst, arith, length-append, append_assoc, ◌==◌, nat_lt}
use Rattle.std.proofs.lemmas.Bool.{and_from, lt-ltb, le-leb, eqb-true, eqb-false, eq-eqb}
use Rattle.std.specs.List.{list_all}
use Rattle.std.specs.Prelude.{length, map, replicate, Contains, All}
use Rattle.sp_words.specs.declared.kind.BinOp.TheVariants as binary
use Rattle.sp_words.specs.declared.kind.Kind.TheVariants.{Sram}
use Rattle.sp_words.specs.declared.types.Ty.{Ty}
use Rattle.sp_words.specs.declared.types.Ty.TheVariants.{Bit}
use Rattle.sp_words.specs.Interface.{IsCount}
use Rattle.sp_words.specs.Types.{int_type}
use Rattle.sp_tree.specs.declared.statement.Comb.{Comb}
use Rattle.sp_tree.specs.Expressions as expressions
use Rattle.sp_tree.specs.PlainExpression.{PlainExpr, expr, get_sram, two, type_of}
use Rattle.sp_tree.specs.PlainProgram.{PlainMem, PlainProgram}
use Rattle.sp_tree.specs.Typing.{Scope, Typed, IndicesTyped, expr_count}
use Rattle.sp_core.specs.declared.operation.OpKind.{OpKind}
use Rattle.sp_core.specs.declared.operation.OpKind.TheVariants as kind
use Rattle.sp_core.specs.Around.{Near, Around, lanes_of, within, has_lane, is_usable}
use Rattle.sp_core.specs.Declarations.{mem}
use Rattle.sp_core.specs.OperationRules.{are_operations_right_after, names_rightly, is_bound, is_counter_right}
use Rattle.sp_core.specs.NodeRules.{is_node_right}
use Rattle.sp_core.specs.PlainCore.{PlainOp, PlainCore, PlainCounter}
use Rattle.sp_core.specs.Typed.{Given, gives, index_count}
use Rattle.sp_sugar.specs.Agreement.{HasMemories}
use Rattle.sp_sugar.specs.Combination.{operator_of, element_counters, element_indices, is_last_at, conjunction, is_last_element, element_value, element_ops, element_loop}
use Rattle.sp_sugar.specs.Numbers.{mem_number, numbers_from}
use Rattle.sp_sugar.specs.Operations.{Code, Codes, computes, read_op, write_op, literal_op, under, code, code_of, codes}
use Rattle.sp_sugar.specs.Rules.{given_by, IsRegister, IsElements, MayUse, Keep}
use Rattle.sp_sugar.specs.Values.{no_sources}
use Rattle.sp_sugar.proofs.CombKeeps.{comb_type, read_named, write_named, read_takes, write_takes, first_given}
use Rattle.sp_sugar.proofs.KeepLemmas.{type_is, gives_still, give_both, given_append, given_length, keep_others, keep_silent, keep_one, masked_silent, masked_one}
use Rattle.sp_sugar.proofs.Keeps.{access_named, keeps, rows_keep}
use Rattle.sp_sugar.proofs.NumberLemmas.{either}

-- the counters of a controller are around inside of it
near_lane : (L : ℕ) → 1 ≤ L → (loops : List PlainCounter) (rest : List Near) (k : ℕ) → has_lane rest k 0 ≡ true → has_lane (map (λ (c : PlainCounter). record { number = c.number; lanes = L }) loops ++ rest) k 0 ≡ true
near_lane L le [] rest k e = e
near_lane L le (c ∷ loops) rest k e = choose (c.number == k) (near_lane L le loops rest k e)
  where
    choose : (b : Bool) → has_lane (map (λ (c : PlainCounter). record { number = c.number; lanes = L }) loops ++ rest) k 0 ≡ true → (elim b as (λ _. Bool) [ true ↦ nat_lt 0 L | false ↦ has_lane (map (λ (c : PlainCounter). record { number = c.number; lanes = L }) loops ++ rest) k 0 ]) ≡ true
    choose true f = lt-ltb 0 L (omega arith)
    choose false f = f

own_lane : (L : ℕ) → 1 ≤ L → (loops : List PlainCounter) (rest : List Near) (k : ℕ) → Contains (map (λ (c : PlainCounter). c.number) loops) k → has_lane (map (λ (c : PlainCounter). record { number = c.number; lanes = L }) loops ++ rest) k 0 ≡ true
own_lane L le [] rest k c = absurd (omega (arith, c.1))
own_lane L le (x ∷ loops) rest k (zero, lt, e) = ap (λ b. elim b as (λ _. Bool) [ true ↦ nat_lt 0 L | false ↦ has_lane (map (λ (c : PlainCounter). record { number = c.number; lanes = L }) loops ++ rest) k 0 ]) (eq-eqb x.number k e) ∙ lt-ltb 0 L (omega arith)
own_lane L le (x ∷ loops) rest k (suc j, lt, e) = choose (x.number == k) (own_lane L le loops rest k (j, omega arith, e))
  where
    choose : (b : Bool) → has_lane (map (λ (c : PlainCounter). record { number = c.number; lanes = L }) loops ++ rest) k 0 ≡ true → (elim b as (λ _. Bool) [ true ↦ nat_lt 0 L | false ↦ has_lane (map (λ (c : PlainCounter). record { number = c.number; lanes = L }) loops ++ rest) k 0 ]) ≡ true
    choose true f = lt-ltb 0 L (omega arith)
    choose false f = f

pub outer_lane : (around : Around) (loops : List PlainCounter) (owned : List ℕ) (k : ℕ) → 1 ≤ lanes_of loops → has_lane around.counters k 0 ≡ true → has_lane (within around loops owned).counters k 0 ≡ true
outer_lane around loops owned k le e = near_lane (lanes_of loops) le loops around.counters k e

pub loop_lane : (around : Around) (loops : List PlainCounter) (owned : List ℕ) (k : ℕ) → 1 ≤ lanes_of loops → Contains (map (λ (c : PlainCounter). c.number) loops) k → has_lane (within around loops owned).counters k 0 ≡ true
loop_lane around loops owned k le c = own_lane (lanes_of loops) le loops around.counters k c

elements_lanes : (c : ℕ) (ds : List ℕ) → lanes_of (element_counters c ds) ≡ 1
elements_lanes c [] = refl
elements_lanes c (d ∷ []) = refl
elements_lanes c (d ∷ e ∷ ds) = elements_lanes (suc c) (e ∷ ds)

elements_numbers : (c : ℕ) (ds : List ℕ) → map (λ (x : PlainCounter). x.number) (element_counters c ds) ≡ numbers_from c (length ds)
elements_numbers c [] = refl
elements_numbers c (d ∷ ds) = ap (λ l. c ∷ l) (elements_numbers (suc c) ds)

elements_length : (c : ℕ) (ds : List ℕ) → length (element_counters c ds) ≡ length ds
elements_length c [] = refl
elements_length c (d ∷ ds) = ap suc (elements_length (suc c) ds)

pub indices_count : (c : ℕ) (ds : List ℕ) → expr_count (element_indices c ds) ≡ length ds
indices_count c [] = refl
indices_count c (d ∷ ds) = ap (λ n. 1 + n) (indices_count (suc c) ds) ∙ omega arith

literal_bound : (core : PlainCore) (around : Around) (d : ℕ) → d < 2 ^ 32 → is_bound core around (literal_op int_type d ∷ []) ≡ true
literal_bound core around d lt = and_from _ _ (and_from _ _ (and_from _ _ (and_from _ _ (and_from _ _ (lt-ltb d (2 ^ 32) lt) refl) refl) refl) (type_is int_type)) refl

counters_are : (core : PlainCore) (around : Around) (c : ℕ) (ds : List ℕ) → All IsCount ds → list_all (is_counter_right core around) (element_counters c ds) ≡ true
counters_are core around c [] h = refl
counters_are core around c (d ∷ ds) h = and_from _ _ (and_from _ _ (and_from _ _ (literal_bound core around 0 (omega arith)) (literal_bound core around d (omega (arith, (h 0 0 (omega arith)).1)))) refl)
    (counters_are core around (suc c) ds (λ k e lt. h (suc k) e (omega arith)))

module _ (mems : List PlainMem) where
  indices_length : (c : ℕ) (ds : List ℕ) (at : ℕ) → length (codes mems no_sources at (element_indices c ds)).ops ≡ length ds
  unfolding code code_of codes
  indices_length c [] at = refl
  indices_length c (d ∷ ds) at = ap suc (indices_length (suc c) ds (at + 1))

-- the scope of a combination: the part, and a counter for each dimension
abbrev element_scope : (part c count : ℕ) → Scope
element_scope part c count = record { mems = part ∷ []; vals = []; counters = numbers_from c count }

pub numbers_have : (first count k : ℕ) → first ≤ k → k < first + count → Contains (numbers_from first count) k
numbers_have first zero k le lt = absurd (omega arith)
numbers_have first (suc count) k le lt = either (first == k)
    (λ e. (0, omega arith, eqb-true first k e))
    (λ e. let f = numbers_have (suc first) count k (above first k le (eqb-false first k e)) (omega arith) in (suc f.0, omega (arith, f.1), f.2))
  where
    above : (n k : ℕ) → n ≤ k → (n ≡ k → ⊥) → suc n ≤ k
    above n k le ne = omega (arith, ne)

module _ (p : PlainProgram) (scope : Scope) where
  pub indices_typed : (c : ℕ) (ds : List ℕ) → ((k : ℕ) → c ≤ k → k < c + length ds → Contains scope.counters k) → IndicesTyped p scope (element_indices c ds)
  indices_typed c [] f = tt
  indices_typed c (d ∷ ds) f = ((f c (omega arith) (omega arith), refl), refl, indices_typed (suc c) ds (λ k le lt. f k (omega arith) (omega arith)))

  last_at_typed : (c d : ℕ) → Contains scope.counters c → d < 2 ^ 32 → Typed p scope (is_last_at c d)
  last_at_typed c d k lt = ((k, refl), omega arith, refl, refl)

  conjunction_typed : (test : PlainExpr) (c : ℕ) (ds : List ℕ) → Typed p scope test → type_of test ≡ Bit → ((k : ℕ) → c ≤ k → k < c + length ds → Contains scope.counters k) → All IsCount ds → Typed p scope (conjunction test c ds) × (type_of (conjunction test c ds) ≡ Bit)
  conjunction_typed test c [] t b f h = (t, b)
  conjunction_typed test c (d ∷ ds) t b f h =
      conjunction_typed (expr 0 Bit (two binary.And test (is_last_at c d))) (suc c) ds (t, last_at_typed c d (f c (omega arith) (omega arith)) (omega (arith, (h 0 0 (omega arith)).1)), b, b) refl (λ k le lt. f k (omega arith) (omega arith)) (λ k e lt. h (suc k) e (omega arith))

  pub last_typed : (c : ℕ) (ds : List ℕ) → ((k : ℕ) → c ≤ k → k < c + length ds → Contains scope.counters k) → All IsCount ds → Typed p scope (is_last_element c ds) × (type_of (is_last_element c ds) ≡ Bit)
  last_typed c [] f h = (omega arith, refl)
  last_typed c (d ∷ ds) f h = conjunction_typed (is_last_at c d) (suc c) ds (last_at_typed c d (f c (omega arith) (omega arith)) (omega (arith, (h 0 0 (omega arith)).1))) refl (λ k le lt. f k (omega arith) (omega arith)) (λ k e lt. h (suc k) e (omega arith))

-- the same operations, one after the other
push : (v r m : List PlainOp) {l : List PlainOp} → l ≡ v ++ r → l ++ m ≡ v ++ (r ++ m)
push v r m e = ap (λ x. x ++ m) e ∙ append_assoc v r m

same_list : (v is again last : List PlainOp) (a b c d e f g : PlainOp) → (((((((((v ++ a ∷ []) ++ is) ++ b ∷ []) ++ c ∷ []) ++ d ∷ []) ++ again) ++ e ∷ []) ++ last) ++ f ∷ []) ++ g ∷ [] ≡ v ++ (((a ∷ is) ++ (b ∷ c ∷ d ∷ again) ++ (e ∷ last)) ++ (f ∷ g ∷ []))
same_list v is again last a b c d e f g =
    push (((v ++ a ∷ is) ++ (b ∷ c ∷ d ∷ again)) ++ e ∷ last) (f ∷ []) (g ∷ []) (ap (λ l. l ++ f ∷ [])
    (push ((v ++ a ∷ is) ++ (b ∷ c ∷ d ∷ again)) (e ∷ []) last (ap (λ l. l ++ e ∷ [])
    (push (v ++ a ∷ is) (b ∷ c ∷ d ∷ []) again (push (v ++ a ∷ is) (b ∷ c ∷ []) (d ∷ []) (push (v ++ a ∷ is) (b ∷ []) (c ∷ []) (ap (λ l. l ++ b ∷ []) (append_assoc v (a ∷ []) is))))))))
    ∙ ap (λ l. (l ++ e ∷ last) ++ (f ∷ g ∷ [])) (append_assoc v (a ∷ is) (b ∷ c ∷ d ∷ again))
    ∙ ap (λ l. l ++ (f ∷ g ∷ [])) (append_assoc v ((a ∷ is) ++ (b ∷ c ∷ d ∷ again)) (e ∷ last))
    ∙ append_assoc v (((a ∷ is) ++ (b ∷ c ∷ d ∷ again)) ++ (e ∷ last)) (f ∷ g ∷ [])

module _ (p : PlainProgram) (core : PlainCore) (h : HasMemories p core) (around : Around) (c part acc begun : ℕ) (comb : Comb) (lt : part < length p.mems) (is : (expressions.mem p.mems part).kind ≡ Sram)
    (usable : is_usable core around (mem_number p.mems part) ≡ true) (a : IsElements core around acc (expressions.mem p.mems part).ty (length (expressions.dims p.mems part)))
    (b : IsRegister core around begun Bit) (counts : All IsCount (expressions.dims p.mems part)) (few : length (expressions.dims p.mems part) ≤ 3) (near : length around.counters + 3 ≤ 1000) where
  abbrev ds : List ℕ
  ds = expressions.dims p.mems part

  abbrev ty : Ty
  ty = (expressions.mem p.mems part).ty

  abbrev rank : ℕ
  rank = length ds

  abbrev loops : List PlainCounter
  loops = element_counters c ds

  abbrev inside_loop : Around
  inside_loop = within around loops []

  abbrev scope : Scope
  scope = element_scope part c rank

  lane_there : (k : ℕ) → Contains scope.counters k → has_lane inside_loop.counters k 0 ≡ true
  lane_there k v = loop_lane around loops [] k (omega (arith, elements_lanes c ds)) (subst (λ l. Contains l k) (sym (elements_numbers c ds)) v)

  part_there : (m : ℕ) → Contains (part ∷ []) m → (m < length p.mems) × (is_usable core inside_loop (mem_number p.mems m) ≡ true)
  part_there m (zero, l, e) = subst (λ x. (x < length p.mems) × (is_usable core inside_loop (mem_number p.mems x) ≡ true)) e (lt, usable)
  part_there m (suc j, l, e) = absurd (omega arith)

  may_use : (earlier : Given) → MayUse core inside_loop p scope no_sources earlier
  may_use earlier = record { mems = λ m v off. part_there m v; vals = λ v x. absurd (omega (arith, x.1)); counters = lane_there }

  in_range : (k : ℕ) → c ≤ k → k < c + length ds → Contains scope.counters k
  in_range k le l = numbers_have c rank k le l

  indices_are : IndicesTyped p scope (element_indices c ds)
  indices_are = indices_typed p scope c ds in_range

  value_typed : Typed p scope (expr 0 ty (get_sram part (element_indices c ds)))
  value_typed = (record { seen = (0, omega arith, refl); is_kind = is; is_type = refl }, indices_count c ds, indices_are)

  elements_access : (k : OpKind) → names_rightly core inside_loop k ty (Some acc) ≡ true → names_rightly core inside_loop k ty (Some acc) ≡ true
  elements_access k e = e

  acc_count : index_count (mem core acc) ≡ rank
  acc_count = ap (λ y. index_count (record (mem core acc) { kind = y })) a.is_kind ∙ a.has_rank

  indices_of_rank : replicate (expr_count (element_indices c ds)) int_type ≡ replicate rank int_type
  indices_of_rank = ap (λ n. replicate n int_type) (indices_count c ds)

  abbrev value : Code
  value = element_value p.mems c ds part ty

  abbrev at : ℕ
  at = length value.ops

  abbrev read : ℕ
  read = at + 1 + rank

  abbrev is_codes : Codes
  is_codes = codes p.mems no_sources (at + 1) (element_indices c ds)

  abbrev again : Codes
  again = codes p.mems no_sources (read + 3) (element_indices c ds)

  abbrev last : Code
  last = code p.mems no_sources (read + 4 + rank) (is_last_element c ds)

  abbrev o1 : PlainOp
  o1 = read_op Bit begun []

  abbrev o2 : PlainOp
  o2 = under at (read_op ty acc is_codes.words)

  abbrev o3 : PlainOp
  o3 = computes (kind.Two (operator_of comb)) ty (read ∷ value.word ∷ [])

  abbrev o4 : PlainOp
  o4 = computes kind.Mux ty (at ∷ (read + 1) ∷ value.word ∷ [])

  abbrev o5 : PlainOp
  o5 = write_op ty acc (again.words ++ (read + 2) ∷ [])

  abbrev o6 : PlainOp
  o6 = literal_op Bit 1

  abbrev o7 : PlainOp
  o7 = under last.word (write_op Bit begun ((read + 4 + rank + length last.ops) ∷ []))

  abbrev So : List PlainOp → List ℕ → List Ty → Type 0
  So ops ks ts = Keep core inside_loop [] ops ks ts

  quiet : (ops : List PlainOp) (ks : List ℕ) (ts : List Ty) → So ops ks ts → So ops [] []
  quiet ops ks ts k = record { right = k.right; give = refl }

  -- a word that stands in a list still stands in a longer one
  stands : (ops more : List PlainOp) (k : ℕ) (t : Ty) → gives (given_by ops) k t ≡ true → gives (given_by (ops ++ more)) k t ≡ true
  stands ops more k t e = subst (λ g. gives g k t ≡ true) (sym (given_append ops more)) (gives_still (given_by ops) (given_by more) k t e)

  abbrev l1 : List PlainOp
  l1 = value.ops ++ o1 ∷ []

  abbrev l2 : List PlainOp
  l2 = l1 ++ is_codes.ops

  abbrev l3 : List PlainOp
  l3 = l2 ++ o2 ∷ []

  abbrev l4 : List PlainOp
  l4 = l3 ++ o3 ∷ []

  abbrev l5 : List PlainOp
  l5 = l4 ++ o4 ∷ []

  abbrev l6 : List PlainOp
  l6 = l5 ++ again.ops

  abbrev l7 : List PlainOp
  l7 = l6 ++ o5 ∷ []

  abbrev l8 : List PlainOp
  l8 = l7 ++ last.ops

  abbrev l9 : List PlainOp
  l9 = l8 ++ o6 ∷ []

  n1 : length l1 ≡ at + 1
  n1 = length-append value.ops (o1 ∷ [])

  n2 : length l2 ≡ read
  n2 = length-append l1 is_codes.ops ∙ omega (arith, n1, indices_length p.mems c ds (at + 1))

  n3 : length l3 ≡ read + 1
  n3 = length-append l2 (o2 ∷ []) ∙ omega (arith, n2)

  n4 : length l4 ≡ read + 2
  n4 = length-append l3 (o3 ∷ []) ∙ omega (arith, n3)

  n5 : length l5 ≡ read + 3
  n5 = length-append l4 (o4 ∷ []) ∙ omega (arith, n4)

  n6 : length l6 ≡ read + 3 + rank
  n6 = length-append l5 again.ops ∙ omega (arith, n5, indices_length p.mems c ds (read + 3))

  n7 : length l7 ≡ read + 4 + rank
  n7 = length-append l6 (o5 ∷ []) ∙ omega (arith, n6)

  n8 : length l8 ≡ read + 4 + rank + length last.ops
  n8 = length-append l7 last.ops ∙ omega (arith, n7)

  k0 : So value.ops (value.word ∷ []) (ty ∷ [])
  k0 = keeps p core h inside_loop scope no_sources (expr 0 ty (get_sram part (element_indices c ds))) 0 [] refl value_typed (may_use [])

  k1 : So l1 (at ∷ []) (Bit ∷ [])
  k1 = keep_one core inside_loop [] value.ops [] [] (quiet value.ops (value.word ∷ []) (ty ∷ []) k0) kind.Read Bit (Some begun) refl (read_named core inside_loop begun Bit (record { usable = b.usable; is_kind = b.is_kind; is_type = b.is_type })) (read_takes core inside_loop begun Bit (record { usable = b.usable; is_kind = b.is_kind; is_type = b.is_type })) Bit at refl (omega arith)

  k2 : So l2 is_codes.words (replicate rank int_type)
  k2 = subst (λ t. So l2 is_codes.words t) indices_of_rank (keep_others core inside_loop [] l1 is_codes.ops [] is_codes.words [] (replicate (expr_count (element_indices c ds)) int_type) (quiet l1 (at ∷ []) (Bit ∷ []) k1)
      (rows_keep p core h inside_loop scope no_sources (element_indices c ds) (at + 1) (given_by l1) (sym (given_length l1 ∙ n1)) indices_are (may_use (given_by l1))))

  k3 : So l3 (read ∷ []) (ty ∷ [])
  k3 = masked_one core inside_loop [] l2 is_codes.words (replicate rank int_type) k2 kind.Read ty (Some acc) at refl (access_named core inside_loop kind.Read ty acc Sram refl a.usable a.is_kind (λ s. refl) a.is_type)
      (ap (λ n. replicate n int_type) acc_count) (stands l1 is_codes.ops at Bit (first_given core inside_loop (given_by l1) at Bit k1.give)) ty read refl (omega (arith, n2))

  value_at : (more : List PlainOp) → gives (given_by (value.ops ++ more)) value.word ty ≡ true
  value_at more = stands value.ops more value.word ty (first_given core inside_loop (given_by value.ops) value.word ty k0.give)

  v3 : gives (given_by l3) value.word ty ≡ true
  v3 = stands l2 (o2 ∷ []) value.word ty (stands l1 is_codes.ops value.word ty (value_at (o1 ∷ [])))

  k4 : So l4 ((read + 1) ∷ []) (ty ∷ [])
  k4 = keep_one core inside_loop [] l3 (read ∷ value.word ∷ []) (ty ∷ ty ∷ []) (record { right = k3.right; give = and_from _ _ (first_given core inside_loop (given_by l3) read ty k3.give) (and_from _ _ v3 refl) })
      (kind.Two (operator_of comb)) ty None refl refl refl ty (read + 1) (comb_type comb ty) (omega (arith, n3))

  b4 : gives (given_by l4) at Bit ≡ true
  b4 = stands l3 (o3 ∷ []) at Bit (stands l2 (o2 ∷ []) at Bit (stands l1 is_codes.ops at Bit (first_given core inside_loop (given_by l1) at Bit k1.give)))

  k5 : So l5 ((read + 2) ∷ []) (ty ∷ [])
  k5 = keep_one core inside_loop [] l4 (at ∷ (read + 1) ∷ value.word ∷ []) (Bit ∷ ty ∷ ty ∷ []) (record { right = k4.right; give = and_from _ _ b4 (and_from _ _ (first_given core inside_loop (given_by l4) (read + 1) ty k4.give) (and_from _ _ (stands l3 (o3 ∷ []) value.word ty v3) refl)) })
      kind.Mux ty None refl refl refl ty (read + 2) refl (omega (arith, n4))

  k6 : So l6 again.words (replicate rank int_type)
  k6 = subst (λ t. So l6 again.words t) indices_of_rank (keep_others core inside_loop [] l5 again.ops [] again.words [] (replicate (expr_count (element_indices c ds)) int_type) (quiet l5 ((read + 2) ∷ []) (ty ∷ []) k5)
      (rows_keep p core h inside_loop scope no_sources (element_indices c ds) (read + 3) (given_by l5) (sym (given_length l5 ∙ n5)) indices_are (may_use (given_by l5))))

  k7 : So l7 [] []
  k7 = keep_silent core inside_loop [] l6 (again.words ++ (read + 2) ∷ []) (replicate rank int_type ++ ty ∷ [])
      (record { right = k6.right; give = give_both (given_by l6) again.words ((read + 2) ∷ []) (replicate rank int_type) (ty ∷ []) k6.give (and_from _ _ (stands l5 again.ops (read + 2) ty (first_given core inside_loop (given_by l5) (read + 2) ty k5.give)) refl) })
      kind.Write ty (Some acc) refl (access_named core inside_loop kind.Write ty acc Sram refl a.usable a.is_kind (λ s. refl) a.is_type) (ap (λ n. replicate n int_type ++ ty ∷ []) acc_count)

  k8 : So l8 (last.word ∷ []) (Bit ∷ [])
  k8 = keep_others core inside_loop [] l7 last.ops [] (last.word ∷ []) [] (Bit ∷ []) k7
      (subst (λ t. Keep core inside_loop (given_by l7) last.ops (last.word ∷ []) (t ∷ [])) (last_typed p scope c ds in_range counts).1
      (keeps p core h inside_loop scope no_sources (is_last_element c ds) (read + 4 + rank) (given_by l7) (sym (given_length l7 ∙ n7)) (last_typed p scope c ds in_range counts).0 (may_use (given_by l7))))

  k9 : So l9 ((read + 4 + rank + length last.ops) ∷ []) (Bit ∷ [])
  k9 = keep_one core inside_loop [] l8 [] [] (quiet l8 (last.word ∷ []) (Bit ∷ []) k8) (kind.Word 1) Bit None refl refl refl Bit (read + 4 + rank + length last.ops) refl (omega (arith, n8))

  k10 : So (l9 ++ o7 ∷ []) [] []
  k10 = masked_silent core inside_loop [] l9 ((read + 4 + rank + length last.ops) ∷ []) (Bit ∷ []) k9 kind.Write Bit (Some begun) last.word refl (write_named core inside_loop begun Bit (record { usable = b.usable; is_kind = b.is_kind; is_type = b.is_type }))
      (write_takes core inside_loop begun Bit (record { usable = b.usable; is_kind = b.is_kind; is_type = b.is_type })) (stands l8 (o6 ∷ []) last.word Bit (first_given core inside_loop (given_by l8) last.word Bit k8.give))

  same_ops : l9 ++ o7 ∷ [] ≡ value.ops ++ element_ops p.mems at value.word c ds acc begun ty comb
  same_ops = same_list value.ops is_codes.ops again.ops last.ops o1 o2 o3 o4 o5 o6 o7

  pub loop_right : is_node_right core around (element_loop p.mems c ds part acc begun ty comb) ≡ true
  loop_right = and_from _ _ (and_from _ _ (and_from _ _ (le-leb (length loops) 4 (omega (arith, elements_length c ds, few))) (le-leb (length loops + length around.counters) 1000 (omega (arith, elements_length c ds, few, near)))) (counters_are core around c ds counts))
      (subst (λ o. are_operations_right_after core inside_loop [] o ≡ true) same_ops k10.right)
