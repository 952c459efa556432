-- The combinations of a program meet a word as the rules of cores in lanes ask for.
use Rattle.std.proofs.Common.{◌≡◌, ℕ, suc, ◌+◌, ◌<◌, ◌≤◌, Bool, true, false, not, ◌||◌, ◌&&◌, List, [], ◌∷◌, ◌++◌, length, take, drop, refl, sym, ◌∙◌, ap, subst, arith, ◌==◌}
use Rattle.std.proofs.lemmas.Bool.{and_parts, true≢false, eq-eqb, ne_eqb, or_right, or_left}
use Rattle.std.proofs.lemmas.List.{append_assoc, length-append, take-append-drop}
use Rattle.std.specs.List.{list_any}
use Rattle.std.specs.Prelude.{slice_index}
use Rattle.sp_words.specs.declared.kind.BinOp.{BinOp}
use Rattle.sp_words.specs.declared.kind.BinOp.TheVariants as binary
use Rattle.sp_words.specs.declared.types.Ty.{Ty}
use Rattle.sp_words.specs.declared.types.Ty.TheVariants.{Bit}
use Rattle.sp_words.specs.Types.{int_type}
use Rattle.sp_tree.specs.declared.statement.Comb.{Comb}
use Rattle.sp_tree.specs.declared.statement.Comb.TheVariants as combiner
use Rattle.sp_tree.specs.PlainExpression.{PlainExpr, expr, literal, counter, two}
use Rattle.sp_tree.specs.PlainProgram.{PlainMem}
use Rattle.sp_core.specs.declared.operation.OpKind.{OpKind}
use Rattle.sp_core.specs.declared.operation.OpKind.TheVariants.{Two, Mux}
use Rattle.sp_core.specs.Around.{Around}
use Rattle.sp_core.specs.OperationRules.{is_in_range, names_rightly, indices_of, is_mask, is_operation_right, are_operations_right_after, are_operations_right}
use Rattle.sp_core.specs.PlainCore.{PlainOp, PlainCore}
use Rattle.sp_core.specs.Typed.{Given, is_comparison, given_type, taken_types, gives, give_all}
use Rattle.sp_lanes.specs.Combined.{Meeting, meeting, takes}
use Rattle.sp_sugar.specs.Combination.{operator_of, element_indices, is_last_at, conjunction, is_last_element}
use Rattle.sp_sugar.specs.Operations.{Code, computes, literal_op, read_op, write_op, under, code, codes}
use Rattle.sp_sugar.specs.Values.{no_sources}
use Rattle.sp_lane_cores.specs.LanedMarks.{Combination, folded, reduced, element, combination_ops, IsCombined}
use Rattle.sp_lane_rules.specs.UnrolledMeetings.{given_of}
use Rattle.sp_lane_rules.proofs.UnrolledGivens.{append_none, given_length}
use Rattle.sp_lane_rules.specs.CombinedMeetings.{IsEnded, IsMetFrom}
use Rattle.sp_lane_rules.proofs.CombinedMeets.{take_front, drop_front}
use Rattle.sp_lane_rules.proofs.CombinedMoves.{gives_front, split_after}

-- what a combination meets
abbrev pub met_by : Combination → Meeting
met_by (folded word acc ty comb) = record { operator = operator_of comb; ty = ty; word = word }
met_by (reduced word acc begun ty comb) = record { operator = operator_of comb; ty = ty; word = word }
met_by (element mems word c dims acc begun ty comb) = record { operator = operator_of comb; ty = ty; word = word }

comb_plain : (comb : Comb) → is_comparison (operator_of comb) ≡ false
comb_plain combiner.Add = refl
comb_plain combiner.Mul = refl
comb_plain combiner.And = refl
comb_plain combiner.Or = refl
comb_plain combiner.Xor = refl
comb_plain combiner.Min = refl
comb_plain combiner.Max = refl

plain_by : (c : Combination) → is_comparison (met_by c).operator ≡ false
plain_by (folded word acc ty comb) = comb_plain comb
plain_by (reduced word acc begun ty comb) = comb_plain comb
plain_by (element mems word c dims acc begun ty comb) = comb_plain comb

-- operations on places from one on
abbrev AllFrom : ℕ → List ℕ → Type 0
AllFrom n [] = Unit {0}
AllFrom n (a ∷ args) = (n ≤ a) × AllFrom n args

abbrev OpsFrom : ℕ → List PlainOp → Type 0
OpsFrom n [] = Unit {0}
OpsFrom n (op ∷ ops) = AllFrom n op.args × OpsFrom n ops

all_lower : (n k : ℕ) (args : List ℕ) → n ≤ k → AllFrom k args → AllFrom n args
all_lower n k [] le h = tt
all_lower n k (a ∷ args) le h = (let m = h.0 in omega (arith, le, m), all_lower n k args le h.1)

all_append : (n : ℕ) (xs ys : List ℕ) → AllFrom n xs → AllFrom n ys → AllFrom n (xs ++ ys)
all_append n [] ys h k = k
all_append n (x ∷ xs) ys h k = (h.0, all_append n xs ys h.1 k)

ops_lower : (n k : ℕ) (ops : List PlainOp) → n ≤ k → OpsFrom k ops → OpsFrom n ops
ops_lower n k [] le h = tt
ops_lower n k (op ∷ ops) le h = (all_lower n k op.args le h.0, ops_lower n k ops le h.1)

ops_append : (n : ℕ) (xs ys : List PlainOp) → OpsFrom n xs → OpsFrom n ys → OpsFrom n (xs ++ ys)
ops_append n [] ys h k = k
ops_append n (x ∷ xs) ys h k = (h.0, ops_append n xs ys h.1 k)

none_of_two : (a b : Bool) → a ≡ false → b ≡ false → (a || b) ≡ false
none_of_two true b e f = e
none_of_two false b e f = f

none_among : (n word : ℕ) (args : List ℕ) → word < n → AllFrom n args → list_any (λ a. a == word) args ≡ false
none_among n word [] lt h = refl
none_among n word (a ∷ args) lt h = none_of_two (a == word) (list_any (λ a. a == word) args) (ne_eqb a word (λ e. let le = h.0 in absurd (omega (arith, e, le, lt)))) (none_among n word args lt h.1)

takes_none : (n word : ℕ) (ops : List PlainOp) → word < n → OpsFrom n ops → list_any (takes word) ops ≡ false
takes_none n word [] lt h = refl
takes_none n word (op ∷ ops) lt h = none_of_two (takes word op) (list_any (takes word) ops) (none_among n word op.args lt h.0) (takes_none n word ops lt h.1)

takes_third : (a b word : ℕ) (rest : List ℕ) → list_any (λ x. x == word) (a ∷ b ∷ word ∷ rest) ≡ true
takes_third a b word rest =
    or_right (a == word) ((b == word) || ((word == word) || list_any (λ x. x == word) rest))
    (or_right (b == word) ((word == word) || list_any (λ x. x == word) rest) (or_left (word == word) (list_any (λ x. x == word) rest) (eq-eqb word word refl)))

takes_second : (a word : ℕ) (rest : List ℕ) → list_any (λ x. x == word) (a ∷ word ∷ rest) ≡ true
takes_second a word rest = or_right (a == word) ((word == word) || list_any (λ x. x == word) rest) (or_left (word == word) (list_any (λ x. x == word) rest) (eq-eqb word word refl))

-- operations none of which is one on two words
abbrev is_two : OpKind → Bool
is_two (Two operator) = true
is_two _ = false

abbrev NoTwo : List PlainOp → Type 0
NoTwo [] = Unit {0}
NoTwo (op ∷ ops) = (is_two op.kind ≡ false) × NoTwo ops

skipped : (kind : OpKind) (ty : Ty) (args : List ℕ) (m : Meeting) → is_two kind ≡ false
    → elim kind as (λ _. Meeting) [ Two o ↦ record { operator = o; ty = ty; word = slice_index args 1 } | _ ↦ m ] ≡ m
skipped (Two o) ty args m e = absurd (true≢false e)
skipped _ ty args m e = refl

meeting_past : (xs ys : List PlainOp) → NoTwo xs → meeting (xs ++ ys) ≡ meeting ys
meeting_past [] ys h = refl
meeting_past (x ∷ xs) ys h = skipped x.kind x.ty x.args (meeting (xs ++ ys)) h.0 ∙ meeting_past xs ys h.1

two_past : (xs ys : List PlainOp) → list_any (λ (op : PlainOp). is_two op.kind) ys ≡ true → list_any (λ (op : PlainOp). is_two op.kind) (xs ++ ys) ≡ true
two_past [] ys e = e
two_past (x ∷ xs) ys e = or_right (is_two x.kind) (list_any (λ (op : PlainOp). is_two op.kind) (xs ++ ys)) (two_past xs ys e)

-- the indices of an element
module _ (mems : List PlainMem) where
  indices_no_two : (dims : List ℕ) (n c : ℕ) → NoTwo (codes mems no_sources n (element_indices c dims)).ops
  unfolding code codes
  indices_no_two [] n c = tt
  indices_no_two (d ∷ dims) n c = (refl, indices_no_two dims (n + 1) (suc c))

  indices_from : (dims : List ℕ) (n c : ℕ) → OpsFrom n (codes mems no_sources n (element_indices c dims)).ops × AllFrom n (codes mems no_sources n (element_indices c dims)).words
  unfolding code codes
  indices_from [] n c = (tt, tt)
  indices_from (d ∷ dims) n c =
      let r = indices_from dims (n + 1) (suc c) in
      ((tt, ops_lower n (n + 1) (codes mems no_sources (n + 1) (element_indices (suc c) dims)).ops (omega arith) r.0), (omega arith, all_lower n (n + 1) (codes mems no_sources (n + 1) (element_indices (suc c) dims)).words (omega arith) r.1))

  -- whether it is the last one
  abbrev IsFrom : PlainExpr → Type 0
  IsFrom e = (n : ℕ) → OpsFrom n (code mems no_sources n e).ops × (n ≤ (code mems no_sources n e).word)

  two_from : (op : BinOp) (ty : Ty) (a b : PlainExpr) → IsFrom a → IsFrom b → IsFrom (expr 0 ty (two op a b))
  unfolding code codes
  two_from op ty a b f g n =
      let x : Code = code mems no_sources n a in
      let y : Code = code mems no_sources (n + length x.ops) b in
      let k = f n in
      let l = g (n + length x.ops) in
      let m = l.1 in
      let ys : OpsFrom n y.ops = ops_lower n (n + length x.ops) y.ops (omega arith) l.0 in
      (ops_append n (x.ops ++ y.ops) _ (ops_append n x.ops y.ops k.0 ys) ((k.1, (omega (arith, m), tt)), tt), omega arith)

  counter_from : (ty : Ty) (c : ℕ) → IsFrom (expr 0 ty (counter c))
  unfolding code codes
  counter_from ty c n = ((tt, tt), omega arith)

  literal_from : (ty : Ty) (w : ℕ) → IsFrom (expr 0 ty (literal w))
  unfolding code codes
  literal_from ty w n = ((tt, tt), omega arith)

  last_at_from : (c d : ℕ) → IsFrom (is_last_at c d)
  last_at_from c d = two_from binary.Eq Bit (expr 0 int_type (counter c)) _ (counter_from int_type c) (literal_from int_type _)

  conjunction_from : (dims : List ℕ) (test : PlainExpr) (c : ℕ) → IsFrom test → IsFrom (conjunction test c dims)
  conjunction_from [] test c h = h
  conjunction_from (d ∷ dims) test c h = conjunction_from dims (expr 0 Bit (two binary.And test (is_last_at c d))) (suc c) (two_from binary.And Bit test (is_last_at c d) h (last_at_from c d))

  last_from : (dims : List ℕ) (c : ℕ) → IsFrom (is_last_element c dims)
  last_from [] c = literal_from Bit 1
  last_from (d ∷ dims) c = conjunction_from dims (is_last_at c d) (suc c) (last_at_from c d)

-- five lists, by what stands before an operation and after it
in_row : (before first : List PlainOp) (r t x : PlainOp) (second third : List PlainOp) → ((before ++ r ∷ t ∷ x ∷ first) ++ second) ++ third ≡ before ++ r ∷ t ∷ x ∷ ((first ++ second) ++ third)
in_row [] first r t x second third = refl
in_row (y ∷ before) first r t x second third = ap (λ l. y ∷ l) (in_row before first r t x second third)

with_two : (before rest : List PlainOp) (r t x : PlainOp) → before ++ r ∷ t ∷ x ∷ rest ≡ (before ++ r ∷ t ∷ []) ++ x ∷ rest
with_two [] rest r t x = refl
with_two (y ∷ before) rest r t x = ap (λ l. y ∷ l) (with_two before rest r t x)

-- the parts of the combination of an element
module _ (at : ℕ) (mems : List PlainMem) (word c : ℕ) (dims : List ℕ) (acc begun : ℕ) (ty : Ty) (comb : Comb) where
  abbrev front : List PlainOp
  front = read_op Bit begun [] ∷ (codes mems no_sources (at + 1) (element_indices c dims)).ops

  abbrev reading : PlainOp
  reading = under at (read_op ty acc (codes mems no_sources (at + 1) (element_indices c dims)).words)

  abbrev combining : PlainOp
  combining = computes (Two (operator_of comb)) ty ((at + 1 + length dims) ∷ word ∷ [])

  abbrev choosing : PlainOp
  choosing = computes Mux ty (at ∷ (at + 1 + length dims + 1) ∷ word ∷ [])

  abbrev writing : List PlainOp
  writing = write_op ty acc ((codes mems no_sources (at + 1 + length dims + 3) (element_indices c dims)).words ++ (at + 1 + length dims + 2) ∷ [])
      ∷ (code mems no_sources (at + 1 + length dims + 4 + length dims) (is_last_element c dims)).ops

  abbrev marking : List PlainOp
  marking = literal_op Bit 1 ∷ under (code mems no_sources (at + 1 + length dims + 4 + length dims) (is_last_element c dims)).word
      (write_op Bit begun ((at + 1 + length dims + 4 + length dims + length (code mems no_sources (at + 1 + length dims + 4 + length dims) (is_last_element c dims)).ops) ∷ [])) ∷ []

  abbrev rest : List PlainOp
  rest = ((codes mems no_sources (at + 1 + length dims + 3) (element_indices c dims)).ops ++ writing) ++ marking

  row : combination_ops at (element mems word c dims acc begun ty comb) ≡ front ++ reading ∷ combining ∷ choosing ∷ rest
  row = in_row front (codes mems no_sources (at + 1 + length dims + 3) (element_indices c dims)).ops reading combining choosing writing marking

  rest_from : OpsFrom at rest
  rest_from =
      let i = indices_from mems dims (at + 1 + length dims + 3) c in
      let l = last_from mems dims c (at + 1 + length dims + 4 + length dims) in
      ops_append at ((codes mems no_sources (at + 1 + length dims + 3) (element_indices c dims)).ops ++ writing) marking
      (ops_append at (codes mems no_sources (at + 1 + length dims + 3) (element_indices c dims)).ops writing (ops_lower at (at + 1 + length dims + 3) _ (omega arith) i.0) (
        all_append at (codes mems no_sources (at + 1 + length dims + 3) (element_indices c dims)).words ((at + 1 + length dims + 2) ∷ []) (all_lower at (at + 1 + length dims + 3) _ (omega arith) i.1) (omega arith, tt),
        ops_lower at (at + 1 + length dims + 4 + length dims) _ (omega arith) l.0,
      ))
      (tt, ((omega arith, tt), tt))

  element_meets : meeting (combination_ops at (element mems word c dims acc begun ty comb)) ≡ met_by (element mems word c dims acc begun ty comb)
  element_meets = ap meeting row ∙ meeting_past front (reading ∷ combining ∷ choosing ∷ rest) (refl, indices_no_two mems dims (at + 1) c)

  element_two : list_any (λ (op : PlainOp). is_two op.kind) (combination_ops at (element mems word c dims acc begun ty comb)) ≡ true
  element_two = ap (list_any (λ (op : PlainOp). is_two op.kind)) row ∙ two_past front (reading ∷ combining ∷ choosing ∷ rest) refl

  element_ended : word < at → IsEnded (met_by (element mems word c dims acc begun ty comb)) (combination_ops at (element mems word c dims acc begun ty comb))
  element_ended lt = record {
    before = front ++ reading ∷ combining ∷ [];
    last = choosing;
    after = rest;
    is = row ∙ with_two front rest reading combining choosing;
    takes_it = takes_third at (at + 1 + length dims + 1) word [];
    no_more = takes_none at word rest lt rest_from;
    ends = refl;
    alike = refl;
  }

-- each of the three
pub meets : (at : ℕ) (c : Combination) → meeting (combination_ops at c) ≡ met_by c
meets at (folded word acc ty comb) = refl
meets at (reduced word acc begun ty comb) = refl
meets at (element mems word c dims acc begun ty comb) = element_meets at mems word c dims acc begun ty comb

has_two : (at : ℕ) (c : Combination) → list_any (λ (op : PlainOp). is_two op.kind) (combination_ops at c) ≡ true
has_two at (folded word acc ty comb) = refl
has_two at (reduced word acc begun ty comb) = refl
has_two at (element mems word c dims acc begun ty comb) = element_two at mems word c dims acc begun ty comb

ended : (at : ℕ) (c : Combination) → (met_by c).word < at → IsEnded (met_by c) (combination_ops at c)
ended at (folded word acc ty comb) lt = record {
  before = read_op ty acc [] ∷ [];
  last = computes (Two (operator_of comb)) ty (at ∷ word ∷ []);
  after = write_op ty acc ((at + 1) ∷ []) ∷ [];
  is = refl;
  takes_it = takes_second at word [];
  no_more = takes_none at word (write_op ty acc ((at + 1) ∷ []) ∷ []) lt ((omega arith, tt), tt);
  ends = ap not (comb_plain comb);
  alike = refl;
}
ended at (reduced word acc begun ty comb) lt = record {
  before = read_op Bit begun [] ∷ under at (read_op ty acc []) ∷ computes (Two (operator_of comb)) ty ((at + 1) ∷ word ∷ []) ∷ [];
  last = computes Mux ty (at ∷ (at + 2) ∷ word ∷ []);
  after = write_op ty acc ((at + 3) ∷ []) ∷ literal_op Bit 1 ∷ write_op Bit begun ((at + 5) ∷ []) ∷ [];
  is = refl;
  takes_it = takes_third at (at + 2) word [];
  no_more = takes_none at word (write_op ty acc ((at + 3) ∷ []) ∷ literal_op Bit 1 ∷ write_op Bit begun ((at + 5) ∷ []) ∷ []) lt ((omega arith, tt), (tt, ((omega arith, tt), tt)));
  ends = refl;
  alike = refl;
}
ended at (element mems word c dims acc begun ty comb) lt = element_ended at mems word c dims acc begun ty comb lt

-- what a list meets has its word before it, where that is there
module _ (core : PlainCore) (around : Around) (b : Given) where
  kind_given : (kind : OpKind) (ty : Ty) (args : List ℕ) (n : ℕ) (x : Given) (m : Meeting) → give_all (b ++ x) args (taken_types kind ty n) ≡ true
      → (is_two kind ≡ false → m.word < length b → gives b m.word m.ty ≡ true)
      → (elim kind as (λ _. Meeting) [ Two o ↦ record { operator = o; ty = ty; word = slice_index args 1 } | _ ↦ m ]).word < length b
      → gives b (elim kind as (λ _. Meeting) [ Two o ↦ record { operator = o; ty = ty; word = slice_index args 1 } | _ ↦ m ]).word
      (elim kind as (λ _. Meeting) [ Two o ↦ record { operator = o; ty = ty; word = slice_index args 1 } | _ ↦ m ]).ty ≡ true
  kind_given (Two o) ty [] n x m e f lt = absurd (true≢false (sym e))
  kind_given (Two o) ty (a ∷ []) n x m e f lt = absurd (true≢false (sym (and_parts (gives (b ++ x) a ty) false e).1))
  kind_given (Two o) ty (a ∷ w ∷ args) n x m e f lt =
      gives_front b x w ty lt (and_parts (gives (b ++ x) w ty) (give_all (b ++ x) args []) (and_parts (gives (b ++ x) a ty) (give_all (b ++ x) (w ∷ args) (ty ∷ [])) e).1).0
  kind_given _ ty args n x m e f lt = f refl lt

  met_given : (x : Given) (ops : List PlainOp) → are_operations_right_after core around (b ++ x) ops ≡ true → list_any (λ (op : PlainOp). is_two op.kind) ops ≡ true → (meeting ops).word < length b → gives b (meeting ops).word (meeting ops).ty ≡ true
  met_given x [] e t lt = absurd (true≢false (sym t))
  met_given x (op ∷ ops) e t lt =
      let a = and_parts (is_operation_right core around (b ++ x) op) (are_operations_right_after core around ((b ++ x) ++ given_type op.kind op.ty ∷ []) ops) e in
      let o = and_parts (is_in_range op.kind op.ty around && names_rightly core around op.kind op.ty op.mem) (give_all (b ++ x) op.args (taken_types op.kind op.ty (indices_of core around op.mem)) && is_mask core around (b ++ x) op.mask) a.0 in
      let g = and_parts (give_all (b ++ x) op.args (taken_types op.kind op.ty (indices_of core around op.mem))) (is_mask core around (b ++ x) op.mask) o.1 in
      kind_given op.kind op.ty op.args (indices_of core around op.mem) x (meeting ops) g.0
      (λ i. met_given (x ++ given_type op.kind op.ty ∷ []) ops (ap (λ (l : Given). are_operations_right_after core around l ops) (sym (append_assoc b x (given_type op.kind op.ty ∷ []))) ∙ a.1)
      (sym (ap (λ c. c || list_any (λ (op : PlainOp). is_two op.kind) ops) i) ∙ t)) lt

-- a combination of a right list meets a word as it is asked for, where that stands before it
pub combination_met : (core : PlainCore) (around : Around) (c : Combination) (ops : List PlainOp) (at : ℕ) → IsCombined core c ops at → (meeting (drop at ops)).word < at → are_operations_right core around ops ≡ true → IsMetFrom at ops
combination_met core around c ops at h lt right = record {
  inside = omega (arith, h.place, ap (λ (l : List PlainOp). length l) h.is, length-append h.before (combination_ops at c));
  plain = ap (λ l. is_comparison (meeting l).operator) dropped ∙ ap (λ (m : Meeting). is_comparison m.operator) (meets at c) ∙ plain_by c;
  word = met_given core around (given_of (take at ops)) [] (drop at ops) parts (ap (list_any (λ (op : PlainOp). is_two op.kind)) dropped ∙ has_two at c) (subst (λ n. (meeting (drop at ops)).word < n) (sym long) lt);
  ended = subst (λ l. IsEnded (meeting l) l) (sym dropped) (subst (λ (m : Meeting). IsEnded m (combination_ops at c)) (sym (meets at c)) (ended at c (subst (λ (m : Meeting). m.word < at) (ap meeting dropped ∙ meets at c) lt)));
}
  where
    dropped : drop at ops ≡ combination_ops at c
    dropped = ap (λ n. drop n ops) (sym h.place) ∙ ap (drop (length h.before)) h.is ∙ drop_front h.before (combination_ops at c)

    taken : take at ops ≡ h.before
    taken = ap (λ n. take n ops) (sym h.place) ∙ ap (take (length h.before)) h.is ∙ take_front h.before (combination_ops at c)

    long : length (given_of (take at ops)) ≡ at
    long = given_length (take at ops) ∙ ap (λ (l : List PlainOp). length l) taken ∙ h.place

    parts : are_operations_right_after core around (given_of (take at ops) ++ []) (drop at ops) ≡ true
    parts = ap (λ (l : Given). are_operations_right_after core around l (drop at ops)) (append_none (given_of (take at ops)))
        ∙ (split_after core around [] (take at ops) (drop at ops) (ap (are_operations_right_after core around []) (take-append-drop at ops) ∙ right)).1
