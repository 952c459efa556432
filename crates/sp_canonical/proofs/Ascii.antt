-- A canonical text is ASCII.
use Rattle.std.proofs.Common.{◌≡◌, ℕ, zero, suc, ◌+◌, ◌<◌, ◌==◌, eq-eqb, ◌&&◌, ◌/◌, ◌%◌, nat_lt, Bool, true, false, if◌then◌else◌, List, [], ◌∷◌, ◌++◌, map, length, slice_index_or, Option, Some, None, All, codes, decimal, refl, ap, ◌∙◌, mod-lt, arith}
use Rattle.std.specs.Fmt.{digits, digits_onto, digit_glyph}
use Rattle.std.specs.List.{list_all}
use Rattle.std.specs.Str.{IsAscii}
use Rattle.std.specs.Str.Lossy.{utf8_valid_len}
use Rattle.std.proofs.lemmas.List.Elements.{All-head, All-tail}
use Rattle.std.proofs.lemmas.List.Folds.{list_all-append}
use Rattle.std.proofs.lemmas.Str.{utf8_valid_len-IsUtf8, IsUtf8-from_ascii}
use Rattle.sp_words.specs.declared.kind.BinOp.{BinOp}
use Rattle.sp_words.specs.declared.kind.BinOp.TheVariants as op
use Rattle.sp_words.specs.declared.kind.Kind.{Kind}
use Rattle.sp_words.specs.declared.kind.Kind.TheVariants.{Reg, Sram, Fifo, LineBuf, Dram, ArgIn, ArgOut}
use Rattle.sp_words.specs.declared.kind.Style.{Style}
use Rattle.sp_words.specs.declared.kind.Style.TheVariants.{Pipe, Sequential, Parallel, Stream}
use Rattle.sp_words.specs.declared.kind.UnOp.{UnOp}
use Rattle.sp_words.specs.declared.kind.UnOp.TheVariants.{Neg, Not}
use Rattle.sp_words.specs.declared.types.Ty.{Ty}
use Rattle.sp_words.specs.declared.types.Ty.TheVariants.{Fix, Bit}
use Rattle.sp_words.specs.Decimal.{AreDigits, text_of, with_point, whole_part, fraction_digits}
use Rattle.sp_words.specs.Names.{IsName, is_letter, is_name_byte}
use Rattle.sp_words.specs.Types.{fix_signed, fix_whole, fix_frac}
use Rattle.sp_words.specs.Words.{IsWord, has_sign}
use Rattle.sp_words.proofs.NumberTextLemmas.{printed, read_again}
use Rattle.sp_reader.specs.Limits.{fault_of}
use Rattle.sp_tree.specs.declared.statement.Comb.{Comb}
use Rattle.sp_tree.specs.declared.statement.Comb.TheVariants as comb
use Rattle.sp_tree.specs.Counts.{is_port}
use Rattle.sp_tree.specs.Declarations.{IsDeclaration}
use Rattle.sp_tree.specs.Invariant.{IsProgram}
use Rattle.sp_tree.specs.PlainExpression.{PlainExpr, PlainExprKind, PlainExprs, expr, literal, counter, value, get_reg, get_arg, get_sram, get_line, deq, one, two, shift, mux, cast, no_expr, more_expr}
use Rattle.sp_tree.specs.PlainProgram.{PlainMem, no_mem, PlainProgram}
use Rattle.sp_tree.specs.PlainStatement.{PlainSpan, single, range, PlainCounter, PlainStmtKind, PlainStmts, stmt, declare, name, set_reg, set_out, set_sram, enq, load_sram, load_line, store, gather, scatter, block, foreach, reduce, mem_reduce, fsm, branch, no_stmt, more_stmt}
use Rattle.sp_printer.specs.Body.{deeper, acc_head, block_head, foreach_head, reduce_head, mem_reduce_head, end_text, comb_tail, reduce_tail, mem_reduce_tail, fsm_test, fsm_head, fsm_tail, if_head, else_text, is_empty, body_text, stmt_text, slice_text, places_text}
use Rattle.sp_printer.specs.Expressions.{op_sign, op_level, is_call, one_sign, operand_level, starts_with_digit, type_before_cast, parted, enclosed, level, expr_text, kind_text, list_text, whole_text}
use Rattle.sp_printer.specs.Names.{Names, names_in, mem_name, val_name, counter_name}
use Rattle.sp_printer.specs.Pieces.{kind_word, numbers_text, dims_text, start_text, mem_type, mem_shape, mem_text, par_text, span_text, spans_text, is_zero, from_text, counter_text, counters_text, bound_names, binds_text, block_word, style_prefix, comb_text, loop_head}
use Rattle.sp_printer.specs.Program.{ports_text, canonical_text}
use Rattle.sp_printer.specs.Types.{is_int_fix, is_int, type_text}
use Rattle.sp_printer.specs.Words.{word_at, cast_text, literal_text}
use Rattle.sp_printed.proofs.Literals.{word_kept}

-- ---- texts

pub record IsPlain (text : List ℕ) : Type 0 where
  pub bytes : list_all (λ b. nat_lt b 128) text ≡ true

lit : (text : List ℕ) → list_all (λ b. nat_lt b 128) text ≡ true → IsPlain text
lit text e = record { bytes = e }

first_of_two : (p q : Bool) → (p && q) ≡ true → p ≡ true
first_of_two true q e = refl
first_of_two false q e = e

second_of_two : (p q : Bool) → (p && q) ≡ true → q ≡ true
second_of_two true q e = e
second_of_two false q e = absurd (cc)

both : (p q : Bool) → p ≡ true → q ≡ true → (p && q) ≡ true
both true q x y = y
both false q x y = x

join : {a b : List ℕ} → IsPlain a → IsPlain b → IsPlain (a ++ b)
join {a} {b} x y = record { bytes = list_all-append (λ c. nat_lt c 128) a b ∙ both (list_all (λ c. nat_lt c 128) a) (list_all (λ c. nat_lt c 128) b) x.bytes y.bytes }

byte : (b : ℕ) {text : List ℕ} → nat_lt b 128 ≡ true → IsPlain text → IsPlain (b ∷ text)
byte b {text} e h = record { bytes = both (nat_lt b 128) (list_all (λ c. nat_lt c 128) text) e h.bytes }

chosen : (b : Bool) {x y : List ℕ} → IsPlain x → IsPlain y → IsPlain (if b then x else y)
chosen true h g = h
chosen false h g = g

byte_is : (b : ℕ) → nat_lt b 128 ≡ true → b < 128
byte_is b e = grind arith

pub ascii : (text : List ℕ) → list_all (λ b. nat_lt b 128) text ≡ true → IsAscii text
ascii [] e i = omega arith
ascii (b ∷ text) e zero = byte_is b (first_of_two (nat_lt b 128) (list_all (λ c. nat_lt c 128) text) e)
ascii (b ∷ text) e (suc i) = ascii text (second_of_two (nat_lt b 128) (list_all (λ c. nat_lt c 128) text) e) i

pub no_fault : (text : List ℕ) → IsAscii text → fault_of text ≡ None
unfolding fault_of
no_fault text h = ap (λ b. if b then None else Some (utf8_valid_len text)) (eq-eqb (utf8_valid_len text) (length text) (utf8_valid_len-IsUtf8 text (IsUtf8-from_ascii text h)))

-- ---- names

name_byte : (b : ℕ) → is_name_byte b ≡ true → nat_lt b 128 ≡ true
name_byte b e = grind arith

bytes_plain : (w : List ℕ) → list_all is_name_byte w ≡ true → IsPlain w
bytes_plain [] e = lit [] refl
bytes_plain (b ∷ w) e = byte b (name_byte b (first_of_two (is_name_byte b) (list_all is_name_byte w) e)) (bytes_plain w (second_of_two (is_name_byte b) (list_all is_name_byte w) e))

letter_plain : (b : ℕ) → is_letter b ≡ true → nat_lt b 128 ≡ true
letter_plain b e = grind arith

name_plain : (w : List ℕ) → IsName w → IsPlain w
name_plain [] n = lit [] refl
name_plain (b ∷ w) n = byte b (letter_plain b (first_of_two (is_letter b) (list_all is_name_byte w) n.letters)) (bytes_plain w (second_of_two (is_letter b) (list_all is_name_byte w) n.letters))

named : (names : List (List ℕ)) → All IsName names → (n : ℕ) → IsPlain (slice_index_or names n [])
named [] all zero = lit [] refl
named [] all (suc n) = lit [] refl
named (w ∷ names) all zero = name_plain w (All-head IsName w names all)
named (w ∷ names) all (suc n) = named names (All-tail IsName w names all) n

mem_named : (mems : List PlainMem) → All IsDeclaration mems → (n : ℕ) → IsPlain (slice_index_or mems n no_mem).name
mem_named [] all zero = lit [] refl
mem_named [] all (suc n) = lit [] refl
mem_named (m ∷ mems) all zero = name_plain m.name (All-head IsDeclaration m mems all).name
mem_named (m ∷ mems) all (suc n) = mem_named mems (All-tail IsDeclaration m mems all) n

-- ---- numbers

digit_plain : (d : ℕ) → d < 10 → nat_lt (digit_glyph false d) 128 ≡ true
digit_plain d low = grind arith

onto_plain : (k n : ℕ) {acc : List ℕ} → IsPlain acc → IsPlain (digits_onto k 10 false n acc)
onto_plain zero n h = h
onto_plain (suc k) n {acc} h =
    let more : IsPlain (digit_glyph false (n % 10) ∷ acc) = byte (digit_glyph false (n % 10)) (digit_plain (n % 10) (mod-lt n (omega arith))) h in
    chosen (n / 10 == 0) more (onto_plain k (n / 10) more)

decimal_plain : (n : ℕ) → IsPlain (decimal n)
unfolding digits
decimal_plain n = onto_plain 64 n (lit [] refl)

glyph : (d : ℕ) → d < 10 → nat_lt (48 + d) 128 ≡ true
glyph d low = grind arith

glyphs_plain : (ds : List ℕ) → AreDigits ds → IsPlain (map (λ digit. 48 + digit) ds)
glyphs_plain [] h = lit [] refl
glyphs_plain (d ∷ ds) h = byte (48 + d) (glyph d (All-head (λ x. x < 10) d ds h)) (glyphs_plain ds (All-tail (λ x. x < 10) d ds h))

point_plain : (ds : List ℕ) → AreDigits ds → IsPlain (with_point ds)
point_plain [] h = lit [] refl
point_plain (d ∷ ds) h = byte 46 refl (glyphs_plain (d ∷ ds) h)

word_plain : (ty : Ty) (w : ℕ) → IsWord ty w → IsPlain (text_of ty w)
unfolding text_of
word_plain ty w h =
    let again = read_again ty w (has_sign ty w) (whole_part ty w) (fraction_digits ty w) h (printed ty w h) in
    join (join (chosen (has_sign ty w) (lit (45 ∷ []) refl) (lit [] refl)) (decimal_plain (whole_part ty w))) (point_plain (fraction_digits ty w) again.are_digits)

-- ---- types and literals

type_plain : (ty : Ty) → IsPlain (type_text ty)
type_plain (Fix t) = chosen (is_int_fix t) (lit (codes "Int") refl) (join (lit (codes "FixPt[") refl) (join (chosen (fix_signed t) (lit (codes "TRUE") refl) (lit (codes "FALSE") refl)) (join (lit (codes ",_") refl) (join (decimal_plain (fix_whole t)) (join (lit (codes ",_") refl) (join (decimal_plain (fix_frac t)) (lit (codes "]") refl)))))))
type_plain Bit = lit (codes "Bit") refl

cast_plain : (ty : Ty) → IsPlain (cast_text ty)
cast_plain ty = join (lit (codes ".to[") refl) (join (type_plain ty) (lit (codes "]") refl))

literal_plain : (ty : Ty) (w : ℕ) → IsPlain (literal_text ty w)
literal_plain Bit w = chosen (w == 0) (lit (codes "false") refl) (lit (codes "true") refl)
literal_plain (Fix t) w = join (word_plain (Fix t) (word_at (Fix t) w) (word_kept (Fix t) w)) (chosen (is_int (Fix t)) (lit [] refl) (cast_plain (Fix t)))

kind_plain : (kind : Kind) → IsPlain (kind_word kind)
kind_plain Reg = lit (codes "Reg") refl
kind_plain Sram = lit (codes "SRAM") refl
kind_plain Fifo = lit (codes "FIFO") refl
kind_plain LineBuf = lit (codes "LineBuffer") refl
kind_plain Dram = lit (codes "DRAM") refl
kind_plain ArgIn = lit (codes "ArgIn") refl
kind_plain ArgOut = lit (codes "ArgOut") refl

parted_plain : (b : Bool) → IsPlain (parted b)
parted_plain true = lit [] refl
parted_plain false = lit (codes ", ") refl

numbers_plain : (first : Bool) (ns : List ℕ) → IsPlain (numbers_text first ns)
numbers_plain first [] = lit [] refl
numbers_plain first (n ∷ ns) = join (parted_plain first) (join (decimal_plain n) (numbers_plain false ns))

dims_plain : (ds : List ℕ) → IsPlain (dims_text ds)
dims_plain [] = lit [] refl
dims_plain (d ∷ ds) = join (lit (codes "(") refl) (join (numbers_plain true (d ∷ ds)) (lit (codes ")") refl))

start_plain : (ty : Ty) (start : Option ℕ) → IsPlain (start_text ty start)
start_plain ty None = lit [] refl
start_plain ty (Some w) = join (lit (codes "(") refl) (join (literal_plain ty w) (lit (codes ")") refl))

mem_plain : (m : PlainMem) → IsPlain m.name → IsPlain (mem_text m)
unfolding mem_text mem_type mem_shape
mem_plain m h = join (lit (codes "val ") refl) (join h (join (lit (codes " = ") refl) (join (join (kind_plain m.kind) (join (lit (codes "[") refl) (join (type_plain m.ty) (lit (codes "]") refl)))) (join (dims_plain m.dims) (start_plain m.ty m.start)))))

-- ---- signs

sign_plain : (o : BinOp) → IsPlain (op_sign o)
sign_plain op.Or = lit (codes " | ") refl
sign_plain op.Xor = lit (codes " ^ ") refl
sign_plain op.And = lit (codes " & ") refl
sign_plain op.Eq = lit (codes " == ") refl
sign_plain op.Ne = lit (codes " != ") refl
sign_plain op.Lt = lit (codes " < ") refl
sign_plain op.Le = lit (codes " <= ") refl
sign_plain op.Gt = lit (codes " > ") refl
sign_plain op.Ge = lit (codes " >= ") refl
sign_plain op.Add = lit (codes " + ") refl
sign_plain op.Sub = lit (codes " - ") refl
sign_plain op.Mul = lit (codes " * ") refl
sign_plain op.Div = lit (codes " / ") refl
sign_plain op.Rem = lit (codes " % ") refl
sign_plain op.Min = lit (codes "min(") refl
sign_plain op.Max = lit (codes "max(") refl

prefix_plain : (o : UnOp) (ty : Ty) → IsPlain (one_sign o ty)
prefix_plain Neg ty = lit (codes "-") refl
prefix_plain Not (Fix t) = lit (codes "~") refl
prefix_plain Not Bit = lit (codes "!") refl

comb_plain : (c : Comb) → IsPlain (comb_text c)
comb_plain comb.Add = lit (codes "{_ + _}") refl
comb_plain comb.Mul = lit (codes "{_ * _}") refl
comb_plain comb.And = lit (codes "{_ & _}") refl
comb_plain comb.Or = lit (codes "{_ | _}") refl
comb_plain comb.Xor = lit (codes "{_ ^ _}") refl
comb_plain comb.Min = lit (codes "{(a, b) => min(a, b)}") refl
comb_plain comb.Max = lit (codes "{(a, b) => max(a, b)}") refl

word_of_style : (s : Style) → IsPlain (block_word s)
word_of_style Pipe = lit (codes "Pipe") refl
word_of_style Sequential = lit (codes "Sequential") refl
word_of_style Parallel = lit (codes "Parallel") refl
word_of_style Stream = lit (codes "Stream") refl

style_plain : (s : Style) → IsPlain (style_prefix s)
style_plain Pipe = lit [] refl
style_plain Sequential = lit (codes "Sequential.") refl
style_plain Parallel = lit (codes "Parallel.") refl
style_plain Stream = lit (codes "Stream.") refl

enclosed_plain : (b : Bool) {text : List ℕ} → IsPlain text → IsPlain (enclosed b text)
enclosed_plain b h = chosen b (join (lit (codes "(") refl) (join h (lit (codes ")") refl))) h

before_cast_plain : (e : PlainExpr) → IsPlain (type_before_cast e)
before_cast_plain (expr place ty (literal w)) = chosen (is_int ty) (cast_plain ty) (lit [] refl)
before_cast_plain (expr place ty (counter c)) = lit [] refl
before_cast_plain (expr place ty (value v)) = lit [] refl
before_cast_plain (expr place ty (get_reg m)) = lit [] refl
before_cast_plain (expr place ty (get_arg m)) = lit [] refl
before_cast_plain (expr place ty (get_sram m indices)) = lit [] refl
before_cast_plain (expr place ty (get_line m row column)) = lit [] refl
before_cast_plain (expr place ty (deq m)) = lit [] refl
before_cast_plain (expr place ty (one o a)) = lit [] refl
before_cast_plain (expr place ty (two o a b)) = lit [] refl
before_cast_plain (expr place ty (shift left a by)) = lit [] refl
before_cast_plain (expr place ty (mux c a b)) = lit [] refl
before_cast_plain (expr place ty (cast a)) = lit [] refl

module _ (names : Names) (mem_is : (m : ℕ) → IsPlain (mem_name names m)) (val_is : (v : ℕ) → IsPlain (val_name names v)) (counter_is : (c : ℕ) → IsPlain (counter_name names c)) where
  -- ---- expressions

  mutual
    expr_plain : (least : ℕ) (e : PlainExpr) → IsPlain (expr_text names least e)
    expr_plain least (expr place ty kind) = enclosed_plain (nat_lt (level kind) least) (kind_is ty kind)

    kind_is : (ty : Ty) (kind : PlainExprKind) → IsPlain (kind_text names ty kind)
    kind_is ty (literal w) = literal_plain ty w
    kind_is ty (counter c) = counter_is c
    kind_is ty (value v) = val_is v
    kind_is ty (get_reg m) = mem_is m
    kind_is ty (get_arg m) = mem_is m
    kind_is ty (get_sram m indices) = join (mem_is m) (join (lit (codes "(") refl) (join (list_plain true indices) (lit (codes ")") refl)))
    kind_is ty (get_line m row column) = join (mem_is m) (join (lit (codes "(") refl) (join (expr_plain 0 row) (join (lit (codes ", ") refl) (join (expr_plain 0 column) (lit (codes ")") refl)))))
    kind_is ty (deq m) = join (mem_is m) (lit (codes ".deq()") refl)
    kind_is ty (one o a) = join (prefix_plain o ty) (expr_plain (operand_level o (starts_with_digit a)) a)
    kind_is ty (two o a b) = chosen (is_call o) (join (sign_plain o) (join (expr_plain 0 a) (join (lit (codes ", ") refl) (join (expr_plain 0 b) (lit (codes ")") refl))))) (join (expr_plain (op_level o) a) (join (sign_plain o) (expr_plain (op_level o + 1) b)))
    kind_is ty (shift left a by) = join (expr_plain 5 a) (join (chosen left (lit (codes " << ") refl) (lit (codes " >> ") refl)) (decimal_plain by))
    kind_is ty (mux c a b) = join (lit (codes "mux(") refl) (join (expr_plain 0 c) (join (lit (codes ", ") refl) (join (expr_plain 0 a) (join (lit (codes ", ") refl) (join (expr_plain 0 b) (lit (codes ")") refl))))))
    kind_is ty (cast a) = join (expr_plain 9 a) (join (before_cast_plain a) (cast_plain ty))

    list_plain : (first : Bool) (es : PlainExprs) → IsPlain (list_text names first es)
    list_plain first no_expr = lit [] refl
    list_plain first (more_expr e rest) = join (parted_plain first) (join (expr_plain 0 e) (list_plain false rest))

  whole_plain : (e : PlainExpr) → IsPlain (whole_text names e)
  whole_plain e = expr_plain 0 e

  -- ---- slices and counters

  par_plain : (par : ℕ) → IsPlain (par_text par)
  par_plain par = chosen (par == 1) (lit [] refl) (join (lit (codes " par ") refl) (decimal_plain par))

  span_plain : (s : PlainSpan) → IsPlain (span_text names s)
  span_plain (single e) = whole_plain e
  span_plain (range a b par) = join (whole_plain a) (join (lit (codes "::") refl) (join (whole_plain b) (par_plain par)))

  spans_plain : (first : Bool) (spans : List PlainSpan) → IsPlain (spans_text names first spans)
  spans_plain first [] = lit [] refl
  spans_plain first (s ∷ rest) = join (parted_plain first) (join (span_plain s) (spans_plain false rest))

  from_plain : (e : PlainExpr) → IsPlain (from_text names e)
  from_plain e = chosen (is_zero e) (lit [] refl) (join (whole_plain e) (lit (codes " until ") refl))

  counter_plain : (c : PlainCounter) → IsPlain (counter_text names c)
  counter_plain c = join (from_plain c.from) (join (whole_plain c.until) (join (lit (codes " by ") refl) (join (decimal_plain c.step) (par_plain c.par))))

  counters_plain : (first : Bool) (cs : List PlainCounter) → IsPlain (counters_text names first cs)
  counters_plain first [] = lit [] refl
  counters_plain first (c ∷ rest) = join (parted_plain first) (join (counter_plain c) (counters_plain false rest))

  bound_plain : (first : Bool) (cs : List PlainCounter) → IsPlain (bound_names names first cs)
  bound_plain first [] = lit [] refl
  bound_plain first (c ∷ rest) = join (parted_plain first) (join (counter_is c.number) (bound_plain false rest))

  binds_plain : (cs : List PlainCounter) → IsPlain (binds_text names cs)
  binds_plain [] = lit [] refl
  binds_plain (c ∷ []) = counter_is c.number
  binds_plain (c ∷ d ∷ rest) = join (lit (codes "(") refl) (join (bound_plain true (c ∷ d ∷ rest)) (lit (codes ")") refl))

  loop_plain : (cs : List PlainCounter) → IsPlain (loop_head names cs)
  unfolding loop_head
  loop_plain cs = join (lit (codes "(") refl) (join (counters_plain true cs) (join (lit (codes "){ ") refl) (join (binds_plain cs) (join (lit (codes " =>") refl) (lit (codes "\n") refl)))))

  -- ---- statements

  acc_plain : (acc : ℕ) → IsPlain (acc_head names acc)
  unfolding acc_head
  acc_plain acc = join (lit (codes "(") refl) (join (mem_is acc) (lit (codes ")") refl))

  block_plain : (s : Style) → IsPlain (block_head s)
  unfolding block_head
  block_plain s = join (word_of_style s) (join (lit (codes " {") refl) (lit (codes "\n") refl))

  foreach_plain : (s : Style) (cs : List PlainCounter) → IsPlain (foreach_head names s cs)
  unfolding foreach_head
  foreach_plain s cs = join (style_plain s) (join (lit (codes "Foreach") refl) (loop_plain cs))

  reduce_plain : (s : Style) (fold : Bool) (acc : ℕ) (cs : List PlainCounter) → IsPlain (reduce_head names s fold acc cs)
  unfolding reduce_head
  reduce_plain s fold acc cs = join (style_plain s) (join (chosen fold (lit (codes "Fold") refl) (lit (codes "Reduce") refl)) (join (acc_plain acc) (loop_plain cs)))

  mem_reduce_plain : (s : Style) (acc : ℕ) (cs : List PlainCounter) → IsPlain (mem_reduce_head names s acc cs)
  unfolding mem_reduce_head
  mem_reduce_plain s acc cs = join (style_plain s) (join (lit (codes "MemReduce") refl) (join (acc_plain acc) (loop_plain cs)))

  deeper_plain : {margin : List ℕ} → IsPlain margin → IsPlain (deeper margin)
  deeper_plain h = join h (lit (codes "  ") refl)

  end_plain : {margin : List ℕ} → IsPlain margin → IsPlain (end_text margin)
  unfolding end_text
  end_plain h = join h (lit (codes "}") refl)

  tail_plain : {margin : List ℕ} (c : Comb) → IsPlain margin → IsPlain (comb_tail margin c)
  unfolding comb_tail
  tail_plain c h = join (lit (codes "\n") refl) (join (end_plain h) (comb_plain c))

  reduce_tail_plain : {margin : List ℕ} (word : PlainExpr) (c : Comb) → IsPlain margin → IsPlain (reduce_tail names margin word c)
  unfolding reduce_tail
  reduce_tail_plain word c h = join (deeper_plain h) (join (whole_plain word) (tail_plain c h))

  mem_tail_plain : {margin : List ℕ} (part : ℕ) (c : Comb) → IsPlain margin → IsPlain (mem_reduce_tail names margin part c)
  unfolding mem_reduce_tail
  mem_tail_plain part c h = join (deeper_plain h) (join (mem_is part) (tail_plain c h))

  test_plain : (tested : ℕ) (test : PlainExpr) → IsPlain (fsm_test names tested test)
  unfolding fsm_test
  test_plain tested test = join (lit (codes "(") refl) (join (val_is tested) (join (lit (codes " => ") refl) (join (whole_plain test) (lit (codes "){ ") refl))))

  fsm_plain : (start : PlainExpr) (tested : ℕ) (test : PlainExpr) (state : ℕ) → IsPlain (fsm_head names start tested test state)
  unfolding fsm_head
  fsm_plain start tested test state = join (lit (codes "FSM(") refl) (join (whole_plain start) (join (lit (codes ")") refl) (join (test_plain tested test) (join (val_is state) (join (lit (codes " =>") refl) (lit (codes "\n") refl))))))

  next_plain : (last : ℕ) (next : PlainExpr) → IsPlain (fsm_tail names last next)
  unfolding fsm_tail
  next_plain last next = join (lit (codes "}{ ") refl) (join (val_is last) (join (lit (codes " => ") refl) (join (whole_plain next) (lit (codes " }") refl))))

  if_plain : (test : PlainExpr) → IsPlain (if_head names test)
  unfolding if_head
  if_plain test = join (lit (codes "if (") refl) (join (whole_plain test) (join (lit (codes ") {") refl) (lit (codes "\n") refl)))

  else_plain : {margin : List ℕ} (empty : Bool) → IsPlain margin → IsPlain (else_text margin empty)
  unfolding else_text
  else_plain empty h = chosen empty (lit [] refl) (join h (join (lit (codes "} else {") refl) (lit (codes "\n") refl)))

  slice_plain : (dram : ℕ) (spans : List PlainSpan) → IsPlain (slice_text names dram spans)
  slice_plain dram spans = join (mem_is dram) (join (lit (codes "(") refl) (join (spans_plain true spans) (lit (codes ")") refl)))

  places_plain : (dram places : ℕ) (count : PlainExpr) → IsPlain (places_text names dram places count)
  places_plain dram places count = join (mem_is dram) (join (lit (codes "(") refl) (join (mem_is places) (join (lit (codes ", ") refl) (join (whole_plain count) (lit (codes ")") refl)))))

  mutual
    body_plain : {margin : List ℕ} (body : PlainStmts) → IsPlain margin → IsPlain (body_text names margin body)
    body_plain no_stmt h = lit [] refl
    body_plain (more_stmt (stmt place kind) rest) h = join h (join (stmt_plain kind h) (join (lit (codes "\n") refl) (body_plain rest h)))

    stmt_plain : {margin : List ℕ} (kind : PlainStmtKind) → IsPlain margin → IsPlain (stmt_text names margin kind)
    stmt_plain (declare m) h = chosen (nat_lt m (length names.mems)) (mem_plain (slice_index_or names.mems m no_mem) (mem_is m)) (lit [] refl)
    stmt_plain (name v e) h = join (lit (codes "val ") refl) (join (val_is v) (join (lit (codes " = ") refl) (whole_plain e)))
    stmt_plain (set_reg m e) h = join (mem_is m) (join (lit (codes " := ") refl) (whole_plain e))
    stmt_plain (set_out m e) h = join (mem_is m) (join (lit (codes " := ") refl) (whole_plain e))
    stmt_plain (set_sram m indices e) h = join (mem_is m) (join (lit (codes "(") refl) (join (list_plain true indices) (join (lit (codes ") = ") refl) (whole_plain e))))
    stmt_plain (enq m e) h = join (mem_is m) (join (lit (codes ".enq(") refl) (join (whole_plain e) (lit (codes ")") refl)))
    stmt_plain (load_sram sram dram spans) h = join (mem_is sram) (join (lit (codes " load ") refl) (slice_plain dram spans))
    stmt_plain (load_line line dram spans) h = join (mem_is line) (join (lit (codes " load ") refl) (slice_plain dram spans))
    stmt_plain (store dram spans sram) h = join (slice_plain dram spans) (join (lit (codes " store ") refl) (mem_is sram))
    stmt_plain (gather sram dram places count) h = join (mem_is sram) (join (lit (codes " gather ") refl) (places_plain dram places count))
    stmt_plain (scatter dram places count sram) h = join (places_plain dram places count) (join (lit (codes " scatter ") refl) (mem_is sram))
    stmt_plain (block style body) h = join (block_plain style) (join (body_plain body (deeper_plain h)) (end_plain h))
    stmt_plain (foreach style counters body) h = join (foreach_plain style counters) (join (body_plain body (deeper_plain h)) (end_plain h))
    stmt_plain (reduce style fold acc counters body word c) h = join (reduce_plain style fold acc counters) (join (body_plain body (deeper_plain h)) (reduce_tail_plain word c h))
    stmt_plain (mem_reduce style acc counters body part c) h = join (mem_reduce_plain style acc counters) (join (body_plain body (deeper_plain h)) (mem_tail_plain part c h))
    stmt_plain (fsm start tested test state body last next) h = join (fsm_plain start tested test state) (join (body_plain body (deeper_plain h)) (join h (next_plain last next)))
    stmt_plain (branch test first second) h = join (if_plain test) (join (body_plain first (deeper_plain h)) (join (else_plain (is_empty second) h) (join (body_plain second (deeper_plain h)) (end_plain h))))

ports_plain : (mems : List PlainMem) → All IsDeclaration mems → IsPlain (ports_text mems)
ports_plain [] all = lit [] refl
ports_plain (m ∷ rest) all =
    let more = ports_plain rest (All-tail IsDeclaration m rest all) in
    chosen (is_port m.kind) (join (mem_plain m (name_plain m.name (All-head IsDeclaration m rest all).name)) (join (lit (codes "\n") refl) more)) more

pub text_ascii : (p : PlainProgram) → IsProgram p → IsAscii (canonical_text p)
text_ascii p h =
    let body = body_plain (names_in p) (mem_named p.mems h.declarations) (named p.vals h.val_names) (named p.counters h.counter_names) p.body (lit (codes "  ") refl) in
    let all : IsPlain (canonical_text p) = join (ports_plain p.mems h.declarations) (join (lit (codes "Accel {") refl) (join (lit (codes "\n") refl) (join body (join (lit (codes "}") refl) (lit (codes "\n") refl))))) in
    ascii (canonical_text p) all.bytes
