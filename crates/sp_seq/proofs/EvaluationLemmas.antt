-- How expressions are evaluated, operand by operand.
use Rattle.std.proofs.Common.{◌≡◌, ℕ, ◌<◌, zero, suc, Bool, true, false, Some, None, cond, List, [], ◌∷◌, ◌++◌, append_assoc, map, length, take, drop, get_or, Vec, Global, refl, sym, ◌∙◌, ap, subst, arith, All}
use mathlib.Core.Path.{fun_ext}
use Rattle.std.proofs.lemmas.List.{append-nil}
use Rattle.sp_words.specs.declared.kind.BinOp.{BinOp}
use Rattle.sp_words.specs.declared.kind.UnOp.{UnOp}
use Rattle.sp_words.specs.declared.types.Ty.{Ty}
use Rattle.sp_words.specs.Types.{int_type}
use Rattle.sp_words.specs.Words.{IsWord, word_cast}
use Rattle.sp_tree.specs.declared.expression.Expr.{Expr}
use Rattle.sp_tree.specs.declared.expression.ExprKind.{ExprKind, GetSram, GetSram', Row_of-Expr, end_of-Expr, more_of-Expr, items-the_row-Expr, items_hidden-the_row-Expr-0}
use mathlib.Core.Former.{Count}
use Rattle.sp_tree.specs.Expressions.{dims, element, word, word_of, words}
use Rattle.sp_tree.specs.Elements.{index_value, natural, are_inside, row_major}
use Rattle.sp_tree.specs.Accesses.{read_cell, read_line, read_word, dequeue}
use Rattle.sp_tree.specs.declared.statement.FaultKind.TheVariants.{Bounds}
use Rattle.sp_tree.specs.Operators.{one_word, two_word, shifted, chosen}
use Rattle.sp_tree.specs.Plain.{plain_kind, plain_expr, plain_exprs, plain_row}
use Rattle.sp_tree.specs.PlainExpression.{PlainExpr, PlainExprs, expr, literal, counter, value, get_reg, get_arg, get_sram, get_line, deq, one, two, shift, mux, cast, more_expr, type_of}
use Rattle.sp_tree.specs.PlainProgram.{PlainMem, PlainProgram}
use Rattle.sp_tree.specs.Step.{Step, Went, went, faulted, ◌>>=◌, ◌>>◌, pure, read, ensure, fault}
use Rattle.sp_tree.specs.Store.{Store}
use Rattle.sp_tree.specs.Typing.{Scope, Typed, KindTyped, IndicesTyped, expr_count}
use Rattle.sp_seq.specs.declared.state.State.{State}
use Rattle.sp_seq.specs.declared.state.Stop.{Stop}
use Rattle.sp_seq.specs.Evaluating.{CanEval, placed}
use Rattle.sp_seq.specs.Places.{place_in}
use Rattle.sp_seq.specs.States.{store_of, halted, Keeps}
use Rattle.sp_seq.proofs.SeesLemmas.{setting_later}
use Rattle.sp_seq.proofs.StepLemmas.{bind_went, bind_halted, bind_pure, bind_bind}

row_in : ExprKind → (n : Count) × Row_of-Expr n
row_in (GetSram' m _ row) = (_, row)
row_in _ = (_, end_of-Expr)

row_is : (n : _) (row : Row_of-Expr n) → plain_row row ≡ plain_exprs (items-the_row-Expr n row)
row_is n end_of-Expr = refl
row_is n (more_of-Expr at ty kind rest) = ap (more_expr (expr at ty (plain_kind kind))) (row_is _ rest)

pub plain-GetSram : (m : ℕ) (v : Vec Expr Global) → plain_kind (GetSram m v) ≡ get_sram m (plain_exprs v.items)
unfolding row_in
plain-GetSram m v =
    let row = row_in (GetSram m v) in
    ap (get_sram m) (row_is row.0 row.1 ∙ ap plain_exprs (items_hidden-the_row-Expr-0 v))

-- by what an expression is
module _ {mems : List PlainMem} {s : State} where
  pub kind_typed : (e : Expr) (k : ExprKind) (h : CanEval mems (plain_expr e) s) → e.kind ≡ k → KindTyped h.setting.program h.setting.scope (plain_kind k) e.ty
  kind_typed e k h is = subst (λ x. KindTyped h.setting.program h.setting.scope (plain_kind x) e.ty) is h.typed

  -- an operand
  pub operand : {e : PlainExpr} (h : CanEval mems e s) (x y : Expr) → x ≡ y → Typed h.setting.program h.setting.scope (plain_expr y) → CanEval mems (plain_expr x) s
  operand h x y is typed = record { setting = h.setting; typed = subst (λ z. Typed h.setting.program h.setting.scope (plain_expr z)) (sym is) typed }

  pub can_later : {e : PlainExpr} {t : State} → CanEval mems e s → Keeps s t → CanEval mems e t
  can_later h k = record { setting = setting_later h.setting k; typed = h.typed }

pub word_is : (mems : List PlainMem) (e : Expr) (k : ExprKind) (left : ℕ) (s : Store) → e.kind ≡ k → word mems (plain_expr e) left s ≡ word_of mems (plain_kind k) e.at e.ty left s
unfolding word
word_is mems e k left s is = ap (λ x. word_of mems (plain_kind x) e.at e.ty left s) is

module _ (mems : List PlainMem) (place : ℕ) (ty : Ty) (left : ℕ) (s : Store) where
  module _ (op : UnOp) (a : PlainExpr) where
    pub one_went : (x l : ℕ) (t : Store) → word mems a left s ≡ went x l t → word_of mems (one op a) place ty left s ≡ went (one_word op ty x) l t
    unfolding word pure
    one_went x l t e = bind_went (word mems a) _ left s x l t e

    pub one_halted : (stop : Stop) → word mems a left s ≡ halted stop → word_of mems (one op a) place ty left s ≡ halted stop
    unfolding word pure
    one_halted stop e = bind_halted (word mems a) _ left s stop e

  module _ (op : BinOp) (a b : PlainExpr) where
    pub two_went : (x l : ℕ) (t : Store) (y m : ℕ) (u : Store) → word mems a left s ≡ went x l t → word mems b l t ≡ went y m u → word_of mems (two op a b) place ty left s ≡ went (two_word op (type_of a) x y) m u
    unfolding word pure
    two_went x l t y m u e f = bind_went (word mems a) _ left s x l t e ∙ bind_went (word mems b) _ l t y m u f

    pub two_halted : (stop : Stop) → word mems a left s ≡ halted stop → word_of mems (two op a b) place ty left s ≡ halted stop
    unfolding word pure
    two_halted stop e = bind_halted (word mems a) _ left s stop e

    pub two_halted_later : (x l : ℕ) (t : Store) (stop : Stop) → word mems a left s ≡ went x l t → word mems b l t ≡ halted stop → word_of mems (two op a b) place ty left s ≡ halted stop
    unfolding word pure
    two_halted_later x l t stop e f = bind_went (word mems a) _ left s x l t e ∙ bind_halted (word mems b) _ l t stop f

  module _ (to_left : _) (a : PlainExpr) (by : ℕ) where
    pub shift_went : (x l : ℕ) (t : Store) → word mems a left s ≡ went x l t → word_of mems (shift to_left a by) place ty left s ≡ went (shifted to_left ty x by) l t
    unfolding word pure
    shift_went x l t e = bind_went (word mems a) _ left s x l t e

    pub shift_halted : (stop : Stop) → word mems a left s ≡ halted stop → word_of mems (shift to_left a by) place ty left s ≡ halted stop
    unfolding word pure
    shift_halted stop e = bind_halted (word mems a) _ left s stop e

  module _ (c a b : PlainExpr) where
    pub mux_went : (x l : ℕ) (t : Store) (y m : ℕ) (u : Store) (z n : ℕ) (v : Store) → word mems c left s ≡ went x l t → word mems a l t ≡ went y m u → word mems b m u ≡ went z n v → word_of mems (mux c a b) place ty left s ≡ went (chosen x y z) n v
    unfolding word pure
    mux_went x l t y m u z n v e f g = bind_went (word mems c) _ left s x l t e ∙ bind_went (word mems a) _ l t y m u f ∙ bind_went (word mems b) _ m u z n v g

    pub mux_halted : (stop : Stop) → word mems c left s ≡ halted stop → word_of mems (mux c a b) place ty left s ≡ halted stop
    unfolding word pure
    mux_halted stop e = bind_halted (word mems c) _ left s stop e

    pub mux_halted_second : (x l : ℕ) (t : Store) (stop : Stop) → word mems c left s ≡ went x l t → word mems a l t ≡ halted stop → word_of mems (mux c a b) place ty left s ≡ halted stop
    unfolding word pure
    mux_halted_second x l t stop e f = bind_went (word mems c) _ left s x l t e ∙ bind_halted (word mems a) _ l t stop f

    pub mux_halted_third : (x l : ℕ) (t : Store) (y m : ℕ) (u : Store) (stop : Stop) → word mems c left s ≡ went x l t → word mems a l t ≡ went y m u → word mems b m u ≡ halted stop → word_of mems (mux c a b) place ty left s ≡ halted stop
    unfolding word pure
    mux_halted_third x l t y m u stop e f g = bind_went (word mems c) _ left s x l t e ∙ bind_went (word mems a) _ l t y m u f ∙ bind_halted (word mems b) _ m u stop g

  module _ (a : PlainExpr) where
    pub cast_went : (x l : ℕ) (t : Store) → word mems a left s ≡ went x l t → word_of mems (cast a) place ty left s ≡ went (word_cast (type_of a) ty x) l t
    unfolding word pure
    cast_went x l t e = bind_went (word mems a) _ left s x l t e

    pub cast_halted : (stop : Stop) → word mems a left s ≡ halted stop → word_of mems (cast a) place ty left s ≡ halted stop
    unfolding word pure
    cast_halted stop e = bind_halted (word mems a) _ left s stop e

-- an operand behind a reference
pub eval_as : (mems : List PlainMem) (left : ℕ) (s : Store) (x y : Expr) (w : Went ℕ) → x ≡ y → word mems (plain_expr x) left s ≡ w → word mems (plain_expr y) left s ≡ w
eval_as mems left s x y w e r = ap (λ z. word mems (plain_expr z) left s) (sym e) ∙ r

-- leaves
module _ (mems : List PlainMem) (place : ℕ) (ty : Ty) (s : State) where
  pub count_went : (c w : ℕ) → w ≡ get_or s.counts.items c 0 → word_of mems (counter c) place ty s.left (store_of s) ≡ went w s.left (store_of s)
  unfolding word read store_of
  count_went c w e = ap (λ x. went x s.left (store_of s)) (sym e)

  pub value_went : (v w : ℕ) → w ≡ get_or s.values.items v 0 → word_of mems (value v) place ty s.left (store_of s) ≡ went w s.left (store_of s)
  unfolding word read store_of
  value_went v w e = ap (λ x. went x s.left (store_of s)) (sym e)

module _ (mems : List PlainMem) (place : ℕ) (ty : Ty) (left : ℕ) (s : Store) where
  pub literal_went : (w : ℕ) → word_of mems (literal w) place ty left s ≡ went w left s
  unfolding word pure
  literal_went w = refl

  pub reg_is : (m : ℕ) → word_of mems (get_reg m) place ty left s ≡ read_cell m 0 place left s
  unfolding word
  reg_is m = refl

  pub arg_is : (m : ℕ) → word_of mems (get_arg m) place ty left s ≡ read_word m 0 left s
  unfolding word
  arg_is m = refl

  pub deq_is : (m : ℕ) → word_of mems (deq m) place ty left s ≡ dequeue m place left s
  unfolding word
  deq_is m = refl

  -- an element of an SRAM
  pub sram_went : (m : ℕ) (es : PlainExprs) (at l : ℕ) (t : Store) → placed mems m place es left s ≡ went at l t → word_of mems (get_sram m es) place ty left s ≡ read_cell m at place l t
  unfolding word placed
  sram_went m es at l t e =
      sym (bind_bind (words mems es) (λ is. element mems m place is) (λ k. read_cell m k place) left s)
      ∙ bind_went (words mems es >>= (λ is. element mems m place is)) (λ k. read_cell m k place) left s at l t e

  pub sram_halted : (m : ℕ) (es : PlainExprs) (stop : Stop) → placed mems m place es left s ≡ halted stop → word_of mems (get_sram m es) place ty left s ≡ halted stop
  unfolding word placed
  sram_halted m es stop e =
      sym (bind_bind (words mems es) (λ is. element mems m place is) (λ k. read_cell m k place) left s)
      ∙ bind_halted (words mems es >>= (λ is. element mems m place is)) (λ k. read_cell m k place) left s stop e

  -- a cell of a line buffer
  module _ (m : ℕ) (row column : PlainExpr) where
    pub line_halted : (stop : Stop) → word mems row left s ≡ halted stop → word_of mems (get_line m row column) place ty left s ≡ halted stop
    unfolding word
    line_halted stop e = bind_halted (word mems row) _ left s stop e

    pub line_halted_later : (r l : ℕ) (t : Store) (stop : Stop) → word mems row left s ≡ went r l t → word mems column l t ≡ halted stop → word_of mems (get_line m row column) place ty left s ≡ halted stop
    unfolding word
    line_halted_later r l t stop e f = bind_went (word mems row) _ left s r l t e ∙ bind_halted (word mems column) _ l t stop f

    line_checked : (r c l : ℕ) (t : Store) → Bool → Went ℕ
    line_checked r c l t b = (ensure b Bounds place >> read_line m (natural (index_value r)) (natural (index_value c)) place) l t

    pub line_went : (r l : ℕ) (t : Store) (c n : ℕ) (u : Store) → word mems row left s ≡ went r l t → word mems column l t ≡ went c n u
        → are_inside (dims mems m) (map index_value (r ∷ c ∷ [])) ≡ true → natural (index_value r) ≡ r → natural (index_value c) ≡ c
        → word_of mems (get_line m row column) place ty left s ≡ read_line m r c place n u
    unfolding word ◌>>=◌ pure line_checked
    line_went r l t c n u e f b i j =
        bind_went (word mems row) _ left s r l t e ∙ bind_went (word mems column) _ l t c n u f ∙ ap (line_checked r c n u) b
        ∙ ap (λ x. read_line m x (natural (index_value c)) place n u) i ∙ ap (λ x. read_line m r x place n u) j

    pub line_outside : (r l : ℕ) (t : Store) (c n : ℕ) (u : Store) → word mems row left s ≡ went r l t → word mems column l t ≡ went c n u
        → are_inside (dims mems m) (map index_value (r ∷ c ∷ [])) ≡ false → word_of mems (get_line m row column) place ty left s ≡ faulted Bounds place
    unfolding word ◌>>=◌ fault line_checked
    line_outside r l t c n u e f b = bind_went (word mems row) _ left s r l t e ∙ bind_went (word mems column) _ l t c n u f ∙ ap (line_checked r c n u) b

module _ (mems : List PlainMem) (m place : ℕ) (es : PlainExprs) (left : ℕ) (s : Store) where
  pub placed_went : (is : List ℕ) (l : ℕ) (t : Store) → words mems es left s ≡ went is l t → placed mems m place es left s ≡ element mems m place is l t
  unfolding placed
  placed_went is l t e = bind_went (words mems es) _ left s is l t e

  pub placed_halted : (stop : Stop) → words mems es left s ≡ halted stop → placed mems m place es left s ≡ halted stop
  unfolding placed
  placed_halted stop e = bind_halted (words mems es) _ left s stop e

-- the place of an element, by what its check gives
module _ (mems : List PlainMem) (m place : ℕ) (is : List ℕ) (left : ℕ) (s : Store) where
  element_checked : Bool → Went ℕ
  element_checked b = (ensure b Bounds place >> pure (row_major (dims mems m) (map (λ i. natural (index_value i)) is))) left s

  by_check : (b : Bool) (k : ℕ) → cond b (Some (row_major (dims mems m) (map (λ i. natural (index_value i)) is))) None ≡ Some k → element_checked b ≡ went k left s
  unfolding ◌>>=◌ pure element_checked
  by_check true k e = let same : row_major (dims mems m) (map (λ i. natural (index_value i)) is) ≡ k = cc in ap (λ x. went x left s) same
  by_check false k e = absurd (cc)

  not_by_check : (b : Bool) → cond b (Some (row_major (dims mems m) (map (λ i. natural (index_value i)) is))) None ≡ None → element_checked b ≡ faulted Bounds place
  unfolding ◌>>=◌ pure fault element_checked
  not_by_check true e = absurd (cc)
  not_by_check false e = refl

  pub element_went : (k : ℕ) → place_in (dims mems m) is ≡ Some k → element mems m place is left s ≡ went k left s
  unfolding element_checked
  element_went k e = by_check (are_inside (dims mems m) (map index_value is)) k e

  pub element_outside : place_in (dims mems m) is ≡ None → element mems m place is left s ≡ faulted Bounds place
  unfolding element_checked
  element_outside e = not_by_check (are_inside (dims mems m) (map index_value is)) e

joined : (rest : Step (List ℕ)) (done : List ℕ) (w l : ℕ) (t : Store) → (rest >>= (λ others. pure (w ∷ others) >>= (λ more. pure (done ++ more)))) l t ≡ (rest >>= (λ others. pure ((done ++ w ∷ []) ++ others))) l t
unfolding ◌>>=◌ pure
joined rest done w l t = ap (λ f. (rest >>= f) l t) (fun_ext (λ others. ap pure (sym (append_assoc done (w ∷ []) others))))

-- several expressions, of which these are done
pub words_left : List PlainMem → (done : List ℕ) → List Expr → Step (List ℕ)
words_left mems done es = words mems (plain_exprs es) >>= (λ others. pure (done ++ others))

module _ (mems : List PlainMem) (left : ℕ) (s : Store) where
  pub none_done : (es : List Expr) → words mems (plain_exprs es) left s ≡ words_left mems [] es left s
  unfolding words_left
  none_done es = sym (bind_pure (words mems (plain_exprs es)) left s)

  pub all_done : (done : List ℕ) → words_left mems done [] left s ≡ went done left s
  unfolding word words_left ◌>>=◌ pure
  all_done done = ap (λ ws. went ws left s) (append-nil done)

  pub one_done : (done : List ℕ) (e : Expr) (es : List Expr) (w l : ℕ) (t : Store) → word mems (plain_expr e) left s ≡ went w l t → words_left mems done (e ∷ es) left s ≡ words_left mems (done ++ w ∷ []) es l t
  unfolding word words_left pure
  one_done done e es w l t r =
      bind_bind (word mems (plain_expr e)) _ (λ others. pure (done ++ others)) left s
      ∙ bind_went (word mems (plain_expr e)) _ left s w l t r
      ∙ bind_bind (words mems (plain_exprs es)) (λ others. pure (w ∷ others)) (λ others. pure (done ++ others)) l t
      ∙ joined (words mems (plain_exprs es)) done w l t

  pub one_halted_of : (done : List ℕ) (e : Expr) (es : List Expr) (stop : Stop) → word mems (plain_expr e) left s ≡ halted stop → words_left mems done (e ∷ es) left s ≡ halted stop
  unfolding word words_left
  one_halted_of done e es stop r =
      bind_bind (word mems (plain_expr e)) _ (λ others. pure (done ++ others)) left s ∙ bind_halted (word mems (plain_expr e)) _ left s stop r

-- how many, and that each is typed
pub count-exprs : (es : List Expr) → expr_count (plain_exprs es) ≡ length es
count-exprs [] = refl
count-exprs (e ∷ es) = let h = count-exprs es in omega arith

pub index_typed : (p : PlainProgram) (scope : Scope) (es : List Expr) → IndicesTyped p scope (plain_exprs es) → (k : ℕ) (x : Expr) → k < length es → x ≡ get_or es k x → Typed p scope (plain_expr x) × (x.ty ≡ int_type)
index_typed p scope [] h k x l e = absurd (omega arith)
index_typed p scope (y ∷ es) h zero x l e = subst (λ (z : Expr). Typed p scope (plain_expr z) × (z.ty ≡ int_type)) (sym e) (h.0, h.1)
index_typed p scope (y ∷ es) h (suc k) x l e = index_typed p scope es h.2 k x (omega arith) e

-- an element of an SRAM under references
pub sram_can : {mems : List PlainMem} {s : State} (e : Expr) (m : ℕ) (v : Vec Expr Global) (h : CanEval mems (plain_expr e) s) → e.kind ≡ GetSram m v → (n : ℕ) (xs : List Expr) → n ≡ m → xs ≡ v.items
    → CanEval mems (expr e.at e.ty (get_sram n (plain_exprs xs))) s
sram_can {mems = mems} {s = s} e m v h is n xs f g =
    let all = subst (λ k. KindTyped h.setting.program h.setting.scope k e.ty) (plain-GetSram m v) (kind_typed e (GetSram m v) h is) in
    record { setting = h.setting; typed = subst (λ ys. KindTyped h.setting.program h.setting.scope (get_sram n (plain_exprs ys)) e.ty) (sym g) (subst (λ i. KindTyped h.setting.program h.setting.scope (get_sram i (plain_exprs v.items)) e.ty) (sym f) all) }

-- what holds after some of several expressions
pub record WordsGo (mems : List PlainMem) (start : State) (all : List Expr) (now : State) (found : List ℕ) (k : ℕ) : Type 0 where
  pub ran : words mems (plain_exprs all) start.left (store_of start) ≡ words_left mems (take k found) (drop k all) now.left (store_of now)
  pub keeps : Keeps start now
  pub fits : All (IsWord int_type) (take k found)
