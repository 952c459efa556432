-- An expression that takes no word from a FIFO changes nothing.
use Rattle.std.proofs.Common.{◌≡◌, ℕ, Bool, not, List, [], ◌∷◌, None, sym, ◌∙◌, subst}
use Rattle.std.proofs.lemmas.Bool.{false≢true}
use Rattle.std.specs.Prelude.{map, slice_index, slice_index_or, IsTrue}
use Rattle.sp_words.specs.declared.types.Ty.{Ty}
use Rattle.sp_words.specs.Words.{word_cast}
use Rattle.sp_tree.specs.declared.statement.FaultKind.TheVariants.{Bounds}
use Rattle.sp_tree.specs.Accesses.{read_cell, read_line}
use Rattle.sp_tree.specs.Elements.{index_value, natural, are_inside}
use Rattle.sp_tree.specs.Expressions.{dims, element, word, word_of, words}
use Rattle.sp_tree.specs.Footprint.{Names, KindNames, AllName}
use Rattle.sp_tree.specs.Operators.{one_word, two_word, shifted, chosen}
use Rattle.sp_tree.specs.PlainExpression.{PlainExpr, PlainExprKind, PlainExprs, expr, literal, counter, value, get_reg, get_arg, get_sram, get_line, deq, one, two, shift, mux, cast, no_expr, more_expr, type_of}
use Rattle.sp_tree.specs.PlainProgram.{PlainProgram}
use Rattle.sp_tree.specs.Step.{went, ◌>>=◌, ◌>>◌, pure, ensure, read}
use Rattle.sp_tree.specs.Store.{Store, cells_of, rows_of, words_of}
use Rattle.sp_tree.specs.Streams.{is_fifo}
use Rattle.sp_tree.specs.Typing.{Scope, mem_at, Typed, KindTyped, IndicesTyped}
use Rattle.sp_sugar.proofs.MemoryLemmas.{word_found, passed, element_found}
use Rattle.sp_sugar.proofs.StepLemmas.{same_left, same_store, taken_apart}

abbrev Same : (left rest : ℕ) (s after : Store) → Type 0
Same left rest s after = (rest ≡ left) × (after ≡ s)

then_same : (left between rest : ℕ) (s u after : Store) → Same left between s u → Same between rest u after → Same left rest s after
then_same left between rest s u after a b = (b.0 ∙ a.0, b.1 ∙ a.1)

pub unchanged : {A : Type 0} (a b : A) (left rest : ℕ) (s after : Store) → went a left s ≡ went b rest after → (rest ≡ left) × (after ≡ s)
unchanged a b left rest s after e = (sym (same_left a b left rest s after e), sym (same_store a b left rest s after e))

abbrev pub is_no_fifo : PlainProgram → ℕ → Bool
is_no_fifo p m = not (is_fifo (mem_at p m).kind)

module _ (p : PlainProgram) (scope : Scope) where
  mutual
    unfolding word word_of words ◌>>=◌ pure read

    pub word_still : (e : PlainExpr) (left rest w : ℕ) (s after : Store) → Typed p scope e → Names (is_no_fifo p) e → word p.mems e left s ≡ went w rest after → (rest ≡ left) × (after ≡ s)
    word_still (expr place ty k) left rest w s after t n e = kind_still k place ty left rest w s after t n e

    kind_still : (k : PlainExprKind) (place : ℕ) (ty : Ty) (left rest w : ℕ) (s after : Store) → KindTyped p scope k ty → KindNames (is_no_fifo p) k → word_of p.mems k place ty left s ≡ went w rest after → (rest ≡ left) × (after ≡ s)
    kind_still (literal v) place ty left rest w s after t n e = unchanged v w left rest s after e
    kind_still (counter c) place ty left rest w s after t n e = unchanged (s.counts c) w left rest s after e
    kind_still (value v) place ty left rest w s after t n e = unchanged (s.values v) w left rest s after e
    kind_still (get_reg m) place ty left rest w s after t n e = let f = word_found place (slice_index_or (cells_of (s.held m)) 0 None) w left rest s after e in (f.1, f.2)
    kind_still (get_arg m) place ty left rest w s after t n e = unchanged (slice_index (words_of (s.held m)) 0) w left rest s after e
    kind_still (get_sram m indices) place ty left rest w s after t n e =
        let b = taken_apart (words p.mems indices) (λ is. ◌>>=◌ (element p.mems m place is) (λ i. read_cell m i place)) left s w rest after e in
        let d = taken_apart (element p.mems m place b.answer) (λ i. read_cell m i place) b.between b.store w rest after b.second in
        let at = element_found p m place b.answer d.answer b.between d.between b.store d.store d.first in
        let f = word_found place (slice_index_or (cells_of (d.store.held m)) d.answer None) w d.between rest d.store after d.second in
        then_same left b.between rest s b.store after (words_still indices left b.between b.answer s b.store t.2 n.1 b.first)
        (then_same b.between d.between rest b.store d.store after (at.2, at.3) (f.1, f.2))
    kind_still (get_line m row column) place ty left rest w s after t n e =
        let b = taken_apart (word p.mems row) (λ r. ◌>>=◌ (word p.mems column) (λ c. ◌>>◌ (ensure (are_inside (dims p.mems m) (map index_value (r ∷ c ∷ []))) Bounds place) (read_line m (natural (index_value r)) (natural (index_value c)) place))) left s w rest after e in
        let d = taken_apart (word p.mems column) (λ c. ◌>>◌ (ensure (are_inside (dims p.mems m) (map index_value (b.answer ∷ c ∷ []))) Bounds place) (read_line m (natural (index_value b.answer)) (natural (index_value c)) place)) b.between b.store w rest after b.second in
        let test = passed (are_inside (dims p.mems m) (map index_value (b.answer ∷ d.answer ∷ []))) Bounds place (read_line m (natural (index_value b.answer)) (natural (index_value d.answer)) place) w d.between rest d.store after d.second in
        let f = word_found place (slice_index_or (slice_index_or (rows_of (d.store.held m)) (natural (index_value b.answer)) []) (natural (index_value d.answer)) None) w d.between rest d.store after test.1 in
        then_same left b.between rest s b.store after (word_still row left b.between b.answer s b.store t.1 n.1 b.first)
        (then_same b.between d.between rest b.store d.store after (word_still column b.between d.between d.answer b.store d.store t.3 n.2 d.first) (f.1, f.2))
    kind_still (deq m) place ty left rest w s after t n e = absurd (false≢true (subst (λ k. IsTrue (not (is_fifo k))) t.is_kind n))
    kind_still (one op a) place ty left rest w s after t n e =
        let b = taken_apart (word p.mems a) (λ x. pure (one_word op ty x)) left s w rest after e in
        then_same left b.between rest s b.store after (word_still a left b.between b.answer s b.store t.0 n b.first) (unchanged (one_word op ty b.answer) w b.between rest b.store after b.second)
    kind_still (two op a c) place ty left rest w s after t n e =
        let b = taken_apart (word p.mems a) (λ x. ◌>>=◌ (word p.mems c) (λ y. pure (two_word op (type_of a) x y))) left s w rest after e in
        let d = taken_apart (word p.mems c) (λ y. pure (two_word op (type_of a) b.answer y)) b.between b.store w rest after b.second in
        then_same left b.between rest s b.store after (word_still a left b.between b.answer s b.store t.0 n.0 b.first)
        (then_same b.between d.between rest b.store d.store after (word_still c b.between d.between d.answer b.store d.store t.1 n.1 d.first) (unchanged (two_word op (type_of a) b.answer d.answer) w d.between rest d.store after d.second))
    kind_still (shift l a by) place ty left rest w s after t n e =
        let b = taken_apart (word p.mems a) (λ x. pure (shifted l ty x by)) left s w rest after e in
        then_same left b.between rest s b.store after (word_still a left b.between b.answer s b.store t.0 n b.first) (unchanged (shifted l ty b.answer by) w b.between rest b.store after b.second)
    kind_still (mux c x y) place ty left rest w s after t n e =
        let b = taken_apart (word p.mems c) (λ i. ◌>>=◌ (word p.mems x) (λ j. ◌>>=◌ (word p.mems y) (λ k. pure (chosen i j k)))) left s w rest after e in
        let d = taken_apart (word p.mems x) (λ j. ◌>>=◌ (word p.mems y) (λ k. pure (chosen b.answer j k))) b.between b.store w rest after b.second in
        let f = taken_apart (word p.mems y) (λ k. pure (chosen b.answer d.answer k)) d.between d.store w rest after d.second in
        then_same left b.between rest s b.store after (word_still c left b.between b.answer s b.store t.0 n.0 b.first)
        (then_same b.between d.between rest b.store d.store after (word_still x b.between d.between d.answer b.store d.store t.2 n.1 d.first)
        (then_same d.between f.between rest d.store f.store after (word_still y d.between f.between f.answer d.store f.store t.4 n.2 f.first) (unchanged (chosen b.answer d.answer f.answer) w f.between rest f.store after f.second)))
    kind_still (cast a) place ty left rest w s after t n e =
        let b = taken_apart (word p.mems a) (λ x. pure (word_cast (type_of a) ty x)) left s w rest after e in
        then_same left b.between rest s b.store after (word_still a left b.between b.answer s b.store t n b.first) (unchanged (word_cast (type_of a) ty b.answer) w b.between rest b.store after b.second)

    words_still : (es : PlainExprs) (left rest : ℕ) (ws : List ℕ) (s after : Store) → IndicesTyped p scope es → AllName (is_no_fifo p) es → words p.mems es left s ≡ went ws rest after → (rest ≡ left) × (after ≡ s)
    words_still no_expr left rest ws s after t n e = unchanged [] ws left rest s after e
    words_still (more_expr x xs) left rest ws s after t n e =
        let b = taken_apart (word p.mems x) (λ first. ◌>>=◌ (words p.mems xs) (λ others. pure (first ∷ others))) left s ws rest after e in
        let d = taken_apart (words p.mems xs) (λ others. pure (b.answer ∷ others)) b.between b.store ws rest after b.second in
        then_same left b.between rest s b.store after (word_still x left b.between b.answer s b.store t.0 n.0 b.first)
        (then_same b.between d.between rest b.store d.store after (words_still xs b.between d.between d.answer b.store d.store t.2 n.1 d.first) (unchanged (b.answer ∷ d.answer) ws d.between rest d.store after d.second))
