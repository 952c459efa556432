-- The operations of an element's indices, and the parts of what is done for an element.
use Rattle.std.proofs.Common.{◌≡◌, ◌+◌, ℕ, suc, List, [], ◌∷◌, ◌++◌, length, refl, sym, ◌∙◌, ap, append_assoc, length-append, Some, arith}
use Rattle.sp_words.specs.declared.types.Ty.{Ty}
use Rattle.sp_words.specs.Types.{int_type}
use Rattle.sp_tree.specs.declared.statement.Comb.{Comb}
use Rattle.sp_tree.specs.PlainProgram.{PlainMem}
use Rattle.sp_core.specs.PlainCore.{PlainOp, inner}
use Rattle.sp_words.specs.declared.types.Ty.TheVariants.{Bit}
use Rattle.sp_core.specs.declared.operation.OpKind.TheVariants as kind
use Rattle.sp_sugar.specs.Numbers.{mem_number}
use Rattle.sp_sugar.specs.Combination.{operator_of, element_indices, element_loop, element_counters, is_last_element}
use Rattle.sp_sugar.specs.Operations.{Code, Codes, computes, counter_op, literal_op, read_op, write_op, under, ending_in, alone, more_codes, code, code_of, codes}
use Rattle.sp_sugar.specs.Values.{Sources, no_sources}
use Rattle.sp_operations.specs.Elements.{index_ops, index_places, value_code, element_word, element_end, element_all}

pub index_count : (c : ℕ) (dims : List ℕ) → length (index_ops c dims) ≡ length dims
index_count c [] = refl
index_count c (d ∷ dims) = ap suc (index_count (suc c) dims)

abbrev index_codes : (at c : ℕ) → List ℕ → Codes
index_codes at c dims = record { ops = index_ops c dims; words = index_places at dims }

pub codes_are : (mems : List PlainMem) (sources : Sources) (at c : ℕ) (dims : List ℕ) → codes mems sources at (element_indices c dims) ≡ index_codes at c dims
unfolding code code_of codes
codes_are mems sources at c [] = refl
codes_are mems sources at c (d ∷ dims) = ap (more_codes (alone at (counter_op int_type c))) (codes_are mems sources (at + 1) (suc c) dims)

pub value_is : (mems : List PlainMem) (at c : ℕ) (dims : List ℕ) (part : ℕ) (ty : Ty) → value_code mems at c dims part ty ≡ ending_in at (index_ops c dims) (read_op ty (mem_number mems part) (index_places at dims))
unfolding value_code code code_of codes
value_is mems at c dims part ty = ap (λ x. ending_in at x.ops (read_op ty (mem_number mems part) x.words)) (codes_are mems no_sources at c dims)

-- all that is done for an element, by the operations of its indices, their number, and the test with its place
abbrev all_of : (indices again : Codes) (n p : ℕ) (last : ℕ → Code) (at word acc begun : ℕ) → Ty → Comb → List PlainOp
all_of i a n p last at word acc begun ty comb =
    read_op Bit begun [] ∷ i.ops ++
    under at (read_op ty acc i.words) ∷
    computes (kind.Two (operator_of comb)) ty ((at + 1 + n) ∷ word ∷ []) ∷
    computes kind.Mux ty (at ∷ (at + 1 + n + 1) ∷ word ∷ []) ∷ a.ops ++
    write_op ty acc (a.words ++ (at + 1 + n + 2) ∷ []) ∷ (last p).ops ++
    literal_op Bit 1 ∷
    under (last p).word (write_op Bit begun ((p + length (last p).ops) ∷ [])) ∷ []

joined : {A : Type 0} (x a l o : List A) (u c m w : A)
    → ((x ++ u ∷ c ∷ m ∷ a) ++ w ∷ l) ++ o ≡ (x ++ u ∷ c ∷ m ∷ []) ++ ((a ++ w ∷ l) ++ o)
joined x a l o u c m w = simp append_assoc

pub element_parts : (mems : List PlainMem) (at word c : ℕ) (dims : List ℕ) (acc begun : ℕ) (ty : Ty) (comb : Comb)
    → element_all mems at word c dims acc begun ty comb
    ≡ element_word at word c dims acc begun ty comb ++ element_end mems (at + 1 + length (index_ops c dims) + 3) (at + 1 + length (index_ops c dims) + 2) c dims acc begun ty
unfolding element_all element_word element_end
element_parts mems at word c dims acc begun ty comb =
    let last : ℕ → Code = λ p. code mems no_sources p (is_last_element c dims) in
    let n : ℕ = length (index_ops c dims) in
    let place : at + 1 + n + 4 + n ≡ at + 1 + n + 3 + n + 1 = omega arith in
    ap (λ x. all_of x (codes mems no_sources (at + 1 + length dims + 3) (element_indices c dims)) (length dims) (at + 1 + length dims + 4 + length dims) last at word acc begun ty comb) (codes_are mems no_sources (at + 1) c dims)
    ∙ ap (λ x. all_of (index_codes (at + 1) c dims) x (length dims) (at + 1 + length dims + 4 + length dims) last at word acc begun ty comb) (codes_are mems no_sources (at + 1 + length dims + 3) c dims)
    ∙ ap (λ k. all_of (index_codes (at + 1) c dims) (index_codes (at + 1 + k + 3) c dims) k (at + 1 + k + 4 + k) last at word acc begun ty comb) (sym (index_count c dims))
    ∙ ap (λ p. all_of (index_codes (at + 1) c dims) (index_codes (at + 1 + n + 3) c dims) n p last at word acc begun ty comb) place
    ∙ joined (read_op Bit begun [] ∷ index_ops c dims) (index_ops c dims) (last (at + 1 + n + 3 + n + 1)).ops
    (literal_op Bit 1 ∷ under (last (at + 1 + n + 3 + n + 1)).word (write_op Bit begun ((at + 1 + n + 3 + n + 1 + length (last (at + 1 + n + 3 + n + 1)).ops) ∷ [])) ∷ [])
    (under at (read_op ty acc (index_places (at + 1) dims)))
    (computes (kind.Two (operator_of comb)) ty ((at + 1 + n) ∷ word ∷ []))
    (computes kind.Mux ty (at ∷ (at + 1 + n + 1) ∷ word ∷ []))
    (write_op ty acc (index_places (at + 1 + n + 3) dims ++ (at + 1 + n + 2) ∷ []))

pub word_count : (at word c : ℕ) (dims : List ℕ) (acc begun : ℕ) (ty : Ty) (comb : Comb) → length (element_word at word c dims acc begun ty comb) ≡ 1 + length (index_ops c dims) + 3
unfolding element_word
word_count at word c dims acc begun ty comb = simp length-append (omega arith)

-- the word and the end, one after the other
pub after_word : (mems : List PlainMem) (before one two : List PlainOp) (word place c : ℕ) (dims : List ℕ) (acc begun : ℕ) (ty : Ty) (comb : Comb)
    → one ≡ before ++ element_word (length before) word c dims acc begun ty comb → place ≡ length before + 1 + length (index_ops c dims) + 2
    → two ≡ one ++ element_end mems (length one) place c dims acc begun ty
    → two ≡ before ++ element_all mems (length before) word c dims acc begun ty comb
after_word mems before one two word place c dims acc begun ty comb e f g =
    let at : length one ≡ length before + 1 + length (index_ops c dims) + 3 = ap length e ∙ length-append before (element_word (length before) word c dims acc begun ty comb) ∙ omega (arith, word_count (length before) word c dims acc begun ty comb) in
    let end : element_end mems (length one) place c dims acc begun ty ≡ element_end mems (length before + 1 + length (index_ops c dims) + 3) (length before + 1 + length (index_ops c dims) + 2) c dims acc begun ty =
    ap (λ k. element_end mems k place c dims acc begun ty) at ∙ ap (λ k. element_end mems (length before + 1 + length (index_ops c dims) + 3) k c dims acc begun ty) f in
    g ∙ ap (λ xs. one ++ xs) end ∙ ap (λ xs. xs ++ element_end mems (length before + 1 + length (index_ops c dims) + 3) (length before + 1 + length (index_ops c dims) + 2) c dims acc begun ty) e
    ∙ append_assoc before _ _ ∙ ap (λ xs. before ++ xs) (sym (element_parts mems (length before) word c dims acc begun ty comb))

pub loop_is : (mems : List PlainMem) (c : ℕ) (dims : List ℕ) (part acc begun : ℕ) (ty : Ty) (comb : Comb)
    → element_loop mems c dims part acc begun ty comb
    ≡ inner (element_counters c dims) []
    ((value_code mems 0 c dims part ty).ops ++ element_all mems (length (value_code mems 0 c dims part ty).ops) (value_code mems 0 c dims part ty).word c dims acc begun ty comb)
    (Some (length (value_code mems 0 c dims part ty).ops))
unfolding value_code element_all
loop_is mems c dims part acc begun ty comb = refl
