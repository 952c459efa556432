-- Combinations with the same operations: they have the same memories, and are of one word alike.
use Rattle.std.proofs.Common.{◌≡◌, ℕ, suc, ◌+◌, ◌==◌, Bool, true, false, not, ◌&&◌, List, [], ◌∷◌, ◌++◌, length, Option, Some, None, refl, sym, ◌∙◌, ap, subst}
use Rattle.std.proofs.lemmas.Bool.{true≢false}
use Rattle.sp_words.specs.declared.types.Ty.{Ty}
use Rattle.sp_words.specs.declared.types.Ty.TheVariants.{Bit}
use Rattle.sp_tree.specs.declared.statement.Comb.{Comb}
use Rattle.sp_tree.specs.PlainProgram.{PlainMem}
use Rattle.sp_core.specs.declared.operation.OpKind.TheVariants.{Two, Mux}
use Rattle.sp_core.specs.PlainCore.{PlainOp}
use Rattle.sp_sugar.specs.Combination.{element_indices, is_last_element, operator_of}
use Rattle.sp_sugar.specs.Operations.{computes, read_op, write_op, literal_op, under, code, codes}
use Rattle.sp_sugar.specs.Values.{no_sources}
use Rattle.sp_lane_cores.specs.LanedMarks.{Combination, folded, reduced, element, combination_ops, is_other}
use Rattle.sp_lane_cores.specs.EndingsEnding.{IsOneWord, HasTwo}

-- the memory of the first operation
abbrev first_memory : List PlainOp → Option ℕ
first_memory [] = None
first_memory (op ∷ ops) = op.mem

-- that of the first one that has a mask
abbrev when_masked : Option ℕ → (here later : Option ℕ) → Option ℕ
when_masked None here later = later
when_masked (Some k) here later = here

abbrev masked_memory : List PlainOp → Option ℕ
masked_memory [] = None
masked_memory (op ∷ ops) = when_masked op.mask op.mem (masked_memory ops)

-- whether the last one has a mask
abbrev has_mask : Option ℕ → Bool
has_mask None = false
has_mask (Some k) = true

abbrev ends_masked : List PlainOp → Bool
ends_masked [] = false
ends_masked (op ∷ []) = has_mask op.mask
ends_masked (op ∷ next ∷ ops) = ends_masked (next ∷ ops)

-- what isn't one of these two, the second one if it is there
abbrev other_by : (first masked : Option ℕ) → ℕ → Bool
other_by (Some a) None m = not (m == a)
other_by (Some b) (Some a) m = not (m == a) && not (m == b)
other_by None masked m = true

abbrev TwoBy : (first masked : Option ℕ) → Type 0
TwoBy (Some b) (Some a) = a ≡ b → ⊥
TwoBy first masked = Unit {0}

-- operations without a mask
abbrev NoMasks : List PlainOp → Type 0
NoMasks [] = Unit {0}
NoMasks (op ∷ ops) = (op.mask ≡ None) × NoMasks ops

masked_past : (xs ys : List PlainOp) → NoMasks xs → masked_memory (xs ++ ys) ≡ masked_memory ys
masked_past [] ys h = refl
masked_past (x ∷ xs) ys h = ap (λ m. when_masked m x.mem (masked_memory (xs ++ ys))) h.0 ∙ masked_past xs ys h.1

masked_front : (xs ys : List PlainOp) (m : ℕ) → masked_memory xs ≡ Some m → masked_memory (xs ++ ys) ≡ Some m
masked_front [] ys m e = absurd (nothing e)
  where
    nothing : ◌≡◌ {A = Option ℕ} None (Some m) → ⊥
    nothing e = cc
masked_front (x ∷ xs) ys m e = by x.mask (λ h. masked_front xs ys m h) e
  where
    by : (o : Option ℕ) → (masked_memory xs ≡ Some m → masked_memory (xs ++ ys) ≡ Some m) → when_masked o x.mem (masked_memory xs) ≡ Some m → when_masked o x.mem (masked_memory (xs ++ ys)) ≡ Some m
    by None rest e = rest e
    by (Some k) rest e = e

last_masked : (xs : List PlainOp) (a b : PlainOp) → ends_masked (xs ++ a ∷ b ∷ []) ≡ has_mask b.mask
last_masked [] a b = refl
last_masked (x ∷ []) a b = refl
last_masked (x ∷ y ∷ xs) a b = last_masked (y ∷ xs) a b

-- the indices of an element
module _ (mems : List PlainMem) where
  indices_plain : (dims : List ℕ) (n c : ℕ) → NoMasks (codes mems no_sources n (element_indices c dims)).ops
  unfolding code codes
  indices_plain [] n c = tt
  indices_plain (d ∷ dims) n c = (refl, indices_plain dims (n + 1) (suc c))

-- the combination of an element
module _ (at : ℕ) (mems : List PlainMem) (word c : ℕ) (dims : List ℕ) (acc begun : ℕ) (ty : Ty) (comb : Comb) where
  abbrev front : List PlainOp
  front = read_op Bit begun [] ∷ (codes mems no_sources (at + 1) (element_indices c dims)).ops

  abbrev middle : List PlainOp
  middle = under at (read_op ty acc (codes mems no_sources (at + 1) (element_indices c dims)).words)
      ∷ computes (Two (operator_of comb)) ty ((at + 1 + length dims) ∷ word ∷ [])
      ∷ computes Mux ty (at ∷ (at + 1 + length dims + 1) ∷ word ∷ [])
      ∷ (codes mems no_sources (at + 1 + length dims + 3) (element_indices c dims)).ops

  abbrev writing : List PlainOp
  writing = write_op ty acc ((codes mems no_sources (at + 1 + length dims + 3) (element_indices c dims)).words ++ (at + 1 + length dims + 2) ∷ [])
      ∷ (code mems no_sources (at + 1 + length dims + 4 + length dims) (is_last_element c dims)).ops

  abbrev marking : PlainOp
  marking = under (code mems no_sources (at + 1 + length dims + 4 + length dims) (is_last_element c dims)).word
      (write_op Bit begun ((at + 1 + length dims + 4 + length dims + length (code mems no_sources (at + 1 + length dims + 4 + length dims) (is_last_element c dims)).ops) ∷ []))

  abbrev all : List PlainOp
  all = combination_ops at (element mems word c dims acc begun ty comb)

  element_masked : masked_memory all ≡ Some acc
  element_masked =
      masked_front (front ++ middle ++ writing) (literal_op Bit 1 ∷ marking ∷ []) acc
      (masked_front (front ++ middle) writing acc (masked_past front middle (refl, indices_plain mems dims (at + 1) c)))

  element_ends : ends_masked all ≡ true
  element_ends = last_masked (front ++ middle ++ writing) (literal_op Bit 1) marking

-- what a combination is, by its operations
other_is : (at : ℕ) (c : Combination) → is_other c ≡ other_by (first_memory (combination_ops at c)) (masked_memory (combination_ops at c))
other_is at (folded word acc ty comb) = refl
other_is at (reduced word acc begun ty comb) = refl
other_is at (element mems word c dims acc begun ty comb) = ap (other_by (Some begun)) (sym (element_masked at mems word c dims acc begun ty comb))

two_is : (at : ℕ) (c : Combination) → HasTwo c → TwoBy (first_memory (combination_ops at c)) (masked_memory (combination_ops at c))
two_is at (folded word acc ty comb) h = tt
two_is at (reduced word acc begun ty comb) h = h
two_is at (element mems word c dims acc begun ty comb) h = subst (TwoBy (Some begun)) (sym (element_masked at mems word c dims acc begun ty comb)) h

is_two : (at : ℕ) (c : Combination) → TwoBy (first_memory (combination_ops at c)) (masked_memory (combination_ops at c)) → HasTwo c
is_two at (folded word acc ty comb) h = tt
is_two at (reduced word acc begun ty comb) h = h
is_two at (element mems word c dims acc begun ty comb) h = subst (TwoBy (Some begun)) (element_masked at mems word c dims acc begun ty comb) h

word_is : (at : ℕ) (c : Combination) → IsOneWord c → ends_masked (combination_ops at c) ≡ false
word_is at (folded word acc ty comb) h = refl
word_is at (reduced word acc begun ty comb) h = refl
word_is at (element mems word c dims acc begun ty comb) h = absurd h

is_word : (at : ℕ) (c : Combination) → ends_masked (combination_ops at c) ≡ false → IsOneWord c
is_word at (folded word acc ty comb) h = tt
is_word at (reduced word acc begun ty comb) h = tt
is_word at (element mems word c dims acc begun ty comb) h = absurd (true≢false (sym (element_ends at mems word c dims acc begun ty comb) ∙ h))

module _ (at : ℕ) (c d : Combination) (same : combination_ops at c ≡ combination_ops at d) where
  pub same_others : is_other d ≡ is_other c
  same_others = other_is at d ∙ ap (λ ops. other_by (first_memory ops) (masked_memory ops)) (sym same) ∙ sym (other_is at c)

  pub same_two : HasTwo c → HasTwo d
  same_two h = is_two at d (subst (λ ops. TwoBy (first_memory ops) (masked_memory ops)) same (two_is at c h))

  pub same_word : IsOneWord c → IsOneWord d
  same_word h = is_word at d (ap ends_masked (sym same) ∙ word_is at c h)
