-- The nets of the words that an operation takes, one by one.
use Rattle.std.proofs.Common.{◌≡◌, ℕ, ◌+◌, ◌<◌, ◌==◌, true, List, map, length, slice_index, slice_index_or, if◌then◌else◌, sym, ap, ap₂, subst, ◌∙◌}
use Rattle.std.proofs.lemmas.Bool.{eqb-true}
use Rattle.std.proofs.lemmas.List.{get_or_default}
use Rattle.sp_core.specs.Operators.{chosen}
use Rattle.sp_words.specs.declared.types.Ty.{Ty}
use Rattle.sp_netlist.specs.Draft.{Draft}
use Rattle.sp_netlist.specs.Signals.{Signals}
use Rattle.sp_gates.specs.Nets.{HasNet}
use Rattle.sp_pipe.specs.declared.part.Act.{Act}
use Rattle.sp_pipe.specs.Values.{taken_width, takes, word_time, act_word}
use Rattle.sp_pipe.proofs.WordLemmas.{map_at}

module _ (operands : List ℕ) (i r : ℕ) (within : i < length operands) (is : r ≡ slice_index_or operands i r) where
  at_place : r ≡ slice_index operands i
  at_place = is ∙ get_or_default operands i r 0 within

  pub operand_word : (f : ℕ → ℕ) → f r ≡ slice_index (map f operands) i
  operand_word f = ap f at_place ∙ sym (map_at f operands i within)

  pub operand_net : (d : Draft) (act : Act) (ty : Ty) → ((j : ℕ) → j < length operands → HasNet d (slice_index operands j) (taken_width act ty (length operands) j)) → (width : ℕ) → taken_width act ty (length operands) i ≡ width → HasNet d r width
  operand_net d act ty nets width e = subst (λ w. HasNet d r w) e (subst (λ n. HasNet d n (taken_width act ty (length operands) i)) (sym at_place) (nets i within))

-- how many there are
pub taken_count : (act other : Act) (n k : ℕ) → takes act n ≡ true → act ≡ other → takes other n ≡ (n == k) → n ≡ k
taken_count act other n k h is e = eqb-true n k (sym e ∙ ap (λ a. takes a n) (sym is) ∙ h)

-- the word of an operation, where its kind is known
pub word_by : (s : Signals) (u : ℕ) (ty : Ty) (time net : ℕ) (ws : List ℕ) (act other : Act) → act ≡ other → s.net (u + word_time other time) net ≡ act_word s u ty time other ws → s.net (u + word_time act time) net ≡ act_word s u ty time act ws
word_by s u ty time net ws act other is h = subst (λ a. s.net (u + word_time a time) net ≡ act_word s u ty time a ws) (sym is) h

pub chosen_word : (a b c x y z : ℕ) → a ≡ x → b ≡ y → c ≡ z → (if a == 1 then b else c) ≡ chosen x y z
chosen_word a b c x y z p q r = ap (λ n. if n == 1 then b else c) p ∙ ap₂ (λ m n. if x == 1 then m else n) q r
