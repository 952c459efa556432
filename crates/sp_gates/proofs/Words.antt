-- The words of gates.
use Rattle.std.proofs.Common.{◌≡◌, ℕ, zero, suc, ◌+◌, ◌-◌, ◌*◌, ◌<◌, ◌≤◌, ◌==◌, Bool, true, false, if◌then◌else◌, max, refl, ap, ◌∙◌, arith, eq-eqb}
use Rattle.std.proofs.lemmas.Bool.{cond-true}
use Rattle.sp_words.specs.declared.types.Ty.{Ty}
use Rattle.sp_words.specs.declared.types.Ty.TheVariants.{Bit}
use Rattle.sp_words.specs.Words.{word_and, word_or, word_not, word_eq}
use Rattle.sp_netlist.specs.Signals.{Holds, op_word}
use Rattle.sp_netlist.specs.declared.cell.CellOp.TheVariants.{Eq}

pub and_bits : (a b : ℕ) → a ≤ 1 → b ≤ 1 → word_and Bit a b ≡ a * b
unfolding word_and
and_bits zero zero h k = refl
and_bits zero (suc zero) h k = refl
and_bits (suc zero) zero h k = refl
and_bits (suc zero) (suc zero) h k = refl
and_bits a (suc (suc b)) h k = absurd (omega (arith, k))
and_bits (suc (suc a)) b h k = absurd (omega (arith, h))

pub or_bits : (a b : ℕ) → a ≤ 1 → b ≤ 1 → word_or Bit a b ≡ max a b
unfolding word_or
or_bits zero zero h k = refl
or_bits zero (suc zero) h k = refl
or_bits (suc zero) zero h k = refl
or_bits (suc zero) (suc zero) h k = refl
or_bits a (suc (suc b)) h k = absurd (omega (arith, k))
or_bits (suc (suc a)) b h k = absurd (omega (arith, h))

pub not_bit : (a : ℕ) → word_not Bit a ≡ 1 - a
unfolding word_not
not_bit a = refl

pub product_bit : (a b : ℕ) → a ≤ 1 → b ≤ 1 → a * b ≤ 1
product_bit zero b h k = omega arith
product_bit (suc zero) b h k = omega (arith, k)
product_bit (suc (suc a)) b h k = absurd (omega (arith, h))

pub max_bit : (a b : ℕ) → a ≤ 1 → b ≤ 1 → max a b ≤ 1
max_bit zero zero h k = omega arith
max_bit zero (suc zero) h k = omega arith
max_bit (suc zero) zero h k = omega arith
max_bit (suc zero) (suc zero) h k = omega arith
max_bit a (suc (suc b)) h k = absurd (omega (arith, k))
max_bit (suc (suc a)) b h k = absurd (omega (arith, h))

pub equal_word : (ty : Ty) (a b number : ℕ) → b ≡ number → op_word Eq ty a b ≡ (if a == number then 1 else 0)
unfolding word_eq
equal_word ty a b number e = ap (λ n. if a == n then 1 else 0) e

pub chosen_bit : (test : Bool) → (if test then 1 else 0) ≤ 1
chosen_bit true = omega arith
chosen_bit false = omega arith

-- a register whose enable is always 1
pub always : (own next one : ℕ → ℕ) (first : ℕ) → Holds own first one next → ((t : ℕ) → one t ≡ 1) → (t : ℕ) → own (suc t) ≡ next t
always own next one first h is t = h.1 t ∙ cond-true (one t == 1) (next t) (own t) (eq-eqb (one t) 1 (is t))

-- one more register at the end of a delay
pub later_step : (own next base one : ℕ → ℕ) (n : ℕ) → Holds own 0 one next → ((t : ℕ) → one t ≡ 1) → ((t : ℕ) → next (t + n) ≡ base t) → (t : ℕ) → own (t + (n + 1)) ≡ base t
later_step own next base one n h is e t = let k : t + (n + 1) ≡ suc (t + n) = omega arith in ap own k ∙ always own next one 0 h is (t + n) ∙ e t

pub before_step : (own next one : ℕ → ℕ) (n : ℕ) → Holds own 0 one next → ((t : ℕ) → one t ≡ 1) → ((t : ℕ) → t < n → next t ≡ 0) → (t : ℕ) → t < n + 1 → own t ≡ 0
before_step own next one n h is e zero l = h.0
before_step own next one n h is e (suc t) l = always own next one 0 h is t ∙ e t (omega arith)

-- a register of a bit
pub held_bit : (own next one : ℕ → ℕ) (first : ℕ) → first ≤ 1 → Holds own first one next → ((t : ℕ) → one t ≡ 1) → ((t : ℕ) → next t ≤ 1) → (t : ℕ) → own t ≤ 1
held_bit own next one first small h is bits zero = let e = h.0 in omega (arith, e, small)
held_bit own next one first small h is bits (suc t) = let e = always own next one first h is t in let k = bits t in omega (arith, e, k)
