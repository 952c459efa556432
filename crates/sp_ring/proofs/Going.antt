-- Places that go round.
use Rattle.std.proofs.Common.{◌≡◌, ℕ, zero, suc, ◌+◌, ◌-◌, ◌%◌, ◌^◌, ◌<◌, ◌≤◌, ◌==◌, ◌⊎◌, inl, inr, Bool, true, false, nat_lt, if◌then◌else◌, [], Contains, refl, sym, ap, ◌∙◌, arith, lt-ltb, eq-eqb, ne_eqb}
use Rattle.std.proofs.lemmas.Bool.{cases_lt, cases_eq}
use Rattle.sp_words.specs.declared.types.Ty.{Ty}
use Rattle.sp_words.specs.Types.{signed_of, width_of}
use Rattle.sp_words.specs.WholeNumbers.{modulo}
use Rattle.sp_words.specs.Words.{value_of, has_sign, wrap, word_add}
use Rattle.sp_netlist.specs.Draft.{Draft}
use Rattle.sp_netlist.specs.Signals.{Signals, Holds}
use Rattle.sp_gates.specs.Grows.{Fills}
use Rattle.sp_gates.specs.Tested.{is_on}
use Rattle.sp_gates.proofs.Words.{always}
use Rattle.sp_taps.specs.declared.store.Store.{Store}
use Rattle.sp_taps.specs.Wires.{AreWires}
use Rattle.sp_bank_ports.proofs.Wires.{wire_beside}
use Rattle.sp_ring.specs.Places.{wrapped, moved_place, CountsPlaces}

-- a sum of numbers without a sign
pub sum_is : (ty : Ty) → signed_of ty ≡ false → (a b : ℕ) → word_add ty a b ≡ (a + b) % 2 ^ width_of ty
unfolding word_add wrap modulo value_of has_sign
sum_is ty plain a b = rw plain refl

within : (len n : ℕ) → n < len → wrapped len n ≡ n
within len n l = ap (λ (b : Bool). if b then n else n - len) (lt-ltb n len l)

past : (len n : ℕ) → len ≤ n → wrapped len n ≡ n - len
past len n l = ap (λ (b : Bool). if b then n else n - len) (not_below (nat_lt n len) refl)
  where
    not_below : (b : Bool) → nat_lt n len ≡ b → nat_lt n len ≡ false
    not_below false e = e
    not_below true e = absurd (grind arith)

pub wrapped_cases : (len n : ℕ) → ((n < len) × (wrapped len n ≡ n)) ⊎ ((len ≤ n) × (wrapped len n ≡ n - len))
wrapped_cases len n = go (cases_lt n len)
  where
    go : (n < len) ⊎ (len ≤ n) → ((n < len) × (wrapped len n ≡ n)) ⊎ ((len ≤ n) × (wrapped len n ≡ n - len))
    go (inl l) = inl (l, within len n l)
    go (inr l) = inr (l, past len n l)

-- the gates of the next place
pub next_is : (len place net one more last none number : ℕ) → 1 ≤ len → len < 2 ^ 31 → place < len → one ≡ 1 → number ≡ len - 1 → more ≡ (place + one) % 2 ^ 32 → last ≡ (if place == number then 1 else 0) → none ≡ 0
    → net ≡ (if last == 1 then none else more) → net ≡ wrapped len (place + 1)
next_is len place net one more last none number some small below e f g h k n = go (cases_eq place number)
  where
    go : (place ≡ number) ⊎ (place ≡ number → ⊥) → net ≡ wrapped len (place + 1)
    go (inl same) =
        let bit : last ≡ 1 = h ∙ ap (λ (b : Bool). if b then 1 else 0) (eq-eqb place number same) in
        n ∙ ap (λ (b : Bool). if b then none else more) (eq-eqb last 1 bit) ∙ k ∙ sym (past len (place + 1) (omega (arith, same, f, some)) ∙ omega (arith, same, f, some))
    go (inr other) =
        let bit : last ≡ 0 = h ∙ ap (λ (b : Bool). if b then 1 else 0) (ne_eqb place number other) in
        let off : (last == 1) ≡ false = ap (λ m. m == 1) bit in
        let less : place + 1 < len = omega (arith, below, other, f, some) in
        n ∙ ap (λ (b : Bool). if b then none else more) off ∙ g ∙ omega (arith, e, less, small) ∙ sym (within len (place + 1) less)

pub moved_is : (len place next going none net fresh on : ℕ) → next ≡ wrapped len (place + 1) → going ≡ (if on == 1 then next else place) → none ≡ 0 → net ≡ (if fresh == 1 then none else going) → net ≡ moved_place len (fresh == 1) (on == 1) place
moved_is len place next going none net fresh on e f g h = h ∙ rw (f, e, g) refl

moved_below : (len : ℕ) (fresh on : Bool) (place : ℕ) → place < len → moved_place len fresh on place < len
moved_below len true on place l = omega (arith, l)
moved_below len false false place l = l
moved_below len false true place l = go (wrapped_cases len (place + 1))
  where
    go : (((place + 1) < len) × (wrapped len (place + 1) ≡ place + 1)) ⊎ ((len ≤ place + 1) × (wrapped len (place + 1) ≡ place + 1 - len)) → wrapped len (place + 1) < len
    go (inl h) = let a = h.0 in let b = h.1 in omega (arith, a, b)
    go (inr h) = let a = h.0 in let b = h.1 in omega (arith, a, b, l)

module _ (s : Signals) (len on fresh net next one : ℕ) (some : 1 ≤ len) (holds : Holds (λ t. s.net t net) 0 (λ t. s.net t one) (λ t. s.net t next)) (ones : (t : ℕ) → s.net t one ≡ 1)
    (step : (t : ℕ) → s.net t net < len → s.net t next ≡ moved_place len (is_on s fresh t) (is_on s on t) (s.net t net)) where
  stays_below : (t : ℕ) → s.net t net < len
  stays_below zero = let first = holds.0 in omega (arith, first, some)
  stays_below (suc t) =
      let was = stays_below t in
      let now = always (λ t. s.net t net) (λ t. s.net t next) (λ t. s.net t one) 0 holds ones t ∙ step t was in
      let below = moved_below len (is_on s fresh t) (is_on s on t) (s.net t net) was in
      omega (arith, now, below)

  pub counts : CountsPlaces s len on fresh net
  counts = record {
    begins = holds.0;
    below = stays_below;
    goes = λ t. always (λ t. s.net t net) (λ t. s.net t next) (λ t. s.net t one) 0 holds ones t ∙ step t (stays_below t);
  }

none_in : (net : ℕ) → Contains [] net → ⊥
none_in net (k, l, e) = absurd (omega (arith, l))

-- the nets of a bank's ports, while gates are added
pub wires_beside : (a b : Draft) (width : ℕ) (store : Store) → Fills a b [] → AreWires a width store → AreWires b width store
wires_beside a b width store f was = record {
  write = wire_beside a b _ 1 [] f (none_in _) was.write;
  write_at = wire_beside a b _ 32 [] f (none_in _) was.write_at;
  word = wire_beside a b _ width [] f (none_in _) was.word;
  read = wire_beside a b _ 1 [] f (none_in _) was.read;
  read_at = wire_beside a b _ 32 [] f (none_in _) was.read_at;
}
