-- The types of a core's operations, and the widths of a circuit's.
use Rattle.std.proofs.Common.{◌≡◌, ℕ, zero, suc, ◌+◌, ◌<◌, ◌≤◌, ◌==◌, inl, inr, Bool, true, false, ◌&&◌, if◌then◌else◌, IsTrue, List, [], ◌∷◌, ◌++◌, length, replicate, slice_index, slice_index_or, Option, Some, None, refl, sym, ◌∙◌, ap, arith, nat_le}
use Rattle.std.proofs.lemmas.Bool.{true≢false, and_parts, eqb-true, le-leb, ne_eqb}
use Rattle.std.proofs.lemmas.Bool.Decides.{eqb_tells}
use Rattle.sp_words.specs.declared.types.Ty.{Ty}
use Rattle.sp_words.specs.declared.types.Ty.TheVariants.{Bit, Fix}
use Rattle.sp_words.specs.Types.{width_of, int_type}
use Rattle.sp_core.specs.declared.operation.OpKind.{OpKind}
use Rattle.sp_core.specs.Typed.{Given, gives, give_all, given_type, taken_types, is_type, is_same_flag, is_comparison}
use Rattle.sp_core.specs.Typed as typed
use Rattle.sp_pipe.specs.declared.part.Act.{Act}
use Rattle.sp_pipe.specs.declared.part.Act.TheVariants as act
use Rattle.sp_pipe.specs.Values.{gives_word, given_width, taken_width, takes, word_time, masked_time, time_of}
use Rattle.sp_part_runs.specs.ActsCircuits.{IsActOf, is_answered, answer_of, of_word, of_count, of_live, of_read, of_write, of_enq, of_deq, of_reset, of_one, of_two, of_shift, of_mux, of_cast}

-- types that are one are as wide
pub same_width : (t u : Ty) → is_type t u ≡ true → width_of t ≡ width_of u
same_width Bit Bit e = refl
same_width (Fix a) (Fix b) e =
    let p = and_parts (is_same_flag a.signed b.signed) ((a.whole == b.whole) && (a.frac == b.frac)) e in
    let q = and_parts (a.whole == b.whole) (a.frac == b.frac) p.1 in
    sums a.whole b.whole a.frac b.frac (eqb-true a.whole b.whole q.0) (eqb-true a.frac b.frac q.1)
  where
    sums : (a b c d : ℕ) → a ≡ b → c ≡ d → a + c ≡ b + d
    sums a b c d e f = omega (arith, e, f)
same_width Bit (Fix b) e = absurd (true≢false (sym e))
same_width (Fix a) Bit e = absurd (true≢false (sym e))

-- what gives a word of a type, gives one in a circuit that is as wide
pub gives_there : (kind : OpKind) (a : Act) (t u : Ty) → IsActOf kind a → typed.is_given (given_type kind t) u ≡ true → IsTrue (gives_word a) × (given_width a t ≡ width_of u)
gives_there _ _ t u (of_word w) e = (refl, same_width t u e)
gives_there _ _ t u (of_count c lane net) e = (refl, same_width t u e)
gives_there _ _ t u (of_live c first last net) e = (refl, same_width t u e)
gives_there _ _ t u (of_read net after) e = (refl, same_width t u e)
gives_there _ _ t u of_write e = absurd (true≢false (sym e))
gives_there _ _ t u of_enq e = absurd (true≢false (sym e))
gives_there _ _ t u (of_deq net after) e = (refl, same_width t u e)
gives_there _ _ t u of_reset e = absurd (true≢false (sym e))
gives_there _ _ t u (of_one op) e = (refl, same_width t u e)
gives_there _ _ t u (of_two op) e = (refl, by (is_comparison op) e)
  where
    by : (b : Bool) → is_type (if b then Bit else t) u ≡ true → (if b then 1 else width_of t) ≡ width_of u
    by true e = same_width Bit u e
    by false e = same_width t u e
gives_there _ _ t u (of_shift left by) e = (refl, same_width t u e)
gives_there _ _ t u of_mux e = (refl, same_width t u e)
gives_there _ _ t u (of_cast to) e = (refl, same_width to u e)

-- as many words are taken as there are types, each of its type
pub give_each : (earlier : Given) (places : List ℕ) (types : List Ty) → give_all earlier places types ≡ true → (length places ≡ length types) × ((j : ℕ) → j < length places → gives earlier (slice_index places j) (slice_index_or types j Bit) ≡ true)
give_each earlier [] [] e = (refl, λ j lt. absurd (omega (arith, lt)))
give_each earlier [] (ty ∷ types) e = absurd (true≢false (sym e))
give_each earlier (p ∷ places) [] e = absurd (true≢false (sym e))
give_each earlier (p ∷ places) (ty ∷ types) e =
    let q = and_parts (gives earlier p ty) (give_all earlier places types) e in
    let r = give_each earlier places types q.1 in
    (ap suc r.0, λ j lt. by j lt q.0 r.1)
  where
    by : (j : ℕ) → j < suc (length places) → gives earlier p ty ≡ true → ((j : ℕ) → j < length places → gives earlier (slice_index places j) (slice_index_or types j Bit) ≡ true)
        → gives earlier (slice_index (p ∷ places) j) (slice_index_or (ty ∷ types) j Bit) ≡ true
    by zero lt one rest = one
    by (suc j) lt one rest = rest j (omega (arith, lt))

-- a list of the same, and one more behind it
repeated_long : {A : Type 0} (n : ℕ) (x : A) → length (replicate n x) ≡ n
repeated_long zero x = refl
repeated_long (suc n) x = ap suc (repeated_long n x)

repeated_at : (n j : ℕ) (x o : Ty) → j < n → slice_index_or (replicate n x) j o ≡ x
repeated_at zero j x o lt = absurd (omega (arith, lt))
repeated_at (suc n) zero x o lt = refl
repeated_at (suc n) (suc j) x o lt = repeated_at n j x o (omega (arith, lt))

before_long : {A : Type 0} (n : ℕ) (x y : A) → length (replicate n x ++ y ∷ []) ≡ suc n
before_long zero x y = refl
before_long (suc n) x y = ap suc (before_long n x y)

before_at : (n j : ℕ) (x y o : Ty) → j < n → slice_index_or (replicate n x ++ y ∷ []) j o ≡ x
before_at zero j x y o lt = absurd (omega (arith, lt))
before_at (suc n) zero x y o lt = refl
before_at (suc n) (suc j) x y o lt = before_at n j x y o (omega (arith, lt))

behind_at : (n : ℕ) (x y o : Ty) → slice_index_or (replicate n x ++ y ∷ []) n o ≡ y
behind_at zero x y o = refl
behind_at (suc n) x y o = behind_at n x y o

-- how many words an act takes, where there are as many as types
pub takes_there : (kind : OpKind) (a : Act) (t : Ty) (n count : ℕ) → IsActOf kind a → count ≡ length (taken_types kind t n) → takes a count ≡ true
takes_there _ _ t n count (of_word w) e = ap (λ c. takes (act.Word w) c) e
takes_there _ _ t n count (of_count c lane net) e = ap (λ c. takes (act.Given net) c) e
takes_there _ _ t n count (of_live c first last net) e = ap (λ c. takes (act.Given net) c) e
takes_there _ _ t n count (of_read net after) e = refl
takes_there _ _ t n count of_write e = ap (λ c. takes act.Write c) (e ∙ before_long n int_type t) ∙ some n
  where
    some : (n : ℕ) → nat_le 1 (suc n) ≡ true
    some n = le-leb 1 (suc n) (omega arith)
takes_there _ _ t n count of_enq e = ap (λ c. takes act.Enq c) e
takes_there _ _ t n count (of_deq net after) e = ap (λ c. takes (act.Deq net after) c) e
takes_there _ _ t n count of_reset e = ap (λ c. takes act.Reset c) e
takes_there _ _ t n count (of_one op) e = ap (λ c. takes (act.One op) c) e
takes_there _ _ t n count (of_two op) e = ap (λ c. takes (act.Two op) c) e
takes_there _ _ t n count (of_shift left by) e = ap (λ c. takes (act.Shift left by) c) e
takes_there _ _ t n count of_mux e = ap (λ c. takes act.Mux c) e
takes_there _ _ t n count (of_cast to) e = ap (λ c. takes (act.Cast to) c) e

-- and how wide each is
one_wide : (t : Ty) (j : ℕ) → j < 1 → width_of t ≡ width_of (slice_index_or (t ∷ []) j Bit)
one_wide t zero lt = refl
one_wide t (suc j) lt = absurd (omega (arith, lt))

two_wide : (t : Ty) (j : ℕ) → j < 2 → width_of t ≡ width_of (slice_index_or (t ∷ t ∷ []) j Bit)
two_wide t zero lt = refl
two_wide t (suc zero) lt = refl
two_wide t (suc (suc j)) lt = absurd (omega (arith, lt))

mux_wide : (t : Ty) (count j : ℕ) → j < 3 → taken_width act.Mux t count j ≡ width_of (slice_index_or (Bit ∷ t ∷ t ∷ []) j Bit)
mux_wide t count zero lt = refl
mux_wide t count (suc zero) lt = ap (λ b. if b then 1 else width_of t) (ne_eqb 1 0 (λ e. absurd (omega (arith, e))))
mux_wide t count (suc (suc zero)) lt = ap (λ b. if b then 1 else width_of t) (ne_eqb 2 0 (λ e. absurd (omega (arith, e))))
mux_wide t count (suc (suc (suc j))) lt = absurd (omega (arith, lt))

below : (j n : ℕ) → j < suc n → (j ≡ n → ⊥) → j < n
below zero zero lt ne = absurd (ne refl)
below zero (suc n) lt ne = omega arith
below (suc j) zero lt ne = absurd (omega (arith, lt))
below (suc j) (suc n) lt ne = (let less = below j n (omega (arith, lt)) (λ e. ne (ap suc e)) in omega (arith, less))

last_one : (j n count : ℕ) → j + 1 ≡ count → count ≡ suc n → j ≡ n
last_one j n count f e = omega (arith, f, e)

its_number : (j n count : ℕ) → j ≡ n → count ≡ suc n → j + 1 ≡ count
its_number j n count f e = omega (arith, f, e)

write_wide : (t : Ty) (n count j : ℕ) → count ≡ suc n → j < suc n → taken_width act.Write t count j ≡ width_of (slice_index_or (replicate n int_type ++ t ∷ []) j Bit)
write_wide t n count j e lt = elim (eqb_tells (j + 1) count) [
  | inl same ↦ ap (λ b. if b then width_of t else 32) same.0
      ∙ ap width_of (sym (ap (λ i. slice_index_or (replicate n int_type ++ t ∷ []) i Bit) (last_one j n count same.1 e) ∙ behind_at n int_type t Bit))
  | inr apart ↦ ap (λ b. if b then width_of t else 32) apart.0 ∙ ap width_of (sym (before_at n j int_type t Bit (below j n lt (λ f. apart.1 (its_number j n count f e)))))
]

pub taken_there : (kind : OpKind) (a : Act) (t : Ty) (n count j : ℕ) → IsActOf kind a → count ≡ length (taken_types kind t n) → j < count → taken_width a t count j ≡ width_of (slice_index_or (taken_types kind t n) j Bit)
taken_there _ _ t n count j (of_word w) e lt = absurd (omega (arith, e, lt))
taken_there _ _ t n count j (of_count c lane net) e lt = absurd (omega (arith, e, lt))
taken_there _ _ t n count j (of_live c first last net) e lt = absurd (omega (arith, e, lt))
taken_there _ _ t n count j (of_read net after) e lt = ap width_of (sym (repeated_at n j int_type Bit (let long = repeated_long n int_type in omega (arith, e, lt, long))))
taken_there _ _ t n count j of_write e lt = (let long = before_long n int_type t in write_wide t n count j (e ∙ long) (omega (arith, e, lt, long)))
taken_there _ _ t n count j of_enq e lt = one_wide t j (omega (arith, e, lt))
taken_there _ _ t n count j (of_deq net after) e lt = absurd (omega (arith, e, lt))
taken_there _ _ t n count j of_reset e lt = absurd (omega (arith, e, lt))
taken_there _ _ t n count j (of_one op) e lt = one_wide t j (omega (arith, e, lt))
taken_there _ _ t n count j (of_two op) e lt = two_wide t j (omega (arith, e, lt))
taken_there _ _ t n count j (of_shift left by) e lt = one_wide t j (omega (arith, e, lt))
taken_there _ _ t n count j of_mux e lt = mux_wide t count j (omega (arith, e, lt))
taken_there _ _ t n count j (of_cast to) e lt = one_wide t j (omega (arith, e, lt))

-- a word stands no later than its latency after its operation
within : (a : Act) (t l : ℕ) → (is_answered a ≡ true → answer_of a ≤ l) → (word_time a t ≤ t + l) × (masked_time a t ≤ t + l)
within (act.Given net) t l h = (omega arith, omega arith)
within (act.Word w) t l h = (omega arith, omega arith)
within (act.Read net after) t l h = (let few = h refl in (omega (arith, few), omega (arith, few)))
within (act.Deq net after) t l h = (let few = h refl in (omega (arith, few), omega (arith, few)))
within act.Write t l h = (omega arith, omega arith)
within act.Enq t l h = (omega arith, omega arith)
within act.Reset t l h = (omega arith, omega arith)
within (act.One op) t l h = (omega arith, omega arith)
within (act.Two op) t l h = (omega arith, omega arith)
within (act.Shift left by) t l h = (omega arith, omega arith)
within act.Mux t l h = (omega arith, omega arith)
within (act.Cast to) t l h = (omega arith, omega arith)

pub stands_within : (a : Act) (mask : Option ℕ) (t l : ℕ) → (is_answered a ≡ true → answer_of a ≤ l) → time_of a mask t ≤ t + l
stands_within a None t l h = (within a t l h).0
stands_within a (Some m) t l h = (within a t l h).1
