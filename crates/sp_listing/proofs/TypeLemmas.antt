-- Codes of types, as they are written and read.
use Rattle.std.proofs.Common.{◌≡◌, ◌≢◌, ℕ, ◌+◌, ◌≤◌, ◌↔◌, Bool, true, false, codes, List, ◌++◌, refl, sym, ◌∙◌, ap, subst, arith, decimal, Option, Some, None, MatchOption, IsSome, IfSome}
use Rattle.std.proofs.Props.{props}
use Rattle.std.proofs.lemmas.Bool.{false≢true}
use Rattle.sp_words.specs.declared.types.FixTy.{FixTy}
use Rattle.sp_words.specs.declared.types.Ty.{Ty}
use Rattle.sp_words.specs.declared.types.Ty.TheVariants.{Fix, Bit}
use Rattle.sp_words.specs.Types.{fix_signed, fix_whole, fix_frac}
use Rattle.sp_listing.specs.Text.{type_text}
use Rattle.sp_listing.specs.Readers.{sign_text, counts_text}
use Rattle.sp_listing.proofs.NumberLemmas.{same_number}
use Rattle.sp_listing.proofs.TextLemmas.{decimal_lacks, counts_cut, same_sign}

-- a text has one pair of counts
pub same_counts : (bits : List ℕ) (whole frac v f : ℕ) → whole ≤ 64 → frac ≤ 64 → v ≤ 64 → f ≤ 64 → bits ≡ counts_text whole frac → bits ≡ counts_text v f → (whole ≡ v) × (frac ≡ f)
same_counts bits whole frac v f a b c d first second =
    let cut = counts_cut bits (decimal whole) (decimal frac) v f c first (decimal_lacks whole (omega arith)) second in (
      same_number (decimal whole) whole v (omega arith) (omega arith) refl cut.0,
      same_number (decimal frac) frac f (omega arith) (omega arith) refl cut.1,
    )

-- what a type's code says of its bits
pub bits_of_code : (code bits : List ℕ) (signed : Bool) (t : FixTy) → code ≡ sign_text signed ++ bits → code ≡ type_text (Fix t) → (signed ≡ fix_signed t) × (bits ≡ counts_text (fix_whole t) (fix_frac t))
bits_of_code code bits signed t cut same = same_sign signed (fix_signed t) bits (counts_text (fix_whole t) (fix_frac t)) (sym cut ∙ same)

pub counts_fit : (t : FixTy) → (fix_whole t ≤ 64) × (fix_frac t ≤ 64)
counts_fit t = let h = t.in_a_word in (omega arith, omega arith)

-- a sign letter doesn't begin the code of Bit
not_bit : (signed : Bool) (rest : List ℕ) → sign_text signed ++ rest ≡ codes "bit" → ⊥
not_bit true rest e = let h : ◌≡◌ {A = ℕ} 115 98 = cc in omega arith
not_bit false rest e = let h : ◌≡◌ {A = ℕ} 117 98 = cc in omega arith

-- what is read of a code whose sign and counts are read
pub fixed_read : (code bits : List ℕ) (signed : Bool) (whole frac : ℕ) (r : Option FixTy) → code ≡ sign_text signed ++ bits → whole ≤ 64 → frac ≤ 64 → bits ≡ counts_text whole frac
    → (IsSome r ↔ ((1 ≤ whole + frac) × (whole + frac ≤ 64))) → IfSome r (λ ty. fix_signed ty ≡ signed) → IfSome r (λ ty. fix_whole ty ≡ whole) → IfSome r (λ ty. fix_frac ty ≡ frac)
    → MatchOption r ((ty : FixTy) → code ≢ type_text (Fix ty)) (λ ty. code ≡ type_text (Fix ty))
fixed_read code bits signed whole frac None cut a b counts exists sign before after = λ t same.
    let parts = bits_of_code code bits signed t cut same in
    let fit = counts_fit t in
    let is = same_counts bits whole frac (fix_whole t) (fix_frac t) a b fit.0 fit.1 counts parts.1 in
    let least = t.has_bits in
    let most = t.in_a_word in
    absurd (false≢true (exists.1 (omega arith, omega arith)))
fixed_read code bits signed whole frac (Some ty) cut a b counts exists sign before after = rw (sign, before, after) (cut ∙ ap (λ rest. sign_text signed ++ rest) counts)

-- types with the same sign and the same bits are one
made : (signed : Bool) (whole frac : ℕ) → 1 ≤ whole + frac → whole + frac ≤ 64 → FixTy
made signed whole frac least most = record { signed = signed; whole = whole; frac = frac; has_bits = least; in_a_word = most }

same_made : (t : FixTy) (least : 1 ≤ fix_whole t + fix_frac t) (most : fix_whole t + fix_frac t ≤ 64) → t ≡ made (fix_signed t) (fix_whole t) (fix_frac t) least most
unfolding made
same_made t least most =
    let one : IsProp (1 ≤ fix_whole t + fix_frac t) = hlevel props in
    let other : IsProp (fix_whole t + fix_frac t ≤ 64) = hlevel props in
    ap (λ p. made (fix_signed t) (fix_whole t) (fix_frac t) p t.in_a_word) (one t.has_bits least)
    ∙ ap (λ p. made (fix_signed t) (fix_whole t) (fix_frac t) least p) (other t.in_a_word most)

same_fixed : (t u : FixTy) → fix_signed t ≡ fix_signed u → fix_whole t ≡ fix_whole u → fix_frac t ≡ fix_frac u → t ≡ u
unfolding made
same_fixed t u sign whole frac =
    let P : ℕ → Type 0 = λ f. (least : 1 ≤ fix_whole t + f) (most : fix_whole t + f ≤ 64) → t ≡ made (fix_signed t) (fix_whole t) f least most in
    let Q : ℕ → Type 0 = λ w. (least : 1 ≤ w + fix_frac u) (most : w + fix_frac u ≤ 64) → t ≡ made (fix_signed t) w (fix_frac u) least most in
    let R : Bool → Type 0 = λ s. (least : 1 ≤ fix_whole u + fix_frac u) (most : fix_whole u + fix_frac u ≤ 64) → t ≡ made s (fix_whole u) (fix_frac u) least most in
    let by_frac : P (fix_frac u) = subst P frac (same_made t) in
    let by_whole : Q (fix_whole u) = subst Q whole by_frac in
    let by_sign : R (fix_signed u) = subst R sign by_whole in
    by_sign u.has_bits u.in_a_word

-- a code is that of one type
pub same_type : (t u : Ty) → type_text t ≡ type_text u → t ≡ u
same_type (Fix t) (Fix u) e =
    let parts = bits_of_code (type_text (Fix t)) (counts_text (fix_whole t) (fix_frac t)) (fix_signed t) u refl e in
    let first = counts_fit t in
    let second = counts_fit u in
    let is = same_counts (counts_text (fix_whole t) (fix_frac t)) (fix_whole t) (fix_frac t) (fix_whole u) (fix_frac u) first.0 first.1 second.0 second.1 refl parts.1 in
    ap Fix (same_fixed t u parts.0 is.0 is.1)
same_type (Fix t) Bit e = absurd (not_bit (fix_signed t) (counts_text (fix_whole t) (fix_frac t)) e)
same_type Bit (Fix u) e = absurd (not_bit (fix_signed u) (counts_text (fix_whole u) (fix_frac u)) (sym e))
same_type Bit Bit e = refl
