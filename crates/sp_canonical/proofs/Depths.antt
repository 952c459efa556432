-- What is read is shallow, and a text that is deep.
use Rattle.std.proofs.Common.{◌≡◌, ℕ, ◌+◌, Bool, true, false, if◌then◌else◌, List, [], ◌∷◌, Option, Some, None, refl}
use Rattle.std.specs.Option.{option_map_or}
use Rattle.sp_reader.specs.declared.limits.Limit.TheVariants.{Deep, Wide}
use Rattle.sp_reader.specs.declared.token.Token.{Token}
use Rattle.sp_reader.specs.Limits.{PlainCounts, taken, is_wide, passed_from, first_passed}
use Rattle.sp_reader.specs.Steps.{Text, same_kind, kind_of}
use Rattle.sp_reader.specs.Tokens.{tokens_of, scan_from, front, word_kind, sign_of}
use Rattle.sp_canonical.specs.Laws.{is_passed_from, IsShallow}
use Rattle.sp_canonical.specs.Worked.{enclosed}

not_deep : (source : Text) (c : PlainCounts) (number : ℕ) (ts : List Token) → passed_from source c number ts ≡ None → is_passed_from c ts ≡ false
not_deep source c number [] e = refl
not_deep source c number (t ∷ ts) e = by (is_wide source t) e (λ f. go (taken c t.kind (kind_of ts)) f (λ more. not_deep source more (number + 1) ts))
  where
    go : (o : Option PlainCounts) → option_map_or (λ more. passed_from source more (number + 1) ts) o (Some (number, Deep)) ≡ None → ((more : PlainCounts) → passed_from source more (number + 1) ts ≡ None → is_passed_from more ts ≡ false)
        → option_map_or (λ more. is_passed_from more ts) o true ≡ false
    go None f rest = absurd (cc)
    go (Some more) f rest = rest more f

    by : (b : Bool) → (if b then Some (number, Wide) else option_map_or (λ more. passed_from source more (number + 1) ts) (taken c t.kind (kind_of ts)) (Some (number, Deep))) ≡ None
        → (option_map_or (λ more. passed_from source more (number + 1) ts) (taken c t.kind (kind_of ts)) (Some (number, Deep)) ≡ None → option_map_or (λ more. is_passed_from more ts) (taken c t.kind (kind_of ts)) true ≡ false)
        → option_map_or (λ more. is_passed_from more ts) (taken c t.kind (kind_of ts)) true ≡ false
    by true f rest = absurd (cc)
    by false f rest = rest f

pub is_shallow : (text : Text) → first_passed text (tokens_of text) ≡ None → IsShallow text
unfolding first_passed
is_shallow text e = not_deep text (record { around = []; here = 0 }) 0 (tokens_of text) e

pub few_brackets : IsShallow (enclosed 63)
unfolding tokens_of scan_from front word_kind sign_of same_kind kind_of
few_brackets = refl

pub many_brackets : is_passed_from (record { around = []; here = 0 }) (tokens_of (enclosed 64)) ≡ true
unfolding tokens_of scan_from front word_kind sign_of same_kind kind_of
many_brackets = refl
