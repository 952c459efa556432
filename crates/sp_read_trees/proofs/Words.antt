-- Names and numbers.
use Rattle.std.proofs.Common.{◌≡◌, ℕ, ◌≤◌, Bool, true, false, not, ◌&&◌, ◌||◌, nat_le, List, [], ◌∷◌, length, Option, Some, None, Ok, Err, refl, subst, arith, if◌then◌else◌}
use Rattle.std.specs.Option.{option_map_or}
use Rattle.sp_words.specs.Interface.{IsCount}
use Rattle.sp_words.specs.Names.{IsName}
use Rattle.sp_reader.specs.declared.token.Token.{Token}
use Rattle.sp_reader.specs.declared.token.TokenKind.TheVariants as k
use Rattle.sp_reader.specs.Names.{ident, name, digits, number, between, whole, count}
use Rattle.sp_reader.specs.Numbers.{has_point, whole as whole_part}
use Rattle.sp_reader.specs.PlainTree.{PlainIdent, PlainDigits}
use Rattle.sp_reader.specs.Steps.{Text, Outcome, is_name, kind_of, tail_of, sees, spelling}
use Rattle.sp_read_trees.proofs.Levels.{Good, good_name, good_tail, name_level}
use Rattle.sp_read_trees.proofs.Rules.{Any, Goes, one_outcome, past}

abbrev pub Named : PlainIdent → Type 0
Named i = IsName i.text

abbrev pub Within : (least most : ℕ) → ℕ → Type 0
Within least most n = (least ≤ n) × (n ≤ most)

within_by : (least most n : ℕ) (b c : Bool) → nat_le least n ≡ b → nat_le n most ≡ c → (b && c) ≡ true → Within least most n
within_by least most n true true x y e = (grind arith, grind arith)
within_by least most n true false x y e = absurd (cc)
within_by least most n false c x y e = absurd (cc)

counted : (n : ℕ) → Within 1 2147483647 n → IsCount n
counted n h = (h.0, omega (arith, h.1))

module _ (source : Text) {d : ℕ} where
  pub names : Goes source d d Named (name source)
  unfolding name kind_of tail_of spelling
  names = record { run = λ ts i us g h. go ts i us g (is_name (kind_of ts)) refl h }
    where
      go : (ts : List Token) (i : PlainIdent) (us : List Token) → Good source d ts → (b : Bool) → is_name (kind_of ts) ≡ b
          → if◌then◌else◌ {A = Outcome PlainIdent} b (Ok (ident source ts, tail_of ts)) (Err (length ts)) ≡ Ok (i, us) → IsName i.text × Good source d us
      go [] i us g true is h = absurd (cc)
      go (t ∷ ts) i us g true is h =
          let same = one_outcome (ident source (t ∷ ts)) i ts us (Ok (ident source (t ∷ ts), ts)) refl h in
          (subst Named same.0 (good_name source d t ts g is), subst (Good source d) same.1 (subst (λ n. Good source n ts) (name_level t.kind d is) (good_tail source d t ts g)))
      go ts i us g false is h = absurd (cc)

  pub numbers : (at : ℕ) (negative : Bool) → Goes source d d Any (number source at negative)
  unfolding number
  numbers at negative = record { run = λ ts n us g h. go ts n us g (sees k.Number ts) refl (whole_part (spelling source ts)) h }
    where
      go : (ts : List Token) (n : PlainDigits) (us : List Token) → Good source d ts → (b : Bool) → sees k.Number ts ≡ b → (o : Option ℕ)
          → if◌then◌else◌ {A = Outcome PlainDigits} b (option_map_or {U = Outcome PlainDigits} (λ m. Ok (digits at negative (spelling source ts) m, tail_of ts)) o (Err (length ts))) (Err (length ts)) ≡ Ok (n, us) → Any n × Good source d us
      go ts n us g true is (Some m) h = let same = one_outcome (digits at negative (spelling source ts) m) n (tail_of ts) us _ refl h in (tt, subst (Good source d) same.1 (past source k.Number d ts g is))
      go ts n us g true is None h = absurd (cc)
      go ts n us g false is o h = absurd (cc)

  pub wholes : (least most : ℕ) → Goes source d d (Within least most) (whole source least most)
  unfolding whole
  wholes least most = record { run = λ ts n us g h. go ts n us g (sees k.Number ts) refl (has_point (spelling source ts)) (whole_part (spelling source ts)) h }
    where
      ends : (ts : List Token) (m n : ℕ) (us : List Token) → Good source d ts → sees k.Number ts ≡ true → (b : Bool) → (nat_le least m && nat_le m most) ≡ b
          → if◌then◌else◌ {A = Outcome ℕ} b (Ok (m, tail_of ts)) (Err (length ts)) ≡ Ok (n, us) → Within least most n × Good source d us
      ends ts m n us g is true e h =
          let same = one_outcome m n (tail_of ts) us (Ok (m, tail_of ts)) refl h in
          (subst (Within least most) same.0 (within_by least most m (nat_le least m) (nat_le m most) refl refl e), subst (Good source d) same.1 (past source k.Number d ts g is))
      ends ts m n us g is false e h = absurd (cc)

      go : (ts : List Token) (n : ℕ) (us : List Token) → Good source d ts → (b : Bool) → sees k.Number ts ≡ b → (c : Bool) (o : Option ℕ)
          → (if not b || c then Err (length ts) else option_map_or (between least most ts) o (Err (length ts))) ≡ Ok (n, us) → Within least most n × Good source d us
      go ts n us g true is false (Some m) h = ends ts m n us g is (nat_le least m && nat_le m most) refl h
      go ts n us g true is false None h = absurd (cc)
      go ts n us g true is true o h = absurd (cc)
      go ts n us g false is c o h = absurd (cc)

  pub counts : Goes source d d IsCount (count source)
  unfolding count
  counts = record { run = λ ts n us g h. let seen = (wholes 1 2147483647).run ts n us g h in (counted n seen.0, seen.1) }
