-- Names and numbers.
use Rattle.std.proofs.Common.{◌≡◌, ◌∙◌, ℕ, ◌≤◌, Bool, true, false, not, ◌&&◌, ◌||◌, nat_le, List, [], ◌∷◌, length, Option, Some, None, Ok, Err, refl, sym, ap, subst, arith, if◌then◌else◌}
use Rattle.std.specs.Option.{option_map_or}
use Rattle.sp_reader.specs.declared.token.Token.{Token}
use Rattle.sp_reader.specs.declared.token.TokenKind.{TokenKind}
use Rattle.sp_reader.specs.declared.token.TokenKind.TheVariants as k
use Rattle.sp_reader.specs.Names.{ident, name, digits, number, between, whole, count}
use Rattle.sp_reader.specs.Numbers.{has_point, whole as whole_part, width as width_of}
use Rattle.sp_reader.specs.PlainTree.{PlainIdent, PlainDigits}
use Rattle.sp_reader.specs.Steps.{Text, Outcome, is_name, kind_of, tail_of, sees, spelling, spelling_of}
use Rattle.sp_reader.specs.TypeRules.{width}
use Rattle.sp_grammar.specs.Tokens.{Takes, IsName, IsNumber, IsWhole, IsCount, IsWidth}
use Rattle.sp_grammar.proofs.Rules.{Reads, one_outcome, seen, takes_seen}

within_by : (least most n : ℕ) (b c : Bool) → nat_le least n ≡ b → nat_le n most ≡ c → (b && c) ≡ true → (least ≤ n) × (n ≤ most)
within_by least most n true true x y e = (grind arith, grind arith)
within_by least most n true false x y e = absurd (cc)
within_by least most n false c x y e = absurd (cc)

-- the same token, before these
abbrev onto : {kind : TokenKind} {ts us vs : List Token} → Takes kind ts us → us ≡ vs → Takes kind ts vs
onto takes same = record { token = takes.token; is = takes.is ∙ ap (λ xs. takes.token ∷ xs) same; of_kind = takes.of_kind }

module _ (source : Text) where
  pub spelled : {kind : TokenKind} {ts us : List Token} (takes : Takes kind ts us) → spelling source ts ≡ spelling_of source takes.token
  unfolding spelling
  spelled takes = ap (spelling source) takes.is

  pub names : {ts : List Token} → Reads (name source) ts (λ i us. IsName source ts us i)
  unfolding name kind_of tail_of
  names {ts} = record { run = λ i us h. go ts i us (is_name (kind_of ts)) refl h }
    where
      go : (ts : List Token) (i : PlainIdent) (us : List Token) → (b : Bool) → is_name (kind_of ts) ≡ b
          → if◌then◌else◌ {A = Outcome PlainIdent} b (Ok (ident source ts, tail_of ts)) (Err (length ts)) ≡ Ok (i, us) → IsName source ts us i
      go [] i us true is h = absurd (cc)
      go (t ∷ ts) i us true is h =
          let same = one_outcome (ident source (t ∷ ts)) i ts us (Ok (ident source (t ∷ ts), ts)) refl h in
          record { token = t; is = ap (λ xs. t ∷ xs) same.1; named = is; spells = sym same.0 ∙ ap (λ xs. ident source (t ∷ xs)) same.1 }
      go ts i us false is h = absurd (cc)

  pub numbers : {ts : List Token} (at : ℕ) (negative : Bool) → Reads (number source at negative) ts (λ d us. IsNumber source at negative ts us d)
  unfolding number
  numbers {ts} at negative = record { run = seen ts k.Number refl (λ takes n us h. go takes n us (whole_part (spelling source ts)) refl h) (λ _ n us h. absurd (cc)) }
    where
      go : Takes k.Number ts (tail_of ts) → (n : PlainDigits) (us : List Token) → (o : Option ℕ) → whole_part (spelling source ts) ≡ o
          → option_map_or {U = Outcome PlainDigits} (λ m. Ok (digits at negative (spelling source ts) m, tail_of ts)) o (Err (length ts)) ≡ Ok (n, us) → IsNumber source at negative ts us n
      go takes n us (Some m) is h =
          let same = one_outcome (digits at negative (spelling source ts) m) n (tail_of ts) us _ refl h in
          let text = spelled takes in
          record { takes = onto takes same.1; whole = m; part = ap whole_part (sym text) ∙ is; spells = sym same.0 ∙ ap (λ x. digits at negative x m) text }
      go takes n us None is h = absurd (cc)

  pub wholes : {ts : List Token} (least most : ℕ) → Reads (whole source least most) ts (λ n us. IsWhole source least most ts us n)
  unfolding whole
  wholes {ts} least most = record { run = λ n us h. go n us (sees k.Number ts) refl (has_point (spelling source ts)) refl (whole_part (spelling source ts)) refl h }
    where
      ends : (m n : ℕ) (us : List Token) → Takes k.Number ts (tail_of ts) → has_point (spelling source ts) ≡ false → whole_part (spelling source ts) ≡ Some m → (b : Bool) → (nat_le least m && nat_le m most) ≡ b
          → if◌then◌else◌ {A = Outcome ℕ} b (Ok (m, tail_of ts)) (Err (length ts)) ≡ Ok (n, us) → IsWhole source least most ts us n
      ends m n us takes point is true e h =
          let same = one_outcome m n (tail_of ts) us (Ok (m, tail_of ts)) refl h in
          let bounds = within_by least most m (nat_le least m) (nat_le m most) refl refl e in
          let text = spelled takes in
          record {
            takes = onto takes same.1;
            no_point = ap has_point (sym text) ∙ point;
            spells = ap whole_part (sym text) ∙ is ∙ ap (λ x. Some x) same.0;
            low = subst (λ x. least ≤ x) same.0 bounds.0;
            high = subst (λ x. x ≤ most) same.0 bounds.1;
          }
      ends m n us takes point is false e h = absurd (cc)

      go : (n : ℕ) (us : List Token) → (b : Bool) → sees k.Number ts ≡ b → (c : Bool) → has_point (spelling source ts) ≡ c → (o : Option ℕ) → whole_part (spelling source ts) ≡ o
          → (if not b || c then Err (length ts) else option_map_or (between least most ts) o (Err (length ts))) ≡ Ok (n, us) → IsWhole source least most ts us n
      go n us true is false point (Some m) part h = ends m n us (takes_seen k.Number ts refl is) point part (nat_le least m && nat_le m most) refl h
      go n us true is false point None part h = absurd (cc)
      go n us true is true point o part h = absurd (cc)
      go n us false is c point o part h = absurd (cc)

  pub counts : {ts : List Token} → Reads (count source) ts (λ n us. IsCount source ts us n)
  unfolding count
  counts = wholes 1 2147483647

  pub widths : {ts : List Token} → Reads (width source) ts (λ n us. IsWidth source ts us n)
  unfolding width
  widths {ts} = record { run = seen ts k.Width refl (λ takes n us h. go takes n us h) (λ _ n us h. absurd (cc)) }
    where
      go : Takes k.Width ts (tail_of ts) → (n : ℕ) (us : List Token) → ◌≡◌ {A = Outcome ℕ} (Ok (width_of (spelling source ts), tail_of ts)) (Ok (n, us)) → IsWidth source ts us n
      go takes n us h =
          let same = one_outcome (width_of (spelling source ts)) n (tail_of ts) us _ refl h in
          record { takes = onto takes same.1; spells = sym same.0 ∙ ap width_of (spelled takes) }
