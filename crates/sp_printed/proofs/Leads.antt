-- What begins with a number, in the text and in the tree.
use Rattle.std.proofs.Common.{◌≡◌, ◌∙◌, ℕ, Bool, true, false, List, refl, sym, ap}
use Rattle.std.proofs.Common.{◌-◌, ◌^◌, ◌&&◌, nat_le, nat_lt, pow_pos, arith}
use Rattle.sp_words.specs.Types.{signed_of, width_of}
use Rattle.sp_words.specs.declared.types.FixTy.{FixTy}
use Rattle.sp_words.specs.declared.types.Ty.{Ty}
use Rattle.sp_words.specs.declared.types.Ty.TheVariants.{Fix}
use Rattle.sp_words.specs.Words.{has_sign, value_of, word_lt}
use Rattle.sp_tree.specs.PlainExpression as program
use Rattle.sp_reader.specs.declared.token.Token.{Token}
use Rattle.sp_reader.specs.declared.token.TokenKind.{TokenKind}
use Rattle.sp_reader.specs.declared.token.TokenKind.TheVariants as k
use Rattle.sp_reader.specs.PlainTree as tree
use Rattle.sp_reader.specs.Steps.{Text, kind_of, is_name}
use Rattle.sp_grammar.specs.Tokens.{Takes, IsSign}
use Rattle.sp_grammar.specs.Expressions.{IsPrefixed, IsPostfix, IsPrimary}
use Rattle.sp_printer.specs.Expressions.{starts_with_digit, is_number}
use Rattle.sp_printer.specs.Names.{Names}
use Rattle.sp_printer.specs.Words.{word_at}
use Rattle.sp_printed.specs.Trees.{IsLiteral, IsTree}

-- casts around a number without a sign
abbrev pub Leads : tree.PlainExpr → Type 0
Leads (tree.expr at (tree.number d)) = d.negative ≡ false
Leads (tree.expr at (tree.cast e target)) = Leads e
Leads (tree.expr at _) = ⊥

kind_at : {kind : TokenKind} {ts us : List Token} → Takes kind ts us → kind_of ts ≡ kind
unfolding kind_of
kind_at t = ap kind_of t.is ∙ t.of_kind

name_at : {source : Text} {ts us : List Token} {i : tree.PlainIdent} (n : Rattle.sp_grammar.specs.Tokens.IsName source ts us i) → is_name (kind_of ts) ≡ true
unfolding kind_of
name_at n = ap (λ ts. is_name (kind_of ts)) n.is ∙ n.named

no_name : (kind : TokenKind) → is_name kind ≡ true → kind ≡ k.Number → ⊥
no_name kind named e = let bad : true ≡ false = sym named ∙ ap is_name e in absurd (cc)

other : {kind : TokenKind} {ts us : List Token} {A : Type 0} → Takes kind ts us → kind_of ts ≡ k.Number → (kind ≡ k.Number → ⊥) → A
other t e never = absurd (never (sym (kind_at t) ∙ e))

module _ (source : Text) where
  primary_leads : {ts us : List Token} {e : tree.PlainExpr} → IsPrimary source ts us e → kind_of ts ≡ k.Number → Leads e
  primary_leads (IsPrimary.a_number n) e = ap (λ d. d.negative) n.spells
  primary_leads (IsPrimary.yes t) e = other t e (λ x. absurd (cc))
  primary_leads (IsPrimary.no t) e = other t e (λ x. absurd (cc))
  primary_leads (IsPrimary.a_name n) e = absurd (no_name _ (name_at n) e)
  primary_leads (IsPrimary.a_value n a b) e = absurd (no_name _ (name_at n) e)
  primary_leads (IsPrimary.a_deq n a b c d) e = absurd (no_name _ (name_at n) e)
  primary_leads (IsPrimary.an_access n a b c) e = absurd (no_name _ (name_at n) e)
  primary_leads (IsPrimary.a_choice t a b c d f g h) e = other t e (λ x. absurd (cc))
  primary_leads (IsPrimary.a_least t a b c d f) e = other t e (λ x. absurd (cc))
  primary_leads (IsPrimary.a_greatest t a b c d f) e = other t e (λ x. absurd (cc))
  primary_leads (IsPrimary.in_parentheses t a b) e = other t e (λ x. absurd (cc))

  postfix_leads : {ts us : List Token} {e : tree.PlainExpr} → IsPostfix source ts us e → kind_of ts ≡ k.Number → Leads e
  postfix_leads (IsPostfix.negative t n) e = other t e (λ x. absurd (cc))
  postfix_leads (IsPostfix.primary x) e = primary_leads x e
  postfix_leads (IsPostfix.casted x t) e = postfix_leads x e

  sign_is : {kind : TokenKind} {op : _} → IsSign kind op → kind ≡ k.Number → ⊥
  sign_is IsSign.minus e = absurd (cc)
  sign_is IsSign.bang e = absurd (cc)
  sign_is IsSign.tilde e = absurd (cc)

  pub prefixed_leads : {ts us : List Token} {e : tree.PlainExpr} → IsPrefixed source ts us e → kind_of ts ≡ k.Number → Leads e
  prefixed_leads (IsPrefixed.bare x) e = postfix_leads x e
  prefixed_leads (IsPrefixed.signed s t never x) e = other t e (sign_is s)

-- a word that is written without a sign isn't below 0
zero_sign : (ty : Ty) → has_sign ty 0 ≡ false
unfolding has_sign
zero_sign ty = go (signed_of ty) (nat_le (2 ^ (width_of ty - 1)) 0) low
  where
    low : nat_le (2 ^ (width_of ty - 1)) 0 ≡ false
    low = let some = pow_pos (width_of ty - 1) in grind arith

    go : (a b : Bool) → b ≡ false → (a && b) ≡ false
    go true b e = e
    go false b e = refl

below_zero : (ty : Ty) (w : ℕ) → has_sign ty w ≡ false → word_lt ty w 0 ≡ false
unfolding word_lt value_of
below_zero ty w e = rw (e, zero_sign ty) low
  where
    low : nat_lt w 0 ≡ false
    low = grind arith

number_is : (t : FixTy) (w : ℕ) → has_sign (Fix t) (word_at (Fix t) w) ≡ false → is_number (Fix t) w ≡ true
number_is t w e = rw (below_zero (Fix t) (word_at (Fix t) w) e) refl

module _ (names : Names) where
  no_lead : (t : FixTy) (w : ℕ) (d : tree.PlainDigits) → IsLiteral (Fix t) w d → is_number (Fix t) w ≡ false → d.negative ≡ false → ⊥
  no_lead t w d l other lead = let bad : true ≡ false = sym (number_is t w (sym l.sign ∙ lead)) ∙ other in absurd (cc)

  pub leads_digit : {e : program.PlainExpr} {x : tree.PlainExpr} → IsTree names e x → starts_with_digit e ≡ false → Leads x → ⊥
  leads_digit (IsTree.a_number {w = w} {t = t} {d = d} is l) other lead = no_lead t w d l other lead
  leads_digit (IsTree.a_typed_number {w = w} {t = t} {d = d} is l ty) other lead = no_lead t w d l other lead
  leads_digit (IsTree.a_cast kept x ty) other lead = leads_digit x other lead
  leads_digit (IsTree.a_cast_number {w = w} {t = t} {d = d} is l ty) other lead = no_lead t w d l other lead
  leads_digit IsTree.a_truth other lead = lead
  leads_digit (IsTree.a_counter is) other lead = lead
  leads_digit (IsTree.a_value is) other lead = lead
  leads_digit (IsTree.a_reg is) other lead = lead
  leads_digit (IsTree.an_arg is) other lead = lead
  leads_digit (IsTree.an_element is all) other lead = lead
  leads_digit (IsTree.a_row_element is x y) other lead = lead
  leads_digit (IsTree.a_deq is) other lead = lead
  leads_digit (IsTree.negated x) other lead = lead
  leads_digit (IsTree.turned x) other lead = lead
  leads_digit (IsTree.denied x) other lead = lead
  leads_digit (IsTree.operation is x y) other lead = lead
  leads_digit (IsTree.least x y) other lead = lead
  leads_digit (IsTree.greatest x y) other lead = lead
  leads_digit (IsTree.shifted x) other lead = lead
  leads_digit (IsTree.a_choice z x y) other lead = lead
