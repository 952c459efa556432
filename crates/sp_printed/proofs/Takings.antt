-- What is read of a printed text, token by token.
use Rattle.std.proofs.Common.{◌≡◌, ℕ, zero, suc, ◌+◌, ◌-◌, ◌≤◌, ◌<◌, Bool, true, false, List, [], ◌∷◌, ◌++◌, length, take, codes, encode_utf8_all, refl, sym, ap, subst, ◌∙◌, append_assoc, length-append, arith}
use Rattle.std.specs.Str.{IsAscii}
use Rattle.std.specs.List.{list_all}
use Rattle.std.proofs.lemmas.Str.{encodes-IsAscii}
use Rattle.sp_words.specs.Names.{IsName as IsGoodName, is_name as is_named, is_letter, is_name_byte}
use Rattle.sp_reader.specs.declared.token.Token.{Token}
use Rattle.sp_reader.specs.declared.token.TokenKind.{TokenKind}
use Rattle.sp_reader.specs.declared.token.TokenKind.TheVariants as k
use Rattle.sp_reader.specs.Names.{ident}
use Rattle.sp_reader.specs.PlainTree.{PlainIdent, PlainExpr}
use Rattle.sp_reader.specs.Steps.{Text, is_name, spelling}
use Rattle.sp_reader.specs.Tokens.{may_begin, may_end}
use Rattle.sp_grammar.specs.Tokens.{Takes, IsName}
use Rattle.sp_grammar.specs.Expressions.{IsExpr, IsPrefixed, IsPostfix}
use Rattle.sp_scanned.specs.From.{From, Fronts, Taken, Begins, stops}
use Rattle.sp_scanned.proofs.Steps.{token_step}
use Rattle.sp_scanned.proofs.Words.{both_left, both_right, name_front, sign}

-- a text in another form
pub moved : {source : Text} {breaks : Bool} {before : TokenKind} {brackets : List TokenKind} {ts : List Token} {a b : Text} → a ≡ b
    → From source breaks before brackets a ts → From source breaks before brackets b ts
moved {source} {breaks} {before} {brackets} {ts} e h = subst (λ x. From source breaks before brackets x ts) e h

pub parted : {source : Text} {breaks : Bool} {before : TokenKind} {brackets : List TokenKind} {ts : List Token} (a b c : Text)
    → From source breaks before brackets ((a ++ b) ++ c) ts → From source breaks before brackets (a ++ (b ++ c)) ts
parted a b c h = moved (append_assoc a b c) h

abbrev pub takes : {source : Text} {kind : TokenKind} {bytes : Text} {brackets : List TokenKind} {rest : Text} {ts : List Token} (t : Taken source kind bytes brackets rest ts) → Takes kind ts t.left
takes t = record { token = t.token; is = t.is; of_kind = t.of_kind }

pub begins_with : {kind : TokenKind} {bytes rest : Text} → Fronts kind bytes rest → may_begin kind ≡ true → Begins (bytes ++ rest)
begins_with {kind} {bytes} {rest} f e = record { kind = kind; len = length bytes; some = omega (arith, f.some, length-append bytes rest); is = f.is; begins = e }

-- ---- names

name_byte : (b : ℕ) → is_name_byte b ≡ true → b < 128
name_byte b e = grind arith

ascii : (w : Text) → list_all is_name_byte w ≡ true → IsAscii w
ascii [] e i = omega arith
ascii (b ∷ w) e zero = name_byte b (both_left (is_name_byte b) (list_all is_name_byte w) e)
ascii (b ∷ w) e (suc i) = ascii w (both_right (is_name_byte b) (list_all is_name_byte w) e) i

name_bytes : (w : Text) → is_named w ≡ true → list_all is_name_byte w ≡ true
name_bytes [] e = refl
name_bytes (b ∷ w) e = rw (both_left (is_letter b) (list_all is_name_byte w) e, both_right (is_letter b) (list_all is_name_byte w) e) refl

-- a name that is taken
pub record NameTaken (source : Text) (w : Text) (brackets : List TokenKind) (rest : Text) (ts : List Token) : Type 0 where
  pub left : List Token
  pub name : PlainIdent
  pub is : IsName source ts left name
  pub text : name.text ≡ w
  pub begins : Begins (w ++ rest)
  pub last : TokenKind
  pub ends : may_end last ≡ true
  pub next : From source false last brackets rest left

spelled_text : (source : Text) (t : Token) (left : List Token) → (ident source (t ∷ left)).text ≡ encode_utf8_all (spelling source (t ∷ left))
spelled_text source t left = refl

spelling_is : (source : Text) {kind : TokenKind} {bytes : Text} {brackets : List TokenKind} {rest : Text} {ts : List Token} (t : Taken source kind bytes brackets rest ts) → spelling source (t.token ∷ t.left) ≡ bytes
unfolding spelling
spelling_is source t = t.spells

pub name_step : {source : Text} {before : TokenKind} {brackets : List TokenKind} {ts : List Token} (w rest : Text) → IsGoodName w → stops rest ≡ true
    → From source false before brackets (w ++ rest) ts → NameTaken source w brackets rest ts
name_step {source} {before} {brackets} {ts} w rest n stop h =
    let f = name_front w rest n stop in
    let t = token_step w rest h f.fronts in
    record {
      left = t.left;
      name = ident source (t.token ∷ t.left);
      is = record { token = t.token; is = t.is; named = ap is_name t.of_kind ∙ f.token.named; spells = refl };
      text = ap encode_utf8_all (spelling_is source t) ∙ encodes-IsAscii w (ascii w (name_bytes w n.letters));
      begins = begins_with f.fronts f.token.begins;
      last = f.kind;
      ends = f.token.ends;
      next = subst (λ b. From source false f.kind b rest t.left) (f.token.no_bracket brackets) t.next;
    }

-- ---- brackets

shut : (brackets : List TokenKind) (kind : TokenKind) → take (length (brackets ++ kind ∷ []) - 1) (brackets ++ kind ∷ []) ≡ brackets
shut brackets kind = ap (λ n. take n (brackets ++ kind ∷ [])) (omega (arith, length-append brackets (kind ∷ []))) ∙ before brackets
  where
    before : (b : List TokenKind) → take (length b) (b ++ kind ∷ []) ≡ b
    before [] = refl
    before (x ∷ b) = ap (λ l. x ∷ l) (before b)

-- a bracket is closed that stands inside of others
pub record Closed (source : Text) (kind : TokenKind) (brackets : List TokenKind) (rest : Text) (ts : List Token) : Type 0 where
  pub left : List Token
  pub takes : Takes kind ts left
  pub next : From source false kind brackets rest left

closed : {source : Text} {kind : TokenKind} {bytes : Text} {rest : Text} {ts : List Token} (brackets around : List TokenKind) → around ≡ brackets → Taken source kind bytes around rest ts → Closed source kind brackets rest ts
closed {source} {kind} {bytes} {rest} {ts} brackets around e t =
    record { left = t.left; takes = takes t; next = subst (λ b. From source false kind b rest t.left) e t.next }

pub close_round : {source : Text} {before : TokenKind} {ts : List Token} (brackets : List TokenKind) (rest : Text)
    → From source false before (brackets ++ k.OpenRound ∷ []) (codes ")" ++ rest) ts → Closed source k.CloseRound brackets rest ts
close_round brackets rest h = closed brackets _ (shut brackets k.OpenRound) (token_step (codes ")") rest h (sign 41 [] rest k.CloseRound refl refl))

pub close_square : {source : Text} {before : TokenKind} {ts : List Token} (brackets : List TokenKind) (rest : Text)
    → From source false before (brackets ++ k.OpenSquare ∷ []) (codes "]" ++ rest) ts → Closed source k.CloseSquare brackets rest ts
close_square brackets rest h = closed brackets _ (shut brackets k.OpenSquare) (token_step (codes "]") rest h (sign 93 [] rest k.CloseSquare refl refl))

pub close_curly : {source : Text} {before : TokenKind} {ts : List Token} (brackets : List TokenKind) (rest : Text)
    → From source false before (brackets ++ k.OpenCurly ∷ []) (codes "}" ++ rest) ts → Closed source k.CloseCurly brackets rest ts
close_curly brackets rest h = closed brackets _ (shut brackets k.OpenCurly) (token_step (codes "}") rest h (sign 125 [] rest k.CloseCurly refl refl))

pub open_round : {source : Text} {before : TokenKind} {ts : List Token} (brackets : List TokenKind) (rest : Text)
    → From source false before brackets (codes "(" ++ rest) ts → Taken source k.OpenRound (codes "(") (brackets ++ k.OpenRound ∷ []) rest ts
open_round brackets rest h = token_step (codes "(") rest h (sign 40 [] rest k.OpenRound refl refl)

pub open_square : {source : Text} {before : TokenKind} {ts : List Token} (brackets : List TokenKind) (rest : Text)
    → From source false before brackets (codes "[" ++ rest) ts → Taken source k.OpenSquare (codes "[") (brackets ++ k.OpenSquare ∷ []) rest ts
open_square brackets rest h = token_step (codes "[") rest h (sign 91 [] rest k.OpenSquare refl refl)

pub open_curly : {source : Text} {before : TokenKind} {ts : List Token} (brackets : List TokenKind) (rest : Text)
    → From source false before brackets (codes "{" ++ rest) ts → Taken source k.OpenCurly (codes "{") (brackets ++ k.OpenCurly ∷ []) rest ts
open_curly brackets rest h = token_step (codes "{") rest h (sign 123 [] rest k.OpenCurly refl refl)

-- ---- what a printed piece is read as

-- what a piece of a text is read as, and what is left behind it
pub record Reads (source : Text) (brackets : List TokenKind) (rest : Text) {X : Type 0} (P : List Token → X → Type 0) : Type 0 where
  pub left : List Token
  pub what : X
  pub is : P left what
  pub last : TokenKind
  pub ends : may_end last ≡ true
  pub next : From source false last brackets rest left

-- a text that is read wherever it stands before what doesn't go on with a name or a number
pub record Printed (source : Text) (text : Text) {X : Type 0} (P : List Token → List Token → X → Type 0) : Type 0 where
  pub begins : (rest : Text) → stops rest ≡ true → Begins (text ++ rest)
  pub reads : (before : TokenKind) (brackets : List TokenKind) (ts : List Token) (rest : Text) → stops rest ≡ true → From source false before brackets (text ++ rest) ts → Reads source brackets rest (P ts)

pub as_more : {source : Text} {text : Text} {X : Type 0} {P Q : List Token → List Token → X → Type 0} → ((ts us : List Token) (x : X) → P ts us x → Q ts us x) → Printed source text P → Printed source text Q
as_more f h = record {
  begins = h.begins;
  reads = λ before brackets ts rest stop from.
      let r = h.reads before brackets ts rest stop from in
      record { left = r.left; what = r.what; is = f ts r.left r.what r.is; last = r.last; ends = r.ends; next = r.next };
}

-- a text that begins as its first part does
pub begins_left : (a b rest : Text) → Begins (a ++ (b ++ rest)) → Begins ((a ++ b) ++ rest)
begins_left a b rest h = subst Begins (sym (append_assoc a b rest)) h

-- ---- levels

-- operators outside of brackets, if any, are of this level or bind tighter, as the printer counts them
pub data Binds (source : Text) (least : ℕ) (ts us : List Token) (e : PlainExpr) : Type 0 where
  tight : IsPostfix source ts us e → Binds source least ts us e
  loose : (n : ℕ) → n ≤ 7 → n + least ≤ 8 → IsExpr source n ts us e → Binds source least ts us e

up : (source : Text) {ts us : List Token} {e : PlainExpr} (by n m : ℕ) → m ≡ by + n → IsExpr source n ts us e → IsExpr source m ts us e
up source {ts} {us} {e} zero n m same x = let is : n ≡ m = omega (arith, same) in subst (λ l. IsExpr source l ts us e) is x
up source {ts} {us} {e} (suc by) n m same x =
    let is : suc (by + n) ≡ m = omega (arith, same) in
    subst (λ l. IsExpr source l ts us e) is (IsExpr.tighter (up source by n (by + n) refl x))

pub raised : (source : Text) {ts us : List Token} {e : PlainExpr} (n m : ℕ) → n ≤ m → IsExpr source n ts us e → IsExpr source m ts us e
raised source n m low x = up source (m - n) n m (omega (arith, low)) x

pub at_level : (source : Text) {least : ℕ} {ts us : List Token} {e : PlainExpr} (m : ℕ) → 8 ≤ m + least → Binds source least ts us e → IsExpr source m ts us e
at_level source m high (Binds.tight x) = raised source 0 m (omega arith) (IsExpr.operand (IsPrefixed.bare x))
at_level source m high (Binds.loose n few low x) = raised source n m (omega (arith, low, high)) x

pub at_top : (source : Text) {least : ℕ} {ts us : List Token} {e : PlainExpr} → Binds source least ts us e → IsExpr source 7 ts us e
at_top source (Binds.tight x) = raised source 0 7 (omega arith) (IsExpr.operand (IsPrefixed.bare x))
at_top source (Binds.loose n few low x) = raised source n 7 few x
