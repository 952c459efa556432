-- Numbers, types and truths of a printed text.
use Rattle.std.proofs.Common.{◌≡◌, ℕ, ◌^◌, ◌<◌, ◌≤◌, Bool, true, false, if◌then◌else◌, List, [], ◌∷◌, ◌++◌, Some, codes, decimal, refl, sym, ap, ◌∙◌, append_assoc, append-nil, arith}
use Rattle.std.proofs.lemmas.List.Elements.{All-nil}
use Rattle.sp_words.specs.declared.types.FixTy.{FixTy}
use Rattle.sp_words.specs.declared.types.Ty.{Ty}
use Rattle.sp_words.specs.declared.types.Ty.TheVariants.{Fix, Bit}
use Rattle.sp_words.specs.Decimal.{AreDigits, with_point}
use Rattle.sp_words.specs.NumberText.{digit_bytes}
use Rattle.sp_words.specs.Types.{fix_signed, fix_whole, fix_frac}
use Rattle.sp_reader.specs.declared.syntax.expression.SynTy.{SynTy}
use Rattle.sp_reader.specs.declared.syntax.expression.SynTy.TheVariants as written
use Rattle.sp_reader.specs.declared.token.Token.{Token}
use Rattle.sp_reader.specs.declared.token.TokenKind.{TokenKind}
use Rattle.sp_reader.specs.declared.token.TokenKind.TheVariants as k
use Rattle.sp_reader.specs.Numbers as spelled
use Rattle.sp_reader.specs.Steps.{Text, place_of}
use Rattle.sp_grammar.specs.Tokens.{Takes, IsWhole, IsWidth}
use Rattle.sp_grammar.specs.Expressions.{IsSigned, IsType, IsBracketed, IsTarget}
use Rattle.sp_printer.specs.Types.{is_int_fix, type_text, fix_text}
use Rattle.sp_printer.specs.Words.{cast_text}
use Rattle.sp_scanned.specs.From.{From, stops}
use Rattle.sp_scanned.proofs.Steps.{token_step}
use Rattle.sp_scanned.proofs.Words.{keyword, sign}
use Rattle.sp_scanned.proofs.Numbers.{number_front, width_front, whole_is, no_point, width_is, decimal_digits}
use Rattle.sp_printed.specs.Trees.{IsTypeTree}
use Rattle.sp_printed.proofs.Takings.{moved, parted, takes, close_square, open_square}

-- ---- whole numbers

no_digits : AreDigits []
no_digits = All-nil (λ d. d < 10)

-- a number without a point
pub record CountTaken (source : Text) (n : ℕ) (brackets : List TokenKind) (rest : Text) (ts : List Token) : Type 0 where
  pub left : List Token
  pub is : (least most : ℕ) → least ≤ n → n ≤ most → IsWhole source least most ts left n
  pub next : From source false k.Number brackets rest left

pub count_step : {source : Text} {before : TokenKind} {brackets : List TokenKind} {ts : List Token} (n : ℕ) (rest : Text) → n < 10 ^ 38 → stops rest ≡ true
    → From source false before brackets (decimal n ++ rest) ts → CountTaken source n brackets rest ts
count_step {source} {before} {brackets} {ts} n rest low stop h =
    let d = decimal_digits n (omega (arith, low)) in
    let bytes = digit_bytes d.digits ++ with_point [] in
    let same : decimal n ≡ bytes = d.written ∙ sym (append-nil (digit_bytes d.digits)) in
    let t = token_step bytes rest (moved (ap (λ (x : Text). x ++ rest) same) h) (number_front d.digits [] rest d.some d.are_digits no_digits stop) in
    record {
      left = t.left;
      is = λ least most a b. record {
        takes = takes t;
        no_point = ap spelled.has_point t.spells ∙ no_point d.digits d.are_digits;
        spells = ap spelled.whole t.spells ∙ whole_is d.digits [] d.are_digits no_digits d.some (omega (arith, low, d.same)) ∙ ap (λ x. Some x) d.same;
        low = a;
        high = b;
      };
      next = t.next;
    }

-- ---- types

pub record WidthTaken (source : Text) (n : ℕ) (brackets : List TokenKind) (rest : Text) (ts : List Token) : Type 0 where
  pub left : List Token
  pub is : IsWidth source ts left n
  pub next : From source false k.Width brackets rest left

width_step : {source : Text} {before : TokenKind} {brackets : List TokenKind} {ts : List Token} (n : ℕ) (rest : Text) → n ≤ 64
    → From source false before brackets (codes "_" ++ (decimal n ++ (codes "," ++ rest))) ts → WidthTaken source n brackets (codes "," ++ rest) ts
width_step {source} {before} {brackets} {ts} n rest low h =
    let d = decimal_digits n (omega (arith, low)) in
    let t = token_step (95 ∷ digit_bytes d.digits) (codes "," ++ rest) (moved (ap (λ (x : Text). 95 ∷ (x ++ (codes "," ++ rest))) d.written) h) (width_front d.digits (codes "," ++ rest) d.some d.are_digits refl) in
    record { left = t.left; is = record { takes = takes t; spells = sym (ap spelled.width t.spells ∙ width_is d.digits d.are_digits (omega (arith, low, d.same)) ∙ d.same) }; next = t.next }

last_width : {source : Text} {before : TokenKind} {brackets : List TokenKind} {ts : List Token} (n : ℕ) (rest : Text) → n ≤ 64
    → From source false before brackets (codes "_" ++ (decimal n ++ (codes "]" ++ rest))) ts → WidthTaken source n brackets (codes "]" ++ rest) ts
last_width {source} {before} {brackets} {ts} n rest low h =
    let d = decimal_digits n (omega (arith, low)) in
    let t = token_step (95 ∷ digit_bytes d.digits) (codes "]" ++ rest) (moved (ap (λ (x : Text). 95 ∷ (x ++ (codes "]" ++ rest))) d.written) h) (width_front d.digits (codes "]" ++ rest) d.some d.are_digits refl) in
    record { left = t.left; is = record { takes = takes t; spells = sym (ap spelled.width t.spells ∙ width_is d.digits d.are_digits (omega (arith, low, d.same)) ∙ d.same) }; next = t.next }

-- a type, before a bracket that closes
pub record TypeTaken (source : Text) (ty : Ty) (brackets : List TokenKind) (rest : Text) (ts : List Token) : Type 0 where
  pub left : List Token
  pub tree : SynTy
  pub is : IsType source ts left tree
  pub spells : IsTypeTree ty tree
  pub last : TokenKind
  pub next : From source false last brackets rest left

-- the word of a sign
record SignTaken (source : Text) (negative : Bool) (brackets : List TokenKind) (rest : Text) (ts : List Token) : Type 0 where
  left : List Token
  kind : TokenKind
  is : IsSigned kind negative
  takes : Takes kind ts left
  next : From source false kind brackets rest left

sign_step : {source : Text} {before : TokenKind} {brackets : List TokenKind} {ts : List Token} (negative : Bool) (rest : Text)
    → From source false before brackets ((if negative then codes "TRUE" else codes "FALSE") ++ (codes "," ++ rest)) ts → SignTaken source negative brackets (codes "," ++ rest) ts
sign_step true rest h = let t = token_step (codes "TRUE") (codes "," ++ rest) h (keyword (codes "TRUE") (codes "," ++ rest) k.Signed refl refl refl) in record { left = t.left; kind = k.Signed; is = IsSigned.signed; takes = takes t; next = t.next }
sign_step false rest h = let t = token_step (codes "FALSE") (codes "," ++ rest) h (keyword (codes "FALSE") (codes "," ++ rest) k.Unsigned refl refl refl) in record { left = t.left; kind = k.Unsigned; is = IsSigned.unsigned; takes = takes t; next = t.next }

fixed_step : {source : Text} {before : TokenKind} {brackets : List TokenKind} {ts : List Token} (t : FixTy) (rest : Text) → is_int_fix t ≡ false
    → From source false before brackets (fix_text t ++ (codes "]" ++ rest)) ts → TypeTaken source (Fix t) brackets (codes "]" ++ rest) ts
fixed_step {source} {before} {brackets} {ts} t rest other h =
    let outer = codes "]" ++ rest in
    let frac = decimal (fix_frac t) ++ codes "]" in
    let whole = decimal (fix_whole t) ++ (codes ",_" ++ frac) in
    let word = if fix_signed t then codes "TRUE" else codes "FALSE" in
    let a = token_step (codes "FixPt") (codes "[" ++ ((word ++ (codes ",_" ++ whole)) ++ outer)) h (keyword (codes "FixPt") (codes "[" ++ ((word ++ (codes ",_" ++ whole)) ++ outer)) k.FixPt refl refl refl) in
    let b = open_square brackets ((word ++ (codes ",_" ++ whole)) ++ outer) a.next in
    let c = sign_step (fix_signed t) (codes "_" ++ (whole ++ outer)) (parted word (codes ",_" ++ whole) outer b.next) in
    let d = token_step (codes ",") (codes "_" ++ (whole ++ outer)) c.next (sign 44 [] (codes "_" ++ (whole ++ outer)) k.Comma refl refl) in
    let e = width_step (fix_whole t) (codes "_" ++ (frac ++ outer)) (omega (arith, t.in_a_word)) (moved (ap (λ (x : Text). codes "_" ++ x) (append_assoc (decimal (fix_whole t)) (codes ",_" ++ frac) outer)) d.next) in
    let f = token_step (codes ",") (codes "_" ++ (frac ++ outer)) e.next (sign 44 [] (codes "_" ++ (frac ++ outer)) k.Comma refl refl) in
    let g = last_width (fix_frac t) outer (omega (arith, t.in_a_word)) (moved (ap (λ (x : Text). codes "_" ++ x) (append_assoc (decimal (fix_frac t)) (codes "]") outer)) f.next) in
    let i = close_square brackets outer g.next in
    record {
      left = i.left;
      tree = written.FixPt (place_of ts) (fix_signed t) (fix_whole t) (fix_frac t);
      is = IsType.a_fixed (takes a) (takes b) c.is c.takes (takes d) e.is (takes f) g.is i.takes;
      spells = IsTypeTree.fixed other;
      last = k.CloseSquare;
      next = i.next;
    }

pub type_step : {source : Text} {before : TokenKind} {brackets : List TokenKind} {ts : List Token} (ty : Ty) (rest : Text)
    → From source false before brackets (type_text ty ++ (codes "]" ++ rest)) ts → TypeTaken source ty brackets (codes "]" ++ rest) ts
type_step {source} {before} {brackets} {ts} (Fix t) rest h = go (is_int_fix t) refl h
  where
    go : (b : Bool) → is_int_fix t ≡ b → From source false before brackets ((if b then codes "Int" else fix_text t) ++ (codes "]" ++ rest)) ts → TypeTaken source (Fix t) brackets (codes "]" ++ rest) ts
    go true is h =
        let a = token_step (codes "Int") (codes "]" ++ rest) h (keyword (codes "Int") (codes "]" ++ rest) k.Int refl refl refl) in
        record { left = a.left; tree = written.Int (place_of ts); is = IsType.an_int (takes a); spells = IsTypeTree.int is; last = k.Int; next = a.next }
    go false is h = fixed_step t rest is h
type_step {source} {before} {brackets} {ts} Bit rest h =
    let a = token_step (codes "Bit") (codes "]" ++ rest) h (keyword (codes "Bit") (codes "]" ++ rest) k.Bit refl refl refl) in
    record { left = a.left; tree = written.Bit (place_of ts); is = IsType.a_bit (takes a); spells = IsTypeTree.bit; last = k.Bit; next = a.next }

-- a type in square brackets
pub record BracketTaken (source : Text) (ty : Ty) (brackets : List TokenKind) (rest : Text) (ts : List Token) : Type 0 where
  pub left : List Token
  pub tree : SynTy
  pub is : IsBracketed source ts left tree
  pub spells : IsTypeTree ty tree
  pub next : From source false k.CloseSquare brackets rest left

pub bracket_step : {source : Text} {before : TokenKind} {brackets : List TokenKind} {ts : List Token} (ty : Ty) (rest : Text)
    → From source false before brackets (codes "[" ++ (type_text ty ++ (codes "]" ++ rest))) ts → BracketTaken source ty brackets rest ts
bracket_step {source} {before} {brackets} {ts} ty rest h =
    let a = open_square brackets (type_text ty ++ (codes "]" ++ rest)) h in
    let b = type_step ty rest a.next in
    let c = close_square brackets rest b.next in
    record { left = c.left; tree = b.tree; is = IsBracketed.in_brackets (takes a) b.is c.takes; spells = b.spells; next = c.next }

-- the type of a cast
pub record TargetTaken (source : Text) (ty : Ty) (brackets : List TokenKind) (rest : Text) (ts : List Token) : Type 0 where
  pub left : List Token
  pub tree : SynTy
  pub is : IsTarget source ts left tree
  pub spells : IsTypeTree ty tree
  pub next : From source false k.CloseSquare brackets rest left

pub target_step : {source : Text} {before : TokenKind} {brackets : List TokenKind} {ts : List Token} (ty : Ty) (rest : Text)
    → From source false before brackets (cast_text ty ++ rest) ts → TargetTaken source ty brackets rest ts
target_step {source} {before} {brackets} {ts} ty rest h =
    let inner = codes "[" ++ ((type_text ty ++ codes "]") ++ rest) in
    let a = token_step (codes ".") (codes "to" ++ inner) h (sign 46 [] (codes "to" ++ inner) k.Dot refl refl) in
    let b = token_step (codes "to") inner a.next (keyword (codes "to") inner k.To refl refl refl) in
    let c = bracket_step ty rest (moved (ap (λ (x : Text). codes "[" ++ x) (append_assoc (type_text ty) (codes "]") rest)) b.next) in
    record { left = c.left; tree = c.tree; is = IsTarget.to (takes a) (takes b) c.is; spells = c.spells; next = c.next }
