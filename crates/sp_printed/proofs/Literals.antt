-- Literals of a printed text.
use Rattle.std.proofs.Common.{◌≡◌, ℕ, ◌^◌, ◌<◌, ◌==◌, not, Bool, true, false, if◌then◌else◌, List, [], ◌++◌, Some, codes, refl, pow_pos, sym, ap, subst, ◌∙◌, mod-lt, arith}
use Rattle.sp_words.specs.declared.types.Ty.{Ty}
use Rattle.sp_words.specs.declared.types.Ty.TheVariants.{Fix, Bit}
use Rattle.sp_words.specs.Decimal.{text_of, with_point, whole_part, fraction_digits}
use Rattle.sp_words.specs.NumberText.{digit_bytes, IsNumberText}
use Rattle.sp_words.specs.Types.{width_of}
use Rattle.sp_words.specs.Words.{IsWord, has_sign}
use Rattle.sp_words.proofs.NumberTextLemmas.{printed, read_again}
use Rattle.sp_tree.specs.PlainExpression as program
use Rattle.sp_reader.specs.declared.token.Token.{Token}
use Rattle.sp_reader.specs.declared.token.TokenKind.{TokenKind}
use Rattle.sp_reader.specs.declared.token.TokenKind.TheVariants as k
use Rattle.sp_reader.specs.Names.{digits}
use Rattle.sp_reader.specs.Numbers as spelled
use Rattle.sp_reader.specs.PlainTree as tree
use Rattle.sp_reader.specs.PlainTree.{PlainDigits}
use Rattle.sp_reader.specs.Steps.{Text, spelling_of, place_of}
use Rattle.sp_grammar.specs.Tokens.{IsNumber}
use Rattle.sp_grammar.specs.Expressions.{IsSignedNumber, IsPostfix, IsPrimary}
use Rattle.sp_printer.specs.Names.{Names}
use Rattle.sp_printer.specs.Types.{is_int_fix}
use Rattle.sp_printer.specs.Words.{word_at, cast_text, literal_text}
use Rattle.sp_scanned.specs.From.{From, Begins, stops}
use Rattle.sp_scanned.proofs.Steps.{token_step}
use Rattle.sp_scanned.proofs.Words.{keyword, sign}
use Rattle.sp_scanned.proofs.Numbers.{number_front, digits_are, whole_is}
use Rattle.sp_printed.specs.Trees.{IsLiteral, IsTree}
use Rattle.sp_printed.proofs.Takings.{moved, parted, takes, begins_with, begins_left, Printed}
use Rattle.sp_printed.proofs.Values.{target_step}

-- a number with or without its sign
pub record NumberTaken (source : Text) (negative : Bool) (whole : ℕ) (ds : List ℕ) (brackets : List TokenKind) (rest : Text) (ts : List Token) : Type 0 where
  pub left : List Token
  pub number : PlainDigits
  pub is : IsPostfix source ts left (tree.expr (place_of ts) (tree.number number))
  pub signed : IsSignedNumber source ts left number
  pub sign_is : number.negative ≡ negative
  pub whole_is : number.whole ≡ whole
  pub digits_are : number.digits ≡ ds
  pub next : From source false k.Number brackets rest left

number_step : {source : Text} {before : TokenKind} {brackets : List TokenKind} {ts : List Token} (bytes : Text) (negative : Bool) (whole : ℕ) (ds : List ℕ) (rest : Text)
    → IsNumberText bytes negative whole ds → whole < 2 ^ 128 → stops rest ≡ true
    → From source false before brackets (bytes ++ rest) ts → NumberTaken source negative whole ds brackets rest ts
number_step {source} {before} {brackets} {ts} bytes false whole ds rest n low stop h =
    let text = digit_bytes n.before ++ with_point ds in
    let t = token_step text rest (moved (ap (λ (x : Text). x ++ rest) n.written) h) (number_front n.before ds rest n.some n.are_digits.0 n.are_digits.1 stop) in
    let part = ap spelled.whole t.spells ∙ whole_is n.before ds n.are_digits.0 n.are_digits.1 n.some (omega (arith, low, n.number)) ∙ ap (λ x. Some x) n.number in
    let is : IsNumber source (place_of ts) false ts t.left (digits (place_of ts) false (spelling_of source t.token) whole) = record { takes = takes t; whole = whole; part = part; spells = refl } in
    record {
      left = t.left;
      number = digits (place_of ts) false (spelling_of source t.token) whole;
      is = IsPostfix.primary (IsPrimary.a_number is);
      signed = IsSignedNumber.plain is;
      sign_is = refl;
      whole_is = refl;
      digits_are = ap spelled.fraction_digits t.spells ∙ digits_are n.before ds n.are_digits.0 n.are_digits.1;
      next = t.next;
    }
number_step {source} {before} {brackets} {ts} bytes true whole ds rest n low stop h =
    let text = digit_bytes n.before ++ with_point ds in
    let s = token_step (codes "-") (text ++ rest) (moved (ap (λ (x : Text). x ++ rest) n.written) h) (sign 45 [] (text ++ rest) k.Minus refl refl) in
    let t = token_step text rest s.next (number_front n.before ds rest n.some n.are_digits.0 n.are_digits.1 stop) in
    let part = ap spelled.whole t.spells ∙ whole_is n.before ds n.are_digits.0 n.are_digits.1 n.some (omega (arith, low, n.number)) ∙ ap (λ x. Some x) n.number in
    let is : IsNumber source (place_of ts) true s.left t.left (digits (place_of ts) true (spelling_of source t.token) whole) = record { takes = takes t; whole = whole; part = part; spells = refl } in
    record {
      left = t.left;
      number = digits (place_of ts) true (spelling_of source t.token) whole;
      is = IsPostfix.negative (takes s) is;
      signed = IsSignedNumber.negative (takes s) is;
      sign_is = refl;
      whole_is = refl;
      digits_are = ap spelled.fraction_digits t.spells ∙ digits_are n.before ds n.are_digits.0 n.are_digits.1;
      next = t.next;
    }

number_begins : (bytes : Text) (negative : Bool) (whole : ℕ) (ds : List ℕ) (rest : Text) → IsNumberText bytes negative whole ds → stops rest ≡ true → Begins (bytes ++ rest)
number_begins bytes false whole ds rest n stop =
    subst Begins (ap (λ (x : Text). x ++ rest) (sym n.written)) (begins_with (number_front n.before ds rest n.some n.are_digits.0 n.are_digits.1 stop) refl)
number_begins bytes true whole ds rest n stop =
    let text = digit_bytes n.before ++ with_point ds in
    subst Begins (ap (λ (x : Text). x ++ rest) (sym n.written)) (begins_with (sign 45 [] (text ++ rest) k.Minus refl refl) refl)

-- the word of a literal is one of its type
pub word_kept : (ty : Ty) (w : ℕ) → IsWord ty (word_at ty w)
word_kept ty w = mod-lt w (power (width_of ty))
  where
    power : (n : ℕ) → 0 < 2 ^ n
    power n = pow_pos n

-- the digits of a word, before anything that stops
pub word_step : {source : Text} {before : TokenKind} {brackets : List TokenKind} {ts : List Token} (ty : Ty) (w : ℕ) (rest : Text) → IsWord ty w → stops rest ≡ true
    → From source false before brackets (text_of ty w ++ rest) ts → NumberTaken source (has_sign ty w) (whole_part ty w) (fraction_digits ty w) brackets rest ts
word_step ty w rest is stop h =
    let n = printed ty w is in
    number_step (text_of ty w) (has_sign ty w) (whole_part ty w) (fraction_digits ty w) rest n (read_again ty w (has_sign ty w) (whole_part ty w) (fraction_digits ty w) is n).fits stop h

pub word_begins : (ty : Ty) (w : ℕ) (rest : Text) → IsWord ty w → stops rest ≡ true → Begins (text_of ty w ++ rest)
word_begins ty w rest is stop = number_begins (text_of ty w) (has_sign ty w) (whole_part ty w) (fraction_digits ty w) rest (printed ty w is) stop

pub is_literal : {source : Text} {brackets : List TokenKind} {rest : Text} {ts : List Token} (ty : Ty) (w : ℕ)
    (t : NumberTaken source (has_sign ty (word_at ty w)) (whole_part ty (word_at ty w)) (fraction_digits ty (word_at ty w)) brackets rest ts) → IsLiteral ty w t.number
is_literal ty w t = record { sign = t.sign_is; whole = t.whole_is; digits = t.digits_are }

-- ---- as expressions

module _ (source : Text) (names : Names) where
  abbrev pub IsOperand : program.PlainExpr → List Token → List Token → tree.PlainExpr → Type 0
  IsOperand e ts us x = IsPostfix source ts us x × IsTree names e x

  pub literal_printed : (place : ℕ) (ty : Ty) (w : ℕ) → Printed source (literal_text ty w) (IsOperand (program.expr place ty (program.literal w)))
  literal_printed place Bit w = go (w == 0) refl
    where
      go : (b : Bool) → (w == 0) ≡ b → Printed source (if b then codes "false" else codes "true") (IsOperand (program.expr place Bit (program.literal w)))
      go true is = record {
        begins = λ rest stop. begins_with (keyword (codes "false") rest k.False refl refl stop) refl;
        reads = λ before brackets ts rest stop h.
            let t = token_step (codes "false") rest h (keyword (codes "false") rest k.False refl refl stop) in
            let same : not (w == 0) ≡ false = rw is refl in
            record {
              left = t.left;
              what = tree.expr (place_of ts) (tree.truth false);
              is = (IsPostfix.primary (IsPrimary.no (takes t)), subst (λ b. IsTree names (program.expr place Bit (program.literal w)) (tree.expr (place_of ts) (tree.truth b))) same IsTree.a_truth);
              last = k.False;
              ends = refl;
              next = t.next;
            };
      }
      go false is = record {
        begins = λ rest stop. begins_with (keyword (codes "true") rest k.True refl refl stop) refl;
        reads = λ before brackets ts rest stop h.
            let t = token_step (codes "true") rest h (keyword (codes "true") rest k.True refl refl stop) in
            let same : not (w == 0) ≡ true = rw is refl in
            record {
              left = t.left;
              what = tree.expr (place_of ts) (tree.truth true);
              is = (IsPostfix.primary (IsPrimary.yes (takes t)), subst (λ b. IsTree names (program.expr place Bit (program.literal w)) (tree.expr (place_of ts) (tree.truth b))) same IsTree.a_truth);
              last = k.True;
              ends = refl;
              next = t.next;
            };
      }
  literal_printed place (Fix t) w = go (is_int_fix t) refl
    where
      go : (b : Bool) → is_int_fix t ≡ b → Printed source (text_of (Fix t) (word_at (Fix t) w) ++ (if b then [] else cast_text (Fix t))) (IsOperand (program.expr place (Fix t) (program.literal w)))
      go true is = record {
        begins = λ rest stop. begins_left (text_of (Fix t) (word_at (Fix t) w)) [] rest (word_begins (Fix t) (word_at (Fix t) w) rest (word_kept (Fix t) w) stop);
        reads = λ before brackets ts rest stop h.
            let n = word_step (Fix t) (word_at (Fix t) w) rest (word_kept (Fix t) w) stop (parted (text_of (Fix t) (word_at (Fix t) w)) [] rest h) in
            record {
              left = n.left;
              what = tree.expr (place_of ts) (tree.number n.number);
              is = (n.is, IsTree.a_number is (is_literal (Fix t) w n));
              last = k.Number;
              ends = refl;
              next = n.next;
            };
      }
      go false is = record {
        begins = λ rest stop. begins_left (text_of (Fix t) (word_at (Fix t) w)) (cast_text (Fix t)) rest (word_begins (Fix t) (word_at (Fix t) w) (cast_text (Fix t) ++ rest) (word_kept (Fix t) w) refl);
        reads = λ before brackets ts rest stop h.
            let n = word_step (Fix t) (word_at (Fix t) w) (cast_text (Fix t) ++ rest) (word_kept (Fix t) w) refl (parted (text_of (Fix t) (word_at (Fix t) w)) (cast_text (Fix t)) rest h) in
            let c = target_step (Fix t) rest n.next in
            record {
              left = c.left;
              what = tree.expr (place_of ts) (tree.cast (tree.expr (place_of ts) (tree.number n.number)) c.tree);
              is = (IsPostfix.casted n.is c.is, IsTree.a_typed_number is (is_literal (Fix t) w n) c.spells);
              last = k.CloseSquare;
              ends = refl;
              next = c.next;
            };
      }
