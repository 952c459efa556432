-- Declarations of a printed text.
use Rattle.std.proofs.Common.{◌≡◌, ℕ, ◌≤◌, ◌==◌, not, Bool, true, false, if◌then◌else◌, List, [], ◌∷◌, ◌++◌, length, All, codes, decimal, Option, Some, None, refl, subst, arith}
use Rattle.std.proofs.lemmas.List.Elements.{All-head, All-tail}
use Rattle.sp_words.specs.declared.types.Ty.{Ty}
use Rattle.sp_words.specs.declared.types.Ty.TheVariants.{Fix, Bit}
use Rattle.sp_words.specs.Decimal.{text_of}
use Rattle.sp_words.specs.Interface.{IsCount}
use Rattle.sp_words.specs.Names.{IsName as IsGoodName}
use Rattle.sp_reader.specs.declared.token.Token.{Token}
use Rattle.sp_reader.specs.declared.token.TokenKind.{TokenKind}
use Rattle.sp_reader.specs.declared.token.TokenKind.TheVariants as k
use Rattle.sp_reader.specs.PlainTree as tree
use Rattle.sp_reader.specs.Steps.{Text, place_of}
use Rattle.sp_reader.specs.Tokens.{may_end}
use Rattle.sp_grammar.specs.Tokens.{Takes, IsName, IsCount as IsCountToken}
use Rattle.sp_grammar.specs.Expressions.{IsDims, IsLiteral as IsLiteralText}
use Rattle.sp_grammar.specs.Statements.{MayStart}
use Rattle.sp_printer.specs.Pieces.{dims_text, start_text}
use Rattle.sp_printer.specs.Types.{is_int_fix}
use Rattle.sp_printer.specs.Words.{word_at, cast_text, literal_text}
use Rattle.sp_scanned.specs.From.{From, Begins, stops}
use Rattle.sp_scanned.proofs.Steps.{token_step, blank_step}
use Rattle.sp_scanned.proofs.Words.{keyword, sign}
use Rattle.sp_printed.specs.StatementTrees.{IsStartTree}
use Rattle.sp_printed.proofs.Takings.{parted, takes, begins_with, name_step, close_round, open_round}
use Rattle.sp_printed.proofs.Values.{count_step, target_step}
use Rattle.sp_printed.proofs.Literals.{word_step, word_kept, is_literal}

-- ---- a name that something is bound to

pub record ValTaken (source : Text) (w : Text) (brackets : List TokenKind) (rest : Text) (ts : List Token) : Type 0 where
  pub first : List Token
  pub second : List Token
  pub left : List Token
  pub name : tree.PlainIdent
  pub val : Takes k.Val ts first
  pub is : IsName source first second name
  pub text : name.text ≡ w
  pub equal : Takes k.Equal second left
  pub next : From source false k.Equal brackets rest left

pub val_step : {source : Text} {before : TokenKind} {brackets : List TokenKind} {ts : List Token} (w rest : Text) → IsGoodName w
    → From source false before brackets (codes "val " ++ (w ++ (codes " = " ++ rest))) ts → ValTaken source w brackets rest ts
val_step {source} {before} {brackets} {ts} w rest good h =
    let a = token_step (codes "val") (codes " " ++ (w ++ (codes " = " ++ rest))) h (keyword (codes "val") (codes " " ++ (w ++ (codes " = " ++ rest))) k.Val refl refl refl) in
    let n = name_step w (codes " = " ++ rest) good refl (blank_step (w ++ (codes " = " ++ rest)) a.next) in
    let e = token_step (codes "=") (codes " " ++ rest) (blank_step (codes "= " ++ rest) n.next) (sign 61 [] (codes " " ++ rest) k.Equal refl refl) in
    record { first = a.left; second = n.left; left = e.left; name = n.name; val = takes a; is = n.is; text = n.text; equal = takes e; next = blank_step rest e.next }

pub val_begins : (rest : Text) → Begins (codes "val " ++ rest)
val_begins rest = begins_with (keyword (codes "val") (codes " " ++ rest) k.Val refl refl refl) refl

-- ---- dimensions

pub record OneTaken (source : Text) (n : ℕ) (brackets : List TokenKind) (rest : Text) (ts : List Token) : Type 0 where
  pub first : List Token
  pub second : List Token
  pub left : List Token
  pub open_is : Takes k.OpenRound ts first
  pub is : IsCountToken source first second n
  pub close_is : Takes k.CloseRound second left
  pub next : From source false k.CloseRound brackets rest left

counted : {source : Text} {before : TokenKind} {brackets : List TokenKind} {ts : List Token} (n : ℕ) (rest : Text) → IsCount n → stops rest ≡ true
    → From source false before brackets (decimal n ++ rest) ts → (us : List Token) × IsCountToken source ts us n × From source false k.Number brackets rest us
counted n rest count stop h = let c = count_step n rest (omega (arith, count.1)) stop h in (c.left, c.is 1 2147483647 count.0 (omega (arith, count.1)), c.next)

pub one_dim : {source : Text} {before : TokenKind} {brackets : List TokenKind} {ts : List Token} (n : ℕ) (rest : Text) → IsCount n
    → From source false before brackets (dims_text (n ∷ []) ++ rest) ts → OneTaken source n brackets rest ts
one_dim {source} {before} {brackets} {ts} n rest count h =
    let a = open_round brackets (((decimal n ++ []) ++ codes ")") ++ rest) h in
    let c = counted n (codes ")" ++ rest) count refl (parted (decimal n) [] (codes ")" ++ rest) (parted (decimal n ++ []) (codes ")") rest a.next)) in
    let z = close_round brackets rest c.2 in
    record { first = a.left; second = c.0; left = z.left; open_is = takes a; is = c.1; close_is = z.takes; next = z.next }

pub record TwoTaken (source : Text) (n m : ℕ) (brackets : List TokenKind) (rest : Text) (ts : List Token) : Type 0 where
  pub first : List Token
  pub second : List Token
  pub third : List Token
  pub fourth : List Token
  pub left : List Token
  pub open_is : Takes k.OpenRound ts first
  pub is : IsCountToken source first second n
  pub comma_is : Takes k.Comma second third
  pub is_too : IsCountToken source third fourth m
  pub close_is : Takes k.CloseRound fourth left
  pub next : From source false k.CloseRound brackets rest left

-- a number and a comma
number_comma : {source : Text} {before : TokenKind} {brackets : List TokenKind} {ts : List Token} (n : ℕ) (more rest : Text) → IsCount n
    → From source false before brackets ((decimal n ++ (codes ", " ++ more)) ++ rest) ts
    → (us vs : List Token) × IsCountToken source ts us n × Takes k.Comma us vs × From source false k.Comma brackets (more ++ rest) vs
number_comma n more rest count h =
    let c = counted n (codes ", " ++ (more ++ rest)) count refl (parted (decimal n) (codes ", " ++ more) rest h) in
    let m = token_step (codes ",") (codes " " ++ (more ++ rest)) c.2 (sign 44 [] (codes " " ++ (more ++ rest)) k.Comma refl refl) in
    (c.0, m.left, c.1, takes m, blank_step (more ++ rest) m.next)

pub two_dims : {source : Text} {before : TokenKind} {brackets : List TokenKind} {ts : List Token} (n m : ℕ) (rest : Text) → IsCount n → IsCount m
    → From source false before brackets (dims_text (n ∷ m ∷ []) ++ rest) ts → TwoTaken source n m brackets rest ts
two_dims {source} {before} {brackets} {ts} n m rest count count_too h =
    let inner = decimal m ++ [] in
    let a = open_round brackets (((decimal n ++ (codes ", " ++ inner)) ++ codes ")") ++ rest) h in
    let c = number_comma n inner (codes ")" ++ rest) count (parted (decimal n ++ (codes ", " ++ inner)) (codes ")") rest a.next) in
    let d = counted m (codes ")" ++ rest) count_too refl (parted (decimal m) [] (codes ")" ++ rest) c.4) in
    let z = close_round brackets rest d.2 in
    record { first = a.left; second = c.0; third = c.1; fourth = d.0; left = z.left; open_is = takes a; is = c.2; comma_is = c.3; is_too = d.1; close_is = z.takes; next = z.next }

-- one to three dimensions
pub record DimsTaken (source : Text) (dims : List ℕ) (brackets : List TokenKind) (rest : Text) (ts : List Token) : Type 0 where
  pub left : List Token
  pub is : IsDims source ts left dims
  pub next : From source false k.CloseRound brackets rest left

pub dims_step : {source : Text} {before : TokenKind} {brackets : List TokenKind} {ts : List Token} (dims : List ℕ) (rest : Text) → 1 ≤ length dims → length dims ≤ 3 → All IsCount dims
    → From source false before brackets (dims_text dims ++ rest) ts → DimsTaken source dims brackets rest ts
dims_step [] rest some few counts h = absurd (omega (arith, some))
dims_step (n ∷ []) rest some few counts h = let t = one_dim n rest (All-head IsCount n [] counts) h in record { left = t.left; is = IsDims.line t.open_is t.is t.close_is; next = t.next }
dims_step (n ∷ m ∷ []) rest some few counts h =
    let t = two_dims n m rest (All-head IsCount n (m ∷ []) counts) (All-head IsCount m [] (All-tail IsCount n (m ∷ []) counts)) h in
    record { left = t.left; is = IsDims.plane t.open_is t.is t.comma_is t.is_too t.close_is; next = t.next }
dims_step {source} {before} {brackets} {ts} (n ∷ m ∷ l ∷ []) rest some few counts h =
    let first = All-head IsCount n (m ∷ l ∷ []) counts in
    let others = All-tail IsCount n (m ∷ l ∷ []) counts in
    let second = All-head IsCount m (l ∷ []) others in
    let third = All-head IsCount l [] (All-tail IsCount m (l ∷ []) others) in
    let last = decimal l ++ [] in
    let inner = decimal m ++ (codes ", " ++ last) in
    let a = open_round brackets (((decimal n ++ (codes ", " ++ inner)) ++ codes ")") ++ rest) h in
    let c = number_comma n inner (codes ")" ++ rest) first (parted (decimal n ++ (codes ", " ++ inner)) (codes ")") rest a.next) in
    let d = number_comma m last (codes ")" ++ rest) second c.4 in
    let e = counted l (codes ")" ++ rest) third refl (parted (decimal l) [] (codes ")" ++ rest) d.4) in
    let z = close_round brackets rest e.2 in
    record { left = z.left; is = IsDims.block (takes a) c.2 c.3 d.2 d.3 e.1 z.takes; next = z.next }
dims_step (n ∷ m ∷ l ∷ o ∷ dims) rest some few counts h = absurd (omega (arith, few))

-- ---- starts

pub record StartTaken (source : Text) (ty : Ty) (w : ℕ) (brackets : List TokenKind) (rest : Text) (ts : List Token) : Type 0 where
  pub left : List Token
  pub what : tree.PlainLit
  pub is : IsLiteralText source ts left what
  pub spells : IsStartTree ty (Some w) (Some what)
  pub last : TokenKind
  pub next : From source false last brackets rest left

literal_step : {source : Text} {before : TokenKind} {brackets : List TokenKind} {ts : List Token} (ty : Ty) (w : ℕ) (rest : Text) → stops rest ≡ true
    → From source false before brackets (literal_text ty w ++ rest) ts → StartTaken source ty w brackets rest ts
literal_step {source} {before} {brackets} {ts} Bit w rest stop h = go (w == 0) refl h
  where
    go : (b : Bool) → (w == 0) ≡ b → From source false before brackets ((if b then codes "false" else codes "true") ++ rest) ts → StartTaken source Bit w brackets rest ts
    go true is h =
        let t = token_step (codes "false") rest h (keyword (codes "false") rest k.False refl refl stop) in
        let same : not (w == 0) ≡ false = rw is refl in
        record { left = t.left; what = tree.truth_lit (place_of ts) false; is = IsLiteralText.no (takes t); spells = subst (λ b. IsStartTree Bit (Some w) (Some (tree.truth_lit (place_of ts) b))) same IsStartTree.truth; last = k.False; next = t.next }
    go false is h =
        let t = token_step (codes "true") rest h (keyword (codes "true") rest k.True refl refl stop) in
        let same : not (w == 0) ≡ true = rw is refl in
        record { left = t.left; what = tree.truth_lit (place_of ts) true; is = IsLiteralText.yes (takes t); spells = subst (λ b. IsStartTree Bit (Some w) (Some (tree.truth_lit (place_of ts) b))) same IsStartTree.truth; last = k.True; next = t.next }
literal_step {source} {before} {brackets} {ts} (Fix t) w rest stop h = go (is_int_fix t) refl h
  where
    go : (b : Bool) → is_int_fix t ≡ b → From source false before brackets ((text_of (Fix t) (word_at (Fix t) w) ++ (if b then [] else cast_text (Fix t))) ++ rest) ts → StartTaken source (Fix t) w brackets rest ts
    go true is h =
        let n = word_step (Fix t) (word_at (Fix t) w) rest (word_kept (Fix t) w) stop (parted (text_of (Fix t) (word_at (Fix t) w)) [] rest h) in
        record { left = n.left; what = tree.number_lit n.number None; is = IsLiteralText.untyped n.signed; spells = IsStartTree.number is (is_literal (Fix t) w n); last = k.Number; next = n.next }
    go false is h =
        let n = word_step (Fix t) (word_at (Fix t) w) (cast_text (Fix t) ++ rest) (word_kept (Fix t) w) refl (parted (text_of (Fix t) (word_at (Fix t) w)) (cast_text (Fix t)) rest h) in
        let c = target_step (Fix t) rest n.next in
        record { left = c.left; what = tree.number_lit n.number (Some c.tree); is = IsLiteralText.typed n.signed c.is; spells = IsStartTree.typed_number is (is_literal (Fix t) w n) c.spells; last = k.CloseSquare; next = c.next }

pub record MayStartTaken (source : Text) (ty : Ty) (start : Option ℕ) (brackets : List TokenKind) (rest : Text) (ts : List Token) : Type 0 where
  pub left : List Token
  pub what : Option tree.PlainLit
  pub is : MayStart source ts left what
  pub spells : IsStartTree ty start what
  pub last : TokenKind
  pub ends : may_end last ≡ true
  pub next : From source false last brackets rest left

pub start_step : {source : Text} {before : TokenKind} {brackets : List TokenKind} {ts : List Token} (ty : Ty) (start : Option ℕ) (rest : Text) → may_end before ≡ true
    → From source false before brackets (start_text ty start ++ rest) ts → MayStartTaken source ty start brackets rest ts
start_step {source} {before} {brackets} {ts} ty None rest ends h = record { left = ts; what = None; is = MayStart.none; spells = IsStartTree.none; last = before; ends = ends; next = h }
start_step {source} {before} {brackets} {ts} ty (Some w) rest ends h =
    let a = open_round brackets ((literal_text ty w ++ codes ")") ++ rest) h in
    let l = literal_step ty w (codes ")" ++ rest) refl (parted (literal_text ty w) (codes ")") rest a.next) in
    let z = close_round brackets rest l.next in
    record { left = z.left; what = Some l.what; is = MayStart.some (takes a) l.is z.takes; spells = l.spells; last = k.CloseRound; ends = refl; next = z.next }
