-- A text that spells tokens with blanks between is scanned as such.
use Rattle.std.proofs.Common.{◌≡◌, ◌∙◌, ◌≤◌, true, false, List, [], ◌∷◌, ◌++◌, length, codes, refl, sym, ap, subst, arith}
use Rattle.sp_reader.specs.declared.scan.Piece.TheVariants as piece
use Rattle.sp_reader.specs.declared.token.Token.{Token}
use Rattle.sp_reader.specs.declared.token.TokenKind.{TokenKind}
use Rattle.sp_reader.specs.declared.token.TokenKind.TheVariants as k
use Rattle.sp_reader.specs.Steps.{Text, spelling_of}
use Rattle.sp_reader.specs.Tokens.{front, word_kind, sign_of, opened}
use Rattle.sp_scanned.specs.From.{From}
use Rattle.sp_scanned.proofs.Steps.{token_step, blank_step, at_end}
use Rattle.sp_refused_texts.proofs.Fronts.{is_written}
use Rattle.sp_refused_texts.proofs.Written.{AreWritten}

-- a spelling of each kind of token that stands in a rule
abbrev pub spelled_as : TokenKind → Text
spelled_as k.Name = codes "x"
spelled_as k.To = codes "to"
spelled_as k.Value = codes "value"
spelled_as k.Enq = codes "enq"
spelled_as k.Deq = codes "deq"
spelled_as k.Gather = codes "gather"
spelled_as k.Scatter = codes "scatter"
spelled_as k.Width = codes "_1"
spelled_as k.Number = codes "1"
spelled_as k.Wild = codes "_"
spelled_as k.OpenRound = codes "("
spelled_as k.CloseRound = codes ")"
spelled_as k.OpenSquare = codes "["
spelled_as k.CloseSquare = codes "]"
spelled_as k.OpenCurly = codes "{"
spelled_as k.CloseCurly = codes "}"
spelled_as k.Comma = codes ","
spelled_as k.Dot = codes "."
spelled_as k.Semicolon = codes ";"
spelled_as k.Equal = codes "="
spelled_as k.Assign = codes ":="
spelled_as k.Arrow = codes "=>"
spelled_as k.Colons = codes "::"
spelled_as k.Plus = codes "+"
spelled_as k.Minus = codes "-"
spelled_as k.Star = codes "*"
spelled_as k.Slash = codes "/"
spelled_as k.Percent = codes "%"
spelled_as k.And = codes "&"
spelled_as k.AndAnd = codes "&&"
spelled_as k.Or = codes "|"
spelled_as k.OrOr = codes "||"
spelled_as k.Caret = codes "^"
spelled_as k.Tilde = codes "~"
spelled_as k.Bang = codes "!"
spelled_as k.EqualEqual = codes "=="
spelled_as k.BangEqual = codes "!="
spelled_as k.Less = codes "<"
spelled_as k.LessEqual = codes "<="
spelled_as k.Greater = codes ">"
spelled_as k.GreaterEqual = codes ">="
spelled_as k.ShiftLeft = codes "<<"
spelled_as k.ShiftRight = codes ">>"
spelled_as k.Val = codes "val"
spelled_as k.Accel = codes "Accel"
spelled_as k.ArgIn = codes "ArgIn"
spelled_as k.ArgOut = codes "ArgOut"
spelled_as k.Dram = codes "DRAM"
spelled_as k.Reg = codes "Reg"
spelled_as k.Sram = codes "SRAM"
spelled_as k.Fifo = codes "FIFO"
spelled_as k.LineBuffer = codes "LineBuffer"
spelled_as k.Int = codes "Int"
spelled_as k.Bit = codes "Bit"
spelled_as k.FixPt = codes "FixPt"
spelled_as k.Signed = codes "TRUE"
spelled_as k.Unsigned = codes "FALSE"
spelled_as k.True = codes "true"
spelled_as k.False = codes "false"
spelled_as k.Foreach = codes "Foreach"
spelled_as k.Reduce = codes "Reduce"
spelled_as k.Fold = codes "Fold"
spelled_as k.MemReduce = codes "MemReduce"
spelled_as k.Fsm = codes "FSM"
spelled_as k.Sequential = codes "Sequential"
spelled_as k.Pipe = codes "Pipe"
spelled_as k.Parallel = codes "Parallel"
spelled_as k.Stream = codes "Stream"
spelled_as k.If = codes "if"
spelled_as k.Else = codes "else"
spelled_as k.Mux = codes "mux"
spelled_as k.Min = codes "min"
spelled_as k.Max = codes "max"
spelled_as k.By = codes "by"
spelled_as k.Par = codes "par"
spelled_as k.Until = codes "until"
spelled_as k.Load = codes "load"
spelled_as k.Store = codes "store"
spelled_as k.Other = []
spelled_as k.End = []

pub spelled_front : (kind : TokenKind) (rest : Text) → is_written kind ≡ true → front (spelled_as kind ++ 32 ∷ rest) ≡ piece.Token kind (length (spelled_as kind))
unfolding front word_kind sign_of
spelled_front k.Other rest e = absurd (cc)
spelled_front k.End rest e = absurd (cc)
spelled_front _ rest e = refl

-- ---- a list of tokens

-- their spellings, with a blank behind each
abbrev pub spelled : List Token → Text
spelled [] = []
spelled (t ∷ ts) = spelled_as t.kind ++ 32 ∷ spelled ts

-- tokens of the same kinds, of which numbers spell 1
abbrev pub AreOnes : Text → List Token → List Token → Type 0
AreOnes other [] [] = Unit {0}
AreOnes other [] (u ∷ us) = ⊥
AreOnes other (t ∷ ts) [] = ⊥
AreOnes other (t ∷ ts) (u ∷ us) = ((t.kind ≡ u.kind) × (t.kind ≡ k.Number → spelling_of other u ≡ 49 ∷ [])) × AreOnes other ts us

pub some_spelled : (kind : TokenKind) → is_written kind ≡ true → 1 ≤ length (spelled_as kind)
some_spelled k.Other e = absurd (cc)
some_spelled k.End e = absurd (cc)
some_spelled _ e = omega arith

pub scanned_again : (other : Text) (before : TokenKind) (brackets : List TokenKind) (rest us : List Token) → AreWritten rest → From other false before brackets (spelled rest) us → AreOnes other rest us
scanned_again other before brackets [] us real h = subst (AreOnes other []) (sym (at_end h)) tt
scanned_again other before brackets (t ∷ rest) us real h =
    let taken = token_step (spelled_as t.kind) (32 ∷ spelled rest) h (record { some = some_spelled t.kind real.0; is = spelled_front t.kind (spelled rest) real.0 }) in
    let more = scanned_again other t.kind (opened brackets t.kind) rest taken.left real.1 (blank_step (spelled rest) taken.next) in
    subst (AreOnes other (t ∷ rest)) (sym taken.is) ((sym taken.of_kind, λ e. taken.spells ∙ ap spelled_as e), more)
