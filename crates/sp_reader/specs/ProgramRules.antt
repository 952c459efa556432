-- The plain reader: declarations and whole programs.
use Rattle.std.specs.Prelude.{ℕ, zero, suc, Bool, true, false, if◌then◌else◌, List, [], ◌∷◌, ◌++◌, length, Result, Ok, Err}
use Rattle.sp_reader.specs.declared.token.TokenKind.{TokenKind}
use Rattle.sp_reader.specs.declared.token.TokenKind.TheVariants as k
use Rattle.sp_reader.specs.declared.token.Token.{Token}
use Rattle.sp_reader.specs.PlainTree.{PlainIdent}
use Rattle.sp_reader.specs.PlainStatement.{PlainStmt, PlainDeclKind, arg_in, arg_out, dram, PlainDecl, PlainSyntax}
use Rattle.sp_reader.specs.Steps.{Text, Outcome, Rule, and_then, ◌>>=◌, pure, refuse, kind_of, tail_of, place_of, sees, skip, semicolons}
use Rattle.sp_reader.specs.Names.{name}
use Rattle.sp_reader.specs.TypeRules.{bracketed, dims}
use Rattle.sp_reader.specs.StatementRules.{braced, stmt}

unfoldable pub a_dram : Text → Rule PlainDeclKind
a_dram source = do
  t ← bracketed source
  ds ← dims source
  pure (dram t ds)

-- what stands after `val name =` outside of `Accel`
unfoldable pub port : Text → Rule PlainDeclKind
port source = λ ts.
    if sees k.ArgIn ts then (bracketed source >>= λ t. pure (arg_in t)) (tail_of ts)
    else (if sees k.ArgOut ts then (bracketed source >>= λ t. pure (arg_out t)) (tail_of ts)
    else (if sees k.Dram ts then a_dram source (tail_of ts) else Err (length ts)))

unfoldable pub decl : Text → Rule PlainDecl
decl source = λ ts. (skip k.Val >>= λ _. name source >>= λ i. skip k.Equal >>= λ _. port source >>= λ p. pure (record { place = place_of ts; name = i; kind = p })) ts

unfoldable pub decls_from : Text → ℕ → List PlainDecl → Rule (List PlainDecl)
decls_from source zero found = refuse
decls_from source (suc n) found = λ ts.
    if sees k.Accel ts then Ok (found, ts)
    else (decl source >>= λ d. skip k.Semicolon >>= λ _. λ us. decls_from source n (found ++ d ∷ []) (semicolons us)) ts

-- declarations up to `Accel`, each with `;` after it
abbrev pub decls : Text → Rule (List PlainDecl)
decls source = λ ts. decls_from source (length ts) [] (semicolons ts)

-- the end of the tokens, after any number of `;`
abbrev pub finished : PlainSyntax → List Token → Result PlainSyntax ℕ
finished s [] = Ok s
finished s (t ∷ ts) = Err (length (t ∷ ts))

abbrev pub whole_of : Outcome PlainSyntax → Result PlainSyntax ℕ
whole_of (Ok p) = finished p.0 (semicolons p.1)
whole_of (Err e) = Err e

-- a program, with no token after it
unfoldable pub program : Text → List Token → Result PlainSyntax ℕ
program source ts = whole_of ((decls source >>= λ ds. skip k.Accel >>= λ _. braced (stmt source (length ts)) >>= λ ss. pure (record { decls = ds; body = ss })) ts)
