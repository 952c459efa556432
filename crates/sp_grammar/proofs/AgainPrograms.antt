-- What is spelled is read again: declarations and whole programs.
use Rattle.std.proofs.Common.{◌≡◌, ◌∙◌, ℕ, zero, suc, ◌≤◌, false, List, [], ◌∷◌, ◌++◌, length, Ok, refl, sym, ap, arith}
use Rattle.std.proofs.lemmas.List.{append-nil, append_assoc}
use Rattle.sp_reader.specs.declared.token.Token.{Token}
use Rattle.sp_reader.specs.declared.token.TokenKind.TheVariants as k
use Rattle.sp_reader.specs.PlainTree.{PlainIdent}
use Rattle.sp_reader.specs.PlainStatement.{PlainDeclKind, PlainDecl, PlainSyntax}
use Rattle.sp_reader.specs.ProgramRules.{a_dram, port, decl, decls_from, program}
use Rattle.sp_reader.specs.Steps.{Text, kind_of, place_of, same_kind, sees, semicolons}
use Rattle.sp_grammar.specs.Tokens.{Takes, IsBreak, IsName}
use Rattle.sp_grammar.specs.Statements.{IsPort, AreDecls, IsProgram}
use Rattle.sp_grammar.proofs.Again.{kind_at, tail_at, shorter, sees_it, sees_other, skip_it, past_break, past_breaks, no_semicolon, name_shorter, name_again, bracketed_again, dims_again}
use Rattle.sp_grammar.proofs.AgainStatements.{braced_again}
use Rattle.sp_grammar.proofs.Lengths.{break_shorter, breaks_shorter, port_shorter}

module _ (source : Text) where
  port_again : {ts us : List Token} {p : PlainDeclKind} → IsPort source ts us p → port source ts ≡ Ok (p, us)
  unfolding port a_dram same_kind
  port_again {ts} (IsPort.an_arg_in word t) = rw (sees_it ts word, tail_at ts word, bracketed_again source t) refl
  port_again {ts} (IsPort.an_arg_out word t) = rw (sees_other k.ArgOut k.ArgIn ts (kind_at ts word) refl, sees_it ts word, tail_at ts word, bracketed_again source t) refl
  port_again {ts} (IsPort.a_dram word t dims) =
      let at = kind_at ts word in rw (sees_other k.Dram k.ArgIn ts at refl, sees_other k.Dram k.ArgOut ts at refl, sees_it ts word, tail_at ts word, bracketed_again source t, dims_again source dims) refl

  decl_again : {ts a b c d : List Token} {i : PlainIdent} {p : PlainDeclKind} → Takes k.Val ts a → IsName source a b i → Takes k.Equal b c → IsPort source c d p → decl source ts ≡ Ok (record { place = place_of ts; name = i; kind = p }, d)
  unfolding decl
  decl_again {a = a} word i sign p = rw (skip_it word, name_again source a i, skip_it sign, port_again p) refl

  -- declarations begin with `val`, and `Accel` is behind them
  decls_plain : {ts us : List Token} {all : List PlainDecl} → AreDecls source ts us all → kind_of us ≡ k.Accel → sees k.Semicolon ts ≡ false
  unfolding same_kind
  decls_plain {ts} AreDecls.none e = sees_other k.Accel k.Semicolon ts e refl
  decls_plain {ts} (AreDecls.next word i sign p brk rest) e = sees_other k.Val k.Semicolon ts (kind_at ts word) refl

  decls_again_from : {ts us vs : List Token} {all : List PlainDecl} → AreDecls source ts us all → (n : ℕ) (found : List PlainDecl) → length ts ≤ n → Takes k.Accel us vs → decls_from source n found ts ≡ Ok (found ++ all, us)
  unfolding decls_from same_kind
  decls_again_from {ts} AreDecls.none zero found enough accel = let less = shorter ts accel in absurd (omega (arith, less, enough))
  decls_again_from {ts} AreDecls.none (suc n) found enough accel = rw (sees_it ts accel) (ap (λ xs. Ok (xs, ts)) (sym (append-nil found)))
  decls_again_from {ts} (AreDecls.next word i sign p brk rest) zero found enough accel = let less = shorter ts word in absurd (omega (arith, less, enough))
  decls_again_from {ts} {us} (AreDecls.next {a = a} {b = b} {i = i} {p = p} {rest = more} word named sign port (IsBreak.one {us = es} takes) rest) (suc n) found enough accel =
      let off = decls_plain rest (kind_at us accel) in
      let l1 = shorter ts word in let l2 = name_shorter source a named in let l3 = shorter b sign in let l4 = port_shorter source port in let l5 = break_shorter (IsBreak.one takes) in
      rw (sees_other k.Val k.Accel ts (kind_at ts word) refl, decl_again word named sign port, skip_it takes, no_semicolon es off)
      (decls_again_from rest n (found ++ record { place = place_of ts; name = i; kind = p } ∷ []) (omega (arith, l1, l2, l3, l4, l5, enough)) accel ∙ ap (λ xs. Ok (xs, us)) (append_assoc found (record { place = place_of ts; name = i; kind = p } ∷ []) more))
  decls_again_from {ts} {us} (AreDecls.next {a = a} {b = b} {e = es} {i = i} {p = p} {rest = more} word named sign port (IsBreak.another takes brk) rest) (suc n) found enough accel =
      let off = decls_plain rest (kind_at us accel) in
      let l1 = shorter ts word in let l2 = name_shorter source a named in let l3 = shorter b sign in let l4 = port_shorter source port in let l5 = break_shorter (IsBreak.another takes brk) in
      rw (sees_other k.Val k.Accel ts (kind_at ts word) refl, decl_again word named sign port, skip_it takes, past_break brk, no_semicolon es off)
      (decls_again_from rest n (found ++ record { place = place_of ts; name = i; kind = p } ∷ []) (omega (arith, l1, l2, l3, l4, l5, enough)) accel ∙ ap (λ xs. Ok (xs, us)) (append_assoc found (record { place = place_of ts; name = i; kind = p } ∷ []) more))

  decls_shorter : {ts us : List Token} {all : List PlainDecl} → AreDecls source ts us all → length us ≤ length ts
  decls_shorter AreDecls.none = omega arith
  decls_shorter {ts} (AreDecls.next {a = a} {b = b} word named sign port brk rest) =
      let l1 = shorter ts word in let l2 = name_shorter source a named in let l3 = shorter b sign in let l4 = port_shorter source port in let l5 = break_shorter brk in let l6 = decls_shorter rest in omega (arith, l1, l2, l3, l4, l5, l6)

  pub program_again : {ts : List Token} {tree : PlainSyntax} → IsProgram source ts tree → program source ts ≡ Ok tree
  unfolding program semicolons
  program_again {ts} (IsProgram.program {a = a} {b = b} brk ds accel body end) =
      let past = breaks_shorter brk in let less = decls_shorter ds in let word = shorter b accel in
      rw (past_breaks brk, no_semicolon a (decls_plain ds (kind_at b accel)), decls_again_from ds (length ts) [] (omega (arith, past)) accel, skip_it accel, braced_again source body (length ts) (omega (arith, past, less, word)), past_breaks end) refl
