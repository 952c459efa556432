-- Declarations and whole programs.
use Rattle.std.proofs.Common.{◌≡◌, ◌∙◌, ℕ, zero, suc, Bool, true, false, List, [], ◌∷◌, ◌++◌, length, Ok, Err, refl, sym, ap, subst, if◌then◌else◌}
use Rattle.std.proofs.lemmas.List.{append-nil, append_assoc}
use Rattle.sp_reader.specs.declared.token.Token.{Token}
use Rattle.sp_reader.specs.declared.token.TokenKind.TheVariants as k
use Rattle.sp_reader.specs.PlainStatement.{arg_in, arg_out, dram, PlainDecl, PlainSyntax}
use Rattle.sp_reader.specs.ProgramRules.{a_dram, port, decl, decls_from, decls, finished, whole_of, program}
use Rattle.sp_reader.specs.StatementRules.{braced, stmt}
use Rattle.sp_reader.specs.Steps.{Text, Outcome, Rule, ◌>>=◌, pure, place_of, sees, skip, semicolons}
use Rattle.sp_grammar.specs.Tokens.{Takes, IsBreak, MayBreak}
use Rattle.sp_grammar.specs.Statements.{IsPort, AreDecls, IsProgram}
use Rattle.sp_grammar.proofs.Rules.{Reads, given, refused, bound, seen, skips, may_break, is_break}
use Rattle.sp_grammar.proofs.Statements.{braced_go}
use Rattle.sp_grammar.proofs.Types.{bracketeds, dimensions}
use Rattle.sp_grammar.proofs.Words.{names}

module _ (source : Text) where
  drams : {ts us : List Token} → Takes k.Dram ts us → Reads (a_dram source) us (λ p vs. IsPort source ts vs p)
  unfolding a_dram
  drams word = bound (bracketeds source) (λ t _ p. bound (dimensions source) (λ ds _ q. given (dram t ds) (IsPort.a_dram word p q)))

  ports : {ts : List Token} → Reads (port source) ts (λ p us. IsPort source ts us p)
  unfolding port
  ports {ts} = record {
    run = seen ts k.ArgIn refl
        (λ word. (bound {Q = λ p us. IsPort source ts us p} (bracketeds source) (λ t _ p. given (arg_in t) (IsPort.an_arg_in word p))).run)
        (λ _. seen ts k.ArgOut refl
        (λ word. (bound {Q = λ p us. IsPort source ts us p} (bracketeds source) (λ t _ p. given (arg_out t) (IsPort.an_arg_out word p))).run)
        (λ _. seen ts k.Dram refl (λ word. (drams word).run) (λ _. (refused {P = λ p us. IsPort source ts us p} {ts = ts}).run)));
  }

  -- a declaration, which stands before others
  abbrev DeclAt : List Token → PlainDecl → List Token → Type 0
  DeclAt ts d us = (e vs : List Token) (rest : List PlainDecl) → IsBreak us e → AreDecls source e vs rest → AreDecls source ts vs (d ∷ rest)

  decl_go : {ts : List Token} → Reads (decl source) ts (DeclAt ts)
  unfolding decl
  decl_go {ts} = record {
    run = (bound {Q = DeclAt ts} (skips k.Val refl) (λ _ _ word. bound (names source) (λ i _ p. bound (skips k.Equal refl) (λ _ _ equal. bound ports (λ port _ q.
        given (record { place = place_of ts; name = i; kind = port }) (λ e vs rest brk more. AreDecls.next word p equal q brk more)))))).run;
  }

  abbrev DeclsFrom : List PlainDecl → List Token → List PlainDecl → List Token → Type 0
  DeclsFrom before ts all us = (rest : List PlainDecl) × (all ≡ before ++ rest) × AreDecls source ts us rest

  decls_go_from : (n : ℕ) {ts : List Token} (found : List PlainDecl) → Reads (decls_from source n found) ts (DeclsFrom found ts)
  unfolding decls_from
  decls_go_from zero found = refused
  decls_go_from (suc n) {ts} found = record { run = λ all us h. go all us (λ d vs. decls_go_from n {ts = vs} (found ++ d ∷ [])) (sees k.Accel ts) h }
    where
      go : (all : List PlainDecl) (us : List Token) → ((d : PlainDecl) (vs : List Token) → Reads (decls_from source n (found ++ d ∷ [])) vs (DeclsFrom (found ++ d ∷ []) vs)) → (b : Bool)
          → (if b then Ok (found, ts) else (decl source >>= λ d. skip k.Semicolon >>= λ _. λ us. decls_from source n (found ++ d ∷ []) (semicolons us)) ts) ≡ Ok (all, us) → DeclsFrom found ts all us
      go all us next true h = (given {P = DeclsFrom found ts} {ts = ts} found ([], sym (append-nil found), AreDecls.none)).run all us h
      go all us next false h = (bound {Q = DeclsFrom found ts} (decl_go {ts = ts}) (λ d us p. bound (skips k.Semicolon refl) (λ _ vs takes.
          record {
            run = λ all ws g.
                let more = (next d (semicolons vs)).run all ws g in
                (d ∷ more.0, more.1 ∙ append_assoc found (d ∷ []) more.0, p (semicolons vs) ws more.0 (is_break vs takes) more.2);
          }))).run all us h

  decls_go : {ts : List Token} → Reads (decls source) ts (λ all us. (a : List Token) × MayBreak ts a × AreDecls source a us all)
  decls_go {ts} = record { run = λ all us h. let more = (decls_go_from (length ts) {ts = semicolons ts} []).run all us h in (semicolons ts, may_break ts, subst (AreDecls source (semicolons ts) us) (sym more.1) more.2) }

  -- a program up to these tokens
  abbrev ProgramBefore : List Token → PlainSyntax → List Token → Type 0
  ProgramBefore ts tree us = MayBreak us [] → IsProgram source ts tree

  abbrev up_to_the_end : List Token → Rule PlainSyntax
  up_to_the_end ts = decls source >>= λ ds. skip k.Accel >>= λ _. braced (stmt source (length ts)) >>= λ ss. pure (record { decls = ds; body = ss })

  programs : (ts : List Token) → Reads (up_to_the_end ts) ts (ProgramBefore ts)
  programs ts = bound decls_go (λ ds _ p. bound (skips k.Accel refl) (λ _ us word. bound (braced_go source (length ts) us) (λ ss _ q.
      given (record { decls = ds; body = ss }) (λ last. IsProgram.program p.1 p.2 word q last))))

  ended : (o : Outcome PlainSyntax) (tree : PlainSyntax) → whole_of o ≡ Ok tree → (us : List Token) × (o ≡ Ok (tree, us)) × MayBreak us []
  ended (Ok (s, us)) tree h = by_rest (semicolons us) (may_break us) h
    where
      by_rest : (rest : List Token) → MayBreak us rest → finished s rest ≡ Ok tree → (left : List Token) × (◌≡◌ {A = Outcome PlainSyntax} (Ok (s, us)) (Ok (tree, left))) × MayBreak left []
      by_rest [] brk e = let same : s ≡ tree = cc in (us, ap (λ x. Ok (x, us)) same, brk)
      by_rest (t ∷ ts) brk e = absurd (cc)
  ended (Err left) tree h = absurd (cc)

  pub program_is : (ts : List Token) (tree : PlainSyntax) → program source ts ≡ Ok tree → IsProgram source ts tree
  unfolding program
  program_is ts tree h =
      let end = ended (up_to_the_end ts ts) tree h in
      (programs ts).run tree end.0 end.1 end.2
