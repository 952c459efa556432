-- Declarations and whole programs go on.
use Rattle.std.proofs.Common.{◌≡◌, ◌∙◌, ℕ, zero, suc, Bool, true, false, List, [], ◌∷◌, ◌++◌, length, Ok, Err, refl, sym, ap, subst, if◌then◌else◌}
use Rattle.std.proofs.lemmas.List.{append-nil}
use Rattle.sp_reader.specs.declared.token.Token.{Token}
use Rattle.sp_reader.specs.declared.token.TokenKind.TheVariants as k
use Rattle.sp_reader.specs.declared.syntax.expression.SynTy.TheVariants.{Int}
use Rattle.sp_reader.specs.PlainStatement.{arg_in, arg_out, dram, PlainDecl, PlainSyntax}
use Rattle.sp_reader.specs.ProgramRules.{a_dram, port, decl, decls_from, decls, program}
use Rattle.sp_reader.specs.Steps.{Text, Outcome, ◌>>=◌, place_of, sees, skip, semicolons}
use Rattle.sp_grammar.specs.Tokens.{IsBreak, MayBreak}
use Rattle.sp_grammar.specs.Expressions.{IsBracketed, IsType}
use Rattle.sp_grammar.specs.Statements.{IsPort, AreDecls, IsProgram}
use Rattle.sp_refusals.proofs.Continued.{Put, Continued, given, refused, bound, weaker, behind_breaks, break_may, made, token_is, chosen, skips}
use Rattle.sp_refusals.proofs.ContinuedWords.{Spelled, SmallNumber, names, bracketeds, dimensions}
use Rattle.sp_refusals.proofs.ContinuedStatements.{braced_goes}
use Rattle.sp_refusals.proofs.SteadyPrograms.{ends, whole, value_of, whole_is}

module _ (source : Text) (one : SmallNumber source) where
  an_arg : Spelled (IsPort source) (λ x. made k.ArgIn ∷ made k.OpenSquare ∷ made k.Int ∷ made k.CloseSquare ∷ x)
  an_arg x = (_, IsPort.an_arg_in (token_is k.ArgIn (made k.ArgIn) refl _) (IsBracketed.in_brackets (token_is k.OpenSquare (made k.OpenSquare) refl _) (IsType.an_int (token_is k.Int (made k.Int) refl _)) (token_is k.CloseSquare (made k.CloseSquare) refl x)))

  ports : {ts : List Token} → Continued (port source ts) ts (Spelled (IsPort source))
  unfolding port a_dram
  ports {ts} =
      chosen ts k.ArgIn refl (λ t word. bound (bracketeds source one) (λ ty _ _ p. given (arg_in ty) (λ x. (_, IsPort.an_arg_in (word _) (p x).1))))
      (chosen ts k.ArgOut refl (λ t word. bound (bracketeds source one) (λ ty _ _ p. given (arg_out ty) (λ x. (_, IsPort.an_arg_out (word _) (p x).1))))
      (chosen ts k.Dram refl (λ t word. bound (bracketeds source one) (λ ty _ _ p. bound (dimensions source one) (λ ds _ _ q. given (dram ty ds) (λ x. (_, IsPort.a_dram (word _) (p _).1 (q x).1))))) (refused (arg_in (Int 0)) _ an_arg)))

  -- a declaration, which stands before others
  abbrev DeclPut : Put → Type 0
  DeclPut d = (x e vs : List Token) (rest : List PlainDecl) → IsBreak x e → AreDecls source e vs rest → (all : List PlainDecl) × AreDecls source (d x) vs all

  decl_goes : {ts : List Token} → Continued (decl source ts) ts DeclPut
  unfolding decl
  decl_goes {ts} = bound (skips k.Val refl) (λ _ _ _ word. bound (names source one) (λ i _ _ p. bound (skips k.Equal refl) (λ _ _ _ equal. bound ports (λ port _ _ q.
      given (record { place = place_of ts; name = i; kind = port }) (λ x e vs rest brk more. (_, AreDecls.next (word _) (p _).1 (equal _) (q x).1 brk more))))))

  decls_from_goes : (n : ℕ) (found : List PlainDecl) (ts : List Token) → Continued (decls_from source n found ts) ts (Spelled (AreDecls source))
  unfolding decls_from
  decls_from_goes zero found ts = refused found (λ x. x) (λ x. (_, AreDecls.none))
  decls_from_goes (suc n) found ts = go (λ d us. decls_from_goes n (found ++ d ∷ []) us) (sees k.Accel ts)
    where
      go : ((d : PlainDecl) (us : List Token) → Continued (decls_from source n (found ++ d ∷ []) us) us (Spelled (AreDecls source))) → (c : Bool)
          → Continued (if c then Ok (found, ts) else (decl source >>= λ d. skip k.Semicolon >>= λ _. λ us. decls_from source n (found ++ d ∷ []) (semicolons us)) ts) ts (Spelled (AreDecls source))
      go next true = given found (λ x. (_, AreDecls.none))
      go next false = bound decl_goes (λ d us f p. bound (skips k.Semicolon refl) (λ _ vs g semi.
          behind_breaks (λ b brk. weaker (λ e more x. let rest = more x in p _ _ _ _ (break_may (IsBreak.one (semi _)) (brk _)) rest.1) (next d (semicolons vs)))))

  -- declarations, and any number of `;` before them
  abbrev DeclsPut : Put → Type 0
  DeclsPut d = (x : List Token) → (y : List Token) × (all : List PlainDecl) × MayBreak (d x) y × AreDecls source y x all

  decls_goes : {ts : List Token} → Continued (decls source ts) ts DeclsPut
  decls_goes {ts} = behind_breaks (λ b brk. weaker (λ e more x. let rest = more x in (_, _, brk _, rest.1)) (decls_from_goes (length ts) [] (semicolons ts)))

  -- a program, where nothing stands behind
  abbrev ProgramPut : Put → Type 0
  ProgramPut d = (tree : PlainSyntax) × IsProgram source (d []) tree

  ends_goes : (s : PlainSyntax) (ts : List Token) (P : Put → Type 0) → P (λ x. x) → Continued (ends source s ts) ts P
  unfolding ends
  ends_goes s [] P p = given s p
  ends_goes s (t ∷ ts) P p = refused s (λ x. x) p

  wholes : (f : ℕ) {ts : List Token} → Continued (whole source f ts) ts ProgramPut
  unfolding whole
  wholes f = bound decls_goes (λ ds _ _ p. bound (skips k.Accel refl) (λ _ _ _ accel. bound (braced_goes source one f) (λ ss us d q.
      behind_breaks (λ b brk. ends_goes (record { decls = ds; body = ss }) (semicolons us) _ (let rest = p _ in (_, IsProgram.program rest.2 rest.3 (accel _) (q _).1 (brk [])))))))

  -- tokens that end too early go on
  pub goes_on : (ts : List Token) → program source ts ≡ Err 0 → (rest : List Token) × (tree : PlainSyntax) × IsProgram source (ts ++ rest) tree
  unfolding value_of
  goes_on ts h = go (whole source (length ts) ts) (sym (whole_is source ts) ∙ h) refl
    where
      go : (o : Outcome PlainSyntax) → value_of source o ≡ Err 0 → whole source (length ts) ts ≡ o → (rest : List Token) × (tree : PlainSyntax) × IsProgram source (ts ++ rest) tree
      go (Ok p) e is = absurd (cc)
      go (Err l) e is =
          let zero_left : l ≡ 0 = cc in
          let d = (wholes (length ts) {ts = ts}).stop (is ∙ ap (λ n. Err n) zero_left) in
          let front : ts ≡ d.0.tokens = d.1 ∙ d.0.is [] ∙ append-nil d.0.tokens in
          let all : d.0.put (d.2 []) ≡ ts ++ d.2 [] = d.0.is (d.2 []) ∙ ap (λ (xs : List Token). xs ++ d.2 []) (sym front) in
          (d.2 [], d.3.0, subst (λ xs. IsProgram source xs d.3.0) all d.3.1)
