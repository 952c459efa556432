-- Declarations and whole programs.
use Rattle.std.proofs.Common.{◌≡◌, ℕ, zero, suc, List, [], ◌∷◌, ◌++◌, length, All, Ok, Err, ap, arith, if◌then◌else◌}
use Rattle.std.proofs.lemmas.List.Elements.{All-nil, All-push}
use Rattle.sp_reader.specs.declared.token.Token.{Token}
use Rattle.sp_reader.specs.declared.token.TokenKind.TheVariants as k
use Rattle.sp_reader.specs.Names.{name}
use Rattle.sp_reader.specs.PlainStatement.{arg_in, arg_out, dram, PlainDecl, PlainSyntax}
use Rattle.sp_reader.specs.ProgramRules.{a_dram, port, decl, decls_from, decls, finished, whole_of, program}
use Rattle.sp_reader.specs.StatementRules.{braced, stmt}
use Rattle.sp_reader.specs.Steps.{Text, Outcome, ◌>>=◌, pure, refuse, tail_of, place_of, sees, skip, semicolons}
use Rattle.sp_reader.specs.TypeRules.{bracketed}
use Rattle.sp_typed.specs.ReadTree.{HasReadDims, IsReadDecl, IsReadTree}
use Rattle.sp_read_trees.proofs.Levels.{Good}
use Rattle.sp_read_trees.proofs.Rules.{Goes, given, refused, bound, chosen, skips, looking, past_semicolons, tested}
use Rattle.sp_read_trees.proofs.Statements.{braced_go}
use Rattle.sp_read_trees.proofs.Types.{bracketeds, dimensions}
use Rattle.sp_read_trees.proofs.Words.{names}

module _ (source : Text) where
  drams : {d : ℕ} → Goes source d d HasReadDims (a_dram source)
  unfolding a_dram
  drams = bound source (bracketeds source) (λ t _. bound source (dimensions source) (λ ds p. given source (dram t ds) p))

  ports : {d : ℕ} → Goes source d d HasReadDims (port source)
  unfolding port
  ports = chosen source k.ArgIn (λ _. bracketed source >>= λ t. pure (arg_in t))
      (λ _ ts. if sees k.ArgOut ts then (bracketed source >>= λ t. pure (arg_out t)) (tail_of ts) else (if sees k.Dram ts then a_dram source (tail_of ts) else Err (length ts)))
      (λ _. bound source (bracketeds source) (λ t _. given source (arg_in t) tt))
      (λ _. chosen source k.ArgOut (λ _. bracketed source >>= λ t. pure (arg_out t)) (λ _ ts. if sees k.Dram ts then a_dram source (tail_of ts) else Err (length ts))
      (λ _. bound source (bracketeds source) (λ t _. given source (arg_out t) tt))
      (λ _. chosen source k.Dram (λ _. a_dram source) (λ _. refuse) (λ _. drams) (λ _. refused source)))

  decl_go : {d : ℕ} → Goes source d d IsReadDecl (decl source)
  unfolding decl
  decl_go = looking source (λ all. skip k.Val >>= λ _. name source >>= λ i. skip k.Equal >>= λ _. port source >>= λ p. pure (record { place = place_of all; name = i; kind = p }))
      (λ all. bound source (skips source k.Val) (λ _ _. bound source (names source) (λ i p. bound source (skips source k.Equal) (λ _ _. bound source ports (λ port q.
      given source (record { place = place_of all; name = i; kind = port }) (record { name = p; dims = q }))))))

  decls_go_from : (n d : ℕ) (found : List PlainDecl) → All IsReadDecl found → Goes source d d (All IsReadDecl) (decls_from source n found)
  unfolding decls_from
  decls_go_from zero d found p = refused source
  decls_go_from (suc n) d found p = tested source (sees k.Accel) (pure found) (decl source >>= λ x. skip k.Semicolon >>= λ _. λ us. decls_from source n (found ++ x ∷ []) (semicolons us))
      (given source found p)
      (bound source decl_go (λ x q. bound source (skips source k.Semicolon) (λ _ _.
      past_semicolons source (decls_from source n (found ++ x ∷ [])) (decls_go_from n d (found ++ x ∷ []) (All-push IsReadDecl found x p q)))))

  decls_go : {d : ℕ} → Goes source d d (All IsReadDecl) (decls source)
  decls_go {d} = looking source (λ all ts. decls_from source (length all) [] (semicolons ts))
      (λ all. past_semicolons source (decls_from source (length all) []) (decls_go_from (length all) d [] (All-nil IsReadDecl)))

  -- what is read of a whole program, with no bracket open
  programs : (ts : List Token) → Goes source 0 0 IsReadTree (decls source >>= λ ds. skip k.Accel >>= λ _. braced (stmt source (length ts)) >>= λ ss. pure (record { decls = ds; body = ss }))
  programs ts = bound source decls_go (λ ds p. bound source (skips source k.Accel) (λ _ _. bound source (braced_go source (length ts) 0) (λ ss q.
      given source (record { decls = ds; body = ss }) (record { decls = p; block = q.0; nested = omega (arith, q.1) }))))

  ended : (o : Outcome PlainSyntax) (tree : PlainSyntax) → whole_of o ≡ Ok tree → (us : List Token) × (o ≡ Ok (tree, us))
  ended (Ok (s, us)) tree h = by_rest (semicolons us) h
    where
      by_rest : (rest : List Token) → finished s rest ≡ Ok tree → (left : List Token) × ◌≡◌ {A = Outcome PlainSyntax} (Ok (s, us)) (Ok (tree, left))
      by_rest [] e = let same : s ≡ tree = cc in (us, ap (λ x. Ok (x, us)) same)
      by_rest (t ∷ ts) e = absurd (cc)
  ended (Err left) tree h = absurd (cc)

  pub program_keeps : (ts : List Token) (tree : PlainSyntax) → Good source 0 ts → program source ts ≡ Ok tree → IsReadTree tree
  unfolding program
  program_keeps ts tree g h =
      let end = ended ((decls source >>= λ ds. skip k.Accel >>= λ _. braced (stmt source (length ts)) >>= λ ss. pure (record { decls = ds; body = ss })) ts) tree h in
      ((programs ts).run ts tree end.0 g end.1).0
