-- Declarations and whole programs.
use Rattle.std.proofs.Common.{◌≡◌, ◌∙◌, ℕ, zero, suc, ◌-◌, ◌+◌, ◌≤◌, List, [], ◌∷◌, ◌++◌, length, Result, Ok, Err, refl, sym, ap, arith}
use Rattle.sp_reader.specs.declared.token.Token.{Token}
use Rattle.sp_reader.specs.declared.token.TokenKind.TheVariants as k
use Rattle.sp_reader.specs.PlainStatement.{PlainStmt, arg_in, arg_out, dram, PlainDecl, PlainSyntax}
use Rattle.sp_reader.specs.Names.{name}
use Rattle.sp_reader.specs.ProgramRules.{a_dram, port, decl, decls_from, decls, finished, whole_of, program}
use Rattle.sp_reader.specs.StatementRules.{braced, stmt}
use Rattle.sp_reader.specs.Steps.{Text, Outcome, Rule, and_then, ◌>>=◌, pure, place_of, skip, semicolons}
use Rattle.sp_refusals.proofs.Steady.{Texts, InBoth, Steady, Alike, AtMost, bound, looser, given, refused, looked, chosen, seen, skip_at, skips, broken, looped, sized}
use Rattle.sp_refusals.proofs.SteadyWords.{names, bracketeds, dimensions}
use Rattle.sp_refusals.proofs.SteadyStatements.{braceds, stmt_go, stmt_names}

module _ (source : Text) where
  decl_at : ℕ → Rule PlainDecl
  decl_at at = skip k.Val >>= λ _. name source >>= λ i. skip k.Equal >>= λ _. port source >>= λ p. pure (record { place = at; name = i; kind = p })

  -- nothing stands behind a program
  unfoldable pub ends : PlainSyntax → Rule PlainSyntax
  ends s [] = Ok (s, [])
  ends s (t ∷ ts) = Err (length (t ∷ ts))

  -- a program as a rule
  unfoldable pub whole : ℕ → Rule PlainSyntax
  whole f = decls source >>= λ ds. skip k.Accel >>= λ _. braced (stmt source f) >>= λ ss. λ us. ends (record { decls = ds; body = ss }) (semicolons us)

  unfoldable pub value_of : Outcome PlainSyntax → Result PlainSyntax ℕ
  value_of (Ok p) = Ok p.0
  value_of (Err e) = Err e

  pub whole_is : (ts : List Token) → program source ts ≡ value_of (whole (length ts) ts)
  unfolding program whole value_of ends
  whole_is ts = by_decls (decls source ts)
    where
      by_end : (s : PlainSyntax) (us : List Token) → finished s us ≡ value_of (ends s us)
      by_end s [] = refl
      by_end s (t ∷ us) = refl

      by_body : (ds : List PlainDecl) (o : Outcome (List PlainStmt)) → whole_of (and_then o (λ ss. pure (record { decls = ds; body = ss }))) ≡ value_of (and_then o (λ ss. λ us. ends (record { decls = ds; body = ss }) (semicolons us)))
      by_body ds (Ok p) = by_end (record { decls = ds; body = p.0 }) (semicolons p.1)
      by_body ds (Err e) = refl

      by_word : (ds : List PlainDecl) (o : Outcome (Unit {0})) → whole_of (and_then o (λ _. braced (stmt source (length ts)) >>= λ ss. pure (record { decls = ds; body = ss })))
          ≡ value_of (and_then o (λ _. braced (stmt source (length ts)) >>= λ ss. λ us. ends (record { decls = ds; body = ss }) (semicolons us)))
      by_word ds (Ok p) = by_body ds (braced (stmt source (length ts)) p.1)
      by_word ds (Err e) = refl

      by_decls : (o : Outcome (List PlainDecl)) → whole_of (and_then o (λ ds. skip k.Accel >>= λ _. braced (stmt source (length ts)) >>= λ ss. pure (record { decls = ds; body = ss })))
          ≡ value_of (and_then o (λ ds. skip k.Accel >>= λ _. braced (stmt source (length ts)) >>= λ ss. λ us. ends (record { decls = ds; body = ss }) (semicolons us)))
      by_decls (Ok p) = by_word p.0 (skip k.Accel p.1)
      by_decls (Err e) = refl

module _ (texts : Texts) where
  drams : {m : ℕ} → Steady texts m m (a_dram texts.0) (a_dram texts.1)
  unfolding a_dram
  drams = bound (bracketeds texts) (λ t. bound (dimensions texts) (λ ds. given (dram t ds)))

  ports : {m : ℕ} → Steady texts m m (port texts.0) (port texts.1)
  unfolding port
  ports = chosen k.ArgIn (bound (bracketeds texts) (λ t. given (arg_in t))) (chosen k.ArgOut (bound (bracketeds texts) (λ t. given (arg_out t))) (chosen k.Dram drams refused))

  decl_go : {m : ℕ} → Steady texts m m (decl texts.0) (decl texts.1)
  unfolding decl place_of decl_at
  decl_go = looked place_of (decl_at texts.0) (decl_at texts.1) (λ t q z w. refl) (λ at. bound (skips k.Val) (λ _. bound (names texts) (λ i. bound (skips k.Equal) (λ _. bound ports (λ p. given (record { place = at; name = i; kind = p }))))))

  decls_go_from : (f g m : ℕ) → m ≤ f → m ≤ g → (found : List PlainDecl) → Steady texts m m (decls_from texts.0 f found) (decls_from texts.1 g found)
  unfolding decls_from
  decls_go_from f g m a b found =
      looped (decls_from texts.0) (decls_from texts.1) m (λ x z. omega arith)
      (λ f g n le rest found. seen k.Accel (given found) (bound decl_go (λ d. looser n (n - 1) n (omega arith) (bound (skip_at n (n - 1) (omega arith) k.Semicolon) (λ _. broken (rest (n - 1) (omega arith) (found ++ d ∷ [])))))))
      f g m a b (omega arith) found

  decls_go : {m : ℕ} → Steady texts m m (decls texts.0) (decls texts.1)
  decls_go {m} = sized (λ f. λ ts. decls_from texts.0 f [] (semicolons ts)) (λ f. λ ts. decls_from texts.1 f [] (semicolons ts)) m (λ f g n le a b. broken (decls_go_from f g n a b []))

  ends_go : {m : ℕ} (s : PlainSyntax) → Steady texts m m (ends texts.0 s) (ends texts.1 s)
  unfolding ends
  ends_go {m} s = record { within = first; goes = (refused {A = PlainSyntax} {k = m} {n = m}).goes }
    where
      first : (z : List Token) → AtMost (length z) (ends texts.0 s z)
      first [] = omega arith
      first (t ∷ z) = omega arith

  pub whole_go : {m : ℕ} → Steady texts m m (λ ts. whole texts.0 (length ts) ts) (λ ts. whole texts.1 (length ts) ts)
  unfolding whole
  whole_go {m} = sized (whole texts.0) (whole texts.1) m (λ f g n le a b. bound decls_go (λ ds. bound (skips k.Accel) (λ _.
      bound (braceds texts (stmt texts.0 f) (stmt texts.1 g) n (λ l less. stmt_go texts f g l (omega (arith, less, a)) (omega (arith, less, b))) (λ some. stmt_names texts.0 f (omega (arith, some, a))) n (omega arith)) (λ ss.
      broken (ends_go (record { decls = ds; body = ss }))))))

  pub refused_again : (front z w : List Token) (e : ℕ) → InBoth texts front → program texts.0 (front ++ z) ≡ Err (suc e + length z) → program texts.1 (front ++ w) ≡ Err (suc e + length w)
  unfolding value_of
  refused_again [] z w e good h = absurd (bad (whole texts.0 (length z) z) ((whole_go {m = zero}).within z) (sym (whole_is texts.0 z) ∙ h))
    where
      bad : (o : Outcome PlainSyntax) → AtMost (length z) o → value_of texts.0 o ≡ Err (suc e + length z) → ⊥
      bad (Ok p) le i = absurd (cc)
      bad (Err l) le i = let same : l ≡ suc e + length z = cc in omega (arith, le, same)
  refused_again (t ∷ q) z w e good h = go ((whole_go {m = suc (length q)}).goes t q z w good (omega arith))
    where
      read : value_of texts.0 (whole texts.0 (length (t ∷ (q ++ z))) (t ∷ (q ++ z))) ≡ Err (suc e + length z)
      read = sym (whole_is texts.0 (t ∷ (q ++ z))) ∙ h

      bad : (o : Outcome PlainSyntax) → AtMost (length z) o → value_of texts.0 o ≡ Err (suc e + length z) → ⊥
      bad (Ok p) le i = absurd (cc)
      bad (Err l) le i = let same : l ≡ suc e + length z = cc in omega (arith, le, same)

      go : Alike texts (suc (length q)) z w (whole texts.0 (length (t ∷ (q ++ z))) (t ∷ (q ++ z))) (whole texts.1 (length (t ∷ (q ++ w))) (t ∷ (q ++ w))) → program texts.1 (t ∷ (q ++ w)) ≡ Err (suc e + length w)
      go (Alike.stopped l i j) =
          let both : ◌≡◌ {A = Result PlainSyntax ℕ} (Err (suc l + length z)) (Err (suc e + length z)) = sym (ap (value_of texts.0) i) ∙ read in
          let same : suc l + length z ≡ suc e + length z = cc in
          let left : l ≡ e = omega (arith, same) in
          whole_is texts.1 (t ∷ (q ++ w)) ∙ ap (value_of texts.1) j ∙ ap (λ n. Err (suc n + length w)) left
      go (Alike.inside a s p more few i j) = let both : ◌≡◌ {A = Result PlainSyntax ℕ} (Ok a) (Err (suc e + length z)) = sym (ap (value_of texts.0) i) ∙ read in absurd (cc)
      go (Alike.past le) = absurd (bad (whole texts.0 (length (t ∷ (q ++ z))) (t ∷ (q ++ z))) le read)
