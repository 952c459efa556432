-- Expressions.
use Rattle.std.proofs.Common.{◌≡◌, ◌∙◌, ℕ, zero, suc, ◌-◌, ◌≤◌, Bool, true, false, ◌&&◌, nat_le, List, [], ◌∷◌, ◌++◌, length, option_and_then, Option, Some, None, Ok, Err, refl, sym, subst, arith, if◌then◌else◌}
use Rattle.std.specs.Option.{option_map_or}
use Rattle.std.proofs.lemmas.List.{append_assoc}
use Rattle.sp_reader.specs.declared.token.Token.{Token}
use Rattle.sp_reader.specs.declared.token.TokenKind.{TokenKind}
use Rattle.sp_reader.specs.declared.token.TokenKind.TheVariants as k
use Rattle.sp_reader.specs.declared.grammar.expression.Infix.{Infix}
use Rattle.sp_reader.specs.declared.grammar.expression.Infix.TheVariants.{Operation, Shift}
use Rattle.sp_reader.specs.declared.grammar.expression.Sign.{Sign}
use Rattle.sp_reader.specs.declared.syntax.expression.SynUn.{SynUn}
use Rattle.sp_reader.specs.declared.syntax.expression.SynUn.TheVariants.{Minus, Bang, Tilde}
use Rattle.sp_reader.specs.ExpressionRules.{infix_of, level_of, prefix, is_minus, make_two, make_shift, make_name, binds_tighter, sign_at, signs_from, signs, apply, operation, chain_from, casts_from, casts, exprs_from, exprs, pair, choice, no_operand, member, indexed, named, enclosed, primary_by, primary, unsigned, prefixed, chain, expr}
use Rattle.sp_reader.specs.PlainTree.{PlainIdent, PlainExpr, expr as node, number as a_number, truth, deq, access, min, max, cast, one, row}
use Rattle.sp_reader.specs.Steps.{Text, Rule, Outcome, and_then, ◌>>=◌, pure, kind_of, tail_of, place_of, same_kind, sees}
use Rattle.sp_reader.specs.SpanRules.{whole_expr}
use Rattle.sp_reader.specs.TypeRules.{target}
use Rattle.sp_grammar.specs.Tokens.{Takes, IsName, IsWhole, IsSign}
use Rattle.sp_grammar.specs.Expressions.{IsExpr, IsPrefixed, IsPostfix, IsPrimary, AreExprs}
use Rattle.sp_grammar.proofs.Operators.{IsInfix, infix_is, infix_real, prefix_is, prefix_real, Stops, stops_at_none, stops_at, after_shift, positive, lifted_to, joined}
use Rattle.sp_grammar.proofs.Rules.{Reads, takes_next, given, refused, bound, chosen, seen, skips, weaker}
use Rattle.sp_grammar.proofs.Types.{targets}
use Rattle.sp_grammar.proofs.Words.{names, numbers, wholes}

-- ---- operators before an operand

-- one of them
pub record SignIs (ts us : List Token) (s : Sign) : Type 0 where
  pub kind : TokenKind
  pub sign : IsSign kind s.op
  pub takes : Takes kind ts us
  pub alone : kind ≡ k.Minus → kind_of us ≡ k.Number → ⊥
  pub place : s.at ≡ place_of ts

abbrev Signed : List Sign → List Token → List Token → Type 0
Signed [] ts us = ts ≡ us
Signed (s ∷ ss) ts us = (vs : List Token) × SignIs ts vs s × Signed ss vs us

signed_push : (ss : List Sign) (s : Sign) (ts : List Token) {us vs : List Token} → Signed ss ts us → SignIs us vs s → Signed (ss ++ s ∷ []) ts vs
signed_push [] s ts {us} {vs} e h = (vs, subst (λ xs. SignIs xs vs s) (sym e) h, refl)
signed_push (x ∷ ss) s ts e h = (e.0, e.1, signed_push ss s e.0 e.2 h)

minus_is : (o : SynUn) → IsSign k.Minus o → is_minus o ≡ true
minus_is Minus h = refl
minus_is Bang h = elim h [ ]
minus_is Tilde h = elim h [ ]

no_number : (ts : List Token) → kind_of ts ≡ k.Number → sees k.Number ts ≡ false → ⊥
unfolding sees same_kind
no_number ts digits n = let sees_it : same_kind (kind_of ts) k.Number ≡ true = subst (λ kind. same_kind kind k.Number ≡ true) (sym digits) refl in let bad = sym sees_it ∙ n in absurd (cc)

pub sign_of : (ts : List Token) (s : Sign) → sign_at ts ≡ Some s → SignIs ts (tail_of ts) s
unfolding sign_at
sign_of ts s e = by_prefix (prefix (kind_of ts)) refl e
  where
    by_test : (o : SynUn) → prefix (kind_of ts) ≡ Some o → (b c : Bool) → is_minus o ≡ b → sees k.Number (tail_of ts) ≡ c
        → if◌then◌else◌ {A = Option Sign} (b && c) None (Some (record { at = place_of ts; op = o })) ≡ Some s → SignIs ts (tail_of ts) s
    by_test o is true true m n h = absurd (cc)
    by_test o is true false m n h =
        let same : ◌≡◌ {A = Sign} (record { at = place_of ts; op = o }) s = cc in
        subst (SignIs ts (tail_of ts)) same (record {
          kind = kind_of ts;
          sign = prefix_is (kind_of ts) o is;
          takes = takes_next (kind_of ts) ts (prefix_real (kind_of ts) o is) refl;
          alone = λ _ digits. no_number (tail_of ts) digits n;
          place = refl;
        })
    by_test o is false c m n h =
        let same : ◌≡◌ {A = Sign} (record { at = place_of ts; op = o }) s = cc in
        subst (SignIs ts (tail_of ts)) same (record {
          kind = kind_of ts;
          sign = prefix_is (kind_of ts) o is;
          takes = takes_next (kind_of ts) ts (prefix_real (kind_of ts) o is) refl;
          alone = λ minus _. let yes = minus_is o (subst (λ kind. IsSign kind o) minus (prefix_is (kind_of ts) o is)) in let bad = sym yes ∙ m in absurd (cc);
          place = refl;
        })

    by_prefix : (o : Option SynUn) → prefix (kind_of ts) ≡ o → option_and_then {U = Sign} (λ op. if is_minus op && sees k.Number (tail_of ts) then None else Some (record { at = place_of ts; op = op })) o ≡ Some s
        → SignIs ts (tail_of ts) s
    by_prefix None is h = absurd (cc)
    by_prefix (Some o) is h = by_test o is (is_minus o) (sees k.Number (tail_of ts)) refl refl h

signs_go_from : (n : ℕ) (found : List Sign) {all ts : List Token} → Signed found all ts → Reads (signs_from n found) ts (λ ss us. Signed ss all us)
unfolding signs_from
signs_go_from zero found p = given found p
signs_go_from (suc n) found {all} {ts} p = record { run = λ ss us h. go ss us (λ s q. signs_go_from n (found ++ s ∷ []) (signed_push found s all p q)) (sign_at ts) refl h }
  where
    go : (ss : List Sign) (us : List Token) → ((s : Sign) → SignIs ts (tail_of ts) s → Reads (signs_from n (found ++ s ∷ [])) (tail_of ts) (λ ss us. Signed ss all us)) → (o : Option Sign) → sign_at ts ≡ o
        → option_map_or (λ s. signs_from n (found ++ s ∷ []) (tail_of ts)) o (Ok (found, ts)) ≡ Ok (ss, us) → Signed ss all us
    go ss us next (Some s) is h = (next s (sign_of ts s is)).run ss us h
    go ss us next None is h = (given {P = λ ss us. Signed ss all us} {ts = ts} found p).run ss us h

signs_go : {ts : List Token} → Reads signs ts (λ ss us. Signed ss ts us)
signs_go {ts} = record { run = λ ss us h. (signs_go_from (length ts) [] {all = ts} {ts = ts} refl).run ss us h }

module _ (source : Text) where
  applied : (ss : List Sign) {ts us vs : List Token} {e : PlainExpr} → Signed ss ts us → IsPrefixed source us vs e → IsPrefixed source ts vs (apply ss e)
  applied [] {ts} {us} {vs} {e} same h = subst (λ xs. IsPrefixed source xs vs e) (sym same) h
  applied (s ∷ ss) {ts} {us} {vs} {e} p h =
      let rest = applied ss p.2 h in
      subst (λ at. IsPrefixed source ts vs (node at (one s.op (apply ss e)))) (sym p.1.place) (IsPrefixed.signed p.1.sign p.1.takes p.1.alone rest)

  -- ---- casts

  casts_go_from : (n : ℕ) {all ts : List Token} (operand : PlainExpr) → IsPostfix source all ts operand → Reads (casts_from source (place_of all) n operand) ts (λ e us. IsPostfix source all us e)
  unfolding casts_from
  casts_go_from zero operand p = given operand p
  casts_go_from (suc n) {all} operand p = chosen k.Dot (target source >>= λ t. casts_from source (place_of all) n (node (place_of all) (cast operand t))) (pure operand) refl
      (λ dot. bound (targets source dot) (λ t _ q. casts_go_from n (node (place_of all) (cast operand t)) (IsPostfix.casted p q))) (λ _. given operand p)

  casts_go : {all ts : List Token} (operand : PlainExpr) → IsPostfix source all ts operand → Reads (casts source (place_of all) operand) ts (λ e us. IsPostfix source all us e)
  casts_go {all} {ts} operand p = record { run = λ e us h. (casts_go_from (length ts) operand p).run e us h }

  -- ---- names

  no_operands : {all ts : List Token} (i : PlainIdent) → IsName source all ts i → Takes k.Dot ts (tail_of ts) → Takes k.Deq (tail_of ts) (tail_of (tail_of ts))
      → Reads (no_operand >>= λ _. pure (node i.place (deq i))) (tail_of (tail_of ts)) (λ e us. IsPrimary source all us e)
  unfolding no_operand
  no_operands {ts = ts} i p dot by = bound {P = λ _ e. (d : List Token) × Takes k.OpenRound (tail_of (tail_of ts)) d × Takes k.CloseRound d e} (bound (skips k.OpenRound refl) (λ _ us opened. weaker {P = λ _ vs. Takes k.CloseRound us vs} (λ _ vs close. (us, opened, close)) (skips k.CloseRound refl)))
      (λ _ us both. given _ (IsPrimary.a_deq p dot by both.1 both.2))

  members : {all ts : List Token} (i : PlainIdent) → IsName source all ts i → Takes k.Dot ts (tail_of ts) → Reads (member i) ts (λ e us. IsPrimary source all us e)
  unfolding member
  members {all} {ts} i p dot = record {
    run = seen (tail_of ts) k.Value refl
        (λ value. (given {P = λ e us. IsPrimary source all us e} (make_name i true) (IsPrimary.a_value p dot value)).run)
        (λ _. seen (tail_of ts) k.Deq refl
        (λ by. (no_operands i p dot by).run)
        (λ _. (given {P = λ e us. IsPrimary source all us e} {ts = ts} (make_name i false) (IsPrimary.a_name p)).run));
  }

  dotted : {all ts : List Token} (i : PlainIdent) → IsName source all ts i → Reads (λ ts. if sees k.Dot ts then member i ts else Ok (make_name i false, ts)) ts (λ e us. IsPrimary source all us e)
  dotted {all} {ts} i p = record {
    run = seen ts k.Dot refl
        (λ dot. (members i p dot).run)
        (λ _. (given {P = λ e us. IsPrimary source all us e} {ts = ts} (make_name i false) (IsPrimary.a_name p)).run);
  }

  -- ---- by what stands inside

  -- an expression of a level, and what comes behind it binds no tighter than what the level leaves out
  abbrev IsUpTo : (level : ℕ) → List Token → PlainExpr → List Token → Type 0
  IsUpTo l ts e us = IsExpr source l ts us e × Stops (suc l) us

  module _ (inner : ℕ → Rule PlainExpr) (within : (l : ℕ) (ts : List Token) → Reads (inner l) ts (IsUpTo l ts)) where
    inside : (l : ℕ) {ts : List Token} → Reads (inner l) ts (IsUpTo l ts)
    inside l {ts} = within l ts

    abbrev More : (level : ℕ) → List Token → PlainExpr → List Token → Type 0
    More l all e us = IsExpr source l all us e × Stops l us

    operations : {all ts : List Token} (o : Infix) (left : PlainExpr) → IsInfix (kind_of ts) o → Takes (kind_of ts) ts (tail_of ts) → IsExpr source (level_of o) all ts left
        → Reads (operation source inner (level_of o - 1) o left) (tail_of ts) (More (level_of o) all)
    unfolding operation
    operations (Operation op) left is takes p = bound (inside (level_of (Operation op) - 1)) (λ right us q. given (make_two op left right) (joined source (level_of (Operation op)) is p takes q.0, subst (λ x. Stops x us) (omega (arith, positive is)) q.1))
    operations {all} {ts} (Shift to_left) left is takes p = bound (wholes source 0 63) (λ by us q. record { run = λ e vs h. ends by us q e vs (binds_tighter (kind_of us)) refl h })
      where
        ends : (by : ℕ) (us : List Token) → IsWhole source 0 63 (tail_of ts) us by → (e : PlainExpr) (vs : List Token) → (b : Bool) → binds_tighter (kind_of us) ≡ b
            → if◌then◌else◌ {A = Outcome PlainExpr} b (Err (length us)) (Ok (make_shift to_left left by, us)) ≡ Ok (e, vs) → More 3 all e vs
        ends by us q e vs true t h = absurd (cc)
        ends by us q e vs false t h = (given {P = More 3 all} {ts = us} (make_shift to_left left by) (IsExpr.shifted is p takes q, after_shift (kind_of us) t)).run e vs h

    chains_from : (n l m : ℕ) {all ts : List Token} (left : PlainExpr) → m ≤ l → IsExpr source m all ts left → Stops m ts → Reads (chain_from source inner l n left) ts (IsUpTo l all)
    unfolding chain_from
    chains_from zero l m left le p stops = refused
    chains_from (suc n) l m {all} {ts} left le p stops = record { run = λ e us h. go e us (λ m x us le q stops. chains_from n l m {all = all} {ts = us} x le q stops) (infix_of (kind_of ts)) refl h }
      where
        by_level : (e : PlainExpr) (us : List Token) → ((m : ℕ) (x : PlainExpr) (us : List Token) → m ≤ l → IsExpr source m all us x → Stops m us → Reads (chain_from source inner l n x) us (IsUpTo l all)) → (o : Infix) → infix_of (kind_of ts) ≡ Some o → (b : Bool) → nat_le (level_of o) l ≡ b
            → if◌then◌else◌ {A = Outcome PlainExpr} b (and_then (operation source inner (level_of o - 1) o left (tail_of ts)) (chain_from source inner l n)) (Ok (left, ts)) ≡ Ok (e, us)
            → IsUpTo l all e us
        by_level e us next o is true t h =
            let is_infix = infix_is (kind_of ts) o is in
            let takes = takes_next (kind_of ts) ts (infix_real (kind_of ts) o is) refl in
            (bound (operations o left is_infix takes (lifted_to source (level_of o) m (stops o is) p)) (λ x us q. next (level_of o) x us (grind arith) q.0 q.1)).run e us h
        by_level e us next o is false t h = (given {P = IsUpTo l all} {ts = ts} left (lifted_to source l m le p, stops_at (suc l) ts o is (grind arith))).run e us h

        go : (e : PlainExpr) (us : List Token) → ((m : ℕ) (x : PlainExpr) (us : List Token) → m ≤ l → IsExpr source m all us x → Stops m us → Reads (chain_from source inner l n x) us (IsUpTo l all)) → (o : Option Infix) → infix_of (kind_of ts) ≡ o
            → option_map_or {U = Outcome PlainExpr} (λ op. if nat_le (level_of op) l then and_then (operation source inner (level_of op - 1) op left (tail_of ts)) (chain_from source inner l n) else Ok (left, ts)) o (Ok (left, ts)) ≡ Ok (e, us)
            → IsUpTo l all e us
        go e us next (Some o) is h = by_level e us next o is (nat_le (level_of o) l) refl h
        go e us next None is h = (given {P = IsUpTo l all} {ts = ts} left (lifted_to source l m le p, stops_at_none (suc l) ts is)).run e us h

    -- those before the one that comes next, and it
    abbrev Listed : (before : List PlainExpr) → List Token → List PlainExpr → List Token → Type 0
    Listed before ts es us = (rest : List PlainExpr) × (es ≡ before ++ rest) × AreExprs source ts us rest

    lists_from : (n : ℕ) {ts : List Token} (found : List PlainExpr) → Reads (exprs_from inner n found) ts (Listed found ts)
    unfolding exprs_from
    lists_from zero found = refused
    lists_from (suc n) found = bound (inside 7) (λ e us q.
        chosen k.Comma (exprs_from inner n (found ++ e ∷ [])) (pure (found ++ e ∷ [])) refl
        (λ comma. weaker (λ es vs more. (e ∷ more.0, more.1 ∙ append_assoc found (e ∷ []) more.0, AreExprs.next q.0 comma more.2)) (lists_from n (found ++ e ∷ [])))
        (λ _. given (found ++ e ∷ []) (e ∷ [], refl, AreExprs.last q.0)))

    lists : {ts : List Token} → Reads (exprs inner) ts (λ es us. AreExprs source ts us es)
    lists {ts} = record { run = λ es us h. let more = (lists_from (length ts) {ts = ts} []).run es us h in subst (AreExprs source ts us) (sym more.1) more.2 }

    indexes : {all ts : List Token} (i : PlainIdent) → IsName source all ts i → Takes k.OpenRound ts (tail_of ts) → Reads (indexed inner i) (tail_of ts) (λ e us. IsPrimary source all us e)
    unfolding indexed
    indexes i p opened = bound lists (λ es _ q. bound (skips k.CloseRound refl) (λ _ _ close. given (node i.place (access i (row es))) (IsPrimary.an_access p opened q close)))

    nameds : {ts : List Token} → Reads (named source inner) ts (λ e us. IsPrimary source ts us e)
    unfolding named
    nameds = bound (names source) (λ i _ p. chosen k.OpenRound (indexed inner i) (λ ts. if sees k.Dot ts then member i ts else Ok (make_name i false, ts)) refl
        (λ opened. indexes i p opened) (λ _. dotted i p))

    encloseds : {ts us : List Token} → Takes k.OpenRound ts us → Reads (enclosed inner) us (λ e vs. IsPrimary source ts vs e)
    unfolding enclosed
    encloseds opened = bound (inside 7) (λ e _ p. bound (skips k.CloseRound refl) (λ _ _ close. given e (IsPrimary.in_parentheses opened p.0 close)))

    choices : {ts us : List Token} → Takes k.Mux ts us → Reads (choice inner (place_of ts)) us (λ e vs. IsPrimary source ts vs e)
    unfolding choice
    choices word = bound (skips k.OpenRound refl) (λ _ _ opened. bound (inside 7) (λ a _ p. bound (skips k.Comma refl) (λ _ _ first.
        bound (inside 7) (λ b _ q. bound (skips k.Comma refl) (λ _ _ second. bound (inside 7) (λ c _ r.
        bound (skips k.CloseRound refl) (λ _ _ close. given _ (IsPrimary.a_choice word opened p.0 first q.0 second r.0 close))))))))

    -- two expressions in parentheses
    abbrev Paired : List Token → PlainExpr × PlainExpr → List Token → Type 0
    Paired us x f = (b c d e : List Token) × Takes k.OpenRound us b × IsExpr source 7 b c x.0 × Takes k.Comma c d × IsExpr source 7 d e x.1 × Takes k.CloseRound e f

    pairs : {ts : List Token} → Reads (pair inner) ts (Paired ts)
    unfolding pair
    pairs = bound (skips k.OpenRound refl) (λ _ s opened. bound (inside 7) (λ a t p. bound (skips k.Comma refl) (λ _ u comma.
        bound (inside 7) (λ b v q. bound (skips k.CloseRound refl) (λ _ _ close. given (a, b) (s, t, u, v, opened, p.0, comma, q.0, close))))))

    leasts : {ts us : List Token} → Takes k.Min ts us → Reads (pair inner >>= λ p. pure (node (place_of ts) (min p.0 p.1))) us (λ e vs. IsPrimary source ts vs e)
    leasts word = bound pairs (λ _ _ p. given _ (IsPrimary.a_least word p.4 p.5 p.6 p.7 p.8))

    greatests : {ts us : List Token} → Takes k.Max ts us → Reads (pair inner >>= λ p. pure (node (place_of ts) (max p.0 p.1))) us (λ e vs. IsPrimary source ts vs e)
    greatests word = bound pairs (λ _ _ p. given _ (IsPrimary.a_greatest word p.4 p.5 p.6 p.7 p.8))

    primary_goes : (kind : TokenKind) (ts : List Token) → kind_of ts ≡ kind → Reads (primary_by source inner kind) ts (λ e us. IsPrimary source ts us e)
    primary_goes k.Number ts is = record { run = (bound {Q = λ e us. IsPrimary source ts us e} (numbers source (place_of ts) false) (λ n _ p. given (node (place_of ts) (a_number n)) (IsPrimary.a_number p))).run }
    primary_goes k.True ts is = record { run = (given {P = λ e us. IsPrimary source ts us e} {ts = tail_of ts} (node (place_of ts) (truth true)) (IsPrimary.yes (takes_next k.True ts refl is))).run }
    primary_goes k.False ts is = record { run = (given {P = λ e us. IsPrimary source ts us e} {ts = tail_of ts} (node (place_of ts) (truth false)) (IsPrimary.no (takes_next k.False ts refl is))).run }
    primary_goes k.OpenRound ts is = record { run = (encloseds (takes_next k.OpenRound ts refl is)).run }
    primary_goes k.Mux ts is = record { run = (choices (takes_next k.Mux ts refl is)).run }
    primary_goes k.Min ts is = record { run = (leasts (takes_next k.Min ts refl is)).run }
    primary_goes k.Max ts is = record { run = (greatests (takes_next k.Max ts refl is)).run }
    primary_goes _ ts is = nameds

    primaries : {ts : List Token} → Reads (primary source inner) ts (λ e us. IsPrimary source ts us e)
    unfolding primary
    primaries {ts} = record { run = (primary_goes (kind_of ts) ts refl).run }

    unsigneds : {ts : List Token} → Reads (unsigned source inner) ts (λ e us. IsPostfix source ts us e)
    unfolding unsigned
    unsigneds {ts} = record {
      run = seen ts k.Minus refl
          (λ minus. (bound {Q = λ e us. IsPostfix source ts us e} (numbers source (place_of ts) true) (λ n _ p. casts_go {all = ts} (node (place_of ts) (a_number n)) (IsPostfix.negative minus p))).run)
          (λ _. (bound {Q = λ e us. IsPostfix source ts us e} (primaries {ts = ts}) (λ e _ p. casts_go {all = ts} e (IsPostfix.primary p))).run);
    }

    prefixeds : {ts : List Token} → Reads (prefixed source inner) ts (λ e us. IsPrefixed source ts us e)
    unfolding prefixed
    prefixeds = bound signs_go (λ ss _ p. bound unsigneds (λ e _ q. given (apply ss e) (applied ss p (IsPrefixed.bare q))))

    chains : (l : ℕ) {ts : List Token} → Reads (chain source inner l) ts (IsUpTo l ts)
    unfolding chain
    chains l {ts} = record { run = (bound prefixeds (λ e us p. chains_from (length ts) l 0 e (omega arith) (IsExpr.operand p) (λ o h. omega arith))).run }

  pub exprs_go : (depth l : ℕ) {ts : List Token} → Reads (expr source depth l) ts (IsUpTo l ts)
  unfolding expr
  exprs_go zero l = refused
  exprs_go (suc depth) l = chains (expr source depth) (λ m ts. exprs_go depth m {ts = ts}) l

  pub whole_go : {ts : List Token} → Reads (whole_expr source) ts (λ e us. IsExpr source 7 ts us e)
  unfolding whole_expr
  whole_go {ts} = record { run = λ e us h. ((exprs_go (length ts) 7 {ts = ts}).run e us h).0 }
