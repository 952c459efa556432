-- Expressions go on.
use Rattle.std.proofs.Common.{◌≡◌, ◌∙◌, ℕ, zero, suc, ◌-◌, ◌≤◌, Bool, true, false, nat_le, List, [], ◌∷◌, ◌++◌, length, Option, Some, None, Ok, Err, refl, sym, ap, subst, arith, if◌then◌else◌}
use Rattle.std.specs.Option.{option_map_or}
use Rattle.sp_reader.specs.declared.token.Token.{Token}
use Rattle.sp_reader.specs.declared.token.TokenKind.{TokenKind}
use Rattle.sp_reader.specs.declared.token.TokenKind.TheVariants as k
use Rattle.sp_reader.specs.declared.grammar.expression.Infix.{Infix}
use Rattle.sp_reader.specs.declared.grammar.expression.Infix.TheVariants.{Operation, Shift}
use Rattle.sp_reader.specs.declared.grammar.expression.Sign.{Sign}
use Rattle.sp_reader.specs.ExpressionRules.{infix_of, level_of, make_two, make_shift, make_name, binds_tighter, sign_at, signs_from, apply, operation, chain_from, casts_from, casts, exprs_from, exprs, pair, choice, no_operand, member, indexed, named, enclosed, primary_by, primary, unsigned, prefixed, chain, expr}
use Rattle.sp_reader.specs.PlainTree.{PlainIdent, PlainExpr, expr as node, number as a_number, truth, deq, access, cast, row}
use Rattle.sp_reader.specs.SpanRules.{whole_expr}
use Rattle.sp_reader.specs.Steps.{Text, Rule, Outcome, and_then, ◌>>=◌, pure, kind_of, tail_of, place_of, same_kind, sees}
use Rattle.sp_grammar.specs.Tokens.{Takes, IsName}
use Rattle.sp_grammar.specs.Expressions.{IsExpr, IsPrefixed, IsPostfix, IsPrimary, AreExprs}
use Rattle.sp_grammar.proofs.Operators.{IsInfix, infix_is, infix_real, Stops, after_shift, positive, lifted_to, joined}
use Rattle.sp_grammar.proofs.AgainExprs.{prefixed_shorter}
use Rattle.sp_grammar.proofs.Exprs.{exprs_go, sign_of}
use Rattle.sp_grammar.proofs.Rules.{Reads, kind_is, takes_next, weaker as reads_less, bound as bound_reads, given as given_reads}
use Rattle.sp_grammar.proofs.Words.{wholes as wholes_read}
use Rattle.sp_refusals.proofs.Continued.{Put, Front, nothing, Continued, given, refused, bound, bound_with, weaker, behind_takes, eaten, made, IsToken, token_is, no_end, chosen, chosen_behind, skips}
use Rattle.sp_refusals.proofs.ContinuedWords.{Spelled, SmallNumber, a_name, names, numbers, wholes, targets}

module _ (source : Text) (one : SmallNumber source) where
  none : PlainExpr
  none = node 0 (truth true)

  abbrev ExprPut : ℕ → Put → Type 0
  ExprPut l = Spelled (IsExpr source l)

  -- a name is an operand of each kind
  a_primary : Spelled (IsPrimary source) (λ x. made k.Name ∷ x)
  a_primary x = (_, IsPrimary.a_name (a_name source one x).1)

  a_postfix : Spelled (IsPostfix source) (λ x. made k.Name ∷ x)
  a_postfix x = (_, IsPostfix.primary (a_primary x).1)

  a_prefixed : Spelled (IsPrefixed source) (λ x. made k.Name ∷ x)
  a_prefixed x = (_, IsPrefixed.bare (a_postfix x).1)

  pub an_expr : (l : ℕ) → ExprPut l (λ x. made k.Name ∷ x)
  an_expr l x = (_, lifted_to source l 0 (omega arith) (IsExpr.operand (a_prefixed x).1))

  -- ---- casts

  casts_go_from : (n at : ℕ) (b : Put) (e : PlainExpr) {ts : List Token} → Spelled (IsPostfix source) b → Continued (casts_from source at n e ts) ts (λ d. Spelled (IsPostfix source) (λ x. b (d x)))
  unfolding casts_from
  casts_go_from zero at b e p = given e p
  casts_go_from (suc n) at b e {ts} p = chosen ts k.Dot refl
      (λ t dot. bound (targets source one t dot) (λ ty us d q. casts_go_from n at (λ x. b (t ∷ d x)) (node at (cast e ty)) (λ x. (_, IsPostfix.casted (p _).1 (q x).1)))) (given e p)

  casts_go : (at : ℕ) (b : Put) (e : PlainExpr) {ts : List Token} → Spelled (IsPostfix source) b → Continued (casts source at e ts) ts (λ d. Spelled (IsPostfix source) (λ x. b (d x)))
  casts_go at b e {ts} p = casts_go_from (length ts) at b e p

  -- ---- by what stands inside

  module _ (inner : ℕ → Rule PlainExpr) (within : (l : ℕ) (ts : List Token) → Continued (inner l ts) ts (ExprPut l)) (ends : (l : ℕ) (ts : List Token) → Reads (inner l) ts (λ e us. Stops (suc l) us)) where
    inside : (l : ℕ) {ts : List Token} → Continued (inner l ts) ts (ExprPut l)
    inside l {ts} = within l ts

    lists_from : (n : ℕ) (found : List PlainExpr) (ts : List Token) → Continued (exprs_from inner n found ts) ts (Spelled (AreExprs source))
    unfolding exprs_from
    lists_from zero found ts = refused found (λ x. made k.Name ∷ x) (λ x. (_, AreExprs.last (an_expr 7 x).1))
    lists_from (suc n) found ts = bound (inside 7) (λ e us _ p.
        chosen us k.Comma refl (λ t comma. weaker (λ d more x. (_, AreExprs.next (p _).1 (comma _) (more x).1)) (lists_from n (found ++ e ∷ []) (tail_of us)))
        (given (found ++ e ∷ []) (λ x. (_, AreExprs.last (p x).1))))

    lists : {ts : List Token} → Continued (exprs inner ts) ts (Spelled (AreExprs source))
    lists {ts} = lists_from (length ts) [] ts

    -- behind the bracket of a name's indices
    indexes : {us : List Token} (i : PlainIdent) (b : Put) (t : Token) → Spelled (IsName source) b → IsToken k.OpenRound t → Continued (indexed inner i us) us (λ d. Spelled (IsPrimary source) (λ x. b (t ∷ d x)))
    unfolding indexed
    indexes i b t named opened = bound lists (λ es _ _ p. bound (skips k.CloseRound refl) (λ _ _ _ close. given (node i.place (access i (row es))) (λ x. (_, IsPrimary.an_access (named _).1 (opened _) (p _).1 (close _)))))

    no_operands : {us : List Token} → Continued (no_operand us) us (λ d. (x : List Token) → (y : List Token) × Takes k.OpenRound (d x) y × Takes k.CloseRound y x)
    unfolding no_operand
    no_operands = bound (skips k.OpenRound refl) (λ _ _ _ opened. weaker (λ d close x. (_, opened _, close x)) (skips k.CloseRound refl))

    dots : (i : PlainIdent) (b : Put) → Spelled (IsName source) b → (t : Token) (us : List Token) → IsToken k.Dot t → Continued (member i (t ∷ us)) (t ∷ us) (λ d. Spelled (IsPrimary source) (λ x. b (d x)))
    unfolding member tail_of
    dots i b named t us dot =
        chosen_behind t us k.Value refl (λ s by. given (make_name i true) (λ x. (_, IsPrimary.a_value (named _).1 (dot _) (by x))))
        (chosen_behind t us k.Deq refl (λ s by. bound no_operands (λ _ _ _ both. given (node i.place (deq i)) (λ x. (_, IsPrimary.a_deq (named _).1 (dot _) (by _) (both x).1 (both x).2))))
        (given (make_name i false) (λ x. (_, IsPrimary.a_name (named x).1))))

    dotted : (i : PlainIdent) (b : Put) → Spelled (IsName source) b → (us : List Token) → Continued (if sees k.Dot us then member i us else Ok (make_name i false, us)) us (λ d. Spelled (IsPrimary source) (λ x. b (d x)))
    unfolding sees kind_of
    dotted i b named [] = rw (no_end k.Dot refl) (given (make_name i false) (λ x. (_, IsPrimary.a_name (named x).1)))
    dotted i b named (t ∷ us) = go (same_kind t.kind k.Dot) refl
      where
        go : (c : Bool) → same_kind t.kind k.Dot ≡ c → Continued (if c then member i (t ∷ us) else Ok (make_name i false, t ∷ us)) (t ∷ us) (λ d. Spelled (IsPrimary source) (λ x. b (d x)))
        go true is = dots i b named t us (token_is k.Dot t (kind_is t.kind k.Dot is))
        go false is = given (make_name i false) (λ x. (_, IsPrimary.a_name (named x).1))

    nameds : {ts : List Token} → Continued (named source inner ts) ts (Spelled (IsPrimary source))
    unfolding named
    nameds = bound (names source one) (λ i us d p. chosen us k.OpenRound refl (λ t opened. indexes i d t p opened) (dotted i d p us))

    encloseds : {us : List Token} (t : Token) → IsToken k.OpenRound t → Continued (enclosed inner us) us (λ d. Spelled (IsPrimary source) (λ x. t ∷ d x))
    unfolding enclosed
    encloseds t opened = bound (inside 7) (λ e _ _ p. bound (skips k.CloseRound refl) (λ _ _ _ close. given e (λ x. (_, IsPrimary.in_parentheses (opened _) (p _).1 (close _)))))

    choices : {us : List Token} (at : ℕ) (t : Token) → IsToken k.Mux t → Continued (choice inner at us) us (λ d. Spelled (IsPrimary source) (λ x. t ∷ d x))
    unfolding choice
    choices at t word = bound (skips k.OpenRound refl) (λ _ _ _ opened. bound (inside 7) (λ a _ _ p. bound (skips k.Comma refl) (λ _ _ _ first.
        bound (inside 7) (λ b _ _ q. bound (skips k.Comma refl) (λ _ _ _ second. bound (inside 7) (λ c _ _ r.
        bound (skips k.CloseRound refl) (λ _ _ _ close. given _ (λ x. (_, IsPrimary.a_choice (word _) (opened _) (p _).1 (first _) (q _).1 (second _) (r _).1 (close _))))))))))

    -- two expressions in parentheses
    abbrev PairPut : Put → Type 0
    PairPut d = (f : List Token) → (b c e g : List Token) × (x y : PlainExpr) × Takes k.OpenRound (d f) b × IsExpr source 7 b c x × Takes k.Comma c e × IsExpr source 7 e g y × Takes k.CloseRound g f

    pairs : {ts : List Token} → Continued (pair inner ts) ts PairPut
    unfolding pair
    pairs = bound (skips k.OpenRound refl) (λ _ _ _ opened. bound (inside 7) (λ a _ _ p. bound (skips k.Comma refl) (λ _ _ _ comma.
        bound (inside 7) (λ b _ _ q. bound (skips k.CloseRound refl) (λ _ _ _ close. given (a, b) (λ x. (_, _, _, _, _, _, opened _, (p _).1, comma _, (q _).1, close x)))))))

    primary_goes : (kind : TokenKind) (ts : List Token) → kind_of ts ≡ kind → Continued (primary_by source inner kind ts) ts (Spelled (IsPrimary source))
    primary_goes k.Number ts is = bound (numbers source one (place_of ts) false) (λ n _ _ p. given _ (λ x. (_, IsPrimary.a_number (p _ x).1)))
    primary_goes k.True ts is = eaten ts k.True refl is (λ t word. given _ (λ x. (_, IsPrimary.yes (word x))))
    primary_goes k.False ts is = eaten ts k.False refl is (λ t word. given _ (λ x. (_, IsPrimary.no (word x))))
    primary_goes k.OpenRound ts is = eaten ts k.OpenRound refl is (λ t word. encloseds t word)
    primary_goes k.Mux ts is = eaten ts k.Mux refl is (λ t word. choices (place_of ts) t word)
    primary_goes k.Min ts is = eaten ts k.Min refl is (λ t word. bound pairs (λ _ _ _ p. given _ (λ x. let q = p x in (_, IsPrimary.a_least (word _) q.6 q.7 q.8 q.9 q.10))))
    primary_goes k.Max ts is = eaten ts k.Max refl is (λ t word. bound pairs (λ _ _ _ p. given _ (λ x. let q = p x in (_, IsPrimary.a_greatest (word _) q.6 q.7 q.8 q.9 q.10))))
    primary_goes _ ts is = nameds

    primaries : {ts : List Token} → Continued (primary source inner ts) ts (Spelled (IsPrimary source))
    unfolding primary
    primaries {ts} = primary_goes (kind_of ts) ts refl

    unsigneds : {ts : List Token} → Continued (unsigned source inner ts) ts (Spelled (IsPostfix source))
    unfolding unsigned
    unsigneds {ts} = chosen ts k.Minus refl
        (λ t minus. bound (numbers source one (place_of ts) true) (λ n _ d p. casts_go (place_of ts) (λ x. t ∷ d x) (node (place_of ts) (a_number n)) (λ x. (_, IsPostfix.negative (minus _) (p _ x).1))))
        (bound primaries (λ e _ d p. casts_go (place_of ts) d e (λ x. (_, IsPostfix.primary (p x).1))))

    -- ---- operators before an operand

    -- what is spelled begins with a number only where these tokens do
    abbrev KeepsKind : List Token → Put → Type 0
    KeepsKind ts d = (x : List Token) → kind_of (d x) ≡ k.Number → kind_of ts ≡ k.Number

    a_kind : (ts : List Token) → KeepsKind ts (λ x. made k.Name ∷ x)
    unfolding kind_of
    a_kind ts x e = absurd (cc)

    keeps : {o : Outcome PlainExpr} {ts : List Token} → Continued o ts (Spelled (IsPrefixed source)) → Continued o ts (λ d. Spelled (IsPrefixed source) d × KeepsKind ts d)
    unfolding kind_of
    keeps {o} {ts} first = record {
      value = first.value;
      fresh = (λ x. made k.Name ∷ x, (a_prefixed, a_kind ts));
      read = λ a us h. let d = first.read a us h in (d.0, d.1, (d.2, kept_read d.0 us d.1 d.2));
      stop = λ h. let d = first.stop h in stopped d.0 d.0.tokens d.0.is d.1 d.2 d.3;
    }
      where
        kept : (t : Token) (c : List Token) (d : Put) → ((x : List Token) → d x ≡ t ∷ (c ++ x)) → (us : List Token) → ts ≡ d us → (x : List Token) → kind_of (d x) ≡ k.Number → kind_of ts ≡ k.Number
        kept t c d is us whole x e = ap kind_of (whole ∙ is us) ∙ sym (ap kind_of (is x)) ∙ e

        empty : (d : Put) → d [] ≡ [] → Spelled (IsPrefixed source) d → ⊥
        empty d is p = let less = prefixed_shorter source (p []).1 in let same = ap (λ (xs : List Token). length xs) is in omega (arith, less, same)

        kept_read : (d : Front) (us : List Token) → ts ≡ d.put us → Spelled (IsPrefixed source) d.put → KeepsKind ts d.put
        kept_read d us whole p = go d.tokens d.is
          where
            go : (c : List Token) → ((x : List Token) → d.put x ≡ c ++ x) → KeepsKind ts d.put
            go [] is = absurd (empty d.put (is []) p)
            go (t ∷ c) is = kept t c d.put is us whole

        stopped : (d : Front) (c : List Token) → ((x : List Token) → d.put x ≡ c ++ x) → ts ≡ d.put [] → (w : Put) → Spelled (IsPrefixed source) (λ x. d.put (w x))
            → (d : Front) × (ts ≡ d.put []) × (w : Put) × (Spelled (IsPrefixed source) (λ x. d.put (w x)) × KeepsKind ts (λ x. d.put (w x)))
        stopped d [] is whole w p = (nothing, whole ∙ is [], (λ x. made k.Name ∷ x), (a_prefixed, a_kind ts))
        stopped d (t ∷ c) is whole w p = (d, whole, w, (p, λ x e. kept t c d.put is [] whole (w x) e))

    behind_signs : {ts : List Token} (found : List Sign) → Continued ((unsigned source inner >>= λ e. pure (apply found e)) ts) ts (Spelled (IsPrefixed source))
    behind_signs found = bound unsigneds (λ e _ _ p. given (apply found e) (λ x. (_, IsPrefixed.bare (p x).1)))

    signed_from : (n : ℕ) (found : List Sign) (ts : List Token) → Continued ((signs_from n found >>= λ ss. unsigned source inner >>= λ e. pure (apply ss e)) ts) ts (Spelled (IsPrefixed source))
    unfolding signs_from
    signed_from zero found ts = behind_signs found
    signed_from (suc n) found ts = go (λ s. signed_from n (found ++ s ∷ []) (tail_of ts)) (sign_at ts) refl
      where
        go : ((s : Sign) → Continued ((signs_from n (found ++ s ∷ []) >>= λ ss. unsigned source inner >>= λ e. pure (apply ss e)) (tail_of ts)) (tail_of ts) (Spelled (IsPrefixed source))) → (o : Option Sign) → sign_at ts ≡ o
            → Continued (and_then (option_map_or {U = Outcome (List Sign)} (λ s. signs_from n (found ++ s ∷ []) (tail_of ts)) o (Ok (found, ts))) (λ ss. unsigned source inner >>= λ e. pure (apply ss e))) ts (Spelled (IsPrefixed source))
        go next None is = behind_signs found
        go next (Some s) is =
            let sign = sign_of ts s is in
            behind_takes sign.takes (weaker (λ d p x. (_, IsPrefixed.signed sign.sign (token_is sign.kind sign.takes.token sign.takes.of_kind (d x)) (λ minus number. sign.alone minus (p.1 x number)) (p.0 x).1)) (keeps (next s)))

    prefixeds : {ts : List Token} → Continued (prefixed source inner ts) ts (Spelled (IsPrefixed source))
    unfolding prefixed
    prefixeds {ts} = signed_from (length ts) [] ts

    -- ---- operators between operands

    lifted_put : (l m : ℕ) (d : Put) → m ≤ l → ExprPut m d → ExprPut l d
    lifted_put l m d le p x = (_, lifted_to source l m le (p x).1)

    shift_ends : (left : PlainExpr) (to_left : Bool) (by : ℕ) (us : List Token) → (e : PlainExpr) (vs : List Token) → (b : Bool) → binds_tighter (kind_of us) ≡ b
        → if◌then◌else◌ {A = Outcome PlainExpr} b (Err (length us)) (Ok (make_shift to_left left by, us)) ≡ Ok (e, vs) → Stops 3 vs
    shift_ends left to_left by us e vs true t h = absurd (cc)
    shift_ends left to_left by us e vs false t h = (given_reads {P = λ e vs. Stops 3 vs} {ts = us} (make_shift to_left left by) (after_shift (kind_of us) t)).run e vs h

    -- what stops an operation binds no tighter
    operation_stops : (o : Infix) (left : PlainExpr) (ts : List Token) → 1 ≤ level_of o → Reads (operation source inner (level_of o - 1) o left) ts (λ e us. Stops (level_of o) us)
    unfolding operation
    operation_stops (Operation op) left ts some = bound_reads (ends (level_of (Operation op) - 1) ts) (λ right us q. given_reads (make_two op left right) (subst (λ n. Stops n us) (omega (arith, some)) q))
    operation_stops (Shift to_left) left ts some = bound_reads (wholes_read source 0 63) (λ by us q. record { run = λ e vs h. shift_ends left to_left by us e vs (binds_tighter (kind_of us)) refl h })

    infix_level : (kind : TokenKind) (o : Infix) → IsInfix kind o → 1 ≤ level_of o
    infix_level kind (Operation op) is = positive is
    infix_level kind (Shift left) is = omega arith

    operations : (o : Infix) (left : PlainExpr) (b : Put) (kind : TokenKind) (t : Token) (us : List Token) → IsInfix kind o → IsToken kind t → ExprPut (level_of o) b
        → Continued (operation source inner (level_of o - 1) o left us) us (λ d. ExprPut (level_of o) (λ x. b (t ∷ d x)))
    unfolding operation
    operations (Operation op) left b kind t us is takes p = bound (inside (level_of (Operation op) - 1)) (λ right _ _ q. given (make_two op left right) (λ x. (_, joined source (level_of (Operation op)) is (p _).1 (takes _) (q x).1)))
    operations (Shift to_left) left b kind t us is takes p =
        bound (wholes source one 0 63 (omega arith) one.high) (λ by vs d q. by_kind by vs (binds_tighter (kind_of vs)) d (λ x. (_, IsExpr.shifted is (p _).1 (takes _) (q x).1)))
      where
        by_kind : (by : ℕ) (vs : List Token) (c : Bool) (d : Put) → ExprPut 3 (λ x. b (t ∷ d x)) → Continued (if c then Err (length vs) else Ok (make_shift to_left left by, vs)) vs (λ e. ExprPut 3 (λ x. b (t ∷ d (e x))))
        by_kind by vs true d p = refused left (λ x. x) p
        by_kind by vs false d p = given (make_shift to_left left by) p

    chains_from : (n l m : ℕ) (ts : List Token) (b : Put) (left : PlainExpr) → m ≤ l → ExprPut m b → Stops m ts → Continued (chain_from source inner l n left ts) ts (λ d. ExprPut l (λ x. b (d x)))
    unfolding chain_from
    chains_from zero l m ts b left le p stops = refused left (λ x. x) (lifted_put l m b le p)
    chains_from (suc n) l m ts b left le p stops = go (λ m us b x le p stops. chains_from n l m us b x le p stops) (infix_of (kind_of ts)) refl
      where
        by_level : ((m : ℕ) (us : List Token) (b : Put) (x : PlainExpr) → m ≤ l → ExprPut m b → Stops m us → Continued (chain_from source inner l n x us) us (λ d. ExprPut l (λ x. b (d x)))) → (o : Infix) → infix_of (kind_of ts) ≡ Some o → (c : Bool)
            → nat_le (level_of o) l ≡ c
            → Continued (if c then and_then (operation source inner (level_of o - 1) o left (tail_of ts)) (chain_from source inner l n) else Ok (left, ts)) ts (λ d. ExprPut l (λ x. b (d x)))
        by_level next o is true t =
            let found = infix_is (kind_of ts) o is in
            let takes = takes_next (kind_of ts) ts (infix_real (kind_of ts) o is) refl in
            let small : level_of o ≤ l = grind arith in
            behind_takes takes (bound_with (operations o left b (kind_of ts) takes.token (tail_of ts) found (token_is (kind_of ts) takes.token takes.of_kind) (lifted_put (level_of o) m b (stops o is) p)) left
            (λ d q. (λ x. x, lifted_put l (level_of o) (λ x. b (takes.token ∷ d x)) small q))
            (λ e us d read q. next (level_of o) us (λ x. b (takes.token ∷ d x)) e small q ((operation_stops o left (tail_of ts) (infix_level (kind_of ts) o found)).run e us read)))
        by_level next o is false t = given left (lifted_put l m b le p)

        go : ((m : ℕ) (us : List Token) (b : Put) (x : PlainExpr) → m ≤ l → ExprPut m b → Stops m us → Continued (chain_from source inner l n x us) us (λ d. ExprPut l (λ x. b (d x)))) → (o : Option Infix) → infix_of (kind_of ts) ≡ o
            → Continued (option_map_or {U = Outcome PlainExpr} (λ op. if nat_le (level_of op) l then and_then (operation source inner (level_of op - 1) op left (tail_of ts)) (chain_from source inner l n) else Ok (left, ts)) o (Ok (left, ts))) ts
            (λ d. ExprPut l (λ x. b (d x)))
        go next None is = given left (lifted_put l m b le p)
        go next (Some o) is = by_level next o is (nat_le (level_of o) l) refl

    chains : (l : ℕ) {ts : List Token} → Continued (chain source inner l ts) ts (ExprPut l)
    unfolding chain
    chains l {ts} = bound prefixeds (λ e us d p. chains_from (length ts) l 0 us d e (omega arith) (λ x. (_, IsExpr.operand (p x).1)) (λ o h. omega arith))

  exprs_continue : (depth l : ℕ) (ts : List Token) → Continued (expr source depth l ts) ts (ExprPut l)
  unfolding expr
  exprs_continue zero l ts = refused none (λ x. made k.Name ∷ x) (an_expr l)
  exprs_continue (suc depth) l ts = chains (expr source depth) (λ m us. exprs_continue depth m us) (λ m us. reads_less (λ e vs p. p.1) (exprs_go source depth m)) l

  pub whole_goes : {ts : List Token} → Continued (whole_expr source ts) ts (ExprPut 7)
  unfolding whole_expr
  whole_goes {ts} = exprs_continue (length ts) 7 ts
