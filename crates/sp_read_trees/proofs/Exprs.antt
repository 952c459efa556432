-- Expressions.
use Rattle.std.proofs.Common.{◌≡◌, ℕ, zero, suc, ◌-◌, ◌≤◌, Bool, true, false, ◌&&◌, nat_le, List, [], ◌∷◌, ◌++◌, length, option_and_then, Option, Some, None, Ok, refl, sym, subst, arith, if◌then◌else◌}
use Rattle.std.specs.Option.{option_map_or}
use Rattle.std.proofs.lemmas.List.{length-append}
use Rattle.sp_reader.specs.declared.token.Token.{Token}
use Rattle.sp_reader.specs.declared.token.TokenKind.{TokenKind}
use Rattle.sp_reader.specs.declared.token.TokenKind.TheVariants as k
use Rattle.sp_reader.specs.declared.grammar.expression.Infix.{Infix}
use Rattle.sp_reader.specs.declared.grammar.expression.Infix.TheVariants.{Operation, Shift}
use Rattle.sp_reader.specs.declared.grammar.expression.Sign.{Sign}
use Rattle.sp_reader.specs.declared.syntax.expression.SynUn.{SynUn}
use Rattle.sp_reader.specs.ExpressionRules.{infix_of, level_of, prefix, is_minus, make_two, make_shift, make_name, binds_tighter, sign_at, signs_from, signs, apply, operation, chain_from, casts_from, casts, exprs_from, exprs, pair, choice, no_operand, member, indexed, named, enclosed, primary_by, primary, unsigned, prefixed, chain, expr}
use Rattle.sp_reader.specs.Names.{number}
use Rattle.sp_reader.specs.PlainTree.{PlainIdent, PlainExpr, expr as node, number as a_number, truth, deq, access, mux, min, max, cast, row}
use Rattle.sp_reader.specs.Steps.{Text, Rule, Outcome, and_then, ◌>>=◌, pure, refuse, kind_of, tail_of, place_of, sees}
use Rattle.sp_reader.specs.TypeRules.{target}
use Rattle.sp_types.specs.Expressions.{index_count}
use Rattle.sp_typed.specs.ReadTree.{IsReadExpr, AreReadExprs}
use Rattle.sp_read_trees.proofs.Levels.{level, Good}
use Rattle.sp_read_trees.proofs.Rules.{Any, Goes, given, refused, bound, chosen, skips, looking, past, past_kind, tested}
use Rattle.sp_read_trees.proofs.Types.{targets}
use Rattle.sp_read_trees.proofs.Words.{names, numbers, wholes}

-- ---- operators aren't brackets

infix_level : (kind : TokenKind) (op : Infix) (d : ℕ) → infix_of kind ≡ Some op → level kind d ≡ d
infix_level k.OpenRound op d e = absurd (cc)
infix_level k.OpenSquare op d e = absurd (cc)
infix_level k.OpenCurly op d e = absurd (cc)
infix_level k.CloseRound op d e = absurd (cc)
infix_level k.CloseSquare op d e = absurd (cc)
infix_level k.CloseCurly op d e = absurd (cc)
infix_level _ op d e = refl

prefix_level : (kind : TokenKind) (op : SynUn) (d : ℕ) → prefix kind ≡ Some op → level kind d ≡ d
prefix_level k.OpenRound op d e = absurd (cc)
prefix_level k.OpenSquare op d e = absurd (cc)
prefix_level k.OpenCurly op d e = absurd (cc)
prefix_level k.CloseRound op d e = absurd (cc)
prefix_level k.CloseSquare op d e = absurd (cc)
prefix_level k.CloseCurly op d e = absurd (cc)
prefix_level _ op d e = refl

sign_level : (ts : List Token) (s : Sign) (d : ℕ) → sign_at ts ≡ Some s → level (kind_of ts) d ≡ d
unfolding sign_at
sign_level ts s d e = go (prefix (kind_of ts)) refl e
  where
    go : (o : Option SynUn) → prefix (kind_of ts) ≡ o → option_and_then {U = Sign} (λ op. if is_minus op && sees k.Number (tail_of ts) then None else Some (record { at = place_of ts; op = op })) o ≡ Some s
        → level (kind_of ts) d ≡ d
    go None is h = absurd (cc)
    go (Some op) is h = prefix_level (kind_of ts) op d is

-- ---- lists of expressions

row_push : (found : List PlainExpr) (e : PlainExpr) → AreReadExprs (row found) → IsReadExpr e → AreReadExprs (row (found ++ e ∷ []))
row_push [] e h p = (p, tt)
row_push (x ∷ found) e h p = (h.0, row_push found e h.1 p)

row_count : (found : List PlainExpr) → index_count (row found) ≡ length found
row_count [] = refl
row_count (x ∷ found) = omega (arith, row_count found)

abbrev AreRead : List PlainExpr → Type 0
AreRead es = (1 ≤ length es) × AreReadExprs (row es)

applied : (ss : List Sign) (e : PlainExpr) → IsReadExpr e → IsReadExpr (apply ss e)
applied [] e p = p
applied (s ∷ ss) e p = applied ss e p

module _ (source : Text) where
  stays : (d : ℕ) (ts : List Token) → Good source d ts → level (kind_of ts) d ≡ d → Good source d (tail_of ts)
  stays d ts g e = subst (λ n. Good source n (tail_of ts)) e (past_kind source (kind_of ts) d ts g refl)

  signs_go_from : (n d : ℕ) (found : List Sign) → Goes source d d Any (signs_from n found)
  unfolding signs_from
  signs_go_from zero d found = given source found tt
  signs_go_from (suc n) d found = record { run = λ ts ss us g h. go ts ss us g (λ s. signs_go_from n d (found ++ s ∷ [])) (sign_at ts) refl h }
    where
      go : (ts : List Token) (ss : List Sign) (us : List Token) → Good source d ts → ((s : Sign) → Goes source d d Any (signs_from n (found ++ s ∷ []))) → (o : Option Sign) → sign_at ts ≡ o
          → option_map_or (λ s. signs_from n (found ++ s ∷ []) (tail_of ts)) o (Ok (found, ts)) ≡ Ok (ss, us) → Any ss × Good source d us
      go ts ss us g next (Some s) is h = (next s).run (tail_of ts) ss us (stays d ts g (sign_level ts s d is)) h
      go ts ss us g next None is h = (given source {P = Any} found tt).run ts ss us g h

  signs_go : {d : ℕ} → Goes source d d Any signs
  signs_go = looking source (λ all. signs_from (length all) []) (λ all. signs_go_from (length all) _ [])

  casts_go_from : (at n d : ℕ) (operand : PlainExpr) → IsReadExpr operand → Goes source d d IsReadExpr (casts_from source at n operand)
  unfolding casts_from
  casts_go_from at zero d operand p = given source operand p
  casts_go_from at (suc n) d operand p = chosen source k.Dot (λ _. target source >>= λ t. casts_from source at n (node at (cast operand t))) (λ _. pure operand)
      (λ _. bound source (targets source) (λ t _. casts_go_from at n d (node at (cast operand t)) p)) (λ _. given source operand p)

  casts_go : {d : ℕ} (at : ℕ) (operand : PlainExpr) → IsReadExpr operand → Goes source d d IsReadExpr (casts source at operand)
  casts_go at operand p = looking source (λ all. casts_from source at (length all) operand) (λ all. casts_go_from at (length all) _ operand p)

  no_operands : {d : ℕ} → Goes source d d Any no_operand
  unfolding no_operand
  no_operands = bound source (skips source k.OpenRound) (λ _ _. skips source k.CloseRound)

  members : (i : PlainIdent) (d : ℕ) (ts : List Token) (e : PlainExpr) (us : List Token) → Good source d ts → sees k.Dot ts ≡ true → member i ts ≡ Ok (e, us) → IsReadExpr e × Good source d us
  unfolding member
  members i d ts e us g dot h = by_value (sees k.Value (tail_of ts)) refl h
    where
      by_deq : (c : Bool) → sees k.Deq (tail_of ts) ≡ c
          → if◌then◌else◌ {A = Outcome PlainExpr} c ((no_operand >>= λ _. pure (node i.place (deq i))) (tail_of (tail_of ts))) (Ok (make_name i false, ts)) ≡ Ok (e, us) → IsReadExpr e × Good source d us
      by_deq true is h = (bound source {Q = IsReadExpr} no_operands (λ _ _. given source (node i.place (deq i)) tt)).run (tail_of (tail_of ts)) e us (past source k.Deq d (tail_of ts) (past source k.Dot d ts g dot) is) h
      by_deq false is h = (given source {P = IsReadExpr} (make_name i false) tt).run ts e us g h

      by_value : (b : Bool) → sees k.Value (tail_of ts) ≡ b
          → if◌then◌else◌ {A = Outcome PlainExpr} b (Ok (make_name i true, tail_of (tail_of ts)))
          (if sees k.Deq (tail_of ts) then (no_operand >>= λ _. pure (node i.place (deq i))) (tail_of (tail_of ts)) else Ok (make_name i false, ts)) ≡ Ok (e, us) → IsReadExpr e × Good source d us
      by_value true is h = (given source {P = IsReadExpr} (make_name i true) tt).run (tail_of (tail_of ts)) e us (past source k.Value d (tail_of ts) (past source k.Dot d ts g dot) is) h
      by_value false is h = by_deq (sees k.Deq (tail_of ts)) refl h

  -- a name, with what stands after its `.`
  dotted : {d : ℕ} (i : PlainIdent) → Goes source d d IsReadExpr (λ ts. if sees k.Dot ts then member i ts else Ok (make_name i false, ts))
  dotted {d} i = record { run = λ ts e us g h. go ts e us g (sees k.Dot ts) refl h }
    where
      go : (ts : List Token) (e : PlainExpr) (us : List Token) → Good source d ts → (b : Bool) → sees k.Dot ts ≡ b → if◌then◌else◌ {A = Outcome PlainExpr} b (member i ts) (Ok (make_name i false, ts)) ≡ Ok (e, us)
          → IsReadExpr e × Good source d us
      go ts e us g true is h = members i d ts e us g is h
      go ts e us g false is h = (given source {P = IsReadExpr} (make_name i false) tt).run ts e us g h

  module _ (inner : ℕ → Rule PlainExpr) (inside : (l d : ℕ) → Goes source d d IsReadExpr (inner l)) where
    operations : (d l : ℕ) (op : Infix) (left : PlainExpr) → IsReadExpr left → Goes source d d IsReadExpr (operation source inner l op left)
    unfolding operation
    operations d l (Operation op) left p = bound source (inside l d) (λ right q. given source (make_two op left right) (p, q))
    operations d l (Shift to_left) left p = bound source (wholes source 0 63) (λ by q. tested source (λ ts. binds_tighter (kind_of ts)) refuse (pure (make_shift to_left left by))
        (refused source) (given source (make_shift to_left left by) (p, omega (arith, q.1))))

    chains_from : (n d l : ℕ) (left : PlainExpr) → IsReadExpr left → Goes source d d IsReadExpr (chain_from source inner l n left)
    unfolding chain_from
    chains_from zero d l left p = refused source
    chains_from (suc n) d l left p = record { run = λ ts e us g h. go ts e us g (λ x q. chains_from n d l x q) (infix_of (kind_of ts)) refl h }
      where
        by_level : (ts : List Token) (e : PlainExpr) (us : List Token) → Good source d ts → ((x : PlainExpr) → IsReadExpr x → Goes source d d IsReadExpr (chain_from source inner l n x)) → (op : Infix)
            → infix_of (kind_of ts) ≡ Some op → (b : Bool)
            → if◌then◌else◌ {A = Outcome PlainExpr} b (and_then (operation source inner (level_of op - 1) op left (tail_of ts)) (chain_from source inner l n)) (Ok (left, ts)) ≡ Ok (e, us)
            → IsReadExpr e × Good source d us
        by_level ts e us g next op is true h = (bound source (operations d (level_of op - 1) op left p) next).run (tail_of ts) e us (stays d ts g (infix_level (kind_of ts) op d is)) h
        by_level ts e us g next op is false h = (given source {P = IsReadExpr} left p).run ts e us g h

        go : (ts : List Token) (e : PlainExpr) (us : List Token) → Good source d ts → ((x : PlainExpr) → IsReadExpr x → Goes source d d IsReadExpr (chain_from source inner l n x)) → (o : Option Infix)
            → infix_of (kind_of ts) ≡ o
            → option_map_or {U = Outcome PlainExpr} (λ op. if nat_le (level_of op) l then and_then (operation source inner (level_of op - 1) op left (tail_of ts)) (chain_from source inner l n) else Ok (left, ts)) o (Ok (left, ts)) ≡ Ok (e, us)
            → IsReadExpr e × Good source d us
        go ts e us g next (Some op) is h = by_level ts e us g next op is (nat_le (level_of op) l) h
        go ts e us g next None is h = (given source {P = IsReadExpr} left p).run ts e us g h

    lists_from : (n d : ℕ) (found : List PlainExpr) → AreReadExprs (row found) → Goes source d d AreRead (exprs_from inner n found)
    unfolding exprs_from
    lists_from zero d found p = refused source
    lists_from (suc n) d found p = bound source (inside 7 d) (λ e q.
        chosen source k.Comma (λ _. exprs_from inner n (found ++ e ∷ [])) (λ _. pure (found ++ e ∷ []))
        (λ _. lists_from n d (found ++ e ∷ []) (row_push found e p q))
        (λ _. given source (found ++ e ∷ []) (omega (arith, length-append found (e ∷ [])), row_push found e p q)))

    lists : {d : ℕ} → Goes source d d AreRead (exprs inner)
    lists = looking source (λ all. exprs_from inner (length all) []) (λ all. lists_from (length all) _ [] tt)

    pairs : {d : ℕ} → Goes source d d (λ p. IsReadExpr p.0 × IsReadExpr p.1) (pair inner)
    unfolding pair
    pairs {d} = bound source (skips source k.OpenRound) (λ _ _. bound source (inside 7 (suc d)) (λ a p. bound source (skips source k.Comma) (λ _ _.
        bound source (inside 7 (suc d)) (λ b q. bound source (skips source k.CloseRound) (λ _ _. given source (a, b) (p, q))))))

    choices : {d : ℕ} (at : ℕ) → Goes source d d IsReadExpr (choice inner at)
    unfolding choice
    choices {d} at = bound source (skips source k.OpenRound) (λ _ _. bound source (inside 7 (suc d)) (λ a p. bound source (skips source k.Comma) (λ _ _.
        bound source (inside 7 (suc d)) (λ b q. bound source (skips source k.Comma) (λ _ _. bound source (inside 7 (suc d)) (λ c r.
        bound source (skips source k.CloseRound) (λ _ _. given source (node at (mux a b c)) (p, q, r))))))))

    indexes : {d : ℕ} (i : PlainIdent) → Goes source (suc d) d IsReadExpr (indexed inner i)
    unfolding indexed
    indexes i = bound source lists (λ es p. bound source (skips source k.CloseRound) (λ _ _. given source (node i.place (access i (row es))) (subst (λ n. 1 ≤ n) (sym (row_count es)) p.0, p.1)))

    nameds : {d : ℕ} → Goes source d d IsReadExpr (named source inner)
    unfolding named
    nameds = bound source (names source) (λ i _. chosen source k.OpenRound (λ _. indexed inner i) (λ _ ts. if sees k.Dot ts then member i ts else Ok (make_name i false, ts))
        (λ _. indexes i) (λ _. dotted i))

    encloseds : {d : ℕ} → Goes source (suc d) d IsReadExpr (enclosed inner)
    unfolding enclosed
    encloseds {d} = bound source (inside 7 (suc d)) (λ e p. bound source (skips source k.CloseRound) (λ _ _. given source e p))

    primary_goes : (kind : TokenKind) (d : ℕ) (ts : List Token) (e : PlainExpr) (us : List Token) → Good source d ts → kind_of ts ≡ kind → primary_by source inner kind ts ≡ Ok (e, us)
        → IsReadExpr e × Good source d us
    primary_goes k.Number d ts e us g is h = (bound source {Q = IsReadExpr} (numbers source (place_of ts) false) (λ n _. given source (node (place_of ts) (a_number n)) tt)).run ts e us g h
    primary_goes k.True d ts e us g is h = (given source {P = IsReadExpr} (node (place_of ts) (truth true)) tt).run (tail_of ts) e us (past_kind source k.True d ts g is) h
    primary_goes k.False d ts e us g is h = (given source {P = IsReadExpr} (node (place_of ts) (truth false)) tt).run (tail_of ts) e us (past_kind source k.False d ts g is) h
    primary_goes k.OpenRound d ts e us g is h = encloseds.run (tail_of ts) e us (past_kind source k.OpenRound d ts g is) h
    primary_goes k.Mux d ts e us g is h = (choices (place_of ts)).run (tail_of ts) e us (past_kind source k.Mux d ts g is) h
    primary_goes k.Min d ts e us g is h = (bound source {Q = IsReadExpr} pairs (λ p q. given source (node (place_of ts) (min p.0 p.1)) q)).run (tail_of ts) e us (past_kind source k.Min d ts g is) h
    primary_goes k.Max d ts e us g is h = (bound source {Q = IsReadExpr} pairs (λ p q. given source (node (place_of ts) (max p.0 p.1)) q)).run (tail_of ts) e us (past_kind source k.Max d ts g is) h
    primary_goes _ d ts e us g is h = nameds.run ts e us g h

    primaries : {d : ℕ} → Goes source d d IsReadExpr (primary source inner)
    unfolding primary
    primaries {d} = record { run = λ ts e us g h. primary_goes (kind_of ts) d ts e us g refl h }

    unsigneds : {d : ℕ} → Goes source d d IsReadExpr (unsigned source inner)
    unfolding unsigned
    unsigneds = chosen source k.Minus (λ all. number source (place_of all) true >>= λ n. casts source (place_of all) (node (place_of all) (a_number n))) (λ all. primary source inner >>= casts source (place_of all))
        (λ all. bound source (numbers source (place_of all) true) (λ n _. casts_go (place_of all) (node (place_of all) (a_number n)) tt))
        (λ all. bound source primaries (λ e p. casts_go (place_of all) e p))

    prefixeds : {d : ℕ} → Goes source d d IsReadExpr (prefixed source inner)
    unfolding prefixed
    prefixeds = bound source signs_go (λ ss _. bound source unsigneds (λ e p. given source (apply ss e) (applied ss e p)))

    chains : {d : ℕ} (l : ℕ) → Goes source d d IsReadExpr (chain source inner l)
    unfolding chain
    chains l = looking source (λ all. prefixed source inner >>= chain_from source inner l (length all)) (λ all. bound source prefixeds (λ e p. chains_from (length all) _ l e p))

  pub exprs_go : (depth l d : ℕ) → Goes source d d IsReadExpr (expr source depth l)
  unfolding expr
  exprs_go zero l d = refused source
  exprs_go (suc depth) l d = chains (expr source depth) (λ m n. exprs_go depth m n) l
