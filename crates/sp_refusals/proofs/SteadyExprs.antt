-- Expressions.
use Rattle.std.proofs.Common.{◌≡◌, ◌∙◌, ℕ, zero, suc, ◌-◌, ◌≤◌, Bool, true, false, ◌&&◌, nat_le, List, [], ◌∷◌, ◌++◌, length, option_and_then, Option, Some, None, Ok, Err, refl, sym, ap, subst, arith, if◌then◌else◌}
use Rattle.std.specs.Option.{option_map_or}
use Rattle.sp_reader.specs.declared.token.Token.{Token}
use Rattle.sp_reader.specs.declared.token.TokenKind.{TokenKind}
use Rattle.sp_reader.specs.declared.token.TokenKind.TheVariants as k
use Rattle.sp_reader.specs.declared.grammar.expression.Infix.{Infix}
use Rattle.sp_reader.specs.declared.grammar.expression.Infix.TheVariants.{Operation, Shift}
use Rattle.sp_reader.specs.declared.grammar.expression.Sign.{Sign}
use Rattle.sp_reader.specs.declared.syntax.expression.SynUn.{SynUn}
use Rattle.sp_reader.specs.declared.syntax.expression.SynUn.TheVariants.{Minus, Bang, Tilde}
use Rattle.sp_reader.specs.ExpressionRules.{infix_of, level_of, prefix, is_minus, make_two, make_shift, make_name, binds_tighter, sign_at, signs_from, signs, apply, operation, chain_from, casts_from, casts, exprs_from, exprs, pair, choice, no_operand, member, indexed, named, enclosed, primary_by, primary, unsigned, prefixed, chain, expr}
use Rattle.sp_reader.specs.Names.{ident, name, number}
use Rattle.sp_reader.specs.PlainTree.{PlainIdent, PlainExpr, expr as node, number as a_number, truth, deq, access, mux, min, max, cast, row}
use Rattle.sp_reader.specs.Steps.{Text, Rule, Outcome, and_then, ◌>>=◌, pure, kind_of, tail_of, place_of, same_kind, sees, is_name}
use Rattle.sp_grammar.proofs.Again.{kind_at, tail_at, shorter, sees_it, sees_other, name_again}
use Rattle.sp_grammar.proofs.AgainLoops.{exprs_of_spans}
use Rattle.sp_grammar.specs.Loops.{AreSpans}
use Rattle.sp_reader.specs.PlainStatement.{PlainSpan}
use Rattle.sp_reader.specs.SimpleRules.{are_indices}
use Rattle.sp_reader.specs.SpanRules.{whole_expr}
use Rattle.sp_reader.specs.TypeRules.{target}
use Rattle.sp_grammar.specs.Tokens.{Takes, IsName}
use Rattle.sp_grammar.proofs.AgainExprs.{signs_end, by_name, name_access, exprs_again, after_close}
use Rattle.sp_refusals.proofs.Steady.{Texts, Steady, AtMost, most_then, bound, looser, apart, given, refused, looked, either, perhaps, eaten, tailed, chosen, chosen_at, skips, same_as, looped, sized}
use Rattle.sp_refusals.proofs.SteadyWords.{names, numbers, wholes, targets}

shift_by : Bool → PlainExpr → ℕ → TokenKind → Rule PlainExpr
shift_by to_left left by kind = λ ts. if binds_tighter kind then Err (length ts) else Ok (make_shift to_left left by, ts)

mux_at : (ℕ → Rule PlainExpr) → ℕ → Rule PlainExpr
mux_at inside at = λ ts. choice inside at (tail_of ts)

least_at : (ℕ → Rule PlainExpr) → ℕ → Rule PlainExpr
least_at inside at = λ ts. (pair inside >>= λ p. pure (node at (min p.0 p.1))) (tail_of ts)

greatest_at : (ℕ → Rule PlainExpr) → ℕ → Rule PlainExpr
greatest_at inside at = λ ts. (pair inside >>= λ p. pure (node at (max p.0 p.1))) (tail_of ts)

prefix_minus : (kind : TokenKind) → prefix kind ≡ Some Minus → same_kind kind k.Minus ≡ true
unfolding same_kind
prefix_minus k.Minus e = refl
prefix_minus k.Bang e = absurd (cc)
prefix_minus k.Tilde e = absurd (cc)
prefix_minus _ e = absurd (cc)

name_plain : (kind : TokenKind) → is_name kind ≡ true → (prefix kind ≡ None) × (same_kind kind k.Minus ≡ false)
unfolding same_kind
name_plain k.Minus e = absurd (cc)
name_plain k.Bang e = absurd (cc)
name_plain k.Tilde e = absurd (cc)
name_plain _ e = (refl, refl)

no_sign : (t : Token) (us : List Token) → is_name t.kind ≡ true → sign_at (t ∷ us) ≡ None
unfolding sign_at kind_of
no_sign t us n = rw (name_plain t.kind n).0 refl

module _ (source : Text) where
  chain_by : (ℕ → Rule PlainExpr) → ℕ → ℕ → PlainExpr → TokenKind → Rule PlainExpr
  chain_by inside level n left kind = λ ts.
      option_map_or (λ op. if nat_le (level_of op) level then and_then (operation source inside (level_of op - 1) op left (tail_of ts)) (chain_from source inside level n) else Ok (left, ts)) (infix_of kind) (Ok (left, ts))

  -- behind the dot of a name
  behind_dot : ℕ → PlainIdent → Rule PlainExpr
  behind_dot at i = λ us.
      if sees k.Value us then casts source at (make_name i true) (tail_of us)
      else (if sees k.Deq us then (no_operand >>= λ _. casts source at (node i.place (deq i))) (tail_of us)
      else (target source >>= λ t. casts_from source at (length us) (node at (cast (make_name i false) t))) us)

  -- behind a name
  behind_name : (ℕ → Rule PlainExpr) → ℕ → PlainIdent → Rule PlainExpr
  behind_name inside at i = λ ts.
      if sees k.OpenRound ts then (indexed inside i >>= casts source at) (tail_of ts)
      else (if sees k.Dot ts then behind_dot at i (tail_of ts) else casts source at (make_name i false) ts)

  -- the rule reads so
  dotted_is : (at : ℕ) (i : PlainIdent) (ts : List Token) → sees k.Dot ts ≡ true → and_then (member i ts) (casts source at) ≡ behind_dot at i (tail_of ts)
  unfolding behind_dot member casts_from tail_of sees kind_of same_kind
  dotted_is at i [] is = absurd (cc)
  dotted_is at i (t ∷ us) is = go (sees k.Value us) (sees k.Deq us)
    where
      go : (b c : Bool) → and_then (if b then Ok (make_name i true, tail_of us) else (if c then (no_operand >>= λ _. pure (node i.place (deq i))) (tail_of us) else Ok (make_name i false, t ∷ us))) (casts source at)
          ≡ (if b then casts source at (make_name i true) (tail_of us) else (if c then (no_operand >>= λ _. casts source at (node i.place (deq i))) (tail_of us)
          else (target source >>= λ t. casts_from source at (length us) (node at (cast (make_name i false) t))) us))
      go true c = refl
      go false true = by_outcome (no_operand (tail_of us))
        where
          by_outcome : (o : Outcome (Unit {0})) → and_then (and_then o (λ _. pure (node i.place (deq i)))) (casts source at) ≡ and_then o (λ _. casts source at (node i.place (deq i)))
          by_outcome (Ok p) = refl
          by_outcome (Err e) = refl
      go false false = rw is refl

  named_is : (inside : ℕ → Rule PlainExpr) (at : ℕ) (ts : List Token) → (name source >>= behind_name inside at) ts ≡ (named source inside >>= casts source at) ts
  unfolding named behind_name
  named_is inside at ts = by_name (name source ts)
    where
      by_kind : (i : PlainIdent) (us : List Token) (b c : Bool) → sees k.Dot us ≡ c
          → (if b then (indexed inside i >>= casts source at) (tail_of us) else (if c then behind_dot at i (tail_of us) else casts source at (make_name i false) us))
          ≡ and_then (if b then indexed inside i (tail_of us) else (if c then member i us else Ok (make_name i false, us))) (casts source at)
      by_kind i us true c is = refl
      by_kind i us false true is = sym (dotted_is at i us is)
      by_kind i us false false is = refl

      by_name : (o : Outcome PlainIdent) → and_then o (behind_name inside at) ≡ and_then (and_then o (λ i. λ ts. if sees k.OpenRound ts then indexed inside i (tail_of ts) else (if sees k.Dot ts then member i ts else Ok (make_name i false, ts)))) (casts source at)
      by_name (Ok p) = by_kind p.0 p.1 (sees k.OpenRound p.1) (sees k.Dot p.1) refl
      by_name (Err e) = refl

  number_at : ℕ → Rule PlainExpr
  number_at at = number source at false >>= λ n. pure (node at (a_number n))

  primary_at : (ℕ → Rule PlainExpr) → ℕ → TokenKind → Rule PlainExpr
  primary_at inside at kind = primary_by source inside kind >>= casts source at

  unsigned_at : (ℕ → Rule PlainExpr) → ℕ → Rule PlainExpr
  unsigned_at inside at = λ ts. if sees k.Minus ts then (number source at true >>= λ n. casts source at (node at (a_number n))) (tail_of ts) else (primary source inside >>= casts source at) ts

  -- the operand behind these
  behind_signs : (ℕ → Rule PlainExpr) → List Sign → Rule PlainExpr
  behind_signs inside ss = unsigned source inside >>= λ e. pure (apply ss e)

  signed_from : (ℕ → Rule PlainExpr) → ℕ → List Sign → Rule PlainExpr
  signed_from inside f found = signs_from f found >>= behind_signs inside

  -- behind a `-`: a number whose sign it is, or a part of an operation
  behind_minus : (ℕ → Rule PlainExpr) → ℕ → ℕ → List Sign → Rule PlainExpr
  behind_minus inside f at found = λ us.
      if sees k.Number us then (number source at true >>= λ n. casts source at (node at (a_number n)) >>= λ e. pure (apply found e)) us
      else signed_from inside f (found ++ (record { at = at; op = Minus }) ∷ []) us

  sign_by : (ℕ → Rule PlainExpr) → ℕ → List Sign → ℕ × TokenKind → Rule PlainExpr
  sign_by inside f found x = λ ts.
      option_map_or (λ o. if is_minus o then behind_minus inside f x.0 found (tail_of ts) else signed_from inside f (found ++ (record { at = x.0; op = o }) ∷ []) (tail_of ts)) (prefix x.1) (behind_signs inside found ts)

  -- the rule reads so
  signs_are : (inside : ℕ → Rule PlainExpr) (f : ℕ) (found : List Sign) (ts : List Token) → sign_by inside f found (place_of ts, kind_of ts) ts ≡ signed_from inside (suc f) found ts
  unfolding sign_by signed_from signs_from sign_at behind_minus behind_signs unsigned sees
  signs_are inside f found ts = go (prefix (kind_of ts)) refl
    where
      number_first : (o : Outcome _) → and_then o (λ n. λ us. and_then (casts source (place_of ts) (node (place_of ts) (a_number n)) us) (λ e. pure (apply found e)))
          ≡ and_then (and_then o (λ n. casts source (place_of ts) (node (place_of ts) (a_number n)))) (λ e. pure (apply found e))
      number_first (Ok p) = refl
      number_first (Err e) = refl

      unsigned_is : sees k.Minus ts ≡ true → (number source (place_of ts) true >>= λ n. casts source (place_of ts) (node (place_of ts) (a_number n)) >>= λ e. pure (apply found e)) (tail_of ts)
          ≡ and_then (unsigned source inside ts) (λ e. pure (apply found e))
      unsigned_is minus = rw minus (number_first (number source (place_of ts) true (tail_of ts)))

      by_number : (b : Bool) → sees k.Minus ts ≡ true
          → (if b then (number source (place_of ts) true >>= λ n. casts source (place_of ts) (node (place_of ts) (a_number n)) >>= λ e. pure (apply found e)) (tail_of ts) else signed_from inside f (found ++ (record { at = place_of ts; op = Minus }) ∷ []) (tail_of ts))
          ≡ and_then (option_map_or {U = Outcome (List Sign)} (λ s. signs_from f (found ++ s ∷ []) (tail_of ts)) (if b then None else Some (record { at = place_of ts; op = Minus })) (Ok (found, ts))) (behind_signs inside)
      by_number true minus = unsigned_is minus
      by_number false minus = refl

      go : (o : Option SynUn) → prefix (kind_of ts) ≡ o
          → option_map_or (λ o. if is_minus o then behind_minus inside f (place_of ts) found (tail_of ts) else signed_from inside f (found ++ (record { at = place_of ts; op = o }) ∷ []) (tail_of ts)) o (behind_signs inside found ts)
          ≡ and_then (option_map_or {U = Outcome (List Sign)} (λ s. signs_from f (found ++ s ∷ []) (tail_of ts)) (option_and_then (λ op. if is_minus op && sees k.Number (tail_of ts) then None else Some (record { at = place_of ts; op = op })) o) (Ok (found, ts))) (behind_signs inside)
      go None is = refl
      go (Some Minus) is = by_number (sees k.Number (tail_of ts)) (prefix_minus (kind_of ts) is)
      go (Some Bang) is = refl
      go (Some Tilde) is = refl

  minus_by : (ℕ → Rule PlainExpr) → ℕ → ℕ → List Sign → Bool → Rule PlainExpr
  minus_by inside f at found b = λ us.
      if b then (number source at true >>= λ n. casts source at (node at (a_number n)) >>= λ e. pure (apply found e)) us
      else signed_from inside f (found ++ (record { at = at; op = Minus }) ∷ []) us

  -- a token that is a name spells one
  named_token : (t : Token) (us : List Token) → is_name t.kind ≡ true → IsName source (t ∷ us) us (ident source (t ∷ us))
  named_token t us n = record { token = t; is = refl; named = n; spells = refl }

  unsigned_name : (inner : ℕ → Rule PlainExpr) (t : Token) (us : List Token) (o : Outcome PlainExpr) → is_name t.kind ≡ true → named source inner (t ∷ us) ≡ o → unsigned source inner (t ∷ us) ≡ and_then o (casts source t.at)
  unfolding unsigned sees kind_of place_of
  unsigned_name inner t us o n h = rw ((name_plain t.kind n).1, by_name source inner (t ∷ us) (named_token t us n) h) refl

module _ (texts : Texts) where
  -- ---- casts

  casts_go_from : (at f g m : ℕ) → m ≤ f → m ≤ g → (e : PlainExpr) → Steady texts m m (casts_from texts.0 at f e) (casts_from texts.1 at g e)
  unfolding casts_from
  casts_go_from at f g m a b e =
      looped (casts_from texts.0 at) (casts_from texts.1 at) m (λ e z. omega arith)
      (λ f g n le rest e. chosen_at n (n - 1) (omega arith) k.Dot (looser (n - 1) (n - 1) n (omega arith) (bound (targets texts) (λ t. rest (n - 1) (omega arith) (node at (cast e t))))) (given e))
      f g m a b (omega arith) e

  pub casts_go : {m : ℕ} (at : ℕ) (e : PlainExpr) → Steady texts m m (casts texts.0 at e) (casts texts.1 at e)
  casts_go {m} at e = sized (λ f. casts_from texts.0 at f e) (λ f. casts_from texts.1 at f e) m (λ f g n le a b. casts_go_from at f g n a b e)

  -- ---- by what stands inside

  module _ (inner nested : ℕ → Rule PlainExpr) (d : ℕ) (steady : (l m : ℕ) → m ≤ d → Steady texts m m (inner l) (nested l)) where
    operations : (m l : ℕ) → m ≤ d → (o : Infix) (left : PlainExpr) → Steady texts m m (operation texts.0 inner l o left) (operation texts.1 nested l o left)
    unfolding operation kind_of shift_by
    operations m l le (Operation op) left = bound (steady l m le) (λ right. given (make_two op left right))
    operations m l le (Shift to_left) left = bound (wholes texts 0 63)
        (λ by. looked kind_of (shift_by to_left left by) (shift_by to_left left by) (λ t q z w. refl) (λ kind. either (binds_tighter kind) refused (given (make_shift to_left left by))))

    chains_from : (level f g m : ℕ) → m ≤ f → m ≤ g → m ≤ suc d → (left : PlainExpr) → Steady texts m m (chain_from texts.0 inner level f left) (chain_from texts.1 nested level g left)
    unfolding chain_from chain_by kind_of
    chains_from level f g m a b c left =
        looped (chain_from texts.0 inner level) (chain_from texts.1 nested level) (suc d) (λ e z. omega arith)
        (λ f g n le rest x. looked kind_of (chain_by texts.0 inner level f x) (chain_by texts.1 nested level g x) (λ t q z w. refl)
        (λ kind. perhaps (infix_of kind)
        (λ op. either (nat_le (level_of op) level) (tailed n (n - 1) (omega arith) (looser (n - 1) (n - 1) n (omega arith) (bound (operations (n - 1) (level_of op - 1) (omega (arith, le)) op x) (rest (n - 1) (omega arith))))) (given x))
        (given x)))
        f g m a b c left

    lists_from : (f g m : ℕ) → m ≤ f → m ≤ g → m ≤ d → (found : List PlainExpr) → Steady texts m m (exprs_from inner f found) (exprs_from nested g found)
    unfolding exprs_from
    lists_from f g m a b c found =
        looped (exprs_from inner) (exprs_from nested) d (λ e z. omega arith)
        (λ f g n le rest found. bound (steady 7 n le) (λ e. chosen_at n (n - 1) (omega arith) k.Comma (looser (n - 1) (n - 1) n (omega arith) (rest (n - 1) (omega arith) (found ++ e ∷ []))) (given (found ++ e ∷ []))))
        f g m a b c found

    lists : (m : ℕ) → m ≤ d → Steady texts m m (exprs inner) (exprs nested)
    lists m le = sized (λ f. exprs_from inner f []) (λ f. exprs_from nested f []) m (λ f g n less a b. lists_from f g n a b (omega (arith, le, less)) [])

    pairs : (m : ℕ) → m ≤ d → Steady texts m m (pair inner) (pair nested)
    unfolding pair
    pairs m le = bound (skips k.OpenRound) (λ _. bound (steady 7 m le) (λ a. bound (skips k.Comma) (λ _. bound (steady 7 m le) (λ b. bound (skips k.CloseRound) (λ _. given (a, b))))))

    choices : (m at : ℕ) → m ≤ d → Steady texts m m (choice inner at) (choice nested at)
    unfolding choice
    choices m at le = bound (skips k.OpenRound) (λ _. bound (steady 7 m le) (λ a. bound (skips k.Comma) (λ _. bound (steady 7 m le) (λ b. bound (skips k.Comma) (λ _.
        bound (steady 7 m le) (λ c. bound (skips k.CloseRound) (λ _. given (node at (mux a b c)))))))))

    indexes : (m : ℕ) → m ≤ d → (i : PlainIdent) → Steady texts m m (indexed inner i) (indexed nested i)
    unfolding indexed
    indexes m le i = bound (lists m le) (λ es. bound (skips k.CloseRound) (λ _. given (node i.place (access i (row es)))))

    encloseds : (m : ℕ) → m ≤ d → Steady texts m m (enclosed inner) (enclosed nested)
    unfolding enclosed
    encloseds m le = bound (steady 7 m le) (λ e. bound (skips k.CloseRound) (λ _. given e))

    no_operands : {m : ℕ} → Steady texts m m no_operand no_operand
    unfolding no_operand
    no_operands = bound (skips k.OpenRound) (λ _. skips k.CloseRound)

    -- ---- a name, what stands behind it, and its casts

    dots : {m : ℕ} (at : ℕ) (i : PlainIdent) → Steady texts m m (behind_dot texts.0 at i) (behind_dot texts.1 at i)
    unfolding behind_dot
    dots {m} at i = chosen k.Value (casts_go at (make_name i true)) (chosen k.Deq (bound no_operands (λ _. casts_go at (node i.place (deq i))))
        (sized (λ f. target texts.0 >>= λ t. casts_from texts.0 at f (node at (cast (make_name i false) t))) (λ f. target texts.1 >>= λ t. casts_from texts.1 at f (node at (cast (make_name i false) t))) m
        (λ f g n le a b. bound (targets texts) (λ t. casts_go_from at f g n a b (node at (cast (make_name i false) t))))))

    behinds : (m at : ℕ) → m ≤ suc d → (i : PlainIdent) → Steady texts m m (behind_name texts.0 inner at i) (behind_name texts.1 nested at i)
    unfolding behind_name
    behinds m at le i = chosen_at m (m - 1) (omega arith) k.OpenRound (looser (m - 1) (m - 1) m (omega arith) (bound (indexes (m - 1) (omega (arith, le)) i) (λ e. casts_go at e)))
        (chosen k.Dot (dots at i) (casts_go at (make_name i false)))

    nameds : (m at : ℕ) → m ≤ suc d → Steady texts m m (named texts.0 inner >>= casts texts.0 at) (named texts.1 nested >>= casts texts.1 at)
    nameds m at le = same_as (named_is texts.0 inner at) (named_is texts.1 nested at) (bound (names texts) (behinds m at le))

    -- ---- operands

    -- a value that stands at the next token
    placed : {A : Type 0} {m : ℕ} (make : ℕ → A) → Steady texts m m (λ ts. Ok (make (place_of ts), tail_of ts)) (λ ts. Ok (make (place_of ts), tail_of ts))
    unfolding place_of
    placed {m = m} make = looked place_of (λ at. λ ts. Ok (make at, tail_of ts)) (λ at. λ ts. Ok (make at, tail_of ts)) (λ t q z w. refl) (λ at. eaten m m (omega arith) (make at))

    numbered : {m : ℕ} → Steady texts m m (λ ts. (number texts.0 (place_of ts) false >>= λ n. pure (node (place_of ts) (a_number n))) ts) (λ ts. (number texts.1 (place_of ts) false >>= λ n. pure (node (place_of ts) (a_number n))) ts)
    unfolding place_of number_at
    numbered = looked place_of (number_at texts.0) (number_at texts.1) (λ t q z w. refl) (λ at. bound (numbers texts at false) (λ n. given (node at (a_number n))))

    behind_first : {R S : Rule PlainExpr} (m : ℕ) → Steady texts (m - 1) (m - 1) R S → Steady texts m m (λ ts. R (tail_of ts)) (λ ts. S (tail_of ts))
    behind_first m more = tailed m (m - 1) (omega arith) (looser (m - 1) (m - 1) m (omega arith) more)

    primary_by_kind : (m at : ℕ) → m ≤ suc d → (kind : TokenKind) → Steady texts m m (primary_by texts.0 inner kind >>= casts texts.0 at) (primary_by texts.1 nested kind >>= casts texts.1 at)
    unfolding place_of mux_at least_at greatest_at
    primary_by_kind m at le k.Number = bound numbered (casts_go at)
    primary_by_kind m at le k.True = bound (placed (λ x. node x (truth true))) (casts_go at)
    primary_by_kind m at le k.False = bound (placed (λ x. node x (truth false))) (casts_go at)
    primary_by_kind m at le k.OpenRound = bound (behind_first m (encloseds (m - 1) (omega (arith, le)))) (casts_go at)
    primary_by_kind m at le k.Mux = bound (looked place_of (mux_at inner) (mux_at nested) (λ t q z w. refl) (λ x. behind_first m (choices (m - 1) x (omega (arith, le))))) (casts_go at)
    primary_by_kind m at le k.Min =
        bound (looked place_of (least_at inner) (least_at nested) (λ t q z w. refl) (λ x. behind_first m (bound (pairs (m - 1) (omega (arith, le))) (λ p. given (node x (min p.0 p.1)))))) (casts_go at)
    primary_by_kind m at le k.Max =
        bound (looked place_of (greatest_at inner) (greatest_at nested) (λ t q z w. refl) (λ x. behind_first m (bound (pairs (m - 1) (omega (arith, le))) (λ p. given (node x (max p.0 p.1)))))) (casts_go at)
    primary_by_kind m at le _ = nameds m at le

    primaries : (m at : ℕ) → m ≤ suc d → Steady texts m m (primary texts.0 inner >>= casts texts.0 at) (primary texts.1 nested >>= casts texts.1 at)
    unfolding primary kind_of primary_at
    primaries m at le = looked kind_of (primary_at texts.0 inner at) (primary_at texts.1 nested at) (λ t q z w. refl) (primary_by_kind m at le)

    -- the `-` of a number
    negatives : {m : ℕ} (at : ℕ) → Steady texts m m (number texts.0 at true >>= λ n. casts texts.0 at (node at (a_number n))) (number texts.1 at true >>= λ n. casts texts.1 at (node at (a_number n)))
    negatives at = bound (numbers texts at true) (λ n. casts_go at (node at (a_number n)))

    unsigneds : (m : ℕ) → m ≤ suc d → Steady texts m m (unsigned texts.0 inner) (unsigned texts.1 nested)
    unfolding unsigned place_of unsigned_at
    unsigneds m le = looked place_of (unsigned_at texts.0 inner) (unsigned_at texts.1 nested) (λ t q z w. refl) (λ at. chosen k.Minus (negatives at) (primaries m at le))

    -- ---- operators before an operand

    behind_all : (m : ℕ) → m ≤ suc d → (ss : List Sign) → Steady texts m m (behind_signs texts.0 inner ss) (behind_signs texts.1 nested ss)
    unfolding behind_signs
    behind_all m le ss = bound (unsigneds m le) (λ e. given (apply ss e))

    minuses : (m f g at : ℕ) (found : List Sign) → Steady texts m m (signed_from texts.0 inner f (found ++ (record { at = at; op = Minus }) ∷ [])) (signed_from texts.1 nested g (found ++ (record { at = at; op = Minus }) ∷ []))
        → Steady texts m m (behind_minus texts.0 inner f at found) (behind_minus texts.1 nested g at found)
    unfolding behind_minus minus_by sees kind_of
    minuses m f g at found rest = looked (sees k.Number) (minus_by texts.0 inner f at found) (minus_by texts.1 nested g at found) (λ t q z w. refl)
        (λ b. either b (bound (numbers texts at true) (λ n. bound (casts_go at (node at (a_number n))) (λ e. given (apply found e)))) rest)

    signed_go_from : (f g m : ℕ) → m ≤ f → m ≤ g → m ≤ suc d → (found : List Sign) → Steady texts m m (signed_from texts.0 inner f found) (signed_from texts.1 nested g found)
    unfolding sign_by kind_of place_of signed_from signs_from
    signed_go_from f g m a b c found =
        looped (signed_from texts.0 inner) (signed_from texts.1 nested) (suc d) none
        (λ f g n le rest found. same_as (signs_are texts.0 inner f found) (signs_are texts.1 nested g found) (looked {X = ℕ × TokenKind} (λ ts. (place_of ts, kind_of ts)) (sign_by texts.0 inner f found) (sign_by texts.1 nested g found) (λ t q z w. refl)
        (λ x. perhaps (prefix x.1)
        (λ o. either (is_minus o) (behind_first n (minuses (n - 1) f g x.0 found (rest (n - 1) (omega arith) (found ++ (record { at = x.0; op = Minus }) ∷ [])))) (behind_first n (rest (n - 1) (omega arith) (found ++ (record { at = x.0; op = o }) ∷ []))))
        (behind_all n le found))))
        f g m a b c found
      where
        none : (found : List Sign) (z : List Token) → AtMost (length z) (signed_from texts.0 inner zero found z)
        none found z = (behind_all zero (omega arith) found).within z

    prefixeds : (m : ℕ) → m ≤ suc d → Steady texts m m (prefixed texts.0 inner) (prefixed texts.1 nested)
    unfolding prefixed signed_from behind_signs
    prefixeds m le = sized (λ f. signed_from texts.0 inner f []) (λ f. signed_from texts.1 nested f []) m (λ f g n less a b. signed_go_from f g n a b (omega (arith, le, less)) [])

    chains : (m level : ℕ) → m ≤ suc d → Steady texts m m (chain texts.0 inner level) (chain texts.1 nested level)
    unfolding chain
    chains m level le = sized (λ f. prefixed texts.0 inner >>= chain_from texts.0 inner level f) (λ f. prefixed texts.1 nested >>= chain_from texts.1 nested level f) m
        (λ f g n less a b. bound (prefixeds n (omega (arith, le, less))) (λ e. chains_from level f g n a b (omega (arith, le, less)) e))

  -- what is read of an expression doesn't hang on how deep its parts may stand, as long as that is enough
  pub exprs_go : (f g m l : ℕ) → m ≤ f → m ≤ g → Steady texts m m (expr texts.0 f l) (expr texts.1 g l)
  unfolding expr
  exprs_go zero g zero l a b = apart (λ z. omega arith)
  exprs_go zero g (suc m) l a b = absurd (omega (arith, a))
  exprs_go (suc f) zero zero l a b = apart (chains (expr texts.0 f) (expr texts.1 f) zero (λ l m le. exprs_go f f m l (omega (arith, le)) (omega (arith, le))) zero l (omega arith)).within
  exprs_go (suc f) zero (suc m) l a b = absurd (omega (arith, b))
  exprs_go (suc f) (suc g) m l a b = chains (expr texts.0 f) (expr texts.1 g) (m - 1) (λ l n le. exprs_go f g n l (omega (arith, le, a)) (omega (arith, le, b))) m l (omega arith)

  pub whole_go : {m : ℕ} → Steady texts m m (whole_expr texts.0) (whole_expr texts.1)
  unfolding whole_expr
  whole_go {m} = sized (λ f. expr texts.0 f 7) (λ f. expr texts.1 f 7) m (λ f g n le a b. exprs_go f g n 7 a b)

module _ (source : Text) where
  -- ---- an expression that begins with a name

  -- it isn't refused before what its first operand isn't
  named_most : (f n : ℕ) (t : Token) (us : List Token) → is_name t.kind ≡ true → AtMost n (unsigned source (expr source f) (t ∷ us)) → AtMost n (expr source (suc f) 7 (t ∷ us))
  unfolding expr chain prefixed
  named_most f n t us is h =
      let signed : signs (t ∷ us) ≡ Ok ([], t ∷ us) = signs_end source (length (t ∷ us)) [] (t ∷ us) (no_sign t us is) in
      let first : AtMost n (prefixed source (expr source f) (t ∷ us)) = rw signed (most_then n (unsigned source (expr source f) (t ∷ us)) (λ e. pure (apply [] e)) h (λ e vs. omega arith)) in
      most_then n (prefixed source (expr source f) (t ∷ us)) (λ e. chain_from source (expr source f) 7 (length (t ∷ us)) e) first
      (λ e vs. (chains_from (source, source) (expr source f) (expr source f) zero (λ l m le. exprs_go (source, source) f f m l (omega (arith, le)) (omega (arith, le))) 7 (length (t ∷ us)) (length (t ∷ us)) zero (omega arith) (omega arith) (omega arith) e).within vs)

  -- the parts of an expression, as deep as these
  parts : (f l m : ℕ) → m ≤ zero → Steady (source, source) m m (expr source f l) (expr source f l)
  parts f l m le = exprs_go (source, source) f f m l (omega (arith, le)) (omega (arith, le))

  -- by what stands behind the name
  behind_most : (f n : ℕ) (t : Token) (us : List Token) → is_name t.kind ≡ true → AtMost n (behind_name source (expr source f) t.at (ident source (t ∷ us)) us) → AtMost n (unsigned source (expr source f) (t ∷ us))
  behind_most f n t us is h =
      let read = unsigned_name source (expr source f) t us (named source (expr source f) (t ∷ us)) is refl in
      let whole = named_is source (expr source f) t.at (t ∷ us) in
      let first = ap (λ o. and_then o (behind_name source (expr source f) t.at)) (name_again source (t ∷ us) (named_token source t us is)) in
      subst (AtMost n) (sym first ∙ whole ∙ sym read) h

  -- a name is read
  pub alone_most : (t : Token) (us : List Token) → is_name t.kind ≡ true → AtMost (length us) (whole_expr source (t ∷ us))
  unfolding whole_expr
  alone_most t us is =
      named_most (length us) (length us) t us is
      (behind_most (length us) (length us) t us is ((behinds (source, source) (expr source (length us)) (expr source (length us)) zero (parts (length us)) zero t.at (omega arith) (ident source (t ∷ us))).within us))

  -- and so are a name and a dot
  pub dotted_most : (t : Token) {ts us : List Token} → is_name t.kind ≡ true → Takes k.Dot ts us → AtMost (length us) (whole_expr source (t ∷ ts))
  unfolding whole_expr behind_name same_kind
  dotted_most t {ts} {us} is dot =
      let f = length ts in
      let i = ident source (t ∷ ts) in
      let rest : AtMost (length us) (behind_name source (expr source f) t.at i ts) =
      rw (sees_other k.Dot k.OpenRound ts (kind_at ts dot) refl, sees_it ts dot, tail_at ts dot) ((dots (source, source) (expr source f) (expr source f) zero (parts f) {m = zero} t.at i).within us) in
      named_most f (length us) t ts is (behind_most f (length us) t ts is rest)

  -- and so are a name and places of one index each
  pub access_most : (t : Token) {ts inside us vs : List Token} {all : List PlainSpan} → is_name t.kind ≡ true → Takes k.OpenRound ts inside → AreSpans source inside us all → Takes k.CloseRound us vs → are_indices all ≡ true
      → AtMost (length vs) (whole_expr source (t ∷ ts))
  unfolding whole_expr same_kind
  access_most t {ts} {inside} {us} {vs} is opened q close indices =
      let f = length ts in
      let less = shorter ts opened in
      let es = exprs_of_spans source q indices in
      let read = exprs_again source es.1 f (length inside) [] (omega (arith, less)) (omega arith) (sees_other k.CloseRound k.Comma us (kind_at us close) refl) (after_close source close).0 (after_close source close).1 in
      let operand = name_access source (expr source f) (named_token source t ts is) opened read close in
      named_most f (length vs) t ts is (rw (unsigned_name source (expr source f) t ts _ is operand) ((casts_go (source, source) {m = zero} t.at _).within vs))
