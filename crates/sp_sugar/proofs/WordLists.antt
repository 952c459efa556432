-- Lists whose last operation gives a word, and those that read no SRAM and no line buffer and change nothing.
use Rattle.std.proofs.Common.{◌≡◌, ℕ, ◌+◌, Bool, true, false, not, ◌||◌, List, [], ◌∷◌, ◌++◌, Some, refl, sym, ◌∙◌, ap, subst}
use Rattle.std.proofs.lemmas.Bool.{false≢true, true≢false, and_from, or_parts}
use Rattle.std.proofs.lemmas.List.Folds.{list_all-append}
use Rattle.std.specs.List.{list_all}
use Rattle.std.specs.Prelude.{length}
use Rattle.sp_words.specs.declared.kind.Kind.{Kind}
use Rattle.sp_words.specs.declared.kind.Kind.TheVariants.{Reg, ArgIn}
use Rattle.sp_words.specs.declared.types.Ty.{Ty}
use Rattle.sp_words.specs.Types.{int_type}
use Rattle.sp_tree.specs.Expressions as expressions
use Rattle.sp_tree.specs.Footprint.{Names, KindNames}
use Rattle.sp_tree.specs.Meaning.{is_dram}
use Rattle.sp_tree.specs.PlainExpression.{PlainExpr, PlainExprKind, expr, literal, counter, value, get_reg, get_arg, get_sram, get_line, deq, one, two, shift, mux, cast, type_of}
use Rattle.sp_tree.specs.PlainProgram.{PlainProgram}
use Rattle.sp_tree.specs.Streams as streams
use Rattle.sp_tree.specs.Tallies.{tally, kind_tally, tallies}
use Rattle.sp_tree.specs.Typing.{Scope, IsMem, Typed, KindTyped}
use Rattle.sp_core.specs.declared.operation.OpKind.TheVariants as kind
use Rattle.sp_core.specs.Around.{Around}
use Rattle.sp_core.specs.Declarations.{mem}
use Rattle.sp_core.specs.OperationRules.{is_early_kind, is_early, is_word_list, is_bound}
use Rattle.sp_core.specs.PlainCore as plain
use Rattle.sp_core.specs.PlainCore.{PlainOp, PlainCore}
use Rattle.sp_core.specs.Typed.{is_given, given_type, last_gives}
use Rattle.sp_sugar.specs.Agreement.{HasMemories}
use Rattle.sp_sugar.specs.Numbers.{is_off_dram, mem_number}
use Rattle.sp_sugar.specs.Operations.{Code, Codes, computes, read_op, source_code, code, code_of, codes, word_list}
use Rattle.sp_sugar.specs.Rules.{IsSource, MayUse}
use Rattle.sp_sugar.specs.Values.{Source, at_place, in_register, constant, count, Sources}
use Rattle.sp_sugar.proofs.KeepLemmas.{type_is}
use Rattle.sp_sugar.proofs.Keeps.{two_type, keeps}
use Rattle.sp_sugar.proofs.MemoryLemmas.{chip_mem}

pub last_append : (xs : List PlainOp) (op : PlainOp) (ty : Ty) → given_type op.kind op.ty ≡ Some ty → last_gives (xs ++ op ∷ []) ty ≡ true
last_append [] op ty e = ap (λ o. is_given o ty) e ∙ type_is ty
last_append (x ∷ []) op ty e = ap (λ o. is_given o ty) e ∙ type_is ty
last_append (x ∷ y ∷ xs) op ty e = last_append (y ∷ xs) op ty e

module _ (core : PlainCore) (around : Around) where
  source_last : (source : Source) (at : ℕ) (ty : Ty) → IsSource core around [] ty source → last_gives (source_code at ty source).ops ty ≡ true
  source_last (at_place k) at ty f = absurd (false≢true f)
  source_last (in_register r) at ty f = type_is ty
  source_last (constant w) at ty f = type_is ty
  source_last (count c) at ty f = type_is ty

  source_early : (source : Source) (at : ℕ) (ty : Ty) → IsSource core around [] ty source → list_all (is_early core around) (source_code at ty source).ops ≡ true
  source_early (at_place k) at ty f = refl
  source_early (in_register r) at ty f = and_from _ _ (ap (λ k. is_early_kind core around kind.Read k) f.is_kind) refl
  source_early (constant w) at ty f = refl
  source_early (count c) at ty f = refl

  early_both : (xs ys : List PlainOp) → list_all (is_early core around) xs ≡ true → list_all (is_early core around) ys ≡ true → list_all (is_early core around) (xs ++ ys) ≡ true
  early_both xs ys e f = list_all-append (is_early core around) xs ys ∙ and_from _ _ e f

module _ (p : PlainProgram) (core : PlainCore) (h : HasMemories p core) (around : Around) (scope : Scope) (sources : Sources) (may : MayUse core around p scope sources []) where
  code_last : (e : PlainExpr) (at : ℕ) → Typed p scope e → last_gives (code p.mems sources at e).ops (type_of e) ≡ true
  unfolding code code_of
  code_last (expr place ty (literal w)) at t = type_is ty
  code_last (expr place ty (counter c)) at t = type_is ty
  code_last (expr place ty (value v)) at t = source_last core around (sources v) at ty (may.vals (v, ty) t)
  code_last (expr place ty (get_reg m)) at t = type_is ty
  code_last (expr place ty (get_arg m)) at t = type_is ty
  code_last (expr place ty (get_sram m xs)) at t = let c : Codes = codes p.mems sources at xs in last_append c.ops (read_op ty (mem_number p.mems m) c.words) ty refl
  code_last (expr place ty (get_line m r c)) at t = let x : Code = code p.mems sources at r in let y : Code = code p.mems sources (at + length x.ops) c in last_append (x.ops ++ y.ops) (read_op ty (mem_number p.mems m) (x.word ∷ y.word ∷ [])) ty refl
  code_last (expr place ty (deq m)) at t = type_is ty
  code_last (expr place ty (one op a)) at t = let x : Code = code p.mems sources at a in last_append x.ops (computes (kind.One op) ty (x.word ∷ [])) ty refl
  code_last (expr place ty (two op a b)) at t = let x : Code = code p.mems sources at a in let y : Code = code p.mems sources (at + length x.ops) b in last_append (x.ops ++ y.ops) (computes (kind.Two op) (type_of a) (x.word ∷ y.word ∷ [])) ty (two_type op (type_of a) ty t.3)
  code_last (expr place ty (shift left a by)) at t = let x : Code = code p.mems sources at a in last_append x.ops (computes (kind.Shift left by) ty (x.word ∷ [])) ty refl
  code_last (expr place ty (mux c a b)) at t = let z : Code = code p.mems sources at c in let x : Code = code p.mems sources (at + length z.ops) a in let y : Code = code p.mems sources (at + length z.ops + length x.ops) b in last_append (z.ops ++ x.ops ++ y.ops) (computes kind.Mux ty (z.word ∷ x.word ∷ y.word ∷ [])) ty refl
  code_last (expr place ty (cast a)) at t = let x : Code = code p.mems sources at a in last_append x.ops (computes (kind.Cast ty) (type_of a) (x.word ∷ [])) ty refl

  -- a list that gives the word of an expression
  pub is_word : (e : PlainExpr) → Typed p scope e → is_word_list core around (word_list p.mems sources e) (type_of e) ≡ true
  is_word e t = and_from _ _ (keeps p core h around scope sources e 0 [] refl t may).right (code_last e 0 t)

  chip_kind_is : (m : ℕ) (K : Kind) (ty : Ty) → IsMem p scope m K ty → is_dram K ≡ false → (mem core (mem_number p.mems m)).kind ≡ K
  chip_kind_is m K ty is chip =
      let off : is_off_dram (expressions.mem p.mems m) ≡ true = ap (λ x. not (is_dram x)) is.is_kind ∙ ap not chip in
      ap (λ (x : plain.PlainMem). x.kind) (chip_mem p core h m (may.mems m is.seen off).0 off) ∙ is.is_kind

  abbrev still : ℕ → Bool
  still m = not (streams.is_fifo (expressions.mem p.mems m).kind)

  mutual
    unfolding code code_of codes

    code_early : (e : PlainExpr) (at : ℕ) → Typed p scope e → (tally e).arrays ≡ false → Names still e → list_all (is_early core around) (code p.mems sources at e).ops ≡ true
    code_early (expr place ty k) at t a n = kind_early k ty at t a n

    kind_early : (k : PlainExprKind) (ty : Ty) (at : ℕ) → KindTyped p scope k ty → (kind_tally k).arrays ≡ false → KindNames still k → list_all (is_early core around) (code_of p.mems sources at ty k).ops ≡ true
    kind_early (literal w) ty at t a n = refl
    kind_early (counter c) ty at t a n = refl
    kind_early (value v) ty at t a n = source_early core around (sources v) at ty (may.vals (v, ty) t)
    kind_early (get_reg m) ty at t a n = and_from _ _ (ap (λ k. is_early_kind core around kind.Read k) (chip_kind_is m Reg ty t refl)) refl
    kind_early (get_arg m) ty at t a n = and_from _ _ (ap (λ k. is_early_kind core around kind.Read k) (chip_kind_is m ArgIn ty t refl)) refl
    kind_early (get_sram m xs) ty at t a n = absurd (true≢false (or_parts (tallies xs).arrays true a).1)
    kind_early (get_line m r c) ty at t a n = absurd (true≢false (or_parts ((tally r).arrays || (tally c).arrays) true a).1)
    kind_early (deq m) ty at t a n = absurd (false≢true (sym (ap (λ k. not (streams.is_fifo k)) t.is_kind) ∙ n))
    kind_early (one op x) ty at t a n = let u : Code = code p.mems sources at x in early_both core around u.ops (computes (kind.One op) ty (u.word ∷ []) ∷ []) (code_early x at t.0 (or_parts (tally x).arrays false a).0 n) refl
    kind_early (two op x y) ty at t a n =
        let q = or_parts ((tally x).arrays || (tally y).arrays) false a in let r = or_parts (tally x).arrays (tally y).arrays q.0 in
        let u : Code = code p.mems sources at x in let v : Code = code p.mems sources (at + length u.ops) y in
        early_both core around (u.ops ++ v.ops) (computes (kind.Two op) (type_of x) (u.word ∷ v.word ∷ []) ∷ []) (early_both core around u.ops v.ops (code_early x at t.0 r.0 n.0) (code_early y (at + length u.ops) t.1 r.1 n.1)) refl
    kind_early (shift left x by) ty at t a n = let u : Code = code p.mems sources at x in early_both core around u.ops (computes (kind.Shift left by) ty (u.word ∷ []) ∷ []) (code_early x at t.0 (or_parts (tally x).arrays false a).0 n) refl
    kind_early (mux c x y) ty at t a n =
        let q = or_parts ((tally c).arrays || (tally x).arrays || (tally y).arrays) false a in let r = or_parts ((tally c).arrays || (tally x).arrays) (tally y).arrays q.0 in let w = or_parts (tally c).arrays (tally x).arrays r.0 in
        let z : Code = code p.mems sources at c in let u : Code = code p.mems sources (at + length z.ops) x in
        let v : Code = code p.mems sources (at + length z.ops + length u.ops) y in
        early_both core around (z.ops ++ u.ops ++ v.ops) (computes kind.Mux ty (z.word ∷ u.word ∷ v.word ∷ []) ∷ []) (early_both core around (z.ops ++ u.ops) v.ops (early_both core around z.ops u.ops (code_early c at t.0 w.0 n.0) (code_early x (at + length z.ops) t.2 w.1 n.1)) (code_early y (at + length z.ops + length u.ops) t.4 r.1 n.2)) refl
    kind_early (cast x) ty at t a n = let u : Code = code p.mems sources at x in early_both core around u.ops (computes (kind.Cast ty) (type_of x) (u.word ∷ []) ∷ []) (code_early x at t (or_parts (tally x).arrays false a).0 n) refl

  -- a bound
  pub bound_is : (e : PlainExpr) → Typed p scope e → type_of e ≡ int_type → (tally e).arrays ≡ false → Names still e → is_bound core around (word_list p.mems sources e) ≡ true
  bound_is e t ty a n = and_from _ _ (subst (λ y. is_word_list core around (word_list p.mems sources e) y ≡ true) ty (is_word e t)) (code_early e 0 t a n)
