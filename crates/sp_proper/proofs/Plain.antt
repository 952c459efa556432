-- The bounds of a stage name no SRAM and no line buffer, where its tally has none.
use Rattle.std.proofs.Common.{◌≡◌, ℕ, ◌+◌, ◌≤◌, Bool, true, false, ◌||◌, not, List, [], ◌∷◌, ◌++◌, length, Option, None, Some, refl, sym, ◌∙◌, ap, arith, true≢false, if◌then◌else◌}
use Rattle.std.specs.Prelude.{IsTrue}
use Rattle.std.proofs.lemmas.Bool.{not-true}
use Rattle.sp_words.specs.declared.kind.Kind.{Kind}
use Rattle.sp_words.specs.declared.kind.Kind.TheVariants.{Reg, Fifo, ArgIn}
use Rattle.sp_words.specs.declared.types.Ty.{Ty}
use Rattle.sp_words.specs.Types.{int_type}
use Rattle.sp_tree.specs.Expressions as program
use Rattle.sp_tree.specs.Footprint.{Names, KindNames}
use Rattle.sp_tree.specs.PlainExpression.{PlainExpr, PlainExprKind, expr, literal, counter, value, get_reg, get_arg, get_sram, get_line, deq, one, two, shift, mux, cast}
use Rattle.sp_tree.specs.PlainProgram.{PlainProgram}
use Rattle.sp_tree.specs.PlainStatement.{PlainCounter}
use Rattle.sp_tree.specs.Streams.{all_tallies}
use Rattle.sp_tree.specs.Tallies.{Tally, tally, kind_tally, tallies, bound_tallies}
use Rattle.sp_tree.specs.Typing.{Scope, IsMem, Typed, KindTyped, BoundsTyped}
use Rattle.sp_core.specs.Declarations.{mem}
use Rattle.sp_core.specs.Footprint.{ListNames}
use Rattle.sp_core.specs.PlainCore.{PlainOp, PlainCore}
use Rattle.sp_stream.specs.Proper.{bound_ops, is_array, names_array, has_array}
use Rattle.sp_stream.proofs.Ways.{or_second}
use Rattle.sp_sugar.specs.Early.{is_early, from_register, counters_of, after as after_word}
use Rattle.sp_sugar.specs.Numbers.{mem_number, written_mems}
use Rattle.sp_sugar.specs.Operations.{read_op, word_list}
use Rattle.sp_sugar.specs.Values.{Source, at_place, in_register, constant, count, Sources}
use Rattle.sp_lane_cores.proofs.LanedNaming.{SourceHas, SourcesHave, Test, InRange, names_pass, IsPassed, pass_append, code_passes}
use Rattle.sp_proper.proofs.Deeds.{IsChip, Low}
use Rattle.sp_proper.proofs.RunDeeds.{neither}

-- the kinds of the memories of a core: those of the program's, and registers after them
pub record HasKinds (p : PlainProgram) (core : PlainCore) : Type 0 where
  pub wide : length (written_mems p.mems) ≤ length core.mems
  pub chips : (m : ℕ) → IsChip p m → (mem core (mem_number p.mems m)).kind ≡ (program.mem p.mems m).kind
  pub added : (r : ℕ) → length (written_mems p.mems) ≤ r → (mem core r).kind ≡ Reg

never : (x y : Bool) → y ≡ true → (x || y) ≡ false → ⊥
never x y e f = true≢false (sym (or_second x y e) ∙ f)

module _ (p : PlainProgram) (core : PlainCore) (kinds : HasKinds p core) where
  abbrev is_plain : ℕ → Bool
  is_plain m = not (is_array core (program.mem p.mems m).kind)

  abbrev plain_test : Test p core
  plain_test = record {
    ok = is_plain;
    is = λ k. not (is_array core (mem core k).kind);
    chips = λ m o lt off. ap (λ k. not (is_array core k)) (kinds.chips m (record { exists = lt; on_chip = off })) ∙ o;
    drams = λ r. ap (λ k. not (is_array core k)) (kinds.added (length core.mems + r) (omega (arith, kinds.wide)));
  }

  of_kind : (scope : Scope) (m : ℕ) (K : Kind) (ty : Ty) → IsMem p scope m K ty → not (is_array core K) ≡ true → is_plain m ≡ true
  of_kind scope m K ty is e = ap (λ k. not (is_array core k)) is.is_kind ∙ e

  mutual
    plain_names : (scope : Scope) (e : PlainExpr) → Typed p scope e → (tally e).arrays ≡ false → Names is_plain e
    plain_names scope (expr place ty k) typed quiet = plain_kind scope k ty typed quiet

    plain_kind : (scope : Scope) (k : PlainExprKind) (ty : Ty) → KindTyped p scope k ty → (kind_tally k).arrays ≡ false → KindNames is_plain k
    plain_kind scope (literal w) ty typed quiet = tt
    plain_kind scope (counter c) ty typed quiet = tt
    plain_kind scope (value v) ty typed quiet = tt
    plain_kind scope (get_reg m) ty typed quiet = of_kind scope m Reg ty typed refl
    plain_kind scope (get_arg m) ty typed quiet = of_kind scope m ArgIn ty typed refl
    plain_kind scope (get_sram m indices) ty typed quiet = absurd (never (tallies indices).arrays true refl quiet)
    plain_kind scope (get_line m row column) ty typed quiet = absurd (never ((tally row).arrays || (tally column).arrays) true refl quiet)
    plain_kind scope (deq m) ty typed quiet = of_kind scope m Fifo ty typed refl
    plain_kind scope (one op a) ty typed quiet = neither (tally a).arrays false quiet (λ e f. plain_names scope a typed.0 e)
    plain_kind scope (two op a b) ty typed quiet =
        neither ((tally a).arrays || (tally b).arrays) false quiet (λ g h. neither (tally a).arrays (tally b).arrays g (λ e f. (plain_names scope a typed.0 e, plain_names scope b typed.1 f)))
    plain_kind scope (shift left a by) ty typed quiet = neither (tally a).arrays false quiet (λ e f. plain_names scope a typed.0 e)
    plain_kind scope (mux c a b) ty typed quiet =
        neither ((tally c).arrays || (tally a).arrays || (tally b).arrays) false quiet
        (λ g h. neither ((tally c).arrays || (tally a).arrays) (tally b).arrays g
        (λ i f. neither (tally c).arrays (tally a).arrays i (λ d e. (plain_names scope c typed.0 d, plain_names scope a typed.2 e, plain_names scope b typed.4 f))))
    plain_kind scope (cast a) ty typed quiet = neither (tally a).arrays false quiet (λ e f. plain_names scope a typed e)

  abbrev Plain : List PlainOp → Type 0
  Plain ops = ListNames core plain_test.is ops

  names_none : (o : Option ℕ) → (elim o as (λ _. Type 0) [ None ↦ Unit {0} | Some m ↦ IsTrue (plain_test.is m) ]) → names_array core o ≡ false
  names_none None h = refl
  names_none (Some m) h = not-true (is_array core (mem core m).kind) h

  has_none : (ops : List PlainOp) → Plain ops → has_array core ops ≡ false
  has_none [] h = refl
  has_none (op ∷ ops) h = ap (λ b. b || has_array core ops) (names_none op.mem h.0) ∙ has_none ops h.1

  source_plain : (n : ℕ) (source : Source) → SourceHas (Low p n) source → SourceHas (IsPassed p core plain_test) source
  source_plain n (at_place k) h = tt
  source_plain n (in_register r) h = ap (λ k. not (is_array core k)) (kinds.added r h.0)
  source_plain n (constant w) h = tt
  source_plain n (count c) h = tt

  module _ (sources : Sources) (n : ℕ) (have : SourcesHave (Low p n) sources) (scope : Scope) (range : InRange p scope) where
    bound_plain : (b : Bool) (r : ℕ) (e : PlainExpr) → b ≡ false → Typed p scope e → (tally e).arrays ≡ false → Plain (if b then read_op int_type r [] ∷ [] else word_list p.mems sources e)
    bound_plain true r e quiet typed no_array = absurd (true≢false quiet)
    bound_plain false r e quiet typed no_array =
        code_passes p core plain_test sources (λ v. source_plain n (sources v) (have v)) e 0 (names_pass p core plain_test scope range e typed (plain_names scope e typed no_array))

    bounds_plain : (loops : List PlainCounter) (r : ℕ) → BoundsTyped p scope loops → (all_tallies (bound_tallies loops)).arrays ≡ false → Plain (bound_ops (counters_of p.mems sources r loops))
    bounds_plain [] r typed quiet = tt
    bounds_plain (c ∷ loops) r typed quiet =
        let rest : Tally = all_tallies (bound_tallies loops) in
        neither (tally c.from).arrays ((tally c.until).arrays || rest.arrays) quiet
        (λ e no2. neither (tally c.until).arrays rest.arrays no2
        (λ f no3. let r2 : ℕ = after_word is_early r c.from in let r3 : ℕ = after_word is_early r2 c.until in
        pass_append p core plain_test (from_register p.mems sources is_early r c.from ++ from_register p.mems sources is_early r2 c.until) (bound_ops (counters_of p.mems sources r3 loops))
        (pass_append p core plain_test (from_register p.mems sources is_early r c.from) (from_register p.mems sources is_early r2 c.until)
        (bound_plain (is_early c.from) r c.from e typed.0.0.0 e) (bound_plain (is_early c.until) r2 c.until f typed.1.0.0 f))
        (bounds_plain loops r3 typed.4 no3)))

    pub no_array : (loops : List PlainCounter) (r : ℕ) → BoundsTyped p scope loops → (all_tallies (bound_tallies loops)).arrays ≡ false → has_array core (bound_ops (counters_of p.mems sources r loops)) ≡ false
    no_array loops r typed quiet = has_none (bound_ops (counters_of p.mems sources r loops)) (bounds_plain loops r typed quiet)
