-- All that is done to a DRAM is done to one copy: nothing makes it fresh.
use Rattle.std.proofs.Common.{◌≡◌, ℕ, true, false, List, [], ◌∷◌, length, Option, Some, if◌then◌else◌, inl, inr, refl, sym, ap, subst, ◌∙◌, arith, ne_eqb}
use Rattle.std.proofs.lemmas.Bool.{false≢true, le-ltb}
use Rattle.sp_words.specs.declared.kind.Kind.TheVariants.{Dram}
use Rattle.sp_core.specs.Declarations.{mem, kind_of, dram_number}
use Rattle.sp_core.specs.Events.{Act, reads, writes, puts, takes, resets, turns, Moment, touches, slices, renews, keeps}
use Rattle.sp_core.specs.PlainCore.{PlainCore}
use Rattle.sp_core.specs.Sequential.{has_reset}
use Rattle.sp_core.specs.Store.{changed}
use Rattle.sp_plan.specs.PlainPlan.{PlainPlan}
use Rattle.sp_time.specs.Lists.{Each}
use Rattle.sp_machine.specs.Stamps.{Stamped}
use Rattle.sp_machine.specs.Timeline.{core_timed}
use Rattle.sp_machine.specs.Transfers.{Delays}
use Rattle.sp_contents.specs.Steady.{AtHand, act_hand, moment_hand, ActsAtHand, IsAtHand, AreSteady, IsLine, IsReg, IsMade, MayAct, IsAllowed}
use Rattle.sp_contents.specs.Trees.{first_hand, RunsStay}
use Rattle.sp_contents.proofs.Stay.{first_at}
use Rattle.sp_memory_words.proofs.Finding.{none_there, first_or_later}
use Rattle.sp_dram_words.specs.Laws.{IsInOneCopy, DramsAreOne}

pub dram_kind : (core : PlainCore) (r : ℕ) → kind_of core (dram_number core r) ≡ Dram
dram_kind core r = ap (λ b. if b then (mem core (dram_number core r)).kind else Dram) (le-ltb (dram_number core r) (length core.mems) (omega arith))

module _ (core : PlainCore) (m : ℕ) (kind : kind_of core m ≡ Dram) where
  elsewhere : (hand : AtHand) (n : ℕ) (now : Option ℕ) → (n ≡ m → ⊥) → changed hand n now m ≡ hand m
  elsewhere hand n now apart = ap (λ b. elim b as (λ _. Option ℕ) [ true ↦ now | false ↦ hand m ]) (ne_eqb m n (λ e. apart (sym e)))

  no_reset : (n : ℕ) → has_reset (kind_of core n) (mem core n).start ≡ true → n ≡ m → ⊥
  no_reset n h e = false≢true (subst (λ k. has_reset k (mem core n).start ≡ true) (ap (kind_of core) e ∙ kind) h)

  act_keeps : (hand : AtHand) (c n : ℕ) (is : List ℕ) (a : Act) → MayAct core n is a → act_hand hand c n a m ≡ hand m
  act_keeps hand c n is (reads w) may = refl
  act_keeps hand c n is (writes w) may = refl
  act_keeps hand c n is (puts w) may = refl
  act_keeps hand c n is (takes w) may = refl
  act_keeps hand c n is resets may = elsewhere hand n (Some c) (no_reset n may.0)
  act_keeps hand c n is turns may = refl

  -- what is allowed leaves it at hand as it was
  moment_keeps : (hand : AtHand) (c : ℕ) (x : Moment) → IsAllowed core x → moment_hand hand c x m ≡ hand m
  moment_keeps hand c (touches e) may = act_keeps hand c e.mem e.indices e.act may
  moment_keeps hand c (slices x) may = refl
  moment_keeps hand c (renews n) may = elsewhere hand n (Some c) (λ e. subst IsMade (ap (kind_of core) e ∙ kind) may.0)
  moment_keeps hand c (keeps n w) may = elsewhere hand n (Some c) (λ e. subst IsReg (ap (kind_of core) e ∙ kind) may)

  same_copy : (hand : AtHand) (c n : ℕ) → hand m ≡ Some 0 → hand n ≡ Some c → n ≡ m → c ≡ 0
  same_copy hand c n first at e = let same : Some c ≡ Some 0 = sym at ∙ ap hand e ∙ first in cc (same)

  act_copy : (hand : AtHand) (c n : ℕ) (is : List ℕ) (a : Act) → hand m ≡ Some 0 → ActsAtHand hand c n a → MayAct core n is a → n ≡ m → c ≡ 0
  act_copy hand c n is (reads w) first at may e = same_copy hand c n first at e
  act_copy hand c n is (writes w) first at may e = same_copy hand c n first at e
  act_copy hand c n is (puts w) first at may e = same_copy hand c n first at e
  act_copy hand c n is (takes w) first at may e = same_copy hand c n first at e
  act_copy hand c n is resets first at may e = absurd (no_reset n may.0 e)
  act_copy hand c n is turns first at may e = same_copy hand c n first at e

  in_one : (run : List Stamped) (hand : AtHand) → hand m ≡ Some 0 → AreSteady hand run → Each (λ (x : Stamped). IsAllowed core x.moment) run → IsInOneCopy run m
  in_one [] hand first steady may t c e there h = absurd (none_there (record { cycle = t; copy = c; moment = touches e }) there)
  in_one (x ∷ run) hand first steady may t c e there h = elim (first_or_later x (record { cycle = t; copy = c; moment = touches e }) run there) [
    | inl same ↦
        let at : IsAtHand hand c (touches e) = subst (λ (y : Stamped). IsAtHand hand y.copy y.moment) same steady.0 in
        let allowed : IsAllowed core (touches e) = subst (λ (y : Stamped). IsAllowed core y.moment) same may.0 in
        act_copy hand c e.mem e.indices e.act first at allowed h
    | inr later ↦ in_one run (moment_hand hand x.copy x.moment) (moment_keeps hand x.copy x.moment may.0 ∙ first) steady.1 may.1 t c e later h
  ]

pub drams_are_one : (core : PlainCore) (plan : PlainPlan) (delays : Delays) → RunsStay core plan delays → DramsAreOne core plan delays
drams_are_one core plan delays stay is timed h allowed r few =
    let first : first_hand core (dram_number core r) ≡ Some 0 = first_at core (dram_number core r) (omega (arith, few)) (λ e. subst IsLine (sym e ∙ dram_kind core r) tt) in
    in_one core (dram_number core r) (dram_kind core r) (core_timed core plan delays h).events (first_hand core) first (stay is timed h) allowed
