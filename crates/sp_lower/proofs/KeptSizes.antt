-- A run of a core leaves in each DRAM as many words as it has: what happens in it is written to DRAMs word by word.
use Rattle.std.proofs.Common.{◌≡◌, ℕ, ◌≤◌, cond, true, false, List, [], ◌∷◌, length, Option, Some, inl, inr, refl, sym, ap, subst, ◌∙◌, arith, eq-eqb, ne_eqb}
use Rattle.std.proofs.lemmas.Bool.{cases_eq, le-ltb, false≢true}
use Rattle.std.proofs.lemmas.List.{length-set}
use Rattle.sp_words.specs.declared.kind.Kind.TheVariants.{Dram}
use Rattle.sp_words.specs.Memory.{Contents}
use Rattle.sp_core.specs.Accesses.{with_word}
use Rattle.sp_core.specs.Declarations.{mem, kind_of, dims, dram_number}
use Rattle.sp_core.specs.Elements.{row_major}
use Rattle.sp_core.specs.Events.{Act, reads, writes, puts, takes, resets, turns, Moment, touches, slices, renews, keeps, core_moments}
use Rattle.sp_core.specs.Laws.{IsReplayed}
use Rattle.sp_core.specs.Meaning.{first_store, run_core}
use Rattle.sp_core.specs.PlainCore.{PlainCore}
use Rattle.sp_core.specs.Replay.{after_act, after_moment, after_all}
use Rattle.sp_core.specs.Scope.{in_lanes, no_scope}
use Rattle.sp_core.specs.Sequential.{has_reset}
use Rattle.sp_core.specs.Store.{Store, hold, words_of}
use Rattle.sp_time.specs.Lists.{Each}
use Rattle.sp_contents.specs.Inside.{RunsAreAllowed, RunsAreInside}
use Rattle.sp_contents.specs.Steady.{IsFifo, IsLine, IsReg, IsMade, MayAct, IsAllowed}
use Rattle.sp_stored_cores.specs.Outside.{FirstWordsGiven}
use Rattle.sp_lower.specs.Sizes.{DramsKeepSizes}
use Rattle.sp_lower.proofs.Drams.{drams_fit, drams_for_each}

module _ (core : PlainCore) (k : ℕ) (outside : length core.mems ≤ k) where
  is_dram : kind_of core k ≡ Dram
  is_dram = ap (λ b. cond b (mem core k).kind Dram) (le-ltb k (length core.mems) outside)

  of_dram : (m : ℕ) → m ≡ k → kind_of core m ≡ Dram
  of_dram m e = ap (kind_of core) e ∙ is_dram

  abbrev count : Option Contents → ℕ
  count c = length (words_of c)

  held : (s : Store) (m : ℕ) (c : Contents) → (m ≡ k → count (Some c) ≡ count (s k)) → count (hold s m c k) ≡ count (s k)
  held s m c same = elim (cases_eq k m) [
    | inl e ↦ ap (λ b. count (elim b as (λ _. Option Contents) [ true ↦ Some c | false ↦ s k ])) (eq-eqb k m e) ∙ same (sym e)
    | inr apart ↦ ap (λ b. count (elim b as (λ _. Option Contents) [ true ↦ Some c | false ↦ s k ])) (ne_eqb k m apart)
  ]

  by_act : (m : ℕ) (is : List ℕ) (a : Act) (s : Store) → MayAct core m is a → count (after_act core m is a s k) ≡ count (s k)
  by_act m is (reads w) s may = refl
  by_act m is (writes w) s may =
      held s m _
      (λ e. ap (λ kind. count (Some (with_word kind (dims core m) is w (s m)))) (of_dram m e) ∙ length-set (words_of (s m)) (row_major (dims core m) is) w ∙ ap (λ n. count (s n)) e)
  by_act m is (puts w) s may = held s m _ (λ e. absurd (subst IsFifo (of_dram m e) may))
  by_act m is (takes w) s may = held s m _ (λ e. absurd (subst IsFifo (of_dram m e) may))
  by_act m is resets s may = held s m _ (λ e. absurd (false≢true (subst (λ kind. has_reset kind (mem core m).start ≡ true) (of_dram m e) may.0)))
  by_act m is turns s may = held s m _ (λ e. absurd (subst IsLine (of_dram m e) may))

  by_moment : (x : Moment) (s : Store) → IsAllowed core x → count (after_moment core x s k) ≡ count (s k)
  by_moment (touches e) s may = by_act e.mem e.indices e.act s may
  by_moment (slices x) s may = refl
  by_moment (renews m) s may = held s m _ (λ e. absurd (subst IsMade (of_dram m e) may.0))
  by_moment (keeps m w) s may = held s m _ (λ e. absurd (subst IsReg (of_dram m e) may))

  by_all : (ms : List Moment) (s : Store) → Each (IsAllowed core) ms → count (after_all core ms s k) ≡ count (s k)
  by_all [] s may = refl
  by_all (x ∷ ms) s may = by_all ms (after_moment core x s) may.1 ∙ by_moment x s may.0

pub drams_keep_sizes : (core : PlainCore) → FirstWordsGiven core → RunsAreAllowed core → RunsAreInside core → IsReplayed core in_lanes core.root → DramsKeepSizes core
unfolding run_core
drams_keep_sizes core given allowed inside replayed right timed input most h left fits ran r few =
    let again = (replayed most no_scope (first_store core input) left h ran 0 0 (record { path = []; counters = [] })).1 in
    let may = (allowed right timed).1 h (inside timed most no_scope (first_store core input) left h ran) in
    sym (ap (λ (s : Store). length (words_of (s (dram_number core r)))) again) ∙ by_all core (dram_number core r) (omega arith) (core_moments core in_lanes h) (first_store core input) may
    ∙ ap length (given input (drams_for_each core input fits) r few) ∙ drams_fit core input fits r few
