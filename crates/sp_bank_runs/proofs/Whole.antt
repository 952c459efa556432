-- Memories in banks in the runs of a core.
use Rattle.std.proofs.Common.{◌≡◌, ℕ, ◌||◌, true, pos, List, map, Some, None, refl, subst}
use Rattle.std.proofs.lemmas.Bool.{false≢true}
use Rattle.sp_words.specs.Memory.{rows, fresh_rows}
use Rattle.sp_words.specs.Ports.{PlainInput}
use Rattle.sp_words.specs.declared.kind.Kind.TheVariants.{Sram, LineBuf}
use Rattle.sp_core.specs.Declarations.{kind_of, dims}
use Rattle.sp_core.specs.Elements.{are_inside}
use Rattle.sp_core.specs.Events.{Act, reads, writes}
use Rattle.sp_core.specs.History.{History}
use Rattle.sp_core.specs.PlainCore.{PlainCore}
use Rattle.sp_core.specs.Store.{Store}
use Rattle.sp_plan.specs.PlainPlan.{PlainPlan}
use Rattle.sp_time.specs.Lists.{Each}
use Rattle.sp_machine.specs.Stamps.{Stamped}
use Rattle.sp_machine.specs.Timeline.{core_timed}
use Rattle.sp_machine.specs.Transfers.{Delays}
use Rattle.sp_contents.specs.Found.{first_contents}
use Rattle.sp_chosen_runs.specs.OwnLaws.{OwnPlansShareNoPort}
use Rattle.sp_chosen_runs.specs.InsideLaws.{is_of_word, TimelinesStayInside}
use Rattle.sp_chosen_runs.specs.InsideLaws as run
use Rattle.sp_patterns.specs.Patterns.{patterns_of}
use Rattle.sp_bank_words.specs.Accesses.{is_read, is_write, AreInside}
use Rattle.sp_bank_words.specs.Laws.{AreFound, MemoriesHoldWords}
use Rattle.sp_bank_words.specs.Buffers.{LinesHoldWords}
use Rattle.sp_bank_words.proofs.Events.{each_at}
use Rattle.sp_bank_words.proofs.Serving.{is_inside}
use Rattle.sp_bank_runs.specs.Laws.{GoesWell, ValidPlansGoWell, RunsHoldWords, RunsHoldRows}

nothing_first : (core : PlainCore) (input : PlainInput) (m c i : ℕ) → kind_of core m ≡ Sram → first_contents core input (record { mem = m; copy = c; element = i }) ≡ None
nothing_first core input m c i h = rw h refl

rows_first : (core : PlainCore) (input : PlainInput) (m c : ℕ) → kind_of core m ≡ LineBuf → first_contents core input (record { mem = m; copy = c; element = 0 }) ≡ Some (rows (fresh_rows (dims core m)))
rows_first core input m c h = rw h refl

-- a read or a write is of a word
of_word : (a : Act) → (is_read a || is_write a) ≡ true → is_of_word a ≡ true
of_word (reads w) h = refl
of_word (writes w) h = refl
of_word _ h = absurd (false≢true h)

-- what is inside by the law of runs
inside_of : (core : PlainCore) (events : List Stamped) (m : ℕ) → Each (λ x. run.IsInside core x.moment) events → AreInside core events m
inside_of core events m within x e c q p a = is_inside (dims core m) e.indices (subst (λ k. are_inside (dims core k) (map pos e.indices) ≡ true) p (h (of_word e.act a)))
  where
    h : is_of_word e.act ≡ true → are_inside (dims core e.mem) (map pos e.indices) ≡ true
    h = subst (run.IsInside core) q (each_at (λ x. run.IsInside core x.moment) events within x c)

module _ (core : PlainCore) (plan : PlainPlan) (delays : Delays) where
  run_found : (input : PlainInput) (h : History) (end : Store) → GoesWell core plan delays input h end → (m : ℕ) → AreFound core plan (patterns_of core) (core_timed core plan delays h).events (first_contents core input) m
  run_found input h end well m = record {
    in_time = well.found.in_time;
    copied = well.ports.copied;
    served = well.ports.served;
    ports = well.ports.banks;
    inside = inside_of core (core_timed core plan delays h).events m well.inside;
  }

  pub runs_hold_words : MemoriesHoldWords core plan (patterns_of core) → RunsHoldWords core plan delays
  runs_hold_words law input h end well s m last part reading writing sram runs is goes =
      law s (core_timed core plan delays h).events (first_contents core input) m last part reading writing sram (run_found input h end well m) (λ c i. nothing_first core input m c i sram) runs is goes

  pub runs_hold_rows : LinesHoldWords core plan (patterns_of core) → RunsHoldRows core plan delays
  runs_hold_rows law input h end well s m last part turning loading reading lines runs is goes =
      law s (core_timed core plan delays h).events (first_contents core input) m last part turning loading reading lines (run_found input h end well m) (λ c. rows_first core input m c lines) runs is goes

  pub valid_plans_go_well : OwnPlansShareNoPort core plan delays → TimelinesStayInside core plan delays → ValidPlansGoWell core plan delays
  valid_plans_go_well sound stay meets has right input most h t fits ends =
      let both = sound meets has right input most h t fits ends in
      record { found = both.0; ports = both.1; inside = stay has.is_core has.is_timed input most h t ends }
