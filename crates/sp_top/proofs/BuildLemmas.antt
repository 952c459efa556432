-- A program whose core can be built, under a sure name, isn't refused by `compile` or `verilog`.
use Rattle.std.proofs.Common.{◌≡◌, ◌⊎◌, inl, inr, ◌≤◌, ℕ, List, length, sym, ◌∙◌, subst}
use Rattle.std.proofs.lemmas.Bool.{true≢false}
use Rattle.sp_edges.specs.Standing.{Standing, Holds}
use Rattle.sp_edges.specs.Calls.{Call}
use Rattle.sp_tree.specs.PlainProgram.{PlainProgram}
use Rattle.sp_source.specs.Texts.{Spells}
use Rattle.sp_build.specs.Buildable.{CanBeBuilt, IsUnbuilt}
use Rattle.sp_top.specs.Status.{PlainStatus, done, words, setup_refused, read_fault, write_fault, memory, listing_refused, conflict, cycles_spent, stopped_at, turns_spent, too_long, unbuilt, source_refused}
use Rattle.sp_top.specs.Compile.{CompileRefuses}
use Rattle.sp_top.specs.Programs.{longest_program}
use Rattle.sp_top.specs.Commands.{Command, check, format, compile, verilog, report, seq, run, simulate, waves, IsCommand, MayRefuse, Refuses, MayEnd, NotRefused}
use Rattle.sp_top.specs.Record.{SinkChange, Records}
use Rattle.sp_top.proofs.CheckLemmas.{AreNotRefused, checks}
use Rattle.sp_top.proofs.CompleteLemmas.{ends_well, one_program, one_verilog, not_both, not_check, not_check_verilog, not_format, not_format_verilog, not_report, not_report_verilog, same_bytes}

-- one of the two commands
abbrev pub IsTranslation : List (List ℕ) → (program : List ℕ) → Type 0
IsTranslation said program = IsCommand said (compile program) ⊎ IsCommand said (verilog program)

no_words : (said : List (List ℕ)) (program : List ℕ) → IsTranslation said program → ((command : Command) → IsCommand said command → ⊥) → ⊥
no_words said program (inl is) none = none (compile program) is
no_words said program (inr is) none = none (verilog program) is

-- words that are that command refuse as it does
only_compile : (said : List (List ℕ)) (told : List ℕ → Standing) (failed : List ℕ → Type 0) (asked : List Call → Type 0) (program : List ℕ) (status : PlainStatus) (command : Command)
    → IsTranslation said program → IsCommand said command → MayRefuse told failed asked command status → CompileRefuses told failed asked program status
only_compile said told failed asked program status (check other) (inl is) also refuses = absurd (not_check said other program also is)
only_compile said told failed asked program status (check other) (inr is) also refuses = absurd (not_check_verilog said other program also is)
only_compile said told failed asked program status (format other) (inl is) also refuses = absurd (not_format said other program also is)
only_compile said told failed asked program status (format other) (inr is) also refuses = absurd (not_format_verilog said other program also is)
only_compile said told failed asked program status (compile other) (inl is) also refuses =
    let P : List ℕ → Type 0 = λ p. CompileRefuses told failed asked p status in subst P (one_program said other program also is) refuses
only_compile said told failed asked program status (compile other) (inr is) also refuses = absurd (not_both said other program also is)
only_compile said told failed asked program status (verilog other) (inl is) also refuses = absurd (not_both said program other is also)
only_compile said told failed asked program status (verilog other) (inr is) also refuses =
    let P : List ℕ → Type 0 = λ p. CompileRefuses told failed asked p status in subst P (one_verilog said other program also is) refuses
only_compile said told failed asked program status (report other) (inl is) also refuses = absurd (not_report said other program also is)
only_compile said told failed asked program status (report other) (inr is) also refuses = absurd (not_report_verilog said other program also is)
only_compile said told failed asked program status (seq name setup) (inl is) also refuses = let a = is.0 in let b = also.0 in absurd (cc)
only_compile said told failed asked program status (run name setup) (inl is) also refuses = let a = is.0 in let b = also.0 in absurd (cc)
only_compile said told failed asked program status (seq name setup) (inr is) also refuses = let a = is.0 in let b = also.0 in absurd (cc)
only_compile said told failed asked program status (run name setup) (inr is) also refuses = let a = is.0 in let b = also.0 in absurd (cc)
only_compile said told failed asked program status (simulate listing setup) (inl is) also refuses = let a = is.0 in let b = also.0 in absurd (cc)
only_compile said told failed asked program status (simulate listing setup) (inr is) also refuses = let a = is.0 in let b = also.0 in absurd (cc)
only_compile said told failed asked program status (waves listing setup) (inl is) also refuses = let a = is.0 in let b = also.0 in absurd (cc)
only_compile said told failed asked program status (waves listing setup) (inr is) also refuses = let a = is.0 in let b = also.0 in absurd (cc)

-- a text spells one program
abbrev pub SpellOne : Type 0
SpellOne = (text : List ℕ) (p q : PlainProgram) → Spells text p → Spells text q → p ≡ q

pub not_unbuilt : (p : PlainProgram) → CanBeBuilt p → IsUnbuilt p → ⊥
not_unbuilt p can un = true≢false (sym can ∙ un)

module _ (laws : AreNotRefused) (one : SpellOne) (told : List ℕ → Standing) (failed : List ℕ → Type 0) (asked : List Call → Type 0) (program bytes : List ℕ) (plain : PlainProgram) where
  compiles : (status : PlainStatus) → (failed program → ⊥) → told program ≡ Holds bytes → length bytes ≤ longest_program → Spells bytes plain → CanBeBuilt plain
      → CompileRefuses told failed asked program status → NotRefused status
  compiles done read holds small spells can refuses = checks laws told failed asked program bytes plain done read holds small spells refuses
  compiles words read holds small spells can refuses = checks laws told failed asked program bytes plain words read holds small spells refuses
  compiles (setup_refused refusal) read holds small spells can refuses = checks laws told failed asked program bytes plain (setup_refused refusal) read holds small spells refuses
  compiles read_fault read holds small spells can refuses = checks laws told failed asked program bytes plain read_fault read holds small spells refuses
  compiles (write_fault which) read holds small spells can refuses = checks laws told failed asked program bytes plain (write_fault which) read holds small spells refuses
  compiles memory read holds small spells can refuses = checks laws told failed asked program bytes plain memory read holds small spells refuses
  compiles (listing_refused error) read holds small spells can refuses = checks laws told failed asked program bytes plain (listing_refused error) read holds small spells refuses
  compiles (conflict cycle bank port) read holds small spells can refuses = checks laws told failed asked program bytes plain (conflict cycle bank port) read holds small spells refuses
  compiles (cycles_spent cycles) read holds small spells can refuses = checks laws told failed asked program bytes plain (cycles_spent cycles) read holds small spells refuses
  compiles (stopped_at kind at) read holds small spells can refuses = checks laws told failed asked program bytes plain (stopped_at kind at) read holds small spells refuses
  compiles (turns_spent turns) read holds small spells can refuses = checks laws told failed asked program bytes plain (turns_spent turns) read holds small spells refuses
  compiles (too_long name) read holds small spells can refuses = checks laws told failed asked program bytes plain (too_long name) read holds small spells refuses
  compiles (source_refused error) read holds small spells can refuses = checks laws told failed asked program bytes plain (source_refused error) read holds small spells refuses
  compiles (unbuilt line) read holds small spells can refuses =
      let same : refuses.bytes ≡ bytes = same_bytes (told program) bytes refuses.bytes holds refuses.gives.all in
      let u = refuses.is_unbuilt in
      let is : plain ≡ u.program = one bytes plain u.program spells (subst (λ (b : List ℕ). Spells b u.program) same u.spells) in
      absurd (not_unbuilt u.program (subst CanBeBuilt is can) u.unbuilt)

  refused_so : (said : List (List ℕ)) (status : PlainStatus) → IsTranslation said program → (failed program → ⊥) → told program ≡ Holds bytes → length bytes ≤ longest_program
      → Spells bytes plain → CanBeBuilt plain → Refuses said told failed asked status → NotRefused status
  refused_so said status is read holds small spells can m = compiles status read holds small spells can (only_compile said told failed asked program status m.0 is m.1 m.2)

  pub compile_complete : (said : List (List ℕ)) (out aside : SinkChange) (result : PlainStatus) → Records (MayEnd said told failed asked) out aside result
      → IsTranslation said program → (failed program → ⊥) → told program ≡ Holds bytes → length bytes ≤ longest_program → Spells bytes plain → CanBeBuilt plain → NotRefused result
  compile_complete said out aside result records is read holds small spells can =
      ends_well said told failed asked (no_words said program is) (λ status refuses. refused_so said status is read holds small spells can refuses) out aside result records
