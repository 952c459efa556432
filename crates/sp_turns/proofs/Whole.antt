-- A whole core goes around no oftener than its program takes turns.
use Rattle.std.proofs.Common.{◌≡◌, ℕ, ◌-◌, ◌≤◌, List, [], ◌++◌, refl, sym, ◌∙◌, ap, subst, arith}
use Rattle.std.specs.Prelude.{length}
use Rattle.sp_words.specs.declared.kind.Style.TheVariants.{Pipe}
use Rattle.sp_words.specs.Ports.{PlainInput}
use Rattle.sp_tree.specs.Invariant.{IsProgram, outer_scope}
use Rattle.sp_tree.specs.Meaning as program
use Rattle.sp_tree.specs.Meaning.{run_program, seq}
use Rattle.sp_tree.specs.PlainProgram.{PlainProgram}
use Rattle.sp_tree.specs.Sequential.{run_all}
use Rattle.sp_tree.specs.Shape.{Shape, ran, shapes}
use Rattle.sp_tree.specs.Step as step
use Rattle.sp_tree.specs.Streams.{roomy_in}
use Rattle.sp_core.specs.History.{History}
use Rattle.sp_core.specs.Meaning as core_meaning
use Rattle.sp_core.specs.Meaning.{meaning, run_core, first_store}
use Rattle.sp_core.specs.Scope.{plainly, no_scope}
use Rattle.sp_core.specs.Shape.{shape_of}
use Rattle.sp_core.specs.Step.{Went, went, stopped, more}
use Rattle.sp_within.specs.Rounds.{rounds}
use Rattle.sp_sugar.specs.Core.{core_of}
use Rattle.sp_sugar.specs.Numbers.{written_mems}
use Rattle.sp_sugar.specs.Values.{no_sources}
use Rattle.sp_sugar.proofs.StepLemmas.{taken_apart}
use Rattle.sp_same.specs.Counts.{Count, counts_in, counts_of}
use Rattle.sp_same.proofs.Turns.{turn_falls}
use Rattle.sp_outcomes.proofs.Programs.{program_goes}
use Rattle.sp_turns.specs.Laws.{ProgramRoundsWithinTurns}
use Rattle.sp_turns.proofs.Outlines.{Outlines, Spent, spent_all, Reads}
use Rattle.sp_turns.proofs.ProgramTurns.{outline, body_counts}
use Rattle.sp_turns.proofs.CoreRounds.{Outlined, GoesAround}
use Rattle.sp_turns.proofs.NodeRounds.{node_goes}
use Rattle.sp_turns.proofs.SugarOutlines.{alone_outlined}

-- counts are read as one number of turns
read_once : (ps : Outlines) (cs ds : List Count) (k l : ℕ) → cs ≡ ds → Reads (spent_all ps) cs k → Reads (spent_all ps) ds l → k ≡ l
read_once ps cs ds k l e g h = ap (λ (s : Spent). s.0) (sym (g []) ∙ ap (λ x. spent_all ps (x ++ [])) e ∙ h [])

module _ (p : PlainProgram) (h : IsProgram p) where
  outlined : Outlined (core_of p) (core_of p).root (outline p.mems p.body)
  unfolding core_of
  outlined = alone_outlined p (core_of p) h.declarations (outer_scope p) no_sources (length (written_mems p.mems)) Pipe p.body h.typed

  -- the turns that the program takes
  turns_taken : (n : ℕ) (input : PlainInput) (outs : List ℕ) (drams : List (List ℕ)) (turns : ℕ) (shape : Shape) → seq n p input ≡ program.ended outs drams turns shape → (k : ℕ) × Reads (spent_all (outline p.mems p.body)) (counts_in shape) k × (k ≤ turns)
  unfolding seq run_program counts_in
  turns_taken n input outs drams turns shape e = go (run_program p n (program.first_store p input)) refl e
    where
      go : (w : step.Went (List Shape)) → run_program p n (program.first_store p input) ≡ w → program.outcome p n w ≡ program.ended outs drams turns shape → (k : ℕ) × Reads (spent_all (outline p.mems p.body)) (counts_in shape) k × (k ≤ turns)
      go (step.faulted kind place) f g = let no : ⊥ = cc in absurd no
      go step.more f g = let no : ⊥ = cc in absurd no
      go (step.went al left s) f g =
          let b = taken_apart step.turn (λ _. run_all p.mems (roomy_in p.mems p.body) p.body) n (program.first_store p input) al left s f in
          let fell = turn_falls b.answer n b.between (program.first_store p input) b.store b.first in
          let x = body_counts p.mems (roomy_in p.mems p.body) p.body b.between left b.store s al b.second in
          let same_shape : ran (shapes al) ≡ shape = cc in
          let same_turns : n - left ≡ turns = cc in
          (x.0, subst (λ (y : Shape). Reads (spent_all (outline p.mems p.body)) (counts_in y) x.0) same_shape x.1, omega (arith, x.2, fell.0, same_turns))

  -- a run of the core
  goes_around : (n : ℕ) (input : PlainInput) (words : List ℕ) (contents : List (List ℕ)) (x : History) → meaning plainly n (core_of p) input ≡ core_meaning.ended words contents x
      → GoesAround (core_of p) (outline p.mems p.body) (counts_of (core_of p).root (shape_of (core_of p).root x)) (rounds (core_of p).root (shape_of (core_of p).root x))
  unfolding meaning run_core
  goes_around n input words contents x e = go (run_core plainly n (core_of p) input) refl e
    where
      go : (w : Went History) → run_core plainly n (core_of p) input ≡ w → core_meaning.outcome (core_of p) w ≡ core_meaning.ended words contents x
          → GoesAround (core_of p) (outline p.mems p.body) (counts_of (core_of p).root (shape_of (core_of p).root x)) (rounds (core_of p).root (shape_of (core_of p).root x))
      go stopped f g = let no : ⊥ = cc in absurd no
      go more f g = let no : ⊥ = cc in absurd no
      go (went y t) f g =
          let same : y ≡ x = cc in
          subst (λ (z : History). GoesAround (core_of p) (outline p.mems p.body) (counts_of (core_of p).root (shape_of (core_of p).root z)) (rounds (core_of p).root (shape_of (core_of p).root z))) same
          (node_goes (core_of p) (core_of p).root (outline p.mems p.body) outlined n no_scope (first_store (core_of p) input) t y f)

  pub within_turns : ProgramRoundsWithinTurns p
  within_turns n input outs drams turns shape e words contents x f =
      let taken = turns_taken n input outs drams turns shape e in
      let core = goes_around n input words contents x f in
      let followed = program_goes p h n input outs drams turns shape e in
      let same : followed.0 ≡ x = one_end (sym followed.1 ∙ f) in
      let counts : counts_in shape ≡ counts_of (core_of p).root (shape_of (core_of p).root x) = sym followed.2 ∙ ap (λ y. counts_of (core_of p).root (shape_of (core_of p).root y)) same in
      let equal : taken.0 ≡ core.k = read_once (outline p.mems p.body) (counts_in shape) (counts_of (core_of p).root (shape_of (core_of p).root x)) taken.0 core.k counts taken.1 core.reads in
      omega (arith, taken.2, core.within, equal)
    where
      one_end : {a c : List ℕ} {b d : List (List ℕ)} {x y : History} → core_meaning.ended a b x ≡ core_meaning.ended c d y → x ≡ y
      one_end e = cc
