-- How gathers and scatters go, word by word.
use Rattle.std.proofs.Common.{◌≡◌, ℕ, true, false, List, [], ◌∷◌, ◌∙◌}
use Rattle.std.specs.Prelude.{nat_lt}
use Rattle.sp_words.specs.Interface.{word_count}
use Rattle.sp_tree.specs.declared.statement.FaultKind.TheVariants.{Bounds, DramBounds}
use Rattle.sp_tree.specs.Accesses.{read_cell, write_cell, read_word, write_word}
use Rattle.sp_tree.specs.Elements.{index_value, natural, is_below, numbers_below}
use Rattle.sp_tree.specs.Expressions.{dims, word}
use Rattle.sp_tree.specs.PlainExpression.{PlainExpr}
use Rattle.sp_tree.specs.PlainProgram.{PlainMem}
use Rattle.sp_tree.specs.PlainStatement as plain
use Rattle.sp_tree.specs.Sequential.{run, run_kind}
use Rattle.sp_tree.specs.Shape.{moved}
use Rattle.sp_tree.specs.Step.{went, faulted, ◌>>◌, pure, turn, in_order}
use Rattle.sp_tree.specs.Store.{Store}
use Rattle.sp_seq.specs.declared.state.Stop.{Stop}
use Rattle.sp_seq.specs.Moving.{place_at, gathered, scattered}
use Rattle.sp_seq.specs.States.{halted}
use Rattle.sp_seq.proofs.StepLemmas.{bind_went, bind_halted, ensure_true, ensure_false}

module _ (mems : List PlainMem) (place sram dram places k left : ℕ) (s : Store) where
  module _ (held : nat_lt k (word_count (dims mems places)) ≡ true) where
    pub place_halted : (stop : Stop) → read_cell places k place left s ≡ halted stop → place_at mems place sram dram places k left s ≡ halted stop
    place_halted stop e = ensure_true Bounds place _ left s _ held ∙ bind_halted (read_cell places k place) _ left s stop e

    pub place_outside : (w : ℕ) → read_cell places k place left s ≡ went w left s → is_below (index_value w) (word_count (dims mems dram)) ≡ false → place_at mems place sram dram places k left s ≡ faulted DramBounds place
    place_outside w e f = ensure_true Bounds place _ left s _ held ∙ bind_went (read_cell places k place) _ left s w left s e ∙ ensure_false DramBounds place (pure (natural (index_value w))) left s _ f

    pub place_went : (w : ℕ) → read_cell places k place left s ≡ went w left s → is_below (index_value w) (word_count (dims mems dram)) ≡ true → place_at mems place sram dram places k left s ≡ went (natural (index_value w)) left s
    unfolding pure
    place_went w e f = ensure_true Bounds place _ left s _ held ∙ bind_went (read_cell places k place) _ left s w left s e ∙ ensure_true DramBounds place (pure (natural (index_value w))) left s _ f

  pub place_missing : nat_lt k (word_count (dims mems places)) ≡ false → place_at mems place sram dram places k left s ≡ faulted Bounds place
  place_missing e = ensure_false Bounds place _ left s _ e

  pub gathered_halted : (stop : Stop) → place_at mems place sram dram places k left s ≡ halted stop → gathered mems place sram dram places k left s ≡ halted stop
  gathered_halted stop e = bind_halted (place_at mems place sram dram places k) _ left s stop e

  pub scattered_halted : (stop : Stop) → place_at mems place sram dram places k left s ≡ halted stop → scattered mems place sram dram places k left s ≡ halted stop
  scattered_halted stop e = bind_halted (place_at mems place sram dram places k) _ left s stop e

  module _ (at : ℕ) (e : place_at mems place sram dram places k left s ≡ went at left s) where
    pub gathered_outside : nat_lt k (word_count (dims mems sram)) ≡ false → gathered mems place sram dram places k left s ≡ faulted Bounds place
    gathered_outside f = bind_went (place_at mems place sram dram places k) _ left s at left s e ∙ ensure_false Bounds place _ left s _ f

    pub scattered_outside : nat_lt k (word_count (dims mems sram)) ≡ false → scattered mems place sram dram places k left s ≡ faulted Bounds place
    scattered_outside f = bind_went (place_at mems place sram dram places k) _ left s at left s e ∙ ensure_false Bounds place _ left s _ f

    module _ (inside : nat_lt k (word_count (dims mems sram)) ≡ true) (w : ℕ) where
      gathered_read : read_word dram at left s ≡ went w left s → gathered mems place sram dram places k left s ≡ (turn >> write_cell sram k w) left s
      gathered_read f =
          bind_went (place_at mems place sram dram places k) _ left s at left s e ∙ ensure_true Bounds place _ left s _ inside ∙ bind_went (read_word dram at) _ left s w left s f

      pub gathered_spent : (stop : Stop) → read_word dram at left s ≡ went w left s → turn left s ≡ halted stop → gathered mems place sram dram places k left s ≡ halted stop
      gathered_spent stop f g = gathered_read f ∙ bind_halted turn _ left s stop g

      pub gathered_went : (l : ℕ) (t : Store) (n : ℕ) (u : Store) → read_word dram at left s ≡ went w left s → turn left s ≡ went tt l t → write_cell sram k w l t ≡ went tt n u → gathered mems place sram dram places k left s ≡ went tt n u
      gathered_went l t n u f g h = gathered_read f ∙ bind_went turn _ left s tt l t g ∙ h

      scattered_read : read_cell sram k place left s ≡ went w left s → scattered mems place sram dram places k left s ≡ (turn >> write_word dram at w) left s
      scattered_read f =
          bind_went (place_at mems place sram dram places k) _ left s at left s e ∙ ensure_true Bounds place _ left s _ inside ∙ bind_went (read_cell sram k place) _ left s w left s f

      pub scattered_spent : (stop : Stop) → read_cell sram k place left s ≡ went w left s → turn left s ≡ halted stop → scattered mems place sram dram places k left s ≡ halted stop
      scattered_spent stop f g = scattered_read f ∙ bind_halted turn _ left s stop g

      pub scattered_went : (l : ℕ) (t : Store) (n : ℕ) (u : Store) → read_cell sram k place left s ≡ went w left s → turn left s ≡ went tt l t → write_word dram at w l t ≡ went tt n u → scattered mems place sram dram places k left s ≡ went tt n u
      scattered_went l t n u f g h = scattered_read f ∙ bind_went turn _ left s tt l t g ∙ h

    pub scattered_unread : nat_lt k (word_count (dims mems sram)) ≡ true → (stop : Stop) → read_cell sram k place left s ≡ halted stop → scattered mems place sram dram places k left s ≡ halted stop
    scattered_unread inside stop f =
        bind_went (place_at mems place sram dram places k) _ left s at left s e ∙ ensure_true Bounds place _ left s _ inside ∙ bind_halted (read_cell sram k place) _ left s stop f

-- the whole
module _ (mems : List PlainMem) (roomy : List ℕ) (place left : ℕ) (s : Store) (sram dram places : ℕ) (e : PlainExpr) where
  pub gather_halted : (stop : Stop) → word mems e left s ≡ halted stop → run_kind mems roomy (plain.gather sram dram places e) place left s ≡ halted stop
  unfolding run
  gather_halted stop r = bind_halted (word mems e) _ left s stop r

  pub scatter_halted : (stop : Stop) → word mems e left s ≡ halted stop → run_kind mems roomy (plain.scatter dram places e sram) place left s ≡ halted stop
  unfolding run
  scatter_halted stop r = bind_halted (word mems e) _ left s stop r

  module _ (w l : ℕ) (t : Store) (r : word mems e left s ≡ went w l t) where
    pub gather_stopped : (stop : Stop) → in_order (gathered mems place sram dram places) (numbers_below (natural (index_value w))) l t ≡ halted stop → run_kind mems roomy (plain.gather sram dram places e) place left s ≡ halted stop
    unfolding run
    gather_stopped stop q = bind_went (word mems e) _ left s w l t r ∙ bind_halted (in_order (gathered mems place sram dram places) (numbers_below (natural (index_value w)))) _ l t stop q

    pub scatter_stopped : (stop : Stop) → in_order (scattered mems place sram dram places) (numbers_below (natural (index_value w))) l t ≡ halted stop → run_kind mems roomy (plain.scatter dram places e sram) place left s ≡ halted stop
    unfolding run
    scatter_stopped stop q = bind_went (word mems e) _ left s w l t r ∙ bind_halted (in_order (scattered mems place sram dram places) (numbers_below (natural (index_value w)))) _ l t stop q

    pub gather_went : (done : List (Unit {0})) (n : ℕ) (u : Store) → in_order (gathered mems place sram dram places) (numbers_below (natural (index_value w))) l t ≡ went done n u
        → run_kind mems roomy (plain.gather sram dram places e) place left s ≡ went (moved (natural (index_value w) ∷ []) ∷ []) n u
    unfolding run pure
    gather_went done n u q = bind_went (word mems e) _ left s w l t r ∙ bind_went (in_order (gathered mems place sram dram places) (numbers_below (natural (index_value w)))) _ l t done n u q

    pub scatter_went : (done : List (Unit {0})) (n : ℕ) (u : Store) → in_order (scattered mems place sram dram places) (numbers_below (natural (index_value w))) l t ≡ went done n u
        → run_kind mems roomy (plain.scatter dram places e sram) place left s ≡ went (moved (natural (index_value w) ∷ []) ∷ []) n u
    unfolding run pure
    scatter_went done n u q = bind_went (word mems e) _ left s w l t r ∙ bind_went (in_order (scattered mems place sram dram places) (numbers_below (natural (index_value w)))) _ l t done n u q
