-- The memory of a transfer is an SRAM or a line buffer, by the rules of cores.
use Rattle.std.proofs.Common.{◌≡◌, ℕ, ◌+◌, ◌⊎◌, inl, inr, Bool, true, false, ◌||◌, nat_lt, List, [], ◌∷◌, ◌++◌, length, Option, if◌then◌else◌, refl, sym, ap, subst}
use Rattle.std.proofs.lemmas.Bool.{and_parts, true≢false}
use Rattle.sp_words.specs.declared.kind.Kind.{Kind}
use Rattle.sp_words.specs.declared.kind.Kind.TheVariants.{Reg, Sram, Fifo, LineBuf, Dram, ArgIn, ArgOut}
use Rattle.sp_core.specs.declared.node.SparseKind.{SparseKind}
use Rattle.sp_core.specs.declared.node.SparseKind.TheVariants.{Gather, Scatter, WideLoad, WideStore}
use Rattle.sp_core.specs.Around.{Around, nothing, within, is_port_kind, is_usable}
use Rattle.sp_core.specs.Declarations.{mem, kind_of, is_among}
use Rattle.sp_core.specs.Invariant.{owned_in, IsRight, AreRight}
use Rattle.sp_core.specs.NodeRules.{is_sram, is_line, is_slice_right, is_sram_here, fits_sram, fits_line, is_sparse_right, with_state, is_node_right}
use Rattle.sp_core.specs.Numbering.{counters_size, spans_size, number_count}
use Rattle.sp_core.specs.PlainCore.{PlainOp, PlainCounter, PlainSpan, single, range, PlainNode, PlainStages, inner, outer, fsm, branch, load, store, sparse, no_stage, more_stage, PlainCore}
use Rattle.sp_tree_events.specs.ToldItems.{transfer, TransferHas, CountersHave, SpansHave, NodeHas, StagesHave}
use Rattle.sp_tree_events.specs.ToldLaws.{IsMoved, TransfersMove}

-- no transfer stands among operations
no_counter : (counters : List PlainCounter) (n x r m : ℕ) → CountersHave counters n x (transfer r m) → ⊥
no_counter [] n x r m h = h
no_counter (c ∷ counters) n x r m (inl (inl h)) = h
no_counter (c ∷ counters) n x r m (inl (inr h)) = h
no_counter (c ∷ counters) n x r m (inr h) = no_counter counters (n + (length c.from + length c.until)) x r m h

no_span : (spans : List PlainSpan) (n x r m : ℕ) → SpansHave spans n x (transfer r m) → ⊥
no_span [] n x r m h = h
no_span (single ops ∷ spans) n x r m (inl h) = h
no_span (single ops ∷ spans) n x r m (inr h) = no_span spans (n + length ops) x r m h
no_span (range a b ∷ spans) n x r m (inl (inl h)) = h
no_span (range a b ∷ spans) n x r m (inl (inr h)) = h
no_span (range a b ∷ spans) n x r m (inr h) = no_span spans (n + (length a + length b)) x r m h

sram_moved : (k : Kind) → is_sram k ≡ true → IsMoved k
sram_moved Sram h = tt
sram_moved LineBuf h = tt
sram_moved Reg h = absurd (true≢false (sym h))
sram_moved Fifo h = absurd (true≢false (sym h))
sram_moved Dram h = absurd (true≢false (sym h))
sram_moved ArgIn h = absurd (true≢false (sym h))
sram_moved ArgOut h = absurd (true≢false (sym h))

line_moved : (k : Kind) → is_line k ≡ true → IsMoved k
line_moved Sram h = tt
line_moved LineBuf h = tt
line_moved Reg h = absurd (true≢false (sym h))
line_moved Fifo h = absurd (true≢false (sym h))
line_moved Dram h = absurd (true≢false (sym h))
line_moved ArgIn h = absurd (true≢false (sym h))
line_moved ArgOut h = absurd (true≢false (sym h))

from_or : (a b : Bool) → (a || b) ≡ true → (a ≡ true) ⊎ (b ≡ true)
from_or true b h = inl refl
from_or false b h = inr h

module _ (core : PlainCore) where
  own_kind : (m : ℕ) → nat_lt m (length core.mems) ≡ true → kind_of core m ≡ (mem core m).kind
  own_kind m h = ap (λ b. if b then (mem core m).kind else Dram) h

  usable_moved : (around : Around) (m : ℕ) → is_usable core around m ≡ true → IsMoved (mem core m).kind → IsMoved (kind_of core m)
  usable_moved around m h is = subst IsMoved (sym (own_kind m (and_parts (nat_lt m (length core.mems)) (is_port_kind (mem core m).kind || is_among m around.owned) h).0)) is

  here_moved : (around : Around) (r m : ℕ) → is_sram_here core around r m ≡ true → IsMoved (kind_of core m)
  here_moved around r m h =
      let a = and_parts _ _ h in
      let b = and_parts (is_usable core around m) (is_sram (mem core m).kind) a.0 in
      usable_moved around m b.0 (sram_moved (mem core m).kind b.1)

  sram_fits : (around : Around) (r m : ℕ) (spans : List PlainSpan) → fits_sram core around r m spans ≡ true → IsMoved (kind_of core m)
  sram_fits around r m spans h = here_moved around r m (and_parts (is_sram_here core around r m) _ h).0

  line_fits : (around : Around) (r m : ℕ) (spans : List PlainSpan) → fits_line core around r m spans ≡ true → IsMoved (kind_of core m)
  line_fits around r m spans h =
      let a = and_parts _ _ h in
      let b = and_parts _ _ a.0 in
      let c = and_parts (is_usable core around m) (is_line (mem core m).kind) b.0 in
      usable_moved around m c.0 (line_moved (mem core m).kind c.1)

  sparse_moved : (around : Around) (kind : SparseKind) (r m : ℕ) (index : Option ℕ) (spans : List PlainSpan) (count : List PlainOp) (par : ℕ) → is_sparse_right core around kind r m index spans count par ≡ true → IsMoved (kind_of core m)
  sparse_moved around Gather r m index spans count par h = let a = and_parts _ _ h in let b = and_parts _ _ a.0 in here_moved around r m (and_parts (is_sram_here core around r m) _ b.1).0
  sparse_moved around Scatter r m index spans count par h = let a = and_parts _ _ h in let b = and_parts _ _ a.0 in here_moved around r m (and_parts (is_sram_here core around r m) _ b.1).0
  sparse_moved around WideLoad r m index spans count par h = let a = and_parts _ _ h in sram_fits around r m spans (and_parts (is_slice_right core around r spans) (fits_sram core around r m spans) a.0).1
  sparse_moved around WideStore r m index spans count par h = let a = and_parts _ _ h in sram_fits around r m spans (and_parts (is_slice_right core around r spans) (fits_sram core around r m spans) a.0).1

  at_transfer : (n r m x q k : ℕ) → TransferHas n r m x (transfer q k) → IsMoved (kind_of core m) → IsMoved (kind_of core k)
  at_transfer n r m x q k h is = subst (λ y. IsMoved (kind_of core y)) (sym h.2) is

  load_moves : (r m : ℕ) (spans : List PlainSpan) (around : Around) (earlier : List ℕ) → IsRight core around earlier (load r m spans) → IsMoved (kind_of core m)
  load_moves r m spans around earlier right =
      let a = and_parts (is_node_right core around (load r m spans)) _ right in
      let b = and_parts (is_slice_right core around r spans) (fits_sram core around r m spans || fits_line core around r m spans) a.0 in
      by (from_or (fits_sram core around r m spans) (fits_line core around r m spans) b.1)
    where
      by : (fits_sram core around r m spans ≡ true) ⊎ (fits_line core around r m spans ≡ true) → IsMoved (kind_of core m)
      by (inl h) = sram_fits around r m spans h
      by (inr h) = line_fits around r m spans h

  store_moves : (r m : ℕ) (spans : List PlainSpan) (around : Around) (earlier : List ℕ) → IsRight core around earlier (store r m spans) → IsMoved (kind_of core m)
  store_moves r m spans around earlier right =
      let a = and_parts (is_node_right core around (store r m spans)) _ right in
      sram_fits around r m spans (and_parts (is_slice_right core around r spans) (fits_sram core around r m spans) a.0).1

  mutual
    node_moves : (node : PlainNode) (around : Around) (earlier : List ℕ) (n x q k : ℕ) → IsRight core around earlier node → NodeHas node n x (transfer q k) → IsMoved (kind_of core k)
    node_moves (inner counters owned ops comb) around earlier n x q k right (inl h) = absurd (no_counter counters n x q k h)
    node_moves (inner counters owned ops comb) around earlier n x q k right (inr h) = absurd h
    node_moves (outer counters style owned stages) around earlier n x q k right (inl h) = absurd (no_counter counters n x q k h)
    node_moves (outer counters style owned stages) around earlier n x q k right (inr h) = stages_move stages (within around counters owned) (earlier ++ owned) (n + counters_size counters) x q k right.1 h
    node_moves (fsm start state test body next) around earlier n x q k right (inl (inl h)) = absurd h
    node_moves (fsm start state test body next) around earlier n x q k right (inl (inr h)) = absurd h
    node_moves (fsm start state test body next) around earlier n x q k right (inr (inl h)) = node_moves body (with_state core around state) (earlier ++ state ∷ []) (n + (length start + length test)) x q k right.1 h
    node_moves (fsm start state test body next) around earlier n x q k right (inr (inr h)) = absurd h
    node_moves (branch test first second) around earlier n x q k right (inl h) = absurd h
    node_moves (branch test first second) around earlier n x q k right (inr (inl h)) = node_moves first around earlier (n + length test) x q k right.1 h
    node_moves (branch test first second) around earlier n x q k right (inr (inr h)) = node_moves second around (earlier ++ owned_in first) (n + (length test + number_count first)) x q k right.2 h
    node_moves (load r m spans) around earlier n x q k right (inl h) = absurd (no_span spans n x q k h)
    node_moves (load r m spans) around earlier n x q k right (inr h) = at_transfer (n + spans_size spans) r m x q k h (load_moves r m spans around earlier right)
    node_moves (store r m spans) around earlier n x q k right (inl h) = absurd (no_span spans n x q k h)
    node_moves (store r m spans) around earlier n x q k right (inr h) = at_transfer (n + spans_size spans) r m x q k h (store_moves r m spans around earlier right)
    node_moves (sparse kind r m places spans count par) around earlier n x q k right (inl h) = absurd (no_span spans n x q k h)
    node_moves (sparse kind r m places spans count par) around earlier n x q k right (inr (inl h)) = absurd h
    node_moves (sparse kind r m places spans count par) around earlier n x q k right (inr (inr h)) =
        at_transfer (n + (spans_size spans + length count)) r m x q k h (sparse_moved around kind r m places spans count par (and_parts (is_sparse_right core around kind r m places spans count par) _ right).0)

    stages_move : (stages : PlainStages) (around : Around) (earlier : List ℕ) (n x q k : ℕ) → AreRight core around earlier stages → StagesHave stages n x (transfer q k) → IsMoved (kind_of core k)
    stages_move no_stage around earlier n x q k right h = absurd h
    stages_move (more_stage first last comb node rest) around earlier n x q k right (inl h) = node_moves node around earlier n x q k right.0 h
    stages_move (more_stage first last comb node rest) around earlier n x q k right (inr h) = stages_move rest around (earlier ++ owned_in node) (n + number_count node) x q k right.1 h

pub transfers_move : (core : PlainCore) → TransfersMove core
transfers_move core w x r m h = node_moves core core.root nothing [] 0 x r m w.nodes h
