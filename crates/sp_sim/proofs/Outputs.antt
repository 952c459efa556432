-- The outputs of a run that is done.
use Rattle.std.proofs.Common.{◌≡◌, ℕ, ◌+◌, ◌<◌, List, [], ◌∷◌, ◌++◌, length, get_or, drop, map, count_by, refl, sym, ap, ◌∙◌, subst, arith, append_assoc, append-nil, Option, Some, None}
use Rattle.std.specs.List.{range_with_len}
use Rattle.std.proofs.lemmas.List.{ext_get_or, drop_all, drop_more, get_or_at, length-append}
use Rattle.std.proofs.lemmas.List.FromFn.{get_or-map-range_with_len, length-map-range_with_len}
use Rattle.sp_netlist.specs.Cells.{PlainCell, done_cell, dram_cell}
use Rattle.sp_words.specs.Interface.{word_count}
use Rattle.sp_netlist.specs.Rules.{is_dram, IsNetlist}
use Rattle.sp_netlist.specs.Signals.{Setting}
use Rattle.sp_netlist.specs.Cycle.{out_words, dram_lists, done_in, Ends}
use Rattle.sp_netlist.specs.Laws.{HasOneEnding}
use Rattle.sp_netlist.specs.Quiet.{HasQuietRun}
use Rattle.sp_sim.specs.declared.state.State.{State}
use Rattle.sp_sim.specs.declared.program.Program.{Program}
use Rattle.sp_sim.specs.declared.end.SimEnd.{SimEnd}
use Rattle.sp_sim.specs.declared.end.SimEnd.TheVariants.{Done, Conflict, CyclesSpent}
use Rattle.sp_sim.specs.Rows.{word_of}
use Rattle.sp_sim.specs.Memories.{Words, no_words, word_at}
use Rattle.sp_sim.specs.Standing.{HasDramLen, AreDrams}
use Rattle.sp_sim.specs.Sims.{IsSim}
use Rattle.sp_sim.specs.Progress.{IsDone}
use Rattle.sp_sim.proofs.Served.{count_push, count_split}
use Rattle.sp_sim.proofs.Runs.{over_tells}

-- the words of a memory, read one by one
all_words : (ms : List Words) (n len : ℕ) → length (get_or ms n no_words).words ≡ len → map (word_at ms n) (range_with_len 0 len) ≡ (get_or ms n no_words).words
unfolding word_at
all_words ms n len e =
    let ws = (get_or ms n no_words).words in
    let long = length-map-range_with_len (word_at ms n) 0 len in
    ext_get_or 0 (map (word_at ms n) (range_with_len 0 len)) ws (long ∙ sym e)
    (λ i l. get_or-map-range_with_len (word_at ms n) 0 len i i 0 (omega arith) (omega arith))

module _ (cells : List PlainCell) (h : IsNetlist cells) (ms : List Words) (r : AreDrams cells ms) where
  long_at : (front : List PlainCell) (x : PlainCell) (rest : List PlainCell) → cells ≡ front ++ x ∷ rest → HasDramLen ms x
  long_at front x rest e =
      let within : length front < length cells = omega (arith, ap length e, length-append front (x ∷ rest)) in
      subst (HasDramLen ms) (ap (λ xs. get_or xs (length front) (done_cell 0)) e ∙ get_or_at front x rest (done_cell 0) (length front) refl) (r.lens (length front) within)

  lists_from : (rest front : List PlainCell) → cells ≡ front ++ rest → dram_lists rest (word_at ms) ≡ map (λ m. m.words) (drop (count_by is_dram front) ms)
  lists_from [] front e =
      let all = ap (count_by is_dram) (e ∙ append-nil front) in
      sym (ap (map (λ (m : Words). m.words)) (drop_all (count_by is_dram front) ms (omega (arith, all, r.number))))
  lists_from (dram_cell dram name ty dims ∷ rest) front e =
      let k = count_by is_dram front in
      let right = h.right front (dram_cell dram name ty dims) rest e in
      let same : dram ≡ k = right.0 in
      let within : k < length ms = omega (arith, count_split is_dram cells front (dram_cell dram name ty dims) rest e refl, r.number) in
      let head = all_words ms dram (word_count dims) (long_at front (dram_cell dram name ty dims) rest e) ∙ ap (λ n. (get_or ms n no_words).words) same in
      let next : count_by is_dram (front ++ dram_cell dram name ty dims ∷ []) ≡ k + 1 = count_push is_dram front (dram_cell dram name ty dims) in
      let tail = lists_from rest (front ++ dram_cell dram name ty dims ∷ []) (e ∙ sym (append_assoc front (dram_cell dram name ty dims ∷ []) rest)) ∙ ap (λ n. map (λ (m : Words). m.words) (drop n ms)) next in
      ap (λ ws. ws ∷ dram_lists rest (word_at ms)) head ∙ ap (λ wss. (get_or ms k no_words).words ∷ wss) tail
      ∙ sym (ap (map (λ (m : Words). m.words)) (drop_more ms k no_words within))
  lists_from (x ∷ rest) front e = lists_from rest (front ++ x ∷ []) (e ∙ sym (append_assoc front (x ∷ []) rest)) ∙ ap (λ n. map (λ (m : Words). m.words) (drop n ms)) (count_push is_dram front x ∙ omega arith)

  pub contents_are : dram_lists cells (word_at ms) ≡ map (λ m. m.words) ms
  contents_are = lists_from cells [] refl

pub outputs_tell : HasOneEnding → HasQuietRun → (g : Setting) (program : Program) (cycle : ℕ) (state : State) (end : Option SimEnd) → IsSim g program cycle state end → IsDone end
    → (outs : List ℕ) (drams : List (List ℕ)) → outs ≡ out_words g.cells (word_of state.row) → drams ≡ map (λ m. m.words) state.drams.items → Ends g cycle (done_in cycle outs drams)
outputs_tell laws quiet g program cycle state (Some (Done cycles)) sim d outs drams eo ed =
    let o = over_tells laws quiet g sim.netlist cycle sim.went_on (λ s q. (sim.ended s q).1.found) in
    let at = (sim.ended o.0 o.1).1 in
    let same_outs : out_words g.cells (o.0.net cycle) ≡ outs = ap (out_words g.cells) (sym at.words) ∙ sym eo in
    let same_drams : dram_lists g.cells (o.0.dram cycle) ≡ drams = ap (dram_lists g.cells) (sym at.stands.drams) ∙ contents_are g.cells sim.netlist state.drams.items sim.is_state.drams ∙ sym ed in
    subst (λ ds. Ends g cycle (done_in cycle outs ds)) same_drams (subst (λ os. Ends g cycle (done_in cycle os (dram_lists g.cells (o.0.dram cycle)))) same_outs o.2)
outputs_tell laws quiet g program cycle state (Some (Conflict at bank port)) sim d outs drams eo ed = absurd d
outputs_tell laws quiet g program cycle state (Some CyclesSpent) sim d outs drams eo ed = absurd d
outputs_tell laws quiet g program cycle state None sim d outs drams eo ed = absurd d
