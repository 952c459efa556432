-- How the worked frame ends.
use Rattle.std.proofs.Common.{◌≡◌, ◌≢◌, ℕ, zero, suc, ◌<◌, ◌≤◌, List, [], ◌∷◌, ◌++◌, length, map, slice_index, codes, refl, sym, ap, subst, ◌∙◌, arith}
use Rattle.sp_words.specs.Ports.{PlainPort}
use Rattle.sp_netlist.specs.Cells.{PlainCell, done_cell}
use Rattle.sp_netlist.specs.Cycle.{done_in, dram_lists, Ends}
use Rattle.sp_netlist.specs.Draft.{Draft}
use Rattle.sp_netlist.specs.Laws.{HasOneRun}
use Rattle.sp_netlist.specs.Ports.{ports_of}
use Rattle.sp_netlist.specs.Rules.{IsNetlist}
use Rattle.sp_netlist.specs.Signals.{Setting, Signals, IsRun, Holds}
use Rattle.sp_gates.specs.Bits.{IsOne}
use Rattle.sp_gates.specs.Grows.{AddsGates, Fills}
use Rattle.sp_gates.specs.Runs.{RunsOn}
use Rattle.sp_gates.proofs.Running.{runs_earlier}
use Rattle.sp_frames.specs.Example.{int_port}
use Rattle.sp_frames.specs.Framed.{front_cells, out_cells, IsFramed}
use Rattle.sp_frames.proofs.Framing.{gates_inside, gates_share_none}
use Rattle.sp_frames.specs.Ports.{HaveNets, HaveNoDims}
use Rattle.sp_frames.specs.Laws.{FramesRight, FramesEnd, IsFirst, PortLaws}

-- the same nets stand for a port of another name
pub other_name : (d : Draft) (a b : List ℕ) (nets : List ℕ) → HaveNets d (int_port a ∷ []) nets → HaveNets d (int_port b ∷ []) nets
other_name d a b [] h = absurd h
other_name d a b (n ∷ []) h = h
other_name d a b (n ∷ m ∷ nets) h = absurd h.1

pub renamed : (d : Draft) (ports others : List PlainPort) (a b : List ℕ) (nets : List ℕ) → ports ≡ int_port a ∷ [] → others ≡ int_port b ∷ [] → HaveNets d ports nets → HaveNets d others nets
renamed d ports others a b nets e f h = subst (λ ps. HaveNets d ps nets) (sym f) (other_name d a b nets (subst (λ ps. HaveNets d ps nets) e h))

lone : (nets : List ℕ) (f : ℕ → ℕ) → length nets ≡ 1 → map f nets ≡ f (slice_index nets 0) ∷ []
lone [] f e = absurd (omega (arith, e))
lone (n ∷ []) f e = refl
lone (n ∷ m ∷ nets) f e = absurd (omega (arith, e))

-- a register that begins with 0 and is set in the first cycle
first_one : (own enable : ℕ → ℕ) → Holds own 0 enable enable → ((t : ℕ) → enable t ≡ 1) → (own 1 ≡ 1) × ((t : ℕ) → t < 1 → own t ≢ 1)
first_one own enable h one = (h.1 0 ∙ rw (one 0) refl, before)
  where
    before : (t : ℕ) → t < 1 → own t ≢ 1
    before zero l e = let z = h.0 in absurd (omega (arith, z, e))
    before (suc t) l e = absurd (omega (arith, l))

module _ (laws : PortLaws) (frames : FramesRight) (end : FramesEnd) (one_run : HasOneRun)
    (begun mid d : Draft) (args outs : List PlainPort) (nets : List ℕ) (one done : ℕ) (cells : List PlainCell)
    (is_args : args ≡ int_port (codes "x") ∷ []) (is_outs : outs ≡ int_port (codes "y") ∷ []) (first : begun.cells ≡ front_cells args nets []) (many : length nets ≡ length args)
    (f : Fills begun mid []) (g : Fills mid d []) (gates : AddsGates begun d) (stands : cells ≡ d.cells ++ out_cells outs nets ++ done_cell done ∷ [])
    (is_one : IsOne mid one) (holds : (s : Signals) → RunsOn s d.cells → Holds (λ t. s.net t done) 0 (λ t. s.net t one) (λ t. s.net t one)) (netlist : IsNetlist cells) where
  for_each_out : length nets ≡ length outs
  for_each_out = many ∙ ap length is_args ∙ sym (ap length is_outs)

  framed : IsFramed cells args nets [] (gates_inside begun d gates).added outs nets done
  framed = laws.framed begun d args nets [] outs nets done cells first (gates_inside begun d gates) stands many for_each_out

  pub worked_ports : ports_of cells ≡ record { args = int_port (codes "x") ∷ []; outs = int_port (codes "y") ∷ []; drams = [] }
  worked_ports =
      (frames cells args nets [] (gates_inside begun d gates).added outs nets done framed).ports (subst no_dims (sym is_args) (refl, tt)) (subst no_dims (sym is_outs) (refl, tt)) ∙ rw (is_args, is_outs) refl
    where
      no_dims : List PlainPort → Type 0
      no_dims ports = HaveNoDims ports

  begins : (h : Setting) (s : Signals) → h.cells ≡ cells → IsRun h s → IsFirst s done 1
  begins h s same run =
      let on = (laws.runs_on d outs nets done h s (same ∙ stands) run).0 in
      let both = first_one (λ t. s.net t done) (λ t. s.net t one) (holds s on) (is_one.always s (runs_earlier mid d s g.grows on)) in
      record { is_one = both.0; not_before = both.1 }

  pub worked_ends : (h : Setting) (last : ℕ) → h.cells ≡ cells → 1 ≤ last → Ends h last (done_in 1 (slice_index h.args 0 ∷ []) [])
  worked_ends h last same within =
      let is_netlist : IsNetlist h.cells = subst IsNetlist (sym same) netlist in
      let run = (one_run h is_netlist).some_run in
      let s = run.0 in
      let here : IsFramed h.cells args nets [] (gates_inside begun d gates).added outs nets done = subst (λ cs. IsFramed cs args nets [] (gates_inside begun d gates).added outs nets done) (sym same) framed in
      let ends = (end h s args nets [] (gates_inside begun d gates).added outs nets done 1 last here run.1 (λ t l. gates_share_none begun d gates h.cells args nets [] outs nets done here (s.net t)) (begins h s same run.1) within).of_netlist is_netlist in
      let single : length nets ≡ 1 = many ∙ ap length is_args in
      let word = (frames h.cells args nets [] (gates_inside begun d gates).added outs nets done here).args_stand h s refl run.1 1 0 (omega (arith, single)) in
      let no_dram : dram_lists h.cells (s.dram 1) ≡ [] = (frames h.cells args nets [] (gates_inside begun d gates).added outs nets done here).drams_read (s.dram 1) in
      subst (λ words. Ends h last (done_in 1 words [])) (lone nets (s.net 1) single ∙ ap (λ n. n ∷ []) word) (subst (λ drams. Ends h last (done_in 1 (map (s.net 1) nets) drams)) no_dram ends)
