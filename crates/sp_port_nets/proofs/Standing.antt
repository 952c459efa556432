-- The ports of a core, and the words with which its arguments begin.
use Rattle.std.proofs.Common.{◌≡◌, ℕ, ◌<◌, true, ◌&&◌, cond, IsTrue, List, [], ◌∷◌, length, slice_index, slice_index_or, Some, sym, ap, subst, ◌∙◌, arith}
use Rattle.std.specs.List.{filter}
use Rattle.std.proofs.lemmas.Bool.{and_parts, lt-ltb}
use Rattle.sp_words.specs.declared.kind.Kind.TheVariants.{Dram, ArgIn}
use Rattle.sp_words.specs.Memory.{words}
use Rattle.sp_words.specs.Ports.{PlainInput}
use Rattle.sp_core.specs.Declarations.{mem, kind_of}
use Rattle.sp_core.specs.Invariant.{IsCore}
use Rattle.sp_core.specs.Meaning.{is_arg, is_out, args_of, first_store}
use Rattle.sp_core.specs.MemoryRules.{are_port_names, names_of, are_ports_of, are_ports_right}
use Rattle.sp_core.specs.PlainCore.{PlainMem, PlainCore}
use Rattle.sp_core.specs.Store.{words_of}
use Rattle.sp_port_nets.specs.Laws.{IsPortAt, ArePorts}
use Rattle.sp_port_nets.specs.Nets.{nets_of_arguments}
use Rattle.sp_port_nets.proofs.Held.{held_at}
use Rattle.sp_port_nets.proofs.Numbers.{place_of}
use Rattle.sp_port_nets.proofs.Ported.{arg_is, are_ports}

-- the parts of the rules of ports
module _ (core : PlainCore) (right : IsTrue (are_ports_right core)) where
  rules_of_names : (are_port_names (names_of core.ports.args) ≡ true) × ((are_port_names (names_of core.ports.outs) && are_port_names (names_of core.ports.drams)) ≡ true)
  rules_of_names = and_parts _ _ (and_parts _ _ right).0

  rules_of_memories : (are_ports_of core.ports.args (filter (λ (m : PlainMem). is_arg m.kind) core.mems) ≡ true) × (are_ports_of core.ports.outs (filter (λ (m : PlainMem). is_out m.kind) core.mems) ≡ true)
  rules_of_memories = and_parts _ _ (and_parts _ _ right).1

  pub arg_names : are_port_names (names_of core.ports.args) ≡ true
  arg_names = rules_of_names.0

  pub out_names : are_port_names (names_of core.ports.outs) ≡ true
  out_names = (and_parts _ _ rules_of_names.1).0

  pub args_stand : are_ports_of core.ports.args (filter (λ (m : PlainMem). is_arg m.kind) core.mems) ≡ true
  args_stand = rules_of_memories.0

  pub outs_stand : are_ports_of core.ports.outs (filter (λ (m : PlainMem). is_out m.kind) core.mems) ≡ true
  outs_stand = rules_of_memories.1

module _ (core : PlainCore) (right : IsCore core) where
  pub args_are_ports : ArePorts core ArgIn core.ports.args (args_of core)
  args_are_ports = are_ports core is_arg ArgIn arg_is core.ports.args (args_stand core right.ports) (arg_names core right.ports)

  pub arg_at : (m : ℕ) → m < length core.mems → (mem core m).kind ≡ ArgIn
      → (k : ℕ) × IsPortAt core ArgIn core.ports.args (args_of core) k m × ((ports : List ℕ) → slice_index (nets_of_arguments core.mems ports) m ≡ slice_index ports k)
  arg_at m l e =
      let p = place_of core.mems 0 m l (ap is_arg e) in
      let at : slice_index (args_of core) p.place ≡ m = (let n = p.number in omega (arith, n)) in
      (p.place, subst (IsPortAt core ArgIn core.ports.args (args_of core) p.place) at (args_are_ports.at p.place (let n = p.within in let q = args_are_ports.each in omega (arith, n, q))), p.net)

  pub stands : (input : PlainInput) → length input.args ≡ length core.ports.args → (k : ℕ) → k < length core.ports.args
      → first_store core input (slice_index (args_of core) k) ≡ Some (words (slice_index input.args k ∷ []))
  stands input each k l =
      held_at is_arg core.mems 0 k input.args _ (let q = args_are_ports.each in omega (arith, q, l)) (omega (arith, each, l))

  pub have_words : (input : PlainInput) (ports : List ℕ) (net : ℕ → ℕ → ℕ) → length ports ≡ length core.ports.args → length input.args ≡ length core.ports.args
      → ((t i : ℕ) → i < length ports → net t (slice_index ports i) ≡ slice_index input.args i)
      → (m : ℕ) → m < length core.mems → kind_of core m ≡ ArgIn → (t : ℕ) → net t (slice_index (nets_of_arguments core.mems ports) m) ≡ slice_index_or (words_of (first_store core input m)) 0 0
  have_words input ports net many each given m l e t =
      let a = arg_at m l (sym (ap (λ b. cond b (mem core m).kind Dram) (lt-ltb m (length core.mems) l)) ∙ e) in
      let k = a.0 in
      let place = a.1.place in
      let held = subst (λ n. first_store core input n ≡ Some (words (slice_index input.args k ∷ []))) a.1.number (stands input each k place) in
      ap (net t) (a.2 ports) ∙ given t k (omega (arith, place, many)) ∙ sym (ap (λ c. slice_index_or (words_of c) 0 0) held)
