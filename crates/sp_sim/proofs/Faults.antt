-- The first port that shows that an input doesn't fit.
use Rattle.std.proofs.Common.{◌≡◌, ℕ, ◌+◌, ◌<◌, ◌≤◌, List, length, get_or, map, refl, sym, ap, ◌∙◌, arith, ⊎_elim}
use Rattle.std.proofs.lemmas.Bool.{cases_lt}
use Rattle.std.proofs.lemmas.List.{get_or-map}
use Rattle.sp_words.specs.declared.interface.PortDecl.{PortDecl}
use Rattle.sp_words.specs.Ports.{PlainPorts, plain_port}
use Rattle.sp_netlist.specs.Refusals.{IsLeast}
use Rattle.sp_sim.specs.Given.{no_port, port_at, ArgGiven, DramGiven, InputFault, bad_arg, more_args, bad_dram, more_drams, NoFault}

module _ (ports : PlainPorts) (args : List ℕ) (drams : List (List ℕ)) where
  pub fault_arg : (n : ℕ) → n < length ports.args → (ArgGiven ports.args args n → ⊥) → ((m : ℕ) → m < n → ArgGiven ports.args args m) → IsLeast (InputFault ports args drams) n
  fault_arg n l none before = record { holds = bad_arg l none; least = least }
    where
      least : (m : ℕ) → InputFault ports args drams m → n ≤ m
      least m (bad_arg k bad) = ⊎_elim (λ low. absurd (bad (before m low))) (λ high. high) (cases_lt m n)
      least m (more_args e k) = omega (arith, e, l)
      least m (bad_dram d e k bad) = omega (arith, e, l)
      least m (more_drams e k) = omega (arith, e, l)

  module _ (all : (m : ℕ) → m < length ports.args → ArgGiven ports.args args m) where
    pub fault_args : length ports.args < length args → IsLeast (InputFault ports args drams) (length ports.args)
    fault_args more = record { holds = more_args refl more; least = least }
      where
        least : (m : ℕ) → InputFault ports args drams m → length ports.args ≤ m
        least m (bad_arg k bad) = absurd (bad (all m k))
        least m (more_args e k) = omega (arith, e)
        least m (bad_dram d e k bad) = omega (arith, e)
        least m (more_drams e k) = omega (arith, e)

    module _ (few : length args ≤ length ports.args) where
      pub fault_dram : (n : ℕ) → n < length ports.drams → (DramGiven ports.drams drams n → ⊥) → ((m : ℕ) → m < n → DramGiven ports.drams drams m) → IsLeast (InputFault ports args drams) (length ports.args + n)
      fault_dram n l none before = record { holds = bad_dram n refl l none; least = least }
        where
          least : (m : ℕ) → InputFault ports args drams m → length ports.args + n ≤ m
          least m (bad_arg k bad) = absurd (bad (all m k))
          least m (more_args e k) = absurd (omega (arith, k, few))
          least m (bad_dram d e k bad) = ⊎_elim (λ low. absurd (bad (before d low))) (λ high. omega (arith, e, high)) (cases_lt d n)
          least m (more_drams e k) = omega (arith, e, l)

      pub fault_drams : ((m : ℕ) → m < length ports.drams → DramGiven ports.drams drams m) → length ports.drams < length drams → IsLeast (InputFault ports args drams) (length ports.args + length ports.drams)
      fault_drams each more = record { holds = more_drams refl more; least = least }
        where
          least : (m : ℕ) → InputFault ports args drams m → length ports.args + length ports.drams ≤ m
          least m (bad_arg k bad) = absurd (bad (all m k))
          least m (more_args e k) = absurd (omega (arith, k, few))
          least m (bad_dram d e k bad) = absurd (bad (each d k))
          least m (more_drams e k) = omega (arith, e)

  pub no_fault : NoFault ports args drams → (which : ℕ) → InputFault ports args drams which → ⊥
  no_fault h which (bad_arg k bad) = bad (h.each_arg which k)
  no_fault h which (more_args e k) = let few = h.no_more_args in omega (arith, k, few)
  no_fault h which (bad_dram d e k bad) = bad (h.each_dram d k)
  no_fault h which (more_drams e k) = let few = h.no_more_drams in omega (arith, k, few)

-- the port at a place of declared ones
pub port_of : (ports : List PortDecl) (i : ℕ) (port : PortDecl) → i < length ports → port ≡ get_or ports i port → port_at (map plain_port ports) i ≡ plain_port port
port_of ports i port l e = get_or-map plain_port ports i port no_port l ∙ ap plain_port (sym e)
