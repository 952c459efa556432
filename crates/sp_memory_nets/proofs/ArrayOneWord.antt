-- A memory that is neither an SRAM nor a FIFO is one word, and has no banks.
use Rattle.std.proofs.Common.{◌≡◌, ◌≢◌, ℕ, ◌+◌, ◌<◌, ◌^◌, List, [], ◌∷◌, ◌++◌, length, filter, flat_map, count_by, refl, sym, ap, subst, ◌∙◌, arith}
use Rattle.std.proofs.lemmas.List.{append-nil}
use Rattle.std.proofs.lemmas.List.Elements.{All-nil}
use Rattle.sp_words.specs.declared.kind.Kind.{Kind}
use Rattle.sp_words.specs.declared.kind.Kind.TheVariants.{Reg, Sram, Fifo, LineBuf, Dram, ArgIn, ArgOut}
use Rattle.sp_words.specs.Types.{width_of}
use Rattle.sp_netlist.specs.Draft.{Draft}
use Rattle.sp_netlist.specs.Rules.{is_bank}
use Rattle.sp_netlist.specs.Signals.{Signals}
use Rattle.sp_gates.specs.Grows.{Fills}
use Rattle.sp_core.specs.Declarations.{mem, kind_of}
use Rattle.sp_core.specs.PlainCore.{PlainCore}
use Rattle.sp_plan.specs.PlainPlan.{PlainPlan}
use Rattle.sp_taps.specs.declared.store.Store.{Store}
use Rattle.sp_taps.specs.Wires.{Promises, AreWires, wires_of}
use Rattle.sp_taps.specs.Stores.{bank_cells}
use Rattle.sp_taps.proofs.Rows.{none_promised}
use Rattle.sp_access_nets.specs.declared.access.AccessNets.{AccessNets}
use Rattle.sp_tree_handed.specs.declared.owners.OwnerNets.{OwnerNets}
use Rattle.sp_memory_nets.specs.ScalarRuns as word
use Rattle.sp_memory_nets.specs.ArrayBanks.{ArrayStands, banks_of_kind, array_banks, array_size}
use Rattle.sp_memory_nets.specs.ArrayRuns.{RunsMemory, an_argument, a_register}

pub no_banks : (k : Kind) (n d : ℕ) → k ≢ Sram → k ≢ Fifo → banks_of_kind k n d ≡ 0
no_banks Sram n d array fifo = absurd (array refl)
no_banks Fifo n d array fifo = absurd (fifo refl)
no_banks Reg n d array fifo = refl
no_banks LineBuf n d array fifo = refl
no_banks Dram n d array fifo = refl
no_banks ArgIn n d array fifo = refl
no_banks ArgOut n d array fifo = refl

pub none_of : (stores : List Store) → length stores ≡ 0 → stores ≡ []
none_of [] e = refl
none_of (x ∷ xs) e = absurd (omega (arith, e))

pub word_fills : (a b d : Draft) (core : PlainCore) (plan : PlainPlan) (m bank : ℕ) (stores : List Store) (nets : List ℕ) → kind_of core m ≢ Sram → kind_of core m ≢ Fifo → ArrayStands d core plan m bank stores → Fills a b nets → Fills a b (flat_map wires_of stores ++ nets)
word_fills a b d core plan m bank stores nets other fifo h f = subst (λ (ss : List Store). Fills a b (flat_map wires_of ss ++ nets)) (sym (none_of stores (h.each ∙ no_banks (kind_of core m) _ _ other fifo))) f

pub word_runs : (core : PlainCore) (plan : PlainPlan) (s : Signals) (accesses : List AccessNets) (owners : OwnerNets) (port m net : ℕ) → kind_of core m ≢ Sram → kind_of core m ≢ Fifo
    → word.RunsScalar core plan s accesses owners port m net → RunsMemory core plan s accesses owners port m net
word_runs core plan s accesses owners port m net other fifo (word.an_argument is same followed) = an_argument is same followed
word_runs core plan s accesses owners port m net other fifo (word.a_register is runs) = a_register is other fifo runs

module _ (d : Draft) (core : PlainCore) (plan : PlainPlan) (m bank : ℕ) (other : kind_of core m ≢ Sram) (fifo : kind_of core m ≢ Fifo) where
  none : array_banks core plan m ≡ 0
  none = no_banks (kind_of core m) _ _ other fifo

  pub word_stands : (stores : List Store) → stores ≡ [] → bank < 2 ^ 64 → ArrayStands d core plan m bank stores
  word_stands stores e l = subst (ArrayStands d core plan m bank) (sym e) (record {
    few = (let z = none in omega (arith, z));
    numbers = (let z = none in omega (arith, z, l));
    each = sym none;
    rows = (0, λ i store k. absurd (omega (arith, k)));
    wires = All-nil (AreWires d (width_of (mem core m).ty));
    banks = λ i store k. absurd (omega (arith, k));
  })

  pub word_cells : filter is_bank d.cells ≡ filter is_bank d.cells ++ bank_cells bank (width_of (mem core m).ty) (array_size core plan m) (array_banks core plan m)
  word_cells = sym (ap (λ n. filter is_bank d.cells ++ bank_cells bank (width_of (mem core m).ty) (array_size core plan m) n) none ∙ append-nil (filter is_bank d.cells))

  pub word_count : bank ≡ count_by is_bank d.cells → count_by is_bank d.cells ≡ bank + array_banks core plan m
  word_count e = (let z = none in omega (arith, z, e))

pub word_promises : (d : Draft) (stores : List Store) → stores ≡ [] → Promises d d (flat_map wires_of stores)
word_promises d stores e = subst (λ (ss : List Store). Promises d d (flat_map wires_of ss)) (sym e) (none_promised d)
