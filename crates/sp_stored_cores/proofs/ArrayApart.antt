-- Loads write to SRAMs alone, and stores read SRAMs alone, so the circuits of other memories are asked by operations alone.
use Rattle.std.proofs.Common.{◌≡◌, ◌≢◌, ℕ, suc, ◌==◌, ◌&&◌, Bool, false, cond, List, [], ◌∷◌, ◌++◌, map, refl, sym, ap, subst, ◌∙◌, ne_eqb, arith}
use Rattle.std.specs.List.{Contains, filter}
use Rattle.std.proofs.lemmas.List.{append-nil}
use Rattle.std.proofs.lemmas.List.Elements.{filter-append, Contains-append_left}
use Rattle.sp_words.specs.declared.kind.Kind.TheVariants.{Sram}
use Rattle.sp_netlist.specs.Signals.{Signals}
use Rattle.sp_core.specs.declared.operation.OpKind.{OpKind}
use Rattle.sp_core.specs.declared.operation.OpKind.TheVariants.{Write, Enq, Reset}
use Rattle.sp_core.specs.Declarations.{mem, kind_of}
use Rattle.sp_core.specs.PlainCore.{PlainCore}
use Rattle.sp_core.specs.Sequential.{has_reset}
use Rattle.sp_plan.specs.PlainPlan.{PlainPlan}
use Rattle.sp_machine.specs.Stamps.{Stamped}
use Rattle.sp_access_nets.specs.declared.access.AccessNets.{AccessNets}
use Rattle.sp_access_nets.specs.Picking.{is_same_access, is_to}
use Rattle.sp_tree_handed.specs.declared.owners.OwnerNets.{OwnerNets}
use Rattle.sp_memory_nets.specs.ScalarLists.{write_of, state_of, reset_of, read_of, is_kept, is_answered, is_reader, renewals_to}
use Rattle.sp_memory_nets.specs.ScalarRuns.{IsFollowed, RunsWord}
use Rattle.sp_memory_nets.specs.FifoLists.{put_of}
use Rattle.sp_memory_nets.specs.FifoRuns.{RunsFifo}
use Rattle.sp_stored_cores.specs.ArrayLoads.{LoadsInTime}
use Rattle.sp_stored_cores.specs.ArrayStores.{StoresReadInTime}

-- what passes in no element of a list behind another one
module _ {A : Type 0} (p : A → Bool) where
  none_passes : (xs : List A) → ((x : A) → Contains xs x → p x ≡ false) → filter p xs ≡ []
  none_passes [] h = refl
  none_passes (x ∷ xs) h = subst (λ b. cond b (x ∷ filter p xs) (filter p xs) ≡ []) (sym (h x (0, omega arith, refl))) (none_passes xs (λ y c. h y (let l = c.1 in (suc c.0, omega (arith, l), c.2))))

  pub none_behind : (xs ys : List A) → ((y : A) → Contains ys y → p y ≡ false) → filter p (xs ++ ys) ≡ filter p xs
  none_behind xs ys h = filter-append p xs ys ∙ ap (λ zs. filter p xs ++ zs) (none_passes ys h) ∙ append-nil (filter p xs)

module _ (core : PlainCore) (s : Signals) (events : List Stamped) (last : ℕ) (accesses loading storing : List AccessNets) (loads : LoadsInTime core s events last loading) (stores : StoresReadInTime core s events last storing) (m : ℕ) (other : kind_of core m ≢ Sram) where
  -- no load writes to it, and no store reads it
  unloaded : (a : AccessNets) → Contains loading a → (a.mem == m) ≡ false
  unloaded a c = ne_eqb a.mem m (λ e. other (ap (kind_of core) (sym e) ∙ (loads.is_loading a c).sram))

  unstored : (a : AccessNets) → Contains storing a → (a.mem == m) ≡ false
  unstored a c = ne_eqb a.mem m (λ e. other (ap (kind_of core) (sym e) ∙ (stores.is_storing a c).sram))

  -- what passes in a test that asks for the memory is of operations
  of_operations : (test : AccessNets → Bool) → filter (λ a. (a.mem == m) && test a) (accesses ++ loading ++ storing) ≡ filter (λ a. (a.mem == m) && test a) accesses
  of_operations test =
      none_behind (λ (a : AccessNets). (a.mem == m) && test a) (accesses ++ loading) storing (λ a c. ap (λ b. b && test a) (unstored a c))
      ∙ none_behind (λ (a : AccessNets). (a.mem == m) && test a) accesses loading (λ a c. ap (λ b. b && test a) (unloaded a c))

  to_it : (kind : OpKind) → filter (is_to m kind) (accesses ++ loading ++ storing) ≡ filter (is_to m kind) accesses
  to_it kind = of_operations (λ a. is_same_access kind a.kind)

  readers : filter (is_reader m) (accesses ++ loading ++ storing) ≡ filter (is_reader m) accesses
  readers = of_operations (λ a. is_answered a.answer)

  pub followed_apart : (net : ℕ) → IsFollowed s (accesses ++ loading ++ storing) m net → IsFollowed s accesses m net
  followed_apart net h a w c = h a w (Contains-append_left (accesses ++ loading) storing a (Contains-append_left accesses loading a c))

  module _ (plan : PlainPlan) (owners : OwnerNets) where
    pub word_apart : (net : ℕ) → RunsWord core plan s (accesses ++ loading ++ storing) owners m net → RunsWord core plan s accesses owners m net
    word_apart net r = record {
      part = r.part;
      nets = r.nets;
      is = record {
        ty = r.is.ty;
        copies = r.is.copies;
        first = r.is.first;
        fresh = r.is.fresh ∙ ap (λ ns. map reset_of ns ++ renewals_to (has_reset (mem core m).kind (mem core m).start) m owners.renewed.items) (to_it Reset);
        writes = r.is.writes ∙ ap (λ ns. map write_of ns ++ map state_of (filter (is_kept m) owners.kept.items)) (to_it Write);
        reads = r.is.reads ∙ ap (map read_of) readers;
      };
      some = r.some;
      first = r.first;
      runs = r.runs;
    }

    pub fifo_apart : (bank : ℕ) → RunsFifo core plan s (accesses ++ loading ++ storing) owners m bank → RunsFifo core plan s accesses owners m bank
    fifo_apart bank r = record {
      part = r.part;
      stores = r.stores;
      is = record {
        ty = r.is.ty;
        copies = r.is.copies;
        depth = r.is.depth;
        fresh = r.is.fresh ∙ ap (λ ns. map reset_of ns ++ renewals_to (has_reset (mem core m).kind (mem core m).start) m owners.renewed.items) (to_it Reset);
        puts = r.is.puts ∙ ap (map put_of) (to_it Enq);
        takes = r.is.takes ∙ ap (map read_of) readers;
      };
      each = r.each;
      runs = r.runs;
      takes = r.takes;
    }
