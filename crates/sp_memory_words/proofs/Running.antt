-- Runs of a core happen well, and contents begin.
use Rattle.std.proofs.Common.{◌≡◌, ℕ, suc, ◌+◌, ◌<◌, ◌==◌, Bool, true, false, List, [], ◌∷◌, ◌++◌, map, length, nat_lt, slice_index_or, Some, None, if◌then◌else◌, refl, sym, ap, subst, ◌∙◌, arith, le-ltb}
use Rattle.std.proofs.lemmas.Bool.{eqb-true, true≢false}
use Rattle.sp_words.specs.declared.kind.Kind.{Kind}
use Rattle.sp_words.specs.declared.kind.Kind.TheVariants.{Reg, Sram, Fifo, LineBuf, Dram, ArgIn, ArgOut}
use Rattle.sp_words.specs.Memory.{words}
use Rattle.sp_words.specs.Ports.{PlainInput}
use Rattle.sp_core.specs.Declarations.{mem, kind_of, dims, dram_number}
use Rattle.sp_core.specs.Elements.{numbers_below}
use Rattle.sp_core.specs.Events.{Moment}
use Rattle.sp_core.specs.Meaning.{is_arg, numbers_of, args_of, outs_of, drams_of, hold_each, first_store, run_core}
use Rattle.sp_core.specs.PlainCore.{PlainMem, no_mem, PlainCore}
use Rattle.sp_core.specs.Scope.{no_scope}
use Rattle.sp_core.specs.Store.{Store, hold, words_of}
use Rattle.sp_plan.specs.PlainPlan.{PlainPlan}
use Rattle.sp_time.specs.Lists.{Each}
use Rattle.sp_machine.specs.Found.{one_cell}
use Rattle.sp_machine.specs.Laws.{told, TellsAll}
use Rattle.sp_machine.specs.Stamps.{Stamped}
use Rattle.sp_machine.specs.Timeline.{core_timed}
use Rattle.sp_machine.specs.Transfers.{Delays}
use Rattle.sp_contents.specs.Found.{contents_at, first_contents}
use Rattle.sp_contents.specs.Inside.{RunsAreInside, RunsAreAllowed}
use Rattle.sp_contents.specs.Steady.{IsAllowed}
use Rattle.sp_core_ports.specs.CopiesLaws.{RunsHaveCopies}
use Rattle.sp_tree_events.specs.ToldLaws.{TimelinesAreOfItems}
use Rattle.sp_memory_words.specs.Registers.{copy_place, ContentsBegin}
use Rattle.sp_memory_words.specs.Runs.{RunsHappenWell}

-- what holds of each moment that is told
each_told : (P : Moment → Type 0) (es : List Stamped) → Each P (told es) → Each (λ x. P x.moment) es
each_told P [] h = tt
each_told P (e ∷ es) h = (h.0, each_told P es h.1)

pub runs_happen_well : (core : PlainCore) (plan : PlainPlan) (delays : Delays) → RunsAreInside core → RunsAreAllowed core → TellsAll core plan delays core.root → RunsHaveCopies core plan delays → TimelinesAreOfItems core plan delays → RunsHappenWell core plan delays
unfolding run_core
runs_happen_well core plan delays inside allowed tells copies items forms meets w input turns h t ran first found = record {
  in_time = found.in_time;
  allowed = each_told (IsAllowed core) (core_timed core plan delays h).events
      (subst (Each (IsAllowed core)) (sym (tells 0 0 (record { path = []; counters = [] }) (λ m. 0) h)) ((allowed w.is_core w.is_timed).1 h (inside w.is_timed turns no_scope (first_store core input) t h ran)));
  copied = copies forms meets w h;
  of_items = items w.is_timed h;
}

-- what holds of the words of a memory, by its number, holds on where lists of memories are held of which it holds
module _ (P : ℕ → List ℕ → Type 0) where
  abbrev Zip : List ℕ → List (List ℕ) → Type 0
  Zip (m ∷ ms) (ws ∷ all) = P m ws × Zip ms all
  Zip _ _ = Unit {0}

  hold_one : (s : Store) (k : ℕ) (ws : List ℕ) (x : ℕ) → P k ws → P x (words_of (s x)) → P x (words_of (hold s k (words ws) x))
  hold_one s k ws x h old = by (x == k) refl
    where
      by : (b : Bool) → (x == k) ≡ b → P x (words_of (elim b [ true ↦ Some (words ws) | false ↦ s x ]))
      by true q = subst (λ y. P y ws) (sym (eqb-true x k q)) h
      by false q = old

  hold_all : (ms : List ℕ) (all : List (List ℕ)) (s : Store) → Zip ms all → (x : ℕ) → P x (words_of (s x)) → P x (words_of (hold_each ms all s x))
  hold_all [] all s z x h = h
  hold_all (m ∷ ms) [] s z x h = h
  hold_all (m ∷ ms) (ws ∷ all) s z x h = hold_all ms all (hold s m (words ws)) z.1 x (hold_one s m ws x z.0 h)

  zip_each : (ms : List ℕ) (all : List (List ℕ)) → Each (λ m. (ws : List ℕ) → P m ws) ms → Zip ms all
  zip_each [] all h = tt
  zip_each (m ∷ ms) [] h = tt
  zip_each (m ∷ ms) (ws ∷ all) h = (h.0 ws, zip_each ms all h.1)

-- the word of an output is 0 at first
module _ (core : PlainCore) where
  abbrev IsZero : ℕ → List ℕ → Type 0
  IsZero m ws = kind_of core m ≡ ArgOut → slice_index_or ws 0 0 ≡ 0

  abbrev NoOutput : ℕ → Type 0
  NoOutput m = (ws : List ℕ) → IsZero m ws

  outs_zero : (ms : List ℕ) (others : List ℕ) → Zip IsZero ms (map (λ m. 0 ∷ []) others)
  outs_zero [] others = tt
  outs_zero (m ∷ ms) [] = tt
  outs_zero (m ∷ ms) (n ∷ others) = (λ e. refl, outs_zero ms others)

  dram_kind : (r : ℕ) → kind_of core (dram_number core r) ≡ Dram
  dram_kind r = ap (λ b. if b then (mem core (dram_number core r)).kind else Dram) (le-ltb (dram_number core r) (length core.mems) (omega arith))

  dram_out : (k : Kind) → k ≡ Dram → k ≡ ArgOut → ⊥
  dram_out k a b = absurd (cc (a, b))

  drams_apart : (ns : List ℕ) → Each NoOutput (map (dram_number core) ns)
  drams_apart [] = tt
  drams_apart (r ∷ ns) = (λ ws e. absurd (dram_out (kind_of core (dram_number core r)) (dram_kind r) e), drams_apart ns)

  arg_kind : (b : Bool) (k : Kind) → is_arg k ≡ true → (if b then k else Dram) ≡ ArgOut → ⊥
  arg_kind false k h e = absurd (cc (e))
  arg_kind true Reg h e = true≢false (sym h)
  arg_kind true Sram h e = true≢false (sym h)
  arg_kind true Fifo h e = true≢false (sym h)
  arg_kind true LineBuf h e = true≢false (sym h)
  arg_kind true Dram h e = true≢false (sym h)
  arg_kind true ArgIn h e = absurd (cc (e))
  arg_kind true ArgOut h e = true≢false (sym h)

  args_apart : (first : ℕ) (ms : List PlainMem) → ((i : ℕ) → i < length ms → mem core (first + i) ≡ slice_index_or ms i no_mem) → Each NoOutput (numbers_of is_arg first ms)
  args_apart first [] at = tt
  args_apart first (m ∷ ms) at = by (is_arg m.kind) refl (args_apart (suc first) ms (λ i l. ap (mem core) {x = suc first + i} {y = first + suc i} (omega arith) ∙ at (suc i) (omega (arith, l))))
    where
      here : mem core first ≡ m
      here = ap (mem core) {x = first} {y = first + 0} (omega arith) ∙ at 0 (omega arith)

      by : (b : Bool) → is_arg m.kind ≡ b → Each NoOutput (numbers_of is_arg (suc first) ms) → Each NoOutput ((if b then first ∷ [] else []) ++ numbers_of is_arg (suc first) ms)
      by true q rest = (λ ws e. absurd (arg_kind (nat_lt first (length core.mems)) (mem core first).kind (subst (λ x. is_arg x.kind ≡ true) (sym here) q) e), rest)
      by false q rest = rest

  pub output_zero : (input : PlainInput) (m : ℕ) → kind_of core m ≡ ArgOut → slice_index_or (words_of (first_store core input m)) 0 0 ≡ 0
  output_zero input m =
      hold_all IsZero (args_of core) (map (λ w. w ∷ []) input.args) _ (zip_each IsZero (args_of core) (map (λ w. w ∷ []) input.args) (args_apart 0 core.mems (λ i l. ap (mem core) {x = 0 + i} {y = i} (omega arith)))) m
      (hold_all IsZero (drams_of core) input.drams _ (zip_each IsZero (drams_of core) input.drams (drams_apart (numbers_below (length core.ports.drams)))) m
      (hold_all IsZero (outs_of core) (map (λ m. 0 ∷ []) (outs_of core)) (λ m. None) (outs_zero (outs_of core) (outs_of core)) m (λ e. refl)))

no_cell : (core : PlainCore) (v : ℕ) → None ≡ one_cell core v → ⊥
no_cell core v e = absurd (cc (e))

pub contents_begin : (core : PlainCore) (input : PlainInput) → ContentsBegin core input
contents_begin core input = record {
  register = λ m c word k v e. absurd (no_cell core v (sym (at m c Reg k) ∙ e));
  argument = λ m c k. at m c ArgIn k;
  output = λ m c k. at m c ArgOut k ∙ ap (one_cell core) (output_zero core input m k);
}
  where
    at : (m c : ℕ) (k : Kind) → kind_of core m ≡ k → first_contents core input (copy_place m c) ≡ contents_at core k (dims core m) (first_store core input m) 0
    at m c k e = ap (λ x. contents_at core x (dims core m) (first_store core input m) 0) e
