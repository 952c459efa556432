-- The run of a whole program from the state that was loaded.
use Rattle.std.proofs.Common.{◌≡◌, ℕ, ◌-◌, ◌<◌, List, length, Result, Ok, Err, refl, sym, ◌∙◌, ap, subst, arith}
use Rattle.std.specs.Result.{IsErrAnd}
use Rattle.sp_words.specs.Ports.{PlainInput}
use Rattle.sp_tree.specs.declared.statement.FaultKind.{FaultKind}
use Rattle.sp_tree.specs.Invariant.{outer_scope}
use Rattle.sp_tree.specs.Meaning.{first_store, run_program, seq, outcome}
use Rattle.sp_tree.specs.PlainProgram.{PlainProgram}
use Rattle.sp_tree.specs.Sequential.{run_all}
use Rattle.sp_tree.specs.Shape.{Shape, ran, shapes}
use Rattle.sp_tree.specs.Step.{Went, went, faulted, more, turn}
use Rattle.sp_tree.specs.Streams.{roomy_in}
use Rattle.sp_tree.specs.Typing.{after_all}
use Rattle.sp_seq.specs.declared.end.SeqEnd.TheVariants as ends
use Rattle.sp_seq.specs.declared.state.State.{State}
use Rattle.sp_seq.specs.declared.state.Stop.{Stop}
use Rattle.sp_seq.specs.declared.state.Stop.TheVariants.{Fault, Turns}
use Rattle.sp_seq.specs.Loading.{IsLoaded, IsOver, RanWhole}
use Rattle.sp_seq.specs.Progress.{end_of}
use Rattle.sp_seq.specs.Running.{CanRunAll, Finished}
use Rattle.sp_seq.specs.States.{store_of, halted, Keeps}
use Rattle.sp_seq.proofs.OverLemmas.{ports_stand, still_seen}
use Rattle.sp_seq.proofs.SeesLemmas.{sees_later}
use Rattle.sp_seq.proofs.StepLemmas.{bind_went, bind_halted}

module _ (p : PlainProgram) (input : PlainInput) where
  -- turns are no part of it
  pub given_turns : (s : State) (n : ℕ) → IsLoaded p input s → IsLoaded p input (record { left = n; values = s.values; counts = s.counts; memories = s.memories })
  unfolding store_of
  given_turns s n h = record {
    is_program = h.is_program;
    sees = record { declared = h.sees.declared; sizes = h.sees.sizes; memories = h.sees.memories; stored = h.sees.stored; live = h.sees.live; values = h.sees.values; counters = h.sees.counters };
    numbered = record { chip = h.numbered.chip; vals = h.numbered.vals; counters = h.numbered.counters };
    told = h.told;
    store = h.store;
  }

  -- the statements of the block can be run, once the turn of the entry is taken
  abbrev pub can_begin : (s t : State) → IsLoaded p input s → Keeps s t → CanRunAll p.mems p.body t
  can_begin s t h k = record {
    setting = record { program = p; same = refl; scope = outer_scope p; roomy = roomy_in p.mems p.body; sees = sees_later h.sees k };
    typed = h.is_program.typed;
    numbered = record {
      chip = h.numbered.chip;
      vals = λ v c. subst (λ ws. v < length ws) (sym k.values) (h.numbered.vals v c);
      counters = λ v c. subst (λ ws. v < length ws) (sym k.counts) (h.numbered.counters v c);
    };
    told = h.told;
  }

  -- what a run of them gives
  abbrev block_ran : State → Result (Unit {0}) Stop → State → Type 0
  block_ran t r u = Finished p.mems (roomy_in p.mems p.body) (after_all (outer_scope p) p.body) t (run_all p.mems (roomy_in p.mems p.body) p.body t.left (store_of t)) r u

  from_start : (s : State) (w : Went (List Shape)) → IsLoaded p input s → run_program p s.left (store_of s) ≡ w → run_program p s.left (first_store p input) ≡ w
  from_start s w h e = ap (run_program p s.left) (sym h.store) ∙ e

  pub ran_whole : (s t u : State) (r : Result (Unit {0}) Stop) → IsLoaded p input s → Keeps s t → turn s.left (store_of s) ≡ went tt t.left (store_of t) → block_ran t r u → RanWhole p input s.left r u
  unfolding run_program
  ran_whole s t u (Ok x) h k e f = (
    f.0,
    from_start s _ h (bind_went turn (λ _. run_all p.mems (roomy_in p.mems p.body) p.body) s.left (store_of s) tt t.left (store_of t) e ∙ f.1),
    ports_stand p (roomy_in p.mems p.body) (after_all (outer_scope p) p.body) u (λ m c. still_seen (outer_scope p) p.body m c) f.2.sees,
    omega (arith, f.2.left, k.left),
  )
  ran_whole s t u (Err stop) h k e f = from_start s _ h (bind_went turn (λ _. run_all p.mems (roomy_in p.mems p.body) p.body) s.left (store_of s) tt t.left (store_of t) e ∙ f)

  pub never_began : (s u : State) (stop : Stop) → IsLoaded p input s → turn s.left (store_of s) ≡ halted stop → RanWhole p input s.left (Err stop) u
  unfolding run_program
  never_began s u stop h e = from_start s _ h (bind_halted turn (λ _. run_all p.mems (roomy_in p.mems p.body) p.body) s.left (store_of s) stop e)

  -- how it ends
  went_so : (n : ℕ) (w : Went (List Shape)) → run_program p n (first_store p input) ≡ w → seq n p input ≡ outcome p n w
  unfolding seq
  went_so n w e = ap (outcome p n) e

  pub over : (n : ℕ) (s : State) → RanWhole p input n (Ok tt) s → IsOver p input n (n - s.left) s
  over n s h = record { ports = h.2; shape = ran (shapes h.0); ends = went_so n (went h.0 s.left (store_of s)) h.1 }

  pub ends_over : (n : ℕ) (s : State) → RanWhole p input n (Ok tt) s → ends.Ended (n - s.left) ≡ end_of (seq n p input)
  ends_over n s h = sym (ap end_of (went_so n (went h.0 s.left (store_of s)) h.1))

  pub ends_faulted : (n : ℕ) (s : State) (kind : FaultKind) (place : ℕ) → RanWhole p input n (Err (Fault kind place)) s → ends.Fault kind place ≡ end_of (seq n p input)
  ends_faulted n s kind place h = sym (ap end_of (went_so n (faulted kind place) h))

  pub ends_unfinished : (n : ℕ) (s : State) → RanWhole p input n (Err Turns) s → ends.TurnsSpent ≡ end_of (seq n p input)
  ends_unfinished n s h = sym (ap end_of (went_so n more h))

  -- what a `?` hands on
  pub whole_stop : (n : ℕ) (u : State) (r : Result (Unit {0}) Stop) (stop : Stop) (Q : Stop → Type 0) → IsErrAnd r Q → ((y : Stop) → Q y → y ≡ stop) → RanWhole p input n (Err stop) u → RanWhole p input n r u
  whole_stop n u (Ok x) stop Q h same w = absurd h
  whole_stop n u (Err y) stop Q h same w = subst (λ z. RanWhole p input n (Err z) u) (sym (same y h)) w
