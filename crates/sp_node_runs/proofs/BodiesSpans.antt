-- The spans of a slice stand where its transfer is started.
use Rattle.std.proofs.Common.{ℕ, ◌+◌, ◌≤◌, List, [], ◌∷◌, ◌++◌, length, sym, subst}
use Rattle.std.specs.List.{Contains}
use Rattle.std.proofs.lemmas.List.{map-append}
use Rattle.std.proofs.lemmas.List.Elements.{Contains-append_left, Contains-append_right}
use Rattle.sp_netlist.specs.Draft.{Draft}
use Rattle.sp_netlist.specs.Signals.{Signals}
use Rattle.sp_gates.specs.Runs.{RunsOn}
use Rattle.sp_core.specs.Around.{Near}
use Rattle.sp_core.specs.Events.{Standing, Moment, list_moments, spans_moments}
use Rattle.sp_core.specs.History.{Taken, one, both}
use Rattle.sp_core.specs.PlainCore.{PlainSpan}
use Rattle.sp_core.specs.Scope.{Scope}
use Rattle.sp_lane_nets.specs.Laws.{LanesHaveWords}
use Rattle.sp_machine.specs.Stamps.{Stamped, Copies, stamp, stamped}
use Rattle.sp_part_runs.specs.ActsLaws.{WordsAgree}
use Rattle.sp_node_runs.specs.BodiesGiven.{Nets, AreStanding}
use Rattle.sp_node_runs.specs.BodiesSpans.{SpanNets, DidSpans, AreSpanNets, no_span, one_index, one_range, HaveSpans, SpansStand}
use Rattle.sp_node_runs.proofs.BodiesBounds.{bound_word}

module _ (copies : Copies) (u : ℕ) where
  -- moments before others, and behind them
  in_front : (xs ys : List Moment) (x : Stamped) → Contains (stamped copies u xs) x → Contains (stamped copies u (xs ++ ys)) x
  in_front xs ys x c = subst (λ zs. Contains zs x) (sym (map-append (stamp copies u) xs ys)) (Contains-append_left (stamped copies u xs) (stamped copies u ys) x c)

  behind : (xs ys : List Moment) (x : Stamped) → Contains (stamped copies u ys) x → Contains (stamped copies u (xs ++ ys)) x
  behind xs ys x c = subst (λ zs. Contains zs x) (sym (map-append (stamp copies u) xs ys)) (Contains-append_right (stamped copies u xs) (stamped copies u ys) x c)

module _ (words : LanesHaveWords) (agree : WordsAgree) (s : Signals) (d : Draft) (events : List Stamped) (last : ℕ) (near : List Near) (env : Nets) (scope : Scope) (st : Standing) (copies : Copies) (u : ℕ) (r : RunsOn s d.cells) (late : u ≤ last)
    (stand : AreStanding s u near env scope) where
  all_stand : (n : ℕ) (spans : List PlainSpan) (nets : List SpanNets) (taken : List Taken) → AreSpanNets s d events last near env n spans nets → DidSpans scope spans taken
      → ((x : Stamped) → Contains (stamped copies u (spans_moments n st spans taken)) x → Contains events x) → HaveSpans s u nets taken
  all_stand _ _ _ [] no_span did told = tt
  all_stand _ _ _ (t ∷ taken) no_span did told = elim did [ ]
  all_stand _ _ _ [] (one_index a rest) did told = elim did [ ]
  all_stand _ _ _ (both es fs ∷ taken) (one_index a rest) did told = elim did [ ]
  all_stand _ _ _ (one es ∷ taken) (one_index {n} {net} {ops} {spans} {nets} a rest) did told = (
    bound_word words agree s d events last near env scope st copies u r late stand n ops net es a did.0 (λ x c. told x (in_front copies u (list_moments n st ops es) (spans_moments (n + length ops) st spans taken) x c)),
    all_stand (n + length ops) spans nets taken rest did.1 (λ x c. told x (behind copies u (list_moments n st ops es) (spans_moments (n + length ops) st spans taken) x c)),
  )
  all_stand _ _ _ [] (one_range a b rest) did told = elim did [ ]
  all_stand _ _ _ (one es ∷ taken) (one_range a b rest) did told = elim did [ ]
  all_stand _ _ _ (both es fs ∷ taken) (one_range {n} {from} {until} {a} {b} {spans} {nets} p q rest) did told = (
    bound_word words agree s d events last near env scope st copies u r late stand n a from es p did.0
        (λ x c. told x (in_front copies u (list_moments n st a es ++ list_moments (n + length a) st b fs) (spans_moments (n + (length a + length b)) st spans taken) x (in_front copies u (list_moments n st a es) (list_moments (n + length a) st b fs) x c))),
    bound_word words agree s d events last near env scope st copies u r late stand (n + length a) b until fs q did.1
        (λ x c. told x (in_front copies u (list_moments n st a es ++ list_moments (n + length a) st b fs) (spans_moments (n + (length a + length b)) st spans taken) x (behind copies u (list_moments n st a es) (list_moments (n + length a) st b fs) x c))),
    all_stand (n + (length a + length b)) spans nets taken rest did.2 (λ x c. told x (behind copies u (list_moments n st a es ++ list_moments (n + length a) st b fs) (spans_moments (n + (length a + length b)) st spans taken) x c)),
  )

pub spans_stand : LanesHaveWords → WordsAgree → SpansStand
spans_stand words agree s d events last near env n spans nets scope st copies taken u r late are did stand told = all_stand words agree s d events last near env scope st copies u r late stand n spans nets taken are did told
