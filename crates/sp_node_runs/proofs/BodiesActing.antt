-- Accesses that act where they were made act at the events of their operations.
use Rattle.std.proofs.Common.{◌≡◌, ℕ, ◌+◌, ◌-◌, ◌^◌, ◌<◌, ◌≤◌, Bool, true, false, List, [], ◌∷◌, map, length, take, slice_index, slice_index_or, Some, None, refl, sym, ap, subst, ◌∙◌, arith, length-take, get_or-take}
use Rattle.std.proofs.lemmas.List.{length-map, take-map}
use Rattle.std.proofs.lemmas.List.Elements.{All-nil, All-cons, All-head, All-tail}
use Rattle.std.specs.List.{All, Contains}
use Rattle.sp_words.specs.Types.{int_type}
use Rattle.sp_words.specs.Words.{IsWord}
use Rattle.sp_netlist.specs.Draft.{Draft}
use Rattle.sp_netlist.specs.Signals.{Signals}
use Rattle.sp_gates.specs.Tested.{is_on}
use Rattle.sp_core.specs.declared.operation.OpKind.{OpKind}
use Rattle.sp_core.specs.declared.operation.OpKind.TheVariants as kind
use Rattle.sp_core.specs.Events.{Event, act_of}
use Rattle.sp_core.specs.History.{Entry, left_out, touched, word_of, word_at}
use Rattle.sp_core.specs.Operations.{is_masked}
use Rattle.sp_core.specs.PlainCore.{PlainOp}
use Rattle.sp_core.specs.Scope.{Scope}
use Rattle.sp_machine.specs.Stamps.{Stamped}
use Rattle.sp_pipe.specs.declared.part.Act.{Act}
use Rattle.sp_pipe.specs.declared.part.PipeOp.{PipeOp}
use Rattle.sp_pipe.specs.Right.{IsAt}
use Rattle.sp_pipe.proofs.WordLemmas.{map_same}
use Rattle.sp_part_runs.specs.ActsCircuits.{IsActOf, of_word, of_count, of_live, of_read, of_write, of_enq, of_deq, of_reset, of_one, of_two, of_shift, of_mux, of_cast, is_answered, net_of, answer_of, AreAnswered}
use Rattle.sp_part_runs.specs.ActsEntries.{touches_memory, touched_at, index_words, changes_by_word, word_that_changes, IsTouch, Did, IsOpAt, entry_at}
use Rattle.sp_part_runs.specs.ActsLaws.{IsGroup, is_made}
use Rattle.sp_part_runs.specs.BodiesActing.{BodyRun, entries_of, group_cycle, AccessRight}
use Rattle.sp_part_runs.specs.BodiesRuns.{IsOnAt}
use Rattle.sp_node_runs.specs.BodiesTold.{Happens, SomeHappens, ActsInTime, AreAnsweredInTime, AreTold}
use Rattle.sp_node_runs.proofs.BodiesListed.{op_at}

-- an answered operation is an access
pub answers_touch : (k : OpKind) (a : Act) → IsActOf k a → is_answered a ≡ true → touches_memory k ≡ true
answers_touch _ _ (of_word w) h = absurd (cc)
answers_touch _ _ (of_count c lane net) h = absurd (cc)
answers_touch _ _ (of_live c first last net) h = absurd (cc)
answers_touch _ _ (of_read net after) h = refl
answers_touch _ _ of_write h = absurd (cc)
answers_touch _ _ of_enq h = absurd (cc)
answers_touch _ _ (of_deq net after) h = refl
answers_touch _ _ of_reset h = absurd (cc)
answers_touch _ _ (of_one op) h = absurd (cc)
answers_touch _ _ (of_two op) h = absurd (cc)
answers_touch _ _ (of_shift left by) h = absurd (cc)
answers_touch _ _ of_mux h = absurd (cc)
answers_touch _ _ (of_cast to) h = absurd (cc)

-- the words that an access which was made took, from its entry
module _ (scope : Scope) (op : PlainOp) (before : List Entry) (e : Entry) (did : Did scope op before e) (touches : touches_memory op.kind ≡ true) where
  made_touch : is_made e ≡ true → IsTouch op.kind (map (word_at before) op.args) e
  made_touch h = by (is_masked op.mask before) refl
    where
      by : (b : Bool) → is_masked op.mask before ≡ b → IsTouch op.kind (map (word_at before) op.args) e
      by true m = absurd (let f = ap is_made (did.masked m) in cc (f, h))
      by false m = did.touches m touches

-- by the entry itself
same_touch : (is : List ℕ) (w : ℕ) (at : List ℕ) (word : ℕ) → touched is w ≡ touched at word → (is ≡ at) × (w ≡ word)
same_touch is w at word e = (cc (e), cc (e))

-- words of `Int` that have no sign where they are some
both_small : (ws : List ℕ) → All (λ w. IsWord int_type w → w < 2 ^ 31) ws → All (IsWord int_type) ws → All (λ w. w < 2 ^ 31) ws
both_small ws small words i other l = small i other l (words i other l)

-- so have the nets of an access, by their words
unmapped : (f : ℕ → ℕ) (nets : List ℕ) → All (λ w. w < 2 ^ 31) (map f nets) → All (λ net. f net < 2 ^ 31) nets
unmapped f [] h = All-nil (λ net. f net < 2 ^ 31)
unmapped f (net ∷ nets) h = All-cons (λ net. f net < 2 ^ 31) net nets (All-head (λ w. w < 2 ^ 31) (f net) (map f nets) h) (unmapped f nets (All-tail (λ w. w < 2 ^ 31) (f net) (map f nets) h))

small_nets : (k : OpKind) (f : ℕ → ℕ) (nets : List ℕ) → All (λ w. w < 2 ^ 31) (index_words k (map f nets)) → All (λ net. f net < 2 ^ 31) (index_words k nets)
small_nets kind.Read f nets h = unmapped f nets h
small_nets kind.Write f nets h =
    unmapped f (take (length nets - 1) nets)
    (subst (All (λ w. w < 2 ^ 31)) (ap (λ n. take (n - 1) (map f nets)) (length-map nets f) ∙ take-map f (length nets - 1) nets) h)
small_nets kind.Enq f nets h = All-nil (λ net. f net < 2 ^ 31)
small_nets kind.Deq f nets h = All-nil (λ net. f net < 2 ^ 31)
small_nets kind.Reset f nets h = All-nil (λ net. f net < 2 ^ 31)
small_nets (kind.Word w) f nets h = All-nil (λ net. f net < 2 ^ 31)
small_nets (kind.Count c lane) f nets h = All-nil (λ net. f net < 2 ^ 31)
small_nets (kind.Live c first last) f nets h = All-nil (λ net. f net < 2 ^ 31)
small_nets (kind.One op) f nets h = All-nil (λ net. f net < 2 ^ 31)
small_nets (kind.Two op) f nets h = All-nil (λ net. f net < 2 ^ 31)
small_nets (kind.Shift left by) f nets h = All-nil (λ net. f net < 2 ^ 31)
small_nets kind.Mux f nets h = All-nil (λ net. f net < 2 ^ 31)
small_nets (kind.Cast to) f nets h = All-nil (λ net. f net < 2 ^ 31)

module _ (s : Signals) (events : List Stamped) (interval : ℕ) (time : ℕ → ℕ) (ops : List PlainOp) (ps : List PipeOp) (first last : ℕ) (runs : List BodyRun) (told : AreTold interval time ops first runs events) (d : Draft)
    (groups : (r : BodyRun) (g : ℕ) → Contains runs r → g < length r.groups → IsGroup d (r.scopes g) ops ps (entries_of r g)) (times : (k : ℕ) (p : PipeOp) → IsAt ps k p → p.time ≡ time k) where
  -- answers by events are answers by entries
  pub answered : AreAnsweredInTime s events last first ops ps → (r : BodyRun) (g : ℕ) → Contains runs r → g < length r.groups → AreAnswered s (group_cycle interval r g) last ps (entries_of r g)
  answered are r g c l k p is w at a e late =
      let group = groups r g c l in
      let op = slice_index_or ops k (record { kind = kind.Mux; ty = p.ty; args = []; mem = None; mask = None }) in
      let there : IsOpAt ops k op = op_at ops k _ (let x = at.within in let n = group.ops_of.each in omega (arith, x, n)) in
      let touch = answers_touch op.kind p.act (group.ops_of.alike k op p there at).kinds a in
      let m = told.made k op r g is w there c l touch e in
      let t = times k p at in
      let same : group_cycle interval r g + time k + answer_of p.act ≡ group_cycle interval r g + (p.time + answer_of p.act) = omega (arith, t) in
      subst (λ x. s.net x (net_of p.act) ≡ w) same
      (are k op p there at a (group_cycle interval r g + time k) m.0 m.1 (omega (arith, same, late)) w m.3)

  module _ (k : ℕ) (op : PlainOp) (p : PipeOp) (enable : ℕ) (operands : List ℕ) (at : IsOpAt ops k op) (there : IsAt ps k p) (touches : touches_memory op.kind ≡ true) (right : AccessRight interval runs s last k p enable operands) where
    abbrev does : (r : BodyRun) (g : ℕ) → Contains runs r → g < length r.groups → Did (r.scopes g) op (take k (entries_of r g)) (entry_at (entries_of r g) k)
    does r g c l = (groups r g c l).entries.did k op at

    enabled : IsOnAt (is_on s enable) (SomeHappens events (first + k)) last
    enabled = record { on = on; only = only }
      where
        on : (t : ℕ) → t ≤ last → SomeHappens events (first + k) t → is_on s enable t ≡ true
        on t l (e, h) =
            let m = told.told k op t e at h in
            let c = m.cycle in
            let x = times k p there in
            right.enabled.on t l (m.run, m.group, m.there, m.within, ap is_made m.entry, omega (arith, c, x))

        only : (t : ℕ) → t ≤ last → is_on s enable t ≡ true → SomeHappens events (first + k) t
        only t l h =
            let a = right.enabled.only t l h in
            let touch = made_touch (a.0.scopes a.1) op (take k (entries_of a.0 a.1)) (entry_at (entries_of a.0 a.1) k) (does a.0 a.1 a.2 a.3) touches a.4 in
            let m = told.made k op a.0 a.1 _ touch.word at a.2 a.3 touches touch.entry in
            let c = a.5 in
            let x = times k p there in
            let same : group_cycle interval a.0 a.1 + time k ≡ t = omega (arith, c, x) in
            (m.0, subst (λ u. Happens events (first + k) u m.0) same m.1)

    -- the operands of an access have the words that it took
    words_are : (r : BodyRun) (g : ℕ) (c : Contains runs r) (l : g < length r.groups) → group_cycle interval r g + p.time ≤ last → map (s.net (group_cycle interval r g + p.time)) operands ≡ map (word_at (take k (entries_of r g))) op.args
    words_are r g c l late =
        let group = groups r g c l in
        right.words r g c l late
        ∙ map_same (word_at (entries_of r g)) (word_at (take k (entries_of r g))) p.args.items p.args.items refl
        (λ i m. let below = ((group.fits k p there).args i m).at.within in let n = length-take k ps in let w = there.within in
        ap word_of (sym (get_or-take k (entries_of r g) (slice_index p.args.items i) left_out (omega (arith, below, n, w)))))
        ∙ ap (map (word_at (take k (entries_of r g)))) (group.ops_of.alike k op p at there).taken

    at_event : (t : ℕ) (e : Event) → t ≤ last → Happens events (first + k) t e → (e.indices ≡ touched_at op.kind (map (s.net t) operands)) × (changes_by_word op.kind ≡ true → act_of op.kind (word_that_changes op.kind (map (s.net t) operands)) ≡ Some e.act)
    at_event t e late h =
        let m = told.told k op t e at h in
        let c = m.cycle in
        let x = times k p there in
        let now : group_cycle interval m.run m.group + p.time ≡ t = omega (arith, c, x) in
        let touch = made_touch (m.run.scopes m.group) op (take k (entries_of m.run m.group)) (entry_at (entries_of m.run m.group) k) (does m.run m.group m.there m.within) touches (ap is_made m.entry) in
        let both = same_touch e.indices m.word _ touch.word (sym m.entry ∙ touch.entry) in
        let words = ap (λ u. map (s.net u) operands) (sym now) ∙ words_are m.run m.group m.there m.within (omega (arith, now, late)) in (
          both.0 ∙ ap (touched_at op.kind) (sym words),
          λ f. ap (λ ws. act_of op.kind (word_that_changes op.kind ws)) words ∙ ap (act_of op.kind) (sym (both.1 ∙ touch.changed f)) ∙ m.act,
        )

    -- the words of its indices have no sign, as those that it took
    index_at : (t : ℕ) (e : Event) → t ≤ last → Happens events (first + k) t e → All (λ net. s.net t net < 2 ^ 31) (index_words op.kind operands)
    index_at t e late h =
        let m = told.told k op t e at h in
        let c = m.cycle in
        let x = times k p there in
        let now : group_cycle interval m.run m.group + p.time ≡ t = omega (arith, c, x) in
        let took = take k (entries_of m.run m.group) in
        let touch = made_touch (m.run.scopes m.group) op took (entry_at (entries_of m.run m.group) k) (does m.run m.group m.there m.within) touches (ap is_made m.entry) in
        let words = ap (λ u. map (s.net u) operands) (sym now) ∙ words_are m.run m.group m.there m.within (omega (arith, now, late)) in
        small_nets op.kind (s.net t) operands
        (subst (λ ws. All (λ w. w < 2 ^ 31) (index_words op.kind ws)) (sym words)
        (both_small (index_words op.kind (map (word_at took) op.args)) touch.small ((groups m.run m.group m.there m.within).indices k op at)))

    pub acts_in_time : ActsInTime s events last (first + k) op.kind enable operands
    acts_in_time = record { enabled = enabled; at = λ t e l h. (at_event t e l h).0; word = λ t e l h f. (at_event t e l h).1 f; index = λ t e l h. index_at t e l h }
