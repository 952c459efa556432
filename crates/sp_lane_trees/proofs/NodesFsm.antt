-- An FSM in lanes: its state is a register that isn't used outside.
use Rattle.std.proofs.Common.{◌≡◌, ℕ, ◌+◌, ◌<◌, Bool, true, false, ◌&&◌, ◌||◌, cond, List, [], ◌∷◌, ◌++◌, length, Option, Some, refl, sym, ◌∙◌, ap, subst, arith, ◌==◌, nat_lt, inl, inr}
use Rattle.std.proofs.lemmas.Bool.{and_parts, true≢false, eq-eqb, ne_eqb, ltb-true}
use Rattle.std.proofs.lemmas.Bool.Decides.{eqb_tells}
use Rattle.std.proofs.lemmas.List.Elements.{All-nil, All-cons}
use Rattle.sp_words.specs.declared.types.Ty.TheVariants.{Bit}
use Rattle.sp_words.specs.Memory.{Contents, cells}
use Rattle.sp_words.specs.Words.{IsWord}
use Rattle.sp_core.specs.Accesses.{hold_now}
use Rattle.sp_core.specs.Around.{Around, within, is_port_kind, is_usable}
use Rattle.sp_core.specs.Declarations.{mem, dram_number, is_among}
use Rattle.sp_core.specs.History.{Entry, History, Turn, last_word, fsm_ran, turns_of}
use Rattle.sp_core.specs.Invariant.{IsCore, owned_in}
use Rattle.sp_core.specs.NodeRules.{is_reg, with_state, is_node_right, is_owned_once}
use Rattle.sp_core.specs.OperationRules.{are_operations_right, is_word_list}
use Rattle.sp_core.specs.Operations.{operations}
use Rattle.sp_core.specs.PlainCore.{PlainOp, PlainNode, fsm, PlainCore}
use Rattle.sp_core.specs.Scope.{Reading, plainly, Scope}
use Rattle.sp_core.specs.Scope as scope
use Rattle.sp_core.specs.Sequential.{state_now, run}
use Rattle.sp_core.specs.Step.{Step, went, pure, ◌>>=◌, change, repeated}
use Rattle.sp_core.specs.Store.{Store, hold}
use Rattle.sp_core.specs.Typed.{last_gives}
use Rattle.sp_fitting.specs.Fitting.{StoreFits, EntriesFit, IsCell, type_at}
use Rattle.sp_fitting.specs.Laws.{ListsFit, NodesFit}
use Rattle.sp_fitting.proofs.Contents.{type_of_mem, held}
use Rattle.sp_fitting.proofs.Lists.{last_fits}
use Rattle.sp_lanes.specs.Order.{memory_order, occurrence}
use Rattle.sp_lanes.specs.Unrolled.{unrolled, node_in}
use Rattle.sp_lanes.specs.Within.{Within, owning, ops_in}
use Rattle.sp_lane_rules.specs.Copies.{OwnsInLanes}
use Rattle.sp_lane_groups.specs.RoomLaws.{PlacesHaveRoom}
use Rattle.sp_lane_groups.specs.LiveStores.{ScopesAgree, ArePlain}
use Rattle.sp_lane_groups.proofs.LiveAlong.{answer_of, store_of}
use Rattle.sp_lane_groups.proofs.LiveCopies.{copies_apart}
use Rattle.sp_lane_groups.proofs.Renewed.{bind_known, bind_split}
use Rattle.sp_lane_groups.specs.InnersAlike.{GoAlike, TurnsAlike, no_turns, more_turns, turned}
use Rattle.sp_lane_groups.specs.InnersAlong.{AgreeAt, LeavesBut, GoesAlong, StandsIn}
use Rattle.sp_lane_groups.proofs.InnersFollows.{no_copy, Followed, Follows, Same, pure_follows, bind_follows, bind_same, list_follows}
use Rattle.sp_lane_groups.proofs.InnersOwners.{each_owned, not_outside, owned_inside}
use Rattle.sp_lane_trees.specs.NodesLaws.{FsmsGo}
use Rattle.sp_lane_trees.proofs.NodesBranch.{neither}
use Rattle.sp_lane_trees.proofs.NodesWhole.{node_follows}
use Rattle.sp_lane_trees.proofs.NodesStand.{fsm_stands}
use Rattle.sp_lane_trees.proofs.NodesTurns.{repeated_follows}

module _ (core : PlainCore) (lists : ListsFit core) (nodes : NodesFit core) (room : PlacesHaveRoom core) (is : IsCore core) (owns : OwnsInLanes core.root) (turns : ℕ)
    (around inside : Around) (earlier : List ℕ) (w : Within) (start : List PlainOp) (state : ℕ) (test : List PlainOp) (body : PlainNode) (next : List PlainOp) (h : StandsIn core around inside earlier w (fsm start state test body next)) where
  abbrev place : Around
  place = with_state core around state

  abbrev there : Within
  there = owning (memory_order core) (state ∷ []) w

  abbrev place_there : Around
  place_there = within inside [] (there.number state ∷ [])

  in_body : StandsIn core place place_there (earlier ++ state ∷ []) there body
  in_body = fsm_stands core around inside earlier w start state test body next h

  rights : (is_node_right core around (fsm start state test body next) ≡ true) × (is_owned_once core earlier (state ∷ []) ≡ true)
  rights = and_parts (is_node_right core around (fsm start state test body next)) (is_owned_once core earlier (state ∷ [])) h.right.0

  start_right : is_word_list core around start (mem core state).ty ≡ true
  start_right = (and_parts (is_reg (mem core state).kind) (is_word_list core around start (mem core state).ty) (and_parts (is_reg (mem core state).kind && is_word_list core around start (mem core state).ty) (is_word_list core place test Bit && is_word_list core place next (mem core state).ty) rights.0).0).1

  turn_right : (is_word_list core place test Bit ≡ true) × (is_word_list core place next (mem core state).ty ≡ true)
  turn_right = and_parts (is_word_list core place test Bit) (is_word_list core place next (mem core state).ty) (and_parts (is_reg (mem core state).kind && is_word_list core around start (mem core state).ty) (is_word_list core place test Bit && is_word_list core place next (mem core state).ty) rights.0).1

  self : is_among state (state ∷ []) ≡ true
  self = ap (λ b. b || false) (eq-eqb state state refl)

  state_usable : is_usable core place state ≡ true
  state_usable = owned_inside core around earlier h.owned_before [] (state ∷ []) rights.1 state self

  state_there : nat_lt state (length core.mems) ≡ true
  state_there = (each_owned core earlier (state ∷ []) rights.1 state self).declared

  -- another memory than the state is used as it is outside
  other_number : (m : ℕ) → (m ≡ state → ⊥) → there.number m ≡ w.number m
  other_number m ne = ap (λ b. cond (b || false) (occurrence m w.copy (memory_order core)) (w.number m)) (ne_eqb m state ne)

  out_not_state : (m : ℕ) → is_usable core around m ≡ true → m ≡ state → ⊥
  out_not_state m u e = not_outside core around earlier h.owned_before m (each_owned core earlier (state ∷ []) rights.1 m (subst (λ k. is_among k (state ∷ []) ≡ true) (sym e) self)) u

  out_to_in : (m : ℕ) → is_usable core around m ≡ true → is_usable core place m ≡ true
  out_to_in m u =
      let a = and_parts (nat_lt m (length core.mems)) (is_port_kind (mem core m).kind || is_among m around.owned) u in
      widened (nat_lt m (length core.mems)) (is_port_kind (mem core m).kind) (m == state) (is_among m around.owned) u
    where
      widened : (a b c d : Bool) → (a && (b || d)) ≡ true → (a && (b || (c || d))) ≡ true
      widened true true c d e = refl
      widened true false true d e = refl
      widened true false false d e = e
      widened false b c d e = e

  in_to_out : (m : ℕ) → is_usable core place m ≡ true → (m ≡ state → ⊥) → is_usable core around m ≡ true
  in_to_out m u ne = ap (λ c. nat_lt m (length core.mems) && (is_port_kind (mem core m).kind || (c || is_among m around.owned))) {x = false} {y = m == state} (sym (ne_eqb m state ne)) ∙ u

  -- a register holds a word, and its copy does
  held_both : (s t : Store) (c : Contents) → ((m : ℕ) → is_usable core place m ≡ true → (m ≡ state → ⊥) → t (there.number m) ≡ s m) → ((r : ℕ) → t (dram_number (unrolled core) r) ≡ s (dram_number core r))
      → AgreeAt core place there (hold s state c) (hold t (there.number state) c)
  held_both s t c others drams = record {
    memories = λ m u. elim (eqb_tells m state) [
      | inl same ↦ subst (λ k. hold t (there.number state) c (there.number k) ≡ hold s state c k) (sym same.1) (here t (there.number state) ∙ sym (here s state))
      | inr apart ↦ away t (there.number state) (there.number m) (λ e. apart.1 (copies_apart core place there in_body.copies m state u state_usable e)) ∙ others m u apart.1 ∙ sym (away s state m apart.1)
    ];
    drams = λ r. away t (there.number state) (dram_number (unrolled core) r) (λ e. no_copy core place place_there there in_body.together state r state_usable (sym e)) ∙ drams r ∙ sym (away s state (dram_number core r) (λ e. past r (sym e)));
  }
    where
      here : (u : Store) (n : ℕ) → hold u n c n ≡ Some c
      here u n = ap (λ b. elim b as (λ _. Option Contents) [ true ↦ Some c | false ↦ u n ]) (eq-eqb n n refl)

      away : (u : Store) (n k : ℕ) → (k ≡ n → ⊥) → hold u n c k ≡ u k
      away u n k ne = ap (λ b. elim b as (λ _. Option Contents) [ true ↦ Some c | false ↦ u k ]) (ne_eqb k n ne)

      less : (a n r : ℕ) → a < n → a ≡ n + r → ⊥
      less a n r lt e = omega (arith, lt, e)

      past : (r : ℕ) → state ≡ dram_number core r → ⊥
      past r e = less state (length core.mems) r (ltb-true state (length core.mems) state_there) e

  enters : (s t : Store) (c : Contents) → AgreeAt core around w s t → AgreeAt core place there (hold s state c) (hold t (there.number state) c)
  enters s t c alike = held_both s t c (λ m u ne. ap t (other_number m ne) ∙ alike.memories m (in_to_out m u ne)) alike.drams

  still : (s t : Store) (c : Contents) → AgreeAt core place there s t → AgreeAt core place there (hold s state c) (hold t (there.number state) c)
  still s t c alike = held_both s t c (λ m u ne. alike.memories m u) alike.drams

  exits : (s t : Store) → AgreeAt core place there s t → AgreeAt core around w s t
  exits s t alike = record { memories = λ m u. ap t (sym (other_number m (out_not_state m u))) ∙ alike.memories m (out_to_in m u); drams = alike.drams }

  -- the words of a list that gives the state fit
  state_fits : (s : Store) (around : Around) (ops : List PlainOp) (es : List Entry) → is_word_list core around ops (mem core state).ty ≡ true → EntriesFit ops es → StoreFits core s → StoreFits core (hold s state (cells (Some (last_word es) ∷ [])))
  state_fits s around ops es right entries fits =
      let word : IsWord (type_at core state) (last_word es) = subst (λ ty. IsWord ty (last_word es)) (sym (type_of_mem core state state_there)) (last_fits ops es (mem core state).ty (and_parts (are_operations_right core around ops) (last_gives ops (mem core state).ty) right).1 entries) in
      held core s state (cells (Some (last_word es) ∷ [])) (All-cons (IsCell (type_at core state)) (Some (last_word es)) [] word (All-nil (IsCell (type_at core state)))) fits

  abbrev Left : Store → Store → Type 0
  Left = LeavesBut core place there body

  none_left : (t : Store) → Left t t
  none_left t n lt outer free = refl

  both_left : (t u v : Store) → Left t u → Left u v → Left t v
  both_left t u v f g n lt outer free = g n lt outer free ∙ f n lt outer free

  -- what is left of the whole
  left_out : (t ended : Store) → Left t ended → LeavesBut core around w (fsm start state test body next) t ended
  unfolding node_in
  left_out t ended f n lt outer free =
      let a = neither (there.number state ∷ []) (owned_in (node_in (memory_order core) there body)) n free in
      f n lt (λ m u i. elim (eqb_tells m state) [
        | inl same ↦ true≢false (sym (ap (λ b. b || false) (eq-eqb n (there.number state) (sym i ∙ ap there.number same.1))) ∙ a.0)
        | inr apart ↦ outer m (in_to_out m u apart.1) (sym (other_number m apart.1) ∙ i)
      ]) a.1

  module _ (goes : GoesAlong core turns place there body) (plain lanes : Scope) (agree : ScopesAgree w plain lanes) where
    abbrev SameHere : {A : Type 0} → A → A → Type 0
    SameHere = Same core place there Left none_left both_left

    lists_here : (ops : List PlainOp) → ArePlain ops → are_operations_right core place ops ≡ true → Follows core place there Left none_left both_left SameHere (operations core plain ops) (operations (unrolled core) lanes (ops_in there ops))
    lists_here ops p right = list_follows core place there Left none_left both_left place_there in_body.together in_body.copies (room is owns place there in_body.copies) plain lanes agree (λ u v l n lt outer free. l n outer) is.memories lists ops p right

    -- the state takes the word of a list
    abbrev state_word : List Entry → Contents
    state_word es = cells (Some (last_word es) ∷ [])

    took : (k : PlainCore) (reading : Reading) (sc : Scope) (m : ℕ) (ops : List PlainOp) (s u : Store) (es : List Entry) → operations k sc ops s ≡ went es u → state_now k reading turns sc m ops s ≡ went es (hold u m (state_word es))
    unfolding pure change
    took k reading sc m ops s u es ran =
        bind_known (operations k sc ops) (λ es. hold_now m (state_word es) >>= (λ _. pure es)) s u es ran ∙ bind_known (hold_now m (state_word es)) (λ _. pure es) u (hold u m (state_word es)) tt refl

    -- what was done for it
    split_state : (m : ℕ) (ops : List PlainOp) (s after : Store) (es : List Entry) → state_now core plainly turns plain m ops s ≡ went es after → (u : Store) × (operations core plain ops s ≡ went es u) × (hold u m (state_word es) ≡ after)
    split_state m ops s after es ran =
        let r = bind_split (operations core plain ops) (λ es. hold_now m (state_word es) >>= (λ _. pure es)) s after es ran in
        let both : went r.0 (hold r.1 m (state_word r.0)) ≡ went es after = sym (took core plainly plain m ops s r.1 r.0 r.2) ∙ ran in
        let same : r.0 ≡ es = ap (answer_of es) both in
        (r.1, r.2 ∙ ap (λ x. went x r.1) same, ap (λ x. hold r.1 m (state_word x)) (sym same) ∙ ap (store_of after) both)

    next_follows : Follows core place there Left none_left both_left SameHere (state_now core plainly turns plain state next) (state_now (unrolled core) scope.in_lanes turns lanes (there.number state) (ops_in there next))
    next_follows s t after es fits alike ran =
        let right : are_operations_right core place next ≡ true = (and_parts (are_operations_right core place next) (last_gives next (mem core state).ty) turn_right.1).0 in
        let r = split_state state next s after es ran in
        let x : Followed core place there Left none_left both_left SameHere (operations (unrolled core) lanes (ops_in there next)) t es r.0 = lists_here next h.plain.3 right s t r.0 es fits alike r.1 in
        record {
          answer = es;
          ended = hold x.ended (there.number state) (state_word es);
          ran = took (unrolled core) scope.in_lanes lanes (there.number state) (ops_in there next) t x.ended es (x.ran ∙ ap (λ a. went a x.ended) x.related);
          agree = subst (λ (u : Store). AgreeAt core place there u (hold x.ended (there.number state) (state_word es))) r.2 (still r.0 x.ended (state_word es) x.agree);
          left = λ n lt outer free. ap (λ b. elim b as (λ _. Option Contents) [ true ↦ Some (state_word es) | false ↦ x.ended n ]) (ne_eqb n (there.number state) (λ e. outer state state_usable (sym e))) ∙ x.left n lt outer free;
          fits = subst (StoreFits core) r.2 (state_fits r.0 place next es turn_right.1 (lists place plain next s r.0 es is.memories right fits r.1).entries x.fits);
          related = refl;
        }

    abbrev turn : List Entry → History → List Entry → Turn
    turn tested h es = record { test = tested; body = h; next = es }

    abbrev one_turn : List Entry → Step Turn
    one_turn tested = run core plainly turns body plain >>= (λ h. state_now core plainly turns plain state next >>= (λ es. pure (turn tested h es)))

    abbrev one_turn_there : List Entry → Step Turn
    one_turn_there tested = run (unrolled core) scope.in_lanes turns (node_in (memory_order core) there body) lanes >>= (λ h. state_now (unrolled core) scope.in_lanes turns lanes (there.number state) (ops_in there next) >>= (λ es. pure (turn tested h es)))

    abbrev TurnLess : Turn → Turn → Type 0
    TurnLess a b = GoAlike body a.body b.body

    turn_follows : (tested : List Entry) → Follows core place there Left none_left both_left TurnLess (one_turn tested) (one_turn_there tested)
    turn_follows tested =
        bind_follows core place there Left none_left both_left (GoAlike body) TurnLess (run core plainly turns body plain) (run (unrolled core) scope.in_lanes turns (node_in (memory_order core) there body) lanes)
        (λ h. state_now core plainly turns plain state next >>= (λ es. pure (turn tested h es)))
        (λ h. state_now (unrolled core) scope.in_lanes turns lanes (there.number state) (ops_in there next) >>= (λ es. pure (turn tested h es)))
        (node_follows core place there Left none_left both_left nodes is.memories turns (earlier ++ state ∷ []) body h.right.1 goes (λ t ended f. f) plain lanes agree)
        (λ a b r. bind_same core place there Left none_left both_left TurnLess (state_now core plainly turns plain state next) (state_now (unrolled core) scope.in_lanes turns lanes (there.number state) (ops_in there next))
        (λ es. pure (turn tested a es)) (λ es. pure (turn tested b es)) next_follows (λ es. pure_follows core place there Left none_left both_left TurnLess (turn tested a es) (turn tested b es) r))

    abbrev is_on : List Entry → Bool
    is_on es = last_word es == 1

    abbrev end_of : List Entry → List Turn × List Entry → Step History
    end_of first r = pure (fsm_ran first (turns_of r.0) r.1)

    abbrev turns_here : List Entry → Step History
    turns_here first = repeated turns (operations core plain test) is_on one_turn >>= end_of first

    abbrev turns_there : List Entry → Step History
    turns_there first = repeated turns (operations (unrolled core) lanes (ops_in there test)) is_on one_turn_there >>= end_of first

    abbrev Related : History → History → Type 0
    Related = GoAlike (fsm start state test body next)

    turns_follow : (first : List Entry) → Follows core place there Left none_left both_left Related (turns_here first) (turns_there first)
    turns_follow first =
        bind_follows core place there Left none_left both_left (λ x y. TurnsAlike body x.0 y.0) Related (repeated turns (operations core plain test) is_on one_turn) (repeated turns (operations (unrolled core) lanes (ops_in there test)) is_on one_turn_there) (end_of first) (end_of first)
        (repeated_follows core place there Left none_left both_left TurnLess (TurnsAlike body) no_turns (λ a b xs ys r q. more_turns r q) (operations core plain test) (operations (unrolled core) lanes (ops_in there test)) is_on one_turn one_turn_there
        (lists_here test h.plain.1 (and_parts (are_operations_right core place test) (last_gives test Bit) turn_right.0).0) turn_follows turns)
        (λ a b r. pure_follows core place there Left none_left both_left Related (fsm_ran first (turns_of a.0) a.1) (fsm_ran first (turns_of b.0) b.1) (turned r))

    abbrev Whole : Store → Store → Type 0
    Whole = LeavesBut core around w (fsm start state test body next)

    none_whole : (t : Store) → Whole t t
    none_whole t n lt outer free = refl

    both_whole : (t u v : Store) → Whole t u → Whole u v → Whole t v
    both_whole t u v f g n lt outer free = g n lt outer free ∙ f n lt outer free

    pub whole : (s t after : Store) (hist : History) → StoreFits core s → AgreeAt core around w s t → run core plainly turns (fsm start state test body next) plain s ≡ went hist after
        → (g : History) × (ended : Store) × (run (unrolled core) scope.in_lanes turns (node_in (memory_order core) w (fsm start state test body next)) lanes t ≡ went g ended) × AgreeAt core around w after ended × Whole t ended × Related hist g
    unfolding run node_in
    whole s t after hist fits alike ran =
        let right : are_operations_right core around start ≡ true = (and_parts (are_operations_right core around start) (last_gives start (mem core state).ty) start_right).0 in
        let r = bind_split (state_now core plainly turns plain state start) turns_here s after hist ran in
        let q = split_state state start s r.1 r.0 r.2 in
        let x : Followed core around w Whole none_whole both_whole (Same core around w Whole none_whole both_whole) (operations (unrolled core) lanes (ops_in w start)) t r.0 q.0 =
        list_follows core around w Whole none_whole both_whole inside h.together h.copies (room is owns around w h.copies) plain lanes agree (λ u v l n lt outer free. l n outer) is.memories lists start h.plain.0 right s t q.0 r.0 fits alike q.1 in
        let first : Store = hold x.ended (there.number state) (state_word r.0) in
        let fits_first : StoreFits core r.1 = subst (StoreFits core) q.2 (state_fits q.0 around start r.0 start_right (lists around plain start s q.0 r.0 is.memories right fits q.1).entries x.fits) in
        let y : Followed core place there Left none_left both_left Related (turns_there r.0) first hist after =
        turns_follow r.0 r.1 first after hist fits_first (subst (λ (u : Store). AgreeAt core place there u first) q.2 (enters q.0 x.ended (state_word r.0) x.agree)) r.3 in (
          y.answer,
          y.ended,
          bind_known (state_now (unrolled core) scope.in_lanes turns lanes (there.number state) (ops_in w start)) turns_there t first r.0
              (took (unrolled core) scope.in_lanes lanes (there.number state) (ops_in w start) t x.ended r.0 (x.ran ∙ ap (λ a. went a x.ended) x.related)) ∙ y.ran,
          exits after y.ended y.agree,
          (λ n lt outer free. left_out first y.ended y.left n lt outer free ∙ first_kept x.ended r.0 n free ∙ x.left n lt outer free),
          y.related,
        )
      where
        first_kept : (u : Store) (es : List Entry) (n : ℕ) → is_among n (there.number state ∷ owned_in (node_in (memory_order core) there body)) ≡ false → hold u (there.number state) (state_word es) n ≡ u n
        first_kept u es n free = ap (λ b. elim b as (λ _. Option Contents) [ true ↦ Some (state_word es) | false ↦ u n ]) (apart (n == there.number state) (is_among n (owned_in (node_in (memory_order core) there body))) free)
          where
            apart : (a b : Bool) → (a || b) ≡ false → a ≡ false
            apart true b e = absurd (true≢false e)
            apart false b e = refl

pub fsm_goes : (core : PlainCore) → ListsFit core → NodesFit core → PlacesHaveRoom core → FsmsGo core
fsm_goes core lists nodes room is owns turns around inside earlier w start state test body next h goes plain lanes agree s t after hist fits alike ran =
    whole core lists nodes room is owns turns around inside earlier w start state test body next h goes plain lanes agree s t after hist fits alike ran
