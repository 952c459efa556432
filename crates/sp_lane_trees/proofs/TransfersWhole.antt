-- A transfer in lanes: its slice or its count, and then its words.
use Rattle.std.proofs.Common.{◌≡◌, ℕ, Bool, true, false, ◌&&◌, ◌||◌, List, [], length, Option, Some, None, refl, sym, ◌∙◌, ap, ◌==◌, nat_le, nat_lt}
use Rattle.std.proofs.lemmas.Bool.{and_parts, true≢false}
use Rattle.std.specs.List.{list_all}
use Rattle.sp_words.specs.Types.{int_type}
use Rattle.sp_core.specs.declared.node.SparseKind.TheVariants.{Gather, Scatter, WideLoad, WideStore}
use Rattle.sp_core.specs.Around.{Around, is_usable}
use Rattle.sp_core.specs.Declarations.{mem, dram}
use Rattle.sp_core.specs.Elements.{index_value, natural, numbers_below}
use Rattle.sp_core.specs.History.{Entry, History, Taken, last_word, picked}
use Rattle.sp_core.specs.Invariant.{IsCore}
use Rattle.sp_core.specs.NodeRules.{is_sram, is_line, range_count, ends_in_range, is_span_right, is_slice_right, is_sram_here, fits_sram, fits_line, are_places, is_pick_right, is_none, is_wide_right, is_node_right, is_owned_once}
use Rattle.sp_core.specs.OperationRules.{is_bound}
use Rattle.sp_core.specs.Operations.{operations}
use Rattle.sp_core.specs.PlainCore.{PlainOp, PlainSpan, PlainNode, inner, outer, fsm, branch, load, store, sparse, PlainCore}
use Rattle.sp_core.specs.Scope.{plainly, Scope}
use Rattle.sp_core.specs.Scope as scope
use Rattle.sp_core.specs.Sequential.{taken, run}
use Rattle.sp_core.specs.Step.{Step, went, pure, ◌>>=◌, in_order}
use Rattle.sp_core.specs.Store.{Store}
use Rattle.sp_core.specs.Transfers.{load_slice, store_slice, gather_word, scatter_word}
use Rattle.sp_core.specs.Typed.{is_type}
use Rattle.sp_fitting.specs.Fitting.{StoreFits}
use Rattle.sp_fitting.specs.Laws.{ListsFit}
use Rattle.sp_lanes.specs.Order.{memory_order}
use Rattle.sp_lanes.specs.Unrolled.{unrolled, node_in}
use Rattle.sp_lanes.specs.Within.{Within, ops_in, spans_in}
use Rattle.sp_lane_rules.specs.Copies.{OwnsInLanes}
use Rattle.sp_lane_groups.specs.RoomLaws.{PlacesHaveRoom}
use Rattle.sp_lane_groups.specs.LiveStores.{HaveRoom, LeavesOthers, ScopesAgree, ArePlain}
use Rattle.sp_lane_groups.proofs.LiveAccesses.{Same, same_declared}
use Rattle.sp_lane_groups.proofs.Renewed.{bind_known, bind_split}
use Rattle.sp_lane_groups.specs.PlainNodes.{AreSpansPlain}
use Rattle.sp_lane_groups.specs.InnersAlike.{GoAlike, loaded, stored, sparsely}
use Rattle.sp_lane_groups.specs.InnersAlong.{AgreeAt, LeavesBut, GoesAlong, StandsIn}
use Rattle.sp_lane_trees.specs.TransfersLaws.{TransfersGo}
use Rattle.sp_lane_trees.proofs.TransfersMoving.{Alike, Others, Moves, pure_moves, bind_moves, order_moves}
use Rattle.sp_lane_trees.proofs.TransfersSpans.{bound_follows, spans_follow}
use Rattle.sp_lane_trees.proofs.TransfersWords.{load_slices, store_slices, gathers, scatters}

front : (a b : Bool) → (a && b) ≡ true → a ≡ true
front a b e = (and_parts a b e).0

either : (a b : Bool) {P : Type 0} → (a || b) ≡ true → (a ≡ true → P) → (b ≡ true → P) → P
either true b e f g = f refl
either false b e f g = g e

module _ (core : PlainCore) (lists : ListsFit core) (room : PlacesHaveRoom core) (is : IsCore core) (owns : OwnsInLanes core.root) (turns : ℕ) (around inside : Around) (earlier : List ℕ) (w : Within) (node : PlainNode) (h : StandsIn core around inside earlier w node) where
  abbrev rooms : HaveRoom core around w (unrolled core)
  rooms = room is owns around w h.copies

  abbrev Go : {A : Type 0} → Step A → Step A → Type 0
  Go one two = Moves core around inside w h.together h.copies one two

  alike_at : (m : ℕ) → is_usable core around m ≡ true → Alike core (unrolled core) m (w.number m)
  alike_at m u =
      let there = h.together.memories m u in
      let same : Same core (unrolled core) m (w.number m) = same_declared core (unrolled core) around inside m (w.number m) u there.0 there.1 (rooms m u) in
      record { kinds = same.kinds; sizes = same.sizes }

  -- what lanes leave
  abbrev Left : Store → Store → Type 0
  Left t ended = Others core around inside w h.together h.copies t ended

  none_left : (t : Store) → Left t t
  none_left t n lt o = refl

  both_left : (t u v : Store) → Left t u → Left u v → Left t v
  both_left t u v f g n lt o = g n lt o ∙ f n lt o

  from_others : (t ended : Store) → LeavesOthers core around w t ended → Left t ended
  from_others t ended f n lt o = f n o

  -- after the same answer, words that move
  abbrev Ran : (two : Step History) (t after : Store) (hist : History) → Type 0
  Ran two t after hist = (ended : Store) × (two t ≡ went hist ended) × AgreeAt core around w after ended × Left t ended

  module _ (plain lanes : Scope) (agree : ScopesAgree w plain lanes) (s t after : Store) (hist : History) (fits : StoreFits core s) (alike : AgreeAt core around w s t) where
    slice_goes : (spans : List PlainSpan) → AreSpansPlain spans → list_all (is_span_right core around) spans ≡ true → (one two : List Taken → Step History) → ((ts : List Taken) → Go (one ts) (two ts))
        → (in_order (taken core plainly turns plain) spans >>= one) s ≡ went hist after → Ran (in_order (taken (unrolled core) scope.in_lanes turns lanes) (spans_in w spans) >>= two) t after hist
    slice_goes spans p right one two moves ran =
        let first = bind_split (in_order (taken core plainly turns plain) spans) one s after hist ran in
        let x = spans_follow core around w Left none_left both_left inside h.together h.copies rooms plain lanes agree from_others is.memories lists turns spans p right s t first.1 first.0 fits alike first.2 in
        let y = moves first.0 first.1 x.ended after hist x.agree first.3 in (
          y.ended,
          bind_known (in_order (taken (unrolled core) scope.in_lanes turns lanes) (spans_in w spans)) two t x.ended first.0 (x.ran ∙ ap (λ b. went b x.ended) x.related) ∙ y.ran,
          y.agree,
          both_left t x.ended y.ended x.left y.others,
        )

    count_goes : (count : List PlainOp) → ArePlain count → is_bound core around count ≡ true → (one two : List Entry → Step History) → ((es : List Entry) → Go (one es) (two es))
        → (operations core plain count >>= one) s ≡ went hist after → Ran (operations (unrolled core) lanes (ops_in w count) >>= two) t after hist
    count_goes count p right one two moves ran =
        let first = bind_split (operations core plain count) one s after hist ran in
        let x = bound_follows core around w Left none_left both_left inside h.together h.copies rooms plain lanes agree from_others is.memories lists turns count p right s t first.1 first.0 fits alike first.2 in
        let y = moves first.0 first.1 x.ended after hist x.agree first.3 in (
          y.ended,
          bind_known (operations (unrolled core) lanes (ops_in w count)) two t x.ended first.0 (x.ran ∙ ap (λ b. went b x.ended) x.related) ∙ y.ran,
          y.agree,
          both_left t x.ended y.ended x.left y.others,
        )

  -- what the rules say of a slice, of its memory, and of places
  sram_usable : (r m : ℕ) → is_sram_here core around r m ≡ true → is_usable core around m ≡ true
  sram_usable r m e = front (is_usable core around m) (is_sram (mem core m).kind) (front (is_usable core around m && is_sram (mem core m).kind) (is_type (mem core m).ty (dram core r).ty) e)

  fits_usable : (r m : ℕ) (spans : List PlainSpan) → fits_sram core around r m spans ≡ true → is_usable core around m ≡ true
  fits_usable r m spans e = sram_usable r m (front (is_sram_here core around r m) (range_count spans == length (mem core m).dims) e)

  line_usable : (r m : ℕ) (spans : List PlainSpan) → fits_line core around r m spans ≡ true → is_usable core around m ≡ true
  line_usable r m spans e =
      front (is_usable core around m) (is_line (mem core m).kind) (front (is_usable core around m && is_line (mem core m).kind) (is_type (mem core m).ty (dram core r).ty)
      (front ((is_usable core around m && is_line (mem core m).kind) && is_type (mem core m).ty (dram core r).ty) ((range_count spans == 1) && ends_in_range spans) e))

  spans_right : (r : ℕ) (spans : List PlainSpan) → is_slice_right core around r spans ≡ true → list_all (is_span_right core around) spans ≡ true
  spans_right r spans e = (and_parts (nat_lt r (length core.ports.drams) && (length spans == length (dram core r).dims)) (list_all (is_span_right core around) spans) e).1

  places_usable : (p : ℕ) → are_places core around (Some p) ≡ true → is_usable core around p ≡ true
  places_usable p e = front (is_usable core around p) (is_sram (mem core p).kind) (front (is_usable core around p && is_sram (mem core p).kind) (is_type (mem core p).ty int_type && (length (mem core p).dims == 1)) e)

  -- a gather or a scatter
  pick_parts : (r m : ℕ) (index : Option ℕ) (spans : List PlainSpan) (count : List PlainOp) (par : ℕ) → is_pick_right core around r m index spans count par ≡ true
      → (is_usable core around m ≡ true) × (are_places core around index ≡ true) × (is_bound core around count ≡ true)
  pick_parts r m index spans count par e =
      let a = and_parts ((nat_lt r (length core.ports.drams) && (length (dram core r).dims == 1)) && (is_sram_here core around r m && (length (mem core m).dims == 1))) ((are_places core around index && is_bound core around count) && ((length spans == 0) && (par == 1))) e in
      let b = and_parts (nat_lt r (length core.ports.drams) && (length (dram core r).dims == 1)) (is_sram_here core around r m && (length (mem core m).dims == 1)) a.0 in
      let c = and_parts (are_places core around index) (is_bound core around count) (front (are_places core around index && is_bound core around count) ((length spans == 0) && (par == 1)) a.1) in
      (sram_usable r m (front (is_sram_here core around r m) (length (mem core m).dims == 1) b.1), c.0, c.1)

  wide_parts : (r m : ℕ) (index : Option ℕ) (spans : List PlainSpan) (count : List PlainOp) (par : ℕ) → is_wide_right core around r m index spans count par ≡ true → (is_usable core around m ≡ true) × (list_all (is_span_right core around) spans ≡ true)
  wide_parts r m index spans count par e =
      let a = and_parts (is_slice_right core around r spans) (fits_sram core around r m spans) (front (is_slice_right core around r spans && fits_sram core around r m spans) ((is_none core around index && (length count == 0)) && (nat_le 1 par && nat_le par 16)) e) in
      (fits_usable r m spans a.1, spans_right r spans a.0)

  -- words at places
  pick_moves : (r m p : ℕ) (one two : ℕ → Step (ℕ × ℕ)) → ((k : ℕ) → Go (one k) (two k)) → (es : List Entry)
      → Go (in_order one (numbers_below (natural (index_value (last_word es)))) >>= (λ ws. pure (picked es ws))) (in_order two (numbers_below (natural (index_value (last_word es)))) >>= (λ ws. pure (picked es ws)))
  pick_moves r m p one two f es =
      bind_moves core around inside w h.together h.copies (in_order one (numbers_below (natural (index_value (last_word es))))) (in_order two (numbers_below (natural (index_value (last_word es))))) (λ ws. pure (picked es ws)) (λ ws. pure (picked es ws))
      (order_moves core around inside w h.together h.copies one two f (numbers_below (natural (index_value (last_word es))))) (λ ws. pure_moves core around inside w h.together h.copies (picked es ws))

module _ (core : PlainCore) (lists : ListsFit core) (room : PlacesHaveRoom core) (is : IsCore core) (owns : OwnsInLanes core.root) (turns : ℕ) (around inside : Around) (earlier : List ℕ) (w : Within) where
  weaker : (node : PlainNode) (two : Step History) (t after : Store) (hist : History) (h : StandsIn core around inside earlier w node) → Ran core lists room is owns turns around inside earlier w node h two t after hist → GoAlike node hist hist
      → (g : History) × (ended : Store) × (two t ≡ went g ended) × AgreeAt core around w after ended × LeavesBut core around w node t ended × GoAlike node hist g
  weaker node two t after hist h x less = (hist, x.0, x.1, x.2, (λ n lt outer free. x.3 n lt outer), less)

  -- a load, whatever its kind
  loads : (node : PlainNode) (h : StandsIn core around inside earlier w node) (r m : ℕ) (spans : List PlainSpan) → AreSpansPlain spans → list_all (is_span_right core around) spans ≡ true → is_usable core around m ≡ true
      → (plain lanes : Scope) → ScopesAgree w plain lanes → (s t after : Store) (hist : History) → StoreFits core s → AgreeAt core around w s t
      → (in_order (taken core plainly turns plain) spans >>= (λ ts. load_slice core r m ts)) s ≡ went hist after
      → Ran core lists room is owns turns around inside earlier w node h (in_order (taken (unrolled core) scope.in_lanes turns lanes) (spans_in w spans) >>= (λ ts. load_slice (unrolled core) r (w.number m) ts)) t after hist
  loads node h r m spans p right u plain lanes agree s t after hist fits alike ran =
      slice_goes core lists room is owns turns around inside earlier w node h plain lanes agree s t after hist fits alike spans p right (λ ts. load_slice core r m ts) (λ ts. load_slice (unrolled core) r (w.number m) ts)
      (load_slices core around inside w h.together h.copies r m u (alike_at core lists room is owns turns around inside earlier w node h m u)) ran

  stores : (node : PlainNode) (h : StandsIn core around inside earlier w node) (r m : ℕ) (spans : List PlainSpan) → AreSpansPlain spans → list_all (is_span_right core around) spans ≡ true → is_usable core around m ≡ true
      → (plain lanes : Scope) → ScopesAgree w plain lanes → (s t after : Store) (hist : History) → StoreFits core s → AgreeAt core around w s t
      → (in_order (taken core plainly turns plain) spans >>= (λ ts. store_slice core r m ts)) s ≡ went hist after
      → Ran core lists room is owns turns around inside earlier w node h (in_order (taken (unrolled core) scope.in_lanes turns lanes) (spans_in w spans) >>= (λ ts. store_slice (unrolled core) r (w.number m) ts)) t after hist
  stores node h r m spans p right u plain lanes agree s t after hist fits alike ran =
      slice_goes core lists room is owns turns around inside earlier w node h plain lanes agree s t after hist fits alike spans p right (λ ts. store_slice core r m ts) (λ ts. store_slice (unrolled core) r (w.number m) ts)
      (store_slices core around inside w h.together h.copies r m u (alike_at core lists room is owns turns around inside earlier w node h m u)) ran

  load_goes : (r m : ℕ) (spans : List PlainSpan) → StandsIn core around inside earlier w (load r m spans) → GoesAlong core turns around w (load r m spans)
  unfolding run node_in
  load_goes r m spans h plain lanes agree s t after hist fits alike ran =
      let a = and_parts (is_slice_right core around r spans) (fits_sram core around r m spans || fits_line core around r m spans) (front (is_node_right core around (load r m spans)) (is_owned_once core earlier []) h.right) in
      let u : is_usable core around m ≡ true = either (fits_sram core around r m spans) (fits_line core around r m spans) a.1
      (fits_usable core lists room is owns turns around inside earlier w (load r m spans) h r m spans) (line_usable core lists room is owns turns around inside earlier w (load r m spans) h r m spans) in
      weaker (load r m spans) (run (unrolled core) scope.in_lanes turns (node_in (memory_order core) w (load r m spans)) lanes) t after hist h
      (loads (load r m spans) h r m spans h.plain (spans_right core lists room is owns turns around inside earlier w (load r m spans) h r spans a.0) u plain lanes agree s t after hist fits alike ran) loaded

  store_goes : (r m : ℕ) (spans : List PlainSpan) → StandsIn core around inside earlier w (store r m spans) → GoesAlong core turns around w (store r m spans)
  unfolding run node_in
  store_goes r m spans h plain lanes agree s t after hist fits alike ran =
      let a = and_parts (is_slice_right core around r spans) (fits_sram core around r m spans) (front (is_node_right core around (store r m spans)) (is_owned_once core earlier []) h.right) in
      weaker (store r m spans) (run (unrolled core) scope.in_lanes turns (node_in (memory_order core) w (store r m spans)) lanes) t after hist h
      (stores (store r m spans) h r m spans h.plain (spans_right core lists room is owns turns around inside earlier w (store r m spans) h r spans a.0)
      (fits_usable core lists room is owns turns around inside earlier w (store r m spans) h r m spans a.1) plain lanes agree s t after hist fits alike ran) stored

  wide_load_goes : (r m : ℕ) (index : Option ℕ) (spans : List PlainSpan) (count : List PlainOp) (par : ℕ) → StandsIn core around inside earlier w (sparse WideLoad r m index spans count par) → GoesAlong core turns around w (sparse WideLoad r m index spans count par)
  unfolding run node_in
  wide_load_goes r m index spans count par h plain lanes agree s t after hist fits alike ran =
      let node : PlainNode = sparse WideLoad r m index spans count par in
      let a = wide_parts core lists room is owns turns around inside earlier w node h r m index spans count par (front (is_node_right core around node) (is_owned_once core earlier []) h.right) in
      weaker node (run (unrolled core) scope.in_lanes turns (node_in (memory_order core) w node) lanes) t after hist h (loads node h r m spans h.plain.0 a.1 a.0 plain lanes agree s t after hist fits alike ran) sparsely

  wide_store_goes : (r m : ℕ) (index : Option ℕ) (spans : List PlainSpan) (count : List PlainOp) (par : ℕ) → StandsIn core around inside earlier w (sparse WideStore r m index spans count par) → GoesAlong core turns around w (sparse WideStore r m index spans count par)
  unfolding run node_in
  wide_store_goes r m index spans count par h plain lanes agree s t after hist fits alike ran =
      let node : PlainNode = sparse WideStore r m index spans count par in
      let a = wide_parts core lists room is owns turns around inside earlier w node h r m index spans count par (front (is_node_right core around node) (is_owned_once core earlier []) h.right) in
      weaker node (run (unrolled core) scope.in_lanes turns (node_in (memory_order core) w node) lanes) t after hist h (stores node h r m spans h.plain.0 a.1 a.0 plain lanes agree s t after hist fits alike ran) sparsely

  gather_goes : (r m : ℕ) (index : Option ℕ) (spans : List PlainSpan) (count : List PlainOp) (par : ℕ) → StandsIn core around inside earlier w (sparse Gather r m index spans count par) → GoesAlong core turns around w (sparse Gather r m index spans count par)
  unfolding run node_in
  gather_goes r m None spans count par h plain lanes agree s t after hist fits alike ran =
      let node : PlainNode = sparse Gather r m None spans count par in
      let a = pick_parts core lists room is owns turns around inside earlier w node h r m None spans count par (front (is_node_right core around node) (is_owned_once core earlier []) h.right) in
      absurd (true≢false (sym a.1))
  gather_goes r m (Some p) spans count par h plain lanes agree s t after hist fits alike ran =
      let node : PlainNode = sparse Gather r m (Some p) spans count par in
      let a = pick_parts core lists room is owns turns around inside earlier w node h r m (Some p) spans count par (front (is_node_right core around node) (is_owned_once core earlier []) h.right) in
      let v : is_usable core around p ≡ true = places_usable core lists room is owns turns around inside earlier w node h p a.1 in
      weaker node (run (unrolled core) scope.in_lanes turns (node_in (memory_order core) w node) lanes) t after hist h
      (count_goes core lists room is owns turns around inside earlier w node h plain lanes agree s t after hist fits alike count h.plain.1 a.2
      (λ es. in_order (gather_word core r m p) (numbers_below (natural (index_value (last_word es)))) >>= (λ ws. pure (picked es ws)))
      (λ es. in_order (gather_word (unrolled core) r (w.number m) (w.number p)) (numbers_below (natural (index_value (last_word es)))) >>= (λ ws. pure (picked es ws)))
      (pick_moves core lists room is owns turns around inside earlier w node h r m p (gather_word core r m p) (gather_word (unrolled core) r (w.number m) (w.number p))
      (gathers core around inside w h.together h.copies r m p a.0 v (alike_at core lists room is owns turns around inside earlier w node h m a.0) (alike_at core lists room is owns turns around inside earlier w node h p v))) ran) sparsely

  scatter_goes : (r m : ℕ) (index : Option ℕ) (spans : List PlainSpan) (count : List PlainOp) (par : ℕ) → StandsIn core around inside earlier w (sparse Scatter r m index spans count par) → GoesAlong core turns around w (sparse Scatter r m index spans count par)
  unfolding run node_in
  scatter_goes r m None spans count par h plain lanes agree s t after hist fits alike ran =
      let node : PlainNode = sparse Scatter r m None spans count par in
      let a = pick_parts core lists room is owns turns around inside earlier w node h r m None spans count par (front (is_node_right core around node) (is_owned_once core earlier []) h.right) in
      absurd (true≢false (sym a.1))
  scatter_goes r m (Some p) spans count par h plain lanes agree s t after hist fits alike ran =
      let node : PlainNode = sparse Scatter r m (Some p) spans count par in
      let a = pick_parts core lists room is owns turns around inside earlier w node h r m (Some p) spans count par (front (is_node_right core around node) (is_owned_once core earlier []) h.right) in
      let v : is_usable core around p ≡ true = places_usable core lists room is owns turns around inside earlier w node h p a.1 in
      weaker node (run (unrolled core) scope.in_lanes turns (node_in (memory_order core) w node) lanes) t after hist h
      (count_goes core lists room is owns turns around inside earlier w node h plain lanes agree s t after hist fits alike count h.plain.1 a.2
      (λ es. in_order (scatter_word core r m p) (numbers_below (natural (index_value (last_word es)))) >>= (λ ws. pure (picked es ws)))
      (λ es. in_order (scatter_word (unrolled core) r (w.number m) (w.number p)) (numbers_below (natural (index_value (last_word es)))) >>= (λ ws. pure (picked es ws)))
      (pick_moves core lists room is owns turns around inside earlier w node h r m p (scatter_word core r m p) (scatter_word (unrolled core) r (w.number m) (w.number p))
      (scatters core around inside w h.together h.copies r m p a.0 v (alike_at core lists room is owns turns around inside earlier w node h m a.0) (alike_at core lists room is owns turns around inside earlier w node h p v))) ran) sparsely

pub transfers_go : (core : PlainCore) → ListsFit core → PlacesHaveRoom core → TransfersGo core
transfers_go core lists room is owns turns around inside earlier w (load r m spans) t h = load_goes core lists room is owns turns around inside earlier w r m spans h
transfers_go core lists room is owns turns around inside earlier w (store r m spans) t h = store_goes core lists room is owns turns around inside earlier w r m spans h
transfers_go core lists room is owns turns around inside earlier w (sparse Gather r m index spans count par) t h = gather_goes core lists room is owns turns around inside earlier w r m index spans count par h
transfers_go core lists room is owns turns around inside earlier w (sparse Scatter r m index spans count par) t h = scatter_goes core lists room is owns turns around inside earlier w r m index spans count par h
transfers_go core lists room is owns turns around inside earlier w (sparse WideLoad r m index spans count par) t h = wide_load_goes core lists room is owns turns around inside earlier w r m index spans count par h
transfers_go core lists room is owns turns around inside earlier w (sparse WideStore r m index spans count par) t h = wide_store_goes core lists room is owns turns around inside earlier w r m index spans count par h
transfers_go core lists room is owns turns around inside earlier w (inner counters owned ops comb) t h = absurd t
transfers_go core lists room is owns turns around inside earlier w (outer counters style owned stages) t h = absurd t
transfers_go core lists room is owns turns around inside earlier w (fsm start state test body next) t h = absurd t
transfers_go core lists room is owns turns around inside earlier w (branch test first second) t h = absurd t
