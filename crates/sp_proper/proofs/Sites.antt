-- What holds of the stream blocks of a tree holds of each by its number.
use Rattle.std.proofs.Common.{◌≡◌, ℕ, zero, suc, ◌+◌, ◌-◌, nat_lt, Bool, true, false, Option, sym, true≢false, length, if◌then◌else◌}
use Rattle.sp_core.specs.Declarations.{is_stream}
use Rattle.sp_core.specs.Numbering.{node_count, counters_size, number_count}
use Rattle.sp_core.specs.PlainCore.{PlainNode, PlainStages, inner, outer, fsm, branch, load, store, sparse, no_stage, more_stage, PlainCore}
use Rattle.sp_plan.specs.Nodes.{Site, site_at, stage_site_at}
use Rattle.sp_stream.specs.Proper.{is_proper_node, is_proper_at}
use Rattle.sp_proper.specs.Laws.{is_stream_block, is_stream_site, AreStreamsProper}

module _ (core : PlainCore) where
  -- each stream block of a part is proper
  abbrev mutual
    pub StreamsIn : PlainNode → Type 0
    StreamsIn (outer counters style owned stages) = (is_stream style ≡ true → is_proper_node core (outer counters style owned stages) ≡ true) × StreamsInStages stages
    StreamsIn (fsm start state test body next) = StreamsIn body
    StreamsIn (branch test first second) = StreamsIn first × StreamsIn second
    StreamsIn node = Unit {0}

    pub StreamsInStages : PlainStages → Type 0
    StreamsInStages no_stage = Unit {0}
    StreamsInStages (more_stage first last comb node rest) = StreamsIn node × StreamsInStages rest

  abbrev IsGood : Option Site → Type 0
  IsGood site = is_stream_site site ≡ true → is_proper_at core site ≡ true

  either_good : (b : Bool) (x y : Option Site) → IsGood x → IsGood y → IsGood (if b then x else y)
  either_good true x y h k = h
  either_good false x y h k = k

  here : (node : PlainNode) → StreamsIn node → is_stream_block node ≡ true → is_proper_node core node ≡ true
  here (outer counters style owned stages) h e = h.0 e
  here (inner counters owned ops comb) h e = absurd (true≢false (sym e))
  here (fsm start state test body next) h e = absurd (true≢false (sym e))
  here (branch test first second) h e = absurd (true≢false (sym e))
  here (load r m spans) h e = absurd (true≢false (sym e))
  here (store r m spans) h e = absurd (true≢false (sym e))
  here (sparse kind r m index spans count par) h e = absurd (true≢false (sym e))

  mutual
    site_good : (node : PlainNode) → StreamsIn node → (wanted n : ℕ) (streamed : Bool) → IsGood (site_at wanted n streamed node)
    site_good (inner counters owned ops comb) h zero n streamed e = here (inner counters owned ops comb) h e
    site_good (outer counters style owned stages) h zero n streamed e = here (outer counters style owned stages) h e
    site_good (fsm start state test body next) h zero n streamed e = here (fsm start state test body next) h e
    site_good (branch test first second) h zero n streamed e = here (branch test first second) h e
    site_good (load r m spans) h zero n streamed e = here (load r m spans) h e
    site_good (store r m spans) h zero n streamed e = here (store r m spans) h e
    site_good (sparse kind r m index spans count par) h zero n streamed e = here (sparse kind r m index spans count par) h e
    site_good (outer counters style owned stages) h (suc k) n streamed e = stage_good stages h.1 k (n + counters_size counters) (is_stream style) e
    site_good (fsm start state test body next) h (suc k) n streamed e = site_good body h k (n + (length start + length test)) false e
    site_good (branch test first second) h (suc k) n streamed e =
        either_good (nat_lt k (node_count first)) (site_at k (n + length test) false first) (site_at (k - node_count first) ((n + length test) + number_count first) false second)
        (site_good first h.0 k (n + length test) false) (site_good second h.1 (k - node_count first) ((n + length test) + number_count first) false) e
    site_good (inner counters owned ops comb) h (suc k) n streamed e = absurd (true≢false (sym e))
    site_good (load r m spans) h (suc k) n streamed e = absurd (true≢false (sym e))
    site_good (store r m spans) h (suc k) n streamed e = absurd (true≢false (sym e))
    site_good (sparse kind r m index spans count par) h (suc k) n streamed e = absurd (true≢false (sym e))

    stage_good : (stages : PlainStages) → StreamsInStages stages → (wanted n : ℕ) (streamed : Bool) → IsGood (stage_site_at wanted n streamed stages)
    stage_good no_stage h k n streamed e = absurd (true≢false (sym e))
    stage_good (more_stage first last comb node rest) h k n streamed e =
        either_good (nat_lt k (node_count node)) (site_at k n streamed node) (stage_site_at (k - node_count node) (n + number_count node) streamed rest)
        (site_good node h.0 k n streamed) (stage_good rest h.1 (k - node_count node) (n + number_count node) streamed) e

  pub sites_good : StreamsIn core.root → AreStreamsProper core
  sites_good h k e = site_good core.root h k 0 false e
