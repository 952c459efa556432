-- The nets of the counters around a part, and the nets of words of counters and lanes that its operations are given.
use Rattle.std.specs.Prelude.{◌≡◌, ℕ, ◌-◌, ◌*◌, ◌%◌, ◌<◌, ◌≤◌, ◌^◌, true, List, [], ◌∷◌, map, slice_index}
use Rattle.sp_words.specs.Types.{int_type}
use Rattle.sp_words.specs.Words.{word_add, wrap}
use Rattle.sp_netlist.specs.Signals.{Signals}
use Rattle.sp_gates.specs.Tested.{is_on}
use Rattle.sp_core.specs.declared.operation.OpKind.{OpKind}
use Rattle.sp_core.specs.declared.operation.OpKind.TheVariants.{Count, Live}
use Rattle.sp_core.specs.Around.{Near, has_lane}
use Rattle.sp_core.specs.PlainCore.{PlainOp, PlainCounter}
use Rattle.sp_core.specs.Scope.{InGroup, Scope, is_some_up_to}
use Rattle.sp_core.specs.Store.{changed}
use Rattle.sp_counters.specs.declared.part.Counter.{Counter}
use Rattle.sp_pipe.specs.declared.part.PipeOp.{PipeOp}
use Rattle.sp_pipe.specs.Right.{IsAt}
use Rattle.sp_part_runs.specs.ActsCircuits.{is_given, net_of}
use Rattle.sp_part_runs.specs.ActsEntries.{IsOpAt}

-- of a counter: the net of its value, how much more it is from one lane to the next, and for each lane a net that tells whether
-- it has an iteration
pub record CounterNets : Type 0 where
  pub value : ℕ
  pub step : ℕ
  pub masks : List ℕ

-- by the number of the counter
abbrev pub Nets : Type 0
Nets = ℕ → CounterNets

-- inside of a controller, by the nets of its counters' values and masks; only the last counter has lanes
abbrev pub net_step : PlainCounter → (others : List PlainCounter) → ℕ
net_step c [] = c.by
net_step c _ = 0

abbrev pub with_nets : Nets → List PlainCounter → (values masks : List ℕ) → Nets
with_nets env (c ∷ counters) (v ∷ values) masks = with_nets (changed env c.number (record { value = v; step = net_step c counters; masks = masks })) counters values masks
with_nets env _ _ masks = env

-- the nets of counters' values
abbrev pub values_of : List Counter → List ℕ
values_of counters = map (λ (n : Counter). n.value) counters

module _ (s : Signals) where
  -- in a cycle the nets of a counter have what it is in a group, for a lane
  pub record IsLaneOf (t : ℕ) (nets : CounterNets) (c : InGroup) (lane : ℕ) : Type 0 where
    pub value : s.net t nets.value ≡ wrap int_type c.value
    pub step : nets.step ≡ c.lane_step
    pub live : is_on s (slice_index nets.masks lane) t ≡ c.live lane

  -- so it is of each counter around
  abbrev pub AreStanding : (t : ℕ) → List Near → Nets → Scope → Type 0
  AreStanding t near env scope = (c lane : ℕ) → has_lane near c lane ≡ true → IsLaneOf t (env c) (scope c) lane

  -- in each cycle a net follows those of a counter: the counter's word in a lane, or whether some of its lanes have an iteration
  pub data IsGivenBy (near : List Near) (env : Nets) : OpKind → (net : ℕ) → Type 0 where
    counted : (c lane net : ℕ) → has_lane near c lane ≡ true → ((t : ℕ) → s.net t net ≡ word_add int_type (s.net t (env c).value) ((lane * (env c).step) % 2 ^ 32)) → IsGivenBy near env (Count c lane) net
    lived : (c first last net : ℕ) → first ≤ last → has_lane near c last ≡ true → ((t : ℕ) → s.net t net < 2) → ((t : ℕ) → is_on s net t ≡ is_some_up_to (λ l. is_on s (slice_index (env c).masks l) t) first (last - first)) → IsGivenBy near env (Live c first last) net

  -- of the operations of a list those that are given a word
  abbrev pub AreGivenBy : List Near → Nets → List PlainOp → List PipeOp → Type 0
  AreGivenBy near env ops ps = (k : ℕ) (op : PlainOp) (p : PipeOp) → IsOpAt ops k op → IsAt ps k p → is_given p.act ≡ true → IsGivenBy near env op.kind (net_of p.act)
