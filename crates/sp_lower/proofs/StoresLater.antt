-- What was driven and reserved one after the other, and reads and units in later drafts.
use Rattle.std.proofs.Common.{◌≡◌, ℕ, suc, ◌<◌, ◌≤◌, inl, inr, List, [], ◌∷◌, ◌++◌, length, Contains, All, refl, sym, ap, subst, ◌∙◌, arith, append_assoc}
use Rattle.std.proofs.lemmas.List.{append-nil}
use Rattle.std.proofs.lemmas.List.Elements.{All-nil, All-cons, All-head, All-tail, All-weaker, Contains-append_left, Contains-append_right, Contains-append_cases}
use Rattle.sp_netlist.specs.Draft.{Draft}
use Rattle.sp_gates.specs.Grows.{Grows}
use Rattle.sp_gates.specs.Nets.{HasNet, IsOpen}
use Rattle.sp_gates.proofs.Growing.{Grows-same, Grows-join, no_gates, more_gates, HasNet-stays, Awaits-stays}
use Rattle.sp_core.specs.PlainCore.{PlainCore}
use Rattle.sp_part_runs.specs.ActsEntries.{index_words}
use Rattle.sp_op_nets.specs.Reserved.{Rise}
use Rattle.sp_op_nets.proofs.Giving.{above}
use Rattle.sp_op_nets.proofs.Reserving.{longer}
use Rattle.sp_access_nets.specs.declared.access.AccessNets.{AccessNets}
use Rattle.sp_access_nets.specs.Laws.{net_in, answer_nets}
use Rattle.sp_tree_handed.specs.declared.moves.Direction.{Direction}
use Rattle.sp_tree_handed.specs.declared.moves.Direction.TheVariants.{Load as Inward, Store as Outward}
use Rattle.sp_lower.specs.LoadsParts.{wires_of}
use Rattle.sp_lower.proofs.LoadsAdding.{apart}
use Rattle.sp_lower.proofs.LoadsWriting.{copy_later}
use Rattle.sp_load_units.specs.declared.unit.TransferUnit.{TransferUnit}
use Rattle.sp_load_units.specs.Units.{unit_wires, unit_wires_in}
use Rattle.sp_load_units.proofs.Standing.{none_in, unit_is_open, unit_stays}
use Rattle.sp_lower.specs.StoresParts.{DrivesAndReserves, ReadStands, StoreUnitStands, store_wires_in}

lower : (from to : ℕ) (ns : List ℕ) → from ≤ to → Rise to ns → Rise from ns
lower from to [] le r = tt
lower from to (n ∷ ns) le r = ((let l = r.0 in omega (arith, le, l)), r.1)

rise_join : (from to : ℕ) (ns ms : List ℕ) → from ≤ to → Rise from ns → ((n : ℕ) → Contains ns n → n < to) → Rise to ms → Rise from (ns ++ ms)
rise_join from to [] ms le r below later = lower from to ms le later
rise_join from to (n ∷ ns) ms le r below later =
    (r.0, rise_join (suc n) to ns ms (let l = below n (0, omega arith, refl) in omega (arith, l)) r.1 (λ m k. below m (Contains-append_right (n ∷ []) ns m k)) later)

pub drives_none : (d : Draft) → DrivesAndReserves d d [] []
drives_none d = record {
  grows = Grows-same d;
  rise = tt;
  are_open = λ n k. absurd (none_in n k);
  still_open = λ n o out. o;
  no_other = λ n o out. (o, λ k. none_in n k);
  gates = no_gates d;
}

-- what is driven later was open at first, so it is none of what was reserved
pub drives_join : (a b c : Draft) (d r e q : List ℕ) → DrivesAndReserves a b d r → DrivesAndReserves b c e q → ((net : ℕ) → Contains e net → IsOpen a net) → DrivesAndReserves a c (d ++ e) (r ++ q)
drives_join a b c d r e q f g open_first = record {
  grows = Grows-join a b c f.grows g.grows;
  rise = rise_join (length a.promised) (length b.promised) r q (longer a b f.grows) f.rise (λ n k. (f.are_open n k).within) g.rise;
  are_open = λ n k. elim (Contains-append_cases r q n k) [
    | inl own ↦ g.still_open n (f.are_open n own) (λ k. let low = (open_first n k).within in let high = above (length a.promised) r n f.rise own in absurd (omega (arith, low, high)))
    | inr new ↦ g.are_open n new
  ];
  still_open = λ n o out. g.still_open n (f.still_open n o (λ k. out (Contains-append_left d e n k))) (λ k. out (Contains-append_right d e n k));
  no_other = λ n o out.
      let late = g.no_other n o (λ k. out (Contains-append_right r q n k)) in
      let early = f.no_other n late.0 (λ k. out (Contains-append_left r q n k)) in (
        early.0,
        λ k. elim (Contains-append_cases d e n k) [
          | inl own ↦ early.1 own
          | inr new ↦ late.1 new
        ],
      );
  gates = more_gates a b c f.gates g.gates;
}

-- a read whose answer is still open stands in a later draft
read_later : (a b : Draft) (core : PlainCore) (x : AccessNets) → Grows a b → ((net : ℕ) → Contains (net_in x.answer) net → IsOpen b net) → ReadStands a core x → ReadStands b core x
read_later a b core x g still h = record {
  stands = record {
    enable = HasNet-stays a b _ 1 g h.stands.enable;
    some = h.stands.some;
    word = λ e. HasNet-stays a b _ _ g (h.stands.word e);
    answer = λ w e. HasNet-stays a b _ _ g (h.stands.answer w e);
    later = h.stands.later;
    index = λ banks. All-weaker (λ net. HasNet a net 32) (λ net. HasNet b net 32) (λ net s. HasNet-stays a b net 32 g s) (index_words x.kind x.operands.items) (h.stands.index banks);
    each_index = h.stands.each_index;
  };
  copied = copy_later a b x.copy g h.copied;
  queued = record {
    some = h.queued.some;
    word = λ e. HasNet-stays a b _ _ g (h.queued.word e);
    answered = h.queued.answered;
    later = h.queued.later;
    unread = h.queued.unread;
  };
  within = h.within;
  word = h.word;
  answer = h.answer;
  reads = h.reads;
  awaits = Awaits-stays a b _ _ g (still h.word.net (subst (λ answer. Contains (net_in answer) h.word.net) (sym h.answer) (0, omega arith, refl))) h.awaits;
}

pub reads_later : (a b : Draft) (core : PlainCore) (accesses : List AccessNets) → Grows a b → ((net : ℕ) → Contains (answer_nets accesses) net → IsOpen b net) → All (ReadStands a core) accesses → All (ReadStands b core) accesses
reads_later a b core [] g still h = All-nil (ReadStands b core)
reads_later a b core (x ∷ accesses) g still h =
    All-cons (ReadStands b core) x accesses (read_later a b core x g (λ net c. still net (Contains-append_left (net_in x.answer) (answer_nets accesses) net c)) (All-head (ReadStands a core) x accesses h))
    (reads_later a b core accesses g (λ net c. still net (Contains-append_right (net_in x.answer) (answer_nets accesses) net c)) (All-tail (ReadStands a core) x accesses h))

-- the nets of two lists of accesses
pub both_answers : (xs ys : List AccessNets) → answer_nets (xs ++ ys) ≡ answer_nets xs ++ answer_nets ys
both_answers [] ys = refl
both_answers (x ∷ xs) ys = ap (λ ns. net_in x.answer ++ ns) (both_answers xs ys) ∙ sym (append_assoc (net_in x.answer) (answer_nets xs) (answer_nets ys))

-- the wires of stores are open
pub stores_open : (d : Draft) (core : PlainCore) (units : List TransferUnit) → All (StoreUnitStands d core) units → (net : ℕ) → Contains (store_wires_in units) net → IsOpen d net
stores_open d core [] h net c = absurd (none_in net c)
stores_open d core (u ∷ units) h net c = elim (Contains-append_cases (wires_of Outward u.transfer.direction (unit_wires u)) (store_wires_in units) net c) [
  | inl own ↦ by_way u.transfer.direction refl own
  | inr rest ↦ stores_open d core units (All-tail (StoreUnitStands d core) u units h) net rest
]
  where
    by_way : (way : Direction) → u.transfer.direction ≡ way → Contains (wires_of Outward way (unit_wires u)) net → IsOpen d net
    by_way Inward e own = absurd (none_in net own)
    by_way Outward e own = unit_is_open d core u.transfer u (All-head (StoreUnitStands d core) u units h e) net own

-- a unit alone has no other wires
own_wires : (way : Direction) (wires : List ℕ) (net : ℕ) → Contains (wires_of Outward way wires ++ []) net → Contains wires net
own_wires Inward wires net c = absurd (none_in net c)
own_wires Outward wires net c = subst (λ ns. Contains ns net) (append-nil wires) c

-- units behind one that was emitted still stand
pub stores_later : (a b : Draft) (core : PlainCore) (unit : TransferUnit) (units : List TransferUnit) (reserved : List ℕ) → DrivesAndReserves a b (store_wires_in (unit ∷ [])) reserved → Rise 0 (unit_wires_in (unit ∷ units)) → All (StoreUnitStands a core) units
    → All (StoreUnitStands b core) units
stores_later a b core unit units reserved f rise h = each units (λ net c own. apart unit units rise net c own) h
  where
    each : (us : List TransferUnit) → ((net : ℕ) → Contains (unit_wires_in us) net → Contains (unit_wires unit) net → ⊥) → All (StoreUnitStands a core) us → All (StoreUnitStands b core) us
    each [] out g = All-nil (StoreUnitStands b core)
    each (u ∷ us) out g =
        let here = All-head (StoreUnitStands a core) u us g in
        All-cons (StoreUnitStands b core) u us
        (λ stores. unit_stays a b core f.grows u.transfer u
        (λ net c. f.still_open net (unit_is_open a core u.transfer u (here stores) net c) (λ own. out net (Contains-append_left (unit_wires u) (unit_wires_in us) net c) (own_wires unit.transfer.direction (unit_wires unit) net own)))
        (here stores))
        (each us (λ net c. out net (Contains-append_right (unit_wires u) (unit_wires_in us) net c)) (All-tail (StoreUnitStands a core) u us g))
